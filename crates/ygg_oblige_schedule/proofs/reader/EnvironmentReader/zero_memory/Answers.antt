use Rattle.std.proofs.Common.{◌∙◌, ap}
use Rattle.ygg_replay.specs.ygg_meaning.Environments.{bind}
use Rattle.ygg_replay.specs.ygg_meaning.Shapes.{values_fit}
use Rattle.ygg_replay.specs.Zeros.{zero_values}
use Rattle.ygg_oblige_schedule.proofs.Zeros.{bind_zeros, zeros_fit}
use Rattle.ygg_eval_places.proofs.ChoiceNoting.{if_ok}
use Rattle.ygg_oblige_schedule.proofs.reader.EnvironmentReader.zero_memory.Goals as goal

pub returns : goal.returns
returns c =
    let ds = c.args.self.now.site.layer.now.memory in record {
      is = if_ok c.zeros.result c.zeros.ensures (λ xs h. ap (bind ds) (h ∙ ap zero_values c.as_slice.ensures) ∙ bind_zeros ds);
      fits = if_ok c.zeros.result c.zeros.ensures (λ xs h. ap (values_fit ds) (h ∙ ap zero_values c.as_slice.ensures) ∙ zeros_fit ds);
    }
