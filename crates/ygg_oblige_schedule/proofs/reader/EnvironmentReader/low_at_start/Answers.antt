use Rattle.ygg_oblige_schedule.specs.Here.{below_of, low_env}
use Rattle.ygg_oblige_schedule.proofs.StartsOnce.{starts_are}
use Rattle.ygg_eval_places.proofs.ChoiceNoting.{if_ok}
use Rattle.ygg_oblige_schedule.proofs.reader.EnvironmentReader.low_at_start.Goals as goal

pub returns : goal.returns
returns c =
    let r = c.args.self.now in
    record {
      is = if_ok c.low_at_start.result c.low_at_start.ensures.starts (λ low h. starts_are (below_of r) (low_env r low) h);
      fits = c.low_at_start.ensures.fits;
    }
