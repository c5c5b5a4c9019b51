use Rattle.std.proofs.Common.{◌∙◌, ap}
use Rattle.ygg_replay.specs.ygg_meaning.Shapes.{values_fit}
use Rattle.ygg_oblige_schedule.specs.ygg_eval.Layers.{variables_at}
use Rattle.ygg_oblige_schedule.specs.Here.{file_of, low_env, numbers_of}
use Rattle.ygg_oblige_schedule.proofs.Means.{wake_is}
use Rattle.ygg_eval_places.proofs.ChoiceNoting.{if_ok}
use Rattle.ygg_oblige_schedule.proofs.reader.EnvironmentReader.other_picks.Goals as goal

pub wake-requires-clause-low : goal.wake-requires-clause-low
wake-requires-clause-low c =
    let r = c.args.self.now in ap (values_fit (variables_at (file_of r) r.site.place)) c.in_ok-first.ensures ∙ c.requires.low

pub returns : goal.returns
returns c =
    let r = c.args.self.now in
    if_ok c.wake.result c.wake.ensures (λ picks h.
    wake_is r (numbers_of r).other c.in_ok-first.first (low_env r c.args.low.now) picks (ap (low_env r) c.in_ok-first.ensures) h)
