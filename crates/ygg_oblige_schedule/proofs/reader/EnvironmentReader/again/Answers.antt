use Rattle.std.proofs.Common.{◌∙◌, [], length, refl, sym, ap, subst}
use Rattle.ygg_replay.specs.ygg_meaning.Obligations.{Again}
use Rattle.ygg_replay.specs.ygg_meaning.Environments.{Env}
use Rattle.ygg_replay.specs.ygg_meaning.Shapes.{zeros_of}
use Rattle.ygg_oblige_schedule.specs.ygg_eval.Layers.{variables_at}
use Rattle.ygg_oblige_given.specs.ygg_oblige_laws.Schedules.{schedule_from}
use Rattle.ygg_oblige_schedule.specs.Here.{below_of, file_of, inputs_of, layer_of, numbers_of}
use Rattle.ygg_oblige_schedule.specs.Schedules.{IsRead, PartsAre, given_here}
use Rattle.ygg_oblige_schedule.proofs.Means.{HasStand, none_bound, read_from, read_so, wake_is}
use Rattle.ygg_oblige_schedule.proofs.Values.{bound_count}
use Rattle.ygg_oblige_schedule.proofs.reader.EnvironmentReader.again.Goals as goal

pub recovery_parts-requires-clause-low : goal.recovery_parts-requires-clause-low
recovery_parts-requires-clause-low c = c.in_ok-low.ensures.fits

pub other_picks-requires-clause-low : goal.other_picks-requires-clause-low
other_picks-requires-clause-low c = c.in_ok-low.ensures.fits

pub returns : goal.returns
returns c =
    let r = c.args.self.now in
    let l = r.site.layer.now in
    let s = given_here r in
    let low = c.in_ok-low.low in
    let low_is = c.in_ok-low.ensures.is in
    let want = schedule_from (below_of r) (layer_of r) (inputs_of r) (numbers_of r) Again s [] in
    let parts = subst (λ (z : Env). PartsAre r l.recover (zeros_of l.memory) [] z c.in_ok-parts.parts) low_is c.in_ok-parts.ensures in
    let has : HasStand r c.none.result c.none-2.result low want = record {
      state_is = none_bound l.state _ c.none.ensures;
      memory_is = none_bound l.memory _ c.none-2.ensures;
      low_is = low_is;
      many_state = ap length c.none.ensures;
      many_memory = ap length c.none-2.ensures;
      many_low = sym (bound_count (variables_at (file_of r) r.site.place) low c.in_ok-low.ensures.fits) ∙ ap length low_is;
    } in
    let other = wake_is r (numbers_of r).other low s.low _ low_is c.in_ok-other.ensures in
    read_from r (record { state = c.none.result; memory = c.none-2.result; low = low }) c.none-3.result c.in_ok-parts.parts c.in_ok-other.other
    c.scheduled.result (IsRead r want) c.scheduled.ensures
    (read_so r want _ refl has c.none-3.ensures parts.bounded parts.stop parts.picks parts.wake other)
