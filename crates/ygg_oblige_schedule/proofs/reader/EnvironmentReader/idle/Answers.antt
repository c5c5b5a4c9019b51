use Rattle.std.proofs.Common.{◌∙◌, [], None, refl, ap}
use Rattle.ygg_replay.specs.ygg_meaning.Environments.{Env}
use Rattle.ygg_replay.specs.ygg_meaning.Machine.{based}
use Rattle.ygg_replay.specs.ygg_meaning.Obligations.{Idle}
use Rattle.ygg_eval_places.specs.ygg_sym_runs.Laws.{picked_by}
use Rattle.ygg_eval_places.specs.ygg_sym_laws.Fronts.{lose_on, loss_picks}
use Rattle.ygg_oblige_given.specs.ygg_oblige_laws.Schedules.{schedule_from}
use Rattle.ygg_oblige_schedule.specs.Here.{below_of, inputs_of, layer_of, numbers_of}
use Rattle.ygg_oblige_schedule.specs.Schedules.{IsRead, given_here}
use Rattle.ygg_oblige_schedule.proofs.Means.{has_stand, left_is, read_from, read_so, wake_is}
use Rattle.ygg_oblige_schedule.proofs.reader.EnvironmentReader.idle.Goals as goal

pub returns : goal.returns
returns c =
    let r = c.args.self.now in
    let s = given_here r in
    let stand = c.in_ok-stand.ensures in
    let lost = c.in_ok-low.ensures in
    let want = schedule_from (below_of r) (layer_of r) (inputs_of r) (numbers_of r) Idle s [] in
    let last = picked_by (inputs_of r) (numbers_of r).last in
    let wake = wake_is r (numbers_of r).wake _ (lose_on (below_of r) last (based s.low)) _ (left_is r _ _ s.low _ stand.low_is lost) c.in_ok-wake.ensures in
    read_from r c.in_ok-stand.stand c.none.result (record { stop = None; picks = c.in_ok-low.field-0.picks; wake = c.in_ok-wake.wake }) c.no_picks.result
    c.scheduled.result (IsRead r want) c.scheduled.ensures
    (read_so r want _ refl (has_stand r _ stand want refl refl refl) c.none.ensures tt refl
    (lost.taken ∙ ap (λ (z : Env). loss_picks (below_of r) last z) stand.low_is) wake c.no_picks.ensures)
