use Rattle.std.proofs.Common.{Some, is_none, sym, ap, ◌∙◌}
use Rattle.ygg_sched.specs.ygg_meaning.Violates.{hypotheses}
use Rattle.ygg_replay.specs.Sites.{closed_in, machine_in}
use Rattle.ygg_replay.specs.Steps.{meant_at}
use Rattle.ygg_replay.proofs.Concluding.{is_false}
use Rattle.ygg_replay.proofs.Firsts.{all_are}
use Rattle.ygg_replay.proofs.site.ReplaySite.replay.Goals as goal

pub concluded-requires-clause-holds : goal.concluded-requires-clause-holds
concluded-requires-clause-holds c = λ o is.
    let s = c.args.self.now in
    all_are (hypotheses (closed_in s) o (meant_at s c.args.schedule.now)) ∙ ap is_none (sym (c.in_ok-place.ensures o is) ∙ c.in-None.is)

pub returns-in_ok-number_of-in-Some : goal.returns-in_ok-number_of-in-Some
returns-in_ok-number_of-in-Some c = λ o is.
    let s = c.args.self.now in
    is_false (closed_in s) (machine_in s) o (meant_at s c.args.schedule.now) c.in_ok-number_of-in-Some.field-0
    (sym (c.in_ok-place.ensures o is) ∙ (c.in-Some.is ∙ ap (λ n. Some n) (sym c.in_ok-number_of-in-Some.ensures)))
