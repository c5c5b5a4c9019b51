use Rattle.std.proofs.Common.{None, Some, sym, ap, ◌∙◌, subst}
use Rattle.ygg_sched.specs.ygg_meaning.Progress.{Answer}
use Rattle.ygg_sched.specs.ygg_meaning.Spec.{call_outcome, chosen}
use Rattle.ygg_replay.specs.Sites.{closed_in, vars_at}
use Rattle.ygg_replay.specs.Steps.{EndsIn, own_machine}
use Rattle.ygg_replay.proofs.Own.{own_serves, own_callable, own_called}
use Rattle.ygg_replay.proofs.site.ReplaySite.called.Goals as goal
use Rattle.ygg_replay.proofs.site.ReplaySite.called.Goals.{in-Done, in-Answer}

pub call-requires-clause-serves : goal.call-requires-clause-serves
call-requires-clause-serves c =
    let s = c.args.self.now in
    own_serves s c.requires.here c.args.schedule.now.state c.requires.vars c.in_ok-after.after
    (c.in_ok-after.ensures ∙ ap (own_machine s) c.in_ok-copy.ensures) c.in_ok-power.power

pub call-requires-clause-operation : goal.call-requires-clause-operation
call-requires-clause-operation c =
    let s = c.args.self.now in
    own_callable s c.requires.here c.args.schedule.now.state c.requires.vars c.in_ok-after.after
    (c.in_ok-after.ensures ∙ ap (own_machine s) c.in_ok-copy.ensures) c.in_ok-power.power s.typed.now.typed c.args.number c.args.schedule.now.args
    c.requires.operation

pub returns : goal.returns
returns c = λ o there all.
    let s = c.args.self.now in
    let own = c.in_ok-after.ensures ∙ ap (own_machine s) c.in_ok-copy.ensures in
    let out = call_outcome (closed_in s) o (vars_at s c.args.schedule.now.state) c.args.schedule.now.args (chosen c.args.picks.now) in
    elim c.match-branch-5.branch [
      | in-Done w ↦ subst (λ (y : Answer). EndsIn s out y c.call.new.self.values) (sym w.answer-is)
          (own_called s c.requires.here c.args.schedule.now.state c.requires.vars c.in_ok-after.after own c.in_ok-power.power s.typed.now.typed c.args.number
          c.args.schedule.now.args s.typed.now.derivable c.args.picks.now c.in_ok-power.ensures c.call.new.self c.call.new.power c.requires.operation None
          (rw w.in-Done.is at c.in_ok-call.ensures.called) (rw w.in-Done.is at c.in_ok-call.ensures.serves) o there all)
      | in-Answer w ↦ subst (λ (y : Answer). EndsIn s out y c.call.new.self.values) (sym w.answer-is)
          (own_called s c.requires.here c.args.schedule.now.state c.requires.vars c.in_ok-after.after own c.in_ok-power.power s.typed.now.typed c.args.number
          c.args.schedule.now.args s.typed.now.derivable c.args.picks.now c.in_ok-power.ensures c.call.new.self c.call.new.power c.requires.operation
          (Some w.in-Answer.value) (rw w.in-Answer.is at c.in_ok-call.ensures.called) (rw w.in-Answer.is at c.in_ok-call.ensures.serves) o there all)
    ]
