use Rattle.std.proofs.Common.{sym, subst}
use Rattle.ygg_replay.specs.ygg_sched.declared.schedule.Schedule.{Schedule}
use Rattle.ygg_plain.specs.Plain.{IsPlainOf}
use Rattle.ygg_plain.proofs.Like.{still_asked}
use Rattle.ygg_plain.proofs.Standing.{further, itself, stepped}
use Rattle.ygg_plain.proofs.trying.Plainer.after_all.Goals as goal
use Rattle.ygg_plain.proofs.trying.Plainer.after_all.Goals.{then-branch, else-branch}

pub loop-step-init : goal.loop-step-init
loop-step-init c = itself c.args.self.now.typed.now.file c.args.self.now.case c.args.schedule

pub is_violated-requires : goal.is_violated-requires
is_violated-requires c =
    still_asked c.loop-step.plain c.in_ok-tried.tried c.in_ok-tried.ensures c.args.self.now.typed.now.file c.args.self.now.case
    (c.loop-step.invariant.asked c.requires)

pub loop-step-preserved : goal.loop-step-preserved
loop-step-preserved c =
    let f = c.args.self.now.typed.now.file in
    let which = c.args.self.now.case in
    elim c.if-branch.branch [
      | then-branch w ↦
          subst (λ (x : Schedule). IsPlainOf f which c.args.schedule x) (sym w.plain-is)
          (further f which c.args.schedule c.loop-step.plain c.in_ok-tried.tried c.loop-step.invariant
          (stepped f which c.loop-step.plain c.in_ok-tried.tried c.in_ok-tried.ensures (c.in_ok-is_violated.ensures w.if-branch.true)))
      | else-branch w ↦ subst (λ (x : Schedule). IsPlainOf f which c.args.schedule x) (sym w.plain-is) c.loop-step.invariant
    ]
