use Rattle.std.proofs.Common.{List, sym, subst}
use Rattle.ygg_value.specs.declared.row.Value.{Value}
use Rattle.ygg_replay.specs.Ends.{seen_at}
use Rattle.ygg_replay.specs.Runs.{CutBy}
use Rattle.ygg_sched.specs.Fitting.{halt_meant}
use Rattle.ygg_replay.specs.Sites.{low_at, state_at}
use Rattle.ygg_replay.proofs.Recovering.{cut, fell}
use Rattle.ygg_replay.proofs.site.ReplaySite.cut_short.Goals as goal

pub returns-then-branch-clause-fell : goal.returns-then-branch-clause-fell
returns-then-branch-clause-fell c = λ b h.
    let s = c.args.self.now in
    let x = c.args.schedule.now in
    let args = seen_at s c.args.part c.args.number c.args.args.now in
    let is = rw c.if-branch.true at (c.in_ok-cut.ensures.cut b h) in
    fell s x b args c.args.memory c.in-Some.stop c.in-Some.is (low_at s c.cut.new.lower.values)
    (subst (λ (low : List Value). CutBy s b args (halt_meant c.in-Some.stop) x.picks (state_at s c.args.memory low) (low_at s c.cut.new.lower.values))
    c.in_ok-lower.ensures.values is)

pub returns-else-branch-clause-fell : goal.returns-else-branch-clause-fell
returns-else-branch-clause-fell c = λ b h fallen f.
    let s = c.args.self.now in
    let x = c.args.schedule.now in
    let args = seen_at s c.args.part c.args.number c.args.args.now in
    let none = rw c.if-branch.false at (c.in_ok-cut.ensures.cut b h) in
    none fallen
    (subst (λ (low : List Value). CutBy s b args (halt_meant c.in-Some.stop) x.picks (state_at s c.args.memory low) fallen) (sym c.in_ok-lower.ensures.values)
    (cut s x b args c.args.memory c.in-Some.stop c.in-Some.is fallen f))
