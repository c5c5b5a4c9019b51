use Rattle.ygg_plain.proofs.Standing.{further, itself}
use Rattle.ygg_plain.proofs.trying.plain.Goals as goal

pub loop-round-init : goal.loop-round-init
loop-round-init c = itself c.args.typed.now.file c.args.case c.args.schedule

pub round-requires : goal.round-requires
round-requires c = c.loop-round.invariant.asked c.requires

pub returns-then-left-kept : goal.returns-then-left-kept
returns-then-left-kept c =
    further c.args.typed.now.file c.args.case c.args.schedule c.loop-round.plain c.in_ok-plain.plain c.loop-round.invariant c.in_ok-plain.ensures

pub loop-round-preserved : goal.loop-round-preserved
loop-round-preserved c =
    further c.args.typed.now.file c.args.case c.args.schedule c.loop-round.plain c.in_ok-plain.plain c.loop-round.invariant c.in_ok-plain.ensures
