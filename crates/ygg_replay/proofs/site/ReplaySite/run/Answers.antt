use Rattle.std.proofs.Common.{None, ap, ◌∙◌}
use Rattle.ygg_eval.proofs.Runs.{runnable_fits}
use Rattle.ygg_replay.specs.Runs.{fresh}
use Rattle.ygg_replay.proofs.Blocks.{ran}
use Rattle.ygg_replay.proofs.Serving.{can_serve, is_below, block_is, serves}
use Rattle.ygg_replay.proofs.site.ReplaySite.run.Goals as goal

pub run_body-requires-clause-lower : goal.run_body-requires-clause-lower
run_body-requires-clause-lower c =
    can_serve c.args.self.now c.args.part c.args.number None c.args.lower.now c.in_ok-power.power c.requires.lower

pub returns-clause-ran : goal.returns-clause-ran
returns-clause-ran c = λ b h.
    let s = c.args.self.now in
    let is = block_is s c.args.part c.args.number b c.requires.here h in
    let ends = rw c.in-Whole.is at (c.in_ok-answer.ensures.ends s.layer.now b is) in
    ran s c.args.part c.args.number b c.args.args.now c.args.memory.now c.args.lower.now c.in_ok-power.power c.args.picks.now c.requires.kind
    c.requires.lower.number (runnable_fits _ _ _ _ s.layer.now b c.requires.block is) (c.in_ok-power.ensures ∙ ap fresh c.as_slice.ensures)
    _ c.in-Whole.answer _ ends.1

pub returns-clause-lower : goal.returns-clause-lower
returns-clause-lower c =
    let s = c.args.self.now in
    let still = rw c.in-Whole.is at c.in_ok-answer.ensures.serves in
    is_below s c.run_body.new.lower c.run_body.new.power (still (serves s c.args.lower.now c.in_ok-power.power c.requires.lower))
