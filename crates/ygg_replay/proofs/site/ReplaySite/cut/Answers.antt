use Rattle.std.proofs.Common.{Some, ap, ◌∙◌}
use Rattle.ygg_eval.proofs.Runs.{runnable_fits}
use Rattle.ygg_replay.specs.Runs.{fresh}
use Rattle.ygg_replay.proofs.Blocks.{cut, spared, stop_or_short, nothing_else}
use Rattle.ygg_replay.proofs.Serving.{can_serve, is_below, block_is, serves}
use Rattle.ygg_replay.proofs.site.ReplaySite.cut.Goals as goal

pub run_body-requires-clause-lower : goal.run_body-requires-clause-lower
run_body-requires-clause-lower c =
    can_serve c.args.self.now c.args.part c.args.number (Some (record { within = c.args.stop.within; event = c.args.stop.event })) c.args.lower.now
    c.in_ok-power.power c.requires.lower

pub unreachable-requires : goal.unreachable-requires
unreachable-requires c =
    let b = c.requires.block in
    let ends = c.in_ok-run_body.ensures.ends b.layer b.block b.is in
    nothing_else c.in_ok-run_body.field-0 (stop_or_short _ _ _ _ _ _ _ _ _ c.in_ok-run_body.field-0 _ ends) c.in-Whole.is

pub returns-in-Stopped-clause-cut : goal.returns-in-Stopped-clause-cut
returns-in-Stopped-clause-cut c = λ b h.
    let s = c.args.self.now in
    let is = block_is s c.args.part c.args.number b c.requires.here h in
    let ends = rw c.in-Stopped.is at (c.in_ok-run_body.ensures.ends s.layer.now b is) in
    let still = rw c.in-Stopped.is at c.in_ok-run_body.ensures.serves in
    cut s c.args.part c.args.number b c.args.args.now c.args.memory c.args.lower.now c.in_ok-power.power c.args.picks.now c.requires.kind
    c.requires.lower.number (runnable_fits _ _ _ _ s.layer.now b c.requires.block is) (c.in_ok-power.ensures ∙ ap fresh c.as_slice.ensures)
    (record { within = c.args.stop.within; event = c.args.stop.event }) _
    (is_below s c.run_body.new.lower c.run_body.new.power still).number ends

pub returns-in-Short-clause-cut : goal.returns-in-Short-clause-cut
returns-in-Short-clause-cut c = λ b h.
    let s = c.args.self.now in
    let is = block_is s c.args.part c.args.number b c.requires.here h in
    let ends = rw c.in-Short.is at (c.in_ok-run_body.ensures.ends s.layer.now b is) in
    spared s c.args.part c.args.number b c.args.args.now c.args.memory c.args.lower.now c.in_ok-power.power c.args.picks.now c.requires.kind
    c.requires.lower.number (runnable_fits _ _ _ _ s.layer.now b c.requires.block is) (c.in_ok-power.ensures ∙ ap fresh c.as_slice.ensures)
    (record { within = c.args.stop.within; event = c.args.stop.event }) _ _ ends

pub returns-in-Stopped-clause-lower : goal.returns-in-Stopped-clause-lower
returns-in-Stopped-clause-lower c =
    is_below c.args.self.now c.run_body.new.lower c.run_body.new.power (rw c.in-Stopped.is at c.in_ok-run_body.ensures.serves)

pub returns-in-Short-clause-lower : goal.returns-in-Short-clause-lower
returns-in-Short-clause-lower c =
    let still = rw c.in-Short.is at c.in_ok-run_body.ensures.serves in
    is_below c.args.self.now c.run_body.new.lower c.run_body.new.power (still (serves c.args.self.now c.args.lower.now c.in_ok-power.power c.requires.lower))
