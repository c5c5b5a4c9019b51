use Rattle.std.proofs.Common.{true, ap, ◌∙◌, arith}
use Rattle.ygg_gates.specs.Groups.{circuit, with_node}
use Rattle.ygg_blast.proofs.Filling.{fill_begins_with, fill_next, fill_ends, next_place, none_left, short_enough}
use Rattle.ygg_blast.proofs.groups.groups_of.Goals as goal

pub loop-place-init : goal.loop-place-init
loop-place-init c =
    fill_begins_with c.args.bank.now c.args.term c.args.places.now c.new-table.result c.new-sources.result c.new-gates.result.items
    c.new-table.ensures c.new-sources.ensures c.new-gates.ensures.items
    c.requires.ascends c.requires.below c.requires.each

pub add_node-requires-clause-few : goal.add_node-requires-clause-few
add_node-requires-clause-few c =
    let n = c.len.ensures.count in
    short_enough c.args.bank.now c.args.term (circuit c.loop-place.table c.loop-place.sources c.loop-place.gates.items) c.args.places.now
    c.loop-place.place-index 0 c.len.result c.skip_to.new.self
    c.loop-place-test.true c.requires.stands n (omega (arith, n)) c.skip_to.ensures c.loop-place.invariant

pub loop-place-preserved : goal.loop-place-preserved
loop-place-preserved c =
    fill_next c.args.bank.now c.args.term (circuit c.loop-place.table c.loop-place.sources c.loop-place.gates.items)
    (circuit c.add_node.new.table c.add_node.new.sources c.add_node.new.gates.items)
    c.args.places.now c.loop-place.place-index 0 c.node_at-node.result c.loop-place-test.true c.requires.stands c.node_at-node.ensures.there
    (c.in_ok-add_node.ensures ∙ ap (λ t. with_node true c.node_at-node.result (circuit t c.loop-place.sources c.loop-place.gates.items))
    c.skip_to.ensures) c.loop-place.invariant

pub overflow_add-term : goal.overflow_add-term
overflow_add-term c = let s = c.requires.stands in let n = c.len.ensures.count in omega (arith, s, n)

pub returns : goal.returns
returns c =
    fill_ends c.args.bank.now c.args.term (circuit c.loop-place.table c.loop-place.sources c.loop-place.gates.items)
    (circuit c.skip_to-2.new.self c.loop-place.sources c.loop-place.gates.items)
    c.requires.stands (ap (λ t. circuit t c.loop-place.sources c.loop-place.gates.items) c.skip_to-2.ensures)
    (none_left c.args.bank.now c.args.term _ c.args.places.now c.loop-place.place-index c.loop-place-test.false c.loop-place.invariant)

pub skip_to-requires : goal.skip_to-requires
skip_to-requires c =
    (next_place c.args.bank.now c.args.term (circuit c.loop-place.table c.loop-place.sources c.loop-place.gates.items) c.args.places.now
    c.loop-place.place-index 0 c.loop-place-test.true c.requires.stands c.loop-place.invariant).0

pub node_at-node-requires : goal.node_at-node-requires
node_at-node-requires c =
    (next_place c.args.bank.now c.args.term (circuit c.loop-place.table c.loop-place.sources c.loop-place.gates.items) c.args.places.now
    c.loop-place.place-index 0 c.loop-place-test.true c.requires.stands c.loop-place.invariant).1
