use Rattle.std.proofs.Common.{◌≡◌, ◌↔◌, true, sym, subst, reverse}
use Rattle.ygg_bank.specs.Reaching.{has_place, Reaches}
use Rattle.ygg_bank.proofs.Visiting.{begins_with, goes, goes_with, visited_all}
use Rattle.ygg_bank.proofs.visits.reached.Goals as goal

pub loop-place-init : goal.loop-place-init
loop-place-init c =
    begins_with c.args.bank.now c.args.term c.new-pending.result c.add.new.pending c.new-places.result.items c.new-pending.ensures.empty
    c.in_ok-add.ensures c.new-places.ensures.items

pub loop-place-preserved : goal.loop-place-preserved
loop-place-preserved c =
    goes_with c.args.bank.now c.args.term c.in-Some.place c.add_children.new.pending c.loop-place.places.items c.push.new.self.items c.in_ok-push.ensures.items
    (goes c.args.bank.now c.args.term c.loop-place.below c.in-Some.place c.loop-place.pending c.take_last.new.pending c.add_children.new.pending
    (reverse c.loop-place.places.items) c.node.result
    c.len.ensures.bank c.node.ensures.there c.in-Some.ensures.here c.in-Some.ensures.last c.in-Some.ensures.others c.in_ok-add_children.ensures
    c.loop-place.invariant)

pub returns-clause-each : goal.returns-clause-each
returns-clause-each c p =
    subst (λ z. (has_place z p ≡ true) ↔ Reaches c.args.bank.now c.args.term.0 p) (sym c.reverse.ensures.items)
    (visited_all c.args.bank.now c.args.term c.loop-place.below c.loop-place.pending (reverse c.loop-place.places.items) c.in_default.ensures.none
    c.loop-place.invariant p)
