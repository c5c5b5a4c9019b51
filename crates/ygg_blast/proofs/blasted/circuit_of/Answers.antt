use Rattle.std.proofs.Common.{◌≡◌, ◌↔◌, true, sym, subst}
use Rattle.ygg_bank.specs.Reaching.{has_place, Reaches}
use Rattle.ygg_blast.proofs.Tested.{places_tested}
use Rattle.ygg_blast.proofs.blasted.circuit_of.Goals as goal

pub groups_of-requires-clause-each : goal.groups_of-requires-clause-each
groups_of-requires-clause-each c =
    places_tested c.args.bank.now c.args.term c.as_slice.result.now c.len.ensures.bank c.requires c.groups_are_of_reached_nodes.ensures
    (λ p. subst (λ z. (has_place z p ≡ true) ↔ Reaches c.args.bank.now c.args.term.0 p) (sym c.as_slice.ensures.value) (c.in_ok-reached.ensures.each p))
