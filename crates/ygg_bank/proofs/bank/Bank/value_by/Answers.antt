use Rattle.std.proofs.Common.{nat_eq, arith, slice_index_or, Option, IsSome, subst, sym, rules}
use Rattle.indexmap.specs.IndexMap.{get}
use Rattle.ygg_value.specs.Number.{Number}
use Rattle.ygg_bank.specs.Values.{numbers_given}
use Rattle.ygg_bank.proofs.Evaluating.{children_known, none_known, one_more_known, place_below, term_known}
use Rattle.ygg_bank.proofs.Places.{below_there}
use Rattle.ygg_bank.proofs.bank.Bank.value_by.Goals as goal

pub loop-place-init : goal.loop-place-init
loop-place-init c = none_known (numbers_given (get nat_eq c.args.given.now)) c.args.self.now c.args.places.now (get nat_eq c.new-values.result)

pub value_at-value-requires : goal.value_at-value-requires
value_at-value-requires c =
    let i = c.loop-place.place-index in
    let there = below_there c.args.places.now i c.loop-place-test.true in
    let low = place_below _ c.args.places.now i (slice_index_or c.args.places.now i 0) c.requires.below there in
    let stands = c.requires.stands in
    record {
      stands = omega (arith, low, stands);
      children = children_known (numbers_given (get nat_eq c.args.given.now)) c.args.self.now c.args.term.0 c.args.places.now i
          (slice_index_or c.args.places.now i 0) (get nat_eq c.loop-place.values) c.requires.ordered c.requires.ascends c.requires.each there
          c.loop-place.invariant;
      given = c.requires.given;
    }

pub loop-place-preserved : goal.loop-place-preserved
loop-place-preserved c =
    let i = c.loop-place.place-index in
    let updates = c.in_ok-insert.ensures.updates in
    one_more_known (numbers_given (get nat_eq c.args.given.now)) c.args.self.now c.args.places.now i (slice_index_or c.args.places.now i 0)
    (get nat_eq c.loop-place.values) (get nat_eq c.insert.new.self) c.value_at-value.result
    (below_there c.args.places.now i c.loop-place-test.true) c.value_at-value.ensures updates.1 updates.2 c.loop-place.invariant

pub word_at-requires : goal.word_at-requires
word_at-requires c =
    let known = term_known (numbers_given (get nat_eq c.args.given.now)) c.args.self.now c.args.term.0 c.args.places.now c.loop-place.place-index
    (get nat_eq c.loop-place.values) c.requires.each c.loop-place-test.false c.loop-place.invariant in
    subst (λ (o : Option Number). IsSome o) (sym known) (search rules)

pub returns : goal.returns
returns c =
    let known = term_known (numbers_given (get nat_eq c.args.given.now)) c.args.self.now c.args.term.0 c.args.places.now c.loop-place.place-index
    (get nat_eq c.loop-place.values) c.requires.each c.loop-place-test.false c.loop-place.invariant in
    cc (known, c.word_at.ensures)
