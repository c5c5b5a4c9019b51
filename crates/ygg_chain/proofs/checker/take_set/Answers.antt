use Rattle.std.proofs.Common.{length, get_or, sym, ◌∙◌}
use Rattle.std.proofs.lemmas.Bool.{false≢true}
use Rattle.std.proofs.lemmas.List.Elements.{All-contains, Contains-get_or}
use Rattle.ygg_chain.specs.Held.{InSetAs}
use Rattle.ygg_chain.proofs.HeldLemmas.{among_clause, none_left}
use Rattle.ygg_chain.proofs.checker.take_set.Goals as goal

pub returns-then-all-clause-answer : goal.returns-then-all-clause-answer
returns-then-all-clause-answer c =
    let left = none_left c.args.store.now.variables c.args.store.now.clauses (length c.args.seen.now) c.requires.kept c.args.chain.now c.args.clause.now
    c.args.seen.now c.remove_all_as.new.seen c.requires.named c.remove_all_as.ensures.set in
    let among = among_clause c.args.store.now.variables c.args.store.now.clauses (length c.args.seen.now) c.requires.kept c.args.chain.now c.args.clause.now
    c.args.seen.now c.remove_all_as.new.seen c.requires.named c.remove_all_as.ensures.set in (
      (λ t y. (
        (λ m. among (λ x n. c.take_left-none.ensures.answer.0 t x n (c.requires.named x ((c.remove_all_as.ensures.set x).0 n).0)) y m),
        (λ d. All-contains (InSetAs c.args.store.now.variables c.args.seen.now) c.args.clause.now y (c.all_seen_as-all.ensures.0 c.if-all.true) d),
      )),
      (λ same. c.take_left-none.ensures.answer.1 (λ x n named. left (λ y. (same y).0) x n)),
    )

pub returns-else-all-clause-answer : goal.returns-else-all-clause-answer
returns-else-all-clause-answer c = (
  (λ t. absurd (false≢true (sym c.if-all.false ∙ t))),
  (λ same. c.all_seen_as-all.ensures.1 (λ k d h. (same (get_or c.args.clause.now k d)).1 (Contains-get_or c.args.clause.now k d h))),
)
