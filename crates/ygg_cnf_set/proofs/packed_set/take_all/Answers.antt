use Rattle.std.proofs.Common.{sym, subst, ◌∙◌}
use Rattle.std.proofs.lemmas.Bool.{false≢true}
use Rattle.ygg_cnf_set.specs.LiteralSet.{InSet}
use Rattle.ygg_cnf_set.proofs.LiteralSetLemmas.{remove_more, none_more, none_less, none_last}
use Rattle.ygg_cnf_set.proofs.ListLemmas.{contains_all, contains_front}
use Rattle.ygg_cnf_set.proofs.packed_set.take_all.Goals as goal
use Rattle.ygg_cnf_set.proofs.packed_set.take_all.Goals.{then-contains, else-contains}

pub loop-lit-preserved : goal.loop-lit-preserved
loop-lit-preserved c =
    let here = c.lit-lit.ensures ∙ c.lit-item.is in
    record {
      none = elim c.if-contains.branch [
        | then-contains w ↦ rw w.none-is (
          (λ t. absurd (false≢true t)),
          (λ all. absurd (none_last c.args.seen.now c.loop-lit.seen c.args.clause.now c.loop-lit.lit-index c.lit-item.result c.loop-lit-test.true
              c.loop-lit.invariant.taken (subst (InSet c.loop-lit.seen) here (c.contains.ensures.0 w.if-contains.true)) all)),
        )
        | else-contains w ↦ rw w.none-is (
          (λ t. none_more c.args.seen.now c.loop-lit.seen c.args.clause.now c.loop-lit.lit-index c.lit-item.result c.loop-lit-test.true
              c.loop-lit.invariant.taken
              (λ m. false≢true (sym w.if-contains.false ∙ c.contains.ensures.1 (subst (InSet c.loop-lit.seen) (sym here) m))) (c.loop-lit.invariant.none.0 t)),
          (λ all. c.loop-lit.invariant.none.1
              (none_less c.args.seen.now c.args.clause.now c.loop-lit.lit-index c.lit-item.result c.loop-lit-test.true all)),
        )
      ];
      taken = remove_more _ _ c.args.clause.now c.loop-lit.lit-index c.lit-item.result _ c.loop-lit-test.true c.loop-lit.invariant.taken
          (rw here at c.remove.ensures);
    }

pub returns-clause-answer : goal.returns-clause-answer
returns-clause-answer c = (
  (λ t y m d. c.loop-lit.invariant.none.0 t y m ((contains_all c.args.clause.now c.loop-lit.lit-index c.loop-lit-test.false y).1 d)),
  (λ all. c.loop-lit.invariant.none.1 (λ y m d. all y m (contains_front c.args.clause.now c.loop-lit.lit-index y d))),
)

pub returns-clause-taken : goal.returns-clause-taken
returns-clause-taken c y =
    let all = contains_all c.args.clause.now c.loop-lit.lit-index c.loop-lit-test.false y in (
      (λ m. let p = (c.loop-lit.invariant.taken y).0 m in (p.0, λ d. p.1 (all.1 d))),
      (λ p. (c.loop-lit.invariant.taken y).1 (p.0, λ d. p.1 (all.0 d))),
    )
