use Rattle.std.proofs.Common.{◌<◌, ◌++◌, ◌∷◌, [], List, length, take, sym, ap, ◌∙◌}
use Rattle.std.proofs.lemmas.List.{take_more, take_all}
use Rattle.ygg_cnf.specs.declared.lit.Lit.{Lit}
use Rattle.ygg_cnf_set.proofs.packed_clause.pack_all.Goals as goal

pub of-requires : goal.of-requires
of-requires c =
    let l : c.loop-clause.clause-index < length c.args.clauses.now = rw c.as_slice-clause-items.ensures at c.loop-clause-test.true in
    rw (c.as_slice.ensures, c.clause-item.is, c.as_slice-clause-items.ensures) (c.requires c.loop-clause.clause-index c.clause-item.result l)

pub loop-clause-preserved : goal.loop-clause-preserved
loop-clause-preserved c =
    c.in_ok-push.ensures.items
    ∙ (ap (λ (x : List Lit). c.loop-clause.packed.items ++ x ∷ []) (c.in_ok-of.ensures ∙ c.as_slice.ensures)
    ∙ (ap (λ (l : List (List Lit)). l ++ c.clause-item.result ∷ []) c.loop-clause.invariant
    ∙ sym (take_more c.as_slice-clause-items.result.now c.loop-clause.clause-index c.clause-item.result c.loop-clause-test.true
    ∙ ap (λ (x : List Lit). take c.loop-clause.clause-index c.as_slice-clause-items.result.now ++ x ∷ []) (sym c.clause-item.is))))

pub returns : goal.returns
returns c = c.loop-clause.invariant ∙ (take_all _ c.as_slice-clause-items.result.now c.loop-clause-test.false ∙ c.as_slice-clause-items.ensures)
