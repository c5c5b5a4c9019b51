use Rattle.std.proofs.Common.{◌++◌, ◌∷◌, [], List, false, get_or, sym, ap, ◌∙◌}
use Rattle.std.proofs.lemmas.List.{take_more, take_all}
use Rattle.ygg_cnf.specs.declared.lit.Lit.{Lit}
use Rattle.ygg_cnf_set.proofs.packed_clause.PackedClause.of.Goals as goal

pub loop-lit-preserved : goal.loop-lit-preserved
loop-lit-preserved c =
    let d : Lit = record { var = 0; negated = false } in
    c.in_ok-push.ensures.ok
    ∙ (ap (λ (l : List Lit). l ++ get_or c.args.lits.now c.loop-lit.lit-index d ∷ []) c.loop-lit.invariant
    ∙ sym (take_more c.args.lits.now c.loop-lit.lit-index d c.loop-lit-test.true))

pub returns : goal.returns
returns c = c.loop-lit.invariant ∙ take_all _ c.args.lits.now c.loop-lit-test.false
