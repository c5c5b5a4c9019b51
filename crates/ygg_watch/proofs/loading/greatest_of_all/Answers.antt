use Rattle.std.proofs.Common.{◌≤◌, ◌∙◌, List, All, subst}
use Rattle.std.proofs.lemmas.List.{take_all}
use Rattle.ygg_cnf.specs.declared.lit.Lit.{Lit}
use Rattle.ygg_watch.proofs.LoadLemmas.{bound_more}
use Rattle.ygg_watch.proofs.loading.greatest_of_all.Goals as goal

pub loop-clause-preserved : goal.loop-clause-preserved
loop-clause-preserved c =
    bound_more c.as_slice-clause-items.result.now c.loop-clause.clause-index c.clause-item.result c.loop-clause.top c.greatest-top.result
    c.loop-clause-test.true c.greatest-top.ensures.least c.loop-clause.invariant
    (subst (λ (w : List Lit). All (λ (x : Lit). x.var ≤ c.greatest-top.result) w) (c.as_slice.ensures ∙ c.clause-item.is) c.greatest-top.ensures.within)

pub returns : goal.returns
returns c =
    subst (λ (w : List (List Lit)). All (λ v. All (λ (x : Lit). x.var ≤ c.loop-clause.top) v) w)
    (take_all c.loop-clause.clause-index c.as_slice-clause-items.result.now c.loop-clause-test.false ∙ c.as_slice-clause-items.ensures)
    c.loop-clause.invariant
