use Rattle.std.proofs.Common.{ap, sym, ◌∙◌, false, List, [], ◌∷◌, ◌++◌, get_or, take}
use Rattle.std.proofs.lemmas.List.{map-append, take_all, take_more}
use Rattle.std.proofs.lemmas.Result.{IfOk-from_err}
use Rattle.ygg_cnf.specs.declared.lit.Lit.{Lit}
use Rattle.ygg_chain.specs.Places.{literal_at, clause_at}
use Rattle.ygg_solver.proofs.names.name_clause.Goals as goal

pub loop-lit-init : goal.loop-lit-init
loop-lit-init c = c.new-named.ensures

pub name-requires : goal.name-requires
name-requires c = c.requires c.loop-lit.lit-index _ c.loop-lit-test.true

pub returns-in_err-push : goal.returns-in_err-push
returns-in_err-push c = IfOk-from_err c.from_residual.result _ c.from_residual.ensures.0

pub loop-lit-preserved : goal.loop-lit-preserved
loop-lit-preserved c =
    let variables = c.args.variables.now in
    let clause = c.args.clause.now in
    let i = c.loop-lit.lit-index in
    let blank : Lit = record { var = 0; negated = false } in
    c.in_ok-push.ensures.ok
    ∙ ap (λ (l : List Lit). l ++ c.name.result ∷ []) c.loop-lit.invariant
    ∙ ap (λ (x : Lit). clause_at variables (take i clause) ++ x ∷ []) c.name.ensures
    ∙ sym (map-append (literal_at variables) (take i clause) (get_or clause i blank ∷ []))
    ∙ ap (clause_at variables) (sym (take_more clause i blank c.loop-lit-test.true))

pub returns : goal.returns
returns c = c.loop-lit.invariant ∙ ap (clause_at c.args.variables.now) (take_all c.loop-lit.lit-index c.args.clause.now c.loop-lit-test.false)
