use Rattle.std.proofs.Common.{◌≡◌, ℕ, List, [], ◌++◌, All, sym, subst, ◌∙◌, ap, append_assoc}
use Rattle.std.proofs.lemmas.List.{append-nil, take_all}
use Rattle.std.proofs.lemmas.List.Elements.{All-nil}
use Rattle.std.proofs.lemmas.Result.{IfOk-from_err}
use Rattle.ygg_cnf.specs.declared.lit.Lit.{Lit}
use Rattle.ygg_chain.specs.Places.{IsPlaced, clause_at}
use Rattle.ygg_chain.proofs.PlaceLemmas.{entered}
use Rattle.ygg_solver.proofs.names.number_clause.Goals as goal

-- what was added before and what came after are added together
grown : (start middle end : List ℕ) → (before : List ℕ) × (middle ≡ start ++ before) → (more : List ℕ) × (end ≡ middle ++ more)
    → (all : List ℕ) × (end ≡ start ++ all)
grown start middle end (before, was) (more, grew) = (before ++ more, grew ∙ ap (λ l. l ++ more) was ∙ append_assoc start before more)

pub returns-in_err-kept-clause-placed : goal.returns-in_err-kept-clause-placed
returns-in_err-kept-clause-placed c = IfOk-from_err c.from_residual.result _ c.from_residual.ensures.0

pub returns-in_err-kept-clause-same : goal.returns-in_err-kept-clause-same
returns-in_err-kept-clause-same c = IfOk-from_err c.from_residual.result _ c.from_residual.ensures.0

pub returns-in_err-kept-clause-grows : goal.returns-in_err-kept-clause-grows
returns-in_err-kept-clause-grows c = ([], sym (append-nil c.args.variables.now))

pub loop-lit-init : goal.loop-lit-init
loop-lit-init c = record {
  placed = subst (All (IsPlaced c.args.variables.now)) (sym c.in_ok-kept.ensures) (All-nil (IsPlaced c.args.variables.now));
  same = ap (clause_at c.args.variables.now) c.in_ok-kept.ensures;
  grows = ([], sym (append-nil c.args.variables.now));
}

pub returns-in_err-enter-clause-placed : goal.returns-in_err-enter-clause-placed
returns-in_err-enter-clause-placed c = IfOk-from_err c.from_residual-in_err-enter.result _ c.from_residual-in_err-enter.ensures.0

pub returns-in_err-enter-clause-same : goal.returns-in_err-enter-clause-same
returns-in_err-enter-clause-same c = IfOk-from_err c.from_residual-in_err-enter.result _ c.from_residual-in_err-enter.ensures.0

pub returns-in_err-enter-clause-grows : goal.returns-in_err-enter-clause-grows
returns-in_err-enter-clause-grows c = grown c.args.variables.now c.loop-lit.variables c.enter.new.self c.loop-lit.invariant.grows c.enter.ensures.grows

pub returns-in_err-push-clause-placed : goal.returns-in_err-push-clause-placed
returns-in_err-push-clause-placed c = IfOk-from_err c.from_residual-in_err-push.result _ c.from_residual-in_err-push.ensures.0

pub returns-in_err-push-clause-same : goal.returns-in_err-push-clause-same
returns-in_err-push-clause-same c = IfOk-from_err c.from_residual-in_err-push.result _ c.from_residual-in_err-push.ensures.0

pub returns-in_err-push-clause-grows : goal.returns-in_err-push-clause-grows
returns-in_err-push-clause-grows c = grown c.args.variables.now c.loop-lit.variables c.enter.new.self c.loop-lit.invariant.grows c.enter.ensures.grows

pub loop-lit-preserved : goal.loop-lit-preserved
loop-lit-preserved c =
    let (more, grew) = c.enter.ensures.grows in
    let (placed, same) = entered c.loop-lit.variables c.enter.new.self more grew c.loop-lit.kept c.args.clause.now c.loop-lit.lit-index _
    c.in_ok-enter.field-0 c.loop-lit-test.true c.loop-lit.invariant.placed c.loop-lit.invariant.same c.in_ok-enter.ensures.ok in
    record {
      placed = subst (λ (l : List Lit). All (IsPlaced c.enter.new.self) l) (sym c.in_ok-push.ensures.ok) placed;
      same = ap (clause_at c.enter.new.self) c.in_ok-push.ensures.ok ∙ same;
      grows = grown c.args.variables.now c.loop-lit.variables c.enter.new.self c.loop-lit.invariant.grows c.enter.ensures.grows;
    }

pub returns-clause-placed : goal.returns-clause-placed
returns-clause-placed c = c.loop-lit.invariant.placed

pub returns-clause-same : goal.returns-clause-same
returns-clause-same c = c.loop-lit.invariant.same ∙ take_all c.loop-lit.lit-index c.args.clause.now c.loop-lit-test.false

pub returns-clause-grows : goal.returns-clause-grows
returns-clause-grows c = c.loop-lit.invariant.grows
