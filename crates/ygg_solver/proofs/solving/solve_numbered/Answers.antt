use Rattle.std.proofs.Common.{◌≡◌, List, ℕ, All, length, sym, subst}
use Rattle.std.proofs.lemmas.Result.{IfOk-weaker}
use Rattle.ygg_cnf.specs.declared.lit.Lit.{Lit}
use Rattle.ygg_chain.specs.Places.{IsPlaced, clauses_at}
use Rattle.ygg_watch.specs.declared.entry.Entry.{Entry}
use Rattle.ygg_solver.specs.Answers.{IsNumbered, IsAnswer}
use Rattle.ygg_solver.specs.Ends.{IsEnd}
use Rattle.ygg_solver.specs.declared.searching.SearchEnd.{SearchEnd}
use Rattle.ygg_solver.proofs.solving.solve_numbered.Goals as goal

-- the end of a search, of equal clauses, trail and count
ended : (budget : ℕ) (end : SearchEnd) (held clauses : List (List Lit)) (trail kept : List Entry) (count size : ℕ) → held ≡ clauses → kept ≡ trail
    → count ≡ size → IsEnd held trail count budget end → IsEnd clauses kept size budget end
ended budget end held clauses trail kept count size h t n e =
    subst (λ (l : List (List Lit)). IsEnd l kept size budget end) h
    (subst (λ (l : List Entry). IsEnd held l size budget end) (sym t) (subst (λ (k : ℕ). IsEnd held trail k budget end) n e))

pub answer_of-requires-clause-end : goal.answer_of-requires-clause-end
answer_of-requires-clause-end c = (
  c.args.clauses.items,
  ended c.args.budget c.in_ok-end.end _ c.args.clauses.items _ c.trail.result.now _ (length c.args.variables.now)
      c.in_ok-propagation.ensures.fresh.held c.trail.ensures
      c.len-variable_count.ensures.len c.in_ok-end.ensures,
)

pub returns : goal.returns
returns c =
    let variables = c.args.variables.now in
    IfOk-weaker c.answer_of.result
    (λ answer. (clauses : List (List Lit)) → All (All (IsPlaced variables)) clauses → IsNumbered (clauses_at variables clauses)
    → IsEnd clauses c.trail.result.now (length variables) c.args.budget c.in_ok-end.end → IsAnswer (clauses_at variables clauses) c.args.budget answer)
    (IsAnswer (clauses_at variables c.args.clauses.items) c.args.budget)
    (λ answer f. f c.args.clauses.items c.requires.placed c.requires.numbered
    (ended c.args.budget c.in_ok-end.end _ c.args.clauses.items _ c.trail.result.now _ (length variables) c.in_ok-propagation.ensures.fresh.held c.trail.ensures
    c.len-variable_count.ensures.len c.in_ok-end.ensures)) c.answer_of.ensures
