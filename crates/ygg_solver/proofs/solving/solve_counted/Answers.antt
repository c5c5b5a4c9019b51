use Rattle.std.proofs.Common.{List, IfOk, sym, subst, ◌∙◌}
use Rattle.std.proofs.lemmas.Bool.{false≢true}
use Rattle.std.proofs.lemmas.Result.{IfOk-weaker}
use Rattle.ygg_cnf.specs.declared.lit.Lit.{Lit}
use Rattle.ygg_solver.specs.Answers.{IsNumbered, IsAnswer}
use Rattle.ygg_solver.proofs.solving.solve_counted.Goals as goal

pub solve_kept-requires-clause-budget : goal.solve_kept-requires-clause-budget
solve_kept-requires-clause-budget c = c.requires.budget

pub solve_kept-requires-clause-placed : goal.solve_kept-requires-clause-placed
solve_kept-requires-clause-placed c = c.in_ok-kept.ensures.placed

pub solve_kept-requires-clause-numbered : goal.solve_kept-requires-clause-numbered
solve_kept-requires-clause-numbered c = subst IsNumbered (sym c.in_ok-kept.ensures.same) c.requires.numbered

pub returns-clause-answer : goal.returns-clause-answer
returns-clause-answer c =
    subst (λ (l : List (List Lit)). IfOk c.solve_kept.result (IsAnswer l c.args.budget)) c.in_ok-kept.ensures.same c.solve_kept.ensures

pub returns-clause-empty : goal.returns-clause-empty
returns-clause-empty c =
    IfOk-weaker c.solve_kept.result _ _ (λ a _ h. absurd (false≢true (sym c.if-has_empty.false ∙ c.has_empty.ensures.1 h))) c.solve_kept.ensures
