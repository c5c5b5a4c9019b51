use Rattle.std.proofs.Common.{inl, inr, refl, ap}
use Rattle.ygg_solver.specs.ygg_cnf.Literals.{truth_of}
use Rattle.ygg_dimacs.specs.Solved.{Solved, unsatisfiable_text}
use Rattle.ygg_cnf.proofs.Flowing.{puts_done, puts_undecided}
use Rattle.ygg_dimacs.proofs.solving.solve_cnf.Goals as goal

pub returns-in-Sat-clause-told : goal.returns-in-Sat-clause-told
returns-in-Sat-clause-told g c =
    let answer = rw c.in-Sat.is at c.in-Ok.ensures.answer in
    puts_done (Solved c.args.cnf c.args.budget) c.put_satisfiable.result
    (inl (record { value = truth_of c.in-Sat.assignment; satisfies = answer; is = refl })) c.put_satisfiable.ensures.told

pub returns-in-Unsat-clause-told : goal.returns-in-Unsat-clause-told
returns-in-Unsat-clause-told g c =
    let answer = rw c.in-Unsat.is at c.in-Ok.ensures.answer in
    puts_done (Solved c.args.cnf c.args.budget) c.put_unsatisfiable.result
    (inr (record { log = c.in-Unsat.log; refutes = answer.0; few = answer.1; is = ap unsatisfiable_text c.as_slice.ensures }))
    c.put_unsatisfiable.ensures.told

pub returns-clause-told : goal.returns-clause-told
returns-clause-told g c =
    let answer = rw c.in-Spent.is at c.in-Ok.ensures.answer in
    puts_undecided (Solved c.args.cnf c.args.budget) c.put_undecided.result
    (record { log = c.in-Spent.field-0; spends = answer; is = refl }) c.put_undecided.ensures.told
