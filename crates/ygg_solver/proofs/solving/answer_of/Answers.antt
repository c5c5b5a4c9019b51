use Rattle.std.proofs.Common.{◌≡◌, List, length, sym, subst, ap, arith}
use Rattle.std.proofs.lemmas.List.{length-map}
use Rattle.ygg_cnf.specs.declared.log.Step.{Step}
use Rattle.ygg_cnf.specs.Literals.{truth_of}
use Rattle.ygg_cnf.specs.Logs.{Refutes, SpentLog}
use Rattle.ygg_chain.specs.Places.{clauses_at}
use Rattle.ygg_solver.specs.Kept.{trail_value}
use Rattle.ygg_solver.specs.Names.{step_at, log_at}
use Rattle.ygg_solver.proofs.NameLemmas.{satisfied_named, refutes_named, spent_named}
use Rattle.ygg_solver.proofs.solving.answer_of.Goals as goal

pub returns-in_ok-assignment_of-in-Model : goal.returns-in_ok-assignment_of-in-Model
returns-in_ok-assignment_of-in-Model c clauses placed numbered end =
    satisfied_named c.args.variables.now (trail_value c.args.trail.now) (truth_of c.in_ok-assignment_of-in-Model.field-0)
    c.in_ok-assignment_of-in-Model.ensures clauses placed numbered (rw c.in-Model.is at end).1

pub returns-in_ok-name_log-in-Refuted : goal.returns-in_ok-name_log-in-Refuted
returns-in_ok-name_log-in-Refuted c clauses placed numbered end =
    let variables = c.args.variables.now in
    let end = rw c.in-Refuted.is at end in
    let named = c.in_ok-name_log-in-Refuted.ensures in (
      subst (λ (l : List Step). Refutes (clauses_at variables clauses) l) (sym named)
          (refutes_named variables c.requires.distinct clauses c.in-Refuted.log placed end.1.1 end.0),
      (let size : length (log_at variables c.in-Refuted.log) ≡ length c.in-Refuted.log = length-map c.in-Refuted.log (step_at variables) in
          let same = ap (λ (l : List Step). length l) named in let few = end.1.0 in omega (arith, size, same, few)),
    )

pub returns-in_ok-name_log-in-Spent : goal.returns-in_ok-name_log-in-Spent
returns-in_ok-name_log-in-Spent c clauses placed numbered end =
    let variables = c.args.variables.now in
    let end = rw c.in-Spent.is at end in
    subst (λ (l : List Step). SpentLog (clauses_at variables clauses) l c.args.budget) (sym c.in_ok-name_log-in-Spent.ensures)
    (spent_named variables c.requires.distinct clauses c.in-Spent.log c.args.budget placed end.1 end.0)
