-- What a refutation of a term's clauses says of the term.
use Rattle.std.proofs.Common.{◌≡◌, ℕ, Bool, List, subst}
use Rattle.ygg_blast.specs.ygg_cnf.Literals.{SatisfiesAll, truth_of}
use Rattle.ygg_blast.specs.ygg_cnf.Logs.{Refutes}
use Rattle.ygg_blast.specs.ygg_cnf.declared.lit.Lit.{Lit}
use Rattle.ygg_blast.specs.ygg_cnf.declared.log.Step.{Step}
use Rattle.ygg_blast.specs.ygg_bank.declared.node.Id.{Id}
use Rattle.ygg_blast.specs.ygg_bank.declared.node.Node.{Node}
use Rattle.ygg_solver.specs.Answers.{IsAnswer}
use Rattle.ygg_solver.specs.declared.answer.Answer.{Answer}
use Rattle.ygg_solver.specs.declared.answer.Answer.TheVariants.{Sat, Unsat}
use Rattle.ygg_blast.specs.ygg_gates.Laws.{AreExact}
use Rattle.ygg_decide.specs.Deciding.{IsNeverZero}

-- a term whose clauses are refuted is 0 in no environment
pub never_zero : (nodes : List Node) (term : Id) (clauses : List (List Lit)) (log : List Step) → AreExact nodes term clauses
    → ((cs : List (List Lit)) (l : List Step) (value : ℕ → Bool) → Refutes cs l → SatisfiesAll value cs → ⊥) → Refutes clauses log → IsNeverZero nodes term
never_zero nodes term clauses log exact sound refutes env zero = let s = exact.1 (env, zero) in sound clauses log s.0 refutes s.1

-- what an answer on some clauses says of the same clauses
pub satisfied : (clauses same : List (List Lit)) (budget : ℕ) (answer : Answer) (a : List Bool) → clauses ≡ same → answer ≡ Sat a →
    IsAnswer clauses budget answer → SatisfiesAll (truth_of a) same
satisfied clauses same budget answer a e is h = subst (SatisfiesAll (truth_of a)) e (subst (IsAnswer clauses budget) is h)

pub refuted : (clauses same : List (List Lit)) (budget : ℕ) (answer : Answer) (log : List Step) → clauses ≡ same → answer ≡ Unsat log →
    IsAnswer clauses budget answer → Refutes same log
refuted clauses same budget answer log e is h = let r = subst (IsAnswer clauses budget) is h in subst (λ cs. Refutes cs log) e r.0
