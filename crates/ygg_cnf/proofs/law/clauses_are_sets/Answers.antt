use Rattle.std.proofs.Common.{◌≡◌, Some, ⊎_elim}
use Rattle.ygg_cnf.specs.Literals.{complement}
use Rattle.ygg_cnf.proofs.Lits.{one_of_both, satisfied_by}
use Rattle.ygg_cnf.proofs.Once.{once_is_same, once_has_none_twice, once_is_kept}
use Rattle.ygg_cnf.proofs.Steps.{derives_set}
use Rattle.ygg_cnf.proofs.law.clauses_are_sets.Goals as goal

pub returns : goal.returns
returns c = record {
  same = λ held. derives_set (λ id named. held id ≡ Some named);
  tautology = λ clause x value here there.
      ⊎_elim (satisfied_by value clause x here) (satisfied_by value clause (complement x) there) (one_of_both value x);
  once = λ clause. (once_is_same clause, once_has_none_twice clause, once_is_kept clause);
}
