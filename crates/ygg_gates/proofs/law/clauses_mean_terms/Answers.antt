use Rattle.ygg_gates.proofs.Whole.{satisfiable_exactly, satisfying_is_zero}
use Rattle.ygg_gates.proofs.law.clauses_mean_terms.Goals as goal

pub returns : goal.returns
returns c = record { exactly = satisfiable_exactly; environment = satisfying_is_zero }
