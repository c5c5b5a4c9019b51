use Rattle.ygg_rules.proofs.Right.{row_right}
use Rattle.ygg_rules.proofs.law.rows_are_right.Goals as goal

pub returns-clause-names : goal.returns-clause-names
returns-clause-names c = λ kind v h. (row_right kind v h).names

pub returns-clause-values : goal.returns-clause-values
returns-clause-values c = λ kind v values h m. (row_right kind v h).keeps values m
