use Rattle.ygg_base.specs.declared.token.Mark.TheVariants as mark
use Rattle.ygg_syntax.specs.Expressions.{operator_sign}
use Rattle.std.proofs.Common.{rules}
use Rattle.ygg_read.proofs.Stopped.{goes_operator, stopped_operator, stopped_no_symbol, stopped_end}
use Rattle.ygg_read.proofs.ExpressionPhrases.{reads_token}
use Rattle.ygg_read.proofs.reader.Reader.operator.Goals as goal

pub returns-in-Some-operation-clause-goes : goal.returns-in-Some-operation-clause-goes
returns-in-Some-operation-clause-goes c =
    goes_operator c.in-Symbol.symbol c.in-Some-operation.found c.in-Some.first.now c.args.self.now c.in-Some.others.now (search rules) (search rules)
    (search rules)

pub returns-in_default-operation-clause-refused : goal.returns-in_default-operation-clause-refused
returns-in_default-operation-clause-refused c = stopped_operator c.in-Symbol.symbol c.in-Some.first.now c.args.self.now c.in-Some.others.now
    (search rules) (search rules) (search rules)

pub returns-in_default-mark-clause-refused : goal.returns-in_default-mark-clause-refused
returns-in_default-mark-clause-refused c = stopped_no_symbol c.in-Some.first.now c.args.self.now c.in-Some.others.now (search rules) (search rules)

pub returns-in_default-clause-refused : goal.returns-in_default-clause-refused
returns-in_default-clause-refused c = stopped_end c.args.self.now (search rules)

pub returns-in-Some-operation-clause-reads : goal.returns-in-Some-operation-clause-reads
returns-in-Some-operation-clause-reads c = reads_token (mark.Symbol (operator_sign c.in-Some-operation.found))
    (record { line = c.in-Some.first.now.line; column = c.in-Some.first.now.column }) c.args.self.now c.in-Some.others.now (search rules)
