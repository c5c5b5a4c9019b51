use Rattle.ygg_base.specs.declared.token.Mark.TheVariants as mark
use Rattle.std.proofs.Common.{rules}
use Rattle.ygg_read.proofs.Stopped.{stopped_number, goes_number}
use Rattle.ygg_read.proofs.ExpressionPhrases.{reads_token}
use Rattle.ygg_read.proofs.reader.Reader.number.Goals as goal

pub returns-in_default-mark-clause-refused : goal.returns-in_default-mark-clause-refused
returns-in_default-mark-clause-refused c = stopped_number c.args.self.now (search rules)

pub returns-in_default-clause-refused : goal.returns-in_default-clause-refused
returns-in_default-clause-refused c = stopped_number c.args.self.now (search rules)

pub returns-in-Num-clause-goes : goal.returns-in-Num-clause-goes
returns-in-Num-clause-goes c = goes_number c.in-Num.value
    (record { line = c.in-Some.first.now.line; column = c.in-Some.first.now.column }) c.args.self.now c.in-Some.others.now (search rules)

pub returns-in-Num-clause-reads : goal.returns-in-Num-clause-reads
returns-in-Num-clause-reads c = reads_token (mark.Num c.in-Num.value)
    (record { line = c.in-Some.first.now.line; column = c.in-Some.first.now.column }) c.args.self.now c.in-Some.others.now (search rules)
