use Rattle.ygg_base.specs.declared.token.Mark.TheVariants as mark
use Rattle.std.proofs.Common.{rules}
use Rattle.ygg_read.proofs.Stopped.{stopped_name, goes_name}
use Rattle.ygg_read.proofs.ExpressionPhrases.{reads_token}
use Rattle.ygg_read.proofs.reader.Reader.name.Goals as goal

pub returns-clause-refused : goal.returns-clause-refused
returns-clause-refused c = stopped_name c.args.self.now (search rules)

pub returns-in-Name-clause-goes : goal.returns-in-Name-clause-goes
returns-in-Name-clause-goes c = goes_name c.in_ok-text.text
    (record { line = c.in-Some.first.now.line; column = c.in-Some.first.now.column }) c.args.self.now c.in-Some.others.now (search rules)

pub returns-in-Name-clause-reads : goal.returns-in-Name-clause-reads
returns-in-Name-clause-reads c = reads_token (mark.Name c.in_ok-text.text)
    (record { line = c.in-Some.first.now.line; column = c.in-Some.first.now.column }) c.args.self.now c.in-Some.others.now (search rules)
