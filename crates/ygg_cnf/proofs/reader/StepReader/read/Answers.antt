use Rattle.ygg_cnf.proofs.Ending.{reads_literal, reads_number, reads_on, reads_wrong}
use Rattle.ygg_cnf.proofs.reader.StepReader.read.Goals as goal

pub returns-in_ok-push-in-Literal : goal.returns-in_ok-push-in-Literal
returns-in_ok-push-in-Literal c before was = reads_literal before _ _ _ _ _ _ was c.in-Literal.ensures c.in_ok-push-in-Literal.ensures.ok

pub returns-in_ok-push-in-Number : goal.returns-in_ok-push-in-Number
returns-in_ok-push-in-Number c before was = reads_number before _ _ _ _ _ _ was c.in-Number.ensures c.in_ok-push-in-Number.ensures.ok

pub returns-in-To : goal.returns-in-To
returns-in-To c before was = reads_on before _ _ _ (λ clause. clause) (λ chain. chain) _ _ was (c.in-To.ensures was.place) was.may

pub returns-in-Wrong : goal.returns-in-Wrong
returns-in-Wrong c before was = reads_wrong before _ _ _ _ was (c.in-Wrong.ensures was.place)
