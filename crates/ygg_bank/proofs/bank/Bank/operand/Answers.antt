use Rattle.ygg_bank.proofs.Stored.{constant_operand}
use Rattle.ygg_bank.proofs.bank.Bank.operand.Goals as goal

pub returns-in-Const-clause-value : goal.returns-in-Const-clause-value
returns-in-Const-clause-value c =
    constant_operand c.args.self.now c.args.id c.in-Const.word c.node.result c.in-Const.is c.node.ensures.there c.node.ensures.width c.known.result
    c.known.ensures.value
