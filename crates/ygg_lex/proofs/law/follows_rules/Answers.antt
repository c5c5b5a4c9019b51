use Rattle.std.proofs.Common.{sym}
use Rattle.ygg_lex.proofs.Agree.{agree}
use Rattle.ygg_lex.proofs.Follows.{follows}
use Rattle.ygg_lex.proofs.law.follows_rules.Goals as goal

pub returns-clause-follows : goal.returns-clause-follows
returns-clause-follows c text = follows text

pub returns-clause-agree : goal.returns-clause-agree
returns-clause-agree c text answer reads = sym (agree reads 1)
