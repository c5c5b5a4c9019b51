use Rattle.std.proofs.Common.{◌≡◌, drop}
use Rattle.ygg_base.specs.Lexing.{spelled}
use Rattle.ygg_lex.proofs.spelling.first_spelled.Given as goal

abbrev pub invariant-loop-one : goal.invariant-loop-one
invariant-loop-one g l = spelled g.T.Spelled.spelling (drop l.one-index l.table) l.part ≡ spelled g.T.Spelled.spelling l.table l.part
