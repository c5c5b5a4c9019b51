use Rattle.std.proofs.Common.{◌≡◌, ◌↔◌, map, drop}
use Rattle.ygg_syntax.specs.Bare.{bare_statement}
use Rattle.ygg_syntax.proofs.statements.+blocks.Given as goal

-- what is left decides
abbrev pub invariant-statements-loop-one : goal.invariant-statements-loop-one
invariant-statements-loop-one l = (map bare_statement (drop l.one-index l.a) ≡ map bare_statement l.rest)
    ↔ (map bare_statement l.fn.a ≡ map bare_statement l.fn.b)
