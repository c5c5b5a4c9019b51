use Rattle.std.proofs.Common.{◌≡◌, ◌↔◌, map, drop}
use Rattle.ygg_syntax.specs.Bare.{bare}
use Rattle.ygg_syntax.proofs.expressions.+expressions.Given as goal

-- what is left decides
abbrev pub invariant-expressions-loop-one : goal.invariant-expressions-loop-one
invariant-expressions-loop-one l = (map bare (drop l.one-index l.a) ≡ map bare l.rest) ↔ (map bare l.fn.a ≡ map bare l.fn.b)
