use Rattle.std.proofs.Common.{◌≡◌, ◌++◌, map, take}
use Rattle.ygg_chain.specs.Arena.{made_at}
use Rattle.ygg_chain.proofs.arena.push_patterns.Given as goal

abbrev pub invariant-loop-pattern : goal.invariant-loop-pattern
invariant-loop-pattern l = l.stored.items ≡ l.initial.stored.items ++ map (made_at l.from) (take l.pattern-index l.patterns)
