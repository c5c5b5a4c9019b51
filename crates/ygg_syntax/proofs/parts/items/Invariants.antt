use Rattle.std.proofs.Common.{◌≡◌, ◌↔◌, map, drop}
use Rattle.ygg_syntax.proofs.parts.items.Given as goal

-- what is left decides
abbrev pub invariant-loop-one : goal.invariant-loop-one
invariant-loop-one g l = (map g.T.Alike.without_places (drop l.one-index l.a) ≡ map g.T.Alike.without_places l.rest)
    ↔ (map g.T.Alike.without_places l.fn.a ≡ map g.T.Alike.without_places l.fn.b)
