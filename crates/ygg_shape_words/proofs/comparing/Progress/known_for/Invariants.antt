use Rattle.std.proofs.Common.{◌≡◌, drop}
use Rattle.ygg_shape_words.specs.Same.{known_for}
use Rattle.ygg_shape_words.proofs.comparing.Progress.known_for.Given as goal

-- the pairs still to come give what all pairs give
abbrev pub invariant-loop-known : goal.invariant-loop-known
invariant-loop-known l = known_for (drop l.known-index l.known-items) l.one l.two ≡ known_for l.self.known l.one l.two
