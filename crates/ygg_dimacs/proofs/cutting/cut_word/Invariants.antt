use Rattle.std.proofs.Common.{◌≡◌, ℕ, ◌<◌, get_or, false}
use Rattle.ygg_base.specs.Lexing.{is_blank}
use Rattle.ygg_dimacs.proofs.cutting.cut_word.Given as goal

-- no blank so far
abbrev pub invariant-loop-place : goal.invariant-loop-place
invariant-loop-place l = (k : ℕ) → k < l.place → is_blank (get_or l.bytes k 0) ≡ false
