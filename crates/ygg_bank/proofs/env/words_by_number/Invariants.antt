use Rattle.std.proofs.Common.{◌≡◌, ℕ, take, nat_eq}
use Rattle.indexmap.specs.IndexMap.{get}
use Rattle.ygg_bank.specs.Values.{given_for}
use Rattle.ygg_bank.proofs.env.words_by_number.Given as goal

-- what the items so far give is known
abbrev pub invariant-loop-given : goal.invariant-loop-given
invariant-loop-given l = (number : ℕ) → get nat_eq l.words number ≡ given_for (take l.given-index l.given-items) number
