-- Places that are to be visited.
use Rattle.std.specs.Prelude.{ℕ, Bool}
use Rattle.std.specs.Ordering.{nat_cmp}
use Rattle.std.specs.BTreeSet.{BTreeSet, contains}

-- whether the place is among them
abbrev pub has : BTreeSet ℕ → ℕ → Bool
has pending place = contains nat_cmp pending place
