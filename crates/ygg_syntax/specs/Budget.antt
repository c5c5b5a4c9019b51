-- Where counts stop.
use Rattle.std.specs.Prelude.{ℕ}

-- a count that is greater is given as this one
abbrev pub limit : ℕ
limit = 1000000
