-- What numbers in a file may be.
use Rattle.std.specs.Prelude.{ℕ, ◌^◌, ◌*◌, Bool, ◌&&◌, nat_lt, nat_le}

-- a width: 1 to 64 digits
abbrev pub width_fits : ℕ → Bool
width_fits w = nat_le 1 w && nat_le w 64

-- a value of a width
abbrev pub value_fits : ℕ → ℕ → Bool
value_fits v w = nat_lt v (2 ^ w)

-- words of a row: 1 to 64
abbrev pub words_fit : ℕ → Bool
words_fit m = nat_le 1 m && nat_le m 64

-- rows of a table: 1 to 256
abbrev pub rows_fit : ℕ → Bool
rows_fit n = nat_le 1 n && nat_le n 256

-- words of a row of a table with n rows: 1 to 64, and at most 4,096 words in all
abbrev pub words_fit_in : ℕ → ℕ → Bool
words_fit_in n m = words_fit m && nat_le (n * m) 4096

-- the bound of a loop or a quantifier over numbers of a width: 1 to 4,096, and at most as many as there are numbers
abbrev pub bound_fits : ℕ → ℕ → Bool
bound_fits n w = nat_le 1 n && nat_le n 4096 && nat_le n (2 ^ w)

-- weights: at most 65,536
abbrev pub weight_fits : ℕ → Bool
weight_fits weight = nat_le weight 65536

-- picks: at most 8
abbrev pub picks_fit : ℕ → Bool
picks_fit picks = nat_le picks 8
