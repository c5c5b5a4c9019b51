-- How literals, clauses and steps of logs are written.
use Rattle.std.specs.Prelude.{ℕ, List, [], ◌∷◌, ◌++◌, codes, if◌then◌else◌}
use Rattle.std.specs.List.{flat_map}
use Rattle.std.specs.Fmt.{decimal}
use Rattle.ygg_cnf.specs.declared.lit.Lit.{Lit}
use Rattle.ygg_cnf.specs.declared.log.Step.{Step}
use Rattle.ygg_cnf.specs.declared.log.Step.TheVariants.{Added}

-- a literal: its variable in decimal digits, with `-` before it where it is negated
abbrev pub literal_word : Lit → List ℕ
literal_word x = if x.negated then 45 ∷ decimal x.var else decimal x.var

-- literals, each with a space after it
abbrev pub literal_words : List Lit → List ℕ
literal_words xs = flat_map (λ x. literal_word x ++ 32 ∷ []) xs

-- numbers, each with a space after it
abbrev pub number_words : List ℕ → List ℕ
number_words ns = flat_map (λ n. decimal n ++ 32 ∷ []) ns

-- the line of a clause: its literals, and 0
abbrev pub clause_line : List Lit → List ℕ
clause_line clause = literal_words clause ++ codes "0\n"

-- the line of a derived clause: `c`, its literals and 0, the numbers of the clauses that it is derived from, and 0
abbrev pub step_line : Step → List ℕ
step_line (Added clause chain) = codes "c " ++ literal_words clause ++ codes "0 " ++ number_words chain ++ codes "0\n"
