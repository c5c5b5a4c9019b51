-- The header of a text of clauses.
use Rattle.std.specs.Prelude.{ℕ, ◌&&◌, if◌then◌else◌, List, [], ◌∷◌, Option, None, codes, option_and_then}
use Rattle.std.specs.Option.{option_map}
use Rattle.std.specs.Str.{bytes_eq}
use Rattle.ygg_dimacs.specs.declared.header.Header.{Header}
use Rattle.ygg_dimacs.specs.Places.{TextWord}
use Rattle.ygg_dimacs.specs.Words.{words_from}
use Rattle.ygg_dimacs.specs.Numbers.{number_in}

-- the greatest number of variables
abbrev pub most_variables : ℕ
most_variables = 4000000

-- the greatest number of clauses
abbrev pub most_clauses : ℕ
most_clauses = 4294967295

-- a header with these numbers
abbrev pub header : ℕ → ℕ → Header
header variables clauses = record { variables = variables; clauses = clauses }

-- the header that the words `p`, `cnf` and two numbers are
abbrev pub header_by : List ℕ → List ℕ → List ℕ → List ℕ → Option Header
header_by p cnf variables clauses =
    if bytes_eq p (codes "p") && bytes_eq cnf (codes "cnf")
    then option_and_then (λ v. option_map (header v) (number_in most_clauses clauses)) (number_in most_variables variables)
    else None

-- the header that four words are
abbrev pub header_of : List TextWord → Option Header
header_of (p ∷ cnf ∷ variables ∷ clauses ∷ []) = header_by p.bytes cnf.bytes variables.bytes clauses.bytes
header_of _ = None

-- the header that a line is: `p cnf V C`
abbrev pub header_in : List ℕ → Option Header
header_in bytes = header_of (words_from 1 1 bytes)
