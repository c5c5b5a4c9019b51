-- The text of clauses.
use Rattle.std.specs.Prelude.{ℕ, ◌≤◌, List, ◌++◌, All, codes, length}
use Rattle.std.specs.List.{flat_map}
use Rattle.std.specs.Fmt.{decimal}
use Rattle.ygg_cnf.specs.declared.lit.Lit.{Lit}
use Rattle.ygg_cnf.specs.Lines.{clause_line}
use Rattle.ygg_dimacs.specs.declared.cnf.Cnf.{Cnf}

-- the header of so many clauses over so many variables
abbrev pub header_line : ℕ → ℕ → List ℕ
header_line variables clauses = codes "p cnf " ++ decimal variables ++ codes " " ++ decimal clauses ++ codes "\n"

-- the lines of clauses
abbrev pub clause_lines : List (List Lit) → List ℕ
clause_lines clauses = flat_map clause_line clauses

-- the text of clauses: the header, and a line for each
abbrev pub cnf_text : Cnf → List ℕ
cnf_text c = header_line c.variables (length c.clauses) ++ clause_lines c.clauses

-- each literal's variable is at most this one
abbrev pub AreWithin : ℕ → List (List Lit) → Type 0
AreWithin variables clauses = All (All (λ (x : Lit). x.var ≤ variables)) clauses
