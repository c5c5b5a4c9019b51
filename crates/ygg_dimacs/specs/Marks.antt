-- The literals of a clause, marked.
use Rattle.std.specs.Prelude.{Bool, List, Contains, All, length}
use Rattle.ygg_cnf.specs.declared.lit.Lit.{Lit}
use Rattle.ygg_cnf_set.specs.LiteralSet.{Fits, IsSetOf}

-- the marks are those of the clause's literals, which all have room among them
pub record IsMarked (marks : List Bool) (clause : List Lit) : Type 0 where
  pub are : IsSetOf marks (Contains clause)
  pub fit : All (Fits (length marks)) clause
