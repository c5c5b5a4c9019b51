-- Names with values of terms.
use Rattle.std.specs.Prelude.{if◌then◌else◌, List, [], ◌∷◌}
use Rattle.std.specs.Str.{bytes_eq}
use Rattle.ygg_syntax.specs.declared.tree.Declared.{Declared}
use Rattle.ygg_eval_expr.specs.ygg_meaning_laws.Environments.{Name}
use Rattle.ygg_shape.specs.ygg_bank.Making.{id}
use Rattle.ygg_shape.specs.ygg_shape_cells.declared.terms.SymValue.{SymValue}
use Rattle.ygg_shape.specs.ygg_shape_cells.declared.terms.SymValue.TheVariants.{Word}

-- values of names; the first of a name counts, and new names are put at the end
abbrev pub SymEnv : Type 0
SymEnv = List (Name × SymValue)

-- what stands where no typed file has a value
abbrev pub no_term : SymValue
no_term = Word (id 0)

-- the value of a name
abbrev pub sym_look_up : Name → SymEnv → SymValue
sym_look_up name [] = no_term
sym_look_up name (b ∷ env) = if bytes_eq b.0 name then b.1 else sym_look_up name env

-- the declared names with these values, in order
abbrev pub sym_bind : List Declared → List SymValue → SymEnv
sym_bind [] xs = []
sym_bind (p ∷ ps) [] = []
sym_bind (p ∷ ps) (x ∷ xs) = (p.name.text, x) ∷ sym_bind ps xs

-- the names that an expression sees: its own, and behind `low` those of the machine below
pub record SymScope : Type 0 where
  pub own : SymEnv
  pub low : SymEnv
