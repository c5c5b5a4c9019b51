-- Terms with a part written anew.
use Rattle.std.specs.Prelude.{ℕ, zero, suc, List, [], ◌∷◌}
use Rattle.ygg_value.specs.declared.shape.Shape.{Shape}
use Rattle.ygg_meaning_laws.specs.ygg_type_rules.Shapes.{part_shape}
use Rattle.ygg_sym_runs.specs.ygg_rules.declared.rule.RuleKind.{RuleKind}
use Rattle.ygg_sym_runs.specs.ygg_bank.Makes.{Make, pure, and_make}
use Rattle.ygg_sym_runs.specs.ygg_bank.declared.node.Id.{Id}
use Rattle.ygg_sym_runs.specs.ygg_shape_cells.Making.{selected, stored}
use Rattle.ygg_sym_runs.specs.ygg_shape_cells.declared.terms.SymValue.{SymValue}
use Rattle.ygg_sym_runs.specs.ygg_shape_cells.declared.terms.SymValue.TheVariants.{Word, Row, Table}
use Rattle.ygg_sym_runs.specs.ygg_shape.RowPlaces.{word_stored}
use Rattle.ygg_sym_runs.specs.Exprs.{id_in}

-- the row that a value is; a word or a table, which no typed file has there, counts as no words
abbrev pub row_in : SymValue → List Id
row_in (Word a) = []
row_in (Row row) = row
row_in (Table table) = []

-- the shape that so many indices lead to
abbrev pub led_to : Shape → ℕ → Shape
led_to s zero = s
led_to s (suc n) = led_to (part_shape s) n

module _ (kinds : List RuleKind) where
  -- the value with the part at these places written anew, the outermost place first; with no place, the new value
  abbrev pub put_made : SymValue → List Id → SymValue → Make SymValue
  put_made old [] new = pure new
  put_made (Word a) (i ∷ is) new = pure (Word a)
  put_made (Row row) (i ∷ is) new = and_make (word_stored kinds row i (id_in new)) (λ written. pure (Row written))
  put_made (Table table) (i ∷ []) new = and_make (stored kinds table i (row_in new)) (λ written. pure (Table written))
  put_made (Table table) (i ∷ j ∷ is) new =
      and_make (selected kinds table i) (λ row. and_make (word_stored kinds row j (id_in new)) (λ part.
      and_make (stored kinds table i part) (λ written. pure (Table written))))
