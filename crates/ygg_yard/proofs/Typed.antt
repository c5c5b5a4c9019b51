-- The file that is made has no type error.
use Rattle.std.proofs.Common.{◌≡◌, ℕ, ◌≤◌, ◌*◌, ◌^◌, zero, suc, Bool, true, ◌&&◌, List, [], ◌++◌, Some, Option, refl, ap, ◌∙◌, arith}
use Rattle.std.specs.Prelude.{nat_le}
use Rattle.std.proofs.lemmas.Bool.{and_from, and_parts, lt-ltb, le-leb}
use Rattle.ygg_value.specs.declared.shape.Shape.{Shape}
use Rattle.ygg_value.specs.declared.shape.Shape.TheVariants.{Table}
use Rattle.ygg_type_rules.specs.ygg_syntax.Weights.{Weights}
use Rattle.ygg_type_rules.specs.declared.scope.Visibility.TheVariants.{Relation}
use Rattle.ygg_type_rules.specs.declared.type_error.TypeError.{TypeError}
use Rattle.ygg_type_rules.specs.TypeErrors.{TypeErrors, nothing, one, both, none, listed}
use Rattle.ygg_type_rules.specs.Limits.{value_fits, rows_fit, words_fit_in}
use Rattle.ygg_type_rules.specs.Shapes.{table_shape}
use Rattle.ygg_type_rules.specs.Files.{IsTyped, disk_errors, disk_below, type_errors_of}
use Rattle.ygg_type_rules.specs.Layers.{with_operations, operations_errors, formula_errors, blocks_errors, declared_errors, layer_scope}
use Rattle.ygg_yard.specs.Trees.{Places, unwritten, operation_made, operations_made, disk_made, relation_made, layer_made, file_made}
use Rattle.ygg_yard.proofs.Named.{errors_append, new_name}
use Rattle.ygg_yard.proofs.Blocks.{scope_of, shown, relation_fine, operation_fine}

-- no type error is listed where there is none
none_listed : (es : TypeErrors) → none es ≡ true → listed es ≡ []
none_listed nothing h = refl
none_listed (one e) h = absurd (cc)
none_listed (both es fs) h =
    let parts = and_parts (none es) (none fs) h in
    ap (λ (xs : List TypeError). xs ++ listed fs) (none_listed es parts.0) ∙ none_listed fs parts.1

module _ (p : Places) (count : ℕ) (some : 1 ≤ count) (few : count ≤ 256) where
  rows : rows_fit count ≡ true
  rows = and_from (nat_le 1 count) (nat_le count 256) (le-leb 1 count some) (le-leb count 256 few)

  words : words_fit_in count 1 ≡ true
  words = le-leb (count * 1) 4096 (omega (arith, few))

  shape_is : table_shape count 1 8 ≡ Some (Table count 1 8)
  shape_is = rw (rows, words) refl

  disk_fine : none (disk_errors (disk_made p count)) ≡ true
  disk_fine = rw (rows, words) refl

  declared_fine : none (declared_errors (layer_made p count)) ≡ true
  declared_fine = rw (rows, words) refl

  operations_fine : (weights : Weights) (n : ℕ) → n ≤ count →
      none (operations_errors (operations_made p.operation n) unwritten [] weights (shown p count)) ≡ true
  operations_fine weights zero h = refl
  operations_fine weights (suc n) h =
      let fits : value_fits n 8 ≡ true = lt-ltb n (2 ^ 8) (omega (arith, h, few)) in
      errors_append (operations_made p.operation n) (operation_made (p.operation n) n) unwritten [] weights (shown p count)
      (operations_fine weights n (omega (arith, h)))
      (operation_fine p count weights (p.operation n) n fits (with_operations (operations_made p.operation n) [])
      (new_name p.operation n n (omega arith) (omega (arith, h, few))))

  -- the parts that see the table
  seen_fine : Option Shape → Bool
  seen_fine shape =
      none (operations_errors (operations_made p.operation count) unwritten [] [] (scope_of p count shape))
      && (true && (none (formula_errors Relation (relation_made p count) [] (scope_of p count shape)) && true))

  sees : seen_fine (table_shape count 1 8) ≡ true
  unfolding seen_fine
  sees =
      ap seen_fine shape_is
      ∙ and_from (none (operations_errors (operations_made p.operation count) unwritten [] [] (shown p count))) _ (operations_fine [] count (omega arith))
      (and_from (none (formula_errors Relation (relation_made p count) [] (shown p count))) true (relation_fine p count []) refl)

  pub is_typed : IsTyped (file_made p count)
  unfolding seen_fine
  is_typed = none_listed (type_errors_of (file_made p count)) (and_from (none (disk_errors (disk_made p count))) _ disk_fine
      (and_from (none (declared_errors (layer_made p count)) && (none (blocks_errors (layer_made p count) [] (layer_scope [] (disk_below (disk_made p count))
      (layer_made p count))) && seen_fine (table_shape count 1 8))) true
      (and_from (none (declared_errors (layer_made p count))) _ declared_fine sees) refl))
