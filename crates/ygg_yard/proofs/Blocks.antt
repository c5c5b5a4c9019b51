-- The operations of a file that is made have no type error.
use Rattle.std.proofs.Common.{◌≡◌, ℕ, ◌+◌, Bool, true, false, not, List, [], ◌∷◌, codes, Some, None, Option, refl, ap, ◌∙◌}
use Rattle.std.specs.Prelude.{sum}
use Rattle.std.proofs.lemmas.Bool.{and_from, eq-eqb}
use Rattle.ygg_base.specs.declared.reason.Reason.TheVariants as reason
use Rattle.ygg_value.specs.declared.operation.Op.TheVariants as op
use Rattle.ygg_value.specs.declared.shape.Shape.{Shape}
use Rattle.ygg_value.specs.declared.shape.Shape.TheVariants.{Word, Table}
use Rattle.ygg_type_rules.specs.Names.{Named, look_up, has}
use Rattle.ygg_syntax.specs.declared.tree.Place.{Place}
use Rattle.ygg_syntax.specs.declared.tree.Expr.TheVariants as expr
use Rattle.ygg_syntax.specs.declared.tree.Source.TheVariants as source
use Rattle.ygg_syntax.specs.declared.tree.Stmt.{Stmt}
use Rattle.ygg_syntax.specs.declared.tree.Operation.{Operation}
use Rattle.ygg_syntax.specs.Choices.{choices_of}
use Rattle.ygg_type_rules.specs.ygg_syntax.Weights.{Weights, expr_weight, block_weight}
use Rattle.ygg_type_rules.specs.declared.scope.Local.{Local}
use Rattle.ygg_type_rules.specs.declared.scope.Owner.TheVariants.{State}
use Rattle.ygg_type_rules.specs.declared.scope.Signature.{Signature}
use Rattle.ygg_type_rules.specs.declared.scope.Visibility.TheVariants.{Specification, Implementation, Relation, Settled}
use Rattle.ygg_type_rules.specs.TypeErrors.{TypeErrors, nothing, both, none, unless}
use Rattle.ygg_type_rules.specs.Limits.{value_fits, weight_fits, picks_fit}
use Rattle.ygg_type_rules.specs.Scopes.{Scope, name_in, seen_as}
use Rattle.ygg_type_rules.specs.Expressions.{Typing, own, construct, parts_of, name_rule, operator_rule, index_rule, row_rule, typing, wanted}
use Rattle.ygg_type_rules.specs.Definitions.{with_parameters}
use Rattle.ygg_type_rules.specs.Statements.{Walked, walked, then_indexed, target_rule, assignment_errors, call_rule, inside}
use Rattle.ygg_type_rules.specs.Files.{disk_operations}
use Rattle.ygg_type_rules.specs.Layers.{view_errors, operation_errors, formula_errors}
use Rattle.ygg_yard.specs.Trees.{
  Places,
  name_at,
  number_at,
  unwritten,
  put_name,
  row_number,
  row_given,
  index_made,
  put_made,
  write_made,
  operation_made,
  disk_made,
  relation_made,
}
use Rattle.ygg_yard.proofs.Folds.{
  type_constant,
  type_variable,
  type_low,
  type_row,
  type_binary,
  walked_assign,
  walked_call,
  weight_constant,
  weight_variable,
  weight_low,
  weight_row,
  weight_binary,
  weight_assign,
  weight_call,
  steps_assign,
}

module _ (p : Places) (count : ℕ) where
  -- what the parts of the layer have in scope, where its table has this shape
  abbrev pub scope_of : Option Shape → Scope
  scope_of shape = record {
    defs = [];
    lower = disk_operations (disk_made p count);
    low = (codes "view", record { kind = State; shape = shape }) ∷ [];
    variables = (codes "t", record { kind = State; shape = shape }) ∷ [];
    view = Settled;
    locals = [];
  }

  abbrev pub shown : Scope
  shown = scope_of (Some (Table count 1 8))

  -- a variable of the right name
  typed_variable : (s : Scope) (text : List ℕ) (at : Place) (l : Local) → name_in text s ≡ Some l →
      typing (expr.Variable (name_at text at)) s ≡ construct at [] (own nothing l.shape)
  typed_variable s text at l h = type_variable s (name_at text at) ∙ ap (λ (f : Option Local). construct at [] (name_rule (name_at text at) f)) h

  module _ (weights : Weights) where
    -- the relation
    pub relation_fine : none (formula_errors Relation (relation_made p count) weights shown) ≡ true
    relation_fine =
        ap (λ (t : Typing). none (both (both t.type_errors (wanted t.part (Some (Word 1))))
        (unless (weight_fits (expr_weight weights (relation_made p count))) reason.TooLong t.part.place))) typed
        ∙ ap (λ (k : ℕ). none (both (both (whole low own_t).type_errors (wanted (whole low own_t).part (Some (Word 1))))
        (unless (weight_fits k) reason.TooLong (whole low own_t).part.place))) weighs
        ∙ equal
      where
        s : Scope
        s = seen_as Relation shown

        low : Typing
        low = construct (p.tail 2) [] (own nothing (Some (Table count 1 8)))

        own_t : Typing
        own_t = construct (p.tail 6) [] (own nothing (Some (Table count 1 8)))

        whole : Typing → Typing → Typing
        whole a b = construct (p.tail 1) (a ∷ b ∷ []) (operator_rule op.Eq (p.tail 5) a.part b.part)

        left_is : typing (expr.Low (p.tail 2) (name_at (codes "view") (p.tail 4))) s ≡ low
        left_is = type_low s (p.tail 2) (name_at (codes "view") (p.tail 4))

        right_is : typing (expr.Variable (name_at (codes "t") (p.tail 6))) s ≡ own_t
        right_is = type_variable s (name_at (codes "t") (p.tail 6))

        typed : typing (relation_made p count) s ≡ whole low own_t
        typed =
            type_binary s (p.tail 1) (expr.Low (p.tail 2) (name_at (codes "view") (p.tail 4))) op.Eq (p.tail 5)
            (expr.Variable (name_at (codes "t") (p.tail 6)))
            ∙ ap (λ (t : Typing). whole t (typing (expr.Variable (name_at (codes "t") (p.tail 6))) s)) left_is ∙ ap (whole low) right_is

        weighs : expr_weight weights (relation_made p count) ≡ 3
        weighs =
            weight_binary weights (p.tail 1) (expr.Low (p.tail 2) (name_at (codes "view") (p.tail 4))) op.Eq (p.tail 5)
            (expr.Variable (name_at (codes "t") (p.tail 6)))
            ∙ ap (λ (k : ℕ). 1 + k + expr_weight weights (expr.Variable (name_at (codes "t") (p.tail 6))))
            (weight_low weights (p.tail 2) (name_at (codes "view") (p.tail 4)))
            ∙ ap (λ (k : ℕ). 1 + 1 + k) (weight_variable weights (name_at (codes "t") (p.tail 6)))

        equal : none (both (both (whole low own_t).type_errors (wanted (whole low own_t).part (Some (Word 1))))
            (unless (weight_fits 3) reason.TooLong (whole low own_t).part.place)) ≡ true
        equal = rw (eq-eqb count count refl) refl

    module _ (at : ℕ → Place) (number : ℕ) (fits : value_fits number 8 ≡ true) where
      abbrev o : Operation
      o = operation_made at number

      abbrev within : Scope
      within = with_parameters o.arguments shown

      -- a number of 8 digits
      abbrev number_t : ℕ → Typing
      number_t a = construct (at a) [] (own (both nothing nothing) (Some (Word 8)))

      typed_number : (s : Scope) (a b : ℕ) → typing (row_number at number a b) s ≡ number_t a
      typed_number s a b = type_constant s (number_at number (at a)) (number_at 8 (at b))
          ∙ ap (λ (x : Bool). construct (at a) [] (own (both (unless x reason.Width (at a)) nothing) (Some (Word 8)))) fits

      -- the row that is given
      abbrev given_t : ℕ → Typing
      given_t b = construct (at b) [] (own nothing (Some (Word 8)))

      abbrev row_t : ℕ → ℕ → Typing
      row_t a b = construct (at a) (given_t b ∷ []) (row_rule (at a) (parts_of (given_t b ∷ [])))

      typed_row : (s : Scope) (a b : ℕ) → name_in (codes "v") s ≡ Some (record { shape = Some (Word 8); assignable = false }) →
          typing (row_given at number a b) s ≡ row_t a b
      typed_row s a b h =
          type_row s (at a) (expr.Variable (name_at (codes "v") (at b)))
          ∙ ap (λ (t : Typing). construct (at a) (t ∷ []) (row_rule (at a) (parts_of (t ∷ []))))
          (typed_variable s (codes "v") (at b) (record { shape = Some (Word 8); assignable = false }) h)

      weighs_number : (a b : ℕ) → expr_weight weights (row_number at number a b) ≡ 1
      weighs_number a b = weight_constant weights (number_at number (at a)) (number_at 8 (at b))

      weighs_row : (a b : ℕ) → expr_weight weights (row_given at number a b) ≡ 2
      weighs_row a b =
          weight_row weights (at a) (expr.Variable (name_at (codes "v") (at b)))
          ∙ ap (λ (k : ℕ). 1 + sum (k ∷ [])) (weight_variable weights (name_at (codes "v") (at b)))

      -- the specification's block
      spec_fine : none (view_errors Specification o.spec None weights within) ≡ true
      spec_fine =
          and_from (none (inside (walked put ∷ []) None None s)) (none (unless (weight_fits (block_weight weights o.spec)) reason.TooLong (at 9)))
          (ap (λ (w : Scope → Walked). none (inside (w ∷ []) None None s))
          (walked_assign (name_at (codes "t") (at 10)) (index_made at number ∷ []) (source.Value (row_given at number 17 19)))
          ∙ ap (λ (t : Typing). none (both (both (body t (typing (row_given at number 17 19) s)) nothing) nothing)) (typed_number s 12 14)
          ∙ ap (λ (t : Typing). none (both (both (body (number_t 12) t) nothing) nothing)) (typed_row s 17 19 refl))
          (ap (λ (k : ℕ). none (unless (weight_fits k) reason.TooLong (at 9))) weighs)
        where
          s : Scope
          s = seen_as Specification within

          put : Stmt
          put = put_made at number

          body : Typing → Typing → TypeErrors
          body t u =
              let target = target_rule (name_at (codes "t") (at 10)) (name_in (codes "t") s) in
              let place = then_indexed t (index_rule target.shape (at 11) t.part) (λ (shape : Option Shape). record { type_errors = nothing; shape = shape }) in
              assignment_errors (record { type_errors = both target.type_errors place.type_errors; shape = place.shape }) u

          weighs : block_weight weights o.spec ≡ 4
          weighs =
              ap (λ (k : ℕ). sum (k ∷ []) + 0) (weight_assign weights (name_at (codes "t") (at 10)) (index_made at number ∷ [])
              (source.Value (row_given at number 17 19))
              ∙ ap (λ (k : ℕ). 1 + sum (k ∷ []) + expr_weight weights (row_given at number 17 19)) (weighs_number 12 14)
              ∙ ap (λ (k : ℕ). 1 + sum (1 ∷ []) + k) (weighs_row 17 19))

      -- the implementation's block
      implementation_fine : none (view_errors Implementation o.implementation None weights within) ≡ true
      implementation_fine =
          and_from (none (inside (walked write ∷ []) None None s)) (none (unless (weight_fits (block_weight weights o.implementation)) reason.TooLong (at 24)))
          (ap (λ (w : Scope → Walked). none (inside (w ∷ []) None None s))
          (walked_call (name_at (codes "write") (at 26)) (row_number at number 28 30 ∷ row_given at number 32 34 ∷ []))
          ∙ ap (λ (t : Typing). none (both (both (body t (typing (row_given at number 32 34) s)) nothing) nothing)) (typed_number s 28 30)
          ∙ ap (λ (t : Typing). none (both (both (body (number_t 28) t) nothing) nothing)) (typed_row s 32 34 refl))
          (ap (λ (k : ℕ). none (unless (weight_fits k) reason.TooLong (at 24))) weighs)
        where
          s : Scope
          s = seen_as Implementation within

          write : Stmt
          write = write_made at number

          body : Typing → Typing → TypeErrors
          body t u = (construct (at 26) (t ∷ u ∷ [])
              (call_rule false (name_at (codes "write") (at 26)) (look_up (codes "write") s.lower) (parts_of (t ∷ u ∷ [])))).type_errors

          weighs : block_weight weights o.implementation ≡ 4
          weighs =
              ap (λ (k : ℕ). sum (k ∷ []) + 0) (weight_call weights (name_at (codes "write") (at 26))
              (row_number at number 28 30 ∷ row_given at number 32 34 ∷ [])
              ∙ ap (λ (k : ℕ). 1 + sum (k ∷ expr_weight weights (row_given at number 32 34) ∷ [])) (weighs_number 28 30)
              ∙ ap (λ (k : ℕ). 1 + sum (1 ∷ k ∷ [])) (weighs_row 32 34))

      -- the operation, whose name is new
      pub operation_fine : (known : Named Signature) → has (put_name number) known ≡ false → none (operation_errors o unwritten known weights shown) ≡ true
      operation_fine known new =
          and_from (none (unless (not (has (put_name number) known)) reason.Twice (at 1))) _
          (ap (λ (b : Bool). none (unless (not b) reason.Twice (at 1))) new)
          (and_from (none (both (unless (picks_fit (choices_of o.spec)) reason.TooManyChoices (at 1))
          (unless (picks_fit (1 + choices_of o.spec + 0)) reason.TooManyChoices (at 1)))) _
          (ap (λ (k : ℕ). none (both (unless (picks_fit (sum (k ∷ []))) reason.TooManyChoices (at 1))
          (unless (picks_fit (1 + sum (k ∷ []) + 0)) reason.TooManyChoices (at 1))))
          (steps_assign 1 0 (name_at (codes "t") (at 10)) (index_made at number ∷ []) (source.Value (row_given at number 17 19))))
          (and_from (none (view_errors Specification o.spec None weights within)) _ spec_fine implementation_fine))
