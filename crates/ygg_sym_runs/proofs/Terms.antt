-- The terms that an expression has: what they are worth, which shape they have, and that they are found among more nodes too.
use Rattle.std.proofs.Common.{◌≡◌, true, List, [], reverse, Ok, Err, Result, IfOk, OnOk, Some, sym, ap, ◌∙◌, subst}
use Rattle.ygg_value.specs.Shapes.{shape_of}
use Rattle.ygg_value.specs.declared.shape.Shape.{Shape}
use Rattle.ygg_syntax.specs.declared.tree.Expr.{Expr}
use Rattle.ygg_eval_expr.specs.ygg_meaning_laws.TypeErrors.{none}
use Rattle.ygg_eval_expr.specs.ygg_meaning_laws.Expressions.{typing}
use Rattle.ygg_eval_expr.specs.ygg_meaning_laws.Definitions.{with_definitions}
use Rattle.ygg_eval_expr.specs.ygg_meaning_laws.Meaning.{functions_of, value_with}
use Rattle.ygg_eval_expr.specs.ygg_meaning_laws_proofs_Sounds.{sound}
use Rattle.ygg_shape.specs.ygg_rules.declared.rule.RuleKind.{RuleKind}
use Rattle.ygg_shape.specs.ygg_bank_proofs_Meaning.{fits_fewer}
use Rattle.ygg_shape.specs.ygg_bank.Inputs.{InputsBelow, KeepsInputs}
use Rattle.ygg_shape.specs.ygg_bank.Nodes.{IsBank, Extends}
use Rattle.ygg_shape.specs.ygg_bank.Values.{Inputs, Values, Fits, value_of}
use Rattle.ygg_shape.specs.ygg_bank.declared.node.Node.{Node}
use Rattle.ygg_shape.specs.ygg_shape_cells.Terms.{IsShaped}
use Rattle.ygg_shape.specs.ygg_shape_cells.declared.terms.SymValue.{SymValue}
use Rattle.ygg_shape.specs.ygg_shape_words_proofs_Keeps.{inputs_stay}
use Rattle.ygg_shape.proofs.Answered.{no_inputs, some_fit}
use Rattle.ygg_sym_runs.specs.ExpressionMeaning.{Grows, SomeShape, scope_worth, IsWorth}
use Rattle.ygg_sym_runs.specs.Seen.{SymKnown, CanTerm, terms_called, terms_in}
use Rattle.ygg_sym_runs.proofs.Definitions.{functions_mean}
use Rattle.ygg_sym_runs.proofs.Grows.{functions_grow, value_grows}
use Rattle.ygg_sym_runs.proofs.Keeps.{functions_keep, value_keeps}
use Rattle.ygg_sym_runs.proofs.Shaped.{scope_wider, worth_shape}
use Rattle.ygg_sym_runs.proofs.Values.{value_means}

-- among more nodes
pub can_later : (k : SymKnown) (old new : List Node) (e : Expr) → Extends old new → CanTerm k old e → CanTerm k new e
can_later k old new e g can = record {
  scope = can.scope;
  defs = can.defs;
  sound = can.sound;
  without_errors = can.without_errors;
  shaped = scope_wider old new k.scope g can.shaped;
  agrees = λ inputs v h. can.agrees inputs v (fits_fewer inputs v old new g h);
}

-- another expression without a type error in that scope
pub can_other : (k : SymKnown) (nodes : List Node) (e f : Expr) (can : CanTerm k nodes e) → none (typing f can.scope).type_errors ≡ true → CanTerm k nodes f
can_other k nodes e f can h = record {
  scope = can.scope;
  defs = can.defs;
  sound = can.sound;
  without_errors = h;
  shaped = can.shaped;
  agrees = can.agrees;
}

module _ (kinds : List RuleKind) (k : SymKnown) where
  pub terms_grow : (e : Expr) → Grows (terms_in kinds k e)
  terms_grow e nodes = value_grows kinds (terms_called kinds k.defs) (functions_grow kinds (reverse k.defs)) e k.scope nodes

  -- no inputs come
  pub terms_keep : (e : Expr) (nodes : List Node) → KeepsInputs nodes (terms_in kinds k e nodes).nodes
  terms_keep e nodes next h =
      value_keeps kinds (InputsBelow next) (inputs_stay kinds next) (terms_called kinds k.defs)
      (functions_keep kinds (InputsBelow next) (inputs_stay kinds next) (reverse k.defs)) e k.scope nodes h

  -- the terms are worth the expression's value, under words that fit
  pub terms_worth : (e : Expr) (nodes : List Node) (inputs : Inputs) (v : Values) → CanTerm k nodes e → Fits inputs v (terms_in kinds k e nodes).nodes →
      IsWorth v (value_with (functions_of k.defs) e (scope_worth v k.scope)) (terms_in kinds k e nodes).nodes (terms_in kinds k e nodes).value
  terms_worth e nodes inputs v can h =
      let m = value_means inputs v kinds (with_definitions k.defs []) (functions_of k.defs) (terms_called kinds k.defs) (functions_grow kinds (reverse k.defs))
      (functions_mean inputs v kinds k.defs can.sound) e in
      m.gives can.scope k.scope nodes can.defs (can.agrees inputs v (fits_fewer inputs v nodes (terms_in kinds k e nodes).nodes (terms_grow e nodes) h))
      can.without_errors can.shaped h

  -- the terms have the shape that typing takes the expression to have
  pub terms_shaped : (e : Expr) (nodes : List Node) (s : Shape) (can : CanTerm k nodes e) → IsBank (terms_in kinds k e nodes).nodes →
      (typing e can.scope).part.shape ≡ Some s → IsShaped (terms_in kinds k e nodes).nodes s (terms_in kinds k e nodes).value
  terms_shaped e nodes s can bank is =
      let o = terms_in kinds k e nodes in
      let v = value_of no_inputs o.nodes in
      let h = some_fit o.nodes bank in
      let w = terms_worth e nodes no_inputs v can h in
      let env = scope_worth v k.scope in
      let agrees = can.agrees no_inputs v (fits_fewer no_inputs v nodes o.nodes (terms_grow e nodes) h) in
      let has = (sound (functions_of k.defs) e).gives can.scope env agrees can.without_errors in
      let t = w.shaped in
      let same : Some t.shape ≡ Some s =
      ap (λ x. Some x) (sym (worth_shape no_inputs v o.nodes t.shape o.value h t.stands) ∙ ap shape_of w.is) ∙ sym has.is ∙ is in
      let shape_is : t.shape ≡ s = cc in
      subst (λ x. IsShaped o.nodes x o.value) shape_is t.stands

  -- what a call that answers them says of the answer and of the bank
  pub record Answered {E : Type 0} (e : Expr) (old new : List Node) (r : Result SymValue E) : Type 0 where
    pub shape : IfOk r (SomeShape new)
    pub inputs : OnOk r (KeepsInputs old new)

  pub answered : {E : Type 0} (e : Expr) (old new : List Node) (r : Result SymValue E) → CanTerm k old e → IsBank new →
      OnOk r (new ≡ (terms_in kinds k e old).nodes) → IfOk r (λ x. x ≡ (terms_in kinds k e old).value) → Answered e old new r
  answered e old new (Ok x) can bank nodes form =
      let o = terms_in kinds k e old in
      let w = terms_worth e old no_inputs (value_of no_inputs o.nodes) can (some_fit o.nodes (subst IsBank nodes bank)) in
      record {
        shape = subst (λ z. SomeShape z x) (sym nodes) (subst (SomeShape o.nodes) (sym form) w.shaped);
        inputs = subst (KeepsInputs old) (sym nodes) (terms_keep e old);
      }
  answered e old new (Err x) can bank nodes form = record { shape = tt; inputs = tt }
