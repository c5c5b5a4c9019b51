-- What a statement without a type error asks, and what it puts where.
use Rattle.std.proofs.Common.{◌≡◌, Bool, true, false, ◌&&◌, if◌then◌else◌, not, List, [], ◌∷◌}
use Rattle.std.proofs.Common.{length, All, Option, Some, None, is_none, refl, sym, ap, ◌∙◌, subst}
use Rattle.std.proofs.lemmas.Bool.{and_from as both_of}
use Rattle.std.proofs.lemmas.List.Elements.{All-cons, All-nil}
use Rattle.ygg_value.specs.declared.row.Value.{Value}
use Rattle.ygg_value.specs.declared.shape.Shape.{Shape}
use Rattle.ygg_value.specs.Shapes.{shape_of}
use Rattle.ygg_syntax.specs.declared.tree.Place.{Place}
use Rattle.ygg_syntax.specs.declared.tree.Name.{Name}
use Rattle.ygg_syntax.specs.declared.tree.Index.{Index}
use Rattle.ygg_syntax.specs.declared.tree.Expr.{Expr}
use Rattle.ygg_meaning_laws.specs.ygg_type_rules.Names.{Named, look_up}
use Rattle.ygg_meaning_laws.specs.ygg_type_rules.declared.scope.TypedExpr.{TypedExpr}
use Rattle.ygg_meaning_laws.specs.ygg_type_rules.declared.scope.Signature.{Signature}
use Rattle.ygg_meaning_laws.specs.ygg_type_rules.TypeErrors.{none, both, unless}
use Rattle.ygg_meaning_laws.specs.ygg_type_rules.Shapes.{part_shape, is_word}
use Rattle.ygg_meaning_laws.specs.ygg_type_rules.Scopes.{Scope}
use Rattle.ygg_meaning_laws.specs.ygg_type_rules.Expressions.{wanted_word, typing, typings, type_errors_in, parts_of, index_rule}
use Rattle.ygg_meaning_laws.specs.ygg_type_rules.Statements.{call_rule, call_typing, indexed}
use Rattle.ygg_meaning_laws.specs.ygg_meaning.Environments.{Env}
use Rattle.ygg_meaning_laws.specs.ygg_meaning.Meaning.{Functions, value_with}
use Rattle.ygg_meaning_laws.specs.ygg_meaning.Shapes.{fits}
use Rattle.ygg_meaning_laws.specs.ygg_meaning.Progress.{Answer, Call, values_of}
use Rattle.ygg_meaning_laws.specs.Fitting.{HasShape, fits_wanted}
use Rattle.ygg_meaning_laws.specs.Agrees.{Agrees}
use Rattle.ygg_meaning_laws.proofs.Tests.{left as first_of, right as second_of}
use Rattle.ygg_meaning_laws.proofs.Fits.{fits_has}
use Rattle.ygg_meaning_laws.proofs.Rules.{word_without_errors}
use Rattle.ygg_meaning_laws.proofs.Lists.{have_shapes}
use Rattle.ygg_meaning_laws.proofs.Sounds.{sound}
use Rattle.ygg_meaning_laws.specs.Questions.{plain, answer_has, gives, answer_fits}
use Rattle.ygg_meaning_laws.specs.Blocks.{eval_with}
use Rattle.ygg_meaning_laws.proofs.ProgressSounds.{ExpressionsHave, arguments_have}
use Rattle.ygg_meaning_laws.proofs.TypeErrors.{Called, called}
use Rattle.ygg_base.specs.declared.reason.Reason.TheVariants as reason
use Rattle.ygg_sym_runs.specs.Runs.{places_of}
use Rattle.ygg_sym_runs.specs.Putting.{led_to}

open_own : (b : Bool) (o : Option Shape) → b ≡ true → (if b then o else None) ≡ o
open_own true o e = refl
open_own false o e = absurd (cc)

module _ (functions : Functions) (lower : Named Signature) where
  -- expressions without a type error have values of their shapes
  pub all_have : ExpressionsHave functions
  all_have e scope env g n = (sound functions e).gives scope env g n

  -- an answer that fits a call has the shape that typing gives the call
  pub call_has : (at : Place) (x : Name) (es : List Expr) (scope : Scope) (env : Env) (a : Answer) → scope.lower ≡ lower → Agrees functions scope (plain env) →
      none (call_typing at true x es scope).type_errors ≡ true → answer_fits lower (Call x.text (values_of (eval_with functions) es env)) a ≡ true →
      (v : Value) × (a ≡ Some v) × HasShape (call_typing at true x es scope).part.shape v
  call_has at x es scope env a low g n e = has a (fitting c.operation.answers (c.answers refl) a e')
    where
      c : Called true x es scope
      c = called at true x es scope n

      shown : (call_typing at true x es scope).part.shape ≡ c.operation.answer
      shown = ap (λ (o : Option Signature). (call_rule true x o (parts_of (typings es scope))).shape) c.found
          ∙ c.shape (have_shapes (parts_of (typings es scope)) (values_of (eval_with functions) es env)
          (arguments_have functions lower all_have es scope env g c.parts))

      fitting : (answers : Bool) → answers ≡ true → (a : Answer) → (if answers then answer_has c.operation.answer a else is_none a) ≡ true →
          answer_has c.operation.answer a ≡ true
      fitting true i a e = e
      fitting false i a e = absurd (cc)

      found : look_up x.text lower ≡ Some c.operation
      found = subst (λ l. look_up x.text l ≡ Some c.operation) low c.found

      e' : gives c.operation a ≡ true
      e' = sym (ap (λ (o : Option Signature). elim o as (λ o. Bool) [ None ↦ false | Some o ↦ gives o a ]) found) ∙ e

      has : (a : Answer) → answer_has c.operation.answer a ≡ true → (v : Value) × (a ≡ Some v) × HasShape (call_typing at true x es scope).part.shape v
      has None e = absurd (cc)
      has (Some v) e =
          let s = g.lower x.text c.operation c.found (c.answers refl) in
          let fit : fits s.shape v ≡ true = subst (λ o. fits_wanted o v ≡ true) s.is e in
          (v, refl, subst (λ o. HasShape o v) (sym (shown ∙ s.is)) (fits_has s.shape v s.limits fit))

  -- indices without a type error are words, and lead to a part of this shape
  pub record Indices (is : List Index) (scope : Scope) (env : Env) (s : Shape) : Type 0 where
    pub without_errors : none (type_errors_in (typings (places_of is) scope)) ≡ true
    pub words : All (λ p. is_word (shape_of p) ≡ true) (values_of (eval_with functions) (places_of is) env)
    pub led : (indexed is scope (Some s)).shape ≡ Some (led_to s (length is))

  record Part (s : Shape) (bracket : Place) (p : TypedExpr) (v : Value) : Type 0 where
    word : is_word (shape_of v) ≡ true
    shown : (index_rule (Some s) bracket p).shape ≡ Some (part_shape s)

  part_of_index : (s : Shape) (bracket : Place) (o : Option Shape) (at : Place) (v : Value) → HasShape o v →
      none (index_rule (Some s) bracket (record { place = at; shape = o })).type_errors ≡ true → Part s bracket (record { place = at; shape = o }) v
  part_of_index s bracket None at v h e = let i = h.is in absurd (cc)
  part_of_index s bracket (Some u) at v h e =
      let p : TypedExpr = record { place = at; shape = Some u } in
      record {
        word = word_without_errors p v h (second_of (none (unless (not (is_word s)) reason.Shape bracket)) (none (wanted_word p)) e);
        shown = open_own (none (both (unless (not (is_word s)) reason.Shape bracket) (wanted_word p))) (Some (part_shape s)) e;
      }

  pub indices_of_place : (is : List Index) (scope : Scope) (env : Env) → Agrees functions scope (plain env) → (s : Shape) →
      none (indexed is scope (Some s)).type_errors ≡ true → Indices is scope env s
  indices_of_place [] scope env g s e = record { without_errors = refl; words = All-nil (λ p. is_word (shape_of p) ≡ true); led = refl }
  indices_of_place (i ∷ is) scope env g s e =
      let t = typing i.at scope in
      let o = index_rule (Some s) i.bracket t.part in
      let front = first_of (none t.type_errors && none o.type_errors) (none (indexed is scope o.shape).type_errors) e in
      let here = first_of (none t.type_errors) (none o.type_errors) front in
      let v = value_with functions i.at (plain env) in
      let h = (sound functions i.at).gives scope (plain env) g here in
      let p = part_of_index s i.bracket t.part.shape t.part.place v h (second_of (none t.type_errors) (none o.type_errors) front) in
      let rest = subst (λ (k : Option Shape). none (indexed is scope k).type_errors ≡ true) p.shown
      (second_of (none t.type_errors && none o.type_errors) (none (indexed is scope o.shape).type_errors) e) in
      let r = indices_of_place is scope env g (part_shape s) rest in
      record {
        without_errors = both_of (none t.type_errors) (none (type_errors_in (typings (places_of is) scope))) here r.without_errors;
        words = All-cons (λ p. is_word (shape_of p) ≡ true) v (values_of (eval_with functions) (places_of is) env) p.word r.words;
        led = ap (λ (k : Option Shape). (indexed is scope k).shape) p.shown ∙ r.led;
      }
