-- What lets an assignment be run.
use Rattle.std.proofs.Common.{
  ◌≡◌,
  ℕ,
  Bool,
  true,
  false,
  ◌&&◌,
  if◌then◌else◌,
  not,
  List,
  [],
  ◌∷◌,
  ◌++◌,
  map,
  take,
  drop,
  length,
  All,
  Option,
  Some,
  None,
  refl,
  sym,
  ap,
  ◌∙◌,
  subst,
}
use Rattle.std.proofs.Math.Seq.{take-append_seam}
use Rattle.std.proofs.lemmas.List.{length-map}
use Rattle.std.proofs.lemmas.List.Elements.{All-nil, All-cons}
use Rattle.ygg_base.specs.declared.reason.Reason.TheVariants as reason
use Rattle.ygg_value.specs.Number.{Number}
use Rattle.ygg_value.specs.declared.shape.Shape.{Shape}
use Rattle.ygg_value.specs.Shapes.{shape_of}
use Rattle.ygg_value.specs.Values.{word_in, with_part}
use Rattle.ygg_value.specs.declared.row.Value.{Value}
use Rattle.ygg_syntax.specs.declared.grammar.BlockKind.{BlockKind}
use Rattle.ygg_syntax.specs.declared.tree.Place.{Place}
use Rattle.ygg_syntax.specs.declared.tree.Name.{Name}
use Rattle.ygg_syntax.specs.declared.tree.Index.{Index}
use Rattle.ygg_syntax.specs.declared.tree.Source.{Source}
use Rattle.ygg_syntax.specs.declared.tree.File.{File}
use Rattle.ygg_eval_expr.specs.ygg_type_rules.Names.{look_up}
use Rattle.ygg_eval_expr.specs.ygg_type_rules.declared.scope.TypedExpr.{TypedExpr}
use Rattle.ygg_eval_expr.specs.ygg_type_rules.declared.scope.Local.{Local}
use Rattle.ygg_eval_expr.specs.ygg_type_rules.TypeErrors.{none, nothing, one, both, unless, type_error}
use Rattle.ygg_eval_expr.specs.ygg_type_rules.Shapes.{part_shape, is_word}
use Rattle.ygg_eval_expr.specs.ygg_type_rules.Scopes.{Scope, name_in}
use Rattle.ygg_eval_expr.specs.ygg_type_rules.Expressions.{own, wanted, wanted_word, typing, index_rule}
use Rattle.ygg_eval_expr.specs.ygg_type_rules.Statements.{source_typing, target_rule, indexed, place_rule}
use Rattle.ygg_eval_expr.specs.ygg_meaning.Environments.{Env}
use Rattle.ygg_eval_expr.specs.ygg_meaning.Environments as meaning
use Rattle.ygg_eval_expr.specs.ygg_meaning.Meaning.{Functions, functions_of, value_with}
use Rattle.ygg_eval_expr.specs.ygg_meaning.Progress.{indices_of, assigned}
use Rattle.ygg_eval_expr.specs.ygg_meaning.Shapes.{fits}
use Rattle.ygg_eval_expr.specs.ygg_meaning_laws.Agrees.{Agrees}
use Rattle.ygg_eval_expr.specs.ygg_meaning_laws.Fitting.{HasShape, fits_wanted}
use Rattle.ygg_eval_expr.specs.ygg_meaning_laws_proofs_Tests.{left as first_of, right as second_of}
use Rattle.ygg_eval_expr.specs.ygg_meaning_laws_proofs_Rules.{wanted_has}
use Rattle.ygg_eval_expr.specs.ygg_meaning_laws_proofs_Fits.{value_fits}
use Rattle.ygg_eval_expr.specs.ygg_meaning_laws_proofs_Names.{value_found}
use Rattle.ygg_eval_expr.specs.declared.held.Binding.{Binding}
use Rattle.ygg_eval_expr.specs.Held.{env_of}
use Rattle.ygg_eval_expr.specs.Known.{CanEvaluate}
use Rattle.ygg_eval_expr.specs.Writing.{shape_led_to, CanWrite}
use Rattle.ygg_eval.specs.ygg_meaning_laws.Questions.{plain}
use Rattle.ygg_eval.specs.ygg_meaning_laws_proofs_Files.{have}
use Rattle.ygg_eval.specs.declared.body.Stop.{Stop}
use Rattle.ygg_eval.specs.Lower.{Standing, Meaning}
use Rattle.ygg_eval.specs.Ready.{eval_in, known_in, Fits, CanAsk, CanAssign, IsGiven}
use Rattle.ygg_eval.proofs.Fitting.{evaluates}

-- a value that has a shape is as it is wanted
wanted_fits : (p : TypedExpr) (w : Option Shape) (v : Value) → HasShape p.shape v → none (wanted p w) ≡ true → fits_wanted w v ≡ true
wanted_fits p None v h e = refl
wanted_fits p (Some s) v h e = subst (λ (k : Shape). fits k v ≡ true) (wanted_has p v s h e) (value_fits v h.limits)

open_own : (b : Bool) (o : Option Shape) → b ≡ true → (if b then o else None) ≡ o
open_own true o e = refl
open_own false o e = absurd (cc)

part_shown : (s : Shape) (bracket : Place) (o : Option Shape) (at : Place) (t : Shape) → o ≡ Some t →
    none (index_rule (Some s) bracket (record { place = at; shape = o })).type_errors ≡ true
    → (index_rule (Some s) bracket (record { place = at; shape = o })).shape ≡ Some (part_shape s)
part_shown s bracket None at t i e = absurd (cc)
part_shown s bracket (Some u) at t i e = open_own (none
    (both (unless (not (is_word s)) reason.Shape bracket) (wanted_word (record { place = at; shape = Some u })))) (Some (part_shape s)) e

-- indices without a type error lead to the shape that so many lead to
indexed_led : (functions : Functions) (is : List Index) (scope : Scope) (env : Env) → Agrees functions scope (plain env) → (s : Shape) →
    none (indexed is scope (Some s)).type_errors ≡ true
    → (indexed is scope (Some s)).shape ≡ Some (shape_led_to s (length is))
indexed_led functions [] scope env g s e = refl
indexed_led functions (i ∷ is) scope env g s e =
    let o = index_rule (Some s) i.bracket (typing i.at scope).part in
    let front = first_of (none (typing i.at scope).type_errors && none o.type_errors) (none (indexed is scope o.shape).type_errors) e in
    let h = have functions i.at scope (plain env) g (first_of (none (typing i.at scope).type_errors) (none o.type_errors) front) in
    let shown = part_shown s i.bracket (typing i.at scope).part.shape (typing i.at scope).part.place
    (shape_of (value_with functions i.at (plain env))) h.is (second_of (none (typing i.at scope).type_errors) (none o.type_errors) front) in
    let rest = subst (λ (k : Option Shape). none (indexed is scope k).type_errors ≡ true) shown
    (second_of (none (typing i.at scope).type_errors && none o.type_errors) (none (indexed is scope o.shape).type_errors) e) in
    ap (λ (k : Option Shape). (indexed is scope k).shape) shown ∙ indexed_led functions is scope env g (part_shape s) rest

-- a name that may be assigned to
record Target (x : Name) (scope : Scope) (env : Env) : Type 0 where
  pub value : Value
  pub found : look_up x.text env ≡ Some value
  pub has : HasShape (target_rule x (name_in x.text scope)).shape value

target_of : (functions : Functions) (x : Name) (scope : Scope) (env : Env) → Agrees functions scope (plain env) →
    none (target_rule x (name_in x.text scope)).type_errors ≡ true → Target x scope env
target_of functions x scope env g e = cases (name_in x.text scope) refl e
  where
    assignable : (b : Bool) (known : Option Shape) → none
        (if b then own nothing known else own (one (type_error x.place reason.Unknown)) None).type_errors ≡ true
        → (if b then own nothing known else own (one (type_error x.place reason.Unknown)) None).shape ≡ known
    assignable true known e = refl
    assignable false known e = absurd (cc)

    cases : (o : Option Local) → name_in x.text scope ≡ o → none (target_rule x o).type_errors ≡ true → Target x scope env
    cases None i e = absurd (cc)
    cases (Some l) i e =
        let h = g.names x.text l i in
        record {
          value = h.value;
          found = h.found;
          has = subst (λ (o : Option Shape). HasShape o h.value)
              (sym (ap (λ (o : Option Local). (target_rule x o).shape) i ∙ assignable l.assignable l.shape e)) h.has;
        }

-- as many places as indices
pub as_many_places : (file : File) (is : List Index) (env : Env) (places : List Number) →
    map (λ (w : Number). w.bits) places ≡ indices_of (eval_in file) is env → length is ≡ length places
as_many_places file is env places found =
    sym (length-map is (λ (i : Index). (word_in (eval_in file i.at env)).bits)) ∙ ap length (sym found) ∙ length-map places (λ (w : Number). w.bits)

module _ {S : Type 0} (M : Meaning S) (file : File) (number : ℕ) (stop : Option Stop) where
  pub assign_asks : (x : Name) (is : List Index) (from : Source) (env : Env) (at : Standing S) → CanAssign M file number stop x is from env at →
      CanAsk M file number stop from env at
  assign_asks x is from env at can =
      let place = place_rule x is can.scope in
      let typed = source_typing from can.scope in
      record {
        kind = can.kind;
        scope = can.scope;
        fits = can.fits;
        without_errors = first_of (none typed.type_errors) (none (wanted typed.part place.shape))
            (second_of (none place.type_errors) (none typed.type_errors && none (wanted typed.part place.shape)) can.without_errors);
        keeps = can.keeps;
      }

  indices_evaluate : (kind : BlockKind) (scope : Scope) (env : Env) (at : Standing S) (is : List Index) (known : Option Shape) →
      Fits M file number stop kind scope env at → none (indexed is scope known).type_errors ≡ true
      → All (λ (i : Index). CanEvaluate (known_in file env) i.at) is
  indices_evaluate kind scope env at [] known f h = All-nil (λ (i : Index). CanEvaluate (known_in file env) i.at)
  indices_evaluate kind scope env at (i ∷ is) known f h =
      let o = index_rule known i.bracket (typing i.at scope).part in
      let front = first_of (none (typing i.at scope).type_errors && none o.type_errors) (none (indexed is scope o.shape).type_errors) h in
      All-cons (λ (i : Index). CanEvaluate (known_in file env) i.at) i is
      (evaluates M file number stop kind scope env at i.at f (first_of (none (typing i.at scope).type_errors) (none o.type_errors) front))
      (indices_evaluate kind scope env at is o.shape f (second_of (none (typing i.at scope).type_errors && none o.type_errors)
      (none (indexed is scope o.shape).type_errors) h))

  pub assign_evaluates : (x : Name) (is : List Index) (from : Source) (env : Env) (at : Standing S) → CanAssign M file number stop x is from env at →
      All (λ (i : Index). CanEvaluate (known_in file env) i.at) is
  assign_evaluates x is from env at can =
      let rule = target_rule x (name_in x.text can.scope) in
      let place = place_rule x is can.scope in
      indices_evaluate can.kind can.scope env at is rule.shape can.fits
      (second_of (none rule.type_errors) (none (indexed is can.scope rule.shape).type_errors) (first_of (none place.type_errors) _ can.without_errors))

  pub assign_writes : (x : Name) (is : List Index) (from : Source) (env : Env) (at : Standing S) (v : Value) →
      CanAssign M file number stop x is from env at → IsGiven file number from env v
      → CanWrite (meaning.look_up x.text env) (length is) v
  assign_writes x is from env at v can given =
      let scope = can.scope in
      let functions = functions_of file.defs in
      let agrees = can.fits.agrees in
      let rule = target_rule x (name_in x.text scope) in
      let place = place_rule x is scope in
      let typed = source_typing from scope in
      let rest = second_of (none place.type_errors) (none typed.type_errors && none (wanted typed.part place.shape)) can.without_errors in
      let placed = first_of (none place.type_errors) (none typed.type_errors && none (wanted typed.part place.shape)) can.without_errors in
      let t = target_of functions x scope env agrees (first_of (none rule.type_errors) (none (indexed is scope rule.shape).type_errors) placed) in
      let s = shape_of t.value in
      let without_errors : none (indexed is scope (Some s)).type_errors ≡ true =
      subst (λ (o : Option Shape). none (indexed is scope o).type_errors ≡ true) t.has.is
      (second_of (none rule.type_errors) (none (indexed is scope rule.shape).type_errors) placed) in
      let led = indexed_led functions is scope env agrees s without_errors in
      let has = given scope can.fits.lower agrees (first_of (none typed.type_errors) (none (wanted typed.part place.shape)) rest) in
      let fit = wanted_fits typed.part place.shape v has (second_of (none typed.type_errors) (none (wanted typed.part place.shape)) rest) in
      record {
        shape = s;
        whole_fits = subst (λ (u : Value). fits s u ≡ true) (sym (value_found x.text env t.value t.found)) (value_fits t.value t.has.limits);
        part_fits = subst (λ (o : Option Shape). fits_wanted o v ≡ true) (ap (λ (o : Option Shape). (indexed is scope o).shape) t.has.is ∙ led) fit;
      }

-- the names after a part was written anew
pub assigned_is : (file : File) (x : Name) (is : List Index) (v : Value) (items given lent new : List Binding) (name : List ℕ) (places : List Number)
    (k : ℕ) → given ≡ items → lent ≡ items → name ≡ x.text → k ≡ length items → length new ≡ length given
    → map (λ (w : Number). w.bits) places ≡ indices_of (eval_in file) is (env_of lent)
    → env_of new ≡ meaning.assign (env_of given) name (with_part (meaning.look_up name (env_of given)) (map (λ (w : Number). w.bits) places) v)
    → env_of (take k (new ++ drop (length new) items)) ≡ assigned (eval_in file) (env_of items) x.text is v
assigned_is file x is v items given lent new name places k same seen named counted kept found written =
    let whole : take k (new ++ drop (length new) items) ≡ new =
    ap (λ (m : ℕ). take m (new ++ drop (length new) items)) (counted ∙ ap length (sym same) ∙ sym kept) ∙ take-append_seam new (drop (length new) items) in
    ap env_of whole ∙ written
    ∙ ap (λ (bs : List Binding). meaning.assign (env_of bs) name (with_part (meaning.look_up name (env_of bs)) (map (λ (w : Number). w.bits) places) v)) same
    ∙ ap (λ (n : List ℕ). meaning.assign (env_of items) n (with_part (meaning.look_up n (env_of items)) (map (λ (w : Number). w.bits) places) v)) named
    ∙ ap (λ (js : List ℕ). meaning.assign (env_of items) x.text (with_part (meaning.look_up x.text (env_of items)) js v))
    (found ∙ ap (λ (bs : List Binding). indices_of (eval_in file) is (env_of bs)) seen)
