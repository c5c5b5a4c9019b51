-- What it says that there is no type error.
use Rattle.std.proofs.Common.{◌≡◌, Bool, true, false, ◌&&◌, ◌||◌, ◌==◌, not, if◌then◌else◌, List, [], ◌∷◌, ◌++◌, length, Option, Some, None, refl, eqb-true}
use Rattle.std.proofs.lemmas.Bool.{and_from as both_of}
use Rattle.ygg_base.specs.declared.reason.Reason.TheVariants as reason
use Rattle.ygg_value.specs.declared.shape.Shape.{Shape}
use Rattle.ygg_syntax.specs.declared.tree.Place.{Place}
use Rattle.ygg_syntax.specs.declared.tree.Name.{Name}
use Rattle.ygg_syntax.specs.declared.tree.Expr.{Expr}
use Rattle.ygg_meaning_laws.specs.ygg_type_rules.Names.{look_up}
use Rattle.ygg_meaning_laws.specs.Signature.{Signature}
use Rattle.ygg_meaning_laws.specs.TypeErrors.{TypeErrors, nothing, one, both, none, type_error, unless, listed}
use Rattle.ygg_meaning_laws.specs.Scopes.{Scope}
use Rattle.ygg_meaning_laws.specs.Expressions.{type_errors_in, all_shaped, parts_of, typings, arguments_wanted, arguments_errors}
use Rattle.ygg_meaning_laws.specs.Statements.{call_rule, call_typing}
use Rattle.ygg_meaning_laws.proofs.Tests.{left as first_of, right as second_of, passed}

-- a call without a type error: there is the operation, which answers where the answer is used, and takes as many arguments
pub record Called (used : Bool) (f : Name) (es : List Expr) (scope : Scope) : Type 0 where
  pub operation : Signature
  pub found : look_up f.text scope.lower ≡ Some operation
  pub answers : used ≡ true → operation.answers ≡ true
  pub counted : length (parts_of (typings es scope)) ≡ length operation.arguments
  pub wanted : all_shaped (parts_of (typings es scope)) ≡ true → none (arguments_wanted (parts_of (typings es scope)) operation.arguments) ≡ true
  pub parts : none (type_errors_in (typings es scope)) ≡ true
  pub shape : all_shaped (parts_of (typings es scope)) ≡ true → (call_rule used f (Some operation) (parts_of (typings es scope))).shape ≡ operation.answer

pub called : (at : Place) (used : Bool) (f : Name) (es : List Expr) (scope : Scope) → none (call_typing at used f es scope).type_errors ≡ true →
    Called used f es scope
called at used f es scope e0 = found (look_up f.text scope.lower) refl (second_of (none (type_errors_in (typings es scope))) _ e0)
  where
    shown : (n s : Bool) (o : Option Shape) → n ≡ true → s ≡ true → (if n then (if s then o else None) else None) ≡ o
    shown true true o e f = refl
    shown true false o e f = absurd (cc)
    shown false s o e f = absurd (cc)

    answering : (u a : Bool) → (not u || a) ≡ true → u ≡ true → a ≡ true
    answering true a e f = e
    answering false a e f = absurd (cc)

    chosen : (b s : Bool) (ws : List (Option Shape)) →
        none (if b then (if s then arguments_wanted (parts_of (typings es scope)) ws else nothing) else one (type_error f.place reason.Shape)) ≡ true → b ≡ true
    chosen true s ws e = refl
    chosen false s ws e = absurd (cc)

    there : (b s : Bool) (ws : List (Option Shape)) → none
        (if b then (if s then arguments_wanted (parts_of (typings es scope)) ws else nothing) else one (type_error f.place reason.Shape)) ≡ true → s ≡ true
        → none (arguments_wanted (parts_of (typings es scope)) ws) ≡ true
    there true true ws e h = e
    there true false ws e h = absurd (cc)
    there false s ws e h = absurd (cc)

    found : (o : Option Signature) → look_up f.text scope.lower ≡ o → none (call_rule used f o (parts_of (typings es scope))).type_errors ≡ true →
        Called used f es scope
    found None i e = absurd (cc)
    found (Some o) i e =
        let test = not used || o.answers in
        let count = length (parts_of (typings es scope)) == length o.arguments in
        let all = all_shaped (parts_of (typings es scope)) in
        let rest = second_of (none (unless test reason.Shape f.place)) (none (arguments_errors f o.arguments (parts_of (typings es scope)))) e in
        record {
          operation = o;
          found = i;
          answers = answering used o.answers (passed test reason.Shape f.place
              (first_of _ (none (arguments_errors f o.arguments (parts_of (typings es scope)))) e));
          counted = eqb-true _ _ (chosen count all o.arguments rest);
          wanted = there count all o.arguments rest;
          parts = first_of (none (type_errors_in (typings es scope))) _ e0;
          shape = shown (none (unless test reason.Shape f.place) && none (arguments_errors f o.arguments (parts_of (typings es scope)))) all o.answer e;
        }

-- a list of no type errors
pub none_listed : (fs : TypeErrors) → listed fs ≡ [] → none fs ≡ true
none_listed nothing e = refl
none_listed (one f) e = absurd (cc)
none_listed (both fs gs) e = both_of (none fs) (none gs) (none_listed fs (front (listed fs) (listed gs) e)) (none_listed gs (back (listed fs) (listed gs) e))
  where
    front : {A : Type 0} (xs ys : List A) → xs ++ ys ≡ [] → xs ≡ []
    front [] ys e = refl
    front (x ∷ xs) ys e = absurd (cc)

    back : {A : Type 0} (xs ys : List A) → xs ++ ys ≡ [] → ys ≡ []
    back [] ys e = e
    back (x ∷ xs) ys e = absurd (cc)
