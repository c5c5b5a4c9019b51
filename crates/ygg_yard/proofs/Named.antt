-- The names of the operations of a file that is made differ.
use Rattle.std.proofs.Common.{◌≡◌, ℕ, ◌<◌, ◌≤◌, ◌^◌, zero, suc, Bool, true, false, ◌&&◌, if◌then◌else◌, List, [], ◌∷◌, ◌++◌, Some, None, refl, ap, ◌∙◌, arith}
use Rattle.std.specs.Prelude.{is_some}
use Rattle.std.specs.Str.{bytes_eq}
use Rattle.std.specs.Fmt.{decimal}
use Rattle.std.proofs.lemmas.Fmt.{decimal_injective}
use Rattle.std.proofs.lemmas.Slice.Eq.{bytes_eq-Decides}
use Rattle.ygg_type_rules.specs.Names.{Named, look_up, has, added}
use Rattle.ygg_syntax.specs.declared.tree.Place.{Place}
use Rattle.ygg_syntax.specs.declared.tree.Block.{Block}
use Rattle.ygg_syntax.specs.declared.tree.Operation.{Operation}
use Rattle.ygg_type_rules.specs.ygg_syntax.Weights.{Weights}
use Rattle.ygg_type_rules.specs.declared.scope.Signature.{Signature}
use Rattle.ygg_type_rules.specs.TypeErrors.{none}
use Rattle.ygg_type_rules.specs.Scopes.{Scope}
use Rattle.ygg_type_rules.specs.Layers.{with_operation, with_operations, operation_errors, operations_errors}
use Rattle.ygg_yard.specs.Trees.{put_name, operation_made, operations_made}

false_by : (b : Bool) → (b ≡ true → ⊥) → b ≡ false
false_by true h = absurd (h refl)
false_by false h = refl

-- different numbers, different names
names_differ : (m n : ℕ) → m < n → n < 2 ^ 64 → bytes_eq (put_name m) (put_name n) ≡ false
names_differ m n less small = false_by (bytes_eq (put_name m) (put_name n)) (λ h.
    let same : put_name m ≡ put_name n = (bytes_eq-Decides (put_name m) (put_name n)).0 h in
    let digits : decimal m ≡ decimal n = cc in
    let equal : m ≡ n = decimal_injective m n (omega (arith, less, small)) small digits in
    omega (arith, less, equal))

-- a name that isn't there isn't there after another one is added
has_append : {V : Type 0} (name other : List ℕ) (v : V) (names : Named V) → bytes_eq other name ≡ false → has name names ≡ false →
    has name (names ++ (other, v) ∷ []) ≡ false
has_append name other v [] d h = ap (λ b. is_some (if b then Some v else None)) d
has_append name other v (e ∷ names) d h = by (bytes_eq e.0 name) refl h (has_append name other v names d)
  where
    by : (b : Bool) → bytes_eq e.0 name ≡ b → is_some (if b then Some e.1 else look_up name names) ≡ false →
        (has name names ≡ false → has name (names ++ (other, v) ∷ []) ≡ false)
        → is_some (if bytes_eq e.0 name then Some e.1 else look_up name (names ++ (other, v) ∷ [])) ≡ false
    by true k h others = absurd (cc)
    by false k h others = ap (λ b. is_some (if b then Some e.1 else look_up name (names ++ (other, v) ∷ []))) k ∙ others h

has_added : {V : Type 0} (name other : List ℕ) (v : V) (names : Named V) → bytes_eq other name ≡ false → has name names ≡ false →
    has name (added other v names) ≡ false
has_added name other v names d h = by (has other names)
  where
    by : (b : Bool) → has name (if b then names else names ++ (other, v) ∷ []) ≡ false
    by true = h
    by false = has_append name other v names d h

-- one operation after others
pub with_append : (os : List Operation) (o : Operation) (known : Named Signature) →
    with_operations (os ++ o ∷ []) known ≡ with_operation o (with_operations os known)
with_append [] o known = refl
with_append (q ∷ os) o known = with_append os o (with_operation q known)

pub errors_append : (os : List Operation) (o : Operation) (crash : Block) (known : Named Signature) (weights : Weights) (scope : Scope) →
    none (operations_errors os crash known weights scope) ≡ true → none (operation_errors o crash (with_operations os known) weights scope) ≡ true →
    none (operations_errors (os ++ o ∷ []) crash known weights scope) ≡ true
errors_append [] o crash known weights scope h k = ap (λ b. b && true) k
errors_append (q ∷ os) o crash known weights scope h k =
    by (none (operation_errors q crash known weights scope)) h (λ l. errors_append os o crash (with_operation q known) weights scope l k)
  where
    by : (b : Bool) → (b && none (operations_errors os crash (with_operation q known) weights scope)) ≡ true →
        (none (operations_errors os crash (with_operation q known) weights scope) ≡ true
        → none (operations_errors (os ++ o ∷ []) crash (with_operation q known) weights scope) ≡ true)
        → (b && none (operations_errors (os ++ o ∷ []) crash (with_operation q known) weights scope)) ≡ true
    by true h others = others h
    by false h others = absurd (cc)

-- no earlier operation has the name
pub new_name : (at : ℕ → ℕ → Place) (count number : ℕ) → count ≤ number → number < 2 ^ 64 →
    has (put_name number) (with_operations (operations_made at count) []) ≡ false
new_name at zero number less small = refl
new_name at (suc n) number less small =
    ap (has (put_name number)) (with_append (operations_made at n) (operation_made (at n) n) [])
    ∙ has_added (put_name number) (put_name n) _ (with_operations (operations_made at n) []) (names_differ n number (omega (arith, less)) small)
    (new_name at n number (omega (arith, less)) small)
