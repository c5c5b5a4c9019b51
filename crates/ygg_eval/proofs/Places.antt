-- Places of operations in the machine below.
use Rattle.std.proofs.Common.{
  ◌≡◌,
  ℕ,
  zero,
  suc,
  ◌+◌,
  ◌-◌,
  Bool,
  true,
  false,
  if◌then◌else◌,
  codes,
  List,
  [],
  ◌∷◌,
  Option,
  Some,
  None,
  is_some,
  refl,
  sym,
  ap,
  ◌∙◌,
  subst,
  arith,
}
use Rattle.std.specs.Prelude.{slice_get}
use Rattle.std.specs.Str.{bytes_eq}
use Rattle.ygg_value.specs.declared.row.Value.{Value}
use Rattle.ygg_syntax.specs.declared.tree.DiskText.{DiskText}
use Rattle.ygg_syntax.specs.declared.tree.Operation.{Operation}
use Rattle.ygg_syntax.specs.declared.tree.Layer.{Layer}
use Rattle.ygg_syntax.specs.declared.tree.File.{File}
use Rattle.ygg_eval_expr.specs.ygg_type_rules.Names.{Named, look_up, has}
use Rattle.ygg_eval_expr.specs.ygg_type_rules.declared.scope.Signature.{Signature}
use Rattle.ygg_eval_expr.specs.ygg_type_rules.Layers.{operation_signature}
use Rattle.ygg_eval_expr.specs.ygg_type_rules.Files.{address, disk_row, disk_operations}
use Rattle.ygg_eval.specs.ygg_type.Typed.{operations_at, operation_place}
use Rattle.ygg_eval_expr.specs.ygg_meaning.Environments.{Name}
use Rattle.ygg_eval_expr.specs.ygg_meaning_laws.Fitting.{all_fit}
use Rattle.ygg_eval_expr.specs.ygg_meaning_laws_proofs_Tests.{bytes_same}
use Rattle.ygg_eval.specs.Layers.{signatures_of, signatures_at}
use Rattle.ygg_eval.specs.Lower.{Standing, Meaning, Serves, IsCallable}
use Rattle.ygg_eval.specs.Ready.{IsPlace, place_on_disk}

-- the operations of a disk
pub disk_place : (d : DiskText) (name : Name) → has name (disk_operations d) ≡ true → IsPlace (disk_operations d) name (place_on_disk name)
disk_place d name h = cases (bytes_eq (codes "read") name) (bytes_eq (codes "write") name) (bytes_eq (codes "flush") name) refl refl refl h
  where
    read : Signature
    read = record { arguments = address ∷ []; answers = true; answer = disk_row d }

    write : Signature
    write = record { arguments = address ∷ disk_row d ∷ []; answers = false; answer = None }

    flush : Signature
    flush = record { arguments = []; answers = false; answer = None }

    looked : Bool → Bool → Bool → Option Signature
    looked r w f = if r then Some (record { arguments = address ∷ []; answers = true; answer = disk_row d })
        else if w then Some (record { arguments = address ∷ disk_row d ∷ []; answers = false; answer = None })
        else if f then Some (record { arguments = []; answers = false; answer = None })
        else None

    cases : (r w f : Bool) → bytes_eq (codes "read") name ≡ r → bytes_eq (codes "write") name ≡ w → bytes_eq (codes "flush") name ≡ f
        → is_some (if r then Some read else if w then Some write else if f then Some flush else None) ≡ true →
        IsPlace (disk_operations d) name (if r then 0 else if w then 1 else 2)
    cases true w f er ew ef h = record {
      operation = record { arguments = address ∷ []; answers = true; answer = disk_row d };
      found = ap (λ (b : Bool). looked b (bytes_eq (codes "write") name) (bytes_eq (codes "flush") name)) er;
      is = ap (λ (n : Name). Some (n, record { arguments = address ∷ []; answers = true; answer = disk_row d })) (bytes_same (codes "read") name er);
    }
    cases false true f er ew ef h = record {
      operation = record { arguments = address ∷ disk_row d ∷ []; answers = false; answer = None };
      found = ap (λ (b : Bool). looked b (bytes_eq (codes "write") name) (bytes_eq (codes "flush") name)) er
          ∙ ap (λ (b : Bool). looked false b (bytes_eq (codes "flush") name)) ew;
      is = ap (λ (n : Name). Some (n, record { arguments = address ∷ disk_row d ∷ []; answers = false; answer = None })) (bytes_same (codes "write") name ew);
    }
    cases false false true er ew ef h = record {
      operation = record { arguments = []; answers = false; answer = None };
      found = ap (λ (b : Bool). looked b (bytes_eq (codes "write") name) (bytes_eq (codes "flush") name)) er
          ∙ ap (λ (b : Bool). looked false b (bytes_eq (codes "flush") name)) ew ∙ ap (λ (b : Bool). looked false false b) ef;
      is = ap (λ (n : Name). Some (n, record { arguments = []; answers = false; answer = None })) (bytes_same (codes "flush") name ef);
    }
    cases false false false er ew ef h = absurd (cc)

-- the place of an operation of a layer, counted from the first of these
record PlacedAt (place : ℕ) (os : List Operation) (name : Name) (found : ℕ) : Type 0 where
  pub at : ℕ
  pub is : found ≡ place + at
  pub there : IsPlace (signatures_of os) name at

placed_at : (place : ℕ) (os : List Operation) (name : Name) (found : ℕ) → operation_place place os name ≡ Some found → PlacedAt place os name found
placed_at place [] name found h = absurd (cc)
placed_at place (o ∷ os) name found h = cases (bytes_eq o.name.text name) refl h (λ h. placed_at (place + 1) os name found h)
  where
    place_is : Some place ≡ Some found → place ≡ found
    place_is h = cc

    looked : Bool → Option Signature
    looked b = if b then Some (operation_signature o) else look_up name (signatures_of os)

    cases : (c : Bool) → bytes_eq o.name.text name ≡ c → (if c then Some place else operation_place (place + 1) os name) ≡ Some found
        → (operation_place (place + 1) os name ≡ Some found → PlacedAt (place + 1) os name found) → PlacedAt place (o ∷ os) name found
    cases true e h later = record {
      at = 0;
      is = let same = place_is h in omega arith;
      there = record {
        operation = operation_signature o;
        found = ap looked e;
        is = ap (λ (n : Name). Some (n, operation_signature o)) (bytes_same o.name.text name e);
      };
    }
    cases false e h later =
        let again = later h in
        let there = again.there in
        record {
          at = suc again.at;
          is = let i = again.is in omega arith;
          there = record { operation = there.operation; found = ap looked e ∙ there.found; is = there.is };
        }

unplaced : (place : ℕ) (os : List Operation) (name : Name) → operation_place place os name ≡ None → has name (signatures_of os) ≡ false
unplaced place [] name h = refl
unplaced place (o ∷ os) name h = cases (bytes_eq o.name.text name) h (λ h. unplaced (place + 1) os name h)
  where
    cases : (c : Bool) → (if c then Some place else operation_place (place + 1) os name) ≡ None →
        (operation_place (place + 1) os name ≡ None → has name (signatures_of os) ≡ false)
        → is_some (if c then Some (operation_signature o) else look_up name (signatures_of os)) ≡ false
    cases true h later = absurd (cc)
    cases false h later = later h

-- the operations of the machine with this number that is no disk
layer_signatures : (file : File) (place : ℕ) → signatures_at file (suc place) ≡ signatures_of (operations_at file.layers place)
layer_signatures file place = cases (slice_get file.layers place)
  where
    cases : (o : Option Layer) → elim o as (λ o. Named Signature) [ None ↦ [] | Some l ↦ signatures_of l.operations ] ≡ signatures_of
        (elim o as (λ o. List Operation) [ None ↦ [] | Some l ↦ l.operations ])
    cases None = refl
    cases (Some l) = refl

pub number_is : (number : ℕ) → (number ≡ 0 → ⊥) → suc (number - 1) ≡ number
number_is zero n = absurd (n refl)
number_is (suc n) h = omega arith

-- the place of an operation of the disk, whose number is 0
pub place_first : (file : File) (number : ℕ) (name : Name) (found : ℕ) → number ≡ 0 → found ≡ place_on_disk name →
    has name (signatures_at file number) ≡ true → IsPlace (signatures_at file number) name found
place_first file number name found first is h =
    subst (λ k. IsPlace (signatures_at file number) name k) (sym is)
    (subst (λ n. IsPlace (signatures_at file n) name (place_on_disk name)) (sym first)
    (disk_place file.disk name (subst (λ n. has name (signatures_at file n) ≡ true) first h)))

pub place_there : (file : File) (number : ℕ) (name : Name) (found : ℕ) → (number ≡ 0 → ⊥) →
    operation_place 0 (operations_at file.layers (number - 1)) name ≡ Some found → IsPlace (signatures_at file number) name found
place_there file number name found n h =
    let p = placed_at 0 (operations_at file.layers (number - 1)) name found h in
    let same : p.at ≡ found = let i = p.is in omega arith in
    subst (λ (k : ℕ). IsPlace (signatures_at file k) name found) (number_is number n)
    (subst (λ (ops : Named Signature). IsPlace ops name found) (sym (layer_signatures file (number - 1)))
    (subst (λ (k : ℕ). IsPlace (signatures_of (operations_at file.layers (number - 1))) name k) same p.there))

pub place_missing : (file : File) (number : ℕ) (name : Name) → (number ≡ 0 → ⊥) →
    operation_place 0 (operations_at file.layers (number - 1)) name ≡ None → has name (signatures_at file number) ≡ true → ⊥
place_missing file number name n h t =
    let none : has name (signatures_at file number) ≡ false =
    ap (λ (k : ℕ). has name (signatures_at file k)) (sym (number_is number n)) ∙ ap (has name) (layer_signatures file (number - 1))
    ∙ unplaced 0 (operations_at file.layers (number - 1)) name h in
    untrue (sym t ∙ none)
  where
    untrue : true ≡ false → ⊥
    untrue h = cc

-- a call by the place of its name
pub callable : {S : Type 0} (M : Meaning S) (file : File) (number : ℕ) (at : Standing S) (name : Name) (args : List Value) (operation : Signature)
    (place : ℕ) → Serves M file number at → look_up name (signatures_at file number) ≡ Some operation
    → all_fit operation.arguments args ≡ true → IsPlace (signatures_at file number) name place →
    IsCallable (signatures_at file (M.number at.machine)) place args
callable M file number at name args operation place serves found fit there =
    let same : operation ≡ there.operation = some_is operation there.operation (sym found ∙ there.found) in
    subst (λ (k : ℕ). IsCallable (signatures_at file k) place args) (sym serves.numbered)
    (record { name = name; operation = there.operation; is = there.is; fit = subst (λ (o : Signature). all_fit o.arguments args ≡ true) same fit })
  where
    some_is : (x y : Signature) → Some x ≡ Some y → x ≡ y
    some_is x y h = cc
