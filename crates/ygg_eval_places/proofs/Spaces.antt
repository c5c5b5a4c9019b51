-- How many places a call has.
use Rattle.std.proofs.Common.{
  ◌≡◌,
  ◌≤◌,
  ◌<◌,
  ℕ,
  suc,
  ◌+◌,
  ◌-◌,
  Bool,
  true,
  false,
  if◌then◌else◌,
  List,
  [],
  ◌∷◌,
  length,
  Option,
  Some,
  None,
  option_map,
  refl,
  sym,
  ap,
  ◌∙◌,
  subst,
  arith,
}
use Rattle.std.specs.Prelude.{slice_get}
use Rattle.std.specs.Str.{bytes_eq}
use Rattle.ygg_syntax.specs.declared.tree.Block.{Block}
use Rattle.ygg_syntax.specs.declared.tree.File.{File}
use Rattle.ygg_syntax.specs.declared.tree.Layer.{Layer}
use Rattle.ygg_syntax.specs.declared.tree.Operation.{Operation}
use Rattle.ygg_eval.specs.ygg_type.Typed.{operations_at, operation_place}
use Rattle.ygg_eval.specs.ygg_meaning.Environments.{Name}
use Rattle.ygg_eval.specs.ygg_meaning.Layer.{operation_in}
use Rattle.ygg_eval.specs.ygg_meaning_laws.Direct.{room_of}
use Rattle.ygg_eval_places.specs.ygg_sym_laws.Below.{space_on}
use Rattle.ygg_eval.specs.Bodies.{IsBlock}
use Rattle.ygg_eval.specs.Layers.{below_at}
use Rattle.ygg_eval.specs.declared.body.Part.TheVariants as part
use Rattle.ygg_eval.proofs.OnSpec.{there}
use Rattle.ygg_eval_places.proofs.Calls.{number_is}
use Rattle.ygg_eval_places.proofs.OnSpec.{at_spec}

-- the first operation of a name has a place, counted from the first of these
record PlacedAt (place : ℕ) (os : List Operation) (name : Name) (found : ℕ) : Type 0 where
  pub at : ℕ
  pub is : found ≡ place + at
  pub operation : Operation
  pub listed : slice_get os at ≡ Some operation
  pub named : operation_in os name ≡ Some operation

placed_at : (place : ℕ) (os : List Operation) (name : Name) (found : ℕ) → operation_place place os name ≡ Some found → PlacedAt place os name found
placed_at place [] name found h = absurd (cc)
placed_at place (o ∷ os) name found h = cases (bytes_eq o.name.text name) refl h (λ h. placed_at (place + 1) os name found h)
  where
    place_is : Some place ≡ Some found → place ≡ found
    place_is h = cc

    cases : (c : Bool) → bytes_eq o.name.text name ≡ c → (if c then Some place else operation_place (place + 1) os name) ≡ Some found
        → (operation_place (place + 1) os name ≡ Some found → PlacedAt (place + 1) os name found) → PlacedAt place (o ∷ os) name found
    cases true e h later = record {
      at = 0;
      is = let same = place_is h in omega (arith, same);
      operation = o;
      listed = refl;
      named = ap (λ (b : Bool). if b then Some o else operation_in os name) e;
    }
    cases false e h later =
        let again = later h in
        record {
          at = suc again.at;
          is = let i = again.is in omega (arith, i);
          operation = again.operation;
          listed = again.listed;
          named = ap (λ (b : Bool). if b then Some o else operation_in os name) e ∙ again.named;
        }

unplaced : (place : ℕ) (os : List Operation) (name : Name) → operation_place place os name ≡ None → operation_in os name ≡ None
unplaced place [] name h = refl
unplaced place (o ∷ os) name h = cases (bytes_eq o.name.text name) h (λ h. unplaced (place + 1) os name h)
  where
    cases : (c : Bool) → (if c then Some place else operation_place (place + 1) os name) ≡ None →
        (operation_place (place + 1) os name ≡ None → operation_in os name ≡ None) → (if c then Some o else operation_in os name) ≡ None
    cases true h later = absurd (cc)
    cases false h later = later h

-- so many places more than a block of the operation has choices, where there is one
abbrev spec_room : Option Operation → ℕ
spec_room o = suc (elim o [ None ↦ 0 | Some o ↦ room_of (λ f. 1) o.spec ])

operations_of : (file : File) (place : ℕ) (l : Layer) → slice_get file.layers place ≡ Some l → operations_at file.layers place ≡ l.operations
operations_of file place l here = ap (λ (o : Option Layer). elim o as (λ o. List Operation) [ None ↦ [] | Some l ↦ l.operations ]) here

module _ (file : File) (number : ℕ) (name : Name) (low : 0 < number) (few : number ≤ length file.layers) where
  inside : suc (number - 1) ≤ length file.layers
  inside = subst (λ n. n ≤ length file.layers) (sym (number_is number low)) few

  -- the layer of the machine
  layer_here : (l : Layer) × (slice_get file.layers (number - 1) ≡ Some l)
  layer_here = there file.layers (number - 1) inside

  -- the block of an operation is there
  pub block_there : (found : ℕ) → operation_place 0 (operations_at file.layers (number - 1)) name ≡ Some found →
      (l : Layer) × (b : Block) × IsBlock file (record { layer = number - 1; part = part.Spec; number = found }) l b
  block_there found h =
      let (l, here) = layer_here in
      let p = placed_at 0 l.operations name found (ap (λ os. operation_place 0 os name) (sym (operations_of file (number - 1) l here)) ∙ h) in
      let same : found ≡ p.at = let i = p.is in omega (arith, i) in (
        l,
        p.operation.spec,
        record {
          layer = here;
          block = ap (option_map (λ (o : Operation). o.spec)) (ap (slice_get l.operations) same ∙ p.listed);
        },
      )

  spaces : (n : ℕ) (l : Layer) → slice_get file.layers (number - 1) ≡ Some l → n ≡ spec_room (operation_in l.operations name) →
      n ≡ space_on (below_at file number) name
  spaces n l here e =
      subst (λ k. n ≡ space_on (below_at file k) name) (number_is number low)
      (at_spec file (number - 1) l here (λ G ds. n ≡ space_on G name) e)

  -- an operation's call has one place more than its block has choices
  pub space_there : (found n : ℕ) → operation_place 0 (operations_at file.layers (number - 1)) name ≡ Some found →
      ((l : Layer) (b : Block) → IsBlock file (record { layer = number - 1; part = part.Spec; number = found }) l b → n ≡ room_of (λ f. 1) b) →
      n + 1 ≡ space_on (below_at file number) name
  space_there found n h rooms =
      let (l, here) = layer_here in
      let p = placed_at 0 l.operations name found (ap (λ os. operation_place 0 os name) (sym (operations_of file (number - 1) l here)) ∙ h) in
      let same : found ≡ p.at = let i = p.is in omega (arith, i) in
      let room = rooms l p.operation.spec (record {
        layer = here;
        block = ap (option_map (λ (o : Operation). o.spec)) (ap (slice_get l.operations) same ∙ p.listed);
      }) in
      let more : n + 1 ≡ suc (room_of (λ f. 1) p.operation.spec) = let r = room in omega (arith, r) in
      spaces (n + 1) l here (more ∙ ap spec_room (sym p.named))

  -- what is none has one
  pub space_none : operation_place 0 (operations_at file.layers (number - 1)) name ≡ None → 1 ≡ space_on (below_at file number) name
  space_none h =
      let (l, here) = layer_here in
      let none = unplaced 0 l.operations name (ap (λ os. operation_place 0 os name) (sym (operations_of file (number - 1) l here)) ∙ h) in
      spaces 1 l here (ap spec_room (sym none))

-- a call of the disk has one
pub space_disk : (file : File) (number : ℕ) (name : Name) → number ≡ 0 → 1 ≡ space_on (below_at file number) name
space_disk file number name e = subst (λ k. 1 ≡ space_on (below_at file k) name) (sym e) refl
