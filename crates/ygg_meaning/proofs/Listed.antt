-- What holds of all obligations of a layer holds of each operation and background step that the layer has.
use Rattle.std.proofs.Common.{◌≡◌, Bool, true, false, if◌then◌else◌, List, [], ◌∷◌, ◌++◌, Option, Some, None, ap, subst}
use Rattle.std.specs.List.{All, flat_map}
use Rattle.std.specs.Str.{bytes_eq}
use Rattle.std.proofs.lemmas.List.Elements.{All-nil, All-cons, All-head, All-tail}
use Rattle.ygg_syntax.specs.declared.tree.Operation.{Operation}
use Rattle.ygg_syntax.specs.declared.tree.Tick.{Tick}
use Rattle.ygg_syntax.specs.declared.tree.Layer.{Layer}
use Rattle.ygg_meaning.specs.Environments.{Name}
use Rattle.ygg_meaning.specs.Layer.{operation_in, tick_in}
use Rattle.ygg_meaning.specs.Obligations.{Obligation, Init, CallOf, CutOf, TickOf, CutTickOf, Idle, Again, obligations_of}

abbrev of_operation : Operation → List Obligation
of_operation o = CallOf o ∷ CutOf o ∷ []

abbrev of_tick : Tick → List Obligation
of_tick t = TickOf t ∷ CutTickOf t ∷ []

abbrev last_two : List Obligation
last_two = Idle ∷ Again ∷ []

some_operation : Operation → Option Operation → Operation
some_operation d None = d
some_operation d (Some o) = o

some_tick : Tick → Option Tick → Tick
some_tick d None = d
some_tick d (Some t) = t

module _ {X : Type 0} (P : X → Type 0) where
  pub front : (xs ys : List X) → All P (xs ++ ys) → All P xs
  front [] ys h = All-nil P
  front (x ∷ xs) ys h = All-cons P x xs (All-head P x (xs ++ ys) h) (front xs ys (All-tail P x (xs ++ ys) h))

  pub back : (xs ys : List X) → All P (xs ++ ys) → All P ys
  back [] ys h = h
  back (x ∷ xs) ys h = back xs ys (All-tail P x (xs ++ ys) h)

module _ (P : Obligation → Type 0) where
  operation_listed : (os : List Operation) (name : Name) (o : Operation) → All P (flat_map of_operation os) → operation_in os name ≡ Some o →
      P (CallOf o) × P (CutOf o)
  unfolding some_operation
  operation_listed [] name o h is = absurd (cc)
  operation_listed (x ∷ os) name o h is = by_test (bytes_eq x.name.text name) is (operation_listed os name o (All-tail P (CutOf x) others rest))
    where
      others : List Obligation
      others = flat_map of_operation os

      rest : All P (CutOf x ∷ others)
      rest = All-tail P (CallOf x) (CutOf x ∷ others) h

      by_test : (b : Bool) → (if b then Some x else operation_in os name) ≡ Some o → (operation_in os name ≡ Some o → P (CallOf o) × P (CutOf o)) →
          P (CallOf o) × P (CutOf o)
      by_test true is later = subst (λ z. P (CallOf z) × P (CutOf z)) (ap (some_operation o) is)
          (All-head P (CallOf x) (CutOf x ∷ others) h, All-head P (CutOf x) others rest)
      by_test false is later = later is

  tick_listed : (ts : List Tick) (name : Name) (t : Tick) → All P (flat_map of_tick ts) → tick_in ts name ≡ Some t → P (TickOf t) × P (CutTickOf t)
  unfolding some_tick
  tick_listed [] name t h is = absurd (cc)
  tick_listed (x ∷ ts) name t h is = by_test (bytes_eq x.name.text name) is (tick_listed ts name t (All-tail P (CutTickOf x) others rest))
    where
      others : List Obligation
      others = flat_map of_tick ts

      rest : All P (CutTickOf x ∷ others)
      rest = All-tail P (TickOf x) (CutTickOf x ∷ others) h

      by_test : (b : Bool) → (if b then Some x else tick_in ts name) ≡ Some t → (tick_in ts name ≡ Some t → P (TickOf t) × P (CutTickOf t)) →
          P (TickOf t) × P (CutTickOf t)
      by_test true is later = subst (λ z. P (TickOf z) × P (CutTickOf z)) (ap (some_tick t) is)
          (All-head P (TickOf x) (CutTickOf x ∷ others) h, All-head P (CutTickOf x) others rest)
      by_test false is later = later is

  module _ (l : Layer) (all : All P (obligations_of l)) where
    abbrev operations : List Obligation
    operations = flat_map of_operation l.operations

    abbrev ticks : List Obligation
    ticks = flat_map of_tick l.ticks

    after_init : All P (operations ++ ticks ++ last_two)
    after_init = All-tail P Init (operations ++ ticks ++ last_two) all

    pub of_init : P Init
    of_init = All-head P Init (operations ++ ticks ++ last_two) all

    pub of_operation_named : (name : Name) (o : Operation) → operation_in l.operations name ≡ Some o → P (CallOf o) × P (CutOf o)
    of_operation_named name o is = operation_listed l.operations name o (front P operations ticks (front P (operations ++ ticks) last_two after_init)) is

    pub of_tick_named : (name : Name) (t : Tick) → tick_in l.ticks name ≡ Some t → P (TickOf t) × P (CutTickOf t)
    of_tick_named name t is = tick_listed l.ticks name t (back P operations ticks (front P (operations ++ ticks) last_two after_init)) is

    pub of_idle : P Idle
    of_idle = All-head P Idle (Again ∷ []) (back P (operations ++ ticks) last_two after_init)

    pub of_again : P Again
    of_again = All-head P Again [] (All-tail P Idle (Again ∷ []) (back P (operations ++ ticks) last_two after_init))
