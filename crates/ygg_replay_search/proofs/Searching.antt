-- The search for the first list of picks that passes.
use Rattle.std.proofs.Common.{
  ◌≡◌,
  ℕ,
  zero,
  suc,
  Bool,
  true,
  false,
  List,
  [],
  ◌∷◌,
  ◌++◌,
  map,
  length,
  Some,
  None,
  refl,
  sym,
  ap,
  ◌∙◌,
  append_assoc,
  append-nil,
  arith,
  Option,
  Result,
  Ok,
  Err,
  IfOk,
}
use Rattle.std.specs.List.{All}
use Rattle.std.proofs.lemmas.List.{map-append}
use Rattle.std.proofs.lemmas.List.Elements.{All-nil, All-cons, All-head, All-tail}
use Rattle.ygg_meaning.specs.Machine.{Picks}
use Rattle.ygg_meaning.specs.Replayed.{pick_lists}
use Rattle.ygg_replay_search.specs.Searching.{IsFirstAfter}

-- what follows where there is an answer
pub if_ok : {T E : Type 0} (P Q : T → Type 0) (r : Result T E) → IfOk r P → ((x : T) → P x → Q x) → IfOk r Q
if_ok P Q (Ok x) h f = f x h
if_ok P Q (Err e) h f = tt

module _ (P : Picks → Type 0) where
  both : (xs ys : List Picks) → All P xs → All P ys → All P (xs ++ ys)
  both [] ys h g = g
  both (x ∷ xs) ys h g = All-cons P x (xs ++ ys) (All-head P x xs h) (both xs ys (All-tail P x xs h) g)

  -- what holds of all lists with one more pick in front holds of these
  with_front : (b : Bool) (xs : List Picks) → All (λ p. P (b ∷ p)) xs → All P (map (λ p. b ∷ p) xs)
  with_front b [] h = All-nil P
  with_front b (x ∷ xs) h =
      All-cons P (b ∷ x) (map (λ p. b ∷ p) xs) (All-head (λ p. P (b ∷ p)) x xs h) (with_front b xs (All-tail (λ p. P (b ∷ p)) x xs h))

-- what holds of each list of so many picks holds of all that are listed
all_listed : (P : Picks → Type 0) (n : ℕ) → ((picks : Picks) → length picks ≡ n → P picks) → All P (pick_lists n)
all_listed P zero h = All-cons P [] [] (h [] refl) (All-nil P)
all_listed P (suc n) h =
    both P (map (λ p. false ∷ p) (pick_lists n)) (map (λ p. true ∷ p) (pick_lists n))
    (with_front P false (pick_lists n) (all_listed (λ p. P (false ∷ p)) n (λ p e. h (false ∷ p) (ap suc e))))
    (with_front P true (pick_lists n) (all_listed (λ p. P (true ∷ p)) n (λ p e. h (true ∷ p) (ap suc e))))

all_as : (P Q : Picks → Type 0) → ((p : Picks) → P p → Q p) → (xs : List Picks) → All P xs → All Q xs
all_as P Q to [] h = All-nil Q
all_as P Q to (x ∷ xs) h = All-cons Q x xs (to x (All-head P x xs h)) (all_as P Q to xs (All-tail P x xs h))

module _ (test : Picks → Bool) (before : Picks) where
  -- a pick more before is one more in front
  shift : (b : Bool) (p : Picks) (x : Bool) → test ((before ++ b ∷ []) ++ p) ≡ x → test (before ++ b ∷ p) ≡ x
  shift b p x h = ap test (sym (append_assoc before (b ∷ []) p)) ∙ h

  -- no pick more is taken
  pub here : test before ≡ true → (found : Picks) → found ≡ before → IsFirstAfter 0 test before (Some found)
  here h found is = (
    [],
    is ∙ sym (append-nil before),
    ([], [], refl, All-nil (λ p. test (before ++ p) ≡ false), ap test (append-nil before) ∙ h),
  )

  pub not_here : test before ≡ false → IsFirstAfter 0 test before None
  not_here h [] e = ap test (append-nil before) ∙ h
  not_here h (p ∷ picks) e = absurd (omega (arith, e))

  -- the first is among those that go on with 0
  pub in_left : (n : ℕ) (found : Picks) → IsFirstAfter n test (before ++ false ∷ []) (Some found) → IsFirstAfter (suc n) test before (Some found)
  in_left n found (picks, is, (first, last, listed, fails, passed)) = (
    false ∷ picks,
    is ∙ append_assoc before (false ∷ []) picks,
    (
      map (λ p. false ∷ p) first,
      map (λ p. false ∷ p) last ++ map (λ p. true ∷ p) (pick_lists n),
      ap (λ xs. map (λ p. false ∷ p) xs ++ map (λ p. true ∷ p) (pick_lists n)) listed
          ∙ ap (λ xs. xs ++ map (λ p. true ∷ p) (pick_lists n)) (map-append (λ (p : Picks). false ∷ p) first (picks ∷ last))
          ∙ append_assoc (map (λ p. false ∷ p) first) ((false ∷ picks) ∷ map (λ p. false ∷ p) last) (map (λ p. true ∷ p) (pick_lists n)),
      with_front (λ p. test (before ++ p) ≡ false) false first
          (all_as (λ p. test ((before ++ false ∷ []) ++ p) ≡ false) (λ p. test (before ++ false ∷ p) ≡ false) (λ p. shift false p false) first fails),
      shift false picks true passed,
    ),
  )

  -- or none is, and the first is among those that go on with 1
  pub in_right : (n : ℕ) (found : Picks) → IsFirstAfter n test (before ++ false ∷ []) None → IsFirstAfter n test (before ++ true ∷ []) (Some found) →
      IsFirstAfter (suc n) test before (Some found)
  in_right n found none (picks, is, (first, last, listed, fails, passed)) = (
    true ∷ picks,
    is ∙ append_assoc before (true ∷ []) picks,
    (
      map (λ p. false ∷ p) (pick_lists n) ++ map (λ p. true ∷ p) first,
      map (λ p. true ∷ p) last,
      ap (λ xs. map (λ p. false ∷ p) (pick_lists n) ++ map (λ p. true ∷ p) xs) listed
          ∙ ap (λ xs. map (λ p. false ∷ p) (pick_lists n) ++ xs) (map-append (λ (p : Picks). true ∷ p) first (picks ∷ last))
          ∙ sym (append_assoc (map (λ p. false ∷ p) (pick_lists n)) (map (λ p. true ∷ p) first) ((true ∷ picks) ∷ map (λ p. true ∷ p) last)),
      both (λ p. test (before ++ p) ≡ false) (map (λ p. false ∷ p) (pick_lists n)) (map (λ p. true ∷ p) first)
          (with_front (λ p. test (before ++ p) ≡ false) false (pick_lists n)
          (all_listed (λ p. test (before ++ false ∷ p) ≡ false) n (λ p e. shift false p false (none p e))))
          (with_front (λ p. test (before ++ p) ≡ false) true first
          (all_as (λ p. test ((before ++ true ∷ []) ++ p) ≡ false) (λ p. test (before ++ true ∷ p) ≡ false) (λ p. shift true p false) first fails)),
      shift true picks true passed,
    ),
  )

  -- or none is at all
  pub in_none : (n : ℕ) → IsFirstAfter n test (before ++ false ∷ []) None → IsFirstAfter n test (before ++ true ∷ []) None →
      IsFirstAfter (suc n) test before None
  in_none n left right [] e = absurd (omega (arith, e))
  in_none n left right (false ∷ p) e = shift false p false (left p (omega (arith, e)))
  in_none n left right (true ∷ p) e = shift true p false (right p (omega (arith, e)))

  -- where none goes on with 0, those that go on with 1 decide
  pub then_right : (n : ℕ) → IsFirstAfter n test (before ++ false ∷ []) None → (found : Option Picks) → IsFirstAfter n test (before ++ true ∷ []) found →
      IsFirstAfter (suc n) test before found
  then_right n left None right = in_none n left right
  then_right n left (Some found) right = in_right n found left right
