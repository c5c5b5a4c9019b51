-- Values of arguments, read one after the other.
use Rattle.std.proofs.Common.{
  ◌≡◌,
  ℕ,
  ◌+◌,
  ◌<◌,
  ◌≤◌,
  true,
  false,
  List,
  [],
  ◌∷◌,
  ◌++◌,
  length,
  get_or,
  drop,
  Bor,
  Option,
  Some,
  None,
  refl,
  sym,
  ap,
  ◌∙◌,
  append_assoc,
}
use Rattle.std.specs.Prelude.{is_some}
use Rattle.std.specs.Option.{option_map, option_copied}
use Rattle.std.proofs.lemmas.List.{append-nil, drop_more, drop_all}
use Rattle.ygg_value.specs.declared.row.Value.{Value}
use Rattle.ygg_syntax.specs.declared.tree.Declared.{Declared}
use Rattle.ygg_sched.specs.Words.{cut_at, parts}
use Rattle.ygg_sched.specs.Values.{value_in}
use Rattle.ygg_sched.proofs.Pieces.{with_front}
use Rattle.ygg_script.specs.Left.{pieces_left}
use Rattle.ygg_script.specs.Places.{values_in}
use Rattle.ygg_script.proofs.Pieces.{pieces_cut}

regroup : (front : List Value) (v : Value) (read : Option (List Value)) →
    with_front front (option_map (λ vs. v ∷ vs) read) ≡ with_front (front ++ v ∷ []) read
regroup front v None = refl
regroup front v (Some vs) = ap (λ ws. Some ws) (sym (append_assoc front (v ∷ []) vs))

module _ (front : List Value) (ds : List Declared) (i : ℕ) (d : Declared) (within : i < length ds) (is : d ≡ get_or ds i d) where
  split : drop i ds ≡ d ∷ drop (i + 1) ds
  split = drop_more ds i d within ∙ ap (λ (x : Declared). x ∷ drop (i + 1) ds) (sym is)

  -- a value that is read
  pub goes_on : (bytes : List ℕ) (v : Value) → value_in d.shape (cut_at 32 bytes).0 ≡ Some v →
      with_front (front ++ v ∷ []) (values_in (drop (i + 1) ds) (pieces_left 32 (cut_at 32 bytes).1))
      ≡ with_front front (values_in (drop i ds) (parts 32 bytes))
  goes_on bytes v read =
      rw (split, pieces_cut 32 bytes, read) (sym (regroup front v (values_in (drop (i + 1) ds) (pieces_left 32 (cut_at 32 bytes).1))))

  -- one that is not
  pub stops : (bytes : List ℕ) → value_in d.shape (cut_at 32 bytes).0 ≡ None → with_front front (values_in (drop i ds) (parts 32 bytes)) ≡ None
  stops bytes none = rw (split, pieces_cut 32 bytes, none) refl

  -- too few words
  pub too_few : with_front front (values_in (drop i ds) []) ≡ None
  too_few = rw split refl

module _ (front : List Value) (ds : List Declared) (i : ℕ) (past : length ds ≤ i) where
  -- too many words
  too_many : (bytes : List ℕ) → with_front front (values_in (drop i ds) (parts 32 bytes)) ≡ None
  too_many bytes = rw (drop_all i ds past, pieces_cut 32 bytes) refl

  -- all words
  ends : with_front front (values_in (drop i ds) []) ≡ Some front
  ends = rw (drop_all i ds past) (ap (λ vs. Some vs) (append-nil front))

  -- too many, where more are left
  pub too_many_left : (left : Option (Bor (List ℕ))) → is_some left ≡ true →
      with_front front (values_in (drop i ds) (pieces_left 32 (option_copied left))) ≡ None
  too_many_left None more = absurd cc
  too_many_left (Some rest) more = too_many rest.now

  -- all words, where none is left
  pub ends_left : (left : Option (Bor (List ℕ))) → is_some left ≡ false →
      with_front front (values_in (drop i ds) (pieces_left 32 (option_copied left))) ≡ Some front
  ends_left None more = ends
  ends_left (Some rest) more = absurd cc
