-- The layers of a file by number on a ground are those of the file's list.
use Rattle.std.proofs.Common.{◌≡◌, ℕ, zero, suc, ◌≤◌, List, [], ◌∷◌, ◌++◌, length, slice_get, Option, Some, None, refl, sym, ap, ◌∙◌, arith, append_assoc}
use Rattle.std.proofs.lemmas.List.{append-nil}
use Rattle.ygg_syntax.specs.declared.tree.Declared.{Declared}
use Rattle.ygg_syntax.specs.declared.tree.Layer.{Layer}
use Rattle.ygg_syntax.specs.declared.tree.File.{File}
use Rattle.ygg_eval.specs.ygg_meaning.Meaning.{functions_of}
use Rattle.ygg_eval.specs.ygg_meaning.Machine.{Machine}
use Rattle.ygg_eval.specs.ygg_meaning.Layer.{ClosedLayer, Layered}
use Rattle.ygg_eval.specs.ygg_disk.Ground as ground
use Rattle.ygg_eval.specs.ygg_meaning.Noted.{Note}
use Rattle.ygg_eval.specs.ygg_meaning.Stack.{Layers, Stacked, layers_on, layers_of, tables_of}
use Rattle.ygg_eval.specs.Layers.{closed_at, variables_from, variables_at}
use Rattle.ygg_eval.specs.Lower.{Cause}
use Rattle.ygg_eval.proofs.OnSpec.{layer_variables}
use Rattle.ygg_machine.specs.GroundSteps.{ground_machine}
use Rattle.ygg_machine.specs.Floors.{idle_on}
use Rattle.ygg_machine.specs.FloorStacks.{layer_there}
use Rattle.ygg_machine.specs.Bottoms.{bottom_on}

-- the lowest layers of a file, so many of them, the topmost first
abbrev lowest : File → ℕ → Layers
lowest file zero = []
lowest file (suc n) = elim (slice_get file.layers n) as (λ o. Layers) [ None ↦ lowest file n | Some l ↦ closed_at file n l ∷ lowest file n ]

next_is : (file : File) (n : ℕ) (l : Layer) → slice_get file.layers n ≡ Some l → lowest file (suc n) ≡ closed_at file n l ∷ lowest file n
next_is file n l h =
    ap (λ (o : Option Layer). elim o as (λ o. Layers) [ None ↦ lowest file n | Some l ↦ closed_at file n l ∷ lowest file n ]) h

-- an element after others
at_end : (before after : List Layer) (l : Layer) → slice_get (before ++ l ∷ after) (length before) ≡ Some l
at_end [] after l = refl
at_end (x ∷ before) after l = at_end before after l

one_more : (before : List Layer) (l : Layer) → length (before ++ l ∷ []) ≡ suc (length before)
one_more [] l = refl
one_more (x ∷ before) l = ap suc (one_more before l)

gathered : (file : File) (before after : List Layer) → file.layers ≡ before ++ after → (low : List Declared) → low ≡ variables_at file (length before) →
    layers_on (functions_of file.defs) low after (lowest file (length before)) ≡ lowest file (length file.layers)
gathered file before [] is low known =
    ap (λ (ls : List Layer). lowest file (length ls)) (sym (is ∙ append-nil before))
gathered file before (l ∷ after) is low known =
    let here : slice_get file.layers (length before) ≡ Some l = ap (λ (ls : List Layer). slice_get ls (length before)) is ∙ at_end before after l in
    let this : record { functions = functions_of file.defs; layer = l; low = low } ≡ closed_at file (length before) l =
    ap (λ (ds : List Declared). record { functions = functions_of file.defs; layer = l; low = ds }) known in
    let more : length (before ++ l ∷ []) ≡ suc (length before) = one_more before l in
    let grown : record { functions = functions_of file.defs; layer = l; low = low } ∷ lowest file (length before) ≡ lowest file (length (before ++ l ∷ [])) =
    ap (λ (L : ClosedLayer). L ∷ lowest file (length before)) this ∙ sym (next_is file (length before) l here) ∙ ap (λ (n : ℕ). lowest file n) (sym more) in
    ap (λ (ls : Layers). layers_on (functions_of file.defs) l.state after ls) grown
    ∙ gathered file (before ++ l ∷ []) after (is ∙ sym (append_assoc before (l ∷ []) after)) l.state
    (sym (layer_variables (tables_of file.disk) file.layers (length before) l here) ∙ ap (λ (n : ℕ). variables_at file n) (sym more))

lowest_all : (file : File) → layers_of file ≡ lowest file (length file.layers)
lowest_all file = gathered file [] file.layers refl (tables_of file.disk) (first file.layers)
  where
    first : (ls : List Layer) → tables_of file.disk ≡ variables_from (tables_of file.disk) ls 0
    first [] = refl
    first (l ∷ ls) = refl

module _ {S : Type 0} (G : ground.Meaning S) (cause : Cause) (file : File) (start : S) where
  lowest_on : (n : ℕ) → n ≤ length file.layers → bottom_on G cause file start n ≡ Stacked (ground_machine G cause start) (lowest file n)
  unfolding bottom_on
  lowest_on zero h = refl
  lowest_on (suc n) h =
      let (l, there) = layer_there file n (omega arith) in
      let under = lowest_on n (omega arith) in
      ap (λ (o : Option Layer). elim o as (λ o. Machine S Note) [
        | None ↦ idle_on (bottom_on G cause file start n)
        | Some l ↦ Layered (closed_at file n l) (bottom_on G cause file start n)
      ]) there ∙ ap (λ (X : Machine S Note). Layered (closed_at file n l) X) under
      ∙ ap (λ (ls : Layers). Stacked (ground_machine G cause start) ls) (sym (next_is file n l there))

  -- all layers of a file by number are those of its list
  pub bottom_is : bottom_on G cause file start (length file.layers) ≡ Stacked (ground_machine G cause start) (layers_of file)
  bottom_is =
      lowest_on (length file.layers) (omega arith) ∙ ap (λ (ls : Layers). Stacked (ground_machine G cause start) ls) (sym (lowest_all file))
