-- The layers of a file by their numbers, in code.
use Rattle.std.proofs.Common.{◌≡◌, ◌≢◌, ◌<◌, ◌≤◌, ◌-◌, ℕ, zero, suc, List, [], ◌∷◌, length, get_or, Option, Some, None, refl, sym, ap, ◌∙◌, arith}
use Rattle.std.specs.Prelude.{slice_get}
use Rattle.std.proofs.lemmas.Option.{slice_get_read}
use Rattle.ygg_syntax.specs.declared.tree.Declared.{Declared}
use Rattle.ygg_syntax.specs.declared.tree.Def.{Def}
use Rattle.ygg_syntax.specs.declared.tree.File.{File}
use Rattle.ygg_syntax.specs.declared.tree.Layer.{Layer}
use Rattle.ygg_meaning.specs.Meaning.{functions_of}
use Rattle.ygg_meaning.specs.Refines.{OnDisk, OnSpec}
use Rattle.ygg_meaning.specs.Stack.{tables_of}
use Rattle.ygg_eval.specs.Layers.{below_at, closed_at, variables_at, variables_from}
use Rattle.ygg_sym.specs.Sites.{SameDefs}
use Rattle.ygg_sym_spec.specs.declared.below.SymBelow.{SymBelow}
use Rattle.ygg_sym_spec.specs.declared.below.SymBelow.TheVariants as on
use Rattle.ygg_sym_spec.specs.declared.layer.SymLayer.{SymLayer}
use Rattle.ygg_sym_bodies.specs.Places.{HasDefs}

from_zero : (low : List Declared) (ls : List Layer) → variables_from low ls 0 ≡ low
from_zero low [] = refl
from_zero low (l ∷ ls) = refl

from_next : (low : List Declared) (ls : List Layer) (n : ℕ) (l : Layer) → slice_get ls n ≡ Some l → variables_from low ls (suc n) ≡ l.state
from_next low [] n l h = absurd (cc)
from_next low (x ∷ xs) zero l h = let same : x ≡ l = cc in from_zero x.state xs ∙ ap (λ (y : Layer). y.state) same
from_next low (x ∷ xs) (suc n) l h = from_next x.state xs n l h

-- the lowest layer sees the disk's tables
pub variables_zero : (f : File) (n : ℕ) → n ≡ 0 → tables_of f.disk ≡ variables_at f n
variables_zero f n e = sym (from_zero (tables_of f.disk) f.layers) ∙ ap (variables_at f) (sym e)

pub below_zero : (f : File) (n : ℕ) → n ≡ 0 → OnDisk f.disk ≡ below_at f n
below_zero f n e = ap (below_at f) (sym e)

-- the layer with a number, where it is read from the list
pub layer_there : (f : File) (n : ℕ) (xs : List Layer) (l : Layer) → xs ≡ f.layers → n < length f.layers → l ≡ get_or xs n l →
    slice_get f.layers n ≡ Some l
layer_there f n xs l e less is =
    slice_get_read f.layers (length f.layers) n l refl less (is ∙ ap (λ ys. get_or ys n l) e)

-- and the one below
pub layer_below : (f : File) (n : ℕ) (xs : List Layer) (l : Layer) → xs ≡ f.layers → n ≢ 0 → n ≤ length f.layers → l ≡ get_or xs (n - 1) l →
    slice_get f.layers (n - 1) ≡ Some l
layer_below f n xs l e some less is = let h : n - 1 < length f.layers = omega (arith, some, less) in layer_there f (n - 1) xs l e h is

-- each other layer sees the state of the one below
pub variables_above : (f : File) (n : ℕ) (l : Layer) → n ≢ 0 → slice_get f.layers (n - 1) ≡ Some l → l.state ≡ variables_at f n
variables_above f n l some h =
    let e : suc (n - 1) ≡ n = omega (arith, some) in
    sym (from_next (tables_of f.disk) f.layers (n - 1) l h) ∙ ap (variables_at f) e

-- and is specified over its specification
pub below_above : (f : File) (n : ℕ) (defs : List Def) (l : Layer) (low : List Declared) → n ≢ 0 → slice_get f.layers (n - 1) ≡ Some l → defs ≡ f.defs →
    low ≡ variables_at f (n - 1) → OnSpec (record { functions = functions_of defs; layer = l; low = low }) ≡ below_at f n
below_above f n defs l low some h d v =
    let e : suc (n - 1) ≡ n = omega (arith, some) in
    ap (λ (x : List Def). OnSpec (record { functions = functions_of x; layer = l; low = low })) d
    ∙ ap (λ (x : List Declared). OnSpec (record { functions = functions_of f.defs; layer = l; low = x })) v
    ∙ sym (ap (λ (o : Option Layer). elim o [ None ↦ OnDisk f.disk | Some m ↦ OnSpec (closed_at f (n - 1) m) ]) h)
    ∙ ap (below_at f) e

-- both have the file's definitions
pub same_defs : (defs : List Def) (l : SymLayer) (g : SymBelow) → l.defs.now ≡ defs → HasDefs defs g → SameDefs l g
same_defs defs l (on.Disk d) e h = tt
same_defs defs l (on.Layer m) e h = h ∙ sym e
