-- Power that fails after the last disk call of something cuts it there, where a file has layers. This is a proof that stands among the specifications,
-- since scenes give it as the value of a field.
use Rattle.std.specs.Prelude.{◌≡◌, ℕ, suc, List, [], ◌∷◌, length}
use Rattle.std.proofs.Common.{refl, sym, subst, arith}
use Rattle.ygg_syntax.specs.declared.tree.Declared.{Declared}
use Rattle.ygg_syntax.specs.declared.tree.Layer.{Layer}
use Rattle.ygg_syntax.specs.declared.tree.File.{File}
use Rattle.ygg_machine.specs.ygg_meaning.Meaning.{Functions, functions_of}
use Rattle.ygg_machine.specs.ygg_meaning.Layer.{ClosedLayer}
use Rattle.ygg_run_play.specs.ygg_meaning.Noted.{NotedDisk}
use Rattle.ygg_run_play.specs.ygg_meaning.Stack.{Layers, Stacked, layers_on, tables_of}
use Rattle.ygg_run_play.specs.Scene.{FallsAfterAll}
use Rattle.ygg_run_play.proofs.Falling.{noted_falls_after_all}
use Rattle.ygg_run_play.specs.Played.{Noted}

-- a topmost layer, and those below it
abbrev HasTop : Layers → Type 0
HasTop layers = (L : ClosedLayer) × (lower : Layers) × (layers ≡ L ∷ lower)

top_on : (functions : Functions) (low : List Declared) (ls : List Layer) (L : ClosedLayer) (lower : Layers) → HasTop (layers_on functions low ls (L ∷ lower))
top_on functions low [] L lower = (L, lower, refl)
top_on functions low (l ∷ ls) L lower = top_on functions l.state ls (record { functions = functions; layer = l; low = low }) (L ∷ lower)

top_of : (functions : Functions) (low : List Declared) (ls : List Layer) (n : ℕ) → suc n ≡ length ls → HasTop (layers_on functions low ls [])
top_of functions low [] n h = absurd (omega arith)
top_of functions low (l ∷ ls) n h = top_on functions l.state ls (record { functions = functions; layer = l; low = low }) []

-- so it is of the layers of a file that has some
pub falls_in_layers : (f : File) (n : ℕ) → suc n ≡ length f.layers → FallsAfterAll (Noted f)
falls_in_layers f n h =
    let (L, lower, is) = top_of (functions_of f.defs) (tables_of f.disk) f.layers n h in
    subst (λ (ls : Layers). FallsAfterAll (Stacked (NotedDisk f.disk) ls)) (sym is) (noted_falls_after_all f.disk L lower)
