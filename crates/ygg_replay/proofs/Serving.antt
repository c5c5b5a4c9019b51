-- What a layer is specified over serves the layer's blocks.
use Rattle.std.proofs.Common.{◌≡◌, ℕ, ◌≤◌, arith, length, List, Option, Some, refl, sym, ap, ◌∙◌, subst}
use Rattle.std.proofs.lemmas.Option.{slice_get_within}
use Rattle.ygg_value.specs.declared.row.Value.{Value}
use Rattle.ygg_syntax.specs.declared.tree.Block.{Block}
use Rattle.ygg_sched.specs.ygg_disk.declared.power.Power.{Power}
use Rattle.ygg_sched.specs.ygg_meaning.Shapes.{values_fit}
use Rattle.ygg_eval.specs.declared.body.Part.{Part}
use Rattle.ygg_eval.specs.declared.body.Stop.{Stop}
use Rattle.ygg_eval.specs.Bodies.{IsBlock, block_in}
use Rattle.ygg_eval.specs.Layers.{variables_at}
use Rattle.ygg_eval.specs.Lower.{Serves}
use Rattle.ygg_eval.specs.Runs.{CanServe}
use Rattle.ygg_eval.specs.Kept.{Kept, spec_meaning}
use Rattle.ygg_replay.specs.declared.site.ReplaySite.{ReplaySite}
use Rattle.ygg_replay.specs.Sites.{IsHere, IsBelow, LowFits}

pub serves : (s : ReplaySite) (k : Kept) (power : Power) → IsBelow s k → Serves spec_meaning s.typed.now.file s.place (record { machine = k; power = power })
serves s k power b = record { numbered = b.number; fits = b.kept; fuse = λ h. refl }

pub can_serve : (s : ReplaySite) (part : Part) (number : ℕ) (stop : Option Stop) (k : Kept) (power : Power) → IsBelow s k →
    CanServe spec_meaning s.typed.now.file (record { layer = s.place; part = part; number = number }) stop (record { machine = k; power = power })
can_serve s part number stop k power b = record { calls = λ h. serves s k power b; stops = λ h. (refl, serves s k power b) }

-- and still does, if it serves still
pub is_below : (s : ReplaySite) (k : Kept) (power : Power) → Serves spec_meaning s.typed.now.file s.place (record { machine = k; power = power }) → IsBelow s k
is_below s k power h = record { number = h.numbered; kept = h.fits }

-- its values are those of the base
pub low_fits : (s : ReplaySite) (k : Kept) → IsBelow s k → LowFits s k.values
low_fits s k b = ap (λ n. values_fit (variables_at s.typed.now.file n) k.values) (sym b.number) ∙ b.kept.fit

pub block_is : (s : ReplaySite) (part : Part) (number : ℕ) (b : Block) → IsHere s → block_in s.layer.now part number ≡ Some b →
    IsBlock s.typed.now.file (record { layer = s.place; part = part; number = number }) s.layer.now b
block_is s part number b here h = record { layer = here; block = h }

-- with values of the declared shapes it is what the layer is specified over
pub below_at_start : (s : ReplaySite) (low : List Value) (k : Kept) → IsHere s → LowFits s low → k ≡ record { number = s.place; values = low } → IsBelow s k
below_at_start s low k here fit is =
    let within = slice_get_within (s.typed.now.file).layers s.place s.layer.now here in
    let there : s.place ≤ length (s.typed.now.file).layers = omega (arith, within) in
    subst (IsBelow s) (sym is) (record { number = refl; kept = record { there = there; fit = fit } })
