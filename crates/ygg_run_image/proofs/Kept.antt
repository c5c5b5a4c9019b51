-- What each disk call keeps, the formatting of layers keeps, whole or cut.
use Rattle.std.proofs.Common.{ℕ, zero, suc, List, [], Option, Some, None, slice_get, inl, inr, subst}
use Rattle.ygg_syntax.specs.declared.tree.Layer.{Layer}
use Rattle.ygg_syntax.specs.declared.tree.File.{File}
use Rattle.ygg_run_image.specs.ygg_disk.Ground.{Meaning}
use Rattle.ygg_run_image.specs.ygg_meaning.Machine.{State, Machine}
use Rattle.ygg_run_image.specs.ygg_meaning.Layer.{Layered}
use Rattle.ygg_run_image.specs.ygg_meaning.Noted.{Note}
use Rattle.ygg_run_image.specs.ygg_eval.Layers.{closed_at}
use Rattle.ygg_run_image.specs.ygg_eval.Lower.{Cause}
use Rattle.ygg_run_image.specs.ygg_machine.GroundSteps.{ground_machine}
use Rattle.ygg_run_image.specs.ygg_machine.Floors.{idle_on}
use Rattle.ygg_run_image.specs.ygg_machine.Bottoms.{bottom_on, FormatFalls}
use Rattle.ygg_run_image.specs.Kept.{Keeps}
use Rattle.ygg_run_image.proofs.StackKeeping.{fall_keeps, layered_keeps}

module _ {S : Type 0} (G : Meaning S) (f : File) (start : S) (I : S → Type 0) (cause : Cause) (k : Keeps I (ground_machine G cause start)) where
  idle_keeps : (M : Machine S Note) → Keeps I M → Keeps I (idle_on M)
  idle_keeps M m = record {
    starts = λ s notes h. absurd h;
    calls = λ s name args notes answer s' i h. absurd h;
    falls = λ s name args notes g i h. absurd h;
    ticks = λ s name notes s' i h. absurd h;
    tick_falls = λ s name notes g i h. absurd h;
    loses = λ s notes g i h. m.loses h.lower notes g (subst (λ (x : State S). I x.base) h.from_is i) h.falls;
    wakes = λ g notes s i h. absurd h;
    wake_falls = λ g notes g' i h. absurd h;
  }

  layer_keeps : (place : ℕ) (o : Option Layer) (M : Machine S Note) → Keeps I M →
      Keeps I (elim o [ None ↦ idle_on M | Some l ↦ Layered (closed_at f place l) M ])
  layer_keeps place None M m = idle_keeps M m
  layer_keeps place (Some l) M m = layered_keeps I M m (closed_at f place l)

  bottom_keeps : (n : ℕ) → Keeps I (bottom_on G cause f start n)
  unfolding bottom_on
  bottom_keeps zero = k
  bottom_keeps (suc n) = layer_keeps n (slice_get f.layers n) (bottom_on G cause f start n) (bottom_keeps n)

  -- a whole format
  pub starts_keep : (n : ℕ) (s : State S) (notes : List Note) → (bottom_on G cause f start n).Starts s notes → I s.base
  starts_keep n s notes h = (bottom_keeps n).starts s notes h

  -- and one that is cut
  pub format_falls_keep : (n : ℕ) (notes : List Note) (fallen : S) → FormatFalls G cause f start n notes fallen → I fallen
  unfolding FormatFalls
  format_falls_keep zero notes fallen h = absurd h
  format_falls_keep (suc n) notes fallen (inl h) = format_falls_keep n notes fallen h
  format_falls_keep (suc n) notes fallen (inr h) =
      let M = bottom_on G cause f start n in
      fall_keeps I M (bottom_keeps n) (closed_at f n h.layer) h.layer.format [] _ h.second fallen ((bottom_keeps n).starts h.lower h.first h.starts) h.falls
