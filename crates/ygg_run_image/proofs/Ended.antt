-- How the formatting of all layers ended, as what it did to the ground.
use Rattle.std.proofs.Common.{◌≡◌, ℕ, Option, None, IsSomeAnd, length, refl, sym, ◌∙◌, subst}
use Rattle.ygg_syntax.specs.declared.tree.File.{File}
use Rattle.ygg_run_image.specs.ygg_disk.Ground.{Meaning}
use Rattle.ygg_run_image.specs.ygg_disk.declared.power.Fuse.{Fuse}
use Rattle.ygg_run_image.specs.ygg_disk.declared.power.Power.{Power}
use Rattle.ygg_run_image.specs.ygg_eval.Lower.{PowerLoss, GivenUp, Ending, Whole, Down, Failed, Starved}
use Rattle.ygg_run_image.specs.ygg_machine.Bottoms.{bottom_on, FormatFalls, View, ViewEnds, formats, state_seen}
use Rattle.ygg_run_image.specs.declared.end.FormatEnd.{FormatEnd}
use Rattle.ygg_run_image.specs.Formatting.{end_of, FormatsSo, Formats}

module _ {S : Type 0} (G : Meaning S) (f : File) (v v' : View S) (p p' : Power) (height : v.height ≡ length f.layers)
    (steady : p.fuse ≡ None) where
  ended_so : (e : Ending) → ViewEnds G f (formats G f v) e v p v' p' → FormatsSo G f v.base v'.base (end_of e)
  ended_so (Whole answer) h = record {
    state = state_seen f v';
    notes = h.so.notes;
    starts = subst (λ (n : ℕ). (bottom_on G PowerLoss f v.base n).Starts (state_seen f v') h.so.notes) height (h.so.does PowerLoss).1;
    leaves = refl;
  }
  ended_so Down h = absurd (subst (λ (o : Option Fuse). IsSomeAnd o (λ f. f.call ≡ p'.passed)) (h.so.passes.fuse ∙ steady) h.so.named)
  ended_so Failed h = (
    h.so.rose,
    record {
      notes = h.so.stopped.notes;
      falls = subst (λ (n : ℕ). FormatFalls G GivenUp f v.base n h.so.stopped.notes v'.base) height h.so.stopped.leaves;
    },
  )
  ended_so Starved h = record {
    notes = h.so.notes;
    falls = subst (λ (n : ℕ). FormatFalls G GivenUp f v.base n h.so.notes v'.base) height h.so.leaves;
  }

  pub ended : (e : Ending) (end : FormatEnd) → end ≡ end_of e → ViewEnds G f (formats G f v) e v p v' p' → Formats G f v.base v'.base end
  ended e end is h = record { so = subst (FormatsSo G f v.base v'.base) (sym is) (ended_so e h); later = h.later }
