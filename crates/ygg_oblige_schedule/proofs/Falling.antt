-- Runs by place that power cuts, with the bits that inputs name.
use Rattle.std.proofs.Common.{◌≡◌, ℕ, Bool, List, Option, Some, None, ◌∙◌, refl, sym, ap, subst}
use Rattle.ygg_value.specs.declared.row.Value.{Value}
use Rattle.ygg_syntax.specs.declared.grammar.BlockKind.TheVariants as kind
use Rattle.ygg_syntax.specs.declared.tree.Block as tree
use Rattle.ygg_syntax.specs.declared.tree.Layer.{Layer}
use Rattle.ygg_replay.specs.ygg_meaning.Obligations.{Halt}
use Rattle.ygg_eval_places.specs.ygg_sym_runs.Laws.{picked_by}
use Rattle.ygg_eval_places.specs.ygg_sym_laws.Fronts.{fall_picks, left_at, run_stop}
use Rattle.ygg_oblige_schedule.specs.ygg_eval.Bodies.{kind_of, variables_in}
use Rattle.ygg_oblige_schedule.specs.ygg_eval.declared.body.Part.{Part}
use Rattle.ygg_oblige_schedule.specs.ygg_eval.declared.body.Part.TheVariants as part
use Rattle.ygg_eval_places.specs.Bits.{bits_in}
use Rattle.ygg_eval_places.specs.Fronts.{Falls}
use Rattle.ygg_eval_places.specs.declared.below.Fallen.{Fallen}
use Rattle.ygg_eval_places.specs.declared.below.PlacedBits.{PlacedBits}
use Rattle.ygg_oblige_schedule.specs.Here.{below_of, body_of, file_of, inputs_of, low_env, numbers_of}
use Rattle.ygg_oblige_schedule.specs.Runs.{FellSo, args_env, layer_at, memory_env}
use Rattle.ygg_oblige_schedule.specs.declared.reader.FirstBlock.{FirstBlock}
use Rattle.ygg_oblige_schedule.specs.declared.reader.EnvironmentReader.{EnvironmentReader}

-- the blocks of an implementation change the memory
pub memory_of : (l : Layer) (p : Part) → kind_of p ≡ kind.Impl → variables_in l p ≡ l.memory
memory_of l part.Start h = absurd (cc)
memory_of l part.Spec h = absurd (cc)
memory_of l part.OnCrash h = absurd (cc)
memory_of l part.Crash h = absurd (cc)
memory_of l part.Format h = refl
memory_of l part.Impl h = refl
memory_of l part.Tick h = refl
memory_of l part.Recover h = refl

module _ (r : EnvironmentReader) (block : FirstBlock) (args memory low : List Value) (l : Layer) (b : tree.Block) (bits : PlacedBits)
    (run : bits_in bits.run ≡ picked_by (inputs_of r) (numbers_of r).run) (stops : bits_in bits.stops ≡ picked_by (inputs_of r) (numbers_of r).stop)
    (last : bits_in bits.last ≡ picked_by (inputs_of r) (numbers_of r).last) where
  abbrev left_with : (ℕ → Bool) → (ℕ → Bool) → Halt → Option (List (List ℕ × Value))
  left_with x y s =
      left_at (below_of r) (layer_at r block args memory low l) b (memory_env r block args memory low l) (args_env r block args memory low l)
      (low_env r low) x y s

  abbrev picks_with : (ℕ → Bool) → (ℕ → Bool) → Halt → List Bool
  picks_with x y s =
      fall_picks (below_of r) (layer_at r block args memory low l) b (memory_env r block args memory low l) (args_env r block args memory low l)
      (low_env r low) x y s

  abbrev stop_with : (ℕ → Bool) → (ℕ → Bool) → Option Halt
  stop_with x y =
      run_stop (below_of r) (layer_at r block args memory low l) b (memory_env r block args memory low l) (args_env r block args memory low l)
      (low_env r low) x y

  fell_with : (s : Option Halt) (f : Option Fallen) → Falls (file_of r) (body_of r block) l b args memory low bits s f →
      FellSo r block args memory low l b s f
  fell_with None f h = h
  fell_with (Some s) None h = h
  fell_with (Some s) (Some f) h = record {
    stop_is = h.stop_is;
    left = sym (ap (λ x. left_with x (bits_in bits.last) s) run ∙ ap (λ y. left_with (picked_by (inputs_of r) (numbers_of r).run) y s) last) ∙ h.left;
    fit = h.fit;
    picks = h.picks ∙ ap (λ x. picks_with x (bits_in bits.last) s) run ∙ ap (λ y. picks_with (picked_by (inputs_of r) (numbers_of r).run) y s) last;
  }

  pub fell : (f : Option Fallen) → Falls (file_of r) (body_of r block) l b args memory low bits (stop_with (bits_in bits.run) (bits_in bits.stops)) f →
      FellSo r block args memory low l b (stop_with (picked_by (inputs_of r) (numbers_of r).run) (picked_by (inputs_of r) (numbers_of r).stop)) f
  fell f h =
      subst (λ (s : Option Halt). FellSo r block args memory low l b s f)
      (ap (λ x. stop_with x (bits_in bits.stops)) run ∙ ap (stop_with (picked_by (inputs_of r) (numbers_of r).run)) stops) (fell_with _ f h)
