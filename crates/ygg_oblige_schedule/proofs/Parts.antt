-- Runs that power cuts, as the parts of a schedule.
use Rattle.std.proofs.Common.{◌≡◌, Result, Ok, Err, IfOk, refl, Bool, List, [], Option, Some, None, sym, ap, ◌∙◌, subst}
use Rattle.std.specs.Option.{option_map}
use Rattle.ygg_list.specs.declared.memory.NoMemory.{NoMemory}
use Rattle.ygg_value.specs.declared.row.Value.{Value}
use Rattle.ygg_syntax.specs.declared.tree.Block as tree
use Rattle.ygg_syntax.specs.declared.tree.Layer.{Layer}
use Rattle.ygg_replay.specs.ygg_meaning.Environments.{Env}
use Rattle.ygg_replay.specs.ygg_meaning.Obligations.{Halt}
use Rattle.ygg_oblige_given.specs.ygg_oblige_laws.Schedules.{left_of, picks_of, stop_of, wake_picks, woken_picks}
use Rattle.ygg_replay.specs.ygg_sched.Fitting.{halt_meant}
use Rattle.ygg_eval_places.specs.declared.below.Fallen.{Fallen}
use Rattle.ygg_oblige_schedule.specs.Here.{below_of, inputs_of, layer_of, low_env, numbers_of, LowFits}
use Rattle.ygg_oblige_schedule.specs.Runs.{FallsHere, FellSo, args_env, memory_env}
use Rattle.ygg_oblige_schedule.specs.Schedules.{IsBounded, OfBlock, PartsAre}
use Rattle.ygg_oblige_schedule.specs.declared.reader.FirstBlock.{FirstBlock}
use Rattle.ygg_oblige_schedule.specs.declared.reader.EnvironmentReader.{EnvironmentReader}
use Rattle.ygg_oblige_schedule.specs.declared.named.CutParts.{CutParts}

module _ (r : EnvironmentReader) (block : FirstBlock) (args memory low : List Value) (b : tree.Block) (p : CutParts) where
  abbrev l : Layer
  l = r.site.layer.now

  abbrev own : Env
  own = memory_env r block args memory low l

  abbrev given : Env
  given = args_env r block args memory low l

  abbrev below : Env
  below = low_env r low

  abbrev stops : Option Halt
  stops = stop_of (below_of r) (layer_of r) (inputs_of r) (numbers_of r) b own given below

  abbrev wakes : Option Halt → List Bool
  wakes s =
      wake_picks (below_of r) (layer_of r) (inputs_of r) (numbers_of r).wake
      (left_of (below_of r) (layer_of r) (inputs_of r) (numbers_of r) b own given below s)

  abbrev takes : Option Halt → List Bool
  takes s = picks_of (below_of r) (layer_of r) (inputs_of r) (numbers_of r) b own given below s

  -- the run comes to no stop that is set
  pub no_parts : (s : Option Halt) → stops ≡ s → FellSo r block args memory low l b s None → p.stop ≡ None → p.picks ≡ [] → p.wake ≡ [] →
      PartsAre r b own given below p
  no_parts None e f stop picks wake = record {
    bounded = subst IsBounded (sym stop) tt;
    stop = ap (option_map halt_meant) stop ∙ sym e;
    picks = picks ∙ sym (ap takes e);
    wake = wake ∙ sym (ap wakes e);
  }
  no_parts (Some h) e f stop picks wake = absurd f

  -- power cuts it at a stop
  pub some_parts : (s : Option Halt) (f : Fallen) → stops ≡ s → FellSo r block args memory low l b s (Some f) →
      IsBounded p.stop → option_map halt_meant p.stop ≡ Some (record { within = f.stop.within; event = f.stop.event }) → p.picks ≡ f.picks →
      p.wake ≡ woken_picks (below_of r) (layer_of r) (inputs_of r) (numbers_of r).wake (low_env r f.low) → PartsAre r b own given below p
  some_parts None f e h bounded stop picks wake = absurd (cc)
  some_parts (Some at) f e h bounded stop picks wake = record {
    bounded = bounded;
    stop = stop ∙ ap (λ (x : Halt). Some x) h.stop_is ∙ sym e;
    picks = picks ∙ h.picks ∙ sym (ap takes e);
    wake = wake ∙ sym (ap (wake_picks (below_of r) (layer_of r) (inputs_of r) (numbers_of r).wake) h.left) ∙ sym (ap wakes e);
  }

-- what power leaves of a run that it cuts has the declared shapes
pub left_fits : (r : EnvironmentReader) (block : FirstBlock) (args memory low : List Value) (l : Layer) (b : tree.Block) (s : Option Halt) (f : Fallen) →
    FellSo r block args memory low l b s (Some f) → LowFits r f.low
left_fits r block args memory low l b None f h = absurd (cc)
left_fits r block args memory low l b (Some at) f h = h.fit

module _ (r : EnvironmentReader) (block : FirstBlock) (args memory low : List Value) (f : Fallen)
    (fell : FallsHere r block args memory low (Some f)) where
  abbrev Parts : CutParts → Type 0
  Parts p = OfBlock r block (λ b. PartsAre r b (memory_env r block args memory low r.site.layer.now) (args_env r block args memory low r.site.layer.now)
      (low_env r low) p)

  -- the parts of a run that power cuts, with the recovery after it
  pub woken : (res : Result CutParts NoMemory) → IfOk res (λ p. option_map halt_meant p.stop ≡ Some (record { within = f.stop.within; event = f.stop.event })) →
      IfOk res (λ p. IsBounded p.stop) → IfOk res (λ p. p.picks ≡ f.picks) →
      IfOk res (λ p. p.wake ≡ woken_picks (below_of r) (layer_of r) (inputs_of r) (numbers_of r).wake (low_env r f.low)) → IfOk res Parts
  woken (Ok p) stop bounded picks wake =
      λ b is. some_parts r block args memory low b p (stops r block args memory low b p) f refl (fell r.site.layer.now b is) bounded stop picks wake
  woken (Err e) stop bounded picks wake = tt
