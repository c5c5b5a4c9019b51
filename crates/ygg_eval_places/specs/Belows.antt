-- What a layer is specified over, as a machine that answers by place and notes what it takes.
use Rattle.std.specs.Prelude.{◌≤◌, ℕ, suc, Bool, true, false, IsTrue, if◌then◌else◌, ◌++◌, length, Option, Some, None}
use Rattle.std.specs.List.{list_all}
use Rattle.std.specs.Option.{option_map}
use Rattle.ygg_syntax.specs.declared.grammar.BlockKind.TheVariants.{Impl}
use Rattle.ygg_syntax.specs.declared.tree.File.{File}
use Rattle.ygg_eval.specs.ygg_type_rules.Files.{IsTyped}
use Rattle.ygg_eval.specs.ygg_meaning.Environments.{Env, bind}
use Rattle.ygg_eval.specs.ygg_meaning.Machine.{Picks, State, based}
use Rattle.ygg_eval.specs.ygg_meaning.Obligations.{Halt}
use Rattle.ygg_eval.specs.ygg_meaning.Progress.{Question}
use Rattle.ygg_eval.specs.ygg_meaning.Refines.{Below}
use Rattle.ygg_eval.specs.ygg_meaning.Shapes.{values_fit}
use Rattle.ygg_eval.specs.ygg_meaning_laws.Kinds.{layer_keeps}
use Rattle.ygg_eval.specs.ygg_meaning_laws.Direct.{Handled}
use Rattle.ygg_eval.specs.Files.{IsStateBelow}
use Rattle.ygg_eval_places.specs.ygg_sym_runs.Stops.{before_at, within_at, halt}
use Rattle.ygg_eval_places.specs.ygg_sym_laws.Below.{space_on}
use Rattle.ygg_eval_places.specs.ygg_sym_laws.Fronts.{handle_on, takes_on, cut_on, cut_takes_on, lose_on, lose_takes_on}
use Rattle.ygg_eval.specs.Layers.{below_at, signatures_at, variables_at}
use Rattle.ygg_eval.specs.declared.body.Stop.{Stop}
use Rattle.ygg_eval_places.specs.Machines.{PlaceMeaning}
use Rattle.ygg_eval_places.specs.Bits.{bits_in}
use Rattle.ygg_eval_places.specs.declared.below.BelowPlaces.{BelowPlaces}
use Rattle.ygg_eval_places.specs.declared.below.BelowState.{BelowState}
use Rattle.ygg_eval_places.specs.declared.below.Fallen.{Fallen}

-- where power fails in a run, what it leaves, whether the values of that are of their shapes, and the picks that were taken till then, with those of
-- the failure
pub record Cut : Type 0 where
  pub stop : Halt
  pub base : Env
  pub shaped : Bool
  pub picks : Picks

-- a state within a run: what has been taken, how many questions were asked, where power fails, and whether the values are of their shapes
pub record Noted : Type 0 where
  pub at : State Env
  pub shaped : Bool
  pub picks : Picks
  pub asked : ℕ
  pub fallen : Option Cut

-- power is said to fail so
abbrev pub failing : Option Cut → Noted → Noted
failing o z = record { at = z.at; shaped = z.shaped; picks = z.picks; asked = z.asked; fallen = o }

-- power fails there
abbrev pub falls_there : Bool → Env → Picks → Noted → Cut
falls_there within base more z = record { stop = halt within z.asked; base = base; shaped = true; picks = z.picks ++ more }

module _ (G : Below) (bits stops last : ℕ → Bool) where
  -- power fails between questions, where the stop before this place is set and it hasn't failed before
  abbrev pub falls_before : ℕ → Noted → Option Cut → Option Cut
  falls_before i z other = if stops (before_at i) then Some (falls_there false (lose_on G last z.at) (lose_takes_on G last z.at) z) else other

  -- power fails before a question or within it, where a stop there is set
  abbrev pub falls_by : ℕ → Question → Noted → Option Cut
  falls_by i q z =
      falls_before i z (if stops (within_at i) then Some (falls_there true (cut_on G last q z.at) (cut_takes_on G last q z.at) z) else None)

  -- unless it has failed before
  abbrev pub first_of : Option Cut → Option Cut → Option Cut
  first_of None other = other
  first_of (Some c) other = Some c

  -- a question at a place
  abbrev pub notes_below : ℕ → Question → Noted → Handled Noted
  notes_below i q z = let h = handle_on G bits i q z.at in record {
    answer = h.answer;
    to = record {
      at = h.to;
      shaped = true;
      picks = z.picks ++ takes_on G bits i q z.at;
      asked = suc z.asked;
      fallen = first_of z.fallen (falls_by i q z);
    };
  }

  -- where power fails in a run that has come to its end
  abbrev pub fallen_at_end : ℕ → Noted → Option Cut
  fallen_at_end i z = first_of z.fallen (falls_before i z None)

-- a stop of a run
abbrev pub halt_of : Stop → Halt
halt_of stop = halt stop.within stop.event

-- what is left where power failed
abbrev pub cut_of : File → ℕ → Fallen → Cut
cut_of file number f = record {
  stop = halt_of f.stop;
  base = bind (variables_at file number) f.low;
  shaped = values_fit (variables_at file number) f.low;
  picks = f.picks;
}

-- a state of the machine
abbrev pub noted_of : File → ℕ → BelowState → Noted
noted_of file number s = record {
  at = based (bind (variables_at file number) s.low);
  shaped = values_fit (variables_at file number) s.low;
  picks = s.picks;
  asked = s.asked;
  fallen = option_map (cut_of file number) s.fallen;
}

-- the file is typed, its blocks keep their kinds, and it has the machine
pub record Stands (file : File) (number : ℕ) : Type 0 where
  pub kept : IsTrue (list_all layer_keeps file.layers)
  pub typed : IsTyped file
  pub there : number ≤ length file.layers

-- the values have their shapes
pub record IsGood (G : Below) (z : Noted) : Type 0 where
  pub shaped : IsTrue z.shaped
  pub state : IsStateBelow G z.at

-- the disk, or the specification of a layer
abbrev pub below_meaning : BelowPlaces → PlaceMeaning BelowState
below_meaning m = record {
  Is = Noted;
  state = noted_of m.typed.now.file m.number;
  kind = Impl;
  lower = signatures_at m.typed.now.file m.number;
  space = space_on (below_at m.typed.now.file m.number);
  handle = notes_below (below_at m.typed.now.file m.number) (bits_in m.bits.run) (bits_in m.bits.stops) (bits_in m.bits.last);
  Serves = Stands m.typed.now.file m.number;
  Good = IsGood (below_at m.typed.now.file m.number);
}
