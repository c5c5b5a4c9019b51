-- Background steps of a layer and of those below it, and power loss between commands.
use Rattle.std.proofs.Common.{◌≡◌, suc, List, [], slice_get, Some, inl, inr, refl, ap}
use Rattle.ygg_value.specs.declared.row.Value.{Value}
use Rattle.ygg_syntax.specs.declared.tree.Layer.{Layer}
use Rattle.ygg_syntax.specs.declared.tree.Tick.{Tick}
use Rattle.ygg_syntax.specs.declared.tree.File.{File}
use Rattle.ygg_eval.specs.ygg_meaning.Environments.{bind}
use Rattle.ygg_eval.specs.ygg_meaning.Machine.{on, TickName, Machine}
use Rattle.ygg_eval.specs.ygg_meaning.Layer.{ClosedLayer, Layered, tick_in}
use Rattle.ygg_eval.specs.Layers.{closed_at}
use Rattle.ygg_eval.specs.Lower.{Standing, Meaning, Ending, Whole, Down, Failed, Starved, Cause, PowerLoss, GivenUp}
use Rattle.ygg_machine.specs.Floors.{Raised, lower_of, place_of, silent, floor_meaning}
use Rattle.ygg_machine.specs.FloorKeeps.{state_on, BlockKept, at_place}
use Rattle.ygg_machine.specs.Commands.{ticking}
use Rattle.ygg_machine.specs.Towers.{CommandEnds}

module _ {S : Type 0} (N : Meaning S) (file : File) (l : Layer) (name : TickName) (from to : Standing (Raised S))
    (there : slice_get file.layers (place_of N from.machine) ≡ Some l) where
  abbrev K : Cause → Machine N.behavior.Base N.behavior.Note
  K cause = N.behavior.machine cause file (place_of N from.machine)

  abbrev L : ClosedLayer
  L = closed_at file (place_of N from.machine) l

  abbrev Ends : Ending → Type 0
  Ends ending = CommandEnds (floor_meaning N) file (ticking name) ending from to

  module _ (number : place_of N to.machine ≡ place_of N from.machine) where
    ticks : (cause : Cause) (notes : List N.behavior.Note) →
        (Layered L (K cause)).Ticks (state_on N file (place_of N from.machine) l from.machine) name notes
        (state_on N file (place_of N from.machine) l to.machine) →
        ((floor_meaning N).behavior.machine cause file (suc (place_of N from.machine))).Ticks ((floor_meaning N).behavior.state file from.machine) name notes
        ((floor_meaning N).behavior.state file to.machine)
    ticks cause notes h =
        at_place N file (λ X s s'. X.Ticks s name notes s') (N.behavior.machine cause file (place_of N from.machine)) l from.machine to.machine there number h

    falls : (cause : Cause) (notes : List N.behavior.Note) →
        (Layered L (K cause)).TickFalls (state_on N file (place_of N from.machine) l from.machine) name notes (N.behavior.state file to.machine.below).base →
        ((floor_meaning N).behavior.machine cause file (suc (place_of N from.machine))).TickFalls ((floor_meaning N).behavior.state file from.machine)
        name notes
        (N.behavior.state file to.machine.below).base
    falls cause notes h =
        at_place N file (λ X s s'. X.TickFalls s name notes s'.base) (N.behavior.machine cause file (place_of N from.machine)) l from.machine to.machine
        there number h

  -- a background step of the layer itself
  module _ (t : Tick) (here : name.layer ≡ l.name.text) (is : tick_in l.ticks name.name ≡ Some t) where
    abbrev Kept : Ending → Type 0
    Kept e = BlockKept N file (place_of N from.machine) l t.body [] from to e

    pub ticks_here : (e : Ending) → Kept e → Ends (silent e)
    ticks_here (Whole answer) k = record {
      so = record {
        notes = k.steps.notes;
        does = λ cause. (
          refl,
          ticks k.goes_on.number cause k.steps.notes (inl (record
              { tick = t; here = here; is = is; step = (answer, k.steps.run cause) })),
        );
        left = k.steps.leaves;
        passes = k.steps.passes;
      };
      later = k.goes_on.later;
    }
    ticks_here Down k = record {
      so = record {
        notes = k.steps.notes;
        leaves = falls k.goes_on.number PowerLoss k.steps.notes (inl (record { tick = t; here = here; is = is; step = k.steps.run }));
        left = k.steps.leaves;
        passes = k.steps.passes;
        named = k.steps.named;
      };
      later = k.goes_on.later;
    }
    ticks_here Failed k = record {
      so = record {
        stopped = record {
          notes = k.steps.part.notes;
          leaves = falls k.goes_on.number GivenUp k.steps.part.notes (inl (record { tick = t; here = here; is = is; step = k.steps.part.run }));
          left = k.steps.part.leaves;
        };
        rose = k.steps.rose;
        passes = k.steps.passes;
        unnamed = k.steps.unnamed;
      };
      later = k.goes_on.later;
    }
    ticks_here Starved k = record {
      so = record {
        notes = k.steps.notes;
        leaves = falls k.goes_on.number GivenUp k.steps.notes (inl (record { tick = t; here = here; is = is; step = k.steps.run }));
        left = k.steps.leaves;
      };
      later = k.goes_on.later;
    }

  -- a background step of a layer below, while the memory stays
  module _ (number : place_of N to.machine ≡ place_of N from.machine) (memory : to.machine.memory ≡ from.machine.memory) where
    cut_under : (cause : Cause) (notes : List N.behavior.Note) →
        (K cause).TickFalls (N.behavior.state file from.machine.below) name notes (N.behavior.state file to.machine.below).base →
        ((floor_meaning N).behavior.machine cause file (suc (place_of N from.machine))).TickFalls ((floor_meaning N).behavior.state file from.machine)
        name notes
        (N.behavior.state file to.machine.below).base
    cut_under cause notes h =
        falls number cause notes (inr (record {
          memory = bind l.memory from.machine.memory;
          lower = N.behavior.state file from.machine.below;
          from_is = refl;
          falls = h;
        }))

    pub ticks_under : (e : Ending) → CommandEnds N file (ticking name) e (lower_of from) (lower_of to) → Ends e
    ticks_under (Whole answer) e = record {
      so = record {
        notes = e.so.notes;
        does = λ cause.
            let h = e.so.does cause in (
              h.0,
              ticks number cause e.so.notes (inr (record {
                memory = bind l.memory from.machine.memory;
                lower = N.behavior.state file from.machine.below;
                from_is = refl;
                lower' = N.behavior.state file to.machine.below;
                step = h.1;
                to_is = ap (λ (vs : List Value). on (bind l.memory vs) (N.behavior.state file to.machine.below)) memory;
              })),
            );
        left = e.so.left;
        passes = e.so.passes;
      };
      later = e.later;
    }
    ticks_under Down e = record {
      so = record {
        notes = e.so.notes;
        leaves = cut_under PowerLoss e.so.notes e.so.leaves;
        left = e.so.left;
        passes = e.so.passes;
        named = e.so.named;
      };
      later = e.later;
    }
    ticks_under Failed e = record {
      so = record {
        stopped = record {
          notes = e.so.stopped.notes;
          leaves = cut_under GivenUp e.so.stopped.notes e.so.stopped.leaves;
          left = e.so.stopped.left;
        };
        rose = e.so.rose;
        passes = e.so.passes;
        unnamed = e.so.unnamed;
      };
      later = e.later;
    }
    ticks_under Starved e =
        record { so = record { notes = e.so.notes; leaves = cut_under GivenUp e.so.notes e.so.leaves; left = e.so.left }; later = e.later }
