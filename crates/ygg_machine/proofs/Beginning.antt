-- A command of the machine below, and after it a block of the layer from memory of zeros.
use Rattle.std.proofs.Common.{◌≡◌, ℕ, suc, ◌≤◌, List, [], ◌++◌, ◌⊎◌, false, Option, Some, None, inl, inr, refl, sym, ◌∙◌, subst, arith}
use Rattle.std.specs.Prelude.{slice_get}
use Rattle.ygg_base.specs.Outside.{Rose}
use Rattle.ygg_syntax.specs.declared.tree.Block.{Block}
use Rattle.ygg_syntax.specs.declared.tree.Layer.{Layer}
use Rattle.ygg_syntax.specs.declared.tree.File.{File}
use Rattle.ygg_eval.specs.ygg_disk.declared.power.Power.{Power}
use Rattle.ygg_eval.specs.ygg_meaning.Environments.{Env, bind}
use Rattle.ygg_eval.specs.ygg_meaning.Shapes.{zeros_of}
use Rattle.ygg_eval.specs.ygg_meaning.Progress.{Answer}
use Rattle.ygg_eval.specs.ygg_meaning.Machine.{State, on, Machine}
use Rattle.ygg_eval.specs.ygg_meaning.Layer.{ClosedLayer, Layered, BlockRuns, BlockFalls}
use Rattle.ygg_eval.specs.Layers.{closed_at}
use Rattle.ygg_eval.specs.Lower.{Standing, Meaning, Ending, Whole, Down, Failed, Starved, Cause, PowerLoss, GivenUp, Passes, IsLower}
use Rattle.ygg_machine.specs.Floors.{Raised, lower_of, place_of, silent, zeroed, Begins, floor_meaning}
use Rattle.ygg_machine.specs.FloorKeeps.{state_on, BlockKept, block_kept, at_place}
use Rattle.ygg_eval.specs.Zeros.{zero_values}
use Rattle.ygg_machine.specs.Commands.{Command, formatting, waking}
use Rattle.ygg_machine.specs.Towers.{FormatFallsHere, CommandEnds}
use Rattle.ygg_machine.proofs.Typing.{bind_zeros}

-- what was begun was run on the machine that the machine below is, as a part at least
pub begun_kept : {S : Type 0} (M : Meaning S) → IsLower M → (file : File) (l : Layer) (b : Block) (from to : Standing (Raised S)) (ending : Ending) →
    Begins M file l b from ending to →
    (e : Ending) × (ending ≡ silent e) × BlockKept M file (place_of M from.machine) l b [] (zeroed l.memory from) to e
begun_kept M keeps file l b from to ending (inl (e, is, r)) = (e, is, block_kept M keeps file l b [] (zeroed l.memory from) to e r)
begun_kept {S} M keeps file l b from to ending (inr (is, same)) = (
  Starved,
  is,
  subst (λ (x : Standing (Raised S)). BlockKept M file (place_of M from.machine) l b [] (zeroed l.memory from) x Starved) (sym same) (record {
    goes_on = record { number = refl; later = omega arith };
    steps = record {
      notes = [];
      run = record {
        memory = bind l.memory (zero_values l.memory);
        lower = M.behavior.state file from.machine.below;
        from_is = refl;
        run = record {
          calls = [];
          at = M.behavior.state file from.machine.below;
          path = refl;
          within = false;
          last = [];
          falls = keeps.rests file from.machine.below;
          takes = refl;
        };
      };
      leaves = keeps.leaves_rest file (lower_of from);
    };
  }),
)

pub passes_both : (a b c : Power) → Passes a b → Passes b c → Passes a c
passes_both a b c p q = record {
  fuse = q.fuse ∙ p.fuse;
  later = let x = p.later in let y = q.later in omega arith;
  unreached = λ f is before. q.unreached f (p.fuse ∙ is) (p.unreached f is before);
}

rose_after : (a b c : ℕ) → a ≤ b → Rose b c → Rose a c
rose_after a b c h r = omega arith

pub rose_before : (a b c : ℕ) → Rose a b → b ≤ c → Rose a c
rose_before a b c r h = omega arith

-- A command of the machine below and a block of the layer from memory of zeros are together a command of the layer, and so is what is cut of them.
pub record Joins {B X : Type 0} (L : ClosedLayer) (b : Block) (K : Cause → Machine B X) (lower upper : Command B X) (memory : Env) (low : State B) :
    Type 0 where
  pub whole : (cause : Cause) (at : State B) (first second : List X) (answer answer' : Answer) (to : State B) → lower.Does (K cause) low first answer at →
      BlockRuns L (K cause) b [] (on (zeros_of L.layer.memory) at) second answer' to →
      upper.Does (Layered L (K cause)) (on memory low) (first ++ second) None to
  pub falls : (cause : Cause) (at : State B) (first second : List X) (answer : Answer) (fallen : B) → lower.Does (K cause) low first answer at →
      BlockFalls L (K cause) b [] (on (zeros_of L.layer.memory) at) second fallen →
      upper.Leaves cause (Layered L (K cause)) (on memory low) (first ++ second) fallen
  pub under : (cause : Cause) (notes : List X) (fallen : B) → lower.Leaves cause (K cause) low notes fallen →
      upper.Leaves cause (Layered L (K cause)) (on memory low) notes fallen

pub waking_joins : {B X : Type 0} (L : ClosedLayer) (K : Cause → Machine B X) (memory : Env) (low : State B) →
    Joins L L.layer.recover K waking waking memory low
waking_joins L K memory low = record {
  whole = λ cause at first second answer answer' to h run.
      (refl, record { lower = at; first = first; second = second; wakes = h.1; next = (answer', run); takes = refl });
  falls = λ cause at first second answer fallen h run.
      inr (record { lower = at; first = first; second = second; wakes = h.1; next = run; takes = refl });
  under = λ cause notes fallen h. inl h;
}

module _ {S : Type 0} (N : Meaning S) (Falls : Cause → List N.behavior.Note → N.behavior.Base → Type 0) (file : File) (place : ℕ) (l : Layer)
    (there : slice_get file.layers place ≡ Some l) (memory : Env) (low : State N.behavior.Base) where
  pub formatting_joins : Joins (closed_at file place l) l.format (λ cause. N.behavior.machine cause file place) (formatting Falls)
      (formatting (λ cause notes fallen. Falls cause notes fallen ⊎ FormatFallsHere (N.behavior.machine cause file place) file place notes fallen)) memory low
  formatting_joins = record {
    whole = λ cause at first second answer answer' to h run.
        (refl, record { lower = at; first = first; second = second; answer = answer'; starts = h.1; formats = run; takes = refl });
    falls = λ cause at first second answer fallen h run.
        inr (record { layer = l; there = there; lower = at; first = first; second = second; starts = h.1; falls = run; takes = refl });
    under = λ cause notes fallen h. inl h;
  }

module _ {S : Type 0} (N : Meaning S)
    (both : (how : Option Cause) (file : File) (from at to : Standing S) (first second : List N.behavior.Note) → N.behavior.Leaves None file from first at →
    N.behavior.Leaves how file at second to → N.behavior.Leaves how file from (first ++ second) to)
    (file : File) (l : Layer) (b : Block) (lower upper : Command N.behavior.Base N.behavior.Note) (from : Standing (Raised S))
    (there : slice_get file.layers (place_of N from.machine) ≡ Some l)
    (J : Joins (closed_at file (place_of N from.machine) l) b (λ cause. N.behavior.machine cause file (place_of N from.machine)) lower upper
    (bind l.memory from.machine.memory) (N.behavior.state file from.machine.below)) where
  abbrev place : ℕ
  place = place_of N from.machine

  abbrev K : Cause → Machine N.behavior.Base N.behavior.Note
  K cause = N.behavior.machine cause file (place_of N from.machine)

  abbrev L : ClosedLayer
  L = closed_at file (place_of N from.machine) l

  does : (cause : Cause) (to : Standing (Raised S)) (notes : List N.behavior.Note) → place_of N to.machine ≡ place_of N from.machine →
      upper.Does (Layered L (K cause)) (state_on N file place l from.machine) notes None (state_on N file place l to.machine) →
      upper.Does ((floor_meaning N).behavior.machine cause file (suc (place_of N from.machine))) ((floor_meaning N).behavior.state file from.machine)
      notes None
      ((floor_meaning N).behavior.state file to.machine)
  does cause to notes number h =
      at_place N file (λ X s s'. upper.Does X s notes None s') (N.behavior.machine cause file (place_of N from.machine)) l from.machine to.machine there
      number h

  leaves : (cause : Cause) (to : Standing (Raised S)) (notes : List N.behavior.Note) → place_of N to.machine ≡ place_of N from.machine →
      upper.Leaves cause (Layered L (K cause)) (state_on N file place l from.machine) notes (N.behavior.state file to.machine.below).base →
      upper.Leaves cause ((floor_meaning N).behavior.machine cause file (suc (place_of N from.machine))) ((floor_meaning N).behavior.state file from.machine)
      notes (N.behavior.state file to.machine.below).base
  leaves cause to notes number h =
      at_place N file (λ X s s'. upper.Leaves cause X s notes s'.base) (N.behavior.machine cause file (place_of N from.machine)) l from.machine to.machine
      there number h

  abbrev Ends : Ending → Standing (Raised S) → Type 0
  Ends ending to = CommandEnds (floor_meaning N) file upper ending from to

  -- it was cut below
  module _ (to : Standing (Raised S)) (number : place_of N to.machine ≡ place_of N from.machine) where
    pub under_down : CommandEnds N file lower Down (lower_of from) (lower_of to) → Ends Down to
    under_down e = record {
      so = record {
        notes = e.so.notes;
        leaves = leaves PowerLoss to e.so.notes number (J.under PowerLoss e.so.notes _ e.so.leaves);
        left = e.so.left;
        passes = e.so.passes;
        named = e.so.named;
      };
      later = e.later;
    }

    pub under_failed : CommandEnds N file lower Failed (lower_of from) (lower_of to) → Ends Failed to
    under_failed e = record {
      so = record {
        stopped = record {
          notes = e.so.stopped.notes;
          leaves = leaves GivenUp to e.so.stopped.notes number (J.under GivenUp e.so.stopped.notes _ e.so.stopped.leaves);
          left = e.so.stopped.left;
        };
        rose = e.so.rose;
        passes = e.so.passes;
        unnamed = e.so.unnamed;
      };
      later = e.later;
    }

    pub under_starved : CommandEnds N file lower Starved (lower_of from) (lower_of to) → Ends Starved to
    under_starved e = record {
      so = record { notes = e.so.notes; leaves = leaves GivenUp to e.so.notes number (J.under GivenUp e.so.notes _ e.so.leaves); left = e.so.left };
      later = e.later;
    }

  -- it was whole below, and the block ended so
  module _ (mid to : Standing (Raised S)) (answer : Answer) (first : CommandEnds N file lower (Whole answer) (lower_of from) (lower_of mid))
      (number : place_of N mid.machine ≡ place_of N from.machine) where
    abbrev at : State N.behavior.Base
    at = N.behavior.state file mid.machine.below

    abbrev Kept : Ending → Type 0
    Kept e = BlockKept N file (place_of N from.machine) l b [] (zeroed l.memory mid) to e

    run_from : (cause : Cause) (notes : List N.behavior.Note) (answer' : Answer) →
        BlockRuns L (K cause) b [] (state_on N file place l (zeroed l.memory mid).machine) notes answer' (state_on N file place l to.machine) →
        BlockRuns L (K cause) b [] (on (zeros_of l.memory) at) notes answer' (state_on N file place l to.machine)
    run_from cause notes answer' h =
        subst (λ (m : Env). BlockRuns (closed_at file (place_of N from.machine) l) (N.behavior.machine cause file (place_of N from.machine)) b []
        (on m (N.behavior.state file mid.machine.below)) notes answer' (state_on N file (place_of N from.machine) l to.machine)) (bind_zeros l.memory) h

    fall_from : (cause : Cause) (notes : List N.behavior.Note) (fallen : N.behavior.Base) →
        BlockFalls L (K cause) b [] (state_on N file place l (zeroed l.memory mid).machine) notes fallen →
        BlockFalls L (K cause) b [] (on (zeros_of l.memory) at) notes fallen
    fall_from cause notes fallen h =
        subst (λ (m : Env). BlockFalls (closed_at file (place_of N from.machine) l) (N.behavior.machine cause file (place_of N from.machine)) b []
        (on m (N.behavior.state file mid.machine.below)) notes fallen) (bind_zeros l.memory) h

    -- what the block left where it was cut
    cut_from : (cause : Cause) (notes : List N.behavior.Note) → place_of N to.machine ≡ place_of N from.machine →
        BlockFalls L (K cause) b [] (state_on N file place l (zeroed l.memory mid).machine) notes (N.behavior.state file to.machine.below).base →
        upper.Leaves cause ((floor_meaning N).behavior.machine cause file (suc (place_of N from.machine)))
        ((floor_meaning N).behavior.state file from.machine)
        (first.so.notes ++ notes) (N.behavior.state file to.machine.below).base
    cut_from cause notes same h =
        leaves cause to (first.so.notes ++ notes) same
        (J.falls cause at first.so.notes notes answer _ (first.so.does cause) (fall_from cause notes (N.behavior.state file to.machine.below).base h))

    lasts : (e : Ending) → Kept e → N.faults from.machine.below ≤ N.faults to.machine.below
    lasts e k = let x = first.later in let y = k.goes_on.later in omega arith

    by_ending : (e : Ending) → Kept e → Ends (silent e) to
    by_ending (Whole answer') k = record {
      so = record {
        notes = first.so.notes ++ k.steps.notes;
        does = λ cause. does cause to (first.so.notes ++ k.steps.notes) (k.goes_on.number ∙ number)
            (J.whole cause at first.so.notes k.steps.notes answer answer' _ (first.so.does cause) (run_from cause k.steps.notes answer' (k.steps.run cause)));
        left = both None file (lower_of from) (lower_of mid) (lower_of to) first.so.notes k.steps.notes first.so.left k.steps.leaves;
        passes = passes_both from.power mid.power to.power first.so.passes k.steps.passes;
      };
      later = lasts (Whole answer') k;
    }
    by_ending Down k = record {
      so = record {
        notes = first.so.notes ++ k.steps.notes;
        leaves = cut_from PowerLoss k.steps.notes (k.goes_on.number ∙ number) k.steps.run;
        left = both (Some PowerLoss) file (lower_of from) (lower_of mid) (lower_of to) first.so.notes k.steps.notes first.so.left k.steps.leaves;
        passes = passes_both from.power mid.power to.power first.so.passes k.steps.passes;
        named = k.steps.named;
      };
      later = lasts Down k;
    }
    by_ending Failed k = record {
      so = record {
        stopped = record {
          notes = first.so.notes ++ k.steps.part.notes;
          leaves = cut_from GivenUp k.steps.part.notes (k.goes_on.number ∙ number) k.steps.part.run;
          left = both (Some GivenUp) file (lower_of from) (lower_of mid) (lower_of to) first.so.notes k.steps.part.notes first.so.left
              k.steps.part.leaves;
        };
        rose = rose_after (N.faults from.machine.below) (N.faults mid.machine.below) (N.faults to.machine.below) first.later k.steps.rose;
        passes = passes_both from.power mid.power to.power first.so.passes k.steps.passes;
        unnamed = k.steps.unnamed;
      };
      later = lasts Failed k;
    }
    by_ending Starved k = record {
      so = record {
        notes = first.so.notes ++ k.steps.notes;
        leaves = cut_from GivenUp k.steps.notes (k.goes_on.number ∙ number) k.steps.run;
        left = both (Some GivenUp) file (lower_of from) (lower_of mid) (lower_of to) first.so.notes k.steps.notes first.so.left k.steps.leaves;
      };
      later = lasts Starved k;
    }

    pub then_ends : (e : Ending) → BlockKept N file (place_of N mid.machine) l b [] (zeroed l.memory mid) to e → Ends (silent e) to
    then_ends e k = by_ending e (subst (λ (p : ℕ). BlockKept N file p l b [] (zeroed l.memory mid) to e) number k)
