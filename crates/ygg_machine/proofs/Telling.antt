-- What a layer's block does on a machine below it does on one that means the same.
use Rattle.std.proofs.Common.{◌≡◌, ℕ, ◌≤◌, IsTrue, List, map, Some, None, sym, ap, ◌∙◌, subst}
use Rattle.ygg_base.specs.Outside.{Rose}
use Rattle.ygg_value.specs.declared.row.Value.{Value}
use Rattle.ygg_syntax.specs.declared.tree.Block.{Block}
use Rattle.ygg_syntax.specs.declared.tree.Declared.{Declared}
use Rattle.ygg_syntax.specs.declared.tree.Layer.{Layer}
use Rattle.ygg_syntax.specs.declared.tree.File.{File}
use Rattle.ygg_eval.specs.ygg_meaning.Environments.{bind}
use Rattle.ygg_eval.specs.ygg_meaning.Shapes.{values_fit}
use Rattle.ygg_eval.specs.ygg_meaning.Progress.{Answer}
use Rattle.ygg_eval.specs.ygg_meaning.Machine.{State, on}
use Rattle.ygg_eval.specs.ygg_meaning.Layer.{ClosedLayer, BlockRuns, BlockFalls}
use Rattle.ygg_eval.specs.Layers.{closed_at}
use Rattle.ygg_eval.specs.Lower.{Standing, Meaning, Ending, Whole, Down, Failed, Starved, Cause, PowerLoss, GivenUp}
use Rattle.ygg_machine.specs.Floors.{Raised, lower_of, place_of}
use Rattle.ygg_machine.specs.FloorKeeps.{Below, state_on, BlockInPart, BlockSteps, BlockKept}
use Rattle.ygg_machine.specs.FloorStacks.{renoted_joined}
use Rattle.ygg_machine.specs.BlocksTold.{block_told, fall_told}
use Rattle.ygg_machine.specs.Towers.{Tells}

module _ {S : Type 0} (M N : Meaning S) (Stands : File → S → Type 0) (T : Tells Stands M N) (file : File) (l : Layer) (b : Block) (ds : List Declared)
    (vs : List Value)
    (fit : IsTrue (values_fit ds vs)) (from to : Standing (Raised S)) (stands : Stands file from.machine.below) where
  abbrev place : ℕ
  place = place_of M from.machine

  abbrev L : ClosedLayer
  L = closed_at file (place_of M from.machine) l

  abbrev told : State M.behavior.Base → State N.behavior.Base
  told s = record { memories = s.memories; base = T.base s.base }

  state_told : (s : Raised S) → state_on N file (place_of M from.machine) l s ≡ told (state_on M file (place_of M from.machine) l s)
  state_told s = ap (λ (x : State N.behavior.Base). on (bind l.memory s.memory) x) (T.state file s.below)

  whole_told : (cause : Cause) (notes : List M.behavior.Note) (answer : Answer) →
      BlockRuns L (Below M file place cause) b (bind ds vs) (state_on M file place l from.machine) notes answer (state_on M file place l to.machine) →
      BlockRuns L (Below N file place cause) b (bind ds vs) (state_on N file place l from.machine) (map T.note notes) answer
      (state_on N file place l to.machine)
  whole_told cause notes answer r =
      subst (λ (x : State N.behavior.Base). BlockRuns (closed_at file (place_of M from.machine) l)
      (N.behavior.machine cause file (place_of M from.machine)) b (bind ds vs) x
      (map T.note notes) answer (state_on N file (place_of M from.machine) l to.machine)) (sym (state_told from.machine))
      (subst (λ (x : State N.behavior.Base). BlockRuns (closed_at file (place_of M from.machine) l)
      (N.behavior.machine cause file (place_of M from.machine)) b (bind ds vs)
      (told (state_on M file (place_of M from.machine) l from.machine)) (map T.note notes) answer x) (sym (state_told to.machine))
      (block_told T.base (map T.note) (renoted_joined T.note) (M.behavior.machine cause file (place_of M from.machine))
      (N.behavior.machine cause file (place_of M from.machine))
      (T.steps cause file from.machine.below stands) L b ds vs fit (state_on M file place l from.machine) (state_on M file place l to.machine) notes
      answer r))

  falls_told : (cause : Cause) (notes : List M.behavior.Note) →
      BlockFalls L (Below M file place cause) b (bind ds vs) (state_on M file place l from.machine) notes (M.behavior.state file to.machine.below).base →
      BlockFalls L (Below N file place cause) b (bind ds vs) (state_on N file place l from.machine) (map T.note notes)
      (N.behavior.state file to.machine.below).base
  falls_told cause notes r =
      subst (λ (x : State N.behavior.Base). BlockFalls (closed_at file (place_of M from.machine) l)
      (N.behavior.machine cause file (place_of M from.machine)) b (bind ds vs) x
      (map T.note notes) (N.behavior.state file to.machine.below).base) (sym (state_told from.machine))
      (subst (λ (x : State N.behavior.Base). BlockFalls (closed_at file (place_of M from.machine) l)
      (N.behavior.machine cause file (place_of M from.machine)) b (bind ds vs)
      (told (state_on M file (place_of M from.machine) l from.machine)) (map T.note notes) x.base) (sym (T.state file to.machine.below))
      (fall_told T.base (map T.note) (renoted_joined T.note) (M.behavior.machine cause file (place_of M from.machine))
      (N.behavior.machine cause file (place_of M from.machine))
      (T.steps cause file from.machine.below stands) L b ds vs fit (state_on M file place l from.machine) (M.behavior.state file to.machine.below).base
      notes r))

  later_told : M.faults from.machine.below ≤ M.faults to.machine.below → N.faults from.machine.below ≤ N.faults to.machine.below
  later_told h =
      subst (λ (n : ℕ). n ≤ N.faults to.machine.below) (sym (T.faults from.machine.below))
      (subst (λ (n : ℕ). M.faults from.machine.below ≤ n) (sym (T.faults to.machine.below)) h)

  rose_told : Rose (M.faults from.machine.below) (M.faults to.machine.below) → Rose (N.faults from.machine.below) (N.faults to.machine.below)
  rose_told h =
      subst (λ (n : ℕ). Rose n (N.faults to.machine.below)) (sym (T.faults from.machine.below))
      (subst (λ (n : ℕ). Rose (M.faults from.machine.below) n) (sym (T.faults to.machine.below)) h)

  in_part_told : BlockInPart M file place l b (bind ds vs) from to → BlockInPart N file place l b (bind ds vs) from to
  in_part_told p = record {
    notes = map T.note p.notes;
    run = falls_told GivenUp p.notes p.run;
    leaves = T.leaves (Some GivenUp) file (lower_of from) (lower_of to) p.notes p.leaves;
  }

  steps_told : (e : Ending) → BlockSteps M file place l b (bind ds vs) from to e → BlockSteps N file place l b (bind ds vs) from to e
  steps_told (Whole answer) k = record {
    notes = map T.note k.notes;
    run = λ cause. whole_told cause k.notes answer (k.run cause);
    leaves = T.leaves None file (lower_of from) (lower_of to) k.notes k.leaves;
    passes = k.passes;
    fit = k.fit;
  }
  steps_told Down k = record {
    notes = map T.note k.notes;
    run = falls_told PowerLoss k.notes k.run;
    leaves = T.leaves (Some PowerLoss) file (lower_of from) (lower_of to) k.notes k.leaves;
    passes = k.passes;
    named = k.named;
  }
  steps_told Failed k = record { part = in_part_told k.part; rose = rose_told k.rose; passes = k.passes; unnamed = k.unnamed }
  steps_told Starved k = in_part_told k

  -- a run of a layer's block on the one machine is one on the other
  pub kept_told : (e : Ending) → BlockKept M file (place_of M from.machine) l b (bind ds vs) from to e → BlockKept N file (place_of N from.machine) l b
      (bind ds vs) from to e
  kept_told e k =
      subst (λ (p : ℕ). BlockKept N file p l b (bind ds vs) from to e) (sym (T.number from.machine.below)) (record {
        goes_on = record {
          number = T.number to.machine.below ∙ k.goes_on.number ∙ sym (T.number from.machine.below);
          later = later_told k.goes_on.later;
        };
        steps = steps_told e k.steps;
      })
