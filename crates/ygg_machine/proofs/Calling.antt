-- Calls of a layer's operations, as commands of the layers on the ground.
use Rattle.std.proofs.Common.{◌≡◌, ℕ, suc, ◌<◌, length, IsTrue, List, slice_get, Some, sym, ap, ◌∙◌, subst}
use Rattle.ygg_value.specs.declared.row.Value.{Value}
use Rattle.ygg_syntax.specs.declared.tree.Layer.{Layer}
use Rattle.ygg_syntax.specs.declared.tree.Operation.{Operation}
use Rattle.ygg_syntax.specs.declared.tree.File.{File}
use Rattle.ygg_eval.specs.ygg_type_rules.declared.scope.Signature.{Signature}
use Rattle.ygg_eval.specs.ygg_meaning.Environments.{Name, bind}
use Rattle.ygg_eval.specs.ygg_meaning.Progress.{Answer}
use Rattle.ygg_eval.specs.ygg_meaning.Machine.{Machine}
use Rattle.ygg_eval.specs.ygg_meaning.Layer.{ClosedLayer, Layered, operation_of}
use Rattle.ygg_eval.specs.ygg_meaning.Shapes.{values_fit}
use Rattle.ygg_eval.specs.Layers.{closed_at, signatures_at}
use Rattle.ygg_eval.specs.Lower.{Standing, Meaning, Ending, Whole, Down, Failed, Starved, Cause, PowerLoss, GivenUp, Called, IsLower}
use Rattle.ygg_machine.specs.Floors.{Raised, lower_of, place_of, floor_meaning}
use Rattle.ygg_machine.specs.FloorKeeps.{state_on, BlockKept, block_kept, at_place}
use Rattle.ygg_machine.specs.FloorStacks.{run_lasts}
use Rattle.ygg_machine.specs.Commands.{calling}
use Rattle.ygg_machine.specs.Towers.{Rooted, StandsOn, Tells, IsTower, CommandEnds, StillStands}
use Rattle.ygg_machine.proofs.Telling.{kept_told}

module _ {S : Type 0} (N : Meaning S) (file : File) (l : Layer) (o : Operation) (name : Name) (args : List Value) (from to : Standing (Raised S))
    (there : slice_get file.layers (place_of N from.machine) ≡ Some l) (is : operation_of (closed_at file (place_of N from.machine) l) name ≡ Some o)
    (fit : IsTrue (values_fit o.arguments args)) where
  abbrev K : Cause → Machine N.behavior.Base N.behavior.Note
  K cause = N.behavior.machine cause file (place_of N from.machine)

  abbrev L : ClosedLayer
  L = closed_at file (place_of N from.machine) l

  abbrev Kept : Ending → Type 0
  Kept e = BlockKept N file (place_of N from.machine) l o.implementation (bind o.arguments args) from to e

  abbrev Ends : Ending → Type 0
  Ends ending = CommandEnds (floor_meaning N) file (calling name args) ending from to

  module _ (number : place_of N to.machine ≡ place_of N from.machine) where
    calls : (cause : Cause) (notes : List N.behavior.Note) (answer : Answer) →
        (Layered L (K cause)).Calls (state_on N file (place_of N from.machine) l from.machine) name args notes answer
        (state_on N file (place_of N from.machine) l to.machine) →
        ((floor_meaning N).behavior.machine cause file (suc (place_of N from.machine))).Calls ((floor_meaning N).behavior.state file from.machine) name
        args notes
        answer ((floor_meaning N).behavior.state file to.machine)
    calls cause notes answer h =
        at_place N file (λ X s s'. X.Calls s name args notes answer s') (N.behavior.machine cause file (place_of N from.machine)) l from.machine to.machine
        there number h

    falls : (cause : Cause) (notes : List N.behavior.Note) →
        (Layered L (K cause)).Falls (state_on N file (place_of N from.machine) l from.machine) name args notes (N.behavior.state file to.machine.below).base →
        ((floor_meaning N).behavior.machine cause file (suc (place_of N from.machine))).Falls ((floor_meaning N).behavior.state file from.machine) name
        args notes
        (N.behavior.state file to.machine.below).base
    falls cause notes h =
        at_place N file (λ X s s'. X.Falls s name args notes s'.base) (N.behavior.machine cause file (place_of N from.machine)) l from.machine to.machine
        there number h

  pub calls_end : (e : Ending) → Kept e → Ends e
  calls_end (Whole answer) k = record {
    so = record {
      notes = k.steps.notes;
      does = λ cause. calls k.goes_on.number cause k.steps.notes answer (record { operation = o; is = is; fit = fit; step = k.steps.run cause });
      left = k.steps.leaves;
      passes = k.steps.passes;
    };
    later = k.goes_on.later;
  }
  calls_end Down k = record {
    so = record {
      notes = k.steps.notes;
      leaves = falls k.goes_on.number PowerLoss k.steps.notes (record { operation = o; is = is; fit = fit; step = k.steps.run });
      left = k.steps.leaves;
      passes = k.steps.passes;
      named = k.steps.named;
    };
    later = k.goes_on.later;
  }
  calls_end Failed k = record {
    so = record {
      stopped = record {
        notes = k.steps.part.notes;
        leaves = falls k.goes_on.number GivenUp k.steps.part.notes (record { operation = o; is = is; fit = fit; step = k.steps.part.run });
        left = k.steps.part.leaves;
      };
      rose = k.steps.rose;
      passes = k.steps.passes;
      unnamed = k.steps.unnamed;
    };
    later = k.goes_on.later;
  }
  calls_end Starved k = record {
    so = record {
      notes = k.steps.notes;
      leaves = falls k.goes_on.number GivenUp k.steps.notes (record { operation = o; is = is; fit = fit; step = k.steps.run });
      left = k.steps.leaves;
    };
    later = k.goes_on.later;
  }

same_name : (a b : Name × Signature) → Some a ≡ Some b → a.0 ≡ b.0
same_name a b h = let same : a ≡ b = cc in ap (λ (x : Name × Signature). x.0) same

-- a call of an operation is a command of the layers on the ground, from where that stands
module _ {S : Type 0} (M : Meaning S) (R : S → Rooted S) (Stands : File → S → Type 0) (keeps : IsLower M) (stacks : IsTower M R Stands) (file : File)
    (place : ℕ) (args : List Value) (e : Ending) (from to : Standing (Raised S)) (stands : StandsOn M Stands file from.machine)
    (c : Called (floor_meaning M) file (signatures_at file (suc (place_of M from.machine))) place args e from to) where
  abbrev N : Meaning S
  N = (R from.machine.below).meaning

  abbrev T : Tells Stands M N
  T = stacks.tells from.machine.below

  kept : BlockKept M file (place_of M from.machine) c.step.layer c.step.operation.implementation (bind c.step.operation.arguments args) from to e
  kept = block_kept M keeps file c.step.layer c.step.operation.implementation (bind c.step.operation.arguments args) from to e c.step.run

  pub call_ends : (name : Name) (o : Signature) → slice_get (signatures_at file (suc (place_of M from.machine))) place ≡ Some (name, o) →
      CommandEnds (floor_meaning (R from.machine.below).meaning) file (calling name args) e from to
  call_ends name o is =
      let same : c.name ≡ name = same_name (c.name, c.operation) (name, o) (sym c.is ∙ is) in
      subst (λ (n : Name). CommandEnds (floor_meaning (R from.machine.below).meaning) file (calling n args) e from to) same
      (calls_end N file c.step.layer c.step.operation c.name args from to
      (subst (λ (n : ℕ). slice_get file.layers n ≡ Some c.step.layer) (sym (T.number from.machine.below)) c.step.there) c.step.is c.step.arguments_fit e
      (kept_told M N Stands T file c.step.layer c.step.operation.implementation c.step.operation.arguments args c.step.arguments_fit from to
      stands.below e kept))

  pub call_stands : StillStands (floor_meaning M) (StandsOn M Stands) file from.machine to.machine
  call_stands = record {
    number = ap suc kept.goes_on.number;
    stands = record {
      there = subst (λ (n : ℕ). n < length file.layers) (sym kept.goes_on.number) stands.there;
      below = run_lasts M R Stands stacks file _ (place_of M from.machine) _ (lower_of from) (lower_of to) c.step.layer.memory from.machine.memory
          to.machine.memory c.step.run.result c.step.run.run stands.below;
    };
  }
