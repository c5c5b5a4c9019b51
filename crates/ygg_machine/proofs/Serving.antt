-- A layer that was called, and that it serves the layer above it.
use Rattle.std.proofs.Common.{◌≡◌, ℕ, suc, true, List, [], slice_get, Option, Some, None, Result, option_map, sym, ap, ◌∙◌, subst}
use Rattle.ygg_list.specs.declared.memory.NoMemory.{NoMemory}
use Rattle.ygg_value.specs.declared.row.Value.{Value}
use Rattle.ygg_syntax.specs.declared.grammar.BlockKind.TheVariants as kind
use Rattle.ygg_syntax.specs.declared.tree.Block.{Block}
use Rattle.ygg_syntax.specs.declared.tree.Declared.{Declared}
use Rattle.ygg_syntax.specs.declared.tree.Layer.{Layer}
use Rattle.ygg_syntax.specs.declared.tree.Operation.{Operation}
use Rattle.ygg_syntax.specs.declared.tree.File.{File}
use Rattle.ygg_syntax.specs.Files.{IsDerivable}
use Rattle.ygg_eval.specs.ygg_type_rules.TypeErrors.{none}
use Rattle.ygg_eval.specs.ygg_type_rules.Files.{type_errors_of}
use Rattle.ygg_eval.specs.ygg_type_rules.Layers.{operation_signature}
use Rattle.ygg_eval.specs.ygg_disk.declared.power.Power.{Power}
use Rattle.ygg_eval.specs.ygg_meaning.Environments.{Env, bind}
use Rattle.ygg_eval.specs.ygg_meaning.Progress.{Answer}
use Rattle.ygg_eval.specs.ygg_meaning.Layer.{dialogue_of}
use Rattle.ygg_eval.specs.ygg_meaning.Shapes.{values_fit}
use Rattle.ygg_eval.specs.declared.body.Part.TheVariants as part
use Rattle.ygg_eval.specs.Bodies.{IsBlock, IsRunnable, arguments_at, arguments_in}
use Rattle.ygg_eval.specs.Layers.{closed_at, signatures_at}
use Rattle.ygg_eval.specs.Lower.{Standing, Meaning, Ending, Whole, Down, Failed, Starved, AfterWhole, GivesWhole, Serves, Called, IsCallable}
use Rattle.ygg_eval.specs.Runs.{RunEnds, Finished}
use Rattle.ygg_eval.specs.declared.run.Ended.{Ended}
use Rattle.ygg_eval.proofs.OnSpec.{AsksSpec, asks_spec}
use Rattle.ygg_machine.specs.Floors.{Raised, lower_of, place_of, RunsOn, FitsFloor, floor_meaning}
use Rattle.ygg_machine.proofs.Typing.{implementation_gives}

layer_is : (a b : Layer) → Some a ≡ Some b → a ≡ b
layer_is a b h = cc

module _ {S : Type 0} (M : Meaning S) (file : File) where
  -- a run that was whole
  whole_run : (l : Layer) (b : Block) (args : Env) (from to : Standing (Raised S)) (answer : Answer) → RunsOn M file l b args from (Whole answer) to →
      Finished M file kind.Impl (place_of M from.machine)
      (dialogue_of (closed_at file (place_of M from.machine) l) b (bind l.memory from.machine.memory) args) (lower_of from) l.memory from.machine.memory
      to.machine.memory answer (lower_of to)
  whole_run l b args from to answer r =
      (subst (λ (x : Result Ended NoMemory). RunEnds M file kind.Impl (place_of M from.machine)
      (dialogue_of (closed_at file (place_of M from.machine) l) b (bind l.memory from.machine.memory) args) (lower_of from) l.memory from.machine.memory
      None x to.machine.memory (lower_of to)) r.ends_as r.run).1

  -- after a whole run of a block the layer serves
  pub serves_on : (place : ℕ) (l : Layer) (b : Block) (args : Env) (from to : Standing (Raised S)) (e : Ending) → slice_get file.layers place ≡ Some l →
      RunsOn M file l b args from e to → AfterWhole e (Serves M file place (lower_of to)) → AfterWhole e (Serves (floor_meaning M) file (suc place) to)
  serves_on place l b args from to (Whole answer) there r s = record {
    numbered = ap suc s.numbered;
    fits = record {
      layer = l;
      there = ap (λ (n : ℕ). slice_get file.layers n) s.numbered ∙ there;
      memory = (whole_run l b args from to answer r).fit;
      below = s.fits;
    };
    fuse = s.fuse;
  }
  serves_on place l b args from to Down there r s = tt
  serves_on place l b args from to Failed there r s = tt
  serves_on place l b args from to Starved there r s = tt

  module _ (fine : none (type_errors_of file) ≡ true) (derivable : ∥ IsDerivable file ∥₁) (op : ℕ) (args : List Value) (s : Raised S)
      (c : IsCallable (signatures_at file (suc (place_of M s))) op args) where
    asks : AsksSpec file (place_of M s) op args
    asks = asks_spec file fine (place_of M s) op args c

    arguments_are : (a : AsksSpec file (place_of M s) op args) → arguments_at a.layer op ≡ a.operation.arguments
    arguments_are a = ap (λ (x : Option Operation). elim x as (λ x. List Declared) [ None ↦ [] | Some o ↦ o.arguments ]) a.is

    is_block : (a : AsksSpec file (place_of M s) op args) →
        IsBlock file (record { layer = place_of M s; part = part.Impl; number = op }) a.layer a.operation.implementation
    is_block a = record { layer = a.here; block = ap (option_map (λ (o : Operation). o.implementation)) a.is }

    -- an implementation can be run
    pub runs_implementation : FitsFloor M file s → IsRunnable file (record { layer = place_of M s; part = part.Impl; number = op }) args s.memory
    runs_implementation f =
        let a = asks_spec file fine (place_of M s) op args c in
        record {
          layer = a.layer;
          block = a.operation.implementation;
          is = is_block a;
          arguments_fit = ap (λ (ds : List Declared). values_fit ds args) (arguments_are a) ∙ a.fit;
          variables_fit = ap (λ (l : Layer). values_fit l.memory s.memory) (layer_is a.layer f.layer (sym a.here ∙ f.there)) ∙ f.memory;
        }

    -- a call of an operation is what its implementation did
    module _ (power : Power) (to : Standing (Raised S)) (e : Ending)
        (ran : (l : Layer) (b : Block) → IsBlock file (record { layer = place_of M s; part = part.Impl; number = op }) l b →
        RunsOn M file l b (bind (arguments_in l part.Impl op) args) (record { machine = s; power = power }) e to) where
      run_of : (a : AsksSpec file (place_of M s) op args) →
          RunsOn M file a.layer a.operation.implementation (bind a.operation.arguments args) (record { machine = s; power = power }) e to
      run_of a =
          subst (λ (ds : List Declared). RunsOn M file a.layer a.operation.implementation (bind ds args) (record { machine = s; power = power }) e to)
          (arguments_are a) (ran a.layer a.operation.implementation (is_block a))

      given : (a : AsksSpec file (place_of M s) op args) (x : Ending) →
          RunsOn M file a.layer a.operation.implementation (bind a.operation.arguments args) (record { machine = s; power = power }) x to →
          GivesWhole (operation_signature a.operation) x
      given a (Whole answer) r =
          implementation_gives file fine derivable M (place_of M s) op a.layer a.operation a.here a.is s.memory args r.fit a.fit a.layer.memory s.memory
          to.machine.memory answer (record { machine = s.below; power = power }) (lower_of to)
          (whole_run a.layer a.operation.implementation (bind a.operation.arguments args) (record { machine = s; power = power }) to answer r)
      given a Down r = tt
      given a Failed r = tt
      given a Starved r = tt

      pub called_floor : Called (floor_meaning M) file (signatures_at file (suc (place_of M s))) op args e (record { machine = s; power = power }) to
      called_floor =
          let a = asks_spec file fine (place_of M s) op args c in
          record {
            name = a.operation.name.text;
            operation = operation_signature a.operation;
            is = a.signature;
            gives = given a e (run_of a);
            step = record { layer = a.layer; there = a.here; operation = a.operation; is = a.found; arguments_fit = a.fit; run = run_of a };
          }

      pub called_serves : AfterWhole e (Serves M file (place_of M s) (lower_of to)) → AfterWhole e (Serves (floor_meaning M) file (suc (place_of M s)) to)
      called_serves h =
          let a = asks_spec file fine (place_of M s) op args c in
          serves_on (place_of M s) a.layer a.operation.implementation (bind a.operation.arguments args) (record { machine = s; power = power }) to e a.here
          (run_of a) h
