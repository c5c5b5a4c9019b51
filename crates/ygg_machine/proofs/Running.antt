-- Runs of a layer's blocks on the machine below, as the interpreter tells of them.
use Rattle.std.proofs.Common.{◌≡◌, ◌⊎◌, ℕ, List, Some, None, Result, Ok, Err, IsTrue, inl, inr, refl, sym, ◌∙◌, subst}
use Rattle.ygg_list.specs.declared.memory.NoMemory.{NoMemory}
use Rattle.ygg_value.specs.declared.row.Value.{Value}
use Rattle.ygg_syntax.specs.declared.grammar.BlockKind.{BlockKind}
use Rattle.ygg_syntax.specs.declared.grammar.BlockKind.TheVariants as kind
use Rattle.ygg_syntax.specs.declared.tree.Block.{Block}
use Rattle.ygg_syntax.specs.declared.tree.Declared.{Declared}
use Rattle.ygg_syntax.specs.declared.tree.Layer.{Layer}
use Rattle.ygg_syntax.specs.declared.tree.File.{File}
use Rattle.ygg_eval.specs.ygg_disk.declared.power.Power.{Power}
use Rattle.ygg_eval.specs.ygg_meaning.Environments.{bind}
use Rattle.ygg_eval.specs.ygg_meaning.Shapes.{values_fit}
use Rattle.ygg_eval.specs.ygg_meaning.Layer.{dialogue_of}
use Rattle.ygg_eval.specs.declared.body.Part.{Part}
use Rattle.ygg_eval.specs.declared.body.Part.TheVariants as part
use Rattle.ygg_eval.specs.declared.body.Body.{Body}
use Rattle.ygg_eval.specs.Bodies.{kind_of, variables_in, arguments_in, IsBlock, IsRunnable}
use Rattle.ygg_eval.specs.Layers.{closed_at}
use Rattle.ygg_eval.specs.Lower.{Standing, Meaning, IsLower}
use Rattle.ygg_eval.specs.Runs.{RunEnds, BodyEnds}
use Rattle.ygg_eval.specs.declared.run.Ended.{Ended}
use Rattle.ygg_eval.specs.declared.run.Ended.TheVariants as ended
use Rattle.ygg_eval.proofs.Steps.{runs_are_steps}
use Rattle.ygg_machine.specs.Floors.{Raised, lower_of, place_of, EndsAs, run_ending, RunsOn}

-- a block that calls the machine below changes the memory
memory_of_part : (l : Layer) (p : Part) → kind_of p ≡ kind.Impl → variables_in l p ≡ l.memory
memory_of_part l part.Start e = absurd (cc)
memory_of_part l part.Spec e = absurd (cc)
memory_of_part l part.OnCrash e = absurd (cc)
memory_of_part l part.Crash e = absurd (cc)
memory_of_part l part.Format e = refl
memory_of_part l part.Impl e = refl
memory_of_part l part.Tick e = refl
memory_of_part l part.Recover e = refl

module _ {S : Type 0} (M : Meaning S) (file : File) (p : Part) (number : ℕ) (args : List Value) (from to : Standing (Raised S))
    (result : Result Ended NoMemory)
    (is_impl : kind_of p ≡ kind.Impl) where
  abbrev body : Body
  body = record { layer = place_of M from.machine; part = p; number = number }

  module _ (ends : BodyEnds M file body args None from.machine.memory (lower_of from) result to.machine.memory (lower_of to)) where
    -- the run as one of a block of an implementation, on the memory
    ran_so : (l : Layer) (b : Block) → IsBlock file body l b →
        RunEnds M file kind.Impl (place_of M from.machine)
        (dialogue_of (closed_at file (place_of M from.machine) l) b (bind l.memory from.machine.memory) (bind (arguments_in l p number) args)) (lower_of from)
        l.memory from.machine.memory None result to.machine.memory (lower_of to)
    ran_so l b is =
        subst (λ (ds : List Declared). RunEnds M file kind.Impl (place_of M from.machine)
        (dialogue_of (closed_at file (place_of M from.machine) l) b (bind ds from.machine.memory) (bind (arguments_in l p number) args)) (lower_of from)
        ds from.machine.memory None result to.machine.memory (lower_of to)) (memory_of_part l p is_impl)
        (subst (λ (k : BlockKind). RunEnds M file k (place_of M from.machine)
        (dialogue_of (closed_at file (place_of M from.machine) l) b (bind (variables_in l p) from.machine.memory) (bind (arguments_in l p number) args))
        (lower_of from) (variables_in l p) from.machine.memory None result to.machine.memory (lower_of to)) is_impl (ends l b is))

    -- a run without a stop isn't stopped
    unstopped : (l : Layer) (b : Block) → IsBlock file body l b → EndsAs (run_ending result) result
    unstopped l b is = at result (ran_so l b is)
      where
        at : (r : Result Ended NoMemory) → RunEnds M file kind.Impl (place_of M from.machine)
            (dialogue_of (closed_at file (place_of M from.machine) l) b (bind l.memory from.machine.memory) (bind (arguments_in l p number) args))
            (lower_of from) l.memory from.machine.memory None r to.machine.memory (lower_of to) → EndsAs (run_ending r) r
        at (Ok (ended.Whole answer)) e = refl
        at (Ok ended.Stopped) e = absurd e.is
        at (Ok ended.Short) e = absurd e.early
        at (Ok ended.Down) e = refl
        at (Ok ended.Failed) e = refl
        at (Err none) e = (none, refl)

    module _ (runnable : IsRunnable file body args from.machine.memory) where
      memory_fits : (l : Layer) (b : Block) → IsBlock file body l b → IsTrue (values_fit l.memory from.machine.memory)
      memory_fits l b is =
          subst (λ (ds : List Declared). IsTrue (values_fit ds from.machine.memory)) (memory_of_part l p is_impl)
          (subst (λ (x : Layer). IsTrue (values_fit (variables_in x p) from.machine.memory)) (same runnable.layer l (sym runnable.is.layer ∙ is.layer))
          runnable.variables_fit)
        where
          same : (a c : Layer) → Some a ≡ Some c → a ≡ c
          same a c e = cc

      pub block_ran : (l : Layer) (b : Block) → IsBlock file body l b → RunsOn M file l b (bind (arguments_in l p number) args) from (run_ending result) to
      block_ran l b is = record { fit = memory_fits l b is; result = result; ends_as = unstopped l b is; run = ran_so l b is }

      pub run_ends_as : EndsAs (run_ending result) result
      run_ends_as = unstopped runnable.layer runnable.block runnable.is

      pub number_kept : IsLower M → M.number to.machine.below ≡ M.number from.machine.below
      number_kept keeps =
          let (goes_on, steps) = runs_are_steps M keeps file (place_of M from.machine)
          (dialogue_of (closed_at file (place_of M from.machine) runnable.layer) runnable.block (bind runnable.layer.memory from.machine.memory)
          (bind (arguments_in runnable.layer p number) args))
          runnable.layer.memory from.machine.memory to.machine.memory None result (lower_of from) (lower_of to) refl
          (ran_so runnable.layer runnable.block runnable.is) in
          goes_on.number

-- the same, as a floor's fields have it
module _ {S : Type 0} (M : Meaning S) (file : File) (p : Part) (number : ℕ) (args : List Value) (is_impl : kind_of p ≡ kind.Impl) (place : ℕ)
    (memory : List Value) (below : S) (self : Raised S) (view : record { memory = memory; below = below } ≡ self) (numbered : place ≡ M.number below)
    (power power' : Power) (result : Result Ended NoMemory) (memory' : List Value) (below' : S)
    (runnable : IsRunnable file (record { layer = M.number self.below; part = p; number = number }) args self.memory)
    (ends : BodyEnds M file (record { layer = place; part = p; number = number }) args None memory (record { machine = below; power = power }) result memory'
    (record { machine = below'; power = power' })) where
  abbrev from : Standing (Raised S)
  from = record { machine = record { memory = memory; below = below }; power = power }

  abbrev to : Standing (Raised S)
  to = record { machine = record { memory = memory'; below = below' }; power = power' }

  ends_there : BodyEnds M file (record { layer = M.number below; part = p; number = number }) args None memory (record { machine = below; power = power })
      result memory' (record { machine = below'; power = power' })
  ends_there =
      subst (λ (n : ℕ). BodyEnds M file (record { layer = n; part = p; number = number }) args None memory (record { machine = below; power = power })
      result memory' (record { machine = below'; power = power' })) numbered ends

  runnable_there : IsRunnable file (record { layer = M.number below; part = p; number = number }) args memory
  runnable_there = subst (λ (s : Raised S). IsRunnable file (record { layer = M.number s.below; part = p; number = number }) args s.memory) (sym view)
      runnable

  pub floor_ran : (l : Layer) (b : Block) → IsBlock file (record { layer = M.number self.below; part = p; number = number }) l b →
      RunsOn M file l b (bind (arguments_in l p number) args) (record { machine = self; power = power }) (run_ending result)
      (record { machine = record { memory = memory'; below = below' }; power = power' })
  floor_ran =
      subst (λ (s : Raised S). (l : Layer) (b : Block) → IsBlock file (record { layer = M.number s.below; part = p; number = number }) l b →
      RunsOn M file l b (bind (arguments_in l p number) args) (record { machine = s; power = power }) (run_ending result)
      (record { machine = record { memory = memory'; below = below' }; power = power' })) view
      (block_ran M file p number args from to result is_impl ends_there runnable_there)

  pub floor_numbered : IsLower M → place ≡ M.number below'
  floor_numbered keeps = numbered ∙ sym (number_kept M file p number args from to result is_impl ends_there runnable_there keeps)

  pub floor_ends_as : EndsAs (run_ending result) result
  floor_ends_as = run_ends_as M file p number args from to result is_impl ends_there runnable_there

-- a run without a stop wasn't stopped
pub is_unstopped : (e : Ended) → ((e ≡ ended.Stopped) ⊎ (e ≡ ended.Short)) → EndsAs (run_ending (Ok e)) (Ok e) → ⊥
is_unstopped e (inl is) h = let (none, same) = subst (λ (x : Ended). EndsAs (run_ending (Ok x)) (Ok x)) is h in not_err ended.Stopped none same
  where
    not_err : (x : Ended) (none : NoMemory) → Ok x ≡ Err none → ⊥
    not_err x none h = cc
is_unstopped e (inr is) h = let (none, same) = subst (λ (x : Ended). EndsAs (run_ending (Ok x)) (Ok x)) is h in not_err ended.Short none same
  where
    not_err : (x : Ended) (none : NoMemory) → Ok x ≡ Err none → ⊥
    not_err x none h = cc
