-- Steps of a layer's functions: blocks without arguments, from memory of zeros, and what serves after them.
use Rattle.std.proofs.Common.{
  ◌≡◌,
  ℕ,
  suc,
  ◌<◌,
  true,
  List,
  [],
  ◌∷◌,
  length,
  slice_get,
  Option,
  Some,
  None,
  Result,
  option_map,
  inl,
  inr,
  refl,
  sym,
  ap,
  ◌∙◌,
  subst,
}
use Rattle.ygg_list.specs.declared.memory.NoMemory.{NoMemory}
use Rattle.ygg_value.specs.declared.row.Value.{Value}
use Rattle.ygg_syntax.specs.declared.tree.Block.{Block}
use Rattle.ygg_syntax.specs.declared.tree.Declared.{Declared}
use Rattle.ygg_syntax.specs.declared.tree.Layer.{Layer}
use Rattle.ygg_syntax.specs.declared.tree.Tick.{Tick}
use Rattle.ygg_syntax.specs.declared.tree.File.{File}
use Rattle.ygg_syntax.specs.Files.{IsDerivable}
use Rattle.ygg_eval.specs.ygg_type_rules.TypeErrors.{none}
use Rattle.ygg_eval.specs.ygg_type_rules.Files.{type_errors_of}
use Rattle.ygg_eval.specs.ygg_disk.declared.power.Power.{Power}
use Rattle.ygg_eval.specs.ygg_meaning.Environments.{Env, bind}
use Rattle.ygg_eval.specs.ygg_meaning.Progress.{Answer}
use Rattle.ygg_eval.specs.ygg_meaning.Shapes.{values_fit}
use Rattle.ygg_eval.specs.declared.body.Part.{Part}
use Rattle.ygg_eval.specs.declared.body.Part.TheVariants as part
use Rattle.ygg_eval.specs.Bodies.{arguments_in, IsBlock, IsRunnable}
use Rattle.ygg_eval.specs.Lower.{Standing, Meaning, Ending, Whole, Down, Failed, Starved, AfterWhole, Serves}
use Rattle.ygg_eval.specs.declared.run.Ended.{Ended}
use Rattle.ygg_eval.proofs.OnSpec.{there}
use Rattle.ygg_machine.specs.Commands.{HasTick}
use Rattle.ygg_machine.specs.Floors.{
  Raised,
  lower_of,
  memory_at,
  place_of,
  run_ending,
  silent,
  zeroed,
  IsFirst,
  IsWhole,
  RunsOn,
  RunsSilently,
  Begins,
  FitsFloor,
  floor_meaning,
}
use Rattle.ygg_machine.specs.FloorStacks.{layer_there}
use Rattle.ygg_eval.specs.Zeros.{zero_values}
use Rattle.ygg_machine.proofs.Serving.{serves_on}
use Rattle.ygg_machine.proofs.Typing.{memory_zeros}

-- a command that was whole gave some answer
pub whole_is : (e : Ending) → IsWhole e → (answer : Answer) × (e ≡ Whole answer)
whole_is (Whole answer) h = (answer, refl)
whole_is Down h = absurd h
whole_is Failed h = absurd h
whole_is Starved h = absurd h

-- no names have values where there are none
bind_none : (ds : List Declared) → bind ds [] ≡ []
bind_none [] = refl
bind_none (d ∷ ds) = refl

-- the background step of a layer at a place
pub tick_of_layer : (file : File) (place number : ℕ) → HasTick file place number →
    (l : Layer) × (slice_get file.layers place ≡ Some l) × (t : Tick) × (slice_get l.ticks number ≡ Some t)
tick_of_layer file place number (l, here, within) = let (t, is) = there l.ticks number within in (l, here, t, is)

module _ {S : Type 0} (M : Meaning S) (file : File) where
  -- a run without arguments
  pub ran_silently : (p : Part) (number : ℕ) (from to : Standing (Raised S)) (result : Result Ended NoMemory) (ending : Ending) →
      ending ≡ silent (run_ending result) → (args : List Value) → args ≡ [] → (l : Layer) (b : Block) →
      RunsOn M file l b (bind (arguments_in l p number) args) from (run_ending result) to → RunsSilently M file l b from ending to
  ran_silently p number from to result ending is args none l b r =
      let empty : bind (arguments_in l p number) args ≡ [] = ap (λ (vs : List Value). bind (arguments_in l p number) vs) none ∙ bind_none
      (arguments_in l p number) in
      (run_ending result, is, subst (λ (env : Env). RunsOn M file l b env from (run_ending result) to) empty r)

  memory_is : (place : ℕ) (l : Layer) → slice_get file.layers place ≡ Some l → memory_at file place ≡ l.memory
  memory_is place l h = ap (λ (o : Option Layer). elim o as (λ o. List Declared) [ None ↦ [] | Some l ↦ l.memory ]) h

  -- a block that was begun from memory of zeros
  pub begun : (p : Part) (self cleared : Raised S) (power : Power) (ending : Ending) (to : Standing (Raised S)) →
      cleared ≡ record { memory = zero_values (memory_at file (place_of M self)); below = self.below } →
      ((l : Layer) (b : Block) → IsBlock file (record { layer = place_of M cleared; part = p; number = 0 }) l b →
      RunsSilently M file l b (record { machine = cleared; power = power }) ending to) →
      (l : Layer) (b : Block) → IsBlock file (record { layer = place_of M self; part = p; number = 0 }) l b →
      Begins M file l b (record { machine = self; power = power }) ending to
  begun p self cleared power ending to is ran l b h =
      let zeros : cleared ≡ record { memory = zero_values l.memory; below = self.below } =
      is ∙ ap (λ (ds : List Declared). record { memory = zero_values ds; below = self.below }) (memory_is (place_of M self) l h.layer) in
      let same : place_of M cleared ≡ place_of M self = ap (λ (s : Raised S). place_of M s) is in
      inl (subst (λ (s : Raised S). RunsSilently M file l b (record { machine = s; power = power }) ending to) zeros
      (ran l b (subst (λ (n : ℕ). IsBlock file (record { layer = n; part = p; number = 0 }) l b) (sym same) h)))

  -- after a silent run the layer serves
  pub serves_silently : (place : ℕ) (l : Layer) (b : Block) (from to : Standing (Raised S)) (ending : Ending) → slice_get file.layers place ≡ Some l →
      RunsSilently M file l b from ending to → AfterWhole ending (Serves M file place (lower_of to)) →
      AfterWhole ending (Serves (floor_meaning M) file (suc place) to)
  serves_silently place l b from to ending there (e, is, r) h =
      subst (λ (x : Ending). AfterWhole x (Serves (floor_meaning M) file (suc place) to)) (sym is)
      (at e r (subst (λ (x : Ending). AfterWhole x (Serves M file place (lower_of to))) is h))
    where
      at : (e : Ending) → RunsOn M file l b [] from e to → AfterWhole (silent e) (Serves M file place (lower_of to)) →
          AfterWhole (silent e) (Serves (floor_meaning M) file (suc place) to)
      at (Whole answer) r h = serves_on M file place l b [] from to (Whole answer) there r h
      at Down r h = tt
      at Failed r h = tt
      at Starved r h = tt

  pub serves_begun : (place : ℕ) (l : Layer) (b : Block) (from to : Standing (Raised S)) (ending : Ending) → slice_get file.layers place ≡ Some l →
      Begins M file l b from ending to → AfterWhole ending (Serves M file place (lower_of to)) →
      AfterWhole ending (Serves (floor_meaning M) file (suc place) to)
  serves_begun place l b from to ending there (inl r) h = serves_silently place l b (zeroed l.memory from) to ending there r h
  serves_begun place l b from to ending there (inr (is, same)) h =
      subst (λ (x : Ending). AfterWhole x (Serves (floor_meaning M) file (suc place) to)) (sym is) tt

  -- it serves while its memory stays
  pub serves_under : (from to : Standing (Raised S)) (place : ℕ) (e : Ending) → FitsFloor M file from.machine → place ≡ place_of M from.machine →
      to.machine.memory ≡ from.machine.memory → AfterWhole e (Serves M file place (lower_of to)) →
      AfterWhole e (Serves (floor_meaning M) file (suc place) to)
  serves_under from to place (Whole answer) f is memory s = record {
    numbered = ap suc s.numbered;
    fits = record {
      layer = f.layer;
      there = ap (λ (n : ℕ). slice_get file.layers n) (s.numbered ∙ is) ∙ f.there;
      memory = ap (λ (vs : List Value). values_fit f.layer.memory vs) memory ∙ f.memory;
      below = s.fits;
    };
    fuse = s.fuse;
  }
  serves_under from to place Down f is memory s = tt
  serves_under from to place Failed f is memory s = tt
  serves_under from to place Starved f is memory s = tt

  layer_is : (a b : Layer) → Some a ≡ Some b → a ≡ b
  layer_is a b h = cc

  -- a background step of the layer can be run
  pub runs_tick : (s : Raised S) (number : ℕ) → FitsFloor M file s → HasTick file (place_of M s) number →
      IsRunnable file (record { layer = place_of M s; part = part.Tick; number = number }) [] s.memory
  runs_tick s number f (l, here, within) =
      let (t, is) = there l.ticks number within in
      record {
        layer = l;
        block = t.body;
        is = record { layer = here; block = ap (option_map (λ (t : Tick). t.body)) is };
        arguments_fit = refl;
        variables_fit = ap (λ (x : Layer). values_fit x.memory s.memory) (layer_is l f.layer (sym here ∙ f.there)) ∙ f.memory;
      }

-- the same by the place that was given
pub tick_runs_as : {S : Type 0} (M : Meaning S) (file : File) (s : Raised S) (place number : ℕ) → place ≡ place_of M s → FitsFloor M file s →
    HasTick file place number → IsRunnable file (record { layer = place_of M s; part = part.Tick; number = number }) [] s.memory
tick_runs_as M file s place number here f h = runs_tick M file s number f (subst (λ (n : ℕ). HasTick file n number) here h)

module _ (file : File) (fine : none (type_errors_of file) ≡ true) (derivable : ∥ IsDerivable file ∥₁) where
  -- a block that is begun from memory of zeros can be run
  pub first_runs : (place : ℕ) (p : Part) → place < length file.layers → IsFirst p →
      IsRunnable file (record { layer = place; part = p; number = 0 }) [] (zero_values (memory_at file place))
  first_runs place p within first =
      let (l, there) = layer_there file place within in
      at l there first
    where
      fit : (l : Layer) → slice_get file.layers place ≡ Some l → values_fit l.memory (zero_values (memory_at file place)) ≡ true
      fit l there =
          ap (λ (o : Option Layer). values_fit l.memory (zero_values (elim o as (λ o. List Declared) [ None ↦ [] | Some l ↦ l.memory ]))) there
          ∙ memory_zeros file fine derivable place l there

      at : (l : Layer) → slice_get file.layers place ≡ Some l → IsFirst p →
          IsRunnable file (record { layer = place; part = p; number = 0 }) [] (zero_values (memory_at file place))
      at l there (inl e) =
          subst (λ (q : Part). IsRunnable file (record { layer = place; part = q; number = 0 }) [] (zero_values (memory_at file place))) (sym e)
          (record { layer = l; block = l.format; is = record { layer = there; block = refl }; arguments_fit = refl; variables_fit = fit l there })
      at l there (inr e) =
          subst (λ (q : Part). IsRunnable file (record { layer = place; part = q; number = 0 }) [] (zero_values (memory_at file place))) (sym e)
          (record { layer = l; block = l.recover; is = record { layer = there; block = refl }; arguments_fit = refl; variables_fit = fit l there })

-- the same of a layer whose memory was made zeros
pub cleared_runs : {S : Type 0} (M : Meaning S) (file : File) → none (type_errors_of file) ≡ true → ∥ IsDerivable file ∥₁ → (self cleared : Raised S)
    (p : Part) →
    cleared ≡ record { memory = zero_values (memory_at file (place_of M self)); below = self.below } → place_of M self < length file.layers → IsFirst p →
    IsRunnable file (record { layer = place_of M cleared; part = p; number = 0 }) [] cleared.memory
cleared_runs {S} M file fine derivable self cleared p is within first =
    subst (λ (s : Raised S). IsRunnable file (record { layer = place_of M s; part = p; number = 0 }) [] s.memory) (sym is)
    (first_runs file fine derivable (place_of M self) p within first)
