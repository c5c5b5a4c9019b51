-- The operations of a specification.
use Rattle.std.proofs.Common.{
  ◌≡◌,
  ℕ,
  zero,
  suc,
  ◌<◌,
  arith,
  length,
  Bool,
  true,
  false,
  List,
  [],
  ◌∷◌,
  ◌++◌,
  Option,
  Some,
  None,
  is_some,
  option_map,
  refl,
  sym,
  ap,
  ◌∙◌,
  subst,
}
use Rattle.std.specs.Prelude.{slice_get, option_and_then}
use Rattle.std.proofs.Math.Bool.{Bool-set}
use Rattle.std.proofs.Math.Logic.{∥∥₁_elim}
use Rattle.std.proofs.lemmas.List.{map-append}
use Rattle.std.proofs.lemmas.Option.{slice_get-map}
use Rattle.ygg_value.specs.Values.{digit}
use Rattle.ygg_value.specs.declared.row.Value.{Value}
use Rattle.ygg_syntax.specs.declared.tree.Declared.{Declared}
use Rattle.ygg_syntax.specs.declared.tree.Block.{Block}
use Rattle.ygg_syntax.specs.declared.tree.Operation.{Operation}
use Rattle.ygg_syntax.specs.declared.tree.Layer.{Layer}
use Rattle.ygg_syntax.specs.declared.tree.File.{File}
use Rattle.ygg_eval.specs.ygg_type_rules.Names.{Named}
use Rattle.ygg_eval.specs.ygg_type_rules.declared.scope.Signature.{Signature}
use Rattle.ygg_eval.specs.ygg_type_rules.TypeErrors.{none}
use Rattle.ygg_eval.specs.ygg_type_rules.Layers.{operation_signature}
use Rattle.ygg_eval.specs.ygg_type_rules.Files.{type_errors_of}
use Rattle.ygg_syntax.specs.Files.{IsDerivable}
use Rattle.ygg_eval.specs.ygg_type_proofs_Least.{is_empty}
use Rattle.ygg_eval.specs.ygg_disk.declared.power.Power.{Power}
use Rattle.ygg_eval.specs.ygg_meaning.Environments.{Name, Env, bind}
use Rattle.ygg_eval.specs.ygg_meaning.Meaning.{functions_of}
use Rattle.ygg_eval.specs.ygg_meaning.Shapes.{values_fit}
use Rattle.ygg_eval.specs.ygg_meaning.Progress.{Answer}
use Rattle.ygg_eval.specs.ygg_meaning.Machine.{Picks, State, based}
use Rattle.ygg_eval.specs.ygg_meaning.Layer.{ClosedLayer, operation_in}
use Rattle.ygg_eval.specs.ygg_meaning.Spec.{chosen, block_outcome, then_block, crash_outcome, fall_with, SpecCalls, SpecFalls, SpecLoses}
use Rattle.ygg_eval.specs.ygg_meaning.Refines.{Below, OnDisk, OnSpec, machine_below}
use Rattle.ygg_eval.specs.ygg_meaning_proofs_Exact.{block_exact}
use Rattle.ygg_eval.specs.ygg_meaning.Stack.{tables_of}
use Rattle.ygg_eval.specs.ygg_meaning_laws.Fitting.{all_fit}
use Rattle.ygg_eval.specs.ygg_meaning_laws_proofs_Parameters.{same_fit}
use Rattle.ygg_eval.specs.ygg_meaning_laws.Questions.{gives}
use Rattle.ygg_eval.specs.ygg_meaning_laws.Machines.{SpecAnswers}
use Rattle.ygg_eval.specs.ygg_meaning_laws_proofs_Grammar.{file_kept}
use Rattle.ygg_eval.specs.ygg_meaning_laws_proofs_Files.{file_known}
use Rattle.ygg_eval.specs.declared.body.Part.TheVariants as part
use Rattle.ygg_eval.specs.Layers.{variables_from, variables_at, closed_at, below_at, signatures_of, signatures_at}
use Rattle.ygg_eval.specs.Bodies.{IsBlock, IsRunnable, arguments_at}
use Rattle.ygg_eval.specs.Lower.{IsCallable, Called, Fell, Whole, Happened}
use Rattle.ygg_eval.specs.Taken.{TakesOnly}
use Rattle.ygg_eval.specs.Kept.{standing, spec_meaning, Loses}
use Rattle.ygg_eval.specs.Ran.{Ran, Broken, OperationBroken, CrashRan}
use Rattle.ygg_eval.specs.Keeping.{takes_both}
use Rattle.ygg_eval.proofs.Blocks.{bind_fits}
use Rattle.ygg_eval.proofs.OnDisk.{variables_zero}
use Rattle.ygg_eval.proofs.Named.{find_first, typed_operations, all_of}

-- the variables of a layer's specification
pub layer_variables : (low : List Declared) (ls : List Layer) (place : ℕ) (l : Layer) → slice_get ls place ≡ Some l →
    variables_from low ls (suc place) ≡ l.state
layer_variables low [] place l h = absurd (cc)
layer_variables low (k ∷ ls) zero l h = variables_zero k.state ls ∙ ap (λ (x : Layer). x.state) (same k l h)
  where
    same : (a b : Layer) → Some a ≡ Some b → a ≡ b
    same a b h = cc
layer_variables low (k ∷ ls) (suc n) l h = layer_variables k.state ls n l h

-- the machine of a layer's specification
below_is : (file : File) (place : ℕ) (l : Layer) → slice_get file.layers place ≡ Some l → below_at file (suc place) ≡ OnSpec (closed_at file place l)
below_is file place l h = ap (λ (o : Option Layer). elim o as (λ o. Below) [ None ↦ OnDisk file.disk | Some l ↦ OnSpec (closed_at file place l) ]) h

-- an operation of a layer was asked for by its place
pub record AsksSpec (file : File) (place number : ℕ) (args : List Value) : Type 0 where
  pub layer : Layer
  pub here : slice_get file.layers place ≡ Some layer
  pub operation : Operation
  pub is : slice_get layer.operations number ≡ Some operation
  pub found : operation_in layer.operations operation.name.text ≡ Some operation
  pub fit : values_fit operation.arguments args ≡ true
  pub signature : slice_get (signatures_at file (suc place)) number ≡ Some (operation.name.text, operation_signature operation)

pub asks_spec : (file : File) → none (type_errors_of file) ≡ true → (place number : ℕ) (args : List Value) →
    IsCallable (signatures_at file (suc place)) number args → AsksSpec file place number args
asks_spec file e place number args c = in_layer (slice_get file.layers place) refl c.is
  where
    one_is : (a b : Name × Signature) → Some a ≡ Some b → a ≡ b
    one_is a b h = cc

    not_some : (a : Name × Signature) → None ≡ Some a → ⊥
    not_some a h = cc

    in_layer : (o : Option Layer) → slice_get file.layers place ≡ o →
        slice_get (elim o as (λ o. Named Signature) [ None ↦ [] | Some l ↦ signatures_of l.operations ]) number ≡ Some (c.name, c.operation) →
        AsksSpec file place number args
    in_layer None h is = absurd (cc)
    in_layer (Some l) h is = in_list (slice_get l.operations number) refl
      where
        mapped : slice_get (signatures_of l.operations) number ≡ option_map (λ (o : Operation). (o.name.text, operation_signature o))
            (slice_get l.operations number)
        mapped = slice_get-map (λ (o : Operation). (o.name.text, operation_signature o)) l.operations number

        in_list : (o : Option Operation) → slice_get l.operations number ≡ o → AsksSpec file place number args
        in_list None i = absurd (not_some (c.name, c.operation)
            (sym (ap (option_map (λ (o : Operation). (o.name.text, operation_signature o))) i) ∙ sym mapped ∙ is))
        in_list (Some o) i =
            let known = typed_operations file e place l h in
            let first = find_first l.operations l.crash [] known.weights known.scope known.without_errors number o i in
            let there = mapped ∙ ap (option_map (λ (o : Operation). (o.name.text, operation_signature o))) i in
            let same : (o.name.text, operation_signature o) ≡ (c.name, c.operation) = one_is _ _ (sym there ∙ is) in
            record {
              layer = l;
              here = h;
              operation = o;
              is = i;
              found = first.found;
              fit = sym (same_fit o.arguments args known.scope first.arguments) ∙ ap (λ (x : Name × Signature). all_fit (x.1).arguments args) same ∙ c.fit;
              signature = ap (λ (x : Option Layer). slice_get (elim x as (λ x. Named Signature) [ None ↦ [] | Some l ↦ signatures_of l.operations ])
                  number) h ∙ there;
            }

-- values of the variables fit those of the layer
pub layer_fits : (file : File) (place : ℕ) (l : Layer) (values : List Value) → slice_get file.layers place ≡ Some l →
    values_fit (variables_at file (suc place)) values ≡ true → values_fit l.state values ≡ true
layer_fits file place l values h e = ap (λ ds. values_fit ds values) (sym (layer_variables (tables_of file.disk) file.layers place l h)) ∙ e

pub fits_at : (file : File) (place : ℕ) (l : Layer) (values : List Value) → slice_get file.layers place ≡ Some l → values_fit l.state values ≡ true →
    values_fit (variables_at file (suc place)) values ≡ true
fits_at file place l values h e = ap (λ ds. values_fit ds values) (layer_variables (tables_of file.disk) file.layers place l h) ∙ e

-- the arguments of an operation
arguments_are : (l : Layer) (number : ℕ) (o : Operation) → slice_get l.operations number ≡ Some o → arguments_at l number ≡ o.arguments
arguments_are l number o h = ap (λ (x : Option Operation). elim x as (λ x. List Declared) [ None ↦ [] | Some o ↦ o.arguments ]) h

-- the `spec` block of an operation can be run
pub is_spec : (file : File) (place number : ℕ) (args : List Value) (a : AsksSpec file place number args) →
    IsBlock file (record { layer = place; part = part.Spec; number = number }) a.layer a.operation.spec
is_spec file place number args a = record { layer = a.here; block = ap (option_map (λ (o : Operation). o.spec)) a.is }

pub runs_spec : (file : File) (place number : ℕ) (args values : List Value) → AsksSpec file place number args →
    values_fit (variables_at file (suc place)) values ≡ true → IsRunnable file (record { layer = place; part = part.Spec; number = number }) args values
runs_spec file place number args values a e = record {
  layer = a.layer;
  block = a.operation.spec;
  is = is_spec file place number args a;
  arguments_fit = ap (λ ds. values_fit ds args) (arguments_are a.layer number a.operation a.is) ∙ a.fit;
  variables_fit = layer_fits file place a.layer values a.here e;
}

-- so can its `on crash` block, if there is one
pub is_on_crash : (file : File) (place number : ℕ) (args : List Value) (a : AsksSpec file place number args) (b : Block) → a.operation.on_crash ≡ Some b
    → IsBlock file (record { layer = place; part = part.OnCrash; number = number }) a.layer b
is_on_crash file place number args a b h = record { layer = a.here; block = ap (option_and_then (λ (o : Operation). o.on_crash)) a.is ∙ h }

pub runs_on_crash : (file : File) (place number : ℕ) (args values : List Value) (a : AsksSpec file place number args) →
    true ≡ is_some a.operation.on_crash → values_fit (variables_at file (suc place)) values ≡ true
    → IsRunnable file (record { layer = place; part = part.OnCrash; number = number }) args values
runs_on_crash file place number args values a there e = at a.operation.on_crash refl there
  where
    at : (o : Option Block) → a.operation.on_crash ≡ o → true ≡ is_some o →
        IsRunnable file (record { layer = place; part = part.OnCrash; number = number }) args values
    at None h t = absurd (cc)
    at (Some b) h t = record {
      layer = a.layer;
      block = b;
      is = is_on_crash file place number args a b h;
      arguments_fit = ap (λ ds. values_fit ds args) (arguments_are a.layer number a.operation a.is) ∙ a.fit;
      variables_fit = layer_fits file place a.layer values a.here e;
    }

-- a layer's `crash` block can be run
pub runs_crash : (file : File) (place : ℕ) (l : Layer) (values : List Value) → slice_get file.layers place ≡ Some l →
    values_fit (variables_at file (suc place)) values ≡ true
    → IsRunnable file (record { layer = place; part = part.Crash; number = 0 }) [] values
runs_crash file place l values h e =
    record { layer = l; block = l.crash; is = record { layer = h; block = refl }; arguments_fit = refl; variables_fit = layer_fits file place l values h e }

module _ (file : File) (fine : none (type_errors_of file) ≡ true) (derivable : ∥ IsDerivable file ∥₁) where
  -- the answers of an operation fit
  answer_fits : (place : ℕ) (l : Layer) → slice_get file.layers place ≡ Some l →
      (s to : State Env) (name : Name) (args : List Value) (picks : Picks) (answer : Answer) (o : Operation)
      → SpecCalls (closed_at file place l) s name args picks answer to → operation_in l.operations name ≡ Some o → gives (operation_signature o) answer ≡ true
  answer_fits place l h s to name args picks answer o c found = ∥∥₁_elim derivable (Bool-set _ _) known
    where
      known : IsDerivable file → gives (operation_signature o) answer ≡ true
      known (tokens, few, derives) =
          let all = (file_known file (file_kept tokens file derives) (is_empty (type_errors_of file) fine)).specs in
          let spec = (all_of SpecAnswers (functions_of file.defs) (tables_of file.disk) file.layers [] all).hold place l h in
          spec.gives s to name args picks answer o c found

  -- a whole call
  pub record WellCalled (place number : ℕ) (args : List Value) (answer : Answer) (values values' : List Value) (p p' : Power) : Type 0 where
    pub called : Called spec_meaning file (signatures_at file (suc place)) number args (Whole answer) (standing (suc place) values p)
        (standing (suc place) values' p')
    pub fit : values_fit (variables_at file (suc place)) values' ≡ true

  pub spec_called : (place number : ℕ) (args values values' : List Value) (answer : Answer) (p p' : Power) (a : AsksSpec file place number args) →
      values_fit (variables_at file (suc place)) values ≡ true
      → Ran file (record { layer = place; part = part.Spec; number = number }) a.layer a.operation.spec args answer values values' p p' →
      WellCalled place number args answer values values' p p'
  spec_called place number args values values' answer p p' a e r = record {
    called = record {
      name = a.operation.name.text;
      operation = operation_signature a.operation;
      is = a.signature;
      gives = answer_fits place a.layer a.here (based (bind a.layer.state values))
          (based (bind a.layer.state values')) a.operation.name.text args r.picks answer a.operation step a.found;
      step = record {
        picks = r.picks;
        step = subst (λ ds. (machine_below (below_at file (suc place))).Calls (based (bind ds values)) a.operation.name.text args r.picks answer
            (based (bind ds values'))) (sym (layer_variables (tables_of file.disk) file.layers place a.layer a.here))
            (subst (λ b. (machine_below b).Calls (based (bind a.layer.state values)) a.operation.name.text args r.picks answer
            (based (bind a.layer.state values'))) (sym (below_is file place a.layer a.here)) step);
        takes = r.takes;
        number = refl;
      };
    };
    fit = fits_at file place a.layer values' a.here r.fit;
  }
    where
      step : SpecCalls (closed_at file place a.layer) (based (bind a.layer.state values)) a.operation.name.text args r.picks answer
          (based (bind a.layer.state values'))
      step = record {
        operation = a.operation;
        is = a.found;
        fit = a.fit;
        vars = bind a.layer.state values;
        from_is = refl;
        shaped = bind_fits a.layer.state values (layer_fits file place a.layer values a.here e);
        vars' = bind a.layer.state values';
        gives = ap (λ ds. block_outcome (closed_at file place a.layer) a.operation.spec (bind a.layer.state values) (bind ds args) (chosen r.picks))
            (sym (arguments_are a.layer number a.operation a.is)) ∙ r.gives;
        to_is = refl;
      }

-- what a block leaves with the picks that it takes, where more follow
then_more : (L : ClosedLayer) (first : Block) (vars args : Env) (picks more : Picks) (vars' : Env) (answer : Answer) →
    block_outcome L first vars args (chosen picks) ≡ Some (record { vars = vars'; answer = answer; left = [] })
    → then_block L L.layer.crash (block_outcome L first vars args (chosen (picks ++ more))) ≡ crash_outcome L vars' (chosen more)
then_more L first vars args picks more vars' answer h =
    let whole = ap (block_outcome L first vars args) (map-append (λ (pick : Bool). Some (digit pick)) picks more)
    ∙ (block_exact L first vars args).extends (chosen picks) (chosen more) (record { vars = vars'; answer = answer; left = [] }) h in
    ap (then_block L L.layer.crash) whole

-- an `on crash` block ran
pub broken_by_block : (file : File) (place number : ℕ) (args values values' : List Value) (answer : Answer) (p p' : Power)
    (a : AsksSpec file place number args) → true ≡ is_some a.operation.on_crash
    → ((b : Block) → IsBlock file (record { layer = place; part = part.OnCrash; number = number }) a.layer b →
    Ran file (record { layer = place; part = part.OnCrash; number = number }) a.layer b args answer values values' p p')
    → Broken file place a.layer a.operation args values values' p p'
broken_by_block file place number args values values' answer p p' a there ran = at a.operation.on_crash refl there
  where
    at : (o : Option Block) → a.operation.on_crash ≡ o → true ≡ is_some o → Broken file place a.layer a.operation args values values' p p'
    at None h t = absurd (cc)
    at (Some b) h t =
        let r = ran b (is_on_crash file place number args a b h) in
        let L = closed_at file place a.layer in
        let vars = bind a.layer.state values in
        let gives = ap (λ ds. block_outcome L b vars (bind ds args) (chosen r.picks)) (sym (arguments_are a.layer number a.operation a.is)) ∙ r.gives in
        record {
          picks = r.picks;
          goes = λ more. ap (λ x. fall_with L a.operation x vars args (r.picks ++ more)) h
              ∙ then_more L b vars (bind a.operation.arguments args) r.picks more (bind a.layer.state values') answer gives;
          takes = r.takes;
          fit = r.fit;
        }

-- without one a pick says that all of the operation has happened
pub broken_after : (file : File) (place number : ℕ) (args values values' : List Value) (answer : Answer) (p q p' : Power)
    (a : AsksSpec file place number args) → false ≡ is_some a.operation.on_crash
    → TakesOnly (true ∷ []) p q → Ran file (record { layer = place; part = part.Spec; number = number }) a.layer a.operation.spec args answer values
    values' q p'
    → Broken file place a.layer a.operation args values values' p p'
broken_after file place number args values values' answer p q p' a none t r = at a.operation.on_crash refl none
  where
    at : (o : Option Block) → a.operation.on_crash ≡ o → false ≡ is_some o → Broken file place a.layer a.operation args values values' p p'
    at (Some b) h n = absurd (cc)
    at None h n =
        let L = closed_at file place a.layer in
        let vars = bind a.layer.state values in
        let gives = ap (λ ds. block_outcome L a.operation.spec vars (bind ds args) (chosen r.picks))
        (sym (arguments_are a.layer number a.operation a.is)) ∙ r.gives in
        record {
          picks = true ∷ r.picks;
          goes = λ more. ap (λ x. fall_with L a.operation x vars args (true ∷ r.picks ++ more)) h
              ∙ then_more L a.operation.spec vars (bind a.operation.arguments args) r.picks more (bind a.layer.state values') answer gives;
          takes = takes_both (true ∷ []) r.picks p q p' t r.takes;
          fit = r.fit;
        }

-- or that nothing has
pub broken_before : (file : File) (place number : ℕ) (args values : List Value) (p p' : Power) (a : AsksSpec file place number args) →
    false ≡ is_some a.operation.on_crash → values_fit (variables_at file (suc place)) values ≡ true
    → TakesOnly (false ∷ []) p p' → Broken file place a.layer a.operation args values values p p'
broken_before file place number args values p p' a none e t = at a.operation.on_crash refl none
  where
    at : (o : Option Block) → a.operation.on_crash ≡ o → false ≡ is_some o → Broken file place a.layer a.operation args values values p p'
    at (Some b) h n = absurd (cc)
    at None h n = record {
      picks = false ∷ [];
      goes = λ more. ap (λ x. fall_with (closed_at file place a.layer) a.operation x (bind a.layer.state values) args (false ∷ more)) h;
      takes = t;
      fit = layer_fits file place a.layer values a.here e;
    }

-- the `crash` block of a layer ran
abbrev pub CrashedAt : File → ℕ → Layer → Answer → List Value → List Value → Power → Power → Type 0
CrashedAt file place l answer values values' p p' = Ran file (record { layer = place; part = part.Crash; number = 0 }) l l.crash [] answer values values' p p'

-- power failed within a call
pub record SpecFell (file : File) (place number : ℕ) (args values values' : List Value) (p p' : Power) : Type 0 where
  pub fell : Fell spec_meaning file (signatures_at file (suc place)) number args Happened (standing (suc place) values p) (standing (suc place) values' p')
  pub fit : values_fit (variables_at file (suc place)) values' ≡ true

pub spec_fell : (file : File) (place number : ℕ) (args values between values' : List Value) (answer : Answer) (p q p' : Power)
    (a : AsksSpec file place number args) → values_fit (variables_at file (suc place)) values ≡ true
    → Broken file place a.layer a.operation args values between p q → CrashedAt file place a.layer answer between values' q p' →
    SpecFell file place number args values values' p p'
spec_fell file place number args values between values' answer p q p' a e b r = record {
  fell = record {
    name = a.operation.name.text;
    operation = operation_signature a.operation;
    is = a.signature;
    step = record {
      picks = b.picks ++ r.picks;
      step = subst (λ ds. (machine_below (below_at file (suc place))).Falls (based (bind ds values)) a.operation.name.text args (b.picks ++ r.picks)
          (bind ds values')) (sym (layer_variables (tables_of file.disk) file.layers place a.layer a.here))
          (subst (λ x. (machine_below x).Falls (based (bind a.layer.state values)) a.operation.name.text args (b.picks ++ r.picks)
          (bind a.layer.state values')) (sym (below_is file place a.layer a.here)) step);
      takes = takes_both b.picks r.picks p q p' b.takes r.takes;
      number = refl;
    };
  };
  fit = fits_at file place a.layer values' a.here r.fit;
}
  where
    step : SpecFalls (closed_at file place a.layer) (based (bind a.layer.state values)) a.operation.name.text args (b.picks ++ r.picks)
        (bind a.layer.state values')
    step = record {
      operation = a.operation;
      is = a.found;
      fit = a.fit;
      vars = bind a.layer.state values;
      from_is = refl;
      shaped = bind_fits a.layer.state values (layer_fits file place a.layer values a.here e);
      answer = answer;
      gives = b.goes r.picks ∙ r.gives;
    }

-- power failed between calls
pub record SpecLost (file : File) (place : ℕ) (values values' : List Value) (p p' : Power) : Type 0 where
  pub lost : Loses file (standing (suc place) values p) Happened (standing (suc place) values' p')
  pub fit : values_fit (variables_at file (suc place)) values' ≡ true

pub spec_lost : (file : File) (place : ℕ) (l : Layer) (values values' : List Value) (answer : Answer) (p p' : Power) →
    slice_get file.layers place ≡ Some l → values_fit (variables_at file (suc place)) values ≡ true
    → CrashedAt file place l answer values values' p p' → SpecLost file place values values' p p'
spec_lost file place l values values' answer p p' h e r = record {
  lost = record {
    picks = r.picks;
    step = subst (λ ds. (machine_below (below_at file (suc place))).Loses (based (bind ds values)) r.picks (bind ds values'))
        (sym (layer_variables (tables_of file.disk) file.layers place l h))
        (subst (λ x. (machine_below x).Loses (based (bind l.state values)) r.picks (bind l.state values')) (sym (below_is file place l h)) step);
    takes = r.takes;
    number = refl;
  };
  fit = fits_at file place l values' h r.fit;
}
  where
    step : SpecLoses (closed_at file place l) (based (bind l.state values)) r.picks (bind l.state values')
    step = record {
      vars = bind l.state values;
      from_is = refl;
      shaped = bind_fits l.state values (layer_fits file place l values h e);
      answer = answer;
      gives = r.gives;
    }

-- what holds of the operation that was asked for holds of the one at its place
pub at_operation : (file : File) (place number : ℕ) (args : List Value) (a : AsksSpec file place number args) (P : Layer → Operation → Type 0) →
    P a.layer a.operation
    → (l : Layer) (o : Operation) → slice_get file.layers place ≡ Some l → slice_get l.operations number ≡ Some o → P l o
at_operation file place number args a P p l o h i =
    let here : a.layer ≡ l = layer_is _ _ (sym a.here ∙ h) in
    let there : a.operation ≡ o = operation_is _ _ (sym a.is ∙ ap (λ (x : Layer). slice_get x.operations number) here ∙ i) in
    subst (λ x. P x o) here (subst (λ x. P a.layer x) there p)
  where
    layer_is : (a b : Layer) → Some a ≡ Some b → a ≡ b
    layer_is a b h = cc

    operation_is : (a b : Operation) → Some a ≡ Some b → a ≡ b
    operation_is a b h = cc

-- the layer at a place
pub there : {X : Type 0} (xs : List X) (place : ℕ) → place < length xs → (x : X) × (slice_get xs place ≡ Some x)
there [] place h = absurd (omega arith)
there (x ∷ xs) zero h = (x, refl)
there (x ∷ xs) (suc n) h = there xs n (omega arith)

-- a layer's `crash` block can be run with no arguments
pub crash_runs : (file : File) (place : ℕ) (args values : List Value) → args ≡ [] → place < length file.layers →
    values_fit (variables_at file (suc place)) values ≡ true
    → IsRunnable file (record { layer = place; part = part.Crash; number = 0 }) args values
crash_runs file place args values none within e =
    let (l, h) = there file.layers place within in
    subst (λ vs. IsRunnable file (record { layer = place; part = part.Crash; number = 0 }) vs values) (sym none) (runs_crash file place l values h e)

-- power fails between calls
pub crash_lost : (file : File) (place : ℕ) (values values' : List Value) (p p' : Power) → place < length file.layers →
    values_fit (variables_at file (suc place)) values ≡ true → CrashRan file place values values' p p' → SpecLost file place values values' p p'
crash_lost file place values values' p p' within e (answer, ran) =
    let (l, h) = there file.layers place within in
    spec_lost file place l values values' answer p p' h e (ran l l.crash (record { layer = h; block = refl }))

-- and within one
pub crash_fell : (file : File) (place number : ℕ) (args values between values' : List Value) (p q p' : Power) (a : AsksSpec file place number args) →
    values_fit (variables_at file (suc place)) values ≡ true
    → OperationBroken file place number args values between p q → CrashRan file place between values' q p' → SpecFell file place number args values values' p p'
crash_fell file place number args values between values' p q p' a e b (answer, ran) =
    spec_fell file place number args values between values' answer p q p' a e (b a.layer a.operation a.here a.is)
    (ran a.layer a.layer.crash (record { layer = a.here; block = refl }))
