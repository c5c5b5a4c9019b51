-- Steps of a layer's specification as a machine, as steps of the layer with all the picks that are given.
use Rattle.std.proofs.Common.{◌≡◌, ℕ, suc, true, List, [], length, slice_get, Option, Some, None, option_map, sym, ap, ◌∙◌, subst, arith}
use Rattle.std.proofs.lemmas.Option.{slice_get-map}
use Rattle.ygg_value.specs.declared.row.Value.{Value}
use Rattle.ygg_syntax.specs.declared.tree.Declared.{Declared}
use Rattle.ygg_syntax.specs.declared.tree.Operation.{Operation}
use Rattle.ygg_syntax.specs.declared.tree.Layer.{Layer}
use Rattle.ygg_syntax.specs.declared.tree.File.{File}
use Rattle.ygg_sched.specs.ygg_type_rules.Names.{Named}
use Rattle.ygg_sched.specs.ygg_type_rules.declared.scope.Signature.{Signature}
use Rattle.ygg_sched.specs.ygg_type_rules.TypeErrors.{none}
use Rattle.ygg_sched.specs.ygg_type_rules.Layers.{operation_signature}
use Rattle.ygg_sched.specs.ygg_type_rules.Files.{type_errors_of}
use Rattle.ygg_sched.specs.ygg_disk.declared.power.Power.{Power}
use Rattle.ygg_sched.specs.ygg_meaning.Environments.{Name, Env, bind}
use Rattle.ygg_sched.specs.ygg_meaning.Shapes.{values_fit}
use Rattle.ygg_sched.specs.ygg_meaning.Progress.{Answer}
use Rattle.ygg_sched.specs.ygg_meaning.Machine.{Picks, State, based}
use Rattle.ygg_sched.specs.ygg_meaning.Refines.{Below, OnDisk, OnSpec, machine_below}
use Rattle.ygg_sched.specs.ygg_meaning.Spec.{Outcome, chosen, call_outcome, crash_outcome, fall_outcome, SpecCalls, SpecFalls, SpecLoses}
use Rattle.ygg_sched.specs.ygg_meaning.Stack.{tables_of}
use Rattle.ygg_eval.specs.ygg_meaning_laws_proofs_Parameters.{same_fit}
use Rattle.ygg_eval.proofs.of_ygg_meaning_laws.Matching.{Matches}
use Rattle.ygg_eval.specs.ygg_meaning_laws.Places.{Result}
use Rattle.ygg_eval.specs.Layers.{variables_at, closed_at, below_at, machine_at, signatures_of, signatures_at}
use Rattle.ygg_eval.specs.Lower.{IsCallable, Called, Fell, Whole, Happened}
use Rattle.ygg_eval.specs.Kept.{Kept, spec_meaning, Loses}
use Rattle.ygg_eval.specs.Taken.{TakesOnly}
use Rattle.ygg_eval.proofs.Named.{find_first, typed_operations}
use Rattle.ygg_eval.proofs.OnSpec.{AsksSpec, asks_spec, at_operation, layer_variables}

-- what a step gives with as many picks as it takes at most
pub exists : (n : ℕ) (O : Picks → Option Outcome) (P : Picks → Result) → Matches n O P → (picks : Picks) → length picks ≡ n →
    (o : Outcome) × (O picks ≡ Some o)
exists n O P m picks all = let p = m.place picks (omega (arith, all)) in (_, p.gives)

module _ (file : File) (fine : none (type_errors_of file) ≡ true) (place : ℕ) where
  -- the machine of a layer's specification
  spec_below : (l : Layer) → slice_get file.layers place ≡ Some l → below_at file (suc place) ≡ OnSpec (closed_at file place l)
  spec_below l h = ap (λ (o : Option Layer). elim o as (λ o. Below) [ None ↦ OnDisk file.disk | Some l ↦ OnSpec (closed_at file place l) ]) h

  -- its operation at a place can be called with arguments of the declared shapes
  pub callable : (l : Layer) (number : ℕ) (o : Operation) (args : List Value) → slice_get file.layers place ≡ Some l →
      slice_get l.operations number ≡ Some o → values_fit o.arguments args ≡ true → IsCallable (signatures_at file (suc place)) number args
  callable l number o args here there fit =
      let known = typed_operations file fine place l here in
      let first = find_first l.operations l.crash [] known.weights known.scope known.without_errors number o there in
      record {
        name = o.name.text;
        operation = operation_signature o;
        is = ap (λ (x : Option Layer). slice_get (elim x as (λ x. Named Signature) [ None ↦ [] | Some l ↦ signatures_of l.operations ]) number) here
            ∙ (slice_get-map (λ (o : Operation). (o.name.text, operation_signature o)) l.operations number
            ∙ ap (option_map (λ (o : Operation). (o.name.text, operation_signature o))) there);
        fit = same_fit o.arguments args known.scope first.arguments ∙ fit;
      }

  one_name : (a b : Name × Signature) → Some a ≡ Some b → a.0 ≡ b.0
  one_name a b h = cc

  one_operation : (a b : Operation) → Some a ≡ Some b → a ≡ b
  one_operation a b h = cc

  base_is : (a b : Env) → based a ≡ based b → a ≡ b
  base_is a b h = ap (λ (s : State Env). s.base) h

  module _ (state : List Value) (power power' : Power) (k : Kept) where
    -- a whole operation with the picks that it took
    pub record Gave (args : List Value) (answer : Answer) (l : Layer) (o : Operation) : Type 0 where
      pub taken : Picks
      pub gives : call_outcome (closed_at file place l) o (bind l.state state) args (chosen taken)
          ≡ Some (record { vars = bind l.state k.values; answer = answer; left = [] })
      pub takes : TakesOnly taken power power'

    pub called_gave : (number : ℕ) (args : List Value) (answer : Answer) → IsCallable (signatures_at file (suc place)) number args →
        Called spec_meaning file (signatures_at file (suc place)) number args (Whole answer)
        (record { machine = record { number = suc place; values = state }; power = power }) (record { machine = k; power = power' }) →
        (l : Layer) (o : Operation) → slice_get file.layers place ≡ Some l → slice_get l.operations number ≡ Some o → Gave args answer l o
    called_gave number args answer c called =
        let a = asks_spec file fine place number args c in
        at_operation file place number args a (Gave args answer) (there a)
      where
        there : (a : AsksSpec file place number args) → Gave args answer a.layer a.operation
        there a =
            let L = closed_at file place a.layer in
            let h = called.step in
            let name_is = one_name (called.name, called.operation) (a.operation.name.text, operation_signature a.operation)
            (sym called.is ∙ a.signature) in
            let step1 = subst (λ (n : ℕ). (machine_at file (suc place)).Calls (based (bind (variables_at file (suc place)) state)) called.name args h.picks
            answer (based (bind (variables_at file n) k.values))) h.number h.step in
            let step2 = subst (λ (ds : List Declared). (machine_below (below_at file (suc place))).Calls (based (bind ds state)) called.name args h.picks answer
            (based (bind ds k.values))) (layer_variables (tables_of file.disk) file.layers place a.layer a.here) step1 in
            let step3 = subst (λ (b : Below). (machine_below b).Calls (based (bind a.layer.state state)) called.name args h.picks answer
            (based (bind a.layer.state k.values))) (spec_below a.layer a.here) step2 in
            let s : SpecCalls L (based (bind a.layer.state state)) a.operation.name.text args h.picks answer (based (bind a.layer.state k.values)) =
            subst (λ (n : Name). SpecCalls L (based (bind a.layer.state state)) n args h.picks answer (based (bind a.layer.state k.values))) name_is step3 in
            let operation_is = one_operation a.operation s.operation (sym a.found ∙ s.is) in
            record {
              taken = h.picks;
              gives = ap (λ o. call_outcome L o (bind a.layer.state state) args (chosen h.picks)) operation_is
                  ∙ ap (λ v. call_outcome L s.operation v args (chosen h.picks)) (base_is (bind a.layer.state state) s.vars s.from_is)
                  ∙ s.gives
                  ∙ ap (λ v. Some (let x : Outcome = record { vars = v; answer = answer; left = [] } in x))
                  (sym (base_is (bind a.layer.state k.values) s.vars' s.to_is));
              takes = h.takes;
            }

    -- an operation that power cut
    pub record Dropped (args : List Value) (l : Layer) (o : Operation) : Type 0 where
      pub taken : Picks
      pub answer : Answer
      pub gives : fall_outcome (closed_at file place l) o (bind l.state state) args taken
          ≡ Some (record { vars = bind l.state k.values; answer = answer; left = [] })
      pub takes : TakesOnly taken power power'

    pub fell_dropped : (number : ℕ) (args : List Value) → IsCallable (signatures_at file (suc place)) number args →
        Fell spec_meaning file (signatures_at file (suc place)) number args Happened
        (record { machine = record { number = suc place; values = state }; power = power }) (record { machine = k; power = power' }) →
        (l : Layer) (o : Operation) → slice_get file.layers place ≡ Some l → slice_get l.operations number ≡ Some o → Dropped args l o
    fell_dropped number args c fell =
        let a = asks_spec file fine place number args c in
        at_operation file place number args a (Dropped args) (there a)
      where
        there : (a : AsksSpec file place number args) → Dropped args a.layer a.operation
        there a =
            let L = closed_at file place a.layer in
            let h = fell.step in
            let name_is = one_name (fell.name, fell.operation) (a.operation.name.text, operation_signature a.operation) (sym fell.is ∙ a.signature) in
            let step1 = subst (λ (n : ℕ). (machine_at file (suc place)).Falls (based (bind (variables_at file (suc place)) state)) fell.name args h.picks
            (bind (variables_at file n) k.values)) h.number h.step in
            let step2 = subst (λ (ds : List Declared). (machine_below (below_at file (suc place))).Falls (based (bind ds state)) fell.name args h.picks
            (bind ds k.values)) (layer_variables (tables_of file.disk) file.layers place a.layer a.here) step1 in
            let step3 = subst (λ (b : Below). (machine_below b).Falls (based (bind a.layer.state state)) fell.name args h.picks
            (bind a.layer.state k.values)) (spec_below a.layer a.here) step2 in
            let s : SpecFalls L (based (bind a.layer.state state)) a.operation.name.text args h.picks (bind a.layer.state k.values) =
            subst (λ (n : Name). SpecFalls L (based (bind a.layer.state state)) n args h.picks (bind a.layer.state k.values)) name_is step3 in
            let operation_is = one_operation a.operation s.operation (sym a.found ∙ s.is) in
            record {
              taken = h.picks;
              answer = s.answer;
              gives = ap (λ o. fall_outcome L o (bind a.layer.state state) args h.picks) operation_is
                  ∙ ap (λ v. fall_outcome L s.operation v args h.picks) (base_is (bind a.layer.state state) s.vars s.from_is) ∙ s.gives;
              takes = h.takes;
            }

    -- power that was lost
    pub record LostSo (l : Layer) : Type 0 where
      pub taken : Picks
      pub answer : Answer
      pub gives : crash_outcome (closed_at file place l) (bind l.state state) (chosen taken)
          ≡ Some (record { vars = bind l.state k.values; answer = answer; left = [] })
      pub takes : TakesOnly taken power power'

    pub lost_so : Loses file (record { machine = record { number = suc place; values = state }; power = power }) Happened
        (record { machine = k; power = power' }) → (l : Layer) → slice_get file.layers place ≡ Some l → LostSo l
    lost_so h l here =
        let L = closed_at file place l in
        let step1 = subst (λ (n : ℕ). (machine_at file (suc place)).Loses (based (bind (variables_at file (suc place)) state)) h.picks
        (bind (variables_at file n) k.values)) h.number h.step in
        let step2 = subst (λ (ds : List Declared). (machine_below (below_at file (suc place))).Loses (based (bind ds state)) h.picks
        (bind ds k.values)) (layer_variables (tables_of file.disk) file.layers place l here) step1 in
        let s : SpecLoses L (based (bind l.state state)) h.picks (bind l.state k.values) =
        subst (λ (b : Below). (machine_below b).Loses (based (bind l.state state)) h.picks (bind l.state k.values)) (spec_below l here) step2 in
        record {
          taken = h.picks;
          answer = s.answer;
          gives = ap (λ v. crash_outcome L v (chosen h.picks)) (base_is (bind l.state state) s.vars s.from_is) ∙ s.gives;
          takes = h.takes;
        }
