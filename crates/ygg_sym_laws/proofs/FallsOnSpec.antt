-- Runs over terms on a specification that power cuts, both ways.
use Rattle.std.proofs.Common.{◌≡◌, ◌+◌, ◌*◌, ℕ, Bool, true, List, [], map, Option, Some, None, refl, sym, ap, ◌∙◌, subst, arith}
use Rattle.std.specs.Prelude.{is_some}
use Rattle.ygg_value.specs.Words.{word}
use Rattle.ygg_syntax.specs.declared.grammar.BlockKind.TheVariants.{Impl}
use Rattle.ygg_syntax.specs.declared.tree.Declared.{Declared}
use Rattle.ygg_syntax.specs.declared.tree.Def.{Def}
use Rattle.ygg_syntax.specs.declared.tree.Layer.{Layer}
use Rattle.ygg_syntax.specs.declared.tree.Block.{Block}
use Rattle.ygg_sym_laws.specs.ygg_type_rules.TypeErrors.{none}
use Rattle.ygg_sym_laws.specs.ygg_type_rules.Statements.{walked, return_errors}
use Rattle.ygg_sym_laws.specs.ygg_type_rules.Statements as rules
use Rattle.ygg_sym_laws.specs.ygg_type_rules.Definitions.{definitions_errors}
use Rattle.ygg_sym_laws.specs.ygg_meaning_laws_proofs_Tests.{left as first_of}
use Rattle.ygg_sym_laws.specs.ygg_meaning.Environments.{Env}
use Rattle.ygg_sym_laws.specs.ygg_meaning.Meaning.{Functions, functions_of}
use Rattle.ygg_sym_laws.specs.ygg_meaning.Machine.{State, based}
use Rattle.ygg_sym_laws.specs.ygg_meaning.Layer.{ClosedLayer}
use Rattle.ygg_sym_laws.specs.ygg_meaning.Obligations.{Halt}
use Rattle.ygg_sym_laws.specs.ygg_meaning.Refines.{OnSpec}
use Rattle.ygg_sym_laws.specs.ygg_meaning_laws.Blocks.{eval_with}
use Rattle.ygg_sym_laws.specs.ygg_rules.declared.rule.RuleKind.{RuleKind}
use Rattle.ygg_sym_laws.specs.ygg_bank_proofs_Meaning.{fits_fewer}
use Rattle.ygg_sym_laws.specs.ygg_bank.Inputs.{InputsBelow}
use Rattle.ygg_sym_laws.specs.ygg_bank.Makes.{Out}
use Rattle.ygg_sym_laws.specs.ygg_bank.Values.{Inputs, Values, Fits}
use Rattle.ygg_sym_laws.specs.ygg_bank.declared.node.Node.{Node}
use Rattle.ygg_sym_laws.specs.ygg_shape_words_proofs_Keeps.{inputs_stay}
use Rattle.ygg_sym_laws.specs.ygg_shape_cells.declared.terms.SymValue.{SymValue}
use Rattle.ygg_sym_laws.specs.ygg_meaning_laws.Direct.{Reached, direct_run, room_of}
use Rattle.ygg_sym_laws.specs.ygg_meaning_laws.RunPlaces.{spec_space}
use Rattle.ygg_sym_laws.specs.ygg_sym_runs.Names.{sym_bind}
use Rattle.ygg_sym_laws.specs.ygg_sym_runs.ExpressionMeaning.{Grows}
use Rattle.ygg_sym_laws.specs.Meaning.{is_set}
use Rattle.ygg_sym_laws.specs.Laws.{picked_by}
use Rattle.ygg_sym_laws.specs.Lows.{low_worth}
use Rattle.ygg_sym_laws.specs.SpecCuts.{spec_stops}
use Rattle.ygg_sym_laws.specs.StopTerms.{SymFallen, Stops}
use Rattle.ygg_sym_laws.proofs.Fallen.{FallenIs, fallen_grows, fallen_gives}
use Rattle.ygg_sym_laws.proofs.MadeInputs.{spec_below, terms_below}
use Rattle.ygg_sym_laws.proofs.SpecBits.{FallBack, run_at, fall_back, fall_sound}
use Rattle.ygg_sym_laws.proofs.SpecFalls.{cut_end, lose_end}
use Rattle.ygg_sym_laws.proofs.SpecKeeps.{spec_stops_below, spec_asked_one}
use Rattle.ygg_sym_laws.proofs.SpecMeans.{spec_at}
use Rattle.ygg_sym_laws.proofs.SpecStops.{vars_of, spec_stops_mean}
use Rattle.ygg_sym_laws.proofs.StopKeeps.{fallen_keeps}
use Rattle.ygg_sym_laws.proofs.StopMeaning.{StopsMean}
use Rattle.ygg_sym_laws.specs.Below.{signatures_of}
use Rattle.ygg_sym_laws.specs.Typed.{BlockTyped, SpecTyped}
use Rattle.ygg_sym_laws.specs.Means.{Values3, Begins, AreWorth, WorthFall, AreFallBits, FallsTo, FallMeans, cut_run}
use Rattle.ygg_sym_laws.proofs.SpecBegun.{terms, names, grow, mean_in, mean_of, falls_typed, operations, low, machine_from, laws, L, Begun, begun}

-- a stop that is set
record SomeStop (s : Option Halt) : Type 0 where
  stop : Halt
  is : s ≡ Some stop

some_stop : (s : Option Halt) → true ≡ is_some s → SomeStop s
some_stop None e = absurd (cc)
some_stop (Some h) e = record { stop = h; is = refl }

same_env : (a b : Env) → Some a ≡ Some b → a ≡ b
same_env a b e = cc

module _ (kinds : List RuleKind) (defs : List Def) (sound : none (definitions_errors defs [] []) ≡ true) (m : ClosedLayer) (spec : SpecTyped defs m)
    (functions : Functions) (layer : Layer) (same : functions ≡ functions_of defs) (b : Block) (vars args : List Declared)
    (typed : BlockTyped defs (L kinds defs sound m spec functions layer same) Impl (signatures_of m.layer.operations) b vars args) where
  abbrev layer_on : ClosedLayer
  layer_on = L kinds defs sound m spec functions layer same

  abbrev room : ℕ
  room = room_of (spec_space m) b

  abbrev stops_from : ℕ → ℕ → Stops (List SymValue) (List SymValue)
  stops_from stop last = spec_stops kinds (terms kinds defs) m stop last

  abbrev run_of_terms : ℕ → ℕ → ℕ → Values3 → List Node → Out (SymFallen (List SymValue))
  run_of_terms first stop last x nodes = cut_run kinds defs (OnSpec m) layer_on b vars args first stop last x nodes

  stops : (inputs : Inputs) (v : Values) (stop last : ℕ) →
      StopsMean (low kinds defs sound m spec) (vars_of m.layer.state) inputs v Impl (operations kinds defs sound m spec) (stops_from stop last)
      (cut_end m (picked_by inputs last)) (lose_end m (picked_by inputs last)) (picked_by inputs stop)
  stops inputs v stop last =
      spec_stops_mean inputs v kinds (names kinds defs) m (terms kinds defs) (grow kinds defs) (mean_of kinds defs sound m spec inputs v)
      (falls_typed kinds defs sound m spec) (operations kinds defs sound m spec) spec.sees stop last

  grows : (first stop last : ℕ) (x : Values3) → Grows (cut_run kinds defs (OnSpec m) layer_on b vars args first stop last x)
  grows first stop last x nodes =
      let inputs : Inputs = λ n. 0 in
      let v : Values = λ n. word 1 0 in
      fallen_grows inputs v kinds (names kinds defs) functions (terms kinds defs) (grow kinds defs) (mean_in kinds defs sound m spec inputs v functions same)
      (low kinds defs sound m spec) (vars_of m.layer.state) Impl (operations kinds defs sound m spec) (machine_from kinds defs sound m spec first)
      (spec_at m (picked_by inputs first)) (laws kinds defs sound m spec inputs v first) (stops_from stop last) (cut_end m (picked_by inputs last))
      (lose_end m (picked_by inputs last)) (picked_by inputs stop) (stops inputs v stop last) room b (sym_bind vars x.vars) (sym_bind args x.args) x.low x.low
      nodes

  abbrev run : Env → Env → Env → (ℕ → Bool) → Reached (State Env)
  run memory given base bits = run_at m layer_on b memory given base bits

  module _ (inputs : Inputs) (v : Values) (first stop last : ℕ) (x : Values3) (nodes : List Node)
      (begins : Begins kinds defs (OnSpec m) layer_on b vars args nodes x) (h : Fits inputs v (run_of_terms first stop last x nodes).nodes) where
    abbrev out : Out (SymFallen (List SymValue))
    out = run_of_terms first stop last x nodes

    abbrev memory : Env
    memory = low_worth v vars x.vars

    abbrev given : Env
    given = low_worth v args x.args

    abbrev base : Env
    base = low_worth v m.layer.state x.low

    here : Begun kinds defs sound m spec functions layer same b vars args typed inputs v nodes x
    here =
        begun kinds defs sound m spec functions layer same b vars args typed inputs v x nodes begins
        (fits_fewer inputs v nodes out.nodes (grows first stop last x nodes) h)

    abbrev Fallen : Reached (State Env) → Type 0
    Fallen r =
        FallenIs inputs v kinds (names kinds defs) functions (terms kinds defs) (grow kinds defs) (mean_in kinds defs sound m spec inputs v functions same)
        (low kinds defs sound m spec) (vars_of m.layer.state) Impl (operations kinds defs sound m spec) (machine_from kinds defs sound m spec first)
        (spec_at m (picked_by inputs first)) (laws kinds defs sound m spec inputs v first) (stops_from stop last) (cut_end m (picked_by inputs last))
        (lose_end m (picked_by inputs last)) (picked_by inputs stop) (stops inputs v stop last) room r out.nodes out.value

    fallen : Fallen (run memory given base (picked_by inputs first))
    fallen =
        let sv = sym_bind vars x.vars in
        let sa = sym_bind args x.args in
        let s = here in
        let machine = spec_at m (picked_by inputs first) in
        let there = rules.in_order (map walked b.statements) typed.scope in
        let errors = first_of (none there.type_errors) (none (return_errors b.answer typed.shape there.scope)) typed.without_errors in
        subst (λ (e : Env). Fallen (direct_run (eval_with functions) (spec_space m) machine b e (based base))) s.joined
        (fallen_gives inputs v kinds (names kinds defs) functions (terms kinds defs) (grow kinds defs) (mean_in kinds defs sound m spec inputs v functions same)
        (low kinds defs sound m spec) (vars_of m.layer.state) Impl (operations kinds defs sound m spec) (machine_from kinds defs sound m spec first) machine
        (laws kinds defs sound m spec inputs v first) (stops_from stop last) (cut_end m (picked_by inputs last)) (lose_end m (picked_by inputs last))
        (picked_by inputs stop) (stops inputs v stop last) room b typed.scope sv sa x.low x.low nodes s.inside errors typed.kept s.shaped begins.low_are
        begins.low_are h)

    worth_fall : is_set v out.value.reached ≡ true → WorthFall kinds defs (OnSpec m) layer_on b vars args v x out.value
    worth_fall set =
        let s = here in
        let f = fallen in
        let halt = some_stop _ (sym set ∙ f.reached) in
        let r = fall_sound m layer_on b memory given base (operations kinds defs sound m spec) spec.answers spec.sees s.block s.base_fits
        (picked_by inputs first) (picked_by inputs last) halt.stop (low_worth v m.layer.state out.value.fallen) (f.is halt.stop halt.is) in
        record { taken = r.0; run = r.1 }

    -- a run that power cuts, with its picks and stops as inputs
    falls_to : (memory' given' base' left : Env) (k : FallBack m layer_on b memory' given' base' left) →
        AreWorth kinds defs (OnSpec m) layer_on b vars args v x memory' given' base' →
        AreFallBits kinds defs (OnSpec m) layer_on b vars args inputs first stop last
        (record { run_bits = k.run.bits; stop_bits = k.stops.bits; last_bits = k.last.bits }) →
        FallsTo kinds defs (OnSpec m) layer_on b vars args v left out.value
    falls_to memory' given' base' left k are bits =
        let to_there : run memory given base (picked_by inputs first) ≡ k.reached =
        ap (λ (z : Env). run z given base (picked_by inputs first)) are.vars_is
        ∙ ap (λ (z : Env). run memory' z base (picked_by inputs first)) are.args_is
        ∙ ap (λ (z : Env). run memory' given' z (picked_by inputs first)) are.low_is ∙ k.run.holds (picked_by inputs first) bits.run_is in
        let f : Fallen k.reached = subst Fallen to_there fallen in
        let first_is = k.stops.holds (picked_by inputs stop) bits.stop_is in
        let left_is = k.last.holds (picked_by inputs last) bits.last_is in
        record {
          reached = f.reached ∙ ap (λ (s : Option Halt). is_some s) first_is;
          fallen_is = same_env (low_worth v m.layer.state out.value.fallen) left (sym (f.is k.stop first_is) ∙ left_is);
        }

  -- runs of the block on the specification that power cuts, both ways
  pub fall_means : FallMeans kinds defs (OnSpec m) layer_on b vars args
  fall_means = record {
    after = λ inputs v first stop last x nodes begins h. let f = fallen inputs v first stop last x nodes begins h in (f.wide, f.has);
    sound = λ inputs v first stop last x nodes begins h set. worth_fall inputs v first stop last x nodes begins h set;
    back = λ memory given base taken left run.
        let k = fall_back m layer_on b memory given base taken left run in (
          record { run_bits = k.run.bits; stop_bits = k.stops.bits; last_bits = k.last.bits },
          λ inputs v first stop last x nodes begins h worth are.
              falls_to inputs v first stop last x nodes begins h memory given base left k worth are,
        );
    grows = λ first stop last x nodes. grows first stop last x nodes;
    inputs_below = λ first stop last next x nodes p l1 l2 l3.
        let keep = terms_below kinds defs next in
        fallen_keeps kinds (InputsBelow next) (inputs_stay kinds next) (terms kinds defs) keep (machine_from kinds defs sound m spec first) room
        (spec_below kinds (terms kinds defs) m first room next keep l1) (stops_from stop last)
        (spec_stops_below kinds (terms kinds defs) m stop last (2 * room + 1) next keep l2 l3) (spec_asked_one m) room b (sym_bind vars x.vars)
        (sym_bind args x.args) x.low x.low (omega arith) (omega arith) nodes p;
  }
