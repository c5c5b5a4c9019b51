-- What a run over terms on a specification begins with, and what its machine means.
use Rattle.std.proofs.Common.{◌≡◌, ℕ, true, List, [], ◌++◌, map, reverse, sym, ap, ◌∙◌, subst}
use Rattle.std.proofs.lemmas.List.{map-append}
use Rattle.std.proofs.lemmas.List.Elements.{All-append}
use Rattle.ygg_syntax.specs.declared.grammar.BlockKind.TheVariants.{Impl}
use Rattle.ygg_syntax.specs.declared.tree.Declared.{Declared}
use Rattle.ygg_syntax.specs.declared.tree.Def.{Def}
use Rattle.ygg_syntax.specs.declared.tree.Layer.{Layer}
use Rattle.ygg_syntax.specs.declared.tree.Block.{Block}
use Rattle.ygg_sym_laws.specs.ygg_type_rules.Names.{Named}
use Rattle.ygg_sym_laws.specs.ygg_type_rules.declared.scope.Signature.{Signature}
use Rattle.ygg_sym_laws.specs.ygg_type_rules.TypeErrors.{none}
use Rattle.ygg_sym_laws.specs.ygg_type_rules.Definitions.{definitions_errors, with_definitions}
use Rattle.ygg_sym_laws.specs.ygg_meaning.Environments.{Name, Env}
use Rattle.ygg_sym_laws.specs.ygg_meaning.Meaning.{Functions, functions_of}
use Rattle.ygg_sym_laws.specs.ygg_meaning.Shapes.{env_fits}
use Rattle.ygg_sym_laws.specs.ygg_meaning.Layer.{ClosedLayer}
use Rattle.ygg_sym_laws.specs.ygg_meaning.Machine.{State}
use Rattle.ygg_sym_laws.specs.ygg_meaning.Refines.{OnSpec}
use Rattle.ygg_sym_laws.specs.ygg_meaning_laws.Agrees.{Agrees}
use Rattle.ygg_sym_laws.specs.ygg_meaning_laws.Questions.{plain}
use Rattle.ygg_sym_laws.specs.ygg_rules.declared.rule.RuleKind.{RuleKind}
use Rattle.ygg_sym_laws.specs.ygg_bank.Values.{Inputs, Values, Fits}
use Rattle.ygg_sym_laws.specs.ygg_bank.declared.node.Node.{Node}
use Rattle.ygg_sym_laws.specs.ygg_shape_cells.Terms.{worth}
use Rattle.ygg_sym_laws.specs.ygg_shape_cells.declared.terms.SymValue.{SymValue}
use Rattle.ygg_sym_laws.specs.ygg_meaning_laws.DirectLaws.{IsTypedBlock}
use Rattle.ygg_sym_laws.specs.ygg_sym_runs.Names.{sym_bind}
use Rattle.ygg_sym_laws.specs.ygg_sym_runs.Exprs.{SymFunctions, sym_functions}
use Rattle.ygg_sym_laws.specs.ygg_sym_runs.ExpressionMeaning.{EnvShaped, worths}
use Rattle.ygg_sym_laws.specs.ygg_sym_runs_proofs_Grows.{FunctionsGrow, functions_grow}
use Rattle.ygg_sym_laws.specs.ygg_sym_runs_proofs_Values.{FunctionsMean}
use Rattle.ygg_sym_laws.specs.ygg_sym_runs_proofs_Definitions.{functions_mean}
use Rattle.ygg_sym_laws.specs.Runs.{SymMachine}
use Rattle.ygg_sym_laws.specs.Meaning.{Low, MachineMeans}
use Rattle.ygg_sym_laws.proofs.Worths.{NameShaped}
use Rattle.ygg_sym_laws.proofs.Parts.{InScope}
use Rattle.ygg_sym_laws.specs.Lows.{low_worth}
use Rattle.ygg_sym_laws.specs.Laws.{picked_by}
use Rattle.ygg_sym_laws.specs.Specs.{input_pick, sym_spec}
use Rattle.ygg_sym_laws.proofs.Blocks.{values_worth}
use Rattle.ygg_sym_laws.proofs.Lows.{low_of, low_fits}
use Rattle.ygg_sym_laws.proofs.Specs.{input_pick_means, bound_worth, low_shaped}
use Rattle.ygg_sym_laws.proofs.SpecMeans.{spec_at, spec_means}
use Rattle.ygg_sym_laws.proofs.SpecStops.{SomeBlock, FallsTyped}
use Rattle.ygg_sym_laws.specs.Below.{signatures_of}
use Rattle.ygg_sym_laws.specs.Typed.{BlockTyped, SpecBlockTyped, SpecTyped}
use Rattle.ygg_sym_laws.specs.Means.{Values3, Begins}

module _ (kinds : List RuleKind) (defs : List Def) where
  abbrev pub terms : SymFunctions
  terms = sym_functions kinds (reverse defs)

  abbrev pub names : Named Signature
  names = with_definitions defs []

  pub grow : FunctionsGrow terms
  grow = functions_grow kinds (reverse defs)

  module _ (sound : none (definitions_errors defs [] []) ≡ true) (m : ClosedLayer) (spec : SpecTyped defs m) where
    -- definitions mean what they are to mean
    pub mean_in : (inputs : Inputs) (v : Values) (functions : Functions) → functions ≡ functions_of defs →
        FunctionsMean inputs v kinds names functions terms grow
    unfolding grow
    mean_in inputs v functions same = subst (λ f. FunctionsMean inputs v kinds names f terms grow) (sym same) (functions_mean inputs v kinds defs sound)

    pub mean_of : (inputs : Inputs) (v : Values) → FunctionsMean inputs v kinds names m.functions terms grow
    mean_of inputs v = mean_in inputs v m.functions spec.functions

    -- a block of the specification
    pub block_of : (b : Block) (args : List Declared) → SpecBlockTyped defs m b args → SomeBlock names m b args
    block_of b args t = record {
      shape = t.block.shape;
      typed = record {
        scope = t.block.scope;
        defs_is = t.block.defs_is;
        without_errors = t.block.without_errors;
        kept = t.block.kept;
        agrees = t.block.agrees;
      };
    }

    pub falls_typed : FallsTyped names m
    falls_typed = record {
      crash = block_of m.layer.crash [] spec.crash;
      spec = λ name o found. let t = spec.operations name o found in block_of o.spec o.arguments t.spec;
      on_crash = λ name o found b own. let t = spec.operations name o found in block_of b o.arguments (t.on_crash b own);
    }

    abbrev pub operations : Named Signature
    operations = signatures_of m.layer.operations

    abbrev pub low : Low (List SymValue) (State Env)
    low = low_of m.layer.state

    abbrev pub machine_from : ℕ → SymMachine (List SymValue)
    machine_from first = sym_spec kinds terms m (input_pick kinds first)

    pub laws : (inputs : Inputs) (v : Values) (first : ℕ) →
        MachineMeans inputs v low Impl operations (machine_from first) (spec_at m (picked_by inputs first))
    laws inputs v first =
        spec_means inputs v kinds names m terms grow (mean_of inputs v) operations spec.sees spec.blocks (input_pick kinds first) (picked_by inputs first)
        (input_pick_means inputs v kinds first)

    module _ (functions : Functions) (layer : Layer) (same : functions ≡ functions_of defs) where
      -- the layer on the specification
      abbrev pub L : ClosedLayer
      L = record { functions = functions; layer = layer; low = m.layer.state }

      module _ (b : Block) (vars args : List Declared) (typed : BlockTyped defs L Impl operations b vars args) where
        abbrev pub memory_in : Values → Values3 → Env
        memory_in v x = low_worth v vars x.vars

        abbrev pub given_in : Values → Values3 → Env
        given_in v x = low_worth v args x.args

        abbrev pub base_in : Values → Values3 → Env
        base_in v x = low_worth v m.layer.state x.low

        -- what the values that a run begins with are worth under a valuation that fits
        pub record Begun (inputs : Inputs) (v : Values) (nodes : List Node) (x : Values3) : Type 0 where
          pub joined : worths v (sym_bind vars x.vars ++ sym_bind args x.args) ≡ memory_in v x ++ given_in v x
          pub inside : InScope inputs v kinds names functions terms grow (mean_in inputs v functions same) operations typed.scope
              (worths v (sym_bind vars x.vars ++ sym_bind args x.args))
          pub shaped : EnvShaped nodes (sym_bind vars x.vars ++ sym_bind args x.args)
          pub memory_fits : env_fits vars (memory_in v x) ≡ true
          pub base_fits : env_fits m.layer.state (base_in v x) ≡ true
          pub block : IsTypedBlock L operations b (memory_in v x ++ given_in v x)

        pub begun : (inputs : Inputs) (v : Values) (x : Values3) (nodes : List Node) → Begins kinds defs (OnSpec m) L b vars args nodes x →
            Fits inputs v nodes → Begun inputs v nodes x
        begun inputs v x nodes begins h =
            let sv = sym_bind vars x.vars in
            let sa = sym_bind args x.args in
            let joined : worths v (sv ++ sa) ≡ memory_in v x ++ given_in v x =
            map-append (λ (b : Name × SymValue). (b.0, worth v b.1)) sv sa ∙ ap (λ e. e ++ worths v sa) (bound_worth inputs v kinds vars x.vars)
            ∙ ap (λ e. memory_in v x ++ e) (bound_worth inputs v kinds args x.args) in
            let good = typed.agrees (map (worth v) x.vars) (map (worth v) x.args) (values_worth inputs v nodes vars x.vars h begins.vars_are)
            (values_worth inputs v nodes args x.args h begins.args_are) in
            record {
              joined = joined;
              inside = record {
                lower_is = typed.lower_is;
                defs_is = typed.defs_is;
                agrees = subst (λ e. Agrees functions typed.scope (plain e)) (sym joined) good;
              };
              shaped = All-append (NameShaped nodes) sv sa (low_shaped inputs v kinds vars x.vars nodes begins.vars_are)
                  (low_shaped inputs v kinds args x.args nodes begins.args_are);
              memory_fits = low_fits inputs v nodes vars x.vars h begins.vars_are;
              base_fits = low_fits inputs v nodes m.layer.state x.low h begins.low_are;
              block = record {
                scope = typed.scope;
                shape = typed.shape;
                lower_is = typed.lower_is;
                agrees = good;
                without_errors = typed.without_errors;
                kept = typed.kept;
              };
            }
