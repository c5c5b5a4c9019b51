-- What a run over terms of a typed block begins with.
use Rattle.std.proofs.Common.{◌≡◌, true, List, [], ◌++◌, map, sym, ap, ◌∙◌, subst}
use Rattle.std.proofs.lemmas.List.{map-append}
use Rattle.std.proofs.lemmas.List.Elements.{All-append}
use Rattle.ygg_syntax.specs.declared.grammar.BlockKind.TheVariants.{Impl}
use Rattle.ygg_syntax.specs.declared.tree.Block.{Block}
use Rattle.ygg_syntax.specs.declared.tree.Declared.{Declared}
use Rattle.ygg_syntax.specs.declared.tree.Def.{Def}
use Rattle.ygg_syntax.specs.declared.tree.Layer.{Layer}
use Rattle.ygg_sym_laws.specs.ygg_type_rules.TypeErrors.{none}
use Rattle.ygg_sym_laws.specs.ygg_type_rules.Definitions.{definitions_errors}
use Rattle.ygg_sym_laws.specs.ygg_meaning.Environments.{Name}
use Rattle.ygg_sym_laws.specs.ygg_meaning.Layer.{ClosedLayer}
use Rattle.ygg_sym_laws.specs.ygg_meaning.Meaning.{Functions, functions_of}
use Rattle.ygg_sym_laws.specs.ygg_meaning.Refines.{Below}
use Rattle.ygg_sym_laws.specs.ygg_meaning.Shapes.{env_fits}
use Rattle.ygg_sym_laws.specs.ygg_meaning_laws.Questions.{plain}
use Rattle.ygg_sym_laws.specs.ygg_meaning_laws.Agrees.{Agrees}
use Rattle.ygg_sym_laws.specs.ygg_rules.declared.rule.RuleKind.{RuleKind}
use Rattle.ygg_sym_laws.specs.ygg_bank.Values.{Inputs, Values, Fits}
use Rattle.ygg_sym_laws.specs.ygg_bank.declared.node.Node.{Node}
use Rattle.ygg_sym_laws.specs.ygg_shape_cells.Terms.{worth}
use Rattle.ygg_sym_laws.specs.ygg_shape_cells.declared.terms.SymValue.{SymValue}
use Rattle.ygg_sym_laws.specs.ygg_sym_runs.ExpressionMeaning.{EnvShaped, worths}
use Rattle.ygg_sym_laws.specs.ygg_sym_runs.Names.{sym_bind}
use Rattle.ygg_sym_laws.proofs.of_ygg_sym_runs.Parts.{InScope}
use Rattle.ygg_sym_laws.proofs.of_ygg_sym_runs.Worths.{NameShaped}
use Rattle.ygg_sym_laws.proofs.of_ygg_sym_runs.Blocks.{values_worth}
use Rattle.ygg_sym_laws.specs.ygg_sym_runs_proofs_Lows.{low_fits}
use Rattle.ygg_sym_laws.specs.ygg_sym_runs_proofs_Specs.{bound_worth, low_shaped}
use Rattle.ygg_sym_laws.specs.Below.{lows_on, signatures_on}
use Rattle.ygg_sym_laws.specs.Means.{Values3, Begins}
use Rattle.ygg_sym_laws.specs.Typed.{BlockTyped, BelowTyped}
use Rattle.ygg_sym_laws.specs.FrontLaws.{Stands}
use Rattle.ygg_sym_laws.proofs.Machines.{terms, names, growing, meant}
use Rattle.ygg_sym_laws.specs.Named.{memory_worth, given_worth, below_worth}

-- a layer on what it is specified over
abbrev pub layer_on : Below → Functions → Layer → ClosedLayer
layer_on G functions layer = record { functions = functions; layer = layer; low = lows_on G }

module _ (kinds : List RuleKind) (defs : List Def) (sound : none (definitions_errors defs [] []) ≡ true) (G : Below) (below : BelowTyped defs G)
    (functions : Functions) (layer : Layer) (same : functions ≡ functions_of defs) (b : Block) (vars args : List Declared)
    (typed : BlockTyped defs (layer_on G functions layer) Impl (signatures_on G) b vars args) where
  abbrev L : ClosedLayer
  L = layer_on G functions layer

  module _ (inputs : Inputs) (v : Values) (x : Values3) where
    -- what these values are worth under a valuation that fits
    pub record Begun (nodes : List Node) : Type 0 where
      pub joined : worths v (sym_bind vars x.vars ++ sym_bind args x.args)
          ≡ memory_worth kinds defs G L b vars args v x ++ given_worth kinds defs G L b vars args v x
      pub inside : InScope inputs v kinds (names kinds defs) functions (terms kinds defs) (growing kinds defs) (meant kinds defs sound inputs v functions same)
          (signatures_on G) typed.scope (worths v (sym_bind vars x.vars ++ sym_bind args x.args))
      pub shaped : EnvShaped nodes (sym_bind vars x.vars ++ sym_bind args x.args)
      pub memory_fits : env_fits vars (memory_worth kinds defs G L b vars args v x) ≡ true
      pub stands : Stands defs G L b (memory_worth kinds defs G L b vars args v x) (given_worth kinds defs G L b vars args v x)
          (below_worth kinds defs G L b vars args v x)

    pub begun : (nodes : List Node) → Begins kinds defs G L b vars args nodes x → Fits inputs v nodes → Begun nodes
    begun nodes begins h =
        let sv = sym_bind vars x.vars in
        let sa = sym_bind args x.args in
        let memory = memory_worth kinds defs G L b vars args v x in
        let given = given_worth kinds defs G L b vars args v x in
        let joined : worths v (sv ++ sa) ≡ memory ++ given =
        map-append (λ (b : Name × SymValue). (b.0, worth v b.1)) sv sa ∙ ap (λ e. e ++ worths v sa) (bound_worth inputs v kinds vars x.vars)
        ∙ ap (λ e. memory ++ e) (bound_worth inputs v kinds args x.args) in
        let good = typed.agrees (map (worth v) x.vars) (map (worth v) x.args) (values_worth inputs v nodes vars x.vars h begins.vars_are)
        (values_worth inputs v nodes args x.args h begins.args_are) in
        record {
          joined = joined;
          inside = record {
            lower_is = typed.lower_is;
            defs_is = typed.defs_is;
            agrees = subst (λ e. Agrees functions typed.scope (plain e)) (sym joined) good;
          };
          shaped = All-append (NameShaped nodes) sv sa (low_shaped inputs v kinds vars x.vars nodes begins.vars_are)
              (low_shaped inputs v kinds args x.args nodes begins.args_are);
          memory_fits = low_fits inputs v nodes vars x.vars h begins.vars_are;
          stands = record {
            below = below;
            block = record {
              scope = typed.scope;
              shape = typed.shape;
              lower_is = typed.lower_is;
              agrees = good;
              without_errors = typed.without_errors;
              kept = typed.kept;
            };
            shaped = low_fits inputs v nodes (lows_on G) x.low h begins.low_are;
          };
        }
