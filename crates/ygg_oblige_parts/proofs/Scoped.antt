-- What formulas of a layer see, in code.
use Rattle.std.proofs.Common.{◌≡◌, true, List, [], ◌++◌, All, refl, sym, ap, ◌∙◌, subst}
use Rattle.std.specs.Prelude.{IsTrue}
use Rattle.std.proofs.lemmas.List.{map-append}
use Rattle.std.proofs.lemmas.List.Elements.{All-append, All-nil, All-weaker}
use Rattle.ygg_syntax.specs.declared.tree.Declared.{Declared}
use Rattle.ygg_syntax.specs.declared.tree.Def.{Def}
use Rattle.ygg_syntax.specs.declared.tree.Expr.{Expr}
use Rattle.ygg_sym_spec.specs.ygg_type_rules.TypeErrors.{none}
use Rattle.ygg_sym_spec.specs.ygg_type_rules.Definitions.{definitions_errors}
use Rattle.ygg_sym_spec.specs.ygg_meaning.Environments.{Name}
use Rattle.ygg_sym_spec.specs.ygg_meaning.Layer.{ClosedLayer}
use Rattle.ygg_sym_spec.specs.ygg_meaning.Meaning.{functions_of}
use Rattle.ygg_sym_spec.specs.ygg_meaning.Refines.{Below}
use Rattle.ygg_sym_spec.specs.ygg_meaning.Related.{relations}
use Rattle.ygg_sym_spec.specs.ygg_meaning.Shapes.{env_fits}
use Rattle.ygg_sym_spec.specs.ygg_meaning_laws.Agrees.{Agrees}
use Rattle.ygg_sym_spec.specs.ygg_rules.declared.rule.RuleKind.{RuleKind}
use Rattle.ygg_sym_spec.specs.ygg_bank.Values.{Inputs, Values, Fits}
use Rattle.ygg_sym_spec.specs.ygg_bank.declared.node.Node.{Node}
use Rattle.ygg_sym_spec.specs.ygg_shape_cells.Terms.{worth}
use Rattle.ygg_sym_spec.specs.ygg_shape_cells.declared.terms.SymValue.{SymValue}
use Rattle.ygg_sym_spec.specs.ygg_sym_runs.ExpressionMeaning.{ScopeShaped, worths, scope_worth}
use Rattle.ygg_sym_spec.specs.ygg_sym_runs.Names.{SymScope, SymEnv, sym_bind}
use Rattle.ygg_sym_spec.proofs.of_ygg_sym_runs.Worths.{NameShaped}
use Rattle.ygg_sym_spec.proofs.of_ygg_shape.Answered.{no_inputs}
use Rattle.ygg_sym_spec.specs.ygg_bank.Values.{value_of}
use Rattle.ygg_sym_spec.specs.ygg_sym_runs_proofs_Lows.{low_fits}
use Rattle.ygg_sym_spec.specs.ygg_sym_runs_proofs_Specs.{bound_worth, low_shaped}
use Rattle.ygg_sym_spec.specs.ygg_sym_runs.Lows.{LowShaped, low_worth}
use Rattle.ygg_oblige_laws.specs.LayerTerms.{FormulaTyped, LayerTyped}
use Rattle.ygg_oblige_laws.specs.TermStates.{Trio}
use Rattle.ygg_oblige_laws.proofs.Truths.{both_fit}
use Rattle.ygg_oblige_laws.specs.Worth.{TrioShaped}
use Rattle.ygg_oblige_parts.specs.Formulas.{CanTest, seen}

-- names of the declared shapes in each environment
pub record FitsNames (own low : List Declared) (nodes : List Node) (scope : SymScope) : Type 0 where
  pub shaped : ScopeShaped nodes scope
  pub own_fits : (inputs : Inputs) (v : Values) → Fits inputs v nodes → env_fits own (worths v scope.own) ≡ true
  pub low_fits : (inputs : Inputs) (v : Values) → Fits inputs v nodes → env_fits low (worths v scope.low) ≡ true

module _ (defs : List Def) (L : ClosedLayer) (sound : IsTrue (none (definitions_errors defs [] []))) (functions : L.functions ≡ functions_of defs) where
  pub formula_test : (own low : List Declared) (e : Expr) (nodes : List Node) (a b : SymEnv) → FormulaTyped defs L own low e →
      FitsNames own low nodes (record { own = a; low = b }) → CanTest (seen defs a b) nodes e
  formula_test own low e nodes a b t f = record {
    can = record {
      scope = t.scope;
      defs = t.defs_is;
      sound = sound;
      without_errors = t.without_errors;
      shaped = f.shaped;
      agrees = λ inputs v h. subst (λ fs. Agrees fs t.scope (scope_worth v (record { own = a; low = b }))) functions
          (t.agrees (worths v a) (worths v b) (f.own_fits inputs v h) (f.low_fits inputs v h));
    };
    digit = t.digit;
  }

  pub formula_tests : (own low : List Declared) (es : List Expr) (nodes : List Node) (a b : SymEnv) → All (FormulaTyped defs L own low) es →
      FitsNames own low nodes (record { own = a; low = b }) → All (CanTest (seen defs a b) nodes) es
  formula_tests own low es nodes a b t f =
      All-weaker (FormulaTyped defs L own low) (CanTest (seen defs a b) nodes) (λ e u. formula_test own low e nodes a b u f) es t

module _ (kinds : List RuleKind) (L : ClosedLayer) (nodes : List Node) where
  pub trio_names : (x : Trio) → TrioShaped L nodes x → FitsNames (L.layer.state ++ L.layer.memory) L.low nodes
      (record { own = sym_bind L.layer.state x.vars ++ sym_bind L.layer.memory x.memory; low = sym_bind L.low x.low })
  trio_names x s =
      let sv = sym_bind L.layer.state x.vars in
      let sm = sym_bind L.layer.memory x.memory in
      record {
        shaped = record {
          own = All-append (NameShaped nodes) sv sm (low_shaped no_inputs (value_of no_inputs nodes) kinds L.layer.state x.vars nodes s.vars)
              (low_shaped no_inputs (value_of no_inputs nodes) kinds L.layer.memory x.memory nodes s.memory);
          low = low_shaped no_inputs (value_of no_inputs nodes) kinds L.low x.low nodes s.low;
        };
        own_fits = λ inputs v h.
            let own_is : worths v (sv ++ sm) ≡ low_worth v L.layer.state x.vars ++ low_worth v L.layer.memory x.memory =
            map-append (λ (b : Name × SymValue). (b.0, worth v b.1)) sv sm ∙ ap (λ e. e ++ worths v sm) (bound_worth inputs v kinds L.layer.state x.vars)
            ∙ ap (λ e. low_worth v L.layer.state x.vars ++ e) (bound_worth inputs v kinds L.layer.memory x.memory) in
            subst (λ e. env_fits (L.layer.state ++ L.layer.memory) e ≡ true) (sym own_is)
            (both_fit L.layer.state L.layer.memory (low_worth v L.layer.state x.vars) (low_worth v L.layer.memory x.memory)
            (low_fits inputs v nodes L.layer.state x.vars h s.vars) (low_fits inputs v nodes L.layer.memory x.memory h s.memory));
        low_fits = λ inputs v h. subst (λ e. env_fits L.low e ≡ true) (sym (bound_worth inputs v kinds L.low x.low))
            (low_fits inputs v nodes L.low x.low h s.low);
      }

  pub low_names : (low : List SymValue) → LowShaped nodes L.low low → FitsNames [] L.low nodes (record { own = []; low = sym_bind L.low low })
  low_names low s = record {
    shaped = record {
      own = All-nil (NameShaped nodes);
      low = low_shaped no_inputs (value_of no_inputs nodes) kinds L.low low nodes s;
    };
    own_fits = λ inputs v h. refl;
    low_fits = λ inputs v h. subst (λ e. env_fits L.low e ≡ true) (sym (bound_worth inputs v kinds L.low low))
        (low_fits inputs v nodes L.low low h s);
  }

module _ (kinds : List RuleKind) (defs : List Def) (G : Below) (L : ClosedLayer) (typed : LayerTyped defs G L) where
  pub related_tests : (x : Trio) (nodes : List Node) → TrioShaped L nodes x →
      All (CanTest (seen defs (sym_bind L.layer.state x.vars ++ sym_bind L.layer.memory x.memory) (sym_bind L.low x.low)) nodes) (relations L)
  related_tests x nodes s =
      formula_tests defs L typed.definitions typed.functions (L.layer.state ++ L.layer.memory) L.low (relations L) nodes
      (sym_bind L.layer.state x.vars ++ sym_bind L.layer.memory x.memory) (sym_bind L.low x.low) typed.relations_typed (trio_names kinds L nodes x s)

  pub settled_tests : (low : List SymValue) (nodes : List Node) → LowShaped nodes L.low low →
      All (CanTest (seen defs [] (sym_bind L.low low)) nodes) L.layer.settled
  settled_tests low nodes s =
      formula_tests defs L typed.definitions typed.functions [] L.low L.layer.settled nodes [] (sym_bind L.low low) typed.settled_typed
      (low_names kinds L nodes low s)
