-- Runs over terms that power cuts are worth the runs with the picks and stops that the environment names by place.
use Rattle.std.proofs.Common.{◌≡◌, ℕ, true, List, [], ◌++◌, map, ap, ◌∙◌, subst}
use Rattle.ygg_syntax.specs.declared.grammar.BlockKind.TheVariants.{Impl}
use Rattle.ygg_syntax.specs.declared.tree.Block.{Block}
use Rattle.ygg_syntax.specs.declared.tree.Declared.{Declared}
use Rattle.ygg_syntax.specs.declared.tree.Def.{Def}
use Rattle.ygg_syntax.specs.declared.tree.Layer.{Layer}
use Rattle.ygg_sym_laws.specs.ygg_type_rules.TypeErrors.{none}
use Rattle.ygg_sym_laws.specs.ygg_type_rules.Statements.{walked, return_errors}
use Rattle.ygg_sym_laws.specs.ygg_type_rules.Statements as rules
use Rattle.ygg_sym_laws.specs.ygg_type_rules.Definitions.{definitions_errors}
use Rattle.ygg_sym_laws.specs.ygg_meaning_laws_proofs_Tests.{left as first_of}
use Rattle.ygg_sym_laws.specs.ygg_meaning.Environments.{Name, Env}
use Rattle.ygg_sym_laws.specs.ygg_meaning.Layer.{ClosedLayer}
use Rattle.ygg_sym_laws.specs.ygg_meaning.Machine.{State, based}
use Rattle.ygg_sym_laws.specs.ygg_meaning.Meaning.{Functions, functions_of}
use Rattle.ygg_sym_laws.specs.ygg_meaning.Refines.{Below}
use Rattle.ygg_sym_laws.specs.ygg_meaning_laws.Blocks.{eval_with}
use Rattle.ygg_sym_laws.specs.ygg_rules.declared.rule.RuleKind.{RuleKind}
use Rattle.ygg_sym_laws.specs.ygg_bank_proofs_Meaning.{fits_fewer}
use Rattle.ygg_sym_laws.specs.ygg_meaning_laws.Direct.{Reached, direct_run}
use Rattle.ygg_sym_laws.specs.ygg_sym_runs.ExpressionMeaning.{worths}
use Rattle.ygg_sym_laws.specs.ygg_sym_runs.Names.{sym_bind}
use Rattle.ygg_sym_laws.specs.ygg_sym_runs.Laws.{picked_by}
use Rattle.ygg_sym_laws.specs.ygg_sym_runs.Lows.{low_worth}
use Rattle.ygg_sym_laws.proofs.of_ygg_sym_runs.Fallen.{FallenIs, fallen_grows, fallen_gives}
use Rattle.ygg_sym_laws.specs.Below.{lows_on, signatures_on, places_on, machine_on, stops_on}
use Rattle.ygg_sym_laws.specs.Means.{cut_run}
use Rattle.ygg_sym_laws.specs.Typed.{BlockTyped, BelowTyped}
use Rattle.ygg_sym_laws.specs.Fronts.{handle_on, cut_on, lose_on, run_by_place}
use Rattle.ygg_sym_laws.proofs.NamedRuns.{cut_runs}
use Rattle.ygg_sym_laws.proofs.Beginning.{layer_on, begun}
use Rattle.ygg_sym_laws.proofs.Machines.{terms, names, growing, low_on, left_on, space_is, meant, machine_means, stops_mean}
use Rattle.ygg_sym_laws.specs.Named.{memory_worth, given_worth, below_worth, FallNamed}

module _ (kinds : List RuleKind) (defs : List Def) (sound : none (definitions_errors defs [] []) ≡ true) (G : Below) (below : BelowTyped defs G)
    (functions : Functions) (layer : Layer) (same : functions ≡ functions_of defs) (b : Block) (vars args : List Declared)
    (typed : BlockTyped defs (layer_on G functions layer) Impl (signatures_on G) b vars args) where
  abbrev L : ClosedLayer
  L = layer_on G functions layer

  pub fall_named : FallNamed kinds defs G L b vars args
  fall_named inputs v first stop last x nodes begins h =
      let sv = sym_bind vars x.vars in
      let sa = sym_bind args x.args in
      let out = cut_run kinds defs G L b vars args first stop last x nodes in
      let bits = picked_by inputs first in
      let set = picked_by inputs stop in
      let fails = picked_by inputs last in
      let M = machine_on kinds (terms kinds defs) G first in
      let machine = handle_on G bits in
      let K = stops_on kinds (terms kinds defs) G stop last in
      let mean = meant kinds defs sound inputs v functions same in
      let laws = machine_means kinds defs sound inputs v G below first in
      let stops = stops_mean kinds defs sound inputs v G below stop last in
      let room = places_on G b in
      let g = fallen_grows inputs v kinds (names kinds defs) functions (terms kinds defs) (growing kinds defs) mean (low_on kinds defs G) (left_on kinds defs G)
      Impl (signatures_on G) M machine laws K (cut_on G fails) (lose_on G fails) set stops room b sv sa x.low x.low nodes in
      let s = begun kinds defs sound G below functions layer same b vars args typed inputs v x nodes begins (fits_fewer inputs v nodes out.nodes g h) in
      let there = rules.in_order (map walked b.statements) typed.scope in
      let errors = first_of (none there.type_errors) (none (return_errors b.answer typed.shape there.scope)) typed.without_errors in
      let w = fallen_gives inputs v kinds (names kinds defs) functions (terms kinds defs) (growing kinds defs) mean (low_on kinds defs G) (left_on kinds defs G)
      Impl (signatures_on G) M machine laws K (cut_on G fails) (lose_on G fails) set stops room b typed.scope sv sa x.low x.low nodes s.inside errors
      typed.kept s.shaped begins.low_are begins.low_are h in
      let memory = memory_worth kinds defs G L b vars args v x in
      let given = given_worth kinds defs G L b vars args v x in
      let base = below_worth kinds defs G L b vars args v x in
      let direct = direct_run (eval_with functions) M.space machine b (worths v (sv ++ sa)) (based base) in
      let r = run_by_place G L b memory given base bits in
      let same_run : direct ≡ r =
      ap (λ (e : Env). direct_run (eval_with functions) M.space machine b e (based base)) s.joined
      ∙ ap (λ (space : Name → ℕ). direct_run (eval_with functions) space machine b (memory ++ given) (based base)) (space_is kinds defs G first) in
      let f = subst (λ (z : Reached (State Env)). FallenIs inputs v kinds (names kinds defs) functions (terms kinds defs) (growing kinds defs) mean
      (low_on kinds defs G) (left_on kinds defs G) Impl (signatures_on G) M machine laws K (cut_on G fails) (lose_on G fails) set stops room z out.nodes
      out.value)
      same_run w in
      record {
        reached = f.reached;
        left = λ halt e. f.is halt e;
        run = λ halt e. cut_runs defs G L b memory given base s.stands bits fails halt (low_worth v (lows_on G) out.value.fallen) (f.is halt e);
      }
