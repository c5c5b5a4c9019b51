-- Whole runs over terms are worth the runs with the picks that the environment names by place.
use Rattle.std.proofs.Common.{◌≡◌, ℕ, true, List, [], ◌++◌, take, length, sym, ap, ◌∙◌, subst}
use Rattle.std.proofs.lemmas.List.{length-map}
use Rattle.ygg_syntax.specs.declared.grammar.BlockKind.TheVariants.{Impl}
use Rattle.ygg_syntax.specs.declared.tree.Block.{Block}
use Rattle.ygg_syntax.specs.declared.tree.Declared.{Declared}
use Rattle.ygg_syntax.specs.declared.tree.Def.{Def}
use Rattle.ygg_syntax.specs.declared.tree.Layer.{Layer}
use Rattle.ygg_sym_laws.specs.ygg_type_rules.TypeErrors.{none}
use Rattle.ygg_sym_laws.specs.ygg_type_rules.Definitions.{definitions_errors}
use Rattle.ygg_sym_laws.specs.ygg_meaning.Environments.{Name, Env}
use Rattle.ygg_sym_laws.specs.ygg_meaning.Layer.{ClosedLayer, BlockRuns}
use Rattle.ygg_sym_laws.specs.ygg_meaning.Machine.{State, on, based}
use Rattle.ygg_sym_laws.specs.ygg_meaning.Meaning.{Functions, functions_of}
use Rattle.ygg_sym_laws.specs.ygg_meaning.Progress.{Answer, answer_of}
use Rattle.ygg_sym_laws.specs.ygg_meaning.Refines.{Below, machine_below}
use Rattle.ygg_sym_laws.specs.ygg_meaning.Shapes.{env_fits}
use Rattle.ygg_sym_laws.specs.ygg_meaning_laws.Blocks.{eval_with}
use Rattle.ygg_sym_laws.specs.ygg_meaning_laws.Questions.{Follows}
use Rattle.ygg_sym_laws.specs.ygg_meaning_laws_proofs_Following.{follows_front, fits_after}
use Rattle.ygg_sym_laws.specs.ygg_rules.declared.rule.RuleKind.{RuleKind}
use Rattle.ygg_sym_laws.specs.ygg_bank_proofs_Meaning.{fits_fewer}
use Rattle.ygg_sym_laws.specs.ygg_shape_cells.Terms.{worth}
use Rattle.ygg_sym_laws.specs.ygg_shape_cells.declared.terms.SymValue.{SymValue}
use Rattle.ygg_sym_laws.specs.ygg_meaning_laws.Direct.{Reached, direct_run}
use Rattle.ygg_sym_laws.specs.ygg_sym_runs.ExpressionMeaning.{worths}
use Rattle.ygg_sym_laws.specs.ygg_sym_runs.Names.{sym_bind}
use Rattle.ygg_sym_laws.specs.ygg_sym_runs.Meaning.{answer_worth}
use Rattle.ygg_sym_laws.specs.ygg_sym_runs.Laws.{picked_by}
use Rattle.ygg_sym_laws.specs.ygg_sym_runs.Lows.{low_worth}
use Rattle.ygg_sym_laws.specs.ygg_sym_runs_proofs_Specs.{bound_worth}
use Rattle.ygg_sym_laws.specs.ygg_sym_runs_proofs_WholeRuns.{whole_grows, whole_gives}
use Rattle.ygg_sym_laws.specs.Below.{lows_on, signatures_on, machine_on}
use Rattle.ygg_sym_laws.specs.Means.{values_in, whole_run}
use Rattle.ygg_sym_laws.specs.Typed.{BlockTyped, BelowTyped}
use Rattle.ygg_sym_laws.proofs.Begun.{named_again}
use Rattle.ygg_sym_laws.specs.Fronts.{handle_on, run_by_place, run_picks, answer_by_place, state_by_place}
use Rattle.ygg_sym_laws.proofs.NamedRuns.{whole_runs}
use Rattle.ygg_sym_laws.proofs.Beginning.{layer_on, begun}
use Rattle.ygg_sym_laws.proofs.Machines.{terms, names, growing, low_on, space_is, meant, machine_means}
use Rattle.ygg_sym_laws.specs.Named.{memory_worth, given_worth, below_worth, state_after, RunNamed}

module _ (kinds : List RuleKind) (defs : List Def) (sound : none (definitions_errors defs [] []) ≡ true) (G : Below) (below : BelowTyped defs G)
    (functions : Functions) (layer : Layer) (same : functions ≡ functions_of defs) (b : Block) (vars args : List Declared)
    (typed : BlockTyped defs (layer_on G functions layer) Impl (signatures_on G) b vars args) where
  abbrev L : ClosedLayer
  L = layer_on G functions layer

  pub whole_named : RunNamed kinds defs G L b vars args
  whole_named inputs v first x nodes begins h =
      let sv = sym_bind vars x.vars in
      let sa = sym_bind args x.args in
      let out = whole_run kinds defs G L b vars args first x nodes in
      let bits = picked_by inputs first in
      let M = machine_on kinds (terms kinds defs) G first in
      let machine = handle_on G bits in
      let mean = meant kinds defs sound inputs v functions same in
      let laws = machine_means kinds defs sound inputs v G below first in
      let g = whole_grows inputs v kinds (names kinds defs) functions (terms kinds defs) (growing kinds defs) mean (low_on kinds defs G) Impl (signatures_on G)
      M machine laws b sv sa x.low nodes in
      let s = begun kinds defs sound G below functions layer same b vars args typed inputs v x nodes begins (fits_fewer inputs v nodes out.nodes g h) in
      let w = whole_gives inputs v kinds (names kinds defs) functions (terms kinds defs) (growing kinds defs) mean (low_on kinds defs G) Impl (signatures_on G)
      M machine laws b typed.shape typed.scope sv sa x.low nodes s.inside typed.without_errors typed.kept s.shaped begins.low_are h in
      let memory = memory_worth kinds defs G L b vars args v x in
      let given = given_worth kinds defs G L b vars args v x in
      let base = below_worth kinds defs G L b vars args v x in
      let direct = direct_run (eval_with functions) M.space machine b (worths v (sv ++ sa)) (based base) in
      let r = run_by_place G L b memory given base bits in
      let same_run : direct ≡ r =
      ap (λ (e : Env). direct_run (eval_with functions) M.space machine b e (based base)) s.joined
      ∙ ap (λ (space : Name → ℕ). direct_run (eval_with functions) space machine b (memory ++ given) (based base)) (space_is kinds defs G first) in
      let count : length sv ≡ length memory =
      sym (length-map sv (λ (b : Name × SymValue). (b.0, worth v b.1))) ∙ ap length (bound_worth inputs v kinds vars x.vars) in
      let follows = follows_front memory given direct.env (subst (λ (e : Env). Follows e direct.env) s.joined w.follows) in
      let vars_are : worths v out.value.vars ≡ take (length memory) direct.env = w.vars ∙ ap (λ n. take n direct.env) count in
      let fit : env_fits vars (worths v out.value.vars) ≡ true =
      subst (λ (e : Env). env_fits vars e ≡ true) (sym vars_are) (fits_after vars memory direct.env follows s.memory_fits) in
      let again = named_again inputs v kinds vars out.value.vars out.nodes h w.vars_shaped fit in
      let a = w.answer in
      let answer_is : answer_worth v out.value.answer ≡ answer_by_place G L b memory given base bits =
      a.is ∙ ap (λ (z : Reached (State Env)). answer_of (eval_with functions) b.answer z.env) same_run in
      let memory_is : low_worth v vars (values_in out.value.vars) ≡ take (length memory) r.env =
      again.is ∙ vars_are ∙ ap (λ (z : Reached (State Env)). take (length memory) z.env) same_run in
      let to_is : based (low_worth v (lows_on G) out.value.to) ≡ r.to = w.to ∙ ap (λ (z : Reached (State Env)). z.to) same_run in
      let state_is : state_after kinds defs G L b vars args v x out.value ≡ state_by_place G L b memory given base bits =
      ap (λ (e : Env). on e (based (low_worth v (lows_on G) out.value.to))) memory_is
      ∙ ap (λ (z : State Env). on (take (length memory) r.env) z) to_is in
      let run = whole_runs defs G L b memory given base s.stands bits in
      record {
        answer_is = answer_is;
        state_is = state_is;
        run = subst (λ (y : Answer). BlockRuns L (machine_below G) b given (on memory (based base)) (run_picks G L b memory given base bits) y
            (state_after kinds defs G L b vars args v x out.value)) (sym answer_is)
            (subst (λ (z : State Env). BlockRuns L (machine_below G) b given (on memory (based base)) (run_picks G L b memory given base bits)
            (answer_by_place G L b memory given base bits) z) (sym state_is) run);
      }
