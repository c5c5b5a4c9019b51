-- What runs over terms are worth in an environment: the runs with the picks that it names by place, and so runs with just these picks, from the front.
use Rattle.std.specs.Prelude.{◌≡◌, ℕ, Bool, List, is_some, Some}
use Rattle.ygg_syntax.specs.declared.tree.Block.{Block}
use Rattle.ygg_syntax.specs.declared.tree.Declared.{Declared}
use Rattle.ygg_syntax.specs.declared.tree.Def.{Def}
use Rattle.ygg_sym_laws.specs.ygg_meaning.Environments.{Env}
use Rattle.ygg_sym_laws.specs.ygg_meaning.Layer.{ClosedLayer, BlockRuns}
use Rattle.ygg_sym_laws.specs.ygg_meaning.Machine.{State, on, based}
use Rattle.ygg_sym_laws.specs.ygg_meaning.Obligations.{Halt}
use Rattle.ygg_sym_laws.specs.ygg_meaning.Refines.{Below, machine_below}
use Rattle.ygg_sym_laws.specs.ygg_rules.declared.rule.RuleKind.{RuleKind}
use Rattle.ygg_sym_laws.specs.ygg_bank.Values.{Inputs, Values, Fits}
use Rattle.ygg_sym_laws.specs.ygg_bank.declared.node.Node.{Node}
use Rattle.ygg_sym_laws.specs.ygg_shape_cells.declared.terms.SymValue.{SymValue}
use Rattle.ygg_sym_laws.specs.ygg_sym_runs.Meaning.{answer_worth, is_set}
use Rattle.ygg_sym_laws.specs.ygg_sym_runs.Laws.{picked_by}
use Rattle.ygg_sym_laws.specs.ygg_sym_runs.Lows.{LowShaped, low_worth}
use Rattle.ygg_sym_laws.specs.ygg_sym_runs.StopTerms.{SymFallen}
use Rattle.ygg_sym_laws.specs.ygg_sym_runs.Wholes.{SymFinish}
use Rattle.ygg_sym_laws.specs.Below.{lost_made, lows_at_start}
use Rattle.ygg_sym_laws.specs.Means.{values_in, terms_of, Values3, Begins, whole_run, cut_run}
use Rattle.ygg_sym_laws.specs.Fronts.{
  lose_on,
  loss_picks,
  low_at_start,
  answer_by_place,
  state_by_place,
  run_picks,
  run_stop,
  left_at,
  fall_picks,
}
use Rattle.ygg_sym_laws.specs.FrontLaws.{FallsThere}

module _ (kinds : List RuleKind) (defs : List Def) (G : Below) (L : ClosedLayer) where
  -- what power loss over terms between operations is worth
  pub record LostSo (inputs : Inputs) (v : Values) (last : ℕ) (low after : List SymValue) : Type 0 where
    pub is : low_worth v L.low after ≡ lose_on G (picked_by inputs last) (based (low_worth v L.low low))
    pub loses : (machine_below G).Loses (based (low_worth v L.low low)) (loss_picks G (picked_by inputs last) (low_worth v L.low low)) (low_worth v L.low after)

  -- so it is in each environment
  abbrev pub LossNamed : Type 0
  LossNamed = (inputs : Inputs) (v : Values) (last : ℕ) (low : List SymValue) (nodes : List Node) → LowShaped nodes L.low low →
      let out = lost_made kinds (terms_of kinds defs) G last low nodes in Fits inputs v out.nodes → LostSo inputs v last low out.value

  -- the state below at its start over terms is worth this one
  abbrev pub StartNamed : Type 0
  StartNamed = (inputs : Inputs) (v : Values) (nodes : List Node) →
      let out = lows_at_start kinds (terms_of kinds defs) G nodes in Fits inputs v out.nodes → low_worth v L.low out.value ≡ low_at_start G

  module _ (b : Block) (vars args : List Declared) where
    module _ (v : Values) (x : Values3) where
      -- the memory, the arguments and the state below that a run over terms begins with
      abbrev pub memory_worth : Env
      memory_worth = low_worth v vars x.vars

      abbrev pub given_worth : Env
      given_worth = low_worth v args x.args

      abbrev pub below_worth : Env
      below_worth = low_worth v L.low x.low

      -- the layer's state that a whole run over terms ends in
      abbrev pub state_after : SymFinish (List SymValue) → State Env
      state_after out = on (low_worth v vars (values_in out.vars)) (based (low_worth v L.low out.to))

      -- what a whole run over terms is worth, where these are the picks by place
      pub record RunSo (bits : ℕ → Bool) (out : SymFinish (List SymValue)) : Type 0 where
        pub answer_is : answer_worth v out.answer ≡ answer_by_place G L b memory_worth given_worth below_worth bits
        pub state_is : state_after out ≡ state_by_place G L b memory_worth given_worth below_worth bits
        pub run : BlockRuns L (machine_below G) b given_worth (on memory_worth (based below_worth)) (run_picks G L b memory_worth given_worth below_worth bits)
            (answer_worth v out.answer) (state_after out)

      -- what a run over terms is worth that power cuts, where these are the picks by place, the stops and the picks of the failure
      pub record FallSo (bits stops last : ℕ → Bool) (out : SymFallen (List SymValue)) : Type 0 where
        pub reached : is_set v out.reached ≡ is_some (run_stop G L b memory_worth given_worth below_worth bits stops)
        pub left : (stop : Halt) → run_stop G L b memory_worth given_worth below_worth bits stops ≡ Some stop →
            left_at G L b memory_worth given_worth below_worth bits last stop ≡ Some (low_worth v L.low out.fallen)
        pub run : (stop : Halt) → run_stop G L b memory_worth given_worth below_worth bits stops ≡ Some stop →
            FallsThere G L b memory_worth given_worth below_worth stop (fall_picks G L b memory_worth given_worth below_worth bits last stop)
            (low_worth v L.low out.fallen)

    -- so it is in each environment for whole runs
    abbrev pub RunNamed : Type 0
    RunNamed = (inputs : Inputs) (v : Values) (first : ℕ) (x : Values3) (nodes : List Node) → Begins kinds defs G L b vars args nodes x →
        let out = whole_run kinds defs G L b vars args first x nodes in
        Fits inputs v out.nodes → RunSo v x (picked_by inputs first) out.value

    -- and for runs that power cuts
    abbrev pub FallNamed : Type 0
    FallNamed = (inputs : Inputs) (v : Values) (first stop last : ℕ) (x : Values3) (nodes : List Node) → Begins kinds defs G L b vars args nodes x →
        let out = cut_run kinds defs G L b vars args first stop last x nodes in
        Fits inputs v out.nodes → FallSo v x (picked_by inputs first) (picked_by inputs stop) (picked_by inputs last) out.value
