-- What whole runs over terms of a block are worth.
use Rattle.std.proofs.Common.{◌≡◌, ℕ, Bool, true, false, List, Option, None, sym, ap, ◌∙◌, subst}
use Rattle.ygg_value.specs.Words.{word}
use Rattle.ygg_syntax.specs.declared.grammar.BlockKind.TheVariants.{Impl}
use Rattle.ygg_syntax.specs.declared.tree.Block.{Block}
use Rattle.ygg_syntax.specs.declared.tree.Declared.{Declared}
use Rattle.ygg_syntax.specs.declared.tree.Def.{Def}
use Rattle.ygg_meaning.specs.Environments.{Env}
use Rattle.ygg_meaning.specs.Layer.{ClosedLayer}
use Rattle.ygg_meaning.specs.Machine.{Picks, State, on, based}
use Rattle.ygg_meaning.specs.Progress.{Answer}
use Rattle.ygg_meaning.specs.Refines.{Below}
use Rattle.ygg_rules.specs.declared.rule.RuleKind.{RuleKind}
use Rattle.ygg_bank.proofs.Made.{made_grows}
use Rattle.ygg_bank.proofs.Meaning.{fits_fewer}
use Rattle.ygg_bank.specs.Makes.{Out}
use Rattle.ygg_bank.specs.Making.{made}
use Rattle.ygg_bank.specs.Nodes.{Extends}
use Rattle.ygg_bank.specs.Values.{Inputs, Values, Fits}
use Rattle.ygg_bank.specs.declared.node.Id.{Id}
use Rattle.ygg_bank.specs.declared.node.Node.{Node}
use Rattle.ygg_bank.specs.declared.node.Node.TheVariants.{Const}
use Rattle.ygg_shape_cells.specs.declared.terms.SymValue.{SymValue}
use Rattle.ygg_sym_runs.specs.Meaning.{answer_worth, is_set}
use Rattle.ygg_sym_runs.specs.Lows.{low_worth}
use Rattle.ygg_sym_runs.proofs.Chosen.{block_end}
use Rattle.ygg_sym_runs.proofs.Lows.{low_wider}
use Rattle.ygg_sym_laws.specs.Below.{signatures_on}
use Rattle.ygg_sym_laws.specs.Means.{Begins, Values3}
use Rattle.ygg_sym_laws.specs.Typed.{BlockTyped, SpecBlockTyped}
use Rattle.ygg_sym_laws.specs.SymLaws.{OverTyped}
use Rattle.ygg_sym_laws.proofs.FrontAnyLayer.{runs_are_named}
use Rattle.ygg_sym_bodies.specs.Runs.{Ending, IsMade, pick_made, places_of, whole_body}
use Rattle.ygg_sym_bodies.specs.Sites.{IsShaped, Site}
use Rattle.ygg_sym_bodies.specs.Worths.{
  AreWorth,
  Runs,
  RunsAsAny,
  RunsAsNamed,
  SameBits,
  args_worth,
  below_worth,
  bits_named,
  run_takes,
  vars_worth,
}
use Rattle.ygg_sym_bodies.specs.declared.state.SymRun.{SymRun}
use Rattle.ygg_sym_bodies.specs.declared.state.SymState.{SymState}
use Rattle.ygg_sym_bodies.proofs.Laws.{one_is_set, picks_mean, whole_means}
use Rattle.ygg_sym_bodies.proofs.Chosen as choosing

-- how a run ends
abbrev pub ending_of : SymRun → Ending
ending_of r = record { vars = (r.after).vars; low = (r.after).low; answer = r.answer; reached = r.reached }

abbrev ending : List SymValue → List SymValue → Option SymValue → Id → Ending
ending vars low answer reached = record { vars = vars; low = low; answer = answer; reached = reached }

pub ending_is : (out : Out Ending) (from : SymState) (r : SymRun) (nodes : List Node) → IsMade out from r nodes → ending_of r ≡ out.value
ending_is out from r nodes m =
    ap (λ x. ending x (r.after).low r.answer r.reached) m.vars ∙ ap (λ x. ending out.value.vars x r.answer r.reached) m.low
    ∙ ap (λ x. ending out.value.vars out.value.low x r.reached) m.answer
    ∙ ap (λ x. ending out.value.vars out.value.low out.value.answer x) m.reached

-- terms that stand among nodes stand among more
pub shaped_wider : (s : Site) (old new : List Node) (st : SymState) → Extends old new → IsShaped s old st → IsShaped s new st
shaped_wider s old new st g h = record {
  vars = low_wider old new s.vars st.vars g h.vars;
  args = low_wider old new s.args st.args g h.args;
  low = low_wider old new (s.layer).low st.low g h.low;
}

module _ (s : Site) (from : SymState) (given : Option Picks) (first : ℕ) where
  -- an ending that is worth the run that the environment names
  pub record EndsNamed (inputs : Inputs) (v : Values) (e : Ending) : Type 0 where
    pub run : Runs s (vars_worth v s from) (args_worth v s from) (below_worth v s from) s.calls
        (run_takes s (vars_worth v s from) (args_worth v s from) (below_worth v s from) s.calls (bits_named inputs given first))
        (answer_worth v e.answer) (on (low_worth v s.vars e.vars) (based (low_worth v (s.layer).low e.low)))
    pub reached : is_set v e.reached ≡ true

  -- one that is worth this run
  pub record EndsIn (v : Values) (answer : Answer) (to : State Env) (e : Ending) : Type 0 where
    pub answer_is : answer_worth v e.answer ≡ answer
    pub to_is : on (low_worth v s.vars e.vars) (based (low_worth v (s.layer).low e.low)) ≡ to

  module _ (kinds : List RuleKind) (old : List Node) where
    abbrev pub out : Out Ending
    out = whole_body kinds s from given first old

    abbrev pub AllNamed : Type 0
    AllNamed = (inputs : Inputs) (v : Values) → Fits inputs v out.nodes → EndsNamed inputs v out.value

    abbrev pub AllAny : Type 0
    AllAny =
        (vars args low : Env) (picks : Picks) (answer : Answer) (to : State Env) → Runs s vars args low s.calls picks answer to →
        (bits : ℕ → Bool) × ((inputs : Inputs) (v : Values) → Fits inputs v out.nodes → AreWorth v s from vars args low →
        SameBits (places_of s s.calls) (bits_named inputs given first) bits → EndsIn v answer to out.value)

module _ (s : Site) (from : SymState) (given : Option Picks) (kinds : List RuleKind) (old new : List Node) (r : SymRun)
    (m : IsMade (whole_body kinds s from given r.inputs.picks old) from r new) where
  abbrev made_by : Out Ending
  made_by = whole_body kinds s from given r.inputs.picks old

  pub runs_named : AllNamed s from given r.inputs.picks kinds old → RunsAsNamed s from given r new
  runs_named all inputs v h =
      let n = subst (EndsNamed s from given r.inputs.picks inputs v) (sym (ending_is made_by from r new m))
      (all inputs v (subst (Fits inputs v) m.nodes_are h)) in
      record { run = n.run; args_stay = ap (λ x. low_worth v s.args x) m.args; reached = n.reached }

  pub runs_any : AllAny s from given r.inputs.picks kinds old → RunsAsAny s from given r new
  runs_any all vars args low picks answer to run =
      let a = all vars args low picks answer to run in (
        a.0,
        λ inputs v h worth same.
            let e = subst (EndsIn s from given r.inputs.picks v answer to) (sym (ending_is made_by from r new m))
            (a.1 inputs v (subst (Fits inputs v) m.nodes_are h) worth same) in
            (e.answer_is, e.to_is),
      )

-- a block that may call what is below
module _ (kinds : List RuleKind) (defs : List Def) (G : Below) (L : ClosedLayer) (b : Block) (args : List Declared) (o : OverTyped defs G L)
    (t : BlockTyped defs L Impl (signatures_on G) b L.layer.memory args) where
  abbrev pub called_on : Site
  called_on = record { defs = defs; below = G; layer = L; block = b; vars = L.layer.memory; args = args; calls = true }

  module _ (from : SymState) (first : ℕ) (old : List Node) (shaped : IsShaped called_on old from) where
    abbrev x : Values3
    x = record { vars = from.vars; args = from.args; low = from.low }

    abbrev first_nodes : List Node
    first_nodes = (made kinds (Const (word 1 1)) old).nodes

    begins : Begins kinds defs G L b L.layer.memory args first_nodes x
    begins =
        let w = shaped_wider called_on old first_nodes from (made_grows kinds (Const (word 1 1)) old) shaped in
        record { vars_are = w.vars; args_are = w.args; low_are = w.low }

    abbrev all : Out Ending
    all = whole_body kinds called_on from None first old

    is_one : (inputs : Inputs) (v : Values) → Fits inputs v all.nodes → is_set v all.value.reached ≡ true
    is_one inputs v h =
        let w = whole_means kinds defs G L b L.layer.memory args o t in
        one_is_set inputs v kinds old (fits_fewer inputs v first_nodes all.nodes (w.grows first x first_nodes) h)

    pub called_named : AllNamed called_on from None first kinds old
    called_named inputs v h =
        let n = runs_are_named kinds defs G L b L.layer.memory args o t inputs v first x first_nodes begins h in
        record { run = n.run; reached = is_one inputs v h }

    pub called_any : AllAny called_on from None first kinds old
    called_any vars given low picks answer to run =
        let w = whole_means kinds defs G L b L.layer.memory args o t in
        let a = w.back vars given low picks answer to run in (
          a.0,
          λ inputs v h worth same.
              let e = a.1 inputs v first x first_nodes begins h (record { vars_is = worth.vars_are; args_is = worth.args_are; low_is = worth.low_is }) same in
              record { answer_is = e.answer_is; to_is = e.to_is },
        )

-- a block that runs on no machine
module _ (kinds : List RuleKind) (defs : List Def) (G : Below) (L : ClosedLayer) (b : Block) (args : List Declared) (o : OverTyped defs G L)
    (t : SpecBlockTyped defs L b args) where
  abbrev pub chosen_on : Site
  chosen_on = record { defs = defs; below = G; layer = L; block = b; vars = L.layer.state; args = args; calls = false }

  module _ (from : SymState) (given : Option Picks) (first : ℕ) (old : List Node) (shaped : IsShaped chosen_on old from) where
    abbrev after_one : List Node
    after_one = (made kinds (Const (word 1 1)) old).nodes

    abbrev one : Id
    one = (made kinds (Const (word 1 1)) old).value

    abbrev left : Out Ending
    left = whole_body kinds chosen_on from given first old

    record Is (inputs : Inputs) (v : Values) : Type 0 where
      is : choosing.ChosenIs kinds defs G L b args o.definitions o.functions t from (pick_made kinds given first) one inputs v (bits_named inputs given first)
          (picks_mean inputs v kinds given first) left.nodes left.value
      reached : is_set v left.value.reached ≡ true

    so_is : (inputs : Inputs) (v : Values) → Fits inputs v left.nodes → Is inputs v
    so_is inputs v h =
        let pick = pick_made kinds given first in
        let bits = bits_named inputs given first in
        let picks = picks_mean inputs v kinds given first in
        let wide = shaped_wider chosen_on old after_one from (made_grows kinds (Const (word 1 1)) old) shaped in
        record {
          is = choosing.chosen_is kinds defs G L b args o.definitions o.functions t from pick one inputs v bits picks after_one wide h;
          reached = one_is_set inputs v kinds old (fits_fewer inputs v after_one left.nodes
              (choosing.chosen_grows kinds defs G L b args o.definitions o.functions t from pick one inputs v bits picks after_one) h);
        }

    pub chosen_named : AllNamed chosen_on from given first kinds old
    chosen_named inputs v h =
        let w = so_is inputs v h in
        record {
          run = choosing.named_so kinds defs G L b args o.definitions o.functions t (vars_worth v chosen_on from)
              (args_worth v chosen_on from) (below_worth v chosen_on from) (bits_named inputs given first) (answer_worth v left.value.answer)
              (low_worth v L.layer.state left.value.vars) w.is.answer w.is.vars;
          reached = w.reached;
        }

    pub chosen_any : AllAny chosen_on from given first kinds old
    chosen_any vars args' low picks answer to run =
        let a = choosing.any_so kinds defs G L b args o.definitions o.functions t vars args' low picks answer to run in (
          a.bits,
          λ inputs v h worth same.
              let w = so_is inputs v h in
              let bits = bits_named inputs given first in
              let ends = a.ends bits same in
              let state = vars_worth v chosen_on from in
              let takes = args_worth v chosen_on from in
              record {
                answer_is = w.is.answer ∙ ap (λ x. (block_end L bits b x takes).answer) worth.vars_are
                    ∙ ap (λ x. (block_end L bits b vars x).answer) worth.args_are ∙ ends.0;
                to_is = ap (λ x. on x (based (below_worth v chosen_on from))) w.is.vars
                    ∙ ap (λ x. on (block_end L bits b x takes).vars (based (below_worth v chosen_on from))) worth.vars_are
                    ∙ ap (λ x. on (block_end L bits b vars x).vars (based (below_worth v chosen_on from))) worth.args_are
                    ∙ ap (λ x. on (block_end L bits b vars args').vars (based x)) worth.low_is ∙ ends.1;
              },
        )
