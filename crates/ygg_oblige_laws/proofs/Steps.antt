-- The test of the specification's step over terms, over all lists of picks, is worth the obligation's conclusion.
use Rattle.std.proofs.Common.{◌≡◌, ◌⊎◌, inl, inr, Bool, true, false, List, [], length, refl, sym, ap, subst, arith}
use Rattle.ygg_syntax.specs.declared.grammar.BlockKind.TheVariants.{Spec}
use Rattle.ygg_syntax.specs.declared.tree.Def.{Def}
use Rattle.ygg_sym_laws.specs.ygg_meaning.Environments.{bind}
use Rattle.ygg_sym_laws.specs.ygg_meaning.Layer.{ClosedLayer}
use Rattle.ygg_sym_laws.specs.ygg_meaning.Machine.{Picks}
use Rattle.ygg_sym_laws.specs.ygg_meaning.Obligations.{Schedule, Obligation, Init, CallOf, CutOf, TickOf, CutTickOf, Idle, Again, NoPicksPass}
use Rattle.ygg_sym_laws.specs.ygg_meaning.Refines.{Below}
use Rattle.ygg_sym_laws.specs.ygg_meaning.Violates.{End, related_after, same_answer, most, spec_after, passes}
use Rattle.ygg_sym_laws.proofs.of_ygg_meaning.Search.{Passes, find_picks}
use Rattle.ygg_sym_laws.specs.ygg_meaning_laws.Kinds.{keeps}
use Rattle.ygg_sym_laws.specs.ygg_rules.declared.rule.RuleKind.{RuleKind}
use Rattle.ygg_sym_laws.specs.ygg_bank.Nodes.{Extends}
use Rattle.ygg_sym_laws.specs.ygg_bank.Values.{Inputs, Values}
use Rattle.ygg_sym_laws.specs.ygg_bank.declared.node.Node.{Node}
use Rattle.ygg_sym_laws.specs.ygg_shape_cells.declared.terms.SymValue.{SymValue}
use Rattle.ygg_sym_laws.specs.ygg_meaning_laws.Places.{outcome_by_place}
use Rattle.ygg_sym_laws.specs.ygg_meaning_laws.SpecPlaces.{crash_by_place, ChoosesAlone}
use Rattle.ygg_sym_laws.specs.ygg_sym_runs.ExpressionMeaning.{Grows, Gives}
use Rattle.ygg_sym_laws.specs.Meaning.{answer_worth}
use Rattle.ygg_sym_laws.proofs.Lows.{low_wider}
use Rattle.ygg_sym_laws.specs.Specs.{given_pick}
use Rattle.ygg_sym_laws.specs.SpecCuts.{crash_made}
use Rattle.ygg_sym_laws.specs.Below.{start_made}
use Rattle.ygg_sym_laws.specs.Means.{terms_of, values_in}
use Rattle.ygg_oblige_laws.specs.LayerTerms.{LayerTyped}
use Rattle.ygg_oblige_laws.specs.Numbers.{arguments_of}
use Rattle.ygg_oblige_laws.specs.Outcomes.{fall_with_picks}
use Rattle.ygg_oblige_laws.specs.Terms.{Finish, passes_made, some_passes}
use Rattle.ygg_oblige_laws.proofs.AnyPicks.{any_keeps, any_gives}
use Rattle.ygg_oblige_laws.proofs.Outcomes.{passes_keep, answer_wider, crash_kept, passes_from, left_out, same_out, crash_out, fall_out, call_out, start_out}
use Rattle.ygg_oblige_laws.proofs.Placed.{fall_placed, spec_placed, placed_fails}
use Rattle.ygg_oblige_laws.proofs.Truth.{adds, one_gives}
use Rattle.ygg_oblige_laws.proofs.Truths.{defs_keep}
use Rattle.ygg_oblige_laws.specs.States.{AddsNoInputs}
use Rattle.ygg_oblige_laws.specs.Steps.{HasStep, variables_of, ObligationTyped, StepShaped, StepIs, end_worth, PassesSo, StepsMeanSo}
use Rattle.ygg_oblige_laws.specs.Worth.{IsTruth}

-- among more nodes
step_wider : (v : Values) (L : ClosedLayer) (o : Obligation) (vars args : List SymValue) (end : Finish) (old new : List Node) → Extends old new →
    StepShaped v L o old vars args end → StepShaped v L o new vars args end
step_wider v L o vars args end old new g s = record {
  vars_are = low_wider old new (variables_of L o) vars g s.vars_are;
  args_are = low_wider old new (arguments_of o) args g s.args_are;
  answer_shaped = answer_wider old new end.answer g s.answer_shaped;
  answer_kept = s.answer_kept;
  memory_are = low_wider old new L.layer.memory (values_in end.vars) g s.memory_are;
  low_are = low_wider old new L.low end.to g s.low_are;
}

module _ (kinds : List RuleKind) (defs : List Def) (G : Below) (L : ClosedLayer) (typed : LayerTyped defs G L) where
  steps_add : (o : Obligation) (vars args : List SymValue) (end : Finish) → AddsNoInputs (some_passes kinds (terms_of kinds defs) L o vars args end)
  steps_add o vars args end =
      adds kinds (some_passes kinds (terms_of kinds defs) L o vars args end) (λ P s.
      any_keeps kinds P s (most L o) [] (passes_made kinds (terms_of kinds defs) L o vars args end)
      (λ picks. passes_keep kinds P s (terms_of kinds defs) (defs_keep kinds defs P s) L o vars args end picks))

  pass_grows : (o : Obligation) (vars args : List SymValue) (end : Finish) (picks : Picks) →
      Grows (passes_made kinds (terms_of kinds defs) L o vars args end picks)
  pass_grows o vars args end picks =
      let a = adds kinds (passes_made kinds (terms_of kinds defs) L o vars args end picks)
      (λ P s. passes_keep kinds P s (terms_of kinds defs) (defs_keep kinds defs P s) L o vars args end picks) in
      a.grows

  crash_keeps_kind : keeps Spec L.layer.crash ≡ true
  crash_keeps_kind = let own = typed.own in let c = own.crash in c.block.kept

  -- the blocks of the specification's step make no calls
  chooses_alone : (o : Obligation) → ObligationTyped defs G L o → ChoosesAlone L o
  chooses_alone Init t = crash_keeps_kind
  chooses_alone (CallOf o) t = let s = t.spec in let b = s.spec in b.block.kept
  chooses_alone (CutOf o) t =
      let s = t.spec in
      let b = s.spec in
      (b.block.kept, crash_kept o.on_crash (λ q e. let c = s.on_crash q e in c.block.kept), crash_keeps_kind)
  chooses_alone (TickOf x) t = crash_keeps_kind
  chooses_alone (CutTickOf x) t = crash_keeps_kind
  chooses_alone Idle t = crash_keeps_kind
  chooses_alone Again t = crash_keeps_kind

  module _ (inputs : Inputs) (v : Values) (vars args : List SymValue) (end : Finish) (x : Schedule) where
    abbrev to : End
    to = end_worth v L end true

    -- the test with one list of picks is worth the conclusion with these picks by place
    step_gives : (o : Obligation) (picks : Picks) (nodes : List Node) → HasStep o → ObligationTyped defs G L o → StepIs v L o vars args x →
        length picks ≡ most L o → StepShaped v L o nodes vars args end →
        Gives inputs v (passes_made kinds (terms_of kinds defs) L o vars args end picks) nodes (IsTruth v (passes L o to (spec_placed L o x picks)))
    step_gives Init picks nodes here t is l s h =
        let starts = let own = typed.own in let a = own.answers in a.starts in
        let started = starts.starts in
        let k = started.1 in
        let p = passes_from kinds defs G L typed inputs v Init vars args end picks k.vars true nodes s.memory_are s.low_are
        (left_out kinds defs G L typed inputs v Init end k.vars (start_made kinds (terms_of kinds defs) L) nodes (λ ns. one_gives inputs v kinds ns)
        (start_out kinds defs G L typed inputs v starts.state k nodes)) h in
        let out = passes_made kinds (terms_of kinds defs) L Init vars args end picks nodes in
        subst (λ c. IsTruth v c out.nodes out.value) (ap (related_after L to.to) (sym k.gives)) p
    step_gives (CallOf o) picks nodes here t is l s h =
        passes_from kinds defs G L typed inputs v (CallOf o) vars args end picks
        (outcome_by_place false L o.spec x.state (bind o.arguments x.args) picks).vars
        (same_answer (answer_worth v end.answer) (outcome_by_place false L o.spec x.state (bind o.arguments x.args) picks).answer) nodes
        s.memory_are s.low_are
        (call_out kinds defs G L typed inputs v o t end picks vars args x.state (bind o.arguments x.args) nodes is.0 is.1 s.vars_are s.args_are
        s.answer_shaped s.answer_kept) h
    step_gives (CutOf o) picks nodes here t is l s h =
        passes_from kinds defs G L typed inputs v (CutOf o) vars args end picks (fall_placed L o o.on_crash x.state x.args picks).vars true nodes
        s.memory_are s.low_are
        (left_out kinds defs G L typed inputs v (CutOf o) end (fall_placed L o o.on_crash x.state x.args picks).vars
        (fall_with_picks kinds (terms_of kinds defs) L o o.on_crash vars args picks) nodes (λ ns. one_gives inputs v kinds ns)
        (fall_out kinds defs G L typed inputs v o t o.on_crash refl picks l vars args x.state x.args nodes is.0 is.1 s.vars_are s.args_are)) h
    step_gives (TickOf b) picks nodes here t is l s h =
        passes_from kinds defs G L typed inputs v (TickOf b) vars args end picks x.state true nodes s.memory_are s.low_are
        (λ f. same_out kinds defs G L typed inputs v (TickOf b) end x.state vars nodes (λ ns. one_gives inputs v kinds ns) is s.vars_are) h
    step_gives (CutTickOf b) picks nodes here t is l s h =
        passes_from kinds defs G L typed inputs v (CutTickOf b) vars args end picks (crash_by_place false L x.state picks).vars true nodes
        s.memory_are s.low_are
        (left_out kinds defs G L typed inputs v (CutTickOf b) end (crash_by_place false L x.state picks).vars
        (crash_made kinds (terms_of kinds defs) L (given_pick kinds picks) vars) nodes (λ ns. one_gives inputs v kinds ns)
        (crash_out kinds defs G L typed inputs v picks vars x.state nodes is s.vars_are)) h
    step_gives Idle picks nodes here t is l s h =
        passes_from kinds defs G L typed inputs v Idle vars args end picks (crash_by_place false L x.state picks).vars true nodes
        s.memory_are s.low_are
        (left_out kinds defs G L typed inputs v Idle end (crash_by_place false L x.state picks).vars
        (crash_made kinds (terms_of kinds defs) L (given_pick kinds picks) vars) nodes (λ ns. one_gives inputs v kinds ns)
        (crash_out kinds defs G L typed inputs v picks vars x.state nodes is s.vars_are)) h
    step_gives Again picks nodes here t is l s h = absurd here

    steps_give : (o : Obligation) (nodes : List Node) → HasStep o → ObligationTyped defs G L o → StepShaped v L o nodes vars args end →
        StepIs v L o vars args x →
        Gives inputs v (some_passes kinds (terms_of kinds defs) L o vars args end) nodes (PassesSo v L o x to)
    steps_give o nodes here t s is h =
        let front : Picks → Bool = λ picks. passes L o to (spec_after L o x picks) in
        let place : Picks → Bool = λ picks. passes L o to (spec_placed L o x picks) in
        let alike = placed_fails L o x to (chooses_alone o t) in
        let a = any_gives inputs v kinds (passes_made kinds (terms_of kinds defs) L o vars args end) place (λ ns. StepShaped v L o ns vars args end)
        (λ old new g p. step_wider v L o vars args end old new g p) (λ picks. pass_grows o vars args end picks) (most L o)
        (λ picks ns l p. step_gives o picks ns here t is l p) (most L o) [] (omega arith) nodes s h in
        record {
          wide = a.wide;
          some = λ e. found front place (alike.0) (a.some e) (find_picks (most L o) front);
          none = λ e. alike.1 (a.none e);
        }
      where
        found : (front place : Picks → Bool) → (NoPicksPass (most L o) front → NoPicksPass (most L o) place) → Passes (most L o) place →
            Passes (most L o) front ⊎ NoPicksPass (most L o) front → (picks : Picks) × (length picks ≡ most L o) × (front picks ≡ true)
        found front place f p (inl q) = (q.picks, q.count, q.yes)
        found front place f p (inr none) = let y = p.yes in let n = f none p.picks p.count in absurd (cc)

pub steps_mean : StepsMeanSo
steps_mean kinds defs G L typed = record {
  passes = λ inputs v o vars args end x nodes here t s is h. steps_give kinds defs G L typed inputs v vars args end x o nodes here t s is h;
  adds = λ o vars args end. steps_add kinds defs G L typed o vars args end;
}
