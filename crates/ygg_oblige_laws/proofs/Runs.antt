-- The term of an obligation that speaks of a whole run is 0 exactly where the schedule that the environment names violates it.
use Rattle.std.proofs.Common.{◌≡◌, ◌||◌, not, ℕ, true, List, [], map, refl, ◌∙◌, subst}
use Rattle.std.specs.Prelude.{IsTrue, Option}
use Rattle.ygg_value.specs.declared.shape.Shape.{Shape}
use Rattle.ygg_syntax.specs.declared.tree.Def.{Def}
use Rattle.ygg_syntax.specs.declared.tree.Operation.{Operation}
use Rattle.ygg_syntax.specs.declared.tree.Tick.{Tick}
use Rattle.ygg_oblige_laws.specs.ygg_meaning.Layer.{ClosedLayer}
use Rattle.ygg_oblige_laws.specs.ygg_meaning.Obligations.{Schedule, Obligation, CallOf, TickOf}
use Rattle.ygg_oblige_laws.specs.ygg_meaning.Refines.{Below, machine_below}
use Rattle.ygg_oblige_laws.specs.ygg_meaning.Related.{shaped}
use Rattle.ygg_oblige_laws.specs.ygg_meaning.Shapes.{values_fit}
use Rattle.ygg_oblige_laws.specs.ygg_meaning.Violates.{End, Meets}
use Rattle.ygg_oblige_laws.specs.ygg_meaning_laws.Blocks.{is_returned}
use Rattle.ygg_oblige_laws.specs.ygg_rules.declared.rule.RuleKind.{RuleKind}
use Rattle.ygg_oblige_laws.specs.ygg_bank_proofs_Meaning.{fits_fewer}
use Rattle.ygg_oblige_laws.specs.ygg_bank_proofs_Widths.{extends_both}
use Rattle.ygg_oblige_laws.specs.ygg_bank.Makes.{Out}
use Rattle.ygg_oblige_laws.specs.ygg_bank.Nodes.{Extends}
use Rattle.ygg_oblige_laws.specs.ygg_bank.Values.{Inputs, Values, Fits}
use Rattle.ygg_oblige_laws.specs.ygg_bank.declared.node.Id.{Id}
use Rattle.ygg_oblige_laws.specs.ygg_bank.declared.node.Node.{Node}
use Rattle.ygg_oblige_laws.specs.ygg_shape_cells.Terms.{worth}
use Rattle.ygg_oblige_laws.specs.ygg_shape_cells.declared.terms.SymValue.{SymValue}
use Rattle.ygg_oblige_laws.specs.ygg_sym_runs.Meaning.{answer_worth, is_set}
use Rattle.ygg_oblige_laws.proofs.of_ygg_sym_runs.Blocks.{values_worth}
use Rattle.ygg_oblige_laws.specs.ygg_sym_runs.Laws.{picked_by}
use Rattle.ygg_oblige_laws.specs.ygg_sym_runs.Lows.{low_worth}
use Rattle.ygg_oblige_laws.specs.ygg_sym_laws.Means.{terms_of, Begins, WholeMeans}
use Rattle.ygg_sym_laws.specs.Named.{RunSo, RunNamed}
use Rattle.ygg_oblige_laws.specs.LayerTerms.{ShapesKept}
use Rattle.ygg_oblige_laws.specs.Numbers.{Numbers, numbers_of, arguments_of, block_of}
use Rattle.ygg_oblige_laws.specs.TermStates.{Starting, fresh_all}
use Rattle.ygg_oblige_laws.specs.Terms.{Finish, ran}
use Rattle.ygg_oblige_laws.specs.Inputs.{given_env}
use Rattle.ygg_oblige_laws.specs.States.{given_stand, StartsSo}
use Rattle.ygg_oblige_laws.specs.Steps.{HasStep, variables_of, ObligationTyped, AnswerKept, StepIs, PassesSo, end_worth}
use Rattle.ygg_oblige_laws.specs.Worth.{LowIs, trio_worth}
use Rattle.ygg_oblige_laws.proofs.Digits.{both_hold}
use Rattle.ygg_oblige_laws.proofs.Frame.{Frame, states, starts_so, ready_so}
use Rattle.ygg_oblige_laws.proofs.RunTerms.{run_made}
use Rattle.ygg_oblige_laws.proofs.Schedules.{reads}
use Rattle.ygg_oblige_laws.proofs.Setting.{ready_wider}
use Rattle.ygg_oblige_laws.proofs.Shows.{related_there}
use Rattle.ygg_oblige_laws.proofs.Wholes.{begun, runs_give, runs_grow, run_fit}
use Rattle.ygg_oblige_laws.specs.LayerMeans.{TickMeans}
use Rattle.ygg_oblige_laws.specs.ObligationMeans.{OperationKnown}
use Rattle.ygg_oblige_laws.specs.Parts.{PartsMean}
use Rattle.ygg_oblige_laws.specs.Schedules.{values_of, schedule_from, schedule_of}
use Rattle.ygg_oblige_laws.proofs.ValuesGiven.{saying, no_shapes, arguments_fit, schedule_same}
use Rattle.ygg_oblige_laws.proofs.Judged.{either, not_both, Judged, NamedSo, unmet_so, met_plain}

-- an obligation that speaks of a whole run
pub record RunCase (kinds : List RuleKind) (defs : List Def) (G : Below) (L : ClosedLayer) (o : Obligation) : Type 0 where
  pub shape : Option Shape
  pub whole : WholeMeans kinds defs G L (block_of L o) L.layer.memory (arguments_of o) shape
  pub has : HasStep o
  pub typed : ObligationTyped defs G L o
  pub kept : (v : Values) (end : Finish) → IsTrue (is_returned (block_of L o).answer shape (answer_worth v end.answer)) → AnswerKept v o end
  pub state : L.layer.state ≡ variables_of L o
  pub args_shapes : ShapesKept (arguments_of o)
  pub some : (v : Values) (vars args : List SymValue) → (x : Schedule) × StepIs v L o vars args x
  pub named : RunNamed kinds defs G L (block_of L o) L.layer.memory (arguments_of o)

module _ (kinds : List RuleKind) (defs : List Def) (G : Below) (L : ClosedLayer) where
  pub call_case : (o : Operation) → OperationKnown kinds defs G L o → RunNamed kinds defs G L o.implementation L.layer.memory o.arguments →
      RunCase kinds defs G L (CallOf o)
  call_case o known named = record {
    shape = known.means.shape;
    whole = known.means.whole;
    has = tt;
    typed = known.fits;
    kept = λ v end r. known.means.answers (answer_worth v end.answer) r;
    state = refl;
    args_shapes = known.fits.shapes;
    some = λ v vars args. (saying (low_worth v L.layer.state vars) (map (worth v) args), (refl, refl));
    named = named;
  }

  pub tick_case : (t : Tick) → TickMeans kinds defs G L t → RunNamed kinds defs G L t.body L.layer.memory [] → RunCase kinds defs G L (TickOf t)
  tick_case t known named = record {
    shape = known.shape;
    whole = known.whole;
    has = tt;
    typed = tt;
    kept = λ v end r. tt;
    state = refl;
    args_shapes = no_shapes;
    some = λ v vars args. (saying (low_worth v L.layer.state vars) [], refl);
    named = named;
  }

module _ (kinds : List RuleKind) (defs : List Def) (G : Below) (L : ClosedLayer) (parts : PartsMean kinds defs G L) (number : ℕ) (before : List Node)
    (start : ℕ) (nodes final : List Node) (frame : Frame kinds defs L number before start nodes final) (inputs : Inputs) (v : Values)
    (h : Fits inputs v final) where
  abbrev first : Out Starting
  first = states kinds defs G L parts number before start nodes final frame

  abbrev S : Starting
  S = first.value

  module _ (o : Obligation) where
    abbrev n : Numbers
    n = numbers_of G L o start

    abbrev args : Out (List SymValue)
    args = fresh_all kinds start (arguments_of o) nodes

    abbrev out : Out Id
    out = run_made kinds defs G L o start S nodes

    abbrev end : Finish
    end = (ran kinds (terms_of kinds defs) L G n.run (block_of L o) S.from.memory (arguments_of o) args.value S.from.low args.nodes).value

    -- the run with the picks that the inputs name, and the term: 0 where the relation holds and no step of the specification passes
    pub record Ran : Type 0 where
      pub starts : StartsSo v L (given_stand inputs number L) first.nodes S
      pub fit : Fits inputs v args.nodes
      pub given : LowIs v (arguments_of o) (given_env inputs start (arguments_of o)) args.nodes args.value
      pub run : RunSo kinds defs G L (block_of L o) L.layer.memory (arguments_of o) v (begun S args.value) (picked_by inputs n.run) end
      pub some : Id
      pub is : is_set v out.value ≡ (not (is_set v S.related) || is_set v some)
      pub passing : List Node
      pub passes : (x : Schedule) → StepIs v L o S.from.vars args.value x → PassesSo v L o x (end_worth v L end true) passing some

    pub ran_so : RunCase kinds defs G L o → Extends out.nodes final → Ran
    ran_so k g =
        let ga = parts.fresh.grows kinds start (arguments_of o) nodes in
        let go = runs_grow kinds defs G L parts inputs v o (block_of L o) k.shape k.whole k.has k.typed (k.kept v) k.state n S args.value args.nodes in
        let gf = extends_both nodes args.nodes final ga (extends_both args.nodes out.nodes final go g) in
        let ho = fits_fewer inputs v out.nodes final g h in
        let ha = fits_fewer inputs v args.nodes out.nodes go ho in
        let given = parts.fresh.gives inputs v kinds start (arguments_of o) nodes k.args_shapes frame.below ha in
        let ready = ready_wider L S nodes args.nodes ga (ready_so kinds defs G L parts number before start nodes final frame inputs v gf h) in
        let st = k.some v S.from.vars args.value in
        let r = runs_give kinds defs G L parts inputs v o (block_of L o) k.shape k.whole k.has k.typed (k.kept v) k.state n S args.value args.nodes ready
        given.shaped st.0 st.1 ho in
        let begins : Begins kinds defs G L (block_of L o) L.layer.memory (arguments_of o) args.nodes (begun S args.value) =
        record { vars_are = ready.from.memory; args_are = given.shaped; low_are = ready.from.low } in
        let ran_fit = run_fit kinds defs G L parts inputs v o (block_of L o) k.shape k.whole k.has k.typed (k.kept v) k.state n S args.value args.nodes ho in
        record {
          starts = starts_so kinds defs G L parts number before start nodes final frame inputs v gf h;
          fit = ha;
          given = given;
          run = k.named inputs v n.run (begun S args.value) args.nodes begins ran_fit;
          some = r.some;
          is = r.is;
          passing = r.passing;
          passes = r.passes;
        }

    -- the schedule that the environment names
    abbrev named : Schedule
    named = schedule_of G L inputs number o start

    -- the schedule with what the terms are worth
    abbrev worth_schedule : Schedule
    worth_schedule = schedule_from G L inputs n o (trio_worth v L S.from) (map (worth v) args.value)

    -- where the relation holds, these are the same
    judged_by : Ran → ((end : End) → Meets L (machine_below G) o named end → is_set v S.related ≡ true) →
        (is_set v S.related ≡ true → Judged L G o worth_schedule (is_set v out.value)) → Judged L G o named (is_set v out.value)
    judged_by r related there =
        either (is_set v S.related)
        (λ e. subst (λ z. Judged L G o z (is_set v out.value))
        (schedule_same inputs v o start args.value args.nodes r.fit r.given G L number S (r.starts.from e))
        (there e))
        (λ e. unmet_so L G o named (is_set v out.value) (is_set v S.related) (is_set v r.some) r.is e
        (λ end m. not_both (is_set v S.related) (related end m) e))

  pub call_judged : (o : Operation) → Ran (CallOf o) → NamedSo L G (CallOf o) (schedule_of G L inputs number (CallOf o) start) (is_set v (out (CallOf o)).value)
  call_judged o r =
      let xs = (args (CallOf o)).value in
      let x = worth_schedule (CallOf o) in
      let stand = given_stand inputs number L in
      let ended = end_worth v L (end (CallOf o)) true in
      let arguments = arguments_fit inputs v (CallOf o) start xs (args (CallOf o)).nodes r.fit r.given in
      record {
        shaped = both_hold (shaped L stand.vars stand.memory stand.low) (values_fit o.arguments (values_of (given_env inputs start o.arguments)))
            r.starts.fits arguments;
        judged = judged_by (CallOf o) r (λ end m. r.starts.related.relates ∙ m.hypotheses) (λ e.
            let s = related_there v L stand first.nodes S r.starts e in
            met_plain L G (CallOf o) x (is_set v (out (CallOf o)).value) v ended
            (record {
              shapes = both_hold (shaped L x.state x.memory x.low) (values_fit o.arguments x.args) s.shapes
                  (values_worth inputs v (args (CallOf o)).nodes o.arguments xs r.fit r.given.shaped);
              hypotheses = s.holds;
              reached = record { taken = x.picks; run = r.run.run; read = reads x.picks };
            }) (is_set v S.related) e r.passing r.some r.is (r.passes x (refl, refl)));
      }

  pub tick_judged : (t : Tick) → Ran (TickOf t) → NamedSo L G (TickOf t) (schedule_of G L inputs number (TickOf t) start) (is_set v (out (TickOf t)).value)
  tick_judged t r =
      let x = worth_schedule (TickOf t) in
      let stand = given_stand inputs number L in
      let ended = end_worth v L (end (TickOf t)) true in
      record {
        shaped = r.starts.fits;
        judged = judged_by (TickOf t) r (λ end m. r.starts.related.relates ∙ m.hypotheses) (λ e.
            let s = related_there v L stand first.nodes S r.starts e in
            met_plain L G (TickOf t) x (is_set v (out (TickOf t)).value) v ended
            (record {
              shapes = s.shapes;
              hypotheses = s.holds;
              reached = record { taken = x.picks; run = r.run.run; read = reads x.picks };
            }) (is_set v S.related) e r.passing r.some r.is (r.passes x refl));
      }
