-- The term of an obligation that speaks of a run that power cuts is 0 exactly where the schedule that the environment names violates it.
use Rattle.std.proofs.Common.{◌≡◌, ◌&&◌, ◌||◌, not, ℕ, Bool, true, List, [], map, length, Option, Some, refl, sym, ap, ◌∙◌, subst}
use Rattle.std.specs.Prelude.{is_some}
use Rattle.ygg_syntax.specs.declared.tree.Def.{Def}
use Rattle.ygg_syntax.specs.declared.tree.Operation.{Operation}
use Rattle.ygg_syntax.specs.declared.tree.Tick.{Tick}
use Rattle.ygg_oblige_laws.specs.ygg_meaning.Environments.{Env, bind}
use Rattle.ygg_oblige_laws.specs.ygg_meaning.Layer.{ClosedLayer}
use Rattle.ygg_oblige_laws.specs.ygg_meaning.Obligations.{Halt, Schedule, Obligation, CutOf, CutTickOf}
use Rattle.ygg_oblige_laws.specs.ygg_meaning.Refines.{Below, machine_below}
use Rattle.ygg_oblige_laws.specs.ygg_meaning.Related.{shaped, settled}
use Rattle.ygg_oblige_laws.specs.ygg_meaning.Shapes.{values_fit}
use Rattle.ygg_oblige_laws.specs.ygg_meaning.Violates.{End, Meets, Recovers}
use Rattle.ygg_oblige_laws.specs.ygg_rules.declared.rule.RuleKind.{RuleKind}
use Rattle.ygg_oblige_laws.specs.ygg_bank_proofs_Meaning.{fits_fewer}
use Rattle.ygg_oblige_laws.specs.ygg_bank_proofs_Widths.{extends_both}
use Rattle.ygg_oblige_laws.specs.ygg_bank.Makes.{Out}
use Rattle.ygg_oblige_laws.specs.ygg_bank.Nodes.{Extends}
use Rattle.ygg_oblige_laws.specs.ygg_bank.Values.{Inputs, Values, Fits}
use Rattle.ygg_oblige_laws.specs.ygg_bank.declared.node.Id.{Id}
use Rattle.ygg_oblige_laws.specs.ygg_bank.declared.node.Node.{Node}
use Rattle.ygg_oblige_laws.specs.ygg_shape_cells.Terms.{worth}
use Rattle.ygg_oblige_laws.specs.ygg_shape_cells.declared.terms.SymValue.{SymValue}
use Rattle.ygg_oblige_laws.specs.ygg_sym_runs.Meaning.{is_set}
use Rattle.ygg_oblige_laws.proofs.of_ygg_sym_runs.Blocks.{values_worth}
use Rattle.ygg_oblige_laws.specs.ygg_sym_runs.Laws.{picked_by}
use Rattle.ygg_oblige_laws.specs.ygg_sym_runs.Lows.{low_worth}
use Rattle.ygg_oblige_laws.specs.ygg_sym_runs.StopTerms.{SymFallen}
use Rattle.ygg_oblige_laws.specs.ygg_sym_laws.Means.{terms_of, Begins, FallMeans}
use Rattle.ygg_sym_laws.specs.Fronts.{run_stop}
use Rattle.ygg_sym_laws.specs.Named.{RunNamed, FallSo, FallNamed}
use Rattle.ygg_oblige_laws.specs.LayerTerms.{ShapesKept, LayerTyped}
use Rattle.ygg_oblige_laws.specs.Numbers.{Numbers, numbers_of, arguments_of, block_of}
use Rattle.ygg_oblige_laws.specs.TermStates.{Starting, fresh_all}
use Rattle.ygg_oblige_laws.specs.Terms.{Finish, recovered}
use Rattle.ygg_oblige_laws.specs.Inputs.{given_env}
use Rattle.ygg_oblige_laws.specs.States.{given_stand, StartsSo}
use Rattle.ygg_oblige_laws.specs.Steps.{HasStep, variables_of, ObligationTyped, AnswerKept, StepIs, PassesSo, end_worth}
use Rattle.ygg_oblige_laws.specs.Worth.{LowIs, trio_worth}
use Rattle.ygg_oblige_laws.proofs.Digits.{both_hold}
use Rattle.ygg_oblige_laws.proofs.Falls.{cut_of, falls_give, falls_grow}
use Rattle.ygg_oblige_laws.proofs.FallTerms.{fall_made}
use Rattle.ygg_oblige_laws.proofs.Frame.{Frame, states, starts_so, ready_so}
use Rattle.ygg_oblige_laws.proofs.Schedules.{reads, Sided}
use Rattle.ygg_oblige_laws.proofs.Setting.{ready_wider}
use Rattle.ygg_oblige_laws.proofs.Shows.{related_there}
use Rattle.ygg_oblige_laws.proofs.Wholes.{begun}
use Rattle.ygg_oblige_laws.specs.LayerMeans.{TickMeans, LayerMeans}
use Rattle.ygg_oblige_laws.specs.ObligationMeans.{OperationKnown}
use Rattle.ygg_oblige_laws.specs.Parts.{PartsMean}
use Rattle.ygg_oblige_laws.specs.Schedules.{values_of, wake_picks, cut_from, schedule_from, schedule_of}
use Rattle.ygg_oblige_laws.proofs.ValuesGiven.{saying, no_shapes, some_stop, arguments_fit, schedule_same}
use Rattle.ygg_oblige_laws.proofs.Judged.{either, not_both, stops_there, Judged, NamedSo, unmet_so, met_sided}
use Rattle.ygg_oblige_laws.proofs.Recovering.{recovers_named}

-- an obligation that speaks of a run that power cuts
pub record FallCase (kinds : List RuleKind) (defs : List Def) (G : Below) (L : ClosedLayer) (o : Obligation) : Type 0 where
  pub falls : FallMeans kinds defs G L (block_of L o) L.layer.memory (arguments_of o)
  pub has : HasStep o
  pub typed : ObligationTyped defs G L o
  pub kept : (v : Values) (end : Finish) → AnswerKept v o end
  pub state : L.layer.state ≡ variables_of L o
  pub sided : Sided L o
  pub args_shapes : ShapesKept (arguments_of o)
  pub some : (v : Values) (vars args : List SymValue) → (x : Schedule) × StepIs v L o vars args x
  pub named : FallNamed kinds defs G L (block_of L o) L.layer.memory (arguments_of o)

module _ (kinds : List RuleKind) (defs : List Def) (G : Below) (L : ClosedLayer) where
  pub cut_case : (o : Operation) → OperationKnown kinds defs G L o → FallNamed kinds defs G L o.implementation L.layer.memory o.arguments →
      FallCase kinds defs G L (CutOf o)
  cut_case o known named = record {
    falls = known.means.falls;
    has = tt;
    typed = known.fits;
    kept = λ v end. tt;
    state = refl;
    sided = λ e out. refl;
    args_shapes = known.fits.shapes;
    some = λ v vars args. (saying (low_worth v L.layer.state vars) (map (worth v) args), (refl, refl));
    named = named;
  }

  pub tick_cut_case : (t : Tick) → TickMeans kinds defs G L t → FallNamed kinds defs G L t.body L.layer.memory [] → FallCase kinds defs G L (CutTickOf t)
  tick_cut_case t known named = record {
    falls = known.falls;
    has = tt;
    typed = tt;
    kept = λ v end. tt;
    state = refl;
    sided = λ e out. refl;
    args_shapes = no_shapes;
    some = λ v vars args. (saying (low_worth v L.layer.state vars) [], refl);
    named = named;
  }

module _ (kinds : List RuleKind) (defs : List Def) (G : Below) (L : ClosedLayer) (parts : PartsMean kinds defs G L) (typed : LayerTyped defs G L)
    (means : LayerMeans kinds defs G L) (waking : RunNamed kinds defs G L L.layer.recover L.layer.memory []) (number : ℕ) (before : List Node)
    (start : ℕ) (nodes final : List Node) (frame : Frame kinds defs L number before start nodes final) (inputs : Inputs) (v : Values)
    (h : Fits inputs v final) where
  abbrev first : Out Starting
  first = states kinds defs G L parts number before start nodes final frame

  abbrev S : Starting
  S = first.value

  module _ (o : Obligation) where
    abbrev n : Numbers
    n = numbers_of G L o start

    abbrev args : Out (List SymValue)
    args = fresh_all kinds start (arguments_of o) nodes

    abbrev out : Out Id
    out = fall_made kinds defs G L o start S nodes

    -- the run over terms, and what it begins with
    abbrev cut : Out (SymFallen (List SymValue))
    cut = cut_of kinds defs G L parts inputs v means.recover_shape n (block_of L o) S (arguments_of o) args.value args.nodes

    abbrev memory : Env
    memory = low_worth v L.layer.memory S.from.memory

    abbrev given_worth : Env
    given_worth = low_worth v (arguments_of o) args.value

    abbrev low : Env
    low = low_worth v L.low S.from.low

    abbrev fallen : Env
    fallen = low_worth v L.low cut.value.fallen

    abbrev bits : ℕ → Bool
    bits = picked_by inputs n.run

    -- The run with the picks that the inputs name, which power cuts where it comes to a stop that is set; and the term: 0 where the relation holds, there is
    -- such a stop, and after a recovery from what power leaves there the base is not settled or no step of the specification passes.
    pub record Cut : Type 0 where
      pub starts : StartsSo v L (given_stand inputs number L) first.nodes S
      pub fit : Fits inputs v args.nodes
      pub given : LowIs v (arguments_of o) (given_env inputs start (arguments_of o)) args.nodes args.value
      pub run : FallSo kinds defs G L (block_of L o) L.layer.memory (arguments_of o) v (begun S args.value) bits (picked_by inputs n.stop)
          (picked_by inputs n.last) cut.value
      pub end : Finish
      pub recovered_so : (x : Schedule) → x.wake ≡ wake_picks G L inputs n.wake (Some fallen) →
          Recovers L (machine_below G) x fallen (end_worth v L end true).to
      pub some : Id
      pub is : is_set v out.value ≡ (not (is_set v S.related && is_set v cut.value.reached) || (settled L fallen && is_set v some))
      pub passing : List Node
      pub passes : (x : Schedule) → StepIs v L o S.from.vars args.value x → PassesSo v L o x (end_worth v L end true) passing some

    pub cut_so : FallCase kinds defs G L o → Extends out.nodes final → Cut
    cut_so k g =
        let ga = parts.fresh.grows kinds start (arguments_of o) nodes in
        let go = falls_grow kinds defs G L parts inputs v means.recover_shape means.recover_whole typed.memory_shapes o k.has k.typed (k.kept v)
        (block_of L o) k.falls k.state n S args.value args.nodes in
        let gf = extends_both nodes args.nodes final ga (extends_both args.nodes out.nodes final go g) in
        let ho = fits_fewer inputs v out.nodes final g h in
        let ha = fits_fewer inputs v args.nodes out.nodes go ho in
        let given = parts.fresh.gives inputs v kinds start (arguments_of o) nodes k.args_shapes frame.below ha in
        let ready = ready_wider L S nodes args.nodes ga (ready_so kinds defs G L parts number before start nodes final frame inputs v gf h) in
        let st = k.some v S.from.vars args.value in
        let f = falls_give kinds defs G L parts inputs v means.recover_shape means.recover_whole typed.memory_shapes o k.has k.typed (k.kept v)
        (block_of L o) k.falls k.state n S args.value args.nodes ready given.shaped st.0 st.1 ho in
        let r = f.recovers in
        let begins : Begins kinds defs G L (block_of L o) L.layer.memory (arguments_of o) args.nodes (begun S args.value) =
        record { vars_are = ready.from.memory; args_are = given.shaped; low_are = ready.from.low } in
        record {
          starts = starts_so kinds defs G L parts number before start nodes final frame inputs v gf h;
          fit = ha;
          given = given;
          run = k.named inputs v n.run n.stop n.last (begun S args.value) args.nodes begins f.cut_fit;
          end = (recovered kinds (terms_of kinds defs) L G n.wake cut.value.fallen r.at).value;
          recovered_so = λ x e. recovers_named kinds defs G L parts inputs v means.recover_shape means.recover_whole typed.memory_shapes waking n.wake
              cut.value.fallen r.at r.low_shaped r.fit x e;
          some = r.some;
          is = subst (λ z. is_set v out.value ≡ (not z || (settled L fallen && is_set v r.some))) f.hypothesis_is r.is;
          passing = r.passing;
          passes = r.passes;
        }

    -- the schedule that the environment names
    abbrev named : Schedule
    named = schedule_of G L inputs number o start

    -- where the run comes to a stop that is set
    abbrev stops : Option Halt
    stops = run_stop G L (block_of L o) memory given_worth low bits (picked_by inputs n.stop)

    -- the schedule with what the terms are worth, and this stop
    abbrev stopping : Option Halt → Schedule
    stopping = cut_from G L inputs n (block_of L o) (trio_worth v L S.from) (bind (arguments_of o) (map (worth v) args.value)) (map (worth v) args.value)

    abbrev reached : Bool
    reached = is_set v cut.value.reached

    judged_by : (r : Cut) → schedule_from G L inputs n o (trio_worth v L S.from) (map (worth v) args.value) ≡ stopping stops →
        ((end : End) → Meets L (machine_below G) o named end → is_set v S.related ≡ true) →
        ((end : End) → Meets L (machine_below G) o (stopping stops) end → is_some stops ≡ true) →
        (is_set v S.related ≡ true → reached ≡ true → (stop : Halt) → stops ≡ Some stop → Judged L G o (stopping (Some stop)) (is_set v out.value)) →
        Judged L G o named (is_set v out.value)
    judged_by r same related stopped there =
        let digit = is_set v out.value in
        let conclusion = settled L fallen && is_set v r.some in
        let judged = λ (x : Schedule). Judged L G o x digit in
        let unmet = λ (x : Schedule). unmet_so L G o x digit (is_set v S.related && reached) conclusion r.is in
        either (is_set v S.related)
        (λ e. subst judged (schedule_same inputs v o start args.value args.nodes r.fit r.given G L number S (r.starts.from e))
        (subst judged (sym same) (either reached
        (λ s. let there_is = some_stop stops (sym r.run.reached ∙ s) in
        subst (λ z. judged (stopping z)) (sym there_is.is) (there e s there_is.stop there_is.is))
        (λ s. unmet (stopping stops) (ap (λ z. z && reached) e ∙ s)
        (λ end m. not_both reached (r.run.reached ∙ stopped end m) s)))))
        (λ e. unmet named (ap (λ z. z && reached) e) (λ end m. not_both (is_set v S.related) (related end m) e))

  pub cut_judged : (o : Operation) → Cut (CutOf o) → NamedSo L G (CutOf o) (schedule_of G L inputs number (CutOf o) start) (is_set v (out (CutOf o)).value)
  cut_judged o r =
      let xs = (args (CutOf o)).value in
      let stand = given_stand inputs number L in
      let ended = end_worth v L r.end (settled L (fallen (CutOf o))) in
      let arguments = arguments_fit inputs v (CutOf o) start xs (args (CutOf o)).nodes r.fit r.given in
      record {
        shaped = both_hold (shaped L stand.vars stand.memory stand.low) (values_fit o.arguments (values_of (given_env inputs start o.arguments)))
            r.starts.fits arguments;
        judged = judged_by (CutOf o) r refl (λ end m. r.starts.related.relates ∙ m.hypotheses)
            (λ end m. stops_there (stops (CutOf o)) m.reached.falls.run.run.within (length m.reached.falls.run.run.calls) m.reached.falls.stop)
            (λ e reached stop is.
            let x = stopping (CutOf o) (Some stop) in
            let falls = r.run.run stop is in
            let s = related_there v L stand first.nodes S r.starts e in
            met_sided L G (CutOf o) x (is_set v (out (CutOf o)).value) v ended
            (record {
              shapes = both_hold (shaped L x.state x.memory x.low) (values_fit o.arguments x.args) s.shapes
                  (values_worth inputs v (args (CutOf o)).nodes o.arguments xs r.fit r.given.shaped);
              hypotheses = s.holds;
              reached = record {
                fallen = fallen (CutOf o);
                falls = record { taken = x.picks; run = falls.run; stop = falls.stops; read = reads x.picks };
                recovers = r.recovered_so x (ap (wake_picks G L inputs (n (CutOf o)).wake) (r.run.left stop is));
                side = refl;
              };
            }) (is_set v S.related && is_set v (cut (CutOf o)).value.reached)
            (both_hold (is_set v S.related) (is_set v (cut (CutOf o)).value.reached) e reached) r.passing r.some (λ e out. refl) r.is
            (r.passes x (refl, refl)));
      }

  pub tick_cut_judged : (t : Tick) → Cut (CutTickOf t) →
      NamedSo L G (CutTickOf t) (schedule_of G L inputs number (CutTickOf t) start) (is_set v (out (CutTickOf t)).value)
  tick_cut_judged t r =
      let stand = given_stand inputs number L in
      let ended = end_worth v L r.end (settled L (fallen (CutTickOf t))) in
      record {
        shaped = r.starts.fits;
        judged = judged_by (CutTickOf t) r refl (λ end m. r.starts.related.relates ∙ m.hypotheses)
            (λ end m. stops_there (stops (CutTickOf t)) m.reached.falls.run.run.within (length m.reached.falls.run.run.calls) m.reached.falls.stop)
            (λ e reached stop is.
            let x = stopping (CutTickOf t) (Some stop) in
            let falls = r.run.run stop is in
            let s = related_there v L stand first.nodes S r.starts e in
            met_sided L G (CutTickOf t) x (is_set v (out (CutTickOf t)).value) v ended
            (record {
              shapes = s.shapes;
              hypotheses = s.holds;
              reached = record {
                fallen = fallen (CutTickOf t);
                falls = record { taken = x.picks; run = falls.run; stop = falls.stops; read = reads x.picks };
                recovers = r.recovered_so x (ap (wake_picks G L inputs (n (CutTickOf t)).wake) (r.run.left stop is));
                side = refl;
              };
            }) (is_set v S.related && is_set v (cut (CutTickOf t)).value.reached)
            (both_hold (is_set v S.related) (is_set v (cut (CutTickOf t)).value.reached) e reached) r.passing r.some (λ e out. refl) r.is
            (r.passes x refl));
      }
