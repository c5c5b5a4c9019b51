-- The term of another obligation is 0 exactly where the schedule that the environment names violates it: formatting, power loss between operations, and a
-- recovery after another.
use Rattle.std.proofs.Common.{◌≡◌, ◌&&◌, ℕ, true, List, [], length, Some, refl, sym, ap, ◌∙◌, subst}
use Rattle.std.specs.Prelude.{is_some}
use Rattle.ygg_syntax.specs.declared.tree.Def.{Def}
use Rattle.ygg_oblige_laws.specs.ygg_meaning_laws_proofs_Tests.{right}
use Rattle.ygg_oblige_laws.specs.ygg_meaning.Environments.{Env}
use Rattle.ygg_oblige_laws.specs.ygg_meaning.Layer.{ClosedLayer, BlockRuns}
use Rattle.ygg_oblige_laws.specs.ygg_meaning.Machine.{on, based}
use Rattle.ygg_oblige_laws.specs.ygg_meaning.Obligations.{Halt, Schedule, Init, Idle, Again}
use Rattle.ygg_oblige_laws.specs.ygg_meaning.Refines.{Below, machine_below}
use Rattle.ygg_oblige_laws.specs.ygg_meaning.Related.{settled}
use Rattle.ygg_oblige_laws.specs.ygg_meaning.Shapes.{env_fits, zeros_of}
use Rattle.ygg_oblige_laws.specs.ygg_rules.declared.rule.RuleKind.{RuleKind}
use Rattle.ygg_oblige_laws.specs.ygg_bank_proofs_Meaning.{fits_fewer}
use Rattle.ygg_oblige_laws.specs.ygg_bank_proofs_Widths.{extends_both}
use Rattle.ygg_oblige_laws.specs.ygg_bank.Makes.{Out}
use Rattle.ygg_oblige_laws.specs.ygg_bank.Nodes.{Extends}
use Rattle.ygg_oblige_laws.specs.ygg_bank.Values.{Inputs, Values, Fits}
use Rattle.ygg_oblige_laws.specs.ygg_bank.declared.node.Id.{Id}
use Rattle.ygg_oblige_laws.specs.ygg_bank.declared.node.Node.{Node}
use Rattle.ygg_oblige_laws.specs.ygg_shape_cells.declared.terms.SymValue.{SymValue}
use Rattle.ygg_oblige_laws.specs.ygg_sym_runs.Meaning.{answer_worth, is_set}
use Rattle.ygg_oblige_laws.specs.ygg_sym_runs.Laws.{picked_by}
use Rattle.ygg_oblige_laws.specs.ygg_sym_runs.Lows.{low_worth}
use Rattle.ygg_oblige_laws.specs.ygg_sym_runs_proofs_Lows.{low_wider}
use Rattle.ygg_oblige_laws.specs.ygg_sym_laws.Below.{zeros_made, lows_at_start, lost_made}
use Rattle.ygg_oblige_laws.specs.ygg_sym_laws.Means.{terms_of, Begins}
use Rattle.ygg_sym_laws.specs.Fronts.{low_at_start, run_picks, run_stop, left_at, fall_picks}
use Rattle.ygg_sym_laws.specs.FrontLaws.{FallsThere}
use Rattle.ygg_sym_laws.proofs.NamedRuns.{starts}
use Rattle.ygg_sym_laws.specs.Named.{LossNamed, StartNamed, RunNamed, FallNamed}
use Rattle.ygg_oblige_laws.specs.LayerTerms.{LayerTyped}
use Rattle.ygg_oblige_laws.specs.Numbers.{numbers_of}
use Rattle.ygg_oblige_laws.specs.TermStates.{Starting}
use Rattle.ygg_oblige_laws.specs.Terms.{ran, some_passes, recovered, recovers, recovers_again, formats}
use Rattle.ygg_oblige_laws.specs.States.{given_stand}
use Rattle.ygg_oblige_laws.specs.Steps.{end_worth}
use Rattle.ygg_oblige_laws.specs.Worth.{Stand, trio_worth}
use Rattle.ygg_oblige_laws.proofs.Again.{ends_alike, cut_again, again_gives, again_grows}
use Rattle.ygg_oblige_laws.proofs.Digits.{both_hold}
use Rattle.ygg_oblige_laws.proofs.Falls.{recovers_give, recovers_grows}
use Rattle.ygg_oblige_laws.proofs.Frame.{Frame, states, starts_so, ready_so}
use Rattle.ygg_oblige_laws.proofs.Schedules.{reads}
use Rattle.ygg_oblige_laws.proofs.Setting.{ready_wider}
use Rattle.ygg_oblige_laws.proofs.Shows.{related_there, settled_there}
use Rattle.ygg_oblige_laws.proofs.Wholes.{woken}
use Rattle.ygg_oblige_laws.specs.LayerMeans.{LayerMeans}
use Rattle.ygg_oblige_laws.specs.Parts.{PartsMean}
use Rattle.ygg_oblige_laws.specs.Schedules.{woken_picks, wake_picks, again_from, schedule_from, schedule_of}
use Rattle.ygg_oblige_laws.proofs.ValuesGiven.{saying, some_stop}
use Rattle.ygg_oblige_laws.proofs.Judged.{either, not_both, stops_there, Judged, NamedSo, unmet_so, met_plain, met_sided, met_again}
use Rattle.ygg_oblige_laws.proofs.Recovering.{recovery_named, recovers_named}

module _ (kinds : List RuleKind) (defs : List Def) (G : Below) (L : ClosedLayer) (parts : PartsMean kinds defs G L) (typed : LayerTyped defs G L)
    (means : LayerMeans kinds defs G L) (waking : RunNamed kinds defs G L L.layer.recover L.layer.memory []) (number : ℕ) (before : List Node)
    (start : ℕ) (nodes final : List Node) (frame : Frame kinds defs L number before start nodes final) (inputs : Inputs) (v : Values)
    (h : Fits inputs v final) where
  abbrev first : Out Starting
  first = states kinds defs G L parts number before start nodes final frame

  abbrev S : Starting
  S = first.value

  abbrev zeros : Env
  zeros = zeros_of L.layer.memory

  -- formatting
  abbrev init_made : Out Id
  init_made = formats kinds (terms_of kinds defs) L G (numbers_of G L Init start) nodes

  pub init_judged : StartNamed kinds defs G L → RunNamed kinds defs G L L.layer.format L.layer.memory [] → Extends init_made.nodes final →
      NamedSo L G Init (schedule_of G L inputs number Init start) (is_set v init_made.value)
  init_judged begins_named format_named g =
      let n = numbers_of G L Init start in
      let terms = terms_of kinds defs in
      let l = lows_at_start kinds terms G nodes in
      let z = zeros_made kinds L.layer.memory l.nodes in
      let r = ran kinds terms L G n.run L.layer.format z.value [] [] l.value z.nodes in
      let s = some_passes kinds terms L Init [] [] r.value r.nodes in
      let whole = means.format_whole in
      let gz = (parts.comparing.zeros_add L.layer.memory).grows l.nodes in
      let gr = whole.grows n.run (woken z.value l.value) z.nodes in
      let gs = (parts.steps.adds Init [] [] r.value).grows r.nodes in
      let hs = fits_fewer inputs v s.nodes final g h in
      let hr = fits_fewer inputs v r.nodes s.nodes gs hs in
      let hz = fits_fewer inputs v z.nodes r.nodes gr hr in
      let hl = fits_fewer inputs v l.nodes z.nodes gz hz in
      let zs = parts.comparing.zeros inputs v L.layer.memory l.nodes typed.memory_shapes hz in
      let low_are = means.start.after inputs v nodes hl in
      let begins : Begins kinds defs G L L.layer.format L.layer.memory [] z.nodes (woken z.value l.value) =
      record { vars_are = zs.shaped; args_are = tt; low_are = low_wider l.nodes z.nodes L.low l.value gz low_are } in
      let after = whole.after inputs v n.run (woken z.value l.value) z.nodes begins hr in
      let bits = picked_by inputs n.run in
      let w = format_named inputs v n.run (woken z.value l.value) z.nodes begins hr in
      let to = (end_worth v L r.value true).to in
      let answer = answer_worth v r.value.answer in
      let P = λ (m low : Env). BlockRuns L (machine_below G) L.layer.format [] (on m (based low)) (run_picks G L L.layer.format m [] low bits) answer to in
      let base = low_at_start G in
      let run : P zeros base = subst (λ e. P zeros e) (begins_named inputs v nodes hl) (subst (λ m. P m (low_worth v L.low l.value)) zs.is w.run) in
      let x = schedule_of G L inputs number Init start in
      let passes = parts.steps.passes inputs v Init [] [] r.value x r.nodes tt tt
      (record {
        vars_are = tt;
        args_are = tt;
        answer_shaped = after.answer_shaped;
        answer_kept = tt;
        memory_are = after.vars_are;
        low_are = after.low_are;
      }) tt hs in
      record {
        shaped = refl;
        judged = met_plain L G Init x (is_set v init_made.value) v (end_worth v L r.value true)
            (record {
              shapes = refl;
              hypotheses = refl;
              reached = record {
                taken = x.picks;
                run = record {
                  lower = based base;
                  first = [];
                  second = x.picks;
                  answer = answer;
                  starts = starts defs G typed.below;
                  formats = run;
                  takes = refl;
                };
                read = reads x.picks;
              };
            }) true refl s.nodes s.value refl passes;
      }

  -- power loss between operations
  abbrev lost : Out (List SymValue)
  lost = lost_made kinds (terms_of kinds defs) G (numbers_of G L Idle start).last S.from.low nodes

  abbrev idle_made : Out Id
  idle_made = recovers kinds (terms_of kinds defs) L G Idle (numbers_of G L Idle start) S.related S.from.vars [] lost.value lost.nodes

  pub idle_judged : LossNamed kinds defs G L → Extends idle_made.nodes final →
      NamedSo L G Idle (schedule_of G L inputs number Idle start) (is_set v idle_made.value)
  idle_judged loss_named g =
      let n = numbers_of G L Idle start in
      let gl = means.loss.grows n.last S.from.low nodes in
      let gt = recovers_grows kinds defs G L parts inputs v means.recover_shape means.recover_whole typed.memory_shapes Idle tt tt (λ end. tt) n S.related
      S.from.vars [] lost.value lost.nodes in
      let gf = extends_both nodes lost.nodes final gl (extends_both lost.nodes idle_made.nodes final gt g) in
      let ht = fits_fewer inputs v idle_made.nodes final g h in
      let hl = fits_fewer inputs v lost.nodes idle_made.nodes gt ht in
      let ready = ready_so kinds defs G L parts number before start nodes final frame inputs v gf h in
      let later = ready_wider L S nodes lost.nodes gl ready in
      let after = means.loss.after inputs v n.last S.from.low nodes ready.from.low hl in
      let r = recovers_give kinds defs G L parts inputs v means.recover_shape means.recover_whole typed.memory_shapes Idle tt tt (λ end. tt) n S.related
      S.from.vars [] lost.value lost.nodes later.related later.from.vars tt after (saying (low_worth v L.layer.state S.from.vars) []) refl ht in
      let l = loss_named inputs v n.last S.from.low nodes ready.from.low hl in
      let fallen = low_worth v L.low lost.value in
      let begins = starts_so kinds defs G L parts number before start nodes final frame inputs v gf h in
      let digit = is_set v idle_made.value in
      let stand = given_stand inputs number L in
      let named = schedule_of G L inputs number Idle start in
      let x = schedule_from G L inputs n Idle (trio_worth v L S.from) [] in
      let end = end_worth v L (recovered kinds (terms_of kinds defs) L G n.wake lost.value r.at).value (settled L fallen) in
      record {
        shaped = begins.fits;
        judged = either (is_set v S.related)
            (λ e.
            let s = related_there v L stand first.nodes S begins e in
            subst (λ y. Judged L G Idle y digit) (ap (λ (e : Stand). schedule_from G L inputs n Idle e []) (begins.from e))
            (met_sided L G Idle x digit v end
            (record {
              shapes = s.shapes;
              hypotheses = s.holds;
              reached = record {
                fallen = fallen;
                falls = record { taken = x.picks; run = l.loses; read = reads x.picks };
                recovers = recovers_named kinds defs G L parts inputs v means.recover_shape means.recover_whole typed.memory_shapes waking n.wake lost.value
                    r.at r.low_shaped r.fit x (ap (woken_picks G L inputs n.wake) (sym l.is));
                side = refl;
              };
            }) (is_set v S.related) e r.passing r.some (λ e out. refl) r.is (r.passes x refl)))
            (λ e. unmet_so L G Idle named digit (is_set v S.related) (settled L fallen && is_set v r.some) r.is e
            (λ end m. not_both (is_set v S.related) (begins.related.relates ∙ m.hypotheses) e));
      }

  -- a recovery after another
  abbrev again_made : Out Id
  again_made = recovers_again kinds (terms_of kinds defs) L G (numbers_of G L Again start) S nodes

  pub again_judged : FallNamed kinds defs G L L.layer.recover L.layer.memory [] → Extends again_made.nodes final →
      NamedSo L G Again (schedule_of G L inputs number Again start) (is_set v again_made.value)
  again_judged cut_named g =
      let n = numbers_of G L Again start in
      let terms = terms_of kinds defs in
      let shape = means.recover_shape in
      let whole = means.recover_whole in
      let shapes = typed.memory_shapes in
      let ga = again_grows kinds defs G L parts inputs v shape whole shapes means.recover_falls n S nodes in
      let gf = extends_both nodes again_made.nodes final ga g in
      let ready = ready_so kinds defs G L parts number before start nodes final frame inputs v gf h in
      let a = again_gives kinds defs G L parts inputs v shape whole shapes means.recover_falls n S nodes ready
      (fits_fewer inputs v again_made.nodes final g h) in
      let low = low_worth v L.low S.settled_low in
      let left = (cut_again kinds defs G L parts inputs v shape whole shapes n a.zeros S.settled_low a.at).value in
      let fallen = low_worth v L.low left.fallen in
      let run = (recovered kinds terms L G n.wake left.fallen a.end_at).value in
      let other = (recovered kinds terms L G n.other S.settled_low a.other_at).value in
      let alike = settled L fallen && ends_alike kinds defs G L parts inputs v shape whole shapes run other in
      let begins = starts_so kinds defs G L parts number before start nodes final frame inputs v gf h in
      let stand = given_stand inputs number L in
      let digit = is_set v again_made.value in
      let named = schedule_of G L inputs number Again start in
      let bits = picked_by inputs n.run in
      let set = picked_by inputs n.stop in
      let last = picked_by inputs n.last in
      let woke = a.begins in
      let worth_zeros = low_worth v L.layer.memory a.zeros in
      let c = cut_named inputs v n.run n.stop n.last (woken a.zeros S.settled_low) a.at woke.begins a.cut_fit in
      let stops = run_stop G L L.layer.recover zeros [] low bits set in
      let reached : is_set v left.reached ≡ is_some stops =
      c.reached ∙ ap (λ m. is_some (run_stop G L L.layer.recover m [] low bits set)) woke.zeros_are in
      let o = recovery_named kinds defs G L parts inputs v shape whole shapes waking n.other S.settled_low a.other_at a.other_low a.other_fit in
      let hypothesis = is_set v S.settled && is_set v left.reached in
      let unmet = λ (x : Schedule). unmet_so L G Again x digit hypothesis alike a.is in
      let met = λ (e : is_set v S.settled ≡ true) (t : is_set v left.reached ≡ true) (stop : Halt) (is : stops ≡ Some stop).
      let s = settled_there v L stand first.nodes S begins e in
      let there_is = ap (λ m. run_stop G L L.layer.recover m [] low bits set) woke.zeros_are ∙ is in
      let left_is : left_at G L L.layer.recover zeros [] low bits last stop ≡ Some fallen =
      ap (λ m. left_at G L L.layer.recover m [] low bits last stop) (sym woke.zeros_are) ∙ c.left stop there_is in
      let falls = subst (λ m. FallsThere G L L.layer.recover m [] low stop (fall_picks G L L.layer.recover m [] low bits last stop) fallen) woke.zeros_are
      (c.run stop there_is) in
      let x = again_from G L inputs n low (Some stop) in
      met_again L G x digit (end_worth v L run alike)
      (record {
        shapes = s.shapes;
        hypotheses = s.holds;
        reached = record {
          fallen = fallen;
          falls = record { taken = x.picks; run = falls.run; stop = falls.stops; read = reads x.picks };
          recovers = recovers_named kinds defs G L parts inputs v shape whole shapes waking n.wake left.fallen a.end_at a.end_low a.end_fit x
              (ap (wake_picks G L inputs n.wake) left_is);
          taken = x.other;
          answer = answer_worth v other.answer;
          to = (end_worth v L other true).to;
          run = o;
          read = reads x.other;
          side = refl;
        };
      }) hypothesis (both_hold (is_set v S.settled) (is_set v left.reached) e t) a.is in
      record {
        shaped = right (env_fits L.layer.state stand.vars && env_fits L.layer.memory stand.memory) (env_fits L.low stand.low) begins.fits;
        judged = either (is_set v S.settled)
            (λ e.
            subst (λ y. Judged L G Again y digit)
            (ap (λ (e : Env). again_from G L inputs n e (run_stop G L L.layer.recover zeros [] e bits set)) (begins.low e))
            (either (is_set v left.reached)
            (λ t.
            let there = some_stop stops (sym reached ∙ t) in
            subst (λ z. Judged L G Again (again_from G L inputs n low z) digit) (sym there.is) (met e t there.stop there.is))
            (λ t. unmet (again_from G L inputs n low stops) (ap (λ z. z && is_set v left.reached) e ∙ t)
            (λ end m. not_both (is_set v left.reached)
            (reached ∙ stops_there stops m.reached.falls.run.run.within (length m.reached.falls.run.run.calls) m.reached.falls.stop) t))))
            (λ e. unmet named (ap (λ z. z && is_set v left.reached) e)
            (λ end m. not_both (is_set v S.settled) (begins.settled.settles ∙ m.hypotheses) e));
      }
