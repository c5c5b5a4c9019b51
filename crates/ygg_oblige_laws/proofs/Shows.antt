-- An environment in which the term of an obligation is 0 shows a schedule that violates the obligation.
use Rattle.std.proofs.Common.{◌≡◌, ◌&&◌, ℕ, Bool, true, false, List, [], map, length, refl, sym, ◌∙◌, subst}
use Rattle.std.specs.Prelude.{Option, Some, None}
use Rattle.ygg_value.specs.declared.row.Value.{Value}
use Rattle.ygg_value.specs.declared.shape.Shape.{Shape}
use Rattle.ygg_syntax.specs.declared.tree.Def.{Def}
use Rattle.ygg_syntax.specs.declared.tree.Operation.{Operation}
use Rattle.ygg_syntax.specs.declared.tree.Tick.{Tick}
use Rattle.ygg_sym_laws.specs.ygg_meaning_laws_proofs_Tests.{right}
use Rattle.ygg_sym_laws.specs.ygg_meaning.Layer.{ClosedLayer, BlockFalls, Layered}
use Rattle.ygg_sym_laws.specs.ygg_meaning.Machine.{Picks, on, based}
use Rattle.ygg_sym_laws.specs.ygg_meaning.Obligations.{Schedule, Halt, IsRead, Init, CallOf, CutOf, TickOf, CutTickOf, Idle, Again}
use Rattle.ygg_sym_laws.specs.ygg_meaning.Refines.{Below, machine_below}
use Rattle.ygg_sym_laws.specs.ygg_meaning.Related.{shaped, all_true, relates, settles, settled}
use Rattle.ygg_sym_laws.specs.ygg_meaning.Shapes.{values_fit, env_fits}
use Rattle.ygg_sym_laws.specs.ygg_meaning.Violates.{Recovers, Violates}
use Rattle.ygg_sym_laws.specs.ygg_rules.declared.rule.RuleKind.{RuleKind}
use Rattle.ygg_sym_laws.specs.ygg_bank.Values.{Inputs, Values, Fits}
use Rattle.ygg_sym_laws.specs.ygg_bank.declared.node.Id.{Id}
use Rattle.ygg_sym_laws.specs.ygg_bank.declared.node.Node.{Node}
use Rattle.ygg_sym_laws.specs.ygg_shape_cells.Terms.{worth}
use Rattle.ygg_sym_laws.specs.ygg_shape_cells.declared.terms.SymValue.{SymValue}
use Rattle.ygg_sym_laws.specs.ygg_sym_runs.Meaning.{answer_worth, is_set}
use Rattle.ygg_sym_laws.specs.ygg_sym_runs.Lows.{LowShaped, low_worth}
use Rattle.ygg_sym_laws.proofs.of_ygg_sym_runs.Blocks.{values_worth}
use Rattle.ygg_sym_laws.specs.Means.{terms_of, WholeMeans, StartMeans}
use Rattle.ygg_oblige_laws.specs.LayerTerms.{ShapesKept}
use Rattle.ygg_oblige_laws.specs.Numbers.{Numbers}
use Rattle.ygg_oblige_laws.specs.TermStates.{Starting}
use Rattle.ygg_oblige_laws.specs.Terms.{Finish, recovered}
use Rattle.ygg_oblige_laws.specs.Steps.{end_worth}
use Rattle.ygg_oblige_laws.specs.States.{StartsSo}
use Rattle.ygg_oblige_laws.specs.Worth.{Stand}
use Rattle.ygg_oblige_laws.proofs.Again.{ends_alike, cut_again, AgainSo}
use Rattle.ygg_oblige_laws.proofs.Digits.{refuted, both_true, both_hold}
use Rattle.ygg_oblige_laws.proofs.Falls.{RecoversSo, FallsSo, cut_of}
use Rattle.ygg_oblige_laws.proofs.Formats.{FormatsSo}
use Rattle.ygg_oblige_laws.proofs.Schedules.{reads, wakes_below, sided_fails}
use Rattle.ygg_oblige_laws.proofs.Wholes.{RunsSo, recovered_gives}
use Rattle.ygg_oblige_laws.specs.Parts.{PartsMean}

-- the states of a schedule are what those that an obligation begins with are worth
abbrev pub schedule_of : Values → ClosedLayer → Starting → List Value → Option Halt → Picks → Picks → Schedule
schedule_of v L S args stop picks wake = record {
  state = low_worth v L.layer.state S.from.vars;
  memory = low_worth v L.layer.memory S.from.memory;
  low = low_worth v L.low S.from.low;
  args = args;
  stop = stop;
  picks = picks;
  wake = wake;
  other = [];
}

-- where a run stops
abbrev pub stop_at : Bool → ℕ → Option Halt
stop_at within event = Some (record { within = within; event = event })

-- the states that an obligation begins with have their shapes, and the layer's relation holds of them
pub record Related (v : Values) (L : ClosedLayer) (S : Starting) : Type 0 where
  pub shapes : shaped L (low_worth v L.layer.state S.from.vars) (low_worth v L.layer.memory S.from.memory) (low_worth v L.low S.from.low) ≡ true
  pub holds : all_true (relates L (low_worth v L.layer.state S.from.vars) (low_worth v L.layer.memory S.from.memory) (low_worth v L.low S.from.low)) ≡ true

pub related_there : (v : Values) (L : ClosedLayer) (s : Stand) (nodes : List Node) (S : Starting) → StartsSo v L s nodes S → is_set v S.related ≡ true →
    Related v L S
related_there v L s nodes S starts e =
    let same = sym (starts.from e) in
    record {
      shapes = subst (λ (z : Stand). shaped L z.vars z.memory z.low ≡ true) same starts.fits;
      holds = subst (λ (z : Stand). all_true (relates L z.vars z.memory z.low) ≡ true) same (sym starts.related.relates ∙ e);
    }

-- the base that a recovery begins with has its shapes, and is settled
pub record Settled (v : Values) (L : ClosedLayer) (S : Starting) : Type 0 where
  pub shapes : env_fits L.low (low_worth v L.low S.settled_low) ≡ true
  pub holds : all_true (settles L (low_worth v L.low S.settled_low)) ≡ true

pub settled_there : (v : Values) (L : ClosedLayer) (s : Stand) (nodes : List Node) (S : Starting) → StartsSo v L s nodes S → is_set v S.settled ≡ true →
    Settled v L S
settled_there v L s nodes S starts e =
    let same = sym (starts.low e) in
    record {
      shapes = subst (λ z. env_fits L.low z ≡ true) same
          (right (env_fits L.layer.state s.vars && env_fits L.layer.memory s.memory) (env_fits L.low s.low) starts.fits);
      holds = subst (λ z. all_true (settles L z) ≡ true) same (sym starts.settled.settles ∙ e);
    }

module _ (kinds : List RuleKind) (defs : List Def) (G : Below) (L : ClosedLayer) (parts : PartsMean kinds defs G L) (inputs : Inputs) (v : Values) where
  pub init_shows : (shape : Option Shape) (start : StartMeans kinds defs G L) (whole : WholeMeans kinds defs G L L.layer.format L.layer.memory [] shape)
      (shapes : ShapesKept L.layer.memory) (n : Numbers) (nodes : List Node) (out : Id) →
      FormatsSo kinds defs G L parts inputs v shape start whole shapes n nodes out → is_set v out ≡ false → (x : Schedule) × Violates L (machine_below G) Init x
  init_shows shape start whole shapes n nodes out f unset =
      let x : Schedule = record { state = []; memory = []; low = []; args = []; stop = None; picks = f.taken; wake = []; other = [] } in (
        x,
        record {
          end = end_worth v L f.end true;
          meets = record { shapes = refl; hypotheses = refl; reached = record { taken = f.taken; run = f.run; read = reads f.taken } };
          fails = (f.passes x).none unset;
        },
      )

  pub call_shows : (o : Operation) (S : Starting) (args : List SymValue) (end : Finish) (nodes old : List Node) (out : Id) → Fits inputs v old →
      LowShaped old o.arguments args → RunsSo kinds defs G L parts inputs v (CallOf o) o.implementation S args end nodes out →
      (is_set v S.related ≡ true → Related v L S) → is_set v out ≡ false → (x : Schedule) × Violates L (machine_below G) (CallOf o) x
  call_shows o S args end nodes old out fit args_are r related unset =
      let z = refuted (is_set v S.related) (is_set v r.some) (sym r.is ∙ unset) in
      let s = related z.first in
      let x = schedule_of v L S (map (worth v) args) None r.run.taken [] in (
        x,
        record {
          end = end_worth v L end true;
          meets = record {
            shapes = both_hold (shaped L x.state x.memory x.low) (values_fit o.arguments x.args) s.shapes
                (values_worth inputs v old o.arguments args fit args_are);
            hypotheses = s.holds;
            reached = record { taken = r.run.taken; run = r.run.run; read = reads r.run.taken };
          };
          fails = (r.passes x (refl, refl)).none z.second;
        },
      )

  pub tick_shows : (t : Tick) (S : Starting) (args : List SymValue) (end : Finish) (nodes : List Node) (out : Id) →
      RunsSo kinds defs G L parts inputs v (TickOf t) t.body S args end nodes out → (is_set v S.related ≡ true → Related v L S) → is_set v out ≡ false →
      (x : Schedule) × Violates L (machine_below G) (TickOf t) x
  tick_shows t S args end nodes out r related unset =
      let z = refuted (is_set v S.related) (is_set v r.some) (sym r.is ∙ unset) in
      let s = related z.first in
      let x = schedule_of v L S [] None r.run.taken [] in (
        x,
        record {
          end = end_worth v L end true;
          meets = record {
            shapes = s.shapes;
            hypotheses = s.holds;
            reached = record { taken = r.run.taken; run = r.run.run; read = reads r.run.taken };
          };
          fails = (r.passes x refl).none z.second;
        },
      )

  module _ (shape : Option Shape) (whole : WholeMeans kinds defs G L L.layer.recover L.layer.memory [] shape) (shapes : ShapesKept L.layer.memory) where
    -- a recovery over terms is one of the layer
    pub wakes_so : (first : ℕ) (low : List SymValue) (at : List Node) → LowShaped at L.low low →
        Fits inputs v (recovered kinds (terms_of kinds defs) L G first low at).nodes →
        (taken : Picks)
        × (Layered L (machine_below G)).Wakes (low_worth v L.low low) taken (end_worth v L (recovered kinds (terms_of kinds defs) L G first low at).value
        true).to
    wakes_so first low at low_are fit =
        let r = recovered_gives kinds defs G L parts inputs v shape whole shapes first low at low_are fit in (
          r.taken,
          record {
            lower = based (low_worth v L.low low);
            first = [];
            second = r.taken;
            wakes = wakes_below G (low_worth v L.low low);
            next = (answer_worth v (recovered kinds (terms_of kinds defs) L G first low at).value.answer, r.run);
            takes = refl;
          },
        )

    -- the schedule's recovery
    pub recovers_so : (x : Schedule) (first : ℕ) (low : List SymValue) (at : List Node) (low_are : LowShaped at L.low low)
        (fit : Fits inputs v (recovered kinds (terms_of kinds defs) L G first low at).nodes) → x.wake ≡ (wakes_so first low at low_are fit).0 →
        Recovers L (machine_below G) x (low_worth v L.low low) (end_worth v L (recovered kinds (terms_of kinds defs) L G first low at).value true).to
    recovers_so x first low at low_are fit e =
        let w = wakes_so first low at low_are fit in record { taken = w.0; run = w.1; read = subst (λ p. IsRead p w.0) (sym e) (reads w.0) }

    pub cut_shows : (o : Operation) (n : Numbers) (S : Starting) (args : List SymValue) (before nodes old : List Node) (out : Id) → Fits inputs v old →
        LowShaped old o.arguments args → FallsSo kinds defs G L parts inputs v shape (CutOf o) n o.implementation S args before nodes out →
        (is_set v S.related ≡ true → Related v L S) → is_set v out ≡ false → (x : Schedule) × Violates L (machine_below G) (CutOf o) x
    cut_shows o n S args before nodes old out fit args_are f related unset =
        let left = (cut_of kinds defs G L parts inputs v shape n o.implementation S o.arguments args before).value in
        let r = f.recovers in
        let fallen = low_worth v L.low left.fallen in
        let z = refuted (is_set v f.hypothesis) (settled L fallen && is_set v r.some) (sym r.is ∙ unset) in
        let hs = both_true (is_set v S.related) (is_set v left.reached) (sym f.hypothesis_is ∙ z.first) in
        let s = related hs.0 in
        let fall = f.fall hs.1 in
        let w = wakes_so n.wake left.fallen r.at r.low_shaped r.fit in
        let x = schedule_of v L S (map (worth v) args) (stop_at fall.run.run.within (length fall.run.run.calls)) fall.taken w.0 in
        let end = end_worth v L (recovered kinds (terms_of kinds defs) L G n.wake left.fallen r.at).value (settled L fallen) in (
          x,
          record {
            end = end;
            meets = record {
              shapes = both_hold (shaped L x.state x.memory x.low) (values_fit o.arguments x.args) s.shapes
                  (values_worth inputs v old o.arguments args fit args_are);
              hypotheses = s.holds;
              reached = record {
                fallen = fallen;
                falls = record { taken = fall.taken; run = fall.run; stop = (refl, refl); read = reads fall.taken };
                recovers = recovers_so x n.wake left.fallen r.at r.low_shaped r.fit refl;
                side = refl;
              };
            };
            fails = sided_fails v L (CutOf o) x r.passing r.some (λ e out. refl) end (r.passes x (refl, refl)) z.second;
          },
        )

    pub tick_cut_shows : (t : Tick) (n : Numbers) (S : Starting) (args : List SymValue) (before nodes : List Node) (out : Id) →
        FallsSo kinds defs G L parts inputs v shape (CutTickOf t) n t.body S args before nodes out →
        (is_set v S.related ≡ true → Related v L S) → is_set v out ≡ false → (x : Schedule) × Violates L (machine_below G) (CutTickOf t) x
    tick_cut_shows t n S args before nodes out f related unset =
        let left = (cut_of kinds defs G L parts inputs v shape n t.body S [] args before).value in
        let r = f.recovers in
        let fallen = low_worth v L.low left.fallen in
        let z = refuted (is_set v f.hypothesis) (settled L fallen && is_set v r.some) (sym r.is ∙ unset) in
        let hs = both_true (is_set v S.related) (is_set v left.reached) (sym f.hypothesis_is ∙ z.first) in
        let s = related hs.0 in
        let fall = f.fall hs.1 in
        let w = wakes_so n.wake left.fallen r.at r.low_shaped r.fit in
        let x = schedule_of v L S [] (stop_at fall.run.run.within (length fall.run.run.calls)) fall.taken w.0 in
        let end = end_worth v L (recovered kinds (terms_of kinds defs) L G n.wake left.fallen r.at).value (settled L fallen) in (
          x,
          record {
            end = end;
            meets = record {
              shapes = s.shapes;
              hypotheses = s.holds;
              reached = record {
                fallen = fallen;
                falls = record { taken = fall.taken; run = fall.run; stop = (refl, refl); read = reads fall.taken };
                recovers = recovers_so x n.wake left.fallen r.at r.low_shaped r.fit refl;
                side = refl;
              };
            };
            fails = sided_fails v L (CutTickOf t) x r.passing r.some (λ e out. refl) end (r.passes x refl) z.second;
          },
        )

    pub idle_shows : (n : Numbers) (S : Starting) (fallen : List SymValue) (taken : Picks) (nodes : List Node) (out : Id) →
        (machine_below G).Loses (based (low_worth v L.low S.from.low)) taken (low_worth v L.low fallen) →
        RecoversSo kinds defs G L parts inputs v shape Idle n S.related S.from.vars [] fallen nodes out →
        (is_set v S.related ≡ true → Related v L S) → is_set v out ≡ false → (x : Schedule) × Violates L (machine_below G) Idle x
    idle_shows n S left taken nodes out loses r related unset =
        let fallen = low_worth v L.low left in
        let z = refuted (is_set v S.related) (settled L fallen && is_set v r.some) (sym r.is ∙ unset) in
        let s = related z.first in
        let w = wakes_so n.wake left r.at r.low_shaped r.fit in
        let x = schedule_of v L S [] None taken w.0 in
        let end = end_worth v L (recovered kinds (terms_of kinds defs) L G n.wake left r.at).value (settled L fallen) in (
          x,
          record {
            end = end;
            meets = record {
              shapes = s.shapes;
              hypotheses = s.holds;
              reached = record {
                fallen = fallen;
                falls = record { taken = taken; run = loses; read = reads taken };
                recovers = recovers_so x n.wake left r.at r.low_shaped r.fit refl;
                side = refl;
              };
            };
            fails = sided_fails v L Idle x r.passing r.some (λ e out. refl) end (r.passes x refl) z.second;
          },
        )

    pub again_shows : (n : Numbers) (S : Starting) (nodes : List Node) (out : Id) →
        AgainSo kinds defs G L parts inputs v shape whole shapes n S nodes out → (is_set v S.settled ≡ true → Settled v L S) → is_set v out ≡ false →
        (x : Schedule) × Violates L (machine_below G) Again x
    again_shows n S nodes out a settle unset =
        let low = low_worth v L.low S.settled_low in
        let left = (cut_again kinds defs G L parts inputs v shape whole shapes n a.zeros S.settled_low a.at).value in
        let fallen = low_worth v L.low left.fallen in
        let run = (recovered kinds (terms_of kinds defs) L G n.wake left.fallen a.end_at).value in
        let again = (recovered kinds (terms_of kinds defs) L G n.other S.settled_low a.other_at).value in
        let alike = settled L fallen && ends_alike kinds defs G L parts inputs v shape whole shapes run again in
        let z = refuted (is_set v S.settled && is_set v left.reached) alike (sym a.is ∙ unset) in
        let hs = both_true (is_set v S.settled) (is_set v left.reached) z.first in
        let s = settle hs.0 in
        let fall = a.fall hs.1 in
        let cut = subst (λ m. BlockFalls L (machine_below G) L.layer.recover [] (on m (based low)) fall.taken fallen) a.begins.zeros_are fall.run in
        let w = wakes_so n.wake left.fallen a.end_at a.end_low a.end_fit in
        let o = recovered_gives kinds defs G L parts inputs v shape whole shapes n.other S.settled_low a.other_at a.other_low a.other_fit in
        let x : Schedule = record {
          state = [];
          memory = [];
          low = low;
          args = [];
          stop = stop_at cut.run.within (length cut.run.calls);
          picks = fall.taken;
          wake = w.0;
          other = o.taken;
        } in (
          x,
          record {
            end = end_worth v L run alike;
            meets = record {
              shapes = s.shapes;
              hypotheses = s.holds;
              reached = record {
                fallen = fallen;
                falls = record { taken = fall.taken; run = cut; stop = (refl, refl); read = reads fall.taken };
                recovers = recovers_so x n.wake left.fallen a.end_at a.end_low a.end_fit refl;
                taken = o.taken;
                answer = answer_worth v again.answer;
                to = (end_worth v L again true).to;
                run = o.run;
                read = reads o.taken;
                side = refl;
              };
            };
            fails = λ picks len. z.second;
          },
        )
