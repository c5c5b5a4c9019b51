-- Each obligation's term means it.
use Rattle.std.proofs.Common.{ℕ, List, [], ◌∷◌, ◌++◌, map, refl, subst}
use Rattle.std.proofs.lemmas.List.Elements.{All-nil, All-cons, All-head, All-tail, All-append}
use Rattle.std.specs.Prelude.{All, None}
use Rattle.std.specs.List.{flat_map}
use Rattle.ygg_value.specs.declared.row.Value.{Value}
use Rattle.ygg_value.specs.Shapes.{IsShape}
use Rattle.ygg_syntax.specs.declared.tree.Declared.{Declared}
use Rattle.ygg_syntax.specs.declared.tree.Def.{Def}
use Rattle.ygg_syntax.specs.declared.tree.Operation.{Operation}
use Rattle.ygg_syntax.specs.declared.tree.Tick.{Tick}
use Rattle.ygg_sym_laws.specs.ygg_meaning_laws_proofs_Tests.{left, right}
use Rattle.ygg_sym_laws.specs.ygg_meaning.Environments.{Env, bind}
use Rattle.ygg_sym_laws.specs.ygg_meaning.Layer.{ClosedLayer}
use Rattle.ygg_sym_laws.specs.ygg_meaning.Obligations.{Schedule, Obligation, Init, CallOf, CutOf, TickOf, CutTickOf, Idle, Again, obligations_of}
use Rattle.ygg_sym_laws.specs.ygg_meaning.Refines.{Below}
use Rattle.ygg_sym_laws.specs.ygg_meaning.Related.{shaped}
use Rattle.ygg_sym_laws.specs.ygg_meaning.Shapes.{shape_in, values_fit}
use Rattle.ygg_sym_laws.specs.ygg_rules.declared.rule.RuleKind.{RuleKind}
use Rattle.ygg_sym_laws.specs.ygg_bank.Nodes.{Extends}
use Rattle.ygg_sym_laws.specs.ygg_bank.declared.node.Node.{Node}
use Rattle.ygg_sym_laws.specs.ygg_shape_cells.Terms.{worth}
use Rattle.ygg_sym_laws.specs.ygg_sym_runs.ExpressionMeaning.{Grows}
use Rattle.ygg_sym_laws.specs.ygg_sym_runs.Meaning.{answer_worth}
use Rattle.ygg_sym_laws.specs.ygg_sym_runs.Lows.{low_worth}
use Rattle.ygg_sym_laws.specs.Means.{terms_of}
use Rattle.ygg_oblige_laws.specs.LayerTerms.{ShapesKept, OperationFits, LayerTyped}
use Rattle.ygg_oblige_laws.specs.Meaning.{IsTermOf}
use Rattle.ygg_oblige_laws.specs.Numbers.{numbers_of}
use Rattle.ygg_oblige_laws.specs.TermStates.{Starting}
use Rattle.ygg_oblige_laws.specs.Terms.{term_made}
use Rattle.ygg_oblige_laws.proofs.Frame.{Frame, states}
use Rattle.ygg_oblige_laws.proofs.FallTerms.{FallKind, recovery_there, fall_grows, fall_term}
use Rattle.ygg_oblige_laws.proofs.OtherTerms.{init_grows, init_term, idle_grows, idle_term, again_grow, again_term}
use Rattle.ygg_oblige_laws.proofs.RunTerms.{RunKind, run_grows, run_term}
use Rattle.ygg_oblige_laws.proofs.Schedules.{bind_fits, Fails}
use Rattle.ygg_oblige_laws.proofs.Shows.{call_shows, tick_shows, cut_shows, tick_cut_shows}
use Rattle.ygg_oblige_laws.specs.LayerMeans.{OperationMeans, TickMeans, LayerMeans}
use Rattle.ygg_oblige_laws.specs.ObligationMeans.{OperationKnown, ObligationKnown}
use Rattle.ygg_oblige_laws.specs.Parts.{PartsMean}

-- a schedule with these variables and arguments
abbrev saying : Env → List Value → Schedule
saying vars args = record { state = vars; memory = []; low = []; args = args; stop = None; picks = []; wake = []; other = [] }

no_shapes : ShapesKept []
no_shapes = All-nil (λ (d : Declared). IsShape (shape_in d.shape))

module _ (kinds : List RuleKind) (defs : List Def) (G : Below) (L : ClosedLayer) (parts : PartsMean kinds defs G L) where
  call_kind : (o : Operation) → OperationKnown kinds defs G L o → RunKind kinds defs G L parts (CallOf o)
  call_kind o known = record {
    shape = known.means.shape;
    whole = known.means.whole;
    has = tt;
    typed = known.fits;
    kept = λ v end r. known.means.answers (answer_worth v end.answer) r;
    state = refl;
    unsided = λ e out. refl;
    args_shapes = known.fits.shapes;
    some = λ v vars args. (saying (low_worth v L.layer.state vars) (map (worth v) args), (refl, refl));
    shows = λ inputs v S args end nodes old out fit shaped r related unset.
        call_shows kinds defs G L parts inputs v o S args end nodes old out fit shaped r related unset;
    opens = λ x w. record {
      end = w.end;
      given = bind o.arguments x.args;
      given_fits = bind_fits o.arguments x.args (right (shaped L x.state x.memory x.low) (values_fit o.arguments x.args) w.meets.shapes);
      shapes = left (shaped L x.state x.memory x.low) (values_fit o.arguments x.args) w.meets.shapes;
      holds = w.meets.hypotheses;
      taken = w.meets.reached.taken;
      run = w.meets.reached.run;
      fails = w.fails;
      step = λ v vars args p q. (p, q);
    };
  }

  tick_kind : (t : Tick) → TickMeans kinds defs G L t → RunKind kinds defs G L parts (TickOf t)
  tick_kind t known = record {
    shape = known.shape;
    whole = known.whole;
    has = tt;
    typed = tt;
    kept = λ v end r. tt;
    state = refl;
    unsided = λ e out. refl;
    args_shapes = no_shapes;
    some = λ v vars args. (saying (low_worth v L.layer.state vars) [], refl);
    shows = λ inputs v S args end nodes old out fit shaped r related unset.
        tick_shows kinds defs G L parts inputs v t S args end nodes out r related unset;
    opens = λ x w. record {
      end = w.end;
      given = [];
      given_fits = refl;
      shapes = w.meets.shapes;
      holds = w.meets.hypotheses;
      taken = w.meets.reached.taken;
      run = w.meets.reached.run;
      fails = w.fails;
      step = λ v vars args p q. p;
    };
  }

  module _ (means : LayerMeans kinds defs G L) (typed : LayerTyped defs G L) where
    cut_kind : (o : Operation) → OperationKnown kinds defs G L o → FallKind kinds defs G L parts means (CutOf o)
    cut_kind o known = record {
      falls = known.means.falls;
      has = tt;
      typed = known.fits;
      kept = λ v end. tt;
      state = refl;
      sided = λ e out. refl;
      args_shapes = known.fits.shapes;
      some = λ v vars args. (saying (low_worth v L.layer.state vars) (map (worth v) args), (refl, refl));
      shows = λ inputs v n S args before nodes old out fit shaped f related unset.
          cut_shows kinds defs G L parts inputs v means.recover_shape means.recover_whole typed.memory_shapes o n S args before nodes old out fit shaped f
          related unset;
      opens = λ x w.
          let e = w.end in
          let r = w.meets.reached in
          let recovery = recovery_there G L x r.fallen e.to r.recovers in
          record {
            given = bind o.arguments x.args;
            given_fits = bind_fits o.arguments x.args (right (shaped L x.state x.memory x.low) (values_fit o.arguments x.args) w.meets.shapes);
            shapes = left (shaped L x.state x.memory x.low) (values_fit o.arguments x.args) w.meets.shapes;
            holds = w.meets.hypotheses;
            fallen = r.fallen;
            taken = r.falls.taken;
            falls = r.falls.run;
            to = e.to;
            recovery = recovery;
            fails = subst (λ s. Fails L (CutOf o) x (record { answer = recovery.answer; to = e.to; side = s })) r.side w.fails;
            step = λ v vars args p q. (p, q);
          };
    }

    tick_cut_kind : (t : Tick) → TickMeans kinds defs G L t → FallKind kinds defs G L parts means (CutTickOf t)
    tick_cut_kind t known = record {
      falls = known.falls;
      has = tt;
      typed = tt;
      kept = λ v end. tt;
      state = refl;
      sided = λ e out. refl;
      args_shapes = no_shapes;
      some = λ v vars args. (saying (low_worth v L.layer.state vars) [], refl);
      shows = λ inputs v n S args before nodes old out fit shaped f related unset.
          tick_cut_shows kinds defs G L parts inputs v means.recover_shape means.recover_whole typed.memory_shapes t n S args before nodes out f related unset;
      opens = λ x w.
          let e = w.end in
          let r = w.meets.reached in
          let recovery = recovery_there G L x r.fallen e.to r.recovers in
          record {
            given = [];
            given_fits = refl;
            shapes = w.meets.shapes;
            holds = w.meets.hypotheses;
            fallen = r.fallen;
            taken = r.falls.taken;
            falls = r.falls.run;
            to = e.to;
            recovery = recovery;
            fails = subst (λ s. Fails L (CutTickOf t) x (record { answer = recovery.answer; to = e.to; side = s })) r.side w.fails;
            step = λ v vars args p q. p;
          };
    }

    module _ (number : ℕ) (before : List Node) (start : ℕ) (nodes final : List Node) (frame : Frame kinds defs L number before start nodes final) where
      abbrev first : Starting
      first = (states kinds defs G L parts number before start nodes final frame).value

      -- the term of an obligation adds nodes
      pub term_grows : (o : Obligation) → ObligationKnown kinds defs G L o → Grows (term_made kinds (terms_of kinds defs) L G first o (numbers_of G L o start))
      term_grows Init known = init_grows kinds defs G L parts typed means number before start nodes final frame
      term_grows (CallOf o) known = run_grows kinds defs G L parts typed number before start nodes final frame (CallOf o) (call_kind o known)
      term_grows (CutOf o) known = fall_grows kinds defs G L parts typed means number before start nodes final frame (CutOf o) (cut_kind o known)
      term_grows (TickOf t) known = run_grows kinds defs G L parts typed number before start nodes final frame (TickOf t) (tick_kind t known)
      term_grows (CutTickOf t) known =
          fall_grows kinds defs G L parts typed means number before start nodes final frame (CutTickOf t) (tick_cut_kind t known)
      term_grows Idle known = idle_grows kinds defs G L parts typed means number before start nodes final frame
      term_grows Again known = again_grow kinds defs G L parts typed means number before start nodes final frame

      -- and means the obligation
      pub term_means : (o : Obligation) → ObligationKnown kinds defs G L o →
          let out = term_made kinds (terms_of kinds defs) L G first o (numbers_of G L o start) nodes in
          Extends out.nodes final → IsTermOf final (record { layer = L; below = G; obligation = o }) out.value
      term_means Init known g = init_term kinds defs G L parts typed means number before start nodes final frame g
      term_means (CallOf o) known g = run_term kinds defs G L parts typed number before start nodes final frame (CallOf o) (call_kind o known) g
      term_means (CutOf o) known g = fall_term kinds defs G L parts typed means number before start nodes final frame (CutOf o) (cut_kind o known) g
      term_means (TickOf t) known g = run_term kinds defs G L parts typed number before start nodes final frame (TickOf t) (tick_kind t known) g
      term_means (CutTickOf t) known g =
          fall_term kinds defs G L parts typed means number before start nodes final frame (CutTickOf t) (tick_cut_kind t known) g
      term_means Idle known g = idle_term kinds defs G L parts typed means number before start nodes final frame g
      term_means Again known g = again_term kinds defs G L parts typed means number before start nodes final frame g

module _ (kinds : List RuleKind) (defs : List Def) (G : Below) (L : ClosedLayer) where
  abbrev Known : Obligation → Type 0
  Known = ObligationKnown kinds defs G L

  calls_known : (os : List Operation) → All (OperationFits defs G L) os → All (OperationMeans kinds defs G L) os →
      All Known (flat_map (λ (o : Operation). CallOf o ∷ CutOf o ∷ []) os)
  calls_known [] f m = All-nil Known
  calls_known (o ∷ os) f m =
      let known : OperationKnown kinds defs G L o =
      record { fits = All-head (OperationFits defs G L) o os f; means = All-head (OperationMeans kinds defs G L) o os m } in
      let rest = flat_map (λ (o : Operation). CallOf o ∷ CutOf o ∷ []) os in
      All-cons Known (CallOf o) (CutOf o ∷ rest) known
      (All-cons Known (CutOf o) rest known
      (calls_known os (All-tail (OperationFits defs G L) o os f) (All-tail (OperationMeans kinds defs G L) o os m)))

  ticks_known : (ts : List Tick) → All (TickMeans kinds defs G L) ts → All Known (flat_map (λ (t : Tick). TickOf t ∷ CutTickOf t ∷ []) ts)
  ticks_known [] m = All-nil Known
  ticks_known (t ∷ ts) m =
      let known = All-head (TickMeans kinds defs G L) t ts m in
      let rest = flat_map (λ (t : Tick). TickOf t ∷ CutTickOf t ∷ []) ts in
      All-cons Known (TickOf t) (CutTickOf t ∷ rest) known
      (All-cons Known (CutTickOf t) rest known (ticks_known ts (All-tail (TickMeans kinds defs G L) t ts m)))

  -- what each obligation of a layer speaks of is known
  pub all_known : LayerTyped defs G L → LayerMeans kinds defs G L → All Known (obligations_of L.layer)
  all_known typed means =
      let calls = flat_map (λ (o : Operation). CallOf o ∷ CutOf o ∷ []) L.layer.operations in
      let ticks = flat_map (λ (t : Tick). TickOf t ∷ CutTickOf t ∷ []) L.layer.ticks in
      let two = All-cons Known Idle (Again ∷ []) tt (All-cons Known Again [] tt (All-nil Known)) in
      let steps = All-append Known calls ticks (calls_known L.layer.operations typed.operations_typed means.operations)
      (ticks_known L.layer.ticks means.ticks) in
      All-cons Known Init ((calls ++ ticks) ++ Idle ∷ Again ∷ []) tt (All-append Known (calls ++ ticks) (Idle ∷ Again ∷ []) steps two)
