-- The runs of operations and background steps as the runs that their obligations speak of.
use Rattle.std.proofs.Common.{◌≡◌, ℕ, Bool, true, ◌&&◌, List, [], slice_get, Option, Some, None, option_map, refl, sym, ap, ◌∙◌, subst}
use Rattle.ygg_value.specs.declared.row.Value.{Value}
use Rattle.ygg_syntax.specs.declared.tree.Block.{Block}
use Rattle.ygg_syntax.specs.declared.tree.Declared.{Declared}
use Rattle.ygg_syntax.specs.declared.tree.Operation.{Operation}
use Rattle.ygg_syntax.specs.declared.tree.Tick.{Tick}
use Rattle.ygg_sched.specs.ygg_meaning.Environments.{Env, bind}
use Rattle.ygg_sched.specs.ygg_meaning.Shapes.{values_fit}
use Rattle.ygg_sched.specs.ygg_meaning.Obligations.{Obligation, CallOf, CutOf, CutTickOf}
use Rattle.ygg_sched.specs.ygg_meaning.Violates.{FallsSo, RanWhole, Reached}
use Rattle.ygg_sched.specs.ygg_meaning.Violates as violates
use Rattle.ygg_eval.specs.declared.body.Part.TheVariants as part
use Rattle.ygg_eval.specs.Bodies.{IsRunnable, block_in}
use Rattle.ygg_eval.specs.Layers.{variables_at}
use Rattle.ygg_eval.specs.ygg_meaning_laws_proofs_Tests.{left, right}
use Rattle.ygg_replay.specs.declared.site.ReplaySite.{ReplaySite}
use Rattle.ygg_sched.specs.declared.schedule.Schedule.{Schedule}
use Rattle.ygg_replay.specs.declared.ends.End.{End}
use Rattle.ygg_replay.specs.Ends.{EndFits, FellAndRecovered, FellIn, ReachedOrNot, RecoveredOrNot, end_at, seen_at}
use Rattle.ygg_replay.specs.Schedules.{schedule_fits, states_fit}
use Rattle.ygg_replay.specs.Sites.{IsHere, closed_in, machine_in}
use Rattle.ygg_replay.specs.Steps.{meant_at}

-- the arguments of an operation, if there is one
abbrev arguments_of : Option Operation → List Declared
arguments_of r = elim r [ None ↦ [] | Some o ↦ o.arguments ]

module _ (s : ReplaySite) (x : Schedule) where
  abbrev states : Bool
  states = states_fit s.typed.now.file s.place s.layer.now x

  abbrev fits_for : Obligation → Bool
  fits_for = schedule_fits s.typed.now.file s.place s.layer.now x

  memory_fit : states ≡ true → values_fit s.layer.now.memory x.memory ≡ true
  memory_fit h =
      let low = values_fit (variables_at s.typed.now.file s.place) x.low in
      let memory = values_fit s.layer.now.memory x.memory in
      left memory low (right (values_fit s.layer.now.state x.state) (memory && low) h)

  -- a failure in a run and a recovery after it, as the obligation's
  as_meant : (o : Obligation) (Falls : Env → Type 0) → ((fallen : Env) → Falls fallen → FallsSo (closed_in s) (machine_in s) o (meant_at s x) fallen) →
      (e : End) → FellAndRecovered Falls s x e → violates.FellAndRecovered (closed_in s) (machine_in s) o (meant_at s x) (end_at s e)
  as_meant o Falls f e h = record { fallen = h.fallen; falls = f h.fallen h.falls; recovers = h.recovered.recovers; side = h.recovered.side }

  module _ (number : ℕ) where
    abbrev operation : Option Operation
    operation = slice_get s.layer.now.operations number

    abbrev tick : Option Tick
    tick = slice_get s.layer.now.ticks number

    -- an operation's implementation can be run
    pub can_operate : IsHere s → (f : Operation → Obligation) → ((o : Operation) → fits_for (f o) ≡ (states && values_fit o.arguments x.args)) →
        (o : Obligation) → option_map f operation ≡ Some o → fits_for o ≡ true →
        IsRunnable s.typed.now.file (record { layer = s.place; part = part.Impl; number = number }) x.args x.memory
    can_operate here f same o h fit = run operation refl h
      where
        run : (r : Option Operation) → operation ≡ r → option_map f r ≡ Some o →
            IsRunnable s.typed.now.file (record { layer = s.place; part = part.Impl; number = number }) x.args x.memory
        run None is h = absurd (cc)
        run (Some p) is h =
            let e : f p ≡ o = cc in
            let all : (states && values_fit p.arguments x.args) ≡ true = sym (same p) ∙ ap fits_for e ∙ fit in
            record {
              layer = s.layer.now;
              block = p.implementation;
              is = record { layer = here; block = ap (option_map (λ (o : Operation). o.implementation)) is };
              arguments_fit = subst (λ (ds : List Declared). values_fit ds x.args ≡ true) (sym (ap arguments_of is))
                  (right states (values_fit p.arguments x.args) all);
              variables_fit = memory_fit (left states (values_fit p.arguments x.args) all);
            }

    -- so can a background step
    pub can_tick : IsHere s → (f : Tick → Obligation) → ((t : Tick) → fits_for (f t) ≡ states) →
        (o : Obligation) → option_map f tick ≡ Some o → fits_for o ≡ true → (none : List Value) → none ≡ [] →
        IsRunnable s.typed.now.file (record { layer = s.place; part = part.Tick; number = number }) none x.memory
    can_tick here f same o h fit none empty = run tick refl h
      where
        run : (r : Option Tick) → tick ≡ r → option_map f r ≡ Some o →
            IsRunnable s.typed.now.file (record { layer = s.place; part = part.Tick; number = number }) none x.memory
        run None is h = absurd (cc)
        run (Some t) is h =
            let e : f t ≡ o = cc in
            record {
              layer = s.layer.now;
              block = t.body;
              is = record { layer = here; block = ap (option_map (λ (t : Tick). t.body)) is };
              arguments_fit = subst (λ (vs : List Value). values_fit [] vs ≡ true) (sym empty) refl;
              variables_fit = memory_fit (sym (same t) ∙ ap fits_for e ∙ fit);
            }

    -- an operation's whole run
    pub called : (e : End) → ((b : Block) → block_in s.layer.now part.Impl number ≡ Some b →
        RanWhole (closed_in s) (machine_in s) b (seen_at s part.Impl number x.args) (meant_at s x) (end_at s e)) → EndFits s e →
        (o : Obligation) → option_map CallOf operation ≡ Some o → ReachedOrNot s o x (Some e)
    called e ran fits o h = by operation refl h
      where
        by : (r : Option Operation) → operation ≡ r → option_map CallOf r ≡ Some o → ReachedOrNot s o x (Some e)
        by None is h = absurd (cc)
        by (Some p) is h =
            let same : CallOf p ≡ o = cc in
            subst (λ (o : Obligation). ReachedOrNot s o x (Some e)) same (
              subst (λ (ds : List Declared). RanWhole (closed_in s) (machine_in s) p.implementation (bind ds x.args) (meant_at s x) (end_at s e))
                  (ap arguments_of is) (ran p.implementation (ap (option_map (λ (o : Operation). o.implementation)) is)),
              fits,
            )

    -- an operation that power cuts
    pub fallen : (found : Option End) → ((b : Block) → block_in s.layer.now part.Impl number ≡ Some b →
        RecoveredOrNot (FellIn s x b (seen_at s part.Impl number x.args) x.memory) s x found) →
        (o : Obligation) → option_map CutOf operation ≡ Some o → ReachedOrNot s o x found
    fallen found ran o h = by operation refl h
      where
        so : (p : Operation) (found : Option End) → RecoveredOrNot (FellIn s x p.implementation (bind p.arguments x.args) x.memory) s x found →
            ReachedOrNot s (CutOf p) x found
        so p None h = (refl, h)
        so p (Some e) h = (as_meant (CutOf p) (FellIn s x p.implementation (bind p.arguments x.args) x.memory) (λ fallen f. f) e h.0, h.1)

        by : (r : Option Operation) → operation ≡ r → option_map CutOf r ≡ Some o → ReachedOrNot s o x found
        by None is h = absurd (cc)
        by (Some p) is h =
            let same : CutOf p ≡ o = cc in
            subst (λ (o : Obligation). ReachedOrNot s o x found) same
            (so p found (subst (λ (ds : List Declared). RecoveredOrNot (FellIn s x p.implementation (bind ds x.args) x.memory) s x found)
            (ap arguments_of is) (ran p.implementation (ap (option_map (λ (o : Operation). o.implementation)) is))))

    -- a background step that power cuts
    pub fallen_tick : (none : List Value) → none ≡ [] → (found : Option End) → ((b : Block) → block_in s.layer.now part.Tick number ≡ Some b →
        RecoveredOrNot (FellIn s x b (seen_at s part.Tick number none) x.memory) s x found) →
        (o : Obligation) → option_map CutTickOf tick ≡ Some o → ReachedOrNot s o x found
    fallen_tick none empty found ran o h = by tick refl h
      where
        so : (t : Tick) (found : Option End) → RecoveredOrNot (FellIn s x t.body [] x.memory) s x found → ReachedOrNot s (CutTickOf t) x found
        so t None h = (refl, h)
        so t (Some e) h = (as_meant (CutTickOf t) (FellIn s x t.body [] x.memory) (λ fallen f. f) e h.0, h.1)

        by : (r : Option Tick) → tick ≡ r → option_map CutTickOf r ≡ Some o → ReachedOrNot s o x found
        by None is h = absurd (cc)
        by (Some t) is h =
            let same : CutTickOf t ≡ o = cc in
            subst (λ (o : Obligation). ReachedOrNot s o x found) same
            (so t found (subst (λ (vs : List Value). RecoveredOrNot (FellIn s x t.body (bind [] vs) x.memory) s x found) empty
            (ran t.body (ap (option_map (λ (t : Tick). t.body)) is))))
