-- A schedule that means the one which the inputs name, with no more values, has what can be printed of its obligation.
use Rattle.std.proofs.Common.{◌≡◌, ◌∙◌, ℕ, true, List, [], length, Option, Some, None, refl, ap}
use Rattle.std.specs.Option.{option_map}
use Rattle.std.proofs.lemmas.Bool.{and_parts}
use Rattle.ygg_value.specs.declared.row.Value.{Value}
use Rattle.ygg_replay.specs.ygg_meaning.Layer.{ClosedLayer}
use Rattle.ygg_replay.specs.ygg_meaning.Obligations.{Obligation, Init, CallOf, CutOf, TickOf, CutTickOf, Idle, Again}
use Rattle.ygg_replay.specs.ygg_meaning.Obligations as meaning
use Rattle.ygg_replay.specs.ygg_meaning.Refines.{Below}
use Rattle.ygg_replay.specs.ygg_meaning.Related.{shaped}
use Rattle.ygg_replay.specs.ygg_meaning.Shapes.{values_fit}
use Rattle.ygg_replay.specs.ygg_meaning.Violates.{shapes_fit}
use Rattle.ygg_replay.specs.ygg_meaning.Claims.{Claim}
use Rattle.ygg_eval_places.specs.ygg_bank.Values.{Inputs}
use Rattle.ygg_oblige_given.specs.ygg_oblige_laws.LayerTerms.{ShapesKept}
use Rattle.ygg_oblige_given.specs.ygg_oblige_laws.Numbers.{Numbers, arguments_of}
use Rattle.ygg_oblige_given.specs.ygg_oblige_laws.Worth.{Stand}
use Rattle.ygg_oblige_given.specs.ygg_oblige_laws.Schedules.{schedule_from}
use Rattle.ygg_replay.specs.ygg_sched.Fitting.{AreOfTypes, halt_meant}
use Rattle.ygg_replay.specs.ygg_sched.Sites.{Site}
use Rattle.ygg_replay.specs.ygg_sched.declared.schedule.Halt.{Halt}
use Rattle.ygg_replay.specs.ygg_sched.declared.schedule.Schedule.{Schedule}
use Rattle.ygg_oblige_schedule.specs.Fitted.{FitsAt}
use Rattle.ygg_oblige_schedule.specs.Schedules.{meant}
use Rattle.ygg_oblige_schedule.specs.Schedules.{AsMany}
use Rattle.ygg_oblige_schedule.proofs.Stands.{stand_parts}
use Rattle.ygg_oblige_schedule.proofs.Values.{no_types, of_types, same_types}

-- the shapes of a layer's variables keep the limits
pub record Kept (L : ClosedLayer) : Type 0 where
  pub state : ShapesKept L.layer.state
  pub memory : ShapesKept L.layer.memory
  pub low : ShapesKept L.low

-- values of the states are of their types
record StatesAre (L : ClosedLayer) (x : Schedule) : Type 0 where
  state : AreOfTypes L.layer.state x.state
  memory : AreOfTypes L.layer.memory x.memory
  low : AreOfTypes L.low x.low

no_stop : (stop : Option Halt) → option_map halt_meant stop ≡ None → stop ≡ None
no_stop None h = refl
no_stop (Some s) h = absurd (cc)

module _ (place : ℕ) (G : Below) (L : ClosedLayer) (inputs : Inputs) (n : Numbers) (s : Stand) (args : List Value) (kept : Kept L) (x : Schedule) where
  abbrev want : Obligation → meaning.Schedule
  want o = schedule_from G L inputs n o s args

  abbrev claim_on : Obligation → Claim
  claim_on o = record { layer = L; below = G; obligation = o }

  abbrev site_on : Obligation → Site
  site_on o = record { place = place; layer = L.layer; low = L.low; obligation = o }

  states : (o : Obligation) (y : meaning.Schedule) → meant (claim_on o) x ≡ y → AsMany x y → shaped L y.state y.memory y.low ≡ true → StatesAre L x
  states o y e many h =
      let parts = stand_parts L (record { vars = y.state; memory = y.memory; low = y.low }) h in record {
        state = same_types L.layer.state x.state y.state kept.state (ap (λ (z : meaning.Schedule). z.state) e) many.state parts.vars;
        memory = same_types L.layer.memory x.memory y.memory kept.memory (ap (λ (z : meaning.Schedule). z.memory) e) many.memory parts.memory;
        low = same_types L.low x.low y.low kept.low (ap (λ (z : meaning.Schedule). z.low) e) many.low parts.low;
      }

  no_args : (o : Obligation) (y : meaning.Schedule) → meant (claim_on o) x ≡ y → y.args ≡ [] → AreOfTypes [] x.args
  no_args o y e none = no_types x.args (ap length (ap (λ (z : meaning.Schedule). z.args) e ∙ none))

  pub fits_at : (o : Obligation) → shapes_fit L o (want o) ≡ true → ShapesKept (arguments_of o) → meant (claim_on o) x ≡ want o → AsMany x (want o) →
      FitsAt (site_on o) x
  fits_at Init h shapes e many = record {
    state = no_types x.state many.state;
    memory = no_types x.memory many.memory;
    low = no_types x.low many.low;
    args = no_args Init (want Init) e refl;
    stop = λ f. no_stop x.stop (ap (λ (z : meaning.Schedule). z.stop) e);
    wake = λ f. ap (λ (z : meaning.Schedule). z.wake) e;
    other = λ f. ap (λ (z : meaning.Schedule). z.other) e;
  }
  fits_at (CallOf o) h shapes e many =
      let both = and_parts (shaped L s.vars s.memory s.low) (values_fit o.arguments args) h in
      let given = states (CallOf o) (want (CallOf o)) e many both.0 in record {
        state = given.state;
        memory = given.memory;
        low = given.low;
        args = of_types o.arguments x.args shapes (ap (values_fit o.arguments) (ap (λ (z : meaning.Schedule). z.args) e) ∙ both.1);
        stop = λ f. no_stop x.stop (ap (λ (z : meaning.Schedule). z.stop) e);
        wake = λ f. ap (λ (z : meaning.Schedule). z.wake) e;
        other = λ f. ap (λ (z : meaning.Schedule). z.other) e;
      }
  fits_at (CutOf o) h shapes e many =
      let both = and_parts (shaped L s.vars s.memory s.low) (values_fit o.arguments args) h in
      let given = states (CutOf o) (want (CutOf o)) e many both.0 in record {
        state = given.state;
        memory = given.memory;
        low = given.low;
        args = of_types o.arguments x.args shapes (ap (values_fit o.arguments) (ap (λ (z : meaning.Schedule). z.args) e) ∙ both.1);
        stop = λ f. absurd (cc f);
        wake = λ f. absurd (cc f);
        other = λ f. ap (λ (z : meaning.Schedule). z.other) e;
      }
  fits_at (TickOf t) h shapes e many =
      let given = states (TickOf t) (want (TickOf t)) e many h in record {
        state = given.state;
        memory = given.memory;
        low = given.low;
        args = no_args (TickOf t) (want (TickOf t)) e refl;
        stop = λ f. no_stop x.stop (ap (λ (z : meaning.Schedule). z.stop) e);
        wake = λ f. ap (λ (z : meaning.Schedule). z.wake) e;
        other = λ f. ap (λ (z : meaning.Schedule). z.other) e;
      }
  fits_at (CutTickOf t) h shapes e many =
      let given = states (CutTickOf t) (want (CutTickOf t)) e many h in record {
        state = given.state;
        memory = given.memory;
        low = given.low;
        args = no_args (CutTickOf t) (want (CutTickOf t)) e refl;
        stop = λ f. absurd (cc f);
        wake = λ f. absurd (cc f);
        other = λ f. ap (λ (z : meaning.Schedule). z.other) e;
      }
  fits_at Idle h shapes e many =
      let given = states Idle (want Idle) e many h in record {
        state = given.state;
        memory = given.memory;
        low = given.low;
        args = no_args Idle (want Idle) e refl;
        stop = λ f. no_stop x.stop (ap (λ (z : meaning.Schedule). z.stop) e);
        wake = λ f. absurd (cc f);
        other = λ f. ap (λ (z : meaning.Schedule). z.other) e;
      }
  fits_at Again h shapes e many = record {
    state = no_types x.state many.state;
    memory = no_types x.memory many.memory;
    low = same_types L.low x.low s.low kept.low (ap (λ (z : meaning.Schedule). z.low) e) many.low h;
    args = no_args Again (want Again) e refl;
    stop = λ f. absurd (cc f);
    wake = λ f. absurd (cc f);
    other = λ f. absurd (cc f);
  }
