-- Commands of a tower, as they are seen from above.
use Rattle.std.proofs.Common.{◌≡◌, ℕ, ◌≤◌, Bool, false, IsTrue, IsSome, List, [], map, slice_get, Some, None, refl, sym, ap, ◌∙◌, subst}
use Rattle.ygg_base.specs.Outside.{Rose}
use Rattle.ygg_value.specs.declared.row.Value.{Value}
use Rattle.ygg_syntax.specs.declared.tree.File.{File}
use Rattle.ygg_eval.specs.ygg_type_rules.declared.scope.Signature.{Signature}
use Rattle.ygg_eval.specs.ygg_disk.declared.power.Power.{Power}
use Rattle.ygg_eval.specs.ygg_meaning.Environments.{Name}
use Rattle.ygg_eval.specs.ygg_meaning.Progress.{Answer}
use Rattle.ygg_eval.specs.ygg_meaning.Machine.{State, TickName, Machine}
use Rattle.ygg_eval.specs.ygg_meaning.Noted.{Note}
use Rattle.ygg_eval.specs.ygg_meaning.Mirror.{SameOn, Mirrors}
use Rattle.ygg_eval.specs.Layers.{signatures_at}
use Rattle.ygg_eval.specs.Lower.{Standing, Meaning, Ending, Whole, Down, Failed, Starved, Cause, PowerLoss, GivenUp, AfterWhole, Serves}
use Rattle.ygg_machine.specs.Leaves.{LeaveBy}
use Rattle.ygg_machine.specs.FloorStacks.{Told, Retold, Renoted, is_told}
use Rattle.ygg_machine.specs.Commands.{Command, formatting, calling, ticking, waking, Ended}
use Rattle.ygg_machine.specs.Towers.{Rooted, CommandEnds, FormatEnds, StillStands, LosesPower}
use Rattle.ygg_machine.specs.Bottoms.{bottom_on, FormatFalls, View, state_seen, ViewRuns, StillLooks, ViewEnds, ViewLoses, LosesAll, stage_seen, formats}
use Rattle.ygg_machine.specs.Viewed.{Seen, SeesSteps, IsSeen}

-- commands of two machines, of which the one mirrors the other
module _ {B C X Y : Type 0} (base : B → C) (tell : List X → List Y) (M : Cause → Machine B X) (N : Cause → Machine C Y) where
  abbrev told : State B → State C
  told s = record { memories = s.memories; base = base s.base }

  -- what the first command does and leaves the second does and leaves
  pub record Carries (first : Command B X) (second : Command C Y) : Type 0 where
    pub does : (cause : Cause) (s s' : State B) (notes : List X) (answer : Answer) → first.Does (M cause) s notes answer s' →
        second.Does (N cause) (told s) (tell notes) answer (told s')
    pub leaves : (cause : Cause) (s : State B) (notes : List X) (fallen : B) → first.Leaves cause (M cause) s notes fallen →
        second.Leaves cause (N cause) (told s) (tell notes) (base fallen)

  module _ (U : (cause : Cause) → Mirrors (Told base) (Retold tell) (M cause) (N cause)) where
    same : (s : State B) → SameOn (Told base) (told s) s
    same s = record { memories = refl; bases = refl }

    pub calling_carries : (name : Name) (args : List Value) → Carries (calling name args) (calling name args)
    calling_carries name args = record {
      does = λ cause s s' notes answer h.
          let (t, ns, step, r, are) = (U cause).calls (told s) s s' name args notes answer (same s) h in
          subst (λ (x : State C). (N cause).Calls (told s) name args (tell notes) answer x) (is_told base t s' r)
          (subst (λ (x : List Y). (N cause).Calls (told s) name args x answer t) are step);
      leaves = λ cause s notes fallen h.
          let (g, ns, step, r, are) = (U cause).falls (told s) s name args notes fallen (same s) h in
          subst (λ (x : C). (N cause).Falls (told s) name args (tell notes) x) r
          (subst (λ (x : List Y). (N cause).Falls (told s) name args x g) are step);
    }

    pub ticking_carries : (name : TickName) → Carries (ticking name) (ticking name)
    ticking_carries name = record {
      does = λ cause s s' notes answer h.
          let (t, ns, step, r, are) = (U cause).ticks (told s) s s' name notes (same s) h.1 in (
            h.0,
            subst (λ (x : State C). (N cause).Ticks (told s) name (tell notes) x) (is_told base t s' r)
                (subst (λ (x : List Y). (N cause).Ticks (told s) name x t) are step),
          );
      leaves = λ cause s notes fallen h.
          let (g, ns, step, r, are) = (U cause).tick_falls (told s) s name notes fallen (same s) h in
          subst (λ (x : C). (N cause).TickFalls (told s) name (tell notes) x) r
          (subst (λ (x : List Y). (N cause).TickFalls (told s) name x g) are step);
    }

    pub waking_carries : Carries waking waking
    waking_carries = record {
      does = λ cause s s' notes answer h.
          let (t, ns, step, r, are) = (U cause).wakes (base s.base) s.base notes s' refl h.1 in (
            h.0,
            subst (λ (x : State C). (N cause).Wakes (base s.base) (tell notes) x) (is_told base t s' r)
                (subst (λ (x : List Y). (N cause).Wakes (base s.base) x t) are step),
          );
      leaves = λ cause s notes fallen h.
          let (g, ns, step, r, are) = (U cause).wake_falls (base s.base) s.base fallen notes refl h in
          subst (λ (x : C). (N cause).WakeFalls (base s.base) (tell notes) x) r
          (subst (λ (x : List Y). (N cause).WakeFalls (base s.base) x g) are step);
    }

    pub formatting_carries : (Falls : Cause → List X → B → Type 0) (Also : Cause → List Y → C → Type 0) →
        ((cause : Cause) (notes : List X) (fallen : B) → Falls cause notes fallen → Also cause (tell notes) (base fallen)) →
        Carries (formatting Falls) (formatting Also)
    formatting_carries Falls Also also = record {
      does = λ cause s s' notes answer h.
          let (t, ns, step, r, are) = (U cause).starts s' notes h.1 in (
            h.0,
            subst (λ (x : State C). (N cause).Starts x (tell notes)) (is_told base t s' r) (subst (λ (x : List Y). (N cause).Starts t x) are step),
          );
      leaves = λ cause s notes fallen h. also cause notes fallen h;
    }

module _ {T : Type 0} (M : Meaning T) (R : T → Rooted T) (Stands : File → T → Type 0) (X : Seen T) (sees : IsSeen M R Stands X) (file : File)
    (from to : Standing T) (stands : Stands file from.machine) where
  abbrev N : Meaning T
  N = (R from.machine).meaning

  V : SeesSteps (R from.machine).meaning (λ cause file notes fallen. (R from.machine).FormatFalls cause file notes fallen) Stands X from.machine
  V = sees.steps from.machine

  abbrev view : View X.Ground
  view = X.look from.machine

  abbrev view' : View X.Ground
  view' = X.look to.machine

  abbrev low : Cause → Machine N.behavior.Base N.behavior.Note
  low cause = N.behavior.machine cause file (N.number from.machine)

  abbrev high : ℕ → Cause → Machine X.Ground Note
  high n cause = bottom_on X.means cause file (X.look from.machine).base n

  module _ (first : Command N.behavior.Base N.behavior.Note) (second : Command X.Ground Note)
      (carry : Carries V.base (map V.note) low (high (N.number from.machine)) first second) where
    abbrev Seen_so : Ending → Type 0
    Seen_so e = Ended (high (N.number from.machine)) second (stage_seen X.means file view from.power) (stage_seen X.means file view' to.power)
        (λ how notes. LeaveBy X.means how notes from.power to.power) e

    does_so : (cause : Cause) (notes : List N.behavior.Note) (answer : Answer) →
        first.Does (low cause) (N.behavior.state file from.machine) notes answer (N.behavior.state file to.machine) →
        second.Does (high (N.number from.machine) cause) (state_seen file view) (map V.note notes) answer (state_seen file view')
    does_so cause notes answer h =
        subst (λ (s : State X.Ground). second.Does (bottom_on X.means cause file (X.look from.machine).base (N.number from.machine)) s
        (map V.note notes) answer
        (state_seen file (X.look to.machine))) (V.state file from.machine)
        (subst (λ (s : State X.Ground). second.Does (bottom_on X.means cause file (X.look from.machine).base (N.number from.machine))
        (record { memories = (N.behavior.state file from.machine).memories; base = V.base (N.behavior.state file from.machine).base })
        (map V.note notes) answer s)
        (V.state file to.machine) (carry.does cause (N.behavior.state file from.machine) (N.behavior.state file to.machine) notes answer h))

    leaves_so : (cause : Cause) (notes : List N.behavior.Note) →
        first.Leaves cause (low cause) (N.behavior.state file from.machine) notes (N.behavior.state file to.machine).base →
        second.Leaves cause (high (N.number from.machine) cause) (state_seen file view) (map V.note notes) view'.base
    leaves_so cause notes h =
        subst (λ (s : State X.Ground). second.Leaves cause (bottom_on X.means cause file (X.look from.machine).base (N.number from.machine)) s
        (map V.note notes) (X.look to.machine).base) (V.state file from.machine)
        (subst (λ (s : State X.Ground). second.Leaves cause (bottom_on X.means cause file (X.look from.machine).base (N.number from.machine))
        (record { memories = (N.behavior.state file from.machine).memories; base = V.base (N.behavior.state file from.machine).base })
        (map V.note notes) s.base)
        (V.state file to.machine) (carry.leaves cause (N.behavior.state file from.machine) notes (N.behavior.state file to.machine).base h))

    later_so : N.faults from.machine ≤ N.faults to.machine → X.means.faults view.base ≤ X.means.faults view'.base
    later_so h =
        subst (λ (n : ℕ). n ≤ X.means.faults (X.look to.machine).base) (V.faults from.machine)
        (subst (λ (n : ℕ). N.faults from.machine ≤ n) (V.faults to.machine) h)

    rose_so : Rose (N.faults from.machine) (N.faults to.machine) → Rose (X.means.faults view.base) (X.means.faults view'.base)
    rose_so h =
        subst (λ (n : ℕ). Rose n (X.means.faults (X.look to.machine).base)) (V.faults from.machine)
        (subst (λ (n : ℕ). Rose (N.faults from.machine) n) (V.faults to.machine) h)

    seen_so : (e : Ending) → CommandEnds N file first e from to → Seen_so e
    seen_so (Whole answer) h = record {
      so = record {
        notes = map V.note h.so.notes;
        does = λ cause. does_so cause h.so.notes answer (h.so.does cause);
        left = V.leaves None file from to h.so.notes h.so.left;
        passes = h.so.passes;
      };
      later = later_so h.later;
    }
    seen_so Down h = record {
      so = record {
        notes = map V.note h.so.notes;
        leaves = leaves_so PowerLoss h.so.notes h.so.leaves;
        left = V.leaves (Some PowerLoss) file from to h.so.notes h.so.left;
        passes = h.so.passes;
        named = h.so.named;
      };
      later = later_so h.later;
    }
    seen_so Failed h = record {
      so = record {
        stopped = record {
          notes = map V.note h.so.stopped.notes;
          leaves = leaves_so GivenUp h.so.stopped.notes h.so.stopped.leaves;
          left = V.leaves (Some GivenUp) file from to h.so.stopped.notes h.so.stopped.left;
        };
        rose = rose_so h.so.rose;
        passes = h.so.passes;
        unnamed = h.so.unnamed;
      };
      later = later_so h.later;
    }
    seen_so Starved h = record {
      so = record {
        notes = map V.note h.so.notes;
        leaves = leaves_so GivenUp h.so.notes h.so.leaves;
        left = V.leaves (Some GivenUp) file from to h.so.notes h.so.left;
      };
      later = later_so h.later;
    }

  mirrors : (cause : Cause) → Mirrors (Told V.base) (Renoted V.note) (low cause) (high (N.number from.machine) cause)
  mirrors cause = V.steps cause file from.machine stands

  at_height : (second : ℕ → Command X.Ground Note) (e : Ending) →
      Ended (high (N.number from.machine)) (second (N.number from.machine)) (stage_seen X.means file view from.power) (stage_seen X.means file view' to.power)
      (λ how notes. LeaveBy X.means how notes from.power to.power) e → ViewEnds X.means file (second view.height) e view from.power view' to.power
  at_height second e h =
      subst (λ (n : ℕ). Ended (λ cause. bottom_on X.means cause file (X.look from.machine).base n) (second n)
      (stage_seen X.means file (X.look from.machine) from.power) (stage_seen X.means file (X.look to.machine) to.power)
      (λ how notes. LeaveBy X.means how notes from.power to.power) e) (V.number from.machine) h

  pub call_seen : (name : Name) (args : List Value) (e : Ending) → CommandEnds N file (calling name args) e from to →
      ViewEnds X.means file (calling name args) e view from.power view' to.power
  call_seen name args e h =
      at_height (λ n. calling name args) e (seen_so (calling name args) (calling name args)
      (calling_carries V.base (map V.note) low (high (N.number from.machine)) mirrors name args) e h)

  pub tick_seen : (name : TickName) (e : Ending) → CommandEnds N file (ticking name) e from to →
      ViewEnds X.means file (ticking name) e view from.power view' to.power
  tick_seen name e h =
      at_height (λ n. ticking name) e (seen_so (ticking name) (ticking name)
      (ticking_carries V.base (map V.note) low (high (N.number from.machine)) mirrors name) e h)

  pub wake_seen : (e : Ending) → CommandEnds N file waking e from to → ViewEnds X.means file waking e view from.power view' to.power
  wake_seen e h = at_height (λ n. waking) e (seen_so waking waking (waking_carries V.base (map V.note) low (high (N.number from.machine)) mirrors) e h)

  pub format_seen : (e : Ending) → FormatEnds (R from.machine) file e from to →
      ViewEnds X.means file (formats X.means file view) e view from.power view' to.power
  format_seen e h =
      at_height (λ n. formatting (λ cause notes fallen. FormatFalls X.means cause file (X.look from.machine).base n notes fallen)) e
      (seen_so (formatting (λ cause notes fallen. (R from.machine).FormatFalls cause file notes fallen))
      (formatting (λ cause notes fallen. FormatFalls X.means cause file (X.look from.machine).base (N.number from.machine) notes fallen))
      (formatting_carries V.base (map V.note) low (high (N.number from.machine)) mirrors
      (λ cause notes fallen. (R from.machine).FormatFalls cause file notes fallen)
      (λ cause notes fallen. FormatFalls X.means cause file (X.look from.machine).base (N.number from.machine) notes fallen)
      (λ cause notes fallen falls. V.falls cause file notes fallen stands falls)) e h)

  pub lose_seen : (N.behavior.machine PowerLoss file (N.number from.machine)).Loses (N.behavior.state file from.machine) []
      (N.behavior.state file to.machine).base →
      ViewLoses X.means file view view'
  lose_seen h =
      let (g, ns, step, r, are) = (mirrors PowerLoss).loses (record {
        memories = (N.behavior.state file from.machine).memories;
        base = V.base (N.behavior.state file from.machine).base;
      }) (N.behavior.state file from.machine) [] (N.behavior.state file to.machine).base (record { memories = refl; bases = refl }) h in
      let none : ns ≡ [] = are in
      let here = subst (λ (x : X.Ground). (bottom_on X.means PowerLoss file (X.look from.machine).base (N.number from.machine)).Loses (record {
        memories = (N.behavior.state file from.machine).memories;
        base = V.base (N.behavior.state file from.machine).base;
      }) [] x) (r ∙ ap (λ (s : State X.Ground). s.base) (V.state file to.machine))
      (subst (λ (x : List Note). (bottom_on X.means PowerLoss file (X.look from.machine).base (N.number from.machine)).Loses (record {
        memories = (N.behavior.state file from.machine).memories;
        base = V.base (N.behavior.state file from.machine).base;
      }) x g) none step) in
      subst (λ (n : ℕ). (bottom_on X.means PowerLoss file (X.look from.machine).base n).Loses (state_seen file (X.look from.machine)) []
      (X.look to.machine).base) (V.number from.machine)
      (subst (λ (s : State X.Ground). (bottom_on X.means PowerLoss file (X.look from.machine).base (N.number from.machine)).Loses s []
      (X.look to.machine).base) (V.state file from.machine) here)

-- it stands from above, and runs
module _ {T : Type 0} (M : Meaning T) (R : T → Rooted T) (Stands : File → T → Type 0) (X : Seen T) (sees : IsSeen M R Stands X) (file : File) where
  pub still_looks : (from to : T) → StillStands M Stands file from to → StillLooks X.means file (X.look from) (X.look to)
  still_looks from to h = record {
    height = sym (sees.number to) ∙ h.number ∙ sees.number from;
    stands = sees.stood file to h.stands;
  }

  pub runs_seen : (n : ℕ) (at : Standing T) (e : Ending) → AfterWhole e (Serves M file n at) → AfterWhole e (ViewRuns X.means file (X.look at.machine))
  runs_seen n at (Whole answer) h = sees.fitted file at.machine h.fits
  runs_seen n at Down h = tt
  runs_seen n at Failed h = tt
  runs_seen n at Starved h = tt

  pub serves_seen : (at : Standing T) → ViewRuns X.means file (X.look at.machine) → (IsSome at.power.fuse → IsTrue X.means.can_lose) →
      Serves M file (M.number at.machine) at
  serves_seen at h fuse = record {
    numbered = refl;
    fits = sees.fits file at.machine h;
    fuse = λ is. subst (λ (b : Bool). IsTrue b) (sym sees.can_lose) (fuse is);
  }

-- some power, of which nothing is said
abbrev unlit : Power
unlit = record { picks = record { bits = []; next = 0; past = false }; fuse = None; passed = 0; events = None }

-- power loss, in every file
pub loses_seen : {T : Type 0} (M : Meaning T) (R : T → Rooted T) (Stands : File → T → Type 0) (X : Seen T) → IsSeen M R Stands X → (from to : T) →
    LosesPower (R from).meaning Stands from to → LosesAll X.means (X.look from) (X.look to)
loses_seen {T} M R Stands X sees from to h =
    let V = sees.steps from in
    record {
      later = subst (λ (n : ℕ). n ≤ X.means.faults (X.look to).base) (V.faults from)
          (subst (λ (n : ℕ). (R from).meaning.faults from ≤ n) (V.faults to) h.later);
      looks = λ file v. record {
        height = sym (V.number to) ∙ h.number ∙ V.number from;
        stands = sees.stood file to (h.stands file (sees.stands file from v));
      };
      lost = λ file v. lose_seen M R Stands X sees file (record { machine = from; power = unlit }) (record { machine = to; power = unlit })
          (sees.stands file from v) (h.lost file (sees.stands file from v));
    }

-- a call of the operation at a place
pub call_seen_as : {T : Type 0} (M : Meaning T) (R : T → Rooted T) (Stands : File → T → Type 0) (X : Seen T) (sees : IsSeen M R Stands X) (file : File)
    (from to : Standing T) → Stands file from.machine → (op : ℕ) (args : List Value) (e : Ending) →
    ((name : Name) (o : Signature) → slice_get (signatures_at file (M.number from.machine)) op ≡ Some (name, o) →
    CommandEnds (R from.machine).meaning file (calling name args) e from to) →
    (name : Name) (o : Signature) → slice_get (signatures_at file (X.look from.machine).height) op ≡ Some (name, o) →
    ViewEnds X.means file (calling name args) e (X.look from.machine) from.power (X.look to.machine) to.power
call_seen_as M R Stands X sees file from to stands op args e h name o is =
    call_seen M R Stands X sees file from to stands name args e
    (h name o (ap (λ (n : ℕ). slice_get (signatures_at file n) op) (sees.number from.machine) ∙ is))
