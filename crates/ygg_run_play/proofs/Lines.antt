-- From what a machine did to what a line of a script says.
use Rattle.std.proofs.Common.{◌≡◌, ℕ, Bool, true, List, [], ◌∷◌, ◌++◌, codes, Option, Some}
use Rattle.std.proofs.Common.{None, is_some, Result, Ok, Err, IsErrAnd, refl, sym, ap, ◌∙◌, subst, append_assoc}
use Rattle.std.proofs.lemmas.List.{append-nil}
use Rattle.ygg_value.specs.declared.row.Value.{Value}
use Rattle.ygg_syntax.specs.declared.tree.File.{File}
use Rattle.ygg_run_play.specs.ygg_disk.declared.power.Fuse.{Fuse}
use Rattle.ygg_run_play.specs.ygg_disk.declared.power.Power.{Power}
use Rattle.ygg_run_play.specs.ygg_meaning.Environments.{Env}
use Rattle.ygg_run_play.specs.ygg_meaning.Progress.{Answer}
use Rattle.ygg_run_play.specs.ygg_meaning.Machine.{Picks, State, Machine}
use Rattle.ygg_run_play.specs.ygg_meaning.Noted.{Note, picks_in}
use Rattle.ygg_run_play.specs.ygg_meaning.Trace.{Standing, Up, Down, Moment, Fails, Traces}
use Rattle.ygg_run_play.specs.ygg_meaning.Under.{Between}
use Rattle.ygg_run_play.specs.ygg_meaning_laws.Acts.{Taken}
use Rattle.ygg_run_play.specs.ygg_report.Lines.{ended}
use Rattle.ygg_run_play.specs.ygg_script.declared.command.Command.{Command}
use Rattle.ygg_run_play.specs.ygg_script.declared.command.Command.TheVariants.{Call, Tick, Lost, Fail, Keep}
use Rattle.ygg_run_play.specs.Named.{Wholly, CutShort, Happens, Leading, IsMissed, notes_in, picks_from, picks_of, operation_name, tick_name}
use Rattle.ygg_run_play.specs.Lines.{calls_lines, moment_lines, moments_lines, end_text}
use Rattle.ygg_run_play.specs.Scene.{Deed, Gives, calling, ticking, waking, After}
use Rattle.ygg_run_play.specs.Doing.{
  left_of,
  CutsAfterAll,
  Counted,
  Missed,
  StopsSo,
  LineDone,
  LineEnds,
  IsHalted,
  Holds,
  standing,
  command_end,
  waking_end,
}
use Rattle.ygg_run_play.specs.declared.scene.CommandOutcome.{CommandOutcome}
use Rattle.ygg_run_play.specs.declared.scene.CommandOutcome.TheVariants as outcome
use Rattle.ygg_run_play.specs.declared.halting.PlayHalted.{PlayHalted}
use Rattle.ygg_run_play.specs.declared.halting.PlayHalted.TheVariants as halted

-- the deed is what the line says, and these are the ends of its lines
pub record IsLine (f : File) (c : Command) (deed : Deed) (end : CommandOutcome → List ℕ) : Type 0 where
  pub whole : (answer : Answer) (notes : List Note) → Wholly f c notes (deed.whole answer notes ∷ [])
  pub cut : (notes : List Note) → CutShort f c notes (deed.cut notes ∷ [])
  pub whole_notes : (answer : Answer) (notes : List Note) → notes_in (deed.whole answer notes) ≡ notes
  pub cut_notes : (notes : List Note) → notes_in (deed.cut notes) ≡ notes
  pub whole_end : (answer : Answer) (notes : List Note) → Gives deed answer → end_text (deed.whole answer notes) ≡ end (outcome.Whole answer)
  pub cut_end : (notes : List Note) → end_text (deed.cut notes) ≡ end outcome.Down
  pub picks : (given : Picks) → picks_from c given ≡ given

pub call_line : (f : File) (op : ℕ) (args : List Value) → IsLine f (Call op args) (calling (operation_name f op) args) command_end
call_line f op args = record {
  whole = λ answer notes. (answer, refl);
  cut = λ notes. refl;
  whole_notes = λ answer notes. refl;
  cut_notes = λ notes. refl;
  whole_end = λ answer notes gives. refl;
  cut_end = λ notes. refl;
  picks = λ given. refl;
}

tick_end : (answer : Answer) → answer ≡ None → codes "done" ≡ command_end (outcome.Whole answer)
tick_end None h = refl
tick_end (Some v) h = absurd cc

pub tick_line : (f : File) (layer number : ℕ) → IsLine f (Tick layer number) (ticking (tick_name f layer number)) command_end
tick_line f layer number = record {
  whole = λ answer notes. refl;
  cut = λ notes. refl;
  whole_notes = λ answer notes. refl;
  cut_notes = λ notes. refl;
  whole_end = λ answer notes gives. tick_end answer gives;
  cut_end = λ notes. refl;
  picks = λ given. refl;
}

pub wake_line : (f : File) (within : Bool) (call : ℕ) → IsLine f (Fail within call) waking waking_end
wake_line f within call = record {
  whole = λ answer notes. refl;
  cut = λ notes. refl;
  whole_notes = λ answer notes. refl;
  cut_notes = λ notes. refl;
  whole_end = λ answer notes gives. refl;
  cut_end = λ notes. refl;
  picks = λ given. refl;
}

-- power that fails after all cuts each of the deeds there
pub call_cut : (M : Machine Env Note) (f : File) (op : ℕ) (args : List Value) → CutsAfterAll M (calling (operation_name f op) args)
call_cut M f op args = λ falls from to answer notes fallen whole lost. falls.calls from to (operation_name f op) args notes answer fallen whole lost

pub tick_cut : (M : Machine Env Note) (f : File) (layer number : ℕ) → CutsAfterAll M (ticking (tick_name f layer number))
tick_cut M f layer number = λ falls from to answer notes fallen whole lost. falls.ticks from to (tick_name f layer number) notes fallen whole lost

pub wake_cut : (M : Machine Env Note) → CutsAfterAll M waking
wake_cut M = λ falls from to answer notes fallen whole lost. falls.wakes from.base to notes fallen whole lost

-- the picks of one moment
one_picks : (m : Moment Note) (notes : List Note) → notes_in m ≡ notes → picks_of (m ∷ []) ≡ picks_in notes
one_picks m notes is = ap (λ (ns : List Note). picks_in ns) (append-nil (notes_in m) ∙ is)

-- its lines
one_lines : (m : Moment Note) (notes : List Note) (end lines lines' lines'' : List ℕ) → notes_in m ≡ notes → end_text m ≡ end →
    lines' ≡ lines ++ calls_lines notes → lines'' ≡ lines' ++ ended end → lines'' ≡ lines ++ moments_lines (m ∷ [])
one_lines m notes end lines lines' lines'' is ends first second =
    second ∙ ap (λ (l : List ℕ). l ++ ended end) first ∙ append_assoc lines (calls_lines notes) (ended end)
    ∙ ap (λ (ns : List Note). lines ++ (calls_lines ns ++ ended end)) (sym is)
    ∙ ap (λ (e : List ℕ). lines ++ (calls_lines (notes_in m) ++ ended e)) (sym ends) ∙ ap (λ (l : List ℕ). lines ++ l) (sym (append-nil (moment_lines m)))

module _ (M : Machine Env Note) (f : File) (c : Command) (deed : Deed) (end : CommandOutcome → List ℕ) (line : IsLine f c deed end) where
  one_leads : (picks left : Picks) (from to : Standing Env) (m : Moment Note) (notes : List Note) → notes_in m ≡ notes → Traces M from (m ∷ []) to →
      Taken true (picks_in notes) picks left → Leading M f c picks from (m ∷ []) to left
  one_leads picks left from to m notes is leads taken = record {
    leads = leads;
    takes = subst (λ (given : Picks). Taken true (picks_of (m ∷ [])) given left) (sym (line.picks picks))
        (subst (λ (took : Picks). Taken true took picks left) (sym (one_picks m notes is)) taken);
  }

  line_by : (before after : Power) (from to : State Env) (Runs Stands : Type 0) (lines lines' lines'' : List ℕ) (ended_so : CommandOutcome) (notes : List Note)
      (stop : Option Fuse) → before.fuse ≡ stop → StopsSo M deed stop from (left_of before.picks) ended_so notes to →
      Taken true (picks_in notes) (left_of before.picks) (left_of after.picks) → after.picks.past ≡ true → After ended_so Runs Stands →
      lines' ≡ lines ++ calls_lines notes → lines'' ≡ lines' ++ ended (end ended_so) →
      LineDone M f c before after (deed.from from) to Runs Stands lines lines''
  line_by before after from to Runs Stands lines lines' lines'' (outcome.Whole answer) notes stop is so taken past stands first second =
      let none : before.fuse ≡ None = is ∙ so.0 in
      let m = deed.whole answer notes in
      record {
        moments = m ∷ [];
        happens = subst (λ (s : Option Fuse). Happens f c s (m ∷ [])) (sym none) (notes, line.whole answer notes);
        leading = subst (λ (s : Option Fuse). Leading M f c (left_of before.picks) (deed.from from) (m ∷ []) (standing (is_some s) to) (left_of after.picks))
            (sym none)
            (one_leads (left_of before.picks) (left_of after.picks) (deed.from from) (Up to) m notes (line.whole_notes answer notes)
            (Up to, so.2, refl) taken);
        past = past;
        holds = subst (λ (s : Option Fuse). Holds (is_some s) Runs Stands) (sym none) stands;
        printed = one_lines m notes (end (outcome.Whole answer)) lines lines' lines'' (line.whole_notes answer notes) (line.whole_end answer notes so.1)
            first second;
      }
  line_by before after from to Runs Stands lines lines' lines'' outcome.Down notes stop is so taken past stands first second =
      let some : before.fuse ≡ Some so.0 = is ∙ so.1 in
      let m = deed.cut notes in
      record {
        moments = m ∷ [];
        happens = subst (λ (s : Option Fuse). Happens f c s (m ∷ [])) (sym some) (notes, line.cut notes, so.2);
        leading = subst (λ (s : Option Fuse). Leading M f c (left_of before.picks) (deed.from from) (m ∷ []) (standing (is_some s) to) (left_of after.picks))
            (sym some)
            (one_leads (left_of before.picks) (left_of after.picks) (deed.from from) (Down to.base) m notes (line.cut_notes notes)
            (Down to.base, so.3, refl) taken);
        past = past;
        holds = subst (λ (s : Option Fuse). Holds (is_some s) Runs Stands) (sym some) stands;
        printed = one_lines m notes (end outcome.Down) lines lines' lines'' (line.cut_notes notes) (line.cut_end notes) first second;
      }

  -- a line whose deed has ended so
  pub line_done : (before after : Power) (from to : State Env) (Runs Stands : Type 0) (lines lines' lines'' : List ℕ) (ended_so : CommandOutcome) →
      Counted M deed before.fuse from (left_of before.picks) after to Runs Stands lines lines' ended_so → lines'' ≡ lines' ++ ended (end ended_so) →
      LineDone M f c before after (deed.from from) to Runs Stands lines lines''
  line_done before after from to Runs Stands lines lines' lines'' ended_so d second =
      line_by before after from to Runs Stands lines lines' lines'' ended_so d.notes before.fuse refl d.stopped.so d.stopped.takes d.past d.stands d.printed
      second

  -- one whose stop isn't reached
  pub line_missed : (stop : Option Fuse) (picks : Picks) (from : State Env) → Missed M deed stop from picks → IsMissed M f c stop picks (deed.from from)
  line_missed stop picks from m =
      let moment = deed.whole m.answer m.notes in
      record {
        point = m.point;
        is = m.is;
        notes = m.notes;
        ms = moment ∷ [];
        to = Up m.to;
        left = m.left;
        wholly = line.whole m.answer m.notes;
        leading = one_leads picks m.left (deed.from from) (Up m.to) moment m.notes (line.whole_notes m.answer m.notes) (Up m.to, m.leads, refl) m.takes;
        misses = m.misses;
      }

-- the line `lost`: power fails, and then what a waking does
lost_happens : (f : File) (within : Bool) (call : ℕ) (stop : Option Fuse) (ms : List (Moment Note)) → Happens f (Fail within call) stop ms →
    Happens f Lost stop (Fails Between [] ∷ ms)
lost_happens f within call None ms h = (h.0, ap (λ (l : List (Moment Note)). Fails Between [] ∷ l) h.1)
lost_happens f within call (Some point) ms h = (h.0, ap (λ (l : List (Moment Note)). Fails Between [] ∷ l) h.1, h.2)

pub lost_done : (M : Machine Env Note) (f : File) (within : Bool) (call : ℕ) (before after : Power) (from to : State Env) (fallen : Env)
    (Runs Stands : Type 0) (lines lines' lines'' : List ℕ) → M.Loses from [] fallen → lines' ≡ lines ++ ended (codes "down") →
    LineDone M f (Fail within call) before after (Down fallen) to Runs Stands lines' lines'' →
    LineDone M f Lost before after (Up from) to Runs Stands lines lines''
lost_done M f within call before after from to fallen Runs Stands lines lines' lines'' lost first d = record {
  moments = Fails Between [] ∷ d.moments;
  happens = lost_happens f within call before.fuse d.moments d.happens;
  leading = record { leads = (Down fallen, lost, d.leading.leads); takes = d.leading.takes };
  past = d.past;
  holds = d.holds;
  printed = d.printed ∙ ap (λ (l : List ℕ). l ++ moments_lines d.moments) first
      ∙ append_assoc lines (ended (codes "down")) (moments_lines d.moments);
}

pub lost_missed : (M : Machine Env Note) (f : File) (within : Bool) (call : ℕ) (stop : Option Fuse) (picks : Picks) (from : State Env) (fallen : Env) →
    M.Loses from [] fallen → IsMissed M f (Fail within call) stop picks (Down fallen) → IsMissed M f Lost stop picks (Up from)
lost_missed M f within call stop picks from fallen lost m = record {
  point = m.point;
  is = m.is;
  notes = m.notes;
  ms = Fails Between [] ∷ m.ms;
  to = m.to;
  left = m.left;
  wholly = ap (λ (l : List (Moment Note)). Fails Between [] ∷ l) m.wholly;
  leading = record { leads = (Down fallen, lost, m.leading.leads); takes = m.leading.takes };
  misses = m.misses;
}

-- the line `keep`
pub keep_done : (M : Machine Env Note) (f : File) (picks : Picks) (before after : Power) (s : State Env) (Runs Stands : Type 0) (lines : List ℕ) →
    before.fuse ≡ None → before.picks.past ≡ true → Runs →
    after ≡ record before { picks = record { bits = picks; next = 0; past = before.picks.past } } →
    LineDone M f (Keep picks) before after (Up s) s Runs Stands lines lines
keep_done M f picks before after s Runs Stands lines none past runs is = record {
  moments = [];
  happens = subst (λ (stop : Option Fuse). Happens f (Keep picks) stop []) (sym none) ([], (refl, refl));
  leading = record {
    leads = subst (λ (stop : Option Fuse). Up s ≡ standing (is_some stop) s) (sym none) refl;
    takes = ap (λ (p : Power). left_of p.picks) is;
  };
  past = ap (λ (p : Power). p.picks.past) is ∙ past;
  holds = subst (λ (stop : Option Fuse). Holds (is_some stop) Runs Stands) (sym none) runs;
  printed = sym (append-nil lines);
}

-- a line that is given up, since its deed ended so
pub line_halted : (M : Machine Env Note) (f : File) (c : Command) (deed : Deed) (end : CommandOutcome → List ℕ) → IsLine f c deed end → (number : ℕ)
    (before after : Power) (from to : State Env) (Runs Stands : Type 0) (lines lines' : List ℕ) (h : PlayHalted) (result : Result (Unit {0}) PlayHalted) →
    IsErrAnd result (λ r. r ≡ h) → IsHalted (Missed M deed before.fuse from (left_of before.picks)) number h →
    LineEnds M f c number before after (deed.from from) to Runs Stands lines lines' result
line_halted M f c deed end line number before after from to Runs Stands lines lines' h (Ok done) same halts = absurd same
line_halted M f c deed end line number before after from to Runs Stands lines lines' h (Err r) same halts =
    subst (λ (x : PlayHalted). IsHalted (IsMissed M f c before.fuse (left_of before.picks) (deed.from from)) number x) (sym same) (by h halts)
  where
    by : (h : PlayHalted) → IsHalted (Missed M deed before.fuse from (left_of before.picks)) number h →
        IsHalted (IsMissed M f c before.fuse (left_of before.picks) (deed.from from)) number h
    by (halted.Unreached at) (is, missed) = (is, line_missed M f c deed end line before.fuse (left_of before.picks) from missed)
    by halted.SinkFailed none = none
    by halted.Memory memory = memory

-- the line `lost`, as what follows power failing ends
pub lost_ends : (M : Machine Env Note) (f : File) (within : Bool) (call number : ℕ) (before after : Power) (from to : State Env) (fallen : Env)
    (Runs Stands : Type 0) (lines lines' lines'' : List ℕ) → M.Loses from [] fallen → lines' ≡ lines ++ ended (codes "down") →
    (result : Result (Unit {0}) PlayHalted) → LineEnds M f (Fail within call) number before after (Down fallen) to Runs Stands lines' lines'' result →
    LineEnds M f Lost number before after (Up from) to Runs Stands lines lines'' result
lost_ends M f within call number before after from to fallen Runs Stands lines lines' lines'' lost first (Ok done) d =
    lost_done M f within call before after from to fallen Runs Stands lines lines' lines'' lost first d
lost_ends M f within call number before after from to fallen Runs Stands lines lines' lines'' lost first (Err (halted.Unreached r)) (is, missed) =
    (is, lost_missed M f within call before.fuse (left_of before.picks) from fallen lost missed)
lost_ends M f within call number before after from to fallen Runs Stands lines lines' lines'' lost first (Err halted.SinkFailed) none = none
lost_ends M f within call number before after from to fallen Runs Stands lines lines' lines'' lost first (Err halted.Memory) memory = memory
