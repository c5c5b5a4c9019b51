-- What a script names is a history of the file's layers.
use Rattle.std.proofs.Common.{◌≡◌, List, [], ◌∷◌, ◌++◌, Option, Some, None, refl, sym, ap, ◌∙◌, subst}
use Rattle.ygg_syntax.specs.declared.tree.File.{File}
use Rattle.ygg_script.specs.ygg_disk.declared.power.Fuse.{Fuse}
use Rattle.ygg_script.specs.ygg_meaning.Environments.{Env}
use Rattle.ygg_script.specs.ygg_meaning.Machine.{Picks, State, Machine}
use Rattle.ygg_script.specs.ygg_meaning.DiskMachine.{disk_store}
use Rattle.ygg_script.specs.ygg_meaning.Stack.{BottomOf, layers_of}
use Rattle.ygg_script.specs.ygg_meaning.Under.{Failure, InCall, InTick, Between, FailsBy, WakesAfter, Survives}
use Rattle.ygg_script.specs.ygg_meaning.Mirror.{SameOn, Mirrors}
use Rattle.ygg_script.specs.ygg_meaning.History.{Entry, Called, Cut, Ticked, CutTick, Lost, Step, Steps}
use Rattle.ygg_script.specs.ygg_meaning.Trace.{Standing, Up, Down, Moment, Traces, entries_of}
use Rattle.ygg_script.specs.ygg_meaning.Noted.{Note}
use Rattle.ygg_script.specs.ygg_meaning.Grounds.{ArePicks}
use Rattle.ygg_script.specs.ygg_meaning.StepLaws.{Same}
use Rattle.ygg_script.proofs.of_ygg_meaning.Stores.{forget}
use Rattle.ygg_script.proofs.of_ygg_meaning.Traced.{steps_of}
use Rattle.ygg_script.specs.declared.command.Command.{Command}
use Rattle.ygg_script.specs.declared.command.Command.TheVariants as line
use Rattle.ygg_run_play.specs.Named.{stop_after, Happens, Names}
use Rattle.ygg_run_play.specs.Played.{Noted}
use Rattle.ygg_run_play.specs.Laws.{PlaysAreHistories}
use Rattle.ygg_run_play.proofs.Blocks.{Tidy}
use Rattle.ygg_run_play.proofs.Scripted.{IsDeed, whole_by}
use Rattle.ygg_run_play.proofs.Disks.{lost, does, cuts}
use Rattle.ygg_run_play.proofs.OneText.{noted_tidy}

-- where power has failed, a `fail` line is next
abbrev Waits : Standing Env → List Command → Type 0
Waits (Up s) cs = Unit {0}
Waits (Down e) cs = (stop : Fuse) × (stop_after cs ≡ Some stop)

-- the machine runs where no stop follows
abbrev Lands : Option Fuse → Standing Env → Type 0
Lands None to = (s : State Env) × (to ≡ Up s)
Lands (Some stop) to = Unit {0}

waits_next : (to : Standing Env) (stop : Option Fuse) (cs : List Command) → stop_after cs ≡ stop → Lands stop to → Waits to cs
waits_next (Up s) stop cs is h = tt
waits_next (Down e) (Some stop) cs is h = (stop, is)
waits_next (Down e) None cs is h = let k : Down e ≡ Up h.0 = h.1 in absurd (cc)

none_some : {A : Type 0} (o : Option Fuse) (stop : Fuse) → o ≡ None → o ≡ Some stop → A
none_some o stop h g = let k : None ≡ Some stop = sym h ∙ g in absurd (cc)

module _ (lost : Env → Env) (does cuts : Env → Note → Env) (M : Machine Env Note) (f : File) (tidy : Tidy lost does cuts M) where
  traces_append : (from mid to : Standing Env) (a b : List (Moment Note)) → Traces M from a mid → Traces M mid b to → Traces M from (a ++ b) to
  traces_append from mid to [] b h g = subst (λ s. Traces M s b to) (sym h) g
  traces_append from mid to (m ∷ a) b h g = (h.0, h.1, traces_append h.0 mid to a b h.2 g)

  deed_lands : (c : Command) → IsDeed c → (stop : Option Fuse) (ms : List (Moment Note)) (from to : Standing Env) → Happens f c stop ms →
      Traces M from ms to → Lands stop to
  deed_lands c d None ms from to h t = let w = whole_by lost does cuts M f tidy c d h.0 ms from to h.1 t in (w.state, w.to_is)
  deed_lands c d (Some stop) ms from to h t = tt

  kept_lands : (given : Picks) (cs : List Command) (stop : Option Fuse) (ms : List (Moment Note)) (from to : Standing Env) → Waits from (line.Keep given ∷ cs) →
      Happens f (line.Keep given) stop ms → Traces M from ms to → Lands stop to
  kept_lands given cs None ms (Up s) to w h t = (s, sym (subst (λ z. Traces M (Up s) z to) h.1.1 t))
  kept_lands given cs None ms (Down e) to w h t = none_some (stop_after (line.Keep given ∷ cs)) w.0 refl w.1
  kept_lands given cs (Some stop) ms from to w h t = tt

  lands : (c : Command) (cs : List Command) (stop : Option Fuse) (ms : List (Moment Note)) (from to : Standing Env) → Waits from (c ∷ cs) →
      Happens f c stop ms → Traces M from ms to → Lands stop to
  lands (line.Call op args) cs stop ms from to w h t = deed_lands (line.Call op args) tt stop ms from to h t
  lands (line.Tick layer number) cs stop ms from to w h t = deed_lands (line.Tick layer number) tt stop ms from to h t
  lands line.Lost cs stop ms from to w h t = deed_lands line.Lost tt stop ms from to h t
  lands (line.Fail within call) cs stop ms from to w h t = deed_lands (line.Fail within call) tt stop ms from to h t
  lands (line.Keep given) cs stop ms from to w h t = kept_lands given cs stop ms from to w h t

  -- the moments lead to where the machine runs
  traced : (cs : List Command) (picks : Picks) (from : Standing Env) (ms : List (Moment Note)) → Waits from cs → Names M f cs picks from ms →
      (s : State Env) × Traces M from ms (Up s)
  traced [] picks (Up s) ms w h = (s, subst (λ z. Traces M (Up s) z (Up s)) (sym h) refl)
  traced [] picks (Down e) ms w h = none_some (stop_after []) w.0 refl w.1
  traced (c ∷ cs) picks from ms w (here, rest, next, left, is, happens, leading, more) =
      let then_waits = waits_next next (stop_after cs) cs refl (lands c cs (stop_after cs) here from next w happens leading.leads) in
      let r = traced cs left next rest then_waits more in
      (r.0, subst (λ z. Traces M from z (Up r.0)) (sym is) (traces_append from next (Up r.0) here rest leading.leads r.1))

-- ---- without notes

module _ {X Y : Type 0} (Q : List X → List Y → Type 0) (M : Machine Env X) (N : Machine Env Y) (U : Mirrors Same Q M N) where
  same_on : (s : State Env) → SameOn Same s s
  same_on s = record { memories = refl; bases = refl }

  same_is : (t s : State Env) → SameOn Same t s → t ≡ s
  same_is t s h = let a : t.memories ≡ s.memories = h.memories in let b : t.base ≡ s.base = h.bases in
      ap (λ (v : List Env). let r : State Env = record { memories = v; base = t.base } in r) a
      ∙ ap (λ (v : Env). let r : State Env = record { memories = s.memories; base = v } in r) b

  fails : (how : Failure) (s : State Env) (a : List X) (f : Env) → FailsBy M how s a f → (b : List Y) × FailsBy N how s b f
  fails (InCall name args) s a f h =
      let (g, b, k, is, q) = U.falls s s name args a f (same_on s) h in (b, subst (λ v. N.Falls s name args b v) is k)
  fails (InTick name) s a f h = let (g, b, k, is, q) = U.tick_falls s s name a f (same_on s) h in (b, subst (λ v. N.TickFalls s name b v) is k)
  fails Between s a f h = let (g, b, k, is, q) = U.loses s s a f (same_on s) h in (b, subst (λ v. N.Loses s b v) is k)

  woken : (fs : List Env) (f : Env) (s : State Env) → WakesAfter M f fs s → WakesAfter N f fs s
  woken [] f s (a, h) = let (t, b, k, is, q) = U.wakes f f a s refl h in (b, subst (λ v. N.Wakes f b v) (same_is t s is) k)
  woken (g ∷ fs) f s (a, h, rest) = let (e, b, k, is, q) = U.wake_falls f f g a refl h in (b, subst (λ v. N.WakeFalls f b v) is k, woken fs g s rest)

  survives : (how : Failure) (s s' : State Env) → Survives M how s s' → Survives N how s s'
  survives how s s' h =
      let k = fails how s h.notes h.fallen h.fails in
      record { notes = k.0; fallen = h.fallen; fails = k.1; woken = (h.woken.0, woken h.woken.0 h.fallen s' h.woken.1) }

  step : (e : Entry) (s s' : State Env) → Step M e s s' → Step N e s s'
  step (Called name args answer) s s' (a, h) =
      let (t, b, k, is, q) = U.calls s s s' name args a answer (same_on s) h in (b, subst (λ v. N.Calls s name args b answer v) (same_is t s' is) k)
  step (Cut name args) s s' h = survives (InCall name args) s s' h
  step (Ticked name) s s' (a, h) =
      let (t, b, k, is, q) = U.ticks s s s' name a (same_on s) h in (b, subst (λ v. N.Ticks s name b v) (same_is t s' is) k)
  step (CutTick name) s s' h = survives (InTick name) s s' h
  step Lost s s' h = survives Between s s' h

  steps : (es : List Entry) (s s' : State Env) → Steps M s es s' → Steps N s es s'
  steps [] s s' h = h
  steps (e ∷ es) s s' (next, h, rest) = (next, step e s next h, steps es next s' rest)

  starts : (s : State Env) (a : List X) → M.Starts s a → (b : List Y) × N.Starts s b
  starts s a h = let (t, b, k, is, q) = U.starts s a h in (b, subst (λ v. N.Starts v b) (same_is t s is) k)

pub plays_are_histories : PlaysAreHistories
plays_are_histories f typed script text play =
    let d = f.disk in
    let t = traced (lost d) (does d) (cuts d) (Noted f) f (noted_tidy f typed) script [] (Up play.start) play.moments tt play.names in
    let plain : Mirrors Same ArePicks (Noted f) (BottomOf f) = forget (disk_store d) (layers_of f) in
    let start = starts ArePicks (Noted f) (BottomOf f) plain play.start play.fresh.notes play.fresh.starts in (
      t.0,
      (
        play.start,
        start.0,
        start.1,
        steps ArePicks (Noted f) (BottomOf f) plain (entries_of play.moments) play.start t.0 (steps_of (Noted f) play.moments
            play.start t.0 t.1),
      ),
    )
