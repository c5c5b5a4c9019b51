-- A script line by line: what is known where some of its lines are still to be played.
use Rattle.std.proofs.Common.{◌≡◌, ◌≤◌, ℕ, ◌+◌, Bool, true, false, IsTrue, ◌&&◌, All, List, [], ◌∷◌, ◌++◌, length}
use Rattle.std.proofs.Common.{Option, None, is_some, Result, Ok, Err, IsErrAnd, inl, inr, refl, sym, ap, ◌∙◌, subst, append_assoc, arith}
use Rattle.std.proofs.lemmas.Grind.{flat_map-append}
use Rattle.std.proofs.lemmas.List.{append-nil}
use Rattle.std.proofs.lemmas.List.Elements.{All-head, All-tail}
use Rattle.ygg_base.specs.Outside.{Rose}
use Rattle.ygg_syntax.specs.declared.tree.File.{File}
use Rattle.ygg_run_play.specs.ygg_disk.declared.power.Fuse.{Fuse}
use Rattle.ygg_run_play.specs.ygg_disk.declared.power.Picks as disk
use Rattle.ygg_run_play.specs.ygg_meaning.Environments.{Env}
use Rattle.ygg_run_play.specs.ygg_meaning.Machine.{Picks, State, Machine}
use Rattle.ygg_run_play.specs.ygg_meaning.Noted.{Note}
use Rattle.ygg_run_play.specs.ygg_meaning.Trace.{Standing, Up, Moment}
use Rattle.ygg_run_play.specs.ygg_report.Putting.{Adds, IsFront}
use Rattle.ygg_run_play.proofs.of_ygg_report.Fronts.{adds_more, adds_none, front_after, front_longer}
use Rattle.ygg_run_play.specs.ygg_script.declared.command.Command.{Command}
use Rattle.ygg_run_play.specs.ygg_script.declared.command.Command.TheVariants.{Call, Tick, Lost, Fail, Keep}
use Rattle.ygg_run_play.specs.ygg_script.Fitting.{IsCommandOf, IsScriptOf, may_stand, are_placed}
use Rattle.ygg_run_play.specs.ygg_script.Reading.{is_stoppable}
use Rattle.ygg_run_play.specs.Named.{Happens, Leading, Names, stop_after}
use Rattle.ygg_run_play.specs.Lines.{moment_lines, moments_lines}
use Rattle.ygg_run_play.specs.Doing.{left_of, Holds, StepEnds, standing, is_fail}
use Rattle.ygg_run_play.specs.Playing.{Playing, IsNamedFront, ArePlayed}
use Rattle.ygg_run_play.specs.declared.halting.PlayHalted.{PlayHalted}
use Rattle.ygg_run_play.specs.declared.halting.PlayHalted.TheVariants as halted

-- a line stands where power has failed exactly where it is the stop of the one before it
pub fails_so : (c : Command) (cs : List Command) → is_some (stop_after (c ∷ cs)) ≡ is_fail c
fails_so (Call op args) cs = refl
fails_so (Tick layer number) cs = refl
fails_so Lost cs = refl
fails_so (Fail within call) cs = refl
fails_so (Keep picks) cs = refl

-- after a line that can't be stopped there is no stop
no_stop : (cs : List Command) → IsTrue (are_placed false cs) → stop_after cs ≡ None
no_stop [] placed = refl
no_stop (Call op args ∷ cs) placed = refl
no_stop (Tick layer number ∷ cs) placed = refl
no_stop (Lost ∷ cs) placed = refl
no_stop (Fail within call ∷ cs) placed = absurd (cc placed)
no_stop (Keep picks ∷ cs) placed = refl

second_true : (a b : Bool) → IsTrue (a && b) → IsTrue b
second_true true b h = h
second_true false b h = absurd (cc h)

lines_join : (a b : List (Moment Note)) → moments_lines (a ++ b) ≡ moments_lines a ++ moments_lines b
lines_join a b = flat_map-append moment_lines a b

module _ (M : Machine Env Note) (f : File) (script : List Command) (start : State Env) where
  -- before the first line
  playing_first : Playing M f script start script 2 [] (Up start) []
  playing_first = record {
    plays = λ more names. (more, names, refl);
    unreached = λ wrong is. is;
    only = λ one ms names. (ms, names, refl);
  }

  -- after one more line
  playing_more : (c : Command) (cs : List Command) (line : ℕ) (picks left : Picks) (at next : Standing Env) (put : List ℕ) (here : List (Moment Note)) →
      Happens f c (stop_after cs) here → Leading M f c picks at here next left → Playing M f script start (c ∷ cs) line picks at put →
      Playing M f script start cs (line + 1) left next (put ++ moments_lines here)
  playing_more c cs line picks left at next put here happens leading p = record {
    plays = λ more names.
        let (ms, all, is) = p.plays (here ++ more) (here, more, next, left, refl, happens, leading, names) in (
          ms,
          all,
          is ∙ ap (λ (l : List ℕ). put ++ l) (lines_join here more) ∙ sym (append_assoc put (moments_lines here) (moments_lines more)),
        );
    unreached = λ wrong is. p.unreached wrong (inr (here, next, left, happens, leading, is));
    only = λ one ms names.
        let (all, more, is) = p.only one ms names in
        let (here', rest, next', left', joined, happens', leading', names') = more in
        let (same, to, picked) = one.line c (stop_after cs) picks at here here' next next' left left' happens leading happens' leading' in (
          rest,
          subst (λ (s : Standing Env). Names M f cs left s rest) (sym to)
              (subst (λ (l : Picks). Names M f cs l next' rest) (sym picked) names'),
          is ∙ ap (λ (l : List (Moment Note)). put ++ moments_lines l) joined ∙ ap (λ (l : List ℕ). put ++ l) (lines_join here' rest)
              ∙ ap (λ (l : List (Moment Note)). put ++ (moments_lines l ++ moments_lines rest)) (sym same)
              ∙ sym (append_assoc put (moments_lines here) (moments_lines rest)),
        );
  }

  -- what the lines so far put is a front of the lines of whatever the script names
  front_so : (rest : List Command) (line : ℕ) (picks : Picks) (at : Standing Env) (put : List ℕ) → Playing M f script start rest line picks at put →
      IsNamedFront M f script start put
  front_so rest line picks at put p one ms names =
      let (more, all, is) = p.only one ms names in record { rest = moments_lines more; is = is }

  -- so is a front of what one more line puts
  front_more : (rest : List Command) (line : ℕ) (picks : Picks) (at : Standing Env) (put here front : List ℕ) →
      Playing M f script start rest line picks at (put ++ here) → IsFront front here → IsNamedFront M f script start (put ++ front)
  front_more rest line picks at put here front p cut one ms names =
      let (more, all, is) = p.only one ms names in
      let longer = front_longer (put ++ front) (put ++ here) (moments_lines more) (front_after put front here cut) in
      record { rest = longer.rest; is = is ∙ longer.is }

  -- Some lines are still to be played: those before them put this, from `before` on, and the machine, in this state, stands where the lines want it.
  pub record Going (before : Option (List ℕ)) (rest : List Command) (line : ℕ) (picks : disk.Picks) (state : State Env) (Runs Stands : Type 0)
      (now : Option (List ℕ)) : Type 0 where
    pub commands : All (IsCommandOf f) rest
    pub stoppable : Bool
    pub placed : IsTrue (are_placed stoppable rest)
    pub number : line + length rest ≡ 2 + length script
    pub past : picks.past ≡ true
    pub put : List ℕ
    pub playing : Playing M f script start rest line (left_of picks) (standing (is_some (stop_after rest)) state) put
    pub holds : Holds (is_some (stop_after rest)) Runs Stands
    pub adds : Adds before put now

  -- at the begin
  pub going_first : (before : Option (List ℕ)) (picks : disk.Picks) (Runs Stands : Type 0) → IsScriptOf f script → picks.past ≡ true →
      left_of picks ≡ [] → Runs → Going before script 2 picks start Runs Stands before
  going_first before picks Runs Stands is past none runs =
      let up = no_stop script is.placed in
      record {
        commands = is.commands;
        stoppable = false;
        placed = is.placed;
        number = refl;
        past = past;
        put = [];
        playing = subst (λ (stop : Option Fuse). Playing M f script start script 2 (left_of picks) (standing (is_some stop) start) []) (sym up)
            (subst (λ (l : Picks). Playing M f script start script 2 l (Up start) []) (sym none) playing_first);
        holds = subst (λ (stop : Option Fuse). Holds (is_some stop) Runs Stands) (sym up) runs;
        adds = adds_none before;
      }

  module _ (before : Option (List ℕ)) (c : Command) (cs : List Command) (line : ℕ) (picks : disk.Picks) (state : State Env) (Runs Stands : Type 0)
      (now : Option (List ℕ)) (g : Going before (c ∷ cs) line picks state Runs Stands now) where
    -- where the next line begins
    at_line : Playing M f script start (c ∷ cs) line (left_of picks) (standing (is_fail c) state) g.put
    at_line =
        subst (λ (down : Bool). Playing M f script start (c ∷ cs) line (left_of picks) (standing down state) g.put) (fails_so c cs) g.playing

    pub next_holds : Holds (is_fail c) Runs Stands
    next_holds = subst (λ (down : Bool). Holds down Runs Stands) (fails_so c cs) g.holds

    pub next_fits : IsCommandOf f c
    next_fits = All-head (IsCommandOf f) c cs g.commands

    pub next_stop : is_stoppable c ≡ false → stop_after cs ≡ None
    next_stop fixed =
        no_stop cs (subst (λ (s : Bool). IsTrue (are_placed s cs)) fixed
        (second_true (may_stand g.stoppable c) (are_placed (is_stoppable c) cs) g.placed))

    -- after it
    pub going_more : (picks' : disk.Picks) (state' : State Env) (Runs' Stands' : Type 0) (now' : Option (List ℕ)) (SinkRose : Type 0) →
        StepEnds M f c (stop_after cs) (line + 1) picks picks' (standing (is_fail c) state) state' now now' SinkRose (Ok tt) → picks'.past ≡ true →
        Holds (is_some (stop_after cs)) Runs' Stands' → Going before cs (line + 1) picks' state' Runs' Stands' now'
    going_more picks' state' Runs' Stands' now' SinkRose did past holds = record {
      commands = All-tail (IsCommandOf f) c cs g.commands;
      stoppable = is_stoppable c;
      placed = second_true (may_stand g.stoppable c) (are_placed (is_stoppable c) cs) g.placed;
      number = let n = g.number in omega (arith, n);
      past = past;
      put = g.put ++ moments_lines did.moments;
      playing = playing_more c cs line (left_of picks) (left_of picks') (standing (is_fail c) state) (standing (is_some (stop_after cs)) state') g.put
          did.moments did.happens did.leading at_line;
      holds = holds;
      adds = adds_more before now now' g.put (moments_lines did.moments) g.adds did.put;
    }

    -- where it is given up
    pub given_up : (picks' : disk.Picks) (state' : State Env) (now' : Option (List ℕ)) (SinkRose More : Type 0) (h : PlayHalted) → (SinkRose → More) →
        StepEnds M f c (stop_after cs) (line + 1) picks picks' (standing (is_fail c) state) state' now now' SinkRose (Err h) →
        ArePlayed M f script start before now' More (Err h)
    given_up picks' state' now' SinkRose More (halted.Unreached r) more (is, missed) =
        (line + 1, is, at_line.unreached (line + 1) (inl (missed, refl)))
    given_up picks' state' now' SinkRose More halted.SinkFailed more (rose, did) =
        let (front, cut, adds) = did.put in
        let p = playing_more c cs line (left_of picks) (left_of picks') (standing (is_fail c) state) (standing (is_some (stop_after cs)) state') g.put
        did.moments did.happens did.leading at_line in (
          more rose,
          g.put ++ front,
          front_more cs (line + 1) (left_of picks') (standing (is_some (stop_after cs)) state') g.put (moments_lines did.moments) front p cut,
          adds_more before now now' g.put front g.adds adds,
        )
    given_up picks' state' now' SinkRose More halted.Memory more same = (
      g.put,
      front_so (c ∷ cs) line (left_of picks) (standing (is_fail c) state) g.put at_line,
      subst (λ (taken : Option (List ℕ)). Adds before g.put taken) (sym same) g.adds,
    )

    -- where it is given up by this error
    pub given_up_so : (picks' : disk.Picks) (state' : State Env) (now' : Option (List ℕ)) (SinkRose More : Type 0) (h : PlayHalted)
        (result : Result (Unit {0}) PlayHalted) → (SinkRose → More) → IsErrAnd result (λ r. r ≡ h) →
        StepEnds M f c (stop_after cs) (line + 1) picks picks' (standing (is_fail c) state) state' now now' SinkRose (Err h) →
        ArePlayed M f script start before now' More result
    given_up_so picks' state' now' SinkRose More h (Ok done) more same did = absurd same
    given_up_so picks' state' now' SinkRose More h (Err r) more same did =
        subst (λ (x : PlayHalted). ArePlayed M f script start before now' More (Err x)) (sym same)
        (given_up picks' state' now' SinkRose More h more did)

  -- at the end
  pub going_end : (before : Option (List ℕ)) (line : ℕ) (picks : disk.Picks) (state : State Env) (Runs Stands : Type 0) (now : Option (List ℕ))
      (SinkRose : Type 0) → Going before [] line picks state Runs Stands now → ArePlayed M f script start before now SinkRose (Ok tt)
  going_end before line picks state Runs Stands now SinkRose g =
      let (ms, names, is) = g.playing.plays [] refl in
      (ms, names, subst (λ (l : List ℕ). Adds before l now) (sym (is ∙ append-nil g.put)) g.adds)

-- a count has risen since it was a smaller one
pub rose_since : (before middle now : ℕ) → before ≤ middle → Rose middle now → Rose before now
rose_since before middle now later rose = omega (arith, later, rose)

-- no lines are left
pub no_lines : (cs : List Command) → length cs ≡ 0 → cs ≡ []
no_lines [] none = refl
no_lines (c ∷ cs) none = absurd (omega (arith, none))
