-- The commands of a script one after another: what is known where some of them are still to be run.
use Rattle.std.proofs.Common.{◌≡◌, ◌≤◌, ℕ, ◌+◌, true, All, List, [], ◌∷◌, ◌++◌, length, Option, None}
use Rattle.std.proofs.Common.{Result, Ok, Err, IsErrAnd, inl, inr, refl, sym, ap, ◌∙◌, subst, append_assoc, arith, codes}
use Rattle.std.proofs.lemmas.Grind.{flat_map-append}
use Rattle.std.proofs.lemmas.List.{append-nil}
use Rattle.std.proofs.lemmas.List.Elements.{All-head, All-tail}
use Rattle.std.specs.List.{flat_map}
use Rattle.ygg_base.specs.Outside.{Rose}
use Rattle.ygg_syntax.specs.declared.tree.File.{File}
use Rattle.ygg_run.specs.ygg_disk.Ground.{Meaning}
use Rattle.ygg_run.specs.ygg_meaning.Machine.{Machine}
use Rattle.ygg_run.specs.ygg_meaning.History.{Entry}
use Rattle.ygg_run.specs.ygg_meaning.Noted.{Note}
use Rattle.ygg_run.proofs.of_ygg_meaning.Resumed.{steps_append}
use Rattle.ygg_run.specs.ygg_eval.Lower.{Cause}
use Rattle.ygg_run.specs.ygg_machine.Bottoms.{View, state_seen}
use Rattle.ygg_run.specs.ygg_report.Lines.{ended}
use Rattle.ygg_run.specs.ygg_report.Putting.{Adds, IsFront}
use Rattle.ygg_run.proofs.of_ygg_report.Fronts.{adds_more, adds_none, front_after, front_first, front_longer}
use Rattle.ygg_run.specs.ygg_script.declared.command.Command.{Command}
use Rattle.ygg_run.specs.ygg_script.declared.command.Command.TheVariants.{Call, Tick, Lost, Fail, Keep}
use Rattle.ygg_run.specs.ygg_script.Fitting.{IsCommandOf}
use Rattle.ygg_run.specs.ygg_script.Plain.{is_plain, first_not_plain, plain_of}
use Rattle.ygg_run_commands.specs.Ran.{Ran, AllRan, run_lines, ran_line}
use Rattle.ygg_run_commands.specs.OnGround.{layers_on}
use Rattle.ygg_run_commands.specs.Running.{Runs, StopsBefore, IsRun, text_before}
use Rattle.ygg_run_commands.specs.Doing.{IsPut, entry_line, AllRun, FaultsRose, Woke, DidWhole, DidPart, AnswersSo}
use Rattle.ygg_run_commands.specs.declared.halting.RunHalted.{RunHalted}
use Rattle.ygg_run_commands.specs.declared.halting.RunHalted.TheVariants.{DeviceFailed, SinkFailed, Memory}

-- a count has risen since it was a smaller one
pub rose_since : (before middle now : ℕ) → before ≤ middle → Rose middle now → Rose before now
rose_since before middle now later rose = omega (arith, later, rose)

-- one more command has its entry
all_more : (f : File) (cs : List Command) (es : List Entry) (c : Command) (e : Entry) → AllRan f cs es → Ran f c e → AllRan f (cs ++ c ∷ []) (es ++ e ∷ [])
all_more f [] es c e none ran = (e, [], ap (λ (l : List Entry). l ++ e ∷ []) none, ran, refl)
all_more f (d ∷ cs) es c e (first, rest, is, one, all) ran =
    (first, rest ++ e ∷ [], ap (λ (l : List Entry). l ++ e ∷ []) is, one, all_more f cs rest c e all ran)

-- and its line
lines_more : (es : List Entry) (e : Entry) → run_lines (es ++ e ∷ []) ≡ run_lines es ++ entry_line e
lines_more es e =
    ap (λ (l : List ℕ). ended (codes "up") ++ l) (flat_map-append entry_line es (e ∷ []))
    ∙ ap (λ (l : List ℕ). ended (codes "up") ++ (flat_map entry_line es ++ l)) (append-nil (entry_line e))
    ∙ sym (append_assoc (ended (codes "up")) (flat_map entry_line es) (entry_line e))

-- a front of the lines is one of what may be printed by then
front_by : (script rest : List Command) (es : List Entry) (front : List ℕ) → IsFront front (run_lines es) → IsFront front (text_before script rest es)
front_by script [] es front h = front_longer front (run_lines es) (ran_line (length script)) h
front_by script (c ∷ cs) es front h = h

-- commands of which none is refused: the first is plain, and none of the others is
plain_first : (line : ℕ) (c : Command) (cs : List Command) → first_not_plain line (c ∷ cs) ≡ None → (is_plain c ≡ true) × (first_not_plain (line + 1) cs ≡ None)
plain_first line (Call op args) cs h = (refl, h)
plain_first line (Tick layer number) cs h = (refl, h)
plain_first line Lost cs h = absurd (cc)
plain_first line (Fail within call) cs h = absurd (cc)
plain_first line (Keep picks) cs h = absurd (cc)

-- no commands are left
pub no_commands : (cs : List Command) → length cs ≡ 0 → cs ≡ []
no_commands [] none = refl
no_commands (c ∷ cs) none = absurd (omega (arith, none))

whole_front : (bytes : List ℕ) → IsFront bytes bytes
whole_front bytes = record { rest = []; is = sym (append-nil bytes) }

no_front : (bytes : List ℕ) → IsFront [] bytes
no_front bytes = record { rest = bytes; is = refl }

module _ {S : Type 0} (G : Meaning S) (f : File) (script : List Command) (from : View S) (first : Option (List ℕ)) where
  abbrev M : Cause → Machine S Note
  M = layers_on G f

  -- some commands were run whole and their lines put, and these are left
  pub record Going (rest : List Command) (v : View S) (now : Option (List ℕ)) : Type 0 where
    pub done : List Command
    pub is : script ≡ done ++ rest
    pub es : List Entry
    pub run : AllRun G f v
    pub runs : Runs M f done from.base es (state_seen f v)
    pub put : Adds first (run_lines es) now
    pub later : G.faults from.base ≤ G.faults v.base
    pub fits : All (IsCommandOf f) rest
    pub line : ℕ
    pub plain : first_not_plain line rest ≡ None

  abbrev Ends : (to : View S) → (now : Option (List ℕ)) → (DeviceRose SinkRose : Type 0) → Result (Unit {0}) RunHalted → Type 0
  Ends to now DeviceRose SinkRose result = IsRun M f script from.base to.base first now DeviceRose SinkRose result

  module _ (v : View S) where
    -- the waking was whole
    woken_runs : Woke G f from v (Ok tt) → Runs M f [] from.base [] (state_seen f v)
    woken_runs w = record {
      woken = state_seen f v;
      notes = w.so.1;
      wakes = w.so.2;
      ran = refl;
      steps = λ cause. refl;
    }

    up_is : run_lines [] ≡ ended (codes "up")
    up_is = append-nil (ended (codes "up"))

    pub going_first : (now : Option (List ℕ)) → All (IsCommandOf f) script → plain_of script ≡ None → Woke G f from v (Ok tt) →
        Adds first (ended (codes "up")) now → Going script v now
    going_first now fits plain w up = record {
      done = [];
      is = refl;
      es = [];
      run = w.so.0;
      runs = woken_runs w;
      put = subst (λ (l : List ℕ). Adds first l now) (sym up_is) up;
      later = w.later;
      fits = fits;
      line = 2;
      plain = plain;
    }

    none_begun : Woke G f from v (Ok tt) → StopsBefore M f script script from.base [] v.base
    none_begun w = record { done = []; is = refl; at = state_seen f v; runs = woken_runs w; leaves = inl refl }

    -- `up` couldn't be put
    up_halted : (now : Option (List ℕ)) (DeviceRose SinkRose : Type 0) (x : RunHalted) → Woke G f from v (Ok tt) →
        IsPut (ended (codes "up")) first now SinkRose (Err x) → Ends v now DeviceRose SinkRose (Err x)
    up_halted now DeviceRose SinkRose DeviceFailed w put = absurd put
    up_halted now DeviceRose SinkRose SinkFailed w (rose, front, is, adds) = (
      rose,
      script,
      [],
      none_begun w,
      front,
      front_by script script [] front (subst (λ (l : List ℕ). IsFront front l) (sym up_is) is),
      adds,
    )
    up_halted now DeviceRose SinkRose Memory w same =
        inr (
          script,
          [],
          none_begun w,
          [],
          front_by script script [] [] (no_front (run_lines [])),
          subst (λ (o : Option (List ℕ)). Adds first [] o) (sym same) (adds_none first),
        )

  -- the waking was given up
  waking_halted : (v : View S) (SinkRose : Type 0) (x : RunHalted) → Woke G f from v (Err x) → Ends v first (FaultsRose G f from v) SinkRose (Err x)
  waking_halted v SinkRose DeviceFailed w = (w.so.0, inl (w.so.1, refl))
  waking_halted v SinkRose SinkFailed w = absurd w.so
  waking_halted v SinkRose Memory w = inl (w.so, refl)

  module _ (c : Command) (cs : List Command) (v v' : View S) (now now' : Option (List ℕ)) (g : Going (c ∷ cs) v now) where
    -- one more command was whole
    runs_more : (e : Entry) → DidWhole G f v v' c e → Runs M f (g.done ++ c ∷ []) from.base (g.es ++ e ∷ []) (state_seen f v')
    runs_more e d = record {
      woken = g.runs.woken;
      notes = g.runs.notes;
      wakes = g.runs.wakes;
      ran = all_more f g.done g.es c e g.runs.ran d.ran;
      steps = λ cause. steps_append (M cause) g.es e g.runs.woken (state_seen f v) (state_seen f v') (g.runs.steps cause) (d.step cause);
    }

    is_more : script ≡ (g.done ++ c ∷ []) ++ cs
    is_more = g.is ∙ sym (append_assoc g.done (c ∷ []) cs)

    pub going_more : (SinkRose : Type 0) → AnswersSo G f v v' c now now' SinkRose (Ok tt) → G.faults v.base ≤ G.faults v'.base → Going cs v' now'
    going_more SinkRose (e, d, line) later = record {
      done = g.done ++ c ∷ [];
      is = is_more;
      es = g.es ++ e ∷ [];
      run = d.runs;
      runs = runs_more e d;
      put = subst (λ (l : List ℕ). Adds first l now') (sym (lines_more g.es e)) (adds_more first now now' (run_lines g.es) (entry_line e) g.put line);
      later = omega (arith, g.later, later);
      fits = All-tail (IsCommandOf f) c cs g.fits;
      line = g.line + 1;
      plain = (plain_first g.line c cs g.plain).1;
    }

    pub next_fits : IsCommandOf f c
    next_fits = All-head (IsCommandOf f) c cs g.fits

    pub next_plain : is_plain c ≡ true
    next_plain = (plain_first g.line c cs g.plain).0

    part_begun : DidPart G f v v' c → StopsBefore M f script (c ∷ cs) from.base g.es v'.base
    part_begun part = record { done = g.done; is = g.is; at = state_seen f v; runs = g.runs; leaves = inr (c, cs, refl, part) }

    next_unbegun : (e : Entry) → DidWhole G f v v' c e → StopsBefore M f script cs from.base (g.es ++ e ∷ []) v'.base
    next_unbegun e d = record { done = g.done ++ c ∷ []; is = is_more; at = state_seen f v'; runs = runs_more e d; leaves = inl refl }

    put_still : now' ≡ now → Adds first (run_lines g.es) now'
    put_still same = subst (λ (o : Option (List ℕ)). Adds first (run_lines g.es) o) (sym same) g.put

    -- it was given up, or its line couldn't be put
    more_halted : (SinkRose AllRose : Type 0) (x : RunHalted) → (SinkRose → AllRose) → AnswersSo G f v v' c now now' SinkRose (Err x) →
        Ends v' now' (FaultsRose G f from v') AllRose (Err x)
    more_halted SinkRose AllRose DeviceFailed all (rose, part, same) = (
      rose_since (G.faults from.base) (G.faults v.base) (G.faults v'.base) g.later rose,
      inr (c ∷ cs, g.es, part_begun part, put_still same),
    )
    more_halted SinkRose AllRose SinkFailed all (rose, e, d, front, is, adds) = (
      all rose,
      cs,
      g.es ++ e ∷ [],
      next_unbegun e d,
      run_lines g.es ++ front,
      front_by script cs (g.es ++ e ∷ []) (run_lines g.es ++ front)
          (subst (λ (l : List ℕ). IsFront (run_lines g.es ++ front) l) (sym (lines_more g.es e)) (front_after (run_lines g.es) front (entry_line e) is)),
      adds_more first now now' (run_lines g.es) front g.put adds,
    )
    more_halted SinkRose AllRose Memory all (inl part, same) =
        inr (c ∷ cs, g.es, part_begun part, run_lines g.es, whole_front (run_lines g.es), put_still same)
    more_halted SinkRose AllRose Memory all (inr (e, d), same) =
        inr (
          cs,
          g.es ++ e ∷ [],
          next_unbegun e d,
          run_lines g.es,
          front_by script cs (g.es ++ e ∷ []) (run_lines g.es)
              (subst (λ (l : List ℕ). IsFront (run_lines g.es) l) (sym (lines_more g.es e)) (front_first (run_lines g.es) (entry_line e))),
          put_still same,
        )

  -- all commands were run, and the last line was put, or it wasn't
  module _ (v : View S) (now now' : Option (List ℕ)) (g : Going [] v now) where
    all_done : Runs M f script from.base g.es (state_seen f v)
    all_done = subst (λ (l : List Command). Runs M f l from.base g.es (state_seen f v)) (sym (g.is ∙ append-nil g.done)) g.runs

    none_left : StopsBefore M f script [] from.base g.es v.base
    none_left = record { done = g.done; is = g.is; at = state_seen f v; runs = g.runs; leaves = inl refl }

    pub ran_all : (DeviceRose SinkRose AllRose : Type 0) → (SinkRose → AllRose) → (result : Result (Unit {0}) RunHalted) →
        IsPut (ran_line (length script)) now now' SinkRose result → Ends v now' DeviceRose AllRose result
    ran_all DeviceRose SinkRose AllRose all (Ok done) put =
        (g.es, state_seen f v, all_done, refl, adds_more first now now' (run_lines g.es) (ran_line (length script)) g.put put)
    ran_all DeviceRose SinkRose AllRose all (Err DeviceFailed) put = absurd put
    ran_all DeviceRose SinkRose AllRose all (Err SinkFailed) (rose, front, is, adds) = (
      all rose,
      [],
      g.es,
      none_left,
      run_lines g.es ++ front,
      front_after (run_lines g.es) front (ran_line (length script)) is,
      adds_more first now now' (run_lines g.es) front g.put adds,
    )
    ran_all DeviceRose SinkRose AllRose all (Err Memory) same =
        inr (
          [],
          g.es,
          none_left,
          run_lines g.es,
          front_first (run_lines g.es) (ran_line (length script)),
          subst (λ (o : Option (List ℕ)). Adds first (run_lines g.es) o) (sym same) g.put,
        )

  -- an end that was handed on
  handed : (v : View S) (now : Option (List ℕ)) (DeviceRose SinkRose : Type 0) (x : RunHalted) (result : Result (Unit {0}) RunHalted) →
      IsErrAnd result (λ y. y ≡ x) → Ends v now DeviceRose SinkRose (Err x) → Ends v now DeviceRose SinkRose result
  handed v now DeviceRose SinkRose x (Ok done) same h = absurd same
  handed v now DeviceRose SinkRose x (Err y) same h = subst (λ (z : RunHalted). Ends v now DeviceRose SinkRose (Err z)) (sym same) h

  pub not_woken : (v : View S) (SinkRose : Type 0) (x : RunHalted) (result : Result (Unit {0}) RunHalted) → IsErrAnd result (λ y. y ≡ x) →
      Woke G f from v (Err x) → Ends v first (FaultsRose G f from v) SinkRose result
  not_woken v SinkRose x result same w = handed v first (FaultsRose G f from v) SinkRose x result same (waking_halted v SinkRose x w)

  pub not_up : (v : View S) (now : Option (List ℕ)) (DeviceRose SinkRose : Type 0) (x : RunHalted) (result : Result (Unit {0}) RunHalted) →
      IsErrAnd result (λ y. y ≡ x) → Woke G f from v (Ok tt) → IsPut (ended (codes "up")) first now SinkRose (Err x) →
      Ends v now DeviceRose SinkRose result
  not_up v now DeviceRose SinkRose x result same w put =
      handed v now DeviceRose SinkRose x result same (up_halted v now DeviceRose SinkRose x w put)

  pub not_answered : (c : Command) (cs : List Command) (v v' : View S) (now now' : Option (List ℕ)) → Going (c ∷ cs) v now → (SinkRose AllRose : Type 0)
      (x : RunHalted) (result : Result (Unit {0}) RunHalted) → IsErrAnd result (λ y. y ≡ x) → (SinkRose → AllRose) →
      AnswersSo G f v v' c now now' SinkRose (Err x) → Ends v' now' (FaultsRose G f from v') AllRose result
  not_answered c cs v v' now now' g SinkRose AllRose x result same all h =
      handed v' now' (FaultsRose G f from v') AllRose x result same (more_halted c cs v v' now now' g SinkRose AllRose x all h)
