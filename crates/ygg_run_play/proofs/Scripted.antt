-- On a machine whose runs are alike each line of a script does one thing.
use Rattle.std.proofs.Common.{◌≡◌, ℕ, Bool, true, List, [], ◌∷◌, Option, Some, None, refl, sym, ap, ◌∙◌, subst}
use Rattle.std.proofs.lemmas.List.{append-nil}
use Rattle.ygg_value.specs.declared.row.Value.{Value}
use Rattle.ygg_syntax.specs.declared.tree.File.{File}
use Rattle.ygg_script.specs.ygg_disk.declared.power.Fuse.{Fuse}
use Rattle.ygg_script.specs.ygg_meaning.Environments.{Env}
use Rattle.ygg_script.specs.ygg_meaning.Progress.{Answer}
use Rattle.ygg_script.specs.ygg_meaning.Machine.{Picks, State, Machine}
use Rattle.ygg_script.specs.ygg_meaning.Under.{InCall, InTick, Between}
use Rattle.ygg_script.specs.ygg_meaning.Trace.{Standing, Up, Down, Moment, Calls, Ticks, Fails, WakeFails, Wakes, Leads, Traces}
use Rattle.ygg_script.specs.ygg_meaning.Noted.{Note, picks_in}
use Rattle.ygg_meaning_laws.specs.Acts.{Taken}
use Rattle.ygg_script.specs.declared.command.Command.{Command}
use Rattle.ygg_script.specs.declared.command.Command.TheVariants.{Call, Tick, Lost, Fail, Keep}
use Rattle.ygg_run_play.specs.Named.{operation_name, tick_name, Wholly, CutShort, Misses, Happens, picks_of, picks_from, Leading, IsMissed}
use Rattle.ygg_run_play.proofs.Endings.{Before, ended_at, reached}
use Rattle.ygg_run_play.proofs.Alike.{Whole, Cut, Process, Takes, one_left, fallen, Steady}
use Rattle.ygg_run_play.proofs.Blocks.{calling, ticking, waking, Tidy}

-- a line that does something on the machine
abbrev pub IsDeed : Command → Type 0
IsDeed (Call op args) = Unit {0}
IsDeed (Tick layer number) = Unit {0}
IsDeed Lost = Unit {0}
IsDeed (Fail within call) = Unit {0}
IsDeed (Keep given) = ⊥

module _ (lost : Env → Env) (does cuts : Env → Note → Env) (M : Machine Env Note) (f : File) (tidy : Tidy lost does cuts M) where
  -- what is done by a line from here: power failing comes first after `lost`
  abbrev doing : Command → Standing Env → Process
  doing (Call op args) (Up s) n x = calling M s (operation_name f op) args n x
  doing (Tick layer number) (Up s) n x = ticking M s (tick_name f layer number) n x
  doing Lost (Up s) n x = waking M (lost s.base) n x
  doing (Fail within call) (Down e) n x = waking M e n x
  doing c from n x = ⊥

  -- the base that it begins on
  abbrev base_for : Command → Standing Env → Env
  base_for Lost (Up s) = lost s.base
  base_for c (Up s) = s.base
  base_for c (Down e) = e

  no_steady : (e : Env) → Steady lost does cuts e (λ n x. ⊥)
  no_steady e = record { one = λ picks left other n m x y p q a b. absurd p; follows = λ n x p. absurd p }

  doing_steady : (c : Command) (from : Standing Env) → Steady lost does cuts (base_for c from) (doing c from)
  doing_steady (Call op args) (Up s) = tidy.calls s (operation_name f op) args
  doing_steady (Call op args) (Down e) = no_steady e
  doing_steady (Tick layer number) (Up s) = tidy.ticks s (tick_name f layer number)
  doing_steady (Tick layer number) (Down e) = no_steady e
  doing_steady Lost (Up s) = tidy.wakes (lost s.base)
  doing_steady Lost (Down e) = no_steady e
  doing_steady (Fail within call) (Up s) = no_steady s.base
  doing_steady (Fail within call) (Down e) = tidy.wakes e
  doing_steady (Keep given) (Up s) = no_steady s.base
  doing_steady (Keep given) (Down e) = no_steady e

  -- the moments of it where it is whole, and where power cuts it
  abbrev whole_moments : Command → Answer → List Note → List (Moment Note)
  whole_moments (Call op args) y n = Calls (operation_name f op) args y n ∷ []
  whole_moments (Tick layer number) y n = Ticks (tick_name f layer number) n ∷ []
  whole_moments Lost y n = Fails Between [] ∷ Wakes n ∷ []
  whole_moments (Fail within call) y n = Wakes n ∷ []
  whole_moments (Keep given) y n = []

  abbrev cut_moments : Command → List Note → List (Moment Note)
  cut_moments (Call op args) n = Fails (InCall (operation_name f op) args) n ∷ []
  cut_moments (Tick layer number) n = Fails (InTick (tick_name f layer number)) n ∷ []
  cut_moments Lost n = Fails Between [] ∷ WakeFails n ∷ []
  cut_moments (Fail within call) n = WakeFails n ∷ []
  cut_moments (Keep given) n = []

  pub record WholeBy (c : Command) (from : Standing Env) (n : List Note) (ms : List (Moment Note)) (to : Standing Env) : Type 0 where
    pub answer : Answer
    pub state : State Env
    pub run : doing c from n (Whole answer state)
    pub to_is : to ≡ Up state
    pub ms_is : ms ≡ whole_moments c answer n

  record CutBy (c : Command) (from : Standing Env) (n : List Note) (ms : List (Moment Note)) (to : Standing Env) : Type 0 where
    base : Env
    run : doing c from n (Cut base)
    to_is : to ≡ Down base
    ms_is : ms ≡ cut_moments c n

  single : (m : Moment Note) (from to : Standing Env) → Traces M from (m ∷ []) to → Leads M m from to
  single m from to h = subst (λ s. Leads M m from s) h.2 h.1

  whole_call : (op : ℕ) (args : List Value) (y : Answer) (n : List Note) (from to : Standing Env) → Leads M (Calls (operation_name f op) args y n) from to →
      WholeBy (Call op args) from n (Calls (operation_name f op) args y n ∷ []) to
  whole_call op args y n (Up s) (Up t) h = record { answer = y; state = t; run = h; to_is = refl; ms_is = refl }
  whole_call op args y n (Up s) (Down e) h = absurd h
  whole_call op args y n (Down d) (Up t) h = absurd h
  whole_call op args y n (Down d) (Down e) h = absurd h

  whole_tick : (layer number : ℕ) (n : List Note) (from to : Standing Env) → Leads M (Ticks (tick_name f layer number) n) from to →
      WholeBy (Tick layer number) from n (Ticks (tick_name f layer number) n ∷ []) to
  whole_tick layer number n (Up s) (Up t) h = record { answer = None; state = t; run = (refl, h); to_is = refl; ms_is = refl }
  whole_tick layer number n (Up s) (Down e) h = absurd h
  whole_tick layer number n (Down d) (Up t) h = absurd h
  whole_tick layer number n (Down d) (Down e) h = absurd h

  whole_lost : (n : List Note) (from mid to : Standing Env) → Leads M (Fails Between []) from mid → Leads M (Wakes n) mid to →
      WholeBy Lost from n (Fails Between [] ∷ Wakes n ∷ []) to
  whole_lost n (Up s) (Down e) (Up t) h g = record {
    answer = None;
    state = t;
    run = (refl, subst (λ b. M.Wakes b n t) (tidy.loses s [] e h).1 g);
    to_is = refl;
    ms_is = refl;
  }
  whole_lost n (Up s) (Down e) (Down b) h g = absurd g
  whole_lost n (Up s) (Up t) to h g = absurd h
  whole_lost n (Down d) (Up t) to h g = absurd h
  whole_lost n (Down d) (Down e) to h g = absurd h

  whole_wake : (within : Bool) (call : ℕ) (n : List Note) (from to : Standing Env) → Leads M (Wakes n) from to →
      WholeBy (Fail within call) from n (Wakes n ∷ []) to
  whole_wake within call n (Up s) (Up t) h = absurd h
  whole_wake within call n (Up s) (Down e) h = absurd h
  whole_wake within call n (Down d) (Up t) h = record { answer = None; state = t; run = (refl, h); to_is = refl; ms_is = refl }
  whole_wake within call n (Down d) (Down e) h = absurd h

  pub whole_by : (c : Command) → IsDeed c → (n : List Note) (ms : List (Moment Note)) (from to : Standing Env) → Wholly f c n ms → Traces M from ms to →
      WholeBy c from n ms to
  whole_by (Call op args) d n ms from to w h =
      subst (λ z. WholeBy (Call op args) from n z to) (sym w.1) (whole_call op args w.0 n from to
      (single (Calls (operation_name f op) args w.0 n) from to (subst (λ z. Traces M from z to) w.1 h)))
  whole_by (Tick layer number) d n ms from to w h =
      subst (λ z. WholeBy (Tick layer number) from n z to) (sym w) (whole_tick layer number n from to
      (single (Ticks (tick_name f layer number) n) from to (subst (λ z. Traces M from z to) w h)))
  whole_by Lost d n ms from to w h =
      let t : Traces M from (Fails Between [] ∷ Wakes n ∷ []) to = subst (λ z. Traces M from z to) w h in
      subst (λ z. WholeBy Lost from n z to) (sym w) (whole_lost n from t.0 to t.1 (single (Wakes n) t.0 to t.2))
  whole_by (Fail within call) d n ms from to w h =
      subst (λ z. WholeBy (Fail within call) from n z to) (sym w) (whole_wake within call n from to
      (single (Wakes n) from to (subst (λ z. Traces M from z to) w h)))
  whole_by (Keep given) d n ms from to w h = absurd d

  cut_call : (op : ℕ) (args : List Value) (n : List Note) (from to : Standing Env) → Leads M (Fails (InCall (operation_name f op) args) n) from to →
      CutBy (Call op args) from n (Fails (InCall (operation_name f op) args) n ∷ []) to
  cut_call op args n (Up s) (Up t) h = absurd h
  cut_call op args n (Up s) (Down e) h = record { base = e; run = h; to_is = refl; ms_is = refl }
  cut_call op args n (Down d) (Up t) h = absurd h
  cut_call op args n (Down d) (Down e) h = absurd h

  cut_tick : (layer number : ℕ) (n : List Note) (from to : Standing Env) → Leads M (Fails (InTick (tick_name f layer number)) n) from to →
      CutBy (Tick layer number) from n (Fails (InTick (tick_name f layer number)) n ∷ []) to
  cut_tick layer number n (Up s) (Up t) h = absurd h
  cut_tick layer number n (Up s) (Down e) h = record { base = e; run = h; to_is = refl; ms_is = refl }
  cut_tick layer number n (Down d) (Up t) h = absurd h
  cut_tick layer number n (Down d) (Down e) h = absurd h

  cut_lost : (n : List Note) (from mid to : Standing Env) → Leads M (Fails Between []) from mid → Leads M (WakeFails n) mid to →
      CutBy Lost from n (Fails Between [] ∷ WakeFails n ∷ []) to
  cut_lost n (Up s) (Down e) (Up t) h g = absurd g
  cut_lost n (Up s) (Down e) (Down b) h g = record {
    base = b;
    run = subst (λ v. M.WakeFalls v n b) (tidy.loses s [] e h).1 g;
    to_is = refl;
    ms_is = refl;
  }
  cut_lost n (Up s) (Up t) to h g = absurd h
  cut_lost n (Down d) (Up t) to h g = absurd h
  cut_lost n (Down d) (Down e) to h g = absurd h

  cut_wake : (within : Bool) (call : ℕ) (n : List Note) (from to : Standing Env) → Leads M (WakeFails n) from to →
      CutBy (Fail within call) from n (WakeFails n ∷ []) to
  cut_wake within call n (Up s) (Up t) h = absurd h
  cut_wake within call n (Up s) (Down e) h = absurd h
  cut_wake within call n (Down d) (Up t) h = absurd h
  cut_wake within call n (Down d) (Down e) h = record { base = e; run = h; to_is = refl; ms_is = refl }

  cut_by : (c : Command) → IsDeed c → (n : List Note) (ms : List (Moment Note)) (from to : Standing Env) → CutShort f c n ms → Traces M from ms to →
      CutBy c from n ms to
  cut_by (Call op args) d n ms from to w h =
      subst (λ z. CutBy (Call op args) from n z to) (sym w) (cut_call op args n from to
      (single (Fails (InCall (operation_name f op) args) n) from to (subst (λ z. Traces M from z to) w h)))
  cut_by (Tick layer number) d n ms from to w h =
      subst (λ z. CutBy (Tick layer number) from n z to) (sym w) (cut_tick layer number n from to
      (single (Fails (InTick (tick_name f layer number)) n) from to (subst (λ z. Traces M from z to) w h)))
  cut_by Lost d n ms from to w h =
      let t : Traces M from (Fails Between [] ∷ WakeFails n ∷ []) to = subst (λ z. Traces M from z to) w h in
      subst (λ z. CutBy Lost from n z to) (sym w) (cut_lost n from t.0 to t.1 (single (WakeFails n) t.0 to t.2))
  cut_by (Fail within call) d n ms from to w h =
      subst (λ z. CutBy (Fail within call) from n z to) (sym w) (cut_wake within call n from to
      (single (WakeFails n) from to (subst (λ z. Traces M from z to) w h)))
  cut_by (Keep given) d n ms from to w h = absurd d

  -- ---- the picks are those of the disk calls

  whole_picks : (c : Command) → IsDeed c → (y : Answer) (n : List Note) → picks_of (whole_moments c y n) ≡ picks_in n
  whole_picks (Call op args) d y n = ap picks_in (append-nil n)
  whole_picks (Tick layer number) d y n = ap picks_in (append-nil n)
  whole_picks Lost d y n = ap picks_in (append-nil n)
  whole_picks (Fail within call) d y n = ap picks_in (append-nil n)
  whole_picks (Keep given) d y n = absurd d

  cut_picks : (c : Command) → IsDeed c → (n : List Note) → picks_of (cut_moments c n) ≡ picks_in n
  cut_picks (Call op args) d n = ap picks_in (append-nil n)
  cut_picks (Tick layer number) d n = ap picks_in (append-nil n)
  cut_picks Lost d n = ap picks_in (append-nil n)
  cut_picks (Fail within call) d n = ap picks_in (append-nil n)
  cut_picks (Keep given) d n = absurd d

  whole_takes : (c : Command) → IsDeed c → (y : Answer) (n : List Note) (ms : List (Moment Note)) (picks left : Picks) → ms ≡ whole_moments c y n →
      Taken true (picks_of ms) picks left → Takes n picks left
  whole_takes c d y n ms picks left is h = subst (λ t. Taken true t picks left) (ap picks_of is ∙ whole_picks c d y n) h

  cut_takes : (c : Command) → IsDeed c → (n : List Note) (ms : List (Moment Note)) (picks left : Picks) → ms ≡ cut_moments c n →
      Taken true (picks_of ms) picks left → Takes n picks left
  cut_takes c d n ms picks left is h = subst (λ t. Taken true t picks left) (ap picks_of is ∙ cut_picks c d n) h

  -- ---- a line does one thing

  abbrev pub OneStep : List (Moment Note) → Standing Env → Picks → List (Moment Note) → Standing Env → Picks → Type 0
  OneStep ms to left ms' to' left' = (ms ≡ ms') × (to ≡ to') × (left ≡ left')

  deed_once : (c : Command) → IsDeed c → (stop : Option Fuse) (picks : Picks) (from : Standing Env) (ms ms' : List (Moment Note)) (to to' : Standing Env)
      (left left' : Picks) → Happens f c stop ms → Leading M f c picks from ms to left → Happens f c stop ms' → Leading M f c picks from ms' to' left' →
      OneStep ms to left ms' to' left'
  deed_once c d None picks from ms ms' to to' left left' h l g k =
      let p = whole_by c d h.0 ms from to h.1 l.leads in
      let q = whole_by c d g.0 ms' from to' g.1 k.leads in
      let a = whole_takes c d p.answer h.0 ms (picks_from c picks) left p.ms_is l.takes in
      let b = whole_takes c d q.answer g.0 ms' (picks_from c picks) left' q.ms_is k.takes in
      let same = (doing_steady c from).one (picks_from c picks) left left' h.0 g.0 (Whole p.answer p.state) (Whole q.answer q.state) p.run q.run a b in (
        p.ms_is ∙ ap (λ y. whole_moments c y h.0) same.1 ∙ ap (λ n. whole_moments c q.answer n) same.0 ∙ sym q.ms_is,
        p.to_is ∙ ap Up same.2 ∙ sym q.to_is,
        one_left h.0 g.0 (picks_from c picks) left left' same.0 a b,
      )
  deed_once c d (Some stop) picks from ms ms' to to' left left' h l g k =
      let p = cut_by c d h.0 ms from to h.1 l.leads in
      let q = cut_by c d g.0 ms' from to' g.1 k.leads in
      let a = cut_takes c d h.0 ms (picks_from c picks) left p.ms_is l.takes in
      let b = cut_takes c d g.0 ms' (picks_from c picks) left' q.ms_is k.takes in
      let steady = doing_steady c from in
      let same : h.0 ≡ g.0 = steady.one (picks_from c picks) left left' h.0 g.0 (Cut p.base) (Cut q.base) p.run q.run a b stop.within stop.call
      (ended_at stop h.0 h.2) (ended_at stop g.0 g.2) in
      let bases : p.base ≡ q.base = steady.follows h.0 (Cut p.base) p.run ∙ ap (fallen lost does cuts (base_for c from)) same
      ∙ sym (steady.follows g.0 (Cut q.base) q.run) in (
        p.ms_is ∙ ap (cut_moments c) same ∙ sym q.ms_is,
        p.to_is ∙ ap Down bases ∙ sym q.to_is,
        one_left h.0 g.0 (picks_from c picks) left left' same a b,
      )

  kept_once : (given : Picks) (stop : Option Fuse) (picks : Picks) (from : Standing Env) (ms ms' : List (Moment Note)) (to to' : Standing Env)
      (left left' : Picks) → Happens f (Keep given) stop ms → Leading M f (Keep given) picks from ms to left → Happens f (Keep given) stop ms' →
      Leading M f (Keep given) picks from ms' to' left' → OneStep ms to left ms' to' left'
  kept_once given None picks from ms ms' to to' left left' h l g k =
      let a : from ≡ to = subst (λ z. Traces M from z to) h.1.1 l.leads in
      let b : from ≡ to' = subst (λ z. Traces M from z to') g.1.1 k.leads in
      let c : left ≡ given = subst (λ z. Taken true (picks_of z) given left) h.1.1 l.takes in
      let d : left' ≡ given = subst (λ z. Taken true (picks_of z) given left') g.1.1 k.takes in
      (h.1.1 ∙ sym g.1.1, sym a ∙ b, c ∙ sym d)
  kept_once given (Some stop) picks from ms ms' to to' left left' h l g k = absurd h.1

  pub line_once : (c : Command) (stop : Option Fuse) (picks : Picks) (from : Standing Env) (ms ms' : List (Moment Note)) (to to' : Standing Env)
      (left left' : Picks) → Happens f c stop ms → Leading M f c picks from ms to left → Happens f c stop ms' → Leading M f c picks from ms' to' left' →
      OneStep ms to left ms' to' left'
  line_once (Call op args) = deed_once (Call op args) tt
  line_once (Tick layer number) = deed_once (Tick layer number) tt
  line_once Lost = deed_once Lost tt
  line_once (Fail within call) = deed_once (Fail within call) tt
  line_once (Keep given) = kept_once given

  -- ---- what is whole before a stop has no such point

  deed_apart : (c : Command) → IsDeed c → (stop : Fuse) (picks : Picks) (from : Standing Env) (ms : List (Moment Note)) (to : Standing Env) (left : Picks)
      (n : List Note) (ns : List (Moment Note)) (at : Standing Env) (other : Picks) → Wholly f c n ns → Leading M f c picks from ns at other →
      Misses stop n → Happens f c (Some stop) ms → Leading M f c picks from ms to left → ⊥
  deed_apart c d stop picks from ms to left n ns at other w k misses h l =
      let p = whole_by c d n ns from at w k.leads in
      let q = cut_by c d h.0 ms from to h.1 l.leads in
      let a = whole_takes c d p.answer n ns (picks_from c picks) other p.ms_is k.takes in
      let b = cut_takes c d h.0 ms (picks_from c picks) left q.ms_is l.takes in
      let before : Before h.0 n =
      (doing_steady c from).one (picks_from c picks) other left n h.0 (Whole p.answer p.state) (Cut q.base) p.run q.run a b in
      reached stop.within stop.call h.0 n before (ended_at stop h.0 h.2) misses

  keep_apart : (given : Picks) (stop : Fuse) (picks : Picks) (from : Standing Env) (ms : List (Moment Note)) (to : Standing Env) (left : Picks)
      (n : List Note) (ns : List (Moment Note)) (at : Standing Env) (other : Picks) → Wholly f (Keep given) n ns →
      Leading M f (Keep given) picks from ns at other →
      Misses stop n → Happens f (Keep given) (Some stop) ms → Leading M f (Keep given) picks from ms to left → ⊥
  keep_apart given stop picks from ms to left n ns at other w k misses h l = h.1

  apart : (c : Command) (stop : Fuse) (picks : Picks) (from : Standing Env) (ms : List (Moment Note)) (to : Standing Env) (left : Picks) (n : List Note)
      (ns : List (Moment Note)) (at : Standing Env) (other : Picks) → Wholly f c n ns → Leading M f c picks from ns at other →
      Misses stop n → Happens f c (Some stop) ms → Leading M f c picks from ms to left → ⊥
  apart (Call op args) = deed_apart (Call op args) tt
  apart (Tick layer number) = deed_apart (Tick layer number) tt
  apart Lost = deed_apart Lost tt
  apart (Fail within call) = deed_apart (Fail within call) tt
  apart (Keep given) = keep_apart given

  pub missed_apart : (c : Command) (stop : Option Fuse) (picks : Picks) (from : Standing Env) (ms : List (Moment Note)) (to : Standing Env) (left : Picks) →
      IsMissed M f c stop picks from → Happens f c stop ms → Leading M f c picks from ms to left → ⊥
  missed_apart c stop picks from ms to left m h l =
      apart c m.point picks from ms to left m.notes m.ms m.to m.left m.wholly m.leading m.misses (subst (λ o. Happens f c o ms) m.is h) l
