-- The entries of moments that lead from one running state to another are steps, and all steps are those of some moments.
use Rattle.std.proofs.Common.{◌≡◌, List, [], ◌∷◌, refl, ap}
use Rattle.ygg_meaning.specs.Machine.{State, Machine}
use Rattle.ygg_meaning.specs.Under.{Failure, InCall, InTick, Between, WakesAfter, Woken, Survives}
use Rattle.ygg_meaning.specs.History.{Entry, Called, Cut, Ticked, CutTick, Lost, Step, Steps}
use Rattle.ygg_meaning.specs.Left.{entry_of}
use Rattle.ygg_meaning.specs.Trace.{Standing, Up, Down, Moment, Calls, Ticks, Fails, WakeFails, Wakes, Traces, entries_of}

module _ {B X : Type 0} (M : Machine B X) where
  abbrev state_of : State B → Standing B → State B
  state_of d (Up s) = s
  state_of d (Down f) = d

  pub survived : (how : Failure) (s s' : State B) → Survives M how s s' → Step M (entry_of how) s s'
  survived (InCall name args) s s' h = h
  survived (InTick name) s s' h = h
  survived Between s s' h = h

  -- from a fallen state: it is woken after some failed recoveries, and then the rest are steps
  pub record Resumed (f : B) (ms : List (Moment X)) (s' : State B) : Type 0 where
    pub at : State B
    pub woken : Woken M f at
    pub rest : Steps M at (entries_of ms) s'

  mutual
    pub steps_of : (ms : List (Moment X)) (s s' : State B) → Traces M (Up s) ms (Up s') → Steps M s (entries_of ms) s'
    steps_of [] s s' h = ap (state_of s) h
    steps_of (Calls name args answer notes ∷ ms) s s' (Up t, h, rest) = (t, (notes, h), steps_of ms t s' rest)
    steps_of (Ticks name notes ∷ ms) s s' (Up t, h, rest) = (t, (notes, h), steps_of ms t s' rest)
    steps_of (Fails how notes ∷ ms) s s' (Down f, h, rest) =
        let r = resumed_of ms f s' rest in
        (r.at, survived how s r.at (record { notes = notes; fallen = f; fails = h; woken = r.woken }), r.rest)
    steps_of (Calls name args answer notes ∷ ms) s s' (Down f, h, rest) = absurd h
    steps_of (Ticks name notes ∷ ms) s s' (Down f, h, rest) = absurd h
    steps_of (Fails how notes ∷ ms) s s' (Up t, h, rest) = absurd h
    steps_of (WakeFails notes ∷ ms) s s' (next, h, rest) = absurd h
    steps_of (Wakes notes ∷ ms) s s' (next, h, rest) = absurd h

    pub resumed_of : (ms : List (Moment X)) (f : B) (s' : State B) → Traces M (Down f) ms (Up s') → Resumed f ms s'
    resumed_of [] f s' h = absurd (cc)
    resumed_of (WakeFails notes ∷ ms) f s' (Down g, h, rest) =
        let r = resumed_of ms g s' rest in record { at = r.at; woken = (g ∷ r.woken.0, (notes, h, r.woken.1)); rest = r.rest }
    resumed_of (Wakes notes ∷ ms) f s' (Up t, h, rest) = record { at = t; woken = ([], (notes, h)); rest = steps_of ms t s' rest }
    resumed_of (WakeFails notes ∷ ms) f s' (Up t, h, rest) = absurd h
    resumed_of (Wakes notes ∷ ms) f s' (Down g, h, rest) = absurd h
    resumed_of (Calls name args answer notes ∷ ms) f s' (next, h, rest) = absurd h
    resumed_of (Ticks name notes ∷ ms) f s' (next, h, rest) = absurd h
    resumed_of (Fails how notes ∷ ms) f s' (next, h, rest) = absurd h

  -- moments of these entries
  pub record Traced (es : List Entry) (from : Standing B) (s' : State B) : Type 0 where
    pub moments : List (Moment X)
    pub are : entries_of moments ≡ es
    pub trace : Traces M from moments (Up s')

  wake_traced : (fs : List B) (f : B) (s s' : State B) (es : List Entry) → WakesAfter M f fs s → Traced es (Up s) s' → Traced es (Down f) s'
  wake_traced [] f s s' es (notes, h) t = record { moments = Wakes notes ∷ t.moments; are = t.are; trace = (Up s, h, t.trace) }
  wake_traced (g ∷ fs) f s s' es (notes, h, rest) t =
      let r = wake_traced fs g s s' es rest t in
      record { moments = WakeFails notes ∷ r.moments; are = r.are; trace = (Down g, h, r.trace) }

  failure_traced : (how : Failure) (s next s' : State B) (es : List Entry) → Survives M how s next → Traced es (Up next) s' →
      Traced (entry_of how ∷ es) (Up s) s'
  failure_traced how s next s' es h t =
      let r = wake_traced h.woken.0 h.fallen next s' es h.woken.1 t in
      record { moments = Fails how h.notes ∷ r.moments; are = ap (λ l. entry_of how ∷ l) r.are; trace = (Down h.fallen, h.fails, r.trace) }

  pub traced : (es : List Entry) (s s' : State B) → Steps M s es s' → Traced es (Up s) s'
  traced [] s s' h = record { moments = []; are = refl; trace = ap Up h }
  traced (Called name args answer ∷ es) s s' (next, (notes, h), rest) =
      let t = traced es next s' rest in
      record { moments = Calls name args answer notes ∷ t.moments; are = ap (λ l. Called name args answer ∷ l) t.are; trace = (Up next, h, t.trace) }
  traced (Ticked name ∷ es) s s' (next, (notes, h), rest) =
      let t = traced es next s' rest in
      record { moments = Ticks name notes ∷ t.moments; are = ap (λ l. Ticked name ∷ l) t.are; trace = (Up next, h, t.trace) }
  traced (Cut name args ∷ es) s s' (next, h, rest) = failure_traced (InCall name args) s next s' es h (traced es next s' rest)
  traced (CutTick name ∷ es) s s' (next, h, rest) = failure_traced (InTick name) s next s' es h (traced es next s' rest)
  traced (Lost ∷ es) s s' (next, h, rest) = failure_traced Between s next s' es h (traced es next s' rest)
