-- Histories of machines that are under one another.
use Rattle.std.proofs.Common.{List, [], ◌∷◌, refl, subst}
use Rattle.ygg_meaning.specs.Machine.{State, Machine}
use Rattle.ygg_meaning.specs.Under.{Under, InCall, InTick, Between}
use Rattle.ygg_meaning.specs.History.{Entry, Called, Cut, Ticked, CutTick, Lost, Step, Steps, History}

module _ {B X C Y : Type 0} (M : Machine B X) (N : Machine C Y) (R : State C → State B → Type 0) (U : Under M N R) where
  step_under : (e : Entry) (t : State C) (s s' : State B) → R t s → Step M e s s' → (t' : State C) × Step N e t t' × R t' s'
  step_under (Called name args answer) t s s' r (notes, h) =
      let (t', notes', c, r') = U.calls t s s' name args notes answer r h in (t', (notes', c), r')
  step_under (Cut name args) t s s' r h = U.survives t s s' (InCall name args) r h
  step_under (Ticked name) t s s' r (notes, h) =
      let (t', notes', c, r') = U.ticks t s s' name notes r h in (t', (notes', c), r')
  step_under (CutTick name) t s s' r h = U.survives t s s' (InTick name) r h
  step_under Lost t s s' r h = U.survives t s s' Between r h

  goes_under : (es : List Entry) (t : State C) (s s' : State B) → R t s → Steps M s es s' → (t' : State C) × Steps N t es t' × R t' s'
  goes_under [] t s s' r h = (t, refl, subst (λ x. R t x) h r)
  goes_under (e ∷ es) t s s' r (next, h, rest) =
      let (t1, h', r1) = step_under e t s next r h in
      let (t', rest', r') = goes_under es t1 next s' r1 rest in
      (t', (t1, h', rest'), r')

  pub history_under : (es : List Entry) (s : State B) → History M es s → (t : State C) × History N es t × R t s
  history_under es s (start, notes, h, goes) =
      let (t0, notes', h', r0) = U.starts start notes h in
      let (t, goes', r) = goes_under es t0 start s r0 goes in
      (t, (t0, notes', h', goes'), r)

-- one under another under a third
module _ {B X C Y D Z : Type 0} (M : Machine B X) (N : Machine C Y) (O : Machine D Z) (R : State C → State B → Type 0)
    (S : State D → State C → Type 0) (U : Under M N R) (V : Under N O S) where
  abbrev pub Through : State D → State B → Type 0
  Through u s = (t : State C) × S u t × R t s

  pub under_trans : Under M O Through
  under_trans = record {
    starts = λ s notes h.
        let (t, p, h', r) = U.starts s notes h in
        let (u, q, h'', r') = V.starts t p h' in
        (u, q, h'', (t, r', r));
    calls = λ u s s' name args notes answer x h.
        let (t', p, h', r) = U.calls x.0 s s' name args notes answer x.2 h in
        let (u', q, h'', r') = V.calls u x.0 t' name args p answer x.1 h' in
        (u', q, h'', (t', r', r));
    ticks = λ u s s' name notes x h.
        let (t', p, h', r) = U.ticks x.0 s s' name notes x.2 h in
        let (u', q, h'', r') = V.ticks u x.0 t' name p x.1 h' in
        (u', q, h'', (t', r', r));
    survives = λ u s s' how x h.
        let (t', h', r) = U.survives x.0 s s' how x.2 h in
        let (u', h'', r') = V.survives u x.0 t' how x.1 h' in
        (u', h'', (t', r', r));
  }

-- a relation may be another that says the same
pub under_by : {B X C Y : Type 0} (M : Machine B X) (N : Machine C Y) (R S : State C → State B → Type 0) →
    ((t : State C) (s : State B) → R t s → S t s) → ((t : State C) (s : State B) → S t s → R t s) → Under M N R → Under M N S
under_by M N R S to from U = record {
  starts = λ s notes h. let (t, p, h', r) = U.starts s notes h in (t, p, h', to t s r);
  calls = λ t s s' name args notes answer x h. let (t', p, h', r) = U.calls t s s' name args notes answer (from t s x) h in (t', p, h', to t' s' r);
  ticks = λ t s s' name notes x h. let (t', p, h', r) = U.ticks t s s' name notes (from t s x) h in (t', p, h', to t' s' r);
  survives = λ t s s' how x h. let (t', h', r) = U.survives t s s' how (from t s x) h in (t', h', to t' s' r);
}
