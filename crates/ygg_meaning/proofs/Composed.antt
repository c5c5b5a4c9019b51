-- Layers that each refine their specification, on one another.
use Rattle.std.proofs.Common.{◌≡◌, Bool, IsTrue, List, [], ◌∷◌, refl, sym, ap, ◌∙◌, subst}
use Rattle.ygg_meaning.specs.Environments.{Env}
use Rattle.ygg_meaning.specs.Machine.{State, based, on, Machine}
use Rattle.ygg_meaning.specs.Layer.{ClosedLayer, Layered}
use Rattle.ygg_meaning.specs.Spec.{Spec}
use Rattle.ygg_meaning.specs.Related.{related}
use Rattle.ygg_meaning.specs.Stack.{Layers, Stacked, Over, AllRefine}
use Rattle.ygg_meaning.specs.Under.{Under, WakesAfter, Survives}
use Rattle.ygg_meaning.specs.HistoryLaws.{ByLinks, OnTop, AllAnswered}
use Rattle.ygg_meaning.proofs.Chains.{under_trans, under_by}
use Rattle.ygg_meaning.proofs.Monotone.{layered_under, same_lower, same_memory}
use Rattle.ygg_meaning.proofs.Plain.{IsBase, base_by, IsPlain, over_plain}
use Rattle.ygg_meaning.proofs.Totals.{total}
use Rattle.ygg_meaning.proofs.Refined.{RelatedBy, refines_under}

-- a machine is under itself
module _ (M : Machine Env Bool) (plain : IsPlain M) where
  wake_base : (f : Env) (fs : List Env) (s : State Env) → WakesAfter M f fs s → IsBase s
  wake_base f [] s h = base_by s f (plain.wakes f h.0 s h.1)
  wake_base f (f' ∷ fs) s (q, falls, rest) = absurd (plain.no_wake_falls f q f' falls)

  by_links : (s : State Env) → IsBase s → ByLinks [] s s
  by_links s b = record { base = s.base; is = b; linked = b }

  same : (t s : State Env) → ByLinks [] t s → s ≡ t
  same t s r = r.linked ∙ sym r.is

  base_under : Under M M (ByLinks [])
  base_under = record {
    starts = λ s notes h. (s, notes, h, by_links s (plain.starts s notes h));
    calls = λ t s s' name args notes answer r h.
        (s', notes, subst (λ x. M.Calls x name args notes answer s') (same t s r) h, by_links s' (plain.calls s name args notes answer s' h));
    ticks = λ t s s' name notes r h. (
      t,
      notes,
      subst (λ x. M.Ticks x name notes t) (same t s r) (subst (λ x. M.Ticks s name notes x) (plain.ticks s name notes s' h ∙ same t s r) h),
      record { base = r.base; is = r.is; linked = plain.ticks s name notes s' h ∙ r.linked },
    );
    survives = λ t s s' how r h.
        (s', subst (λ x. Survives M how x s') (same t s r) h, by_links s' (wake_base h.fallen h.woken.0 s' h.woken.1));
  }

module _ (M : Machine Env Bool) (plain : IsPlain M) (L : ClosedLayer) (below : Layers) where
  abbrev Both : State Env → State Env → Type 0
  Both u s = (t : State Env) × RelatedBy L (Over M below) (over_plain M plain below) u t × OnTop (ByLinks below) t s

  joined : (u s : State Env) → Both u s → ByLinks (L ∷ below) u s
  joined u s (t, a, b) =
      let both = sym a.lower_is ∙ b.upper_is in
      let memory = same_memory a.memory b.memory (based a.low) b.upper both in
      let low = ap (λ (x : State Env). x.base) (same_lower a.memory b.memory (based a.low) b.upper both ∙ b.related.is) in
      record {
        base = a.vars;
        is = a.upper_is;
        linked = record {
          memory = b.memory;
          lower = b.lower;
          is = b.lower_is;
          low = b.related.base;
          below = b.related.linked;
          here = subst (λ m. IsTrue (related L a.vars m b.related.base)) memory (subst (λ l. IsTrue (related L a.vars a.memory l)) low a.here);
        };
      }

  parted : (u s : State Env) → ByLinks (L ∷ below) u s → Both u s
  parted u s r =
      let x = r.linked in (
        on x.memory (based x.low),
        record { vars = r.base; memory = x.memory; low = x.low; upper_is = r.is; lower_is = refl; here = x.here },
        record {
          memory = x.memory;
          upper = based x.low;
          lower = x.lower;
          upper_is = refl;
          lower_is = x.is;
          related =
              record { base = x.low; is = refl; linked = x.below };
        },
      )

pub compose : (M : Machine Env Bool) → IsPlain M → (layers : Layers) → AllRefine M layers → AllAnswered M layers →
    Under (Stacked M layers) (Over M layers) (ByLinks layers)
compose M plain [] r t = base_under M plain
compose M plain (L ∷ below) (r, rs) (t, ts) =
    let N = Over M below in
    let plain' = over_plain M plain below in
    let U = layered_under (Stacked M below) N (ByLinks below) (compose M plain below rs ts) L in
    let V = refines_under L N plain' r (total L N plain' t) in
    under_by (Layered L (Stacked M below)) (Spec L) (Both M plain L below) (ByLinks (L ∷ below)) (joined M plain L below) (parted M plain L below)
    (under_trans (Layered L (Stacked M below)) (Layered L N) (Spec L) (OnTop (ByLinks below)) (RelatedBy L N plain') U V)
