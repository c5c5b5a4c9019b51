-- The asynchronous disk and the one with pending writes, step by step.
use Rattle.std.proofs.Common.{◌≡◌, ℕ, Bool, true, false, List, [], ◌∷◌, Some, inl, inr, refl, sym, ap, ◌∙◌, subst}
use Rattle.ygg_value.specs.Number.{Digits, Grid}
use Rattle.ygg_value.specs.Values.{table_read, table_write}
use Rattle.ygg_disk.specs.Disk.{Read, Write, Flush, Tables, written, lost}
use Rattle.ygg_disk.specs.Pending.{Cache, PendingWrite, applied, IsSublist, with_write}
use Rattle.ygg_disk.specs.Agree.{Event, Did, Cut, Lost, async_leaves, pending_leaves}

-- reads see the same, and the rows that would survive are those after some of the pending writes
record Matches (d : Tables) (c : Cache) : Type 0 where
  seen : d.view ≡ applied c.pending c.stable
  kept : List PendingWrite
  some : IsSublist kept c.pending
  survive : d.stable ≡ applied kept c.stable

abbrev settled : Cache → List PendingWrite → Cache
settled c kept = record { stable = applied kept c.stable; pending = [] }

none_kept : (ws : List PendingWrite) → IsSublist [] ws
none_kept [] = refl
none_kept (w ∷ ws) = inl (none_kept ws)

matches_written : (p : Bool) (d : Tables) (c : Cache) (at : ℕ) (row : Digits) → Matches d c → Matches (written p d at row) (with_write c at row)
matches_written true d c at row m = record {
  seen = ap (λ g. table_write g at row) m.seen;
  kept = record { at = at; row = row } ∷ m.kept;
  some = inr (m.kept, refl, m.some);
  survive = ap (λ g. table_write g at row) m.survive;
}
matches_written false d c at row m = record {
  seen = ap (λ g. table_write g at row) m.seen;
  kept = m.kept;
  some = inl m.some;
  survive = m.survive;
}

matches_flushed : (d : Tables) (c : Cache) → Matches d c → Matches (record { view = d.view; stable = d.view }) (settled c c.pending)
matches_flushed d c m = record { seen = m.seen; kept = []; some = refl; survive = m.seen }

matches_lost : (d : Tables) (c : Cache) (m : Matches d c) → Matches (lost d) (settled c m.kept)
matches_lost d c m = record { seen = m.survive; kept = []; some = refl; survive = m.survive }

module _ (rows : Grid) where
  forward : (es : List Event) (d : Tables) (c : Cache) → Matches d c → async_leaves d es rows → pending_leaves c es rows
  forward [] d c m h = (settled c m.kept, (m.kept, m.some, refl), h ∙ m.survive)
  forward (Did (Read at) y ∷ es) d c m (picks, d', (p, e, s), rest) =
      (c, (e ∙ ap (λ g. Some (table_read g at)) m.seen, refl), forward es d c m (subst (λ x. async_leaves x es rows) s rest))
  forward (Did (Write at row) y ∷ es) d c m (picks, d', (p, q, e, s), rest) = (
    with_write c at row,
    (e, refl),
    forward es (written p d at row) (with_write c at row) (matches_written p d c at row m)
        (subst (λ x. async_leaves x es rows) s rest),
  )
  forward (Did Flush y ∷ es) d c m (picks, d', (p, e, s), rest) =
      (settled c c.pending, (e, refl), forward es _ (settled c c.pending) (matches_flushed d c m) (subst (λ x. async_leaves x es rows) s rest))
  forward (Cut (Read at) ∷ es) d c m (picks, d', (p, s), rest) =
      (settled c m.kept, (m.kept, m.some, refl), forward es (lost d) (settled c m.kept) (matches_lost d c m) (subst (λ x. async_leaves x es rows) s rest))
  forward (Cut (Write at row) ∷ es) d c m (picks, d', (p, q, s), rest) =
      let n = matches_written p d c at row m in (
        settled c n.kept,
        (n.kept, n.some, refl),
        forward es (lost (written p d at row)) (settled c n.kept)
            (matches_lost (written p d at row) (with_write c at row) n) (subst (λ x. async_leaves x es rows) s rest),
      )
  forward (Cut Flush ∷ es) d c m (picks, d', (p, s), rest) =
      (settled c m.kept, (m.kept, m.some, refl), forward es (lost d) (settled c m.kept) (matches_lost d c m) (subst (λ x. async_leaves x es rows) s rest))
  forward (Lost ∷ es) d c m h =
      (settled c m.kept, (m.kept, m.some, refl), forward es (lost d) (settled c m.kept) (matches_lost d c m) h)

  -- what is kept at the next power loss is known from what comes, and so are the picks before it
  record Foreseen (c : Cache) (es : List Event) : Type 0 where
    kept : List PendingWrite
    some : IsSublist kept c.pending
    leaves : (d : Tables) → d.view ≡ applied c.pending c.stable → d.stable ≡ applied kept c.stable → async_leaves d es rows

  -- with one more write, which is kept or not
  with_pick : (c : Cache) (at : ℕ) (row : Digits) (kept : List PendingWrite) → IsSublist kept (with_write c at row).pending →
      (p : Bool) × (before : List PendingWrite) × IsSublist before c.pending
      × ((d : Tables) → d.stable ≡ applied before c.stable → (written p d at row).stable ≡ applied kept c.stable)
  with_pick c at row kept (inl some) = (false, kept, some, λ d e. e)
  with_pick c at row kept (inr (before, is, some)) =
      (true, before, some, λ d e. ap (λ g. table_write g at row) e ∙ ap (λ ws. applied ws c.stable) (sym is))

  foresee_lost : (es : List Event) (c : Cache) (kept : List PendingWrite) → Foreseen (settled c kept) es → (d : Tables) →
      d.stable ≡ applied kept c.stable → async_leaves (lost d) es rows
  foresee_lost es c kept f d e = f.leaves (lost d) e (e ∙ ap (λ ws. applied ws (applied kept c.stable)) (sym f.some))

  foresee : (es : List Event) (c : Cache) → pending_leaves c es rows → Foreseen c es
  foresee [] c (c', (kept, some, is), h) = record {
    kept = kept;
    some = some;
    leaves = λ d v e. h ∙ ap (λ (x : Cache). x.stable) is ∙ sym e;
  }
  foresee (Did (Read at) y ∷ es) c (c', (e, s), rest) =
      let f = foresee es c (subst (λ x. pending_leaves x es rows) s rest) in
      record { kept = f.kept; some = f.some; leaves = λ d v k. ([], d, (refl, e ∙ ap (λ g. Some (table_read g at)) (sym v), refl), f.leaves d v k) }
  foresee (Did (Write at row) y ∷ es) c (c', (e, s), rest) =
      let f = foresee es (with_write c at row) (subst (λ x. pending_leaves x es rows) s rest) in
      let (p, before, some, then_kept) = with_pick c at row f.kept f.some in
      record {
        kept = before;
        some = some;
        leaves = λ d v k. (p ∷ [], written p d at row, (p, refl, e, refl), f.leaves (written p d at row) (ap (λ g. table_write g at row) v) (then_kept d k));
      }
  foresee (Did Flush y ∷ es) c (c', (e, s), rest) =
      let f = foresee es (settled c c.pending) (subst (λ x. pending_leaves x es rows) s rest) in
      record {
        kept = [];
        some = none_kept c.pending;
        leaves = λ d v k. (
          [],
          record { view = d.view; stable = d.view },
          (refl, e, refl),
          f.leaves _ v (v ∙ ap (λ ws. applied ws (applied c.pending c.stable)) (sym f.some)),
        );
      }
  foresee (Cut (Read at) ∷ es) c (c', (kept, some, s), rest) =
      let f = foresee es (settled c kept) (subst (λ x. pending_leaves x es rows) s rest) in
      record { kept = kept; some = some; leaves = λ d v k. ([], lost d, (refl, refl), foresee_lost es c kept f d k) }
  foresee (Cut (Write at row) ∷ es) c (c', (kept, some, s), rest) =
      let f = foresee es (settled c kept) (subst (λ x. pending_leaves x es rows) s rest) in
      let (p, before, some', then_kept) = with_pick c at row kept some in
      record {
        kept = before;
        some = some';
        leaves = λ d v k. (p ∷ [], lost (written p d at row), (p, refl, refl), foresee_lost es c kept f (written p d at row) (then_kept d k));
      }
  foresee (Cut Flush ∷ es) c (c', (kept, some, s), rest) =
      let f = foresee es (settled c kept) (subst (λ x. pending_leaves x es rows) s rest) in
      record { kept = kept; some = some; leaves = λ d v k. ([], lost d, (refl, refl), foresee_lost es c kept f d k) }
  foresee (Lost ∷ es) c (c', (kept, some, s), rest) =
      let f = foresee es (settled c kept) (subst (λ x. pending_leaves x es rows) s rest) in
      record { kept = kept; some = some; leaves = λ d v k. foresee_lost es c kept f d k }

pub from_start : (start : Grid) (es : List Event) (rows : Grid) →
    (async_leaves (record { view = start; stable = start }) es rows → pending_leaves (record { stable = start; pending = [] }) es rows)
    × (pending_leaves (record { stable = start; pending = [] }) es rows → async_leaves (record { view = start; stable = start }) es rows)
from_start start es rows = (
  λ h. forward rows es _ (record { stable = start; pending = [] }) (record { seen = refl; kept = []; some = refl; survive = refl }) h,
  λ h. let f = foresee rows es (record { stable = start; pending = [] }) h in
      f.leaves (record { view = start; stable = start }) refl (ap (λ ws. applied ws start) (sym f.some)),
)
