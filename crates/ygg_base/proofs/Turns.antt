-- How an image turns that is written or flushed.
use Rattle.std.proofs.Common.{◌≡◌, ◌<◌, ◌≤◌, ◌+◌, ◌*◌, ◌++◌, ℕ, suc, Bool, true, false, List}
use Rattle.std.proofs.Common.{Some, inl, inr, length, take, drop, refl, sym, ap, subst, ◌∙◌, arith}
use Rattle.std.specs.Prelude.{slice_get, slice_set, slice_index_or, if◌then◌else◌, All}
use Rattle.std.proofs.lemmas.List.{length-append, length-drop, length-take-le}
use Rattle.std.proofs.lemmas.Option.{slice_get_read}
use Rattle.std.proofs.Math.Nat.{mul-le-mul_right}
use Rattle.ygg_base.specs.declared.outside.Moved.TheVariants.{Done}
use Rattle.ygg_base.specs.declared.image.Stored.{Stored}
use Rattle.ygg_base.specs.declared.image.Place.{Place}
use Rattle.ygg_base.specs.Devices.{with_block, MayHave, Writes, Flushes}
use Rattle.ygg_base.specs.Ram.{IsEven, ArePlaced, IsTurned, put_at}

-- bytes in the midst of others leave as many
pub length_put : (start : ℕ) (some bytes : List ℕ) → start + length some ≤ length bytes → length (put_at start some bytes) ≡ length bytes
length_put start some bytes fits =
    let first = length-append (take start bytes ++ some) (drop (start + length some) bytes) in
    let second = length-append (take start bytes) some in
    let third = length-take-le start bytes (omega (arith, fits)) in
    let last = length-drop (start + length some) bytes in
    let sum : length (take start bytes ++ some) + length (drop (start + length some) bytes) ≡ length bytes = omega (arith, second, third, last, fits) in
    first ∙ sum

-- a block that is seen is in the bytes
pub block_fits : (block count size bytes : ℕ) → block < count → count * size ≤ bytes → block * size + size ≤ bytes
block_fits block count size bytes less fits = let most = mul-le-mul_right {m = suc block} {n = count} size less in omega (arith, most, fits)

module _ (stored : List Stored) (p : Place) (old new : Stored) (even : All IsEven stored) (placed : ArePlaced stored p)
    (is : old ≡ slice_index_or stored p.place old) (named : new.name ≡ old.name) where
  stands : slice_get stored p.place ≡ Some old
  stands = slice_get_read stored (length stored) p.place old refl placed.0 is

  old_even : IsEven old
  old_even = subst IsEven (sym is) (even p.place old placed.0)

  -- one that is flushed
  pub flushed : new.view.items ≡ old.view.items → new.stable.items ≡ old.view.items → IsTurned (Flushes Done) p stored (slice_set stored p.place new)
  flushed view stable = record {
    old = old;
    new = new;
    stands = stands;
    is = refl;
    named = named;
    many = ap length view;
    even = ap length stable ∙ sym (ap length view);
    turns = (view, stable);
  }

  module _ (block start : ℕ) (from : List ℕ) (less : block < p.count) (many : length from ≡ p.size) (at : start ≡ block * p.size) where
    put_is : (bytes : List ℕ) → put_at start from bytes ≡ with_block p.size block from bytes
    put_is bytes =
        ap (λ s. take s bytes ++ from ++ drop (s + length from) bytes) at
        ∙ ap (λ n. take (block * p.size) bytes ++ from ++ drop (block * p.size + n) bytes) many

    fits : start + length from ≤ length old.view.items
    fits = let seen = placed.1 old stands in let within = block_fits block p.count p.size (length old.view.items) less seen.1 in omega (arith, within, at, many)

    -- one of which a block is written
    pub written : (reaches : Bool) → new.view.items ≡ put_at start from old.view.items →
        new.stable.items ≡ (if reaches then put_at start from old.stable.items else old.stable.items) →
        IsTurned (Writes block from Done) p stored (slice_set stored p.place new)
    written reaches view stable = record {
      old = old;
      new = new;
      stands = stands;
      is = refl;
      named = named;
      many = viewed;
      even = as_many reaches stable ∙ old_even ∙ sym viewed;
      turns = (view ∙ put_is old.view.items, may reaches stable);
    }
      where
        viewed : length new.view.items ≡ length old.view.items
        viewed = ap length view ∙ length_put start from old.view.items fits

        fits_stable : start + length from ≤ length old.stable.items
        fits_stable = subst (λ n. start + length from ≤ n) (sym old_even) fits

        as_many : (r : Bool) → new.stable.items ≡ (if r then put_at start from old.stable.items else old.stable.items) →
            length new.stable.items ≡ length old.stable.items
        as_many true e = ap length e ∙ length_put start from old.stable.items fits_stable
        as_many false e = ap length e

        may : (r : Bool) → new.stable.items ≡ (if r then put_at start from old.stable.items else old.stable.items) →
            MayHave p.size block from old.stable.items new.stable.items
        may true e = inr (e ∙ put_is old.stable.items)
        may false e = inl e
