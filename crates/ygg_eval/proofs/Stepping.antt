-- The steps of a disk whose tables are kept as values.
use Rattle.std.proofs.Common.{◌≡◌, Bool, true, false, if◌then◌else◌, List, [], ◌∷◌, None, refl, ap, ◌∙◌, slice_index_or, slice_set}
use Rattle.ygg_value.specs.Values.{word_in, row_in, table_write, with_part}
use Rattle.ygg_value.specs.declared.row.Value.{Value}
use Rattle.ygg_value.specs.declared.row.Value.TheVariants.{Table}
use Rattle.ygg_base.specs.declared.geometry.DiskKind.{DiskKind}
use Rattle.ygg_base.specs.declared.geometry.DiskKind.TheVariants.{Sync, Async}
use Rattle.ygg_eval.specs.ygg_disk.Disk as disk
use Rattle.ygg_eval.specs.ygg_disk.Power.{pick_of, after_pick}
use Rattle.ygg_eval.specs.ygg_disk.declared.power.Picks.{Picks as Source}
use Rattle.ygg_eval.specs.ygg_disk.declared.power.Power.{Power}
use Rattle.ygg_eval.specs.Taken.{TakesOnly}
use Rattle.ygg_eval.specs.Tables.{IsWritable, AreTables, AreWritable, Made, Cut, Lost}

-- no test both passes and fails
pub never : {A : Type 0} (b : Bool) → b ≡ true → b ≡ false → A
never true e f = absurd (cc)
never false e f = absurd (cc)

-- a step without a pick
pub no_pick : (p : Power) → TakesOnly [] p p
no_pick p = record { picks = refl; others = refl }

-- a step with one pick
pub one_pick : (pick : Bool) (p : Power) (after : Source) → pick ≡ pick_of p.picks → after ≡ after_pick p.picks →
    TakesOnly (pick ∷ []) p (record p { picks = after })
one_pick pick p after e f = record { picks = (e, f); others = refl }

pub first_writable : (kind : DiskKind) (values : List Value) (at row d : Value) → AreWritable kind values at row → IsWritable (slice_index_or values 0 d) at row
first_writable Sync values at row d w = record {
  grid = w.disk;
  is_table = ap (λ vs. slice_index_or vs 0 d) w.are;
  address = w.address;
  is_address = w.is_address;
  digits = w.digits;
  is_row = w.is_row;
  size = w.size;
}
first_writable Async values at row d w = record {
  grid = w.disk.view;
  is_table = ap (λ vs. slice_index_or vs 0 d) w.are;
  address = w.address;
  is_address = w.is_address;
  digits = w.digits;
  is_row = w.is_row;
  size = w.size.0;
}

pub second_writable : (kind : DiskKind) (values : List Value) (at row d : Value) → kind ≡ Async → AreWritable kind values at row →
    IsWritable (slice_index_or values 1 d) at row
second_writable Sync values at row d e w = absurd (cc)
second_writable Async values at row d e w = record {
  grid = w.disk.stable;
  is_table = ap (λ vs. slice_index_or vs 1 d) w.are;
  address = w.address;
  is_address = w.is_address;
  digits = w.digits;
  is_row = w.is_row;
  size = w.size.1;
}

pub second_writable_still : (kind : DiskKind) (values : List Value) (at row d new : Value) → kind ≡ Async → AreWritable kind values at row →
    IsWritable (slice_index_or (slice_set values 0 new) 1 d) at row
second_writable_still Sync values at row d new e w = absurd (cc)
second_writable_still Async values at row d new e w = record {
  grid = w.disk.stable;
  is_table = ap (λ vs. slice_index_or (slice_set vs 0 new) 1 d) w.are;
  address = w.address;
  is_address = w.is_address;
  digits = w.digits;
  is_row = w.is_row;
  size = w.size.1;
}

pub sync_written : (kind : DiskKind) (values : List Value) (at row d new : Value) (p : Power) → kind ≡ Sync → AreWritable kind values at row →
    new ≡ with_part (slice_index_or values 0 d) ((word_in at).bits ∷ []) row
    → Made kind (disk.Write (word_in at).bits (row_in row)) None values (slice_set values 0 new) p p
sync_written Async values at row d new p e w n = absurd (cc)
sync_written Sync values at row d new p e w n = record {
  from = w.disk;
  to = table_write w.disk (word_in at).bits (row_in row);
  from_are = w.are;
  to_are = ap (λ vs. slice_set vs 0 new) w.are ∙ ap (λ v. v ∷ []) (n ∙ ap (λ vs. with_part (slice_index_or vs 0 d) ((word_in at).bits ∷ []) row) w.are);
  picks = [];
  step = (refl, refl, refl);
  takes = no_pick p;
}

-- both tables of an asynchronous disk after a write
async_tables : (kept : Bool) (values : List Value) (at row d d' view stable : Value) (t : disk.Tables) → values ≡ Table t.view ∷ Table t.stable ∷ []
    → view ≡ with_part (slice_index_or values 0 d) ((word_in at).bits ∷ []) row →
    (kept ≡ true → stable ≡ with_part (slice_index_or (slice_set values 0 view) 1 d') ((word_in at).bits ∷ []) row)
    → (if kept then slice_set (slice_set values 0 view) 1 stable else slice_set values 0 view)
    ≡ Table (table_write t.view (word_in at).bits (row_in row)) ∷ Table (if kept then table_write t.stable (word_in at).bits (row_in row) else t.stable) ∷ []
async_tables true values at row d d' view stable t are v s =
    let first : view ≡ Table (table_write t.view (word_in at).bits (row_in row)) = v
    ∙ ap (λ vs. with_part (slice_index_or vs 0 d) ((word_in at).bits ∷ []) row) are in
    let second : stable ≡ Table (table_write t.stable (word_in at).bits (row_in row)) = s refl
    ∙ ap (λ vs. with_part (slice_index_or (slice_set vs 0 view) 1 d') ((word_in at).bits ∷ []) row) are in
    ap (λ vs. slice_set (slice_set vs 0 view) 1 stable) are ∙ ap (λ x. x ∷ stable ∷ []) first
    ∙ ap (λ x. Table (table_write t.view (word_in at).bits (row_in row)) ∷ x ∷ []) second
async_tables false values at row d d' view stable t are v s =
    let first : view ≡ Table (table_write t.view (word_in at).bits (row_in row)) = v
    ∙ ap (λ vs. with_part (slice_index_or vs 0 d) ((word_in at).bits ∷ []) row) are in
    ap (λ vs. slice_set vs 0 view) are ∙ ap (λ x. x ∷ Table t.stable ∷ []) first

async_written : (kept : Bool) (kind : DiskKind) (values values' : List Value) (at row d d' view stable : Value) (p : Power) (after : Source) →
    kind ≡ Async → AreWritable kind values at row
    → kept ≡ pick_of p.picks → after ≡ after_pick p.picks → view ≡ with_part (slice_index_or values 0 d) ((word_in at).bits ∷ []) row
    → (kept ≡ true → stable ≡ with_part (slice_index_or (slice_set values 0 view) 1 d') ((word_in at).bits ∷ []) row) →
    values' ≡ (if kept then slice_set (slice_set values 0 view) 1 stable else slice_set values 0 view)
    → Made kind (disk.Write (word_in at).bits (row_in row)) None values values' p (record p { picks = after })
async_written kept Sync values values' at row d d' view stable p after e w k f v s i = absurd (cc)
async_written kept Async values values' at row d d' view stable p after e w k f v s i = record {
  from = w.disk;
  to = disk.written kept w.disk (word_in at).bits (row_in row);
  from_are = w.are;
  to_are = i ∙ async_tables kept values at row d d' view stable w.disk w.are v s;
  picks = kept ∷ [];
  step = (kept, refl, refl, refl);
  takes = one_pick kept p after k f;
}

pub async_kept : (kept : Bool) (kind : DiskKind) (values : List Value) (at row d d' view stable : Value) (p : Power) (after : Source) → kept ≡ true →
    kind ≡ Async → AreWritable kind values at row
    → kept ≡ pick_of p.picks → after ≡ after_pick p.picks → view ≡ with_part (slice_index_or values 0 d) ((word_in at).bits ∷ []) row
    → stable ≡ with_part (slice_index_or (slice_set values 0 view) 1 d') ((word_in at).bits ∷ []) row
    → Made kind (disk.Write (word_in at).bits (row_in row)) None values (slice_set (slice_set values 0 view) 1 stable) p (record p { picks = after })
async_kept true kind values at row d d' view stable p after y e w k f v s =
    async_written true kind values _ at row d d' view stable p after e w k f v (λ _. s) refl
async_kept false kind values at row d d' view stable p after y e w k f v s = absurd (cc)

pub async_left : (kept : Bool) (kind : DiskKind) (values : List Value) (at row d view : Value) (p : Power) (after : Source) → kept ≡ false →
    kind ≡ Async → AreWritable kind values at row
    → kept ≡ pick_of p.picks → after ≡ after_pick p.picks → view ≡ with_part (slice_index_or values 0 d) ((word_in at).bits ∷ []) row
    → Made kind (disk.Write (word_in at).bits (row_in row)) None values (slice_set values 0 view) p (record p { picks = after })
async_left true kind values at row d view p after y e w k f v = absurd (cc)
async_left false kind values at row d view p after y e w k f v =
    async_written false kind values _ at row d d view view p after e w k f v (λ n. absurd (cc)) refl

-- power fails within a write of a synchronous disk
pub sync_cut : (kept : Bool) (kind : DiskKind) (values : List Value) (at row d new : Value) (p : Power) (after : Source) → kept ≡ true → kind ≡ Sync →
    AreWritable kind values at row
    → kept ≡ pick_of p.picks → after ≡ after_pick p.picks → new ≡ with_part (slice_index_or values 0 d) ((word_in at).bits ∷ []) row
    → Cut kind (disk.Write (word_in at).bits (row_in row)) values (slice_set values 0 new) p (record p { picks = after })
sync_cut false kind values at row d new p after y e w k f n = absurd (cc)
sync_cut true Async values at row d new p after y e w k f n = absurd (cc)
sync_cut true Sync values at row d new p after y e w k f n = record {
  from = w.disk;
  to = table_write w.disk (word_in at).bits (row_in row);
  from_are = w.are;
  to_are = ap (λ vs. slice_set vs 0 new) w.are ∙ ap (λ v. v ∷ []) (n ∙ ap (λ vs. with_part (slice_index_or vs 0 d) ((word_in at).bits ∷ []) row) w.are);
  picks = true ∷ [];
  step = (true, refl, refl);
  takes = one_pick true p after k f;
}

pub sync_spared : (kept : Bool) (kind : DiskKind) (values : List Value) (at row : Value) (p : Power) (after : Source) → kept ≡ false → kind ≡ Sync →
    AreWritable kind values at row
    → kept ≡ pick_of p.picks → after ≡ after_pick p.picks → Cut kind (disk.Write (word_in at).bits (row_in row)) values values p (record p { picks = after })
sync_spared true kind values at row p after y e w k f = absurd (cc)
sync_spared false Async values at row p after y e w k f = absurd (cc)
sync_spared false Sync values at row p after y e w k f = record {
  from = w.disk;
  to = w.disk;
  from_are = w.are;
  to_are = w.are;
  picks = false ∷ [];
  step = (false, refl, refl);
  takes = one_pick false p after k f;
}

-- power fails within a write of an asynchronous disk, whose stable rows are then seen
pub async_cut : (kept : Bool) (kind : DiskKind) (values between : List Value) (at row d d' new copy : Value) (p : Power) (after : Source) →
    kind ≡ Async → AreWritable kind values at row
    → kept ≡ pick_of p.picks → after ≡ after_pick p.picks → (kept ≡ true → new ≡ with_part (slice_index_or values 1 d) ((word_in at).bits ∷ []) row)
    → between ≡ (if kept then slice_set values 1 new else values) → copy ≡ slice_index_or between 1 d'
    → Cut kind (disk.Write (word_in at).bits (row_in row)) values (slice_set between 0 copy) p (record p { picks = after })
async_cut kept Sync values between at row d d' new copy p after e w k f n b c = absurd (cc)
async_cut true Async values between at row d d' new copy p after e w k f n b c =
    let stable : new ≡ Table (table_write w.disk.stable (word_in at).bits (row_in row)) = n refl
    ∙ ap (λ vs. with_part (slice_index_or vs 1 d) ((word_in at).bits ∷ []) row) w.are in
    let are : between ≡ Table w.disk.view ∷ Table (table_write w.disk.stable (word_in at).bits (row_in row)) ∷ [] = b
    ∙ ap (λ vs. slice_set vs 1 new) w.are ∙ ap (λ x. Table w.disk.view ∷ x ∷ []) stable in
    record {
      from = w.disk;
      to = disk.lost (disk.written true w.disk (word_in at).bits (row_in row));
      from_are = w.are;
      to_are = ap (λ vs. slice_set vs 0 copy) are ∙ ap (λ x. x ∷ Table (table_write w.disk.stable (word_in at).bits (row_in row)) ∷ [])
          (c ∙ ap (λ vs. slice_index_or vs 1 d') are);
      picks = true ∷ [];
      step = (true, refl, refl);
      takes = one_pick true p after k f;
    }
async_cut false Async values between at row d d' new copy p after e w k f n b c =
    let are : between ≡ Table w.disk.view ∷ Table w.disk.stable ∷ [] = b ∙ w.are in
    record {
      from = w.disk;
      to = disk.lost (disk.written false w.disk (word_in at).bits (row_in row));
      from_are = w.are;
      to_are = ap (λ vs. slice_set vs 0 copy) are ∙ ap (λ x. x ∷ Table w.disk.stable ∷ []) (c ∙ ap (λ vs. slice_index_or vs 1 d') are);
      picks = false ∷ [];
      step = (false, refl, refl);
      takes = one_pick false p after k f;
    }

pub sync_settled : (kind : DiskKind) (values : List Value) → kind ≡ Sync → AreTables kind values → (p : Power) → Made kind disk.Flush None values values p p
sync_settled Async values e w p = absurd (cc)
sync_settled Sync values e w p = record {
  from = w.disk;
  to = w.disk;
  from_are = w.are;
  to_are = w.are;
  picks = [];
  step = (refl, refl, refl);
  takes =
      no_pick p;
}

pub async_settled : (kind : DiskKind) (values : List Value) (copy d : Value) → kind ≡ Async → AreTables kind values → copy ≡ slice_index_or values 0 d
    → (p : Power) → Made kind disk.Flush None values (slice_set values 1 copy) p p
async_settled Sync values copy d e w c p = absurd (cc)
async_settled Async values copy d e w c p = record {
  from = w.disk;
  to = record { view = w.disk.view; stable = w.disk.view };
  from_are = w.are;
  to_are = ap (λ vs. slice_set vs 1 copy) w.are ∙ ap (λ x. Table w.disk.view ∷ x ∷ []) (c ∙ ap (λ vs. slice_index_or vs 0 d) w.are);
  picks = [];
  step = (refl, refl, refl);
  takes = no_pick p;
}

pub sync_lost : (kind : DiskKind) (values : List Value) → kind ≡ Sync → AreTables kind values → Lost kind values values
sync_lost Async values e w = absurd (cc)
sync_lost Sync values e w = record { from = w.disk; from_are = w.are; to_are = w.are }

pub async_lost : (kind : DiskKind) (values : List Value) (copy d : Value) → kind ≡ Async → AreTables kind values → copy ≡ slice_index_or values 1 d →
    Lost kind values (slice_set values 0 copy)
async_lost Sync values copy d e w c = absurd (cc)
async_lost Async values copy d e w c = record {
  from = w.disk;
  from_are = w.are;
  to_are = ap (λ vs. slice_set vs 0 copy) w.are ∙ ap (λ x. x ∷ Table w.disk.stable ∷ []) (c ∙ ap (λ vs. slice_index_or vs 1 d) w.are);
}
