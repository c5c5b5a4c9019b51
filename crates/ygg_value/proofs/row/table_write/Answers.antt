use Rattle.std.proofs.Common.{◌≡◌, ◌<◌, ◌^◌, All, subst, ◌+◌, ◌-◌, ◌*◌, ◌++◌, ap, sym, ◌∙◌, length, ℕ, take, drop}
use Rattle.std.specs.Vec.{with_items}
use borrow.Rule.Slice.PartMut.{put_mid}
use Rattle.ygg_value.specs.Number.{Digits, Grid}
use Rattle.ygg_value.proofs.Rows.{length-first_chunks, written_slice, grid, grid-write, grid-write_past, flat_from_write}
use Rattle.ygg_value.proofs.row.table_write.Goals as goal

-- the row is as long as the table's
long_row : (c : goal.After-table-1) → length c.row.inside.words.items ≡ c.table.inside.words
long_row c = ap (λ (r : Digits). length r.words) c.row.view_is ∙ c.requires.words ∙ ap (λ (t : Grid). t.words) (sym c.table.view_is)

-- what the numbers are after the write
written :
    (c : goal.After-table-1)
    → (with_items c.table.inside.numbers
    (put_mid (c.at.inside.bits * c.table.inside.words)
    (c.at.inside.bits * c.table.inside.words + c.table.inside.words - c.at.inside.bits * c.table.inside.words) c.deref_mut.result.now
    c.copy_from_slice.new.self)).items
    ≡ take (c.at.inside.bits * c.table.inside.words) c.table.inside.numbers.items
    ++ (c.row.inside.words.items ++ drop c.table.inside.words (drop (c.at.inside.bits * c.table.inside.words) c.table.inside.numbers.items))
written c =
    written_slice c.table.inside.numbers c.table.inside.words c.table.inside.rows c.at.inside.bits c.deref_mut.result.now c.copy_from_slice.new.self
    c.row.inside.words.items
    c.if-at-table.true c.table.invariant.laid c.table.inside.numbers.ok.0 c.deref_mut.ensures.value
    (c.copy_from_slice.ensures.after ∙ c.deref.ensures.value) (long_row c)

pub invariant_of-table : goal.invariant_of-table
invariant_of-table c =
    let wide : c.row.inside.width ≡ c.table.inside.width = ap (λ (r : Digits). r.width) c.row.view_is ∙ c.requires.width
    ∙ ap (λ (t : Grid). t.width) (sym c.table.view_is) in
    let Fit : ℕ → Type 0 = λ width. All (λ n. n < 2 ^ width) c.row.inside.words.items in
    rw (written c) (flat_from_write _ _ _ _ _ _ c.table.invariant c.if-at-table.true (long_row c) (subst Fit wide c.row.invariant.fits))

pub returns-then-at-table-clause-value : goal.returns-then-at-table-clause-value
returns-then-at-table-clause-value c =
    let row : Digits = record { width = c.row.inside.width; words = c.row.inside.words.items } in
    rw (← c.table.view_is, ← c.at.view_is, ← c.row.view_is)
    (ap (grid c.table.inside.width c.table.inside.words c.table.inside.rows) (written c)
    ∙ grid-write _ _ _ _ _ row c.if-at-table.true c.table.invariant.laid (long_row c))

pub returns-else-at-table-clause-value : goal.returns-else-at-table-clause-value
returns-else-at-table-clause-value c = rw (← c.table.view_is, ← c.at.view_is) (grid-write_past _ _ _ _ _ c.args.row.now c.if-at-table.false)

pub returns-then-at-table-clause-rows : goal.returns-then-at-table-clause-rows
returns-then-at-table-clause-rows c = rw (← c.table.view_is) (length-first_chunks _ _ _ ∙ sym (length-first_chunks _ _ _))
