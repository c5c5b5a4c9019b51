use Rattle.std.proofs.Common.{◌≡◌, ap, sym, ◌∙◌, length}
use Rattle.ygg_value.specs.Number.{Digits, Grid}
use Rattle.ygg_value.proofs.Rows.{grid-read_slice, grid-read_filled}
use Rattle.ygg_value.proofs.row.table_read.Goals as goal

pub returns-then-at-table-clause-value : goal.returns-then-at-table-clause-value
returns-then-at-table-clause-value c =
    let wide : c.into.inside.width ≡ c.table.inside.width = ap (λ (r : Digits). r.width) c.into.view_is ∙ c.requires.width
    ∙ ap (λ (t : Grid). t.width) (sym c.table.view_is) in
    rw (← c.table.view_is, ← c.at.view_is) (grid-read_slice _ _ _ _ _ _ _ _ c.if-at-table.true c.deref.ensures.value wide c.copy_from_slice.ensures.items)

pub returns-else-at-table-clause-value : goal.returns-else-at-table-clause-value
returns-else-at-table-clause-value c =
    let wide : c.into.inside.width ≡ c.table.inside.width = ap (λ (r : Digits). r.width) c.into.view_is ∙ c.requires.width
    ∙ ap (λ (t : Grid). t.width) (sym c.table.view_is) in
    let long : c.into.inside.words.len ≡ c.table.inside.words =
    c.into.inside.words.ok.0 ∙ ap (λ (r : Digits). length r.words) c.into.view_is ∙ c.requires.words ∙ ap (λ (t : Grid). t.words) (sym c.table.view_is) in
    rw (← c.table.view_is, ← c.at.view_is) (grid-read_filled _ _ _ c.table.inside.numbers.items _ _ _ _ c.if-at-table.false wide long
    (c.fill.ensures.items (λ _ e. e)))
