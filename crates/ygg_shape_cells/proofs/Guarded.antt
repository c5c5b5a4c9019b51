-- What `store_where` says of its answer, from what its answer is.
use Rattle.std.proofs.Common.{◌≡◌, ℕ, if◌then◌else◌, [], Result, Ok, Err, OnOk, IfOk, List, length, map, slice_get, slice_set, refl, sym, ap, ◌∙◌, subst}
use Rattle.ygg_value.specs.Number.{Grid}
use Rattle.ygg_value.specs.Values.{table_write}
use Rattle.ygg_shape_words.specs.ygg_rules.declared.rule.RuleKind.{RuleKind}
use Rattle.ygg_shape_words.specs.ygg_bank_proofs_Exist.{values_fit}
use Rattle.ygg_shape_words.specs.ygg_bank_proofs_Widths.{wider, has_width, width_fits}
use Rattle.ygg_shape_words.specs.ygg_bank.Making.{known_in}
use Rattle.ygg_shape_words.specs.ygg_bank.Nodes.{width_at, widths_of, HasWidth, Stands, InOrder, IsBank, Extends}
use Rattle.ygg_shape_words.specs.ygg_bank.Values.{Inputs, Values, Fits, value_of}
use Rattle.ygg_shape_words.specs.ygg_bank.declared.node.Id.{Id}
use Rattle.ygg_shape_words.specs.ygg_bank.declared.node.Node.{Node}
use Rattle.ygg_shape_words.proofs.Terms.{holds, term_digit}
use Rattle.ygg_shape_cells.proofs.Wider.{rows_wider}
use Rattle.ygg_shape_cells.specs.Terms.{IsRow, IsTable, CanStore, numbers_of, row_of, table_of}
use Rattle.ygg_shape_cells.proofs.Answered.{no_inputs, some_fit}
use Rattle.ygg_shape_cells.proofs.Tables.{RowsAre}
use Rattle.ygg_shape_cells.proofs.Worth.{grid, if_of, table_worth, table_like}
use Rattle.ygg_shape_cells.proofs.Guards.{want, test, stored_where_is, stored_where_length}
use Rattle.ygg_shape_cells.specs.Guarding.{IsWrittenWhere, stored_where}

pub rows_where : (inputs : Inputs) (v : Values) (kinds : List RuleKind) (n w : ℕ) (t : Id) (table : List (List Id)) (at : Id) (row : List Id)
    (old : List Node) → InOrder [] old → HasWidth old t 1 → Stands old at →
    IsTable old n w table → IsRow old n w row → Extends old (stored_where kinds t table at row old).nodes →
    Fits inputs v (stored_where kinds t table at row old).nodes →
    RowsAre inputs v (stored_where kinds t table at row old).nodes n w (want inputs v kinds t at table row) (stored_where kinds t table at row old).value
rows_where inputs v kinds n w t table at row old b u s h p x f =
    let d = width_at (widths_of old) at in
    let a = has_width old at s in
    let o = stored_where kinds t table at row old in
    stored_where_is inputs v kinds n w d t at row table (known_in (slice_get old at.0)) old refl u a (width_fits old at d b a) p h.rows
    (term_digit inputs v o.nodes t f (wider old o.nodes t 1 x u)) f

-- a table that is written has its rows
pub where_size : (inputs : Inputs) (v : Values) (kinds : List RuleKind) (t : Id) (table : List (List Id)) (at : Id) (row : List Id) (old : List Node) →
    length (stored_where kinds t table at row old).value ≡ length table
where_size inputs v kinds t table at row old =
    stored_where_length inputs v kinds (width_at (widths_of old) at) t at row table (known_in (slice_get old at.0)) old

-- a table with the rows of a guarded write is what the write gives
pub where_is : (inputs : Inputs) (v : Values) (kinds : List RuleKind) (n w : ℕ) (t : Id) (table : List (List Id)) (at : Id) (row : List Id)
    (answer : List (List Id)) (nodes : List Node) → Fits inputs v nodes → IsTable nodes n w table → IsTable nodes n w answer →
    RowsAre inputs v nodes n w (want inputs v kinds t at table row) answer →
    table_of v answer ≡ (if holds inputs v t then table_write (table_of v table) (v at.0).bits (row_of v row) else table_of v table)
where_is inputs v kinds n w t table at row answer nodes f before answered m =
    let rows = map (numbers_of v) table in
    let c = test inputs v kinds t in
    table_worth inputs v kinds nodes n w answer f answered ∙ ap (grid w n) m.is
    ∙ if_of (grid w n) c (slice_set rows (v at.0).bits (numbers_of v row)) rows
    ∙ ap (λ (z : Grid). if c then table_write z (v at.0).bits (row_of v row) else z) (sym (table_worth inputs v kinds nodes n w table f before))

pub where_shape : {E : Type 0} (kinds : List RuleKind) (n w : ℕ) (t : Id) (table : List (List Id)) (at : Id) (row : List Id) (old new : List Node)
    (r : Result (List (List Id)) E) → IsBank old → IsBank new →
    Extends old new → HasWidth old t 1 → Stands old at → OnOk r (new ≡ (stored_where kinds t table at row old).nodes) →
    IfOk r (λ answer. answer ≡ (stored_where kinds t table at row old).value) →
    IsTable old n w table → IsRow old n w row → IfOk r (IsTable new n w)
where_shape kinds n w t table at row old new (Ok answer) b c x u s e g h p =
    let o = stored_where kinds t table at row old in
    let v = value_of no_inputs o.nodes in
    let m = rows_where no_inputs v kinds n w t table at row old b.ordered u s h p (subst (Extends old) e x) (some_fit o.nodes (subst IsBank e c)) in
    let size = stored_where_length no_inputs v kinds (width_at (widths_of old) at) t at row table (known_in (slice_get old at.0)) old in
    subst (λ z. IsTable z n w answer) (sym e) (subst (IsTable o.nodes n w) (sym g)
    (table_like no_inputs v kinds old o.nodes n w table o.value h size m.rows_are))
where_shape kinds n w t table at row old new (Err y) b c x u s e g h p = tt

pub where_value : {E : Type 0} (kinds : List RuleKind) (t : Id) (table : List (List Id)) (at : Id) (row : List Id) (old new : List Node)
    (r : Result (List (List Id)) E) → IsBank old → IsBank new →
    Extends old new → HasWidth old t 1 → Stands old at → OnOk r (new ≡ (stored_where kinds t table at row old).nodes) →
    IfOk r (λ answer. answer ≡ (stored_where kinds t table at row old).value) →
    CanStore old table row → IfOk r (IsWrittenWhere new t table at row)
where_value kinds t table at row old new (Ok answer) b c x u s e g k =
    let o = stored_where kinds t table at row old in
    let d = subst IsBank e c in
    let h = k.is in
    let n = k.words in let w = k.width in
    subst (λ z. IsWrittenWhere z t table at row answer) (sym e) (subst (IsWrittenWhere o.nodes t table at row) (sym g) (λ inputs fit.
    let v = value_of inputs o.nodes in
    let f = values_fit inputs o.nodes d.ordered fit in
    let m = rows_where inputs v kinds n w t table at row old b.ordered u s h k.row_is (subst (Extends old) e x) f in
    let size = stored_where_length inputs v kinds (width_at (widths_of old) at) t at row table (known_in (slice_get old at.0)) old in
    let answered : IsTable o.nodes n w o.value = table_like inputs v kinds old o.nodes n w table o.value h size m.rows_are in
    let before : IsTable o.nodes n w table = record { limits = h.limits; rows = rows_wider old o.nodes n w table (subst (Extends old) e x) h.rows } in
    where_is inputs v kinds n w t table at row o.value o.nodes f before answered m))
where_value kinds t table at row old new (Err y) b c x u s e g k = tt
