-- What the public calls say of their answers, from what their answers are.
use Rattle.std.proofs.Common.{
  ◌≡◌,
  ◌<◌,
  ◌^◌,
  ℕ,
  Bool,
  true,
  false,
  if◌then◌else◌,
  inl,
  inr,
  Option,
  Some,
  None,
  Result,
  Ok,
  Err,
  OnOk,
  IfOk,
  List,
  [],
  ◌∷◌,
  ◌++◌,
  map,
  length,
  replicate,
  slice_get,
  slice_set,
  unwrap_or,
  refl,
  sym,
  ap,
  ◌∙◌,
  subst,
  arith,
}
use Rattle.std.specs.List.{list_any}
use Rattle.std.proofs.lemmas.Nat.{pow_pos}
use Rattle.ygg_value.specs.Number.{Number, Grid}
use Rattle.ygg_value.specs.Values.{table_read, table_write}
use Rattle.ygg_value.specs.Words.{word}
use Rattle.ygg_value.specs.declared.shape.Shape.{Shape}
use Rattle.ygg_shape_words.specs.ygg_rules.Views.{IsWidth}
use Rattle.ygg_shape_words.specs.ygg_rules.declared.rule.RuleKind.{RuleKind}
use Rattle.ygg_shape_words.specs.ygg_bank_proofs_Exist.{values_fit}
use Rattle.ygg_shape_words.specs.ygg_bank_proofs_Widths.{has_width, width_fits}
use Rattle.ygg_shape_words.specs.ygg_bank.Makes.{Out}
use Rattle.ygg_shape_words.specs.ygg_bank.Making.{known_in, same}
use Rattle.ygg_shape_words.specs.ygg_bank.Nodes.{width_at, widths_of, HasWidth, Stands, InOrder, IsBank, Extends}
use Rattle.ygg_shape_words.specs.ygg_bank.Values.{Inputs, Values, Fits, value_of}
use Rattle.ygg_shape_words.specs.ygg_bank.declared.node.Id.{Id}
use Rattle.ygg_shape_words.specs.ygg_bank.declared.node.Node.{Node}
use Rattle.ygg_shape_words.specs.ygg_bank.declared.node.Node.TheVariants.{Const}
use Rattle.ygg_shape_cells.proofs.Rows.{RowIs, split_at_is}
use Rattle.ygg_shape_cells.proofs.Selected.{within_is, constant_place}
use Rattle.ygg_shape_cells.proofs.Tables.{RowsAre, stored_is, stored_length}
use Rattle.ygg_shape_cells.proofs.Wider.{rows_wider}
use Rattle.ygg_shape_cells.proofs.Worth.{digits, grid, row_worth, table_worth, table_like, merged_is}
use Rattle.ygg_shape_cells.specs.Making.{merged, split_at, row_or_zeros, selected, selected_at, selected_within, stored, width_in}
use Rattle.ygg_shape_cells.specs.Meaning.{IsRead, IsWritten, IsMerged, IsConstant, AddsAtMostZero}
use Rattle.ygg_shape_cells.specs.Terms.{IsRow, IsTable, HasShape, AreAlike, TableStands, CanStore, numbers_of, row_of, table_of, words_in}
use Rattle.ygg_shape_cells.specs.declared.selecting.TheConstants.{PLACE_DEPTH}
use Rattle.ygg_shape_cells.specs.declared.terms.SymValue.{SymValue}

-- an environment that gives 0 to each input
abbrev pub no_inputs : Inputs
no_inputs number = 0

-- some environment fits nodes in order
pub some_fit : (nodes : List Node) → IsBank nodes → Fits no_inputs (value_of no_inputs nodes) nodes
some_fit nodes h = values_fit no_inputs nodes h.ordered (λ place number w e. pow_pos w)

-- a row where the place has a number keeps the shape
pub split_shape : {E : Type 0} (kinds : List RuleKind) (n w d i : ℕ) (at : Id) (xs ys : List Id) (old new : List Node) (r : Result (List Id) E) →
    IsBank new → HasWidth old at d → IsWidth d → i < 2 ^ d →
    OnOk r (new ≡ (split_at kinds at d i xs ys old).nodes) → IfOk r (λ row. row ≡ (split_at kinds at d i xs ys old).value) → IsRow old n w xs →
    IsRow old n w ys → IfOk r (IsRow new n w)
split_shape kinds n w d i at xs ys old new (Ok row) b a l f e g p q =
    let o = split_at kinds at d i xs ys old in
    let h = subst IsBank e b in
    let m = split_at_is no_inputs (value_of no_inputs o.nodes) kinds n w d i at xs ys old a l f p q (some_fit o.nodes h) in
    subst (λ z. IsRow z n w row) (sym e) (subst (IsRow o.nodes n w) (sym g) m.shaped)
split_shape kinds n w d i at xs ys old new (Err x) b a l f e g p q = tt

-- merging
pub merged_shape : {E : Type 0} (kinds : List RuleKind) (s : Shape) (t : Id) (one two : SymValue) (old new : List Node) (r : Result SymValue E) →
    IsBank new → Extends old new → HasWidth old t 1 →
    OnOk r (new ≡ (merged kinds t one two old).nodes) → IfOk r (λ answer. answer ≡ (merged kinds t one two old).value) → HasShape old s one →
    HasShape old s two → IfOk r (HasShape new s)
merged_shape kinds s t one two old new (Ok answer) b x d e g p q =
    let o = merged kinds t one two old in
    let m = merged_is no_inputs (value_of no_inputs o.nodes) kinds s t one two old p q d (subst (Extends old) e x) (some_fit o.nodes (subst IsBank e b)) in
    subst (λ z. HasShape z s answer) (sym e) (subst (HasShape o.nodes s) (sym g) m.has)
merged_shape kinds s t one two old new (Err x) b y d e g p q = tt

pub merged_value : {E : Type 0} (kinds : List RuleKind) (t : Id) (one two : SymValue) (old new : List Node) (r : Result SymValue E) → IsBank new →
    Extends old new → HasWidth old t 1 →
    OnOk r (new ≡ (merged kinds t one two old).nodes) → IfOk r (λ answer. answer ≡ (merged kinds t one two old).value) → AreAlike old one two →
    IfOk r (IsMerged new t one two)
merged_value kinds t one two old new (Ok answer) b x d e g p =
    let o = merged kinds t one two old in
    let c = subst IsBank e b in
    subst (λ z. IsMerged z t one two answer) (sym e) (subst (IsMerged o.nodes t one two) (sym g) (λ inputs fit.
    let m = merged_is inputs (value_of inputs o.nodes) kinds p.shape t one two old p.one_has p.two_has d (subst (Extends old) e x)
    (values_fit inputs o.nodes c.ordered fit) in
    m.is p.limits))
merged_value kinds t one two old new (Err x) b y d e g p = tt

-- reading, under one valuation
pub selected_row : (inputs : Inputs) (v : Values) (kinds : List RuleKind) (n w : ℕ) (table : List (List Id)) (at : Id) (old : List Node) → InOrder [] old →
    Stands old at → IsTable old n w table →
    Fits inputs v (selected kinds table at old).nodes →
    RowIs inputs v (selected kinds table at old).nodes n w (unwrap_or (slice_get (map (numbers_of v) table) (v at.0).bits) (replicate n 0))
    (selected kinds table at old).value
selected_row inputs v kinds n w table at old b s h = within_is inputs v kinds n w table PLACE_DEPTH at old b s h

pub within_shape : {E : Type 0} (kinds : List RuleKind) (n w depth : ℕ) (table : List (List Id)) (at : Id) (o : Out (List Id)) (old new : List Node)
    (r : Result (List Id) E) → o ≡ selected_within kinds table depth at old → IsBank old → IsBank new → Stands old at → OnOk r (new ≡ o.nodes) →
    IfOk r (λ row. row ≡ o.value) → IsTable old n w table → IfOk r (IsRow new n w)
within_shape kinds n w depth table at o old new (Ok row) a b c s e g h =
    let p = selected_within kinds table depth at old in
    let left : new ≡ p.nodes = e ∙ ap (λ (o : Out (List Id)). o.nodes) a in
    let m = within_is no_inputs (value_of no_inputs p.nodes) kinds n w table depth at old b.ordered s h (some_fit p.nodes (subst IsBank left c)) in
    subst (λ z. IsRow z n w row) (sym left) (subst (IsRow p.nodes n w) (sym (g ∙ ap (λ (o : Out (List Id)). o.value) a)) m.shaped)
within_shape kinds n w depth table at o old new (Err x) a b c s e g h = tt

-- a row with the numbers of a reading is what the reading gives
pub read_is : (inputs : Inputs) (v : Values) (kinds : List RuleKind) (n w k : ℕ) (table : List (List Id)) (row : List Id) (nodes : List Node) →
    Fits inputs v nodes → IsTable nodes n w table →
    RowIs inputs v nodes n w (unwrap_or (slice_get (map (numbers_of v) table) k) (replicate n 0)) row → row_of v row ≡ table_read (table_of v table) k
read_is inputs v kinds n w k table row nodes f h m =
    let l = h.limits in
    row_worth inputs v kinds nodes n w row f m.shaped (omega arith) ∙ ap (digits w) m.is
    ∙ ap (λ (t : Grid). table_read t k) (sym (table_worth inputs v kinds nodes n w table f h))

pub selected_value : {E : Type 0} (kinds : List RuleKind) (table : List (List Id)) (at : Id) (old new : List Node) (r : Result (List Id) E) →
    IsBank old → IsBank new → Extends old new → Stands old at →
    OnOk r (new ≡ (selected kinds table at old).nodes) → IfOk r (λ row. row ≡ (selected kinds table at old).value) → TableStands old table →
    IfOk r (IsRead new table at)
selected_value kinds table at old new (Ok row) b c x s e g t =
    let o = selected kinds table at old in
    let d = subst IsBank e c in
    let h = t.is in
    subst (λ z. IsRead z table at row) (sym e) (subst (IsRead o.nodes table at) (sym g) (λ inputs fit.
    let v = value_of inputs o.nodes in
    let f = values_fit inputs o.nodes d.ordered fit in
    read_is inputs v kinds t.words t.width (v at.0).bits table o.value o.nodes f
    (record { limits = h.limits; rows = rows_wider old o.nodes t.words t.width table (subst (Extends old) e x) h.rows })
    (selected_row inputs v kinds t.words t.width table at old b.ordered s h f)))
selected_value kinds table at old new (Err x) b c y s e g t = tt

-- of a constant place at most a zero is made
zero_case : (b : Bool) (width : ℕ) (nodes : List Node) → AddsAtMostZero nodes (if b then nodes else nodes ++ Const (word width 0) ∷ [])
zero_case true width nodes = inl refl
zero_case false width nodes = inr (width, refl)

at_most_zero : (kinds : List RuleKind) (table : List (List Id)) (w d : ℕ) (at : Id) (k : Option Number) (x : Number) (o : Option (List Id))
    (nodes : List Node) → k ≡ Some x → slice_get table x.bits ≡ o →
    AddsAtMostZero nodes (selected_at kinds table w at d k nodes).nodes
at_most_zero kinds table w d at (Some y) x (Some row) nodes e f =
    let g : y ≡ x = cc in
    let there : slice_get table y.bits ≡ Some row = ap (λ (z : Number). slice_get table z.bits) g ∙ f in
    subst (λ z. AddsAtMostZero nodes (row_or_zeros kinds (words_in table) w z nodes).nodes) (sym there) (inl refl)
at_most_zero kinds table w d at (Some y) x None nodes e f =
    let g : y ≡ x = cc in
    let there : slice_get table y.bits ≡ None = ap (λ (z : Number). slice_get table z.bits) g ∙ f in
    subst (λ z. AddsAtMostZero nodes (row_or_zeros kinds (words_in table) w z nodes).nodes) (sym there)
    (zero_case (list_any (same (Const (word w 0))) nodes) w nodes)
at_most_zero kinds table w d at None x o nodes e f = absurd (cc)

pub selected_constant : {E : Type 0} (kinds : List RuleKind) (table : List (List Id)) (at : Id) (old new : List Node) (r : Result (List Id) E) →
    OnOk r (new ≡ (selected kinds table at old).nodes) → IsConstant old at → OnOk r (AddsAtMostZero old new)
selected_constant kinds table at old new (Ok row) e c =
    subst (AddsAtMostZero old) (sym (e ∙ ap (λ o. o.nodes) (constant_place kinds table PLACE_DEPTH at c.0 old c.1)))
    (at_most_zero kinds table (width_in old table) (width_at (widths_of old) at) at (known_in (slice_get old at.0)) c.0
    (slice_get table (c.0).bits) old (ap known_in c.1) refl)
selected_constant kinds table at old new (Err x) e c = tt

-- writing, under one valuation
pub stored_rows : (inputs : Inputs) (v : Values) (kinds : List RuleKind) (n w : ℕ) (table : List (List Id)) (at : Id) (row : List Id) (old : List Node) →
    InOrder [] old → Stands old at → IsTable old n w table →
    IsRow old n w row → Fits inputs v (stored kinds table at row old).nodes →
    RowsAre inputs v (stored kinds table at row old).nodes n w (slice_set (map (numbers_of v) table) (v at.0).bits (numbers_of v row))
    (stored kinds table at row old).value
stored_rows inputs v kinds n w table at row old b s h p f =
    let d = width_at (widths_of old) at in
    let a = has_width old at s in
    stored_is inputs v kinds n w d at row table (known_in (slice_get old at.0)) old refl a (width_fits old at d b a) p h.rows f

-- a table that is written has its rows
pub stored_size : (inputs : Inputs) (v : Values) (kinds : List RuleKind) (table : List (List Id)) (at : Id) (row : List Id) (old : List Node) →
    length (stored kinds table at row old).value ≡ length table
stored_size inputs v kinds table at row old = stored_length inputs v kinds (width_at (widths_of old) at) at row table (known_in (slice_get old at.0)) old

pub stored_count : {E : Type 0} (kinds : List RuleKind) (table : List (List Id)) (at : Id) (row : List Id) (old : List Node) (r : Result (List (List Id)) E) →
    IfOk r (λ answer. answer ≡ (stored kinds table at row old).value) → IfOk r (λ (answer : List (List Id)). length answer ≡ length table)
stored_count kinds table at row old (Ok answer) g =
    ap length g ∙ stored_length no_inputs (value_of no_inputs old) kinds (width_at (widths_of old) at) at row table (known_in (slice_get old at.0)) old
stored_count kinds table at row old (Err x) g = tt

pub stored_shape : {E : Type 0} (kinds : List RuleKind) (n w : ℕ) (table : List (List Id)) (at : Id) (row : List Id) (old new : List Node)
    (r : Result (List (List Id)) E) → IsBank old → IsBank new →
    Stands old at → OnOk r (new ≡ (stored kinds table at row old).nodes) → IfOk r (λ answer. answer ≡ (stored kinds table at row old).value) →
    IsTable old n w table → IsRow old n w row →
    IfOk r (IsTable new n w)
stored_shape kinds n w table at row old new (Ok answer) b c s e g h p =
    let o = stored kinds table at row old in
    let v = value_of no_inputs o.nodes in
    let m = stored_rows no_inputs v kinds n w table at row old b.ordered s h p (some_fit o.nodes (subst IsBank e c)) in
    let size = stored_length no_inputs v kinds (width_at (widths_of old) at) at row table (known_in (slice_get old at.0)) old in
    subst (λ z. IsTable z n w answer) (sym e) (subst (IsTable o.nodes n w) (sym g)
    (table_like no_inputs v kinds old o.nodes n w table o.value h size m.rows_are))
stored_shape kinds n w table at row old new (Err x) b c s e g h p = tt

pub stored_value : {E : Type 0} (kinds : List RuleKind) (table : List (List Id)) (at : Id) (row : List Id) (old new : List Node)
    (r : Result (List (List Id)) E) → IsBank old → IsBank new → Extends old new →
    Stands old at → OnOk r (new ≡ (stored kinds table at row old).nodes) → IfOk r (λ answer. answer ≡ (stored kinds table at row old).value) →
    CanStore old table row →
    IfOk r (IsWritten new table at row)
stored_value kinds table at row old new (Ok answer) b c x s e g t =
    let o = stored kinds table at row old in
    let d = subst IsBank e c in
    let h = t.is in
    let n = t.words in let w = t.width in
    subst (λ z. IsWritten z table at row answer) (sym e) (subst (IsWritten o.nodes table at row) (sym g) (λ inputs fit.
    let v = value_of inputs o.nodes in
    let f = values_fit inputs o.nodes d.ordered fit in
    let m = stored_rows inputs v kinds n w table at row old b.ordered s h t.row_is f in
    let size = stored_length inputs v kinds (width_at (widths_of old) at) at row table (known_in (slice_get old at.0)) old in
    let answered : IsTable o.nodes n w o.value = table_like inputs v kinds old o.nodes n w table o.value h size m.rows_are in
    let before : IsTable o.nodes n w table = record { limits = h.limits; rows = rows_wider old o.nodes n w table (subst (Extends old) e x) h.rows } in
    table_worth inputs v kinds o.nodes n w o.value f answered ∙ ap (grid w n) m.is
    ∙ ap (λ (z : Grid). table_write z (v at.0).bits (row_of v row)) (sym (table_worth inputs v kinds o.nodes n w table f before))))
stored_value kinds table at row old new (Err x) b c y s e g t = tt
