-- The disks over terms do what the disks do whose picks are the inputs, by place.
use Rattle.std.proofs.Common.{◌≡◌, ◌+◌, ◌==◌, ℕ, Bool, true, false, ◌&&◌, if◌then◌else◌, List, [], ◌∷◌, map, All, Some, None, refl, sym, ap, ◌∙◌, subst, arith}
use Rattle.std.specs.Str.{bytes_eq}
use Rattle.std.specs.Prelude.{codes}
use Rattle.std.proofs.lemmas.List.Elements.{All-head, All-tail}
use Rattle.ygg_base.specs.declared.geometry.DiskKind.{DiskKind}
use Rattle.ygg_base.specs.declared.geometry.DiskKind.TheVariants.{Sync, Async}
use Rattle.ygg_value.specs.Number.{Number, Digits, Grid}
use Rattle.ygg_value.specs.Words.{word}
use Rattle.ygg_value.specs.Values as values
use Rattle.ygg_value.specs.Values.{word_in, table_read, table_write}
use Rattle.ygg_value.specs.Shapes.{shape_of}
use Rattle.ygg_value.specs.declared.row.Value.TheVariants as value
use Rattle.ygg_value.specs.declared.shape.Shape.{Shape}
use Rattle.ygg_value.specs.declared.shape.Shape.TheVariants as shape
use Rattle.ygg_syntax.specs.declared.grammar.BlockKind.TheVariants.{Impl}
use Rattle.ygg_syntax.specs.declared.tree.DiskText.{DiskText}
use Rattle.ygg_sym_runs.specs.ygg_type_rules.Names.{Named, look_up}
use Rattle.ygg_sym_runs.specs.ygg_type_rules.declared.scope.Signature.{Signature}
use Rattle.ygg_sym_runs.specs.ygg_type_rules.TypeErrors.{none}
use Rattle.ygg_sym_runs.specs.ygg_type_rules.Shapes.{is_word}
use Rattle.ygg_sym_runs.specs.ygg_type_rules.Files.{address, disk_row, disk_errors, disk_operations}
use Rattle.ygg_sym_runs.specs.ygg_disk.Disk as disk
use Rattle.ygg_sym_runs.specs.ygg_disk.Kinds.{model_of}
use Rattle.ygg_sym_runs.specs.ygg_meaning.Environments.{Name, Env}
use Rattle.ygg_sym_runs.specs.ygg_meaning.Shapes.{fits}
use Rattle.ygg_sym_runs.specs.ygg_meaning.Progress.{Question}
use Rattle.ygg_sym_runs.specs.ygg_meaning.Progress as progress
use Rattle.ygg_sym_runs.specs.ygg_meaning.Machine.{State, based}
use Rattle.ygg_sym_runs.specs.ygg_meaning.DiskMachine.{disk_call, answer_to, tables_in}
use Rattle.ygg_sym_runs.specs.ygg_meaning.Stack.{tables_of_kind, tables_of}
use Rattle.ygg_sym_runs.specs.ygg_meaning_laws.Fitting.{fits_wanted, all_fit}
use Rattle.ygg_sym_runs.specs.ygg_meaning_laws_proofs_Tests.{left as first_of, right as second_of, bytes_same, bytes_equal}
use Rattle.ygg_sym_runs.specs.ygg_meaning_laws_proofs_Fits.{fits_has}
use Rattle.ygg_sym_runs.specs.ygg_meaning_laws.Questions.{answer_fits, question_fits}
use Rattle.ygg_sym_runs.specs.ygg_meaning_laws.Machines.{IsSized}
use Rattle.ygg_sym_runs.specs.ygg_meaning_laws_proofs_Disks.{disk_row_is}
use Rattle.ygg_sym_runs.specs.ygg_rules.declared.rule.RuleKind.{RuleKind}
use Rattle.ygg_sym_runs.specs.ygg_bank_proofs_Made.{made_grows, added_there}
use Rattle.ygg_sym_runs.specs.ygg_bank_proofs_Meaning.{fits_fewer}
use Rattle.ygg_sym_runs.specs.ygg_bank_proofs_Widths.{wider, own_width, stands, extends_both}
use Rattle.ygg_sym_runs.specs.ygg_bank.Making.{made, added}
use Rattle.ygg_sym_runs.specs.ygg_bank.Nodes.{HasWidth}
use Rattle.ygg_sym_runs.specs.ygg_bank.Values.{Inputs, Values, Fits}
use Rattle.ygg_sym_runs.specs.ygg_bank.declared.node.Id.{Id}
use Rattle.ygg_sym_runs.specs.ygg_bank.declared.node.Node.{Node}
use Rattle.ygg_sym_runs.specs.ygg_bank.declared.node.Node.TheVariants.{Input}
use Rattle.ygg_sym_runs.specs.ygg_shape_cells_proofs_Wider.{row_wider, shaped_wider}
use Rattle.ygg_sym_runs.specs.ygg_shape_cells.Terms.{IsRow, worth, row_of}
use Rattle.ygg_sym_runs.specs.ygg_shape_cells.declared.terms.SymValue.{SymValue}
use Rattle.ygg_sym_runs.specs.ygg_shape_cells.declared.terms.SymValue.TheVariants.{Word, Row, Table}
use Rattle.ygg_sym_runs.specs.ygg_shape_cells_proofs_Makers.{selected_gives, stored_gives, stored_where_gives}
use Rattle.ygg_sym_runs.specs.ygg_meaning_laws.Direct.{Handled, question_space}
use Rattle.ygg_sym_runs.specs.ygg_meaning_laws.RunPlaces.{disk_space}
use Rattle.ygg_sym_runs.specs.ygg_meaning_laws.Places.{calling}
use Rattle.ygg_sym_runs.specs.ygg_meaning_laws.DiskActs.{Replied, kind_calls, state_in, table_in, disk_does, disk_acts}
use Rattle.ygg_sym_runs.specs.ygg_meaning_laws_proofs_DiskServes.{fitting_call, disk_serves}
use Rattle.ygg_sym_runs.specs.Exprs.{id_in}
use Rattle.ygg_sym_runs.specs.ygg_shape_cells.Terms.{IsShaped}
use Rattle.ygg_sym_runs.specs.ExpressionMeaning.{SomeShape, Gives}
use Rattle.ygg_sym_runs.proofs.Shaped.{worth_shape, is_term}
use Rattle.ygg_sym_runs.specs.Putting.{row_in}
use Rattle.ygg_sym_runs.specs.Runs.{SymQuestion, Choice, Call, SymHandled}
use Rattle.ygg_sym_runs.specs.Meaning.{answer_worth, question_worth, is_set, AnswerShaped, QuestionShaped, IsHandled, MachineMeans}
use Rattle.ygg_sym_runs.specs.Lows.{LowShaped, low_worth}
use Rattle.ygg_sym_runs.specs.Disks.{
  SymCall,
  Read,
  Write,
  Flush,
  sym_call,
  reads,
  writes,
  writes_where,
  sync_does,
  async_does,
  kind_does,
  disk_asked,
  disk_handles,
  sym_disk,
}
use Rattle.ygg_sym_runs.specs.Wholes.{picks_from}
use Rattle.ygg_sym_runs.specs.Laws.{picked_by}
use Rattle.ygg_sym_runs.proofs.DiskKeeps.{reads_grows, writes_grows, where_grows, disk_grows}
use Rattle.ygg_sym_runs.proofs.Lows.{low_of, low_wider, low_fits, merge_lows_grows, merge_lows_gives}

-- a disk that takes the picks of a call's places
abbrev pub disk_at : Bool → DiskText → (ℕ → Bool) → ℕ → Question → State Env → Handled (State Env)
disk_at past d bits i q z =
    let r = calling (disk_acts past d) q z (picks_from bits i (question_space disk_space q)) in record { answer = r.answer; to = r.to }

module _ (inputs : Inputs) (v : Values) (kinds : List RuleKind) (d : DiskText) where
  abbrev table : Shape
  table = shape.Table d.rows.value d.words.value d.width.value

  abbrev pub call_worth : SymCall → disk.Call
  call_worth (Read at) = disk.Read (v at.0).bits
  call_worth (Write at row) = disk.Write (v at.0).bits (row_of v row)
  call_worth Flush = disk.Flush

  -- a place and a row of the disk's shape
  abbrev pub CallShaped : List Node → SymCall → Type 0
  CallShaped nodes (Read at) = (w : ℕ) × HasWidth nodes at w
  CallShaped nodes (Write at row) = (w : ℕ) × HasWidth nodes at w × IsRow nodes d.words.value d.width.value row
  CallShaped nodes Flush = Unit {0}

  -- a table of the disk's shape that is worth this
  pub record TableIs (want : Grid) (nodes : List Node) (x : SymValue) : Type 0 where
    pub stands : IsShaped nodes table x
    pub is : worth v x ≡ value.Table want

  record IsDone (kind : DiskKind) (want : Replied (model_of kind).State) (nodes : List Node) (h : SymHandled (List SymValue)) : Type 0 where
    shaped : AnswerShaped nodes h.answer
    answer : answer_worth v h.answer ≡ answer_to want.reply
    has : LowShaped nodes (tables_of_kind kind d) h.to
    is : low_worth v (tables_of_kind kind d) h.to ≡ tables_in kind want.to

  -- the row that is read
  record ReadIs (want : Digits) (tables : List SymValue) (nodes : List Node) (h : SymHandled (List SymValue)) : Type 0 where
    shaped : AnswerShaped nodes h.answer
    answer : answer_worth v h.answer ≡ Some (value.Row want)
    to : h.to ≡ tables

  reads_give : (at : Id) (x : SymValue) (tables : List SymValue) (w : ℕ) (nodes : List Node) → IsShaped nodes table x → HasWidth nodes at w →
      Gives inputs v (reads kinds at x tables) nodes (ReadIs (table_read (table_in true (worth v x)) (v at.0).bits) tables)
  reads_give at (Table t) tables w nodes f a h =
      let p = f.has in
      let r = selected_gives inputs v kinds d.words.value d.width.value t at nodes p.1 (stands nodes at w a) h in
      record { shaped = record { shape = shape.Row d.words.value d.width.value; stands = r.shaped }; answer = ap (λ k. Some k) r.is; to = refl }
  reads_give at (Word a) tables w nodes f p h = absurd (f.has)
  reads_give at (Row a) tables w nodes f p h = absurd (f.has)

  writes_give : (at : Id) (row : List Id) (x : SymValue) (w : ℕ) (nodes : List Node) → IsShaped nodes table x → HasWidth nodes at w →
      IsRow nodes d.words.value d.width.value row →
      Gives inputs v (writes kinds at row x) nodes (TableIs (table_write (table_in true (worth v x)) (v at.0).bits (row_of v row)))
  writes_give at row (Table t) w nodes f a p h =
      let has = f.has in
      let r = stored_gives inputs v kinds d.words.value d.width.value t at row nodes has.1 p (stands nodes at w a) h in
      let there = (r.shaped).has in
      record { stands = record { limits = f.limits; has = (there.0 ∙ has.0, there.1) }; is = r.is }
  writes_give at row (Word a) w nodes f p q h = absurd (f.has)
  writes_give at row (Row a) w nodes f p q h = absurd (f.has)

  pub table_is : (nodes : List Node) (x : SymValue) → IsShaped nodes table x → worth v x ≡ value.Table (table_in true (worth v x))
  table_is nodes (Table t) f = refl
  table_is nodes (Word a) f = absurd (f.has)
  table_is nodes (Row a) f = absurd (f.has)

  pub where_give : (test at : Id) (row : List Id) (x : SymValue) (w : ℕ) (nodes : List Node) → HasWidth nodes test 1 → IsShaped nodes table x →
      HasWidth nodes at w →
      IsRow nodes d.words.value d.width.value row →
      Gives inputs v (writes_where kinds test at row x) nodes
      (TableIs (if is_set v test then table_write (table_in true (worth v x)) (v at.0).bits (row_of v row) else table_in true (worth v x)))
  where_give test at row (Table view) w nodes t f a p h =
      let has = f.has in
      let r = stored_where_gives inputs v kinds d.words.value d.width.value test view at row nodes t has.1 p (stands nodes at w a) h in
      let there = (r.shaped).has in
      record { stands = record { limits = f.limits; has = (there.0 ∙ has.0, there.1) }; is = r.is }
  where_give test at row (Word b) w nodes t f a p h = absurd (f.has)
  where_give test at row (Row b) w nodes t f a p h = absurd (f.has)

  -- a pick
  pub record PickIs (number : ℕ) (nodes : List Node) (a : Id) : Type 0 where
    pub wide : HasWidth nodes a 1
    pub is : is_set v a ≡ (inputs number == 1)

  pub pick_gives : (number : ℕ) (nodes : List Node) → Gives inputs v (made kinds (Input number 1)) nodes (PickIs number)
  pick_gives number nodes h =
      let o = added (Input number 1) nodes in
      let there = added_there (Input number 1) nodes in
      record {
        wide = own_width o.nodes o.value.0 (Input number 1) h.ordered there;
        is = ap (λ (k : Number). k.bits == 1) (h.values o.value.0 (Input number 1) there);
      }

  sync_gives : (past bit : Bool) (call : SymCall) (tables : List SymValue) (nodes : List Node) → LowShaped nodes (tables_of_kind Sync d) tables →
      CallShaped nodes call →
      Gives inputs v (sync_does kinds call tables) nodes
      (IsDone Sync (kind_calls past Sync (state_in past Sync (low_worth v (tables_of_kind Sync d) tables)) (call_worth call) (bit ∷ [])))
  sync_gives past bit (Read at) (x ∷ []) nodes p c h =
      let o = reads kinds at x (x ∷ []) nodes in
      let r = reads_give at x (x ∷ []) c.0 nodes p.0 c.1 h in
      let f = shaped_wider nodes o.nodes table x (reads_grows kinds at x (x ∷ []) nodes) p.0 in
      record {
        shaped = r.shaped;
        answer = r.answer;
        has = subst (LowShaped o.nodes (tables_of_kind Sync d)) (sym r.to) (f, tt);
        is = ap (low_worth v (tables_of_kind Sync d)) r.to ∙ ap (λ k. (codes "view", k) ∷ []) (table_is nodes x p.0);
      }
  sync_gives past bit (Write at row) (x ∷ []) nodes p c h =
      let r = writes_give at row x c.0 nodes p.0 c.1 c.2 h in
      record { shaped = tt; answer = refl; has = (r.stands, tt); is = ap (λ k. (codes "view", k) ∷ []) r.is }
  sync_gives past bit Flush (x ∷ []) nodes p c h =
      record { shaped = tt; answer = refl; has = p; is = ap (λ k. (codes "view", k) ∷ []) (table_is nodes x p.0) }
  sync_gives past bit call [] nodes p c h = absurd p
  sync_gives past bit call (x ∷ y ∷ more) nodes p c h = absurd (p.1)

  async_gives : (past : Bool) (number : ℕ) (call : SymCall) (tables : List SymValue) (nodes : List Node) → LowShaped nodes (tables_of_kind Async d) tables →
      CallShaped nodes call →
      Gives inputs v (async_does kinds number call tables) nodes
      (IsDone Async (kind_calls past Async (state_in past Async (low_worth v (tables_of_kind Async d) tables)) (call_worth call) ((inputs number == 1) ∷ [])))
  async_gives past number (Read at) (x ∷ y ∷ []) nodes p c h =
      let o = reads kinds at x (x ∷ y ∷ []) nodes in
      let r = reads_give at x (x ∷ y ∷ []) c.0 nodes p.0 c.1 h in
      let q = low_wider nodes o.nodes (tables_of_kind Async d) (x ∷ y ∷ []) (reads_grows kinds at x (x ∷ y ∷ []) nodes) p in
      let py = p.1 in
      record {
        shaped = r.shaped;
        answer = r.answer;
        has = subst (LowShaped o.nodes (tables_of_kind Async d)) (sym r.to) q;
        is = ap (low_worth v (tables_of_kind Async d)) r.to ∙ ap (λ k. (codes "view", k) ∷ (codes "stable", worth v y) ∷ []) (table_is nodes x p.0)
            ∙ ap (λ k. (codes "view", value.Table (table_in true (worth v x))) ∷ (codes "stable", k) ∷ []) (table_is nodes y py.0);
      }
  async_gives past number (Write at row) (x ∷ y ∷ []) nodes p c h =
      let k = made kinds (Input number 1) nodes in
      let a = writes kinds at row x k.nodes in
      let b = writes_where kinds k.value at row y a.nodes in
      let gk = made_grows kinds (Input number 1) nodes in
      let ga = writes_grows kinds at row x k.nodes in
      let gb = where_grows kinds k.value at row y a.nodes in
      let ha = fits_fewer inputs v a.nodes b.nodes gb h in
      let hk = fits_fewer inputs v k.nodes a.nodes ga ha in
      let both = extends_both nodes k.nodes a.nodes gk ga in
      let py = p.1 in
      let pick = pick_gives number nodes hk in
      let seen = writes_give at row x c.0 k.nodes (shaped_wider nodes k.nodes table x gk p.0) (wider nodes k.nodes at c.0 gk c.1)
      (row_wider nodes k.nodes d.words.value d.width.value row gk c.2) ha in
      let left = where_give k.value at row y c.0 a.nodes (wider k.nodes a.nodes k.value 1 ga pick.wide) (shaped_wider nodes a.nodes table y both py.0)
      (wider nodes a.nodes at c.0 both c.1) (row_wider nodes a.nodes d.words.value d.width.value row both c.2) h in
      let old = table_in true (worth v y) in
      let written = table_write old (v at.0).bits (row_of v row) in
      record {
        shaped = tt;
        answer = refl;
        has = (shaped_wider a.nodes b.nodes table a.value gb seen.stands, (left.stands, tt));
        is = ap (λ z. (codes "view", z) ∷ (codes "stable", worth v b.value) ∷ []) seen.is
            ∙ ap (λ z. (codes "view", value.Table (table_write (table_in true (worth v x)) (v at.0).bits (row_of v row))) ∷ (codes "stable", z) ∷ [])
            (left.is ∙ ap (λ (t : Bool). value.Table (if t then written else old)) pick.is);
      }
  async_gives past number Flush (x ∷ y ∷ []) nodes p c h =
      record {
        shaped = tt;
        answer = refl;
        has = (p.0, (p.0, tt));
        is = ap (λ k. (codes "view", k) ∷ (codes "stable", k) ∷ []) (table_is nodes x p.0);
      }
  async_gives past number call [] nodes p c h = absurd p
  async_gives past number call (x ∷ []) nodes p c h = absurd (p.1)
  async_gives past number call (x ∷ y ∷ z ∷ more) nodes p c h = let q = p.1 in absurd (q.1)

  kind_gives : (kind : DiskKind) (past : Bool) (number : ℕ) (call : SymCall) (tables : List SymValue) (nodes : List Node) →
      LowShaped nodes (tables_of_kind kind d) tables → CallShaped nodes call →
      Gives inputs v (kind_does kinds kind number call tables) nodes
      (IsDone kind (kind_calls past kind (state_in past kind (low_worth v (tables_of_kind kind d) tables)) (call_worth call) ((inputs number == 1) ∷ [])))
  kind_gives Sync past number call tables nodes = sync_gives past (inputs number == 1) call tables nodes
  kind_gives Async past number call tables nodes = async_gives past number call tables nodes

  -- which call it is
  pub record AskIs (nodes : List Node) (name : Name) (xs : List SymValue) : Type 0 where
    pub call : SymCall
    pub terms : sym_call name xs ≡ Some call
    pub values : disk_call name (map (worth v) xs) ≡ Some (call_worth call)
    pub shaped : CallShaped nodes call

  -- a row of the disk's shape
  record RowTerm (nodes : List Node) (x : SymValue) : Type 0 where
    shaped : IsRow nodes d.words.value d.width.value (row_in x)
    is : row_of v (row_in x) ≡ values.row_in (worth v x)

  row_term : (s : Shape) (nodes : List Node) (x : SymValue) → IsShaped nodes s x → s ≡ shape.Row d.words.value d.width.value → RowTerm nodes x
  row_term s nodes x f e = cases x (subst (λ z. IsShaped nodes z x) e f)
    where
      cases : (x : SymValue) → IsShaped nodes (shape.Row d.words.value d.width.value) x → RowTerm nodes x
      cases (Row row) f = record { shaped = f.has; is = refl }
      cases (Word a) f = absurd (f.has)
      cases (Table t) f = absurd (f.has)

  module _ (right : none (disk_errors d) ≡ true) where
    word_eight : (x : SymValue) (nodes : List Node) → Fits inputs v nodes → SomeShape nodes x → fits (shape.Word 8) (worth v x) ≡ true →
        (w : ℕ) × HasWidth nodes (id_in x) w × (v (id_in x).0 ≡ word_in (worth v x))
    word_eight x nodes h s e =
        let hs = fits_has (shape.Word 8) (worth v x) (omega arith, omega arith) e in
        let is : shape_of (worth v x) ≡ shape.Word 8 = let z = hs.is in cc in
        let t = is_term inputs v (worth v x) nodes x h (record { shaped = s; is = refl }) (ap is_word is) in
        ((word_in (worth v x)).width, t.wide, t.worth)

    asks_read : (xs : List SymValue) (nodes : List Node) → Fits inputs v nodes → All (SomeShape nodes) xs →
        all_fit (address ∷ []) (map (worth v) xs) ≡ true → AskIs nodes (codes "read") xs
    asks_read [] nodes h s e = absurd (cc)
    asks_read (x ∷ y ∷ more) nodes h s e = let z = second_of (fits_wanted address (worth v x)) _ e in absurd (cc)
    asks_read (x ∷ []) nodes h s e =
        let t = word_eight x nodes h (All-head (SomeShape nodes) x [] s) (first_of (fits_wanted address (worth v x)) true e) in
        record {
          call = Read (id_in x);
          terms = ap (λ b. if b then Some (Read (id_in x)) else None) (bytes_equal (codes "read"));
          values = ap (λ b. if b then Some (disk.Read (word_in (worth v x)).bits) else None) (bytes_equal (codes "read"))
              ∙ ap (λ (k : Number). Some (disk.Read k.bits)) (sym t.2);
          shaped = (t.0, t.1);
        }

    asks_write : (xs : List SymValue) (nodes : List Node) → Fits inputs v nodes → All (SomeShape nodes) xs →
        all_fit (address ∷ disk_row d ∷ []) (map (worth v) xs) ≡ true → AskIs nodes (codes "write") xs
    asks_write [] nodes h s e = absurd (cc)
    asks_write (x ∷ []) nodes h s e = let z = second_of (fits_wanted address (worth v x)) _ e in absurd (cc)
    asks_write (x ∷ y ∷ z ∷ more) nodes h s e =
        let r = second_of (fits_wanted address (worth v x)) _ e in
        let q = second_of (fits_wanted (disk_row d) (worth v y)) _ r in absurd (cc)
    asks_write (x ∷ y ∷ []) nodes h s e =
        let rest = second_of (fits_wanted address (worth v x)) (fits_wanted (disk_row d) (worth v y) && true) e in
        let t = word_eight x nodes h (All-head (SomeShape nodes) x (y ∷ []) s) (first_of (fits_wanted address (worth v x)) _ e) in
        let sy = All-head (SomeShape nodes) y [] (All-tail (SomeShape nodes) x (y ∷ []) s) in
        let rows = disk_row_is d right in
        let fit : fits (shape.Row d.words.value d.width.value) (worth v y) ≡ true =
        subst (λ o. fits_wanted o (worth v y) ≡ true) rows.is (first_of (fits_wanted (disk_row d) (worth v y)) true rest) in
        let hs = fits_has (shape.Row d.words.value d.width.value) (worth v y) rows.limits fit in
        let is : shape_of (worth v y) ≡ shape.Row d.words.value d.width.value = let z = hs.is in cc in
        let row = row_term sy.shape nodes y sy.stands (sym (worth_shape inputs v nodes sy.shape y h sy.stands) ∙ is) in
        record {
          call = Write (id_in x) (row_in y);
          terms = ap (λ b. if b then Some (Write (id_in x) (row_in y)) else None) (bytes_equal (codes "write"));
          values = ap (λ b. if b then Some (disk.Write (word_in (worth v x)).bits (values.row_in (worth v y))) else None) (bytes_equal (codes "write"))
              ∙ ap (λ (k : Number). Some (disk.Write k.bits (values.row_in (worth v y)))) (sym t.2)
              ∙ ap (λ k. Some (disk.Write (v (id_in x).0).bits k)) (sym row.is);
          shaped = (t.0, t.1, row.shaped);
        }

    asks_flush : (xs : List SymValue) (nodes : List Node) → all_fit [] (map (worth v) xs) ≡ true → AskIs nodes (codes "flush") xs
    asks_flush [] nodes e = record {
      call = Flush;
      terms = ap (λ b. if b then Some Flush else None) (bytes_equal (codes "flush"));
      values = ap (λ b. if b then Some disk.Flush else None) (bytes_equal (codes "flush"));
      shaped = tt;
    }
    asks_flush (x ∷ xs) nodes e = absurd (cc)

    rest_of : Named Signature → Named Signature
    rest_of [] = []
    rest_of (o ∷ rest) = rest

    signature_is : (a b : Signature) → Some a ≡ Some b → a ≡ b
    signature_is a b h = cc

    pub ask_is : (name : Name) (xs : List SymValue) (nodes : List Node) (o : Signature) → Fits inputs v nodes → All (SomeShape nodes) xs →
        look_up name (disk_operations d) ≡ Some o → all_fit o.arguments (map (worth v) xs) ≡ true → AskIs nodes name xs
    ask_is name xs nodes o h s found fit = by_read (bytes_eq (codes "read") name) refl found
      where
        from : (k : Signature) → Some k ≡ Some o → (word : Name) → bytes_eq word name ≡ true →
            (all_fit k.arguments (map (worth v) xs) ≡ true → AskIs nodes word xs) → AskIs nodes name xs
        from k e word same make = subst (λ x. AskIs nodes x xs) (bytes_same word name same)
            (make (subst (λ (z : Signature). all_fit z.arguments (map (worth v) xs) ≡ true) (sym (signature_is k o e)) fit))

        by_flush : (c : Bool) → bytes_eq (codes "flush") name ≡ c →
            (if c then Some (record { arguments = []; answers = false; answer = None }) else None) ≡ Some o → AskIs nodes name xs
        by_flush true e i = from _ i (codes "flush") e (asks_flush xs nodes)
        by_flush false e i = absurd (cc)

        by_write : (b : Bool) → bytes_eq (codes "write") name ≡ b →
            (if b then Some (record { arguments = address ∷ disk_row d ∷ []; answers = false; answer = None })
            else (if bytes_eq (codes "flush") name then Some (record { arguments = []; answers = false; answer = None }) else None)) ≡ Some o →
            AskIs nodes name xs
        by_write true e i = from _ i (codes "write") e (asks_write xs nodes h s)
        by_write false e i = by_flush (bytes_eq (codes "flush") name) refl i

        by_read : (b : Bool) → bytes_eq (codes "read") name ≡ b →
            (if b then Some (record { arguments = address ∷ []; answers = true; answer = disk_row d })
            else (if bytes_eq (codes "write") name then Some (record { arguments = address ∷ disk_row d ∷ []; answers = false; answer = None })
            else (if bytes_eq (codes "flush") name then Some (record { arguments = []; answers = false; answer = None }) else None))) ≡ Some o →
            AskIs nodes name xs
        by_read true e i = from _ i (codes "read") e (asks_read xs nodes h s)
        by_read false e i = by_write (bytes_eq (codes "write") name) refl i

    module _ (past : Bool) (first : ℕ) where
      abbrev pub machine : ℕ → Question → State Env → Handled (State Env)
      machine = disk_at past d (picked_by inputs first)

      call_gives : (i : ℕ) (name : Name) (xs tables : List SymValue) (nodes : List Node) → AskIs nodes name xs → LowShaped nodes (tables_of d) tables →
          answer_fits (disk_operations d) (progress.Call name (map (worth v) xs)) (machine i (progress.Call name (map (worth v) xs))
          (based (low_worth v (tables_of d) tables))).answer ≡ true →
          Gives inputs v (disk_handles kinds d.kind (first + i) (Call name xs) tables) nodes
          (IsHandled inputs v (low_of (tables_of d)) (disk_operations d) (progress.Call name (map (worth v) xs))
          (machine i (progress.Call name (map (worth v) xs)) (based (low_worth v (tables_of d) tables))))
      call_gives i name xs tables nodes ask p fit =
          let low = low_worth v (tables_of d) tables in
          let picks = (inputs (first + i) == 1) ∷ [] in
          subst (λ o. Gives inputs v (disk_asked kinds d.kind (first + i) o tables) nodes
          (IsHandled inputs v (low_of (tables_of d)) (disk_operations d) (progress.Call name (map (worth v) xs))
          (machine i (progress.Call name (map (worth v) xs)) (based low)))) (sym ask.terms)
          (λ h.
          let m = kind_gives d.kind past (first + i) ask.call tables nodes p ask.shaped h in
          let o = kind_does kinds d.kind (first + i) ask.call tables nodes in
          let same : disk_does past d (based low) (disk_call name (map (worth v) xs)) picks ≡ disk_does past d (based low) (Some (call_worth ask.call)) picks =
          ap (λ c. disk_does past d (based low) c picks) ask.values in
          record {
            shaped = m.shaped;
            answer = m.answer ∙ sym (ap (λ r. r.answer) same);
            fits = fit;
            has = m.has;
            is = ap based m.is ∙ sym (ap (λ r. r.to) same);
          })

      pub disk_means : MachineMeans inputs v (low_of (tables_of d)) Impl (disk_operations d) (sym_disk kinds d.kind first) machine
      disk_means = record {
        merge_grows = λ t a b nodes. merge_lows_grows inputs v kinds t a b nodes;
        merge = λ t a b nodes w p q. merge_lows_gives inputs v kinds (tables_of d) t a b nodes w p q;
        handle_grows = λ i q s nodes. disk_grows kinds d.kind (first + i) q s nodes;
        handle = λ i q s nodes may shaped p h. handled i q s nodes may shaped p h;
      }
        where
          handled : (i : ℕ) (q : SymQuestion) (s : List SymValue) (nodes : List Node) → question_fits Impl (disk_operations d) (question_worth v q) ≡ true →
              QuestionShaped nodes q → LowShaped nodes (tables_of d) s →
              Gives inputs v (disk_handles kinds d.kind (first + i) q s) nodes
              (IsHandled inputs v (low_of (tables_of d)) (disk_operations d) (question_worth v q)
              (machine i (question_worth v q) (based (low_worth v (tables_of d) s))))
          handled i Choice s nodes may shaped p h = absurd (cc)
          handled i (Call name xs) s nodes may shaped p h =
              let o = disk_handles kinds d.kind (first + i) (Call name xs) s nodes in
              let fit = fits_fewer inputs v nodes o.nodes (disk_grows kinds d.kind (first + i) (Call name xs) s nodes) h in
              let f = fitting_call (disk_operations d) name (map (worth v) xs) may in
              let ask = ask_is name xs nodes f.operation fit shaped f.found f.fit in
              let low = low_worth v (tables_of d) s in
              let sized : IsSized d (based low) = record { tables = low; is = refl; sized = low_fits inputs v nodes (tables_of d) s fit p } in
              let serves = disk_serves past d right in
              call_gives i name xs s nodes ask p (serves.fit (based low) name (map (worth v) xs) (picked_by inputs first i ∷ []) sized may) h
