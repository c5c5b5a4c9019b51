-- The operations of the disk, whose tables are kept as values.
use Rattle.std.proofs.Common.{
  ◌≡◌,
  ℕ,
  zero,
  suc,
  true,
  false,
  ◌&&◌,
  List,
  [],
  ◌∷◌,
  ◌≤◌,
  length,
  Some,
  None,
  codes,
  slice_index_or,
  refl,
  sym,
  ap,
  ◌∙◌,
  subst,
  arith,
  eqb-true,
  ◌==◌,
}
use Rattle.std.specs.Prelude.{slice_get}
use Rattle.std.proofs.lemmas.Option.{slice_get_within}
use Rattle.ygg_value.specs.Number.{Digits, Grid}
use Rattle.ygg_value.specs.Shapes.{IsShape}
use Rattle.ygg_value.specs.Values.{word_in, row_in, table_read, part_of}
use Rattle.ygg_value.specs.declared.shape.Shape.TheVariants as shape
use Rattle.ygg_value.specs.declared.row.Value.{Value}
use Rattle.ygg_value.specs.declared.row.Value.TheVariants.{Word, Row, Table}
use Rattle.ygg_base.specs.declared.geometry.Geometry.{Geometry}
use Rattle.ygg_syntax.specs.declared.tree.Declared.{Declared}
use Rattle.ygg_syntax.specs.declared.tree.DiskText.{DiskText}
use Rattle.ygg_base.specs.declared.geometry.DiskKind.{DiskKind}
use Rattle.ygg_base.specs.declared.geometry.DiskKind.TheVariants.{Sync, Async}
use Rattle.ygg_syntax.specs.declared.tree.Layer.{Layer}
use Rattle.ygg_syntax.specs.declared.tree.File.{File}
use Rattle.ygg_eval.specs.ygg_type_rules.Names.{look_up}
use Rattle.ygg_eval.specs.ygg_type_rules.declared.scope.Signature.{Signature}
use Rattle.ygg_eval.specs.ygg_type_rules.TypeErrors.{none}
use Rattle.ygg_eval.specs.ygg_type_rules.Files.{type_errors_of, disk_errors, address, disk_row, disk_operations}
use Rattle.ygg_eval.specs.ygg_type.Typed.{geometry_of}
use Rattle.ygg_eval.specs.ygg_disk.Disk as disk
use Rattle.ygg_eval.specs.ygg_disk.Size.{IsRowOf}
use Rattle.ygg_eval.specs.ygg_disk.declared.power.Power.{Power}
use Rattle.ygg_eval.specs.ygg_meaning.Environments.{Name, Env, bind}
use Rattle.ygg_eval.specs.ygg_meaning.Shapes.{fits, words_fit, values_fit, env_fits}
use Rattle.ygg_eval.specs.ygg_meaning.Progress.{Answer}
use Rattle.ygg_eval.specs.ygg_meaning.Machine.{State, based}
use Rattle.ygg_eval.specs.ygg_disk.Kinds.{model_of}
use Rattle.ygg_eval.specs.ygg_meaning.DiskMachine.{disk_call, answer_to, tables_in, DiskMachine}
use Rattle.ygg_eval.specs.ygg_meaning.Stack.{tables_of_kind, tables_of}
use Rattle.ygg_eval.specs.ygg_meaning_laws.Fitting.{fits_wanted, all_fit}
use Rattle.ygg_eval.specs.ygg_meaning_laws_proofs_Tests.{left, right}
use Rattle.ygg_eval.specs.ygg_meaning_laws.Machines.{IsSized, DiskAnswers}
use Rattle.ygg_eval.specs.ygg_meaning_laws_proofs_ProgressFits.{IsTableOf, table_parts}
use Rattle.ygg_eval.specs.ygg_meaning_laws_proofs_Disks.{disk_row_is}
use Rattle.ygg_eval.specs.ygg_meaning_laws_proofs_Sizes.{AllSized, disk_answers_all}
use Rattle.ygg_eval.specs.Layers.{variables_from, variables_at, signatures_at}
use Rattle.ygg_eval.specs.Lower.{IsCallable, Called, Fell, Whole, Happened}
use Rattle.ygg_eval.specs.Kept.{standing, spec_meaning, Loses}
use Rattle.ygg_eval.specs.Tables.{IsReadable, AreTables, AreWritable, IsRowOfAll, values_of, Made, Cut, Lost}
use Rattle.ygg_eval.proofs.Stepping.{no_pick}
use Rattle.ygg_eval.proofs.Blocks.{bind_fits}
use Rattle.ygg_eval.proofs.Values.{bound_fits}

-- values that are the tables of a disk of the size
pub record AreSized (d : DiskText) (kind : DiskKind) (values : List Value) : Type 0 where
  pub disk : (model_of kind).State
  pub are : values ≡ values_of kind disk
  pub sized : AllSized d kind disk

-- a value of a table's shape is a table
a_table : (n m w : ℕ) (v : Value) → fits (shape.Table n m w) v ≡ true → (t : Grid) × (v ≡ Table t) × IsTableOf n m w t
a_table n m w (Table t) e = (t, refl, table_parts n m w t e)
a_table n m w (Word v) e = absurd (cc)
a_table n m w (Row r) e = absurd (cc)

-- values that fit a disk's tables are such tables
pub are_sized : (d : DiskText) (kind : DiskKind) (values : List Value) → values_fit (tables_of_kind kind d) values ≡ true → AreSized d kind values
are_sized d Sync [] e = absurd (cc)
are_sized d Sync (v ∷ w ∷ rest) e = let f = right (fits (shape.Table d.rows.value d.words.value d.width.value) v) _ e in absurd (cc)
are_sized d Sync (v ∷ []) e =
    let (t, is, sized) = a_table d.rows.value d.words.value d.width.value v (left (fits (shape.Table d.rows.value d.words.value d.width.value) v) true e) in
    record { disk = t; are = ap (λ x. x ∷ []) is; sized = sized }
are_sized d Async [] e = absurd (cc)
are_sized d Async (v ∷ []) e = let f = right (fits (shape.Table d.rows.value d.words.value d.width.value) v) _ e in absurd (cc)
are_sized d Async (v ∷ w ∷ x ∷ rest) e =
    let f = right (fits (shape.Table d.rows.value d.words.value d.width.value) v) _ e in
    let g = right (fits (shape.Table d.rows.value d.words.value d.width.value) w) _ f in absurd (cc)
are_sized d Async (v ∷ w ∷ []) e =
    let size = shape.Table d.rows.value d.words.value d.width.value in
    let (t, is, sized) = a_table d.rows.value d.words.value d.width.value v (left (fits size v) (fits size w && true) e) in
    let (s, is', sized') = a_table d.rows.value d.words.value d.width.value w (left (fits size w) true (right (fits size v) (fits size w && true) e)) in
    let both : disk.Tables = record { view = t; stable = s } in
    record { disk = both; are = ap (λ x. x ∷ w ∷ []) is ∙ ap (λ x. Table t ∷ x ∷ []) is'; sized = (sized, sized') }

-- the tables of the disk come first among the variables of machines
pub variables_zero : (low : List Declared) (ls : List Layer) → variables_from low ls 0 ≡ low
variables_zero low [] = refl
variables_zero low (l ∷ ls) = refl

pub tables_fit : (file : File) (values : List Value) → values_fit (variables_at file 0) values ≡ true → values_fit (tables_of file.disk) values ≡ true
tables_fit file values e = ap (λ ds. values_fit ds values) (sym (variables_zero (tables_of file.disk) file.layers)) ∙ e

pub tables_are : (file : File) (values : List Value) → values_fit (variables_at file 0) values ≡ true → AreSized file.disk file.disk.kind values
tables_are file values e = are_sized file.disk file.disk.kind values (tables_fit file values e)

pub are_tables : (file : File) (values : List Value) → values_fit (variables_at file 0) values ≡ true → AreTables file.disk.kind values
are_tables file values e = let t = tables_are file values e in record { disk = t.disk; are = t.are }

-- what values show
shows : (d : DiskText) (kind : DiskKind) (t : (model_of kind).State) → bind (tables_of_kind kind d) (values_of kind t) ≡ tables_in kind t
shows d Sync t = refl
shows d Async t = refl

counted : (d : DiskText) (kind : DiskKind) (t : (model_of kind).State) → length (values_of kind t) ≡ length (tables_of_kind kind d)
counted d Sync t = refl
counted d Async t = refl

-- an operation of the disk was asked for by its place
pub record Asked (d : DiskText) (place : ℕ) (args : List Value) (call : disk.Call) : Type 0 where
  pub name : Name
  pub operation : Signature
  pub is : slice_get (disk_operations d) place ≡ Some (name, operation)
  pub found : look_up name (disk_operations d) ≡ Some operation
  pub fit : all_fit operation.arguments args ≡ true
  pub call_is : disk_call name args ≡ Some call

abbrev reading : DiskText → Signature
reading d = record { arguments = address ∷ []; answers = true; answer = disk_row d }

abbrev writing : DiskText → Signature
writing d = record { arguments = address ∷ disk_row d ∷ []; answers = false; answer = None }

abbrev flushing : Signature
flushing = record { arguments = []; answers = false; answer = None }

one_is : (a b : Name × Signature) → Some a ≡ Some b → a ≡ b
one_is a b h = cc

-- a read: its argument
pub record AsksRead (d : DiskText) (place : ℕ) (args : List Value) : Type 0 where
  pub at : Value
  pub are : args ≡ at ∷ []
  pub fit : fits (shape.Word 8) at ≡ true
  pub asked : Asked d place args (disk.Read (word_in at).bits)

read_with : (d : DiskText) (args : List Value) → all_fit (address ∷ []) args ≡ true → AsksRead d 0 args
read_with d [] f = absurd (cc)
read_with d (at ∷ b ∷ rest) f = let g = right (fits_wanted address at) _ f in absurd (cc)
read_with d (at ∷ []) f = record {
  at = at;
  are = refl;
  fit = left (fits_wanted address at) true f;
  asked = record {
    name = codes "read";
    operation = reading d;
    is = refl;
    found = refl;
    fit = f;
    call_is = refl;
  };
}

-- a write: its arguments
pub record AsksWrite (d : DiskText) (place : ℕ) (args : List Value) : Type 0 where
  pub at : Value
  pub row : Value
  pub are : args ≡ at ∷ row ∷ []
  pub fit : fits (shape.Word 8) at ≡ true
  pub row_fit : fits_wanted (disk_row d) row ≡ true
  pub asked : Asked d place args (disk.Write (word_in at).bits (row_in row))

write_with : (d : DiskText) (args : List Value) → all_fit (address ∷ disk_row d ∷ []) args ≡ true → AsksWrite d 1 args
write_with d [] f = absurd (cc)
write_with d (at ∷ []) f = let g = right (fits_wanted address at) _ f in absurd (cc)
write_with d (at ∷ row ∷ b ∷ rest) f =
    let g = right (fits_wanted (disk_row d) row) _ (right (fits_wanted address at) _ f) in absurd (cc)
write_with d (at ∷ row ∷ []) f = record {
  at = at;
  row = row;
  are = refl;
  fit = left (fits_wanted address at) (fits_wanted (disk_row d) row && true) f;
  row_fit = left (fits_wanted (disk_row d) row) true (right (fits_wanted address at) (fits_wanted (disk_row d) row && true) f);
  asked = record {
    name = codes "write";
    operation = writing d;
    is = refl;
    found = refl;
    fit = f;
    call_is = refl;
  };
}

flush_with : (d : DiskText) (args : List Value) → all_fit [] args ≡ true → Asked d 2 args disk.Flush
flush_with d (v ∷ rest) f = absurd (cc)
flush_with d [] f = record {
  name = codes "flush";
  operation = flushing;
  is = refl;
  found = refl;
  fit = f;
  call_is = refl;
}

pub asks_read : (d : DiskText) (place : ℕ) (args : List Value) → place ≡ 0 → IsCallable (disk_operations d) place args → AsksRead d place args
asks_read d place args e c =
    let is : (codes "read", reading d) ≡ (c.name, c.operation) = one_is _ _ (sym (ap (slice_get (disk_operations d)) e) ∙ c.is) in
    let fit : all_fit (reading d).arguments args ≡ true = ap (λ (x : Name × Signature). all_fit (x.1).arguments args) is ∙ c.fit in
    subst (λ p. AsksRead d p args) (sym e) (read_with d args fit)

pub asks_write : (d : DiskText) (place : ℕ) (args : List Value) → place ≡ 1 → IsCallable (disk_operations d) place args → AsksWrite d place args
asks_write d place args e c =
    let is : (codes "write", writing d) ≡ (c.name, c.operation) = one_is _ _ (sym (ap (slice_get (disk_operations d)) e) ∙ c.is) in
    let fit : all_fit (writing d).arguments args ≡ true = ap (λ (x : Name × Signature). all_fit (x.1).arguments args) is ∙ c.fit in
    subst (λ p. AsksWrite d p args) (sym e) (write_with d args fit)

pub asks_flush : (d : DiskText) (place : ℕ) (args : List Value) → (place ≡ 0 → ⊥) → (place ≡ 1 → ⊥) → IsCallable (disk_operations d) place args →
    Asked d place args disk.Flush
asks_flush d place args n m c = subst (λ p. Asked d p args disk.Flush) (sym e) (flush_with d args fit)
  where
    within : place ≤ 2
    within = let h = slice_get_within (disk_operations d) place (c.name, c.operation) c.is in omega arith

    e : place ≡ 2
    e = let w = within in omega arith

    fit : all_fit [] args ≡ true
    fit =
        let is : (codes "flush", flushing) ≡ (c.name, c.operation) = one_is _ _ (sym (ap (slice_get (disk_operations d)) e) ∙ c.is) in
        ap (λ (x : Name × Signature). all_fit (x.1).arguments args) is ∙ c.fit

-- what a read is made with
word_of : (at : Value) → fits (shape.Word 8) at ≡ true → (number : _) × (at ≡ Word number)
word_of (Word n) e = (n, refl)
word_of (Row r) e = absurd (cc)
word_of (Table t) e = absurd (cc)

pub readable : (d : DiskText) (g : Geometry) (kind : DiskKind) (values : List Value) (at x : Value) → g ≡ geometry_of d →
    IsShape (shape.Table g.rows g.words g.width) → AreSized d kind values → fits (shape.Word 8) at ≡ true
    → IsReadable g (slice_index_or values 0 x) at
readable d g Sync values at x same limits s e =
    let (n, is) = word_of at e in
    record {
      grid = s.disk;
      is_table = ap (λ vs. slice_index_or vs 0 x) s.are;
      size = record {
        limits = limits;
        width = s.sized.width ∙ ap (λ (h : Geometry). h.width) (sym same);
        words = s.sized.words ∙ ap (λ (h : Geometry). h.words) (sym same);
        rows = s.sized.rows ∙ ap (λ (h : Geometry). h.rows) (sym same);
      };
      address = n;
      is_address = is;
    }
readable d g Async values at x same limits s e =
    let (n, is) = word_of at e in
    record {
      grid = s.disk.view;
      is_table = ap (λ vs. slice_index_or vs 0 x) s.are;
      size = record {
        limits = limits;
        width = s.sized.0.width ∙ ap (λ (h : Geometry). h.width) (sym same);
        words = s.sized.0.words ∙ ap (λ (h : Geometry). h.words) (sym same);
        rows = s.sized.0.rows ∙ ap (λ (h : Geometry). h.rows) (sym same);
      };
      address = n;
      is_address = is;
    }

-- what a write is made with
row_of : (m w : ℕ) (row : Value) → fits (shape.Row m w) row ≡ true → (digits : Digits) × (row ≡ Row digits) × (digits.width ≡ w) × (length digits.words ≡ m)
row_of m w (Row r) e = (
  r,
  refl,
  eqb-true r.width w (left (r.width == w) (words_fit w m r.words) e),
  eqb-true (length r.words) m (left (length r.words == m) _ (right (r.width == w) (words_fit w m r.words) e)),
)
row_of m w (Word v) e = absurd (cc)
row_of m w (Table t) e = absurd (cc)

pub writable : (d : DiskText) (kind : DiskKind) (values : List Value) (at row : Value) → none (disk_errors d) ≡ true → AreSized d kind values →
    fits (shape.Word 8) at ≡ true → fits_wanted (disk_row d) row ≡ true → AreWritable kind values at row
writable d kind values at row fine s e f =
    let (n, is) = word_of at e in
    let (r, same, width, words) = row_of d.words.value d.width.value row (subst (λ o. fits_wanted o row ≡ true) (disk_row_is d fine).is f) in
    record {
      disk = s.disk;
      are = s.are;
      address = n;
      is_address = is;
      digits = r;
      is_row = same;
      size = sizes kind s.disk s.sized r width words;
    }
  where
    one : (t : Grid) (r : Digits) → IsTableOf d.rows.value d.words.value d.width.value t → r.width ≡ d.width.value → length r.words ≡ d.words.value →
        IsRowOf t r
    one t r p width words = record { width = width ∙ sym p.width; words = words ∙ sym p.words }

    sizes : (kind : DiskKind) (t : (model_of kind).State) → AllSized d kind t → (r : Digits) → r.width ≡ d.width.value →
        length r.words ≡ d.words.value → IsRowOfAll kind t r
    sizes Sync t p r width words = one t r p width words
    sizes Async t p r width words = (one t.view r p.0 width words, one t.stable r p.1 width words)

-- a read leaves the tables as they are
pub record IsRead (kind : DiskKind) (at : ℕ) (values : List Value) (v : Value) (p : Power) : Type 0 where
  pub row : Digits
  pub is : v ≡ Row row
  pub made : Made kind (disk.Read at) (Some row) values values p p

pub read_made : (kind : DiskKind) (at : ℕ) (values : List Value) (v x : Value) (p : Power) → AreTables kind values →
    v ≡ part_of (slice_index_or values 0 x) at → IsRead kind at values v p
read_made Sync at values v x p t e = record {
  row = table_read t.disk at;
  is = e ∙ ap (λ vs. part_of (slice_index_or vs 0 x) at) t.are;
  made = record { from = t.disk; to = t.disk; from_are = t.are; to_are = t.are; picks = []; step = (refl, refl, refl); takes = no_pick p };
}
read_made Async at values v x p t e = record {
  row = table_read t.disk.view at;
  is = e ∙ ap (λ vs. part_of (slice_index_or vs 0 x) at) t.are;
  made = record { from = t.disk; to = t.disk; from_are = t.are; to_are = t.are; picks = []; step = (refl, refl, refl); takes = no_pick p };
}

-- power that fails within a call which isn't a write
pub lost_cut_read : (kind : DiskKind) (at : ℕ) (values values' : List Value) (p : Power) → Lost kind values values' → Cut kind (disk.Read at) values values' p p
lost_cut_read Sync at values values' p l = record {
  from = l.from;
  to = l.from;
  from_are = l.from_are;
  to_are = l.to_are;
  picks = [];
  step =
      (refl, refl);
  takes = no_pick p;
}
lost_cut_read Async at values values' p l = record {
  from = l.from;
  to = disk.lost l.from;
  from_are = l.from_are;
  to_are = l.to_are;
  picks = [];
  step = (refl, refl);
  takes = no_pick p;
}

pub lost_cut_flush : (kind : DiskKind) (values values' : List Value) (p : Power) → Lost kind values values' → Cut kind disk.Flush values values' p p
lost_cut_flush Sync values values' p l = record {
  from = l.from;
  to = l.from;
  from_are = l.from_are;
  to_are = l.to_are;
  picks = [];
  step =
      (refl, refl);
  takes = no_pick p;
}
lost_cut_flush Async values values' p l = record {
  from = l.from;
  to = disk.lost l.from;
  from_are = l.from_are;
  to_are = l.to_are;
  picks = [];
  step =
      (refl, refl);
  takes = no_pick p;
}

-- the state in which the disk's tables have these values
abbrev state : DiskText → List Value → State Env
state d values = based (bind (tables_of d) values)

fits_sized : (d : DiskText) (values : List Value) → values_fit (tables_of d) values ≡ true → IsSized d (state d values)
fits_sized d values e = record { tables = bind (tables_of d) values; is = refl; sized = bind_fits (tables_of d) values e }

sized_fits : (d : DiskText) (values : List Value) (t : (model_of d.kind).State) → values ≡ values_of d.kind t → IsSized d (state d values) →
    values_fit (tables_of d) values ≡ true
sized_fits d values t are s =
    bound_fits (tables_of d) values (ap length are ∙ counted d d.kind t)
    (ap (λ (x : State Env). env_fits (tables_of d) x.base) s.is ∙ s.sized)

-- what values show of a disk whose tables they are
shown : (d : DiskText) (values : List Value) (t : (model_of d.kind).State) → values ≡ values_of d.kind t → bind (tables_of d) values ≡ tables_in d.kind t
shown d values t are = ap (bind (tables_of d)) are ∙ shows d d.kind t

module _ (file : File) (fine : none (disk_errors file.disk) ≡ true) where
  answers : DiskAnswers file.disk
  answers = disk_answers_all file.disk fine

  -- a whole call
  pub record WellCalled (place : ℕ) (args : List Value) (answer : Answer) (values values' : List Value) (p p' : Power) : Type 0 where
    pub called : Called spec_meaning file (signatures_at file 0) place args (Whole answer) (standing 0 values p) (standing 0 values' p')
    pub fit : values_fit (variables_at file 0) values' ≡ true

  pub made_called : (place : ℕ) (args : List Value) (call : disk.Call) (reply : disk.Reply) (values values' : List Value) (p p' : Power) →
      Asked file.disk place args call → values_fit (variables_at file 0) values ≡ true
      → Made file.disk.kind call reply values values' p p' → WellCalled place args (answer_to reply) values values' p p'
  made_called place args call reply values values' p p' a e m = record {
    called = record {
      name = a.name;
      operation = a.operation;
      is = a.is;
      gives = answers.gives (state file.disk values) (state file.disk values') a.name args m.picks (answer_to reply) a.operation sized a.found a.fit step;
      step = record {
        picks = m.picks;
        step = subst (λ ds. (DiskMachine file.disk).Calls (based (bind ds values)) a.name args m.picks (answer_to reply) (based (bind ds values')))
            (sym (variables_zero (tables_of file.disk) file.layers)) step;
        takes = m.takes;
        number = refl;
      };
    };
    fit = ap (λ ds. values_fit ds values') (variables_zero (tables_of file.disk) file.layers)
        ∙ sized_fits file.disk values' m.to m.to_are (answers.keeps (state file.disk values) (state file.disk values') a.name args m.picks
        (answer_to reply) a.operation sized a.found a.fit step);
  }
    where
      sized : IsSized file.disk (state file.disk values)
      sized = fits_sized file.disk values (tables_fit file values e)

      step : (DiskMachine file.disk).Calls (state file.disk values) a.name args m.picks (answer_to reply) (state file.disk values')
      step = (
        bind (tables_of file.disk) values,
        bind (tables_of file.disk) values',
        call,
        reply,
        a.call_is,
        refl,
        (m.from, m.to, shown file.disk values m.from m.from_are, m.step, shown file.disk values' m.to m.to_are),
        refl,
        refl,
      )

  -- power failed within a call
  pub record WellFallen (place : ℕ) (args : List Value) (values values' : List Value) (p p' : Power) : Type 0 where
    pub fell : Fell spec_meaning file (signatures_at file 0) place args Happened (standing 0 values p) (standing 0 values' p')
    pub fit : values_fit (variables_at file 0) values' ≡ true

  pub cut_fell : (place : ℕ) (args : List Value) (call : disk.Call) (values values' : List Value) (p p' : Power) → Asked file.disk place args call →
      values_fit (variables_at file 0) values ≡ true
      → Cut file.disk.kind call values values' p p' → WellFallen place args values values' p p'
  cut_fell place args call values values' p p' a e m = record {
    fell = record {
      name = a.name;
      operation = a.operation;
      is = a.is;
      step = record {
        picks = m.picks;
        step = subst (λ ds. (DiskMachine file.disk).Falls (based (bind ds values)) a.name args m.picks (bind ds values'))
            (sym (variables_zero (tables_of file.disk) file.layers)) step;
        takes = m.takes;
        number = refl;
      };
    };
    fit = ap (λ ds. values_fit ds values') (variables_zero (tables_of file.disk) file.layers)
        ∙ sized_fits file.disk values' m.to m.to_are (answers.falls (state file.disk values) a.name args m.picks
        (bind (tables_of file.disk) values') a.operation sized a.found a.fit step);
  }
    where
      sized : IsSized file.disk (state file.disk values)
      sized = fits_sized file.disk values (tables_fit file values e)

      step : (DiskMachine file.disk).Falls (state file.disk values) a.name args m.picks (bind (tables_of file.disk) values')
      step = (
        bind (tables_of file.disk) values,
        call,
        a.call_is,
        refl,
        (m.from, m.to, shown file.disk values m.from m.from_are, m.step, shown file.disk values' m.to m.to_are),
      )

  -- power failed between calls
  pub record WellLost (values values' : List Value) : Type 0 where
    pub lost : (p : Power) → Loses file (standing 0 values p) Happened (standing 0 values' p)
    pub fit : values_fit (variables_at file 0) values' ≡ true

  pub tables_lost : (values values' : List Value) → values_fit (variables_at file 0) values ≡ true → Lost file.disk.kind values values' →
      WellLost values values'
  tables_lost values values' e l = record {
    lost = λ p. record {
      picks = [];
      step = subst (λ ds. (DiskMachine file.disk).Loses (based (bind ds values)) [] (bind ds values'))
          (sym (variables_zero (tables_of file.disk) file.layers)) step;
      takes = no_pick p;
      number = refl;
    };
    fit = ap (λ ds. values_fit ds values') (variables_zero (tables_of file.disk) file.layers)
        ∙ sized_fits file.disk values' ((model_of file.disk.kind).lost l.from) l.to_are
        (answers.loses (state file.disk values) [] (bind (tables_of file.disk) values') (fits_sized file.disk values (tables_fit file values e)) step);
  }
    where
      step : (DiskMachine file.disk).Loses (state file.disk values) [] (bind (tables_of file.disk) values')
      step = (
        bind (tables_of file.disk) values,
        refl,
        refl,
        (l.from, shown file.disk values l.from l.from_are, shown file.disk values' ((model_of file.disk.kind).lost l.from) l.to_are),
      )

-- what is at the first and the second place
place_zero : (args rest : List Value) (a x : Value) → args ≡ a ∷ rest → slice_get args 0 ≡ Some x → a ≡ x
place_zero args rest a x e h = value_is a x (sym (ap (λ vs. slice_get vs 0) e) ∙ h)
  where
    value_is : (a b : Value) → Some a ≡ Some b → a ≡ b
    value_is a b h = cc

place_one : (args rest : List Value) (a b x : Value) → args ≡ a ∷ b ∷ rest → slice_get args 1 ≡ Some x → b ≡ x
place_one args rest a b x e h = value_is b x (sym (ap (λ vs. slice_get vs 1) e) ∙ h)
  where
    value_is : (a b : Value) → Some a ≡ Some b → a ≡ b
    value_is a b h = cc

module _ (file : File) (typed : none (type_errors_of file) ≡ true) (place : ℕ) (args tables : List Value)
    (callable : IsCallable (disk_operations file.disk) place args) (fit : values_fit (variables_at file 0) tables ≡ true) where
  pub fine : none (disk_errors file.disk) ≡ true
  fine = left (none (disk_errors file.disk)) _ typed

  pub read_ready : (at x : Value) (g : Geometry) → place ≡ 0 → slice_get args 0 ≡ Some at → g ≡ geometry_of file.disk →
      IsShape (shape.Table g.rows g.words g.width) → IsReadable g (slice_index_or tables 0 x) at
  read_ready at x g e h same limits =
      let r = asks_read file.disk place args e callable in
      subst (λ v. IsReadable g (slice_index_or tables 0 x) v) (place_zero args [] r.at at r.are h)
      (readable file.disk g file.disk.kind tables r.at x same limits (tables_are file tables fit) r.fit)

  pub read_called : (at x row : Value) (p : Power) → place ≡ 0 → slice_get args 0 ≡ Some at →
      row ≡ part_of (slice_index_or tables 0 x) (word_in at).bits → WellCalled file fine place args (Some row) tables tables p p
  read_called at x row p e h is =
      let r = asks_read file.disk place args e callable in
      let same = place_zero args [] r.at at r.are h in
      let m = read_made file.disk.kind (word_in r.at).bits tables row x p (are_tables file tables fit)
      (is ∙ ap (λ v. part_of (slice_index_or tables 0 x) (word_in v).bits) (sym same)) in
      subst (λ v. WellCalled file fine place args (Some v) tables tables p p) (sym m.is)
      (made_called file fine place args (disk.Read (word_in r.at).bits) (Some m.row) tables tables p p r.asked fit m.made)

  pub write_ready : (at row : Value) → place ≡ 1 → slice_get args 0 ≡ Some at → slice_get args 1 ≡ Some row → AreWritable file.disk.kind tables at row
  write_ready at row e h i =
      let w = asks_write file.disk place args e callable in
      subst (λ v. AreWritable file.disk.kind tables v row) (place_zero args (w.row ∷ []) w.at at w.are h)
      (subst (λ v. AreWritable file.disk.kind tables w.at v) (place_one args [] w.at w.row row w.are i)
      (writable file.disk file.disk.kind tables w.at w.row fine (tables_are file tables fit) w.fit w.row_fit))

  asked_write : (at row : Value) → place ≡ 1 → slice_get args 0 ≡ Some at → slice_get args 1 ≡ Some row →
      Asked file.disk place args (disk.Write (word_in at).bits (row_in row))
  asked_write at row e h i =
      let w = asks_write file.disk place args e callable in
      subst (λ v. Asked file.disk place args (disk.Write (word_in v).bits (row_in row))) (place_zero args (w.row ∷ []) w.at at w.are h)
      (subst (λ v. Asked file.disk place args (disk.Write (word_in w.at).bits (row_in v))) (place_one args [] w.at w.row row w.are i) w.asked)

  pub write_called : (at row : Value) (tables' : List Value) (p p' : Power) → place ≡ 1 → slice_get args 0 ≡ Some at → slice_get args 1 ≡ Some row
      → Made file.disk.kind (disk.Write (word_in at).bits (row_in row)) None tables tables' p p' → WellCalled file fine place args None tables tables' p p'
  write_called at row tables' p p' e h i m = made_called file fine place args (disk.Write (word_in at).bits (row_in row)) None tables tables' p p'
      (asked_write at row e h i) fit m

  pub write_fell : (at row : Value) (tables' : List Value) (p p' : Power) → place ≡ 1 → slice_get args 0 ≡ Some at → slice_get args 1 ≡ Some row
      → Cut file.disk.kind (disk.Write (word_in at).bits (row_in row)) tables tables' p p' → WellFallen file fine place args tables tables' p p'
  write_fell at row tables' p p' e h i m = cut_fell file fine place args (disk.Write (word_in at).bits (row_in row)) tables tables' p p'
      (asked_write at row e h i) fit m

  pub flush_called : (tables' : List Value) (p : Power) → (place ≡ 0 → ⊥) → (place ≡ 1 → ⊥) →
      ((p : Power) → Made file.disk.kind disk.Flush None tables tables' p p) → WellCalled file fine place args None tables tables' p p
  flush_called tables' p n m made = made_called file fine place args disk.Flush None tables tables' p p
      (asks_flush file.disk place args n m callable) fit (made p)

  pub other_fell : (tables' : List Value) (p : Power) → (place ≡ 1 → ⊥) → Lost file.disk.kind tables tables' →
      WellFallen file fine place args tables tables' p p
  other_fell tables' p n l = at place refl
    where
      at : (i : ℕ) → place ≡ i → WellFallen file fine place args tables tables' p p
      at zero e =
          let r = asks_read file.disk place args e callable in
          cut_fell file fine place args (disk.Read (word_in r.at).bits) tables tables' p p r.asked fit
          (lost_cut_read file.disk.kind (word_in r.at).bits tables tables' p l)
      at (suc zero) e = absurd (n e)
      at (suc (suc i)) e =
          cut_fell file fine place args disk.Flush tables tables' p p (asks_flush file.disk place args (λ z. absurd (omega arith)) n callable) fit
          (lost_cut_flush file.disk.kind tables tables' p l)

-- power fails between calls
pub lost_between : (file : File) (typed : none (type_errors_of file) ≡ true) (tables tables' : List Value) → values_fit (variables_at file 0) tables ≡ true
    → Lost file.disk.kind tables tables'
    → WellLost file (left (none (disk_errors file.disk)) _ typed) tables tables'
lost_between file typed tables tables' e l = tables_lost file (left (none (disk_errors file.disk)) _ typed) tables tables' e l
