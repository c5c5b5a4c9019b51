-- A disk keeps the size of its tables, and its answers fit.
use Rattle.std.proofs.Common.{
  ◌≡◌,
  ℕ,
  suc,
  Bool,
  true,
  false,
  ◌&&◌,
  ◌==◌,
  if◌then◌else◌,
  List,
  [],
  ◌∷◌,
  length,
  Option,
  Some,
  None,
  codes,
  refl,
  sym,
  ap,
  ◌∙◌,
  subst,
}
use Rattle.std.specs.Str.{bytes_eq}
use Rattle.std.proofs.lemmas.Bool.{eq-eqb, and_from as both_of}
use Rattle.ygg_value.specs.declared.shape.Shape.{Shape}
use Rattle.ygg_value.specs.declared.shape.Shape.TheVariants as shape
use Rattle.ygg_value.specs.Number.{Grid}
use Rattle.ygg_value.specs.Values.{word_in, row_in, table_read, table_write}
use Rattle.ygg_value.specs.declared.row.Value.{Value}
use Rattle.ygg_value.specs.declared.row.Value.TheVariants.{Word, Row, Table}
use Rattle.ygg_syntax.specs.declared.tree.DiskText.{DiskText}
use Rattle.ygg_base.specs.declared.geometry.DiskKind.{DiskKind}
use Rattle.ygg_base.specs.declared.geometry.DiskKind.TheVariants.{Sync, Async}
use Rattle.ygg_meaning_laws.specs.ygg_type_rules.Names.{look_up}
use Rattle.ygg_meaning_laws.specs.Signature.{Signature}
use Rattle.ygg_meaning_laws.specs.TypeErrors.{none}
use Rattle.ygg_meaning_laws.specs.Files.{address, disk_row, disk_errors, disk_operations}
use Rattle.ygg_meaning.specs.Disk as disk
use Rattle.ygg_meaning.specs.Environments.{Name, Env}
use Rattle.ygg_meaning.specs.Shapes.{fits, words_fit, env_fits}
use Rattle.ygg_meaning.specs.Progress.{Answer}
use Rattle.ygg_meaning.specs.Machine.{Picks, State, based}
use Rattle.ygg_meaning.specs.Kinds.{model_of}
use Rattle.ygg_meaning.specs.DiskMachine.{disk_call, answer_to, tables_in, DiskMachine}
use Rattle.ygg_meaning.specs.Stack.{tables_of_kind, tables_of}
use Rattle.ygg_meaning_laws.specs.Fitting.{fits_wanted, all_fit}
use Rattle.ygg_meaning_laws.proofs.Tests.{left as first_of, right as second_of, bytes_same, bytes_equal}
use Rattle.ygg_meaning_laws.specs.Questions.{gives}
use Rattle.ygg_meaning_laws.specs.Machines.{CanCall, CanFall, CanLose, IsSized, DiskAnswers}
use Rattle.ygg_meaning_laws.proofs.ProgressFits.{IsTableOf, table_parts, table_whole, row_bits, row_read_fits, row_written}
use Rattle.ygg_meaning_laws.proofs.Disks.{rest_of, disk_row_is, is_call, disk_answers, disk_cuts, disk_loses}

-- a table of the disk's size
abbrev pub Sized : DiskText → Grid → Type 0
Sized d t = IsTableOf d.rows.value d.words.value d.width.value t

-- the tables of a kind of disk
abbrev pub AllSized : DiskText → (kind : DiskKind) → (model_of kind).State → Type 0
AllSized d Sync t = Sized d t
AllSized d Async t = Sized d t.view × Sized d t.stable

-- a table, by its name
named_table : (name : Name) (d : DiskText) (t : Grid) → Sized d t →
    (bytes_eq name name && fits (shape.Table d.rows.value d.words.value d.width.value) (Table t)) ≡ true
named_table name d t s = both_of (bytes_eq name name) _ (bytes_equal name) (table_whole d.rows.value d.words.value d.width.value t s)

-- what is shown of tables of the size
shown_sized : (d : DiskText) (kind : DiskKind) (t : (model_of kind).State) → AllSized d kind t → env_fits (tables_of_kind kind d) (tables_in kind t) ≡ true
shown_sized d Sync t s = both_of (bytes_eq (codes "view") (codes "view") && fits (shape.Table d.rows.value d.words.value d.width.value) (Table t))
    true (named_table (codes "view") d t s) refl
shown_sized d Async t (v, s) =
    both_of (bytes_eq (codes "view") (codes "view") && fits (shape.Table d.rows.value d.words.value d.width.value) (Table t.view)) _
    (named_table (codes "view") d t.view v)
    (both_of (bytes_eq (codes "stable") (codes "stable") && fits (shape.Table d.rows.value d.words.value d.width.value) (Table t.stable)) true
    (named_table (codes "stable") d t.stable s) refl)

-- what is shown has the size
sized_shown : (d : DiskText) (kind : DiskKind) (t : (model_of kind).State) → env_fits (tables_of_kind kind d) (tables_in kind t) ≡ true → AllSized d kind t
sized_shown d Sync t e =
    table_parts d.rows.value d.words.value d.width.value t
    (second_of (bytes_eq (codes "view") (codes "view")) _
    (first_of (bytes_eq (codes "view") (codes "view") && fits (shape.Table d.rows.value d.words.value d.width.value) (Table t)) true e))
sized_shown d Async t e =
    let size = shape.Table d.rows.value d.words.value d.width.value in
    let first = bytes_eq (codes "view") (codes "view") && fits size (Table t.view) in
    let second = bytes_eq (codes "stable") (codes "stable") && fits size (Table t.stable) in (
      table_parts d.rows.value d.words.value d.width.value t.view (second_of (bytes_eq (codes "view") (codes "view")) _ (first_of first (second && true) e)),
      table_parts d.rows.value d.words.value d.width.value t.stable
          (second_of (bytes_eq (codes "stable") (codes "stable")) _ (first_of second true (second_of first (second && true) e))),
    )

-- a value of a table's shape is a table
pub record IsATable (v : Value) : Type 0 where
  pub table : Grid
  pub is : v ≡ Table table

a_table : (n m w : ℕ) (v : Value) → fits (shape.Table n m w) v ≡ true → IsATable v
a_table n m w (Table t) e = record { table = t; is = refl }
a_table n m w (Word v) e = absurd (cc)
a_table n m w (Row r) e = absurd (cc)

-- names with values of the tables' sizes are what a disk shows
pub record ShowsSized (d : DiskText) (kind : DiskKind) (tables : Env) : Type 0 where
  pub disk : (model_of kind).State
  pub is : tables ≡ tables_in kind disk
  pub sized : AllSized d kind disk

entry_is : (name : Name) (n m w : ℕ) (b : Name × Value) → (bytes_eq name b.0 && fits (shape.Table n m w) b.1) ≡ true → (t : Grid) × (b ≡ (name, Table t))
entry_is name n m w b e =
    let t = a_table n m w b.1 (second_of (bytes_eq name b.0) _ e) in
    let same = bytes_same name b.0 (first_of (bytes_eq name b.0) _ e) in
    (t.table, ap (λ x. (x, b.1)) (sym same) ∙ ap (λ x. (name, x)) t.is)

shows_sized : (d : DiskText) (kind : DiskKind) (tables : Env) → env_fits (tables_of_kind kind d) tables ≡ true → ShowsSized d kind tables
shows_sized d Sync [] e = absurd (cc)
shows_sized d Sync (b ∷ c ∷ rest) e =
    let f = second_of (bytes_eq (codes "view") b.0 && fits (shape.Table d.rows.value d.words.value d.width.value) b.1) _ e in absurd (cc)
shows_sized d Sync (b ∷ []) e =
    let (t, is) = entry_is (codes "view") d.rows.value d.words.value d.width.value b
    (first_of (bytes_eq (codes "view") b.0 && fits (shape.Table d.rows.value d.words.value d.width.value) b.1) true e) in
    let shown = ap (λ x. x ∷ []) is in
    record { disk = t; is = shown; sized = sized_shown d Sync t (subst (λ ts. env_fits (tables_of_kind Sync d) ts ≡ true) shown e) }
shows_sized d Async [] e = absurd (cc)
shows_sized d Async (b ∷ []) e =
    let f = second_of (bytes_eq (codes "view") b.0 && fits (shape.Table d.rows.value d.words.value d.width.value) b.1) _ e in absurd (cc)
shows_sized d Async (b ∷ c ∷ x ∷ rest) e =
    let f = second_of (bytes_eq (codes "view") b.0 && fits (shape.Table d.rows.value d.words.value d.width.value) b.1) _ e in
    let g = second_of (bytes_eq (codes "stable") c.0 && fits (shape.Table d.rows.value d.words.value d.width.value) c.1) _ f in absurd (cc)
shows_sized d Async (b ∷ c ∷ []) e =
    let size = shape.Table d.rows.value d.words.value d.width.value in
    let first = bytes_eq (codes "view") b.0 && fits size b.1 in
    let second = bytes_eq (codes "stable") c.0 && fits size c.1 in
    let (v, is) = entry_is (codes "view") d.rows.value d.words.value d.width.value b (first_of first (second && true) e) in
    let (s, also) = entry_is (codes "stable") d.rows.value d.words.value d.width.value c (first_of second true (second_of first (second && true) e)) in
    let shown = ap (λ x. x ∷ c ∷ []) is ∙ ap (λ x. (codes "view", Table v) ∷ x ∷ []) also in
    let t : disk.Tables = record { view = v; stable = s } in
    record { disk = t; is = shown; sized = sized_shown d Async t (subst (λ ts. env_fits (tables_of_kind Async d) ts ≡ true) shown e) }

-- a row that fits
pub record FitsRow (d : DiskText) (row : Value) : Type 0 where
  pub words : words_fit d.width.value d.words.value (row_in row).words ≡ true

-- a call with arguments that fit is one of three
module _ (d : DiskText) (fine : none (disk_errors d) ≡ true) (P : disk.Call → Signature → Type 0)
    (reads : (at : ℕ) → P (disk.Read at) (record { arguments = address ∷ []; answers = true; answer = disk_row d }))
    (writes : (at : ℕ) (row : Value) → FitsRow d row →
    P (disk.Write at (row_in row)) (record { arguments = address ∷ disk_row d ∷ []; answers = false; answer = None }))
    (flushes : P disk.Flush (record { arguments = []; answers = false; answer = None })) where
  call_is : (a b : disk.Call) → Some a ≡ Some b → a ≡ b
  call_is a b h = cc

  signature_is : (a b : Signature) → Some a ≡ Some b → a ≡ b
  signature_is a b h = cc

  abbrev found : Bool → disk.Call → Option disk.Call
  found b c = if b then Some c else None

  read_case : (args : List Value) (call : disk.Call) → all_fit (address ∷ []) args ≡ true → disk_call (codes "read") args ≡ Some call →
      P call (record { arguments = address ∷ []; answers = true; answer = disk_row d })
  read_case [] call f e = absurd (cc)
  read_case (at ∷ []) call f e =
      subst (λ c. P c (record { arguments = address ∷ []; answers = true; answer = disk_row d }))
      (call_is _ call (sym (ap (λ b. found b (disk.Read (word_in at).bits)) (bytes_equal (codes "read"))) ∙ e)) (reads (word_in at).bits)
  read_case (at ∷ b ∷ rest) call f e = let g = second_of (fits_wanted address at) _ f in absurd (cc)

  row_fits : (row : Value) → fits_wanted (disk_row d) row ≡ true → FitsRow d row
  row_fits row f = record { words = row_bits d.words.value d.width.value row (subst (λ o. fits_wanted o row ≡ true) (disk_row_is d fine).is f) }

  write_case : (args : List Value) (call : disk.Call) → all_fit (address ∷ disk_row d ∷ []) args ≡ true → disk_call (codes "write") args ≡ Some call
      → P call (record { arguments = address ∷ disk_row d ∷ []; answers = false; answer = None })
  write_case [] call f e = absurd (cc)
  write_case (at ∷ []) call f e = let g = second_of (fits_wanted address at) _ f in absurd (cc)
  write_case (at ∷ row ∷ []) call f e =
      let g = first_of (fits_wanted (disk_row d) row) true (second_of (fits_wanted address at) (fits_wanted (disk_row d) row && true) f) in
      subst (λ c. P c (record { arguments = address ∷ disk_row d ∷ []; answers = false; answer = None }))
      (call_is _ call (sym (ap (λ b. found b (disk.Write (word_in at).bits (row_in row))) (bytes_equal (codes "write"))) ∙ e))
      (writes (word_in at).bits row (row_fits row g))
  write_case (at ∷ row ∷ b ∷ rest) call f e =
      let g = second_of (fits_wanted (disk_row d) row) _ (second_of (fits_wanted address at) _ f) in absurd (cc)

  flush_case : (args : List Value) (call : disk.Call) → all_fit [] args ≡ true → disk_call (codes "flush") args ≡ Some call →
      P call (record { arguments = []; answers = false; answer = None })
  flush_case [] call f e = subst (λ c. P c (record { arguments = []; answers = false; answer = None }))
      (call_is disk.Flush call (sym (ap (λ b. found b disk.Flush) (bytes_equal (codes "flush"))) ∙ e)) flushes
  flush_case (b ∷ rest) call f e = absurd (cc)

  pub by_call : (name : Name) (args : List Value) (call : disk.Call) (o : Signature) → look_up name (disk_operations d) ≡ Some o →
      all_fit o.arguments args ≡ true → disk_call name args ≡ Some call → P call o
  by_call name args call o h f e = by_read (bytes_eq (codes "read") name) refl h
    where
      from : (s : Signature) → Some s ≡ Some o → (word : Name) → bytes_eq word name ≡ true →
          (all_fit s.arguments args ≡ true → disk_call word args ≡ Some call → P call s) → P call o
      from s i word same make =
          let is = signature_is s o i in
          subst (P call) is (make (subst (λ (x : Signature). all_fit x.arguments args ≡ true) (sym is) f)
          (ap (λ x. disk_call x args) (bytes_same word name same) ∙ e))

      by_flush : (b : Bool) → bytes_eq (codes "flush") name ≡ b →
          (if b then Some (record { arguments = []; answers = false; answer = None }) else None) ≡ Some o → P call o
      by_flush true i h = from _ h (codes "flush") i (flush_case args call)
      by_flush false i h = absurd (cc)

      by_write : (b : Bool) → bytes_eq (codes "write") name ≡ b →
          (if b then Some (record { arguments = address ∷ disk_row d ∷ []; answers = false; answer = None }) else look_up name
          (rest_of (rest_of (disk_operations d)))) ≡ Some o → P call o
      by_write true i h = from _ h (codes "write") i (write_case args call)
      by_write false i h = by_flush (bytes_eq (codes "flush") name) refl h

      by_read : (b : Bool) → bytes_eq (codes "read") name ≡ b →
          (if b then Some (record { arguments = address ∷ []; answers = true; answer = disk_row d }) else look_up name (rest_of (disk_operations d)))
          ≡ Some o → P call o
      by_read true i h = from _ h (codes "read") i (read_case args call)
      by_read false i h = by_write (bytes_eq (codes "write") name) refl h

-- as many arguments as are wanted
all_counted : (ws : List (Option Shape)) (args : List Value) → all_fit ws args ≡ true → length args ≡ length ws
all_counted [] [] f = refl
all_counted [] (v ∷ vs) f = absurd (cc)
all_counted (w ∷ ws) [] f = absurd (cc)
all_counted (w ∷ ws) (v ∷ vs) f = ap suc (all_counted ws vs (second_of (fits_wanted w v) (all_fit ws vs) f))

-- what a whole call leaves
abbrev Whole : DiskText → (kind : DiskKind) → disk.Call → Signature → Type 0
Whole d kind call o =
    (from to : (model_of kind).State) (picks : Picks) (reply : disk.Reply) → AllSized d kind from → (model_of kind).Calls from call picks reply to →
    (gives o (answer_to reply) ≡ true) × AllSized d kind to

-- what a call that is cut leaves
abbrev Cut : DiskText → (kind : DiskKind) → disk.Call → Signature → Type 0
Cut d kind call o = (from to : (model_of kind).State) (picks : Picks) → AllSized d kind from → (model_of kind).Falls from call picks to → AllSized d kind to

-- a row that is read
read_gives : (d : DiskText) → none (disk_errors d) ≡ true → (t : Grid) (at : ℕ) → Sized d t → fits_wanted (disk_row d) (Row (table_read t at)) ≡ true
read_gives d fine t at s =
    subst (λ o. fits_wanted o (Row (table_read t at)) ≡ true) (sym (disk_row_is d fine).is)
    (both_of (t.width == d.width.value) _ (eq-eqb t.width d.width.value s.width) (row_read_fits d.rows.value d.words.value d.width.value t at s))

-- a table of which a row is written
write_keeps : (d : DiskText) (t : Grid) (at : ℕ) (row : Value) → FitsRow d row → Sized d t → Sized d (table_write t at (row_in row))
write_keeps d t at row f s = row_written d.rows.value d.words.value d.width.value t at (row_in row) s f.words

kept_or_not : (d : DiskText) (b : Bool) (t : Grid) (at : ℕ) (row : Value) → FitsRow d row → Sized d t → Sized d (if b then table_write t at (row_in row) else t)
kept_or_not d true t at row f s = write_keeps d t at row f s
kept_or_not d false t at row f s = s

module _ (d : DiskText) (fine : none (disk_errors d) ≡ true) where
  abbrev reading : Signature
  reading = record { arguments = address ∷ []; answers = true; answer = disk_row d }

  abbrev writing : Signature
  writing = record { arguments = address ∷ disk_row d ∷ []; answers = false; answer = None }

  abbrev flushing : Signature
  flushing = record { arguments = []; answers = false; answer = None }

  whole_read : (kind : DiskKind) (at : ℕ) → Whole d kind (disk.Read at) reading
  whole_read Sync at from to picks reply s (p, y, is) =
      (subst (λ r. gives reading (answer_to r) ≡ true) (sym y) (read_gives d fine from at s), subst (Sized d) (sym is) s)
  whole_read Async at from to picks reply s (p, y, is) =
      (subst (λ r. gives reading (answer_to r) ≡ true) (sym y) (read_gives d fine from.view at s.0), subst (AllSized d Async) (sym is) s)

  whole_write : (kind : DiskKind) (at : ℕ) (row : Value) → FitsRow d row → Whole d kind (disk.Write at (row_in row)) writing
  whole_write Sync at row f from to picks reply s (p, y, is) =
      (subst (λ r. gives writing (answer_to r) ≡ true) (sym y) refl, subst (Sized d) (sym is) (write_keeps d from at row f s))
  whole_write Async at row f from to picks reply s (kept, p, y, is) = (
    subst (λ r. gives writing (answer_to r) ≡ true) (sym y) refl,
    subst (AllSized d Async) (sym is) (write_keeps d from.view at row f s.0, kept_or_not d kept from.stable at row f s.1),
  )

  whole_flush : (kind : DiskKind) → Whole d kind disk.Flush flushing
  whole_flush Sync from to picks reply s (p, y, is) = (subst (λ r. gives flushing (answer_to r) ≡ true) (sym y) refl, subst (Sized d) (sym is) s)
  whole_flush Async from to picks reply s (p, y, is) =
      (subst (λ r. gives flushing (answer_to r) ≡ true) (sym y) refl, subst (AllSized d Async) (sym is) (s.0, s.0))

  cut_read : (kind : DiskKind) (at : ℕ) → Cut d kind (disk.Read at) reading
  cut_read Sync at from to picks s (p, is) = subst (Sized d) (sym is) s
  cut_read Async at from to picks s (p, is) = subst (AllSized d Async) (sym is) (s.1, s.1)

  cut_write : (kind : DiskKind) (at : ℕ) (row : Value) → FitsRow d row → Cut d kind (disk.Write at (row_in row)) writing
  cut_write Sync at row f from to picks s (kept, p, is) = subst (Sized d) (sym is) (kept_or_not d kept from at row f s)
  cut_write Async at row f from to picks s (kept, p, is) =
      let stable = kept_or_not d kept from.stable at row f s.1 in subst (AllSized d Async) (sym is) (stable, stable)

  cut_flush : (kind : DiskKind) → Cut d kind disk.Flush flushing
  cut_flush Sync from to picks s (p, is) = subst (Sized d) (sym is) s
  cut_flush Async from to picks s (p, is) = subst (AllSized d Async) (sym is) (s.1, s.1)

  lost_sized : (kind : DiskKind) (from : (model_of kind).State) → AllSized d kind from → AllSized d kind ((model_of kind).lost from)
  lost_sized Sync from s = s
  lost_sized Async from s = (s.1, s.1)

  -- a state of the disk's size shows tables of the size
  shown_by : (s : State Env) (t : (model_of d.kind).State) → IsSized d s → s ≡ based (tables_in d.kind t) → AllSized d d.kind t
  shown_by s t h is = sized_shown d d.kind t (subst (λ e. env_fits (tables_of d) e ≡ true) (ap (λ (x : State Env). x.base) (sym h.is ∙ is)) h.sized)

  -- and tables of the size are shown by such a state
  is_sized : (s : State Env) (t : (model_of d.kind).State) → AllSized d d.kind t → s ≡ based (tables_in d.kind t) → IsSized d s
  is_sized s t sized is = record { tables = tables_in d.kind t; is = is; sized = shown_sized d d.kind t sized }

  pub disk_answers_all : DiskAnswers d
  disk_answers_all = record { calls = calls; cuts = cuts; can_lose = can_lose; gives = fit; keeps = kept; falls = cut; loses = lost }
    where
      calls : (s : State Env) (name : Name) (args : List Value) (o : Signature) → IsSized d s → look_up name (disk_operations d) ≡ Some o →
          all_fit o.arguments args ≡ true → CanCall (DiskMachine d) s name args
      calls s name args o sized found f =
          let shown = shows_sized d d.kind sized.tables sized.sized in
          disk_answers d s name args (record { disk = shown.disk; is = sized.is ∙ ap based shown.is })
          (is_call d name args o found (all_counted o.arguments args f))

      cuts : (s : State Env) (name : Name) (args : List Value) (o : Signature) → IsSized d s → look_up name (disk_operations d) ≡ Some o →
          all_fit o.arguments args ≡ true → CanFall (DiskMachine d) s name args
      cuts s name args o sized found f =
          let shown = shows_sized d d.kind sized.tables sized.sized in
          disk_cuts d s name args (record { disk = shown.disk; is = sized.is ∙ ap based shown.is })
          (is_call d name args o found (all_counted o.arguments args f))

      can_lose : (s : State Env) → IsSized d s → CanLose (DiskMachine d) s
      can_lose s sized =
          let shown = shows_sized d d.kind sized.tables sized.sized in
          disk_loses d s (record { disk = shown.disk; is = sized.is ∙ ap based shown.is })

      whole : (call : disk.Call) (o : Signature) (name : Name) (args : List Value) → look_up name (disk_operations d) ≡ Some o →
          all_fit o.arguments args ≡ true → disk_call name args ≡ Some call → Whole d d.kind call o
      whole call o name args found f e = by_call d fine (Whole d d.kind) (whole_read d.kind) (whole_write d.kind)
          (whole_flush d.kind) name args call o found f e

      fit : (s to : State Env) (name : Name) (args : List Value) (picks : Picks) (answer : Answer) (o : Signature) → IsSized d s →
          look_up name (disk_operations d) ≡ Some o → all_fit o.arguments args ≡ true
          → (DiskMachine d).Calls s name args picks answer to → gives o answer ≡ true
      fit s to name args picks answer o sized found f (b, b', call, reply, e, base, (from, after, at, made, shown), y, is) =
          subst (λ a. gives o a ≡ true) (sym y) (whole call o name args found f e from after picks reply (shown_by s from sized (base ∙ ap based at)) made).0

      kept : (s to : State Env) (name : Name) (args : List Value) (picks : Picks) (answer : Answer) (o : Signature) → IsSized d s →
          look_up name (disk_operations d) ≡ Some o → all_fit o.arguments args ≡ true
          → (DiskMachine d).Calls s name args picks answer to → IsSized d to
      kept s to name args picks answer o sized found f (b, b', call, reply, e, base, (from, after, at, made, shown), y, is) =
          is_sized to after (whole call o name args found f e from after picks reply (shown_by s from sized (base ∙ ap based at)) made).1 (is ∙ ap based shown)

      cut : (s : State Env) (name : Name) (args : List Value) (picks : Picks) (f : Env) (o : Signature) → IsSized d s →
          look_up name (disk_operations d) ≡ Some o → all_fit o.arguments args ≡ true
          → (DiskMachine d).Falls s name args picks f → IsSized d (based f)
      cut s name args picks fallen o sized found f (b, call, e, base, (from, after, at, falls, is)) =
          is_sized (based fallen) after (by_call d fine (Cut d d.kind) (cut_read d.kind) (cut_write d.kind)
          (cut_flush d.kind) name args call o found f e from after picks (shown_by s from sized (base ∙ ap based at)) falls) (ap based is)

      lost : (s : State Env) (picks : Picks) (f : Env) → IsSized d s → (DiskMachine d).Loses s picks f → IsSized d (based f)
      lost s picks f sized (b, none, base, (from, at, is)) =
          is_sized (based f) ((model_of d.kind).lost from) (lost_sized d.kind from (shown_by s from sized (base ∙ ap based at))) (ap based is)
