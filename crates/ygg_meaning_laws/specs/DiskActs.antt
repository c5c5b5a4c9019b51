-- A disk as a function of picks.
use Rattle.std.specs.Prelude.{Bool, if◌then◌else◌, [], ◌∷◌, Option, Some, None}
use Rattle.ygg_value.specs.Number.{Grid}
use Rattle.ygg_value.specs.Values.{table_read, table_write}
use Rattle.ygg_value.specs.declared.row.Value.{Value}
use Rattle.ygg_value.specs.declared.row.Value.TheVariants.{Word, Row, Table}
use Rattle.ygg_syntax.specs.declared.tree.DiskText.{DiskText}
use Rattle.ygg_base.specs.declared.geometry.DiskKind.{DiskKind}
use Rattle.ygg_base.specs.declared.geometry.DiskKind.TheVariants.{Sync, Async}
use Rattle.ygg_meaning_laws.specs.ygg_disk.Disk as disk
use Rattle.ygg_meaning_laws.specs.Environments.{Env}
use Rattle.ygg_meaning_laws.specs.Machine.{Picks, State, based}
use Rattle.ygg_meaning_laws.specs.ygg_disk.Kinds.{model_of}
use Rattle.ygg_meaning_laws.specs.DiskMachine.{disk_call, answer_to, tables_in}
use Rattle.ygg_meaning_laws.specs.Acts.{next_of, later, Did, Fell, Acts}

-- what a call does on a disk of the states S: its reply, the state after it, the picks that it takes and those that are left
pub record Replied (S : Type 0) : Type 0 where
  pub reply : disk.Reply
  pub to : S
  pub taken : Picks
  pub left : Picks

-- what power leaves that fails
pub record Dropped (S : Type 0) : Type 0 where
  pub to : S
  pub taken : Picks
  pub left : Picks

module _ (past : Bool) where
  -- no pick is taken
  abbrev pub replies : {S : Type 0} → disk.Reply → S → Picks → Replied S
  replies reply to picks = record { reply = reply; to = to; taken = []; left = picks }

  -- one pick is taken
  abbrev pub replies_by : {S : Type 0} → disk.Reply → (Bool → S) → Picks → Replied S
  replies_by reply to picks = record { reply = reply; to = to (next_of past picks); taken = next_of past picks ∷ []; left = later picks }

  -- no pick is taken
  abbrev pub drops : {S : Type 0} → S → Picks → Dropped S
  drops to picks = record { to = to; taken = []; left = picks }

  -- one pick is taken
  abbrev pub drops_by : {S : Type 0} → (Bool → S) → Picks → Dropped S
  drops_by to picks = record { to = to (next_of past picks); taken = next_of past picks ∷ []; left = later picks }

  -- a whole call
  abbrev pub kind_calls : (kind : DiskKind) → (model_of kind).State → disk.Call → Picks → Replied (model_of kind).State
  kind_calls Sync view (disk.Read at) picks = replies (Some (table_read view at)) view picks
  kind_calls Sync view (disk.Write at row) picks = replies None (table_write view at row) picks
  kind_calls Sync view disk.Flush picks = replies None view picks
  kind_calls Async d (disk.Read at) picks = replies (Some (table_read d.view at)) d picks
  kind_calls Async d (disk.Write at row) picks = replies_by None (λ kept. disk.written kept d at row) picks
  kind_calls Async d disk.Flush picks = replies None (record { view = d.view; stable = d.view }) picks

  -- power fails within a call
  abbrev pub kind_falls : (kind : DiskKind) → (model_of kind).State → disk.Call → Picks → Dropped (model_of kind).State
  kind_falls Sync view (disk.Read at) picks = drops view picks
  kind_falls Sync view (disk.Write at row) picks = drops_by (λ kept. if kept then table_write view at row else view) picks
  kind_falls Sync view disk.Flush picks = drops view picks
  kind_falls Async d (disk.Read at) picks = drops (disk.lost d) picks
  kind_falls Async d (disk.Write at row) picks = drops_by (λ kept. disk.lost (disk.written kept d at row)) picks
  kind_falls Async d disk.Flush picks = drops (disk.lost d) picks

  -- the table that a value is; a typed file's disk shows no other values
  abbrev pub table_in : Value → Grid
  table_in (Table t) = t
  table_in (Row r) = record { width = 1; words = 0; rows = [] }
  table_in (Word w) = record { width = 1; words = 0; rows = [] }

  -- the first of some tables, an empty one where there is none
  abbrev pub first_table : Env → Grid
  first_table [] = record { width = 1; words = 0; rows = [] }
  first_table (b ∷ env) = table_in b.1

  -- all tables but the first
  abbrev pub other_tables : Env → Env
  other_tables [] = []
  other_tables (b ∷ env) = env

  -- the state of a disk that shows these tables
  abbrev pub state_in : (kind : DiskKind) → Env → (model_of kind).State
  state_in Sync tables = first_table tables
  state_in Async tables = record { view = first_table tables; stable = first_table (other_tables tables) }

  -- a call of the disk that a file names; what is no call of it does nothing
  abbrev pub disk_does : DiskText → State Env → Option disk.Call → Picks → Did Env Bool
  disk_does d s None picks = record { answer = None; to = s; notes = []; left = picks }
  disk_does d s (Some call) picks =
      let r = kind_calls d.kind (state_in d.kind s.base) call picks in
      record { answer = answer_to r.reply; to = based (tables_in d.kind r.to); notes = r.taken; left = r.left }

  -- power fails within a call
  abbrev pub disk_drops : DiskText → State Env → Option disk.Call → Picks → Fell Env Bool
  disk_drops d s None picks = record { base = s.base; notes = []; left = picks }
  disk_drops d s (Some call) picks =
      let r = kind_falls d.kind (state_in d.kind s.base) call picks in record { base = tables_in d.kind r.to; notes = r.taken; left = r.left }

  -- the disk that a file names as a function of picks
  abbrev pub disk_acts : DiskText → Acts Env Bool
  disk_acts d = record {
    calls = λ s name args picks. disk_does d s (disk_call name args) picks;
    falls = λ s name args picks. disk_drops d s (disk_call name args) picks;
    loses = λ s picks. record { base = tables_in d.kind ((model_of d.kind).lost (state_in d.kind s.base)); notes = []; left = picks };
  }
