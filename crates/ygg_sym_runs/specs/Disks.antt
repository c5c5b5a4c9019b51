-- The synchronous and the asynchronous disk over terms: a pick is an input of its place.
use Rattle.std.specs.Prelude.{ℕ, ◌+◌, if◌then◌else◌, List, [], ◌∷◌, Option, Some, None}
use Rattle.std.specs.Str.{bytes_eq}
use Rattle.std.specs.Prelude.{codes}
use Rattle.ygg_base.specs.declared.geometry.DiskKind.{DiskKind}
use Rattle.ygg_base.specs.declared.geometry.DiskKind.TheVariants.{Sync, Async}
use Rattle.ygg_sym_runs.specs.ygg_meaning.Environments.{Name}
use Rattle.ygg_sym_runs.specs.ygg_rules.declared.rule.RuleKind.{RuleKind}
use Rattle.ygg_sym_runs.specs.ygg_bank.Makes.{Make, pure, and_make}
use Rattle.ygg_sym_runs.specs.ygg_bank.Making.{made}
use Rattle.ygg_sym_runs.specs.ygg_bank.declared.node.Id.{Id}
use Rattle.ygg_sym_runs.specs.ygg_bank.declared.node.Node.TheVariants.{Input}
use Rattle.ygg_sym_runs.specs.ygg_shape_cells.Making.{selected, stored}
use Rattle.ygg_sym_runs.specs.ygg_shape_cells.declared.terms.SymValue.{SymValue}
use Rattle.ygg_sym_runs.specs.ygg_shape_cells.declared.terms.SymValue.TheVariants.{Word, Row, Table}
use Rattle.ygg_sym_runs.specs.ygg_shape.Guarding.{stored_where}
use Rattle.ygg_sym_runs.specs.ygg_meaning_laws.RunPlaces.{disk_space}
use Rattle.ygg_sym_runs.specs.Exprs.{id_in}
use Rattle.ygg_sym_runs.specs.Putting.{row_in}
use Rattle.ygg_sym_runs.specs.Runs.{SymQuestion, Choice, Call, SymHandled, SymMachine}
use Rattle.ygg_sym_runs.specs.Lows.{merge_lows}

-- a call on a disk, at a place and with a row of terms
pub data SymCall : Type 0 where
  Read : (at : Id) → SymCall
  Write : (at : Id) (row : List Id) → SymCall
  Flush : SymCall

-- the call that an operation of a disk is
abbrev pub sym_call : Name → List SymValue → Option SymCall
sym_call name [] = if bytes_eq name (codes "flush") then Some Flush else None
sym_call name (at ∷ []) = if bytes_eq name (codes "read") then Some (Read (id_in at)) else None
sym_call name (at ∷ row ∷ []) = if bytes_eq name (codes "write") then Some (Write (id_in at) (row_in row)) else None
sym_call name _ = None

-- an answer, and the tables after it
abbrev pub Done : Type 0
Done = SymHandled (List SymValue)

-- this answer, and these tables
abbrev pub done : Option SymValue → List SymValue → Done
done answer tables = record { answer = answer; to = tables }

module _ (kinds : List RuleKind) where
  -- the row that a table has at a place
  abbrev pub reads : Id → SymValue → List SymValue → Make Done
  reads at (Table view) tables = and_make (selected kinds view at) (λ row. pure (done (Some (Row row)) tables))
  reads at _ tables = pure (done None tables)

  -- the table with a row written; what is no table, which no typed file has there, stays
  abbrev pub writes : Id → List Id → SymValue → Make SymValue
  writes at row (Table view) = and_make (stored kinds view at row) (λ new. pure (Table new))
  writes at row (Word a) = pure (Word a)
  writes at row (Row a) = pure (Row a)

  -- the table with a row written where a test is 1: each row asks the test, and no second table is merged
  abbrev pub writes_where : Id → Id → List Id → SymValue → Make SymValue
  writes_where test at row (Table view) = and_make (stored_where kinds test view at row) (λ new. pure (Table new))
  writes_where test at row (Word a) = pure (Word a)
  writes_where test at row (Row a) = pure (Row a)

  -- a call on a synchronous disk, which has one table
  abbrev pub sync_does : SymCall → List SymValue → Make Done
  sync_does (Read at) (view ∷ []) = reads at view (view ∷ [])
  sync_does (Write at row) (view ∷ []) = and_make (writes at row view) (λ new. pure (done None (new ∷ [])))
  sync_does Flush tables = pure (done None tables)
  sync_does _ tables = pure (done None tables)

  -- a call on an asynchronous disk: what reads see, and what power loss leaves; the input of this number says whether a write is kept
  abbrev pub async_does : ℕ → SymCall → List SymValue → Make Done
  async_does number (Read at) (view ∷ stable ∷ []) = reads at view (view ∷ stable ∷ [])
  async_does number (Write at row) (view ∷ stable ∷ []) =
      and_make (made kinds (Input number 1)) (λ kept. and_make (writes at row view) (λ seen. and_make (writes_where kept at row stable) (λ left.
      pure (done None (seen ∷ left ∷ [])))))
  async_does number Flush (view ∷ stable ∷ []) = pure (done None (view ∷ view ∷ []))
  async_does number _ tables = pure (done None tables)

  -- a call on a disk of a kind
  abbrev pub kind_does : DiskKind → ℕ → SymCall → List SymValue → Make Done
  kind_does Sync number = sync_does
  kind_does Async number = async_does number

  -- what is asked of a disk; what is no call of it, which no typed block asks, does nothing
  abbrev pub disk_asked : DiskKind → ℕ → Option SymCall → List SymValue → Make Done
  disk_asked kind number None tables = pure (done None tables)
  disk_asked kind number (Some call) tables = kind_does kind number call tables

  -- what a disk does with a question; a choice, which no block on a disk asks, does nothing
  abbrev pub disk_handles : DiskKind → ℕ → SymQuestion → List SymValue → Make Done
  disk_handles kind number Choice tables = pure (done None tables)
  disk_handles kind number (Call name args) tables = disk_asked kind number (sym_call name args) tables

  -- a disk whose picks have the inputs from a number on, by place
  abbrev pub sym_disk : DiskKind → ℕ → SymMachine (List SymValue)
  sym_disk kind first = record { merge = merge_lows kinds; space = disk_space; handle = λ i q tables. disk_handles kind (first + i) q tables }
