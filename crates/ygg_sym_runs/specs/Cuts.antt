-- Power that fails on a disk over terms: the pick of the failure is an input of its own, and so is each stop.
use Rattle.std.specs.Prelude.{ℕ, ◌+◌, List, [], ◌∷◌, Option, Some, None}
use Rattle.ygg_value.specs.declared.operation.Op.TheVariants.{Or}
use Rattle.ygg_base.specs.declared.geometry.DiskKind.{DiskKind}
use Rattle.ygg_base.specs.declared.geometry.DiskKind.TheVariants.{Sync, Async}
use Rattle.ygg_sym_runs.specs.ygg_rules.declared.rule.RuleKind.{RuleKind}
use Rattle.ygg_sym_runs.specs.ygg_bank.Makes.{Make, pure, and_make}
use Rattle.ygg_sym_runs.specs.ygg_bank.Making.{made}
use Rattle.ygg_sym_runs.specs.ygg_bank.declared.node.Node.TheVariants.{Input, Bin}
use Rattle.ygg_sym_runs.specs.ygg_shape_words.Picking.{picked}
use Rattle.ygg_sym_runs.specs.ygg_shape_cells.declared.terms.SymValue.{SymValue}
use Rattle.ygg_sym_runs.specs.Runs.{SymQuestion, Choice, Call}
use Rattle.ygg_sym_runs.specs.Lows.{join_lows}
use Rattle.ygg_sym_runs.specs.Disks.{SymCall, Read, Write, Flush, sym_call, writes_where}
use Rattle.ygg_sym_runs.specs.StopTerms.{Stops}

-- what power loss leaves: of an asynchronous disk, what was stable
abbrev pub disk_loses : DiskKind → List SymValue → List SymValue
disk_loses Sync tables = tables
disk_loses Async (view ∷ stable ∷ []) = stable ∷ stable ∷ []
disk_loses Async tables = tables

module _ (kinds : List RuleKind) where
  -- power fails within a call on a synchronous disk: the input of this number says whether a row was written
  abbrev pub sync_cuts : ℕ → SymCall → List SymValue → Make (List SymValue)
  sync_cuts number (Write at row) (view ∷ []) =
      and_make (made kinds (Input number 1)) (λ kept. and_make (writes_where kinds kept at row view) (λ left. pure (left ∷ [])))
  sync_cuts number (Read at) tables = pure tables
  sync_cuts number Flush tables = pure tables
  sync_cuts number _ tables = pure tables

  -- and on an asynchronous one: a write is kept or not, and then power is lost
  abbrev pub async_cuts : ℕ → SymCall → List SymValue → Make (List SymValue)
  async_cuts number (Write at row) (view ∷ stable ∷ []) =
      and_make (made kinds (Input number 1)) (λ kept. and_make (writes_where kinds kept at row stable) (λ left. pure (left ∷ left ∷ [])))
  async_cuts number (Read at) tables = pure (disk_loses Async tables)
  async_cuts number Flush tables = pure (disk_loses Async tables)
  async_cuts number _ tables = pure (disk_loses Async tables)

  -- power fails within a call on a disk of a kind
  abbrev pub kind_cuts : DiskKind → ℕ → SymCall → List SymValue → Make (List SymValue)
  kind_cuts Sync = sync_cuts
  kind_cuts Async = async_cuts

  -- what is no call, which no typed block makes, leaves the tables
  abbrev pub call_cuts : DiskKind → ℕ → Option SymCall → List SymValue → Make (List SymValue)
  call_cuts kind number None tables = pure tables
  call_cuts kind number (Some call) tables = kind_cuts kind number call tables

  -- power fails within what is asked of a disk
  abbrev pub disk_cuts : DiskKind → ℕ → SymQuestion → List SymValue → Make (List SymValue)
  disk_cuts kind number Choice tables = pure (disk_loses kind tables)
  disk_cuts kind number (Call name args) tables = call_cuts kind number (sym_call name args) tables

  -- the stops of runs on a disk: one input for each, from a number on, and one for the pick of the failure
  abbrev pub disk_stops : DiskKind → ℕ → ℕ → Stops (List SymValue) (List SymValue)
  disk_stops kind first last = record {
    bit = λ n. made kinds (Input (first + n) 1);
    cut = disk_cuts kind last;
    lose = λ tables. pure (disk_loses kind tables);
    merge = join_lows kinds;
    either = λ a b. made kinds (Bin Or a b);
    pick = picked kinds;
  }
