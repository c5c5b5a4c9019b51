-- What holds of nodes, and stays as the input of a call and other nodes are made, holds after a call on a disk, and after one that power cuts.
use Rattle.std.proofs.Common.{ℕ, List, [], ◌∷◌, Option, Some, None}
use Rattle.ygg_base.specs.declared.geometry.DiskKind.{DiskKind}
use Rattle.ygg_base.specs.declared.geometry.DiskKind.TheVariants.{Sync, Async}
use Rattle.ygg_sym_runs.specs.ygg_rules.declared.rule.RuleKind.{RuleKind}
use Rattle.ygg_sym_runs.specs.ygg_bank_proofs_Made.{made_grows}
use Rattle.ygg_sym_runs.specs.ygg_bank_proofs_Widths.{extends_self, extends_both}
use Rattle.ygg_sym_runs.specs.ygg_bank.Making.{made}
use Rattle.ygg_sym_runs.specs.ygg_bank.Nodes.{Extends}
use Rattle.ygg_sym_runs.specs.ygg_bank.declared.node.Id.{Id}
use Rattle.ygg_sym_runs.specs.ygg_bank.declared.node.Node.{Node}
use Rattle.ygg_sym_runs.specs.ygg_bank.declared.node.Node.TheVariants.{Input}
use Rattle.ygg_sym_runs.specs.ygg_shape_words_proofs_Keeps.{Stays, grows_stays}
use Rattle.ygg_sym_runs.specs.ygg_shape_cells.declared.terms.SymValue.{SymValue}
use Rattle.ygg_sym_runs.specs.ygg_shape_cells.declared.terms.SymValue.TheVariants.{Word, Row, Table}
use Rattle.ygg_sym_runs.specs.ygg_shape_cells_proofs_Keeps.{selected_keeps, stored_keeps, stored_where_keeps}
use Rattle.ygg_sym_runs.specs.ExpressionMeaning.{Grows}
use Rattle.ygg_sym_runs.proofs.Keeps.{Keeps}
use Rattle.ygg_sym_runs.specs.Runs.{SymQuestion, Choice, Call}
use Rattle.ygg_sym_runs.specs.Disks.{
  SymCall,
  Read,
  Write,
  Flush,
  sym_call,
  reads,
  writes,
  writes_where,
  sync_does,
  async_does,
  kind_does,
  disk_asked,
  disk_handles,
}
use Rattle.ygg_sym_runs.specs.Cuts.{sync_cuts, async_cuts, kind_cuts, call_cuts, disk_cuts}

module _ (kinds : List RuleKind) (P : List Node → Type 0) (stays : Stays kinds P) where
  pub reads_keeps : (at : Id) (x : SymValue) (tables : List SymValue) → Keeps P (reads kinds at x tables)
  reads_keeps at (Table t) tables nodes p = selected_keeps kinds P stays t at nodes p
  reads_keeps at (Word a) tables nodes p = p
  reads_keeps at (Row a) tables nodes p = p

  pub writes_keeps : (at : Id) (row : List Id) (x : SymValue) → Keeps P (writes kinds at row x)
  writes_keeps at row (Table t) nodes p = stored_keeps kinds P stays t at row nodes p
  writes_keeps at row (Word a) nodes p = p
  writes_keeps at row (Row a) nodes p = p

  pub where_keeps : (test at : Id) (row : List Id) (x : SymValue) → Keeps P (writes_where kinds test at row x)
  where_keeps test at row (Table t) nodes p = stored_where_keeps kinds P stays test t at row nodes p
  where_keeps test at row (Word a) nodes p = p
  where_keeps test at row (Row a) nodes p = p

  sync_keeps : (call : SymCall) (tables : List SymValue) → Keeps P (sync_does kinds call tables)
  sync_keeps (Read at) [] nodes p = p
  sync_keeps (Read at) (x ∷ []) nodes p = reads_keeps at x (x ∷ []) nodes p
  sync_keeps (Read at) (x ∷ y ∷ more) nodes p = p
  sync_keeps (Write at row) [] nodes p = p
  sync_keeps (Write at row) (x ∷ []) nodes p = writes_keeps at row x nodes p
  sync_keeps (Write at row) (x ∷ y ∷ more) nodes p = p
  sync_keeps Flush tables nodes p = p

  module _ (number : ℕ) (fresh : Keeps P (made kinds (Input number 1))) where
    async_keeps : (call : SymCall) (tables : List SymValue) → Keeps P (async_does kinds number call tables)
    async_keeps (Read at) [] nodes p = p
    async_keeps (Read at) (x ∷ []) nodes p = p
    async_keeps (Read at) (x ∷ y ∷ []) nodes p = reads_keeps at x (x ∷ y ∷ []) nodes p
    async_keeps (Read at) (x ∷ y ∷ z ∷ more) nodes p = p
    async_keeps (Write at row) [] nodes p = p
    async_keeps (Write at row) (x ∷ []) nodes p = p
    async_keeps (Write at row) (x ∷ y ∷ []) nodes p =
        let k = made kinds (Input number 1) nodes in
        let a = writes kinds at row x k.nodes in
        where_keeps k.value at row y a.nodes (writes_keeps at row x k.nodes (fresh nodes p))
    async_keeps (Write at row) (x ∷ y ∷ z ∷ more) nodes p = p
    async_keeps Flush [] nodes p = p
    async_keeps Flush (x ∷ []) nodes p = p
    async_keeps Flush (x ∷ y ∷ []) nodes p = p
    async_keeps Flush (x ∷ y ∷ z ∷ more) nodes p = p

    kind_keeps : (kind : DiskKind) (call : SymCall) (tables : List SymValue) → Keeps P (kind_does kinds kind number call tables)
    kind_keeps Sync call tables = sync_keeps call tables
    kind_keeps Async call tables = async_keeps call tables

    pub disk_keeps : (kind : DiskKind) (q : SymQuestion) (tables : List SymValue) → Keeps P (disk_handles kinds kind number q tables)
    disk_keeps kind Choice tables nodes p = p
    disk_keeps kind (Call name args) tables nodes p = asked (sym_call name args) nodes p
      where
        asked : (o : Option SymCall) → Keeps P (disk_asked kinds kind number o tables)
        asked None nodes p = p
        asked (Some call) nodes p = kind_keeps kind call tables nodes p

    sync_cuts_keep : (call : SymCall) (tables : List SymValue) → Keeps P (sync_cuts kinds number call tables)
    sync_cuts_keep (Read at) tables nodes p = p
    sync_cuts_keep Flush tables nodes p = p
    sync_cuts_keep (Write at row) [] nodes p = p
    sync_cuts_keep (Write at row) (x ∷ []) nodes p =
        let k = made kinds (Input number 1) nodes in where_keeps k.value at row x k.nodes (fresh nodes p)
    sync_cuts_keep (Write at row) (x ∷ y ∷ more) nodes p = p

    async_cuts_keep : (call : SymCall) (tables : List SymValue) → Keeps P (async_cuts kinds number call tables)
    async_cuts_keep (Read at) tables nodes p = p
    async_cuts_keep Flush tables nodes p = p
    async_cuts_keep (Write at row) [] nodes p = p
    async_cuts_keep (Write at row) (x ∷ []) nodes p = p
    async_cuts_keep (Write at row) (x ∷ y ∷ []) nodes p =
        let k = made kinds (Input number 1) nodes in where_keeps k.value at row y k.nodes (fresh nodes p)
    async_cuts_keep (Write at row) (x ∷ y ∷ z ∷ more) nodes p = p

    kind_cuts_keep : (kind : DiskKind) (call : SymCall) (tables : List SymValue) → Keeps P (kind_cuts kinds kind number call tables)
    kind_cuts_keep Sync call tables = sync_cuts_keep call tables
    kind_cuts_keep Async call tables = async_cuts_keep call tables

    -- power that fails within what is asked
    pub cuts_keep : (kind : DiskKind) (q : SymQuestion) (tables : List SymValue) → Keeps P (disk_cuts kinds kind number q tables)
    cuts_keep kind Choice tables nodes p = p
    cuts_keep kind (Call name args) tables nodes p = asked (sym_call name args) nodes p
      where
        asked : (o : Option SymCall) → Keeps P (call_cuts kinds kind number o tables)
        asked None nodes p = p
        asked (Some call) nodes p = kind_cuts_keep kind call tables nodes p

module _ (kinds : List RuleKind) where
  pub reads_grows : (at : Id) (x : SymValue) (tables : List SymValue) → Grows (reads kinds at x tables)
  reads_grows at x tables nodes = reads_keeps kinds (Extends nodes) (grows_stays kinds nodes) at x tables nodes (extends_self nodes)

  pub writes_grows : (at : Id) (row : List Id) (x : SymValue) → Grows (writes kinds at row x)
  writes_grows at row x nodes = writes_keeps kinds (Extends nodes) (grows_stays kinds nodes) at row x nodes (extends_self nodes)

  pub where_grows : (test at : Id) (row : List Id) (x : SymValue) → Grows (writes_where kinds test at row x)
  where_grows test at row x nodes = where_keeps kinds (Extends nodes) (grows_stays kinds nodes) test at row x nodes (extends_self nodes)

  pub input_grows : (number : ℕ) (nodes : List Node) → Keeps (Extends nodes) (made kinds (Input number 1))
  input_grows number nodes more p = extends_both nodes more (made kinds (Input number 1) more).nodes p (made_grows kinds (Input number 1) more)

  pub disk_grows : (kind : DiskKind) (number : ℕ) (q : SymQuestion) (tables : List SymValue) → Grows (disk_handles kinds kind number q tables)
  disk_grows kind number q tables nodes =
      disk_keeps kinds (Extends nodes) (grows_stays kinds nodes) number (input_grows number nodes) kind q tables nodes (extends_self nodes)

  pub cuts_grow : (kind : DiskKind) (number : ℕ) (q : SymQuestion) (tables : List SymValue) → Grows (disk_cuts kinds kind number q tables)
  cuts_grow kind number q tables nodes =
      cuts_keep kinds (Extends nodes) (grows_stays kinds nodes) number (input_grows number nodes) kind q tables nodes (extends_self nodes)
