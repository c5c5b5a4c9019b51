use Rattle.std.proofs.Common.{Bool, true, false, [], ◌∷◌, sym, ap, ◌∙◌, subst}
use Rattle.ygg_disk.proofs.Copying.{size_written, row_of_same}
use Rattle.ygg_disk.specs.Disk.{Write}
use Rattle.ygg_disk.specs.Marked.{MarkedCache, marked_falls}
use Rattle.ygg_disk.specs.Size.{row_shape}
use Rattle.ygg_disk.specs.Waiting.{marked}
use Rattle.ygg_disk.proofs.Marks.{falls_marked, fell_kept}
use Rattle.ygg_disk.proofs.pending_disk.PendingDisk.fall_within.Goals as goal

pub returns-then-kept-clause-falls : goal.returns-then-kept-clause-falls
returns-then-kept-clause-falls c =
    let new : MarkedCache = record { stable = c.table_write.new.table; writes = marked c.self.inside.waiting.items } in
    subst (λ (k : Bool). marked_falls c.args.self.now (Write c.args.at.bits c.args.row.now) (k ∷ []) new) (sym c.if-kept.true)
    (falls_marked true c.args.self.now new c.args.at.bits c.args.row.now
    (fell_kept c.args.self.now c.fall.new.self c.self.inside.stable c.table_write.new.table (marked c.self.inside.waiting.items) c.args.at.bits c.args.row.now
    c.self.view_is c.fall.ensures.lost c.table_write.ensures.value))

pub invariant_of-self : goal.invariant_of-self
invariant_of-self c = (
  size_written c.self.inside.geometry c.self.inside.stable c.table_write.new.table c.args.at.bits c.args.row.now c.self.invariant.0
      c.table_write.ensures.value,
  c.self.invariant.1,
)

pub table_write-requires-clause-width : goal.table_write-requires-clause-width
table_write-requires-clause-width c =
    (row_of_same c.args.self.now.stable c.self.inside.stable c.args.row.now c.requires
    (ap (λ (m : MarkedCache). row_shape m.stable) c.self.view_is ∙ c.fall.ensures.row)).width

pub table_write-requires-clause-words : goal.table_write-requires-clause-words
table_write-requires-clause-words c =
    (row_of_same c.args.self.now.stable c.self.inside.stable c.args.row.now c.requires
    (ap (λ (m : MarkedCache). row_shape m.stable) c.self.view_is ∙ c.fall.ensures.row)).words

pub returns-then-kept-clause-row : goal.returns-then-kept-clause-row
returns-then-kept-clause-row c = ap row_shape c.table_write.ensures.value ∙ ap (λ (m : MarkedCache). row_shape m.stable) c.self.view_is ∙ c.fall.ensures.row

pub returns-else-kept-clause-falls : goal.returns-else-kept-clause-falls
returns-else-kept-clause-falls c =
    subst (λ (k : Bool). marked_falls c.args.self.now (Write c.args.at.bits c.args.row.now) (k ∷ []) c.fall.new.self) (sym c.if-kept.false)
    (falls_marked false c.args.self.now c.fall.new.self c.args.at.bits c.args.row.now c.fall.ensures.lost)

pub returns-else-kept-clause-row : goal.returns-else-kept-clause-row
returns-else-kept-clause-row c = c.fall.ensures.row
