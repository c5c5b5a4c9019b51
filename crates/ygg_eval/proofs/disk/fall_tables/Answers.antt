use Rattle.std.proofs.Common.{sym, subst, arith}
use Rattle.std.proofs.lemmas.Result.{on_ok_weaker}
use Rattle.ygg_value.specs.Values.{word_in, row_in}
use Rattle.ygg_syntax.specs.declared.tree.File.{File}
use Rattle.ygg_eval.specs.ygg_disk.Disk as disk
use Rattle.ygg_eval.specs.Tables.{AreTables, AreWritable, Cut, Lost}
use Rattle.ygg_eval.proofs.OnDisk.{are_tables, write_ready, write_fell, other_fell}
use Rattle.ygg_eval.proofs.Outages.{fell_as}
use Rattle.ygg_eval.proofs.disk.fall_tables.Goals as goal

pub cut_write-requires : goal.cut_write-requires
cut_write-requires c =
    let file = c.args.typed.now.file in
    subst (λ (f : File). AreWritable f.disk.kind c.args.tables.now c.at.result.now c.at-then-op-eq1.result.now) (sym c.file.ensures.same)
    (write_ready file c.args.typed.now.typed c.args.op c.args.args.now c.args.tables.now c.requires.operation c.requires.fits c.at.result.now
    c.at-then-op-eq1.result.now c.if-op-eq1.true c.at.ensures c.at-then-op-eq1.ensures)

pub lose_unstable-requires : goal.lose_unstable-requires
lose_unstable-requires c =
    let file = c.args.typed.now.file in
    subst (λ (f : File). AreTables f.disk.kind c.args.tables.now) (sym c.file.ensures.same) (are_tables file c.args.tables.now c.requires.fits)

pub returns-then-op-eq1-clause-fell : goal.returns-then-op-eq1-clause-fell
returns-then-op-eq1-clause-fell c =
    let file = c.args.typed.now.file in
    let tables = c.args.tables.now in
    let after = c.cut_write.new.tables in
    let power = c.cut_write.new.power in
    fell_as file 0 tables after c.args.power.now power c.args.op c.args.args.now c.cut_write.result c.requires.operation
    (on_ok_weaker c.cut_write.result (λ (cut : Cut c.file.result.now.disk.kind
    (disk.Write (word_in c.at.result.now).bits (row_in c.at-then-op-eq1.result.now)) tables after c.args.power.now power).
    (write_fell file c.args.typed.now.typed c.args.op c.args.args.now tables c.requires.operation c.requires.fits c.at.result.now
    c.at-then-op-eq1.result.now after c.args.power.now power c.if-op-eq1.true c.at.ensures c.at-then-op-eq1.ensures
    (subst (λ (f : File). Cut f.disk.kind (disk.Write (word_in c.at.result.now).bits (row_in c.at-then-op-eq1.result.now)) tables after
    c.args.power.now power) c.file.ensures.same cut)).fell) c.cut_write.ensures)

pub returns-then-op-eq1-clause-fits : goal.returns-then-op-eq1-clause-fits
returns-then-op-eq1-clause-fits c =
    let file = c.args.typed.now.file in
    let tables = c.args.tables.now in
    let after = c.cut_write.new.tables in
    let power = c.cut_write.new.power in
    on_ok_weaker c.cut_write.result (λ (cut : Cut c.file.result.now.disk.kind
    (disk.Write (word_in c.at.result.now).bits (row_in c.at-then-op-eq1.result.now)) tables after c.args.power.now power).
    (write_fell file c.args.typed.now.typed c.args.op c.args.args.now tables c.requires.operation c.requires.fits c.at.result.now
    c.at-then-op-eq1.result.now after c.args.power.now power c.if-op-eq1.true c.at.ensures c.at-then-op-eq1.ensures
    (subst (λ (f : File). Cut f.disk.kind (disk.Write (word_in c.at.result.now).bits (row_in c.at-then-op-eq1.result.now)) tables after
    c.args.power.now power) c.file.ensures.same cut)).fit) c.cut_write.ensures

pub returns-else-op-eq1-clause-fell : goal.returns-else-op-eq1-clause-fell
returns-else-op-eq1-clause-fell c =
    let file = c.args.typed.now.file in
    let tables = c.args.tables.now in
    let after = c.lose_unstable.new.tables in
    fell_as file 0 tables after c.args.power.now c.args.power.now c.args.op c.args.args.now c.lose_unstable.result c.requires.operation
    (on_ok_weaker c.lose_unstable.result (λ (lost : Lost c.file.result.now.disk.kind tables after).
    (other_fell file c.args.typed.now.typed c.args.op c.args.args.now tables c.requires.operation c.requires.fits after c.args.power.now
    (λ e. absurd (omega arith))
    (subst (λ (f : File). Lost f.disk.kind tables after) c.file.ensures.same lost)).fell) c.lose_unstable.ensures)

pub returns-else-op-eq1-clause-fits : goal.returns-else-op-eq1-clause-fits
returns-else-op-eq1-clause-fits c =
    let file = c.args.typed.now.file in
    let tables = c.args.tables.now in
    let after = c.lose_unstable.new.tables in
    on_ok_weaker c.lose_unstable.result (λ (lost : Lost c.file.result.now.disk.kind tables after).
    (other_fell file c.args.typed.now.typed c.args.op c.args.args.now tables c.requires.operation c.requires.fits after c.args.power.now
    (λ e. absurd (omega arith))
    (subst (λ (f : File). Lost f.disk.kind tables after) c.file.ensures.same lost)).fit) c.lose_unstable.ensures
