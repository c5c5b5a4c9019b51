use Rattle.std.proofs.Common.{None, ◌<◌, length, sym, subst, arith}
use Rattle.ygg_value.specs.Values.{word_in, row_in}
use Rattle.ygg_syntax.specs.declared.tree.File.{File}
use Rattle.ygg_eval.specs.ygg_disk.Disk as disk
use Rattle.ygg_eval.specs.Tables.{AreTables, AreWritable, Made}
use Rattle.ygg_eval.specs.ygg_disk.declared.power.Power.{Power}
use Rattle.ygg_eval.proofs.OnDisk.{are_tables, asks_read, asks_write, read_ready, read_called, write_ready, write_called, flush_called}
use Rattle.ygg_eval.proofs.Outages.{called_without, after_without}
use Rattle.ygg_eval.proofs.disk.call_tables.Goals as goal

pub read-requires : goal.read-requires
read-requires c =
    let file = c.args.typed.now.file in
    read_ready file c.args.typed.now.typed c.args.op c.args.args.now c.args.tables.now c.requires.operation c.requires.fits c.at.result.now
    c.index-tables-0.result c.geometry.result
    c.in-0.is c.at.ensures c.geometry.ensures.same c.geometry.ensures.shape

pub write-requires : goal.write-requires
write-requires c =
    let file = c.args.typed.now.file in
    subst (λ (f : File). AreWritable f.disk.kind c.args.tables.now c.at-in-1.result.now c.at-in-1-2.result.now) (sym c.file.ensures.same)
    (write_ready file c.args.typed.now.typed c.args.op c.args.args.now c.args.tables.now c.requires.operation c.requires.fits c.at-in-1.result.now
    c.at-in-1-2.result.now c.in-1.is c.at-in-1.ensures c.at-in-1-2.ensures)

pub settle-requires : goal.settle-requires
settle-requires c =
    let file = c.args.typed.now.file in
    subst (λ (f : File). AreTables f.disk.kind c.args.tables.now) (sym c.file.ensures.same) (are_tables file c.args.tables.now c.requires.fits)

pub returns-in_ok-row-in-0-clause-called : goal.returns-in_ok-row-in-0-clause-called
returns-in_ok-row-in-0-clause-called c =
    let file = c.args.typed.now.file in
    (read_called file c.args.typed.now.typed c.args.op c.args.args.now c.args.tables.now c.requires.operation c.requires.fits c.at.result.now
    c.index-tables-0.result c.in_ok-row-in-0.row c.args.power.now
    c.in-0.is c.at.ensures c.in_ok-row-in-0.ensures).called

pub returns-in-1-clause-called : goal.returns-in-1-clause-called
returns-in-1-clause-called c =
    let file = c.args.typed.now.file in
    (write_called file c.args.typed.now.typed c.args.op c.args.args.now c.args.tables.now c.requires.operation c.requires.fits c.at-in-1.result.now
    c.at-in-1-2.result.now c.write.new.tables c.args.power.now c.write.new.power
    c.in-1.is c.at-in-1.ensures c.at-in-1-2.ensures
    (subst (λ (f : File). Made f.disk.kind (disk.Write (word_in c.at-in-1.result.now).bits (row_in c.at-in-1-2.result.now)) None c.args.tables.now
    c.write.new.tables c.args.power.now c.write.new.power) c.file.ensures.same c.write.ensures)).called

pub returns-in-1-clause-fits : goal.returns-in-1-clause-fits
returns-in-1-clause-fits c =
    let file = c.args.typed.now.file in
    (write_called file c.args.typed.now.typed c.args.op c.args.args.now c.args.tables.now c.requires.operation c.requires.fits c.at-in-1.result.now
    c.at-in-1-2.result.now c.write.new.tables c.args.power.now c.write.new.power
    c.in-1.is c.at-in-1.ensures c.at-in-1-2.ensures
    (subst (λ (f : File). Made f.disk.kind (disk.Write (word_in c.at-in-1.result.now).bits (row_in c.at-in-1-2.result.now)) None c.args.tables.now
    c.write.new.tables c.args.power.now c.write.new.power) c.file.ensures.same c.write.ensures)).fit

pub returns-in_ok-settle-in_default-clause-called : goal.returns-in_ok-settle-in_default-clause-called
returns-in_ok-settle-in_default-clause-called c =
    let file = c.args.typed.now.file in
    (flush_called file c.args.typed.now.typed c.args.op c.args.args.now c.args.tables.now c.requires.operation c.requires.fits c.settle.new.tables
    c.args.power.now (λ z. absurd (omega arith)) (λ z. absurd (omega arith))
    (subst (λ (f : File). (p : Power) → Made f.disk.kind disk.Flush None c.args.tables.now c.settle.new.tables p p) c.file.ensures.same
    c.in_ok-settle-in_default.ensures)).called

pub returns-in_ok-settle-in_default-clause-fits : goal.returns-in_ok-settle-in_default-clause-fits
returns-in_ok-settle-in_default-clause-fits c =
    let file = c.args.typed.now.file in
    (flush_called file c.args.typed.now.typed c.args.op c.args.args.now c.args.tables.now c.requires.operation c.requires.fits c.settle.new.tables
    c.args.power.now (λ z. absurd (omega arith)) (λ z. absurd (omega arith))
    (subst (λ (f : File). (p : Power) → Made f.disk.kind disk.Flush None c.args.tables.now c.settle.new.tables p p) c.file.ensures.same
    c.in_ok-settle-in_default.ensures)).fit

pub at-requires : goal.at-requires
at-requires c =
    subst (λ vs. 0 < length vs) (sym (asks_read c.args.typed.now.file.disk c.args.op c.args.args.now c.in-0.is c.requires.operation).are) (omega arith)

pub at-requires-in-1 : goal.at-requires-in-1
at-requires-in-1 c =
    subst (λ vs. 0 < length vs) (sym (asks_write c.args.typed.now.file.disk c.args.op c.args.args.now c.in-1.is c.requires.operation).are) (omega arith)

pub at-requires-in-1-2 : goal.at-requires-in-1-2
at-requires-in-1-2 c =
    subst (λ vs. 1 < length vs) (sym (asks_write c.args.typed.now.file.disk c.args.op c.args.args.now c.in-1.is c.requires.operation).are) (omega arith)

pub returns-in_err-row-in-0-clause-called : goal.returns-in_err-row-in-0-clause-called
returns-in_err-row-in-0-clause-called c =
    called_without c.args.typed.now.file 0 c.args.tables.now c.args.tables.now c.args.power.now c.args.power.now c.args.op c.args.args.now
    c.from_residual.result c.requires.operation c.from_residual.ensures.0

pub returns-in_err-row-in-0-clause-fits : goal.returns-in_err-row-in-0-clause-fits
returns-in_err-row-in-0-clause-fits c = after_without _ c.from_residual.result c.from_residual.ensures.0

pub returns-in_err-settle-in_default-clause-called : goal.returns-in_err-settle-in_default-clause-called
returns-in_err-settle-in_default-clause-called c =
    called_without c.args.typed.now.file 0 c.args.tables.now c.settle.new.tables c.args.power.now c.args.power.now c.args.op c.args.args.now
    c.from_residual-in_err-settle-in_default.result c.requires.operation c.from_residual-in_err-settle-in_default.ensures.0

pub returns-in_err-settle-in_default-clause-fits : goal.returns-in_err-settle-in_default-clause-fits
returns-in_err-settle-in_default-clause-fits c =
    after_without _ c.from_residual-in_err-settle-in_default.result c.from_residual-in_err-settle-in_default.ensures.0

pub returns-in_ok-row-in-0-clause-fits : goal.returns-in_ok-row-in-0-clause-fits
returns-in_ok-row-in-0-clause-fits c = c.requires.fits
