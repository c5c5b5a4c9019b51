use Rattle.std.proofs.Common.{sym, subst}
use Rattle.std.proofs.lemmas.Result.{on_ok_weaker}
use Rattle.ygg_syntax.specs.declared.tree.File.{File}
use Rattle.ygg_eval.specs.Tables.{AreTables, Lost}
use Rattle.ygg_eval.proofs.OnDisk.{are_tables, lost_between}
use Rattle.ygg_eval.proofs.Outages.{lost_as}
use Rattle.ygg_eval.proofs.disk.lose_tables.Goals as goal

pub lose_unstable-requires : goal.lose_unstable-requires
lose_unstable-requires c =
    let file = c.args.typed.now.file in
    subst (λ (f : File). AreTables f.disk.kind c.args.tables.now) (sym c.file.ensures.same) (are_tables file c.args.tables.now c.requires)

pub returns-clause-lost : goal.returns-clause-lost
returns-clause-lost c =
    let file = c.args.typed.now.file in
    let tables = c.args.tables.now in
    let after = c.lose_unstable.new.tables in
    λ power. lost_as file 0 tables after power power c.lose_unstable.result
    (on_ok_weaker c.lose_unstable.result (λ (lost : Lost c.file.result.now.disk.kind tables after).
    (lost_between file c.args.typed.now.typed tables after c.requires
    (subst (λ (f : File). Lost f.disk.kind tables after) c.file.ensures.same lost)).lost power) c.lose_unstable.ensures)

pub returns-clause-fits : goal.returns-clause-fits
returns-clause-fits c =
    let file = c.args.typed.now.file in
    let tables = c.args.tables.now in
    let after = c.lose_unstable.new.tables in
    on_ok_weaker c.lose_unstable.result (λ (lost : Lost c.file.result.now.disk.kind tables after).
    (lost_between file c.args.typed.now.typed tables after c.requires
    (subst (λ (f : File). Lost f.disk.kind tables after) c.file.ensures.same lost)).fit) c.lose_unstable.ensures
