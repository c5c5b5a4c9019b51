use Rattle.ygg_eval.proofs.Stepping.{first_writable, second_writable_still, sync_written, async_kept, async_left}
use Rattle.ygg_eval.proofs.rows.write.Goals as goal

pub put-requires : goal.put-requires
put-requires c = first_writable c.args.kind c.args.tables.now c.args.at.now c.args.row.now c.index-tables-0.result c.requires

pub put-requires-in-Async : goal.put-requires-in-Async
put-requires-in-Async c = first_writable c.args.kind c.args.tables.now c.args.at.now c.args.row.now c.index-tables-0-in-Async.result c.requires

pub put-requires-then-stable : goal.put-requires-then-stable
put-requires-then-stable c =
    second_writable_still c.args.kind c.args.tables.now c.args.at.now c.args.row.now c.index-tables-1.result c.put-in-Async.new.table c.in-Async.is c.requires

pub returns-in-Sync : goal.returns-in-Sync
returns-in-Sync c =
    sync_written c.args.kind c.args.tables.now c.args.at.now c.args.row.now c.index-tables-0.result c.put.new.table c.args.power.now c.in-Sync.is
    c.requires c.put.ensures

pub returns-then-stable : goal.returns-then-stable
returns-then-stable c =
    async_kept c.peek-stable.result c.args.kind c.args.tables.now c.args.at.now c.args.row.now c.index-tables-0-in-Async.result
    c.index-tables-1.result c.put-in-Async.new.table c.put-then-stable.new.table c.args.power.now c.take.new.self
    c.if-stable.true c.in-Async.is c.requires c.peek-stable.ensures c.take.ensures c.put-in-Async.ensures c.put-then-stable.ensures

pub returns-else-stable : goal.returns-else-stable
returns-else-stable c =
    async_left c.peek-stable.result c.args.kind c.args.tables.now c.args.at.now c.args.row.now c.index-tables-0-in-Async.result
    c.put-in-Async.new.table c.args.power.now c.take.new.self
    c.if-stable.false c.in-Async.is c.requires c.peek-stable.ensures c.take.ensures c.put-in-Async.ensures
