use Rattle.ygg_eval.proofs.Stepping.{sync_lost, async_lost}
use Rattle.ygg_eval.proofs.rows.lose_unstable.Goals as goal

pub returns-in-Sync : goal.returns-in-Sync
returns-in-Sync c = sync_lost c.args.kind c.args.tables.now c.in-Sync.is c.requires

pub returns-in_ok-tables-in-Async : goal.returns-in_ok-tables-in-Async
returns-in_ok-tables-in-Async c = async_lost c.args.kind c.args.tables.now c.in_ok-tables-in-Async.field-0 c.index-tables-1.result c.in-Async.is
    c.requires c.in_ok-tables-in-Async.ensures
