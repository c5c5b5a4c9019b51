use Rattle.ygg_eval.proofs.Stepping.{sync_settled, async_settled}
use Rattle.ygg_eval.proofs.rows.settle.Goals as goal

pub returns-in-Sync : goal.returns-in-Sync
returns-in-Sync c = sync_settled c.args.kind c.args.tables.now c.in-Sync.is c.requires

pub returns-in_ok-tables-in-Async : goal.returns-in_ok-tables-in-Async
returns-in_ok-tables-in-Async c = async_settled c.args.kind c.args.tables.now c.in_ok-tables-in-Async.field-0 c.index-tables-0.result c.in-Async.is
    c.requires c.in_ok-tables-in-Async.ensures
