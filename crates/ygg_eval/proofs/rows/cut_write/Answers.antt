use Rattle.std.proofs.Common.{◌∙◌, sym, ap, if◌then◌else◌, slice_set}
use Rattle.ygg_eval.proofs.Stepping.{first_writable, second_writable, sync_cut, sync_spared, async_cut, never}
use Rattle.ygg_eval.proofs.rows.cut_write.Goals as goal
use Rattle.ygg_eval.proofs.rows.cut_write.Goals.{then-kept-2, else-kept-2}

pub put-requires : goal.put-requires
put-requires c = first_writable c.args.kind c.args.tables.now c.args.at.now c.args.row.now c.index-tables-0.result c.requires

pub put-requires-then-kept-2 : goal.put-requires-then-kept-2
put-requires-then-kept-2 c = second_writable c.args.kind c.args.tables.now c.args.at.now c.args.row.now c.index-tables-1.result c.in-Async.is c.requires

pub returns-then-kept : goal.returns-then-kept
returns-then-kept c =
    sync_cut c.peek-kept.result c.args.kind c.args.tables.now c.args.at.now c.args.row.now c.index-tables-0.result c.put.new.table c.args.power.now
    c.take.new.self
    c.if-kept.true c.in-Sync.is c.requires c.peek-kept.ensures c.take.ensures c.put.ensures

pub returns-else-kept : goal.returns-else-kept
returns-else-kept c =
    sync_spared c.peek-kept.result c.args.kind c.args.tables.now c.args.at.now c.args.row.now c.args.power.now c.take.new.self
    c.if-kept.false c.in-Sync.is c.requires c.peek-kept.ensures c.take.ensures

pub returns-in_ok-tables-in-Async : goal.returns-in_ok-tables-in-Async
returns-in_ok-tables-in-Async c =
    let kept = c.peek-kept.result in
    let tables = c.args.tables.now in
    let d = c.index-tables-1-in-Async.result in
    let copy = c.in_ok-tables-in-Async.field-0 in
    elim c.if-kept-2.branch [
      | then-kept-2 w ↦
          let new = w.put-then-kept-2.new.table in
          async_cut kept c.args.kind tables c.if-kept-2.tables c.args.at.now c.args.row.now w.index-tables-1.result d new copy c.args.power.now c.take.new.self
          c.in-Async.is c.requires c.peek-kept.ensures c.take.ensures (λ _. w.put-then-kept-2.ensures)
          (w.tables-is ∙ ap (λ b. if b then slice_set tables 1 new else tables) (sym w.if-kept-2.true)) c.in_ok-tables-in-Async.ensures
      | else-kept-2 w ↦
          async_cut kept c.args.kind tables c.if-kept-2.tables c.args.at.now c.args.row.now d d copy copy c.args.power.now c.take.new.self
          c.in-Async.is c.requires c.peek-kept.ensures c.take.ensures (λ e. never kept e w.if-kept-2.false)
          (w.tables-is ∙ ap (λ b. if b then slice_set tables 1 copy else tables) (sym w.if-kept-2.false)) c.in_ok-tables-in-Async.ensures
    ]
