use Rattle.std.proofs.Common.{◌∙◌, sym}
use Rattle.ygg_syntax.proofs.Tables.{noted_now}
use Rattle.ygg_syntax.proofs.table.note.Goals as goal

pub returns-clause-noted : goal.returns-clause-noted
returns-clause-noted c = noted_now c.args.known.now c.args.name.now c.insert.new.self c.args.weight
    (sym c.contains_key.ensures ∙ c.if-contains_key.false) c.in_ok-insert.ensures.updates.0
