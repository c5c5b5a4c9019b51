use Rattle.ygg_top.specs.Findings.{first_failed}
use Rattle.ygg_top.proofs.Reporting.{kept_there, kept_fits, put_end, no_end}
use Rattle.ygg_top.proofs.verdict.report_file.Goals as goal

pub last_lines-requires-clause-there : goal.last_lines-requires-clause-there
last_lines-requires-clause-there g c =
    let r = c.in-Ok.ensures.reported in kept_there c.args.bank.now c.args.all.now (first_failed r.found) c.in-Ok.summary.refuted r.failed

pub last_lines-requires-clause-fit : goal.last_lines-requires-clause-fit
last_lines-requires-clause-fit g c =
    let r = c.in-Ok.ensures.reported in
    kept_fits (g.B.Book.kinds c.args.rules.now) c.args.typed.now.file c.args.bank.now c.args.all.now (first_failed r.found) c.in-Ok.summary.refuted r.failed
    c.requires.made.bank c.requires.made.nodes_are

pub returns-in-Ok-last_lines-clause-told : goal.returns-in-Ok-last_lines-clause-told
returns-in-Ok-last_lines-clause-told g c =
    put_end (g.B.Book.kinds c.args.rules.now) c.args.typed.now.file c.args.bank.now c.args.budget c.args.all.now (g.K.Sink.taken c.args.sink.now)
    (g.K.Sink.taken c.report_all.new.sink) (g.K.Sink.taken c.put_all.new.sink) c.in-Ok.summary c.in-Ok-last_lines.status c.in-Ok-last_lines.text
    c.as_slice.result.now (g.K.Sink.faults c.args.sink.now) (g.K.Sink.faults c.report_all.new.sink) (g.K.Sink.faults c.put_all.new.sink) c.put_all.result
    c.in-Ok.ensures.reported c.in-Ok-last_lines.ensures c.as_slice.ensures c.report_all.ensures.later c.put_all.ensures.told

pub returns-clause-told : goal.returns-clause-told
returns-clause-told g c =
    no_end (g.B.Book.kinds c.args.rules.now) c.args.typed.now.file c.args.bank.now c.args.budget c.args.all.now (g.K.Sink.taken c.args.sink.now)
    (g.K.Sink.taken c.report_all.new.sink) c.in-Ok.summary _ c.in-Ok.ensures.reported
