use Rattle.std.proofs.Common.{List, ℕ, ◌++◌, Err, ap, subst, ◌∙◌}
use Rattle.ygg_base.specs.Outside.{Rose}
use Rattle.ygg_base.specs.declared.status.Status.TheVariants.{NoMemory}
use Rattle.ygg_cert.specs.ygg_cnf.declared.log.Step.{Step}
use Rattle.ygg_cert.specs.Texts.{opening_line, closing_line}
use Rattle.ygg_cnf.specs.Pieces.{Passes, Flows, log_lines}
use Rattle.ygg_cnf.proofs.Flowing.{cut_here, rose_since}
use Rattle.ygg_certify.proofs.Certificate.{lines_passed, lines_short, lines_lost}
use Rattle.ygg_certify.proofs.putting.pass_finding.Goals as goal

pub returns-in-Err-clause-told : goal.returns-in-Err-clause-told
returns-in-Err-clause-told g c =
    lines_short (g.K.Sink.taken c.args.sink.now) (g.K.Sink.taken c.pass_log.new.sink) c.args.kept.now c.put_opening.new.out c.pass_log.new.kept
    c.args.finding.now (Rose (g.K.Sink.faults c.args.sink.now) (g.K.Sink.faults c.pass_log.new.sink)) c.in-Err.status
    (c.in-Ok.ensures ∙ ap (λ (n : List ℕ). c.args.kept.now ++ opening_line n c.args.finding.now.clauses) c.as_slice.ensures)
    (subst
    (λ (l : List Step). Passes (g.K.Sink.taken c.args.sink.now) c.put_opening.new.out (g.K.Sink.taken c.pass_log.new.sink) c.pass_log.new.kept (log_lines l)
    (Rose (g.K.Sink.faults c.args.sink.now) (g.K.Sink.faults c.pass_log.new.sink)) (Err c.in-Err.status))
    c.steps.ensures c.in-Err.ensures.told)

pub returns-in_default-put_closing-clause-told : goal.returns-in_default-put_closing-clause-told
returns-in_default-put_closing-clause-told g c =
    lines_lost (g.K.Sink.taken c.args.sink.now) (g.K.Sink.taken c.pass_log.new.sink) c.args.kept.now c.put_opening.new.out c.pass_log.new.kept
    c.pass_log.new.kept c.args.finding.now (Rose (g.K.Sink.faults c.args.sink.now) (g.K.Sink.faults c.pass_log.new.sink)) NoMemory
    (c.in-Ok.ensures ∙ ap (λ (n : List ℕ). c.args.kept.now ++ opening_line n c.args.finding.now.clauses) c.as_slice.ensures)
    (subst
    (λ (l : List Step). Flows (g.K.Sink.taken c.args.sink.now) c.put_opening.new.out (g.K.Sink.taken c.pass_log.new.sink) c.pass_log.new.kept (log_lines l))
    c.steps.ensures c.in-Ok-pass_log.ensures.told)
    (cut_here (g.K.Sink.taken c.pass_log.new.sink) c.pass_log.new.kept closing_line)

pub returns-clause-told : goal.returns-clause-told
returns-clause-told g c =
    lines_passed (g.K.Sink.taken c.args.sink.now) (g.K.Sink.taken c.pass_log.new.sink) (g.K.Sink.taken c.pass.new.sink) c.args.kept.now
    c.put_opening.new.out c.pass_log.new.kept c.put_closing.new.out c.pass.new.kept c.args.finding.now
    (Rose (g.K.Sink.faults c.pass_log.new.sink) (g.K.Sink.faults c.pass.new.sink)) (Rose (g.K.Sink.faults c.args.sink.now) (g.K.Sink.faults c.pass.new.sink))
    c.pass.result (c.in-Ok.ensures ∙ ap (λ (n : List ℕ). c.args.kept.now ++ opening_line n c.args.finding.now.clauses) c.as_slice.ensures)
    (subst
    (λ (l : List Step). Flows (g.K.Sink.taken c.args.sink.now) c.put_opening.new.out (g.K.Sink.taken c.pass_log.new.sink) c.pass_log.new.kept (log_lines l))
    c.steps.ensures c.in-Ok-pass_log.ensures.told)
    c.in-Ok-put_closing.ensures c.pass.ensures.told
    (rose_since (g.K.Sink.faults c.args.sink.now) (g.K.Sink.faults c.pass_log.new.sink) (g.K.Sink.faults c.pass.new.sink) c.pass_log.ensures.later)
