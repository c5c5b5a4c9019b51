use Rattle.std.proofs.Common.{List, ℕ, [], ◌++◌, Err, ap, subst, ◌∙◌}
use Rattle.std.specs.List.{flat_map}
use Rattle.ygg_base.specs.Outside.{Rose}
use Rattle.ygg_cert.specs.Texts.{first_line, last_line}
use Rattle.ygg_cnf.specs.Pieces.{Finishes}
use Rattle.ygg_cnf.proofs.Flowing.{text_done, text_short, rose_since}
use Rattle.ygg_certify.specs.Findings.{lines_of}
use Rattle.ygg_certify.proofs.Certificate.{lines_same}
use Rattle.ygg_certify.proofs.putting.pass_certificate.Goals as goal

pub returns-in-Ok-pass_findings-clause-told : goal.returns-in-Ok-pass_findings-clause-told
returns-in-Ok-pass_findings-clause-told g c =
    subst
    (λ (x : List ℕ). Finishes (g.K.Sink.taken c.args.sink.now) [] (g.K.Sink.taken c.finish.new.sink) (first_line ++ (x ++ last_line))
    (Rose (g.K.Sink.faults c.args.sink.now) (g.K.Sink.faults c.finish.new.sink)) c.finish.result)
    (lines_same c.args.findings.now)
    (text_done (g.K.Sink.taken c.args.sink.now) (g.K.Sink.taken c.pass_findings.new.sink) (g.K.Sink.taken c.finish.new.sink) c.put_first.new.out first_line
    c.pass_findings.new.kept (flat_map lines_of c.args.findings.now) last_line
    (Rose (g.K.Sink.faults c.pass_findings.new.sink) (g.K.Sink.faults c.finish.new.sink))
    (Rose (g.K.Sink.faults c.args.sink.now) (g.K.Sink.faults c.finish.new.sink)) c.finish.result
    (c.in-Ok.ensures ∙ ap (λ (x : List ℕ). x ++ first_line) c.new-kept.ensures) c.in-Ok-pass_findings.ensures.told c.finish.ensures.told
    (rose_since (g.K.Sink.faults c.args.sink.now) (g.K.Sink.faults c.pass_findings.new.sink) (g.K.Sink.faults c.finish.new.sink)
    c.pass_findings.ensures.later))

pub returns-clause-told : goal.returns-clause-told
returns-clause-told g c =
    subst
    (λ (x : List ℕ). Finishes (g.K.Sink.taken c.args.sink.now) [] (g.K.Sink.taken c.pass_findings.new.sink) (first_line ++ (x ++ last_line))
    (Rose (g.K.Sink.faults c.args.sink.now) (g.K.Sink.faults c.pass_findings.new.sink)) (Err c.in-Err.status))
    (lines_same c.args.findings.now)
    (text_short (g.K.Sink.taken c.args.sink.now) (g.K.Sink.taken c.pass_findings.new.sink) c.put_first.new.out first_line c.pass_findings.new.kept
    (flat_map lines_of c.args.findings.now) last_line (Rose (g.K.Sink.faults c.args.sink.now) (g.K.Sink.faults c.pass_findings.new.sink)) c.in-Err.status
    (c.in-Ok.ensures ∙ ap (λ (x : List ℕ). x ++ first_line) c.new-kept.ensures) c.in-Err.ensures.told)
