use Rattle.ygg_cert.proofs.reader.CertReader.finish.Goals as goal

pub returns-clause-judged : goal.returns-clause-judged
returns-clause-judged c text was = c.finish.ensures.judged c.args.self.wanted text was
