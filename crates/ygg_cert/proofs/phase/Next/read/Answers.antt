use Rattle.std.proofs.lemmas.Result.{IfOk-weaker}
use Rattle.ygg_cert.proofs.Stood.{first_hears, opening_hears, last_hears, log_hears, log_reads}
use Rattle.ygg_cert.proofs.phase.Next.read.Goals as goal

pub returns-in-First-clause-heard : goal.returns-in-First-clause-heard
returns-in-First-clause-heard c goals place before was =
    first_hears goals place before _ c.args.self.now.phase c.args.self.now.line c.read.new.self c.args.self.now.log c.args.self.now.passed
    c.read.result c.in-First.is
    (λ l m. c.read.ensures l before m) was

pub returns-in-Opening-clause-heard : goal.returns-in-Opening-clause-heard
returns-in-Opening-clause-heard c goals place before was =
    opening_hears goals place before _ c.args.self.now.phase c.args.self.now.line c.read-in-Opening.new.self c.args.self.now.log c.args.self.now.passed
    c.read-in-Opening.result c.in-Opening.is (λ l m. c.read-in-Opening.ensures l before m) was

pub returns-in-Log-clause-heard : goal.returns-in-Log-clause-heard
returns-in-Log-clause-heard c goals place before was =
    IfOk-weaker c.read-in-Log.result _ _
    (λ h turns.
    log_hears goals place before _ c.args.self.now.phase c.args.self.now.line c.args.self.now.log c.read-in-Log.new.self
    c.args.self.now.passed h c.in-Log.is turns
    was)
    (c.read-in-Log.ensures before (log_reads goals place before c.args.self.now c.in-Log.is was))

pub returns-in-Last-clause-heard : goal.returns-in-Last-clause-heard
returns-in-Last-clause-heard c goals place before was =
    last_hears goals place before _ c.args.self.now.phase c.args.self.now.line c.read-in-Last.new.self c.args.self.now.log c.args.self.now.passed
    c.read-in-Last.result c.in-Last.is (λ l m. c.read-in-Last.ensures l before m) was
