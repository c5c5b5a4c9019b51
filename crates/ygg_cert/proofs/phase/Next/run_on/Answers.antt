use Rattle.std.proofs.Common.{List, ℕ, sym, subst}
use Rattle.std.proofs.lemmas.List.{append-nil}
use Rattle.std.proofs.lemmas.Result.{IfOk-weaker}
use Rattle.ygg_cert.specs.Standing.{IsAt}
use Rattle.ygg_cert.specs.declared.verdict.Heard.TheVariants as heard
use Rattle.ygg_cert.proofs.Stood.{log_hears, log_reads}
use Rattle.ygg_cert.proofs.phase.Next.run_on.Goals as goal

pub returns-in-Log-clause-at : goal.returns-in-Log-clause-at
returns-in-Log-clause-at c goals place before was =
    IfOk-weaker c.run_on.result _ _
    (λ count turns.
    log_hears goals place before _ c.args.self.now.phase c.args.self.now.line c.args.self.now.log c.run_on.new.self c.args.self.now.passed heard.More
    c.in-Log.is turns was)
    (c.run_on.ensures.turns before (log_reads goals place before c.args.self.now c.in-Log.is was))

pub returns-in-Log-clause-ended : goal.returns-in-Log-clause-ended
returns-in-Log-clause-ended c ended = let never = rw c.in-Log.is at ended in absurd never

pub returns-in_default-clause-at : goal.returns-in_default-clause-at
returns-in_default-clause-at c goals place before was = subst (λ (x : List ℕ). IsAt goals place x c.args.self.now) (sym (append-nil before)) was
