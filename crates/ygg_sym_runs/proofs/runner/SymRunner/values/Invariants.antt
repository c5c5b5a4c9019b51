use Rattle.ygg_sym_runs.specs.ygg_bank.Nodes.{Extends, IsBank}
use Rattle.ygg_sym_runs.specs.Seen.{env_of}
use Rattle.ygg_sym_runs.specs.Lower.{KeepsSingle}
use Rattle.ygg_sym_runs.specs.Ready.{terms_of}
use Rattle.ygg_sym_runs.specs.Runs.{plain_scope}
use Rattle.ygg_sym_runs.proofs.Several.{SoFar}
use Rattle.ygg_sym_runs.proofs.runner.SymRunner.values.Given as goal

-- what is made so far, and what the rest will make
abbrev pub invariant-loop-e : goal.invariant-loop-e
invariant-loop-e g l = record {
  went : SoFar (g.B.Book.kinds l.self.book.now) (terms_of (g.B.Book.kinds l.self.book.now) l.self.defs.now) (plain_scope (env_of l.names)) l.es l.fn.bank
      l.e-index l.values l.bank;
  grows : Extends l.fn.bank l.bank;
  bank : IsBank l.bank;
  single : KeepsSingle l.fn.bank l.bank;
}
