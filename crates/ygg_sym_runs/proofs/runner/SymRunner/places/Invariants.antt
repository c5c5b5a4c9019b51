use Rattle.ygg_sym_runs.specs.ygg_bank.Nodes.{Extends, IsBank}
use Rattle.ygg_sym_runs.specs.Seen.{env_of}
use Rattle.ygg_sym_runs.specs.Lower.{KeepsSingle}
use Rattle.ygg_sym_runs.specs.Ready.{terms_of}
use Rattle.ygg_sym_runs.specs.Runs.{plain_scope}
use Rattle.ygg_sym_runs.proofs.Several.{PlacesSoFar}
use Rattle.ygg_sym_runs.proofs.runner.SymRunner.places.Given as goal

-- what is made so far, and what the rest will make
abbrev pub invariant-loop-index : goal.invariant-loop-index
invariant-loop-index g l = record {
  went : PlacesSoFar (g.B.Book.kinds l.self.book.now) (terms_of (g.B.Book.kinds l.self.book.now) l.self.defs.now) (plain_scope (env_of l.names)) l.indices
      l.fn.bank l.index-index l.places.items l.bank;
  grows : Extends l.fn.bank l.bank;
  bank : IsBank l.bank;
  single : KeepsSingle l.fn.bank l.bank;
}
