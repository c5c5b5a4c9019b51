use Rattle.ygg_sym_runs.specs.ygg_bank.Nodes.{Extends, IsBank}
use Rattle.ygg_sym_runs.proofs.of_ygg_shape.Steps.{EachTwo}
use Rattle.ygg_sym_runs.specs.Seen.{env_of}
use Rattle.ygg_sym_runs.specs.Ready.{joined_name}
use Rattle.ygg_sym_runs.proofs.names.join_names.Given as goal

-- what was merged so far and what the rest will make
abbrev pub invariant-loop-place : goal.invariant-loop-place
invariant-loop-place g l = record {
  went : EachTwo (joined_name (g.B.Book.kinds l.book) l.test) (env_of l.yes) (env_of l.no) l.fn.bank l.place (env_of l.names.items) l.bank;
  grows : Extends l.fn.bank l.bank;
  bank : IsBank l.bank;
}
