use Rattle.std.proofs.Common.{drop, ◌+◌, ◌*◌}
use Rattle.ygg_sym_runs.specs.ygg_bank.Nodes.{Extends, IsBank}
use Rattle.ygg_sym_runs.specs.Seen.{env_of}
use Rattle.ygg_sym_runs.specs.Lower.{KeepsSingle}
use Rattle.ygg_sym_runs.specs.Ready.{CanRun, CanRepeat}
use Rattle.ygg_sym_runs.proofs.Going.{Order, Turns}
use Rattle.ygg_sym_runs.proofs.Sizes.{size, sizes, inside_size}
use Rattle.ygg_sym_runs.proofs.runner.SymRunner.+run.Given as goal

abbrev pub decreases-block : goal.decreases-block
decreases-block g l = 4 * inside_size l.b.now

abbrev pub decreases-statement : goal.decreases-statement
decreases-statement g l = 4 * size l.s.now + 2

abbrev pub decreases-statements : goal.decreases-statements
decreases-statements g l = 4 * sizes l.all.now + 3

abbrev pub decreases-turns : goal.decreases-turns
decreases-turns g l = 4 * inside_size l.each.now + 1

-- so far it has come, and the statements that are left may be run
abbrev pub invariant-statements-loop-s : goal.invariant-statements-loop-s
invariant-statements-loop-s g l =
    let r = l.fn.self in
    let M = g.W.SymLower.means r.machine.now in
    record {
      went : Order M r.defs.now (g.B.Book.kinds r.book.now) l.all l.fn.place (env_of l.initial.frame.names.items) l.initial.frame.state l.initial.bank
          l.s-index l.at (env_of l.frame.names.items) l.frame.state l.bank;
      can : CanRun M r.defs.now (drop l.s-index l.all) l.bank (env_of l.frame.names.items) l.frame.state;
      grows : Extends l.initial.bank l.bank;
      bank : IsBank l.bank;
      single : KeepsSingle l.initial.bank l.bank;
    }

-- so far it has come, and the block may be run for the numbers that are left
abbrev pub invariant-turns-loop-i : goal.invariant-turns-loop-i
invariant-turns-loop-i g l =
    let r = l.fn.self in
    let M = g.W.SymLower.means r.machine.now in
    record {
      went : Turns M r.defs.now (g.B.Book.kinds r.book.now) l.x l.w l.fn.n l.each l.fn.place (env_of l.initial.frame.names.items) l.initial.frame.state
          l.initial.bank l.i l.at (env_of l.frame.names.items) l.frame.state l.bank;
      can : CanRepeat M r.defs.now l.x l.w l.fn.n l.each l.bank (env_of l.frame.names.items) l.frame.state;
      grows : Extends l.initial.bank l.bank;
      bank : IsBank l.bank;
      single : KeepsSingle l.initial.bank l.bank;
    }
