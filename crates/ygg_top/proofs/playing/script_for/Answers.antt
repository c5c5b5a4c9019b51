use Rattle.std.proofs.Common.{List, ℕ, sym, subst}
use Rattle.ygg_base.specs.Outside.{Rose}
use Rattle.ygg_top_command.specs.declared.stopping.CommandStop.{CommandStop}
use Rattle.ygg_top.specs.Playing.{IsNoScript}
use Rattle.ygg_top.proofs.Plays.{unread_script, no_script}
use Rattle.ygg_top.proofs.playing.script_for.Goals as goal

pub returns-in-Err-clause-none : goal.returns-in-Err-clause-none
returns-in-Err-clause-none g c =
    unread_script c.args.typed.now.file (g.L.Library.files c.args.library.now) c.args.name.now
    (Rose (g.L.Library.faults c.args.library.now) (g.L.Library.faults c.fetched.new.library)) c.in-Err.stop c.in-Err.ensures.unread
