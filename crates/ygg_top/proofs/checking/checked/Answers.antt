use Rattle.std.proofs.Common.{inl, refl}
use Rattle.ygg_base.specs.Outside.{Rose}
use Rattle.ygg_top.proofs.of_ygg_top_command.Stops.{file_stop}
use Rattle.ygg_top.specs.Checking.{ChecksFor}
use Rattle.ygg_top.proofs.Checked.{does_named, stops_named}
use Rattle.ygg_top.proofs.checking.checked.Goals as goal

pub returns-in-Err-clause-stops : goal.returns-in-Err-clause-stops
returns-in-Err-clause-stops g c =
    file_stop (g.L.Library.files c.args.library.now) c.args.file.now
    (Rose (g.L.Library.faults c.args.library.now) (g.L.Library.faults c.layer_file.new.library))
    (ChecksFor (g.B.Book.kinds c.args.rules.now) (g.L.Library.files c.args.library.now) c.args.certificate.now) c.in-Err.stop
    (λ stored r refuses. inl (r, refuses, (refl, refl))) c.in-Err.ensures.none

pub returns-clause-done : goal.returns-clause-done
returns-clause-done g c =
    does_named (g.B.Book.kinds c.args.rules.now) (g.L.Library.files c.args.library.now) c.args.file.now c.args.certificate.now
    (g.L.Library.files c.layer_file.new.library) c.in-Ok.typed.file c.checked_stored-judged.result c.layer_file.ensures.kept c.in-Ok.ensures.found
    c.checked_stored-judged.ensures.done

pub returns-clause-stops : goal.returns-clause-stops
returns-clause-stops g c =
    stops_named (g.B.Book.kinds c.args.rules.now) (g.L.Library.files c.args.library.now) c.args.file.now c.args.certificate.now
    (g.L.Library.files c.layer_file.new.library) c.in-Ok.typed.file (g.L.Library.faults c.args.library.now) (g.L.Library.faults c.layer_file.new.library)
    (g.L.Library.faults c.checked_stored-judged.new.library) c.checked_stored-judged.result c.layer_file.ensures.kept c.layer_file.ensures.later
    c.in-Ok.ensures.found c.checked_stored-judged.ensures.stops
