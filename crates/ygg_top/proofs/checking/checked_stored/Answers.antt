use Rattle.std.proofs.Common.{inl, refl}
use Rattle.ygg_base.specs.Outside.{Rose}
use Rattle.ygg_top.proofs.of_ygg_top_command.Stops.{unread_stop}
use Rattle.ygg_top.specs.Checking.{ChecksStored, most_certificate_bytes}
use Rattle.ygg_top.proofs.Checked.{named_open, opened_certificate}
use Rattle.ygg_top.proofs.checking.checked_stored.Goals as goal

pub returns-in-Err-clause-stops : goal.returns-in-Err-clause-stops
returns-in-Err-clause-stops g c =
    unread_stop (g.L.Library.files c.args.library.now) c.args.name.now
    (Rose (g.L.Library.faults c.args.library.now) (g.L.Library.faults c.opened.new.library))
    (ChecksStored (g.B.Book.kinds c.args.rules.now) c.args.typed.now.file) most_certificate_bytes 2 c.in-Err.stop
    (λ stored r refuses. inl (r, refuses, (refl, refl))) c.in-Err.ensures.unread

pub check-requires : goal.check-requires
check-requires g c =
    named_open most_certificate_bytes (g.L.Library.files c.args.library.now) c.args.name.now (g.L.Library.reading c.opened.new.library) c.in-Ok.ensures.opens

pub returns-in-Ok-check-clause-done : goal.returns-in-Ok-check-clause-done
returns-in-Ok-check-clause-done g c =
    opened_certificate (g.B.Book.kinds c.args.rules.now) (g.L.Library.files c.args.library.now) c.args.typed.now.file c.args.name.now
    (g.L.Library.reading c.opened.new.library) c.in-Ok-check.end.0 c.in-Ok-check.end.1 c.in-Ok.ensures.opens c.in-Ok-check.ensures.said
