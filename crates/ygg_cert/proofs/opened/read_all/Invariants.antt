use Rattle.std.proofs.Common.{◌≡◌, ◌≤◌, ◌<◌, Option, length}
use Rattle.ygg_base.specs.Outside.{IsOpen, Reading}
use Rattle.ygg_cert.specs.Opened.{IsReadTo}
use Rattle.ygg_cert.proofs.Giving.{room_of}
use Rattle.ygg_cert.proofs.opened.read_all.Given as goal

-- all that the file gave so far is read
abbrev pub invariant-loop-reading : goal.invariant-loop-reading
invariant-loop-reading g l = record {
  is_open : IsOpen (g.L.Library.reading l.library);
  place : 0 < length l.buffer;
  read : (file : Option Reading) → IsReadTo (g.G.Goals.wanted l.goals) file (g.L.Library.reading l.initial.library) l.initial.reading
      → IsReadTo (g.G.Goals.wanted l.goals) file (g.L.Library.reading l.library) l.reading;
  kept : g.L.Library.files l.library ≡ g.L.Library.files l.initial.library;
  later : g.L.Library.faults l.initial.library ≤ g.L.Library.faults l.library;
}

abbrev pub decreases-loop-reading : goal.decreases-loop-reading
decreases-loop-reading g l = room_of (g.L.Library.reading l.library)
