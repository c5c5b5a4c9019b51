use Rattle.std.proofs.Common.{◌≡◌, ◌+◌, drop, map}
use Rattle.ygg_meaning_laws.specs.Direct.{total}
use Rattle.ygg_sym_runs.proofs.Rooms.{places}
use Rattle.ygg_sym_runs.proofs.unrolled.+room.Given as goal

-- the places so far, and those of the rest
abbrev pub invariant-rooms-loop-s : goal.invariant-rooms-loop-s
invariant-rooms-loop-s g l =
    let space = (g.W.SymLower.means l.machine).space in
    l.sum + total (map (places space) (drop l.s-index l.all)) ≡ total (map (places space) l.all)
