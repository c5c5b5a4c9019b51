use Rattle.std.proofs.Common.{◌≡◌, ◌+◌, drop, map}
use Rattle.ygg_sym_spec.specs.ygg_meaning_laws.Direct.{total}
use Rattle.ygg_sym_machine.specs.ygg_sym_runs.SpecCuts.{fall_places, fall_room}
use Rattle.ygg_sym.specs.Layers.{closed}
use Rattle.ygg_sym.proofs.rooms.failures.Given as goal

-- the picks so far, and those of the rest
abbrev pub invariant-loop-operation : goal.invariant-loop-operation
invariant-loop-operation l =
    l.count + total (map (fall_places (closed l.layer)) (drop l.operation-index l.operations)) ≡ fall_room (closed l.layer)
