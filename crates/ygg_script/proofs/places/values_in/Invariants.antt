use Rattle.std.proofs.Common.{◌≡◌, drop}
use Rattle.std.specs.Option.{option_copied}
use Rattle.ygg_sched.proofs.Pieces.{with_front}
use Rattle.ygg_script.specs.Left.{pieces_left}
use Rattle.ygg_script.specs.Places.{values_in}
use Rattle.ygg_script.proofs.places.values_in.Given as goal

-- the values so far, and then those of the words that are left
abbrev pub invariant-loop-variable : goal.invariant-loop-variable
invariant-loop-variable l =
    with_front l.values (values_in (drop l.variable-index l.declared) (pieces_left 32 (option_copied l.left)))
    ≡ values_in l.declared (pieces_left 32 (option_copied l.words))
