use Rattle.std.proofs.Common.{◌≡◌, length, false}
use Rattle.ygg_script.specs.Reading.{pieces_of, commands_at}
use Rattle.ygg_script.proofs.Onward.{with_commands}
use Rattle.ygg_script.proofs.reading.command_lines.Given as goal

-- the commands so far, and then those of the lines that are left
abbrev pub invariant-loop-script : goal.invariant-loop-script
invariant-loop-script l =
    with_commands l.script (commands_at l.typed.file l.stoppable l.rest.line (pieces_of l.rest.bytes.now))
    ≡ commands_at l.typed.file false l.at.line (pieces_of l.at.bytes.now)

abbrev pub decreases-loop-script : goal.decreases-loop-script
decreases-loop-script l = length l.rest.bytes.now
