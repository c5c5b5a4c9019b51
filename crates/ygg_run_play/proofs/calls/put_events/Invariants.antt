use Rattle.std.proofs.Common.{◌≡◌, ◌++◌, drop}
use Rattle.ygg_run_play.proofs.Shown.{shown_lines}
use Rattle.ygg_run_play.proofs.calls.put_events.Given as goal

-- what is written so far, and then the lines of what is left
abbrev pub invariant-loop-event : goal.invariant-loop-event
invariant-loop-event l = l.out ++ shown_lines (drop l.event-index l.events) ≡ l.initial.out ++ shown_lines l.events
