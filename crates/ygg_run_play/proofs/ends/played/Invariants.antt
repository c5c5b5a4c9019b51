use Rattle.std.proofs.Common.{◌≡◌, ◌≤◌, take}
use Rattle.std.specs.List.{count_by}
use Rattle.ygg_run_play.specs.Lines.{is_played}
use Rattle.ygg_run_play.proofs.ends.played.Given as goal

abbrev pub invariant-loop-command : goal.invariant-loop-command
invariant-loop-command l = record {
  count : l.count ≡ count_by is_played (take l.command-index l.script);
  most : l.count ≤ l.command-index;
}
