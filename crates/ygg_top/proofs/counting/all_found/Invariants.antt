use Rattle.std.proofs.Common.{◌≡◌, length}
use Rattle.ygg_oblige_reading.specs.Obligations.{terms_in}
use Rattle.ygg_top.specs.Findings.{AreFound}
use Rattle.ygg_top.specs.ygg_top_command.Words.{usual_budget}
use Rattle.ygg_top.proofs.counting.all_found.Given as goal

abbrev pub invariant-loop-o : goal.invariant-loop-o
invariant-loop-o g l = record {
  each : length l.verdicts ≡ l.o-index;
  same : l.bank ≡ l.initial.bank;
  found : AreFound l.initial.bank usual_budget (terms_in l.all) l.verdicts;
}
