use Rattle.std.proofs.Common.{◌≡◌, ◌++◌, drop, map}
use Rattle.ygg_print.specs.Plain.{plain_mark}
use Rattle.ygg_print.proofs.printer.Printer.tokens.Given as goal

-- those so far and those of what is left
abbrev pub invariant-loop-token : goal.invariant-loop-token
invariant-loop-token l = l.self-inside.marks ++ map plain_mark (drop l.token-index l.tokens) ≡ l.initial.self-inside.marks ++ map plain_mark l.tokens
