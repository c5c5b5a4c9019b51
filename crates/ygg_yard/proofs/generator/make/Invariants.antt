use Rattle.std.proofs.Common.{◌≡◌, ◌++◌}
use Rattle.std.specs.Fmt.{decimal}
use Rattle.ygg_yard.specs.Texts.{begun_with, operations_text}
use Rattle.ygg_yard.proofs.generator.make.Given as goal

abbrev pub invariant-loop-number : goal.invariant-loop-number
invariant-loop-number l = l.text ≡ begun_with (decimal l.n) ++ operations_text l.number
