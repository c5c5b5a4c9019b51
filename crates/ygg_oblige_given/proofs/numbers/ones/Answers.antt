use Rattle.std.proofs.Common.{◌∙◌, List, ℕ, map, ap}
use Rattle.std.proofs.lemmas.List.{take_all}
use Rattle.ygg_oblige_given.specs.Ones.{is_one}
use Rattle.ygg_oblige_given.proofs.numbers.ones.Goals as goal

pub returns : goal.returns
returns c =
    c.loop-number.invariant ∙ ap (λ (xs : List ℕ). map is_one xs) (take_all c.loop-number.number-index c.args.numbers.now c.loop-number-test.false)
