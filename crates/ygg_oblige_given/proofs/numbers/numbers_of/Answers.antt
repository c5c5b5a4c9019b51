use Rattle.std.proofs.Common.{◌≡◌, ◌<◌, ◌+◌, ◌-◌, ◌∙◌, List, ◌∷◌, length, drop, sym, ap, arith}
use Rattle.std.proofs.Math.ListN.{drop_of_length-le}
use Rattle.ygg_oblige_laws.proofs.of_ygg_sym_runs.Going.{rest_is}
use Rattle.ygg_oblige_laws.specs.ygg_bank.Values.{inputs_of}
use Rattle.ygg_oblige_laws.specs.ygg_bank.declared.env.Given.{Given}
use Rattle.ygg_oblige_given.specs.Ones.{number_at}
use Rattle.ygg_oblige_given.proofs.Filling.{one_more}
use Rattle.ygg_oblige_given.proofs.numbers.numbers_of.Goals as goal

pub loop-i-init : goal.loop-i-init
loop-i-init c =
    let all = c.as_slice-all.result.now in
    λ n. ap (λ xs. number_at xs n) c.new-numbers.ensures.items ∙ ap (λ (xs : List Given). inputs_of xs n) (sym (drop_of_length-le all (omega arith)))

pub loop-i-preserved : goal.loop-i-preserved
loop-i-preserved c =
    let all = c.as_slice-all.result.now in
    let i = c.loop-i.i in
    let x = c.index-all-i.result in
    let within : i - 1 < length all = omega (arith, c.loop-i-test.true, c.loop-i.auto.i) in
    let back : i - 1 + 1 ≡ i = omega (arith, c.loop-i-test.true) in
    let is : drop (i - 1) all ≡ x ∷ drop i all = rest_is all (i - 1) x x within c.index-all-i.is ∙ ap (λ k. x ∷ drop k all) back in
    λ n. one_more x (drop i all) (number_at c.loop-i.numbers.items) (number_at c.put_given.new.numbers.items) c.loop-i.invariant c.in_ok-put_given.ensures n
    ∙ ap (λ (xs : List Given). inputs_of xs n) (sym is)

pub returns : goal.returns
returns c =
    let all = c.as_slice-all.result.now in
    let none : c.loop-i.i ≡ 0 = omega (arith, c.loop-i-test.false) in
    λ n. c.loop-i.invariant n ∙ ap (λ k. inputs_of (drop k all) n) none ∙ ap (λ (xs : List Given). inputs_of xs n) c.as_slice-all.ensures
