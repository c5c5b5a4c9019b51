use Rattle.std.proofs.Common.{rules, ◌≡◌, ◌∙◌, ◌+◌, ◌-◌, ◌<◌, ◌++◌, ◌∷◌, [], length, take, sym, ap, arith, Bor, List, ℕ, Option, Some, None}
use Rattle.std.specs.Option.{option_copied}
use Rattle.std.specs.Prelude.{slice_set}
use Rattle.std.proofs.lemmas.List.{take_more_set}
use Rattle.ygg_value.specs.Number.{Digits}
use Rattle.ygg_sched.specs.Words.{cut_at, parts}
use Rattle.ygg_sched.specs.Numbers.{number_in}
use Rattle.ygg_sched.specs.Values.{exactly, row_in}
use Rattle.ygg_sched.proofs.Cutting.{pieces_of}
use Rattle.ygg_sched.proofs.Pieces.{with_front, goes_on, stops, too_many_left}
use Rattle.ygg_sched.proofs.value_reading.row_of.Goals as goal

pub returns-in-None-clause-numbers : goal.returns-in-None-clause-numbers
returns-in-None-clause-numbers c =
    let m : List ℕ = c.in-Some.more.now in
    let front : List ℕ = take c.loop-at.at c.loop-at.row.words in
    let so_far : with_front front (exactly (number_in c.args.width) (c.args.words - c.loop-at.at) (parts 44 m))
    ≡ row_in c.args.width c.args.words c.args.bytes.now =
    ap (λ (left : Option (Bor (List ℕ))).
    with_front front (exactly (number_in c.args.width) (c.args.words - c.loop-at.at) (pieces_of 44 (option_copied left))))
    (sym c.in-Some.is) ∙ c.loop-at.invariant.0 in
    let none : number_in c.args.width (cut_at 44 m).0 ≡ None =
    ap (λ (x : List ℕ × Option (List ℕ)). number_in c.args.width x.0) c.cut.ensures.cut ∙ sym c.in-None.ensures.number in
    sym (stops (number_in c.args.width) 44 front c.args.words c.loop-at.at m c.loop-at-test.true none) ∙ so_far

pub loop-at-preserved : goal.loop-at-preserved
loop-at-preserved c =
    let m : List ℕ = c.in-Some.more.now in
    let n : ℕ = c.in-Some-word_in.word.bits in
    let front : List ℕ = take c.loop-at.at c.loop-at.row.words in
    let within : c.loop-at.at < length c.loop-at.row.words = omega (arith, c.loop-at.invariant.2, c.loop-at-test.true) in
    let so_far : with_front front (exactly (number_in c.args.width) (c.args.words - c.loop-at.at) (parts 44 m))
    ≡ row_in c.args.width c.args.words c.args.bytes.now =
    ap (λ (left : Option (Bor (List ℕ))).
    with_front front (exactly (number_in c.args.width) (c.args.words - c.loop-at.at) (pieces_of 44 (option_copied left))))
    (sym c.in-Some.is) ∙ c.loop-at.invariant.0 in
    let some : number_in c.args.width (cut_at 44 m).0 ≡ Some n =
    ap (λ (x : List ℕ × Option (List ℕ)). number_in c.args.width x.0) c.cut.ensures.cut ∙ sym c.in-Some-word_in.ensures.number in
    let written : c.row_write.new.row.words ≡ slice_set c.loop-at.row.words c.place.result.bits n = ap (λ (r : Digits). r.words) c.row_write.ensures.value in
    let place : c.place.result.bits ≡ c.loop-at.at = search (rules, c.place.ensures.bits, c.from.ensures) in
    let grown : take (c.loop-at.at + 1) c.row_write.new.row.words ≡ front ++ n ∷ [] =
    ap (take (c.loop-at.at + 1)) (written ∙ ap (λ (k : ℕ). slice_set c.loop-at.row.words k n) place)
    ∙ take_more_set c.loop-at.row.words c.loop-at.at n within in
    let on = goes_on (number_in c.args.width) 44 front c.args.words c.loop-at.at m n c.loop-at-test.true some in
    let left : (cut_at 44 m).1 ≡ option_copied c.cut.result.1 = ap (λ (x : List ℕ × Option (List ℕ)). x.1) c.cut.ensures.cut in (
      ap (λ (xs : List ℕ).
          with_front xs (exactly (number_in c.args.width) (c.args.words - (c.loop-at.at + 1)) (pieces_of 44 (option_copied c.cut.result.1)))) grown
          ∙ ap (λ (o : Option (List ℕ)).
          with_front (front ++ n ∷ []) (exactly (number_in c.args.width) (c.args.words - (c.loop-at.at + 1)) (pieces_of 44 o))) (sym left)
          ∙ on ∙ so_far,
      ap (λ (r : Digits). r.width) c.row_write.ensures.value ∙ c.loop-at.invariant.1,
      c.row_write.ensures.words ∙ c.loop-at.invariant.2,
    )

pub returns-then-is_some-clause-numbers : goal.returns-then-is_some-clause-numbers
returns-then-is_some-clause-numbers c =
    sym (too_many_left (number_in c.args.width) 44 (take c.loop-at.at c.loop-at.row.words) c.args.words c.loop-at.at c.loop-at.left
    (sym c.is_some.ensures ∙ c.if-is_some.true) c.loop-at-test.false)
    ∙ c.loop-at.invariant.0
