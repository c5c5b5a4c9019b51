use Rattle.std.proofs.Common.{◌≡◌, ◌∙◌, ◌+◌, ◌<◌, ◌≤◌, ◌^◌, ℕ, List, length, sym, ap, subst, arith}
use Rattle.std.specs.Prelude.{slice_set}
use Rattle.std.proofs.lemmas.List.{take_all}
use Rattle.ygg_value.specs.Number.{Digits}
use Rattle.ygg_oblige_laws.specs.ygg_shape.Fresh.{numbers_from}
use Rattle.ygg_oblige_given.specs.Tables.{inputs_in}
use Rattle.ygg_oblige_given.proofs.Runs.{row_goes, word_fits}
use Rattle.ygg_oblige_given.proofs.table.InputTable.row.Goals as goal

pub invariant_of-word : goal.invariant_of-word
invariant_of-word c =
    let inputs = inputs_in c.args.self.now in
    let is : c.number.result ≡ inputs (c.args.number + c.loop-at.at) =
    c.number.ensures ∙ ap inputs (c.in_ok-input.ensures ∙ ap (λ k. c.args.number + k) c.from.ensures) in
    record {
      least = c.requires.shape.1.0;
      most = c.requires.shape.1.1;
      fits = subst (λ n. n < 2 ^ c.args.width) (sym is)
          (word_fits inputs c.args.width c.args.number c.args.words c.loop-at.at c.requires.fits c.loop-at-test.true);
    }

pub loop-at-preserved : goal.loop-at-preserved
loop-at-preserved c =
    let inputs = inputs_in c.args.self.now in
    let at = c.loop-at.at in
    let old : List ℕ = c.loop-at.row.words in
    let is : c.number.result ≡ inputs (c.args.number + at) =
    c.number.ensures ∙ ap inputs (c.in_ok-input.ensures ∙ ap (λ k. c.args.number + k) c.from.ensures) in
    let within : at < length old = omega (arith, c.loop-at.invariant.2, c.loop-at-test.true) in
    let written : c.row_write.new.row.words ≡ slice_set old c.place.result.bits c.number.result = ap (λ (r : Digits). r.words) c.row_write.ensures.value in
    let place : c.place.result.bits ≡ at = c.place.ensures.bits ∙ c.from-in-loop-at.ensures in (
      row_goes inputs old c.row_write.new.row.words c.args.number at c.number.result within c.loop-at.invariant.0
          (written ∙ ap (λ k. slice_set old k c.number.result) place) is,
      ap (λ (r : Digits). r.width) c.row_write.ensures.value ∙ c.loop-at.invariant.1,
      c.row_write.ensures.words ∙ c.loop-at.invariant.2,
    )

pub returns : goal.returns
returns c =
    let inputs = inputs_in c.args.self.now in
    let at = c.loop-at.at in
    let past : length c.loop-at.row.words ≤ at = omega (arith, c.loop-at.invariant.2, c.loop-at-test.false) in
    let all : at ≡ c.args.words = omega (arith, c.loop-at.auto.at-end, c.loop-at-test.false) in
    let words : c.loop-at.row.words ≡ numbers_from inputs c.args.number c.args.words =
    sym (take_all at c.loop-at.row.words past) ∙ c.loop-at.invariant.0 ∙ ap (numbers_from inputs c.args.number) all in
    let made : ℕ → List ℕ → Digits = λ w ns. record { width = w; words = ns } in
    ap (λ w. made w c.loop-at.row.words) c.loop-at.invariant.1 ∙ ap (made c.args.width) words
