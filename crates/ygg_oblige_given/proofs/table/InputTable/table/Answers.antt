use Rattle.std.proofs.Common.{◌≡◌, ◌∙◌, ◌+◌, ◌*◌, ◌<◌, ◌≤◌, true, ℕ, List, length, sym, ap, subst, arith}
use Rattle.std.specs.Prelude.{slice_set}
use Rattle.std.proofs.lemmas.List.{take_all}
use Rattle.ygg_oblige_laws.specs.ygg_meaning.Shapes.{words_fit}
use Rattle.ygg_value.specs.Number.{Digits, Grid}
use Rattle.ygg_oblige_laws.specs.ygg_shape.Fresh.{numbers_from, rows_from}
use Rattle.ygg_oblige_given.specs.Tables.{inputs_in}
use Rattle.ygg_oblige_given.proofs.Runs.{numbers_length, row_fits, rows_go}
use Rattle.ygg_oblige_given.proofs.table.InputTable.table.Goals as goal

pub row-requires-clause-fits : goal.row-requires-clause-fits
row-requires-clause-fits c =
    let inputs = inputs_in c.args.self.now in
    let n = c.args.words in
    subst (λ m. words_fit c.args.width n (numbers_from inputs m n) ≡ true) (sym c.loop-at.invariant.4)
    (row_fits inputs c.args.width n c.args.number c.args.rows c.loop-at.at c.requires.fits c.loop-at-test.true)

step : (number at n : ℕ) → number + at * n + n ≡ number + (at + 1) * n
step number at n = grind arith

pub table_write-requires-clause-words : goal.table_write-requires-clause-words
table_write-requires-clause-words c =
    let inputs = inputs_in c.args.self.now in
    ap (λ (r : Digits). length r.words) c.in_ok-row.ensures ∙ numbers_length inputs c.loop-at.next c.args.words ∙ sym c.loop-at.invariant.2

pub loop-at-preserved : goal.loop-at-preserved
loop-at-preserved c =
    let inputs = inputs_in c.args.self.now in
    let at = c.loop-at.at in
    let n = c.args.words in
    let old : List (List ℕ) = c.loop-at.table.rows in
    let row : c.in_ok-row.row.words ≡ numbers_from inputs (c.args.number + at * n) n =
    ap (λ (r : Digits). r.words) c.in_ok-row.ensures ∙ ap (λ m. numbers_from inputs m n) c.loop-at.invariant.4 in
    let within : at < length old = omega (arith, c.loop-at.invariant.3, c.loop-at-test.true) in
    let written : c.table_write.new.table.rows ≡ slice_set old c.place.result.bits c.in_ok-row.row.words =
    ap (λ (t : Grid). t.rows) c.table_write.ensures.value in
    let next : c.in_ok-next.next ≡ c.args.number + (at + 1) * n =
    c.in_ok-next.ensures ∙ ap (λ k. c.loop-at.next + k) c.from.ensures ∙ ap (λ m. m + n) c.loop-at.invariant.4 ∙ step c.args.number at n in (
      rows_go inputs old c.table_write.new.table.rows c.args.number at n c.in_ok-row.row.words within c.loop-at.invariant.0
          (written ∙ ap (λ k. slice_set old k c.in_ok-row.row.words) c.place.ensures.bits) row,
      ap (λ (t : Grid). t.width) c.table_write.ensures.value ∙ c.loop-at.invariant.1,
      ap (λ (t : Grid). t.words) c.table_write.ensures.value ∙ c.loop-at.invariant.2,
      c.table_write.ensures.rows ∙ c.loop-at.invariant.3,
      next,
    )

pub returns : goal.returns
returns c =
    let inputs = inputs_in c.args.self.now in
    let at = c.loop-at.at in
    let past : length c.loop-at.table.rows ≤ at = omega (arith, c.loop-at.invariant.3, c.loop-at-test.false) in
    let all : at ≡ c.args.rows = omega (arith, c.loop-at.auto.at-end, c.loop-at-test.false) in
    let rows : c.loop-at.table.rows ≡ rows_from inputs c.args.number c.args.rows c.args.words =
    sym (take_all at c.loop-at.table.rows past) ∙ c.loop-at.invariant.0 ∙ ap (λ k. rows_from inputs c.args.number k c.args.words) all in
    let made : ℕ → ℕ → List (List ℕ) → Grid = λ w n rs. record { width = w; words = n; rows = rs } in
    ap (λ w. made w c.loop-at.table.words c.loop-at.table.rows) c.loop-at.invariant.1 ∙ ap (λ n. made c.args.width n c.loop-at.table.rows) c.loop-at.invariant.2
    ∙ ap (made c.args.width c.args.words) rows
