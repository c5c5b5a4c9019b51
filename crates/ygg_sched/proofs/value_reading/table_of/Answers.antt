use Rattle.std.proofs.Common.{◌≡◌, ◌∙◌, ◌+◌, ◌-◌, ◌<◌, ◌≤◌, ◌++◌, ◌∷◌, [], length, take, sym, ap, arith, Bor, List, ℕ, Option, Some, None}
use Rattle.std.specs.Option.{option_copied, option_map}
use Rattle.std.specs.Prelude.{slice_set}
use Rattle.std.proofs.lemmas.List.{length-replicate, take_more_set, take_all}
use Rattle.ygg_value.specs.Number.{Digits, Grid}
use Rattle.ygg_sched.specs.Words.{cut_at, parts}
use Rattle.ygg_sched.specs.Values.{exactly, row_in, rows_in}
use Rattle.ygg_sched.proofs.Cutting.{pieces_of}
use Rattle.ygg_sched.proofs.Pieces.{with_front, none_read, goes_on, stops, too_few, too_many_left, ends_left}
use Rattle.ygg_sched.proofs.value_reading.table_of.Goals as goal

abbrev words_of : Option Digits → Option (List ℕ)
words_of = option_map (λ (r : Digits). r.words)

pub returns-in-None-clause-rows : goal.returns-in-None-clause-rows
returns-in-None-clause-rows c =
    let m : List ℕ = c.in-Some.more.now in
    let read : List ℕ → Option (List ℕ) = row_in c.args.width c.args.words in
    let front : List (List ℕ) = take c.loop-at.at c.loop-at.table.rows in
    let so_far : with_front front (exactly read (c.args.rows - c.loop-at.at) (parts 59 m)) ≡ rows_in c.args.width c.args.words c.args.rows c.args.bytes.now =
    ap (λ (left : Option (Bor (List ℕ))). with_front front (exactly read (c.args.rows - c.loop-at.at) (pieces_of 59 (option_copied left))))
    (sym c.in-Some.is) ∙ c.loop-at.invariant.0 in
    let none : read (cut_at 59 m).0 ≡ None =
    ap (λ (x : List ℕ × Option (List ℕ)). read x.0) c.cut.ensures.cut ∙ sym c.in_ok-found.ensures.numbers ∙ ap words_of c.in-None.is in
    sym (stops read 59 front c.args.rows c.loop-at.at m c.loop-at-test.true none) ∙ so_far

pub loop-at-preserved : goal.loop-at-preserved
loop-at-preserved c =
    let m : List ℕ = c.in-Some.more.now in
    let ns : List ℕ = c.in-Some-found.row.words in
    let read : List ℕ → Option (List ℕ) = row_in c.args.width c.args.words in
    let front : List (List ℕ) = take c.loop-at.at c.loop-at.table.rows in
    let within : c.loop-at.at < length c.loop-at.table.rows = omega (arith, c.loop-at.invariant.3, c.loop-at-test.true) in
    let so_far : with_front front (exactly read (c.args.rows - c.loop-at.at) (parts 59 m)) ≡ rows_in c.args.width c.args.words c.args.rows c.args.bytes.now =
    ap (λ (left : Option (Bor (List ℕ))). with_front front (exactly read (c.args.rows - c.loop-at.at) (pieces_of 59 (option_copied left))))
    (sym c.in-Some.is) ∙ c.loop-at.invariant.0 in
    let some : read (cut_at 59 m).0 ≡ Some ns =
    ap (λ (x : List ℕ × Option (List ℕ)). read x.0) c.cut.ensures.cut ∙ sym c.in_ok-found.ensures.numbers ∙ ap words_of c.in-Some-found.is in
    let written : c.table_write.new.table.rows ≡ slice_set c.loop-at.table.rows c.place.result.bits ns =
    ap (λ (t : Grid). t.rows) c.table_write.ensures.value in
    let place : c.place.result.bits ≡ c.loop-at.at = c.place.ensures.bits in
    let grown : take (c.loop-at.at + 1) c.table_write.new.table.rows ≡ front ++ ns ∷ [] =
    ap (take (c.loop-at.at + 1)) (written ∙ ap (λ (k : ℕ). slice_set c.loop-at.table.rows k ns) place)
    ∙ take_more_set c.loop-at.table.rows c.loop-at.at ns within in
    let on = goes_on read 59 front c.args.rows c.loop-at.at m ns c.loop-at-test.true some in
    let left : (cut_at 59 m).1 ≡ option_copied c.cut.result.1 = ap (λ (x : List ℕ × Option (List ℕ)). x.1) c.cut.ensures.cut in (
      ap (λ (xs : List (List ℕ)). with_front xs (exactly read (c.args.rows - (c.loop-at.at + 1)) (pieces_of 59 (option_copied c.cut.result.1)))) grown
          ∙ ap (λ (o : Option (List ℕ)). with_front (front ++ ns ∷ []) (exactly read (c.args.rows - (c.loop-at.at + 1)) (pieces_of 59 o))) (sym left)
          ∙ on ∙ so_far,
      ap (λ (t : Grid). t.width) c.table_write.ensures.value ∙ c.loop-at.invariant.1,
      ap (λ (t : Grid). t.words) c.table_write.ensures.value ∙ c.loop-at.invariant.2,
      c.table_write.ensures.rows ∙ c.loop-at.invariant.3,
    )

pub returns-then-is_some-clause-rows : goal.returns-then-is_some-clause-rows
returns-then-is_some-clause-rows c =
    sym (too_many_left (row_in c.args.width c.args.words) 59 (take c.loop-at.at c.loop-at.table.rows) c.args.rows c.loop-at.at c.loop-at.left
    (sym c.is_some.ensures ∙ c.if-is_some.true) c.loop-at-test.false)
    ∙ c.loop-at.invariant.0

pub returns-clause-rows : goal.returns-clause-rows
returns-clause-rows c =
    let past : length c.loop-at.table.rows ≤ c.loop-at.at = omega (arith, c.loop-at.invariant.3, c.loop-at-test.false) in
    ap (λ (rows : List (List ℕ)). Some rows) (sym (take_all c.loop-at.at c.loop-at.table.rows past))
    ∙ sym (ends_left (row_in c.args.width c.args.words) 59 (take c.loop-at.at c.loop-at.table.rows) c.args.rows c.loop-at.at c.loop-at.left
    (sym c.is_some.ensures ∙ c.if-is_some.false) c.loop-at-test.false)
    ∙ c.loop-at.invariant.0

pub zero_table-requires : goal.zero_table-requires
zero_table-requires c = c.requires

pub row_of-requires : goal.row_of-requires
row_of-requires c = (c.requires.1, c.requires.2)

pub loop-at-init : goal.loop-at-init
loop-at-init c =
    let table = c.in_ok-table.ensures in (
      none_read (row_in c.args.width c.args.words) c.args.rows (parts 59 c.args.bytes.now),
      ap (λ (t : Grid). t.width) table,
      ap (λ (t : Grid). t.words) table,
      ap (λ (t : Grid). length t.rows) table ∙ length-replicate c.args.rows _,
    )

pub returns-in_default-clause-rows : goal.returns-in_default-clause-rows
returns-in_default-clause-rows c =
    let read : List ℕ → Option (List ℕ) = row_in c.args.width c.args.words in
    let front : List (List ℕ) = take c.loop-at.at c.loop-at.table.rows in
    sym (too_few read 59 front c.args.rows c.loop-at.at c.loop-at-test.true)
    ∙ ap (λ (left : Option (Bor (List ℕ))). with_front front (exactly read (c.args.rows - c.loop-at.at) (pieces_of 59 (option_copied left))))
    (sym c.in_default.is)
    ∙ c.loop-at.invariant.0

pub table_write-requires : goal.table_write-requires
table_write-requires c = record {
  width = rw c.in-Some-found.is at c.in_ok-found.ensures.width ∙ sym c.loop-at.invariant.1;
  words = rw c.in-Some-found.is at c.in_ok-found.ensures.words ∙ sym c.loop-at.invariant.2;
}

pub returns-clause-width : goal.returns-clause-width
returns-clause-width c = c.loop-at.invariant.1

pub returns-clause-words : goal.returns-clause-words
returns-clause-words c = c.loop-at.invariant.2
