use Rattle.std.proofs.Common.{ℕ, ◌+◌, ◌*◌, ◌<◌, length, get_or, replicate, refl, sym, subst, arith, ◌≤◌}
use Rattle.std.proofs.lemmas.List.{length-replicate}
use Rattle.ygg_shape_words.specs.ygg_bank_proofs_Widths.{extends_both, extends_self}
use Rattle.ygg_shape_cells.specs.Fresh.{fresh_row}
use Rattle.ygg_shape_cells.proofs.Freshness.{below_as}
use Rattle.ygg_shape_cells.proofs.Steps.{EachFrom, each_from_goes, each_from_begins, each_from_nodes, each_from_value}
use Rattle.std.proofs.lemmas.Result.{IfOk-from_err}
use Rattle.ygg_shape_cells.proofs.Handed.{row_ends}
use Rattle.ygg_shape_cells.proofs.fresh.input_rows.Goals as goal

pub loop-place-preserved : goal.loop-place-preserved
loop-place-preserved g c =
    let kinds = g.B.Book.kinds c.args.book.now in
    let number = c.args.number in
    let n = c.args.words in
    let i = c.loop-place.place in
    let xs = replicate {A = ℕ} c.args.rows 0 in
    let step = λ (i : ℕ) (x : ℕ). fresh_row kinds (number + i * n) n c.args.width in
    let l : i < length xs = omega (arith, length-replicate {A = ℕ} c.args.rows 0, c.loop-place-test.true) in
    record {
      went = subst (λ z. EachFrom step xs c.args.bank.now (i + 1) z c.input_row.new.bank) (sym c.in_ok-push.ensures.ok)
          (each_from_goes step xs c.args.bank.now i c.loop-place.table c.loop-place.bank (get_or xs i 0) 0 c.in_ok-row.row c.input_row.new.bank l refl
          c.in_ok-row.ensures.nodes c.in_ok-row.ensures.form c.loop-place.invariant.went);
      below = below_as (number + i * n + n) (number + (i + 1) * n) c.input_row.new.bank (omega arith) c.in_ok-row.ensures.below;
      grows = extends_both c.args.bank.now c.loop-place.bank c.input_row.new.bank c.loop-place.invariant.grows c.input_row.ensures.grows;
      bank = c.input_row.ensures.bank;
    }

pub returns-in_err-row-clause-grows : goal.returns-in_err-row-clause-grows
returns-in_err-row-clause-grows g c =
    extends_both c.args.bank.now c.loop-place.bank c.input_row.new.bank c.loop-place.invariant.grows c.input_row.ensures.grows

pub returns-in_err-push-clause-grows : goal.returns-in_err-push-clause-grows
returns-in_err-push-clause-grows g c =
    extends_both c.args.bank.now c.loop-place.bank c.input_row.new.bank c.loop-place.invariant.grows c.input_row.ensures.grows

pub loop-place-init : goal.loop-place-init
loop-place-init g c =
    let kinds = g.B.Book.kinds c.args.book.now in
    let number = c.args.number in
    let n = c.args.words in
    let xs = replicate {A = ℕ} c.args.rows 0 in
    let step = λ (i : ℕ) (x : ℕ). fresh_row kinds (number + i * n) n c.args.width in
    record {
      went = subst (λ z. EachFrom step xs c.args.bank.now 0 z c.args.bank.now) (sym c.new-table.ensures) (each_from_begins step xs c.args.bank.now);
      below = below_as number (number + 0 * n) c.args.bank.now (omega arith) c.requires.below;
      grows = extends_self c.args.bank.now;
      bank = c.requires.bank;
    }

pub input_row-requires-clause-below : goal.input_row-requires-clause-below
input_row-requires-clause-below g c = c.loop-place.invariant.below

pub input_row-requires-clause-room : goal.input_row-requires-clause-room
input_row-requires-clause-room g c =
    let ends = row_ends c.loop-place.place c.args.rows c.args.words c.loop-place-test.true in
    omega (arith, ends, c.requires.room)

pub overflow_add-first : goal.overflow_add-first
overflow_add-first g c =
    let ends = row_ends c.loop-place.place c.args.rows c.args.words c.loop-place-test.true in
    omega (arith, ends, c.requires.room)

pub overflow_mul-first : goal.overflow_mul-first
overflow_mul-first g c =
    let ends = row_ends c.loop-place.place c.args.rows c.args.words c.loop-place-test.true in
    omega (arith, ends, c.requires.room)

pub returns-clause-nodes : goal.returns-clause-nodes
returns-clause-nodes g c =
    let kinds = g.B.Book.kinds c.args.book.now in
    let number = c.args.number in
    let n = c.args.words in
    let xs = replicate {A = ℕ} c.args.rows 0 in
    let step = λ (i : ℕ) (x : ℕ). fresh_row kinds (number + i * n) n c.args.width in
    let past : length xs ≤ c.loop-place.place = omega (arith, length-replicate {A = ℕ} c.args.rows 0, c.loop-place-test.false) in
    each_from_nodes step xs c.args.bank.now c.loop-place.place c.loop-place.table c.loop-place.bank past c.loop-place.invariant.went

pub returns-clause-form : goal.returns-clause-form
returns-clause-form g c =
    let kinds = g.B.Book.kinds c.args.book.now in
    let number = c.args.number in
    let n = c.args.words in
    let xs = replicate {A = ℕ} c.args.rows 0 in
    let step = λ (i : ℕ) (x : ℕ). fresh_row kinds (number + i * n) n c.args.width in
    let past : length xs ≤ c.loop-place.place = omega (arith, length-replicate {A = ℕ} c.args.rows 0, c.loop-place-test.false) in
    each_from_value step xs c.args.bank.now c.loop-place.place c.loop-place.table c.loop-place.bank past c.loop-place.invariant.went

pub returns-in_err-row-clause-nodes : goal.returns-in_err-row-clause-nodes
returns-in_err-row-clause-nodes g c = IfOk-from_err c.from_residual.result _ c.from_residual.ensures.0

pub returns-in_err-row-clause-form : goal.returns-in_err-row-clause-form
returns-in_err-row-clause-form g c = IfOk-from_err c.from_residual.result _ c.from_residual.ensures.0

pub returns-in_err-push-clause-nodes : goal.returns-in_err-push-clause-nodes
returns-in_err-push-clause-nodes g c = IfOk-from_err c.from_residual-in_err-push.result _ c.from_residual-in_err-push.ensures.0

pub returns-in_err-push-clause-form : goal.returns-in_err-push-clause-form
returns-in_err-push-clause-form g c = IfOk-from_err c.from_residual-in_err-push.result _ c.from_residual-in_err-push.ensures.0
