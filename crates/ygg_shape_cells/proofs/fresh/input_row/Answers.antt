use Rattle.std.proofs.Common.{ℕ, ◌+◌, ◌<◌, length, get_or, replicate, refl, sym, subst, arith, ◌≡◌, ◌≤◌}
use Rattle.std.proofs.lemmas.List.{length-replicate}
use Rattle.ygg_shape_words.specs.ygg_bank_proofs_Widths.{extends_both, extends_self}
use Rattle.ygg_shape_words.specs.ygg_bank.Inputs.{next_after}
use Rattle.ygg_shape_words.specs.ygg_bank.Making.{made}
use Rattle.ygg_shape_words.specs.ygg_bank.declared.node.Node.TheVariants.{Input}
use Rattle.ygg_shape_cells.proofs.Freshness.{below_as, can_input}
use Rattle.ygg_shape_cells.proofs.Steps.{EachFrom, each_from_goes, each_from_begins, each_from_nodes, each_from_value}
use Rattle.std.proofs.lemmas.Result.{IfOk-from_err}
use Rattle.ygg_shape_cells.proofs.fresh.input_row.Goals as goal

pub loop-place-preserved : goal.loop-place-preserved
loop-place-preserved g c =
    let kinds = g.B.Book.kinds c.args.book.now in
    let number = c.args.number in
    let w = c.args.width in
    let i = c.loop-place.place in
    let xs = replicate {A = ℕ} c.args.words 0 in
    let step = λ (i : ℕ) (x : ℕ). made kinds (Input (number + i) w) in
    let l : i < length xs = omega (arith, length-replicate {A = ℕ} c.args.words 0, c.loop-place-test.true) in
    record {
      went = subst (λ z. EachFrom step xs c.args.bank.now (i + 1) z c.make.new.self) (sym c.in_ok-push.ensures.ok)
          (each_from_goes step xs c.args.bank.now i c.loop-place.row c.loop-place.bank (get_or xs i 0) 0 c.in_ok-term.term c.make.new.self l refl
          c.in_ok-term.ensures.nodes c.in_ok-term.ensures.id c.loop-place.invariant.went);
      below = below_as (next_after (number + i) (Input (number + i) w)) (number + (i + 1)) c.make.new.self (omega arith)
          (c.make.ensures.inputs (number + i) c.loop-place.invariant.below);
      grows = extends_both c.args.bank.now c.loop-place.bank c.make.new.self c.loop-place.invariant.grows c.make.ensures.grows;
      bank = c.make.ensures.bank;
    }

pub returns-in_err-term-clause-grows : goal.returns-in_err-term-clause-grows
returns-in_err-term-clause-grows g c =
    extends_both c.args.bank.now c.loop-place.bank c.make.new.self c.loop-place.invariant.grows c.make.ensures.grows

pub returns-in_err-push-clause-grows : goal.returns-in_err-push-clause-grows
returns-in_err-push-clause-grows g c =
    extends_both c.args.bank.now c.loop-place.bank c.make.new.self c.loop-place.invariant.grows c.make.ensures.grows

pub loop-place-init : goal.loop-place-init
loop-place-init g c =
    let kinds = g.B.Book.kinds c.args.book.now in
    let number = c.args.number in
    let w = c.args.width in
    let xs = replicate {A = ℕ} c.args.words 0 in
    let step = λ (i : ℕ) (x : ℕ). made kinds (Input (number + i) w) in
    record {
      went = subst (λ z. EachFrom step xs c.args.bank.now 0 z c.args.bank.now) (sym c.new-row.ensures) (each_from_begins step xs c.args.bank.now);
      below = below_as number (number + 0) c.args.bank.now (omega arith) c.requires.below;
      grows = extends_self c.args.bank.now;
      bank = c.requires.bank;
    }

pub make-requires : goal.make-requires
make-requires g c =
    can_input c.loop-place.bank (c.args.number + c.loop-place.place) c.args.width c.requires.width c.loop-place.invariant.below

pub returns-clause-nodes : goal.returns-clause-nodes
returns-clause-nodes g c =
    let kinds = g.B.Book.kinds c.args.book.now in
    let number = c.args.number in
    let w = c.args.width in
    let xs = replicate {A = ℕ} c.args.words 0 in
    let step = λ (i : ℕ) (x : ℕ). made kinds (Input (number + i) w) in
    let past : length xs ≤ c.loop-place.place = omega (arith, length-replicate {A = ℕ} c.args.words 0, c.loop-place-test.false) in
    each_from_nodes step xs c.args.bank.now c.loop-place.place c.loop-place.row c.loop-place.bank past c.loop-place.invariant.went

pub returns-clause-form : goal.returns-clause-form
returns-clause-form g c =
    let kinds = g.B.Book.kinds c.args.book.now in
    let number = c.args.number in
    let w = c.args.width in
    let xs = replicate {A = ℕ} c.args.words 0 in
    let step = λ (i : ℕ) (x : ℕ). made kinds (Input (number + i) w) in
    let past : length xs ≤ c.loop-place.place = omega (arith, length-replicate {A = ℕ} c.args.words 0, c.loop-place-test.false) in
    each_from_value step xs c.args.bank.now c.loop-place.place c.loop-place.row c.loop-place.bank past c.loop-place.invariant.went

pub returns-clause-below : goal.returns-clause-below
returns-clause-below g c =
    let all : c.args.number + c.loop-place.place ≡ c.args.number + c.args.words =
    omega (arith, c.loop-place-test.false, c.loop-place.auto.place-end) in
    below_as (c.args.number + c.loop-place.place) (c.args.number + c.args.words) c.loop-place.bank all c.loop-place.invariant.below

pub returns-in_err-term-clause-nodes : goal.returns-in_err-term-clause-nodes
returns-in_err-term-clause-nodes g c = IfOk-from_err c.from_residual.result _ c.from_residual.ensures.0

pub returns-in_err-term-clause-form : goal.returns-in_err-term-clause-form
returns-in_err-term-clause-form g c = IfOk-from_err c.from_residual.result _ c.from_residual.ensures.0

pub returns-in_err-term-clause-below : goal.returns-in_err-term-clause-below
returns-in_err-term-clause-below g c = IfOk-from_err c.from_residual.result _ c.from_residual.ensures.0

pub returns-in_err-push-clause-nodes : goal.returns-in_err-push-clause-nodes
returns-in_err-push-clause-nodes g c = IfOk-from_err c.from_residual-in_err-push.result _ c.from_residual-in_err-push.ensures.0

pub returns-in_err-push-clause-form : goal.returns-in_err-push-clause-form
returns-in_err-push-clause-form g c = IfOk-from_err c.from_residual-in_err-push.result _ c.from_residual-in_err-push.ensures.0

pub returns-in_err-push-clause-below : goal.returns-in_err-push-clause-below
returns-in_err-push-clause-below g c = IfOk-from_err c.from_residual-in_err-push.result _ c.from_residual-in_err-push.ensures.0
