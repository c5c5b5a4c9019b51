use Rattle.std.proofs.Common.{◌∙◌, ◌≡◌, ◌<◌, ℕ, length, sym, ap, arith, replicate, subst}
use Rattle.ygg_shape_cells.proofs.Wider.{first_word, first_row, width_in_is, words_in_is, words_in_table, width_in_table}
use Rattle.std.proofs.lemmas.Result.{IfOk-from_err}
use Rattle.std.proofs.lemmas.Nat.{pow_pos}
use Rattle.ygg_value.specs.Words.{word}
use Rattle.ygg_shape_words.specs.ygg_bank.Making.{made}
use Rattle.ygg_shape_words.specs.ygg_bank.declared.node.Node.TheVariants.{Const}
use Rattle.ygg_shape_cells.specs.Making.{width_in}
use Rattle.ygg_shape_words.specs.ygg_bank.Nodes.{HasWidth}
use Rattle.ygg_shape_cells.specs.Terms.{words_in}
use Rattle.ygg_shape_cells.proofs.Handed.{repeated_row}
use Rattle.ygg_shape_cells.proofs.cells.zeros.Goals as goal

pub width-width-requires : goal.width-width-requires
width-width-requires g c = first_word c.args.bank.now c.args.table.now c.as_slice-first.result.now _ _ c.requires.table
    (c.as_slice-first.ensures ∙ c.index-table-0.is)

pub bounds-table-0 : goal.bounds-table-0
bounds-table-0 g c = let t = c.requires.table in let i = t.is in let l = i.limits in omega (arith, l.0.0)

pub bounds-first-0 : goal.bounds-first-0
bounds-first-0 g c =
    let t = c.requires.table in let i = t.is in let l = i.limits in
    let r = first_row c.args.bank.now c.args.table.now c.as_slice-first.result.now _ t.words t.width i (c.as_slice-first.ensures ∙ c.index-table-0.is) in
    omega (arith, r.count, l.1.0)

pub make-requires : goal.make-requires
make-requires g c =
    record { least = c.width-width.ensures.fits.least; most = c.width-width.ensures.fits.most; fits = pow_pos c.width-width.result }

pub returns-clause-nodes : goal.returns-clause-nodes
returns-clause-nodes g c =
    let t = c.requires.table in let i = t.is in let l = i.limits in
    let r = first_row c.args.bank.now c.args.table.now c.as_slice-first.result.now _ t.words t.width i (c.as_slice-first.ensures ∙ c.index-table-0.is) in
    let some : 0 < length c.args.table.now = omega (arith, l.0.0) in
    let words : 0 < length c.as_slice-first.result.now = omega (arith, r.count, l.1.0) in
    let wide : c.width-width.result ≡ width_in c.args.bank.now c.args.table.now =
    c.width-width.ensures.value
    ∙ sym (width_in_is c.args.bank.now c.args.table.now c.as_slice-first.result.now _ _ some (c.as_slice-first.ensures ∙ c.index-table-0.is) words) in
    c.in_ok-zero.ensures.nodes ∙ ap (λ (z : ℕ). (made (g.B.Book.kinds c.args.book.now) (Const (word z 0)) c.args.bank.now).nodes) wide

pub returns-in_err-zero-clause-nodes : goal.returns-in_err-zero-clause-nodes
returns-in_err-zero-clause-nodes g c = IfOk-from_err c.from_residual.result _ c.from_residual.ensures.0

pub returns-in_err-zero-clause-form : goal.returns-in_err-zero-clause-form
returns-in_err-zero-clause-form g c = IfOk-from_err c.from_residual.result _ c.from_residual.ensures.0

pub returns-clause-form : goal.returns-clause-form
returns-clause-form g c =
    let t = c.requires.table in let i = t.is in let l = i.limits in
    let r = first_row c.args.bank.now c.args.table.now c.as_slice-first.result.now _ t.words t.width i (c.as_slice-first.ensures ∙ c.index-table-0.is) in
    let some : 0 < length c.args.table.now = omega (arith, l.0.0) in
    let words : 0 < length c.as_slice-first.result.now = omega (arith, r.count, l.1.0) in
    let wide : c.width-width.result ≡ width_in c.args.bank.now c.args.table.now =
    c.width-width.ensures.value
    ∙ sym (width_in_is c.args.bank.now c.args.table.now c.as_slice-first.result.now _ _ some (c.as_slice-first.ensures ∙ c.index-table-0.is) words) in
    c.from_vec.ensures ∙ c.in_ok-vec.ensures.items_if_clones_equal (λ y e. e)
    ∙ ap (λ (z : ℕ). replicate z c.in_ok-zero.zero)
    (sym (words_in_is c.args.table.now c.as_slice-first.result.now _ some (c.as_slice-first.ensures ∙ c.index-table-0.is)))
    ∙ ap (replicate (words_in c.args.table.now)) (c.in_ok-zero.ensures.id ∙ ap (λ (z : ℕ). (made (g.B.Book.kinds c.args.book.now) (Const (word z 0))
    c.args.bank.now).value) wide)

pub returns-clause-shape : goal.returns-clause-shape
returns-clause-shape g c n w h =
    let t = c.requires.table in let i = t.is in let l = i.limits in
    let r = first_row c.args.bank.now c.args.table.now c.as_slice-first.result.now _ t.words t.width i (c.as_slice-first.ensures ∙ c.index-table-0.is) in
    let some : 0 < length c.args.table.now = omega (arith, l.0.0) in
    let words : 0 < length c.as_slice-first.result.now = omega (arith, r.count, l.1.0) in
    let wide : c.width-width.result ≡ width_in c.args.bank.now c.args.table.now =
    c.width-width.ensures.value
    ∙ sym (width_in_is c.args.bank.now c.args.table.now c.as_slice-first.result.now _ _ some (c.as_slice-first.ensures ∙ c.index-table-0.is) words) in
    let many = words_in_is c.args.table.now c.as_slice-first.result.now _ some (c.as_slice-first.ensures ∙ c.index-table-0.is) in
    repeated_row c.make.new.self n w (length c.as_slice-first.result.now) c.from_vec.result c.in_ok-zero.zero
    (c.from_vec.ensures ∙ c.in_ok-vec.ensures.items_if_clones_equal (λ y e. e))
    (sym many ∙ words_in_table c.args.bank.now c.args.table.now n w h)
    (subst (HasWidth c.make.new.self c.in_ok-zero.zero) (wide ∙ width_in_table c.args.bank.now c.args.table.now n w h) c.in_ok-zero.ensures.width)

pub returns-in_err-vec-clause-nodes : goal.returns-in_err-vec-clause-nodes
returns-in_err-vec-clause-nodes g c = IfOk-from_err c.from_residual-in_err-vec.result _ c.from_residual-in_err-vec.ensures.0

pub returns-in_err-vec-clause-form : goal.returns-in_err-vec-clause-form
returns-in_err-vec-clause-form g c = IfOk-from_err c.from_residual-in_err-vec.result _ c.from_residual-in_err-vec.ensures.0

pub returns-in_err-vec-clause-shape : goal.returns-in_err-vec-clause-shape
returns-in_err-vec-clause-shape g c n w h = IfOk-from_err c.from_residual-in_err-vec.result _ c.from_residual-in_err-vec.ensures.0

pub returns-in_err-zero-clause-shape : goal.returns-in_err-zero-clause-shape
returns-in_err-zero-clause-shape g c n w h = IfOk-from_err c.from_residual.result _ c.from_residual.ensures.0
