use Rattle.std.proofs.Common.{◌≡◌, List, OnOk, IfOk, subst}
use Rattle.ygg_sym_spec.specs.ygg_bank.Makes.{Make}
use Rattle.ygg_sym_spec.specs.ygg_shape_cells.declared.terms.SymValue.{SymValue}
use Rattle.ygg_sym_spec.specs.Layers.{closed, terms_in}
use Rattle.ygg_oblige_parts.proofs.Falling.{fall_some, fall_whole, fall_nothing, picks_split}
use Rattle.ygg_oblige_parts.proofs.states.Maker.fall.Goals as goal

pub returns-in-Some-clause-nodes : goal.returns-in-Some-clause-nodes
returns-in-Some-clause-nodes g c =
    let kinds = g.B.Book.kinds c.args.self.now.book.now in
    let l = c.args.self.now.layer in
    let o = c.args.operation.now in
    subst (λ (m : Make (List SymValue)). OnOk c.then_crash.result (c.then_crash.new.bank ≡ (m c.args.bank.now).nodes))
    (fall_some kinds (terms_in kinds l) (closed l) o c.args.vars.now c.args.args.now o.on_crash c.in-Some.b c.as_slice-names.result.now
    c.as_slice-values.result.now c.args.picks.now c.in-Some.is c.as_slice-names.ensures c.as_slice-values.ensures) c.then_crash.ensures.nodes

pub returns-in-Some-clause-form : goal.returns-in-Some-clause-form
returns-in-Some-clause-form g c =
    let kinds = g.B.Book.kinds c.args.self.now.book.now in
    let l = c.args.self.now.layer in
    let o = c.args.operation.now in
    subst (λ (m : Make (List SymValue)). IfOk c.then_crash.result (λ xs. xs ≡ (m c.args.bank.now).value))
    (fall_some kinds (terms_in kinds l) (closed l) o c.args.vars.now c.args.args.now o.on_crash c.in-Some.b c.as_slice-names.result.now
    c.as_slice-values.result.now c.args.picks.now c.in-Some.is c.as_slice-names.ensures c.as_slice-values.ensures) c.then_crash.ensures.form

pub returns-then-happened-clause-nodes : goal.returns-then-happened-clause-nodes
returns-then-happened-clause-nodes g c =
    let kinds = g.B.Book.kinds c.args.self.now.book.now in
    let l = c.args.self.now.layer in
    let o = c.args.operation.now in
    subst (λ (m : Make (List SymValue)). OnOk c.then_crash-then-happened.result (c.then_crash-then-happened.new.bank ≡ (m c.args.bank.now).nodes))
    (fall_whole kinds (terms_in kinds l) (closed l) o c.args.vars.now c.args.args.now o.on_crash c.as_slice-names.result.now
    c.as_slice-values.result.now _ _ c.args.picks.now c.in-None.is c.as_slice-names.ensures c.as_slice-values.ensures c.if-happened.true
    (picks_split c.args.picks.now _ c.in-len1-up.len_at_least)) c.then_crash-then-happened.ensures.nodes

pub returns-then-happened-clause-form : goal.returns-then-happened-clause-form
returns-then-happened-clause-form g c =
    let kinds = g.B.Book.kinds c.args.self.now.book.now in
    let l = c.args.self.now.layer in
    let o = c.args.operation.now in
    subst (λ (m : Make (List SymValue)). IfOk c.then_crash-then-happened.result (λ xs. xs ≡ (m c.args.bank.now).value))
    (fall_whole kinds (terms_in kinds l) (closed l) o c.args.vars.now c.args.args.now o.on_crash c.as_slice-names.result.now
    c.as_slice-values.result.now _ _ c.args.picks.now c.in-None.is c.as_slice-names.ensures c.as_slice-values.ensures c.if-happened.true
    (picks_split c.args.picks.now _ c.in-len1-up.len_at_least)) c.then_crash-then-happened.ensures.form

pub returns-else-happened-clause-nodes : goal.returns-else-happened-clause-nodes
returns-else-happened-clause-nodes g c =
    let kinds = g.B.Book.kinds c.args.self.now.book.now in
    let l = c.args.self.now.layer in
    let o = c.args.operation.now in
    subst (λ (m : Make (List SymValue)). OnOk c.crash.result (c.crash.new.bank ≡ (m c.args.bank.now).nodes))
    (fall_nothing kinds (terms_in kinds l) (closed l) o c.args.vars.now c.args.args.now o.on_crash _ _ c.args.picks.now c.in-None.is c.if-happened.false
    (picks_split c.args.picks.now _ c.in-len1-up.len_at_least)) c.crash.ensures.nodes

pub returns-else-happened-clause-form : goal.returns-else-happened-clause-form
returns-else-happened-clause-form g c =
    let kinds = g.B.Book.kinds c.args.self.now.book.now in
    let l = c.args.self.now.layer in
    let o = c.args.operation.now in
    subst (λ (m : Make (List SymValue)). IfOk c.crash.result (λ xs. xs ≡ (m c.args.bank.now).value))
    (fall_nothing kinds (terms_in kinds l) (closed l) o c.args.vars.now c.args.args.now o.on_crash _ _ c.args.picks.now c.in-None.is c.if-happened.false
    (picks_split c.args.picks.now _ c.in-len1-up.len_at_least)) c.crash.ensures.form
