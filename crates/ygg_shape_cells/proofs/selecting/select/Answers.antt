use Rattle.std.proofs.Common.{◌≡◌, OnOk, IfOk, List, sym, subst}
use Rattle.ygg_shape_words.specs.ygg_bank_proofs_Exist.{keeps_values}
use Rattle.ygg_shape_words.specs.ygg_bank.declared.node.Id.{Id}
use Rattle.ygg_shape_cells.proofs.Answered.{selected_value, selected_constant}
use Rattle.ygg_shape_words.proofs.Keeps.{inputs_stay, kept}
use Rattle.ygg_shape_words.specs.ygg_bank.Inputs.{InputsBelow}
use Rattle.ygg_shape_cells.specs.Making.{selected}
use Rattle.ygg_shape_cells.specs.Terms.{IsTable}
use Rattle.ygg_shape_cells.proofs.Keeps.{selected_keeps}
use Rattle.ygg_shape_cells.proofs.selecting.select.Goals as goal

pub returns-clause-shape : goal.returns-clause-shape
returns-clause-shape g c n w h = c.select_within.ensures.shape n w (subst (IsTable c.args.bank.now n w) (sym c.as_slice.ensures) h)

pub returns-clause-value : goal.returns-clause-value
returns-clause-value g c =
    let kinds = g.B.Book.kinds c.args.book.now in
    selected_value kinds c.args.table.now c.args.at c.args.bank.now c.select_within.new.bank c.select_within.result c.len.ensures.bank
    c.select_within.ensures.bank c.select_within.ensures.grows c.requires.at
    (subst (λ t. OnOk c.select_within.result (c.select_within.new.bank ≡ (selected kinds t c.args.at c.args.bank.now).nodes)) c.as_slice.ensures
    c.select_within.ensures.nodes)
    (subst (λ t. IfOk c.select_within.result (λ (row : List Id). row ≡ (selected kinds t c.args.at c.args.bank.now).value)) c.as_slice.ensures
    c.select_within.ensures.form) c.requires.table

pub returns-clause-constant : goal.returns-clause-constant
returns-clause-constant g c k =
    let kinds = g.B.Book.kinds c.args.book.now in
    selected_constant kinds c.args.table.now c.args.at c.args.bank.now c.select_within.new.bank c.select_within.result
    (subst (λ t. OnOk c.select_within.result (c.select_within.new.bank ≡ (selected kinds t c.args.at c.args.bank.now).nodes)) c.as_slice.ensures
    c.select_within.ensures.nodes) k

pub returns-clause-keeps : goal.returns-clause-keeps
returns-clause-keeps g c = keeps_values c.args.bank.now c.select_within.new.bank c.select_within.ensures.grows

pub returns-clause-inputs : goal.returns-clause-inputs
returns-clause-inputs g c =
    let kinds = g.B.Book.kinds c.args.book.now in
    kept c.args.bank.now c.select_within.new.bank (selected kinds c.args.table.now c.args.at c.args.bank.now).nodes c.select_within.result
    (subst (λ t. OnOk c.select_within.result (c.select_within.new.bank ≡ (selected kinds t c.args.at c.args.bank.now).nodes)) c.as_slice.ensures
    c.select_within.ensures.nodes)
    (λ next. selected_keeps kinds (InputsBelow next) (inputs_stay kinds next) c.args.table.now c.args.at c.args.bank.now)

pub returns-clause-nodes : goal.returns-clause-nodes
returns-clause-nodes g c =
    subst (λ t. OnOk c.select_within.result (c.select_within.new.bank ≡ (selected (g.B.Book.kinds c.args.book.now) t c.args.at c.args.bank.now).nodes))
    c.as_slice.ensures
    c.select_within.ensures.nodes

pub returns-clause-form : goal.returns-clause-form
returns-clause-form g c =
    subst (λ t. IfOk c.select_within.result (λ (row : List Id). row ≡ (selected (g.B.Book.kinds c.args.book.now) t c.args.at c.args.bank.now).value))
    c.as_slice.ensures
    c.select_within.ensures.form
