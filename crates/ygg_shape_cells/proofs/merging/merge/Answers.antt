use Rattle.ygg_shape_words.specs.ygg_bank_proofs_Exist.{keeps_values}
use Rattle.ygg_shape_cells.proofs.Answered.{merged_shape, merged_value}
use Rattle.ygg_shape_words.proofs.Keeps.{inputs_stay, kept}
use Rattle.ygg_shape_words.specs.ygg_bank.Inputs.{InputsBelow}
use Rattle.ygg_shape_cells.specs.Making.{merged}
use Rattle.ygg_shape_cells.proofs.Keeps.{merged_keeps}
use Rattle.ygg_shape_cells.proofs.merging.merge.Goals as goal

pub returns-clause-shape : goal.returns-clause-shape
returns-clause-shape g c s p q =
    merged_shape (g.B.Book.kinds c.args.book.now) s c.args.test c.args.yes.now c.args.no.now c.args.bank.now c.merge_by.new.bank c.merge_by.result
    c.merge_by.ensures.bank c.merge_by.ensures.grows
    c.requires.test c.merge_by.ensures.nodes c.merge_by.ensures.form p q

pub returns-clause-value : goal.returns-clause-value
returns-clause-value g c =
    merged_value (g.B.Book.kinds c.args.book.now) c.args.test c.args.yes.now c.args.no.now c.args.bank.now c.merge_by.new.bank c.merge_by.result
    c.merge_by.ensures.bank c.merge_by.ensures.grows
    c.requires.test c.merge_by.ensures.nodes c.merge_by.ensures.form c.requires.values

pub returns-clause-keeps : goal.returns-clause-keeps
returns-clause-keeps g c = keeps_values c.args.bank.now c.merge_by.new.bank c.merge_by.ensures.grows

pub returns-clause-inputs : goal.returns-clause-inputs
returns-clause-inputs g c =
    let kinds = g.B.Book.kinds c.args.book.now in
    kept c.args.bank.now c.merge_by.new.bank (merged kinds c.args.test c.args.yes.now c.args.no.now c.args.bank.now).nodes c.merge_by.result
    c.merge_by.ensures.nodes
    (λ next. merged_keeps kinds (InputsBelow next) (inputs_stay kinds next) c.args.test c.args.yes.now c.args.no.now c.args.bank.now)
