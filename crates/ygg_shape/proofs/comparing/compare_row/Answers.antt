use Rattle.std.proofs.Common.{IfOk, sym, ◌∙◌, subst}
use Rattle.ygg_shape_cells.specs.ygg_bank_proofs_Widths.{wider, width_is, extends_both}
use Rattle.ygg_shape_cells.specs.ygg_bank.Nodes.{HasWidth}
use Rattle.ygg_shape_cells.specs.ygg_bank.declared.node.Id.{Id}
use Rattle.ygg_shape_cells.specs.ygg_shape_words_proofs_Fit.{can_and}
use Rattle.ygg_shape.proofs.comparing.compare_row.Goals as goal

pub equate_rows-requires : goal.equate_rows-requires
equate_rows-requires g c =
    let r = c.requires.rows in let p = r.one_is in let q = r.two_is in
    record { rows = record { width = r.width; count = p.count ∙ sym q.count; one_has = p.wide; two_has = q.wide } }

pub make-requires : goal.make-requires
make-requires g c =
    let k = can_and c.equate_rows.new.bank c.args.so_far c.in_ok-b.b 1
    (wider c.args.bank.now c.equate_rows.new.bank c.args.so_far 1 c.equate_rows.ensures.grows c.requires.so_far) c.in_ok-b.ensures.width in
    record { one = k.one; two = k.two; widths = k.widths }

pub returns-clause-width : goal.returns-clause-width
returns-clause-width g c =
    subst (λ w. IfOk c.make.result (λ (id : Id). HasWidth c.make.new.self id w))
    (width_is c.equate_rows.new.bank c.args.so_far 1
    (wider c.args.bank.now c.equate_rows.new.bank c.args.so_far 1 c.equate_rows.ensures.grows c.requires.so_far))
    c.make.ensures.width

pub returns-clause-grows : goal.returns-clause-grows
returns-clause-grows g c = extends_both c.args.bank.now c.equate_rows.new.bank c.make.new.self c.equate_rows.ensures.grows c.make.ensures.grows
