use Rattle.std.proofs.Common.{[], ◌∷◌, ◌++◌, append_assoc, ap, refl, sym, ◌∙◌}
use Rattle.ygg_shape_sums.proofs.Steps.{then_ok, if_ok}
use Rattle.ygg_shape_sums.proofs.PlainWords.{whole_leads, complement_leads, either_leads, complement_stands, either_stands}
use Rattle.ygg_shape_sums.specs.Plain.{is_whole}
use Rattle.ygg_shape_sums.proofs.plain.enter.Goals as goal

pub returns-in-Input-clause-leads : goal.returns-in-Input-clause-leads
returns-in-Input-clause-leads c t = whole_leads c.args.bank.now c.args.term c.args.todo.now.items c.args.todo.now.items (ap is_whole c.in-Input.ensures.there)

pub returns-in-Const-clause-leads : goal.returns-in-Const-clause-leads
returns-in-Const-clause-leads c t = whole_leads c.args.bank.now c.args.term c.args.todo.now.items c.args.todo.now.items (ap is_whole c.in-Const.ensures.there)

pub returns-in-Resize-clause-leads : goal.returns-in-Resize-clause-leads
returns-in-Resize-clause-leads c t = whole_leads c.args.bank.now c.args.term c.args.todo.now.items c.args.todo.now.items (ap is_whole c.in-Resize.ensures.there)

pub returns-in-Bin-clause-leads : goal.returns-in-Bin-clause-leads
returns-in-Bin-clause-leads c t =
    whole_leads c.args.bank.now c.args.term c.args.todo.now.items c.args.todo.now.items
    (ap is_whole c.in-Bin.ensures.there ∙ sym c.is_whole_bin.ensures ∙ t)

pub returns-in-Not-clause-stand : goal.returns-in-Not-clause-stand
returns-in-Not-clause-stand c =
    then_ok c.go_below.result _ _ c.go_below.ensures.put
    (complement_stands c.args.bank.now c.args.term c.args.todo.now.items c.go_below.new.todo.items c.in-Not.a c.requires.bank.ordered c.in-Not.ensures.there)

pub returns-in-Not-clause-leads : goal.returns-in-Not-clause-leads
returns-in-Not-clause-leads c =
    if_ok c.go_below.result _ _ c.go_below.ensures.put
    (λ e whole t. complement_leads c.args.bank.now c.args.term c.args.todo.now.items c.go_below.new.todo.items c.in-Not.a c.in-Not.ensures.there e)

pub returns-in-Pick-clause-stand : goal.returns-in-Pick-clause-stand
returns-in-Pick-clause-stand c =
    let old = c.args.todo.now.items in
    let x = c.in-Pick.yes in
    let y = c.in-Pick.no in
    then_ok c.go_below-in-Pick.result _ _ c.go_below-in-Pick.ensures.put
    (λ e. either_stands c.args.bank.now c.args.term old c.go_below-in-Pick.new.todo.items c.in-Pick.test x y (old ++ y ∷ []) c.requires.bank.ordered
    c.requires.term c.in-Pick.ensures.there refl (e ∙ sym (append_assoc old (y ∷ []) (x ∷ []))))

pub returns-in-Pick-clause-leads : goal.returns-in-Pick-clause-leads
returns-in-Pick-clause-leads c =
    let old = c.args.todo.now.items in
    let x = c.in-Pick.yes in
    let y = c.in-Pick.no in
    if_ok c.go_below-in-Pick.result _ _ c.go_below-in-Pick.ensures.put
    (λ e whole t. either_leads c.args.bank.now c.args.term old c.go_below-in-Pick.new.todo.items c.in-Pick.test x y (old ++ y ∷ [])
    c.in-Pick.ensures.there refl (e ∙ sym (append_assoc old (y ∷ []) (x ∷ []))))
