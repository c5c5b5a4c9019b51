use Rattle.std.proofs.Common.{◌≡◌, ◌∷◌, List, All, OnOk, IfOk, sym, ap, ◌∙◌, subst}
use Rattle.std.proofs.lemmas.List.Elements.{All-head, All-tail}
use Rattle.ygg_syntax.specs.declared.tree.Expr.{Expr}
use Rattle.ygg_sym_spec.specs.ygg_meaning.Related.{relations}
use Rattle.ygg_sym_spec.specs.ygg_bank_proofs_Widths.{extends_both, wider}
use Rattle.ygg_sym_spec.specs.ygg_bank.Makes.{Out}
use Rattle.ygg_sym_spec.specs.ygg_bank.declared.node.Id.{Id}
use Rattle.ygg_sym_spec.specs.ygg_sym_runs.Seen.{SymKnown, env_of, known_of}
use Rattle.ygg_sym_spec.specs.Layers.{closed}
use Rattle.ygg_oblige_parts.specs.Formulas.{CanTest, seen, truths_in}
use Rattle.ygg_oblige_parts.proofs.Tested.{tests_later, truths_more}
use Rattle.ygg_oblige_parts.proofs.states.Maker.relations.Goals as goal

pub digit-requires : goal.digit-requires
digit-requires g c =
    let l = c.args.self.now.layer in
    let k = seen l.defs.now (env_of c.args.own.now) (env_of c.args.low.now) in
    let old = c.args.bank.now in
    subst (λ (k : SymKnown). CanTest k old l.layer.now.relate) (sym c.new-evaluator.ensures)
    (All-head (CanTest k old) l.layer.now.relate l.layer.now.always c.requires.tests)

pub truths-requires-clause-tests : goal.truths-requires-clause-tests
truths-requires-clause-tests g c =
    let l = c.args.self.now.layer in
    let k = seen l.defs.now (env_of c.args.own.now) (env_of c.args.low.now) in
    let old = c.args.bank.now in
    let new = c.digit.new.bank in
    subst (λ (es : List Expr). All (CanTest (known_of c.new-evaluator.result) new) es) (sym c.as_slice-always.ensures)
    (subst (λ (k : SymKnown). All (CanTest k new) l.layer.now.always) (sym c.new-evaluator.ensures)
    (tests_later k old new l.layer.now.always c.digit.ensures.grows
    (All-tail (CanTest k old) l.layer.now.relate l.layer.now.always c.requires.tests)))

pub join-requires-clause-one : goal.join-requires-clause-one
join-requires-clause-one g c = wider c.digit.new.bank c.truths.new.bank c.in_ok-first.first 1 c.truths.ensures.grows c.in_ok-first.ensures.width

pub returns-clause-nodes : goal.returns-clause-nodes
returns-clause-nodes g c =
    let kinds = g.B.Book.kinds c.args.self.now.book.now in
    let l = c.args.self.now.layer in
    let k = known_of c.new-evaluator.result in
    let old = c.args.bank.now in
    let e = l.layer.now.relate in
    subst (λ (o : Out Id). OnOk c.join.result (c.join.new.bank ≡ o.nodes))
    (truths_more kinds k e c.as_slice-always.result.now old c.in_ok-first.first c.in_ok-rest.rest c.digit.new.bank c.truths.new.bank
    c.in_ok-first.ensures.form c.in_ok-first.ensures.nodes c.in_ok-rest.ensures.id c.in_ok-rest.ensures.nodes
    ∙ ap (λ (es : List Expr). truths_in kinds k (e ∷ es) old) c.as_slice-always.ensures
    ∙ ap (λ (k : SymKnown). truths_in kinds k (relations (closed l)) old) c.new-evaluator.ensures) c.join.ensures.nodes

pub returns-clause-id : goal.returns-clause-id
returns-clause-id g c =
    let kinds = g.B.Book.kinds c.args.self.now.book.now in
    let l = c.args.self.now.layer in
    let k = known_of c.new-evaluator.result in
    let old = c.args.bank.now in
    let e = l.layer.now.relate in
    subst (λ (o : Out Id). IfOk c.join.result (λ (id : Id). id ≡ o.value))
    (truths_more kinds k e c.as_slice-always.result.now old c.in_ok-first.first c.in_ok-rest.rest c.digit.new.bank c.truths.new.bank
    c.in_ok-first.ensures.form c.in_ok-first.ensures.nodes c.in_ok-rest.ensures.id c.in_ok-rest.ensures.nodes
    ∙ ap (λ (es : List Expr). truths_in kinds k (e ∷ es) old) c.as_slice-always.ensures
    ∙ ap (λ (k : SymKnown). truths_in kinds k (relations (closed l)) old) c.new-evaluator.ensures) c.join.ensures.id

pub returns-in_err-rest-clause-grows : goal.returns-in_err-rest-clause-grows
returns-in_err-rest-clause-grows g c =
    extends_both c.args.bank.now c.digit.new.bank c.truths.new.bank c.digit.ensures.grows c.truths.ensures.grows

pub returns-clause-grows : goal.returns-clause-grows
returns-clause-grows g c =
    extends_both c.args.bank.now c.digit.new.bank c.join.new.bank c.digit.ensures.grows
    (extends_both c.digit.new.bank c.truths.new.bank c.join.new.bank c.truths.ensures.grows
    c.join.ensures.grows)
