use Rattle.std.proofs.Common.{◌≡◌, Option, Some, None, List, [], All, IfOk, OnOk, if◌then◌else◌, sym, ap, ◌∙◌, subst}
use Rattle.ygg_shape_words.specs.ygg_bank.Makes.{Out}
use Rattle.ygg_shape_words.specs.ygg_bank.declared.node.Id.{Id}
use Rattle.ygg_shape_sums.proofs.MadeSides.{left_none, left_some}
use Rattle.ygg_shape_sums.proofs.Remains.{chosen}
use Rattle.ygg_shape_sums.proofs.Splits.{parts_expanded_fit}
use Rattle.ygg_shape_sums.specs.Multiplies.{AreFound, expanded}
use Rattle.ygg_shape_sums.specs.Parts.{PartsFit}
use Rattle.ygg_shape_sums.specs.Products.{Product, ProductFits}
use Rattle.ygg_shape_sums.specs.Reduces.{any_product, products_of}
use Rattle.ygg_shape_sums.specs.declared.multiplying.TheConstants.{MULTIPLY_LIMIT}
use Rattle.ygg_shape_sums.specs.declared.parts.Summand.{Summand}
use Rattle.ygg_shape_sums.proofs.remaining.vanishes_left.Goals as goal

pub products_in-requires-clause-parts : goal.products_in-requires-clause-parts
products_in-requires-clause-parts g c = subst (PartsFit c.args.bank.now c.args.width) (sym c.parts.ensures) c.requires.parts

pub with_terms-requires-clause-products : goal.with_terms-requires-clause-products
with_terms-requires-clause-products g c =
    let bank = c.args.bank.now in
    let w = c.args.width in
    let facts = c.args.facts.now in
    let ps = (c.args.total.now).parts in
    let want : List Summand → Option (List Product) =
    λ qs. if any_product bank qs then expanded MULTIPLY_LIMIT bank facts (products_of qs) [] else None in
    let e : want ps ≡ Some c.in-Some.products.items =
    ap want (sym c.parts.ensures) ∙ subst (AreFound (want c.parts.result.now)) c.in-Some.is c.in_ok-products_in.ensures in
    subst (All (ProductFits bank w)) (sym c.as_slice.ensures.value)
    (parts_expanded_fit bank w facts ps c.in-Some.products.items c.requires.bank.ordered c.requires.parts
    (chosen (any_product bank ps) (expanded MULTIPLY_LIMIT bank facts (products_of ps) []) c.in-Some.products.items e))

pub returns-in-None-clause-nodes : goal.returns-in-None-clause-nodes
returns-in-None-clause-nodes g c =
    let bank = c.args.bank.now in
    let facts = c.args.facts.now in
    let want : List Summand → Option (List Product) =
    λ qs. if any_product bank qs then expanded MULTIPLY_LIMIT bank facts (products_of qs) [] else None in
    let e : want (c.args.total.now).parts ≡ None =
    ap want (sym c.parts.ensures) ∙ subst (AreFound (want c.parts.result.now)) c.in-None.is c.in_ok-products_in.ensures in
    subst (λ (m : Out Id). OnOk c.vanishes.result (c.vanishes.new.bank ≡ m.nodes))
    (left_none (g.B.Book.kinds c.args.book.now) c.args.width facts c.args.total.now bank e) c.vanishes.ensures.nodes

pub returns-in-None-clause-form : goal.returns-in-None-clause-form
returns-in-None-clause-form g c =
    let bank = c.args.bank.now in
    let facts = c.args.facts.now in
    let want : List Summand → Option (List Product) =
    λ qs. if any_product bank qs then expanded MULTIPLY_LIMIT bank facts (products_of qs) [] else None in
    let e : want (c.args.total.now).parts ≡ None =
    ap want (sym c.parts.ensures) ∙ subst (AreFound (want c.parts.result.now)) c.in-None.is c.in_ok-products_in.ensures in
    subst (λ (m : Out Id). IfOk c.vanishes.result (λ (id : Id). id ≡ m.value))
    (left_none (g.B.Book.kinds c.args.book.now) c.args.width facts c.args.total.now bank e) c.vanishes.ensures.form

pub returns-in_ok-sum-in-Some-clause-nodes : goal.returns-in_ok-sum-in-Some-clause-nodes
returns-in_ok-sum-in-Some-clause-nodes g c =
    let bank = c.args.bank.now in
    let facts = c.args.facts.now in
    let want : List Summand → Option (List Product) =
    λ qs. if any_product bank qs then expanded MULTIPLY_LIMIT bank facts (products_of qs) [] else None in
    let e : want (c.args.total.now).parts ≡ Some c.as_slice.result.now =
    ap want (sym c.parts.ensures) ∙ subst (AreFound (want c.parts.result.now)) c.in-Some.is c.in_ok-products_in.ensures
    ∙ ap (λ (qs : List Product). Some qs) (sym c.as_slice.ensures.value) in
    subst (λ (m : Out Id). OnOk c.vanishes-in-Some.result (c.vanishes-in-Some.new.bank ≡ m.nodes))
    (left_some (g.B.Book.kinds c.args.book.now) c.args.width facts c.args.total.now bank c.as_slice.result.now c.number.result c.in_ok-sum-in-Some.sum
    c.with_terms.new.bank c.number.ensures e c.in_ok-sum-in-Some.ensures.nodes c.in_ok-sum-in-Some.ensures.form) c.vanishes-in-Some.ensures.nodes

pub returns-in_ok-sum-in-Some-clause-form : goal.returns-in_ok-sum-in-Some-clause-form
returns-in_ok-sum-in-Some-clause-form g c =
    let bank = c.args.bank.now in
    let facts = c.args.facts.now in
    let want : List Summand → Option (List Product) =
    λ qs. if any_product bank qs then expanded MULTIPLY_LIMIT bank facts (products_of qs) [] else None in
    let e : want (c.args.total.now).parts ≡ Some c.as_slice.result.now =
    ap want (sym c.parts.ensures) ∙ subst (AreFound (want c.parts.result.now)) c.in-Some.is c.in_ok-products_in.ensures
    ∙ ap (λ (qs : List Product). Some qs) (sym c.as_slice.ensures.value) in
    subst (λ (m : Out Id). IfOk c.vanishes-in-Some.result (λ (id : Id). id ≡ m.value))
    (left_some (g.B.Book.kinds c.args.book.now) c.args.width facts c.args.total.now bank c.as_slice.result.now c.number.result c.in_ok-sum-in-Some.sum
    c.with_terms.new.bank c.number.ensures e c.in_ok-sum-in-Some.ensures.nodes c.in_ok-sum-in-Some.ensures.form) c.vanishes-in-Some.ensures.form
