use Rattle.std.proofs.Common.{◌≡◌, ℕ, ◌++◌, List, OnOk, IfOk, sym, ap, ◌∙◌, subst, arith}
use Rattle.ygg_oblige_laws.specs.ygg_bank.Inputs.{InputsBelow}
use Rattle.ygg_oblige_laws.specs.ygg_bank.Makes.{Out}
use Rattle.ygg_oblige_laws.specs.ygg_bank.declared.node.Id.{Id}
use Rattle.ygg_oblige_laws.specs.ygg_meaning.Obligations.{Obligation}
use Rattle.ygg_oblige.specs.Makers.{starting_of}
use Rattle.ygg_oblige.specs.Adding.{AddsAsked, names_of}
use Rattle.ygg_oblige_list.specs.Listing.{AreNumbered, asked_in}
use Rattle.ygg_oblige_list.specs.declared.listing.Asked.{Asked}
use Rattle.ygg_oblige.specs.Obligations as listed
use Rattle.ygg_oblige.proofs.Begun.{after_is, layer_is, layer_known}
use Rattle.ygg_oblige.proofs.layers.add_layer.Goals as goal

pub starting-requires : goal.starting-requires
starting-requires g c = record { layer = c.requires.site.layer; below = c.requires.free; room = omega (arith, c.in_ok-start.ensures) }

pub add_all-requires-clause-known : goal.add_all-requires-clause-known
add_all-requires-clause-known g c =
    let m = c.args.maker.now in
    layer_known (g.B.Book.kinds m.book.now) m.layer m.below c.requires.site.layer (asked_in c.as_slice.result.now)
    (ap asked_in c.as_slice.ensures.value ∙ c.in_ok-asked.ensures.asked)

pub add_all-requires-clause-free : goal.add_all-requires-clause-free
add_all-requires-clause-free g c = subst (λ (n : ℕ). InputsBelow n c.starting.new.bank) (sym c.in_ok-start.ensures) c.in_ok-s.ensures.inputs

pub returns-clause-nodes : goal.returns-clause-nodes
returns-clause-nodes g c =
    let m = c.args.maker.now in
    subst (λ (o : Out (List Id)). OnOk c.add_all.result (c.add_all.new.bank ≡ o.nodes))
    (layer_is (g.B.Book.kinds m.book.now) m.layer m.below c.args.number c.args.bank.now (asked_in c.as_slice.result.now) c.in_ok-start.start
    (ap asked_in c.as_slice.ensures.value ∙ c.in_ok-asked.ensures.asked) c.in_ok-start.ensures (starting_of c.in_ok-s.s) c.starting.new.bank
    c.in_ok-s.ensures.form c.in_ok-s.ensures.nodes) c.add_all.ensures.nodes

pub returns-clause-terms : goal.returns-clause-terms
returns-clause-terms g c =
    let m = c.args.maker.now in
    subst (λ (o : Out (List Id)). OnOk c.add_all.result (listed.terms_in c.add_all.new.all ≡ listed.terms_in c.args.all.now ++ o.value))
    (layer_is (g.B.Book.kinds m.book.now) m.layer m.below c.args.number c.args.bank.now (asked_in c.as_slice.result.now) c.in_ok-start.start
    (ap asked_in c.as_slice.ensures.value ∙ c.in_ok-asked.ensures.asked) c.in_ok-start.ensures (starting_of c.in_ok-s.s) c.starting.new.bank
    c.in_ok-s.ensures.form c.in_ok-s.ensures.nodes) c.add_all.ensures.terms

pub returns-clause-names : goal.returns-clause-names
returns-clause-names g c =
    subst (λ (os : List Obligation). OnOk c.add_all.result (listed.names_in c.add_all.new.all ≡ listed.names_in c.args.all.now
    ++ names_of c.args.maker.now.layer os)) (ap asked_in c.as_slice.ensures.value ∙ c.in_ok-asked.ensures.asked) c.add_all.ensures.names

pub returns-clause-next : goal.returns-clause-next
returns-clause-next g c =
    let m = c.args.maker.now in
    subst (λ (n : ℕ). IfOk c.add_all.result (λ (k : ℕ). k ≡ n))
    (after_is (g.B.Book.kinds m.book.now) m.layer m.below c.args.number c.args.bank.now (asked_in c.as_slice.result.now) c.in_ok-start.start
    (ap asked_in c.as_slice.ensures.value ∙ c.in_ok-asked.ensures.asked) c.in_ok-start.ensures) c.add_all.ensures.next

pub returns-clause-asked : goal.returns-clause-asked
returns-clause-asked g c =
    subst (λ (os : List Obligation). OnOk c.add_all.result (AddsAsked c.args.place (c.args.maker.now).layer.layer.now os c.args.all.now c.add_all.new.all))
    (ap asked_in c.as_slice.ensures.value ∙ c.in_ok-asked.ensures.asked) c.add_all.ensures.asked

pub add_all-requires-clause-numbered : goal.add_all-requires-clause-numbered
add_all-requires-clause-numbered g c =
    subst (λ (z : List Asked). AreNumbered (c.args.maker.now).layer.layer.now z) (sym c.as_slice.ensures.value) c.in_ok-asked.ensures.numbered
