use Rattle.std.proofs.Common.{◌≡◌, List, sym, ap, ◌∙◌, subst}
use Rattle.ygg_value.specs.declared.operation.Op.TheVariants.{And}
use Rattle.ygg_sym_spec.specs.ygg_bank.Makes.{Out}
use Rattle.ygg_sym_spec.specs.ygg_bank.Making.{made}
use Rattle.ygg_sym_spec.specs.ygg_bank_proofs_Widths.{extends_both, wider}
use Rattle.ygg_sym_spec.specs.ygg_bank.declared.node.Node.TheVariants.{Bin}
use Rattle.ygg_oblige_laws.specs.ygg_shape.Finding.{facts_in}
use Rattle.ygg_oblige_laws.specs.ygg_shape.declared.replacing.Replacement.{Replacement}
use Rattle.ygg_sym_spec.specs.Layers.{closed, terms_in}
use Rattle.ygg_oblige_laws.specs.TermStates.{Under, known_made, related_made, replaced_trio}
use Rattle.ygg_oblige_laws.specs.Worth.{TrioShaped}
use Rattle.ygg_oblige_laws.proofs.Starting.{trio_shaped, trio_wider}
use Rattle.ygg_oblige_laws.proofs.Under.{facts_wider}
use Rattle.ygg_oblige_parts.specs.Makers.{trio_of}
use Rattle.ygg_oblige_parts.proofs.Started.{under_from}
use Rattle.ygg_oblige_parts.proofs.states.Maker.related_under.Goals as goal

pub related-requires-2-clause-shaped : goal.related-requires-2-clause-shaped
related-requires-2-clause-shaped g c =
    let l = c.args.self.now.layer in
    let L = closed l in
    let x = trio_of c.args.x.now in
    let rs = c.in_ok-replacements.replacements in
    let to = extends_both c.args.bank.now c.related.new.bank c.known.new.bank c.related.ensures.grows
    (extends_both c.related.new.bank c.facts.new.bank c.known.new.bank c.facts.ensures.grows c.known.ensures.grows) in
    let fit = facts_wider c.facts.new.bank c.known.new.bank rs c.known.ensures.grows c.in_ok-replacements.ensures.fit in
    subst (TrioShaped L c.known.new.bank) (sym c.in_ok-from.ensures)
    (trio_shaped L c.known.new.bank rs x fit (trio_wider L c.args.bank.now c.known.new.bank x to c.requires.shaped))

pub join-requires-clause-one : goal.join-requires-clause-one
join-requires-clause-one g c = wider c.known.new.bank c.related-2.new.bank c.in_ok-known.known 1 c.related-2.ensures.grows c.in_ok-known.ensures.width

pub returns-clause-nodes : goal.returns-clause-nodes
returns-clause-nodes g c =
    let kinds = g.B.Book.kinds c.args.self.now.book.now in
    let l = c.args.self.now.layer in
    let L = closed l in
    let x = trio_of c.args.x.now in
    ap (λ (o : Out Under). o.nodes)
    (under_from (facts_in kinds) (known_made kinds) (related_made kinds (terms_in kinds l) L) (λ (rs : List Replacement). replaced_trio rs x)
    (λ a b. made kinds (Bin And a b)) (related_made kinds (terms_in kinds l) L x c.args.bank.now) c.in_ok-said.said c.in_ok-known.known c.in_ok-rest.rest c.in_ok-test.test c.in_ok-replacements.replacements (trio_of c.in_ok-from.from)
    c.related.new.bank c.facts.new.bank c.known.new.bank c.related-2.new.bank c.join.new.bank
    c.in_ok-said.ensures.id c.in_ok-said.ensures.nodes c.in_ok-replacements.ensures.form c.in_ok-replacements.ensures.nodes c.in_ok-from.ensures
    c.in_ok-known.ensures.id c.in_ok-known.ensures.nodes c.in_ok-rest.ensures.id c.in_ok-rest.ensures.nodes
    c.in_ok-test.ensures.id c.in_ok-test.ensures.nodes)

pub returns-clause-test : goal.returns-clause-test
returns-clause-test g c =
    let kinds = g.B.Book.kinds c.args.self.now.book.now in
    let l = c.args.self.now.layer in
    let L = closed l in
    let x = trio_of c.args.x.now in
    ap (λ (o : Out Under). o.value.test)
    (under_from (facts_in kinds) (known_made kinds) (related_made kinds (terms_in kinds l) L) (λ (rs : List Replacement). replaced_trio rs x)
    (λ a b. made kinds (Bin And a b)) (related_made kinds (terms_in kinds l) L x c.args.bank.now) c.in_ok-said.said c.in_ok-known.known c.in_ok-rest.rest c.in_ok-test.test c.in_ok-replacements.replacements (trio_of c.in_ok-from.from)
    c.related.new.bank c.facts.new.bank c.known.new.bank c.related-2.new.bank c.join.new.bank
    c.in_ok-said.ensures.id c.in_ok-said.ensures.nodes c.in_ok-replacements.ensures.form c.in_ok-replacements.ensures.nodes c.in_ok-from.ensures
    c.in_ok-known.ensures.id c.in_ok-known.ensures.nodes c.in_ok-rest.ensures.id c.in_ok-rest.ensures.nodes
    c.in_ok-test.ensures.id c.in_ok-test.ensures.nodes)

pub returns-clause-from : goal.returns-clause-from
returns-clause-from g c =
    let kinds = g.B.Book.kinds c.args.self.now.book.now in
    let l = c.args.self.now.layer in
    let L = closed l in
    let x = trio_of c.args.x.now in
    c.in_ok-from.ensures ∙ ap (λ (o : Out Under). replaced_trio o.value.facts x)
    (under_from (facts_in kinds) (known_made kinds) (related_made kinds (terms_in kinds l) L) (λ (rs : List Replacement). replaced_trio rs x)
    (λ a b. made kinds (Bin And a b)) (related_made kinds (terms_in kinds l) L x c.args.bank.now) c.in_ok-said.said c.in_ok-known.known c.in_ok-rest.rest c.in_ok-test.test c.in_ok-replacements.replacements (trio_of c.in_ok-from.from)
    c.related.new.bank c.facts.new.bank c.known.new.bank c.related-2.new.bank c.join.new.bank
    c.in_ok-said.ensures.id c.in_ok-said.ensures.nodes c.in_ok-replacements.ensures.form c.in_ok-replacements.ensures.nodes c.in_ok-from.ensures
    c.in_ok-known.ensures.id c.in_ok-known.ensures.nodes c.in_ok-rest.ensures.id c.in_ok-rest.ensures.nodes
    c.in_ok-test.ensures.id c.in_ok-test.ensures.nodes)

pub returns-in_err-replacements-clause-grows : goal.returns-in_err-replacements-clause-grows
returns-in_err-replacements-clause-grows g c =
    extends_both c.args.bank.now c.related.new.bank c.facts.new.bank c.related.ensures.grows
    c.facts.ensures.grows

pub returns-in_err-from-clause-grows : goal.returns-in_err-from-clause-grows
returns-in_err-from-clause-grows g c =
    extends_both c.args.bank.now c.related.new.bank c.facts.new.bank c.related.ensures.grows
    c.facts.ensures.grows

pub returns-in_err-known-clause-grows : goal.returns-in_err-known-clause-grows
returns-in_err-known-clause-grows g c =
    extends_both c.args.bank.now c.related.new.bank c.known.new.bank c.related.ensures.grows
    (extends_both c.related.new.bank c.facts.new.bank c.known.new.bank c.facts.ensures.grows
    c.known.ensures.grows)

pub returns-in_err-rest-clause-grows : goal.returns-in_err-rest-clause-grows
returns-in_err-rest-clause-grows g c =
    extends_both c.args.bank.now c.related.new.bank c.related-2.new.bank c.related.ensures.grows
    (extends_both c.related.new.bank c.facts.new.bank c.related-2.new.bank c.facts.ensures.grows
    (extends_both c.facts.new.bank c.known.new.bank c.related-2.new.bank c.known.ensures.grows
    c.related-2.ensures.grows))

pub returns-in_err-test-clause-grows : goal.returns-in_err-test-clause-grows
returns-in_err-test-clause-grows g c =
    extends_both c.args.bank.now c.related.new.bank c.join.new.bank c.related.ensures.grows
    (extends_both c.related.new.bank c.facts.new.bank c.join.new.bank c.facts.ensures.grows
    (extends_both c.facts.new.bank c.known.new.bank c.join.new.bank c.known.ensures.grows
    (extends_both c.known.new.bank c.related-2.new.bank c.join.new.bank c.related-2.ensures.grows
    c.join.ensures.grows)))

pub returns-clause-grows : goal.returns-clause-grows
returns-clause-grows g c =
    extends_both c.args.bank.now c.related.new.bank c.join.new.bank c.related.ensures.grows
    (extends_both c.related.new.bank c.facts.new.bank c.join.new.bank c.facts.ensures.grows
    (extends_both c.facts.new.bank c.known.new.bank c.join.new.bank c.known.ensures.grows
    (extends_both c.known.new.bank c.related-2.new.bank c.join.new.bank c.related-2.ensures.grows
    c.join.ensures.grows)))
