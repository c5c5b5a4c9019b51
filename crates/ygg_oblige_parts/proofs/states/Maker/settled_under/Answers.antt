use Rattle.std.proofs.Common.{◌≡◌, List, sym, ap, ◌∙◌, subst}
use Rattle.ygg_value.specs.declared.operation.Op.TheVariants.{And}
use Rattle.ygg_sym_spec.specs.ygg_bank.Makes.{Out}
use Rattle.ygg_sym_spec.specs.ygg_bank.Making.{made}
use Rattle.ygg_sym_spec.specs.ygg_bank_proofs_Widths.{extends_both, wider}
use Rattle.ygg_sym_spec.specs.ygg_bank.declared.node.Node.TheVariants.{Bin}
use Rattle.ygg_oblige_laws.specs.ygg_shape.Finding.{facts_in}
use Rattle.ygg_oblige_laws.specs.ygg_shape.declared.replacing.Replacement.{Replacement}
use Rattle.ygg_sym_spec.specs.Layers.{closed, terms_in}
use Rattle.ygg_sym_spec.specs.ygg_sym_runs.Lows.{LowShaped}
use Rattle.ygg_sym_spec.specs.ygg_sym_runs_proofs_Lows.{low_wider}
use Rattle.ygg_oblige_laws.specs.TermStates.{Under, known_made, settled_made, replaced_all}
use Rattle.ygg_oblige_laws.proofs.Starting.{all_shaped}
use Rattle.ygg_oblige_laws.proofs.Under.{facts_wider}
use Rattle.ygg_oblige_parts.proofs.Started.{under_from}
use Rattle.ygg_oblige_parts.proofs.states.Maker.settled_under.Goals as goal

pub settled-requires-2-clause-shaped : goal.settled-requires-2-clause-shaped
settled-requires-2-clause-shaped g c =
    let ds = c.args.self.now.layer.low.now in
    let low = c.args.low.now in
    let rs = c.in_ok-replacements.replacements in
    let to = extends_both c.args.bank.now c.settled.new.bank c.known.new.bank c.settled.ensures.grows
    (extends_both c.settled.new.bank c.facts.new.bank c.known.new.bank c.facts.ensures.grows c.known.ensures.grows) in
    let fit = facts_wider c.facts.new.bank c.known.new.bank rs c.known.ensures.grows c.in_ok-replacements.ensures.fit in
    subst (LowShaped c.known.new.bank ds) (sym c.in_ok-from.ensures)
    (all_shaped c.known.new.bank rs ds low fit (low_wider c.args.bank.now c.known.new.bank ds low to c.requires.shaped))

pub join-requires-clause-one : goal.join-requires-clause-one
join-requires-clause-one g c = wider c.known.new.bank c.settled-2.new.bank c.in_ok-known.known 1 c.settled-2.ensures.grows c.in_ok-known.ensures.width

pub returns-clause-nodes : goal.returns-clause-nodes
returns-clause-nodes g c =
    let kinds = g.B.Book.kinds c.args.self.now.book.now in
    let l = c.args.self.now.layer in
    let L = closed l in
    let x = c.args.low.now in
    ap (λ (o : Out Under). o.nodes)
    (under_from (facts_in kinds) (known_made kinds) (settled_made kinds (terms_in kinds l) L) (λ (rs : List Replacement). replaced_all rs x)
    (λ a b. made kinds (Bin And a b)) (settled_made kinds (terms_in kinds l) L x c.args.bank.now) c.in_ok-said.said c.in_ok-known.known c.in_ok-rest.rest c.in_ok-test.test c.in_ok-replacements.replacements c.in_ok-from.from
    c.settled.new.bank c.facts.new.bank c.known.new.bank c.settled-2.new.bank c.join.new.bank
    c.in_ok-said.ensures.id c.in_ok-said.ensures.nodes c.in_ok-replacements.ensures.form c.in_ok-replacements.ensures.nodes c.in_ok-from.ensures
    c.in_ok-known.ensures.id c.in_ok-known.ensures.nodes c.in_ok-rest.ensures.id c.in_ok-rest.ensures.nodes
    c.in_ok-test.ensures.id c.in_ok-test.ensures.nodes)

pub returns-clause-test : goal.returns-clause-test
returns-clause-test g c =
    let kinds = g.B.Book.kinds c.args.self.now.book.now in
    let l = c.args.self.now.layer in
    let L = closed l in
    let x = c.args.low.now in
    ap (λ (o : Out Under). o.value.test)
    (under_from (facts_in kinds) (known_made kinds) (settled_made kinds (terms_in kinds l) L) (λ (rs : List Replacement). replaced_all rs x)
    (λ a b. made kinds (Bin And a b)) (settled_made kinds (terms_in kinds l) L x c.args.bank.now) c.in_ok-said.said c.in_ok-known.known c.in_ok-rest.rest c.in_ok-test.test c.in_ok-replacements.replacements c.in_ok-from.from
    c.settled.new.bank c.facts.new.bank c.known.new.bank c.settled-2.new.bank c.join.new.bank
    c.in_ok-said.ensures.id c.in_ok-said.ensures.nodes c.in_ok-replacements.ensures.form c.in_ok-replacements.ensures.nodes c.in_ok-from.ensures
    c.in_ok-known.ensures.id c.in_ok-known.ensures.nodes c.in_ok-rest.ensures.id c.in_ok-rest.ensures.nodes
    c.in_ok-test.ensures.id c.in_ok-test.ensures.nodes)

pub returns-clause-low : goal.returns-clause-low
returns-clause-low g c =
    let kinds = g.B.Book.kinds c.args.self.now.book.now in
    let l = c.args.self.now.layer in
    let L = closed l in
    let x = c.args.low.now in
    c.in_ok-from.ensures ∙ ap (λ (o : Out Under). replaced_all o.value.facts x)
    (under_from (facts_in kinds) (known_made kinds) (settled_made kinds (terms_in kinds l) L) (λ (rs : List Replacement). replaced_all rs x)
    (λ a b. made kinds (Bin And a b)) (settled_made kinds (terms_in kinds l) L x c.args.bank.now) c.in_ok-said.said c.in_ok-known.known c.in_ok-rest.rest c.in_ok-test.test c.in_ok-replacements.replacements c.in_ok-from.from
    c.settled.new.bank c.facts.new.bank c.known.new.bank c.settled-2.new.bank c.join.new.bank
    c.in_ok-said.ensures.id c.in_ok-said.ensures.nodes c.in_ok-replacements.ensures.form c.in_ok-replacements.ensures.nodes c.in_ok-from.ensures
    c.in_ok-known.ensures.id c.in_ok-known.ensures.nodes c.in_ok-rest.ensures.id c.in_ok-rest.ensures.nodes
    c.in_ok-test.ensures.id c.in_ok-test.ensures.nodes)

pub returns-in_err-replacements-clause-grows : goal.returns-in_err-replacements-clause-grows
returns-in_err-replacements-clause-grows g c =
    extends_both c.args.bank.now c.settled.new.bank c.facts.new.bank c.settled.ensures.grows
    c.facts.ensures.grows

pub returns-in_err-from-clause-grows : goal.returns-in_err-from-clause-grows
returns-in_err-from-clause-grows g c =
    extends_both c.args.bank.now c.settled.new.bank c.facts.new.bank c.settled.ensures.grows
    c.facts.ensures.grows

pub returns-in_err-known-clause-grows : goal.returns-in_err-known-clause-grows
returns-in_err-known-clause-grows g c =
    extends_both c.args.bank.now c.settled.new.bank c.known.new.bank c.settled.ensures.grows
    (extends_both c.settled.new.bank c.facts.new.bank c.known.new.bank c.facts.ensures.grows
    c.known.ensures.grows)

pub returns-in_err-rest-clause-grows : goal.returns-in_err-rest-clause-grows
returns-in_err-rest-clause-grows g c =
    extends_both c.args.bank.now c.settled.new.bank c.settled-2.new.bank c.settled.ensures.grows
    (extends_both c.settled.new.bank c.facts.new.bank c.settled-2.new.bank c.facts.ensures.grows
    (extends_both c.facts.new.bank c.known.new.bank c.settled-2.new.bank c.known.ensures.grows
    c.settled-2.ensures.grows))

pub returns-in_err-test-clause-grows : goal.returns-in_err-test-clause-grows
returns-in_err-test-clause-grows g c =
    extends_both c.args.bank.now c.settled.new.bank c.join.new.bank c.settled.ensures.grows
    (extends_both c.settled.new.bank c.facts.new.bank c.join.new.bank c.facts.ensures.grows
    (extends_both c.facts.new.bank c.known.new.bank c.join.new.bank c.known.ensures.grows
    (extends_both c.known.new.bank c.settled-2.new.bank c.join.new.bank c.settled-2.ensures.grows
    c.join.ensures.grows)))

pub returns-clause-grows : goal.returns-clause-grows
returns-clause-grows g c =
    extends_both c.args.bank.now c.settled.new.bank c.join.new.bank c.settled.ensures.grows
    (extends_both c.settled.new.bank c.facts.new.bank c.join.new.bank c.facts.ensures.grows
    (extends_both c.facts.new.bank c.known.new.bank c.join.new.bank c.known.ensures.grows
    (extends_both c.known.new.bank c.settled-2.new.bank c.join.new.bank c.settled-2.ensures.grows
    c.join.ensures.grows)))
