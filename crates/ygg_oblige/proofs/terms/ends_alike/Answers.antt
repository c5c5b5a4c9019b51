use Rattle.std.proofs.Common.{◌≡◌, OnOk, IfOk, subst}
use Rattle.ygg_oblige_parts.specs.ygg_bank_proofs_Widths.{extends_both}
use Rattle.ygg_oblige_parts.specs.ygg_bank.Makes.{Out}
use Rattle.ygg_oblige_parts.specs.ygg_bank.declared.node.Id.{Id}
use Rattle.ygg_oblige_parts.specs.ygg_sym_runs_proofs_Lows.{low_wider}
use Rattle.ygg_oblige_parts.specs.Layers.{closed, terms_in}
use Rattle.ygg_oblige_parts.specs.Sites.{below_in}
use Rattle.ygg_oblige_parts.specs.ygg_oblige_laws.Terms.{recovered}
use Rattle.ygg_oblige.specs.Parts.{settled_alike}
use Rattle.ygg_oblige.proofs.Alike.{end_wider}
use Rattle.ygg_oblige.proofs.Chains.{end_from}
use Rattle.ygg_oblige.proofs.terms.ends_alike.Goals as goal

pub settled_alike-requires-clause-site : goal.settled_alike-requires-clause-site
settled_alike-requires-clause-site g c = c.requires.can.site

pub settled_alike-requires-clause-fallen : goal.settled_alike-requires-clause-fallen
settled_alike-requires-clause-fallen g c =
    low_wider c.args.bank.now c.recovered.new.bank c.args.maker.now.layer.low.now c.args.fallen.now c.recovered.ensures.grows c.requires.fallen

pub settled_alike-requires-clause-one : goal.settled_alike-requires-clause-one
settled_alike-requires-clause-one g c =
    end_wider c.args.maker.now.layer c.args.bank.now c.recovered.new.bank c.args.end.now c.recovered.ensures.grows c.requires.end

pub settled_alike-requires-clause-two : goal.settled_alike-requires-clause-two
settled_alike-requires-clause-two g c = c.in_ok-other.ensures.shape

pub returns-clause-nodes : goal.returns-clause-nodes
returns-clause-nodes g c =
    let kinds = g.B.Book.kinds c.args.maker.now.book.now in
    let l = c.args.maker.now.layer in
    let below = c.args.maker.now.below in
    let e = c.in_ok-other.other in
    subst (λ (p : Out Id). OnOk c.settled_alike.result (c.settled_alike.new.bank ≡ p.nodes))
    (end_from (recovered kinds (terms_in kinds l) (closed l) (below_in below) c.args.n.other c.args.low.now c.args.bank.now)
    (λ answer memory base. settled_alike kinds l below c.args.fallen.now c.args.end.now.memory c.args.end.now.low memory base) e.answer e.memory e.low
    c.recovered.new.bank c.in_ok-other.ensures.end.answer c.in_ok-other.ensures.end.memory c.in_ok-other.ensures.end.low c.in_ok-other.ensures.nodes)
    c.settled_alike.ensures.nodes

pub returns-clause-id : goal.returns-clause-id
returns-clause-id g c =
    let kinds = g.B.Book.kinds c.args.maker.now.book.now in
    let l = c.args.maker.now.layer in
    let below = c.args.maker.now.below in
    let e = c.in_ok-other.other in
    subst (λ (p : Out Id). IfOk c.settled_alike.result (λ (id : Id). id ≡ p.value))
    (end_from (recovered kinds (terms_in kinds l) (closed l) (below_in below) c.args.n.other c.args.low.now c.args.bank.now)
    (λ answer memory base. settled_alike kinds l below c.args.fallen.now c.args.end.now.memory c.args.end.now.low memory base) e.answer e.memory e.low
    c.recovered.new.bank c.in_ok-other.ensures.end.answer c.in_ok-other.ensures.end.memory c.in_ok-other.ensures.end.low c.in_ok-other.ensures.nodes)
    c.settled_alike.ensures.id

pub returns-clause-grows : goal.returns-clause-grows
returns-clause-grows g c =
    extends_both c.args.bank.now c.recovered.new.bank c.settled_alike.new.bank c.recovered.ensures.grows c.settled_alike.ensures.grows
