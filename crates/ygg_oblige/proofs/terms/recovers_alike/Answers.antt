use Rattle.std.proofs.Common.{◌≡◌, OnOk, IfOk, subst}
use Rattle.ygg_oblige_parts.specs.ygg_bank_proofs_Widths.{extends_both}
use Rattle.ygg_oblige_parts.specs.ygg_bank.Makes.{Out}
use Rattle.ygg_oblige_parts.specs.ygg_bank.declared.node.Id.{Id}
use Rattle.ygg_oblige_parts.specs.ygg_sym_runs_proofs_Lows.{low_wider}
use Rattle.ygg_oblige_parts.proofs.of_ygg_sym_runs.Singles.{single_less}
use Rattle.ygg_oblige_parts.specs.Layers.{closed, terms_in}
use Rattle.ygg_oblige_parts.specs.Sites.{below_in}
use Rattle.ygg_oblige_parts.specs.ygg_oblige_laws.Terms.{recovered}
use Rattle.ygg_oblige.specs.Numbering.{numbers_in}
use Rattle.ygg_oblige.specs.Parts.{ends_alike}
use Rattle.ygg_oblige.proofs.Chains.{end_from}
use Rattle.ygg_oblige.proofs.terms.recovers_alike.Goals as goal

pub recovered-requires-clause-can : goal.recovered-requires-clause-can
recovered-requires-clause-can g c = record {
  site = c.requires.site;
  low_are = c.requires.fallen;
  single = single_less c.args.n.run c.args.n.wake c.args.bank.now c.requires.after.wake c.requires.single;
}

pub ends_alike-requires-clause-can : goal.ends_alike-requires-clause-can
ends_alike-requires-clause-can g c = record {
  site = c.requires.site;
  low_are = low_wider c.args.bank.now c.recovered.new.bank c.args.maker.now.layer.low.now c.args.low.now c.recovered.ensures.grows c.requires.low;
  single = single_less c.args.n.run c.args.n.other c.recovered.new.bank c.requires.after.other
      (c.in_ok-end.ensures.single c.args.n.run c.requires.single);
}

pub ends_alike-requires-clause-fallen : goal.ends_alike-requires-clause-fallen
ends_alike-requires-clause-fallen g c =
    low_wider c.args.bank.now c.recovered.new.bank c.args.maker.now.layer.low.now c.args.fallen.now c.recovered.ensures.grows c.requires.fallen

pub ends_alike-requires-clause-end : goal.ends_alike-requires-clause-end
ends_alike-requires-clause-end g c = c.in_ok-end.ensures.shape

pub returns-clause-nodes : goal.returns-clause-nodes
returns-clause-nodes g c =
    let kinds = g.B.Book.kinds c.args.maker.now.book.now in
    let l = c.args.maker.now.layer in
    let below = c.args.maker.now.below in
    let e = c.in_ok-end.end in
    subst (λ (p : Out Id). OnOk c.ends_alike.result (c.ends_alike.new.bank ≡ p.nodes))
    (end_from (recovered kinds (terms_in kinds l) (closed l) (below_in below) c.args.n.wake c.args.fallen.now c.args.bank.now)
    (λ answer memory base. ends_alike kinds l below (numbers_in c.args.n) c.args.low.now c.args.fallen.now memory base) e.answer e.memory e.low
    c.recovered.new.bank c.in_ok-end.ensures.end.answer c.in_ok-end.ensures.end.memory c.in_ok-end.ensures.end.low c.in_ok-end.ensures.nodes)
    c.ends_alike.ensures.nodes

pub returns-clause-id : goal.returns-clause-id
returns-clause-id g c =
    let kinds = g.B.Book.kinds c.args.maker.now.book.now in
    let l = c.args.maker.now.layer in
    let below = c.args.maker.now.below in
    let e = c.in_ok-end.end in
    subst (λ (p : Out Id). IfOk c.ends_alike.result (λ (id : Id). id ≡ p.value))
    (end_from (recovered kinds (terms_in kinds l) (closed l) (below_in below) c.args.n.wake c.args.fallen.now c.args.bank.now)
    (λ answer memory base. ends_alike kinds l below (numbers_in c.args.n) c.args.low.now c.args.fallen.now memory base) e.answer e.memory e.low
    c.recovered.new.bank c.in_ok-end.ensures.end.answer c.in_ok-end.ensures.end.memory c.in_ok-end.ensures.end.low c.in_ok-end.ensures.nodes)
    c.ends_alike.ensures.id

pub returns-clause-grows : goal.returns-clause-grows
returns-clause-grows g c =
    extends_both c.args.bank.now c.recovered.new.bank c.ends_alike.new.bank c.recovered.ensures.grows c.ends_alike.ensures.grows
