use Rattle.std.proofs.Common.{◌≡◌, OnOk, IfOk, subst}
use Rattle.ygg_oblige_parts.specs.ygg_bank_proofs_Widths.{extends_both, wider}
use Rattle.ygg_oblige_parts.specs.ygg_bank.Makes.{Out}
use Rattle.ygg_oblige_parts.specs.ygg_bank.declared.node.Id.{Id}
use Rattle.ygg_oblige_parts.specs.ygg_sym_runs_proofs_Lows.{low_wider}
use Rattle.ygg_oblige_parts.proofs.of_ygg_sym_runs.Singles.{single_less}
use Rattle.ygg_oblige_parts.specs.Layers.{closed, terms_in}
use Rattle.ygg_oblige_parts.specs.Sites.{below_in}
use Rattle.ygg_oblige.proofs.Sites.{below_fits}
use Rattle.ygg_oblige_parts.specs.ygg_meaning.Obligations.{Idle}
use Rattle.ygg_oblige_laws.specs.ygg_sym_runs.Below.{lost_made}
use Rattle.ygg_oblige_parts.specs.ygg_oblige_laws.Terms.{recovers}
use Rattle.ygg_oblige.specs.Numbering.{numbers_in}
use Rattle.ygg_oblige.proofs.Alike.{no_values}
use Rattle.ygg_oblige.proofs.Chains.{without_from}
use Rattle.ygg_oblige.proofs.terms.idles.Goals as goal

pub lost-requires-clause-below : goal.lost-requires-clause-below
lost-requires-clause-below g c = below_fits c.args.maker.now.layer c.args.maker.now.below c.requires.site

pub lost-requires-clause-low : goal.lost-requires-clause-low
lost-requires-clause-low g c = c.requires.starting.from.low

pub lost-requires-clause-single : goal.lost-requires-clause-single
lost-requires-clause-single g c = single_less c.args.n.run c.args.n.last c.args.bank.now c.requires.after.last c.requires.single

pub recovers-requires-clause-can : goal.recovers-requires-clause-can
recovers-requires-clause-can g c =
    let l = c.args.maker.now.layer in
    let s = c.args.s.now in
    let old = c.args.bank.now in
    let one = c.lost.new.bank in
    record {
      recovers = record {
        site = c.requires.site;
        low_are = c.in_ok-fallen.ensures.shape;
        single = single_less c.args.n.run c.args.n.wake one c.requires.after.wake (c.in_ok-fallen.ensures.single c.args.n.run c.requires.single);
      };
      typed = tt;
      has = tt;
      silent = λ v answer. tt;
      hypothesis_is = wider old one s.related 1 c.lost.ensures.grows c.requires.starting.related;
      vars_are = low_wider old one l.layer.now.state s.from.vars c.lost.ensures.grows c.requires.starting.from.vars;
      args_are = no_values one c.new-none.result c.new-none.ensures;
    }

pub returns-clause-nodes : goal.returns-clause-nodes
returns-clause-nodes g c =
    let kinds = g.B.Book.kinds c.args.maker.now.book.now in
    let l = c.args.maker.now.layer in
    let below = c.args.maker.now.below in
    let L = closed l in
    let s = c.args.s.now in
    subst (λ (p : Out Id). OnOk c.recovers.result (c.recovers.new.bank ≡ p.nodes))
    (without_from (lost_made kinds (terms_in kinds l) (below_in below) c.args.n.last s.from.low c.args.bank.now)
    (λ fallen none. recovers kinds (terms_in kinds l) L (below_in below) Idle (numbers_in c.args.n) s.related s.from.vars none fallen) c.in_ok-fallen.fallen
    c.new-none.result c.lost.new.bank c.in_ok-fallen.ensures.form c.new-none.ensures c.in_ok-fallen.ensures.nodes) c.recovers.ensures.nodes

pub returns-clause-id : goal.returns-clause-id
returns-clause-id g c =
    let kinds = g.B.Book.kinds c.args.maker.now.book.now in
    let l = c.args.maker.now.layer in
    let below = c.args.maker.now.below in
    let L = closed l in
    let s = c.args.s.now in
    subst (λ (p : Out Id). IfOk c.recovers.result (λ (id : Id). id ≡ p.value))
    (without_from (lost_made kinds (terms_in kinds l) (below_in below) c.args.n.last s.from.low c.args.bank.now)
    (λ fallen none. recovers kinds (terms_in kinds l) L (below_in below) Idle (numbers_in c.args.n) s.related s.from.vars none fallen) c.in_ok-fallen.fallen
    c.new-none.result c.lost.new.bank c.in_ok-fallen.ensures.form c.new-none.ensures c.in_ok-fallen.ensures.nodes) c.recovers.ensures.id

pub returns-clause-grows : goal.returns-clause-grows
returns-clause-grows g c =
    extends_both c.args.bank.now c.lost.new.bank c.recovers.new.bank c.lost.ensures.grows c.recovers.ensures.grows
