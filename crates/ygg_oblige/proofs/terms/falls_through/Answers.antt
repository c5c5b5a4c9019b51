use Rattle.std.proofs.Common.{◌≡◌, List, OnOk, IfOk, refl, sym, subst}
use Rattle.ygg_oblige_parts.specs.ygg_bank_proofs_Widths.{extends_both, wider}
use Rattle.ygg_oblige_parts.specs.ygg_bank.Makes.{Out}
use Rattle.ygg_oblige_parts.specs.ygg_bank.declared.node.Id.{Id}
use Rattle.ygg_oblige_parts.specs.ygg_sym_runs.Lows.{LowShaped}
use Rattle.ygg_oblige_parts.specs.ygg_sym_runs_proofs_Lows.{low_wider}
use Rattle.ygg_oblige_parts.proofs.of_ygg_sym_runs.Singles.{single_less}
use Rattle.ygg_oblige_parts.specs.Layers.{closed, terms_in}
use Rattle.ygg_oblige_parts.specs.Sites.{below_in}
use Rattle.ygg_oblige.proofs.Sites.{below_fits, block_fits_is}
use Rattle.ygg_syntax.specs.declared.tree.Declared.{Declared}
use Rattle.ygg_oblige_parts.specs.ygg_sym_runs.Names.{sym_bind}
use Rattle.ygg_oblige_laws.specs.ygg_sym_runs.Below.{cut_made}
use Rattle.ygg_oblige_parts.specs.ygg_oblige_laws.Numbers.{arguments_of, block_of}
use Rattle.ygg_oblige_parts.specs.ygg_oblige_laws.Terms.{recovers}
use Rattle.ygg_oblige_parts.specs.ObligePiecesSteps.{variables_of}
use Rattle.ygg_oblige_list.specs.InCode.{obligation_of}
use Rattle.ygg_oblige.specs.Numbering.{numbers_in}
use Rattle.ygg_oblige.proofs.Chains.{falls_from}
use Rattle.ygg_oblige.proofs.terms.falls_through.Goals as goal

pub cut-requires-clause-can : goal.cut-requires-clause-can
cut-requires-clause-can g c =
    let f = c.requires.can in
    let l = c.args.maker.now.layer in
    let below = c.args.maker.now.below in
    let o = obligation_of c.args.obligation in
    let b = block_fits_is l below o c.block_of.result.now (block_of (closed l) o) c.arguments_of.result.now (arguments_of o)
    (c.block_of.ensures (closed l) refl) c.arguments_of.ensures f.block in
    record {
      below = below_fits l below f.site;
      typed = b.typed;
      memory_are = f.starting.from.memory;
      args_are = subst (λ (ds : List Declared). LowShaped c.args.bank.now ds c.args.args.now) (sym c.arguments_of.ensures) f.args_are;
      low_are = f.starting.from.low;
    }

pub cut-requires-clause-single : goal.cut-requires-clause-single
cut-requires-clause-single g c = c.requires.can.single

pub cut-requires-clause-stop : goal.cut-requires-clause-stop
cut-requires-clause-stop g c = c.requires.can.after.stop

pub cut-requires-clause-last : goal.cut-requires-clause-last
cut-requires-clause-last g c = c.requires.can.after.last

pub join-requires-clause-one : goal.join-requires-clause-one
join-requires-clause-one g c =
    wider c.args.bank.now c.cut.new.bank c.args.s.now.related 1 c.cut.ensures.grows c.requires.can.starting.related

pub recovers-requires-clause-can : goal.recovers-requires-clause-can
recovers-requires-clause-can g c =
    let f = c.requires.can in
    let l = c.args.maker.now.layer in
    let o = obligation_of c.args.obligation in
    let s = c.args.s.now in
    let old = c.args.bank.now in
    let one = c.cut.new.bank in
    let two = c.join.new.bank in
    let left = c.in_ok-left.left in
    let grows = extends_both old one two c.cut.ensures.grows c.join.ensures.grows in
    record {
      recovers = record {
        site = f.site;
        low_are = low_wider one two l.low.now left.fallen c.join.ensures.grows c.in_ok-left.ensures.shape;
        single = single_less c.args.n.run c.args.n.wake two f.after.wake
            (c.in_ok-hypothesis.ensures.single c.args.n.run (c.in_ok-left.ensures.single c.args.n.run f.single));
      };
      typed = f.typed;
      has = f.has;
      silent = c.requires.silent;
      hypothesis_is = c.in_ok-hypothesis.ensures.width;
      vars_are = low_wider old two (variables_of (closed l) o) s.from.vars grows f.vars_are;
      args_are = low_wider old two (arguments_of o) c.args.args.now grows f.args_are;
    }

pub returns-clause-nodes : goal.returns-clause-nodes
returns-clause-nodes g c =
    let kinds = g.B.Book.kinds c.args.maker.now.book.now in
    let l = c.args.maker.now.layer in
    let below = c.args.maker.now.below in
    let L = closed l in
    let o = obligation_of c.args.obligation in
    let s = c.args.s.now in
    let e = c.in_ok-left.left in
    subst (λ (p : Out Id). OnOk c.recovers.result (c.recovers.new.bank ≡ p.nodes))
    (falls_from kinds
    (λ b ds. cut_made kinds (terms_in kinds l) (below_in below) c.args.n.run c.args.n.stop c.args.n.last b (sym_bind L.layer.memory s.from.memory)
    (sym_bind ds c.args.args.now) s.from.low c.args.bank.now)
    (λ hypothesis fallen. recovers kinds (terms_in kinds l) L (below_in below) o (numbers_in c.args.n) hypothesis s.from.vars c.args.args.now fallen) s.related
    c.block_of.result.now (block_of L o) c.arguments_of.result.now (arguments_of o) e.fallen e.reached c.in_ok-hypothesis.hypothesis c.cut.new.bank
    c.join.new.bank (c.block_of.ensures L refl) c.arguments_of.ensures c.in_ok-left.ensures.end.fallen c.in_ok-left.ensures.end.reached
    c.in_ok-left.ensures.nodes c.in_ok-hypothesis.ensures.id c.in_ok-hypothesis.ensures.nodes) c.recovers.ensures.nodes

pub returns-clause-id : goal.returns-clause-id
returns-clause-id g c =
    let kinds = g.B.Book.kinds c.args.maker.now.book.now in
    let l = c.args.maker.now.layer in
    let below = c.args.maker.now.below in
    let L = closed l in
    let o = obligation_of c.args.obligation in
    let s = c.args.s.now in
    let e = c.in_ok-left.left in
    subst (λ (p : Out Id). IfOk c.recovers.result (λ (id : Id). id ≡ p.value))
    (falls_from kinds
    (λ b ds. cut_made kinds (terms_in kinds l) (below_in below) c.args.n.run c.args.n.stop c.args.n.last b (sym_bind L.layer.memory s.from.memory)
    (sym_bind ds c.args.args.now) s.from.low c.args.bank.now)
    (λ hypothesis fallen. recovers kinds (terms_in kinds l) L (below_in below) o (numbers_in c.args.n) hypothesis s.from.vars c.args.args.now fallen) s.related
    c.block_of.result.now (block_of L o) c.arguments_of.result.now (arguments_of o) e.fallen e.reached c.in_ok-hypothesis.hypothesis c.cut.new.bank
    c.join.new.bank (c.block_of.ensures L refl) c.arguments_of.ensures c.in_ok-left.ensures.end.fallen c.in_ok-left.ensures.end.reached
    c.in_ok-left.ensures.nodes c.in_ok-hypothesis.ensures.id c.in_ok-hypothesis.ensures.nodes) c.recovers.ensures.id

pub returns-in_err-hypothesis-clause-grows : goal.returns-in_err-hypothesis-clause-grows
returns-in_err-hypothesis-clause-grows g c =
    extends_both c.args.bank.now c.cut.new.bank c.join.new.bank c.cut.ensures.grows c.join.ensures.grows

pub returns-clause-grows : goal.returns-clause-grows
returns-clause-grows g c =
    extends_both c.args.bank.now c.cut.new.bank c.recovers.new.bank c.cut.ensures.grows
    (extends_both c.cut.new.bank c.join.new.bank c.recovers.new.bank c.join.ensures.grows
    c.recovers.ensures.grows)
