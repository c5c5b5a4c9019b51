use Rattle.std.proofs.Common.{◌≡◌, OnOk, IfOk, subst}
use Rattle.ygg_oblige_parts.specs.ygg_bank_proofs_Widths.{extends_both, wider}
use Rattle.ygg_oblige_parts.specs.ygg_bank.Makes.{Out}
use Rattle.ygg_oblige_parts.specs.ygg_bank.declared.node.Id.{Id}
use Rattle.ygg_oblige_parts.specs.ygg_sym_runs_proofs_Lows.{low_wider}
use Rattle.ygg_oblige_parts.specs.Layers.{closed, terms_in}
use Rattle.ygg_oblige_parts.specs.ygg_oblige_laws.Numbers.{arguments_of}
use Rattle.ygg_oblige_parts.specs.ygg_oblige_laws.TermStates.{settled_made}
use Rattle.ygg_oblige_parts.specs.ObligePiecesSteps.{variables_of}
use Rattle.ygg_oblige_parts.specs.Passing.{some_in}
use Rattle.ygg_oblige_list.specs.InCode.{obligation_of}
use Rattle.ygg_oblige.proofs.Alike.{answer_wider}
use Rattle.ygg_oblige.proofs.Chains.{woken_from}
use Rattle.ygg_oblige.proofs.terms.woken.Goals as goal

pub settled-requires-clause-layer : goal.settled-requires-clause-layer
settled-requires-clause-layer g c = c.requires.can.recovers.site.layer

pub settled-requires-clause-shaped : goal.settled-requires-clause-shaped
settled-requires-clause-shaped g c = c.requires.can.recovers.low_are

pub passes_after-requires-clause-can : goal.passes_after-requires-clause-can
passes_after-requires-clause-can g c =
    let f = c.requires.can in
    let l = c.args.maker.now.layer in
    let o = obligation_of c.args.obligation in
    let old = c.args.bank.now in
    let two = c.settled.new.bank in
    let e = c.args.end.now in
    let stands = c.requires.end in
    let grows = c.settled.ensures.grows in
    record {
      layer = f.recovers.site.layer;
      typed = f.typed;
      has = f.has;
      vars_are = low_wider old two (variables_of (closed l) o) c.args.vars.now grows f.vars_are;
      args_are = low_wider old two (arguments_of o) c.args.args.now grows f.args_are;
      memory_are = low_wider old two l.layer.now.memory e.memory grows stands.memory;
      low_are = low_wider old two l.low.now e.low grows stands.low;
      answer_shaped = answer_wider old two e.answer grows stands.answer;
      answer_kept = λ inputs v h. f.silent v e.answer;
      single = c.in_ok-side.ensures.single c.args.first f.recovers.single;
    }

pub join-requires-clause-one : goal.join-requires-clause-one
join-requires-clause-one g c =
    wider c.settled.new.bank c.passes_after.new.bank c.in_ok-side.side 1 c.passes_after.ensures.grows c.in_ok-side.ensures.width

pub implied-requires-clause-one : goal.implied-requires-clause-one
implied-requires-clause-one g c =
    let a = c.args.hypothesis in
    wider c.passes_after.new.bank c.join.new.bank a 1 c.join.ensures.grows
    (wider c.settled.new.bank c.passes_after.new.bank a 1 c.passes_after.ensures.grows
    (wider c.args.bank.now c.settled.new.bank a 1 c.settled.ensures.grows c.requires.can.hypothesis_is))

pub returns-clause-nodes : goal.returns-clause-nodes
returns-clause-nodes g c =
    let kinds = g.B.Book.kinds c.args.maker.now.book.now in
    let l = c.args.maker.now.layer in
    let L = closed l in
    let e = c.args.end.now in
    subst (λ (p : Out Id). OnOk c.implied.result (c.implied.new.bank ≡ p.nodes))
    (woken_from kinds (settled_made kinds (terms_in kinds l) L c.args.fallen.now)
    (some_in kinds (terms_in kinds l) L (obligation_of c.args.obligation) c.args.vars.now c.args.args.now e.answer e.memory e.low) c.args.hypothesis
    c.in_ok-side.side c.in_ok-some.some c.in_ok-conclusion.conclusion c.args.bank.now c.settled.new.bank c.passes_after.new.bank c.join.new.bank
    c.in_ok-side.ensures.id c.in_ok-side.ensures.nodes c.in_ok-some.ensures.id c.in_ok-some.ensures.nodes c.in_ok-conclusion.ensures.id
    c.in_ok-conclusion.ensures.nodes) c.implied.ensures.nodes

pub returns-clause-id : goal.returns-clause-id
returns-clause-id g c =
    let kinds = g.B.Book.kinds c.args.maker.now.book.now in
    let l = c.args.maker.now.layer in
    let L = closed l in
    let e = c.args.end.now in
    subst (λ (p : Out Id). IfOk c.implied.result (λ (id : Id). id ≡ p.value))
    (woken_from kinds (settled_made kinds (terms_in kinds l) L c.args.fallen.now)
    (some_in kinds (terms_in kinds l) L (obligation_of c.args.obligation) c.args.vars.now c.args.args.now e.answer e.memory e.low) c.args.hypothesis
    c.in_ok-side.side c.in_ok-some.some c.in_ok-conclusion.conclusion c.args.bank.now c.settled.new.bank c.passes_after.new.bank c.join.new.bank
    c.in_ok-side.ensures.id c.in_ok-side.ensures.nodes c.in_ok-some.ensures.id c.in_ok-some.ensures.nodes c.in_ok-conclusion.ensures.id
    c.in_ok-conclusion.ensures.nodes) c.implied.ensures.id

pub returns-in_err-some-clause-grows : goal.returns-in_err-some-clause-grows
returns-in_err-some-clause-grows g c =
    extends_both c.args.bank.now c.settled.new.bank c.passes_after.new.bank c.settled.ensures.grows c.passes_after.ensures.grows

pub returns-in_err-conclusion-clause-grows : goal.returns-in_err-conclusion-clause-grows
returns-in_err-conclusion-clause-grows g c =
    extends_both c.args.bank.now c.settled.new.bank c.join.new.bank c.settled.ensures.grows
    (extends_both c.settled.new.bank c.passes_after.new.bank c.join.new.bank c.passes_after.ensures.grows c.join.ensures.grows)

pub returns-clause-grows : goal.returns-clause-grows
returns-clause-grows g c =
    extends_both c.args.bank.now c.settled.new.bank c.implied.new.bank c.settled.ensures.grows
    (extends_both c.settled.new.bank c.passes_after.new.bank c.implied.new.bank c.passes_after.ensures.grows
    (extends_both c.passes_after.new.bank c.join.new.bank c.implied.new.bank c.join.ensures.grows c.implied.ensures.grows))
