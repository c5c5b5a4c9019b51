use Rattle.std.proofs.Common.{◌≡◌, ◌+◌, OnOk, IfOk, subst}
use Rattle.ygg_sym_spec.specs.ygg_bank.Inputs.{InputsBelow}
use Rattle.ygg_sym_spec.specs.ygg_bank.Makes.{Out}
use Rattle.ygg_sym_spec.proofs.Carried.{on_nodes, on_value_of}
use Rattle.ygg_sym_spec.specs.Sites.{below_in}
use Rattle.ygg_sym_spec.specs.Layers.{closed, terms_in}
use Rattle.ygg_oblige_laws.specs.TermStates.{Starting, starting, state_words}
use Rattle.ygg_oblige_laws.proofs.Starting.{states_mean}
use Rattle.ygg_oblige_parts.specs.Makers.{StartingShaped, starting_of, trio_of}
use Rattle.ygg_oblige_parts.specs.declared.states.SymStarting.{SymStarting}
use Rattle.ygg_oblige_parts.proofs.Started.{starting_from, starting_stands}
use Rattle.ygg_sym_spec.specs.ygg_bank_proofs_Widths.{extends_both}
use Rattle.ygg_oblige_parts.proofs.states.Maker.starting.Goals as goal

pub returns-clause-nodes : goal.returns-clause-nodes
returns-clause-nodes g c =
    let kinds = g.B.Book.kinds c.args.self.now.book.now in
    let l = c.args.self.now.layer in
    subst (λ (o : Out Starting). OnOk c.started.result (c.started.new.bank ≡ o.nodes))
    (starting_from kinds (terms_in kinds l) (closed l) c.args.number c.args.bank.now (trio_of c.in_ok-x.x) c.fresh_trio.new.bank c.in_ok-x.ensures.form
    c.in_ok-x.ensures.nodes) c.started.ensures.nodes

pub returns-clause-form : goal.returns-clause-form
returns-clause-form g c =
    let kinds = g.B.Book.kinds c.args.self.now.book.now in
    let l = c.args.self.now.layer in
    subst (λ (o : Out Starting). IfOk c.started.result (λ (s : SymStarting). starting_of s ≡ o.value))
    (starting_from kinds (terms_in kinds l) (closed l) c.args.number c.args.bank.now (trio_of c.in_ok-x.x) c.fresh_trio.new.bank c.in_ok-x.ensures.form
    c.in_ok-x.ensures.nodes) c.started.ensures.form

pub returns-clause-shape : goal.returns-clause-shape
returns-clause-shape g c =
    let kinds = g.B.Book.kinds c.args.self.now.book.now in
    let l = c.args.self.now.layer in
    let L = closed l in
    on_value_of starting_of (λ nodes S. StartingShaped L nodes S) (starting kinds (terms_in kinds l) L c.args.number c.args.bank.now) c.started.new.bank
    c.started.result (returns-clause-nodes g c) (returns-clause-form g c) c.started.ensures.bank
    (starting_stands kinds l.defs.now (below_in c.args.self.now.below) L c.requires.layer c.args.number c.args.bank.now c.requires.below)

pub returns-clause-inputs : goal.returns-clause-inputs
returns-clause-inputs g c =
    let kinds = g.B.Book.kinds c.args.self.now.book.now in
    let l = c.args.self.now.layer in
    let L = closed l in
    on_nodes (InputsBelow (c.args.number + state_words L)) (starting kinds (terms_in kinds l) L c.args.number c.args.bank.now) c.started.new.bank
    c.started.result (returns-clause-nodes g c)
    (let m = states_mean kinds l.defs.now (below_in c.args.self.now.below) L c.requires.layer in
    m.starting_below c.args.number c.args.bank.now c.requires.below)

pub returns-clause-grows : goal.returns-clause-grows
returns-clause-grows g c =
    extends_both c.args.bank.now c.fresh_trio.new.bank c.started.new.bank c.fresh_trio.ensures.grows c.started.ensures.grows
