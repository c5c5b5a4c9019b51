use Rattle.ygg_sym_runs.specs.ygg_bank_proofs_Widths.{extends_self}
use Rattle.std.proofs.Common.{◌+◌, arith}
use Rattle.ygg_sym_runs.specs.Lower.{question_of}
use Rattle.ygg_sym_runs.specs.Specs.{input_pick, spec_handles}
use Rattle.ygg_sym_spec.proofs.Asked.{answer_along, call_goes, can_cut, state_along}
use Rattle.ygg_sym_spec.proofs.Going.{nodes_along}
use Rattle.ygg_sym_spec.specs.Layers.{closed, terms_in}
use Rattle.ygg_sym_spec.specs.Machine.{call_of}
use Rattle.ygg_sym_spec.proofs.machine.SymSpecSymLower.handle.Goals as goal

pub call-requires : goal.call-requires
call-requires g c = record {
  can = can_cut c.args.self.now c.args.question c.in-Call.name c.in-Call.args c.args.state.now c.args.bank.now c.in-Some.first c.len.ensures.bank c.in-Call.is
      (let e = c.in-Some.ensures in omega (arith, e.1)) c.requires.asks;
}

pub returns-in-Some-clause-nodes : goal.returns-in-Some-clause-nodes
returns-in-Some-clause-nodes g c =
    let kinds = g.B.Book.kinds c.args.book.now in
    let m = c.args.self.now in
    let e = c.in-Some.ensures in
    nodes_along (call_of kinds m.layer c.in-Some.first c.in-Call.name.now c.in-Call.args.now c.args.state.now c.args.bank.now)
    (spec_handles kinds (terms_in kinds m.layer) (closed m.layer) (λ k. input_pick kinds m.first (c.args.place + k)) (question_of c.args.question)
    c.args.state.now c.args.bank.now) c.call.new.bank c.call.result
    (call_goes kinds m c.args.place c.in-Some.first c.args.question c.in-Call.name c.in-Call.args c.args.state.now c.args.bank.now
    e.1 c.in-Call.is) c.call.ensures.nodes

pub returns-in-Some-clause-answer : goal.returns-in-Some-clause-answer
returns-in-Some-clause-answer g c =
    let kinds = g.B.Book.kinds c.args.book.now in
    let m = c.args.self.now in
    let e = c.in-Some.ensures in
    answer_along (call_of kinds m.layer c.in-Some.first c.in-Call.name.now c.in-Call.args.now c.args.state.now c.args.bank.now)
    (spec_handles kinds (terms_in kinds m.layer) (closed m.layer) (λ k. input_pick kinds m.first (c.args.place + k)) (question_of c.args.question)
    c.args.state.now c.args.bank.now) c.call.new.state c.call.result
    (call_goes kinds m c.args.place c.in-Some.first c.args.question c.in-Call.name c.in-Call.args c.args.state.now c.args.bank.now
    e.1 c.in-Call.is) c.call.ensures.form

pub returns-in-Some-clause-state : goal.returns-in-Some-clause-state
returns-in-Some-clause-state g c =
    let kinds = g.B.Book.kinds c.args.book.now in
    let m = c.args.self.now in
    let e = c.in-Some.ensures in
    state_along (call_of kinds m.layer c.in-Some.first c.in-Call.name.now c.in-Call.args.now c.args.state.now c.args.bank.now)
    (spec_handles kinds (terms_in kinds m.layer) (closed m.layer) (λ k. input_pick kinds m.first (c.args.place + k)) (question_of c.args.question)
    c.args.state.now c.args.bank.now) c.call.new.state c.call.result
    (call_goes kinds m c.args.place c.in-Some.first c.args.question c.in-Call.name c.in-Call.args c.args.state.now c.args.bank.now
    e.1 c.in-Call.is) c.call.ensures.form

pub returns-in-None-clause-grows : goal.returns-in-None-clause-grows
returns-in-None-clause-grows g c = extends_self c.args.bank.now

pub returns-in-Choice-clause-grows : goal.returns-in-Choice-clause-grows
returns-in-Choice-clause-grows g c = extends_self c.args.bank.now
