use Rattle.std.proofs.Common.{[], subst, sym}
use Rattle.ygg_sym_spec.specs.Layers as layers
use Rattle.ygg_sym_spec.specs.declared.picks.SymPicks.TheVariants as picks
use Rattle.ygg_sym.proofs.SpecFailed.{call_form, call_nodes, can_crash, can_fall, choice_form, choice_nodes}
use Rattle.ygg_sym.proofs.spec_stops.SpecStopsSymStops.cut.Goals as goal

pub fall-requires : goal.fall-requires
fall-requires g c = record {
  can = subst (λ z. layers.CanCut ((c.args.self.now).machine).layer (picks.Inputs (c.args.self.now).last) c.args.bank.now c.in-Call.name.now z
      c.in-Call.args.now)
      (sym c.state.view_is)
      (can_fall c.args.self.now c.args.question c.in-Call.name c.in-Call.args c.args.state.now c.args.bank.now c.len.ensures.bank c.in-Call.is c.requires.cuts);
}

pub returns-in_ok-values-in-Choice-clause-nodes : goal.returns-in_ok-values-in-Choice-clause-nodes
returns-in_ok-values-in-Choice-clause-nodes g c =
    choice_nodes (g.B.Book.kinds c.args.book.now) c.args.self.now c.args.question c.args.state.now c.state.inside.values c.args.bank.now c.crash.new.bank
    c.in-Choice.is c.state.view_is c.in_ok-values-in-Choice.ensures.nodes

pub returns-in_ok-values-in-Choice-clause-form : goal.returns-in_ok-values-in-Choice-clause-form
returns-in_ok-values-in-Choice-clause-form g c =
    choice_form (g.B.Book.kinds c.args.book.now) c.args.self.now c.args.question c.args.state.now c.state.inside.values c.args.bank.now
    c.in_ok-values-in-Choice.values c.in-Choice.is c.state.view_is c.in_ok-values-in-Choice.ensures.form

pub crash-requires : goal.crash-requires
crash-requires g c = record {
  can = subst (λ z. layers.CanBlock ((c.args.self.now).machine).layer (picks.Inputs (c.args.self.now).last) c.args.bank.now
      ((((c.args.self.now).machine).layer.layer.now).crash) z [] [])
      (sym c.state.view_is) (can_crash c.args.self.now c.args.state.now c.args.bank.now c.requires.cuts.loses);
}

pub returns-in_ok-values-in-Call-clause-nodes : goal.returns-in_ok-values-in-Call-clause-nodes
returns-in_ok-values-in-Call-clause-nodes g c =
    call_nodes (g.B.Book.kinds c.args.book.now) c.args.self.now c.args.question c.in-Call.name c.in-Call.args c.args.state.now c.state.inside.values
    c.args.bank.now c.fall.new.bank c.in-Call.is c.state.view_is c.in_ok-values-in-Call.ensures.nodes

pub returns-in_ok-values-in-Call-clause-form : goal.returns-in_ok-values-in-Call-clause-form
returns-in_ok-values-in-Call-clause-form g c =
    call_form (g.B.Book.kinds c.args.book.now) c.args.self.now c.args.question c.in-Call.name c.in-Call.args c.args.state.now c.state.inside.values
    c.args.bank.now c.in_ok-values-in-Call.values c.in-Call.is c.state.view_is c.in_ok-values-in-Call.ensures.form
