use Rattle.std.proofs.Common.{[], subst, sym}
use Rattle.ygg_sym_spec.specs.Layers as layers
use Rattle.ygg_sym_spec.specs.declared.picks.SymPicks.TheVariants as picks
use Rattle.ygg_sym.proofs.SpecFailed.{can_crash, lose_form, lose_nodes}
use Rattle.ygg_sym.proofs.spec_stops.SpecStopsSymStops.lose.Goals as goal

pub crash-requires : goal.crash-requires
crash-requires g c = record {
  can = subst (λ z. layers.CanBlock ((c.args.self.now).machine).layer (picks.Inputs (c.args.self.now).last) c.args.bank.now
      ((((c.args.self.now).machine).layer.layer.now).crash) z [] [])
      (sym c.state.view_is) (can_crash c.args.self.now c.args.state.now c.args.bank.now c.requires.loses);
}

pub returns-clause-nodes : goal.returns-clause-nodes
returns-clause-nodes g c =
    lose_nodes (g.B.Book.kinds c.args.book.now) c.args.self.now c.args.state.now c.state.inside.values c.args.bank.now c.crash.new.bank c.state.view_is
    c.in_ok-values.ensures.nodes

pub returns-clause-form : goal.returns-clause-form
returns-clause-form g c =
    lose_form (g.B.Book.kinds c.args.book.now) c.args.self.now c.args.state.now c.state.inside.values c.args.bank.now c.in_ok-values.values c.state.view_is
    c.in_ok-values.ensures.form
