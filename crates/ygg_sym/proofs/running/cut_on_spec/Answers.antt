use Rattle.std.proofs.Common.{◌++◌, length, refl, sym, ap, subst, ◌∙◌}
use Rattle.std.specs.Prelude.{min}
use Rattle.ygg_sym_spec.specs.ygg_sym_runs.Names.{sym_bind}
use Rattle.ygg_sym_spec.proofs.of_ygg_sym_runs.Singles.{single_less}
use Rattle.ygg_sym.proofs.WholeRun.{lows_count}
use Rattle.ygg_sym.specs.Machine.{spec_meaning}
use Rattle.ygg_sym.specs.SpecFailing.{spec_power}
use Rattle.ygg_sym.proofs.Placed.{spec_lower, spec_same, spec_stands, spec_space, spec_stops_same}
use Rattle.ygg_sym.proofs.Ran.{can_whole, cut_nodes, cut_end, least}
use Rattle.ygg_sym.specs.Running.{CutIs, cut_of}
use Rattle.ygg_sym.proofs.running.cut_on_spec.Goals as goal

pub cut_with-requires : goal.cut_with-requires
cut_with-requires g c =
    let kinds = g.B.Book.kinds c.args.book.now in
    record {
      can = can_whole kinds c.args.at c.args.bank.now c.args.memory.now c.args.args.now c.args.low.now c.requires.can
          (spec_meaning (record { layer = c.args.spec; first = c.args.first })) (spec_lower c.args.at.layer c.args.at.below (c.requires.can).below c.args.spec
          c.requires.below c.args.first) refl
          (spec_stands c.args.at.layer c.args.at.below (c.requires.can).below c.args.spec c.requires.below c.args.first c.args.bank.now c.args.low.now
          (c.requires.can).low_are c.requires.single)
          (sym_bind c.as_slice-variables.result.now c.args.memory.now ++ sym_bind c.args.at.names.now c.args.args.now)
          (ap (λ z. sym_bind z c.args.memory.now ++ sym_bind c.args.at.names.now c.args.args.now) c.as_slice-variables.ensures) c.in_ok-values.values
          c.in_ok-values.ensures;
      single = single_less c.args.first (min c.args.stop c.args.last) c.args.bank.now
          (least c.args.first c.args.stop c.args.last c.requires.stop c.requires.last) c.requires.single;
      vars = ap length c.as_slice-variables.ensures ∙ lows_count c.args.bank.now (c.args.at.layer.layer.now).memory c.args.memory.now
          (c.requires.can).memory_are;
      args = lows_count c.args.bank.now c.args.at.names.now c.args.args.now (c.requires.can).args_are;
    }

pub returns-clause-single : goal.returns-clause-single
returns-clause-single g c = (c.in_ok-end.ensures.fall).single

pub returns-clause-nodes : goal.returns-clause-nodes
returns-clause-nodes g c =
    let kinds = g.B.Book.kinds c.args.book.now in
    cut_nodes kinds c.args.at c.args.bank.now c.args.memory.now c.args.args.now c.args.low.now c.requires.can
    (spec_meaning (record { layer = c.args.spec; first = c.args.first }))
    c.args.first (spec_same c.args.at.layer c.args.at.below (c.requires.can).below c.args.spec c.requires.below c.args.first kinds)
    (spec_power (record { machine = record { layer = c.args.spec; first = c.args.first }; stop = c.args.stop; last = c.args.last })) c.args.stop c.args.last
    (spec_space c.args.at.layer c.args.at.below (c.requires.can).below c.args.spec c.requires.below c.args.first kinds)
    (spec_stops_same c.args.at.layer c.args.at.below (c.requires.can).below c.args.spec c.requires.below c.args.first kinds c.args.stop c.args.last)
    c.as_slice-variables.result.now c.in_ok-values.values c.cut_with.new.bank (c.in_ok-end.end).fallen (c.in_ok-end.end).reached c.in_ok-end.ensures.fall
    c.as_slice-variables.ensures c.in_ok-values.ensures

pub returns-clause-end : goal.returns-clause-end
returns-clause-end g c =
    let kinds = g.B.Book.kinds c.args.book.now in
    subst (λ z. CutIs (cut_of kinds c.args.at c.args.first c.args.stop c.args.last c.args.memory.now c.args.args.now c.args.low.now c.args.bank.now).value
    (record { fallen = z.fallen; reached = z.reached })) (sym c.end.view_is)
    (cut_end kinds c.args.at c.args.bank.now c.args.memory.now c.args.args.now c.args.low.now c.requires.can
    (spec_meaning (record { layer = c.args.spec; first = c.args.first }))
    c.args.first (spec_same c.args.at.layer c.args.at.below (c.requires.can).below c.args.spec c.requires.below c.args.first kinds)
    (spec_power (record { machine = record { layer = c.args.spec; first = c.args.first }; stop = c.args.stop; last = c.args.last })) c.args.stop c.args.last
    (spec_space c.args.at.layer c.args.at.below (c.requires.can).below c.args.spec c.requires.below c.args.first kinds)
    (spec_stops_same c.args.at.layer c.args.at.below (c.requires.can).below c.args.spec c.requires.below c.args.first kinds c.args.stop c.args.last)
    c.as_slice-variables.result.now c.in_ok-values.values c.cut_with.new.bank (c.in_ok-end.end).fallen (c.in_ok-end.end).reached c.in_ok-end.ensures.fall
    c.as_slice-variables.ensures c.in_ok-values.ensures)
