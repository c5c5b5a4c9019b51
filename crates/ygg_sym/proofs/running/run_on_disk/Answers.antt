use Rattle.std.proofs.Common.{◌++◌, length, refl, sym, ap, subst, ◌∙◌}
use Rattle.ygg_sym_spec.specs.ygg_sym_runs.Names.{sym_bind}
use Rattle.ygg_sym.proofs.WholeRun.{lows_count}
use Rattle.ygg_sym_machine.specs.Means.{disk_meaning}
use Rattle.ygg_sym.proofs.Placed.{disk_lower, disk_same, disk_stands}
use Rattle.ygg_sym.proofs.Ran.{can_whole, run_nodes, run_end}
use Rattle.ygg_sym.specs.Running.{EndIs, run_of}
use Rattle.ygg_sym.proofs.running.run_on_disk.Goals as goal

pub run_with-requires : goal.run_with-requires
run_with-requires g c =
    let kinds = g.B.Book.kinds c.args.book.now in
    record {
      can = can_whole kinds c.args.at c.args.bank.now c.args.memory.now c.args.args.now c.args.low.now c.requires.can
          (disk_meaning (record { disk = c.args.disk; first = c.args.first })) (disk_lower c.args.at.layer c.args.at.below (c.requires.can).below c.args.disk
          c.requires.below c.args.first) refl
          (disk_stands c.args.at.layer c.args.at.below (c.requires.can).below c.args.disk c.requires.below c.args.first c.args.bank.now c.args.low.now
          (c.requires.can).low_are c.requires.single)
          (sym_bind c.as_slice-variables.result.now c.args.memory.now ++ sym_bind c.args.at.names.now c.args.args.now)
          (ap (λ z. sym_bind z c.args.memory.now ++ sym_bind c.args.at.names.now c.args.args.now) c.as_slice-variables.ensures) c.in_ok-values.values
          c.in_ok-values.ensures;
      vars = ap length c.as_slice-variables.ensures ∙ lows_count c.args.bank.now (c.args.at.layer.layer.now).memory c.args.memory.now
          (c.requires.can).memory_are;
      args = lows_count c.args.bank.now c.args.at.names.now c.args.args.now (c.requires.can).args_are;
    }

pub returns-clause-single : goal.returns-clause-single
returns-clause-single g c = (c.in_ok-ran.ensures.ran).single

pub returns-clause-nodes : goal.returns-clause-nodes
returns-clause-nodes g c =
    let kinds = g.B.Book.kinds c.args.book.now in
    run_nodes kinds c.args.at c.args.bank.now c.args.memory.now c.args.args.now c.args.low.now c.requires.can
    (disk_meaning (record { disk = c.args.disk; first = c.args.first }))
    c.args.first (disk_same c.args.at.layer c.args.at.below (c.requires.can).below c.args.disk c.requires.below c.args.first kinds)
    c.as_slice-variables.result.now c.in_ok-values.values c.run_with.new.bank c.in_ok-ran.ran c.in_ok-ran.ensures.ran
    c.as_slice-variables.ensures c.in_ok-values.ensures

pub returns-clause-end : goal.returns-clause-end
returns-clause-end g c =
    let kinds = g.B.Book.kinds c.args.book.now in
    subst (λ z. EndIs (run_of kinds c.args.at c.args.first c.args.memory.now c.args.args.now c.args.low.now c.args.bank.now).value
    (record { answer = z.answer; memory = z.vars; low = z.state })) (sym c.ran.view_is)
    (run_end kinds c.args.at c.args.bank.now c.args.memory.now c.args.args.now c.args.low.now c.requires.can
    (disk_meaning (record { disk = c.args.disk; first = c.args.first }))
    c.args.first (disk_same c.args.at.layer c.args.at.below (c.requires.can).below c.args.disk c.requires.below c.args.first kinds)
    c.as_slice-variables.result.now c.in_ok-values.values c.run_with.new.bank c.in_ok-ran.ran c.in_ok-ran.ensures.ran
    c.as_slice-variables.ensures c.in_ok-values.ensures)
