use Rattle.std.proofs.Common.{◌≡◌, List, OnOk, IfOk, subst, sym}
use Rattle.ygg_sym_spec.specs.ygg_bank.Makes.{Out}
use Rattle.ygg_syntax.specs.declared.tree.Declared.{Declared}
use Rattle.ygg_sym_spec.specs.ygg_shape_cells.declared.terms.SymValue.{SymValue}
use Rattle.ygg_sym_machine.specs.ygg_sym_runs.Lows.{LowShaped}
use Rattle.ygg_sym.specs.Sites.{BelowFits}
use Rattle.ygg_sym_spec.specs.declared.below.SymBelow.TheVariants.{Layer}
use Rattle.ygg_sym.proofs.Losing.{disk_lost_form, disk_lost_nodes, lost_shape, lows_are, none_single, spec_lost}
use Rattle.ygg_sym.proofs.Placed.{spec_serves}
use Rattle.ygg_sym.proofs.runs.lost.Goals as goal

pub returns-in-Disk-clause-nodes : goal.returns-in-Disk-clause-nodes
returns-in-Disk-clause-nodes g c =
    disk_lost_nodes (g.B.Book.kinds c.args.book.now) c.args.layer c.args.below c.requires.below c.args.bank.now c.args.last c.args.low.now c.in-Disk.disk
    c.lose.result c.in-Disk.is

pub returns-in-Disk-clause-form : goal.returns-in-Disk-clause-form
returns-in-Disk-clause-form g c =
    disk_lost_form (g.B.Book.kinds c.args.book.now) c.args.layer c.args.below c.requires.below c.args.bank.now c.args.last c.args.low.now c.in-Disk.disk
    c.lose.result c.in-Disk.is c.lose.ensures

pub returns-in-Disk-clause-shape : goal.returns-in-Disk-clause-shape
returns-in-Disk-clause-shape g c =
    let kinds = g.B.Book.kinds c.args.book.now in
    let nodes = disk_lost_nodes kinds c.args.layer c.args.below c.requires.below c.args.bank.now c.args.last c.args.low.now c.in-Disk.disk c.lose.result
    c.in-Disk.is in
    let form = disk_lost_form kinds c.args.layer c.args.below c.requires.below c.args.bank.now c.args.last c.args.low.now c.in-Disk.disk c.lose.result
    c.in-Disk.is c.lose.ensures in
    lost_shape kinds c.args.layer c.args.below c.requires.below c.args.bank.now c.args.last c.args.low.now c.args.bank.now c.lose.result c.requires.low nodes
    form c.len.ensures.bank

pub returns-in-Disk-clause-single : goal.returns-in-Disk-clause-single
returns-in-Disk-clause-single g c = none_single c.args.bank.now c.lose.result

pub crash-requires : goal.crash-requires
crash-requires g c =
    let serves = spec_serves c.args.layer c.in-Layer.spec (subst (BelowFits c.args.layer) c.in-Layer.is c.requires.below) in
    record {
      can = record {
        sound = serves.sound;
        typed = serves.typed.crash;
        vars_are = subst (λ (ds : List Declared). LowShaped c.args.bank.now ds c.args.low.now)
            (lows_are c.args.layer c.args.below (Layer c.in-Layer.spec) c.requires.below c.in-Layer.is) c.requires.low;
        args_are = tt;
        single = c.requires.single;
      };
    }

pub returns-in-Layer-clause-nodes : goal.returns-in-Layer-clause-nodes
returns-in-Layer-clause-nodes g c =
    subst (λ (o : Out (List SymValue)). OnOk c.crash.result (c.crash.new.bank ≡ o.nodes))
    (spec_lost (g.B.Book.kinds c.args.book.now) c.args.layer c.args.below c.requires.below c.args.bank.now c.args.last c.args.low.now c.in-Layer.spec
    c.in-Layer.is) c.crash.ensures.nodes

pub returns-in-Layer-clause-form : goal.returns-in-Layer-clause-form
returns-in-Layer-clause-form g c =
    subst (λ (o : Out (List SymValue)). IfOk c.crash.result (λ xs. xs ≡ o.value))
    (spec_lost (g.B.Book.kinds c.args.book.now) c.args.layer c.args.below c.requires.below c.args.bank.now c.args.last c.args.low.now c.in-Layer.spec
    c.in-Layer.is) c.crash.ensures.form

pub returns-in-Layer-clause-shape : goal.returns-in-Layer-clause-shape
returns-in-Layer-clause-shape g c =
    subst (λ (ds : List Declared). IfOk c.crash.result (LowShaped c.crash.new.bank ds))
    (sym (lows_are c.args.layer c.args.below (Layer c.in-Layer.spec) c.requires.below c.in-Layer.is)) c.crash.ensures.shape
