use Rattle.std.proofs.Common.{◌≡◌, List, OnOk, IfOk, subst, sym}
use Rattle.ygg_sym_spec.specs.ygg_bank.Makes.{Out}
use Rattle.ygg_syntax.specs.declared.tree.Declared.{Declared}
use Rattle.ygg_sym_spec.specs.ygg_shape_cells.declared.terms.SymValue.{SymValue}
use Rattle.ygg_sym_machine.specs.ygg_sym_runs.Lows.{LowShaped}
use Rattle.ygg_sym.specs.Sites.{BelowFits}
use Rattle.ygg_sym_spec.specs.declared.below.SymBelow.TheVariants.{Layer}
use Rattle.ygg_sym.proofs.Losing.{disk_begun, lows_are, spec_begun}
use Rattle.ygg_sym.proofs.Placed.{spec_serves}
use Rattle.ygg_sym.proofs.runs.low_at_start.Goals as goal

pub returns-in-Disk-clause-nodes : goal.returns-in-Disk-clause-nodes
returns-in-Disk-clause-nodes g c =
    subst (λ (o : Out (List SymValue)). OnOk c.zeros.result (c.zeros.new.bank ≡ o.nodes))
    (disk_begun (g.B.Book.kinds c.args.book.now) c.args.layer c.args.below c.requires.below c.args.bank.now c.in-Disk.field-0 c.in-Disk.is)
    c.zeros.ensures.nodes

pub returns-in-Disk-clause-form : goal.returns-in-Disk-clause-form
returns-in-Disk-clause-form g c =
    subst (λ (o : Out (List SymValue)). IfOk c.zeros.result (λ xs. xs ≡ o.value))
    (disk_begun (g.B.Book.kinds c.args.book.now) c.args.layer c.args.below c.requires.below c.args.bank.now c.in-Disk.field-0 c.in-Disk.is) c.zeros.ensures.form

pub start-requires : goal.start-requires
start-requires g c = record {
  serves = spec_serves c.args.layer c.in-Layer.spec (subst (BelowFits c.args.layer) c.in-Layer.is c.requires.below);
  single = c.requires.single;
}

pub returns-in-Layer-clause-nodes : goal.returns-in-Layer-clause-nodes
returns-in-Layer-clause-nodes g c =
    subst (λ (o : Out (List SymValue)). OnOk c.start.result (c.start.new.bank ≡ o.nodes))
    (spec_begun (g.B.Book.kinds c.args.book.now) c.args.layer c.args.below c.requires.below c.args.bank.now c.in-Layer.spec c.in-Layer.is) c.start.ensures.nodes

pub returns-in-Layer-clause-form : goal.returns-in-Layer-clause-form
returns-in-Layer-clause-form g c =
    subst (λ (o : Out (List SymValue)). IfOk c.start.result (λ xs. xs ≡ o.value))
    (spec_begun (g.B.Book.kinds c.args.book.now) c.args.layer c.args.below c.requires.below c.args.bank.now c.in-Layer.spec c.in-Layer.is) c.start.ensures.form

pub returns-in-Layer-clause-shape : goal.returns-in-Layer-clause-shape
returns-in-Layer-clause-shape g c =
    subst (λ (ds : List Declared). IfOk c.start.result (LowShaped c.start.new.bank ds))
    (sym (lows_are c.args.layer c.args.below (Layer c.in-Layer.spec) c.requires.below c.in-Layer.is)) c.start.ensures.shape
