use Rattle.ygg_sym_runs.specs.ygg_bank_proofs_Widths.{extends_both}
use Rattle.std.proofs.Common.{List, subst}
use Rattle.ygg_syntax.specs.declared.tree.Declared.{Declared}
use Rattle.ygg_sym_runs.specs.Lows.{LowShaped}
use Rattle.ygg_sym_spec.proofs.of_ygg_sym_runs.Zeros.{single_both}
use Rattle.ygg_sym_spec.proofs.Started.{start_form, start_nodes}
use Rattle.ygg_sym_spec.proofs.begun.start.Goals as goal

pub block-requires : goal.block-requires
block-requires g c = record {
  can = record {
    sound = c.requires.serves.sound;
    typed = c.requires.serves.typed.start;
    vars_are = subst (λ (ds : List Declared). LowShaped c.zeros.new.bank ds c.in_ok-zeros.zeros) c.as_slice.ensures c.in_ok-zeros.ensures.shape;
    args_are = tt;
    single = c.in_ok-zeros.ensures.single c.args.first c.requires.single;
  };
}

pub returns-clause-single : goal.returns-clause-single
returns-clause-single g c =
    single_both c.args.bank.now c.zeros.new.bank c.block.new.bank c.in_ok-zeros.ensures.single c.in_ok-done.ensures.single

pub returns-clause-grows : goal.returns-clause-grows
returns-clause-grows g c = extends_both c.args.bank.now c.zeros.new.bank c.block.new.bank c.zeros.ensures.grows c.block.ensures.grows

pub returns-in_err-done-clause-grows : goal.returns-in_err-done-clause-grows
returns-in_err-done-clause-grows g c = extends_both c.args.bank.now c.zeros.new.bank c.block.new.bank c.zeros.ensures.grows c.block.ensures.grows

pub returns-clause-nodes : goal.returns-clause-nodes
returns-clause-nodes g c =
    start_nodes (g.B.Book.kinds c.args.book.now) c.args.layer c.as_slice.result.now c.in_ok-zeros.zeros c.args.bank.now c.zeros.new.bank c.as_slice.ensures
    c.in_ok-zeros.ensures.nodes c.in_ok-zeros.ensures.form c.block.new.bank c.in_ok-done.ensures.nodes

pub returns-clause-form : goal.returns-clause-form
returns-clause-form g c =
    start_form (g.B.Book.kinds c.args.book.now) c.args.layer c.as_slice.result.now c.in_ok-zeros.zeros c.args.bank.now c.zeros.new.bank c.as_slice.ensures
    c.in_ok-zeros.ensures.nodes c.in_ok-zeros.ensures.form (c.in_ok-done.done).answer (c.in_ok-done.done).vars c.in_ok-done.ensures.form

pub returns-clause-bank : goal.returns-clause-bank
returns-clause-bank g c = c.block.ensures.bank

pub returns-in_err-done-clause-bank : goal.returns-in_err-done-clause-bank
returns-in_err-done-clause-bank g c = c.block.ensures.bank

pub returns-clause-shape : goal.returns-clause-shape
returns-clause-shape g c = c.in_ok-done.ensures.shape
