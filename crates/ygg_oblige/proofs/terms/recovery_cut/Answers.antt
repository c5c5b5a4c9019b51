use Rattle.std.proofs.Common.{◌≡◌, List, [], OnOk, IfOk, sym, subst}
use Rattle.ygg_oblige_parts.specs.ygg_bank.Makes.{Out}
use Rattle.ygg_syntax.specs.declared.tree.Declared.{Declared}
use Rattle.ygg_oblige_parts.specs.Kept.{AreKept}
use Rattle.ygg_oblige_parts.specs.ygg_shape_cells.declared.terms.SymValue.{SymValue}
use Rattle.ygg_oblige_parts.specs.ygg_sym_runs.Lows.{LowShaped}
use Rattle.ygg_oblige_parts.specs.ygg_sym_runs_proofs_Lows.{low_wider}
use Rattle.ygg_oblige_parts.proofs.of_ygg_sym_runs.Zeros.{single_then}
use Rattle.ygg_oblige_parts.specs.Layers.{closed, terms_in}
use Rattle.ygg_oblige_parts.specs.Sites.{below_in}
use Rattle.ygg_oblige.proofs.Sites.{below_fits}
use Rattle.ygg_oblige_parts.specs.ygg_sym_runs.StopTerms.{SymFallen}
use Rattle.ygg_oblige_parts.specs.ygg_sym_runs.Names.{sym_bind}
use Rattle.ygg_oblige_laws.specs.ygg_sym_runs.Below.{cut_made, zeros_made}
use Rattle.ygg_sym.specs.Running.{CutIs}
use Rattle.ygg_oblige.proofs.Alike.{no_values}
use Rattle.ygg_oblige.proofs.Chains.{zeros_from}
use Rattle.ygg_oblige_parts.specs.ygg_bank_proofs_Widths.{extends_both}
use Rattle.ygg_oblige.proofs.terms.recovery_cut.Goals as goal

pub zeros-requires : goal.zeros-requires
zeros-requires g c = subst (λ (ds : List Declared). AreKept ds) (sym c.as_slice.ensures) c.requires.can.site.layer.memory_shapes

pub cut-requires-clause-can : goal.cut-requires-clause-can
cut-requires-clause-can g c =
    let f = c.requires.can in
    let l = c.args.maker.now.layer in
    record {
      below = below_fits l c.args.maker.now.below f.site;
      typed = f.site.layer.recover_typed;
      memory_are = subst (λ (ds : List Declared). LowShaped c.zeros.new.bank ds c.in_ok-memory.memory) c.as_slice.ensures c.in_ok-memory.ensures.shape;
      args_are = no_values c.zeros.new.bank c.new-none.result c.new-none.ensures;
      low_are = low_wider c.args.bank.now c.zeros.new.bank l.low.now c.args.low.now c.zeros.ensures.grows f.low_are;
    }

pub cut-requires-clause-single : goal.cut-requires-clause-single
cut-requires-clause-single g c = c.in_ok-memory.ensures.single c.args.n.run c.requires.can.single

pub returns-clause-nodes : goal.returns-clause-nodes
returns-clause-nodes g c =
    let kinds = g.B.Book.kinds c.args.maker.now.book.now in
    let l = c.args.maker.now.layer in
    let below = c.args.maker.now.below in
    let L = closed l in
    subst (λ (p : Out (SymFallen (List SymValue))). OnOk c.cut.result (c.cut.new.bank ≡ p.nodes))
    (zeros_from (zeros_made kinds)
    (λ memory none. cut_made kinds (terms_in kinds l) (below_in below) c.args.n.run c.args.n.stop c.args.n.last L.layer.recover (sym_bind L.layer.memory
    memory) (sym_bind [] none) c.args.low.now)
    c.as_slice.result.now L.layer.memory c.in_ok-memory.memory c.new-none.result c.args.bank.now c.zeros.new.bank c.as_slice.ensures
    c.in_ok-memory.ensures.form c.new-none.ensures c.in_ok-memory.ensures.nodes) c.cut.ensures.nodes

pub returns-clause-end : goal.returns-clause-end
returns-clause-end g c =
    let kinds = g.B.Book.kinds c.args.maker.now.book.now in
    let l = c.args.maker.now.layer in
    let below = c.args.maker.now.below in
    let L = closed l in
    subst (λ (p : Out (SymFallen (List SymValue))). IfOk c.cut.result (CutIs p.value))
    (zeros_from (zeros_made kinds)
    (λ memory none. cut_made kinds (terms_in kinds l) (below_in below) c.args.n.run c.args.n.stop c.args.n.last L.layer.recover (sym_bind L.layer.memory
    memory) (sym_bind [] none) c.args.low.now)
    c.as_slice.result.now L.layer.memory c.in_ok-memory.memory c.new-none.result c.args.bank.now c.zeros.new.bank c.as_slice.ensures
    c.in_ok-memory.ensures.form c.new-none.ensures c.in_ok-memory.ensures.nodes) c.cut.ensures.end

pub returns-clause-single : goal.returns-clause-single
returns-clause-single g c =
    single_then c.args.bank.now c.zeros.new.bank c.cut.new.bank c.cut.result c.in_ok-memory.ensures.single c.cut.ensures.single

pub returns-clause-grows : goal.returns-clause-grows
returns-clause-grows g c =
    extends_both c.args.bank.now c.zeros.new.bank c.cut.new.bank c.zeros.ensures.grows c.cut.ensures.grows
