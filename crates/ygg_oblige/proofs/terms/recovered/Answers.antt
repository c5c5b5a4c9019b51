use Rattle.std.proofs.Common.{◌≡◌, List, [], OnOk, IfOk, sym, subst}
use Rattle.ygg_oblige_parts.specs.ygg_bank.Makes.{Out}
use Rattle.ygg_syntax.specs.declared.tree.Declared.{Declared}
use Rattle.ygg_oblige_parts.specs.Kept.{AreKept}
use Rattle.ygg_oblige_parts.specs.ygg_sym_runs.Lows.{LowShaped}
use Rattle.ygg_oblige_parts.specs.ygg_sym_runs_proofs_Lows.{low_wider}
use Rattle.ygg_oblige_parts.proofs.of_ygg_sym_runs.Zeros.{single_then}
use Rattle.ygg_oblige_parts.specs.Layers.{closed, terms_in}
use Rattle.ygg_oblige_parts.specs.Sites.{below_in}
use Rattle.ygg_oblige.proofs.Sites.{below_fits}
use Rattle.ygg_oblige_parts.specs.ygg_sym_runs.Names.{sym_bind}
use Rattle.ygg_oblige_laws.specs.ygg_sym_runs.Below.{run_made, zeros_made}
use Rattle.ygg_sym.specs.Running.{EndIs}
use Rattle.ygg_oblige_parts.specs.ygg_oblige_laws.Terms.{Finish}
use Rattle.ygg_oblige.proofs.Alike.{no_values}
use Rattle.ygg_oblige.proofs.Chains.{zeros_from}
use Rattle.ygg_oblige_parts.specs.ygg_bank_proofs_Widths.{extends_both}
use Rattle.ygg_oblige.proofs.terms.recovered.Goals as goal

pub zeros-requires : goal.zeros-requires
zeros-requires g c = subst (λ (ds : List Declared). AreKept ds) (sym c.as_slice.ensures) c.requires.can.site.layer.memory_shapes

pub run-requires-clause-can : goal.run-requires-clause-can
run-requires-clause-can g c =
    let f = c.requires.can in
    let l = c.args.maker.now.layer in
    record {
      below = below_fits l c.args.maker.now.below f.site;
      typed = f.site.layer.recover_typed;
      memory_are = subst (λ (ds : List Declared). LowShaped c.zeros.new.bank ds c.in_ok-memory.memory) c.as_slice.ensures c.in_ok-memory.ensures.shape;
      args_are = no_values c.zeros.new.bank c.new-none.result c.new-none.ensures;
      low_are = low_wider c.args.bank.now c.zeros.new.bank l.low.now c.args.low.now c.zeros.ensures.grows f.low_are;
    }

pub run-requires-clause-single : goal.run-requires-clause-single
run-requires-clause-single g c = c.in_ok-memory.ensures.single c.args.first c.requires.can.single

pub returns-clause-nodes : goal.returns-clause-nodes
returns-clause-nodes g c =
    let kinds = g.B.Book.kinds c.args.maker.now.book.now in
    let l = c.args.maker.now.layer in
    let below = c.args.maker.now.below in
    let L = closed l in
    subst (λ (p : Out Finish). OnOk c.run.result (c.run.new.bank ≡ p.nodes))
    (zeros_from (zeros_made kinds)
    (λ memory none. run_made kinds (terms_in kinds l) (below_in below) c.args.first L.layer.recover (sym_bind L.layer.memory memory) (sym_bind [] none)
    c.args.low.now)
    c.as_slice.result.now L.layer.memory c.in_ok-memory.memory c.new-none.result c.args.bank.now c.zeros.new.bank c.as_slice.ensures
    c.in_ok-memory.ensures.form c.new-none.ensures c.in_ok-memory.ensures.nodes) c.run.ensures.nodes

pub returns-clause-end : goal.returns-clause-end
returns-clause-end g c =
    let kinds = g.B.Book.kinds c.args.maker.now.book.now in
    let l = c.args.maker.now.layer in
    let below = c.args.maker.now.below in
    let L = closed l in
    subst (λ (p : Out Finish). IfOk c.run.result (EndIs p.value))
    (zeros_from (zeros_made kinds)
    (λ memory none. run_made kinds (terms_in kinds l) (below_in below) c.args.first L.layer.recover (sym_bind L.layer.memory memory) (sym_bind [] none)
    c.args.low.now)
    c.as_slice.result.now L.layer.memory c.in_ok-memory.memory c.new-none.result c.args.bank.now c.zeros.new.bank c.as_slice.ensures
    c.in_ok-memory.ensures.form c.new-none.ensures c.in_ok-memory.ensures.nodes) c.run.ensures.end

pub returns-clause-single : goal.returns-clause-single
returns-clause-single g c =
    single_then c.args.bank.now c.zeros.new.bank c.run.new.bank c.run.result c.in_ok-memory.ensures.single c.run.ensures.single

pub returns-clause-grows : goal.returns-clause-grows
returns-clause-grows g c =
    extends_both c.args.bank.now c.zeros.new.bank c.run.new.bank c.zeros.ensures.grows c.run.ensures.grows
