use Rattle.std.proofs.Common.{◌≡◌, List, [], OnOk, IfOk, sym, subst}
use Rattle.ygg_oblige_parts.specs.ygg_bank.Makes.{Out}
use Rattle.ygg_oblige_parts.specs.ygg_bank.declared.node.Id.{Id}
use Rattle.ygg_syntax.specs.declared.tree.Declared.{Declared}
use Rattle.ygg_oblige_parts.specs.Kept.{AreKept}
use Rattle.ygg_oblige_parts.specs.ygg_sym_runs.Lows.{LowShaped}
use Rattle.ygg_oblige_parts.specs.ygg_sym_runs_proofs_Lows.{low_wider}
use Rattle.ygg_oblige_parts.specs.Layers.{closed, terms_in}
use Rattle.ygg_oblige_parts.specs.Sites.{below_in}
use Rattle.ygg_oblige.proofs.Sites.{below_fits}
use Rattle.ygg_oblige_parts.specs.ygg_meaning.Obligations.{Init}
use Rattle.ygg_oblige_parts.specs.ygg_sym_runs.Names.{sym_bind}
use Rattle.ygg_oblige_laws.specs.ygg_sym_runs.Below.{lows_at_start, run_made, zeros_made}
use Rattle.ygg_oblige_parts.specs.Passing.{some_in}
use Rattle.ygg_oblige.proofs.Alike.{no_values}
use Rattle.ygg_oblige.proofs.Chains.{formats_from}
use Rattle.ygg_oblige_parts.specs.ygg_bank_proofs_Widths.{extends_both}
use Rattle.ygg_oblige.proofs.terms.formats.Goals as goal

pub low_at_start-requires-clause-below : goal.low_at_start-requires-clause-below
low_at_start-requires-clause-below g c = below_fits c.args.maker.now.layer c.args.maker.now.below c.requires.site

pub zeros-requires : goal.zeros-requires
zeros-requires g c = subst (λ (ds : List Declared). AreKept ds) (sym c.as_slice.ensures) c.requires.site.layer.memory_shapes

pub run-requires-clause-can : goal.run-requires-clause-can
run-requires-clause-can g c =
    let l = c.args.maker.now.layer in
    let low = c.in_ok-low.low in
    record {
      below = below_fits l c.args.maker.now.below c.requires.site;
      typed = c.requires.site.layer.format_typed;
      memory_are = subst (λ (ds : List Declared). LowShaped c.zeros.new.bank ds c.in_ok-memory.memory) c.as_slice.ensures c.in_ok-memory.ensures.shape;
      args_are = no_values c.zeros.new.bank c.new-none.result c.new-none.ensures;
      low_are = low_wider c.low_at_start.new.bank c.zeros.new.bank l.low.now low c.zeros.ensures.grows c.in_ok-low.ensures.shape;
    }

pub run-requires-clause-single : goal.run-requires-clause-single
run-requires-clause-single g c =
    c.in_ok-memory.ensures.single c.args.n.run (c.in_ok-low.ensures.single c.args.n.run c.requires.single)

pub passes_after-requires-clause-can : goal.passes_after-requires-clause-can
passes_after-requires-clause-can g c =
    let stands = c.in_ok-end.ensures.stands in
    let none = no_values c.run.new.bank c.new-none.result c.new-none.ensures in
    record {
      layer = c.requires.site.layer;
      typed = tt;
      has = tt;
      vars_are = none;
      args_are = none;
      memory_are = stands.memory;
      low_are = stands.low;
      answer_shaped = stands.answer;
      answer_kept = λ inputs v h. tt;
      single = c.in_ok-end.ensures.single c.args.n.run
          (c.in_ok-memory.ensures.single c.args.n.run (c.in_ok-low.ensures.single c.args.n.run c.requires.single));
    }

pub returns-clause-nodes : goal.returns-clause-nodes
returns-clause-nodes g c =
    let kinds = g.B.Book.kinds c.args.maker.now.book.now in
    let l = c.args.maker.now.layer in
    let below = c.args.maker.now.below in
    let L = closed l in
    let e = c.in_ok-end.end in
    subst (λ (p : Out Id). OnOk c.passes_after.result (c.passes_after.new.bank ≡ p.nodes))
    (formats_from (lows_at_start kinds (terms_in kinds l) (below_in below) c.args.bank.now) (zeros_made kinds)
    (λ memory none low. run_made kinds (terms_in kinds l) (below_in below) c.args.n.run L.layer.format (sym_bind L.layer.memory memory) (sym_bind [] none) low)
    (λ none answer memory low. some_in kinds (terms_in kinds l) L Init none none answer memory low) c.as_slice.result.now L.layer.memory c.in_ok-low.low
    c.in_ok-memory.memory c.new-none.result
    e.answer e.memory e.low c.low_at_start.new.bank c.zeros.new.bank c.run.new.bank c.as_slice.ensures c.in_ok-low.ensures.form c.in_ok-low.ensures.nodes
    c.in_ok-memory.ensures.form c.in_ok-memory.ensures.nodes c.new-none.ensures c.in_ok-end.ensures.end.answer c.in_ok-end.ensures.end.memory
    c.in_ok-end.ensures.end.low c.in_ok-end.ensures.nodes) c.passes_after.ensures.nodes

pub returns-clause-id : goal.returns-clause-id
returns-clause-id g c =
    let kinds = g.B.Book.kinds c.args.maker.now.book.now in
    let l = c.args.maker.now.layer in
    let below = c.args.maker.now.below in
    let L = closed l in
    let e = c.in_ok-end.end in
    subst (λ (p : Out Id). IfOk c.passes_after.result (λ (id : Id). id ≡ p.value))
    (formats_from (lows_at_start kinds (terms_in kinds l) (below_in below) c.args.bank.now) (zeros_made kinds)
    (λ memory none low. run_made kinds (terms_in kinds l) (below_in below) c.args.n.run L.layer.format (sym_bind L.layer.memory memory) (sym_bind [] none) low)
    (λ none answer memory low. some_in kinds (terms_in kinds l) L Init none none answer memory low) c.as_slice.result.now L.layer.memory c.in_ok-low.low
    c.in_ok-memory.memory c.new-none.result
    e.answer e.memory e.low c.low_at_start.new.bank c.zeros.new.bank c.run.new.bank c.as_slice.ensures c.in_ok-low.ensures.form c.in_ok-low.ensures.nodes
    c.in_ok-memory.ensures.form c.in_ok-memory.ensures.nodes c.new-none.ensures c.in_ok-end.ensures.end.answer c.in_ok-end.ensures.end.memory
    c.in_ok-end.ensures.end.low c.in_ok-end.ensures.nodes) c.passes_after.ensures.id

pub returns-in_err-memory-clause-grows : goal.returns-in_err-memory-clause-grows
returns-in_err-memory-clause-grows g c =
    extends_both c.args.bank.now c.low_at_start.new.bank c.zeros.new.bank c.low_at_start.ensures.grows c.zeros.ensures.grows

pub returns-in_err-end-clause-grows : goal.returns-in_err-end-clause-grows
returns-in_err-end-clause-grows g c =
    extends_both c.args.bank.now c.low_at_start.new.bank c.run.new.bank c.low_at_start.ensures.grows
    (extends_both c.low_at_start.new.bank c.zeros.new.bank c.run.new.bank c.zeros.ensures.grows
    c.run.ensures.grows)

pub returns-clause-grows : goal.returns-clause-grows
returns-clause-grows g c =
    extends_both c.args.bank.now c.low_at_start.new.bank c.passes_after.new.bank c.low_at_start.ensures.grows
    (extends_both c.low_at_start.new.bank c.zeros.new.bank c.passes_after.new.bank c.zeros.ensures.grows
    (extends_both c.zeros.new.bank c.run.new.bank c.passes_after.new.bank c.run.ensures.grows
    c.passes_after.ensures.grows))
