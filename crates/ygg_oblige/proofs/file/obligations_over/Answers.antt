use Rattle.std.proofs.Common.{◌≤◌, ◌+◌, ℕ, List, length, drop, sym, subst}
use Rattle.std.proofs.Math.ListN.{drop_of_length-le}
use Rattle.ygg_syntax.specs.declared.tree.Layer.{Layer}
use Rattle.ygg_oblige_laws.specs.ygg_meaning.Obligations.{obligations_of}
use Rattle.ygg_sym.specs.ygg_sym_spec.declared.below.SymBelow.TheVariants as on
use Rattle.ygg_oblige.specs.Adding.{AddsAsked}
use Rattle.ygg_oblige.specs.declared.obligation.Obligation as code
use Rattle.ygg_oblige_list.proofs.Numbered.{element_here}
use Rattle.ygg_oblige.proofs.Walking.{Walked, next_layer, site_fits, walk_begun, walked_all, walked_on}
use Rattle.ygg_oblige.proofs.file.obligations_over.Goals as goal

pub loop-i-init : goal.loop-i-init
loop-i-init g c =
    let file = c.args.file.now in
    let kinds = g.B.Book.kinds c.args.book.now in
    subst (λ (z : List code.Obligation). Walked kinds file c.args.tables.now file.layers (on.Disk file.disk) 0 c.args.bank.now z) (sym c.new-all.ensures)
    (walk_begun kinds file c.args.tables.now c.args.bank.now c.requires.tables c.requires.empty c.requires.bank c.requires.typed)

pub add_layer-requires-clause-site : goal.add_layer-requires-clause-site
add_layer-requires-clause-site g c =
    let file = c.args.file.now in
    let kinds = g.B.Book.kinds c.args.book.now in
    let now = c.loop-i in
    site_fits kinds file _ now.below (drop (now.i + 1) file.layers) now.number now.bank now.all c.as_slice.ensures
    (subst (λ (z : List Layer). Walked kinds file now.low.now z now.below now.number now.bank now.all)
    (next_layer file.layers c.as_slice-layer-items.result.now now.i c.layer-item.result _ c.as_slice-layer-items.ensures c.loop-i-test.true c.layer-item.is)
    now.invariant)

pub loop-i-preserved : goal.loop-i-preserved
loop-i-preserved g c =
    let file = c.args.file.now in
    let kinds = g.B.Book.kinds c.args.book.now in
    let now = c.loop-i in
    let e = c.in_ok-number.ensures in
    walked_on kinds file _ now.below (drop (now.i + 1) file.layers) now.number now.bank now.all c.as_slice.ensures
    (subst (λ (z : List Layer). Walked kinds file now.low.now z now.below now.number now.bank now.all)
    (next_layer file.layers c.as_slice-layer-items.result.now now.i c.layer-item.result _ c.as_slice-layer-items.ensures c.loop-i-test.true c.layer-item.is)
    now.invariant) now.i c.as_slice-low.result.now c.in_ok-number.number c.add_layer.new.bank c.add_layer.new.all
    (element_here file.layers c.as_slice-layer-items.result.now now.i c.layer-item.result c.as_slice-layer-items.ensures c.loop-i-test.true c.layer-item.is)
    c.as_slice-low.ensures (record {
      nodes = e.nodes;
      terms = e.terms;
      names = e.names;
      next_is = e.next;
      is_bank = e.bank;
      placed = e.placed;
      asked =
          subst (λ (k : ℕ). AddsAsked k c.layer-item.result (obligations_of c.layer-item.result) now.all c.add_layer.new.all) c.in_ok-place_of.ensures
          e.asked;
    })

pub returns : goal.returns
returns g c =
    let file = c.args.file.now in
    let now = c.loop-i in
    let done = walked_all (g.B.Book.kinds c.args.book.now) file now.low.now (drop now.i file.layers) now.below now.number now.bank now.all
    (drop_of_length-le file.layers (subst (λ (z : List Layer). length z ≤ now.i) c.as_slice-layer-items.ensures c.loop-i-test.false)) now.invariant in
    record { nodes = done.nodes; terms = done.terms; names = done.names; placed = done.placed; claims = done.claims; bank = now.invariant.is_bank }
