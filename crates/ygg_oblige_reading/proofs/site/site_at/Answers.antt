use Rattle.std.proofs.Common.{◌≡◌, ◌≤◌, ◌+◌, ◌-◌, ℕ, List, length, drop, sym, ap, ◌∙◌, subst, arith}
use Rattle.std.proofs.Math.ListN.{drop_of_length-le}
use Rattle.ygg_syntax.specs.declared.tree.Layer.{Layer}
use Rattle.ygg_oblige.proofs.Walking.{next_layer}
use Rattle.ygg_oblige_list.specs.Listing.{asked_in}
use Rattle.ygg_oblige_reading.proofs.Listed.{as_many}
use Rattle.ygg_oblige_reading.proofs.Placing.{placed}
use Rattle.ygg_oblige_reading.proofs.Walking.{Walked, found_there, site_fits, walk_begun, walked_on, walked_past}
use Rattle.ygg_oblige_reading.proofs.site.site_at.Goals as goal

-- what is left of a place after so many obligations
rest_of : (count left : ℕ) → count ≤ left → count + (left - count) ≡ left
rest_of count left h = omega (arith, h)

pub loop-i-init : goal.loop-i-init
loop-i-init g c =
    walk_begun (g.B.Book.kinds c.args.book.now) c.args.file.now c.args.place c.args.tables.now c.requires.tables c.requires.typed

pub site_in-requires-clause-site : goal.site_in-requires-clause-site
site_in-requires-clause-site g c =
    let file = c.args.file.now in
    let kinds = g.B.Book.kinds c.args.book.now in
    let now = c.loop-i in
    site_fits kinds file c.args.place _ now.below (drop (now.i + 1) file.layers) now.i now.number now.left c.as_slice.ensures
    (subst (λ (z : List Layer). Walked kinds file c.args.place now.low.now z now.i now.below now.number now.left)
    (next_layer file.layers c.as_slice-layer-items.result.now now.i c.layer-item.result _ c.as_slice-layer-items.ensures c.loop-i-test.true c.layer-item.is)
    now.invariant)

pub returns-then-left-count : goal.returns-then-left-count
returns-then-left-count g c =
    let file = c.args.file.now in
    let kinds = g.B.Book.kinds c.args.book.now in
    let now = c.loop-i in
    let s = c.in_ok-site.site in
    placed kinds file c.args.place s (found_there kinds file c.args.place _ _ (drop (now.i + 1) file.layers) now.i now.number now.left _ s c.in_ok-site.ensures
    c.in_ok-layer_number.ensures c.as_slice.ensures
    (subst (λ (z : List Layer). Walked kinds file c.args.place now.low.now z now.i now.below now.number now.left)
    (next_layer file.layers c.as_slice-layer-items.result.now now.i c.layer-item.result _ c.as_slice-layer-items.ensures c.loop-i-test.true c.layer-item.is)
    now.invariant))

pub after_layer-requires-clause-site : goal.after_layer-requires-clause-site
after_layer-requires-clause-site g c =
    let file = c.args.file.now in
    let kinds = g.B.Book.kinds c.args.book.now in
    let now = c.loop-i in
    site_fits kinds file c.args.place _ now.below (drop (now.i + 1) file.layers) now.i now.number now.left c.as_slice.ensures
    (subst (λ (z : List Layer). Walked kinds file c.args.place now.low.now z now.i now.below now.number now.left)
    (next_layer file.layers c.as_slice-layer-items.result.now now.i c.layer-item.result _ c.as_slice-layer-items.ensures c.loop-i-test.true c.layer-item.is)
    now.invariant)

pub loop-i-preserved : goal.loop-i-preserved
loop-i-preserved g c =
    let file = c.args.file.now in
    let kinds = g.B.Book.kinds c.args.book.now in
    let now = c.loop-i in
    let count = length c.as_slice-asked.result.now in
    let left = now.left - count in
    walked_on kinds file c.args.place _ now.below (drop (now.i + 1) file.layers) now.i now.number now.left c.as_slice.ensures
    (subst (λ (z : List Layer). Walked kinds file c.args.place now.low.now z now.i now.below now.number now.left)
    (next_layer file.layers c.as_slice-layer-items.result.now now.i c.layer-item.result _ c.as_slice-layer-items.ensures c.loop-i-test.true c.layer-item.is)
    now.invariant) c.as_slice-low.result.now c.in_ok-number.number left c.as_slice-low.ensures c.in_ok-number.ensures
    (ap (λ n. n + left) (sym (as_many _ _ (ap asked_in c.as_slice-asked.ensures.value ∙ c.in_ok-listed.ensures.asked)))
    ∙ rest_of count now.left c.if-left-count.false)

pub unreachable-requires : goal.unreachable-requires
unreachable-requires g c =
    let file = c.args.file.now in
    let now = c.loop-i in
    walked_past (g.B.Book.kinds c.args.book.now) file c.args.place now.low.now (drop now.i file.layers) now.i now.below now.number now.left
    (drop_of_length-le file.layers (subst (λ (z : List Layer). length z ≤ now.i) c.as_slice-layer-items.ensures c.loop-i-test.false)) now.invariant
    c.requires.there
