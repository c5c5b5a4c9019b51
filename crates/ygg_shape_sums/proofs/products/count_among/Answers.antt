use Rattle.std.proofs.Common.{rules, ◌≡◌, ◌<◌, true, length, slice_set, append-nil, sym, ap, ◌∙◌, subst}
use Rattle.ygg_shape_sums.proofs.Walks.{one_item, product_there}
use Rattle.ygg_shape_sums.specs.Products.{Product, alike, more_times, with_product}
use Rattle.ygg_shape_sums.proofs.products.count_among.Goals as goal

pub returns-then-alike : goal.returns-then-alike
returns-then-alike c =
    let m = c.args.product.now in
    let n = c.index_mut.result.now in
    let ps = c.loop-place.sum.items in
    let i = c.loop-place.place in
    let l : c.loop-place.place < length c.loop-place.sum.items = search rules in
    let s = one_item ps i c.index.result.now n l c.index.ensures c.index_mut.ensures.value in
    let t : alike c.index.result.now.factors m.factors ≡ true = search rules in
    let e : c.count.new.self ≡ more_times n m.times = c.count.ensures ∙ ap (more_times n) c.times.ensures in
    append-nil (slice_set ps i c.count.new.self) ∙ ap (λ (p : Product). slice_set ps i p) e
    ∙ sym (product_there m n n ps i l c.index_mut.ensures.value c.loop-place.invariant.went
    (subst (λ (p : Product). alike p.factors m.factors ≡ true) s t)) ∙ ap (with_product m) c.loop-place.invariant.same
