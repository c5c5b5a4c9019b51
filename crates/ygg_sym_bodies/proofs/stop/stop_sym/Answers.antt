use Rattle.std.proofs.Common.{◌≡◌, sym, subst}
use Rattle.ygg_sym_bodies.specs.Blocks.{site_in}
use Rattle.ygg_sym_bodies.specs.Runs.{IsMade, Stands, cut_body, cut_inputs}
use Rattle.ygg_sym_bodies.specs.Sites.{IsShaped, Site}
use Rattle.ygg_sym_bodies.specs.Worths.{CutsAsAny, CutsAsNamed}
use Rattle.ygg_sym_bodies.proofs.Sited.{at_block, cut_any, cut_bounded, cut_named, one_ok, three_ok}
use Rattle.ygg_sym_bodies.proofs.stop.stop_sym.Goals as goal

pub block_at-at-requires-clause-there : goal.block_at-at-requires-clause-there
block_at-at-requires-clause-there g c = let b = c.requires in (b.layer, (b.block, b.is))

pub stop_at-requires-clause-shaped : goal.stop_at-requires-clause-shaped
stop_at-requires-clause-shaped g c =
    let b = c.requires in
    subst (λ (s : Site). IsShaped s c.args.bank.now c.args.from.now) (sym (c.block_at-at.ensures.same b.layer b.block b.is)) b.shaped

pub returns-clause-made : goal.returns-clause-made
returns-clause-made g c =
    let kinds = g.B.Book.kinds c.args.book.now in
    one_ok c.stop_at.result c.stop_at.ensures.made (λ r m.
    at_block c.args.typed.now.file c.args.body (site_in c.block_at-at.result c.args.body.part)
    (λ s. IsMade (cut_body kinds s c.args.from.now r.inputs.picks r.inputs.stops r.inputs.failure c.args.bank.now) c.args.from.now r c.stop_at.new.bank)
    c.block_at-at.ensures.same m)

pub returns-clause-stands : goal.returns-clause-stands
returns-clause-stands g c =
    one_ok c.stop_at.result c.stop_at.ensures.stands (λ r m.
    at_block c.args.typed.now.file c.args.body (site_in c.block_at-at.result c.args.body.part) (λ s. Stands s c.stop_at.new.bank r)
    c.block_at-at.ensures.same m)

pub returns-clause-inputs : goal.returns-clause-inputs
returns-clause-inputs g c =
    one_ok c.stop_at.result c.stop_at.ensures.inputs (λ r m.
    at_block c.args.typed.now.file c.args.body (site_in c.block_at-at.result c.args.body.part) (λ s. r.inputs ≡ cut_inputs s r.inputs.picks)
    c.block_at-at.ensures.same m)

pub returns-clause-named : goal.returns-clause-named
returns-clause-named g c =
    let kinds = g.B.Book.kinds c.args.book.now in
    let at = c.block_at-at.result in
    let part = c.args.body.part in
    let b = c.requires in
    let shaped = subst (λ (s : Site). IsShaped s c.args.bank.now c.args.from.now) (sym (c.block_at-at.ensures.same b.layer b.block b.is)) b.shaped in
    one_ok c.stop_at.result c.stop_at.ensures.made (λ r m.
    at_block c.args.typed.now.file c.args.body (site_in at part) (λ s. CutsAsNamed s c.args.from.now r c.stop_at.new.bank) c.block_at-at.ensures.same
    (cut_named at part c.block_at-at.ensures.fits kinds c.args.from.now c.args.bank.now c.stop_at.new.bank r shaped m))

pub returns-clause-any : goal.returns-clause-any
returns-clause-any g c =
    let kinds = g.B.Book.kinds c.args.book.now in
    let at = c.block_at-at.result in
    let part = c.args.body.part in
    let b = c.requires in
    let shaped = subst (λ (s : Site). IsShaped s c.args.bank.now c.args.from.now) (sym (c.block_at-at.ensures.same b.layer b.block b.is)) b.shaped in
    one_ok c.stop_at.result c.stop_at.ensures.made (λ r m.
    at_block c.args.typed.now.file c.args.body (site_in at part) (λ s. CutsAsAny s c.args.from.now r c.stop_at.new.bank) c.block_at-at.ensures.same
    (cut_any at part c.block_at-at.ensures.fits kinds c.args.from.now c.args.bank.now c.stop_at.new.bank r shaped m))

pub returns-clause-bounded : goal.returns-clause-bounded
returns-clause-bounded g c =
    let kinds = g.B.Book.kinds c.args.book.now in
    let b = c.requires in
    let shaped = subst (λ (s : Site). IsShaped s c.args.bank.now c.args.from.now) (sym (c.block_at-at.ensures.same b.layer b.block b.is)) b.shaped in
    three_ok c.stop_at.result c.stop_at.ensures.made c.stop_at.ensures.fresh c.stop_at.ensures.inputs (λ r m fresh numbered.
    cut_bounded c.block_at-at.result c.args.body.part c.block_at-at.ensures.fits kinds c.args.from.now c.args.bank.now c.stop_at.new.bank r shaped m fresh
    numbered)
