use Rattle.std.proofs.Common.{◌≡◌, sym, subst}
use Rattle.std.specs.Option.{option_copied}
use Rattle.ygg_sym_bodies.specs.Blocks.{site_in}
use Rattle.ygg_sym_bodies.specs.Runs.{IsMade, Stands, whole_body, whole_inputs}
use Rattle.ygg_sym_bodies.specs.Sites.{IsShaped, Site}
use Rattle.ygg_sym_bodies.specs.Worths.{RunsAsAny, RunsAsNamed}
use Rattle.ygg_sym_bodies.proofs.Sited.{at_block, one_ok, run_any, run_bounded, run_named, three_ok}
use Rattle.ygg_sym_bodies.proofs.run.run_sym.Goals as goal

pub block_at-at-requires-clause-there : goal.block_at-at-requires-clause-there
block_at-at-requires-clause-there g c = let b = c.requires.body in (b.layer, (b.block, b.is))

pub run_at-requires-clause-shaped : goal.run_at-requires-clause-shaped
run_at-requires-clause-shaped g c =
    let b = c.requires.body in
    subst (λ (s : Site). IsShaped s c.args.bank.now c.args.from.now) (sym (c.block_at-at.ensures.same b.layer b.block b.is)) b.shaped

pub returns-clause-made : goal.returns-clause-made
returns-clause-made g c =
    let kinds = g.B.Book.kinds c.args.book.now in
    one_ok c.run_at.result c.run_at.ensures.made (λ r m.
    at_block c.args.typed.now.file c.args.body (site_in c.block_at-at.result c.args.body.part)
    (λ s. IsMade (whole_body kinds s c.args.from.now (option_copied c.args.picks) r.inputs.picks c.args.bank.now) c.args.from.now r c.run_at.new.bank)
    c.block_at-at.ensures.same m)

pub returns-clause-stands : goal.returns-clause-stands
returns-clause-stands g c =
    one_ok c.run_at.result c.run_at.ensures.stands (λ r m.
    at_block c.args.typed.now.file c.args.body (site_in c.block_at-at.result c.args.body.part) (λ s. Stands s c.run_at.new.bank r)
    c.block_at-at.ensures.same m)

pub returns-clause-inputs : goal.returns-clause-inputs
returns-clause-inputs g c =
    one_ok c.run_at.result c.run_at.ensures.inputs (λ r m.
    at_block c.args.typed.now.file c.args.body (site_in c.block_at-at.result c.args.body.part)
    (λ s. r.inputs ≡ whole_inputs s (option_copied c.args.picks) r.inputs.picks) c.block_at-at.ensures.same m)

pub returns-clause-named : goal.returns-clause-named
returns-clause-named g c =
    let kinds = g.B.Book.kinds c.args.book.now in
    let at = c.block_at-at.result in
    let part = c.args.body.part in
    let given = option_copied c.args.picks in
    let b = c.requires.body in
    let shaped = subst (λ (s : Site). IsShaped s c.args.bank.now c.args.from.now) (sym (c.block_at-at.ensures.same b.layer b.block b.is)) b.shaped in
    one_ok c.run_at.result c.run_at.ensures.made (λ r m.
    at_block c.args.typed.now.file c.args.body (site_in at part) (λ s. RunsAsNamed s c.args.from.now given r c.run_at.new.bank) c.block_at-at.ensures.same
    (run_named at part c.block_at-at.ensures.fits kinds c.args.from.now c.args.bank.now c.run_at.new.bank r given c.requires.picks
    shaped m))

pub returns-clause-any : goal.returns-clause-any
returns-clause-any g c =
    let kinds = g.B.Book.kinds c.args.book.now in
    let at = c.block_at-at.result in
    let part = c.args.body.part in
    let given = option_copied c.args.picks in
    let b = c.requires.body in
    let shaped = subst (λ (s : Site). IsShaped s c.args.bank.now c.args.from.now) (sym (c.block_at-at.ensures.same b.layer b.block b.is)) b.shaped in
    one_ok c.run_at.result c.run_at.ensures.made (λ r m.
    at_block c.args.typed.now.file c.args.body (site_in at part) (λ s. RunsAsAny s c.args.from.now given r c.run_at.new.bank) c.block_at-at.ensures.same
    (run_any at part c.block_at-at.ensures.fits kinds c.args.from.now c.args.bank.now c.run_at.new.bank r given c.requires.picks
    shaped m))

pub returns-clause-bounded : goal.returns-clause-bounded
returns-clause-bounded g c =
    let kinds = g.B.Book.kinds c.args.book.now in
    let b = c.requires.body in
    let shaped = subst (λ (s : Site). IsShaped s c.args.bank.now c.args.from.now) (sym (c.block_at-at.ensures.same b.layer b.block b.is)) b.shaped in
    three_ok c.run_at.result c.run_at.ensures.made c.run_at.ensures.fresh c.run_at.ensures.inputs (λ r m fresh numbered.
    run_bounded c.block_at-at.result c.args.body.part c.block_at-at.ensures.fits kinds c.args.from.now c.args.bank.now c.run_at.new.bank r
    (option_copied c.args.picks) c.requires.picks shaped m fresh numbered)
