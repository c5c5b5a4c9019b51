use Rattle.std.proofs.Common.{inr, refl, arith}
use Rattle.std.proofs.lemmas.Bool.Decides.{nat_tests}
use Rattle.ygg_base.specs.declared.outside.Moved.TheVariants.{Done}
use Rattle.ygg_run_image.specs.Turning.{WritesRow}
use Rattle.ygg_run_image.proofs.Held.{holds_here}
use Rattle.ygg_run_image.proofs.Keeping.{row_holds, stays_so}
use Rattle.ygg_run_image.proofs.rows.write_row.Goals as goal

pub returns-then-at-geometry-clause-turns : goal.returns-then-at-geometry-clause-turns
returns-then-at-geometry-clause-turns g c =
    let past = c.if-at-geometry.true in
    stays_so c.args.geometry (WritesRow c.args.geometry c.args.at c.args.row.now Done) _ _ (holds_here _ _ _ c.requires.held)
    (λ a i. inr (grind (arith, nat_tests), refl))

pub returns-clause-held : goal.returns-clause-held
returns-clause-held g c =
    ∣ row_holds c.args.geometry c.args.at c.args.row.now c.put_row.result _ _ _ _ (holds_here _ _ _ c.requires.held) c.put_row.ensures.still
    c.put_row.ensures.turns ∣₁
