use Rattle.std.proofs.Common.{arith}
use Rattle.std.proofs.lemmas.Bool.Decides.{nat_tests}
use Rattle.ygg_run_image.proofs.Held.{holds_here}
use Rattle.ygg_run_image.proofs.Telling.{zeros_told}
use Rattle.ygg_run_image.proofs.rows.read_row.Goals as goal

pub returns-then-at-geometry-clause-told : goal.returns-then-at-geometry-clause-told
returns-then-at-geometry-clause-told g c done =
    let past = c.if-at-geometry.true in
    zeros_told c.args.geometry _ _ (holds_here _ _ _ c.requires.held) c.args.at c.args.row.now (grind (arith, nat_tests)) c.requires.zeros
