use Rattle.std.proofs.Common.{◌≡◌, arith}
use Rattle.std.proofs.lemmas.Bool.Decides.{nat_tests}
use Rattle.ygg_value.proofs.Rows.{tested_grids}
use Rattle.ygg_value.proofs.row.same_table.Goals.{then-a-b, else-a-b}
use Rattle.ygg_value.proofs.row.same_table.Goals as goal

pub returns-then-a-b-2 : goal.returns-then-a-b-2
returns-then-a-b-2 c =
    let alike : (c.a.inside.width ≡ c.b.inside.width) × (c.a.inside.words ≡ c.b.inside.words) =
    elim c.if-a-b.branch [
      | then-a-b w ↦ (w.if-a-b.true, grind (arith, nat_tests, w.value-is, c.if-a-b-2.true))
      | else-a-b w ↦ grind (arith, nat_tests, w.value-is, c.if-a-b-2.true, w.if-a-b.false)
    ] in
    rw (← c.a.view_is, ← c.b.view_is) (tested_grids _ _ _ _ _ _ _ _ c.a.invariant c.b.invariant alike.0 alike.1 _ c.eq.ensures)
