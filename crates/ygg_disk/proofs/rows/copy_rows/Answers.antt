use Rattle.std.proofs.Common.{◌≡◌, ℕ, subst, arith}
use Rattle.ygg_disk.proofs.Copying.{Copied, copied_more, copied_all}
use Rattle.ygg_disk.proofs.rows.copy_rows.Goals as goal

pub returns-clause-same : goal.returns-clause-same
returns-clause-same c =
    let all : c.loop-place.place ≡ c.args.geometry.rows = omega arith in
    let P : ℕ → Type 0 = λ n. Copied c.args.geometry c.args.from.now c.loop-place.into c.loop-place.spare n in
    copied_all c.args.geometry c.args.from.now c.loop-place.into c.loop-place.spare c.requires.from (subst P all c.loop-place.invariant)

pub loop-place-init : goal.loop-place-init
loop-place-init c = record { size = c.requires.into; fits = c.requires.spare; done = λ k h. absurd (omega arith) }

pub loop-place-preserved : goal.loop-place-preserved
loop-place-preserved c =
    copied_more c.args.geometry c.args.from.now c.loop-place.into c.table_write.new.table c.loop-place.spare c.table_read.new.into c.loop-place.place
    c.requires.from c.loop-place.invariant c.loop-place-test.true c.table_read.ensures.value c.table_read.ensures.words c.table_write.ensures.value

pub returns-clause-spare : goal.returns-clause-spare
returns-clause-spare c = c.loop-place.invariant.fits
