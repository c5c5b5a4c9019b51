use Rattle.std.proofs.Common.{IfSome, Option, sym, subst}
use Rattle.std.specs.Option.{option_copied}
use Rattle.ygg_value.specs.Number.{Digits}
use Rattle.ygg_disk.specs.Waiting.{marked}
use Rattle.ygg_disk.specs.Rows.{IsDiskRow}
use Rattle.ygg_disk.proofs.Newest.{fits_marked, newest_fits, seen_within, seen_past}
use Rattle.ygg_disk.proofs.waiting.newest_within.Goals as goal

pub returns-then-place-geometry-clause-seen : goal.returns-then-place-geometry-clause-seen
returns-then-place-geometry-clause-seen c =
    let fits = fits_marked c.args.geometry c.args.waiting.now c.requires in
    seen_within c.args.geometry (marked c.args.waiting.now) c.args.place (option_copied c.newest.result) fits c.if-place-geometry.true c.newest.ensures

pub returns-then-place-geometry-clause-fits : goal.returns-then-place-geometry-clause-fits
returns-then-place-geometry-clause-fits c =
    let fits = fits_marked c.args.geometry c.args.waiting.now c.requires in
    let P : Option Digits → Type 0 = λ o. IfSome o (λ row. IsDiskRow c.args.geometry row) in
    subst P (sym c.newest.ensures) (newest_fits c.args.geometry (marked c.args.waiting.now) c.args.place fits)

pub returns-else-place-geometry-clause-seen : goal.returns-else-place-geometry-clause-seen
returns-else-place-geometry-clause-seen c = seen_past c.args.geometry (marked c.args.waiting.now) c.args.place c.if-place-geometry.false
