use Rattle.std.proofs.Common.{◌≡◌, ℕ, [], IfOk, sym, subst}
use Rattle.std.specs.Prelude.{All}
use Rattle.ygg_oblige_list.specs.Listing.{asked_in}
use Rattle.ygg_oblige.proofs.Begun.{after_is}
use Rattle.ygg_oblige_reading.specs.Listing.{ArgumentsKept}
use Rattle.ygg_oblige_reading.proofs.NumbersAfter.{arguments_kept}
use Rattle.ygg_oblige_reading.proofs.site.after_layer.Goals as goal

pub number_after-requires : goal.number_after-requires
number_after-requires g c =
    let m = c.args.maker.now in
    subst (All ArgumentsKept) (sym c.requires.asked) (arguments_kept (g.B.Book.kinds m.book.now) m.layer m.below c.requires.site.layer)

pub returns : goal.returns
returns g c =
    let m = c.args.maker.now in
    subst (λ (n : ℕ). IfOk c.number_after.result (λ (k : ℕ). k ≡ n))
    (after_is (g.B.Book.kinds m.book.now) m.layer m.below c.args.number [] (asked_in c.args.asked.now) c.in_ok-first.first c.requires.asked
    c.in_ok-first.ensures) c.number_after.ensures
