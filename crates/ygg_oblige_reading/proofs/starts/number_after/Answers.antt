use Rattle.std.proofs.Common.{◌≡◌, ◌+◌, ◌∷◌, drop, refl, ap, subst, arith}
use Rattle.std.specs.Prelude.{All}
use Rattle.std.proofs.Math.ListN.{drop_of_length-le}
use Rattle.std.proofs.lemmas.List.Elements.{All-head, All-tail}
use Rattle.ygg_oblige_list.specs.InCode.{obligation_of}
use Rattle.ygg_oblige_list.specs.Listing.{asked_in}
use Rattle.ygg_oblige.specs.Numbering.{numbers_in}
use Rattle.ygg_oblige.proofs.Left.{rest_is}
use Rattle.ygg_oblige_reading.specs.Listing.{ArgumentsKept}
use Rattle.ygg_oblige_reading.proofs.NumbersAfter.{numbered_all, one_more}
use Rattle.ygg_oblige_reading.proofs.starts.number_after.Goals as goal

pub numbers_of-requires : goal.numbers_of-requires
numbers_of-requires g c =
    let asked = c.args.asked.now in
    let i = c.loop-each.each-index in
    All-head ArgumentsKept (obligation_of c.each-item.result.obligation) (asked_in (drop (i + 1) asked))
    (subst (All ArgumentsKept) (ap asked_in (rest_is asked i c.each-item.result _ c.loop-each-test.true c.each-item.is)) c.loop-each.invariant.kept)

pub loop-each-init : goal.loop-each-init
loop-each-init g c = record { same = refl; kept = c.requires }

pub loop-each-preserved : goal.loop-each-preserved
loop-each-preserved g c =
    let m = c.args.maker.now in
    let asked = c.args.asked.now in
    let i = c.loop-each.each-index in
    let o = obligation_of c.each-item.result.obligation in
    let left = asked_in (drop (i + 1) asked) in
    let rest : asked_in (drop i asked) ≡ o ∷ left = ap asked_in (rest_is asked i c.each-item.result _ c.loop-each-test.true c.each-item.is) in
    record {
      same =
          one_more (g.B.Book.kinds m.book.now) m.layer m.below (asked_in (drop i asked)) left (asked_in asked) o (numbers_in c.in_ok-numbers.numbers)
          c.loop-each.next c.args.first rest c.in_ok-numbers.ensures c.loop-each.invariant.same;
      kept = All-tail ArgumentsKept o left (subst (All ArgumentsKept) rest c.loop-each.invariant.kept);
    }

pub returns : goal.returns
returns g c =
    let m = c.args.maker.now in
    let asked = c.args.asked.now in
    let i = c.loop-each.each-index in
    numbered_all (g.B.Book.kinds m.book.now) m.layer m.below (asked_in (drop i asked)) (asked_in asked) c.loop-each.next c.args.first
    (ap asked_in (drop_of_length-le asked (omega arith))) c.loop-each.invariant.same
