use Rattle.std.proofs.Common.{◌≡◌, ◌+◌, ◌++◌, drop, ap, subst, ◌∙◌, sym}
use Rattle.std.specs.Prelude.{slice_get, Some}
use Rattle.ygg_meaning.specs.Obligations.{TickOf, CutTickOf}
use Rattle.ygg_oblige_list.specs.Listing.{asked_in, ticks_of}
use Rattle.ygg_oblige_list.proofs.Numbered.{element_here, one_more, rest_here, two_asked}
use Rattle.ygg_oblige_list.proofs.listing.add_ticks.Goals as goal

pub loop-i-preserved : goal.loop-i-preserved
loop-i-preserved c =
    let l = c.args.layer.now in
    let i = c.loop-i.i in
    let item = c.tick-item.result in
    let items = c.as_slice-tick-items in
    let one = c.in_ok-add.ensures in
    let two = c.in_ok-add-2.ensures in
    let so_far = asked_in c.loop-i.list.items in
    let is =
    ap (λ z. so_far ++ ticks_of z) (sym (rest_here l.ticks items.result.now i item items.ensures c.loop-i-test.true c.tick-item.is))
    ∙ c.loop-i.invariant.asked in
    let here = element_here l.ticks items.result.now i item items.ensures c.loop-i-test.true c.tick-item.is in
    let number = subst (λ n. slice_get l.ticks n ≡ Some item) (sym c.in_ok-number.ensures) here in
    record {
      asked =
          two_asked so_far (asked_in c.add.new.list.items) (asked_in c.add-in-loop-i.new.list.items) (ticks_of (drop (i + 1) l.ticks))
          (asked_in c.args.list.now.items ++ ticks_of l.ticks) (TickOf item) (CutTickOf item) one.asked two.asked is;
      numbered =
          one_more l c.add.new.list.items c.add-in-loop-i.new.list.items _ two.added
          (one_more l c.loop-i.list.items c.add.new.list.items _ one.added c.loop-i.invariant.numbered number) number;
    }
