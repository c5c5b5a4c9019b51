use Rattle.std.proofs.Common.{◌≡◌, ◌+◌, ◌++◌, drop, ap, subst, ◌∙◌, sym}
use Rattle.std.specs.Prelude.{slice_get, Some}
use Rattle.ygg_meaning.specs.Obligations.{CallOf, CutOf}
use Rattle.ygg_oblige_list.specs.Listing.{asked_in, calls_of}
use Rattle.ygg_oblige_list.proofs.Numbered.{element_here, one_more, rest_here, two_asked}
use Rattle.ygg_oblige_list.proofs.listing.add_calls.Goals as goal

pub loop-i-preserved : goal.loop-i-preserved
loop-i-preserved c =
    let l = c.args.layer.now in
    let i = c.loop-i.i in
    let item = c.operation-item.result in
    let items = c.as_slice-operation-items in
    let one = c.in_ok-add.ensures in
    let two = c.in_ok-add-2.ensures in
    let so_far = asked_in c.loop-i.list.items in
    let is =
    ap (λ z. so_far ++ calls_of z) (sym (rest_here l.operations items.result.now i item items.ensures c.loop-i-test.true c.operation-item.is))
    ∙ c.loop-i.invariant.asked in
    let here = element_here l.operations items.result.now i item items.ensures c.loop-i-test.true c.operation-item.is in
    let number = subst (λ n. slice_get l.operations n ≡ Some item) (sym c.in_ok-number.ensures) here in
    record {
      asked =
          two_asked so_far (asked_in c.add.new.list.items) (asked_in c.add-in-loop-i.new.list.items) (calls_of (drop (i + 1) l.operations))
          (asked_in c.args.list.now.items ++ calls_of l.operations) (CallOf item) (CutOf item) one.asked two.asked is;
      numbered =
          one_more l c.add.new.list.items c.add-in-loop-i.new.list.items _ two.added
          (one_more l c.loop-i.list.items c.add.new.list.items _ one.added c.loop-i.invariant.numbered number) number;
    }
