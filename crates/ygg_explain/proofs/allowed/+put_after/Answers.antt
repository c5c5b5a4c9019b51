use Rattle.std.proofs.Common.{◌≡◌, suc, ◌-◌, ◌∙◌, arith}
use Rattle.ygg_explain.proofs.Adding.{on_ok}
use Rattle.ygg_explain.proofs.Choosing.{one_list, two_lists}
use Rattle.ygg_explain.proofs.allowed.+put_after.Goals as goal

pub returns-then-left-eq0 : goal.returns-then-left-eq0
returns-then-left-eq0 t c =
    on_ok c.put_choice.result
    (one_list c.args.site.now c.args.asking c.args.out.now c.put_choice.new.out c.put_choice.new.out c.args.before.now c.args.left c.if-left-eq0.true)
    c.put_choice.ensures

pub returns : goal.returns
returns t c =
    let next : suc (c.args.left - 1) ≡ c.args.left = omega (arith, c.if-left-eq0.false) in
    on_ok c.put_after-2.result
    (two_lists c.args.site.now c.args.asking c.args.out.now c.put_after.new.out c.put_after-2.new.out c.args.before.now c.as_slice.result.now
    c.as_slice-2.result.now (c.args.left - 1) c.args.left next (c.as_slice.ensures.value ∙ c.in_ok-without.ensures)
    (c.as_slice-2.ensures.value ∙ c.in_ok-chosen.ensures) c.in_ok-put_after.ensures) c.put_after-2.ensures
