use Rattle.std.proofs.Common.{refl, arith}
use Rattle.ygg_value.specs.declared.operation.Op.TheVariants as op
use Rattle.ygg_eval_expr.proofs.Weighed.{left_lighter, right_lighter}
use Rattle.ygg_eval_expr.proofs.Ready.{ready_left, ready_right}
use Rattle.ygg_explain.specs.Parts.{itself}
use Rattle.ygg_explain.specs.Views.{known_in}
use Rattle.ygg_explain.proofs.Adding.{adds_as, on_ok}
use Rattle.ygg_explain.proofs.Telling.{parts_of_both}
use Rattle.ygg_explain.proofs.parts.View.+put_parts.Goals as goal

pub put_parts-requires : goal.put_parts-requires
put_parts-requires t c =
    let (first, at, is) = rw c.in-Some.is at c.conjunction.ensures in
    let k = known_in c.args.self.now in
    let lighter = left_lighter k c.args.e.now first c.in-Some.a.now op.And at c.in-Some.b.now c.in-Some.a.now is refl in
    (omega arith, ready_left k c.args.e.now first c.in-Some.a.now op.And at c.in-Some.b.now c.in-Some.a.now c.requires is refl)

pub put_parts-requires-in-Some : goal.put_parts-requires-in-Some
put_parts-requires-in-Some t c =
    let (first, at, is) = rw c.in-Some.is at c.conjunction.ensures in
    let k = known_in c.args.self.now in
    let lighter = right_lighter k c.args.e.now first c.in-Some.a.now op.And at c.in-Some.b.now c.in-Some.b.now is refl in
    (omega arith, ready_right k c.args.e.now first c.in-Some.a.now op.And at c.in-Some.b.now c.in-Some.b.now c.requires is refl)

pub returns-in_ok-put_parts-in-Some : goal.returns-in_ok-put_parts-in-Some
returns-in_ok-put_parts-in-Some t c =
    let (first, at, is) = rw c.in-Some.is at c.conjunction.ensures in
    on_ok c.put_parts-in-Some.result
    (parts_of_both c.args.self.now c.args.wanted c.args.which.now c.args.e.now c.in-Some.a.now c.in-Some.b.now c.args.out.now c.put_parts.new.out
    c.put_parts-in-Some.new.out first at is c.in_ok-put_parts-in-Some.ensures) c.put_parts-in-Some.ensures

pub returns-in-None : goal.returns-in-None
returns-in-None t c =
    let plain = rw c.in-None.is at c.conjunction.ensures in
    on_ok c.put_part.result (adds_as (λ text h. itself plain h)) c.put_part.ensures
