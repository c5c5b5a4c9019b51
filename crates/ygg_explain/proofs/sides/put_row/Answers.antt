use Rattle.std.proofs.Common.{◌≡◌, ◌<◌, false, [], ◌++◌, codes, length, refl, sym, ap, ◌∙◌, append-nil, arith}
use Rattle.std.specs.Fmt.{decimal}
use Rattle.ygg_value.specs.Values.{part_of, same_value}
use Rattle.ygg_value.specs.declared.row.Value.TheVariants.{Table}
use Rattle.ygg_explain.specs.Lines.{both_text}
use Rattle.ygg_explain.specs.Parts.{alike, differ}
use Rattle.ygg_explain.proofs.Adding.{joined_3, on_ok}
use Rattle.ygg_explain.proofs.sides.put_row.Goals as goal

pub returns-then-not-same : goal.returns-then-not-same
returns-then-not-same c =
    let a = c.args.a.now in
    let b = c.args.b.now in
    let at = c.loop-at.at in
    let v = part_of (Table a) at in
    let w = part_of (Table b) at in
    let test = c.loop-at-test.true in
    let rows = c.requires.rows in
    let within : at < length a.rows = omega arith in
    let unlike : same_value v w ≡ false = sym (c.same.ensures.value ∙ ap (λ x. same_value x c.in_ok-right.right) c.in_ok-left.ensures
    ∙ ap (λ y. same_value v y) c.in_ok-right.ensures) ∙ c.if-not-same.true in
    on_ok c.put_both.result (λ added. record {
      text = codes " row " ++ decimal at ++ both_text v w;
      like = differ at refl within c.loop-at.invariant.1 unlike;
      added = joined_3 c.args.out.now c.extend_from_slice.new.self c.put_decimal.new.out c.put_both.new.out (codes " row ") (decimal at) (both_text v w)
          (c.in_ok-extend_from_slice.ensures.ok ∙ ap (λ t. t ++ codes " row ") c.loop-at.invariant.0)
          (c.in_ok-put_decimal.ensures ∙ ap (λ n. c.extend_from_slice.new.self ++ decimal n) c.from.ensures)
          (added ∙ ap (λ x. c.put_decimal.new.out ++ both_text x c.in_ok-right.right) c.in_ok-left.ensures
          ∙ ap (λ y. c.put_decimal.new.out ++ both_text v y) c.in_ok-right.ensures);
    }) c.put_both.ensures

pub returns : goal.returns
returns c =
    let rows = c.requires.rows in
    let test = c.loop-at-test.false in
    record {
      text = [];
      like = alike refl (λ i before. c.loop-at.invariant.1 i (omega arith));
      added = c.loop-at.invariant.0 ∙ sym (append-nil c.args.out.now);
    }
