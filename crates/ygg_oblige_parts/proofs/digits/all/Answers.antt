use Rattle.std.proofs.Common.{◌≡◌, ◌-◌, List, length, drop, sym, ap, ◌∙◌, arith}
use Rattle.std.proofs.lemmas.List.{drop_all}
use Rattle.ygg_sym_spec.specs.ygg_bank_proofs_Widths.{extends_both}
use Rattle.ygg_sym_spec.specs.ygg_bank.declared.node.Id.{Id}
use Rattle.ygg_oblige_parts.specs.Digits.{conjunction}
use Rattle.ygg_oblige_parts.proofs.Tested.{digits_later, conjunction_more}
use Rattle.ygg_oblige_parts.proofs.digits.all.Goals as goal

pub loop-left-init : goal.loop-left-init
loop-left-init g c =
    let kinds = g.B.Book.kinds c.args.book.now in
    let ids = c.args.digits.now in
    let old = c.args.bank.now in
    let e = sym (drop_all (length ids) ids (omega arith)) in
    record {
      nodes = c.in_ok-all.ensures.nodes ∙ ap (λ (z : List Id). (conjunction kinds z old).nodes) e;
      value = c.in_ok-all.ensures.id ∙ ap (λ (z : List Id). (conjunction kinds z old).value) e;
      left = omega arith;
      wide = c.in_ok-all.ensures.width;
      digits = digits_later old c.constant.new.bank ids c.constant.ensures.grows c.requires;
      grows = c.constant.ensures.grows;
      bank = c.constant.ensures.bank;
    }

pub loop-left-preserved : goal.loop-left-preserved
loop-left-preserved g c =
    let kinds = g.B.Book.kinds c.args.book.now in
    let ids = c.args.digits.now in
    let old = c.args.bank.now in
    let now = c.loop-left.bank in
    let left = c.loop-left.left in
    let more = conjunction_more kinds ids old (left - 1) left c.loop-left.all now (omega arith) (omega arith) c.loop-left.invariant.nodes
    c.loop-left.invariant.value _ in
    record {
      nodes = c.in_ok-all-2.ensures.nodes ∙ more.nodes;
      value = c.in_ok-all-2.ensures.id ∙ more.value;
      left = omega arith;
      wide = c.in_ok-all-2.ensures.width;
      digits = digits_later now c.join.new.bank ids c.join.ensures.grows c.loop-left.invariant.digits;
      grows = extends_both old now c.join.new.bank c.loop-left.invariant.grows c.join.ensures.grows;
      bank = c.join.ensures.bank;
    }

pub join-requires-clause-two : goal.join-requires-clause-two
join-requires-clause-two g c = c.loop-left.invariant.wide

pub returns-clause-nodes : goal.returns-clause-nodes
returns-clause-nodes g c =
    let none : c.loop-left.left ≡ 0 = omega (arith, c.loop-left-test.false) in
    c.loop-left.invariant.nodes ∙ ap (λ n. (conjunction (g.B.Book.kinds c.args.book.now) (drop n c.args.digits.now) c.args.bank.now).nodes) none

pub returns-clause-id : goal.returns-clause-id
returns-clause-id g c =
    let none : c.loop-left.left ≡ 0 = omega (arith, c.loop-left-test.false) in
    c.loop-left.invariant.value ∙ ap (λ n. (conjunction (g.B.Book.kinds c.args.book.now) (drop n c.args.digits.now) c.args.bank.now).value) none
