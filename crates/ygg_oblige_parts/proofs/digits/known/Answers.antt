use Rattle.std.proofs.Common.{◌≡◌, ◌-◌, List, length, drop, get_or, refl, sym, ap, ◌∙◌, subst, arith}
use Rattle.std.proofs.lemmas.List.{drop_all}
use Rattle.ygg_sym_spec.specs.ygg_bank.Makes.{Out}
use Rattle.ygg_sym_spec.specs.ygg_bank_proofs_Widths.{extends_both, wider}
use Rattle.ygg_sym_spec.specs.ygg_bank.declared.node.Id.{Id}
use Rattle.ygg_oblige_laws.specs.ygg_shape.Replacing.{AreFit}
use Rattle.ygg_oblige_laws.specs.ygg_shape.declared.replacing.Replacement.{Replacement}
use Rattle.ygg_oblige_laws.specs.TermStates.{known_made}
use Rattle.ygg_oblige_laws.proofs.Under.{facts_wider}
use Rattle.ygg_oblige_parts.proofs.Joining.{known_more}
use Rattle.ygg_oblige_parts.proofs.digits.known.Goals as goal

pub loop-left-init : goal.loop-left-init
loop-left-init g c =
    let kinds = g.B.Book.kinds c.args.book.now in
    let items = c.as_slice-items.result.now in
    let old = c.args.bank.now in
    let e = sym (drop_all (length items) items (omega arith)) in
    record {
      nodes = c.in_ok-known.ensures.nodes ∙ ap (λ (z : List Replacement). (known_made kinds z old).nodes) e;
      value = c.in_ok-known.ensures.id ∙ ap (λ (z : List Replacement). (known_made kinds z old).value) e;
      left = omega arith;
      wide = c.in_ok-known.ensures.width;
      fit = facts_wider old c.constant.new.bank items c.constant.ensures.grows (subst (AreFit old) (sym c.as_slice-items.ensures) c.requires);
      grows = c.constant.ensures.grows;
      bank = c.constant.ensures.bank;
    }

pub join-requires-clause-two : goal.join-requires-clause-two
join-requires-clause-two g c =
    wider c.loop-left.bank c.equal.new.bank c.loop-left.known 1 c.equal.ensures.grows c.loop-left.invariant.wide

pub loop-left-preserved : goal.loop-left-preserved
loop-left-preserved g c =
    let kinds = g.B.Book.kinds c.args.book.now in
    let items = c.as_slice-items.result.now in
    let old = c.args.bank.now in
    let now = c.loop-left.bank in
    let left = c.loop-left.left in
    let more = known_more kinds items old (left - 1) left (get_or items (left - 1) _) _ c.in_ok-same.same c.loop-left.known now c.equal.new.bank
    (omega arith) (omega arith) refl c.loop-left.invariant.nodes c.loop-left.invariant.value c.in_ok-same.ensures.id c.in_ok-same.ensures.nodes in
    record {
      nodes = c.in_ok-known-2.ensures.nodes ∙ ap (λ (o : Out Id). o.nodes) more;
      value = c.in_ok-known-2.ensures.id ∙ ap (λ (o : Out Id). o.value) more;
      left = omega arith;
      wide = c.in_ok-known-2.ensures.width;
      fit = facts_wider now c.join.new.bank items (extends_both now c.equal.new.bank c.join.new.bank c.equal.ensures.grows c.join.ensures.grows)
          c.loop-left.invariant.fit;
      grows = extends_both old now c.join.new.bank c.loop-left.invariant.grows
          (extends_both now c.equal.new.bank c.join.new.bank c.equal.ensures.grows c.join.ensures.grows);
      bank = c.join.ensures.bank;
    }

pub returns-clause-nodes : goal.returns-clause-nodes
returns-clause-nodes g c =
    let kinds = g.B.Book.kinds c.args.book.now in
    let items = c.as_slice-items.result.now in
    let none : c.loop-left.left ≡ 0 = omega (arith, c.loop-left-test.false) in
    c.loop-left.invariant.nodes ∙ ap (λ n. (known_made kinds (drop n items) c.args.bank.now).nodes) none
    ∙ ap (λ (z : List Replacement). (known_made kinds z c.args.bank.now).nodes) c.as_slice-items.ensures

pub returns-clause-id : goal.returns-clause-id
returns-clause-id g c =
    let kinds = g.B.Book.kinds c.args.book.now in
    let items = c.as_slice-items.result.now in
    let none : c.loop-left.left ≡ 0 = omega (arith, c.loop-left-test.false) in
    c.loop-left.invariant.value ∙ ap (λ n. (known_made kinds (drop n items) c.args.bank.now).value) none
    ∙ ap (λ (z : List Replacement). (known_made kinds z c.args.bank.now).value) c.as_slice-items.ensures
