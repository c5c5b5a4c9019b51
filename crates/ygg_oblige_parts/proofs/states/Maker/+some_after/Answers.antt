use Rattle.std.proofs.Common.{◌≡◌, ◌-◌, ◌∙◌, suc, OnOk, IfOk, rules, subst, arith}
use Rattle.ygg_sym_spec.specs.ygg_bank_proofs_Widths.{extends_both, wider}
use Rattle.ygg_sym_spec.specs.ygg_bank.Makes.{Make, Out}
use Rattle.ygg_sym_spec.specs.ygg_bank.declared.node.Id.{Id}
use Rattle.ygg_sym_spec.proofs.of_ygg_sym_runs.Zeros.{single_both, single_then}
use Rattle.ygg_oblige_parts.specs.Passing.{passes_of}
use Rattle.ygg_oblige_list.specs.InCode.{obligation_of}
use Rattle.ygg_oblige_parts.proofs.StepPasses.{any_from, fits_later, none_left}
use Rattle.ygg_oblige_parts.proofs.states.Maker.+some_after.Goals as goal

pub returns-then-left-eq0-clause-nodes : goal.returns-then-left-eq0-clause-nodes
returns-then-left-eq0-clause-nodes g t c =
    let kinds = g.B.Book.kinds c.args.self.now.book.now in
    subst (λ (m : Make Id). OnOk c.passes.result (c.passes.new.bank ≡ (m c.args.bank.now).nodes))
    (none_left kinds (passes_of kinds c.args.self.now.layer c.args.step.now) c.args.left c.args.before.now c.if-left-eq0.true) c.passes.ensures.nodes

pub returns-then-left-eq0-clause-id : goal.returns-then-left-eq0-clause-id
returns-then-left-eq0-clause-id g t c =
    let kinds = g.B.Book.kinds c.args.self.now.book.now in
    subst (λ (m : Make Id). IfOk c.passes.result (λ (id : Id). id ≡ (m c.args.bank.now).value))
    (none_left kinds (passes_of kinds c.args.self.now.layer c.args.step.now) c.args.left c.args.before.now c.if-left-eq0.true) c.passes.ensures.id

pub some_after-requires-2 : goal.some_after-requires-2
some_after-requires-2 g t c κs within =
    let s = c.args.step.now in
    let h = fits_later c.args.self.now.layer c.args.self.now.below c.args.bank.now c.some_after.new.bank (obligation_of s.obligation) s.vars.now s.args.now
    s.answer.now s.memory.now s.low.now s.first c.some_after.ensures.grows c.in_ok-one.ensures.single c.requires.can in
    search (rules, h)

pub join-requires-clause-one : goal.join-requires-clause-one
join-requires-clause-one g t c = wider c.some_after.new.bank c.some_after-2.new.bank c.in_ok-one.one 1 c.some_after-2.ensures.grows c.in_ok-one.ensures.width

pub returns-clause-nodes : goal.returns-clause-nodes
returns-clause-nodes g t c =
    let kinds = g.B.Book.kinds c.args.self.now.book.now in
    let e : c.args.left ≡ suc (c.args.left - 1) = omega (arith, c.if-left-eq0.false) in
    subst (λ (o : Out Id). OnOk c.join.result (c.join.new.bank ≡ o.nodes))
    (any_from kinds (passes_of kinds c.args.self.now.layer c.args.step.now) c.args.left (c.args.left - 1) c.args.before.now c.as_slice.result.now
    c.as_slice-2.result.now c.args.bank.now c.some_after.new.bank c.some_after-2.new.bank c.in_ok-one.one c.in_ok-two.two e
    (c.as_slice.ensures.value ∙ c.in_ok-without.ensures) (c.as_slice-2.ensures.value ∙ c.in_ok-chosen.ensures) c.in_ok-one.ensures.id
    c.in_ok-one.ensures.nodes c.in_ok-two.ensures.id c.in_ok-two.ensures.nodes) c.join.ensures.nodes

pub returns-clause-id : goal.returns-clause-id
returns-clause-id g t c =
    let kinds = g.B.Book.kinds c.args.self.now.book.now in
    let e : c.args.left ≡ suc (c.args.left - 1) = omega (arith, c.if-left-eq0.false) in
    subst (λ (o : Out Id). IfOk c.join.result (λ (id : Id). id ≡ o.value))
    (any_from kinds (passes_of kinds c.args.self.now.layer c.args.step.now) c.args.left (c.args.left - 1) c.args.before.now c.as_slice.result.now
    c.as_slice-2.result.now c.args.bank.now c.some_after.new.bank c.some_after-2.new.bank c.in_ok-one.one c.in_ok-two.two e
    (c.as_slice.ensures.value ∙ c.in_ok-without.ensures) (c.as_slice-2.ensures.value ∙ c.in_ok-chosen.ensures) c.in_ok-one.ensures.id
    c.in_ok-one.ensures.nodes c.in_ok-two.ensures.id c.in_ok-two.ensures.nodes) c.join.ensures.id

pub returns-clause-single : goal.returns-clause-single
returns-clause-single g t c =
    single_then c.args.bank.now c.some_after-2.new.bank c.join.new.bank c.join.result
    (single_both c.args.bank.now c.some_after.new.bank c.some_after-2.new.bank c.in_ok-one.ensures.single c.in_ok-two.ensures.single) c.join.ensures.single

pub returns-in_err-two-clause-grows : goal.returns-in_err-two-clause-grows
returns-in_err-two-clause-grows g t c =
    extends_both c.args.bank.now c.some_after.new.bank c.some_after-2.new.bank c.some_after.ensures.grows c.some_after-2.ensures.grows

pub returns-clause-grows : goal.returns-clause-grows
returns-clause-grows g t c =
    extends_both c.args.bank.now c.some_after.new.bank c.join.new.bank c.some_after.ensures.grows
    (extends_both c.some_after.new.bank c.some_after-2.new.bank c.join.new.bank c.some_after-2.ensures.grows
    c.join.ensures.grows)
