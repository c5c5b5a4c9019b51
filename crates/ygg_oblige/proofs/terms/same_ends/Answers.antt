use Rattle.std.proofs.Common.{◌≡◌, OnOk, IfOk, subst}
use Rattle.ygg_oblige_parts.specs.ygg_bank_proofs_Widths.{extends_both, wider}
use Rattle.ygg_oblige_parts.specs.ygg_bank.Makes.{Out}
use Rattle.ygg_oblige_parts.specs.ygg_bank.declared.node.Id.{Id}
use Rattle.ygg_oblige_parts.specs.ygg_sym_runs_proofs_Lows.{low_wider}
use Rattle.ygg_oblige_parts.specs.ygg_oblige_laws.TermStates.{all_compared}
use Rattle.ygg_oblige.proofs.Alike.{alike_is}
use Rattle.ygg_oblige.proofs.Chains.{both_from}
use Rattle.ygg_oblige.proofs.terms.same_ends.Goals as goal

pub all_equal-requires : goal.all_equal-requires
all_equal-requires g c =
    let l = c.args.maker.now.layer in
    alike_is c.args.bank.now l.layer.now.memory c.as_slice.result.now c.as_slice-2.result.now c.args.one.now.memory c.args.two.now.memory c.as_slice.ensures
    c.as_slice-2.ensures c.requires.one.memory c.requires.two.memory

pub all_equal-requires-2 : goal.all_equal-requires-2
all_equal-requires-2 g c =
    let l = c.args.maker.now.layer in
    let one = c.all_equal.new.bank in
    alike_is one l.low.now c.as_slice-3.result.now c.as_slice-4.result.now c.args.one.now.low c.args.two.now.low c.as_slice-3.ensures c.as_slice-4.ensures
    (low_wider c.args.bank.now one l.low.now c.args.one.now.low c.all_equal.ensures.grows c.requires.one.low)
    (low_wider c.args.bank.now one l.low.now c.args.two.now.low c.all_equal.ensures.grows c.requires.two.low)

pub join-requires-clause-one : goal.join-requires-clause-one
join-requires-clause-one g c =
    wider c.all_equal.new.bank c.all_equal-2.new.bank c.in_ok-memories.memories 1 c.all_equal-2.ensures.grows c.in_ok-memories.ensures.width

pub returns-clause-nodes : goal.returns-clause-nodes
returns-clause-nodes g c =
    let kinds = g.B.Book.kinds c.args.maker.now.book.now in
    subst (λ (p : Out Id). OnOk c.join.result (c.join.new.bank ≡ p.nodes))
    (both_from kinds (λ xs ys. all_compared kinds xs ys) c.as_slice.result.now c.as_slice-2.result.now c.args.one.now.memory c.args.two.now.memory
    c.as_slice-3.result.now c.as_slice-4.result.now c.args.one.now.low c.args.two.now.low c.args.bank.now c.as_slice.ensures c.as_slice-2.ensures
    c.as_slice-3.ensures c.as_slice-4.ensures c.in_ok-memories.memories c.in_ok-bases.bases c.all_equal.new.bank c.all_equal-2.new.bank
    c.in_ok-memories.ensures.id c.in_ok-memories.ensures.nodes
    c.in_ok-bases.ensures.id c.in_ok-bases.ensures.nodes) c.join.ensures.nodes

pub returns-clause-id : goal.returns-clause-id
returns-clause-id g c =
    let kinds = g.B.Book.kinds c.args.maker.now.book.now in
    subst (λ (p : Out Id). IfOk c.join.result (λ (id : Id). id ≡ p.value))
    (both_from kinds (λ xs ys. all_compared kinds xs ys) c.as_slice.result.now c.as_slice-2.result.now c.args.one.now.memory c.args.two.now.memory
    c.as_slice-3.result.now c.as_slice-4.result.now c.args.one.now.low c.args.two.now.low c.args.bank.now c.as_slice.ensures c.as_slice-2.ensures
    c.as_slice-3.ensures c.as_slice-4.ensures c.in_ok-memories.memories c.in_ok-bases.bases c.all_equal.new.bank c.all_equal-2.new.bank
    c.in_ok-memories.ensures.id c.in_ok-memories.ensures.nodes
    c.in_ok-bases.ensures.id c.in_ok-bases.ensures.nodes) c.join.ensures.id

pub returns-in_err-bases-clause-grows : goal.returns-in_err-bases-clause-grows
returns-in_err-bases-clause-grows g c =
    extends_both c.args.bank.now c.all_equal.new.bank c.all_equal-2.new.bank c.all_equal.ensures.grows c.all_equal-2.ensures.grows

pub returns-clause-grows : goal.returns-clause-grows
returns-clause-grows g c =
    extends_both c.args.bank.now c.all_equal.new.bank c.join.new.bank c.all_equal.ensures.grows
    (extends_both c.all_equal.new.bank c.all_equal-2.new.bank c.join.new.bank c.all_equal-2.ensures.grows
    c.join.ensures.grows)
