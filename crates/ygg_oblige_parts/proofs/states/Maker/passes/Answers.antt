use Rattle.std.proofs.Common.{◌≡◌, List, Option, OnOk, IfOk, sym, ap, subst}
use Rattle.ygg_sym_spec.specs.ygg_bank_proofs_Widths.{extends_both, wider}
use Rattle.ygg_sym_spec.specs.ygg_bank.Makes.{Out}
use Rattle.ygg_sym_spec.specs.ygg_bank.Nodes.{IsBank}
use Rattle.ygg_sym_spec.specs.ygg_bank.declared.node.Id.{Id}
use Rattle.ygg_sym_spec.specs.ygg_bank.declared.node.Node.{Node}
use Rattle.ygg_sym_spec.specs.ygg_shape_cells.declared.terms.SymValue.{SymValue}
use Rattle.ygg_sym_spec.specs.ygg_sym_runs_proofs_Lows.{low_wider}
use Rattle.ygg_sym_spec.specs.ygg_sym_runs.Disks.{Done, done}
use Rattle.ygg_sym_spec.proofs.of_ygg_sym_runs.Zeros.{single_both, single_then}
use Rattle.ygg_sym_spec.specs.Layers.{closed, terms_in}
use Rattle.ygg_sym_spec.specs.Sites.{below_in}
use Rattle.ygg_oblige_laws.specs.Outcomes.{outcome_made}
use Rattle.ygg_oblige_laws.specs.TermStates.{related_made}
use Rattle.ygg_oblige_laws.specs.Terms.{same_answers_made}
use Rattle.ygg_oblige_parts.specs.Passing.{AskedAlike}
use Rattle.ygg_oblige_list.specs.InCode.{obligation_of}
use Rattle.ygg_oblige_parts.proofs.StepPasses.{passes_from, step_alike}
use Rattle.ygg_oblige_parts.proofs.states.Maker.passes.Goals as goal

pub same-requires : goal.same-requires
same-requires g c =
    let kinds = g.B.Book.kinds c.args.self.now.book.now in
    let l = c.args.self.now.layer in
    let s = c.args.step.now in
    let f = c.requires.can in
    let o = obligation_of s.obligation in
    let old = c.args.bank.now in
    let out = outcome_made kinds (terms_in kinds l) (closed l) o s.vars.now s.args.now c.args.picks.now old in
    subst (λ (z : List Node). AskedAlike o z s.answer.now c.in_ok-done.done.answer) (sym c.in_ok-done.ensures.nodes)
    (subst (λ (a : Option SymValue). AskedAlike o out.nodes s.answer.now a) (sym (ap (λ (d : Done). d.answer) c.in_ok-done.ensures.form))
    (step_alike kinds l.defs.now (below_in c.args.self.now.below) (closed l) f.layer o f.typed c.args.picks.now s.vars.now s.args.now s.answer.now old
    f.vars_are f.args_are f.answer_shaped f.answer_kept (subst IsBank c.in_ok-done.ensures.nodes c.outcome.ensures.bank)))

pub related-requires-clause-shaped : goal.related-requires-clause-shaped
related-requires-clause-shaped g c =
    let l = c.args.self.now.layer in
    let s = c.args.step.now in
    let old = c.args.bank.now in
    let one = c.outcome.new.bank in
    let two = c.same.new.bank in
    let grows = extends_both old one two c.outcome.ensures.grows c.same.ensures.grows in
    record {
      vars = low_wider one two l.layer.now.state c.in_ok-done.done.vars c.same.ensures.grows c.in_ok-done.ensures.shape;
      memory = low_wider old two l.layer.now.memory s.memory.now grows c.requires.can.memory_are;
      low = low_wider old two l.low.now s.low.now grows c.requires.can.low_are;
    }

pub join-requires-clause-one : goal.join-requires-clause-one
join-requires-clause-one g c = wider c.same.new.bank c.related.new.bank c.in_ok-same.same 1 c.related.ensures.grows c.in_ok-same.ensures.width

pub returns-clause-nodes : goal.returns-clause-nodes
returns-clause-nodes g c =
    let kinds = g.B.Book.kinds c.args.self.now.book.now in
    let l = c.args.self.now.layer in
    let L = closed l in
    let s = c.args.step.now in
    let o = obligation_of s.obligation in
    let d = done c.in_ok-done.done.answer c.in_ok-done.done.vars in
    subst (λ (p : Out Id). OnOk c.join.result (c.join.new.bank ≡ p.nodes))
    (passes_from kinds (outcome_made kinds (terms_in kinds l) L o s.vars.now s.args.now c.args.picks.now c.args.bank.now)
    (same_answers_made kinds o s.answer.now)
    (λ vars. related_made kinds (terms_in kinds l) L (record { vars = vars; memory = s.memory.now; low = s.low.now })) d c.in_ok-same.same
    c.in_ok-related.related c.outcome.new.bank c.same.new.bank c.related.new.bank c.in_ok-done.ensures.form c.in_ok-done.ensures.nodes
    c.in_ok-same.ensures.id c.in_ok-same.ensures.nodes c.in_ok-related.ensures.id c.in_ok-related.ensures.nodes) c.join.ensures.nodes

pub returns-clause-id : goal.returns-clause-id
returns-clause-id g c =
    let kinds = g.B.Book.kinds c.args.self.now.book.now in
    let l = c.args.self.now.layer in
    let L = closed l in
    let s = c.args.step.now in
    let o = obligation_of s.obligation in
    let d = done c.in_ok-done.done.answer c.in_ok-done.done.vars in
    subst (λ (p : Out Id). IfOk c.join.result (λ (id : Id). id ≡ p.value))
    (passes_from kinds (outcome_made kinds (terms_in kinds l) L o s.vars.now s.args.now c.args.picks.now c.args.bank.now)
    (same_answers_made kinds o s.answer.now)
    (λ vars. related_made kinds (terms_in kinds l) L (record { vars = vars; memory = s.memory.now; low = s.low.now })) d c.in_ok-same.same
    c.in_ok-related.related c.outcome.new.bank c.same.new.bank c.related.new.bank c.in_ok-done.ensures.form c.in_ok-done.ensures.nodes
    c.in_ok-same.ensures.id c.in_ok-same.ensures.nodes c.in_ok-related.ensures.id c.in_ok-related.ensures.nodes) c.join.ensures.id

pub returns-clause-single : goal.returns-clause-single
returns-clause-single g c =
    let old = c.args.bank.now in
    let one = c.outcome.new.bank in
    let two = c.same.new.bank in
    let three = c.related.new.bank in
    single_then old three c.join.new.bank c.join.result
    (single_both old two three (single_both old one two c.in_ok-done.ensures.single c.in_ok-same.ensures.single) c.in_ok-related.ensures.single)
    c.join.ensures.single

pub returns-in_err-same-clause-grows : goal.returns-in_err-same-clause-grows
returns-in_err-same-clause-grows g c =
    extends_both c.args.bank.now c.outcome.new.bank c.same.new.bank c.outcome.ensures.grows c.same.ensures.grows

pub returns-in_err-related-clause-grows : goal.returns-in_err-related-clause-grows
returns-in_err-related-clause-grows g c =
    extends_both c.args.bank.now c.outcome.new.bank c.related.new.bank c.outcome.ensures.grows
    (extends_both c.outcome.new.bank c.same.new.bank c.related.new.bank c.same.ensures.grows
    c.related.ensures.grows)

pub returns-clause-grows : goal.returns-clause-grows
returns-clause-grows g c =
    extends_both c.args.bank.now c.outcome.new.bank c.join.new.bank c.outcome.ensures.grows
    (extends_both c.outcome.new.bank c.same.new.bank c.join.new.bank c.same.ensures.grows
    (extends_both c.same.new.bank c.related.new.bank c.join.new.bank c.related.ensures.grows
    c.join.ensures.grows))
