use Rattle.std.proofs.Common.{◌≡◌, List, [], All, OnOk, IfOk, refl, sym, ap, ◌∙◌, subst}
use Rattle.ygg_syntax.specs.declared.tree.Expr.{Expr}
use Rattle.ygg_sym_spec.specs.ygg_bank.declared.node.Id.{Id}
use Rattle.ygg_sym_spec.specs.ygg_sym_runs.Seen.{SymKnown, env_of, known_of}
use Rattle.ygg_sym_spec.specs.ygg_sym_runs.Lower.{SingleFrom}
use Rattle.ygg_sym_spec.proofs.of_ygg_sym_runs.Singles.{single_stays}
use Rattle.ygg_sym_spec.proofs.of_ygg_sym_runs.Zeros.{single_kept}
use Rattle.ygg_sym_spec.specs.Layers.{closed, terms_in}
use Rattle.ygg_sym_spec.specs.Sites.{below_in}
use Rattle.ygg_oblige_laws.specs.TermStates.{settled_made}
use Rattle.ygg_oblige_laws.proofs.Truths.{defs_keep}
use Rattle.ygg_oblige_laws.proofs.Starting.{settled_keeps}
use Rattle.ygg_oblige_parts.specs.Formulas.{CanTest, seen, truths_in}
use Rattle.ygg_oblige_parts.proofs.Bound.{one_names}
use Rattle.ygg_oblige_parts.proofs.Scoped.{settled_tests}
use Rattle.ygg_oblige_parts.proofs.states.Maker.settled.Goals as goal

pub truths-requires-clause-tests : goal.truths-requires-clause-tests
truths-requires-clause-tests g c =
    let kinds = g.B.Book.kinds c.args.self.now.book.now in
    let l = c.args.self.now.layer in
    let L = closed l in
    let low = ap env_of c.as_slice-2.ensures.value
    ∙ one_names c.new-behind.result.items c.add_names.new.names.items l.low.now L.low c.as_slice.result.now c.args.low.now c.new-behind.ensures.items
    c.in_ok-add_names.ensures refl c.as_slice.ensures in
    let same = c.new-evaluator.ensures ∙ ap (seen l.defs.now []) low in
    subst (λ (es : List Expr). All (CanTest (known_of c.new-evaluator.result) c.args.bank.now) es) (sym c.as_slice-settled.ensures)
    (subst (λ (k : SymKnown). All (CanTest k c.args.bank.now) L.layer.settled) (sym same)
    (settled_tests kinds l.defs.now (below_in c.args.self.now.below) L c.requires.layer c.args.low.now c.args.bank.now c.requires.shaped))

pub returns-clause-nodes : goal.returns-clause-nodes
returns-clause-nodes g c =
    let kinds = g.B.Book.kinds c.args.self.now.book.now in
    let l = c.args.self.now.layer in
    let L = closed l in
    let low = ap env_of c.as_slice-2.ensures.value
    ∙ one_names c.new-behind.result.items c.add_names.new.names.items l.low.now L.low c.as_slice.result.now c.args.low.now c.new-behind.ensures.items
    c.in_ok-add_names.ensures refl c.as_slice.ensures in
    let same = c.new-evaluator.ensures ∙ ap (seen l.defs.now []) low in
    subst (λ (k : SymKnown). OnOk c.truths.result (c.truths.new.bank ≡ (truths_in kinds k L.layer.settled c.args.bank.now).nodes)) same
    (subst (λ (es : List Expr). OnOk c.truths.result (c.truths.new.bank ≡ (truths_in kinds (known_of c.new-evaluator.result) es c.args.bank.now).nodes))
    c.as_slice-settled.ensures c.truths.ensures.nodes)

pub returns-clause-id : goal.returns-clause-id
returns-clause-id g c =
    let kinds = g.B.Book.kinds c.args.self.now.book.now in
    let l = c.args.self.now.layer in
    let L = closed l in
    let low = ap env_of c.as_slice-2.ensures.value
    ∙ one_names c.new-behind.result.items c.add_names.new.names.items l.low.now L.low c.as_slice.result.now c.args.low.now c.new-behind.ensures.items
    c.in_ok-add_names.ensures refl c.as_slice.ensures in
    let same = c.new-evaluator.ensures ∙ ap (seen l.defs.now []) low in
    subst (λ (k : SymKnown). IfOk c.truths.result (λ (id : Id). id ≡ (truths_in kinds k L.layer.settled c.args.bank.now).value)) same
    (subst (λ (es : List Expr). IfOk c.truths.result (λ (id : Id). id ≡ (truths_in kinds (known_of c.new-evaluator.result) es c.args.bank.now).value))
    c.as_slice-settled.ensures c.truths.ensures.id)

pub returns-clause-single : goal.returns-clause-single
returns-clause-single g c =
    let kinds = g.B.Book.kinds c.args.self.now.book.now in
    let l = c.args.self.now.layer in
    let old = c.args.bank.now in
    single_kept old c.truths.new.bank (settled_made kinds (terms_in kinds l) (closed l) c.args.low.now old).nodes c.truths.result (returns-clause-nodes g c)
    (λ first h. settled_keeps kinds (SingleFrom first) (single_stays kinds first) (terms_in kinds l)
    (defs_keep kinds l.defs.now (SingleFrom first) (single_stays kinds first)) (closed l) c.args.low.now old h)
