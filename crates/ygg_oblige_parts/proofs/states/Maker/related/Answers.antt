use Rattle.std.proofs.Common.{◌≡◌, All, OnOk, IfOk, refl, sym, ap, ◌∙◌, subst}
use Rattle.ygg_sym_spec.specs.ygg_meaning.Related.{relations}
use Rattle.ygg_sym_spec.specs.ygg_bank.declared.node.Id.{Id}
use Rattle.ygg_sym_spec.specs.ygg_sym_runs.Names.{SymEnv}
use Rattle.ygg_sym_spec.specs.ygg_sym_runs.Seen.{SymKnown, env_of}
use Rattle.ygg_sym_spec.specs.ygg_sym_runs.Lower.{SingleFrom}
use Rattle.ygg_sym_spec.proofs.of_ygg_sym_runs.Singles.{single_stays}
use Rattle.ygg_sym_spec.proofs.of_ygg_sym_runs.Zeros.{single_kept}
use Rattle.ygg_sym_spec.specs.Layers.{closed, terms_in}
use Rattle.ygg_sym_spec.specs.Sites.{below_in}
use Rattle.ygg_oblige_laws.specs.TermStates.{Trio, related_made}
use Rattle.ygg_oblige_laws.proofs.Truths.{defs_keep}
use Rattle.ygg_oblige_laws.proofs.Starting.{related_keeps}
use Rattle.ygg_oblige_parts.specs.Formulas.{CanTest, seen, truths_in}
use Rattle.ygg_oblige_parts.proofs.Bound.{one_names, two_names}
use Rattle.ygg_oblige_parts.proofs.Scoped.{related_tests}
use Rattle.ygg_oblige_parts.proofs.states.Maker.related.Goals as goal

pub relations-requires-clause-tests : goal.relations-requires-clause-tests
relations-requires-clause-tests g c =
    let kinds = g.B.Book.kinds c.args.self.now.book.now in
    let l = c.args.self.now.layer in
    let L = closed l in
    let x : Trio = record { vars = c.args.vars.now; memory = c.args.memory.now; low = c.args.low.now } in
    let own = ap env_of c.as_slice-4.ensures.value
    ∙ two_names c.new-own.result.items c.add_names.new.names.items c.add_names-2.new.names.items c.as_slice-state.result.now L.layer.state
    c.as_slice-declared.result.now L.layer.memory c.as_slice.result.now x.vars c.as_slice-2.result.now x.memory c.new-own.ensures.items
    c.in_ok-add_names.ensures c.in_ok-add_names-2.ensures c.as_slice-state.ensures c.as_slice-declared.ensures c.as_slice.ensures c.as_slice-2.ensures in
    let low = ap env_of c.as_slice-5.ensures.value
    ∙ one_names c.new-behind.result.items c.add_names-3.new.names.items l.low.now L.low c.as_slice-3.result.now x.low c.new-behind.ensures.items
    c.in_ok-add_names-3.ensures refl c.as_slice-3.ensures in
    let same : seen l.defs.now (env_of c.as_slice-4.result.now) (env_of c.as_slice-5.result.now) ≡ _ =
    ap (λ (a : SymEnv). seen l.defs.now a (env_of c.as_slice-5.result.now)) own ∙ ap (seen l.defs.now _) low in
    subst (λ (k : SymKnown). All (CanTest k c.args.bank.now) (relations L)) (sym same)
    (related_tests kinds l.defs.now (below_in c.args.self.now.below) L c.requires.layer x c.args.bank.now c.requires.shaped)

pub returns-clause-nodes : goal.returns-clause-nodes
returns-clause-nodes g c =
    let kinds = g.B.Book.kinds c.args.self.now.book.now in
    let l = c.args.self.now.layer in
    let L = closed l in
    let x : Trio = record { vars = c.args.vars.now; memory = c.args.memory.now; low = c.args.low.now } in
    let own = ap env_of c.as_slice-4.ensures.value
    ∙ two_names c.new-own.result.items c.add_names.new.names.items c.add_names-2.new.names.items c.as_slice-state.result.now L.layer.state
    c.as_slice-declared.result.now L.layer.memory c.as_slice.result.now x.vars c.as_slice-2.result.now x.memory c.new-own.ensures.items
    c.in_ok-add_names.ensures c.in_ok-add_names-2.ensures c.as_slice-state.ensures c.as_slice-declared.ensures c.as_slice.ensures c.as_slice-2.ensures in
    let low = ap env_of c.as_slice-5.ensures.value
    ∙ one_names c.new-behind.result.items c.add_names-3.new.names.items l.low.now L.low c.as_slice-3.result.now x.low c.new-behind.ensures.items
    c.in_ok-add_names-3.ensures refl c.as_slice-3.ensures in
    let same : seen l.defs.now (env_of c.as_slice-4.result.now) (env_of c.as_slice-5.result.now) ≡ _ =
    ap (λ (a : SymEnv). seen l.defs.now a (env_of c.as_slice-5.result.now)) own ∙ ap (seen l.defs.now _) low in
    subst (λ (k : SymKnown). OnOk c.relations.result (c.relations.new.bank ≡ (truths_in kinds k (relations L) c.args.bank.now).nodes)) same
    c.relations.ensures.nodes

pub returns-clause-id : goal.returns-clause-id
returns-clause-id g c =
    let kinds = g.B.Book.kinds c.args.self.now.book.now in
    let l = c.args.self.now.layer in
    let L = closed l in
    let x : Trio = record { vars = c.args.vars.now; memory = c.args.memory.now; low = c.args.low.now } in
    let own = ap env_of c.as_slice-4.ensures.value
    ∙ two_names c.new-own.result.items c.add_names.new.names.items c.add_names-2.new.names.items c.as_slice-state.result.now L.layer.state
    c.as_slice-declared.result.now L.layer.memory c.as_slice.result.now x.vars c.as_slice-2.result.now x.memory c.new-own.ensures.items
    c.in_ok-add_names.ensures c.in_ok-add_names-2.ensures c.as_slice-state.ensures c.as_slice-declared.ensures c.as_slice.ensures c.as_slice-2.ensures in
    let low = ap env_of c.as_slice-5.ensures.value
    ∙ one_names c.new-behind.result.items c.add_names-3.new.names.items l.low.now L.low c.as_slice-3.result.now x.low c.new-behind.ensures.items
    c.in_ok-add_names-3.ensures refl c.as_slice-3.ensures in
    let same : seen l.defs.now (env_of c.as_slice-4.result.now) (env_of c.as_slice-5.result.now) ≡ _ =
    ap (λ (a : SymEnv). seen l.defs.now a (env_of c.as_slice-5.result.now)) own ∙ ap (seen l.defs.now _) low in
    subst (λ (k : SymKnown). IfOk c.relations.result (λ (id : Id). id ≡ (truths_in kinds k (relations L) c.args.bank.now).value)) same
    c.relations.ensures.id

pub returns-clause-single : goal.returns-clause-single
returns-clause-single g c =
    let kinds = g.B.Book.kinds c.args.self.now.book.now in
    let l = c.args.self.now.layer in
    let x : Trio = record { vars = c.args.vars.now; memory = c.args.memory.now; low = c.args.low.now } in
    let old = c.args.bank.now in
    single_kept old c.relations.new.bank (related_made kinds (terms_in kinds l) (closed l) x old).nodes c.relations.result (returns-clause-nodes g c)
    (λ first h. related_keeps kinds (SingleFrom first) (single_stays kinds first) (terms_in kinds l)
    (defs_keep kinds l.defs.now (SingleFrom first) (single_stays kinds first)) (closed l) x old h)
