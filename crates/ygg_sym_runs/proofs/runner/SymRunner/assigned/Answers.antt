use Rattle.std.proofs.Common.{List, All, map, ap, sym, subst, ◌∙◌, arith}
use Rattle.ygg_sym_runs.specs.ygg_bank_proofs_Widths.{extends_both}
use Rattle.ygg_sym_runs.specs.ygg_bank.Makes.{Out}
use Rattle.ygg_sym_runs.specs.ygg_bank.declared.node.Node.{Node}
use Rattle.ygg_meaning_laws.specs.ygg_meaning.Environments.{Name}
use Rattle.ygg_sym_runs.specs.ygg_shape_cells.declared.terms.SymValue.{SymValue}
use Rattle.ygg_sym_runs.specs.Names.{sym_look_up}
use Rattle.ygg_sym_runs.specs.Exprs.{id_in}
use Rattle.ygg_sym_runs.specs.Seen.{CanTerm, env_of}
use Rattle.ygg_sym_runs.specs.declared.held.SymBinding.{SymBinding}
use Rattle.ygg_meaning_laws.specs.ygg_type_rules.Statements.{source_typing}
use Rattle.ygg_meaning_laws.specs.Kinds.{source_keeps}
use Rattle.ygg_sym_runs.specs.Putting.{put_made}
use Rattle.ygg_sym_runs.specs.Ready.{known_with, terms_of, CanGet, CanPut}
use Rattle.ygg_sym_runs.specs.Runs.{places_of, sym_change, sym_source, sym_values}
use Rattle.ygg_sym_runs.proofs.Assigning.{assign_get, assign_places, change_can}
use Rattle.ygg_sym_runs.proofs.Changed.{names_back}
use Rattle.ygg_sym_runs.proofs.Parting.{assign_ends}
use Rattle.ygg_sym_runs.proofs.Walking.{do_later}
use Rattle.ygg_sym_runs.proofs.runner.SymRunner.assigned.Goals as goal

pub places-requires-clause-can : goal.places-requires-clause-can
places-requires-clause-can g c =
    let r = c.args.self.now in
    let kinds = g.B.Book.kinds r.book.now in
    let M = g.W.SymLower.means r.machine.now in
    let law = g.met.W.SymLower.keeps r.machine.now in
    let defs = r.defs.now in
    let at = c.args.bank.now in
    let f = c.args.frame.now in
    subst (λ (bs : List SymBinding). All (CanTerm (known_with defs (env_of bs)) at) (places_of c.args.indices.now)) (sym c.as_slice.ensures.value)
    (assign_places M law kinds defs c.args.x.now c.args.indices.now c.args.from.now at (env_of f.names.items) f.state c.requires.can c.requires.bank)

pub source-requires-clause-can : goal.source-requires-clause-can
source-requires-clause-can g c =
    let r = c.args.self.now in
    let kinds = g.B.Book.kinds r.book.now in
    let M = g.W.SymLower.means r.machine.now in
    let law = g.met.W.SymLower.keeps r.machine.now in
    let defs = r.defs.now in
    let at = c.args.bank.now in
    let f = c.args.frame.now in
    let from = c.args.from.now in
    subst (λ (bs : List SymBinding). CanGet M defs from c.places.new.bank (env_of bs) f.state) (sym c.as_slice-2.ensures.value)
    (do_later M law kinds defs (λ scope. (source_typing from scope).type_errors) (λ kind. source_keeps kind from) at c.places.new.bank
    (env_of f.names.items) f.state c.places.ensures.grows c.in_ok-places.ensures.single
    (assign_get M law kinds defs c.args.x.now c.args.indices.now from at (env_of f.names.items) f.state c.requires.can))

pub change-requires : goal.change-requires
change-requires g c =
    let r = c.args.self.now in
    let kinds = g.B.Book.kinds r.book.now in
    let M = g.W.SymLower.means r.machine.now in
    let law = g.met.W.SymLower.keeps r.machine.now in
    let defs = r.defs.now in
    let terms = terms_of kinds defs in
    let N = M.machine kinds in
    let at = c.args.bank.now in
    let f = c.args.frame.now in
    let from = c.args.from.now in
    let is = places_of c.args.indices.now in
    let items = f.names.items in
    let mid = c.places.new.bank in
    let i = c.args.place in
    let can = change_can M law kinds defs c.args.x.now c.args.indices.now from at (env_of items) f.state c.requires.can i mid c.source.new.bank
    c.as_slice-4.result.now c.in_ok-value.value
    (c.in_ok-places.ensures.nodes ∙ ap (λ (bs : List SymBinding). (sym_values kinds terms N is (env_of bs) at).nodes) c.as_slice.ensures.value)
    (c.as_slice-4.ensures.value ∙ c.in_ok-places.ensures.form
    ∙ ap (λ (bs : List SymBinding). map id_in (sym_values kinds terms N is (env_of bs) at).value) c.as_slice.ensures.value)
    (c.in_ok-value.ensures.nodes ∙ ap (λ (bs : List SymBinding). (sym_source kinds terms N from i (env_of bs) f.state mid).nodes) c.as_slice-2.ensures.value)
    (c.in_ok-value.ensures.form
    ∙ ap (λ (bs : List SymBinding). (sym_source kinds terms N from i (env_of bs) f.state mid).value.value) c.as_slice-2.ensures.value)
    c.source.ensures.bank in
    record {
      can = subst (λ (bs : List SymBinding). CanPut c.source.new.bank (sym_look_up c.as_slice-3.result.now (env_of bs))
          c.as_slice-4.result.now c.in_ok-value.value)
          (sym c.deref_mut.ensures.value)
          (subst (λ (n : Name). CanPut c.source.new.bank (sym_look_up n (env_of items)) c.as_slice-4.result.now c.in_ok-value.value)
          (sym c.as_slice-3.ensures) can);
    }

pub returns-clause-ran : goal.returns-clause-ran
returns-clause-ran g c =
    let r = c.args.self.now in
    let kinds = g.B.Book.kinds r.book.now in
    let M = g.W.SymLower.means r.machine.now in
    let defs = r.defs.now in
    let terms = terms_of kinds defs in
    let N = M.machine kinds in
    let at = c.args.bank.now in
    let f = c.args.frame.now in
    let from = c.args.from.now in
    let is = places_of c.args.indices.now in
    let items = f.names.items in
    let mid = c.places.new.bank in
    let next = c.source.new.bank in
    let i = c.args.place in
    let name = c.as_slice-3.result.now in
    let ids = c.as_slice-4.result.now in
    let y = c.in_ok-value.value in
    let put : SymValue → List Node → Out SymValue = λ old. put_made kinds old ids y in
    assign_ends kinds terms N c.args.x.now c.args.indices.now from i c.in_ok-end.end (env_of items) _ f.state c.source.new.state at mid next
    c.change.new.bank ids y name c.in_ok-end.ensures
    (c.in_ok-places.ensures.nodes ∙ ap (λ (bs : List SymBinding). (sym_values kinds terms N is (env_of bs) at).nodes) c.as_slice.ensures.value)
    (c.as_slice-4.ensures.value ∙ c.in_ok-places.ensures.form
    ∙ ap (λ (bs : List SymBinding). map id_in (sym_values kinds terms N is (env_of bs) at).value) c.as_slice.ensures.value)
    (c.in_ok-value.ensures.nodes ∙ ap (λ (bs : List SymBinding). (sym_source kinds terms N from i (env_of bs) f.state mid).nodes) c.as_slice-2.ensures.value)
    (c.in_ok-value.ensures.form
    ∙ ap (λ (bs : List SymBinding). (sym_source kinds terms N from i (env_of bs) f.state mid).value.value) c.as_slice-2.ensures.value)
    (c.in_ok-value.ensures.state
    ∙ ap (λ (bs : List SymBinding). (sym_source kinds terms N from i (env_of bs) f.state mid).value.to) c.as_slice-2.ensures.value)
    c.as_slice-3.ensures
    (c.in_ok-change.ensures.nodes ∙ ap (λ (bs : List SymBinding). (sym_change name put (env_of bs) next).nodes) c.deref_mut.ensures.value)
    (ap env_of (names_back items c.deref_mut.result.now c.change.new.names f.names.len c.deref_mut.ensures.value (omega (arith, f.names.ok.0))
    c.change.auto.names)
    ∙ c.in_ok-change.ensures.names ∙ ap (λ (bs : List SymBinding). (sym_change name put (env_of bs) next).value) c.deref_mut.ensures.value)
    c.in_ok-places.ensures.single c.in_ok-value.ensures.single c.in_ok-change.ensures.single

pub returns-in_err-value-clause-grows : goal.returns-in_err-value-clause-grows
returns-in_err-value-clause-grows g c = extends_both c.args.bank.now c.places.new.bank c.source.new.bank c.places.ensures.grows c.source.ensures.grows

pub returns-in_err-change-clause-grows : goal.returns-in_err-change-clause-grows
returns-in_err-change-clause-grows g c =
    extends_both c.args.bank.now c.places.new.bank c.change.new.bank c.places.ensures.grows
    (extends_both c.places.new.bank c.source.new.bank c.change.new.bank c.source.ensures.grows c.change.ensures.grows)

pub returns-clause-grows : goal.returns-clause-grows
returns-clause-grows g c =
    extends_both c.args.bank.now c.places.new.bank c.change.new.bank c.places.ensures.grows
    (extends_both c.places.new.bank c.source.new.bank c.change.new.bank c.source.ensures.grows c.change.ensures.grows)
