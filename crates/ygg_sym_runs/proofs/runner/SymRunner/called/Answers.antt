use Rattle.std.proofs.Common.{List, All, ap, sym, subst, ◌∙◌}
use Rattle.ygg_sym_runs.specs.ygg_bank_proofs_Widths.{extends_both}
use Rattle.ygg_sym_runs.specs.Seen.{CanTerm, env_of}
use Rattle.ygg_sym_runs.specs.declared.held.SymBinding.{SymBinding}
use Rattle.ygg_sym_runs.specs.Ready.{known_with, terms_of}
use Rattle.ygg_sym_runs.specs.Runs.{sym_values}
use Rattle.ygg_sym_runs.proofs.Parting.{call_ends}
use Rattle.ygg_sym_runs.proofs.Walking.{ask_call, call_terms}
use Rattle.ygg_sym_runs.proofs.runner.SymRunner.called.Goals as goal

pub values-requires-clause-can : goal.values-requires-clause-can
values-requires-clause-can g c =
    let r = c.args.self.now in
    let kinds = g.B.Book.kinds r.book.now in
    let M = g.W.SymLower.means r.machine.now in
    let law = g.met.W.SymLower.keeps r.machine.now in
    let defs = r.defs.now in
    let es = c.args.es.now in
    let at = c.args.bank.now in
    let f = c.args.frame.now in
    subst (λ (bs : List SymBinding). All (CanTerm (known_with defs (env_of bs)) at) es) (sym c.as_slice.ensures.value)
    (call_terms M law kinds defs c.args.f.now es at (env_of f.names.items) f.state c.requires.can)

pub handle-requires : goal.handle-requires
handle-requires g c =
    let r = c.args.self.now in
    let kinds = g.B.Book.kinds r.book.now in
    let M = g.W.SymLower.means r.machine.now in
    let law = g.met.W.SymLower.keeps r.machine.now in
    let defs = r.defs.now in
    let terms = terms_of kinds defs in
    let N = M.machine kinds in
    let es = c.args.es.now in
    let at = c.args.bank.now in
    let f = c.args.frame.now in
    record {
      asks = ask_call M law kinds defs c.args.f.now es at c.values.new.bank (env_of f.names.items) f.state c.as_slice-2.result.now c.as_slice-3.result.now
          c.requires.can
          (c.in_ok-args.ensures.nodes ∙ ap (λ (bs : List SymBinding). (sym_values kinds terms N es (env_of bs) at).nodes) c.as_slice.ensures.value)
          (c.as_slice-3.ensures ∙ c.in_ok-args.ensures.form
          ∙ ap (λ (bs : List SymBinding). (sym_values kinds terms N es (env_of bs) at).value) c.as_slice.ensures.value)
          c.as_slice-2.ensures c.values.ensures.bank c.in_ok-args.ensures.single;
    }

pub returns-clause-ran : goal.returns-clause-ran
returns-clause-ran g c =
    let r = c.args.self.now in
    let kinds = g.B.Book.kinds r.book.now in
    let M = g.W.SymLower.means r.machine.now in
    let defs = r.defs.now in
    let terms = terms_of kinds defs in
    let N = M.machine kinds in
    let es = c.args.es.now in
    let at = c.args.bank.now in
    let f = c.args.frame.now in
    call_ends kinds terms N c.args.f.now es c.args.place c.in_ok-end.end (env_of f.names.items) f.state c.handle.new.state at c.values.new.bank
    c.handle.new.bank c.as_slice-3.result.now c.as_slice-2.result.now c.in_ok-end.ensures
    (c.in_ok-args.ensures.nodes ∙ ap (λ (bs : List SymBinding). (sym_values kinds terms N es (env_of bs) at).nodes) c.as_slice.ensures.value)
    (c.as_slice-3.ensures ∙ c.in_ok-args.ensures.form
    ∙ ap (λ (bs : List SymBinding). (sym_values kinds terms N es (env_of bs) at).value) c.as_slice.ensures.value)
    c.as_slice-2.ensures c.in_ok-handle.ensures.nodes c.in_ok-handle.ensures.state c.in_ok-args.ensures.single c.in_ok-handle.ensures.single

pub returns-in_err-handle-clause-grows : goal.returns-in_err-handle-clause-grows
returns-in_err-handle-clause-grows g c =
    extends_both c.args.bank.now c.values.new.bank c.handle.new.bank c.values.ensures.grows c.handle.ensures.grows

pub returns-clause-grows : goal.returns-clause-grows
returns-clause-grows g c = extends_both c.args.bank.now c.values.new.bank c.handle.new.bank c.values.ensures.grows c.handle.ensures.grows
