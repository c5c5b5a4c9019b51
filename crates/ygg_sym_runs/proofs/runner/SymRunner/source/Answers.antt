use Rattle.std.proofs.Common.{List, sym, subst, ◌∙◌}
use Rattle.ygg_sym_runs.specs.ygg_bank_proofs_Widths.{extends_both}
use Rattle.ygg_syntax.specs.declared.tree.Expr.{Expr}
use Rattle.ygg_syntax.specs.declared.tree.Source.{Source}
use Rattle.ygg_sym_runs.specs.Seen.{env_of}
use Rattle.ygg_sym_runs.specs.Ready.{CanGet, CanCall}
use Rattle.ygg_sym_runs.proofs.Walking.{get_call, ask_call, call_terms}
use Rattle.ygg_sym_runs.proofs.Zeros.{single_then}
use Rattle.ygg_sym_runs.proofs.runner.SymRunner.source.Goals as goal

pub values-requires-clause-can : goal.values-requires-clause-can
values-requires-clause-can g c =
    let r = c.args.self.now in
    let kinds = g.B.Book.kinds r.book.now in
    let M = g.W.SymLower.means r.machine.now in
    let law = g.met.W.SymLower.keeps r.machine.now in
    let defs = r.defs.now in
    let env = env_of c.args.names.now in
    let s = c.args.state.now in
    let at = c.args.bank.now in
    let call = get_call M law kinds defs c.in-Call.field-0 c.in-Call.f c.in-Call.es at env s
    (subst (λ (z : Source). CanGet M defs z at env s) c.in-Call.is c.requires.can) in
    call_terms M law kinds defs c.in-Call.f c.as_slice.result.now at env s
    (subst (λ (z : List Expr). CanCall M defs c.in-Call.f z at env s) (sym c.as_slice.ensures) call)

pub ask-requires-in-Call : goal.ask-requires-in-Call
ask-requires-in-Call g c =
    let r = c.args.self.now in
    let kinds = g.B.Book.kinds r.book.now in
    let M = g.W.SymLower.means r.machine.now in
    let law = g.met.W.SymLower.keeps r.machine.now in
    let defs = r.defs.now in
    let env = env_of c.args.names.now in
    let s = c.args.state.now in
    let at = c.args.bank.now in
    let call = get_call M law kinds defs c.in-Call.field-0 c.in-Call.f c.in-Call.es at env s
    (subst (λ (z : Source). CanGet M defs z at env s) c.in-Call.is c.requires.can) in
    record {
      asks = ask_call M law kinds defs c.in-Call.f c.as_slice.result.now at c.values.new.bank env s c.as_slice-in-Call.result.now
          c.as_slice-in-Call-2.result.now (subst (λ (z : List Expr). CanCall M defs c.in-Call.f z at env s) (sym c.as_slice.ensures) call)
          c.in_ok-args-in-Call.ensures.nodes (c.as_slice-in-Call-2.ensures ∙ c.in_ok-args-in-Call.ensures.form) c.as_slice-in-Call.ensures
          c.values.ensures.bank c.in_ok-args-in-Call.ensures.single;
    }

pub returns-in_ok-args-in-Call-clause-single : goal.returns-in_ok-args-in-Call-clause-single
returns-in_ok-args-in-Call-clause-single g c =
    single_then c.args.bank.now c.values.new.bank c.ask-in-Call.new.bank c.ask-in-Call.result c.in_ok-args-in-Call.ensures.single
    c.ask-in-Call.ensures.single

pub returns-in_ok-args-in-Call-clause-grows : goal.returns-in_ok-args-in-Call-clause-grows
returns-in_ok-args-in-Call-clause-grows g c =
    extends_both c.args.bank.now c.values.new.bank c.ask-in-Call.new.bank c.values.ensures.grows c.ask-in-Call.ensures.grows
