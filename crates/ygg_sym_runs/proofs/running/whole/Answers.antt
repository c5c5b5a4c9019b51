use Rattle.std.proofs.Common.{List, ap, sym, subst, ◌∙◌}
use Rattle.std.specs.Option.{ForSome}
use Rattle.ygg_syntax.specs.declared.tree.Stmt.{Stmt}
use Rattle.ygg_sym_runs.specs.ygg_bank_proofs_Widths.{extends_both}
use Rattle.ygg_sym_runs.specs.Wholes.{sym_returned}
use Rattle.ygg_sym_runs.specs.Seen.{CanTerm, env_of}
use Rattle.ygg_sym_runs.specs.declared.held.SymBinding.{SymBinding}
use Rattle.ygg_sym_runs.specs.Ready.{CanRun, known_with, terms_of}
use Rattle.ygg_sym_runs.proofs.Ending.{first_names, whole_runs, whole_returns, whole_ends}
use Rattle.ygg_sym_runs.proofs.running.whole.Goals as goal

pub returned-requires-clause-can : goal.returned-requires-clause-can
returned-requires-clause-can g c =
    let r = c.args.runner.now in
    let kinds = g.B.Book.kinds r.book.now in
    let M = g.W.SymLower.means r.machine.now in
    let law = g.met.W.SymLower.keeps r.machine.now in
    let f = c.statements.new.frame in
    let b = c.args.b.now in
    subst (λ (bs : List SymBinding). ForSome b.answer (CanTerm (known_with r.defs.now (env_of bs)) c.statements.new.bank)) (sym c.as_slice-2.ensures.value)
    (whole_returns M r.defs.now law kinds b c.as_slice.result.now c.args.bank.now c.statements.new.bank (env_of c.args.names.items) (env_of f.names.items)
    c.args.state f.state c.in_ok-statements.field-0 c.requires.can c.as_slice.ensures c.in_ok-statements.ensures.ran c.statements.ensures.bank)

pub returns-clause-whole : goal.returns-clause-whole
returns-clause-whole g c vars args joined count =
    let r = c.args.runner.now in
    let kinds = g.B.Book.kinds r.book.now in
    let M = g.W.SymLower.means r.machine.now in
    let law = g.met.W.SymLower.keeps r.machine.now in
    let terms = terms_of kinds r.defs.now in
    let N = M.machine kinds in
    let f = c.statements.new.frame in
    let b = c.args.b.now in
    let mid = c.statements.new.bank in
    whole_ends M r.defs.now law kinds b c.as_slice.result.now vars args (env_of c.args.names.items) (env_of f.names.items) (env_of c.truncate.new.self.items)
    c.args.state f.state c.args.bank.now mid c.returned.new.bank c.in_ok-statements.field-0 c.args.count c.in_ok-answer.answer c.as_slice.ensures joined count
    c.in_ok-statements.ensures.ran
    (c.in_ok-answer.ensures.nodes ∙ ap (λ (bs : List SymBinding). (sym_returned kinds terms N b.answer (env_of bs) mid).nodes) c.as_slice-2.ensures.value)
    (c.in_ok-answer.ensures.form ∙ ap (λ (bs : List SymBinding). (sym_returned kinds terms N b.answer (env_of bs) mid).value) c.as_slice-2.ensures.value)
    (first_names f.names.items c.truncate.new.self.items c.args.count c.truncate.ensures.items) c.in_ok-answer.ensures.single

pub returns-clause-grows : goal.returns-clause-grows
returns-clause-grows g c = extends_both c.args.bank.now c.statements.new.bank c.returned.new.bank c.statements.ensures.grows c.returned.ensures.grows

pub returns-in_err-answer-clause-grows : goal.returns-in_err-answer-clause-grows
returns-in_err-answer-clause-grows g c =
    extends_both c.args.bank.now c.statements.new.bank c.returned.new.bank c.statements.ensures.grows c.returned.ensures.grows

pub returns-in_err-statements-clause-grows : goal.returns-in_err-statements-clause-grows
returns-in_err-statements-clause-grows g c = c.statements.ensures.grows

pub statements-requires-clause-can : goal.statements-requires-clause-can
statements-requires-clause-can g c =
    let r = c.args.runner.now in
    let M = g.W.SymLower.means r.machine.now in
    subst (λ (ss : List Stmt). CanRun M r.defs.now ss c.args.bank.now (env_of c.args.names.items) c.args.state) (sym c.as_slice.ensures)
    (whole_runs M r.defs.now c.args.b.now c.args.bank.now (env_of c.args.names.items) c.args.state c.requires.can)
