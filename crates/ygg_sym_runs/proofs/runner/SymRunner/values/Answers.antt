use Rattle.std.proofs.Common.{◌+◌, List, refl, sym, subst}
use Rattle.ygg_sym_runs.specs.ygg_bank_proofs_Widths.{extends_self, extends_both}
use Rattle.ygg_sym_runs.specs.ygg_shape_cells.declared.terms.SymValue.{SymValue}
use Rattle.ygg_sym_runs.specs.Seen.{env_of}
use Rattle.ygg_sym_runs.specs.Ready.{known_with, terms_of}
use Rattle.ygg_sym_runs.specs.Runs.{plain_scope}
use Rattle.ygg_sym_runs.proofs.Several.{SoFar, can_at, goes, all_value, all_nodes}
use Rattle.ygg_sym_runs.proofs.Zeros.{single_both}
use Rattle.ygg_sym_runs.proofs.runner.SymRunner.values.Goals as goal

pub value-requires : goal.value-requires
value-requires g c = record {
  can = can_at (known_with c.args.self.now.defs.now (env_of c.args.names.now)) c.args.bank.now c.loop-e.bank c.args.es.now c.loop-e.e-index c.e-item.result _
      c.loop-e.invariant.grows c.loop-e-test.true c.e-item.is c.requires.can;
}

pub loop-e-preserved : goal.loop-e-preserved
loop-e-preserved g c =
    let r = c.args.self.now in
    let kinds = g.B.Book.kinds r.book.now in
    let terms = terms_of kinds r.defs.now in
    let scope = plain_scope (env_of c.args.names.now) in
    let old = c.args.bank.now in
    let es = c.args.es.now in
    let i = c.loop-e.e-index in
    record {
      went = subst (λ (z : List SymValue). SoFar kinds terms scope es old (i + 1) z c.value.new.bank) (sym c.in_ok-push.ensures.ok)
          (goes kinds terms scope es old i c.loop-e.values c.loop-e.bank c.e-item.result _ c.in_ok-value.value c.value.new.bank c.loop-e-test.true c.e-item.is
          c.in_ok-value.ensures.nodes c.in_ok-value.ensures.form c.loop-e.invariant.went);
      grows = extends_both old c.loop-e.bank c.value.new.bank c.loop-e.invariant.grows c.value.ensures.grows;
      bank = c.value.ensures.bank;
      single = single_both old c.loop-e.bank c.value.new.bank c.loop-e.invariant.single c.in_ok-value.ensures.single;
    }

pub returns-in_err-value-clause-grows : goal.returns-in_err-value-clause-grows
returns-in_err-value-clause-grows g c = extends_both c.args.bank.now c.loop-e.bank c.value.new.bank c.loop-e.invariant.grows c.value.ensures.grows

pub returns-in_err-push-clause-grows : goal.returns-in_err-push-clause-grows
returns-in_err-push-clause-grows g c = extends_both c.args.bank.now c.loop-e.bank c.value.new.bank c.loop-e.invariant.grows c.value.ensures.grows

pub loop-e-init : goal.loop-e-init
loop-e-init g c =
    let r = c.args.self.now in
    let kinds = g.B.Book.kinds r.book.now in
    let scope = plain_scope (env_of c.args.names.now) in
    let old = c.args.bank.now in
    record {
      went = subst (λ (z : List SymValue). SoFar kinds (terms_of kinds r.defs.now) scope c.args.es.now old 0 z old) (sym c.new-values.ensures)
          (record { value = refl; nodes = refl });
      grows = extends_self old;
      bank = c.requires.bank;
      single = λ first single. single;
    }

pub returns-clause-nodes : goal.returns-clause-nodes
returns-clause-nodes g c =
    let r = c.args.self.now in
    let kinds = g.B.Book.kinds r.book.now in
    all_nodes kinds (terms_of kinds r.defs.now) (plain_scope (env_of c.args.names.now)) c.args.es.now c.args.bank.now c.loop-e.e-index c.loop-e.values
    c.loop-e.bank c.loop-e-test.false c.loop-e.invariant.went

pub returns-clause-form : goal.returns-clause-form
returns-clause-form g c =
    let r = c.args.self.now in
    let kinds = g.B.Book.kinds r.book.now in
    all_value kinds (terms_of kinds r.defs.now) (plain_scope (env_of c.args.names.now)) c.args.es.now c.args.bank.now c.loop-e.e-index c.loop-e.values
    c.loop-e.bank c.loop-e-test.false c.loop-e.invariant.went
