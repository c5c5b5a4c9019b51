use Rattle.std.proofs.Common.{◌+◌, List, refl, sym, subst}
use Rattle.ygg_sym_runs.specs.ygg_bank_proofs_Widths.{extends_self, extends_both}
use Rattle.ygg_sym_runs.specs.ygg_bank.declared.node.Id.{Id}
use Rattle.ygg_sym_runs.specs.Seen.{env_of}
use Rattle.ygg_sym_runs.specs.Ready.{known_with, terms_of}
use Rattle.ygg_sym_runs.specs.Runs.{plain_scope}
use Rattle.ygg_sym_runs.proofs.Several.{PlacesSoFar, can_index, places_go, places_value, places_nodes}
use Rattle.ygg_sym_runs.proofs.Zeros.{single_both}
use Rattle.ygg_sym_runs.proofs.runner.SymRunner.places.Goals as goal

pub value-requires : goal.value-requires
value-requires g c = record {
  can = can_index (known_with c.args.self.now.defs.now (env_of c.args.names.now)) c.args.bank.now c.loop-index.bank c.args.indices.now
      c.loop-index.index-index c.index-item.result _ c.loop-index.invariant.grows c.loop-index-test.true c.index-item.is c.requires.can;
}

pub loop-index-preserved : goal.loop-index-preserved
loop-index-preserved g c =
    let r = c.args.self.now in
    let kinds = g.B.Book.kinds r.book.now in
    let terms = terms_of kinds r.defs.now in
    let scope = plain_scope (env_of c.args.names.now) in
    let old = c.args.bank.now in
    let is = c.args.indices.now in
    let i = c.loop-index.index-index in
    record {
      went = subst (λ (z : List Id). PlacesSoFar kinds terms scope is old (i + 1) z c.value.new.bank) (sym c.in_ok-push.ensures.items)
          (places_go kinds terms scope is old i c.loop-index.places.items c.loop-index.bank c.index-item.result _ c.in_ok-value.value c.id_in.result
          c.value.new.bank c.loop-index-test.true c.index-item.is c.in_ok-value.ensures.nodes c.in_ok-value.ensures.form c.id_in.ensures
          c.loop-index.invariant.went);
      grows = extends_both old c.loop-index.bank c.value.new.bank c.loop-index.invariant.grows c.value.ensures.grows;
      bank = c.value.ensures.bank;
      single = single_both old c.loop-index.bank c.value.new.bank c.loop-index.invariant.single c.in_ok-value.ensures.single;
    }

pub returns-in_err-value-clause-grows : goal.returns-in_err-value-clause-grows
returns-in_err-value-clause-grows g c =
    extends_both c.args.bank.now c.loop-index.bank c.value.new.bank c.loop-index.invariant.grows c.value.ensures.grows

pub returns-in_err-push-clause-grows : goal.returns-in_err-push-clause-grows
returns-in_err-push-clause-grows g c =
    extends_both c.args.bank.now c.loop-index.bank c.value.new.bank c.loop-index.invariant.grows c.value.ensures.grows

pub loop-index-init : goal.loop-index-init
loop-index-init g c =
    let r = c.args.self.now in
    let kinds = g.B.Book.kinds r.book.now in
    let scope = plain_scope (env_of c.args.names.now) in
    let old = c.args.bank.now in
    record {
      went = subst (λ (z : List Id). PlacesSoFar kinds (terms_of kinds r.defs.now) scope c.args.indices.now old 0 z old) (sym c.new-places.ensures.items)
          (record { value = refl; nodes = refl });
      grows = extends_self old;
      bank = c.requires.bank;
      single = λ first single. single;
    }

pub returns-clause-nodes : goal.returns-clause-nodes
returns-clause-nodes g c =
    let r = c.args.self.now in
    let kinds = g.B.Book.kinds r.book.now in
    places_nodes kinds (terms_of kinds r.defs.now) (plain_scope (env_of c.args.names.now)) c.args.indices.now c.args.bank.now c.loop-index.index-index
    c.loop-index.places.items c.loop-index.bank c.loop-index-test.false c.loop-index.invariant.went

pub returns-clause-form : goal.returns-clause-form
returns-clause-form g c =
    let r = c.args.self.now in
    let kinds = g.B.Book.kinds r.book.now in
    places_value kinds (terms_of kinds r.defs.now) (plain_scope (env_of c.args.names.now)) c.args.indices.now c.args.bank.now c.loop-index.index-index
    c.loop-index.places.items c.loop-index.bank c.loop-index-test.false c.loop-index.invariant.went
