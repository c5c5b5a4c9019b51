use Rattle.std.proofs.Common.{List, ap, sym, subst, ◌∙◌}
use Rattle.ygg_sym_runs.specs.ygg_bank_proofs_Widths.{extends_both}
use Rattle.ygg_sym_runs.specs.ygg_bank.Makes.{Out}
use Rattle.ygg_sym_runs.specs.Seen.{env_of}
use Rattle.ygg_sym_runs.specs.declared.held.SymBinding.{SymBinding}
use Rattle.ygg_sym_runs.specs.Lower.{SingleFrom}
use Rattle.ygg_sym_runs.specs.Ready.{terms_of}
use Rattle.ygg_sym_runs.specs.Runs.{SymState, state, merge_state}
use Rattle.ygg_sym_runs.proofs.Joined.{join_merges, ends_same, joined_single}
use Rattle.ygg_sym_runs.proofs.Zeros.{single_both}
use Rattle.ygg_sym_runs.proofs.runner.SymRunner.join.Goals as goal

pub merge-requires : goal.merge-requires
merge-requires g c =
    let r = c.args.self.now in
    let M = g.W.SymLower.means r.machine.now in
    let can = c.requires.can in
    record {
      merges = join_merges M c.args.bank.now c.join_names.new.bank c.args.test c.args.frame.now.state c.args.other.now.state can.states
          c.join_names.ensures.grows;
    }

pub returns-clause-nodes : goal.returns-clause-nodes
returns-clause-nodes g c =
    let r = c.args.self.now in
    let kinds = g.B.Book.kinds r.book.now in
    let M = g.W.SymLower.means r.machine.now in
    let terms = terms_of kinds r.defs.now in
    let N = M.machine kinds in
    let at = c.args.bank.now in
    let t = c.args.test in
    let a = c.args.frame.now.state in
    let b = c.args.other.now.state in
    let one = c.as_slice.result.now in
    let two = c.as_slice-2.result.now in
    let W : List SymBinding → List SymBinding → Out (SymState g.row.W-State.Denot) =
    λ xs ys. merge_state kinds terms N t (state (env_of xs) a) (state (env_of ys) b) at in
    let same = ends_same kinds terms N t (env_of one) (env_of two) a b at c.join_names.new.bank (env_of c.in_ok-names.names.items)
    c.in_ok-names.ensures.nodes c.in_ok-names.ensures.form
    ∙ ap (λ (xs : List SymBinding). W xs two) c.as_slice.ensures.value
    ∙ ap (λ (ys : List SymBinding). W c.args.frame.now.names.items ys) c.as_slice-2.ensures.value in
    c.in_ok-state.ensures.nodes ∙ ap (λ (o : Out (SymState g.row.W-State.Denot)). o.nodes) same

pub returns-clause-names : goal.returns-clause-names
returns-clause-names g c =
    let r = c.args.self.now in
    let kinds = g.B.Book.kinds r.book.now in
    let M = g.W.SymLower.means r.machine.now in
    let terms = terms_of kinds r.defs.now in
    let N = M.machine kinds in
    let at = c.args.bank.now in
    let t = c.args.test in
    let a = c.args.frame.now.state in
    let b = c.args.other.now.state in
    let one = c.as_slice.result.now in
    let two = c.as_slice-2.result.now in
    let W : List SymBinding → List SymBinding → Out (SymState g.row.W-State.Denot) =
    λ xs ys. merge_state kinds terms N t (state (env_of xs) a) (state (env_of ys) b) at in
    let same = ends_same kinds terms N t (env_of one) (env_of two) a b at c.join_names.new.bank (env_of c.in_ok-names.names.items)
    c.in_ok-names.ensures.nodes c.in_ok-names.ensures.form
    ∙ ap (λ (xs : List SymBinding). W xs two) c.as_slice.ensures.value
    ∙ ap (λ (ys : List SymBinding). W c.args.frame.now.names.items ys) c.as_slice-2.ensures.value in
    ap (λ (o : Out (SymState g.row.W-State.Denot)). o.value.env) same

pub returns-clause-state : goal.returns-clause-state
returns-clause-state g c =
    let r = c.args.self.now in
    let kinds = g.B.Book.kinds r.book.now in
    let M = g.W.SymLower.means r.machine.now in
    let terms = terms_of kinds r.defs.now in
    let N = M.machine kinds in
    let at = c.args.bank.now in
    let t = c.args.test in
    let a = c.args.frame.now.state in
    let b = c.args.other.now.state in
    let one = c.as_slice.result.now in
    let two = c.as_slice-2.result.now in
    let W : List SymBinding → List SymBinding → Out (SymState g.row.W-State.Denot) =
    λ xs ys. merge_state kinds terms N t (state (env_of xs) a) (state (env_of ys) b) at in
    let same = ends_same kinds terms N t (env_of one) (env_of two) a b at c.join_names.new.bank (env_of c.in_ok-names.names.items)
    c.in_ok-names.ensures.nodes c.in_ok-names.ensures.form
    ∙ ap (λ (xs : List SymBinding). W xs two) c.as_slice.ensures.value
    ∙ ap (λ (ys : List SymBinding). W c.args.frame.now.names.items ys) c.as_slice-2.ensures.value in
    c.in_ok-state.ensures.form ∙ ap (λ (o : Out (SymState g.row.W-State.Denot)). o.value.to) same

pub returns-clause-single : goal.returns-clause-single
returns-clause-single g c =
    let kinds = g.B.Book.kinds c.args.self.now.book.now in
    let at = c.args.bank.now in
    let one = env_of c.as_slice.result.now in
    let two = env_of c.as_slice-2.result.now in
    single_both at c.join_names.new.bank c.merge.new.bank
    (λ first h. subst (SingleFrom first) (sym c.in_ok-names.ensures.nodes) (joined_single kinds c.args.test one two at first h)) c.in_ok-state.ensures.single

pub returns-in_err-state-clause-grows : goal.returns-in_err-state-clause-grows
returns-in_err-state-clause-grows g c =
    extends_both c.args.bank.now c.join_names.new.bank c.merge.new.bank c.join_names.ensures.grows c.merge.ensures.grows

pub returns-clause-grows : goal.returns-clause-grows
returns-clause-grows g c = extends_both c.args.bank.now c.join_names.new.bank c.merge.new.bank c.join_names.ensures.grows c.merge.ensures.grows
