use Rattle.std.proofs.Common.{◌≡◌, ◌<◌, ◌+◌, ◌++◌, ◌∷◌, [], length, get_or, ap, sym, ◌∙◌, subst, arith}
use Rattle.std.proofs.lemmas.List.{get_or-map, length-map, map-append}
use Rattle.ygg_meaning_laws.specs.ygg_meaning.Environments.{Name}
use Rattle.ygg_sym_runs.specs.ygg_bank_proofs_Widths.{wider, extends_self, extends_both}
use Rattle.ygg_sym_runs.proofs.of_ygg_shape.Steps.{EachTwo, each_two_begins, each_two_goes, each_two_value, each_two_nodes}
use Rattle.ygg_sym_runs.specs.ygg_shape_cells.declared.terms.SymValue.{SymValue}
use Rattle.ygg_sym_runs.specs.Names.{SymEnv}
use Rattle.ygg_sym_runs.specs.Seen.{env_of}
use Rattle.ygg_sym_runs.specs.declared.held.SymBinding.{SymBinding}
use Rattle.ygg_sym_runs.specs.Ready.{joined_name}
use Rattle.ygg_sym_runs.proofs.Joined.{alike_at, all_named}
use Rattle.ygg_sym_runs.proofs.names.join_names.Goals as goal

pub merge-requires-clause-test : goal.merge-requires-clause-test
merge-requires-clause-test g c =
    let j = c.requires.can in
    wider c.args.bank.now c.loop-place.bank c.args.test 1 c.loop-place.invariant.grows j.test

pub merge-requires-clause-values : goal.merge-requires-clause-values
merge-requires-clause-values g c =
    let j = c.requires.can in
    let i = c.loop-place.place in
    let no = c.args.no.now in
    alike_at c.args.bank.now c.loop-place.bank c.args.yes.now no i c.index-yes-place.result _ (get_or no i c.index-no-place.result) _
    c.loop-place.invariant.grows j.alike c.loop-place-test.true j.count c.index-yes-place.is (ap (get_or no i) c.index-no-place.is)

pub loop-place-preserved : goal.loop-place-preserved
loop-place-preserved g c =
    let kinds = g.B.Book.kinds c.args.book.now in
    let j = c.requires.can in
    let i = c.loop-place.place in
    let yes = c.args.yes.now in
    let no = c.args.no.now in
    let old = c.args.bank.now in
    let entry : SymBinding → Name × SymValue = λ b. (b.name.now, b.value) in
    let one = c.index-yes-place.result in
    let two = get_or no i c.index-no-place.result in
    let step = joined_name kinds c.args.test in
    let size = length-map yes entry in
    let less : i < length (env_of yes) = omega (arith, size, c.loop-place-test.true) in
    let less_no : i < length (env_of no) = let n = j.count in omega (arith, n, less) in
    let size_no = length-map no entry in
    let here : entry one ≡ get_or (env_of yes) i (entry one) =
    ap entry c.index-yes-place.is ∙ sym (get_or-map entry yes i _ (entry one) c.loop-place-test.true) in
    let there : entry two ≡ get_or (env_of no) i (entry two) =
    sym (get_or-map entry no i c.index-no-place.result (entry two) (omega (arith, size_no, less_no))) in
    let names = c.loop-place.names.items in
    let item : SymBinding = record { name = one.name; value = c.in_ok-value.value } in
    let grown : env_of names ++ entry item ∷ [] ≡ env_of c.push.new.self.items =
    sym (ap env_of c.in_ok-push.ensures.items ∙ map-append entry names (item ∷ [])) in
    record {
      went = subst (λ (z : SymEnv). EachTwo step (env_of yes) (env_of no) old (i + 1) z c.merge.new.bank) grown
          (each_two_goes step (env_of yes) (env_of no) old i (env_of names) c.loop-place.bank (entry one) (entry one) (entry two) (entry two) (entry item)
          c.merge.new.bank less less_no here there c.in_ok-value.ensures.nodes
          (ap (λ (v : SymValue). (one.name.now, v)) c.in_ok-value.ensures.form) c.loop-place.invariant.went);
      grows = extends_both old c.loop-place.bank c.merge.new.bank c.loop-place.invariant.grows c.merge.ensures.grows;
      bank = c.merge.ensures.bank;
    }

pub returns-in_err-value-clause-grows : goal.returns-in_err-value-clause-grows
returns-in_err-value-clause-grows g c =
    extends_both c.args.bank.now c.loop-place.bank c.merge.new.bank c.loop-place.invariant.grows c.merge.ensures.grows

pub returns-in_err-push-clause-grows : goal.returns-in_err-push-clause-grows
returns-in_err-push-clause-grows g c =
    extends_both c.args.bank.now c.loop-place.bank c.merge.new.bank c.loop-place.invariant.grows c.merge.ensures.grows

pub loop-place-init : goal.loop-place-init
loop-place-init g c =
    let step = joined_name (g.B.Book.kinds c.args.book.now) c.args.test in
    let yes = env_of c.args.yes.now in
    let no = env_of c.args.no.now in
    let old = c.args.bank.now in
    record {
      went = subst (λ (z : SymEnv). EachTwo step yes no old 0 z old) (sym (ap env_of c.new-names.ensures.items)) (each_two_begins step yes no old);
      grows = extends_self old;
      bank = c.requires.bank;
    }

pub returns-clause-nodes : goal.returns-clause-nodes
returns-clause-nodes g c =
    each_two_nodes (joined_name (g.B.Book.kinds c.args.book.now) c.args.test) (env_of c.args.yes.now) (env_of c.args.no.now) c.args.bank.now c.loop-place.place
    (env_of c.loop-place.names.items) c.loop-place.bank (all_named c.args.yes.now c.loop-place.place c.loop-place-test.false) c.loop-place.invariant.went

pub returns-clause-form : goal.returns-clause-form
returns-clause-form g c =
    each_two_value (joined_name (g.B.Book.kinds c.args.book.now) c.args.test) (env_of c.args.yes.now) (env_of c.args.no.now) c.args.bank.now c.loop-place.place
    (env_of c.loop-place.names.items) c.loop-place.bank (all_named c.args.yes.now c.loop-place.place c.loop-place-test.false) c.loop-place.invariant.went
