use Rattle.std.proofs.Common.{◌≡◌, ◌≤◌, ℕ, ◌+◌, ◌++◌, [], List, replicate, length, take, get_or, IfOk, refl, sym, ap, ◌∙◌, subst, arith, rules}
use Rattle.std.proofs.lemmas.List.{append-nil}
use Rattle.ygg_value.specs.Number.{IsWord}
use Rattle.ygg_value.specs.Words.{word}
use Rattle.ygg_syntax.specs.declared.tree.Expr.{Expr}
use Rattle.ygg_eval_expr.specs.ygg_syntax.Weights.{weights_of, expr_weight}
use Rattle.ygg_shape.specs.ygg_bank_proofs_Widths.{extends_self, extends_both, wider}
use Rattle.ygg_shape.specs.ygg_bank.Makes.{Make, Out, pure}
use Rattle.ygg_shape.specs.ygg_bank.Making.{made}
use Rattle.ygg_shape.specs.ygg_bank.Nodes.{HasWidth, Stands, CanBin}
use Rattle.ygg_shape.specs.ygg_bank.declared.node.Id.{Id}
use Rattle.ygg_shape.specs.ygg_bank.declared.node.Node.TheVariants as node
use Rattle.ygg_shape.specs.ygg_shape_cells.Making.{merged}
use Rattle.ygg_shape.specs.ygg_shape_cells.declared.terms.SymValue.{SymValue}
use Rattle.ygg_shape.specs.ygg_shape_cells.declared.terms.SymValue.TheVariants.{Row}
use Rattle.ygg_shape.proofs.Steps.{EachFrom, each_from_goes, each_from_value, each_from_nodes, each_from_begins}
use Rattle.ygg_eval_expr.proofs.Called.{definition_weighs}
use Rattle.ygg_eval_expr.proofs.Weighed.{
  arguments_lighter,
  call_lighter,
  index_lighter,
  first_lighter,
  second_lighter,
  words_lighter,
  quantified_lighter,
  rest_lighter,
}
use Rattle.ygg_sym_runs.specs.Names.{SymEnv, sym_look_up, sym_bind}
use Rattle.ygg_sym_runs.specs.Exprs.{small_made, number_made, part_made, joined, sym_value}
use Rattle.ygg_sym_runs.specs.Seen.{SymKnown, CanTerm, env_of, known_of, terms_called, terms_in, joining, start_of, test_at}
use Rattle.ygg_sym_runs.proofs.ExpressionPlaced.{placed, body_parts}
use Rattle.ygg_sym_runs.proofs.Terms.{can_later}
use Rattle.ygg_sym_runs.proofs.Ready.{with_term, can_join, number_word, number_can}
use Rattle.ygg_sym_runs.proofs.Constructs.{nodes_as, value_as, always_ok, all_from, constant_made, low_made, variable_made}
use Rattle.ygg_sym_runs.proofs.Lighter.{
  left_lighter,
  right_lighter,
  not_lighter,
  whole_lighter,
  test_lighter,
  resized_lighter,
  filled_lighter,
  item_lighter,
}
use Rattle.ygg_sym_runs.proofs.Arms.{
  constant_fits,
  gave,
  gave_all,
  left_asks,
  right_asks,
  operated_asks,
  operated_gives,
  not_asks,
  complement_asks,
  complement_gives,
  resize_asks,
  resize_width,
  resized_asks,
  resized_gives,
  fill_asks,
  filled_gives,
  whole_asks,
  index_asks,
  part_asks,
  part_gives,
  test_asks,
  first_asks,
  second_asks,
  merge_asks,
  merge_gives,
  row_asks,
  apply_asks,
  row_gives,
  call_asks,
  call_gives,
  quantified_asks,
  quantified_some,
  quantified_gives,
  seeing,
  item_can,
}
use Rattle.ygg_sym_runs.proofs.Joins.{start_word, quantify_later, tested_wide, joined_more, digit_made, grown_seen}
use Rattle.ygg_sym_runs.proofs.evaluator.SymEvaluator.+value.Goals as goal

-- constants

pub value_by-overflow_cast-width : goal.value_by-overflow_cast-width
value_by-overflow_cast-width g t c =
    let arm = c.in-Constant in
    let kinds = g.B.Book.kinds c.args.book.now in let k = known_of c.args.self.now in let old = c.args.bank.now in let e = c.args.e.now in
    let p = constant_fits kinds k e arm.n arm.w old c.requires.can arm.is in
    let most = p.most in
    omega arith

pub value_by-invariant_of-word : goal.value_by-invariant_of-word
value_by-invariant_of-word g t c =
    let arm = c.in-Constant in
    let kinds = g.B.Book.kinds c.args.book.now in let k = known_of c.args.self.now in let old = c.args.bank.now in let e = c.args.e.now in
    let p = constant_fits kinds k e arm.n arm.w old c.requires.can arm.is in
    record { least = p.least; most = p.most; fits = p.below }

pub value_by-word-requires : goal.value_by-word-requires
value_by-word-requires g t c =
    let arm = c.in-Constant in
    let kinds = g.B.Book.kinds c.args.book.now in let k = known_of c.args.self.now in let old = c.args.bank.now in let e = c.args.e.now in
    let p = constant_fits kinds k e arm.n arm.w old c.requires.can arm.is in
    record { least = p.least; most = p.most; fits = p.below }

pub value_by-returns-in-Constant : goal.value_by-returns-in-Constant
value_by-returns-in-Constant g t c =
    let arm = c.in-Constant in
    let kinds = g.B.Book.kinds c.args.book.now in let k = known_of c.args.self.now in let old = c.args.bank.now in let e = c.args.e.now in
    let same = constant_made kinds k e arm.n arm.w old arm.is in
    record {
      nodes = nodes_as c.word.result c.word.new.bank _ _ same c.word.ensures.nodes;
      form = value_as c.word.result _ _ same c.word.ensures.form;
      grows = c.word.ensures.grows;
      bank = c.word.ensures.bank;
    }

-- names

pub value_by-returns-in-Low : goal.value_by-returns-in-Low
value_by-returns-in-Low g t c =
    let arm = c.in-Low in
    let kinds = g.B.Book.kinds c.args.book.now in let k = known_of c.args.self.now in let old = c.args.bank.now in let e = c.args.e.now in
    let same = low_made kinds k e arm.field-0 arm.x old arm.is in
    let low = env_of c.args.self.now.low.now in
    record {
      nodes = nodes_as c.value_of.result old _ _ same (always_ok c.value_of.result old);
      form = subst (λ y. IfOk c.value_of.result (λ x. x ≡ y))
          (ap (λ z. sym_look_up z (low ++ [])) c.as_slice.ensures ∙ ap (sym_look_up arm.x.text) (append-nil low) ∙ ap (λ (z : Out SymValue). z.value) same)
          c.value_of.ensures;
      grows = extends_self old;
      bank = c.requires.bank;
    }

pub value_by-returns-in-Variable : goal.value_by-returns-in-Variable
value_by-returns-in-Variable g t c =
    let kinds = g.B.Book.kinds c.args.book.now in let k = known_of c.args.self.now in let old = c.args.bank.now in let e = c.args.e.now in
    let same = variable_made kinds k e c.in-Variable.x old c.in-Variable.is in
    record {
      nodes = nodes_as c.value_of-in-Variable.result old _ _ same (always_ok c.value_of-in-Variable.result old);
      form = subst (λ y. IfOk c.value_of-in-Variable.result (λ x. x ≡ y))
          (ap (λ z. sym_look_up z (k.scope).own) c.as_slice-in-Variable.ensures ∙ ap (λ (z : Out SymValue). z.value) same)
          c.value_of-in-Variable.ensures;
      grows = extends_self old;
      bank = c.requires.bank;
    }

-- a definition at its arguments

pub value_by-values-requires : goal.value_by-values-requires
value_by-values-requires g t c κs within =
    let arm = c.in-Apply in let asked = c.requires in
    let kinds = g.B.Book.kinds c.args.book.now in let k = known_of c.args.self.now in let old = c.args.bank.now in let e = c.args.e.now in
    let lighter = arguments_lighter (record { defs = c.args.self.now.defs.now; own = []; low = [] }) e arm.f arm.arguments
    c.as_slice-in-Apply.result.now arm.is c.as_slice-in-Apply.ensures in
    let can = apply_asks kinds k e arm.f arm.arguments c.as_slice-in-Apply.result.now old asked.bank asked.can arm.is c.as_slice-in-Apply.ensures in
    (omega arith, (search rules, (asked.bank, can)))

pub value_by-called-requires : goal.value_by-called-requires
value_by-called-requires g t c κs within =
    let arm = c.in-Apply in let one = c.in_ok-arguments-in-Apply in
    let kinds = g.B.Book.kinds c.args.book.now in let k = known_of c.args.self.now in let old = c.args.bank.now in let e = c.args.e.now in
    let lighter = call_lighter (record { defs = c.args.self.now.defs.now; own = []; low = [] }) e arm.f arm.arguments c.as_slice-in-Apply-2.result.now
    arm.is c.as_slice-in-Apply-2.ensures in
    let can = call_asks kinds k e arm.f arm.arguments c.as_slice-in-Apply.result.now c.as_slice-in-Apply-2.result.now old c.values.new.bank
    one.arguments.items c.as_slice-in-Apply-3.result.now c.requires.bank c.requires.can arm.is c.as_slice-in-Apply.ensures
    c.as_slice-in-Apply-2.ensures c.as_slice-in-Apply-3.ensures.value (gave_all kinds k one.ensures.nodes one.ensures.form) one.ensures.bank in
    (omega arith, (search rules, (one.ensures.bank, can)))

pub value_by-returns-in_ok-arguments-in-Apply : goal.value_by-returns-in_ok-arguments-in-Apply
value_by-returns-in_ok-arguments-in-Apply g t c =
    let arm = c.in-Apply in let one = c.in_ok-arguments-in-Apply in
    let kinds = g.B.Book.kinds c.args.book.now in let k = known_of c.args.self.now in let old = c.args.bank.now in let e = c.args.e.now in
    let same = call_gives kinds k e arm.f arm.arguments c.as_slice-in-Apply.result.now c.as_slice-in-Apply-2.result.now old c.values.new.bank
    one.arguments.items c.as_slice-in-Apply-3.result.now arm.is c.as_slice-in-Apply.ensures c.as_slice-in-Apply-2.ensures
    c.as_slice-in-Apply-3.ensures.value (gave_all kinds k one.ensures.nodes one.ensures.form) in
    record {
      nodes = nodes_as c.called.result c.called.new.bank _ _ same c.called.ensures.nodes;
      form = value_as c.called.result _ _ same c.called.ensures.form;
      grows = extends_both old c.values.new.bank c.called.new.bank c.values.ensures.grows c.called.ensures.grows;
      bank = c.called.ensures.bank;
    }

-- operators

pub value_by-value_by-requires : goal.value_by-value_by-requires
value_by-value_by-requires g t c κs within =
    let arm = c.in-Binary in let asked = c.requires in
    let kinds = g.B.Book.kinds c.args.book.now in let k = known_of c.args.self.now in let old = c.args.bank.now in let e = c.args.e.now in
    let lighter = left_lighter (weights_of c.args.self.now.defs.now) e arm.field-0 arm.a arm.op arm.field-3 arm.b c.get.result.now arm.is c.get.ensures in
    let can = left_asks kinds k e arm.field-0 arm.a arm.op arm.field-3 arm.b c.get.result.now old asked.bank asked.can arm.is c.get.ensures in
    (omega arith, (search rules, (asked.bank, can)))

pub value_by-value_by-requires-in-Binary : goal.value_by-value_by-requires-in-Binary
value_by-value_by-requires-in-Binary g t c κs within =
    let arm = c.in-Binary in
    let kinds = g.B.Book.kinds c.args.book.now in let k = known_of c.args.self.now in let old = c.args.bank.now in let e = c.args.e.now in
    let lighter = right_lighter (weights_of c.args.self.now.defs.now) e arm.field-0 arm.a arm.op arm.field-3 arm.b c.get-in-Binary.result.now arm.is
    c.get-in-Binary.ensures in
    let can = right_asks kinds k e arm.field-0 arm.a arm.op arm.field-3 arm.b c.get-in-Binary.result.now old c.value_by.new.bank c.requires.bank
    c.requires.can arm.is c.get-in-Binary.ensures c.in_ok-a-in-Binary.ensures.grows in
    (omega arith, (search rules, (c.in_ok-a-in-Binary.ensures.bank, can)))

pub value_by-operated-requires : goal.value_by-operated-requires
value_by-operated-requires g t c =
    let arm = c.in-Binary in let one = c.in_ok-a-in-Binary in let two = c.in_ok-b-in-Binary in
    let kinds = g.B.Book.kinds c.args.book.now in let k = known_of c.args.self.now in let old = c.args.bank.now in let e = c.args.e.now in
    operated_asks kinds k e arm.field-0 arm.a arm.op arm.field-3 arm.b c.get.result.now c.get-in-Binary.result.now old c.value_by.new.bank
    c.value_by-in-Binary.new.bank one.a two.b c.requires.bank c.requires.can arm.is c.get.ensures c.get-in-Binary.ensures (gave kinds k
    one.ensures.nodes one.ensures.form) (gave kinds k two.ensures.nodes two.ensures.form) two.ensures.bank

pub value_by-returns-in_ok-b-in-Binary : goal.value_by-returns-in_ok-b-in-Binary
value_by-returns-in_ok-b-in-Binary g t c =
    let arm = c.in-Binary in let mid = c.value_by.new.bank in let late = c.operated.new.bank in let one = c.in_ok-a-in-Binary in let two =
    c.in_ok-b-in-Binary in
    let kinds = g.B.Book.kinds c.args.book.now in let k = known_of c.args.self.now in let old = c.args.bank.now in let e = c.args.e.now in
    let same = operated_gives kinds k e arm.field-0 arm.a arm.op arm.field-3 arm.b c.get.result.now c.get-in-Binary.result.now old mid
    c.value_by-in-Binary.new.bank one.a two.b arm.is c.get.ensures c.get-in-Binary.ensures (gave kinds k one.ensures.nodes one.ensures.form) (gave
    kinds k two.ensures.nodes two.ensures.form) in
    record {
      nodes = nodes_as c.operated.result late _ _ same c.operated.ensures.nodes;
      form = value_as c.operated.result _ _ same c.operated.ensures.form;
      grows = extends_both old mid late c.value_by.ensures.grows (extends_both mid c.value_by-in-Binary.new.bank late
          c.value_by-in-Binary.ensures.grows c.operated.ensures.grows);
      bank = c.operated.ensures.bank;
    }

pub value_by-returns-in_err-b-in-Binary-clause-grows : goal.value_by-returns-in_err-b-in-Binary-clause-grows
value_by-returns-in_err-b-in-Binary-clause-grows g t c =
    extends_both c.args.bank.now c.value_by.new.bank c.value_by-in-Binary.new.bank c.value_by.ensures.grows c.value_by-in-Binary.ensures.grows

-- `~e`

pub value_by-value_by-requires-in-Not : goal.value_by-value_by-requires-in-Not
value_by-value_by-requires-in-Not g t c κs within =
    let arm = c.in-Not in let asked = c.requires in
    let kinds = g.B.Book.kinds c.args.book.now in let k = known_of c.args.self.now in let old = c.args.bank.now in let e = c.args.e.now in
    let lighter = not_lighter (weights_of c.args.self.now.defs.now) e arm.field-0 arm.a c.get-in-Not.result.now arm.is c.get-in-Not.ensures in
    let can = not_asks kinds k e arm.field-0 arm.a c.get-in-Not.result.now old asked.bank asked.can arm.is c.get-in-Not.ensures in
    (omega arith, (search rules, (asked.bank, can)))

pub value_by-small-requires : goal.value_by-small-requires
value_by-small-requires g t c =
    let arm = c.in-Not in let one = c.in_ok-a-in-Not in
    let kinds = g.B.Book.kinds c.args.book.now in let k = known_of c.args.self.now in let old = c.args.bank.now in let e = c.args.e.now in
    subst (Stands c.value_by-in-Not.new.bank) (sym c.id_in.ensures)
    (complement_asks kinds k e arm.field-0 arm.a c.get-in-Not.result.now old c.value_by-in-Not.new.bank one.a c.requires.bank c.requires.can arm.is
    c.get-in-Not.ensures (gave kinds k one.ensures.nodes one.ensures.form) one.ensures.bank)

pub value_by-returns-in_ok-a-in-Not : goal.value_by-returns-in_ok-a-in-Not
value_by-returns-in_ok-a-in-Not g t c =
    let arm = c.in-Not in let mid = c.value_by-in-Not.new.bank in let one = c.in_ok-a-in-Not in
    let kinds = g.B.Book.kinds c.args.book.now in let k = known_of c.args.self.now in let old = c.args.bank.now in let e = c.args.e.now in
    let same = ap (λ z. small_made kinds (node.Not z) mid) c.id_in.ensures ∙ complement_gives kinds k e arm.field-0 arm.a c.get-in-Not.result.now old
    mid one.a arm.is c.get-in-Not.ensures (gave kinds k one.ensures.nodes one.ensures.form) in
    record {
      nodes = nodes_as c.small.result c.small.new.bank _ _ same c.small.ensures.nodes;
      form = value_as c.small.result _ _ same c.small.ensures.form;
      grows = extends_both old mid c.small.new.bank c.value_by-in-Not.ensures.grows c.small.ensures.grows;
      bank = c.small.ensures.bank;
    }

-- a part of a row or a table

pub value_by-value_by-requires-in-At : goal.value_by-value_by-requires-in-At
value_by-value_by-requires-in-At g t c κs within =
    let arm = c.in-At in let asked = c.requires in
    let kinds = g.B.Book.kinds c.args.book.now in let k = known_of c.args.self.now in let old = c.args.bank.now in let e = c.args.e.now in
    let lighter = whole_lighter (weights_of c.args.self.now.defs.now) e arm.whole arm.field-1 arm.i c.get-in-At.result.now arm.is c.get-in-At.ensures in
    let can = whole_asks kinds k e arm.whole arm.field-1 arm.i c.get-in-At.result.now old asked.bank asked.can arm.is c.get-in-At.ensures in
    (omega arith, (search rules, (asked.bank, can)))

pub value_by-value_by-requires-in-At-2 : goal.value_by-value_by-requires-in-At-2
value_by-value_by-requires-in-At-2 g t c κs within =
    let arm = c.in-At in
    let kinds = g.B.Book.kinds c.args.book.now in let k = known_of c.args.self.now in let old = c.args.bank.now in let e = c.args.e.now in
    let lighter = index_lighter (record { defs = c.args.self.now.defs.now; own = []; low = [] }) e arm.whole arm.field-1 arm.i c.get-in-At-2.result.now
    arm.is c.get-in-At-2.ensures in
    let can = index_asks kinds k e arm.whole arm.field-1 arm.i c.get-in-At-2.result.now old c.value_by-in-At.new.bank c.requires.bank c.requires.can
    arm.is c.get-in-At-2.ensures c.in_ok-whole-in-At.ensures.grows in
    (omega arith, (search rules, (c.in_ok-whole-in-At.ensures.bank, can)))

pub value_by-part-requires : goal.value_by-part-requires
value_by-part-requires g t c =
    let arm = c.in-At in let one = c.in_ok-whole-in-At in let two = c.in_ok-i-in-At in
    let kinds = g.B.Book.kinds c.args.book.now in let k = known_of c.args.self.now in let old = c.args.bank.now in let e = c.args.e.now in
    let p = part_asks kinds k e arm.whole arm.field-1 arm.i c.get-in-At.result.now c.get-in-At-2.result.now old c.value_by-in-At.new.bank
    c.value_by-in-At-2.new.bank one.whole two.i c.requires.bank c.requires.can arm.is c.get-in-At.ensures c.get-in-At-2.ensures (gave kinds k
    one.ensures.nodes one.ensures.form) (gave kinds k two.ensures.nodes two.ensures.form) two.ensures.bank in
    record { bank = two.ensures.bank; whole = p.0; at = subst (Stands c.value_by-in-At-2.new.bank) (sym c.id_in-in-At.ensures) p.1 }

pub value_by-returns-in_ok-i-in-At : goal.value_by-returns-in_ok-i-in-At
value_by-returns-in_ok-i-in-At g t c =
    let arm = c.in-At in let mid = c.value_by-in-At-2.new.bank in let late = c.value_by-in-At.new.bank in let last = c.part.new.bank in let one =
    c.in_ok-whole-in-At in let two = c.in_ok-i-in-At in
    let kinds = g.B.Book.kinds c.args.book.now in let k = known_of c.args.self.now in let old = c.args.bank.now in let e = c.args.e.now in
    let same = ap (λ z. part_made kinds one.whole z mid) c.id_in-in-At.ensures ∙ part_gives kinds k e arm.whole arm.field-1 arm.i
    c.get-in-At.result.now c.get-in-At-2.result.now old late mid one.whole two.i arm.is c.get-in-At.ensures c.get-in-At-2.ensures (gave kinds k
    one.ensures.nodes one.ensures.form) (gave kinds k two.ensures.nodes two.ensures.form) in
    record {
      nodes = nodes_as c.part.result last _ _ same c.part.ensures.nodes;
      form = value_as c.part.result _ _ same c.part.ensures.form;
      grows = extends_both old late last c.value_by-in-At.ensures.grows (extends_both late mid last c.value_by-in-At-2.ensures.grows c.part.ensures.grows);
      bank = c.part.ensures.bank;
    }

pub value_by-returns-in_err-i-in-At-clause-grows : goal.value_by-returns-in_err-i-in-At-clause-grows
value_by-returns-in_err-i-in-At-clause-grows g t c =
    extends_both c.args.bank.now c.value_by-in-At.new.bank c.value_by-in-At-2.new.bank c.value_by-in-At.ensures.grows c.value_by-in-At-2.ensures.grows

-- `pick`

pub value_by-value_by-requires-in-Pick : goal.value_by-value_by-requires-in-Pick
value_by-value_by-requires-in-Pick g t c κs within =
    let arm = c.in-Pick in let asked = c.requires in
    let kinds = g.B.Book.kinds c.args.book.now in let k = known_of c.args.self.now in let old = c.args.bank.now in let e = c.args.e.now in
    let lighter = test_lighter (weights_of c.args.self.now.defs.now) e arm.field-0 arm.test arm.a arm.b c.get-in-Pick.result.now arm.is
    c.get-in-Pick.ensures in
    let can = test_asks kinds k e arm.field-0 arm.test arm.a arm.b c.get-in-Pick.result.now old asked.bank asked.can arm.is c.get-in-Pick.ensures in
    (omega arith, (search rules, (asked.bank, can)))

pub value_by-value_by-requires-in-Pick-2 : goal.value_by-value_by-requires-in-Pick-2
value_by-value_by-requires-in-Pick-2 g t c κs within =
    let arm = c.in-Pick in
    let kinds = g.B.Book.kinds c.args.book.now in let k = known_of c.args.self.now in let old = c.args.bank.now in let e = c.args.e.now in
    let lighter = first_lighter (record { defs = c.args.self.now.defs.now; own = []; low = [] }) e arm.field-0 arm.test arm.a arm.b
    c.get-in-Pick-2.result.now arm.is c.get-in-Pick-2.ensures in
    let can = first_asks kinds k e arm.field-0 arm.test arm.a arm.b c.get-in-Pick-2.result.now old c.value_by-in-Pick.new.bank c.requires.bank
    c.requires.can arm.is c.get-in-Pick-2.ensures c.value_by-in-Pick.ensures.grows in
    (omega arith, (search rules, (c.in_ok-test-in-Pick.ensures.bank, can)))

pub value_by-value_by-requires-in-Pick-3 : goal.value_by-value_by-requires-in-Pick-3
value_by-value_by-requires-in-Pick-3 g t c κs within =
    let arm = c.in-Pick in
    let kinds = g.B.Book.kinds c.args.book.now in let k = known_of c.args.self.now in let old = c.args.bank.now in let e = c.args.e.now in
    let lighter = second_lighter (record { defs = c.args.self.now.defs.now; own = []; low = [] }) e arm.field-0 arm.test arm.a arm.b
    c.get-in-Pick-3.result.now arm.is c.get-in-Pick-3.ensures in
    let can = second_asks kinds k e arm.field-0 arm.test arm.a arm.b c.get-in-Pick-3.result.now old c.value_by-in-Pick-2.new.bank c.requires.bank
    c.requires.can arm.is c.get-in-Pick-3.ensures (extends_both old c.value_by-in-Pick.new.bank c.value_by-in-Pick-2.new.bank
    c.value_by-in-Pick.ensures.grows c.value_by-in-Pick-2.ensures.grows) in
    (omega arith, (search rules, (c.in_ok-a-in-Pick.ensures.bank, can)))

pub value_by-merge-requires : goal.value_by-merge-requires
value_by-merge-requires g t c =
    let arm = c.in-Pick in let one = c.in_ok-test-in-Pick in let two = c.in_ok-a-in-Pick in let three = c.in_ok-b-in-Pick in
    let kinds = g.B.Book.kinds c.args.book.now in let k = known_of c.args.self.now in let old = c.args.bank.now in let e = c.args.e.now in
    let p = merge_asks kinds k e arm.field-0 arm.test arm.a arm.b c.get-in-Pick.result.now c.get-in-Pick-2.result.now c.get-in-Pick-3.result.now old
    c.value_by-in-Pick.new.bank c.value_by-in-Pick-2.new.bank c.value_by-in-Pick-3.new.bank one.test two.a three.b c.requires.bank c.requires.can
    arm.is c.get-in-Pick.ensures c.get-in-Pick-2.ensures c.get-in-Pick-3.ensures (gave kinds k one.ensures.nodes one.ensures.form) (gave kinds k
    two.ensures.nodes two.ensures.form) (gave kinds k three.ensures.nodes three.ensures.form) three.ensures.bank in
    record { test = subst (λ z. HasWidth c.value_by-in-Pick-3.new.bank z 1) (sym c.id_in-in-Pick.ensures) p.0; values = p.1 }

pub value_by-returns-in_ok-b-in-Pick : goal.value_by-returns-in_ok-b-in-Pick
value_by-returns-in_ok-b-in-Pick g t c =
    let arm = c.in-Pick in let mid = c.value_by-in-Pick-3.new.bank in let late = c.value_by-in-Pick.new.bank in let last =
    c.value_by-in-Pick-2.new.bank in let one = c.in_ok-a-in-Pick in let two = c.in_ok-b-in-Pick in let three = c.in_ok-test-in-Pick in
    let kinds = g.B.Book.kinds c.args.book.now in let k = known_of c.args.self.now in let old = c.args.bank.now in let e = c.args.e.now in
    let same = ap (λ z. merged kinds z one.a two.b mid) c.id_in-in-Pick.ensures ∙ merge_gives kinds k e arm.field-0 arm.test arm.a arm.b
    c.get-in-Pick.result.now c.get-in-Pick-2.result.now c.get-in-Pick-3.result.now old late last mid three.test one.a two.b arm.is
    c.get-in-Pick.ensures c.get-in-Pick-2.ensures c.get-in-Pick-3.ensures (gave kinds k three.ensures.nodes three.ensures.form) (gave kinds k
    one.ensures.nodes one.ensures.form) (gave kinds k two.ensures.nodes two.ensures.form) in
    record {
      nodes = nodes_as c.merge.result c.merge.new.bank _ _ same c.merge.ensures.nodes;
      form = value_as c.merge.result _ _ same c.merge.ensures.form;
      grows = extends_both old late c.merge.new.bank c.value_by-in-Pick.ensures.grows (extends_both late last c.merge.new.bank
          c.value_by-in-Pick-2.ensures.grows (extends_both last mid c.merge.new.bank c.value_by-in-Pick-3.ensures.grows c.merge.ensures.grows));
      bank = c.merge.ensures.bank;
    }

pub value_by-returns-in_err-a-in-Pick-clause-grows : goal.value_by-returns-in_err-a-in-Pick-clause-grows
value_by-returns-in_err-a-in-Pick-clause-grows g t c =
    extends_both c.args.bank.now c.value_by-in-Pick.new.bank c.value_by-in-Pick-2.new.bank c.value_by-in-Pick.ensures.grows c.value_by-in-Pick-2.ensures.grows

pub value_by-returns-in_err-b-in-Pick-clause-grows : goal.value_by-returns-in_err-b-in-Pick-clause-grows
value_by-returns-in_err-b-in-Pick-clause-grows g t c =
    extends_both c.args.bank.now c.value_by-in-Pick.new.bank c.value_by-in-Pick-3.new.bank c.value_by-in-Pick.ensures.grows (extends_both
    c.value_by-in-Pick.new.bank c.value_by-in-Pick-2.new.bank c.value_by-in-Pick-3.new.bank c.value_by-in-Pick-2.ensures.grows
    c.value_by-in-Pick-3.ensures.grows)

-- `resize`

pub value_by-value_by-requires-in-Resize : goal.value_by-value_by-requires-in-Resize
value_by-value_by-requires-in-Resize g t c κs within =
    let arm = c.in-Resize in let asked = c.requires in
    let kinds = g.B.Book.kinds c.args.book.now in let k = known_of c.args.self.now in let old = c.args.bank.now in let e = c.args.e.now in
    let lighter = resized_lighter (weights_of c.args.self.now.defs.now) e arm.field-0 arm.a arm.w c.get-in-Resize.result.now arm.is c.get-in-Resize.ensures in
    let can = resize_asks kinds k e arm.field-0 arm.a arm.w c.get-in-Resize.result.now old asked.bank asked.can arm.is c.get-in-Resize.ensures in
    (omega arith, (search rules, (asked.bank, can)))

pub value_by-overflow_cast-width-in-Resize : goal.value_by-overflow_cast-width-in-Resize
value_by-overflow_cast-width-in-Resize g t c =
    let arm = c.in-Resize in
    let kinds = g.B.Book.kinds c.args.book.now in let k = known_of c.args.self.now in let old = c.args.bank.now in let e = c.args.e.now in
    let within = resize_width kinds k e arm.field-0 arm.a arm.w old c.requires.bank c.requires.can arm.is in
    let most = within.1 in
    omega arith

pub value_by-small-requires-in-Resize : goal.value_by-small-requires-in-Resize
value_by-small-requires-in-Resize g t c =
    let arm = c.in-Resize in let one = c.in_ok-a-in-Resize in let asked = c.requires in
    let kinds = g.B.Book.kinds c.args.book.now in let k = known_of c.args.self.now in let old = c.args.bank.now in let e = c.args.e.now in
    let within = resize_width kinds k e arm.field-0 arm.a arm.w old asked.bank asked.can arm.is in (
      subst (Stands c.value_by-in-Resize.new.bank) (sym c.id_in-in-Resize.ensures) (resized_asks kinds k e arm.field-0 arm.a arm.w
          c.get-in-Resize.result.now old c.value_by-in-Resize.new.bank one.a asked.bank asked.can arm.is c.get-in-Resize.ensures (gave kinds k
          one.ensures.nodes one.ensures.form) one.ensures.bank),
      record { least = within.0; most = within.1 },
    )

pub value_by-returns-in_ok-a-in-Resize : goal.value_by-returns-in_ok-a-in-Resize
value_by-returns-in_ok-a-in-Resize g t c =
    let arm = c.in-Resize in let mid = c.value_by-in-Resize.new.bank in let one = c.in_ok-a-in-Resize in
    let kinds = g.B.Book.kinds c.args.book.now in let k = known_of c.args.self.now in let old = c.args.bank.now in let e = c.args.e.now in
    let same = ap (λ z. small_made kinds (node.Resize z arm.w.value) mid) c.id_in-in-Resize.ensures ∙ resized_gives kinds k e arm.field-0 arm.a arm.w
    c.get-in-Resize.result.now old mid one.a arm.is c.get-in-Resize.ensures (gave kinds k one.ensures.nodes one.ensures.form) in
    record {
      nodes = nodes_as c.small-in-Resize.result c.small-in-Resize.new.bank _ _ same c.small-in-Resize.ensures.nodes;
      form = value_as c.small-in-Resize.result _ _ same c.small-in-Resize.ensures.form;
      grows = extends_both old mid c.small-in-Resize.new.bank c.value_by-in-Resize.ensures.grows c.small-in-Resize.ensures.grows;
      bank = c.small-in-Resize.ensures.bank;
    }

-- `fill`

pub value_by-value_by-requires-in-Fill : goal.value_by-value_by-requires-in-Fill
value_by-value_by-requires-in-Fill g t c κs within =
    let arm = c.in-Fill in let asked = c.requires in
    let kinds = g.B.Book.kinds c.args.book.now in let k = known_of c.args.self.now in let old = c.args.bank.now in let e = c.args.e.now in
    let lighter = filled_lighter (weights_of c.args.self.now.defs.now) e arm.field-0 arm.m arm.a c.get-in-Fill.result.now arm.is c.get-in-Fill.ensures in
    let can = fill_asks kinds k e arm.field-0 arm.m arm.a c.get-in-Fill.result.now old asked.bank asked.can arm.is c.get-in-Fill.ensures in
    (omega arith, (search rules, (asked.bank, can)))

pub value_by-returns-in_ok-a-in-Fill : goal.value_by-returns-in_ok-a-in-Fill
value_by-returns-in_ok-a-in-Fill g t c =
    let arm = c.in-Fill in let mid = c.value_by-in-Fill.new.bank in let one = c.in_ok-a-in-Fill in
    let kinds = g.B.Book.kinds c.args.book.now in let k = known_of c.args.self.now in let old = c.args.bank.now in let e = c.args.e.now in
    let same = ap (λ z. pure (Row (replicate arm.m.value z)) mid) c.id_in-in-Fill.ensures ∙ filled_gives kinds k e arm.field-0 arm.m arm.a
    c.get-in-Fill.result.now old mid one.a arm.is c.get-in-Fill.ensures (gave kinds k one.ensures.nodes one.ensures.form) in
    record {
      nodes = nodes_as c.filled.result mid _ _ same (always_ok c.filled.result mid);
      form = value_as c.filled.result _ _ same c.filled.ensures;
      grows = c.value_by-in-Fill.ensures.grows;
      bank = one.ensures.bank;
    }

-- `row`

pub value_by-values-requires-in-Row : goal.value_by-values-requires-in-Row
value_by-values-requires-in-Row g t c κs within =
    let arm = c.in-Row in let asked = c.requires in
    let kinds = g.B.Book.kinds c.args.book.now in let k = known_of c.args.self.now in let old = c.args.bank.now in let e = c.args.e.now in
    let lighter = words_lighter (record { defs = c.args.self.now.defs.now; own = []; low = [] }) e arm.field-0 arm.parts c.as_slice-in-Row.result.now
    arm.is c.as_slice-in-Row.ensures in
    let can = row_asks kinds k e arm.field-0 arm.parts c.as_slice-in-Row.result.now old asked.bank asked.can arm.is c.as_slice-in-Row.ensures in
    (omega arith, (search rules, (asked.bank, can)))

pub value_by-returns-in_ok-parts-in-Row : goal.value_by-returns-in_ok-parts-in-Row
value_by-returns-in_ok-parts-in-Row g t c =
    let arm = c.in-Row in let mid = c.values-in-Row.new.bank in let one = c.in_ok-parts-in-Row in
    let kinds = g.B.Book.kinds c.args.book.now in let k = known_of c.args.self.now in let old = c.args.bank.now in let e = c.args.e.now in
    let same = row_gives kinds k e arm.field-0 arm.parts c.as_slice-in-Row.result.now old mid one.parts.items c.as_slice-in-Row-2.result.now arm.is
    c.as_slice-in-Row.ensures c.as_slice-in-Row-2.ensures.value (gave_all kinds k one.ensures.nodes one.ensures.form) in
    record {
      nodes = nodes_as c.row.result mid _ _ same (always_ok c.row.result mid);
      form = value_as c.row.result _ _ same c.row.ensures;
      grows = c.values-in-Row.ensures.grows;
      bank = one.ensures.bank;
    }

-- `all` and `any`

pub value_by-quantified-requires : goal.value_by-quantified-requires
value_by-quantified-requires g t c κs within =
    let arm = c.in-Quantified in let asked = c.requires in
    let kinds = g.B.Book.kinds c.args.book.now in let k = known_of c.args.self.now in let old = c.args.bank.now in let e = c.args.e.now in
    let lighter = quantified_lighter (record { defs = c.args.self.now.defs.now; own = []; low = [] }) e arm.field-0 arm.which arm.x arm.w arm.n arm.e
    c.get-in-Quantified.result.now arm.is c.get-in-Quantified.ensures (quantified_some kinds k e arm.field-0 arm.which arm.x arm.w arm.n arm.e old
    asked.bank asked.can arm.is) in
    let can = quantified_asks kinds k e arm.field-0 arm.which arm.x arm.w arm.n arm.e c.get-in-Quantified.result.now old asked.can arm.is
    c.get-in-Quantified.ensures in
    (omega arith, (search rules, (asked.bank, can)))

pub value_by-returns-in_ok-holds-in-Quantified : goal.value_by-returns-in_ok-holds-in-Quantified
value_by-returns-in_ok-holds-in-Quantified g t c =
    let arm = c.in-Quantified in let one = c.in_ok-holds-in-Quantified in
    let kinds = g.B.Book.kinds c.args.book.now in let k = known_of c.args.self.now in let old = c.args.bank.now in let e = c.args.e.now in
    let same = quantified_gives kinds k e arm.field-0 arm.which arm.x arm.w arm.n arm.e c.get-in-Quantified.result.now old c.quantified.new.bank
    one.holds arm.is c.get-in-Quantified.ensures one.ensures.nodes one.ensures.form in
    record {
      nodes = ap (λ (z : Out SymValue). z.nodes) same;
      form = ap (λ (z : Out SymValue). z.value) same;
      grows = c.quantified.ensures.grows;
      bank = one.ensures.bank;
    }

-- several expressions

pub values-loop-e-init : goal.values-loop-e-init
values-loop-e-init g t c =
    let step : ℕ → Expr → Make SymValue = λ n x. terms_in (g.B.Book.kinds c.args.book.now) (known_of c.args.self.now) x in
    record {
      went = subst (λ ys. EachFrom step c.args.es.now c.args.bank.now 0 ys c.args.bank.now) (sym c.new-values.ensures.items)
          (each_from_begins step c.args.es.now c.args.bank.now);
      grows = extends_self c.args.bank.now;
      bank = c.requires.bank;
      part = omega arith;
    }

pub values-value_by-requires : goal.values-value_by-requires
values-value_by-requires g t c κs within =
    let kinds = g.B.Book.kinds c.args.book.now in let k = known_of c.args.self.now in let old = c.args.bank.now in let es = c.args.es.now in
    let i = c.loop-e.e-index in
    let step : ℕ → Expr → Make SymValue = λ n x. terms_in kinds k x in
    let lighter = item_lighter (weights_of c.args.self.now.defs.now) es i c.e-item.result c.loop-e-test.true c.e-item.is in
    let before = c.loop-e.invariant.part in
    let can = can_later k old c.loop-e.bank c.e-item.result c.loop-e.invariant.grows (item_can k old es i c.e-item.result c.loop-e-test.true
    c.e-item.is c.requires.can) in
    (omega arith, (search rules, (c.loop-e.invariant.bank, can)))

pub values-returns-in_err-value-clause-grows : goal.values-returns-in_err-value-clause-grows
values-returns-in_err-value-clause-grows g t c =
    let kinds = g.B.Book.kinds c.args.book.now in let k = known_of c.args.self.now in let old = c.args.bank.now in
    let step : ℕ → Expr → Make SymValue = λ n x. terms_in kinds k x in
    extends_both old c.loop-e.bank c.value_by.new.bank c.loop-e.invariant.grows c.value_by.ensures.grows

pub values-returns-in_err-push-clause-grows : goal.values-returns-in_err-push-clause-grows
values-returns-in_err-push-clause-grows g t c =
    let kinds = g.B.Book.kinds c.args.book.now in let k = known_of c.args.self.now in let old = c.args.bank.now in
    let step : ℕ → Expr → Make SymValue = λ n x. terms_in kinds k x in
    extends_both old c.loop-e.bank c.value_by.new.bank c.loop-e.invariant.grows c.value_by.ensures.grows

pub values-loop-e-preserved : goal.values-loop-e-preserved
values-loop-e-preserved g t c =
    let kinds = g.B.Book.kinds c.args.book.now in let k = known_of c.args.self.now in let old = c.args.bank.now in let es = c.args.es.now in
    let i = c.loop-e.e-index in
    let step : ℕ → Expr → Make SymValue = λ n x. terms_in kinds k x in
    let lighter = rest_lighter (weights_of c.args.self.now.defs.now) es i c.loop-e-test.true in
    let before = c.loop-e.invariant.part in
    record {
      went = subst (λ ys. EachFrom step es old (i + 1) ys c.value_by.new.bank) (sym c.in_ok-push.ensures.items)
          (each_from_goes step es old i c.loop-e.values.items c.loop-e.bank c.e-item.result c.e-item.result c.in_ok-value.value c.value_by.new.bank
          c.loop-e-test.true c.e-item.is c.in_ok-value.ensures.nodes c.in_ok-value.ensures.form c.loop-e.invariant.went);
      grows = extends_both old c.loop-e.bank c.value_by.new.bank c.loop-e.invariant.grows c.value_by.ensures.grows;
      bank = c.in_ok-value.ensures.bank;
      part = omega arith;
    }

pub values-returns-clause-nodes : goal.values-returns-clause-nodes
values-returns-clause-nodes g t c =
    let kinds = g.B.Book.kinds c.args.book.now in let k = known_of c.args.self.now in let old = c.args.bank.now in let es = c.args.es.now in
    let i = c.loop-e.e-index in
    let step : ℕ → Expr → Make SymValue = λ n x. terms_in kinds k x in
    let done : length es ≤ i = omega arith in
    each_from_nodes step es old i c.loop-e.values.items c.loop-e.bank done c.loop-e.invariant.went
    ∙ ap (λ (z : Out (List SymValue)). z.nodes) (all_from (sym_value kinds (terms_called kinds k.defs)) k.scope 0 es old)

pub values-returns-clause-form : goal.values-returns-clause-form
values-returns-clause-form g t c =
    let kinds = g.B.Book.kinds c.args.book.now in let k = known_of c.args.self.now in let old = c.args.bank.now in let es = c.args.es.now in
    let i = c.loop-e.e-index in
    let step : ℕ → Expr → Make SymValue = λ n x. terms_in kinds k x in
    let done : length es ≤ i = omega arith in
    each_from_value step es old i c.loop-e.values.items c.loop-e.bank done c.loop-e.invariant.went
    ∙ ap (λ (z : Out (List SymValue)). z.value) (all_from (sym_value kinds (terms_called kinds k.defs)) k.scope 0 es old)

-- the expression of a definition

pub called-value_by-requires : goal.called-value_by-requires
called-value_by-requires g t c κs within =
    let defs = c.args.self.now.defs.now in let old = c.args.bank.now in let name = c.args.name.now in let args = c.args.args.now in
    let place = c.in-Some.place in
    let d = get_or defs place c.index-self-place.result in
    let here : d ≡ get_or defs place d = ap (get_or defs place) c.index-self-place.is in
    let parts = body_parts defs old name args place d c.requires.can c.in-Some.ensures.some here in
    let own = ap env_of c.as_slice-in-Some.ensures.value ∙ c.in_ok-own-in-Some.ensures ∙ ap (λ ps. sym_bind ps args) c.as_slice.ensures in
    let seen : known_of c.new-inner.result ≡ placed defs place d args = c.new-inner.ensures
    ∙ ap (λ (x : SymEnv). seeing (take place defs) x []) own in
    let weighs = definition_weighs defs name place d c.in-Some.ensures.some here in
    let same = ap (λ (z : SymKnown). expr_weight (weights_of z.defs) d.body) seen in
    let can = subst (λ (z : SymKnown). CanTerm z old d.body) (sym seen) parts.can in
    (omega arith, (search rules, (c.requires.bank, can)))

pub called-returns-in_ok-own-in-Some-clause-nodes : goal.called-returns-in_ok-own-in-Some-clause-nodes
called-returns-in_ok-own-in-Some-clause-nodes g t c =
    let kinds = g.B.Book.kinds c.args.book.now in let defs = c.args.self.now.defs.now in let old = c.args.bank.now in let name = c.args.name.now in
    let args = c.args.args.now in
    let place = c.in-Some.place in
    let d = get_or defs place c.index-self-place.result in
    let here : d ≡ get_or defs place d = ap (get_or defs place) c.index-self-place.is in
    let parts = body_parts defs old name args place d c.requires.can c.in-Some.ensures.some here in
    let own = ap env_of c.as_slice-in-Some.ensures.value ∙ c.in_ok-own-in-Some.ensures ∙ ap (λ ps. sym_bind ps args) c.as_slice.ensures in
    let seen : known_of c.new-inner.result ≡ placed defs place d args = c.new-inner.ensures
    ∙ ap (λ (x : SymEnv). seeing (take place defs) x []) own in
    nodes_as c.value_by.result c.value_by.new.bank (terms_in kinds (known_of c.new-inner.result) d.body old) (terms_called kinds defs name args old)
    (ap (λ (z : SymKnown). terms_in kinds z d.body old) seen ∙ parts.calls kinds old) c.value_by.ensures.nodes

pub called-returns-in_ok-own-in-Some-clause-form : goal.called-returns-in_ok-own-in-Some-clause-form
called-returns-in_ok-own-in-Some-clause-form g t c =
    let kinds = g.B.Book.kinds c.args.book.now in let defs = c.args.self.now.defs.now in let old = c.args.bank.now in let name = c.args.name.now in
    let args = c.args.args.now in
    let place = c.in-Some.place in
    let d = get_or defs place c.index-self-place.result in
    let here : d ≡ get_or defs place d = ap (get_or defs place) c.index-self-place.is in
    let parts = body_parts defs old name args place d c.requires.can c.in-Some.ensures.some here in
    let own = ap env_of c.as_slice-in-Some.ensures.value ∙ c.in_ok-own-in-Some.ensures ∙ ap (λ ps. sym_bind ps args) c.as_slice.ensures in
    let seen : known_of c.new-inner.result ≡ placed defs place d args = c.new-inner.ensures
    ∙ ap (λ (x : SymEnv). seeing (take place defs) x []) own in
    value_as c.value_by.result (terms_in kinds (known_of c.new-inner.result) d.body old) (terms_called kinds defs name args old)
    (ap (λ (z : SymKnown). terms_in kinds z d.body old) seen ∙ parts.calls kinds old) c.value_by.ensures.form

pub called-returns-in-None-clause-nodes : goal.called-returns-in-None-clause-nodes
called-returns-in-None-clause-nodes g t c =
    ap (λ (z : Out SymValue). z.nodes) (sym (c.in-None.ensures.none (g.B.Book.kinds c.args.book.now) c.args.args.now c.args.bank.now))

pub called-returns-in-None-clause-form : goal.called-returns-in-None-clause-form
called-returns-in-None-clause-form g t c =
    ap (λ (z : Out SymValue). z.value) (sym (c.in-None.ensures.none (g.B.Book.kinds c.args.book.now) c.args.args.now c.args.bank.now))

pub called-returns-in-None-clause-grows : goal.called-returns-in-None-clause-grows
called-returns-in-None-clause-grows g t c = extends_self c.args.bank.now

pub called-returns-in_err-own-in-Some-clause-grows : goal.called-returns-in_err-own-in-Some-clause-grows
called-returns-in_err-own-in-Some-clause-grows g t c = extends_self c.args.bank.now

-- tests at all numbers below a bound

pub quantified-invariant_of-make : goal.quantified-invariant_of-make
quantified-invariant_of-make g t c =
    let which = c.args.which in
    subst (λ b. IsWord (word 1 b)) (sym c.start_of-bits.ensures) (start_word which)

pub quantified-make-requires : goal.quantified-make-requires
quantified-make-requires g t c =
    let which = c.args.which in
    subst (λ b. IsWord (word 1 b)) (sym c.start_of-bits.ensures) (start_word which)

pub quantified-loop-i-init : goal.quantified-loop-i-init
quantified-loop-i-init g t c =
    let kinds = g.B.Book.kinds c.args.book.now in let old = c.args.bank.now in let which = c.args.which in
    let first : Make Id = made kinds (node.Const (word 1 (start_of which))) in
    record {
      nodes = c.in_ok-all.ensures.nodes ∙ ap (λ b. (made kinds (node.Const (word 1 b)) old).nodes) c.start_of-bits.ensures;
      value = c.in_ok-all.ensures.id ∙ ap (λ b. (made kinds (node.Const (word 1 b)) old).value) c.start_of-bits.ensures;
      joins = c.joining-op.ensures;
      grows = c.in_ok-all.ensures.grows;
      wide = c.in_ok-all.ensures.width;
      bank = c.in_ok-all.ensures.bank;
    }

pub quantified-test_at-requires : goal.quantified-test_at-requires
quantified-test_at-requires g t c κs within =
    let k = known_of c.args.self.now in let old = c.args.bank.now in let which = c.args.which in let x = c.args.x.now in let w = c.args.w in
    let n = c.args.n in let e = c.args.e.now in let can = c.requires.can in
    let here = quantify_later k old c.loop-i.bank which x w n e c.loop-i.invariant.grows can in
    (omega arith, (search rules, (c.loop-i.invariant.bank, (here, c.loop-i-test.true))))

pub quantified-make-requires-in-loop-i : goal.quantified-make-requires-in-loop-i
quantified-make-requires-in-loop-i g t c =
    let kinds = g.B.Book.kinds c.args.book.now in let k = known_of c.args.self.now in let old = c.args.bank.now in let which = c.args.which in
    let x = c.args.x.now in let w = c.args.w in let n = c.args.n in let e = c.args.e.now in let can = c.requires.can in
    let wide = tested_wide kinds k which x w n e c.loop-i.i c.loop-i.bank c.test_at.new.bank c.in_ok-test.test c.loop-i.invariant.bank
    (quantify_later k old c.loop-i.bank which x w n e c.loop-i.invariant.grows can) c.loop-i-test.true c.in_ok-test.ensures.nodes c.in_ok-test.ensures.form
    c.in_ok-test.ensures.bank in
    let before = wider c.loop-i.bank c.test_at.new.bank c.loop-i.all 1 c.test_at.ensures.grows c.loop-i.invariant.wide in
    let here = subst (λ z. HasWidth c.test_at.new.bank z 1) (sym c.id_in-b.ensures) wide in
    let joins = can_join which c.test_at.new.bank c.loop-i.all c.id_in-b.result before here in
    let all = subst (λ o. CanBin c.test_at.new.bank o c.loop-i.all c.id_in-b.result) (sym c.loop-i.invariant.joins) joins in
    record { one = all.one; two = all.two; widths = all.widths }

pub quantified-returns-in_err-test-clause-grows : goal.quantified-returns-in_err-test-clause-grows
quantified-returns-in_err-test-clause-grows g t c =
    let old = c.args.bank.now in
    extends_both old c.loop-i.bank c.test_at.new.bank c.loop-i.invariant.grows c.test_at.ensures.grows

pub quantified-returns-in_err-all-2-clause-grows : goal.quantified-returns-in_err-all-2-clause-grows
quantified-returns-in_err-all-2-clause-grows g t c =
    let old = c.args.bank.now in
    extends_both old c.loop-i.bank c.make-in-loop-i.new.self c.loop-i.invariant.grows
    (extends_both c.loop-i.bank c.test_at.new.bank c.make-in-loop-i.new.self c.test_at.ensures.grows c.make-in-loop-i.ensures.grows)

pub quantified-loop-i-preserved : goal.quantified-loop-i-preserved
quantified-loop-i-preserved g t c =
    let kinds = g.B.Book.kinds c.args.book.now in let k = known_of c.args.self.now in let old = c.args.bank.now in let which = c.args.which in
    let x = c.args.x.now in let w = c.args.w in let n = c.args.n in let e = c.args.e.now in let can = c.requires.can in
    let wide = tested_wide kinds k which x w n e c.loop-i.i c.loop-i.bank c.test_at.new.bank c.in_ok-test.test c.loop-i.invariant.bank
    (quantify_later k old c.loop-i.bank which x w n e c.loop-i.invariant.grows can) c.loop-i-test.true c.in_ok-test.ensures.nodes c.in_ok-test.ensures.form
    c.in_ok-test.ensures.bank in
    let before = wider c.loop-i.bank c.test_at.new.bank c.loop-i.all 1 c.test_at.ensures.grows c.loop-i.invariant.wide in
    let here = subst (λ z. HasWidth c.test_at.new.bank z 1) (sym c.id_in-b.ensures) wide in
    let step = joined_more kinds which (test_at kinds k x w e) old c.loop-i.bank c.test_at.new.bank c.loop-i.i c.loop-i.all c.in_ok-test.test
    c.joining-op.result c.id_in-b.result
    c.loop-i.invariant.nodes c.loop-i.invariant.value c.loop-i.invariant.joins c.in_ok-test.ensures.nodes c.in_ok-test.ensures.form c.id_in-b.ensures in
    record {
      nodes = c.in_ok-all-2.ensures.nodes ∙ ap (λ (z : Out Id). z.nodes) step;
      value = c.in_ok-all-2.ensures.id ∙ ap (λ (z : Out Id). z.value) step;
      joins = c.loop-i.invariant.joins;
      grows = extends_both old c.loop-i.bank c.make-in-loop-i.new.self c.loop-i.invariant.grows
          (extends_both c.loop-i.bank c.test_at.new.bank c.make-in-loop-i.new.self c.test_at.ensures.grows c.make-in-loop-i.ensures.grows);
      wide = digit_made which c.test_at.new.bank c.make-in-loop-i.new.self c.joining-op.result c.loop-i.all c.id_in-b.result c.in_ok-all-2.all
          c.loop-i.invariant.joins before
          c.in_ok-all-2.ensures.width;
      bank = c.in_ok-all-2.ensures.bank;
    }

pub quantified-returns-clause-nodes : goal.quantified-returns-clause-nodes
quantified-returns-clause-nodes g t c =
    let kinds = g.B.Book.kinds c.args.book.now in let k = known_of c.args.self.now in let old = c.args.bank.now in let which = c.args.which in
    let x = c.args.x.now in let w = c.args.w in let n = c.args.n in let e = c.args.e.now in
    let done : c.loop-i.i ≡ n.value = omega arith in
    c.loop-i.invariant.nodes ∙ ap (λ z. (joined kinds (joining which) (start_of which) z (test_at kinds k x w e) old).nodes) done

pub quantified-returns-clause-form : goal.quantified-returns-clause-form
quantified-returns-clause-form g t c =
    let kinds = g.B.Book.kinds c.args.book.now in let k = known_of c.args.self.now in let old = c.args.bank.now in let which = c.args.which in
    let x = c.args.x.now in let w = c.args.w in let n = c.args.n in let e = c.args.e.now in
    let done : c.loop-i.i ≡ n.value = omega arith in
    c.loop-i.invariant.value ∙ ap (λ z. (joined kinds (joining which) (start_of which) z (test_at kinds k x w e) old).value) done

-- a test at a number

pub test_at-overflow_cast-width : goal.test_at-overflow_cast-width
test_at-overflow_cast-width g t c =
    let kinds = g.B.Book.kinds c.args.book.now in let k = known_of c.args.self.now in let old = c.args.bank.now in let which = c.args.which in
    let x = c.args.x.now in let w = c.args.w in let n = c.args.n in let e = c.args.e.now in let can = c.requires.can in let i = c.args.i in
    let fits = number_word kinds k can.first which x w n e i old c.requires.bank can.can c.requires.below in
    let most = fits.most in
    omega arith

pub test_at-invariant_of-word : goal.test_at-invariant_of-word
test_at-invariant_of-word g t c =
    let kinds = g.B.Book.kinds c.args.book.now in let k = known_of c.args.self.now in let old = c.args.bank.now in let which = c.args.which in
    let x = c.args.x.now in let w = c.args.w in let n = c.args.n in let e = c.args.e.now in let can = c.requires.can in let i = c.args.i in
    let fits = number_word kinds k can.first which x w n e i old c.requires.bank can.can c.requires.below in
    record { least = fits.least; most = fits.most; fits = fits.fits }

pub test_at-word-requires : goal.test_at-word-requires
test_at-word-requires g t c =
    let kinds = g.B.Book.kinds c.args.book.now in let k = known_of c.args.self.now in let old = c.args.bank.now in let which = c.args.which in
    let x = c.args.x.now in let w = c.args.w in let n = c.args.n in let e = c.args.e.now in let can = c.requires.can in let i = c.args.i in
    let fits = number_word kinds k can.first which x w n e i old c.requires.bank can.can c.requires.below in
    record { least = fits.least; most = fits.most; fits = fits.fits }

pub test_at-value_by-requires : goal.test_at-value_by-requires
test_at-value_by-requires g t c κs within =
    let kinds = g.B.Book.kinds c.args.book.now in let k = known_of c.args.self.now in let old = c.args.bank.now in let which = c.args.which in
    let x = c.args.x.now in let w = c.args.w in let n = c.args.n in let e = c.args.e.now in let can = c.requires.can in let i = c.args.i in
    let fits = number_word kinds k can.first which x w n e i old c.requires.bank can.can c.requires.below in
    let mid = c.word.new.bank in
    let y = c.in_ok-value.value in
    let self = c.args.self.now in
    let seen = grown_seen kinds self.defs.now (env_of self.own.now) (env_of self.low.now) self.numbers.now c.in_ok-numbers.numbers.items c.push.new.self.items
    c.as_slice.result.now _ x.text c.as_slice-name.result.now y refl refl c.in_ok-numbers.ensures c.in_ok-push.ensures.items c.as_slice.ensures.value
    c.as_slice-name.ensures in
    let number = number_made kinds w.value i old in
    let same = seen ∙ ap (with_term kinds k x.text) c.in_ok-value.ensures.form in
    let base = number_can kinds k can.first which x w n e i old c.requires.bank can.can c.requires.below in
    let here = subst (λ (z : SymKnown). CanTerm z mid e) (sym same)
    (subst (λ z. CanTerm (with_term kinds k x.text number.value) z e) (sym c.in_ok-value.ensures.nodes) base) in
    (omega arith, (search rules, (c.word.ensures.bank, here)))

pub test_at-returns-clause-nodes : goal.test_at-returns-clause-nodes
test_at-returns-clause-nodes g t c =
    let kinds = g.B.Book.kinds c.args.book.now in let k = known_of c.args.self.now in let old = c.args.bank.now in let which = c.args.which in
    let x = c.args.x.now in let w = c.args.w in let n = c.args.n in let e = c.args.e.now in let can = c.requires.can in let i = c.args.i in
    let fits = number_word kinds k can.first which x w n e i old c.requires.bank can.can c.requires.below in
    let mid = c.word.new.bank in
    let y = c.in_ok-value.value in
    let self = c.args.self.now in
    let seen = grown_seen kinds self.defs.now (env_of self.own.now) (env_of self.low.now) self.numbers.now c.in_ok-numbers.numbers.items c.push.new.self.items
    c.as_slice.result.now _ x.text c.as_slice-name.result.now y refl refl c.in_ok-numbers.ensures c.in_ok-push.ensures.items c.as_slice.ensures.value
    c.as_slice-name.ensures in
    let number = number_made kinds w.value i old in
    let same = seen ∙ ap (with_term kinds k x.text) c.in_ok-value.ensures.form in
    nodes_as c.value_by.result c.value_by.new.bank _ (test_at kinds k x w e i old)
    (ap (λ (z : SymKnown). terms_in kinds z e mid) same ∙ ap (λ z. terms_in kinds (with_term kinds k x.text number.value) e z) c.in_ok-value.ensures.nodes)
    c.value_by.ensures.nodes

pub test_at-returns-clause-form : goal.test_at-returns-clause-form
test_at-returns-clause-form g t c =
    let kinds = g.B.Book.kinds c.args.book.now in let k = known_of c.args.self.now in let old = c.args.bank.now in let which = c.args.which in
    let x = c.args.x.now in let w = c.args.w in let n = c.args.n in let e = c.args.e.now in let can = c.requires.can in let i = c.args.i in
    let mid = c.word.new.bank in
    let y = c.in_ok-value.value in
    let self = c.args.self.now in
    let seen = grown_seen kinds self.defs.now (env_of self.own.now) (env_of self.low.now) self.numbers.now c.in_ok-numbers.numbers.items c.push.new.self.items
    c.as_slice.result.now _ x.text c.as_slice-name.result.now y refl refl c.in_ok-numbers.ensures c.in_ok-push.ensures.items c.as_slice.ensures.value
    c.as_slice-name.ensures in
    let number = number_made kinds w.value i old in
    let same = seen ∙ ap (with_term kinds k x.text) c.in_ok-value.ensures.form in
    value_as c.value_by.result _ (test_at kinds k x w e i old)
    (ap (λ (z : SymKnown). terms_in kinds z e mid) same ∙ ap (λ z. terms_in kinds (with_term kinds k x.text number.value) e z) c.in_ok-value.ensures.nodes)
    c.value_by.ensures.form

pub test_at-returns-clause-grows : goal.test_at-returns-clause-grows
test_at-returns-clause-grows g t c =
    let kinds = g.B.Book.kinds c.args.book.now in let k = known_of c.args.self.now in let old = c.args.bank.now in let which = c.args.which in
    let x = c.args.x.now in let w = c.args.w in let n = c.args.n in let e = c.args.e.now in let can = c.requires.can in let i = c.args.i in
    extends_both old c.word.new.bank c.value_by.new.bank c.word.ensures.grows c.value_by.ensures.grows
