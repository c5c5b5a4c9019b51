use Rattle.std.proofs.Common.{rules, ◌≡◌, ◌<◌, OnOk, IfOk, List, sym, subst, arith}
use Rattle.ygg_shape_words.specs.ygg_bank_proofs_Widths.{extends_both, has_width, stands, wider}
use Rattle.ygg_shape_words.specs.ygg_bank.Makes.{Out}
use Rattle.ygg_shape_words.specs.ygg_bank.Nodes.{width_at, widths_of}
use Rattle.ygg_shape_words.specs.ygg_bank.declared.node.Id.{Id}
use Rattle.ygg_shape_words.proofs.Children.{pick_children}
use Rattle.ygg_shape_cells.proofs.Answered.{within_shape}
use Rattle.ygg_shape_cells.proofs.Handed.{rows_picked}
use Rattle.ygg_shape_cells.proofs.Selected.{within_zero, within_plain}
use Rattle.ygg_shape_cells.proofs.Wider.{row_wider, table_wider}
use Rattle.ygg_shape_cells.specs.Making.{merged_row, selected_by_number, selected_within}
use Rattle.ygg_shape_cells.specs.Terms.{IsRow}
use Rattle.ygg_shape_cells.proofs.selecting.+select_within.Goals as goal

pub returns-then-depth-eq0-clause-nodes : goal.returns-then-depth-eq0-clause-nodes
returns-then-depth-eq0-clause-nodes g t c =
    subst (λ (o : Out (List Id)). OnOk c.select_by_number.result (c.select_by_number.new.bank ≡ o.nodes))
    (within_zero (g.B.Book.kinds c.args.book.now) c.args.table.now c.args.depth c.args.at c.args.bank.now c.if-depth-eq0.true)
    c.select_by_number.ensures.nodes

pub returns-then-depth-eq0-clause-form : goal.returns-then-depth-eq0-clause-form
returns-then-depth-eq0-clause-form g t c =
    subst (λ (o : Out (List Id)). IfOk c.select_by_number.result (λ row. row ≡ o.value))
    (within_zero (g.B.Book.kinds c.args.book.now) c.args.table.now c.args.depth c.args.at c.args.bank.now c.if-depth-eq0.true)
    c.select_by_number.ensures.form

pub returns-then-depth-eq0-clause-shape : goal.returns-then-depth-eq0-clause-shape
returns-then-depth-eq0-clause-shape g t c n w h =
    let kinds = g.B.Book.kinds c.args.book.now in
    let table = c.args.table.now in
    let old = c.args.bank.now in
    within_shape kinds n w c.args.depth table c.args.at (selected_by_number kinds table c.args.at old) old c.select_by_number.new.bank
    c.select_by_number.result (within_zero kinds table c.args.depth c.args.at old c.if-depth-eq0.true) c.requires.bank c.select_by_number.ensures.bank
    c.requires.at c.select_by_number.ensures.nodes c.select_by_number.ensures.form h

pub select_within-requires : goal.select_within-requires
select_within-requires g t c κs within =
    let old = c.args.bank.now in
    let d = width_at (widths_of old) c.args.at in
    let p = pick_children old c.args.at c.in-Pick.test c.in-Pick.yes c.in-Pick.no d c.requires.bank.ordered c.in-Pick.ensures.there
    (has_width old c.args.at c.requires.at) in
    (omega arith, (search rules, (c.requires.bank, (c.requires.table, stands old c.in-Pick.yes d p.first))))

pub select_within-requires-in-Pick : goal.select_within-requires-in-Pick
select_within-requires-in-Pick g t c κs within =
    let old = c.args.bank.now in
    let first = c.select_within.new.bank in
    let d = width_at (widths_of old) c.args.at in
    let p = pick_children old c.args.at c.in-Pick.test c.in-Pick.yes c.in-Pick.no d c.requires.bank.ordered c.in-Pick.ensures.there
    (has_width old c.args.at c.requires.at) in
    let s = c.requires.table in
    let grows = c.select_within.ensures.grows in (
      omega arith,
      (
        search rules,
        (
          c.select_within.ensures.bank,
          (
            record { words = s.words; width = s.width; is = table_wider old first s.words s.width c.args.table.now grows s.is },
            stands first c.in-Pick.no d (wider old first c.in-Pick.no d grows p.second),
          ),
        ),
      ),
    )

pub merge_row-requires-clause-test : goal.merge_row-requires-clause-test
merge_row-requires-clause-test g t c =
    let old = c.args.bank.now in
    let first = c.select_within.new.bank in
    let second = c.select_within-in-Pick.new.bank in
    let p = pick_children old c.args.at c.in-Pick.test c.in-Pick.yes c.in-Pick.no (width_at (widths_of old) c.args.at) c.requires.bank.ordered
    c.in-Pick.ensures.there (has_width old c.args.at c.requires.at) in
    wider old second c.in-Pick.test 1 (extends_both old first second c.select_within.ensures.grows c.select_within-in-Pick.ensures.grows) p.test

pub merge_row-requires-clause-rows : goal.merge_row-requires-clause-rows
merge_row-requires-clause-rows g t c =
    let s = c.requires.table in
    let first = c.select_within.new.bank in
    let second = c.select_within-in-Pick.new.bank in
    record {
      words = s.words;
      width = s.width;
      one_is = subst (IsRow second s.words s.width) (sym c.as_slice.ensures)
          (row_wider first second s.words s.width _ c.select_within-in-Pick.ensures.grows (c.in_ok-one-in-Pick.ensures.shape s.words s.width s.is));
      two_is = subst (IsRow second s.words s.width) (sym c.as_slice-in-Pick.ensures)
          (c.in_ok-two-in-Pick.ensures.shape s.words s.width
          (table_wider c.args.bank.now first s.words s.width c.args.table.now c.select_within.ensures.grows s.is));
    }

pub returns-in_ok-two-in-Pick-clause-nodes : goal.returns-in_ok-two-in-Pick-clause-nodes
returns-in_ok-two-in-Pick-clause-nodes g t c =
    let l : 0 < c.args.depth = omega (arith, c.if-depth-eq0.false) in
    subst (λ (o : Out (List Id)). OnOk c.merge_row.result (c.merge_row.new.bank ≡ o.nodes))
    (rows_picked (g.B.Book.kinds c.args.book.now) c.args.table.now c.args.depth c.args.at c.in-Pick.test c.in-Pick.yes c.in-Pick.no c.as_slice.result.now
    c.as_slice-in-Pick.result.now c.in_ok-one-in-Pick.one c.in_ok-two-in-Pick.two c.args.bank.now c.select_within.new.bank
    c.select_within-in-Pick.new.bank l c.in-Pick.ensures.there c.as_slice.ensures c.as_slice-in-Pick.ensures c.in_ok-one-in-Pick.ensures.form
    c.in_ok-one-in-Pick.ensures.nodes c.in_ok-two-in-Pick.ensures.form c.in_ok-two-in-Pick.ensures.nodes)
    c.merge_row.ensures.nodes

pub returns-in_ok-two-in-Pick-clause-form : goal.returns-in_ok-two-in-Pick-clause-form
returns-in_ok-two-in-Pick-clause-form g t c =
    let l : 0 < c.args.depth = omega (arith, c.if-depth-eq0.false) in
    subst (λ (o : Out (List Id)). IfOk c.merge_row.result (λ row. row ≡ o.value))
    (rows_picked (g.B.Book.kinds c.args.book.now) c.args.table.now c.args.depth c.args.at c.in-Pick.test c.in-Pick.yes c.in-Pick.no c.as_slice.result.now
    c.as_slice-in-Pick.result.now c.in_ok-one-in-Pick.one c.in_ok-two-in-Pick.two c.args.bank.now c.select_within.new.bank
    c.select_within-in-Pick.new.bank l c.in-Pick.ensures.there c.as_slice.ensures c.as_slice-in-Pick.ensures c.in_ok-one-in-Pick.ensures.form
    c.in_ok-one-in-Pick.ensures.nodes c.in_ok-two-in-Pick.ensures.form c.in_ok-two-in-Pick.ensures.nodes)
    c.merge_row.ensures.form

pub returns-in_ok-two-in-Pick-clause-shape : goal.returns-in_ok-two-in-Pick-clause-shape
returns-in_ok-two-in-Pick-clause-shape g t c n w h =
    let l : 0 < c.args.depth = omega (arith, c.if-depth-eq0.false) in
    let kinds = g.B.Book.kinds c.args.book.now in
    within_shape kinds n w c.args.depth c.args.table.now c.args.at
    (merged_row kinds c.in-Pick.test c.as_slice.result.now c.as_slice-in-Pick.result.now c.select_within-in-Pick.new.bank) c.args.bank.now
    c.merge_row.new.bank c.merge_row.result
    (rows_picked kinds c.args.table.now c.args.depth c.args.at c.in-Pick.test c.in-Pick.yes c.in-Pick.no c.as_slice.result.now
    c.as_slice-in-Pick.result.now c.in_ok-one-in-Pick.one c.in_ok-two-in-Pick.two c.args.bank.now c.select_within.new.bank
    c.select_within-in-Pick.new.bank l c.in-Pick.ensures.there c.as_slice.ensures c.as_slice-in-Pick.ensures c.in_ok-one-in-Pick.ensures.form
    c.in_ok-one-in-Pick.ensures.nodes c.in_ok-two-in-Pick.ensures.form c.in_ok-two-in-Pick.ensures.nodes)
    c.requires.bank c.merge_row.ensures.bank c.requires.at c.merge_row.ensures.nodes c.merge_row.ensures.form h

pub returns-in_default : goal.returns-in_default
returns-in_default g t c =
    let l : 0 < c.args.depth = omega (arith, c.if-depth-eq0.false) in
    let kinds = g.B.Book.kinds c.args.book.now in
    let table = c.args.table.now in
    let old = c.args.bank.now in
    let r = c.select_by_number-in_default.result in
    let new = c.select_by_number-in_default.new.bank in
    let said = c.select_by_number-in_default.ensures in
    let same : selected_by_number kinds table c.args.at old ≡ selected_within kinds table c.args.depth c.args.at old =
    within_plain kinds table c.args.depth c.args.at c.node.result old l c.node.ensures.there c.in_default.not-Pick in
    record {
      nodes = subst (λ (o : Out (List Id)). OnOk r (new ≡ o.nodes)) same said.nodes;
      form = subst (λ (o : Out (List Id)). IfOk r (λ row. row ≡ o.value)) same said.form;
      shape = λ n w h. within_shape kinds n w c.args.depth table c.args.at (selected_by_number kinds table c.args.at old) old new r same c.requires.bank said.bank
          c.requires.at said.nodes said.form h;
      grows = said.grows;
      bank = said.bank;
    }
