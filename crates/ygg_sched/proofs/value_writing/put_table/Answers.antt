use Rattle.std.proofs.Common.{◌∙◌, ◌++◌, map, length, sym, ap, arith, replicate}
use Rattle.std.specs.List.{join_with_byte}
use Rattle.std.proofs.lemmas.List.{append-nil, length-replicate, take_all}
use Rattle.ygg_value.specs.Number.{Digits}
use Rattle.ygg_sched.specs.Values.{row_text}
use Rattle.ygg_sched.proofs.Joining.{table_grows}
use Rattle.ygg_sched.proofs.value_writing.put_table.Goals as goal

pub zero_row-requires : goal.zero_row-requires
zero_row-requires c = (c.requires.limits.1, c.requires.limits.2)

pub loop-at-preserved : goal.loop-at-preserved
loop-at-preserved c = (
  table_grows c.args.out.now c.loop-at.out c.put_separator.new.out c.put_row.new.out c.args.table.now.width c.args.table.now.rows c.loop-at.at
      c.place.result.bits c.table_read.new.into (replicate c.args.table.now.words 0) (omega (arith, c.requires.rows, c.loop-at-test.true))
      c.loop-at.invariant.0 c.in_ok-put_separator.ensures c.place.ensures.bits c.table_read.ensures.value c.in_ok-put_row.ensures,
  ap (λ (r : Digits). r.width) c.table_read.ensures.value,
  c.table_read.ensures.words ∙ c.loop-at.invariant.2,
)

pub table_read-requires : goal.table_read-requires
table_read-requires c = record { width = c.loop-at.invariant.1; words = c.loop-at.invariant.2 }

pub put_row-requires : goal.put_row-requires
put_row-requires c = c.requires.words ∙ sym (c.table_read.ensures.words ∙ c.loop-at.invariant.2)

pub loop-at-init : goal.loop-at-init
loop-at-init c = (
  sym (append-nil c.args.out.now),
  ap (λ (r : Digits). r.width) c.in_ok-row.ensures ∙ c.requires.width,
  ap (λ (r : Digits). length r.words) c.in_ok-row.ensures ∙ length-replicate c.args.words 0 ∙ c.requires.words,
)

pub returns : goal.returns
returns c =
    c.loop-at.invariant.0
    ∙ ap (λ rows. c.args.out.now ++ join_with_byte 59 (map (row_text c.args.table.now.width) rows))
    (take_all c.loop-at.at c.args.table.now.rows (omega (arith, c.requires.rows, c.loop-at-test.false)))
