use Rattle.std.proofs.Common.{◌∙◌, ◌+◌, drop, sym, ap, List}
use Rattle.ygg_value.specs.declared.row.Value.{Value}
use Rattle.ygg_sched.specs.declared.rest.Rest.{Rest}
use Rattle.ygg_sched.specs.Lines.{Left, left_of}
use Rattle.ygg_sched.specs.Reading.{variables_at}
use Rattle.ygg_sched.proofs.Onward.{with_values, is_read, reads_on, fails_on}
use Rattle.ygg_sched.proofs.reading.variable_lines.Goals as goal

pub returns-in_err-value : goal.returns-in_err-value
returns-in_err-value c =
    let seen : Value × Rest → Value × Left = λ x. (x.0, left_of x.1) in
    let view : List Value × Rest → List Value × Left = λ x. (x.0, left_of x.1) in
    fails_on c.args.word.now c.loop-variable.values c.args.declared.now c.loop-variable.variable-index (left_of c.loop-variable.rest)
    c.variable-item.result c.as_slice-name.result.now c.loop-variable-test.true c.variable-item.is c.as_slice-name.ensures
    seen view c.from_residual.result c.in_err-value.field-0.0
    (variables_at c.args.word.now c.args.declared.now (left_of c.args.at)) c.from_residual.ensures.1 c.in_err-value.ensures c.loop-variable.invariant

pub loop-variable-preserved : goal.loop-variable-preserved
loop-variable-preserved c =
    ap (λ (vs : List Value).
    with_values vs (variables_at c.args.word.now (drop (c.loop-variable.variable-index + 1) c.args.declared.now) (left_of c.in_ok-value.after)))
    c.in_ok-add.ensures.ok
    ∙ reads_on c.args.word.now c.loop-variable.values c.args.declared.now c.loop-variable.variable-index (left_of c.loop-variable.rest)
    c.variable-item.result c.as_slice-name.result.now c.loop-variable-test.true c.variable-item.is c.as_slice-name.ensures
    c.in_ok-value.value (left_of c.in_ok-value.after) c.in_ok-value.ensures
    ∙ c.loop-variable.invariant

pub returns : goal.returns
returns c =
    sym c.loop-variable.invariant
    ∙ is_read c.args.word.now c.loop-variable.values c.args.declared.now c.loop-variable.variable-index (left_of c.loop-variable.rest)
    c.loop-variable-test.false
