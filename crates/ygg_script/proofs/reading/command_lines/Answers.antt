use Rattle.std.proofs.Common.{◌∙◌, sym}
use Rattle.ygg_script.proofs.Onward.{fails_at_end, ends_here, past_here, fails_here, reads_here}
use Rattle.ygg_script.proofs.reading.command_lines.Goals as goal

pub returns-in_err-text : goal.returns-in_err-text
returns-in_err-text c =
    fails_at_end c.args.typed.now.file c.loop-script.stoppable c.loop-script.rest.line c.loop-script.script c.loop-script.rest.bytes.now _
    c.from_residual.result c.in_err-text.field-0.0 c.from_residual.ensures.1 c.in_err-text.ensures.err.0 c.in_err-text.ensures.err.1 c.loop-script.invariant

pub returns-then-is_empty : goal.returns-then-is_empty
returns-then-is_empty c =
    ends_here c.args.typed.now.file c.loop-script.stoppable c.loop-script.rest.line c.loop-script.script c.loop-script.rest.bytes.now
    c.in_ok-text.text.now c.in_ok-text.after.bytes.now _ c.in_ok-text.ensures.ok.pieces c.loop-script.invariant
    (sym c.is_text.ensures ∙ c.if-is_text.true) (sym c.is_empty.ensures ∙ c.if-is_empty.true)

pub returns-then-is_text : goal.returns-then-is_text
returns-then-is_text c =
    past_here c.args.typed.now.file c.loop-script.stoppable c.loop-script.rest.line c.loop-script.script c.loop-script.rest.bytes.now
    c.in_ok-text.text.now c.in_ok-text.after.bytes.now _ c.in_ok-text.ensures.ok.pieces c.loop-script.invariant
    c.refused.result c.in_ok-text.after.line c.refused.ensures c.in_ok-text.ensures.ok.line
    (sym c.is_text.ensures ∙ c.if-is_text.true) (sym c.is_empty.ensures ∙ c.if-is_empty.false)

pub returns-in_err-command : goal.returns-in_err-command
returns-in_err-command c =
    fails_here c.args.typed.now.file c.loop-script.stoppable c.loop-script.rest.line c.loop-script.script c.loop-script.rest.bytes.now
    c.in_ok-text.text.now c.in_ok-text.after.bytes.now _ c.in_ok-text.ensures.ok.pieces c.loop-script.invariant
    c.from_residual-in_err-command.result c.in_err-command.field-0.0 c.from_residual-in_err-command.ensures.1
    (sym c.is_text.ensures ∙ c.if-is_text.false) c.in_err-command.ensures

pub loop-script-preserved : goal.loop-script-preserved
loop-script-preserved c =
    reads_here c.args.typed.now.file c.loop-script.stoppable c.loop-script.rest.line c.loop-script.script c.loop-script.rest.bytes.now
    c.in_ok-text.text.now c.in_ok-text.after.bytes.now _ c.in_ok-text.ensures.ok.pieces c.loop-script.invariant
    c.in_ok-command.command c.add.new.script c.is_stoppable-stoppable.result c.in_ok-text.after.line c.in_ok-add.ensures.ok c.is_stoppable-stoppable.ensures
    c.in_ok-text.ensures.ok.line (sym c.is_text.ensures ∙ c.if-is_text.false) c.in_ok-command.ensures
