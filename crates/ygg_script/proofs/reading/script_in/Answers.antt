use Rattle.std.proofs.Common.{◌∙◌, sym, subst, List}
use Rattle.ygg_sched.specs.Lines.{Read, Gives}
use Rattle.ygg_script.specs.declared.command.Command.{Command}
use Rattle.ygg_script.proofs.Onward.{begins_not, begins_otherwise, begins}
use Rattle.ygg_script.proofs.reading.script_in.Goals as goal

pub returns-in_err-first : goal.returns-in_err-first
returns-in_err-first c =
    begins_not c.args.typed.now.file c.args.text.now c.from_residual.result c.in_err-first.field-0.0 c.from_residual.ensures.1
    c.in_err-first.ensures.err.0 c.in_err-first.ensures.err.1

pub returns-then-is_text : goal.returns-then-is_text
returns-then-is_text c =
    subst (λ (read : Read (List Command)). Gives {X = List Command} {Y = List Command} (λ x. x) c.command_lines.result read)
    (sym (begins c.args.typed.now.file c.args.text.now c.in_ok-first.first.now c.in_ok-first.after.bytes.now c.in_ok-first.ensures.ok.pieces
    c.in_ok-first.after.line c.in_ok-first.ensures.ok.line (sym c.is_text.ensures ∙ c.if-is_text.true)))
    c.command_lines.ensures

pub returns-else-is_text : goal.returns-else-is_text
returns-else-is_text c =
    rw c.refused.ensures (begins_otherwise c.args.typed.now.file c.args.text.now c.in_ok-first.first.now c.in_ok-first.after.bytes.now
    c.in_ok-first.ensures.ok.pieces (sym c.is_text.ensures ∙ c.if-is_text.false))
