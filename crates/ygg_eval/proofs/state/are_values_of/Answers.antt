use Rattle.std.proofs.Common.{◌-◌, slice_get, sym, ap, ◌∙◌}
use Rattle.ygg_syntax.specs.declared.tree.File.{File}
use Rattle.ygg_eval.specs.ygg_meaning.Shapes.{values_fit}
use Rattle.ygg_eval.specs.ygg_meaning.Stack.{tables_of}
use Rattle.ygg_eval.proofs.Existing.{in_tables, in_state, in_no_state}
use Rattle.ygg_eval.proofs.state.are_values_of.Goals as goal

pub returns-in-Some : goal.returns-in-Some
returns-in-Some c =
    in_state c.args.typed.now.file c.args.values.now c.values_fit.result c.args.number c.in-Some.layer.now c.if-number-eq0.false
    (ap (λ (f : File). slice_get f.layers (c.args.number - 1)) (sym c.file-file.ensures.same) ∙ sym c.in-Some.ensures.value)
    (c.values_fit.ensures ∙ ap (λ ds. values_fit ds c.as_slice-in-Some-2.result.now) c.as_slice-in-Some.ensures
    ∙ ap (values_fit c.in-Some.layer.now.state) c.as_slice-in-Some-2.ensures)

pub returns-in-None : goal.returns-in-None
returns-in-None c =
    in_no_state c.args.typed.now.file c.args.values.now c.args.number c.if-number-eq0.false
    (ap (λ (f : File). slice_get f.layers (c.args.number - 1)) (sym c.file-file.ensures.same) ∙ sym c.in-None.ensures.value)

pub returns-then-number-eq0 : goal.returns-then-number-eq0
returns-then-number-eq0 c =
    in_tables c.args.typed.now.file c.args.values.now c.are_tables.result c.args.number c.if-number-eq0.true
    (c.are_tables.ensures ∙ ap (values_fit (tables_of c.file-file.result.now.disk)) c.as_slice.ensures
    ∙ ap (λ (f : File). values_fit (tables_of f.disk) c.args.values.now) c.file-file.ensures.same)
