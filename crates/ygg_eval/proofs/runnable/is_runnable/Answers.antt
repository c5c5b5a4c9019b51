use Rattle.std.proofs.Common.{slice_get, sym, ap, ◌∙◌}
use Rattle.ygg_syntax.specs.declared.tree.File.{File}
use Rattle.ygg_eval.proofs.Existing.{in_layer, in_none}
use Rattle.ygg_eval.proofs.runnable.is_runnable.Goals as goal

pub returns-in-Some : goal.returns-in-Some
returns-in-Some c =
    in_layer c.args.typed.now.file c.args.body c.args.args.now c.args.state.now c.runs_in.result c.in-Some.layer.now
    (ap (λ (f : File). slice_get f.layers c.args.body.layer) (sym c.file.ensures.same) ∙ sym c.in-Some.ensures.value) c.runs_in.ensures

pub returns-in-None : goal.returns-in-None
returns-in-None c =
    in_none c.args.typed.now.file c.args.body c.args.args.now c.args.state.now
    (ap (λ (f : File). slice_get f.layers c.args.body.layer) (sym c.file.ensures.same) ∙ sym c.in-None.ensures.value)
