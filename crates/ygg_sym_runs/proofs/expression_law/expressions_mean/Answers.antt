use Rattle.std.proofs.Common.{[], reverse}
use Rattle.ygg_eval_expr.specs.ygg_meaning_laws.Definitions.{with_definitions}
use Rattle.ygg_eval_expr.specs.ygg_meaning_laws.Meaning.{functions_of}
use Rattle.ygg_shape.specs.ygg_bank_proofs_Exist.{values_fit}
use Rattle.ygg_shape.specs.ygg_bank.Values.{value_of}
use Rattle.ygg_sym_runs.specs.Exprs.{sym_value, sym_functions}
use Rattle.ygg_sym_runs.proofs.Grows.{functions_grow}
use Rattle.ygg_sym_runs.proofs.Values.{value_means}
use Rattle.ygg_sym_runs.proofs.Definitions.{functions_mean}
use Rattle.ygg_sym_runs.proofs.expression_law.expressions_mean.Goals as goal

-- src/law.rt:6:1
pub returns : goal.returns
returns c = λ kinds defs e scope from nodes sound same typed shaped bank inputs fit agrees.
    let o = sym_value kinds (sym_functions kinds (reverse defs)) e from nodes in
    let v = value_of inputs o.nodes in
    let m = value_means inputs v kinds (with_definitions defs []) (functions_of defs) (sym_functions kinds (reverse defs)) (functions_grow kinds (reverse defs))
    (functions_mean inputs v kinds defs sound) e in
    m.gives scope from nodes same agrees typed shaped (values_fit inputs o.nodes bank.ordered fit)
