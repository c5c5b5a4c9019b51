use Rattle.std.proofs.lemmas.Result.{IfOk-from_err}
use Rattle.std.proofs.Common.{replicate, ap, ◌∙◌}
use Rattle.std.proofs.lemmas.Nat.{pow_pos}
use Rattle.ygg_shape_cells.proofs.wholes.zero_row.Goals as goal

pub make-requires : goal.make-requires
make-requires g c = record { least = c.requires.least; most = c.requires.most; fits = pow_pos c.args.width }

pub returns-clause-nodes : goal.returns-clause-nodes
returns-clause-nodes g c = c.in_ok-zero.ensures.nodes

pub returns-clause-form : goal.returns-clause-form
returns-clause-form g c =
    c.from_vec.ensures ∙ c.in_ok-vec.ensures.items_if_clones_equal (λ y e. e) ∙ ap (replicate c.args.words) c.in_ok-zero.ensures.id

pub returns-in_err-zero-clause-nodes : goal.returns-in_err-zero-clause-nodes
returns-in_err-zero-clause-nodes g c = IfOk-from_err c.from_residual.result _ c.from_residual.ensures.0

pub returns-in_err-zero-clause-form : goal.returns-in_err-zero-clause-form
returns-in_err-zero-clause-form g c = IfOk-from_err c.from_residual.result _ c.from_residual.ensures.0

pub returns-in_err-vec-clause-nodes : goal.returns-in_err-vec-clause-nodes
returns-in_err-vec-clause-nodes g c = IfOk-from_err c.from_residual-in_err-vec.result _ c.from_residual-in_err-vec.ensures.0

pub returns-in_err-vec-clause-form : goal.returns-in_err-vec-clause-form
returns-in_err-vec-clause-form g c = IfOk-from_err c.from_residual-in_err-vec.result _ c.from_residual-in_err-vec.ensures.0
