-- Whether a block of a layer may be run.
use Rattle.std.specs.Prelude.{Bool, ◌&&◌, List, is_some}
use Rattle.ygg_value.specs.declared.row.Value.{Value}
use Rattle.ygg_syntax.specs.declared.tree.Layer.{Layer}
use Rattle.ygg_eval.specs.ygg_meaning.Shapes.{values_fit}
use Rattle.ygg_eval.specs.declared.body.Body.{Body}
use Rattle.ygg_eval.specs.Bodies.{block_in, variables_in, arguments_in}

-- whether a layer has the block, and the values have the shapes that are declared
abbrev pub runs_in : Body → List Value → List Value → Layer → Bool
runs_in body args variables l =
    is_some (block_in l body.part body.number) && (values_fit (arguments_in l body.part body.number) args && values_fit (variables_in l body.part) variables)
