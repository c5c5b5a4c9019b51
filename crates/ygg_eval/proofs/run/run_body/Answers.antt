use Rattle.std.proofs.Common.{slice_get, sym, ap, ◌∙◌}
use Rattle.ygg_syntax.specs.declared.tree.File.{File}
use Rattle.ygg_eval_expr.specs.ygg_meaning.Environments.{bind}
use Rattle.ygg_eval_expr.specs.Held.{env_of}
use Rattle.ygg_eval.specs.Bodies.{kind_of, variables_in, arguments_in}
use Rattle.ygg_eval.specs.BlockSteps.{stands}
use Rattle.ygg_eval.proofs.Tops.{is_ready, values_do, body_ends}
use Rattle.ygg_eval.proofs.run.run_body.Goals as goal

pub block_with-requires : goal.block_with-requires
block_with-requires g c =
    let here = ap (λ (f : File). slice_get f.layers c.args.body.layer) (sym c.file.ensures.same) ∙ sym c.in-Some.ensures.value in (
      kind_of c.args.body.part,
      is_ready g.W.Lower.means c.args.typed.now.file c.args.body c.args.stop c.args.args.now c.args.state.now
          (stands c.args.lower.now c.args.power.now) c.in-Some.layer.now c.in-Some-block_of.block.now here (sym c.in-Some-block_of.ensures)
          (env_of c.in_ok-names.names.items) c.in_ok-names.ensures c.requires.body c.file.ensures.derivable c.file.ensures.typed c.requires.lower,
    )

pub returns-clause-ends : goal.returns-clause-ends
returns-clause-ends g c =
    let M = g.W.Lower.means in
    let here = ap (λ (f : File). slice_get f.layers c.args.body.layer) (sym c.file.ensures.same) ∙ sym c.in-Some.ensures.value in
    let block = sym c.in-Some-block_of.ensures in
    let ready = is_ready M c.args.typed.now.file c.args.body c.args.stop c.args.args.now c.args.state.now
    (stands c.args.lower.now c.args.power.now) c.in-Some.layer.now c.in-Some-block_of.block.now here block (env_of c.in_ok-names.names.items)
    c.in_ok-names.ensures c.requires.body c.file.ensures.derivable c.file.ensures.typed c.requires.lower in
    let fit = values_do M c.args.typed.now.file c.args.body c.args.stop c.args.args.now c.args.state.now
    (stands c.args.lower.now c.args.power.now) c.in-Some.layer.now c.in-Some-block_of.block.now here block (env_of c.in_ok-names.names.items)
    c.in_ok-names.ensures c.requires.body in
    body_ends M c.args.typed.now.file c.args.body c.args.stop c.args.args.now c.args.state.now
    (stands c.args.lower.now c.args.power.now) c.in-Some.layer.now c.in-Some-block_of.block.now here block (env_of c.in_ok-names.names.items)
    c.in_ok-names.ensures c.block_with.result c.block_with.new.state (stands c.block_with.new.lower c.block_with.new.power)
    (c.block_with.ensures.ends (kind_of c.args.body.part) (variables_in c.in-Some.layer.now c.args.body.part) c.args.state.now
    (bind (arguments_in c.in-Some.layer.now c.args.body.part c.args.body.number) c.args.args.now) ready
    c.in_ok-names.ensures fit (sym c.len-count.ensures))
