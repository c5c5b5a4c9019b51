use Rattle.std.proofs.Common.{slice_get, sym, ap, ◌∙◌}
use Rattle.ygg_syntax.specs.declared.tree.File.{File}
use Rattle.ygg_eval.specs.ygg_eval_expr.Held.{env_of}
use Rattle.ygg_eval_places.proofs.Bodies.{is_ready, body_walked}
use Rattle.ygg_eval_places.proofs.Sides.{if_all_ok}
use Rattle.ygg_eval_places.proofs.whole.run_places.Goals as goal

pub whole-requires : goal.whole-requires
whole-requires g c =
    let M = g.W.Places.means c.args.machine.now in
    let law = g.met.W.Places.keeps c.args.machine.now in
    let here = ap (λ (f : File). slice_get f.layers c.args.body.layer) (sym c.file.ensures.same) ∙ sym c.in-Some.ensures.value in
    record {
      ready = is_ready M law c.args.typed.now.file c.args.body c.args.args.now c.args.values.now (M.state c.args.state.now) c.requires.body
          c.file.ensures.derivable c.file.ensures.typed c.requires.machine c.in-Some.layer.now c.in-Some-block_of.block.now here
          (sym c.in-Some-block_of.ensures) (env_of c.in_ok-names.names.items) c.in_ok-names.ensures;
    }

pub returns : goal.returns
returns g c =
    let M = g.W.Places.means c.args.machine.now in
    let law = g.met.W.Places.keeps c.args.machine.now in
    let here = ap (λ (f : File). slice_get f.layers c.args.body.layer) (sym c.file.ensures.same) ∙ sym c.in-Some.ensures.value in
    record {
      walked = if_all_ok c.whole.result c.whole.ensures.answer c.whole.ensures.values c.whole.ensures.state
          (λ answer answered given_back same. body_walked M law c.args.typed.now.file c.args.body c.args.args.now c.args.values.now
          (M.state c.args.state.now) c.requires.body c.file.ensures.derivable c.file.ensures.typed c.requires.machine c.in-Some.layer.now
          c.in-Some-block_of.block.now here (sym c.in-Some-block_of.ensures) (env_of c.in_ok-names.names.items) c.len-count.result answer
          c.whole.new.values (M.state c.whole.new.state) c.in_ok-names.ensures c.len-count.ensures answered given_back same);
    }
