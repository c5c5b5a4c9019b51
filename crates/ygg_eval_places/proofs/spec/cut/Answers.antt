use Rattle.std.proofs.Common.{◌-◌, ◌++◌, ◌∷◌, [], Bool, sym, ap, ◌∙◌, subst, arith}
use Rattle.std.proofs.lemmas.Result.{on_ok_weaker}
use Rattle.ygg_syntax.specs.declared.tree.Block.{Block}
use Rattle.ygg_syntax.specs.declared.tree.Layer.{Layer}
use Rattle.ygg_eval.specs.ygg_meaning.Progress.{Call}
use Rattle.ygg_eval.specs.Bodies.{IsBlock}
use Rattle.ygg_eval.specs.Layers.{signatures_at}
use Rattle.ygg_eval.specs.declared.body.Body.{Body}
use Rattle.ygg_eval.specs.declared.body.Part.TheVariants as part
use Rattle.ygg_eval.proofs.OnSpec.{is_spec, is_on_crash, runs_spec, runs_on_crash}
use Rattle.ygg_eval_places.specs.Bits.{bits_in}
use Rattle.ygg_eval_places.specs.Steps.{Crashed, FellWithin, ThenCrashed}
use Rattle.ygg_eval_places.proofs.Calls.{after_is, has_it}
use Rattle.ygg_eval_places.proofs.OnSpec.{called_at, fell_by_block, fell_whole, fell_none, own_block}
use Rattle.ygg_eval_places.proofs.spec.cut.Goals as goal

pub place_of-op-requires : goal.place_of-op-requires
place_of-op-requires c = has_it (signatures_at c.args.typed.now.file c.args.number) c.args.name.now c.args.args.now c.requires.asks

pub has_block-requires : goal.has_block-requires
has_block-requires c = let more = c.requires.layer in let few = c.requires.there in omega (arith, more, few)

pub then_crash-requires-clause-body : goal.then_crash-requires-clause-body
then_crash-requires-clause-body c =
    let file = c.args.typed.now.file in
    let op = c.place_of-op.result in
    let k = called_at file c.args.typed.now.typed c.args.number c.requires.layer c.args.name.now c.args.args.now c.args.low.now c.requires.asks c.requires.fits
    op c.place_of-op.ensures in
    runs_on_crash file (c.args.number - 1) op c.args.args.now c.args.low.now k.a
    (sym c.if-has_block.true ∙ own_block file (c.args.number - 1) op c.args.args.now k.a c.has_block.result c.has_block.ensures) k.fit

pub returns-then-has_block : goal.returns-then-has_block
returns-then-has_block c =
    let file = c.args.typed.now.file in
    let place = c.args.number - 1 in
    let op = c.place_of-op.result in
    let name = c.args.name.now in
    let args = c.args.args.now in
    let low = c.args.low.now in
    let low' = c.then_crash.new.low in
    let picks = c.args.picks.now in
    let picks' = c.then_crash.new.picks in
    let bits = bits_in c.args.choices in
    let body : Body = record { layer = place; part = part.OnCrash; number = op } in
    let k = called_at file c.args.typed.now.typed c.args.number c.requires.layer name args low c.requires.asks c.requires.fits op c.place_of-op.ensures in
    on_ok_weaker c.then_crash.result
    (λ (ran : (l : Layer) (b : Block) → IsBlock file body l b → ThenCrashed file l body b bits args low low' picks picks').
    subst (λ n. FellWithin file n bits (Call name args) low low' picks picks') k.is
    (fell_by_block file place name args op k.a k.found bits low low' picks picks'
    (sym c.if-has_block.true ∙ own_block file place op args k.a c.has_block.result c.has_block.ensures)
    (λ b h. ran k.a.layer b (is_on_crash file place op args k.a b h)))) c.then_crash.ensures

pub then_crash-requires-then-happened-clause-body : goal.then_crash-requires-then-happened-clause-body
then_crash-requires-then-happened-clause-body c =
    let file = c.args.typed.now.file in
    let op = c.place_of-op.result in
    let k = called_at file c.args.typed.now.typed c.args.number c.requires.layer c.args.name.now c.args.args.now c.args.low.now c.requires.asks c.requires.fits
    op c.place_of-op.ensures in
    runs_spec file (c.args.number - 1) op c.args.args.now c.args.low.now k.a k.fit

pub returns-then-happened : goal.returns-then-happened
returns-then-happened c =
    let file = c.args.typed.now.file in
    let place = c.args.number - 1 in
    let op = c.place_of-op.result in
    let name = c.args.name.now in
    let args = c.args.args.now in
    let low = c.args.low.now in
    let low' = c.then_crash-then-happened.new.low in
    let picks = c.args.picks.now in
    let noted = c.push.new.self in
    let picks' = c.then_crash-then-happened.new.picks in
    let bits = bits_in c.args.choices in
    let rest = bits_in c.in_ok-rest.rest in
    let body : Body = record { layer = place; part = part.Spec; number = op } in
    let k = called_at file c.args.typed.now.typed c.args.number c.requires.layer name args low c.requires.asks c.requires.fits op c.place_of-op.ensures in
    on_ok_weaker c.then_crash-then-happened.result
    (λ (ran : (l : Layer) (b : Block) → IsBlock file body l b → ThenCrashed file l body b rest args low low' noted picks').
    subst (λ n. FellWithin file n bits (Call name args) low low' picks picks') k.is
    (fell_whole file place name args op k.a k.found bits low low' picks picks'
    (sym c.if-has_block.false ∙ own_block file place op args k.a c.has_block.result c.has_block.ensures)
    (sym c.in_ok-happened.ensures ∙ c.if-happened.true) rest
    (after_is c.args.choices c.in_ok-rest.rest 1 c.in_ok-rest.ensures.bits c.in_ok-rest.ensures.first) noted
    (c.in_ok-push.ensures.ok ∙ ap (λ (b : Bool). picks ++ b ∷ []) c.if-happened.true)
    (ran k.a.layer k.a.operation.spec (is_spec file place op args k.a)))) c.then_crash-then-happened.ensures

pub crash-requires-clause-there : goal.crash-requires-clause-there
crash-requires-clause-there c = let more = c.requires.layer in let few = c.requires.there in omega (arith, more, few)

pub crash-requires-clause-fits : goal.crash-requires-clause-fits
crash-requires-clause-fits c =
    (called_at c.args.typed.now.file c.args.typed.now.typed c.args.number c.requires.layer c.args.name.now c.args.args.now c.args.low.now c.requires.asks
    c.requires.fits c.place_of-op.result c.place_of-op.ensures).fit

pub returns-else-happened : goal.returns-else-happened
returns-else-happened c =
    let file = c.args.typed.now.file in
    let place = c.args.number - 1 in
    let op = c.place_of-op.result in
    let name = c.args.name.now in
    let args = c.args.args.now in
    let low = c.args.low.now in
    let low' = c.crash.new.low in
    let picks = c.args.picks.now in
    let noted = c.push.new.self in
    let picks' = c.crash.new.picks in
    let bits = bits_in c.args.choices in
    let rest = bits_in c.in_ok-rest.rest in
    let k = called_at file c.args.typed.now.typed c.args.number c.requires.layer name args low c.requires.asks c.requires.fits op c.place_of-op.ensures in
    on_ok_weaker c.crash.result
    (λ (ran : Crashed file place rest low low' noted picks').
    subst (λ n. FellWithin file n bits (Call name args) low low' picks picks') k.is
    (fell_none file place name args op k.a k.found bits low low' picks picks'
    (sym c.if-has_block.false ∙ own_block file place op args k.a c.has_block.result c.has_block.ensures)
    (sym c.in_ok-happened.ensures ∙ c.if-happened.false) rest
    (after_is c.args.choices c.in_ok-rest.rest 1 c.in_ok-rest.ensures.bits c.in_ok-rest.ensures.first) noted
    (c.in_ok-push.ensures.ok ∙ ap (λ (b : Bool). picks ++ b ∷ []) c.if-happened.false)
    (ran k.a.layer k.a.here))) c.crash.ensures
