use Rattle.std.proofs.Common.{◌-◌, subst}
use Rattle.ygg_eval.specs.ygg_meaning.Progress.{Call}
use Rattle.ygg_eval.specs.Layers.{closed_at, signatures_at}
use Rattle.ygg_eval.specs.declared.body.Part.TheVariants as part
use Rattle.ygg_eval.proofs.OnSpec.{is_spec, runs_spec}
use Rattle.ygg_eval_places.specs.Bits.{bits_in}
use Rattle.ygg_eval_places.specs.Chosen.{Chose}
use Rattle.ygg_eval_places.proofs.ChoiceNoting.{if_ok}
use Rattle.ygg_eval_places.specs.Steps.{Answered}
use Rattle.ygg_eval_places.proofs.Calls.{after_is, has_it}
use Rattle.ygg_eval_places.proofs.OnSpec.{answered, called_at}
use Rattle.ygg_eval_places.proofs.spec.call.Goals as goal

pub place_of-op-requires : goal.place_of-op-requires
place_of-op-requires c = has_it (signatures_at c.args.typed.now.file c.args.number) c.args.name.now c.args.args.now c.requires.asks

pub run_choices-requires-clause-body : goal.run_choices-requires-clause-body
run_choices-requires-clause-body c =
    let file = c.args.typed.now.file in
    let k = called_at file c.args.typed.now.typed c.args.number c.requires.layer c.args.name.now c.args.args.now c.args.low.now c.requires.asks c.requires.fits
    c.place_of-op.result c.place_of-op.ensures in
    runs_spec file (c.args.number - 1) c.place_of-op.result c.args.args.now c.args.low.now k.a k.fit

pub returns : goal.returns
returns c =
    let file = c.args.typed.now.file in
    let name = c.args.name.now in
    let args = c.args.args.now in
    let low = c.args.low.now in
    let low' = c.run_choices.new.values in
    let picks = c.args.picks.now in
    let picks' = c.run_choices.new.picks in
    let op = c.place_of-op.result in
    let place = c.args.number - 1 in
    let bits = bits_in c.args.choices in
    let k = called_at file c.args.typed.now.typed c.args.number c.requires.layer name args low c.requires.asks c.requires.fits op c.place_of-op.ensures in
    let later = after_is c.args.choices c.in_ok-from.from c.args.place c.in_ok-from.ensures.bits c.in_ok-from.ensures.first in
    if_ok c.run_choices.result c.run_choices.ensures.chose
    (λ answer chose. subst (λ n. Answered file n bits c.args.place (Call name args) low answer low' picks picks') k.is
    (answered file place name args op k.a k.found bits low low' picks picks' c.args.place answer
    (subst (λ f. Chose (closed_at file place k.a.layer) (record { layer = place; part = part.Spec; number = op }) k.a.operation.spec f args low answer
    low' picks picks') later (chose k.a.layer k.a.operation.spec (is_spec file place op args k.a)))))
