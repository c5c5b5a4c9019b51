use Rattle.std.proofs.lemmas.Result.{on_ok_weaker}
use Rattle.ygg_eval_places.specs.Bits.{bits_in}
use Rattle.ygg_eval_places.specs.Steps.{Crashed}
use Rattle.ygg_eval_places.proofs.Calls.{after_room}
use Rattle.ygg_eval_places.proofs.OnSpec.{runnable_block, spec_left, layer_within, then_crashed}
use Rattle.ygg_eval_places.proofs.spec.then_crash.Goals as goal

pub choices_room-requires : goal.choices_room-requires
choices_room-requires c = record { there = runnable_block c.args.typed.now.file c.args.body c.args.args.now c.args.low.now c.requires.body }

pub crash-requires-clause-there : goal.crash-requires-clause-there
crash-requires-clause-there c = layer_within c.args.typed.now.file c.args.body c.args.args.now c.args.low.now c.requires.body

pub crash-requires-clause-fits : goal.crash-requires-clause-fits
crash-requires-clause-fits c =
    spec_left c.args.typed.now.file c.args.body c.args.args.now c.args.low.now c.requires.body c.requires.kind (bits_in c.args.choices)
    c.in_ok-run_choices.field-0 c.run_choices.new.values c.args.picks.now c.run_choices.new.picks c.in_ok-run_choices.ensures.chose

pub returns : goal.returns
returns c =
    let file = c.args.typed.now.file in
    let body = c.args.body in
    on_ok_weaker c.crash.result
    (λ (crashed : Crashed file body.layer (bits_in c.in_ok-after.after) c.run_choices.new.values c.crash.new.low c.run_choices.new.picks c.crash.new.picks)
    l b is. then_crashed file body l b (bits_in c.args.choices) (bits_in c.in_ok-after.after) c.args.args.now c.args.low.now c.run_choices.new.values
    c.crash.new.low c.in_ok-run_choices.field-0 c.args.picks.now c.run_choices.new.picks c.crash.new.picks c.requires.kind
    (after_room c.args.choices c.in_ok-after.after c.in_ok-room.room b c.in_ok-after.ensures.bits c.in_ok-after.ensures.first
    (c.in_ok-room.ensures.room l b is))
    (c.in_ok-run_choices.ensures.chose l b is) (crashed l is.layer)) c.crash.ensures
