use Rattle.std.proofs.Common.{refl, sym, arith}
use Rattle.ygg_eval_places.proofs.Watching.{stands, state_below}
use Rattle.ygg_eval_places.proofs.Fronting.{fronted}
use Rattle.ygg_eval_places.proofs.OnSpec.{layer_within, runnable_block}
use Rattle.ygg_eval_places.proofs.fronts.run_fronts.Goals as goal

pub places-requires-clause-there : goal.places-requires-clause-there
places-requires-clause-there c = runnable_block c.args.typed.now.file c.args.body c.args.args.now c.args.values.now c.requires.body

pub places-requires-clause-serves : goal.places-requires-clause-serves
places-requires-clause-serves c =
    let file = c.args.typed.now.file in
    let within = layer_within file c.args.body c.args.args.now c.args.values.now c.requires.body in
    stands file c.args.typed.now.typed c.args.typed.now.derivable c.args.body.layer (omega (arith, within))

pub run_places-requires-clause-machine : goal.run_places-requires-clause-machine
run_places-requires-clause-machine c =
    let file = c.args.typed.now.file in
    let within = layer_within file c.args.body c.args.args.now c.args.values.now c.requires.body in
    record {
      kind = sym c.requires.kind;
      lower = refl;
      serves = stands file c.args.typed.now.typed c.args.typed.now.derivable c.args.body.layer (omega (arith, within));
      good = record { shaped = c.requires.low; state = state_below file c.args.body.layer c.args.low (omega (arith, within)) c.requires.low };
    }

pub end-requires-clause-serves : goal.end-requires-clause-serves
end-requires-clause-serves c =
    let file = c.args.typed.now.file in
    let within = layer_within file c.args.body c.args.args.now c.args.values.now c.requires.body in
    stands file c.args.typed.now.typed c.args.typed.now.derivable c.args.body.layer (omega (arith, within))

pub end-requires-clause-good : goal.end-requires-clause-good
end-requires-clause-good c =
    let r = c.requires.body in (c.in_ok-answer.ensures.walked r.layer r.block r.is).good

pub returns : goal.returns
returns c = record {
  fronted = λ l b is.
      let file = c.args.typed.now.file in
      let body = c.args.body in
      let w = c.in_ok-answer.ensures.walked l b is in
      fronted file body l b c.args.args.now c.args.values.now c.args.bits c.args.low c.new.result c.run_places.new.state c.end.new.state
      c.in_ok-answer.answer c.run_places.new.values c.in_ok-last.last c.new.ensures w.answered w.leaves w.fit w.state (w.good).shaped
      c.in_ok-end.ensures (c.in_ok-last.ensures l b is);
}
