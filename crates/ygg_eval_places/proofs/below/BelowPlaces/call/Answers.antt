use Rattle.std.proofs.Common.{sym, subst}
use Rattle.ygg_eval.specs.ygg_meaning.Progress.{Call}
use Rattle.ygg_eval_places.specs.Bits.{bits_in}
use Rattle.ygg_eval_places.proofs.ChoiceNoting.{if_ok}
use Rattle.ygg_eval_places.specs.Steps.{Answered}
use Rattle.ygg_eval_places.proofs.Calls.{asks_as, fits_as}
use Rattle.ygg_eval_places.proofs.below.BelowPlaces.call.Goals as goal

pub call-requires-clause-fits : goal.call-requires-clause-fits
call-requires-clause-fits c =
    let self = c.args.self.now in
    fits_as self.typed.now.file self.number 0 c.args.state.now.low c.if-self-eq0.true c.requires.good.shaped

pub call-requires-clause-asks : goal.call-requires-clause-asks
call-requires-clause-asks c =
    let self = c.args.self.now in
    asks_as self.typed.now.file self.number 0 c.args.name.now c.args.args.now c.if-self-eq0.true c.requires.fits

pub returns-then-self-eq0-clause-answered : goal.returns-then-self-eq0-clause-answered
returns-then-self-eq0-clause-answered c =
    let self = c.args.self.now in
    if_ok c.call.result c.call.ensures (λ answer answered.
    subst (λ n. Answered self.typed.now.file n (bits_in self.bits.run) c.args.place (Call c.args.name.now c.args.args.now) c.args.state.now.low answer
    c.call.new.low c.args.state.now.picks c.call.new.picks) (sym c.if-self-eq0.true) answered)
