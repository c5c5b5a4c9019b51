use Rattle.std.proofs.Common.{◌≡◌, ◌-◌, true, sym, subst, arith}
use Rattle.std.proofs.lemmas.Result.{on_ok_weaker}
use Rattle.ygg_eval.specs.ygg_meaning.Shapes.{values_fit}
use Rattle.ygg_eval.specs.Layers.{variables_at}
use Rattle.ygg_eval_places.specs.Bits.{bits_in}
use Rattle.ygg_eval.proofs.OnSpec.{there}
use Rattle.ygg_eval_places.specs.Steps.{Crashed, FellBetween}
use Rattle.ygg_eval_places.proofs.Calls.{number_is}
use Rattle.ygg_eval_places.proofs.OnSpec.{lost}
use Rattle.ygg_eval_places.proofs.spec.lose.Goals as goal

pub crash-requires-clause-there : goal.crash-requires-clause-there
crash-requires-clause-there c = let more = c.requires.layer in let few = c.requires.there in omega (arith, more, few)

pub crash-requires-clause-fits : goal.crash-requires-clause-fits
crash-requires-clause-fits c =
    subst (λ n. values_fit (variables_at c.args.typed.now.file n) c.args.low.now ≡ true) (sym (number_is c.args.number c.requires.layer)) c.requires.fits

pub returns : goal.returns
returns c =
    let file = c.args.typed.now.file in
    let place = c.args.number - 1 in
    let bits = bits_in c.args.choices in
    let more = c.requires.layer in
    let few = c.requires.there in
    let (l, here) = there file.layers place (omega (arith, more, few)) in
    on_ok_weaker c.crash.result
    (λ (crashed : Crashed file place bits c.args.low.now c.crash.new.low c.args.picks.now c.crash.new.picks).
    subst (λ n. FellBetween file n bits c.args.low.now c.crash.new.low c.args.picks.now c.crash.new.picks) (number_is c.args.number c.requires.layer)
    (lost file place l here bits c.args.low.now c.crash.new.low c.args.picks.now c.crash.new.picks (crashed l here))) c.crash.ensures
