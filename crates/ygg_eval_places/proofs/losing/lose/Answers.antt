use Rattle.std.proofs.Common.{sym, subst}
use Rattle.ygg_eval_places.specs.Bits.{bits_in}
use Rattle.ygg_eval_places.proofs.ChoiceNoting.{if_ok}
use Rattle.ygg_eval_places.specs.Steps.{FellBetween}
use Rattle.ygg_eval_places.proofs.Calls.{fits_as}
use Rattle.ygg_eval_places.proofs.losing.lose.Goals as goal

pub lose-requires : goal.lose-requires
lose-requires c = fits_as c.args.typed.now.file c.args.number 0 c.args.low.now c.if-number-eq0.true c.requires.low

pub returns-then-number-eq0 : goal.returns-then-number-eq0
returns-then-number-eq0 c =
    if_ok c.lose.result c.lose.ensures (λ fallen fell.
    subst (λ n. FellBetween c.args.typed.now.file n (bits_in c.args.last) c.args.low.now fallen c.args.picks.now c.args.picks.now)
    (sym c.if-number-eq0.true) (fell (bits_in c.args.last) c.args.picks.now))
