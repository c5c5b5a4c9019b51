use Rattle.std.proofs.Common.{◌≡◌, ◌+◌, ◌*◌, ap, ◌∙◌, arith}
use Rattle.ygg_eval_places.specs.Bits.{bit_at}
use Rattle.ygg_eval_places.proofs.ChoiceNoting.{if_ok}
use Rattle.ygg_eval_places.proofs.stops.stops_within.Goals as goal

pub returns : goal.returns
returns c =
    let first = c.args.stops.first in
    let at : first + c.in_ok-at.at ≡ first + (2 * c.args.place + 1) = omega arith in
    if_ok c.bit.result c.bit.ensures (λ b h. h ∙ ap (bit_at c.args.stops.bits.now) at)
