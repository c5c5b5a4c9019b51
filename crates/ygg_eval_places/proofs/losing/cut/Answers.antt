use Rattle.std.proofs.Common.{sym, subst}
use Rattle.ygg_eval.specs.ygg_meaning.Progress.{Call}
use Rattle.ygg_eval_places.specs.Bits.{bits_in}
use Rattle.ygg_eval_places.proofs.ChoiceNoting.{if_ok}
use Rattle.ygg_eval_places.specs.Steps.{FellWithin}
use Rattle.ygg_eval_places.proofs.Calls.{asks_as, fits_as}
use Rattle.ygg_eval_places.proofs.losing.cut.Goals as goal

pub cut-requires-clause-fits : goal.cut-requires-clause-fits
cut-requires-clause-fits c = fits_as c.args.typed.now.file c.args.number 0 c.args.low.now c.if-number-eq0.true c.requires.low

pub cut-requires-clause-asks : goal.cut-requires-clause-asks
cut-requires-clause-asks c =
    asks_as c.args.typed.now.file c.args.number 0 c.args.name.now c.args.args.now c.if-number-eq0.true c.requires.asks

pub returns-then-number-eq0 : goal.returns-then-number-eq0
returns-then-number-eq0 c =
    if_ok c.cut.result c.cut.ensures (λ fallen fell.
    subst (λ n. FellWithin c.args.typed.now.file n (bits_in c.args.last) (Call c.args.name.now c.args.args.now) c.args.low.now fallen c.args.picks.now
    c.cut.new.picks) (sym c.if-number-eq0.true) fell)
