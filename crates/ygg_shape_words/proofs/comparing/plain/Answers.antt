use Rattle.ygg_shape_words.proofs.Fit.{can_equal}
use Rattle.ygg_shape_words.proofs.comparing.plain.Goals as goal

pub make-requires : goal.make-requires
make-requires g c = let w = c.requires in can_equal c.args.bank.now c.args.one c.args.two w.width w.one_has w.two_has
