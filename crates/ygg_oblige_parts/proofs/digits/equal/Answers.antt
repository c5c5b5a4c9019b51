use Rattle.ygg_oblige_laws.specs.ygg_sym_laws.ygg_shape_words_proofs_Fit.{can_equal}
use Rattle.ygg_oblige_parts.proofs.digits.equal.Goals as goal

pub make-requires : goal.make-requires
make-requires g c =
    let w = c.requires in can_equal c.args.bank.now c.args.a c.args.b w.width w.one_has w.two_has
