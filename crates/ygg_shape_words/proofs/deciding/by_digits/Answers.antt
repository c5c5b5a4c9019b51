use Rattle.ygg_shape_words.proofs.Decided.{resize_wide}
use Rattle.ygg_shape_words.proofs.deciding.by_digits.Goals as goal

pub resize-requires-clause-least : goal.resize-requires-clause-least
resize-requires-clause-least c =
    (resize_wide c.args.bank.now c.args.y.0 c.in-Resize.width c.in-Resize.a c.requires.bank.ordered c.in-Resize.ensures.there).least

pub resize-requires-clause-most : goal.resize-requires-clause-most
resize-requires-clause-most c =
    (resize_wide c.args.bank.now c.args.y.0 c.in-Resize.width c.in-Resize.a c.requires.bank.ordered c.in-Resize.ensures.there).most
