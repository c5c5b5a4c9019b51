use Rattle.ygg_certify.proofs.Refining.{said_open}
use Rattle.ygg_certify.proofs.saying.check.Goals as goal

pub returns-in-Ok-said-clause-said : goal.returns-in-Ok-said-clause-said
returns-in-Ok-said-clause-said g c =
    let kinds = g.B.Book.kinds c.args.rules.now in
    let f = c.args.typed.now.file in
    said_open kinds f (g.L.Library.reading c.args.library.now) c.in-Ok.end c.in-Ok-said.printed.0 c.in-Ok-said.printed.1
    (λ bytes judged. c.in-Ok-said.ensures kinds f bytes judged c.in-Ok.ensures.right c.in-Ok.ensures.all) c.in-Ok.ensures.judged
