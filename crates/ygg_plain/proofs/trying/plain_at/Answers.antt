use Rattle.ygg_oblige.specs.ygg_bank.Values.{inputs_of}
use Rattle.ygg_plain.proofs.Named.{asked, stands_in, still_fitted}
use Rattle.ygg_plain.proofs.Standing.{answered}
use Rattle.ygg_plain.proofs.trying.plain_at.Goals as goal

pub plain-requires : goal.plain-requires
plain-requires g c =
    asked c.args.typed.now.file c.args.place c.in_ok-case.case c.in_ok-case.ensures c.in_ok-named.named c.in_ok-named.ensures.fits

pub returns-clause-fits : goal.returns-clause-fits
returns-clause-fits g c =
    answered c.plain.result c.plain.ensures (λ x is.
    still_fitted c.args.typed.now.file c.args.place c.in_ok-case.case c.in_ok-case.ensures c.in_ok-named.named x c.in_ok-named.ensures.fits is)

pub returns-clause-bounded : goal.returns-clause-bounded
returns-clause-bounded g c = answered c.plain.result c.plain.ensures (λ x is. is.bounded c.in_ok-named.ensures.bounded)

pub returns-clause-violates : goal.returns-clause-violates
returns-clause-violates g c =
    answered c.plain.result c.plain.ensures (λ x is.
    stands_in c.args.typed.now.file c.args.place c.in_ok-case.case c.in_ok-case.ensures (g.B.Book.kinds c.args.book.now) (inputs_of c.args.env.now)
    c.in_ok-named.named x c.in_ok-named.ensures.named is)
