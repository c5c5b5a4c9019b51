use Rattle.std.proofs.Common.{sym, subst, ◌∙◌, arith}
use Rattle.std.proofs.lemmas.Option.{same_Some}
use Rattle.ygg_cnf_set.specs.LiteralSet.{InSet}
use Rattle.ygg_chain.proofs.checker.is_seen_as.Goals as goal

pub contains-requires : goal.contains-requires
contains-requires c = let (inside, is) = (c.place.ensures c.in-Some.placed).0 c.in-Some.is in omega (arith, inside, c.requires)

pub returns-in-Some : goal.returns-in-Some
returns-in-Some c = (
  (λ t. (c.in-Some.placed, ((c.place.ensures c.in-Some.placed).0 c.in-Some.is, c.contains.ensures.0 t))),
  (λ (x, (stands, m)).
      c.contains.ensures.1 (subst (InSet c.args.seen.now)
      (same_Some x c.in-Some.placed (sym ((c.place.ensures x).1 stands) ∙ c.in-Some.is)) m)),
)
