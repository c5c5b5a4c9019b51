use Rattle.std.proofs.Common.{length, sym, subst}
use Rattle.ygg_cnf.specs.Derivations.{HasClause}
use Rattle.ygg_chain.proofs.HeldLemmas.{fits_numbered}
use Rattle.ygg_chain.proofs.checker.take_numbered.Goals as goal

pub take_all-requires : goal.take_all-requires
take_all-requires c =
    fits_numbered c.args.store.now.variables c.args.store.now.clauses (length c.args.seen.now) c.args.id c.as_slice.result.now c.requires
    (subst (HasClause c.args.store.now.clauses c.args.id) (sym c.as_slice.ensures) c.in-Some.ensures)
