use Rattle.std.proofs.Common.{subst, List, length}
use Rattle.ygg_cnf.specs.declared.lit.Lit.{Lit}
use Rattle.ygg_watch.specs.Trail.{IsQuietBefore}
use Rattle.ygg_watch.specs.Propagation.{IsConflict}
use Rattle.ygg_watch.proofs.StatusLemmas.{quiet_exact}
use Rattle.ygg_watch.proofs.plain.PlainSpreadPropagate.spread.Goals as goal

pub returns-clause-open : goal.returns-clause-open
returns-clause-open c q = subst (λ (l : List (List Lit)). IsQuietBefore l c.spread.new.trail.entries.items (length c.spread.new.trail.entries.items))
    c.as_slice.ensures.value (c.spread.ensures.quiet q)

pub returns-clause-quiet : goal.returns-clause-quiet
returns-clause-quiet c =
    let trail = c.spread.new.trail.entries.items in
    quiet_exact c.args.self.now.clauses.items trail c.spread.new.trail.variable_count c.spread.result c.spread.new.trail.trail
    (λ q. subst (λ (l : List (List Lit)). IsQuietBefore l trail (length trail)) c.as_slice.ensures.value (c.spread.ensures.quiet q))
    (λ id e. subst (λ (l : List (List Lit)). IsConflict l trail id) c.as_slice.ensures.value (c.spread.ensures.found id e))
