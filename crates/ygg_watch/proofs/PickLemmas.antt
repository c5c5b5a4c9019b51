-- A variable with a value is assigned.
use Rattle.std.proofs.Common.{ℕ, List, ap}
use Rattle.ygg_cnf.specs.declared.lit.Lit.{Lit}
use Rattle.ygg_watch.specs.declared.found.Assigned.{Assigned}
use Rattle.ygg_watch.specs.Propagation.{HasValue}
use Rattle.ygg_watch.proofs.TrailLemmas.{fresh_place}
use Rattle.ygg_watch.specs.Trail.{IsAssigned}
use Rattle.ygg_watch.specs.declared.entry.Entry.{Entry}

pub value_assigned : (trail : List Entry) (var : ℕ) (value : Assigned) → HasValue trail var value → IsAssigned trail var
value_assigned trail var value (q, (e, (h, (s, r)))) = fresh_place trail q e var h (ap (λ (z : Lit). z.var) s)
