-- The number of unassigned variables falls as literals are assigned.
use Rattle.std.proofs.Common.{◌≡◌, List, [], ◌∷◌, ◌++◌, sym, ap, refl, Result, Ok, Err, OnErr}
use Rattle.ygg_watch.specs.Propagation.{Propagation, Spreads}
use Rattle.ygg_watch.specs.declared.entry.Entry.{Entry}

pub append-nil : (xs : List Entry) → xs ++ [] ≡ xs
append-nil [] = refl
append-nil (x ∷ xs) = ap (λ l. x ∷ l) (append-nil xs)

pub variable_count_spreads : (old new : Propagation) → Spreads old new → old.variable_count ≡ new.variable_count
variable_count_spreads old new (added, (i, e)) = ap (λ (p : Propagation). p.variable_count) (sym e)

pub clauses_spreads : (old new : Propagation) → Spreads old new → old.clauses ≡ new.clauses
clauses_spreads old new (added, (i, e)) = ap (λ (p : Propagation). p.clauses) (sym e)

-- what holds in any case holds where an error comes
pub on_err : {X E P : Type 0} (r : Result X E) → P → OnErr r P
on_err (Ok x) p = tt
on_err (Err e) p = p
