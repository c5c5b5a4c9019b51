use Rattle.std.proofs.lemmas.Bool.Decides.{same_from_decides, Decides-like}
use Rattle.ygg_value.proofs.Equality.{same_value-iff}
use Rattle.ygg_value.specs.declared.row.Value.TheVariants.{Table}
use Rattle.ygg_value.proofs.row.same.Goals as goal

pub returns-in-Table-Table-clause-value : goal.returns-in-Table-Table-clause-value
returns-in-Table-Table-clause-value c =
    rw (c.in-Table-Table.is-0, c.in-Table-Table.is-1)
    (same_from_decides _ _ (Decides-like _ (λ e. cc) (λ e. cc) c.same_table.ensures) (same_value-iff (Table c.in-Table-Table.a) (Table c.in-Table-Table.b)))
