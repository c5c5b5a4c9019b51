use Rattle.std.proofs.Common.{◌≡◌, ◌++◌, drop}
use Rattle.std.specs.Prelude.{IsTrue}
use Rattle.ygg_oblige_laws.specs.ygg_meaning.Shapes.{env_fits}
use Rattle.ygg_oblige_laws.specs.Inputs.{given_env}
use Rattle.ygg_oblige_laws.specs.LayerTerms.{ShapesKept}
use Rattle.ygg_oblige_given.specs.Tables.{given_values, inputs_in}
use Rattle.ygg_oblige_given.proofs.table.InputTable.values.Given as goal

-- the values so far, and those of the names that are left
abbrev pub invariant-loop-variable : goal.invariant-loop-variable
invariant-loop-variable l =
    (l.values ++ given_values (inputs_in l.self) l.next (drop l.variable-index l.declared) ≡ given_values (inputs_in l.self) l.number l.declared)
    × ShapesKept (drop l.variable-index l.declared)
    × IsTrue (env_fits (drop l.variable-index l.declared) (given_env (inputs_in l.self) l.next (drop l.variable-index l.declared)))
