-- The values of a schedule are those that the inputs give, and stops that are set.
use Rattle.std.proofs.Common.{◌≡◌, ℕ, true, List, [], ◌∷◌, map, Option, Some, None, refl, sym, ap, ◌∙◌, subst}
use Rattle.std.proofs.lemmas.List.Elements.{All-nil}
use Rattle.std.specs.Prelude.{is_some}
use Rattle.ygg_value.specs.Shapes.{IsShape}
use Rattle.ygg_value.specs.declared.row.Value.{Value}
use Rattle.ygg_syntax.specs.declared.tree.Declared.{Declared}
use Rattle.ygg_oblige_laws.specs.ygg_meaning_laws_proofs_Tests.{right}
use Rattle.ygg_oblige_laws.specs.ygg_meaning.Environments.{Env, bind}
use Rattle.ygg_oblige_laws.specs.ygg_meaning.Layer.{ClosedLayer}
use Rattle.ygg_oblige_laws.specs.ygg_meaning.Obligations.{Halt, Schedule, Obligation}
use Rattle.ygg_oblige_laws.specs.ygg_meaning.Refines.{Below}
use Rattle.ygg_oblige_laws.specs.ygg_meaning.Shapes.{shape_in, fits, values_fit}
use Rattle.ygg_oblige_laws.specs.ygg_bank.Values.{Inputs, Values, Fits}
use Rattle.ygg_oblige_laws.specs.ygg_bank.declared.node.Node.{Node}
use Rattle.ygg_oblige_laws.specs.ygg_shape_cells.Terms.{worth}
use Rattle.ygg_oblige_laws.specs.ygg_shape_cells.declared.terms.SymValue.{SymValue}
use Rattle.ygg_oblige_laws.proofs.of_ygg_sym_runs.Blocks.{values_worth}
use Rattle.ygg_oblige_laws.specs.LayerTerms.{ShapesKept}
use Rattle.ygg_oblige_laws.specs.Numbers.{numbers_of, arguments_of}
use Rattle.ygg_oblige_laws.specs.TermStates.{Starting}
use Rattle.ygg_oblige_laws.specs.Inputs.{given_env}
use Rattle.ygg_oblige_laws.specs.States.{given_stand}
use Rattle.ygg_oblige_laws.specs.Worth.{LowIs, trio_worth}
use Rattle.ygg_oblige_laws.specs.Schedules.{values_of, schedule_from, schedule_of}

-- the values that names were bound to
pub values_again : (ds : List Declared) (ys : List Value) → values_fit ds ys ≡ true → values_of (bind ds ys) ≡ ys
values_again [] [] e = refl
values_again [] (y ∷ ys) e = absurd (cc)
values_again (d ∷ ds) [] e = absurd (cc)
values_again (d ∷ ds) (y ∷ ys) e = ap (λ zs. y ∷ zs) (values_again ds ys (right (fits (shape_in d.shape) y) (values_fit ds ys) e))

-- a schedule with these variables and arguments
abbrev pub saying : Env → List Value → Schedule
saying vars args = record { state = vars; memory = []; low = []; args = args; stop = None; picks = []; wake = []; other = [] }

pub no_shapes : ShapesKept []
no_shapes = All-nil (λ (d : Declared). IsShape (shape_in d.shape))

-- a stop that there is
pub record IsStop (s : Option Halt) : Type 0 where
  pub stop : Halt
  pub is : s ≡ Some stop

pub some_stop : (s : Option Halt) → is_some s ≡ true → IsStop s
some_stop None e = absurd (cc)
some_stop (Some stop) e = record { stop = stop; is = refl }

module _ (inputs : Inputs) (v : Values) (o : Obligation) (start : ℕ) (xs : List SymValue) (nodes : List Node) (fit : Fits inputs v nodes)
    (given : LowIs v (arguments_of o) (given_env inputs start (arguments_of o)) nodes xs) where
  -- the values that the terms of arguments are worth are those that the inputs give
  pub arguments_same : map (worth v) xs ≡ values_of (given_env inputs start (arguments_of o))
  arguments_same =
      sym (values_again (arguments_of o) (map (worth v) xs) (values_worth inputs v nodes (arguments_of o) xs fit given.shaped))
      ∙ ap values_of given.is

  -- they have the declared shapes
  pub arguments_fit : values_fit (arguments_of o) (values_of (given_env inputs start (arguments_of o))) ≡ true
  arguments_fit = subst (λ ys. values_fit (arguments_of o) ys ≡ true) arguments_same (values_worth inputs v nodes (arguments_of o) xs fit given.shaped)

  -- the schedule with the values that the terms are worth is that with the values that the inputs give
  pub schedule_same : (G : Below) (L : ClosedLayer) (number : ℕ) (S : Starting) → trio_worth v L S.from ≡ given_stand inputs number L →
      schedule_from G L inputs (numbers_of G L o start) o (trio_worth v L S.from) (map (worth v) xs) ≡ schedule_of G L inputs number o start
  schedule_same G L number S from =
      let n = numbers_of G L o start in
      ap (λ s. schedule_from G L inputs n o s (map (worth v) xs)) from
      ∙ ap (λ zs. schedule_from G L inputs n o (given_stand inputs number L) zs) arguments_same
