-- Whole runs of blocks over terms.
use Rattle.std.specs.Prelude.{ℕ, zero, suc, ◌+◌, Bool, List, [], ◌∷◌, ◌++◌, length, take, Option, Some, None}
use Rattle.ygg_syntax.specs.declared.tree.Expr.{Expr}
use Rattle.ygg_syntax.specs.declared.tree.Block.{Block}
use Rattle.ygg_sym_runs.specs.ygg_meaning.Machine.{Picks}
use Rattle.ygg_sym_runs.specs.ygg_rules.declared.rule.RuleKind.{RuleKind}
use Rattle.ygg_sym_runs.specs.ygg_bank.Makes.{Make, pure, and_make}
use Rattle.ygg_sym_runs.specs.ygg_shape_cells.declared.terms.SymValue.{SymValue}
use Rattle.ygg_sym_runs.specs.Names.{SymEnv}
use Rattle.ygg_sym_runs.specs.Exprs.{SymFunctions, sym_value}
use Rattle.ygg_sym_runs.specs.Runs.{SymMachine, plain_scope, sym_run}

-- how a whole run ends: an answer, the variables, and the state of the machine below
pub record SymFinish (S : Type 0) : Type 0 where
  pub answer : Option SymValue
  pub vars : SymEnv
  pub to : S

module _ {S : Type 0} (kinds : List RuleKind) (terms : SymFunctions) (M : SymMachine S) where
  -- what a block returns
  abbrev pub sym_returned : Option Expr → SymEnv → Make (Option SymValue)
  sym_returned None env = pure None
  sym_returned (Some e) env = and_make (sym_value kinds terms e (plain_scope env)) (λ x. pure (Some x))

  -- a whole run of a block over variables and arguments
  abbrev pub sym_whole : Block → SymEnv → SymEnv → S → Make (SymFinish S)
  sym_whole b vars args from =
      and_make (sym_run kinds terms M b (vars ++ args) from) (λ z. and_make (sym_returned b.answer z.env) (λ y.
      pure (record { answer = y; vars = take (length vars) z.env; to = z.to })))

-- so many picks, from a place on
abbrev pub picks_from : (ℕ → Bool) → ℕ → ℕ → Picks
picks_from bits i zero = []
picks_from bits i (suc n) = bits i ∷ picks_from bits (i + 1) n
