-- Runs over terms that power may cut: whole runs on the machine with stops.
use Rattle.std.specs.Prelude.{ℕ, List, ◌++◌}
use Rattle.ygg_value.specs.Words.{word}
use Rattle.ygg_syntax.specs.declared.tree.Block.{Block}
use Rattle.ygg_sym_runs.specs.ygg_rules.declared.rule.RuleKind.{RuleKind}
use Rattle.ygg_sym_runs.specs.ygg_bank.Makes.{Make, pure, and_make}
use Rattle.ygg_sym_runs.specs.ygg_bank.Making.{made}
use Rattle.ygg_sym_runs.specs.ygg_bank.declared.node.Id.{Id}
use Rattle.ygg_sym_runs.specs.ygg_bank.declared.node.Node.TheVariants.{Const}
use Rattle.ygg_sym_runs.specs.Names.{SymEnv}
use Rattle.ygg_sym_runs.specs.Exprs.{SymFunctions}
use Rattle.ygg_sym_runs.specs.Runs.{SymQuestion, SymHandled, SymMachine, sym_run}
use Rattle.ygg_sym_runs.specs.Stops.{before_at, within_at}

-- a state, what was left when power failed, and the term that says whether it has
pub record SymHalted (S F : Type 0) : Type 0 where
  pub to : S
  pub fallen : F
  pub stopped : Id

-- what power leaves, and the term that says whether the stop was reached
pub record SymFallen (F : Type 0) : Type 0 where
  pub fallen : F
  pub reached : Id

-- what stops are made of, where F stands for what power leaves
pub record Stops (S F : Type 0) : Type 0 where
  pub bit : ℕ → Make Id
  pub cut : SymQuestion → S → Make F
  pub lose : S → Make F
  pub merge : Id → F → F → Make F
  pub either : Id → Id → Make Id
  pub pick : Id → Id → Id → Make Id

module _ {S F : Type 0} (kinds : List RuleKind) (terms : SymFunctions) (M : SymMachine S) (K : Stops S F) where
  -- the term that says whether one is set, and another isn't
  abbrev pub sym_first : Id → Id → Make Id
  sym_first other one = and_make (made kinds (Const (word 1 0))) (λ never. K.pick other never one)

  -- what is left after a question at one of whose two stops power fails where these terms say so, of which one at most is set: what a stop before
  -- it leaves, or what one within it leaves, and else what was left before
  abbrev pub sym_leaves : Id → Id → SymQuestion → SymHalted S F → Make F
  sym_leaves here within q z =
      and_make (K.cut q z.to) (λ c. and_make (K.merge within c z.fallen) (λ x. and_make (K.lose z.to) (λ l. K.merge here l x)))

  -- what is left after a question whose two stops have these terms: what was left before where power had failed, else what a stop before it leaves,
  -- else what one within it leaves
  abbrev pub sym_left : Id → Id → SymQuestion → SymHalted S F → Make F
  sym_left here within q z =
      and_make (sym_first z.stopped here) (λ h. and_make (K.either z.stopped here) (λ some. and_make (sym_first some within) (λ w. sym_leaves h w q z)))

  -- a question on the machine with stops: the machine goes on, and beside its state stands what the first stop that is set leaves
  abbrev pub sym_halted : ℕ → SymQuestion → SymHalted S F → Make (SymHandled (SymHalted S F))
  sym_halted i q z =
      and_make (K.bit (before_at i)) (λ here. and_make (K.bit (within_at i)) (λ within. and_make (sym_left here within q z) (λ fallen.
      and_make (K.either z.stopped here) (λ some. and_make (K.either some within) (λ stopped.
      and_make (M.handle i q z.to) (λ h. pure (record { answer = h.answer; to = record { to = h.to; fallen = fallen; stopped = stopped } })))))))

  -- of two states with stops, the first where the test is 1 and else the second
  abbrev pub merge_halted : Id → SymHalted S F → SymHalted S F → Make (SymHalted S F)
  merge_halted t a b =
      and_make (M.merge t a.to b.to) (λ to. and_make (K.merge t a.fallen b.fallen) (λ fallen. and_make (K.pick t a.stopped b.stopped) (λ stopped.
      pure (record { to = to; fallen = fallen; stopped = stopped }))))

  -- the machine with stops
  abbrev pub halting_machine : SymMachine (SymHalted S F)
  halting_machine = record { merge = merge_halted; space = M.space; handle = sym_halted }

  -- the stop after the last question
  abbrev pub sym_end : ℕ → SymHalted S F → Make F
  sym_end last z = and_make (K.bit (before_at last)) (λ here. and_make (sym_first z.stopped here) (λ h. and_make (K.lose z.to) (λ l. K.merge h l z.fallen)))

  -- what is left of a run of the block
  abbrev pub stop_sym : ℕ → Block → SymEnv → SymHalted S F → Make F
  stop_sym last b env z = and_make (sym_run kinds terms halting_machine b env z) (λ s. sym_end last s.to)

  -- what is left of a run of a block that power cuts, and the term that says whether it comes to a stop that is set
  abbrev pub stop_whole : ℕ → Block → SymEnv → SymEnv → S → F → Make (SymFallen F)
  stop_whole last b vars args from other =
      and_make (made kinds (Const (word 1 0))) (λ never.
      and_make (sym_run kinds terms halting_machine b (vars ++ args) (record { to = from; fallen = other; stopped = never })) (λ z.
      and_make (sym_end last z.to) (λ fallen. and_make (K.bit (before_at last)) (λ here. and_make (K.either z.to.stopped here) (λ reached.
      pure (record { fallen = fallen; reached = reached }))))))
