-- A layer's specification over terms, block by block, and power that fails on it: the picks of the failure have inputs of their own.
use Rattle.std.specs.Prelude.{ℕ, suc, ◌+◌, List, [], map, Option, Some, None}
use Rattle.ygg_value.specs.declared.operation.Op.TheVariants.{Or}
use Rattle.ygg_syntax.specs.declared.tree.Block.{Block}
use Rattle.ygg_syntax.specs.declared.tree.Operation.{Operation}
use Rattle.ygg_sym_runs.specs.ygg_meaning.Layer.{ClosedLayer, operation_of}
use Rattle.ygg_sym_runs.specs.ygg_rules.declared.rule.RuleKind.{RuleKind}
use Rattle.ygg_sym_runs.specs.ygg_bank.Makes.{Make, pure, and_make}
use Rattle.ygg_sym_runs.specs.ygg_bank.Making.{made}
use Rattle.ygg_sym_runs.specs.ygg_bank.declared.node.Id.{Id}
use Rattle.ygg_sym_runs.specs.ygg_bank.declared.node.Node.TheVariants.{Input, Bin}
use Rattle.ygg_sym_runs.specs.ygg_shape_words.Picking.{picked}
use Rattle.ygg_sym_runs.specs.ygg_shape_cells.declared.terms.SymValue.{SymValue}
use Rattle.ygg_sym_runs.specs.ygg_meaning_laws.Direct.{room_of, total}
use Rattle.ygg_sym_runs.specs.Names.{SymEnv, sym_bind}
use Rattle.ygg_sym_runs.specs.Exprs.{SymFunctions}
use Rattle.ygg_sym_runs.specs.Runs.{SymQuestion, Choice, Call}
use Rattle.ygg_sym_runs.specs.Lows.{join_lows, merge_lows}
use Rattle.ygg_sym_runs.specs.Disks.{Done, done}
use Rattle.ygg_sym_runs.specs.Wholes.{sym_whole}
use Rattle.ygg_sym_runs.specs.Specs.{sym_chooser, input_pick}
use Rattle.ygg_sym_runs.specs.StopTerms.{Stops}

-- how many choices a block of a specification makes at most
abbrev pub choice_room : Block → ℕ
choice_room = room_of (λ f. 1)

-- picks by place, from a place on
abbrev pub picks_after : ℕ → (ℕ → Make Id) → ℕ → Make Id
picks_after n pick k = pick (n + k)

module _ (kinds : List RuleKind) (terms : SymFunctions) (m : ClosedLayer) where
  -- a block of the specification over its variables, each choice taking the pick of its place
  abbrev pub block_made : (ℕ → Make Id) → Block → List SymValue → SymEnv → Make Done
  block_made pick b vars args =
      and_make (sym_whole kinds terms (sym_chooser pick) b (sym_bind m.layer.state vars) args tt)
      (λ out. pure (done out.answer (map (λ x. x.1) out.vars)))

  -- what the `crash` block leaves
  abbrev pub crash_made : (ℕ → Make Id) → List SymValue → Make (List SymValue)
  crash_made pick vars = and_make (block_made pick m.layer.crash vars []) (λ d. pure d.to)

  -- what a block leaves and then the `crash` block, whose choices come after its own
  abbrev pub then_crash_made : (ℕ → Make Id) → Block → List SymValue → SymEnv → Make (List SymValue)
  then_crash_made pick b vars args =
      and_make (block_made pick b vars args) (λ d. crash_made (picks_after (choice_room b) pick) d.to)

  -- power fails within an operation: its own `on crash` block, or one pick that says whether it has happened wholly; then comes the `crash` block
  abbrev pub fall_made : (ℕ → Make Id) → Operation → Option Block → List SymValue → List SymValue → Make (List SymValue)
  fall_made pick o (Some b) vars args = then_crash_made pick b vars (sym_bind o.arguments args)
  fall_made pick o None vars args =
      and_make (pick 0) (λ happened.
      and_make (then_crash_made (picks_after 1 pick) o.spec vars (sym_bind o.arguments args)) (λ all.
      and_make (crash_made (picks_after 1 pick) vars) (λ nothing. merge_lows kinds happened all nothing)))

  -- power fails within a named operation; what is none does nothing
  abbrev pub fall_asked : (ℕ → Make Id) → Option Operation → List SymValue → List SymValue → Make (List SymValue)
  fall_asked pick None vars args = pure vars
  fall_asked pick (Some o) vars args = fall_made pick o o.on_crash vars args

  -- power fails within what is asked of a specification; a choice, which no block of an implementation asks, is none of its operations
  abbrev pub spec_cuts : (ℕ → Make Id) → SymQuestion → List SymValue → Make (List SymValue)
  spec_cuts pick Choice vars = crash_made pick vars
  spec_cuts pick (Call name args) vars = fall_asked pick (operation_of m name) vars args

  -- the stops of runs on a specification: one input for each, from a number on, and those of the picks of the failure
  abbrev pub spec_stops : ℕ → ℕ → Stops (List SymValue) (List SymValue)
  spec_stops first last = record {
    bit = λ n. made kinds (Input (first + n) 1);
    cut = spec_cuts (input_pick kinds last);
    lose = crash_made (input_pick kinds last);
    merge = join_lows kinds;
    either = λ a b. made kinds (Bin Or a b);
    pick = picked kinds;
  }

-- how many picks power takes at most that fails within an operation
abbrev pub fall_places : ClosedLayer → Operation → ℕ
fall_places m o =
    elim o.on_crash [ None ↦ suc (choice_room o.spec) + choice_room m.layer.crash | Some b ↦ choice_room b + choice_room m.layer.crash ]

-- how many inputs the picks of a failure have at most, whichever operation is cut
abbrev pub fall_room : ClosedLayer → ℕ
fall_room m = choice_room m.layer.crash + total (map (fall_places m) m.layer.operations)
