-- What a layer's own specification may do, over terms: one end for each list of picks.
use Rattle.std.specs.Prelude.{ℕ, zero, suc, true, false, if◌then◌else◌, List, [], ◌∷◌, ◌++◌, Option, Some, None}
use Rattle.ygg_value.specs.Words.{word}
use Rattle.ygg_value.specs.declared.operation.Op.TheVariants.{Or}
use Rattle.ygg_syntax.specs.declared.tree.Block.{Block}
use Rattle.ygg_syntax.specs.declared.tree.Operation.{Operation}
use Rattle.ygg_sym_laws.specs.ygg_meaning.Machine.{Picks}
use Rattle.ygg_sym_laws.specs.ygg_meaning.Layer.{ClosedLayer}
use Rattle.ygg_sym_laws.specs.ygg_meaning.Obligations.{Obligation, Init, CallOf, CutOf, TickOf, CutTickOf, Idle, Again}
use Rattle.ygg_sym_laws.specs.ygg_rules.declared.rule.RuleKind.{RuleKind}
use Rattle.ygg_sym_laws.specs.ygg_bank.Makes.{Make, pure, and_make}
use Rattle.ygg_sym_laws.specs.ygg_bank.Making.{made}
use Rattle.ygg_sym_laws.specs.ygg_bank.declared.node.Id.{Id}
use Rattle.ygg_sym_laws.specs.ygg_bank.declared.node.Node.TheVariants.{Const, Bin}
use Rattle.ygg_sym_laws.specs.ygg_shape.Comparing.{compared}
use Rattle.ygg_sym_laws.specs.ygg_shape_cells.declared.terms.SymValue.{SymValue}
use Rattle.ygg_sym_laws.specs.Names.{sym_bind}
use Rattle.ygg_sym_laws.specs.Exprs.{SymFunctions}
use Rattle.ygg_sym_laws.specs.Disks.{Done, done}
use Rattle.ygg_sym_laws.specs.Specs.{given_pick}
use Rattle.ygg_sym_laws.specs.SpecCuts.{block_made, crash_made, then_crash_made}
use Rattle.ygg_sym_laws.specs.Below.{start_made}

module _ (kinds : List RuleKind) where
  -- whether two answers are the same
  abbrev pub answers_compared : Option SymValue → Option SymValue → Make Id
  answers_compared None None = made kinds (Const (word 1 1))
  answers_compared (Some a) (Some b) = compared kinds a b
  answers_compared _ _ = made kinds (Const (word 1 0))

  -- whether a test is 1 for some list of so many picks after these, in the order of their binary numbers
  abbrev pub any_picks : ℕ → Picks → (Picks → Make Id) → Make Id
  any_picks zero before test = test before
  any_picks (suc n) before test =
      and_make (any_picks n (before ++ false ∷ []) test) (λ a. and_make (any_picks n (before ++ true ∷ []) test) (λ b. made kinds (Bin Or a b)))

module _ (kinds : List RuleKind) (terms : SymFunctions) (L : ClosedLayer) where
  -- power fails within an operation, with these picks
  abbrev pub fall_with_picks : Operation → Option Block → List SymValue → List SymValue → Picks → Make (List SymValue)
  fall_with_picks o (Some b) vars args picks = then_crash_made kinds terms L (given_pick kinds picks) b vars (sym_bind o.arguments args)
  fall_with_picks o None vars args [] = pure vars
  fall_with_picks o None vars args (happened ∷ picks) =
      if happened then then_crash_made kinds terms L (given_pick kinds picks) o.spec vars (sym_bind o.arguments args)
      else crash_made kinds terms L (given_pick kinds picks) vars

  -- the variables alone
  abbrev pub leaving : Make (List SymValue) → Make Done
  leaving m = and_make m (λ vars. pure (done None vars))

  -- how the specification's step ends with these picks, from these variables and arguments; `again` has none
  abbrev pub outcome_made : Obligation → List SymValue → List SymValue → Picks → Make Done
  outcome_made Init vars args picks = leaving (start_made kinds terms L)
  outcome_made (CallOf o) vars args picks = block_made kinds terms L (given_pick kinds picks) o.spec vars (sym_bind o.arguments args)
  outcome_made (CutOf o) vars args picks = leaving (fall_with_picks o o.on_crash vars args picks)
  outcome_made (TickOf t) vars args picks = pure (done None vars)
  outcome_made (CutTickOf t) vars args picks = leaving (crash_made kinds terms L (given_pick kinds picks) vars)
  outcome_made Idle vars args picks = leaving (crash_made kinds terms L (given_pick kinds picks) vars)
  outcome_made Again vars args picks = pure (done None vars)
