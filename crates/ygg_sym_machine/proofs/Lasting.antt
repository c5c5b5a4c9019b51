-- The steps by which it is made what power leaves after the last question.
use Rattle.std.proofs.Common.{◌≡◌, List}
use Rattle.ygg_sym_runs.specs.ygg_rules.declared.rule.RuleKind.{RuleKind}
use Rattle.ygg_sym_runs.specs.ygg_bank_proofs_Widths.{wider}
use Rattle.ygg_sym_runs.specs.ygg_bank.Nodes.{Extends, HasWidth, IsBank}
use Rattle.ygg_sym_runs.specs.ygg_bank.declared.node.Id.{Id}
use Rattle.ygg_sym_runs.specs.ygg_bank.declared.node.Node.{Node}
use Rattle.ygg_sym_runs.specs.Lower.{SymMeaning, IsLower, CanMerge, KeepsSingle, Stands}
use Rattle.ygg_sym_runs.specs.StopTerms.{SymHalted}
use Rattle.ygg_sym_machine.specs.Halting.{halting_meaning}
use Rattle.ygg_sym_machine.specs.Stopping.{Power, IsPower}
use Rattle.ygg_sym_machine.proofs.Standing.{lose_there, stands_later}
use Rattle.ygg_sym_machine.proofs.Leaving.{lose_has}

module _ {S : Type 0} (M : SymMeaning S) (K : Power S) (low : IsLower M) (power : IsPower M K) (kinds : List RuleKind) (z : SymHalted S S) where
  -- the state that is lost may be merged with what was left
  pub can_last : (first old new : List Node) (ends : Id) (lost : S) → Stands (halting_meaning M K) first z → Extends first old → KeepsSingle first old →
      HasWidth old ends 1 → IsBank new → Extends old new → new ≡ (K.lose kinds z.to old).nodes → lost ≡ (K.lose kinds z.to old).value →
      CanMerge M new ends lost z.fallen
  can_last first old new ends lost st g k w bank u e f =
      let mid = stands_later (halting_meaning M K) first old z g k st in
      let h = mid.has in
      record {
        serves = mid.serves;
        test = wider old new ends 1 u w;
        first_has = lose_has M K low power kinds z.to old new lost (lose_there M K old z mid) bank e f;
        second_has = M.low.wider old new z.fallen u h.1;
      }
