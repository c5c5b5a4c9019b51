use Rattle.std.proofs.Common.{◌≡◌, ℕ, ◌≤◌, ◌*◌, List, take, ◌++◌, length, All}
use Rattle.ygg_chain.specs.Places.{IsDistinct, IsPlaced, clause_at}
use Rattle.ygg_cnf_set.specs.LiteralSet.{InSet, IsSetOf}
use Rattle.ygg_chain.proofs.store.enter_all.Given as goal

abbrev pub invariant-loop-lit : goal.invariant-loop-lit
invariant-loop-lit l = record {
  placed : All (IsPlaced l.variables) l.entered.items;
  same : clause_at l.variables l.entered.items ≡ take l.lit-index l.clause;
  grows : (more : List ℕ) × (l.variables ≡ l.initial.variables ++ more);
  distinct : IsDistinct l.variables;
  room : 2 * length l.variables ≤ length l.seen.items;
  seen : IsSetOf l.seen.items (InSet l.initial.seen.items);
}
