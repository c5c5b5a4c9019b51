-- The environment of a term's clauses.
use Rattle.std.proofs.Common.{◌≡◌, ℕ, Bool, List, Result, Ok, Err, IfOk, sym, subst, ap, ◌∙◌}
use Rattle.ygg_cnf.specs.Literals.{SatisfiesAll}
use Rattle.ygg_bank.specs.Nodes.{HasWidth, IsBank}
use Rattle.ygg_bank.specs.declared.env.Given.{Given}
use Rattle.ygg_bank.specs.declared.node.Id.{Id}
use Rattle.ygg_bank.specs.declared.node.Node.{Node}
use Rattle.ygg_gates.specs.Groups.{Translated, translated}
use Rattle.ygg_gates.specs.Sources.{environment_by}
use Rattle.ygg_gates.proofs.Whole.{satisfiable_exactly, satisfying_is_zero}
use Rattle.ygg_gates.specs.Laws.{AreExact, IsZeroIn}

pub zero_in : {E : Type 0} (v : ℕ → Bool) (b : Translated) (result : Result (List Given) E) → IfOk result (λ env. env ≡ environment_by v b.sources) →
    (nodes : List Node) (term : Id) → IsBank nodes → HasWidth nodes term 1 → b ≡ translated nodes term → SatisfiesAll v b.clauses →
    IfOk result (IsZeroIn nodes term)
zero_in v b (Err e) f nodes term k h i s = tt
zero_in v b (Ok env) f nodes term k h i s =
    subst (IsZeroIn nodes term) (sym (f ∙ ap (λ (z : Translated). environment_by v z.sources) i))
    (satisfying_is_zero nodes term v k h (subst (λ (z : Translated). SatisfiesAll v z.clauses) i s))

pub exact : {E : Type 0} (nodes : List Node) (term : Id) (result : Result Translated E) → IfOk result (λ b. b ≡ translated nodes term) → IsBank nodes
    → HasWidth nodes term 1 → IfOk result (λ b. AreExact nodes term b.clauses)
exact nodes term (Err e) f k h = tt
exact nodes term (Ok b) f k h = subst (λ (z : Translated). AreExact nodes term z.clauses) (sym f) (satisfiable_exactly nodes term k h)
