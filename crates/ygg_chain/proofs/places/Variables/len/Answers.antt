use Rattle.std.proofs.Common.{List, ℕ, subst}
use Rattle.ygg_chain.specs.Places.{IsDistinct}
use Rattle.ygg_chain.proofs.TableLemmas.{distinct_indexed}
use Rattle.ygg_chain.proofs.places.Variables.len.Goals as goal

pub returns-clause-distinct : goal.returns-clause-distinct
returns-clause-distinct c =
    subst (λ (l : List ℕ). IsDistinct l) c.self.view_is (distinct_indexed c.self.inside.places c.self.inside.order.items c.self.invariant.0)
