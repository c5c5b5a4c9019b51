use Rattle.std.proofs.Common.{ℕ, ◌<◌, List, [], ◌∷◌, ◌++◌, All, subst}
use Rattle.std.proofs.lemmas.List.Elements.{All-head, All-tail}
use Rattle.ygg_cnf.specs.declared.lit.Lit.{Lit}
use Rattle.ygg_watch.specs.Propagation.{IsWithin}
use Rattle.ygg_tests.proofs.propagation.three.Goals as goal

-- the second literal of a clause that is within
second_within : (variable_count : ℕ) (a b : Lit) → IsWithin variable_count (a ∷ b ∷ []) → b.var < variable_count
second_within variable_count a b h = All-head (λ (x : Lit). x.var < variable_count) b [] (All-tail (λ (x : Lit). x.var < variable_count) a (b ∷ []) h)

-- and of the last clause
last_within : (variable_count : ℕ) (old : List (List Lit)) (a b : Lit) → All (IsWithin variable_count) (old ++ (a ∷ b ∷ []) ∷ []) → b.var < variable_count
last_within variable_count [] a b h = second_within variable_count a b (All-head (IsWithin variable_count) (a ∷ b ∷ []) [] h)
last_within variable_count (x ∷ xs) a b h = last_within variable_count xs a b (All-tail (IsWithin variable_count) x (xs ++ (a ∷ b ∷ []) ∷ []) h)

pub returns : goal.returns
returns c variable_count within = last_within variable_count _ _ _ (subst (All (IsWithin variable_count)) c.in_ok-add-3.ensures within)
