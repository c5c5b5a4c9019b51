-- Steps that make nodes, one for each item of a list.
use Rattle.std.specs.Prelude.{ℕ, ◌+◌, List, [], ◌∷◌}
use Rattle.ygg_shape_words.specs.ygg_bank.Makes.{Make, pure, and_make}

-- a step for each pair of items at one place of two lists, and the list of what they answer
abbrev pub each_two : {A B C : Type 0} → (A → B → Make C) → List A → List B → Make (List C)
each_two step (a ∷ one) (b ∷ two) = and_make (step a b) (λ c. and_make (each_two step one two) (λ rest. pure (c ∷ rest)))
each_two step _ _ = pure []

-- a step for each item and its number, counted on from a number, and the list of what they answer
abbrev pub each_from : {A C : Type 0} → (ℕ → A → Make C) → ℕ → List A → Make (List C)
each_from step number [] = pure []
each_from step number (a ∷ rest) = and_make (step number a) (λ c. and_make (each_from step (number + 1) rest) (λ others. pure (c ∷ others)))

-- a step for each pair of items at one place of two lists, each of which goes on from what the one before answered
abbrev pub fold_two : {S A B : Type 0} → (S → A → B → Make S) → S → List A → List B → Make S
fold_two step so_far (a ∷ one) (b ∷ two) = and_make (step so_far a b) (λ next. fold_two step next one two)
fold_two step so_far _ _ = pure so_far

-- a step for each item and its number, counted on from a number, each of which goes on from what the one before answered
abbrev pub fold_from : {S A : Type 0} → (S → ℕ → A → Make S) → S → ℕ → List A → Make S
fold_from step so_far number [] = pure so_far
fold_from step so_far number (a ∷ rest) = and_make (step so_far number a) (λ next. fold_from step next (number + 1) rest)
