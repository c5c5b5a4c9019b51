use Rattle.std.proofs.Common.{◌≡◌, suc, Bool, true, false, List, [], ◌∷◌, length, refl, ap}
use Rattle.ygg_value.specs.Values.{same_value}
use Rattle.ygg_value.specs.declared.row.Value.{Value}
use Rattle.ygg_eval.specs.ygg_meaning_laws_proofs_Tests.{right}
use Rattle.ygg_replay.specs.Ends.{same_list}
use Rattle.ygg_replay.proofs.ends.same_values.Goals as goal

-- lists that are the same are as long
counted : (xs ys : List Value) → same_list xs ys ≡ true → length xs ≡ length ys
counted [] [] h = refl
counted (x ∷ xs) (y ∷ ys) h = ap suc (counted xs ys (right (same_value x y) (same_list xs ys) h))
counted [] (y ∷ ys) h = absurd (cc)
counted (x ∷ xs) [] h = absurd (cc)

uncounted : (xs ys : List Value) → (length xs ≡ length ys → ⊥) → false ≡ same_list xs ys
uncounted xs ys differ = cases (same_list xs ys) refl
  where
    cases : (b : Bool) → same_list xs ys ≡ b → false ≡ b
    cases false h = refl
    cases true h = absurd (differ (counted xs ys h))

pub returns-then-a-b : goal.returns-then-a-b
returns-then-a-b c = uncounted c.args.a.now c.args.b.now c.if-a-b.true
