-- The test of two values passes exactly where they are equal.
use Rattle.std.proofs.Common.{◌≡◌, ◌↔◌, ℕ, Bool, true, false, ◌&&◌, List, [], ◌∷◌, refl, ap, ◌∙◌}
use Rattle.std.proofs.lemmas.Bool.Decides.{Decides-eqb, Decides-and, Decides-like}
use Rattle.std.proofs.lemmas.Slice.Eq.{bytes_eq-Decides}
use Rattle.ygg_value.specs.Values.{rows_eq, same_value}
use Rattle.ygg_value.specs.declared.row.Value.{Value}
use Rattle.ygg_value.specs.declared.row.Value.TheVariants.{Word, Row, Table}

-- both tests pass where their conjunction does
pub both : (a b : Bool) → (a && b) ≡ true → (a ≡ true) × (b ≡ true)
both true b h = (refl, h)
both false b h = absurd (cc)

pub rows_eq-iff : (a b : List (List ℕ)) → (rows_eq a b ≡ true) ↔ (a ≡ b)
rows_eq-iff [] [] = (λ _. refl, λ _. refl)
rows_eq-iff (a ∷ left) (b ∷ right) =
    Decides-like (rows_eq (a ∷ left) (b ∷ right)) (λ (e, f). cc) (λ e. (cc, cc)) (Decides-and _ _ (bytes_eq-Decides a b) (rows_eq-iff left right))
rows_eq-iff [] (b ∷ right) = (λ e. absurd (cc), λ e. absurd (cc))
rows_eq-iff (a ∷ left) [] = (λ e. absurd (cc), λ e. absurd (cc))

-- the test passes exactly where the values are equal
pub same_value-iff : (a b : Value) → (same_value a b ≡ true) ↔ (a ≡ b)
same_value-iff (Word a) (Word b) =
    Decides-like (same_value (Word a) (Word b)) (λ (e, f). ap (λ w. Word (record { width = w; bits = a.bits })) e
    ∙ ap (λ n. Word (record { width = b.width; bits = n })) f)
    (λ e. (cc, cc)) (Decides-and _ _ (Decides-eqb a.width b.width) (Decides-eqb a.bits b.bits))
same_value-iff (Row a) (Row b) =
    Decides-like (same_value (Row a) (Row b)) (λ (e, f). ap (λ w. Row (record { width = w; words = a.words })) e
    ∙ ap (λ ns. Row (record { width = b.width; words = ns })) f)
    (λ e. (cc, cc)) (Decides-and _ _ (Decides-eqb a.width b.width) (bytes_eq-Decides a.words b.words))
same_value-iff (Table a) (Table b) =
    Decides-like (same_value (Table a) (Table b))
    (λ (e, f).
    ap (λ w. Table (record { width = w; words = a.words; rows = a.rows })) e.0 ∙ ap (λ n. Table (record { width = b.width; words = n; rows = a.rows })) e.1
    ∙ ap (λ r. Table (record { width = b.width; words = b.words; rows = r })) f)
    (λ e. ((cc, cc), cc)) (Decides-and _ _ (Decides-and _ _ (Decides-eqb a.width b.width) (Decides-eqb a.words b.words)) (rows_eq-iff a.rows b.rows))
same_value-iff (Word a) (Row b) = (λ e. absurd (cc), λ e. absurd (cc))
same_value-iff (Word a) (Table b) = (λ e. absurd (cc), λ e. absurd (cc))
same_value-iff (Row a) (Word b) = (λ e. absurd (cc), λ e. absurd (cc))
same_value-iff (Row a) (Table b) = (λ e. absurd (cc), λ e. absurd (cc))
same_value-iff (Table a) (Word b) = (λ e. absurd (cc), λ e. absurd (cc))
same_value-iff (Table a) (Row b) = (λ e. absurd (cc), λ e. absurd (cc))

-- values that pass the test are equal
pub same_is : (a b : Value) → same_value a b ≡ true → a ≡ b
same_is a b = (same_value-iff a b).0
