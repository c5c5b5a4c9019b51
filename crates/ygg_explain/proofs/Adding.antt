-- Texts that are put behind one another.
use Rattle.std.proofs.Common.{◌≡◌, ℕ, List, ◌++◌, Result, Ok, Err, OnOk, ap, ◌∙◌, append_assoc}
use Rattle.ygg_explain.specs.Parts.{Adds}

-- what holds where there is no error gives another fact of it
pub on_ok : {A E P Q : Type 0} (r : Result A E) → (P → Q) → OnOk r P → OnOk r Q
on_ok (Ok x) f h = f h
on_ok (Err e) f h = tt

module _ (a b c d : List ℕ) where
  pub joined_2 : (x y : List ℕ) → b ≡ a ++ x → c ≡ b ++ y → c ≡ a ++ (x ++ y)
  joined_2 x y first second = second ∙ ap (λ t. t ++ y) first ∙ append_assoc a x y

  pub joined_3 : (x y z : List ℕ) → b ≡ a ++ x → c ≡ b ++ y → d ≡ c ++ z → d ≡ a ++ (x ++ (y ++ z))
  joined_3 x y z first second third =
      third ∙ ap (λ t. t ++ z) (joined_2 x y first second) ∙ append_assoc a (x ++ y) z ∙ ap (λ t. a ++ t) (append_assoc x y z)

-- text of another kind
pub adds_as : {Is Like : List ℕ → Type 0} {before after : List ℕ} → ((text : List ℕ) → Is text → Like text) → Adds Is before after → Adds Like before after
adds_as f h = record { text = h.text; like = f h.text h.like; added = h.added }

-- a text between two others
pub adds_after : {Is Like : List ℕ → Type 0} {before middle after : List ℕ} (x : List ℕ) → middle ≡ before ++ x →
    ((text : List ℕ) → Is text → Like (x ++ text)) → Adds Is middle after → Adds Like before after
adds_after {Is} {Like} {before} {middle} {after} x first f h = record {
  text = x ++ h.text;
  like = f h.text h.like;
  added = joined_2 before middle after after x h.text first h.added;
}
