-- Loops over lists make what is made of all items: what is made so far, and what the rest will make.
use Rattle.std.proofs.Common.{◌≡◌, ◌<◌, ℕ, ◌+◌, List, [], ◌∷◌, ◌++◌, length, drop, get_or, refl, sym, ap, ◌∙◌, append_assoc}
use Rattle.std.proofs.lemmas.List.{drop_more, append-nil}
use Rattle.ygg_sym_spec.specs.ygg_bank.Makes.{Out}
use Rattle.ygg_sym_spec.specs.ygg_bank.declared.node.Node.{Node}

-- the item at a place, and those after it
pub rest_is : {X : Type 0} (xs : List X) (i : ℕ) (x d : X) → i < length xs → x ≡ get_or xs i d → drop i xs ≡ x ∷ drop (i + 1) xs
rest_is xs i x d l e = drop_more xs i d l ∙ ap (λ z. z ∷ drop (i + 1) xs) (sym e)

-- what is answered so far, and what the rest will answer
pub record Left {A : Type 0} (whole rest : Out (List A)) (so_far : List A) : Type 0 where
  pub value : so_far ++ rest.value ≡ whole.value
  pub nodes : rest.nodes ≡ whole.nodes

pub left_goes : {A : Type 0} (whole rest next : Out (List A)) (so_far : List A) (a : A) → rest.value ≡ a ∷ next.value → rest.nodes ≡ next.nodes →
    Left whole rest so_far → Left whole next (so_far ++ a ∷ [])
left_goes whole rest next so_far a e f l = record {
  value = append_assoc so_far (a ∷ []) next.value ∙ ap (λ z. so_far ++ z) (sym e) ∙ l.value;
  nodes = sym f ∙ l.nodes;
}

pub left_begun : {A : Type 0} (whole : Out (List A)) → Left whole whole []
left_begun whole = record { value = refl; nodes = refl }

-- where nothing is left
pub left_value : {A : Type 0} (whole : Out (List A)) (so_far : List A) (nodes : List Node) → Left whole (record { value = []; nodes = nodes }) so_far →
    so_far ≡ whole.value
left_value whole so_far nodes l = sym (append-nil so_far) ∙ l.value
