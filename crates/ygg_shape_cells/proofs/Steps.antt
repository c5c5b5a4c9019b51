-- Loops over lists make what the steps for all items make.
use Rattle.std.proofs.Common.{◌≡◌, ◌<◌, ◌≤◌, ℕ, ◌+◌, List, [], ◌∷◌, ◌++◌, length, drop, get_or, refl, sym, ap, ◌∙◌, append_assoc}
use Rattle.std.proofs.lemmas.List.{drop_more, drop_all, append-nil}
use Rattle.ygg_shape_words.specs.ygg_bank.Makes.{Make, Out}
use Rattle.ygg_shape_words.specs.ygg_bank.declared.node.Node.{Node}
use Rattle.ygg_shape_cells.specs.Lists.{each_two, each_from, fold_two, fold_from}

-- the item at a place, and those after it
pub rest_is : {X : Type 0} (xs : List X) (i : ℕ) (x d : X) → i < length xs → x ≡ get_or xs i d → drop i xs ≡ x ∷ drop (i + 1) xs
rest_is xs i x d l e = drop_more xs i d l ∙ ap (λ z. z ∷ drop (i + 1) xs) (sym e)

-- what is answered so far, and what the rest will be
pub record EachTwo {A B C : Type 0} (step : A → B → Make C) (xs : List A) (ys : List B) (old : List Node) (i : ℕ) (so_far : List C)
    (now : List Node) : Type 0 where
  pub value : so_far ++ (each_two step (drop i xs) (drop i ys) now).value ≡ (each_two step xs ys old).value
  pub nodes : (each_two step (drop i xs) (drop i ys) now).nodes ≡ (each_two step xs ys old).nodes

pub each_two_goes : {A B C : Type 0} (step : A → B → Make C) (xs : List A) (ys : List B) (old : List Node) (i : ℕ) (so_far : List C) (now : List Node)
    (x dx : A) (y dy : B) (c : C) (next : List Node) →
    i < length xs → i < length ys → x ≡ get_or xs i dx → y ≡ get_or ys i dy → next ≡ (step x y now).nodes → c ≡ (step x y now).value →
    EachTwo step xs ys old i so_far now → EachTwo step xs ys old (i + 1) (so_far ++ c ∷ []) next
each_two_goes {A} {B} {C} step xs ys old i so_far now x dx y dy c next p q e f g h s =
    let d = rest_is xs i x dx p e in
    let b = rest_is ys i y dy q f in
    let o = step x y now in
    record {
      value = append_assoc so_far (c ∷ []) (each_two step (drop (i + 1) xs) (drop (i + 1) ys) next).value
          ∙ ap (λ z. so_far ++ (z ∷ (each_two step (drop (i + 1) xs) (drop (i + 1) ys) next).value)) h
          ∙ ap (λ z. so_far ++ (o.value ∷ (each_two step (drop (i + 1) xs) (drop (i + 1) ys) z).value)) g
          ∙ ap (λ z. so_far ++ (each_two step z (y ∷ drop (i + 1) ys) now).value) (sym d)
          ∙ ap (λ z. so_far ++ (each_two step (drop i xs) z now).value) (sym b) ∙ s.value;
      nodes = ap (λ z. (each_two step (drop (i + 1) xs) (drop (i + 1) ys) z).nodes) g
          ∙ ap (λ z. (each_two step z (y ∷ drop (i + 1) ys) now).nodes) (sym d)
          ∙ ap (λ z. (each_two step (drop i xs) z now).nodes) (sym b) ∙ s.nodes;
    }

pub each_two_value : {A B C : Type 0} (step : A → B → Make C) (xs : List A) (ys : List B) (old : List Node) (i : ℕ) (so_far : List C)
    (now : List Node) → length xs ≤ i →
    EachTwo step xs ys old i so_far now → so_far ≡ (each_two step xs ys old).value
each_two_value step xs ys old i so_far now l s =
    sym (append-nil so_far) ∙ ap (λ z. so_far ++ (each_two step z (drop i ys) now).value) (sym (drop_all i xs l)) ∙ s.value

pub each_two_nodes : {A B C : Type 0} (step : A → B → Make C) (xs : List A) (ys : List B) (old : List Node) (i : ℕ) (so_far : List C)
    (now : List Node) → length xs ≤ i →
    EachTwo step xs ys old i so_far now → now ≡ (each_two step xs ys old).nodes
each_two_nodes step xs ys old i so_far now l s = ap (λ z. (each_two step z (drop i ys) now).nodes) (sym (drop_all i xs l)) ∙ s.nodes

-- the same of one list whose items are numbered
pub record EachFrom {A C : Type 0} (step : ℕ → A → Make C) (xs : List A) (old : List Node) (i : ℕ) (so_far : List C) (now : List Node) : Type 0 where
  pub value : so_far ++ (each_from step i (drop i xs) now).value ≡ (each_from step 0 xs old).value
  pub nodes : (each_from step i (drop i xs) now).nodes ≡ (each_from step 0 xs old).nodes

pub each_from_goes : {A C : Type 0} (step : ℕ → A → Make C) (xs : List A) (old : List Node) (i : ℕ) (so_far : List C) (now : List Node) (x dx : A)
    (c : C) (next : List Node) →
    i < length xs → x ≡ get_or xs i dx → next ≡ (step i x now).nodes → c ≡ (step i x now).value → EachFrom step xs old i so_far now →
    EachFrom step xs old (i + 1) (so_far ++ c ∷ []) next
each_from_goes step xs old i so_far now x dx c next p e g h s =
    let d = rest_is xs i x dx p e in
    let o = step i x now in
    record {
      value = append_assoc so_far (c ∷ []) (each_from step (i + 1) (drop (i + 1) xs) next).value
          ∙ ap (λ z. so_far ++ (z ∷ (each_from step (i + 1) (drop (i + 1) xs) next).value)) h
          ∙ ap (λ z. so_far ++ (o.value ∷ (each_from step (i + 1) (drop (i + 1) xs) z).value)) g
          ∙ ap (λ z. so_far ++ (each_from step i z now).value) (sym d) ∙ s.value;
      nodes = ap (λ z. (each_from step (i + 1) (drop (i + 1) xs) z).nodes) g ∙ ap (λ z. (each_from step i z now).nodes) (sym d) ∙ s.nodes;
    }

pub each_from_value : {A C : Type 0} (step : ℕ → A → Make C) (xs : List A) (old : List Node) (i : ℕ) (so_far : List C) (now : List Node) → length xs ≤ i →
    EachFrom step xs old i so_far now → so_far ≡ (each_from step 0 xs old).value
each_from_value step xs old i so_far now l s =
    sym (append-nil so_far) ∙ ap (λ z. so_far ++ (each_from step i z now).value) (sym (drop_all i xs l)) ∙ s.value

pub each_from_nodes : {A C : Type 0} (step : ℕ → A → Make C) (xs : List A) (old : List Node) (i : ℕ) (so_far : List C) (now : List Node) → length xs ≤ i →
    EachFrom step xs old i so_far now → now ≡ (each_from step 0 xs old).nodes
each_from_nodes step xs old i so_far now l s = ap (λ z. (each_from step i z now).nodes) (sym (drop_all i xs l)) ∙ s.nodes

-- what has been reached, and what the rest will make of it
pub record FoldTwo {S A B : Type 0} (step : S → A → B → Make S) (first : S) (xs : List A) (ys : List B) (old : List Node) (i : ℕ) (so_far : S)
    (now : List Node) : Type 0 where
  pub value : (fold_two step so_far (drop i xs) (drop i ys) now).value ≡ (fold_two step first xs ys old).value
  pub nodes : (fold_two step so_far (drop i xs) (drop i ys) now).nodes ≡ (fold_two step first xs ys old).nodes

pub fold_two_goes : {S A B : Type 0} (step : S → A → B → Make S) (first : S) (xs : List A) (ys : List B) (old : List Node) (i : ℕ) (so_far : S)
    (now : List Node) (x dx : A) (y dy : B) (c : S) (next : List Node) →
    i < length xs → i < length ys → x ≡ get_or xs i dx → y ≡ get_or ys i dy → next ≡ (step so_far x y now).nodes → c ≡ (step so_far x y now).value →
    FoldTwo step first xs ys old i so_far now → FoldTwo step first xs ys old (i + 1) c next
fold_two_goes {S} {A} {B} step first xs ys old i so_far now x dx y dy c next p q e f g h s =
    let d = rest_is xs i x dx p e in
    let b = rest_is ys i y dy q f in
    let o = step so_far x y now in
    let went : (R : Type 0) (read : Out S → R) → read (fold_two step c (drop (i + 1) xs) (drop (i + 1) ys) next) ≡ read
    (fold_two step so_far (drop i xs) (drop i ys) now) =
    λ R read. ap (λ z. read (fold_two step z (drop (i + 1) xs) (drop (i + 1) ys) next)) h
    ∙ ap (λ z. read (fold_two step o.value (drop (i + 1) xs) (drop (i + 1) ys) z)) g
    ∙ ap (λ z. read (fold_two step so_far z (y ∷ drop (i + 1) ys) now)) (sym d) ∙ ap (λ z. read (fold_two step so_far (drop i xs) z now)) (sym b) in
    record { value = went S (λ r. r.value) ∙ s.value; nodes = went (List Node) (λ r. r.nodes) ∙ s.nodes }

pub fold_two_value : {S A B : Type 0} (step : S → A → B → Make S) (first : S) (xs : List A) (ys : List B) (old : List Node) (i : ℕ) (so_far : S)
    (now : List Node) → length xs ≤ i →
    FoldTwo step first xs ys old i so_far now → so_far ≡ (fold_two step first xs ys old).value
fold_two_value step first xs ys old i so_far now l s = ap (λ z. (fold_two step so_far z (drop i ys) now).value) (sym (drop_all i xs l)) ∙ s.value

pub fold_two_nodes : {S A B : Type 0} (step : S → A → B → Make S) (first : S) (xs : List A) (ys : List B) (old : List Node) (i : ℕ) (so_far : S)
    (now : List Node) → length xs ≤ i →
    FoldTwo step first xs ys old i so_far now → now ≡ (fold_two step first xs ys old).nodes
fold_two_nodes step first xs ys old i so_far now l s = ap (λ z. (fold_two step so_far z (drop i ys) now).nodes) (sym (drop_all i xs l)) ∙ s.nodes

-- the same of one list whose items are numbered
pub record FoldFrom {S A : Type 0} (step : S → ℕ → A → Make S) (first : S) (xs : List A) (old : List Node) (i : ℕ) (so_far : S) (now : List Node) : Type 0 where
  pub value : (fold_from step so_far i (drop i xs) now).value ≡ (fold_from step first 0 xs old).value
  pub nodes : (fold_from step so_far i (drop i xs) now).nodes ≡ (fold_from step first 0 xs old).nodes

pub fold_from_goes : {S A : Type 0} (step : S → ℕ → A → Make S) (first : S) (xs : List A) (old : List Node) (i : ℕ) (so_far : S) (now : List Node)
    (x dx : A) (c : S) (next : List Node) →
    i < length xs → x ≡ get_or xs i dx → next ≡ (step so_far i x now).nodes → c ≡ (step so_far i x now).value →
    FoldFrom step first xs old i so_far now → FoldFrom step first xs old (i + 1) c next
fold_from_goes {S} {A} step first xs old i so_far now x dx c next p e g h s =
    let d = rest_is xs i x dx p e in
    let o = step so_far i x now in
    let went : (R : Type 0) (read : Out S → R) → read (fold_from step c (i + 1) (drop (i + 1) xs) next) ≡ read (fold_from step so_far i (drop i xs) now) =
    λ R read. ap (λ z. read (fold_from step z (i + 1) (drop (i + 1) xs) next)) h
    ∙ ap (λ z. read (fold_from step o.value (i + 1) (drop (i + 1) xs) z)) g ∙ ap (λ z. read (fold_from step so_far i z now)) (sym d) in
    record { value = went S (λ r. r.value) ∙ s.value; nodes = went (List Node) (λ r. r.nodes) ∙ s.nodes }

pub fold_from_value : {S A : Type 0} (step : S → ℕ → A → Make S) (first : S) (xs : List A) (old : List Node) (i : ℕ) (so_far : S) (now : List Node) →
    length xs ≤ i →
    FoldFrom step first xs old i so_far now → so_far ≡ (fold_from step first 0 xs old).value
fold_from_value step first xs old i so_far now l s = ap (λ z. (fold_from step so_far i z now).value) (sym (drop_all i xs l)) ∙ s.value

pub fold_from_nodes : {S A : Type 0} (step : S → ℕ → A → Make S) (first : S) (xs : List A) (old : List Node) (i : ℕ) (so_far : S) (now : List Node) →
    length xs ≤ i →
    FoldFrom step first xs old i so_far now → now ≡ (fold_from step first 0 xs old).nodes
fold_from_nodes step first xs old i so_far now l s = ap (λ z. (fold_from step so_far i z now).nodes) (sym (drop_all i xs l)) ∙ s.nodes

-- where the loops begin
pub each_two_begins : {A B C : Type 0} (step : A → B → Make C) (xs : List A) (ys : List B) (old : List Node) → EachTwo step xs ys old 0 [] old
each_two_begins step xs ys old = record { value = refl; nodes = refl }

pub each_from_begins : {A C : Type 0} (step : ℕ → A → Make C) (xs : List A) (old : List Node) → EachFrom step xs old 0 [] old
each_from_begins step xs old = record { value = refl; nodes = refl }

pub fold_two_begins : {S A B : Type 0} (step : S → A → B → Make S) (first : S) (xs : List A) (ys : List B) (old : List Node) →
    FoldTwo step first xs ys old 0 first old
fold_two_begins step first xs ys old = record { value = refl; nodes = refl }

pub fold_from_begins : {S A : Type 0} (step : S → ℕ → A → Make S) (first : S) (xs : List A) (old : List Node) → FoldFrom step first xs old 0 first old
fold_from_begins step first xs old = record { value = refl; nodes = refl }
