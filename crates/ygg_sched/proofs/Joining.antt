-- Texts with a byte between them.
use Rattle.std.proofs.Common.{◌≡◌, ℕ, zero, suc, ◌+◌, ◌<◌, List, [], ◌∷◌, ◌++◌, map, length, get_or, take, refl, sym, ap, ◌∙◌, append_assoc, arith}
use Rattle.std.specs.Prelude.{unwrap_or, slice_get}
use Rattle.std.specs.List.{join_with_byte}
use Rattle.std.proofs.lemmas.Option.{unwrap_or-slice_get}
use Rattle.std.proofs.lemmas.List.{map_more}
use Rattle.ygg_value.specs.Number.{Number, Digits}
use Rattle.ygg_value.specs.Words.{word}
use Rattle.ygg_sched.specs.Numbers.{number_text}
use Rattle.ygg_sched.specs.Values.{separator, row_text}

-- one more
pub join-push : (mark : ℕ) (x : List ℕ) (xs : List (List ℕ)) (y : List ℕ) →
    join_with_byte mark ((x ∷ xs) ++ y ∷ []) ≡ join_with_byte mark (x ∷ xs) ++ mark ∷ y
join-push mark x [] y = refl
join-push mark x (z ∷ xs) y =
    ap (λ (t : List ℕ). x ++ (mark ∷ t)) (join-push mark z xs y) ∙ sym (append_assoc x (mark ∷ join_with_byte mark (z ∷ xs)) (mark ∷ y))

-- one more of what is written so
pub join_more : {X : Type 0} (mark : ℕ) (f : X → List ℕ) (xs : List X) (i : ℕ) (d : X) → i < length xs →
    join_with_byte mark (map f (take (i + 1) xs)) ≡ join_with_byte mark (map f (take i xs)) ++ (separator mark i ++ f (get_or xs i d))
join_more mark f [] i d within = absurd (omega arith)
join_more mark f (x ∷ xs) zero d within = refl
join_more mark f (x ∷ xs) (suc i) d within =
    ap (join_with_byte mark) (map_more f (x ∷ xs) (suc i) d within) ∙ join-push mark (f x) (map f (take i xs)) (f (get_or xs i d))

-- what is written next
grows : {X : Type 0} (mark : ℕ) (f : X → List ℕ) (xs : List X) (i : ℕ) (d : X) (base out text : List ℕ) → i < length xs →
    out ≡ base ++ join_with_byte mark (map f (take i xs)) → text ≡ f (get_or xs i d)
    → (out ++ separator mark i) ++ text ≡ base ++ join_with_byte mark (map f (take (i + 1) xs))
grows mark f xs i d base out text within so_far is =
    let before : List ℕ = join_with_byte mark (map f (take i xs)) in
    ap (λ (o : List ℕ). (o ++ separator mark i) ++ text) so_far
    ∙ append_assoc (base ++ before) (separator mark i) text
    ∙ append_assoc base before (separator mark i ++ text)
    ∙ ap (λ (t : List ℕ). base ++ (before ++ (separator mark i ++ t))) is
    ∙ ap (λ (t : List ℕ). base ++ t) (sym (join_more mark f xs i d within))

-- one more word of a row
pub row_grows : (base first second third : List ℕ) (width : ℕ) (ns : List ℕ) (i j k : ℕ) (w : Number) → i < length ns →
    first ≡ base ++ row_text width (take i ns) → j ≡ i → second ≡ first ++ separator 44 j → k ≡ i → w ≡ word width (unwrap_or (slice_get ns k) 0)
    → third ≡ second ++ number_text w.width w.bits → third ≡ base ++ row_text width (take (i + 1) ns)
row_grows base first second third width ns i j k w within so_far at separated place is written =
    let text : number_text w.width w.bits ≡ number_text width (get_or ns i 0) =
    ap (λ (x : Number). number_text x.width x.bits) is
    ∙ ap (number_text width) (ap (λ (x : ℕ). unwrap_or (slice_get ns x) 0) place ∙ unwrap_or-slice_get ns i 0) in
    written ∙ ap (λ (o : List ℕ). o ++ number_text w.width w.bits) (separated ∙ ap (λ (x : ℕ). first ++ separator 44 x) at)
    ∙ grows 44 (number_text width) ns i 0 base first (number_text w.width w.bits) within so_far text

-- one more row of a table
pub table_grows : (base first second third : List ℕ) (width : ℕ) (rows : List (List ℕ)) (i k : ℕ) (r : Digits) (d : List ℕ) → i < length rows →
    first ≡ base ++ join_with_byte 59 (map (row_text width) (take i rows)) → second ≡ first ++ separator 59 i → k ≡ i
    → r ≡ record { width = width; words = unwrap_or (slice_get rows k) d } → third ≡ second ++ row_text r.width r.words
    → third ≡ base ++ join_with_byte 59 (map (row_text width) (take (i + 1) rows))
table_grows base first second third width rows i k r d within so_far separated place is written =
    let text : row_text r.width r.words ≡ row_text width (get_or rows i d) =
    ap (λ (x : Digits). row_text x.width x.words) is
    ∙ ap (row_text width) (ap (λ (x : ℕ). unwrap_or (slice_get rows x) d) place ∙ unwrap_or-slice_get rows i d) in
    written ∙ ap (λ (o : List ℕ). o ++ row_text r.width r.words) separated
    ∙ grows 59 (row_text width) rows i d base first (row_text r.width r.words) within so_far text
