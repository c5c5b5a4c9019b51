-- The words of a line, one after another.
use Rattle.std.proofs.Common.{◌≡◌, ℕ, List, [], ◌∷◌, ◌++◌, refl, sym, ap, ◌∙◌, append_assoc}
use Rattle.std.specs.Prelude.{codes}
use Rattle.std.specs.Fmt.{decimal}
use Rattle.std.specs.List.{flat_map}
use Rattle.std.proofs.lemmas.List.{append-nil}
use Rattle.ygg_cnf.specs.declared.lit.Lit.{Lit}
use Rattle.ygg_cnf.specs.declared.log.Step.{Step}
use Rattle.ygg_cnf.specs.declared.log.Step.TheVariants.{Added}
use Rattle.ygg_cnf.specs.Lines.{literal_word, literal_words, number_words, step_line}
use Rattle.ygg_cnf.specs.Steps.{IsStep, HasStep}
use Rattle.ygg_cnf.specs.Spots.{GoesOn, BeginsNumbers, BeginsLiterals, numbers_then, literals_then}
use Rattle.ygg_cnf.specs.declared.spot.Spot.TheVariants as spot

-- words before others
flat_map_append : {A : Type 0} (f : A → List ℕ) (xs ys : List A) → flat_map f (xs ++ ys) ≡ flat_map f xs ++ flat_map f ys
flat_map_append f [] ys = refl
flat_map_append f (x ∷ xs) ys =
    ap (λ (z : List ℕ). f x ++ z) (flat_map_append f xs ys) ∙ sym (append_assoc (f x) (flat_map f xs) (flat_map f ys))

-- one more literal
pub literals_more : (xs : List Lit) (x : Lit) → literal_words (xs ++ x ∷ []) ≡ literal_words xs ++ literal_word x ++ 32 ∷ []
literals_more xs x =
    flat_map_append (λ (y : Lit). literal_word y ++ 32 ∷ []) xs (x ∷ [])
    ∙ ap (λ (z : List ℕ). literal_words xs ++ z) (append-nil (literal_word x ++ 32 ∷ []))
    ∙ sym (append_assoc (literal_words xs) (literal_word x) (32 ∷ []))

-- one more number
pub numbers_more : (ns : List ℕ) (n : ℕ) → number_words (ns ++ n ∷ []) ≡ number_words ns ++ decimal n ++ 32 ∷ []
numbers_more ns n =
    flat_map_append (λ (m : ℕ). decimal m ++ 32 ∷ []) ns (n ∷ [])
    ∙ ap (λ (z : List ℕ). number_words ns ++ z) (append-nil (decimal n ++ 32 ∷ []))
    ∙ sym (append_assoc (number_words ns) (decimal n) (32 ∷ []))

-- numbers and what follows them
numbers_joined : (ns after : List ℕ) → number_words ns ++ after ≡ numbers_then ns after
numbers_joined [] after = refl
numbers_joined (n ∷ ns) after =
    append_assoc (decimal n ++ 32 ∷ []) (number_words ns) after
    ∙ append_assoc (decimal n) (32 ∷ []) (number_words ns ++ after)
    ∙ ap (λ (z : List ℕ). decimal n ++ 32 ∷ z) (numbers_joined ns after)

-- literals and what follows them
literals_joined : (xs : List Lit) (after : List ℕ) → literal_words xs ++ after ≡ literals_then xs after
literals_joined [] after = refl
literals_joined (x ∷ xs) after =
    append_assoc (literal_word x ++ 32 ∷ []) (literal_words xs) after
    ∙ append_assoc (literal_word x) (32 ∷ []) (literal_words xs ++ after)
    ∙ ap (λ (z : List ℕ). literal_word x ++ 32 ∷ z) (literals_joined xs after)

-- the line of a step, and what follows it
pub line_joined : (clause : List Lit) (chain others : List ℕ)
    → step_line (Added clause chain) ++ others ≡ 99 ∷ 32 ∷ literals_then clause (48 ∷ 32 ∷ numbers_then chain (48 ∷ 10 ∷ others))
line_joined clause chain others =
    append_assoc (codes "c " ++ literal_words clause ++ codes "0 " ++ number_words chain) (codes "0\n") others
    ∙ append_assoc (codes "c " ++ literal_words clause ++ codes "0 ") (number_words chain) (48 ∷ 10 ∷ others)
    ∙ ap (λ (z : List ℕ). codes "c " ++ literal_words clause ++ codes "0 " ++ z) (numbers_joined chain (48 ∷ 10 ∷ others))
    ∙ append_assoc (codes "c " ++ literal_words clause) (codes "0 ") (numbers_then chain (48 ∷ 10 ∷ others))
    ∙ append_assoc (codes "c ") (literal_words clause) (48 ∷ 32 ∷ numbers_then chain (48 ∷ 10 ∷ others))
    ∙ ap (λ (z : List ℕ). codes "c " ++ z) (literals_joined clause (48 ∷ 32 ∷ numbers_then chain (48 ∷ 10 ∷ others)))

-- a line goes on from its beginning
pub line_goes_on : (bytes : List ℕ) → HasStep bytes → GoesOn spot.Begin bytes
line_goes_on bytes has = by_step has.step has.may has.is
  where
    by_step : (step : Step) → IsStep step → bytes ≡ step_line step ++ has.others → GoesOn spot.Begin bytes
    by_step (Added clause chain) may is =
        let numbers : BeginsNumbers (numbers_then chain (48 ∷ 10 ∷ has.others)) =
        record { numbers = chain; others = has.others; may = may.numbers; is = refl } in
        let literals : BeginsLiterals (literals_then clause (48 ∷ 32 ∷ numbers_then chain (48 ∷ 10 ∷ has.others))) =
        record { literals = clause; after = numbers_then chain (48 ∷ 10 ∷ has.others); may = may.literals; rest = numbers; is = refl } in
        let rest : List ℕ = literals_then clause (48 ∷ 32 ∷ numbers_then chain (48 ∷ 10 ∷ has.others)) in
        (32 ∷ rest, (is ∙ line_joined clause chain has.others, (rest, (refl, literals))))
