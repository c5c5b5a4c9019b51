-- Pieces of bytes, one after the other.
use Rattle.std.proofs.Common.{◌≡◌, ℕ, ◌+◌, ◌<◌, Bool, true, false, List, [], ◌∷◌, length, Bor, Option, Some, None, refl, ap, ◌∙◌, arith, add-one}
use Rattle.std.specs.Prelude.{◌==◌, ◌&&◌, not, if◌then◌else◌, IfSome}
use Rattle.std.specs.Option.{option_copied}
use Rattle.std.proofs.lemmas.Bool.Decides.{nat_tests}
use Rattle.ygg_sched.specs.Words.{cut_at, parts, is_empty}
use Rattle.ygg_sched.proofs.Cutting.{parts_cut}
use Rattle.ygg_script.specs.Names.{is_name, are_words, name_first, call_in}
use Rattle.ygg_script.specs.Left.{pieces_left}
use Rattle.ygg_script.specs.Reading.{pieces_of, is_last, is_nothing}

-- the first piece ends where bytes are cut
pub pieces_cut : (mark : ℕ) (bytes : List ℕ) → parts mark bytes ≡ (cut_at mark bytes).0 ∷ pieces_left mark (cut_at mark bytes).1
pieces_cut mark bytes = parts_cut mark bytes

-- the pieces of bytes that are cut so
pub cut_pieces : (mark : ℕ) (bytes first : List ℕ) (others : Option (List ℕ)) → cut_at mark bytes ≡ (first, others) →
    parts mark bytes ≡ first ∷ pieces_left mark others
cut_pieces mark bytes first others cut =
    pieces_cut mark bytes ∙ ap (λ (x : List ℕ × Option (List ℕ)). x.0 ∷ pieces_left mark x.1) cut

-- how much may be left
abbrev pub left_length : Option (Bor (List ℕ)) → ℕ
left_length None = 0
left_length (Some bytes) = length bytes.now + 1

-- less is left after a piece
pub less_left : (left others : Option (Bor (List ℕ))) (more : Bor (List ℕ)) → left ≡ Some more →
    IfSome others (λ rest. length rest.now < length more.now) → left_length others < left_length left
less_left left None more is shorter = rw is (omega arith)
less_left left (Some rest) more is shorter = rw is (omega arith)

-- there is a first piece
pub some_piece : (bytes : List ℕ) → is_last (pieces_of bytes) ≡ false
some_piece bytes = rw (pieces_cut 10 bytes) refl

nothing_before : (piece : List ℕ) (bytes : List ℕ) → is_nothing (piece ∷ parts 10 bytes) ≡ false
nothing_before piece bytes = rw (pieces_cut 10 bytes) refl

-- no bytes are one piece without bytes
pub nothing_is : (bytes : List ℕ) → is_nothing (pieces_of bytes) ≡ is_empty bytes
nothing_is [] = refl
nothing_is (b ∷ bytes) = by_test (b == 10) refl
  where
    by_rest : (rest : Option (List ℕ)) → is_nothing ((b ∷ (cut_at 10 bytes).0) ∷ pieces_left 10 rest) ≡ false
    by_rest None = refl
    by_rest (Some more) = nothing_before (b ∷ (cut_at 10 bytes).0) more

    by_test : (test : Bool) → (b == 10) ≡ test → is_nothing (pieces_of (b ∷ bytes)) ≡ false
    by_test true e = rw (pieces_cut 10 (b ∷ bytes), e) (nothing_before [] bytes)
    by_test false e = rw (pieces_cut 10 (b ∷ bytes), e) (by_rest (cut_at 10 bytes).1)

-- what the test of an empty slice says
pub empty_is : (bytes : List ℕ) → (length bytes == 0) ≡ is_empty bytes
empty_is [] = refl
empty_is (b ∷ bytes) = let some : (length bytes + 1 == 0) ≡ false = grind (arith, nat_tests) in rw (← add-one) some

-- the words of what is left, where its first piece is taken off
pub words_on : (left : Option (Bor (List ℕ))) (more : Bor (List ℕ)) (first : List ℕ) (others : Option (List ℕ)) → left ≡ Some more →
    cut_at 32 more.now ≡ (first, others) → are_words (pieces_left 32 (option_copied left)) ≡ (not (is_empty first) && are_words (pieces_left 32 others))
words_on left more first others is cut =
    ap (λ (o : Option (Bor (List ℕ))). are_words (pieces_left 32 (option_copied o))) is ∙ ap are_words (cut_pieces 32 more.now first others cut)

-- where a word is empty, and where it isn't
pub word_empty : (first : List ℕ) (others : Bool) → is_empty first ≡ true → (not (is_empty first) && others) ≡ false
word_empty first others e = rw e refl

pub word_there : (first : List ℕ) (others : Bool) → is_empty first ≡ false → (not (is_empty first) && others) ≡ others
word_there first others e = rw e refl

-- a choice by two tests
pub both : {A : Type 0} (a b : Bool) (x y : A) → a ≡ true → b ≡ true → (if a && b then x else y) ≡ x
both a b x y p q = rw (p, q) refl

pub first_fails : {A : Type 0} (a b : Bool) (x y : A) → a ≡ false → (if a && b then x else y) ≡ y
first_fails a b x y p = rw p refl

pub second_fails : {A : Type 0} (a b : Bool) (x y : A) → b ≡ false → (if a && b then x else y) ≡ y
second_fails true b x y q = rw q refl
second_fails false b x y q = refl

-- what a line `call ` says, by its first word
pub call_is : (bytes first : List ℕ) (others : Option (List ℕ)) → cut_at 32 bytes ≡ (first, others) →
    call_in bytes ≡ (if is_name first && are_words (pieces_left 32 others) then Some (first, pieces_left 32 others) else None)
call_is bytes first others cut = ap name_first (cut_pieces 32 bytes first others cut)

-- a piece and what follows its mark
pub cut_next : (bytes first : List ℕ) (others : Option (Bor (List ℕ))) (more : Bor (List ℕ)) → cut_at 10 bytes ≡ (first, option_copied others) →
    others ≡ Some more → pieces_of bytes ≡ first ∷ pieces_of more.now
cut_next bytes first others more cut is =
    cut_pieces 10 bytes first (option_copied others) cut ∙ ap (λ (o : Option (Bor (List ℕ))). first ∷ pieces_left 10 (option_copied o)) is

-- without a mark the first piece is the whole
cut_whole : (bytes : List ℕ) → (cut_at 10 bytes).1 ≡ None → (cut_at 10 bytes).0 ≡ bytes
cut_whole [] e = refl
cut_whole (b ∷ bytes) e = by_test (b == 10) refl (cut_whole bytes)
  where
    by_test : (test : Bool) → (b == 10) ≡ test → ((cut_at 10 bytes).1 ≡ None → (cut_at 10 bytes).0 ≡ bytes) → (cut_at 10 (b ∷ bytes)).0 ≡ b ∷ bytes
    by_test true t whole = let h : Some bytes ≡ None = rw t at e in absurd cc
    by_test false t whole = let h : (cut_at 10 bytes).1 ≡ None = rw t at e in rw t (ap (λ (rest : List ℕ). b ∷ rest) (whole h))

pub cut_last : (bytes first : List ℕ) (others : Option (Bor (List ℕ))) → cut_at 10 bytes ≡ (first, option_copied others) →
    others ≡ None → pieces_of bytes ≡ bytes ∷ []
cut_last bytes first others cut is =
    let none : (cut_at 10 bytes).1 ≡ None =
    ap (λ (x : List ℕ × Option (List ℕ)). x.1) cut ∙ ap (λ (o : Option (Bor (List ℕ))). option_copied o) is in
    pieces_cut 10 bytes ∙ ap (λ (o : Option (List ℕ)). (cut_at 10 bytes).0 ∷ pieces_left 10 o) none
    ∙ ap (λ (piece : List ℕ). piece ∷ []) (cut_whole bytes none)
