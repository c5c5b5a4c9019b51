-- Words that are to be numbers.
use Rattle.std.proofs.Common.{◌≡◌, ◌<◌, ◌^◌, ℕ, List, Some, Result, Ok, Err, refl, sym, ap, subst, ◌∙◌, arith}
use Rattle.std.specs.Str.{IsAscii, IsUtf8}
use Rattle.std.specs.Str.Parse.{ParsesUnsigned}
use Rattle.std.proofs.lemmas.Str.{IsUtf8-from_ascii}
use Rattle.std.proofs.lemmas.Fmt.{parse-decimal, IsAscii-decimal}
use Rattle.std.specs.Fmt.{decimal}

-- a number's digits are a text
pub is_text : (word : List ℕ) (n : ℕ) → n < 2 ^ 32 → word ≡ decimal n → IsUtf8 word
is_text word n small e = IsUtf8-from_ascii word (subst IsAscii (sym e) (IsAscii-decimal n (omega (arith, small))))

-- and are parsed as that number
given : (word text : List ℕ) (n : ℕ) (r : Result ℕ ℕ) → n < 2 ^ 32 → word ≡ decimal n → text ≡ word → ParsesUnsigned {E = ℕ} 32 10 text r → r ≡ Ok n
given word text n r small e same h = parse-decimal 32 n text r small (omega (arith, small)) (same ∙ e) h

one_number : (a b : ℕ) (r : Result ℕ ℕ) → r ≡ Ok a → r ≡ Ok b → Some a ≡ Some b
one_number a b r e f = let s : a ≡ b = cc in ap (λ k. Some k) s

no_number : (x b : ℕ) (r : Result ℕ ℕ) → r ≡ Err x → r ≡ Ok b → ⊥
no_number x b r e f = absurd (cc)

pub parsed : (word text : List ℕ) (n number : ℕ) → n < 2 ^ 32 → word ≡ decimal n → text ≡ word → ParsesUnsigned {E = ℕ} 32 10 text (Ok number) →
    Some number ≡ Some n
parsed word text n number small e same h = let r : Result ℕ ℕ = Ok number in one_number number n r refl (given word text n r small e same h)

pub unparsed : (word text : List ℕ) (n : ℕ) → n < 2 ^ 32 → word ≡ decimal n → text ≡ word → ParsesUnsigned {E = ℕ} 32 10 text (Err 0) → ⊥
unparsed word text n small e same h = let r : Result ℕ ℕ = Err 0 in no_number 0 n r refl (given word text n r small e same h)
