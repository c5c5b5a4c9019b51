-- Picks that are given, by place.
use Rattle.std.proofs.Common.{◌≡◌, ◌≤◌, ◌<◌, ◌+◌, ◌-◌, ℕ, zero, suc, Bool, false, List, [], ◌∷◌, length, get_or, take, drop, refl, sym, ap, ◌∙◌, arith}
use Rattle.ygg_value.specs.Words.{word, bit_of}
use Rattle.ygg_sym_runs.specs.ygg_meaning_laws.Acts.{next_of}
use Rattle.ygg_sym_runs.specs.ygg_meaning_laws.Places.{left_after}
use Rattle.ygg_sym_runs.specs.ygg_rules.declared.rule.RuleKind.{RuleKind}
use Rattle.ygg_sym_runs.specs.ygg_bank.Making.{made}
use Rattle.ygg_sym_runs.specs.ygg_bank.declared.node.Node.TheVariants.{Const, Input}
use Rattle.ygg_sym_runs.specs.Specs.{given_pick, input_pick}
use Rattle.ygg_sym_spec.specs.Picking.{bit_in}
use mathlib.Core.Path.{fun_ext}

past_end : (i : ℕ) → left_after i [] ≡ []
past_end zero = refl
past_end (suc i) = past_end i

bit_past_end : (i : ℕ) → false ≡ bit_in i []
bit_past_end zero = refl
bit_past_end (suc i) = bit_past_end i

pub bit_there : (i : ℕ) (bits : List Bool) (b d : Bool) → i < length bits → b ≡ get_or bits i d → b ≡ bit_in i bits
bit_there i [] b d l e = absurd (omega arith)
bit_there zero (x ∷ bits) b d l e = e
bit_there (suc i) (x ∷ bits) b d l e = bit_there i bits b d (omega arith) e

pub bit_past : (i : ℕ) (bits : List Bool) → length bits ≤ i → false ≡ bit_in i bits
bit_past i [] l = bit_past_end i
bit_past zero (x ∷ bits) l = absurd (omega arith)
bit_past (suc i) (x ∷ bits) l = bit_past i bits (omega arith)

take_all : (n : ℕ) (bits : List Bool) → n ≡ length bits → take n bits ≡ bits
take_all zero [] e = refl
take_all (suc n) [] e = refl
take_all zero (x ∷ bits) e = absurd (omega arith)
take_all (suc n) (x ∷ bits) e = ap (λ z. x ∷ z) (take_all n bits (omega arith))

-- what is left after so many picks
pub left_taken : (i n : ℕ) (bits : List Bool) → n ≡ length bits - i → take n (drop i bits) ≡ left_after i bits
left_taken zero n bits e = take_all n bits (omega arith)
left_taken (suc i) zero [] e = sym (past_end i)
left_taken (suc i) (suc n) [] e = sym (past_end i)
left_taken (suc i) n (x ∷ bits) e = left_taken i n bits (omega arith)

pub left_none : (i : ℕ) (bits : List Bool) → length bits ≤ i → [] ≡ left_after i bits
left_none i [] l = sym (past_end i)
left_none zero (x ∷ bits) l = absurd (omega arith)
left_none (suc i) (x ∷ bits) l = left_none i bits (omega arith)

-- after so many and then so many more
left_more : (n k m : ℕ) (bits : List Bool) → m ≡ n + k → left_after k (left_after n bits) ≡ left_after m bits
left_more zero k m bits e = let f : k ≡ m = omega arith in ap (λ i. left_after i bits) f
left_more (suc n) k zero bits e = absurd (omega arith)
left_more (suc n) k (suc m) [] e = left_more n k m [] (omega arith)
left_more (suc n) k (suc m) (x ∷ bits) e = left_more n k m bits (omega arith)

-- the picks of what is left are the later picks
pub given_more : (kinds : List RuleKind) (n k : ℕ) (given rest : List Bool) → rest ≡ left_after n given →
    given_pick kinds rest k ≡ given_pick kinds given (n + k)
given_more kinds n k given rest e =
    ap (λ z. made kinds (Const (word 1 (bit_of (next_of false (left_after k z)))))) e
    ∙ ap (λ z. made kinds (Const (word 1 (bit_of (next_of false z))))) (left_more n k (n + k) given refl)

-- and the inputs from a number on are those from another on, so many places later
pub inputs_later : (kinds : List RuleKind) (first place number : ℕ) → number ≡ first + place →
    input_pick kinds number ≡ (λ k. input_pick kinds first (place + k))
inputs_later kinds first place number e =
    fun_ext (λ k. let f : number + k ≡ first + (place + k) = omega arith in ap (λ n. made kinds (Input n 1)) f)
