-- Terms of a width with a value, and single digits.
use Rattle.std.proofs.Common.{◌≡◌, ◌<◌, ◌==◌, ◌^◌, ℕ, zero, suc, Bool, true, false, not, ◌&&◌, ◌||◌, if◌then◌else◌, List, refl, ap, ◌∙◌, subst, arith}
use Rattle.ygg_value.specs.Number.{Number, IsWord}
use Rattle.ygg_value.specs.Words.{word, apply_to, not_of, bit_of}
use Rattle.ygg_value.specs.declared.operation.Op.TheVariants.{And, Or}
use Rattle.ygg_rules.specs.declared.rule.RuleKind.{RuleKind}
use Rattle.ygg_bank.proofs.Made.{made_grows, made_width}
use Rattle.ygg_bank.proofs.Meaning.{fits_fewer, made_gives}
use Rattle.ygg_bank.specs.Making.{made}
use Rattle.ygg_bank.specs.Nodes.{widths_of, node_width, HasWidth, CanMake}
use Rattle.ygg_bank.specs.Values.{Inputs, Values, Fits, node_value}
use Rattle.ygg_bank.specs.declared.node.Id.{Id}
use Rattle.ygg_bank.specs.declared.node.Node.{Node}

module _ (inputs : Inputs) (v : Values) where
  -- a term of this width that has this value
  pub record TermIs (nodes : List Node) (w : ℕ) (want : Number) (a : Id) : Type 0 where
    pub wide : HasWidth nodes a w
    pub is : v a.0 ≡ want

  -- whether the term is 1
  abbrev pub holds : Id → Bool
  holds t = (v t.0).bits == 1

  -- whether the terms have one number
  abbrev pub equal : Id → Id → Bool
  equal a b = (v a.0).bits == (v b.0).bits

  pub made_is : (kinds : List RuleKind) (n : Node) (nodes : List Node) → CanMake nodes n → Fits inputs v (made kinds n nodes).nodes →
      TermIs (made kinds n nodes).nodes (node_width (widths_of nodes) n) (node_value inputs v n) (made kinds n nodes).value
  made_is kinds n nodes c h =
      let f = fits_fewer inputs v nodes (made kinds n nodes).nodes (made_grows kinds n nodes) h in
      record { wide = made_width kinds n nodes f.ordered c; is = made_gives inputs v kinds n nodes c h }

digit_bits : (k : ℕ) → k < 2 → k ≡ bit_of (k == 1)
digit_bits zero l = refl
digit_bits (suc zero) l = refl
digit_bits (suc (suc k)) l = absurd (omega arith)

pub bit_is : (c : Bool) → (bit_of c == 1) ≡ c
bit_is true = refl
bit_is false = refl

-- the number of one of two words
pub number_if : (c : Bool) (x y : Number) → (if c then x else y).bits ≡ (if c then x.bits else y.bits)
number_if true x y = refl
number_if false x y = refl

-- one of two that are the same
pub either : {X : Type 0} (c : Bool) (x : X) → x ≡ (if c then x else x)
either true x = refl
either false x = refl

-- a word of width 1 is a single digit
pub digit_is : (n : Number) → IsWord n → n.width ≡ 1 → n ≡ word 1 (bit_of (n.bits == 1))
digit_is n h e =
    let l : n.bits < 2 ^ 1 = subst (λ w. n.bits < 2 ^ w) e h.fits in
    ap (λ w. word w n.bits) e ∙ ap (word 1) (digit_bits n.bits l)

pub term_digit : (inputs : Inputs) (v : Values) (nodes : List Node) (t : Id) → Fits inputs v nodes → HasWidth nodes t 1 →
    v t.0 ≡ word 1 (bit_of (holds inputs v t))
term_digit inputs v nodes t h d = digit_is (v t.0) (h.words t.0) (h.widths t.0 1 d)

pub not_digit : (c : Bool) → not_of (word 1 (bit_of c)) ≡ word 1 (bit_of (not c))
not_digit true = refl
not_digit false = refl

pub or_digits : (c d : Bool) → apply_to Or (word 1 (bit_of c)) (word 1 (bit_of d)) ≡ word 1 (bit_of (c || d))
or_digits true true = refl
or_digits true false = refl
or_digits false true = refl
or_digits false false = refl

pub and_digits : (c d : Bool) → apply_to And (word 1 (bit_of c)) (word 1 (bit_of d)) ≡ word 1 (bit_of (c && d))
and_digits true true = refl
and_digits true false = refl
and_digits false true = refl
and_digits false false = refl

pub pick_digits : (c d e : Bool) → (if c then word 1 (bit_of d) else word 1 (bit_of e)) ≡ word 1 (bit_of (if c then d else e))
pick_digits true d e = refl
pick_digits false d e = refl
