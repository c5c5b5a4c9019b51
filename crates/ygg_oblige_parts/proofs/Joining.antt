-- Terms of one digit.
use Rattle.std.proofs.Common.{◌≡◌, ◌<◌, ◌+◌, ℕ, List, ◌∷◌, length, drop, get_or, refl, sym, ap, ◌∙◌, arith}
use Rattle.ygg_value.specs.Number.{IsWord}
use Rattle.ygg_value.specs.Words.{word, result_width, CanApply}
use Rattle.ygg_value.specs.declared.operation.Op.{Op}
use Rattle.ygg_value.specs.declared.operation.Op.TheVariants.{Add, Sub, Mul, And, Or, Xor, Shl, Shr, Eq, Ne, Lt, Le, Gt, Ge, Imp}
use Rattle.ygg_sym_spec.specs.ygg_rules.declared.rule.RuleKind.{RuleKind}
use Rattle.ygg_sym_spec.specs.ygg_bank.Making.{made}
use Rattle.ygg_sym_spec.specs.ygg_bank.declared.node.Node.TheVariants.{Bin, Not}
use Rattle.ygg_sym_spec.proofs.Left.{rest_is}
use Rattle.ygg_oblige_laws.specs.ygg_shape.declared.replacing.Replacement.{Replacement}
use Rattle.ygg_oblige_laws.specs.Implied.{implied_made}
use Rattle.ygg_oblige_laws.specs.TermStates.{known_made}
use Rattle.ygg_sym_spec.specs.ygg_bank_proofs_Widths.{width_is, stands}
use Rattle.ygg_sym_spec.specs.ygg_bank.Nodes.{CanBin, HasWidth, widths_of, width_at}
use Rattle.ygg_sym_spec.specs.ygg_bank.declared.node.Id.{Id}
use Rattle.ygg_sym_spec.specs.ygg_bank.declared.node.Node.{Node}

-- the word of a bit
pub bit_word : (n : ℕ) → n < 2 → IsWord (word 1 n)
bit_word n l = record { least = omega arith; most = omega arith; fits = omega arith }

-- every operation takes two digits
digits_apply : (op : Op) (w u : ℕ) → w ≡ 1 → u ≡ 1 → CanApply op (word w 0) (word u 0)
digits_apply Shl w u e f = tt
digits_apply Shr w u e f = tt
digits_apply Imp w u e f = (e, f)
digits_apply Add w u e f = e ∙ sym f
digits_apply Sub w u e f = e ∙ sym f
digits_apply Mul w u e f = e ∙ sym f
digits_apply And w u e f = e ∙ sym f
digits_apply Or w u e f = e ∙ sym f
digits_apply Xor w u e f = e ∙ sym f
digits_apply Eq w u e f = e ∙ sym f
digits_apply Ne w u e f = e ∙ sym f
digits_apply Lt w u e f = e ∙ sym f
digits_apply Le w u e f = e ∙ sym f
digits_apply Gt w u e f = e ∙ sym f
digits_apply Ge w u e f = e ∙ sym f

-- and gives one
digit_wide : (op : Op) → result_width op 1 ≡ 1
digit_wide Add = refl
digit_wide Sub = refl
digit_wide Mul = refl
digit_wide And = refl
digit_wide Or = refl
digit_wide Xor = refl
digit_wide Shl = refl
digit_wide Shr = refl
digit_wide Eq = refl
digit_wide Ne = refl
digit_wide Lt = refl
digit_wide Le = refl
digit_wide Gt = refl
digit_wide Ge = refl
digit_wide Imp = refl

pub can_join : (nodes : List Node) (op : Op) (a b : Id) → HasWidth nodes a 1 → HasWidth nodes b 1 → CanBin nodes op a b
can_join nodes op a b p q = record {
  one = stands nodes a 1 p;
  two = stands nodes b 1 q;
  widths = digits_apply op (width_at (widths_of nodes) a) (width_at (widths_of nodes) b) (width_is nodes a 1 p) (width_is nodes b 1 q);
}

pub joined_width : (nodes : List Node) (op : Op) (a : Id) → HasWidth nodes a 1 → result_width op (width_at (widths_of nodes) a) ≡ 1
joined_width nodes op a p = ap (result_width op) (width_is nodes a 1 p) ∙ digit_wide op

-- a test that is implied by another, step by step
pub implied_from : (kinds : List RuleKind) (a b other broken : Id) (old one two : List Node) → other ≡ (made kinds (Not b) old).value →
    one ≡ (made kinds (Not b) old).nodes → broken ≡ (made kinds (Bin And a other) one).value → two ≡ (made kinds (Bin And a other) one).nodes →
    made kinds (Not broken) two ≡ implied_made kinds a b old
implied_from kinds a b other broken old one two p q r s = cc

-- one input more that is known, before those that were joined
pub known_more : (kinds : List RuleKind) (rs : List Replacement) (old : List Node) (i j : ℕ) (r d : Replacement) (same known : Id) (now next : List Node) →
    i < length rs → j ≡ i + 1 → r ≡ get_or rs i d → now ≡ (known_made kinds (drop j rs) old).nodes → known ≡ (known_made kinds (drop j rs) old).value →
    same ≡ (made kinds (Bin Eq r.input r.term) now).value → next ≡ (made kinds (Bin Eq r.input r.term) now).nodes →
    made kinds (Bin And same known) next ≡ known_made kinds (drop i rs) old
known_more kinds rs old i j r d same known now next l e f p q s t =
    let rest = rest_is rs i r d l f in
    let so : made kinds (Bin And same known) next ≡ known_made kinds (r ∷ drop j rs) old = cc in
    so ∙ ap (λ k. known_made kinds (r ∷ drop k rs) old) e ∙ ap (λ z. known_made kinds z old) (sym rest)
