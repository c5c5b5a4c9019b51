-- The two words that are equal where a sum is 0.
use Rattle.std.specs.Prelude.{ℕ, Bool, true, false, ◌%◌, ◌^◌, ◌==◌, nat_le, if◌then◌else◌, List, [], ◌∷◌}
use Rattle.ygg_value.specs.Words.{word, apply_to}
use Rattle.ygg_value.specs.declared.operation.Op.TheVariants.{Add, Sub, Mul}
use Rattle.ygg_shape_words.specs.ygg_rules.declared.rule.RuleKind.{RuleKind}
use Rattle.ygg_shape_words.specs.ygg_bank.Makes.{Make, pure, and_make}
use Rattle.ygg_shape_words.specs.ygg_bank.Making.{made}
use Rattle.ygg_shape_words.specs.ygg_bank.declared.node.Id.{Id}
use Rattle.ygg_shape_words.specs.ygg_bank.declared.node.Node.TheVariants.{Const, Bin}
use Rattle.ygg_shape_words.specs.Same.{same_words}
use Rattle.ygg_shape_sums.specs.Parts.{Sum}
use Rattle.ygg_shape_sums.specs.declared.parts.Summand.{Summand}

-- the number that with this one makes 0, at a width
abbrev pub opposite : ℕ → ℕ → ℕ
opposite w n = (apply_to Sub (word w 0) (word w n)).bits

-- how often what is there n times stands on a side: on the first, or its opposite on the second, whichever is less
abbrev pub share : ℕ → Bool → ℕ → ℕ
share w second k =
    let n = k % 2 ^ w in
    let m = opposite w n in
    if nat_le n m then (if second then 0 else n) else (if second then m else 0)

-- a term so many times, added to a word
abbrev pub more : List RuleKind → ℕ → ℕ → Id → Id → Make Id
more kinds w n x a =
    if n == 0 then pure a
    else if n == 1 then made kinds (Bin Add a x)
    else and_make (made kinds (Const (word w n))) (λ k. and_make (made kinds (Bin Mul x k)) (λ m. made kinds (Bin Add a m)))

-- the terms of a side, added to a word
abbrev pub all_more : List RuleKind → ℕ → Bool → List Summand → Id → Make Id
all_more kinds w second [] a = pure a
all_more kinds w second (p ∷ ps) a = and_make (more kinds w (share w second p.times) p.term a) (all_more kinds w second ps)

-- a side: its terms, and its number
abbrev pub side : List RuleKind → ℕ → Bool → Sum → Make Id
side kinds w second s =
    and_make (made kinds (Const (word w 0))) (λ zero. and_make (all_more kinds w second s.parts zero)
    (λ a. and_make (made kinds (Const (word w (share w second s.number)))) (λ k. made kinds (Bin Add a k))))

-- whether the sum is 0
abbrev pub vanishes : List RuleKind → ℕ → Sum → Make Id
vanishes kinds w s = and_make (side kinds w false s) (λ one. and_make (side kinds w true s) (λ two. same_words kinds one two))
