-- What the arms of making a node answer is what its definition says.
use Rattle.std.proofs.Common.{◌≡◌, ◌<◌, ℕ, zero, suc, ◌-◌, List, sym, ap, ◌∙◌, arith}
use Rattle.ygg_value.specs.Number.{Number}
use Rattle.ygg_shape_words.specs.ygg_rules.declared.rule.RuleKind.{RuleKind}
use Rattle.ygg_shape_words.specs.ygg_bank.Makes.{Make, Out, pure, and_make}
use Rattle.ygg_shape_words.specs.ygg_bank.Making.{made}
use Rattle.ygg_shape_words.specs.ygg_bank.declared.node.Id.{Id}
use Rattle.ygg_shape_words.specs.ygg_bank.declared.node.Node.{Node}
use Rattle.ygg_shape_words.specs.ygg_bank.declared.node.Node.TheVariants.{Const}
use Rattle.ygg_shape_words.specs.Picking.{picked}
use Rattle.ygg_shape_nodes.specs.Making.{IsMade, made_as, made_within}
use Rattle.ygg_shape_nodes.specs.Rules.{instead_of}
use Rattle.ygg_shape_nodes.specs.declared.rules.Instead.{Instead}
use Rattle.ygg_shape_nodes.specs.declared.rules.Instead.TheVariants as instead

-- a step was made, and goes on
goes : {A B : Type 0} (m : Make A) (f : A → Make B) (nodes new : List Node) (a : A) → new ≡ (m nodes).nodes → a ≡ (m nodes).value → f a new ≡ and_make m f nodes
goes m f nodes new a e g = ap (λ z. f z new) g ∙ ap (f (m nodes).value) e

module _ (kinds : List RuleKind) where
  is_made : (step : Make Id) (old new : List Node) (a : Id) → (let o : Out Id = record { value = a; nodes = new } in o) ≡ step old → IsMade step old new a
  is_made step old new a e = record { nodes = ap (λ (o : Out Id). o.nodes) e; value = ap (λ (o : Out Id). o.value) e }

  within_more : (depth : ℕ) (n : Node) (nodes : List Node) → 0 < depth →
      made_within kinds depth n nodes ≡ made_as kinds (made_within kinds (depth - 1)) n (instead_of nodes n) nodes
  unfolding made_within
  within_more zero n nodes l = absurd (omega arith)
  within_more (suc depth) n nodes l =
      let e : depth ≡ suc depth - 1 = omega arith in ap (λ z. made_as kinds (made_within kinds z) n (instead_of nodes n) nodes) e

  by_rule : (depth : ℕ) (n : Node) (nodes : List Node) (i : Instead) → 0 < depth → i ≡ instead_of nodes n →
      made_as kinds (made_within kinds (depth - 1)) n i nodes ≡ made_within kinds depth n nodes
  by_rule depth n nodes i l e = ap (λ z. made_as kinds (made_within kinds (depth - 1)) n z nodes) e ∙ sym (within_more depth n nodes l)

  pub zero_made : (depth : ℕ) (n : Node) (old new : List Node) (r : Id) → depth ≡ 0 → new ≡ (made kinds n old).nodes → r ≡ (made kinds n old).value →
      IsMade (made_within kinds depth n) old new r
  unfolding made_within
  zero_made zero n old new r d e g = record { nodes = e; value = g }
  zero_made (suc depth) n old new r d e g = absurd (omega arith)

  pub itself_made : (depth : ℕ) (n : Node) (old new : List Node) (r : Id) → 0 < depth → instead.Itself ≡ instead_of old n → new ≡ (made kinds n old).nodes →
      r ≡ (made kinds n old).value → IsMade (made_within kinds depth n) old new r
  itself_made depth n old new r l i e g =
      is_made (made_within kinds depth n) old new r (goes (made kinds n) pure old new r e g ∙ by_rule depth n old instead.Itself l i)

  pub term_made : (depth : ℕ) (n : Node) (old : List Node) (r : Id) → 0 < depth → instead.Term r ≡ instead_of old n →
      IsMade (made_within kinds depth n) old old r
  term_made depth n old r l i = is_made (made_within kinds depth n) old old r (by_rule depth n old (instead.Term r) l i)

  pub constant_made : (depth : ℕ) (n : Node) (k : Number) (old new : List Node) (r : Id) → 0 < depth → instead.Constant k ≡ instead_of old n →
      new ≡ (made kinds (Const k) old).nodes → r ≡ (made kinds (Const k) old).value → IsMade (made_within kinds depth n) old new r
  constant_made depth n k old new r l i e g =
      is_made (made_within kinds depth n) old new r (goes (made kinds (Const k)) pure old new r e g ∙ by_rule depth n old (instead.Constant k) l i)

  pub other_made : (depth : ℕ) (n m : Node) (old new : List Node) (r : Id) → 0 < depth → instead.Other m ≡ instead_of old n →
      IsMade (made_within kinds (depth - 1) m) old new r → IsMade (made_within kinds depth n) old new r
  other_made depth n m old new r l i h =
      is_made (made_within kinds depth n) old new r
      (goes (made_within kinds (depth - 1) m) pure old new r h.nodes h.value ∙ by_rule depth n old (instead.Other m) l i)

  pub split_made : (depth : ℕ) (n m k : Node) (t a b r : Id) (old n1 n2 new : List Node) → 0 < depth → instead.Split t m k ≡ instead_of old n →
      IsMade (made_within kinds (depth - 1) m) old n1 a → IsMade (made_within kinds (depth - 1) k) n1 n2 b → new ≡ (picked kinds t a b n2).nodes →
      r ≡ (picked kinds t a b n2).value → IsMade (made_within kinds depth n) old new r
  split_made depth n m k t a b r old n1 n2 new l i h j e g =
      let step = made_within kinds (depth - 1) in
      let last : Id → Id → Make Id = λ one two. picked kinds t one two in
      let first : Id → Make Id = λ one. and_make (step k) (last one) in
      is_made (made_within kinds depth n) old new r
      (goes (picked kinds t a b) pure n2 new r e g
      ∙ goes (step k) (last a) n1 n2 b j.nodes j.value
      ∙ goes (step m) first old n1 a h.nodes h.value
      ∙ by_rule depth n old (instead.Split t m k) l i)
