-- What the arms of the walk through picks answer is what its definition says.
use Rattle.std.proofs.Common.{◌≡◌, ◌<◌, ◌-◌, ℕ, zero, suc, Bool, Result, Ok, Err, OnOk, IfOk, List, refl, sym, ap, ◌∙◌, subst, arith}
use Rattle.ygg_rules.specs.declared.rule.RuleKind.{RuleKind}
use Rattle.ygg_bank.proofs.Exist.{values_fit}
use Rattle.ygg_bank.proofs.Widths.{has_width}
use Rattle.ygg_bank.specs.Makes.{Make, Out, pure, and_make}
use Rattle.ygg_bank.specs.Nodes.{width_at, widths_of, IsBank, Stands}
use Rattle.ygg_bank.specs.Values.{value_of}
use Rattle.ygg_bank.specs.declared.node.Id.{Id}
use Rattle.ygg_bank.specs.declared.node.Node.{Node}
use Rattle.ygg_shape_words.specs.Picking.{picked}
use Rattle.ygg_shape_words.proofs.Givens.{given_is}
use Rattle.ygg_shape_words.specs.Giving.{Pruned, IsGiven, IsPruned, way_on, given_as, given_within, given}
use Rattle.ygg_shape_words.specs.declared.giving.Further.{Further}
use Rattle.ygg_shape_words.specs.declared.giving.Further.TheVariants.{Whole, Side, Both}

-- what an answer is, from what it was said to be
pub if_ok : {A E : Type 0} {P Q : A → Type 0} (r : Result A E) → IfOk r P → ((a : A) → P a → Q a) → IfOk r Q
if_ok (Ok a) p f = f a p
if_ok (Err e) p f = tt

-- a step was made, and goes on
goes : {A B : Type 0} (m : Make A) (f : A → Make B) (nodes new : List Node) (a : A) → new ≡ (m nodes).nodes → a ≡ (m nodes).value → f a new ≡ and_make m f nodes
goes m f nodes new a e g = ap (λ z. f z new) g ∙ ap (f (m nodes).value) e

module _ (kinds : List RuleKind) (t : Id) (on : Bool) where
  within_zero : (fuel : ℕ) (a : Id) (nodes : List Node) → given_within kinds t on zero fuel a nodes ≡ pure (record { term = a; fuel = fuel }) nodes
  unfolding given_within
  within_zero fuel a nodes = refl

  within_more : (depth fuel : ℕ) (a : Id) (nodes : List Node) → 0 < depth →
      given_within kinds t on depth fuel a nodes ≡ given_as kinds (given_within kinds t on (depth - 1)) fuel a (way_on nodes t on fuel a) nodes
  unfolding given_within
  within_more zero fuel a nodes l = absurd (omega arith)
  within_more (suc depth) fuel a nodes l =
      let e : depth ≡ suc depth - 1 = omega arith in ap (λ z. given_as kinds (given_within kinds t on z) fuel a (way_on nodes t on fuel a) nodes) e

  -- an answer, from the equation of the whole
  from_out : (m : Make Pruned) (old new : List Node) (term : Id) (fuel : ℕ) →
      (let o : Out Pruned = record { value = record { term = term; fuel = fuel }; nodes = new } in o) ≡ m old → IsPruned m old new term fuel
  from_out m old new term fuel e = record { nodes = ap (λ (o : Out Pruned). o.nodes) e; value = ap (λ (o : Out Pruned). o.value) e }

  -- with a form
  formed : (depth fuel : ℕ) (a : Id) (nodes : List Node) (f : Further) → 0 < depth → f ≡ way_on nodes t on fuel a →
      given_as kinds (given_within kinds t on (depth - 1)) fuel a f nodes ≡ given_within kinds t on depth fuel a nodes
  formed depth fuel a nodes f l e =
      ap (λ z. given_as kinds (given_within kinds t on (depth - 1)) fuel a z nodes) e ∙ sym (within_more depth fuel a nodes l)

  pub zero_answer : (depth fuel : ℕ) (a : Id) (nodes : List Node) → depth ≡ 0 → IsPruned (given_within kinds t on depth fuel a) nodes nodes a fuel
  zero_answer depth fuel a nodes d =
      from_out (given_within kinds t on depth fuel a) nodes nodes a fuel (sym (within_zero fuel a nodes) ∙ ap (λ z. given_within kinds t on z fuel a nodes) (sym d))

  pub whole_answer : (depth fuel : ℕ) (a : Id) (nodes : List Node) → 0 < depth → Whole ≡ way_on nodes t on fuel a →
      IsPruned (given_within kinds t on depth fuel a) nodes nodes a fuel
  whole_answer depth fuel a nodes l e = from_out (given_within kinds t on depth fuel a) nodes nodes a fuel (formed depth fuel a nodes Whole l e)

  pub side_answer : (depth fuel f0 f1 : ℕ) (a b r : Id) (old new : List Node) → 0 < depth → Side b ≡ way_on old t on fuel a → f0 ≡ fuel - 1 →
      IsPruned (given_within kinds t on (depth - 1) f0 b) old new r f1 → IsPruned (given_within kinds t on depth fuel a) old new r f1
  side_answer depth fuel f0 f1 a b r old new l e g h =
      let m = given_within kinds t on depth fuel a in
      let s : given_within kinds t on (depth - 1) f0 b old ≡ m old =
      ap (λ z. given_within kinds t on (depth - 1) z b old) g ∙ formed depth fuel a old (Side b) l e in
      record { nodes = h.nodes ∙ ap (λ (o : Out Pruned). o.nodes) s; value = h.value ∙ ap (λ (o : Out Pruned). o.value) s }

  pub both_answer : (depth fuel f0 f1 f2 : ℕ) (a u x y r1 r2 r : Id) (old n1 n2 new : List Node) → 0 < depth → Both u x y ≡ way_on old t on fuel a →
      f0 ≡ fuel - 1 → IsPruned (given_within kinds t on (depth - 1) f0 x) old n1 r1 f1 → IsPruned (given_within kinds t on (depth - 1) f1 y) n1 n2 r2 f2 →
      new ≡ (picked kinds u r1 r2 n2).nodes → r ≡ (picked kinds u r1 r2 n2).value → IsPruned (given_within kinds t on depth fuel a) old new r f2
  both_answer depth fuel f0 f1 f2 a u x y r1 r2 r old n1 n2 new l e g h k p q =
      let step = given_within kinds t on (depth - 1) in
      let last : Pruned → Id → Make Pruned = λ two r. pure (record { term = r; fuel = two.fuel }) in
      let second : Pruned → Pruned → Make Pruned = λ one two. and_make (picked kinds u one.term two.term) (last two) in
      let first : Pruned → Make Pruned = λ one. and_make (step one.fuel y) (second one) in
      let one : Pruned = record { term = r1; fuel = f1 } in
      let two : Pruned = record { term = r2; fuel = f2 } in
      from_out (given_within kinds t on depth fuel a) old new r f2
      (goes (picked kinds u r1 r2) (last two) n2 new r p q
      ∙ goes (step f1 y) (second one) n1 n2 two k.nodes k.value
      ∙ goes (step f0 x) first old n1 one h.nodes h.value
      ∙ ap (λ z. and_make (step z x) first old) g
      ∙ formed depth fuel a old (Both u x y) l e)

-- what the public call says of its answer
pub given_value : {E : Type 0} (kinds : List RuleKind) (t : Id) (on : Bool) (a : Id) (old new : List Node) (r : Result Id E) → IsBank new → Stands old a →
    OnOk r (new ≡ (given kinds t on a old).nodes) → IfOk r (λ answer. answer ≡ (given kinds t on a old).value) → IfOk r (IsGiven new t on a)
given_value kinds t on a old new (Ok answer) k s e g =
    let o = given kinds t on a old in
    let c = subst IsBank e k in
    subst (λ z. IsGiven z t on a answer) (sym e) (subst (IsGiven o.nodes t on a) (sym g) (λ inputs fit h.
    let m = given_is inputs (value_of inputs o.nodes) kinds t on a (width_at (widths_of old) a) old (has_width old a s)
    (values_fit inputs o.nodes c.ordered fit) in m.is h))
given_value kinds t on a old new (Err x) k s e g = tt
