-- What the arms of a comparison answer is what its definition says.
use Rattle.std.proofs.Common.{◌≡◌, ◌<◌, ℕ, zero, suc, ◌-◌, List, refl, sym, ap, ◌∙◌, arith}
use Rattle.ygg_value.specs.Number.{Number}
use Rattle.ygg_value.specs.Words.{word}
use Rattle.ygg_value.specs.declared.operation.Op.TheVariants.{Eq, Or}
use Rattle.ygg_rules.specs.declared.rule.RuleKind.{RuleKind}
use Rattle.ygg_bank.specs.Makes.{Make, Out, pure, and_make}
use Rattle.ygg_bank.specs.Making.{made}
use Rattle.ygg_bank.specs.declared.node.Id.{Id}
use Rattle.ygg_bank.specs.declared.node.Node.{Node}
use Rattle.ygg_bank.specs.declared.node.Node.TheVariants.{Const, Bin}
use Rattle.ygg_shape_words.proofs.Keeps.{Step}
use Rattle.ygg_shape_words.specs.Picking.{picked}
use Rattle.ygg_shape_words.specs.Same.{SoFar, Answer, IsAnswer, spent, learned, as_is, form_at, compared_as, same_within}
use Rattle.ygg_shape_words.specs.declared.forms.Form.{Form}
use Rattle.ygg_shape_words.specs.declared.forms.Form.TheVariants as form

-- a step was made, and goes on
goes : {A B : Type 0} (m : Make A) (f : A → Make B) (nodes new : List Node) (a : A) → new ≡ (m nodes).nodes → a ≡ (m nodes).value → f a new ≡ and_make m f nodes
goes m f nodes new a e g = ap (λ z. f z new) g ∙ ap (f (m nodes).value) e

module _ (kinds : List RuleKind) where
  within_zero : (s : SoFar) (a b : Id) (nodes : List Node) →
      same_within kinds zero s a b nodes ≡ and_make (made kinds (Bin Eq a b)) (λ r. pure (as_is s r)) nodes
  unfolding same_within
  within_zero s a b nodes = refl

  within_more : (depth : ℕ) (s : SoFar) (a b : Id) (nodes : List Node) → 0 < depth →
      same_within kinds depth s a b nodes ≡ compared_as kinds (same_within kinds (depth - 1)) s a b (form_at s nodes a b) nodes
  unfolding same_within
  within_more zero s a b nodes l = absurd (omega arith)
  within_more (suc depth) s a b nodes l =
      let e : depth ≡ suc depth - 1 = omega arith in ap (λ z. compared_as kinds (same_within kinds z) s a b (form_at s nodes a b) nodes) e

  -- an answer, from the equation of the whole
  from_out : (m : Make Answer) (old new : List Node) (term : Id) (s : SoFar) →
      (let o : Out Answer = record { value = record { term = term; so_far = s }; nodes = new } in o) ≡ m old → IsAnswer m old new term s
  from_out m old new term s e = record { nodes = ap (λ (o : Out Answer). o.nodes) e; value = ap (λ (o : Out Answer). o.value) e }

  -- with a form
  formed : (depth : ℕ) (s : SoFar) (a b : Id) (nodes : List Node) (f : Form) → 0 < depth → f ≡ form_at s nodes a b →
      compared_as kinds (same_within kinds (depth - 1)) s a b f nodes ≡ same_within kinds depth s a b nodes
  formed depth s a b nodes f l e = ap (λ z. compared_as kinds (same_within kinds (depth - 1)) s a b z nodes) e ∙ sym (within_more depth s a b nodes l)

  pub zero_answer : (depth : ℕ) (s : SoFar) (a b : Id) (old new : List Node) (r : Id) → depth ≡ 0 → new ≡ (made kinds (Bin Eq a b) old).nodes →
      r ≡ (made kinds (Bin Eq a b) old).value →
      IsAnswer (same_within kinds depth s a b) old new r s
  zero_answer depth s a b old new r d e g =
      from_out (same_within kinds depth s a b) old new r s
      (goes (made kinds (Bin Eq a b)) (λ r. pure (as_is s r)) old new r e g ∙ sym (within_zero s a b old) ∙ ap (λ z. same_within kinds z s a b old) (sym d))

  pub one_answer : (depth : ℕ) (s : SoFar) (a b : Id) (old new : List Node) (r : Id) → 0 < depth → form.One ≡ form_at s old a b →
      new ≡ (made kinds (Const (word 1 1)) old).nodes → r ≡ (made kinds (Const (word 1 1)) old).value → IsAnswer (same_within kinds depth s a b) old new r s
  one_answer depth s a b old new r d f e g =
      from_out (same_within kinds depth s a b) old new r s
      (goes (made kinds (Const (word 1 1))) (λ r. pure (as_is s r)) old new r e g ∙ formed depth s a b old form.One d f)

  pub never_answer : (depth : ℕ) (s : SoFar) (a b : Id) (old new : List Node) (r : Id) → 0 < depth → form.Never ≡ form_at s old a b →
      new ≡ (made kinds (Const (word 1 0)) old).nodes → r ≡ (made kinds (Const (word 1 0)) old).value → IsAnswer (same_within kinds depth s a b) old new r s
  never_answer depth s a b old new r d f e g =
      from_out (same_within kinds depth s a b) old new r s
      (goes (made kinds (Const (word 1 0))) (λ r. pure (as_is s r)) old new r e g ∙ formed depth s a b old form.Never d f)

  pub known_answer : (depth : ℕ) (s : SoFar) (a b : Id) (old : List Node) (r : Id) → 0 < depth → form.Known r ≡ form_at s old a b →
      IsAnswer (same_within kinds depth s a b) old old r s
  known_answer depth s a b old r d f = from_out (same_within kinds depth s a b) old old r s (formed depth s a b old (form.Known r) d f)

  pub plain_answer : (depth : ℕ) (s : SoFar) (a b : Id) (old new : List Node) (r : Id) → 0 < depth → form.Plain ≡ form_at s old a b →
      new ≡ (made kinds (Bin Eq a b) old).nodes → r ≡ (made kinds (Bin Eq a b) old).value → IsAnswer (same_within kinds depth s a b) old new r s
  plain_answer depth s a b old new r d f e g =
      from_out (same_within kinds depth s a b) old new r s
      (goes (made kinds (Bin Eq a b)) (λ r. pure (as_is s r)) old new r e g ∙ formed depth s a b old form.Plain d f)

  -- two comparisons, and a step that joins them
  joined : (join : Id → Id → Make Id) (step : Step) (s s0 s1 s2 s3 : SoFar) (a b x y p q r1 r2 r : Id) (old n1 n2 new : List Node) → s0 ≡ spent s →
      IsAnswer (step s0 x y) old n1 r1 s1 → IsAnswer (step s1 p q) n1 n2 r2 s2 → new ≡ (join r1 r2 n2).nodes → r ≡ (join r1 r2 n2).value →
      s3 ≡ (learned a b s2 r).so_far →
      (let o : Out Answer = record { value = record { term = r; so_far = s3 }; nodes = new } in o)
      ≡ and_make (step (spent s) x y) (λ one. and_make (step one.so_far p q)
      (λ two. and_make (join one.term two.term) (λ r. pure (learned a b two.so_far r)))) old
  joined join step s s0 s1 s2 s3 a b x y p q r1 r2 r old n1 n2 new e h k g v l =
      let last : Answer → Answer → Id → Make Answer = λ one two r. pure (learned a b two.so_far r) in
      let second : Answer → Answer → Make Answer = λ one two. and_make (join one.term two.term) (last one two) in
      let first : Answer → Make Answer = λ one. and_make (step one.so_far p q) (second one) in
      let one : Answer = record { term = r1; so_far = s1 } in
      let two : Answer = record { term = r2; so_far = s2 } in
      ap (λ (z : SoFar). (let o : Out Answer = record { value = record { term = r; so_far = z }; nodes = new } in o)) l
      ∙ goes (join r1 r2) (last one two) n2 new r g v
      ∙ goes (step s1 p q) (second one) n1 n2 two k.nodes k.value
      ∙ goes (step s0 x y) first old n1 one h.nodes h.value
      ∙ ap (λ z. and_make (step z x y) first old) e

  pub split_answer : (depth : ℕ) (s s0 s1 s2 s3 : SoFar) (a b t x y p q r1 r2 r : Id) (old n1 n2 new : List Node) → 0 < depth →
      form.Split t x y p q ≡ form_at s old a b → s0 ≡ spent s →
      IsAnswer (same_within kinds (depth - 1) s0 x y) old n1 r1 s1 → IsAnswer (same_within kinds (depth - 1) s1 p q) n1 n2 r2 s2 →
      new ≡ (picked kinds t r1 r2 n2).nodes → r ≡ (picked kinds t r1 r2 n2).value → s3 ≡ (learned a b s2 r).so_far →
      IsAnswer (same_within kinds depth s a b) old new r s3
  split_answer depth s s0 s1 s2 s3 a b t x y p q r1 r2 r old n1 n2 new d f e h k g v l =
      from_out (same_within kinds depth s a b) old new r s3
      (joined (picked kinds t) (same_within kinds (depth - 1)) s s0 s1 s2 s3 a b x y p q r1 r2 r old n1 n2 new e h k g v l
      ∙ formed depth s a b old (form.Split t x y p q) d f)

  pub either_answer : (depth : ℕ) (s s0 s1 s2 s3 : SoFar) (a b x y p q r1 r2 r : Id) (old n1 n2 new : List Node) → 0 < depth →
      form.Either x y p q ≡ form_at s old a b → s0 ≡ spent s →
      IsAnswer (same_within kinds (depth - 1) s0 x y) old n1 r1 s1 → IsAnswer (same_within kinds (depth - 1) s1 p q) n1 n2 r2 s2 →
      new ≡ (made kinds (Bin Or r1 r2) n2).nodes → r ≡ (made kinds (Bin Or r1 r2) n2).value → s3 ≡ (learned a b s2 r).so_far →
      IsAnswer (same_within kinds depth s a b) old new r s3
  either_answer depth s s0 s1 s2 s3 a b x y p q r1 r2 r old n1 n2 new d f e h k g v l =
      from_out (same_within kinds depth s a b) old new r s3
      (joined (λ c d. made kinds (Bin Or c d)) (same_within kinds (depth - 1)) s s0 s1 s2 s3 a b x y p q r1 r2 r old n1 n2 new e h k g v l
      ∙ formed depth s a b old (form.Either x y p q) d f)

  pub against_answer : (depth : ℕ) (s s0 s1 s2 : SoFar) (a b x : Id) (k : Number) (c r : Id) (old n1 new : List Node) → 0 < depth →
      form.Against x k ≡ form_at s old a b → s0 ≡ spent s → n1 ≡ (made kinds (Const k) old).nodes → c ≡ (made kinds (Const k) old).value →
      IsAnswer (same_within kinds (depth - 1) s0 x c) n1 new r s1 → s2 ≡ (learned a b s1 r).so_far → IsAnswer (same_within kinds depth s a b) old new r s2
  against_answer depth s s0 s1 s2 a b x k c r old n1 new d f e g h i l =
      let step = same_within kinds (depth - 1) in
      let last : Answer → Make Answer = λ one. pure (learned a b one.so_far one.term) in
      let first : Id → Make Answer = λ c. and_make (step (spent s) x c) last in
      let one : Answer = record { term = r; so_far = s1 } in
      from_out (same_within kinds depth s a b) old new r s2
      (ap (λ (z : SoFar). (let o : Out Answer = record { value = record { term = r; so_far = z }; nodes = new } in o)) l
      ∙ goes (step s0 x c) last n1 new one i.nodes i.value
      ∙ ap (λ z. and_make (step z x c) last n1) e
      ∙ goes (made kinds (Const k)) first old n1 c g h
      ∙ formed depth s a b old (form.Against x k) d f)
