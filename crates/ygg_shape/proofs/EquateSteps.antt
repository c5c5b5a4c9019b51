-- What the code of the equality of rows answers is what the definitions say.
use Rattle.std.proofs.Common.{◌≡◌, ◌<◌, ◌≤◌, ℕ, zero, suc, ◌+◌, ◌-◌, true, false, Some, None, List, length, drop, get_or, refl, sym, ap, ◌∙◌, arith}
use Rattle.std.proofs.lemmas.List.{drop_all}
use Rattle.ygg_value.specs.Words.{word}
use Rattle.ygg_value.specs.declared.operation.Op.TheVariants.{And}
use Rattle.ygg_shape_sums.specs.ygg_rules.declared.rule.RuleKind.{RuleKind}
use Rattle.ygg_shape_sums.specs.ygg_bank.Makes.{Make, Out, pure, and_make}
use Rattle.ygg_shape_sums.specs.ygg_bank.Making.{made}
use Rattle.ygg_shape_sums.specs.ygg_bank.declared.node.Id.{Id}
use Rattle.ygg_shape_sums.specs.ygg_bank.declared.node.Node.{Node}
use Rattle.ygg_shape_sums.specs.ygg_bank.declared.node.Node.TheVariants.{Const, Bin}
use Rattle.ygg_shape_sums.specs.ygg_shape_words.Picking.{picked}
use Rattle.ygg_shape_sums.proofs.Steps.{goes}
use Rattle.ygg_shape_cells.proofs.Steps.{rest_is}
use Rattle.ygg_shape_cells.specs.Pairs.{sides, without}
use Rattle.ygg_shape_cells.specs.Sharing.{shared}
use Rattle.ygg_shape_cells.specs.declared.pairs.Pair.{Pair}
use Rattle.ygg_shape.specs.Equates.{IsMade, joined, all_joined, one_by_one, split_on, equal_within}

-- what the pairs before a place have made, and what the rest will make
pub record JoinedSoFar (kinds : List RuleKind) (ps : List Pair) (old : List Node) (i : ℕ) (so_far : Id) (now : List Node) : Type 0 where
  pub value : (all_joined kinds so_far (drop i ps) now).value ≡ (one_by_one kinds ps old).value
  pub nodes : (all_joined kinds so_far (drop i ps) now).nodes ≡ (one_by_one kinds ps old).nodes

pub joined_begins : (kinds : List RuleKind) (ps : List Pair) (old now : List Node) (a : Id) → now ≡ (made kinds (Const (word 1 1)) old).nodes →
    a ≡ (made kinds (Const (word 1 1)) old).value → JoinedSoFar kinds ps old 0 a now
joined_begins kinds ps old now a e g =
    let whole : all_joined kinds a ps now ≡ one_by_one kinds ps old =
    goes (made kinds (Const (word 1 1))) (λ so_far. all_joined kinds so_far ps) old now a e g in
    record { value = ap (λ (o : Out Id). o.value) whole; nodes = ap (λ (o : Out Id). o.nodes) whole }

pub joined_goes : (kinds : List RuleKind) (ps : List Pair) (old : List Node) (i : ℕ) (d : Pair) (so_far next : Id) (now new : List Node) →
    i < length ps → new ≡ (joined kinds so_far (get_or ps i d) now).nodes → next ≡ (joined kinds so_far (get_or ps i d) now).value →
    JoinedSoFar kinds ps old i so_far now → JoinedSoFar kinds ps old (i + 1) next new
joined_goes kinds ps old i d so_far next now new l e g r =
    let p = get_or ps i d in
    let rest : Id → Make Id = λ z. all_joined kinds z (drop (i + 1) ps) in
    let whole : all_joined kinds next (drop (i + 1) ps) new ≡ all_joined kinds so_far (drop i ps) now =
    goes (joined kinds so_far p) rest now new next e g ∙ ap (λ z. all_joined kinds so_far z now) (sym (rest_is ps i p d l refl)) in
    record { value = ap (λ (o : Out Id). o.value) whole ∙ r.value; nodes = ap (λ (o : Out Id). o.nodes) whole ∙ r.nodes }

pub joined_value : (kinds : List RuleKind) (ps : List Pair) (old : List Node) (i : ℕ) (so_far : Id) (now : List Node) → length ps ≤ i →
    JoinedSoFar kinds ps old i so_far now → so_far ≡ (one_by_one kinds ps old).value
joined_value kinds ps old i so_far now l r = ap (λ z. (all_joined kinds so_far z now).value) (sym (drop_all i ps l)) ∙ r.value

pub joined_nodes : (kinds : List RuleKind) (ps : List Pair) (old : List Node) (i : ℕ) (so_far : Id) (now : List Node) → length ps ≤ i →
    JoinedSoFar kinds ps old i so_far now → now ≡ (one_by_one kinds ps old).nodes
joined_nodes kinds ps old i so_far now l r = ap (λ z. (all_joined kinds so_far z now).nodes) (sym (drop_all i ps l)) ∙ r.nodes

module _ (kinds : List RuleKind) where
  abbrev out : Id → List Node → Out Id
  out a nodes = record { value = a; nodes = nodes }

  is_made : (step : Make Id) (old new : List Node) (a : Id) → out a new ≡ step old → IsMade step old new a
  is_made step old new a e = record { nodes = ap (λ (o : Out Id). o.nodes) e; value = ap (λ (o : Out Id). o.value) e }

  pub within_zero : (depth : ℕ) (ps : List Pair) (old new : List Node) (r : Id) → depth ≡ 0 → new ≡ (one_by_one kinds ps old).nodes →
      r ≡ (one_by_one kinds ps old).value → IsMade (equal_within kinds depth ps) old new r
  unfolding equal_within
  within_zero zero ps old new r d e g = record { nodes = e; value = g }
  within_zero (suc depth) ps old new r d e g = absurd (omega arith)

  pub within_whole : (depth : ℕ) (ps : List Pair) (old new : List Node) (r : Id) → None ≡ shared old ps → new ≡ (one_by_one kinds ps old).nodes →
      r ≡ (one_by_one kinds ps old).value → IsMade (equal_within kinds depth ps) old new r
  unfolding equal_within
  within_whole zero ps old new r n e g = record { nodes = e; value = g }
  within_whole (suc depth) ps old new r n e g =
      let step = equal_within kinds depth in
      record { nodes = e ∙ ap (λ z. (split_on kinds step old ps z old).nodes) n; value = g ∙ ap (λ z. (split_on kinds step old ps z old).value) n }

  pub within_split : (depth : ℕ) (ps yes_sides no_sides others : List Pair) (t a1 a2 split rest r : Id) (old n1 n2 n3 n4 new : List Node) → 0 < depth →
      Some t ≡ shared old ps → yes_sides ≡ sides old t true ps → no_sides ≡ sides old t false ps → others ≡ without old t ps →
      IsMade (equal_within kinds (depth - 1) yes_sides) old n1 a1 → IsMade (equal_within kinds (depth - 1) no_sides) n1 n2 a2 →
      IsMade (picked kinds t a1 a2) n2 n3 split → IsMade (equal_within kinds (depth - 1) others) n3 n4 rest →
      IsMade (made kinds (Bin And split rest)) n4 new r → IsMade (equal_within kinds depth ps) old new r
  unfolding equal_within
  within_split zero ps yes_sides no_sides others t a1 a2 split rest r old n1 n2 n3 n4 new d n e f g a b c x y = absurd (omega arith)
  within_split (suc depth) ps yes_sides no_sides others t a1 a2 split rest r old n1 n2 n3 n4 new d n e f g a b c x y =
      let step = equal_within kinds depth in
      let same : suc depth - 1 ≡ depth = omega arith in
      let last : Id → Id → Make Id = λ split rest. made kinds (Bin And split rest) in
      let beside : Id → Make Id = λ split. and_make (step (without old t ps)) (last split) in
      let second : Id → Id → Make Id = λ one two. and_make (picked kinds t one two) beside in
      let first : Id → Make Id = λ one. and_make (step (sides old t false ps)) (second one) in
      let here : (qs own : List Pair) (m k : List Node) (z : Id) → qs ≡ own → IsMade (equal_within kinds (suc depth - 1) qs) m k z → IsMade (step own) m k z =
      λ qs own m k z e i. record {
        nodes = i.nodes ∙ ap (λ w. (equal_within kinds w qs m).nodes) same ∙ ap (λ w. (step w m).nodes) e;
        value = i.value ∙ ap (λ w. (equal_within kinds w qs m).value) same ∙ ap (λ w. (step w m).value) e;
      } in
      let one = here yes_sides (sides old t true ps) old n1 a1 e a in
      let two = here no_sides (sides old t false ps) n1 n2 a2 f b in
      let three = here others (without old t ps) n3 n4 rest g x in
      is_made (equal_within kinds (suc depth) ps) old new r
      (goes (last split rest) pure n4 new r y.nodes y.value
      ∙ goes (step (without old t ps)) (last split) n3 n4 rest three.nodes three.value
      ∙ goes (picked kinds t a1 a2) beside n2 n3 split c.nodes c.value
      ∙ goes (step (sides old t false ps)) (second a1) n1 n2 a2 two.nodes two.value
      ∙ goes (step (sides old t true ps)) first old n1 a1 one.nodes one.value
      ∙ ap (λ z. split_on kinds step old ps z old) n)
