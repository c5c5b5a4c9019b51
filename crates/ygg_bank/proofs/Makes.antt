-- What `make` answers.
use Rattle.std.proofs.Common.{
  ◌≡◌,
  ◌<◌,
  ◌≤◌,
  ℕ,
  zero,
  suc,
  ◌⊎◌,
  inl,
  inr,
  slice_get,
  length,
  Bool,
  true,
  false,
  ◌||◌,
  if◌then◌else◌,
  Option,
  Some,
  None,
  Result,
  Ok,
  Err,
  OnOk,
  OnErr,
  IfOk,
  List,
  [],
  ◌∷◌,
  ◌++◌,
  refl,
  sym,
  ap,
  ◌∙◌,
  subst,
}
use Rattle.std.specs.List.{list_any}
use Rattle.std.proofs.lemmas.Bool.{cases_lt}
use Rattle.ygg_rules.specs.Rows.{book_row}
use Rattle.ygg_rules.specs.Views.{Seen, operand}
use Rattle.ygg_rules.specs.declared.rule.RuleKind.{RuleKind}
use Rattle.ygg_rules.specs.declared.view.Rewrite.{Rewrite}
use Rattle.ygg_rules.specs.declared.view.Rewrite.TheVariants as rewrite
use Rattle.ygg_bank.proofs.Exist.{keeps_values, made_answers}
use Rattle.ygg_bank.proofs.Inputs.{made_inputs, after_too}
use Rattle.ygg_bank.specs.Inputs.{InputsBelow, next_after}
use Rattle.ygg_bank.proofs.Made.{made_grows, made_ordered, made_width}
use Rattle.ygg_bank.proofs.Places.{here_or_last, last_is}
use Rattle.ygg_bank.proofs.Same.{same_node}
use Rattle.ygg_bank.proofs.Widths.{extends_self}
use Rattle.ygg_bank.specs.Making.{id_of, same, added, rewritten, asked, view_of, made}
use Rattle.ygg_bank.specs.Nodes.{widths_of, node_width, HasWidth, CanMake, Distinct, IsBank, Extends}
use Rattle.ygg_bank.specs.Values.{AnswersFor, KeepsValues}
use Rattle.ygg_bank.specs.declared.node.Id.{Id}
use Rattle.ygg_bank.specs.declared.node.Node.{Node}
use Rattle.ygg_bank.specs.declared.node.Node.TheVariants.{Const, Bin}

-- a node that stands among others is found there
found_case : (b : Bool) (n x : Node) (c : Bool) → same n x ≡ b → x ≡ n → (b || c) ≡ true
found_case true n x c e f = refl
found_case false n x c e f = let h : same n x ≡ true = (same_node n x).1 (sym f) in absurd (cc)

or_true : (b c : Bool) → c ≡ true → (b || c) ≡ true
or_true true c e = refl
or_true false c e = e

there_any : (nodes : List Node) (n : Node) (k : ℕ) → slice_get nodes k ≡ Some n → list_any (same n) nodes ≡ true
there_any [] n k e = absurd (cc)
there_any (x ∷ xs) n zero e = let f : x ≡ n = cc in found_case (same n x) n x (list_any (same n) xs) refl f
there_any (x ∷ xs) n (suc k) e = or_true (same n x) (list_any (same n) xs) (there_any xs n k e)

absent_there : (nodes : List Node) (n m : Node) (k : ℕ) → list_any (same n) nodes ≡ false → m ≡ n → slice_get nodes k ≡ Some m → ⊥
absent_there nodes n m k a e f =
    let h : list_any (same n) nodes ≡ true = there_any nodes n k (f ∙ ap (λ x. Some x) e) in absurd (cc)

pub distinct_more : (nodes : List Node) (n : Node) → Distinct nodes → list_any (same n) nodes ≡ false → Distinct (nodes ++ n ∷ [])
distinct_more nodes n d a i j m e f = go (cases_lt i (length nodes)) (cases_lt j (length nodes)) where
  go : (i < length nodes) ⊎ (length nodes ≤ i) → (j < length nodes) ⊎ (length nodes ≤ j) → i ≡ j
  go (inl p) (inl q) = d i j m (here_or_last nodes n i m e p) (here_or_last nodes n j m f q)
  go (inl p) (inr q) = absurd (absent_there nodes n m i a (last_is nodes n m j q f).1 (here_or_last nodes n i m e p))
  go (inr p) (inl q) = absurd (absent_there nodes n m j a (last_is nodes n m i p e).1 (here_or_last nodes n j m f q))
  go (inr p) (inr q) = (last_is nodes n m i p e).0 ∙ sym (last_is nodes n m j q f).0

distinct_case : (nodes : List Node) (n : Node) (b : Bool) → list_any (same n) nodes ≡ b → Distinct nodes → Distinct (if b then nodes else nodes ++ n ∷ [])
distinct_case nodes n true e d = d
distinct_case nodes n false e d = distinct_more nodes n d e

added_distinct : (n : Node) (nodes : List Node) → Distinct nodes → Distinct (added n nodes).nodes
added_distinct n nodes d = distinct_case nodes n (list_any (same n) nodes) refl d

rewritten_distinct : (n : Node) (v : Seen) (r : Rewrite) (nodes : List Node) → Distinct nodes → Distinct (rewritten n v r nodes).nodes
rewritten_distinct n v rewrite.Keep nodes d = added_distinct n nodes d
rewritten_distinct n v (rewrite.Operand i) nodes d = d
rewritten_distinct n v (rewrite.Constant k) nodes d = added_distinct (Const k) nodes d
rewritten_distinct n v (rewrite.Node op i j) nodes d = added_distinct (Bin op (id_of (operand v i)) (id_of (operand v j))) nodes d

asked_distinct : (kinds : List RuleKind) (n : Node) (v : Option Seen) (nodes : List Node) → Distinct nodes → Distinct (asked kinds n v nodes).nodes
asked_distinct kinds n None nodes d = added_distinct n nodes d
asked_distinct kinds n (Some v) nodes d = rewritten_distinct n v (book_row kinds v) nodes d

-- making a node keeps a bank a bank
pub made_bank : (kinds : List RuleKind) (n : Node) (nodes : List Node) → IsBank nodes → CanMake nodes n → IsBank (made kinds n nodes).nodes
made_bank kinds n nodes h c = record { ordered = made_ordered kinds n nodes h.ordered c; distinct = asked_distinct kinds n (view_of nodes n) nodes h.distinct }

-- what `make` says of its answer and of the bank
pub record IsMade {E : Type 0} (kinds : List RuleKind) (n : Node) (old new : List Node) (result : Result Id E) : Type 0 where
  pub width : IfOk result (λ id. HasWidth new id (node_width (widths_of old) n))
  pub value : IfOk result (AnswersFor old n new)
  pub grows : Extends old new
  pub keeps : KeepsValues old new
  pub bank : IsBank new
  pub inputs : (next : ℕ) → InputsBelow next old → InputsBelow (next_after next n) new

is_ok : {E : Type 0} (kinds : List RuleKind) (n : Node) (old new : List Node) (place : Id) → IsBank old → CanMake old n →
    new ≡ (made kinds n old).nodes → place ≡ (made kinds n old).value → IsMade {E = E} kinds n old new (Ok place)
is_ok kinds n old new place h c e f = record {
  width = subst (λ ns. HasWidth ns place (node_width (widths_of old) n)) (sym e)
      (subst (λ p. HasWidth (made kinds n old).nodes p (node_width (widths_of old) n)) (sym f) (made_width kinds n old h.ordered c));
  value = subst (λ ns. AnswersFor old n ns place) (sym e)
      (subst (λ p. AnswersFor old n (made kinds n old).nodes p) (sym f) (made_answers kinds n old h.ordered c));
  grows = subst (Extends old) (sym e) (made_grows kinds n old);
  keeps = subst (KeepsValues old) (sym e) (keeps_values old (made kinds n old).nodes (made_grows kinds n old));
  bank = subst IsBank (sym e) (made_bank kinds n old h c);
  inputs = λ next k. subst (InputsBelow (next_after next n)) (sym e) (made_inputs kinds n old next k);
}

pub is_made : {E : Type 0} (kinds : List RuleKind) (n : Node) (old new : List Node) (result : Result Id E) → IsBank old → CanMake old n →
    OnOk result (new ≡ (made kinds n old).nodes) → IfOk result (λ id. id ≡ (made kinds n old).value) → OnErr result (new ≡ old) → IsMade kinds n old new result
is_made kinds n old new (Ok place) h c e f g = is_ok kinds n old new place h c e f
is_made kinds n old new (Err x) h c e f g = record {
  width = tt;
  value = tt;
  grows = subst (Extends old) (sym g) (extends_self old);
  keeps = subst (KeepsValues old) (sym g) (keeps_values old old (extends_self old));
  bank = subst IsBank (sym g) h;
  inputs = λ next k. subst (InputsBelow (next_after next n)) (sym g) (after_too next n old k);
}
