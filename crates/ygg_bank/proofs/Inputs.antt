-- Which numbers the inputs among nodes have.
use Rattle.std.proofs.Common.{
  ◌≡◌,
  ◌<◌,
  ◌≤◌,
  ◌⊎◌,
  inl,
  inr,
  ℕ,
  Bool,
  true,
  false,
  if◌then◌else◌,
  Option,
  Some,
  None,
  List,
  [],
  ◌∷◌,
  ◌++◌,
  length,
  refl,
  sym,
  arith,
}
use Rattle.std.specs.List.{list_any}
use Rattle.std.proofs.lemmas.Bool.{cases_lt}
use Rattle.ygg_rules.specs.Rows.{book_row}
use Rattle.ygg_rules.specs.Views.{Seen, operand}
use Rattle.ygg_rules.specs.declared.rule.RuleKind.{RuleKind}
use Rattle.ygg_rules.specs.declared.view.Rewrite.{Rewrite}
use Rattle.ygg_rules.specs.declared.view.Rewrite.TheVariants as rewrite
use Rattle.ygg_bank.proofs.Places.{here_or_last, last_is}
use Rattle.ygg_bank.specs.Inputs.{InputsBelow, next_after, NoInput}
use Rattle.ygg_bank.specs.Making.{id_of, same, added, rewritten, asked, view_of, made}
use Rattle.ygg_bank.specs.Nodes.{OneWidth}
use Rattle.ygg_bank.specs.declared.node.Node.{Node}
use Rattle.ygg_bank.specs.declared.node.Node.TheVariants.{Input, Const, Bin, Not, Resize, Pick}

-- an input that a node is has a number below this
abbrev IsBelow : ℕ → Node → Type 0
IsBelow next n = (number w : ℕ) → n ≡ Input number w → number < next

one_more : (nodes : List Node) (n : Node) (next m : ℕ) → next ≤ m → IsBelow m n → InputsBelow next nodes → InputsBelow m (nodes ++ n ∷ [])
one_more nodes n next m l b h place number w e = go (cases_lt place (length nodes)) where
  go : (place < length nodes) ⊎ (length nodes ≤ place) → number < m
  go (inl p) = let k = h place number w (here_or_last nodes n place (Input number w) e p) in omega arith
  go (inr p) = b number w (sym (last_is nodes n (Input number w) place p e).1)

added_case : (nodes : List Node) (n : Node) (next m : ℕ) (t : Bool) → next ≤ m → IsBelow m n → InputsBelow next nodes →
    InputsBelow m (if t then nodes else nodes ++ n ∷ [])
added_case nodes n next m true l b h = λ place number w e. let k = h place number w e in omega arith
added_case nodes n next m false l b h = one_more nodes n next m l b h

added_inputs : (nodes : List Node) (n : Node) (next m : ℕ) → next ≤ m → IsBelow m n → InputsBelow next nodes → InputsBelow m (added n nodes).nodes
added_inputs nodes n next m l b h = added_case nodes n next m (list_any (same n) nodes) l b h

-- the number after a node
least : (next : ℕ) (n : Node) → next ≤ next_after next n
least next (Input number w) = omega arith
least next (Const k) = omega arith
least next (Bin o a b) = omega arith
least next (Not a) = omega arith
least next (Resize a w) = omega arith
least next (Pick t a b) = omega arith

itself : (next : ℕ) (n : Node) → IsBelow (next_after next n) n
itself next (Input m u) number w e = let f : m ≡ number = cc in omega arith
itself next (Const k) number w e = absurd (cc)
itself next (Bin o a b) number w e = absurd (cc)
itself next (Not a) number w e = absurd (cc)
itself next (Resize a u) number w e = absurd (cc)
itself next (Pick t a b) number w e = absurd (cc)

rewritten_inputs : (n : Node) (v : Seen) (r : Rewrite) (nodes : List Node) (next : ℕ) → InputsBelow next nodes →
    InputsBelow (next_after next n) (rewritten n v r nodes).nodes
rewritten_inputs n v rewrite.Keep nodes next h = added_inputs nodes n next (next_after next n) (least next n) (itself next n) h
rewritten_inputs n v (rewrite.Operand i) nodes next h = λ place number w e. let k = h place number w e in let l = least next n in omega arith
rewritten_inputs n v (rewrite.Constant k) nodes next h =
    added_inputs nodes (Const k) next (next_after next n) (least next n) (λ number w e. absurd (cc)) h
rewritten_inputs n v (rewrite.Node op i j) nodes next h =
    added_inputs nodes (Bin op (id_of (operand v i)) (id_of (operand v j))) next (next_after next n) (least next n) (λ number w e. absurd (cc)) h

asked_inputs : (kinds : List RuleKind) (n : Node) (v : Option Seen) (nodes : List Node) (next : ℕ) → InputsBelow next nodes →
    InputsBelow (next_after next n) (asked kinds n v nodes).nodes
asked_inputs kinds n None nodes next h = added_inputs nodes n next (next_after next n) (least next n) (itself next n) h
asked_inputs kinds n (Some v) nodes next h = rewritten_inputs n v (book_row kinds v) nodes next h

-- making a node adds at most this node's own input
pub made_inputs : (kinds : List RuleKind) (n : Node) (nodes : List Node) (next : ℕ) → InputsBelow next nodes →
    InputsBelow (next_after next n) (made kinds n nodes).nodes
made_inputs kinds n nodes next h = asked_inputs kinds n (view_of nodes n) nodes next h

-- of a node that is no input the number stays
pub same_after : (next : ℕ) (n : Node) → NoInput n → next_after next n ≡ next
same_after next (Input number w) h = absurd h
same_after next (Const k) h = refl
same_after next (Bin o a b) h = refl
same_after next (Not a) h = refl
same_after next (Resize a w) h = refl
same_after next (Pick t a b) h = refl

-- the number after a node is no less
pub after_too : (next : ℕ) (n : Node) (nodes : List Node) → InputsBelow next nodes → InputsBelow (next_after next n) nodes
after_too next n nodes h place number w e = let k = h place number w e in let l = least next n in omega arith

-- an input with a number that no other has may be made
pub fresh_width : (nodes : List Node) (next number w : ℕ) → InputsBelow next nodes → next ≤ number → OneWidth nodes number w
fresh_width nodes next number w h l place u e = let k = h place number u e in absurd (omega arith)

-- making anything but an input adds no input
pub made_keeps : (kinds : List RuleKind) (n : Node) (nodes : List Node) (next : ℕ) → NoInput n → InputsBelow next nodes →
    InputsBelow next (made kinds n nodes).nodes
made_keeps kinds n nodes next other h =
    λ place number w e. let k = made_inputs kinds n nodes next h place number w e in omega (arith, same_after next n other)
