-- Inputs that are single digits stay so as other nodes and further such inputs are made.
use Rattle.std.proofs.Common.{◌≡◌, ◌<◌, ◌≤◌, ◌⊎◌, inl, inr, ℕ, Bool, true, false, if◌then◌else◌, Option, Some, None, List, [], ◌∷◌, ◌++◌, length, sym, arith}
use Rattle.std.specs.List.{list_any}
use Rattle.std.proofs.lemmas.Bool.{cases_lt}
use Rattle.ygg_sym_runs.specs.ygg_rules.Rows.{book_row}
use Rattle.ygg_sym_runs.specs.ygg_rules.Views.{Seen, operand}
use Rattle.ygg_sym_runs.specs.ygg_rules.declared.rule.RuleKind.{RuleKind}
use Rattle.ygg_sym_runs.specs.ygg_rules.declared.view.Rewrite.{Rewrite}
use Rattle.ygg_sym_runs.specs.ygg_rules.declared.view.Rewrite.TheVariants as rewrite
use Rattle.ygg_sym_runs.proofs.of_ygg_bank.Places.{here_or_last, last_is}
use Rattle.ygg_sym_runs.specs.ygg_bank.Inputs.{InputsBelow, NoInput}
use Rattle.ygg_sym_runs.specs.ygg_bank.Making.{id_of, same, added, rewritten, asked, view_of, made}
use Rattle.ygg_sym_runs.specs.ygg_bank.Nodes.{CanMake}
use Rattle.ygg_sym_runs.specs.ygg_bank.declared.node.Node.{Node}
use Rattle.ygg_sym_runs.specs.ygg_bank.declared.node.Node.TheVariants.{Input, Const, Bin, Not, Resize, Pick}
use Rattle.ygg_sym_runs.specs.ygg_shape_words_proofs_Keeps.{Stays}
use Rattle.ygg_sym_runs.specs.Lower.{SingleFrom}

-- an input that a node is, is a single digit
abbrev IsSingle : Node → Type 0
IsSingle n = (number w : ℕ) → n ≡ Input number w → w ≡ 1

one_more : (first : ℕ) (nodes : List Node) (n : Node) → IsSingle n → SingleFrom first nodes → SingleFrom first (nodes ++ n ∷ [])
one_more first nodes n b h place number w e l = go (cases_lt place (length nodes)) where
  go : (place < length nodes) ⊎ (length nodes ≤ place) → w ≡ 1
  go (inl p) = h place number w (here_or_last nodes n place (Input number w) e p) l
  go (inr p) = b number w (sym (last_is nodes n (Input number w) place p e).1)

added_case : (first : ℕ) (nodes : List Node) (n : Node) (t : Bool) → IsSingle n → SingleFrom first nodes →
    SingleFrom first (if t then nodes else nodes ++ n ∷ [])
added_case first nodes n true b h = h
added_case first nodes n false b h = one_more first nodes n b h

added_single : (first : ℕ) (nodes : List Node) (n : Node) → IsSingle n → SingleFrom first nodes → SingleFrom first (added n nodes).nodes
added_single first nodes n b h = added_case first nodes n (list_any (same n) nodes) b h

rewritten_single : (first : ℕ) (n : Node) (v : Seen) (r : Rewrite) (nodes : List Node) → IsSingle n → SingleFrom first nodes →
    SingleFrom first (rewritten n v r nodes).nodes
rewritten_single first n v rewrite.Keep nodes b h = added_single first nodes n b h
rewritten_single first n v (rewrite.Operand i) nodes b h = h
rewritten_single first n v (rewrite.Constant k) nodes b h = added_single first nodes (Const k) (λ number w e. absurd (cc)) h
rewritten_single first n v (rewrite.Node op i j) nodes b h =
    added_single first nodes (Bin op (id_of (operand v i)) (id_of (operand v j))) (λ number w e. absurd (cc)) h

asked_single : (kinds : List RuleKind) (first : ℕ) (n : Node) (v : Option Seen) (nodes : List Node) → IsSingle n → SingleFrom first nodes →
    SingleFrom first (asked kinds n v nodes).nodes
asked_single kinds first n None nodes b h = added_single first nodes n b h
asked_single kinds first n (Some v) nodes b h = rewritten_single first n v (book_row kinds v) nodes b h

no_input : (n : Node) → NoInput n → IsSingle n
no_input (Input m u) other number w e = absurd other
no_input (Const k) other number w e = absurd (cc)
no_input (Bin o a b) other number w e = absurd (cc)
no_input (Not a) other number w e = absurd (cc)
no_input (Resize a u) other number w e = absurd (cc)
no_input (Pick t a b) other number w e = absurd (cc)

digit : (number : ℕ) → IsSingle (Input number 1)
digit number m w e = let f : 1 ≡ w = cc in sym f

-- nodes that are no inputs change nothing
pub single_stays : (kinds : List RuleKind) (first : ℕ) → Stays kinds (SingleFrom first)
single_stays kinds first n nodes other h = asked_single kinds first n (view_of nodes n) nodes (no_input n other) h

-- an input of a single digit neither
pub input_single : (kinds : List RuleKind) (first number : ℕ) (nodes : List Node) → SingleFrom first nodes →
    SingleFrom first (made kinds (Input number 1) nodes).nodes
input_single kinds first number nodes h = asked_single kinds first (Input number 1) (view_of nodes (Input number 1)) nodes (digit number) h

-- such an input may be made
pub single_width : (first number : ℕ) (nodes : List Node) → first ≤ number → SingleFrom first nodes → CanMake nodes (Input number 1)
single_width first number nodes l h = (record { least = omega arith; most = omega arith }, λ place w e. h place number w e l)

-- where inputs are below a number, none has it or a greater one
pub below_single : (first : ℕ) (nodes : List Node) → InputsBelow first nodes → SingleFrom first nodes
below_single first nodes h place number w e l = let k = h place number w e in absurd (omega arith)

-- and from a greater number on
pub single_less : (first next : ℕ) (nodes : List Node) → first ≤ next → SingleFrom first nodes → SingleFrom next nodes
single_less first next nodes l h place number w e m = h place number w e (omega arith)
