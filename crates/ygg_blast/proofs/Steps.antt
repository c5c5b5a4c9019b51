-- Loops over gates and nodes make the clauses and gates of all of them.
use Rattle.std.proofs.Common.{
  ◌≡◌,
  ◌<◌,
  ◌≤◌,
  ℕ,
  suc,
  ◌+◌,
  Bool,
  true,
  false,
  List,
  [],
  ◌∷◌,
  ◌++◌,
  length,
  drop,
  get_or,
  Some,
  slice_get,
  refl,
  sym,
  ap,
  ◌∙◌,
  append_assoc,
  arith,
}
use Rattle.std.proofs.lemmas.List.{drop_more, drop_all, append-nil, length-take, length_push, get_or-take}
use Rattle.std.proofs.lemmas.Option.{slice_get_within, get_or_from_slice_get}
use Rattle.ygg_cnf.specs.declared.lit.Lit.{Lit}
use Rattle.ygg_bank.specs.declared.node.Id.{Id}
use Rattle.ygg_bank.specs.declared.node.Node.{Node}
use Rattle.ygg_gates.specs.Circuits.{literal}
use Rattle.ygg_gates.specs.Clauses.{clauses_from, gate_clauses}
use Rattle.ygg_gates.specs.Groups.{Circuit, with_node, with_nodes, no_nodes, up_to, reaches, circuit_of}
use Rattle.ygg_gates.specs.declared.gate.Gate.{Gate}

-- the clauses so far, with those of the rest, are all
pub record Clausal (gates : List Gate) (old : List (List Lit)) (i : ℕ) (now : List (List Lit)) : Type 0 where
  pub all : now ++ clauses_from (i + 2) (drop i gates) ≡ old ++ clauses_from 2 gates

pub clauses_begin : (gates : List Gate) (old : List (List Lit)) → Clausal gates old 0 old
clauses_begin gates old = record { all = refl }

pub clauses_go : (gates : List Gate) (old : List (List Lit)) (i : ℕ) (now : List (List Lit)) (g d : Gate) (o : Lit) (next : List (List Lit)) →
    i < length gates →
    g ≡ get_or gates i d → o ≡ literal (i + 2) → next ≡ now ++ gate_clauses o g → Clausal gates old i now → Clausal gates old (i + 1) next
clauses_go gates old i now g d o next l e f h s =
    let rest = clauses_from (suc (i + 2)) (drop (i + 1) gates) in
    let place : i + 1 + 2 ≡ suc (i + 2) = omega arith in
    record {
      all = ap (λ k. next ++ clauses_from k (drop (i + 1) gates)) place
          ∙ ap (λ z. z ++ rest) h
          ∙ append_assoc now (gate_clauses o g) rest
          ∙ ap (λ z. now ++ (gate_clauses z g ++ rest)) f
          ∙ ap (λ z. now ++ (gate_clauses (literal (i + 2)) z ++ rest)) e
          ∙ ap (λ z. now ++ clauses_from (i + 2) z) (sym (drop_more gates i d l)) ∙ s.all;
    }

pub clauses_are : (gates : List Gate) (old : List (List Lit)) (i : ℕ) (now : List (List Lit)) → length gates ≤ i → Clausal gates old i now → now ≡ old
    ++ clauses_from 2 gates
clauses_are gates old i now l s = sym (append-nil now) ∙ ap (λ z. now ++ clauses_from (i + 2) z) (sym (drop_all i gates l)) ∙ s.all

-- what is made of the first nodes, with what the rest will make, is the whole
pub record Grouping (nodes : List Node) (term : Id) (i : ℕ) (now : Circuit) : Type 0 where
  pub all : with_nodes (reaches nodes term) (drop i (up_to term nodes)) now ≡ circuit_of nodes term
  pub count : length now.table ≡ i

pub groups_begin : (nodes : List Node) (term : Id) → Grouping nodes term 0 no_nodes
groups_begin nodes term = record { all = refl; count = refl }

length_with : (b : Bool) (n : Node) (c : Circuit) → length (with_node b n c).table ≡ length c.table + 1
length_with false n c = length_push c.table []
length_with true n c = length_push c.table _

pub first_nodes : (nodes : List Node) (term : Id) (i : ℕ) (n : Node) → i < term.0 + 1 → slice_get nodes i ≡ Some n →
    drop i (up_to term nodes) ≡ n ∷ drop (i + 1) (up_to term nodes)
first_nodes nodes term i n l e =
    let h : i < length (up_to term nodes) = omega (arith, length-take (term.0 + 1) nodes, slice_get_within nodes i n e) in
    let here : get_or (up_to term nodes) i n ≡ n = get_or-take (term.0 + 1) nodes i n l ∙ get_or_from_slice_get nodes i n n e in
    drop_more (up_to term nodes) i n h ∙ ap (λ z. z ∷ drop (i + 1) (up_to term nodes)) here

pub groups_go : (nodes : List Node) (term : Id) (i : ℕ) (now : Circuit) (n : Node) (b : Bool) (next : Circuit) → i < term.0 + 1 → slice_get nodes i ≡ Some n →
    b ≡ reaches nodes term i → next ≡ with_node b n now → Grouping nodes term i now → Grouping nodes term (i + 1) next
groups_go nodes term i now n b next l e f h s =
    let rest = drop (i + 1) (up_to term nodes) in
    let r = reaches nodes term in
    record {
      all = ap (λ z. with_nodes r rest z) h
          ∙ ap (λ z. with_nodes r rest (with_node z n now)) (f ∙ ap r (sym s.count))
          ∙ ap (λ z. with_nodes r z now) (sym (first_nodes nodes term i n l e)) ∙ s.all;
      count = ap (λ (z : Circuit). length z.table) h ∙ length_with b n now ∙ ap (λ k. k + 1) s.count;
    }

pub groups_are : (nodes : List Node) (term : Id) (i : ℕ) (now : Circuit) → term.0 + 1 ≤ i → Grouping nodes term i now → now ≡ circuit_of nodes term
groups_are nodes term i now l s =
    let past : length (up_to term nodes) ≤ i = omega (arith, length-take (term.0 + 1) nodes) in
    ap (λ z. with_nodes (reaches nodes term) z now) (sym (drop_all i (up_to term nodes) past)) ∙ s.all
