-- The terms of some expressions, made one after another.
use Rattle.std.proofs.Common.{◌≡◌, ◌<◌, ◌≤◌, ℕ, zero, suc, ◌+◌, List, [], ◌∷◌, ◌++◌}
use Rattle.std.proofs.Common.{map, length, drop, get_or, All, reverse, sym, ap, ◌∙◌, append_assoc, subst, arith}
use Rattle.std.proofs.lemmas.List.{drop_more, drop_all, append-nil}
use Rattle.std.proofs.lemmas.List.Elements.{All-head, All-tail}
use Rattle.ygg_syntax.specs.declared.tree.Expr.{Expr}
use Rattle.ygg_syntax.specs.declared.tree.Index.{Index}
use Rattle.ygg_sym_runs.specs.ygg_rules.declared.rule.RuleKind.{RuleKind}
use Rattle.ygg_sym_runs.specs.ygg_bank_proofs_Meaning.{fits_fewer}
use Rattle.ygg_sym_runs.specs.ygg_bank.Makes.{Out}
use Rattle.ygg_sym_runs.specs.ygg_bank.Nodes.{Extends}
use Rattle.ygg_sym_runs.specs.ygg_bank.declared.node.Id.{Id}
use Rattle.ygg_sym_runs.specs.ygg_bank.declared.node.Node.{Node}
use Rattle.ygg_sym_runs.specs.ygg_shape_cells.declared.terms.SymValue.{SymValue}
use Rattle.ygg_sym_runs.specs.Names.{SymScope}
use Rattle.ygg_sym_runs.specs.Exprs.{SymFunctions, id_in, all_made, sym_value, sym_functions}
use Rattle.ygg_sym_runs.specs.Seen.{SymKnown, CanTerm, terms_in}
use Rattle.ygg_sym_runs.proofs.Keeps.{functions_keep, value_keeps}
use Rattle.ygg_sym_runs.proofs.Shaped.{scope_wider}
use Rattle.ygg_sym_runs.specs.Lower.{SingleFrom}
use Rattle.ygg_sym_runs.specs.Runs.{places_of}
use Rattle.ygg_sym_runs.proofs.Singles.{single_stays}

-- the item at a place, and those after it
rest_is : {X : Type 0} (xs : List X) (i : ℕ) (x d : X) → i < length xs → x ≡ get_or xs i d → drop i xs ≡ x ∷ drop (i + 1) xs
rest_is xs i x d l e = drop_more xs i d l ∙ ap (λ z. z ∷ drop (i + 1) xs) (sym e)

-- the terms of an expression bring no input
pub terms_single : (kinds : List RuleKind) (k : SymKnown) (e : Expr) (nodes : List Node) (first : ℕ) → SingleFrom first nodes →
    SingleFrom first (terms_in kinds k e nodes).nodes
terms_single kinds k e nodes first h =
    let P = SingleFrom first in
    let stays = single_stays kinds first in
    value_keeps kinds P stays (sym_functions kinds (reverse k.defs)) (functions_keep kinds P stays (reverse k.defs)) e k.scope nodes h

-- what may be made may be made later
pub can_later : (k : SymKnown) (old new : List Node) (e : Expr) → Extends old new → CanTerm k old e → CanTerm k new e
can_later k old new e g c = record {
  scope = c.scope;
  defs = c.defs;
  sound = c.sound;
  without_errors = c.without_errors;
  shaped = scope_wider old new k.scope g c.shaped;
  agrees = λ inputs v h. c.agrees inputs v (fits_fewer inputs v old new g h);
}

at_place : {X : Type 0} (P : X → Type 0) (xs : List X) (i : ℕ) (x d : X) → i < length xs → x ≡ get_or xs i d → All P xs → P x
at_place P xs i x d l e a = subst P (sym e) (a i d l)

pub can_at : (k : SymKnown) (old new : List Node) (es : List Expr) (i : ℕ) (e d : Expr) → Extends old new → i < length es → e ≡ get_or es i d →
    All (CanTerm k old) es → CanTerm k new e
can_at k old new es i e d g l is a = can_later k old new e g (at_place (CanTerm k old) es i e d l is a)

pub can_index : (k : SymKnown) (old new : List Node) (is : List Index) (i : ℕ) (x d : Index) → Extends old new → i < length is → x ≡ get_or is i d →
    All (CanTerm k old) (places_of is) → CanTerm k new x.at
can_index k old new [] i x d g l e a = absurd (omega (arith, l))
can_index k old new (y ∷ is) zero x d g l e a =
    can_later k old new x.at g (subst (CanTerm k old) (sym (ap (λ (z : Index). z.at) e)) (All-head (CanTerm k old) y.at (places_of is) a))
can_index k old new (y ∷ is) (suc i) x d g l e a =
    can_index k old new is i x d g (omega (arith, l)) e (All-tail (CanTerm k old) y.at (places_of is) a)

module _ (kinds : List RuleKind) (terms : SymFunctions) (scope : SymScope) where
  abbrev all : List Expr → List Node → Out (List SymValue)
  all es nodes = all_made (map (sym_value kinds terms) es) scope nodes

  -- what is made so far, and what the rest will be
  pub record SoFar (es : List Expr) (old : List Node) (i : ℕ) (so_far : List SymValue) (now : List Node) : Type 0 where
    pub value : so_far ++ (all_made (map (sym_value kinds terms) (drop i es)) scope now).value ≡ (all_made (map (sym_value kinds terms) es) scope old).value
    pub nodes : (all_made (map (sym_value kinds terms) (drop i es)) scope now).nodes ≡ (all_made (map (sym_value kinds terms) es) scope old).nodes

  pub goes : (es : List Expr) (old : List Node) (i : ℕ) (so_far : List SymValue) (now : List Node) (e d : Expr) (x : SymValue) (next : List Node) →
      i < length es → e ≡ get_or es i d → next ≡ (sym_value kinds terms e scope now).nodes → x ≡ (sym_value kinds terms e scope now).value →
      SoFar es old i so_far now → SoFar es old (i + 1) (so_far ++ x ∷ []) next
  goes es old i so_far now e d x next l is f h s =
      let r = rest_is es i e d l is in
      let o = sym_value kinds terms e scope now in
      record {
        value = append_assoc so_far (x ∷ []) (all (drop (i + 1) es) next).value
            ∙ ap (λ z. so_far ++ (z ∷ (all (drop (i + 1) es) next).value)) h
            ∙ ap (λ z. so_far ++ (o.value ∷ (all (drop (i + 1) es) z).value)) f
            ∙ ap (λ z. so_far ++ (all z now).value) (sym r) ∙ s.value;
        nodes = ap (λ z. (all (drop (i + 1) es) z).nodes) f ∙ ap (λ z. (all z now).nodes) (sym r) ∙ s.nodes;
      }

  pub all_value : (es : List Expr) (old : List Node) (i : ℕ) (so_far : List SymValue) (now : List Node) → length es ≤ i → SoFar es old i so_far now →
      so_far ≡ (all_made (map (sym_value kinds terms) es) scope old).value
  all_value es old i so_far now l s = sym (append-nil so_far) ∙ ap (λ z. so_far ++ (all z now).value) (sym (drop_all i es l)) ∙ s.value

  pub all_nodes : (es : List Expr) (old : List Node) (i : ℕ) (so_far : List SymValue) (now : List Node) → length es ≤ i → SoFar es old i so_far now →
      now ≡ (all_made (map (sym_value kinds terms) es) scope old).nodes
  all_nodes es old i so_far now l s = ap (λ z. (all z now).nodes) (sym (drop_all i es l)) ∙ s.nodes

  -- the same of indices, of whose values the terms are kept
  pub record PlacesSoFar (is : List Index) (old : List Node) (i : ℕ) (so_far : List Id) (now : List Node) : Type 0 where
    pub value : so_far ++ map id_in (all_made (map (sym_value kinds terms) (places_of (drop i is))) scope now).value
        ≡ map id_in (all_made (map (sym_value kinds terms) (places_of is)) scope old).value
    pub nodes : (all_made (map (sym_value kinds terms) (places_of (drop i is))) scope now).nodes
        ≡ (all_made (map (sym_value kinds terms) (places_of is)) scope old).nodes

  pub places_go : (is : List Index) (old : List Node) (i : ℕ) (so_far : List Id) (now : List Node) (e d : Index) (x : SymValue) (a : Id) (next : List Node) →
      i < length is → e ≡ get_or is i d → next ≡ (sym_value kinds terms e.at scope now).nodes → x ≡ (sym_value kinds terms e.at scope now).value →
      a ≡ id_in x → PlacesSoFar is old i so_far now → PlacesSoFar is old (i + 1) (so_far ++ a ∷ []) next
  places_go is old i so_far now e d x a next l at f h same s =
      let r = rest_is is i e d l at in
      let o = sym_value kinds terms e.at scope now in
      record {
        value = append_assoc so_far (a ∷ []) (map id_in (all (places_of (drop (i + 1) is)) next).value)
            ∙ ap (λ z. so_far ++ (z ∷ map id_in (all (places_of (drop (i + 1) is)) next).value)) (same ∙ ap id_in h)
            ∙ ap (λ z. so_far ++ (id_in o.value ∷ map id_in (all (places_of (drop (i + 1) is)) z).value)) f
            ∙ ap (λ z. so_far ++ map id_in (all (places_of z) now).value) (sym r) ∙ s.value;
        nodes = ap (λ z. (all (places_of (drop (i + 1) is)) z).nodes) f ∙ ap (λ z. (all (places_of z) now).nodes) (sym r) ∙ s.nodes;
      }

  pub places_value : (is : List Index) (old : List Node) (i : ℕ) (so_far : List Id) (now : List Node) → length is ≤ i → PlacesSoFar is old i so_far now →
      so_far ≡ map id_in (all_made (map (sym_value kinds terms) (places_of is)) scope old).value
  places_value is old i so_far now l s =
      sym (append-nil so_far) ∙ ap (λ z. so_far ++ map id_in (all (places_of z) now).value) (sym (drop_all i is l)) ∙ s.value

  pub places_nodes : (is : List Index) (old : List Node) (i : ℕ) (so_far : List Id) (now : List Node) → length is ≤ i → PlacesSoFar is old i so_far now →
      now ≡ (all_made (map (sym_value kinds terms) (places_of is)) scope old).nodes
  places_nodes is old i so_far now l s = ap (λ z. (all (places_of z) now).nodes) (sym (drop_all i is l)) ∙ s.nodes
