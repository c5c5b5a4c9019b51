-- Nodes that change, and the lists that they hold.
use Rattle.std.proofs.Common.{
  ◌≡◌,
  ◌<◌,
  ◌+◌,
  ◌%◌,
  ℕ,
  List,
  length,
  get_or,
  set,
  map,
  ◌++◌,
  ◌∷◌,
  [],
  sym,
  subst,
  ap,
  ◌∙◌,
  arith,
  refl,
  Bool,
  true,
  false,
  not,
  ◌&&◌,
  eqb,
  IsTrue,
  Option,
  Some,
  None,
  IfSome,
  IfNone,
}
use Rattle.std.proofs.lemmas.List.{set-get_or, map-set, map-append, append_assoc, length-append, length-map, get_or-map}
use Rattle.ygg_cnf_set.specs.LiteralSet.{code_of}
use Rattle.std.proofs.lemmas.Bool.{false≢true}
use Rattle.std.specs.Bool.{beq}
use Rattle.ygg_cnf.proofs.Lits.{same_lit, same_from_ne, differ_from_ne}
use Rattle.ygg_cnf.specs.declared.lit.Lit.{Lit}
use Rattle.ygg_cnf_set.specs.Codes.{lit_at}
use Rattle.ygg_watch.specs.Links.{Linked, linked}
use Rattle.ygg_watch.specs.Lists.{lit_of, no_lit}
use Rattle.ygg_watch.specs.declared.links.WatchNode.{WatchNode}

-- what a changed node keeps
pub kept_at : {X : Type 0} (f : WatchNode → X) (nodes : List WatchNode) (i : ℕ) (old new : WatchNode) → i < length nodes → old ≡ get_or nodes i old →
    f new ≡ f old → map f (set nodes i new) ≡ map f nodes
kept_at f nodes i old new l is same =
    map-set f nodes i new
    ∙ (ap (set (map f nodes) i) (same ∙ (ap f is ∙ sym (get_or-map f nodes i old (f old) l)))
    ∙ set-get_or (map f nodes) i (f old))

pub literal_back : (x : Lit) → lit_at (code_of x) ≡ x
literal_back x =
    elim x.negated as (λ b. x.negated ≡ b → lit_at (code_of x) ≡ x) [
      | true ↦ λ p. let m : code_of x % 2 ≡ 1 = rw p (omega arith) in
          same_lit (lit_at (code_of x)) x (rw p (omega arith)) (rw m (sym p))
      | false ↦ λ p. let m : code_of x % 2 ≡ 0 = rw p (omega arith) in
          same_lit (lit_at (code_of x)) x (rw p (omega arith)) (rw m (sym p))
    ] refl

-- what a node's new place in a list leads to
pub next_linked : (now base : Linked) (next : List ℕ) (node to c : ℕ) → next ≡ set now.next node (get_or now.firsts to 0) → now.next ≡ base.next →
    now.firsts ≡ base.firsts → to ≡ c → next ≡ set base.next node (get_or base.firsts c 0)
next_linked now base next node to c is e1 e2 e3 = rw (is, e1, e2, e3) refl

pub firsts_linked : (now base : Linked) (firsts : List ℕ) (node to c : ℕ) → firsts ≡ set now.firsts to (node + 1) → now.firsts ≡ base.firsts → to ≡ c →
    firsts ≡ set base.firsts c (node + 1)
firsts_linked now base firsts node to c is e1 e2 = rw (is, e1, e2) refl

-- what is said of a literal that was found, or of none
pub some_more : {X : Type 0} (r : Option X) (P Q : X → Type 0) → ((x : X) → P x → Q x) → IfSome r P → IfSome r Q
some_more None P Q f h = h
some_more (Some x) P Q f h = f x h

pub none_more : {X : Type 0} (r : Option X) (P Q : Type 0) → (P → Q) → IfNone r P → IfNone r Q
none_more None P Q f h = f h
none_more (Some x) P Q f h = h

-- a watch has its node
pub node_here : (nodes : List WatchNode) (firsts : List ℕ) (now : Linked) (i : ℕ) → linked nodes firsts ≡ now → i < length now.watched → i < length nodes
node_here nodes firsts now i is l =
    let m : i < length (map (λ (n : WatchNode). lit_at n.code) nodes) = subst (λ (z : Linked). i < length z.watched) (sym is) l in rw length-map at m

-- the literal that is read from a node is the one that it watches
pub watch_read : (nodes : List WatchNode) (firsts : List ℕ) (now : Linked) (i : ℕ) (node : WatchNode) (x : Lit) → linked nodes firsts ≡ now →
    i < length now.watched → node ≡ get_or nodes i node → x ≡ lit_at node.code → x ≡ lit_of now.watched i
watch_read nodes firsts now i node x is l read e =
    e ∙ (ap (λ (n : WatchNode). lit_at n.code) read
    ∙ (sym (get_or-map (λ (n : WatchNode). lit_at n.code) nodes i node no_lit (node_here nodes firsts now i is l))
    ∙ ap (λ (z : Linked). lit_of z.watched i) is))

-- two new nodes at the end
pub two_more : {X : Type 0} (f : WatchNode → X) (nodes kept one two : List WatchNode) (new : WatchNode) → kept ≡ nodes → one ≡ kept ++ new ∷ [] →
    two ≡ one ++ new ∷ [] → map f two ≡ map f nodes ++ f new ∷ f new ∷ []
two_more f nodes kept one two new e1 e2 e3 = rw (e3, e2, e1) (simp (map-append, append_assoc))

pub two_longer : (nodes kept one two : List WatchNode) (new : WatchNode) → kept ≡ nodes → one ≡ kept ++ new ∷ [] → two ≡ one ++ new ∷ [] →
    length two ≡ length nodes + 2
two_longer nodes kept one two new e1 e2 e3 = rw (e3, e2, e1) (simp length-append (omega arith))

-- what the derived comparison answers
pub same_when : (x y : Lit) (b : Bool) → b ≡ (eqb x.var y.var && beq x.negated y.negated) → (IsTrue b → x ≡ y) × (x ≡ y → IsTrue b)
same_when x y true e = (λ _. same_from_ne x y false (ap not e) refl, λ _. refl)
same_when x y false e = (λ t. absurd (false≢true t), λ s. absurd (differ_from_ne x y true (ap not e) refl s))
