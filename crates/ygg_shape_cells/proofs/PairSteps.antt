-- What the code of pairs answers is what the definitions say.
use Rattle.std.proofs.Common.{◌≡◌, ◌<◌, ◌≤◌, ℕ, ◌+◌, Bool, List, [], ◌∷◌, ◌++◌}
use Rattle.std.proofs.Common.{length, drop, get_or, append_assoc, append-nil, refl, sym, ap, ◌∙◌, arith}
use Rattle.std.proofs.lemmas.List.{drop_all}
use Rattle.ygg_shape_words.specs.ygg_bank.declared.node.Id.{Id}
use Rattle.ygg_shape_words.specs.ygg_bank.declared.node.Node.{Node}
use Rattle.ygg_shape_cells.proofs.Steps.{rest_is}
use Rattle.ygg_shape_cells.specs.Pairs.{unequal, differing, sides_of, sides, without_of, without}
use Rattle.ygg_shape_cells.specs.declared.pairs.Pair.{Pair}

-- what was put for the items so far, and what is put for the rest
put_on : {X : Type 0} (found own rest left more whole : List X) → more ≡ found ++ own → left ≡ own ++ rest → found ++ left ≡ whole → more ++ rest ≡ whole
put_on found own rest left more whole e g w =
    ap (λ z. z ++ rest) e ∙ append_assoc found own rest ∙ ap (λ z. found ++ z) (sym g) ∙ w

put_all : {X : Type 0} (found left whole : List X) → left ≡ [] → found ++ left ≡ whole → found ≡ whole
put_all found left whole e w = sym (append-nil found) ∙ ap (λ z. found ++ z) (sym e) ∙ w

-- the pairs of two rows before a place
pub record DifferingSoFar (one two : List Id) (i : ℕ) (found : List Pair) : Type 0 where
  pub is : found ++ differing (drop i one) (drop i two) ≡ differing one two

pub differing_goes : (one two : List Id) (i : ℕ) (d : Id) (found more : List Pair) → i < length one → length one ≡ length two →
    more ≡ found ++ unequal (get_or one i d) (get_or two i d) → DifferingSoFar one two i found → DifferingSoFar one two (i + 1) more
differing_goes one two i d found more l e g h =
    let a = get_or one i d in
    let b = get_or two i d in
    record {
      is = put_on found (unequal a b) (differing (drop (i + 1) one) (drop (i + 1) two)) (differing (drop i one) (drop i two)) more (differing one two) g
          (ap (λ z. differing z (drop i two)) (rest_is one i a d l refl)
          ∙ ap (λ z. differing (a ∷ drop (i + 1) one) z) (rest_is two i b d (omega arith) refl)) h.is;
    }

pub differing_done : (one two : List Id) (i : ℕ) (found : List Pair) → length one ≤ i → DifferingSoFar one two i found → found ≡ differing one two
differing_done one two i found l h =
    put_all found (differing (drop i one) (drop i two)) (differing one two) (ap (λ z. differing z (drop i two)) (drop_all i one l)) h.is

-- the sides of the pairs before a place
pub record SidesSoFar (nodes : List Node) (t : Id) (value : Bool) (ps : List Pair) (i : ℕ) (found : List Pair) : Type 0 where
  pub is : found ++ sides nodes t value (drop i ps) ≡ sides nodes t value ps

pub sides_goes : (nodes : List Node) (t : Id) (value : Bool) (ps : List Pair) (i : ℕ) (d : Pair) (found more : List Pair) → i < length ps →
    more ≡ found ++ sides_of nodes t value (get_or ps i d) → SidesSoFar nodes t value ps i found → SidesSoFar nodes t value ps (i + 1) more
sides_goes nodes t value ps i d found more l g h =
    let p = get_or ps i d in
    record {
      is = put_on found (sides_of nodes t value p) (sides nodes t value (drop (i + 1) ps)) (sides nodes t value (drop i ps)) more (sides nodes t value ps) g
          (ap (sides nodes t value) (rest_is ps i p d l refl)) h.is;
    }

pub sides_done : (nodes : List Node) (t : Id) (value : Bool) (ps : List Pair) (i : ℕ) (found : List Pair) → length ps ≤ i →
    SidesSoFar nodes t value ps i found → found ≡ sides nodes t value ps
sides_done nodes t value ps i found l h =
    put_all found (sides nodes t value (drop i ps)) (sides nodes t value ps) (ap (sides nodes t value) (drop_all i ps l)) h.is

-- the pairs before a place that don't have the test
pub record WithoutSoFar (nodes : List Node) (t : Id) (ps : List Pair) (i : ℕ) (found : List Pair) : Type 0 where
  pub is : found ++ without nodes t (drop i ps) ≡ without nodes t ps

pub without_goes : (nodes : List Node) (t : Id) (ps : List Pair) (i : ℕ) (d : Pair) (found more : List Pair) → i < length ps →
    more ≡ found ++ without_of nodes t (get_or ps i d) → WithoutSoFar nodes t ps i found → WithoutSoFar nodes t ps (i + 1) more
without_goes nodes t ps i d found more l g h =
    let p = get_or ps i d in
    record {
      is = put_on found (without_of nodes t p) (without nodes t (drop (i + 1) ps)) (without nodes t (drop i ps)) more (without nodes t ps) g
          (ap (without nodes t) (rest_is ps i p d l refl)) h.is;
    }

pub without_done : (nodes : List Node) (t : Id) (ps : List Pair) (i : ℕ) (found : List Pair) → length ps ≤ i → WithoutSoFar nodes t ps i found →
    found ≡ without nodes t ps
without_done nodes t ps i found l h =
    put_all found (without nodes t (drop i ps)) (without nodes t ps) (ap (without nodes t) (drop_all i ps l)) h.is
