-- The environment of a circuit's inputs gives each input that is reached the number of its bits.
use Rattle.std.proofs.Common.{
  ◌≡◌,
  ◌≢◌,
  ◌<◌,
  ◌≤◌,
  ℕ,
  ◌==◌,
  Bool,
  true,
  false,
  if◌then◌else◌,
  Option,
  Some,
  None,
  List,
  [],
  ◌∷◌,
  ◌++◌,
  length,
  slice_get,
  ⊎_elim,
  ◌⊎◌,
  inl,
  inr,
  sym,
  ap,
  ◌∙◌,
  arith,
  refl,
}
use Rattle.std.proofs.lemmas.Bool.{false≢true, cases_lt, cases_eq, eq-eqb, ne_eqb}
use Rattle.std.proofs.lemmas.List.{append-nil, map-append}
use Rattle.ygg_value.specs.Number.{Number}
use Rattle.ygg_value.specs.Words.{word}
use Rattle.ygg_bank.proofs.Widths.{stored_can}
use Rattle.ygg_bank.specs.Making.{id}
use Rattle.ygg_bank.specs.Nodes.{InOrder, Distinct}
use Rattle.ygg_bank.specs.Values.{given_for}
use Rattle.ygg_bank.specs.declared.env.Given.{Given}
use Rattle.ygg_bank.specs.declared.env.Given.TheVariants as given
use Rattle.ygg_bank.specs.declared.node.Node.{Node}
use Rattle.ygg_bank.specs.declared.node.Node.TheVariants.{Input, Const, Bin, Not, Resize, Pick}
use Rattle.ygg_gates.specs.Circuits.{next_variable}
use Rattle.ygg_gates.specs.Groups.{Circuit, bits_at, node_bits, with_node, with_nodes}
use Rattle.ygg_gates.specs.Sources.{number_from, given_by, environment_by}
use Rattle.ygg_gates.proofs.Lists.{among_first}
use Rattle.ygg_gates.proofs.BitNumbers.{number}
use Rattle.ygg_gates.proofs.Shapes.{IsNext, IsPart, last_bits, next_good, next_length, next_same, part_next, part_step, rest_later}
use Rattle.ygg_gates.proofs.CircuitSteps.{follows_before}
use Rattle.ygg_gates.proofs.Truths.{Follows}

-- the environment so far
abbrev pub env_of : (ℕ → Bool) → Circuit → List Given
env_of v c = environment_by v c.sources

-- each input that is reached is given the number of its bits
abbrev pub Looked : List Node → (ℕ → Bool) → (ℕ → Bool) → Circuit → Type 0
Looked ns r v c = (q m w : ℕ) → q < length c.table → r q ≡ true → slice_get ns q ≡ Some (Input m w) →
    given_for (env_of v c) m ≡ Some (word w (number v (bits_at c.table (id q))))

-- an input of this number and width, among the nodes before a place
pub record Owner (ns : List Node) (k m w : ℕ) : Type 0 where
  pub place : ℕ
  pub below : place < k
  pub there : slice_get ns place ≡ Some (Input m w)

-- what is given is given for an input
abbrev pub Known : List Node → (ℕ → Bool) → Circuit → Type 0
Known ns v c = (m : ℕ) (x : Number) → given_for (env_of v c) m ≡ Some x → Owner ns (length c.table) m x.width

-- what is given first stays
given_keeps : (env more : List Given) (m : ℕ) (x : Number) → given_for env m ≡ Some x → given_for (env ++ more) m ≡ Some x
given_keeps [] more m x e = absurd (cc)
given_keeps (given.Word n w ∷ env) more m x e =
    (elim (n == m) as (λ b. (if b then Some w else given_for env m) ≡ Some x → (if b then Some w else given_for (env ++ more) m) ≡ Some x)
    [ true ↦ (λ f. f) | false ↦ given_keeps env more m x ]) e

-- what isn't given before is given by the last item
given_last : (env : List Given) (m : ℕ) (x : Number) → given_for env m ≡ None → given_for (env ++ given.Word m x ∷ []) m ≡ Some x
given_last [] m x e = ap (λ b. if b then Some x else None) (eq-eqb m m refl)
given_last (given.Word n w ∷ env) m x e =
    (elim (n == m) as (λ b. (if b then Some w else given_for env m) ≡ None → (if b then Some w else given_for (env ++ given.Word m x ∷ []) m) ≡ Some x)
    [ true ↦ (λ f. absurd (cc)) | false ↦ given_last env m x ]) e

-- what is given with one more item was given before, or by that item
given_more : (env : List Given) (n : ℕ) (w : Number) (m : ℕ) (x : Number) → given_for (env ++ given.Word n w ∷ []) m ≡ Some x →
    (given_for env m ≡ Some x) ⊎ ((n ≡ m) × (w ≡ x))
given_more [] n w m x e =
    ⊎_elim (λ (s : n ≡ m). let f : Some w ≡ Some x = ap (λ b. if b then Some w else None) (sym (eq-eqb n m s)) ∙ e in inr (s, cc))
    (λ (d : n ≢ m). let f : None ≡ Some x = ap (λ b. if b then Some w else None) (sym (ne_eqb n m d)) ∙ e in absurd (cc)) (cases_eq n m)
given_more (given.Word k u ∷ env) n w m x e =
    (elim (k == m) as (λ b. (if b then Some u else given_for (env ++ given.Word n w ∷ []) m) ≡ Some x →
    ((if b then Some u else given_for env m) ≡ Some x) ⊎ ((n ≡ m) × (w ≡ x)))
    [ true ↦ (λ f. inl f) | false ↦ given_more env n w m x ]) e

-- two inputs of one number have one width
pub one_width : (ns : List Node) (q k m u w : ℕ) → InOrder [] ns → q < k → slice_get ns q ≡ Some (Input m u) → slice_get ns k ≡ Some (Input m w) → u ≡ w
one_width ns q k m u w o l e f = let c = stored_can ns k (Input m w) o f in c.1 q u (among_first ns k q (Input m u) l e)

-- nothing is given for an input that is to come
unknown : (ns : List Node) (v : ℕ → Bool) (c : Circuit) (m w : ℕ) → InOrder [] ns → Distinct ns → Known ns v c →
    slice_get ns (length c.table) ≡ Some (Input m w) → given_for (env_of v c) m ≡ None
unknown ns v c m w o d k e = look (given_for (env_of v c) m) refl where
  look : (x : Option Number) → given_for (env_of v c) m ≡ x → given_for (env_of v c) m ≡ None
  look None f = f
  look (Some x) f =
      let owner = k m x f in
      let same : x.width ≡ w = one_width ns owner.place (length c.table) m x.width w o owner.below owner.there e in
      let here : slice_get ns owner.place ≡ Some (Input m w) = owner.there ∙ ap (λ z. Some (Input m z)) same in
      absurd (let s = d owner.place (length c.table) (Input m w) here e in let b = owner.below in omega (arith, s, b))

-- what is looked up and known, for a circuit
pub record Sourced (ns : List Node) (r v : ℕ → Bool) (c : Circuit) : Type 0 where
  pub looked : Looked ns r v c
  pub known : Known ns v c

wider_owner : (ns : List Node) (k l m w : ℕ) → k ≤ l → Owner ns k m w → Owner ns l m w
wider_owner ns k l m w h o = record { place = o.place; below = (let b = o.below in omega arith); there = o.there }

-- a node that adds no input
plain_next : (ns : List Node) (r v : ℕ → Bool) (c : Circuit) (n : Node) (b : Bool) → IsNext ns r c n → (with_node b n c).sources ≡ c.sources →
    (r (length c.table) ≡ true → (m w : ℕ) → n ≡ Input m w → ⊥) → Sourced ns r v c → Sourced ns r v (with_node b n c)
plain_next ns r v c n b h e none s =
    let more = next_length b n c in
    record {
      looked = λ q m w l f g.
          ⊎_elim
          (λ (i : q < length c.table).
          ap (λ z. given_for (environment_by v z) m) e ∙ s.looked q m w i f g ∙ ap (λ z. Some (word w (number v z))) (sym (next_same b n c q i)))
          (λ (i : length c.table ≤ q).
          let p : q ≡ length c.table = omega (arith, more, l, i) in
          let same : Some n ≡ Some (Input m w) = sym h.there ∙ ap (slice_get ns) (sym p) ∙ g in
          absurd (none (ap r (sym p) ∙ f) m w (cc)))
          (cases_lt q (length c.table));
      known = λ m x f.
          wider_owner ns (length c.table) (length (with_node b n c).table) m x.width (omega (arith, more))
          (s.known m x (ap (λ z. given_for (environment_by v z) m) (sym e) ∙ f));
    }

-- an input that is reached
input_next : (ns : List Node) (r v : ℕ → Bool) (c : Circuit) (k u : ℕ) → IsNext ns r c (Input k u) → Distinct ns →
    number v (node_bits c.table (Input k u) c.gates).value ≡ number_from v (next_variable c.gates) u →
    Sourced ns r v c → Sourced ns r v (with_node true (Input k u) c)
input_next ns r v c k u h d e s =
    let n : Node = Input k u in
    let more = next_length true n c in
    let x : Number = word u (number_from v (next_variable c.gates) u) in
    let item : Given = given.Word k x in
    let all : env_of v (with_node true n c) ≡ env_of v c ++ item ∷ [] =
    map-append (given_by v) c.sources (record { number = k; width = u; first = next_variable c.gates } ∷ []) in
    record {
      looked = λ q m w l f g.
          ⊎_elim
          (λ (i : q < length c.table).
          ap (λ z. given_for z m) all ∙ given_keeps (env_of v c) (item ∷ []) m (word w (number v (bits_at c.table (id q)))) (s.looked q m w i f g)
          ∙ ap (λ z. Some (word w (number v z))) (sym (next_same true n c q i)))
          (λ (i : length c.table ≤ q).
          let p : q ≡ length c.table = omega (arith, more, l, i) in
          let same : Some n ≡ Some (Input m w) = sym h.there ∙ ap (slice_get ns) (sym p) ∙ g in
          let number_is : k ≡ m = cc in
          let width_is : u ≡ w = cc in
          let bits : bits_at (with_node true n c).table (id q) ≡ (node_bits c.table n c.gates).value =
          ap (λ z. bits_at (with_node true n c).table (id z)) p ∙ last_bits c.table (node_bits c.table n c.gates).value in
          let none = unknown ns v c k u h.ordered d s.known h.there in
          ap (λ z. given_for z m) all ∙ ap (given_for (env_of v c ++ item ∷ [])) (sym number_is) ∙ given_last (env_of v c) k x none
          ∙ ap (λ z. Some (word u z)) (sym e) ∙ ap (λ z. Some (word z (number v (node_bits c.table n c.gates).value))) width_is
          ∙ ap (λ z. Some (word w (number v z))) (sym bits))
          (cases_lt q (length c.table));
      known = λ m y f.
          ⊎_elim
          (λ (g : given_for (env_of v c) m ≡ Some y). wider_owner ns (length c.table) (length (with_node true n c).table) m y.width
          (omega (arith, more)) (s.known m y g))
          (λ (g : (k ≡ m) × (x ≡ y)).
          let there : slice_get ns (length c.table) ≡ Some (Input m y.width) = h.there ∙ ap (λ z. Some (Input z u)) g.0
          ∙ ap (λ (z : Number). Some (Input m z.width)) g.1 in
          record { place = length c.table; below = omega (arith, more); there = there })
          (given_more (env_of v c) k x m y (ap (λ z. given_for z m) (sym all) ∙ f));
    }

sourced_next : (ns : List Node) (r v : ℕ → Bool) (c : Circuit) (n : Node) (b : Bool) → IsNext ns r c n → r (length c.table) ≡ b → Distinct ns →
    v 1 ≡ true → Follows v 2 (with_node b n c).gates → Sourced ns r v c → Sourced ns r v (with_node b n c)
sourced_next ns r v c n false h e d t f s = plain_next ns r v c n false h refl (λ g m w i. false≢true (sym e ∙ g)) s
sourced_next ns r v c (Input m w) true h e d t f s = let g = next_good ns r c (Input m w) h e in input_next ns r v c m w h d (g.means v t f) s
sourced_next ns r v c (Const k) true h e d t f s = plain_next ns r v c (Const k) true h (append-nil c.sources) (λ g m w i. cc) s
sourced_next ns r v c (Bin o a b) true h e d t f s = plain_next ns r v c (Bin o a b) true h (append-nil c.sources) (λ g m w i. cc) s
sourced_next ns r v c (Not a) true h e d t f s = plain_next ns r v c (Not a) true h (append-nil c.sources) (λ g m w i. cc) s
sourced_next ns r v c (Resize a w) true h e d t f s = plain_next ns r v c (Resize a w) true h (append-nil c.sources) (λ g m u i. cc) s
sourced_next ns r v c (Pick p a b) true h e d t f s = plain_next ns r v c (Pick p a b) true h (append-nil c.sources) (λ g m w i. cc) s

-- all that is looked up and known in the end
pub rest_sourced : (ns before rest : List Node) (r v : ℕ → Bool) (c : Circuit) → IsPart ns before rest r c → Distinct ns → v 1 ≡ true →
    Follows v 2 (with_nodes r rest c).gates → Sourced ns r v c → Sourced ns r v (with_nodes r rest c)
rest_sourced ns before [] r v c h d t f s = s
rest_sourced ns before (n ∷ rest) r v c h d t f s =
    let next : Circuit = with_node (r (length c.table)) n c in
    let step = part_step ns before n rest r c h in
    let late = rest_later ns (before ++ n ∷ []) rest r next step in
    rest_sourced ns (before ++ n ∷ []) rest r v next step d t f
    (sourced_next ns r v c n (r (length c.table)) (part_next ns before n rest r c h) refl d t
    (follows_before v next.gates (with_nodes r rest next).gates late.grows f) s)
