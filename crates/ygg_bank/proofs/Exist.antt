-- The values of nodes in order are such as the nodes give one another.
use Rattle.std.proofs.Common.{
  ◌≡◌,
  ◌<◌,
  ◌^◌,
  ℕ,
  zero,
  suc,
  ◌+◌,
  ◌==◌,
  Bool,
  true,
  false,
  if◌then◌else◌,
  Some,
  List,
  [],
  ◌∷◌,
  ◌++◌,
  length,
  refl,
  sym,
  ap,
  ◌∙◌,
  subst,
  arith,
  slice_get,
  length-append,
}
use Rattle.std.proofs.lemmas.List.{length_push, get_or_push, get_or_append_left}
use Rattle.ygg_value.proofs.Results.{apply_to-IsWord, not_of-IsWord, resized-IsWord}
use Rattle.ygg_value.specs.Number.{Number, IsWord}
use Rattle.ygg_value.specs.Words.{word, apply_to, not_of, resized, result_width}
use Rattle.ygg_rules.proofs.Widths.{can_apply-widths}
use Rattle.ygg_bank.proofs.Made.{made_ordered, made_grows}
use Rattle.ygg_bank.proofs.Meaning.{made_gives}
use Rattle.ygg_bank.proofs.Widths.{widths_more, widths_length, has_width}
use Rattle.ygg_bank.specs.Making.{id, made}
use Rattle.ygg_bank.specs.Nodes.{width_at, widths_after, widths_of, node_width, HasWidth, Stands, CanMake, InOrder, Extends}
use Rattle.ygg_bank.specs.Values.{Inputs, Values, node_value, reading, values_after, value_of, InputsFit, Fits, AnswersFor, KeepsValues}
use Rattle.ygg_bank.specs.declared.node.Id.{Id}
use Rattle.ygg_bank.specs.declared.node.Node.{Node}
use Rattle.ygg_bank.specs.declared.node.Node.TheVariants.{Input, Const, Bin, Not, Resize, Pick}
use Rattle.ygg_rules.specs.declared.rule.RuleKind.{RuleKind}

-- a node sees its children alone
pub sees : (inputs : Inputs) (v u : Values) (nodes : List Node) (n : Node) → CanMake nodes n → ((k : ℕ) → k < length nodes → v k ≡ u k) →
    node_value inputs v n ≡ node_value inputs u n
sees inputs v u nodes (Input m w) c e = refl
sees inputs v u nodes (Const k) c e = refl
sees inputs v u nodes (Bin o a b) c e = ap (λ x. apply_to o x (v b.0)) (e a.0 c.one) ∙ ap (apply_to o (u a.0)) (e b.0 c.two)
sees inputs v u nodes (Not a) c e = ap not_of (e a.0 c)
sees inputs v u nodes (Resize a w) c e = ap (λ x. resized x w) (e a.0 c.0)
sees inputs v u nodes (Pick t a b) c e =
    ap (λ x. if x.bits == 1 then v a.0 else v b.0) (e t.0 c.test) ∙ ap (λ x. if (u t.0).bits == 1 then x else v b.0) (e a.0 c.yes)
    ∙ ap (λ x. if (u t.0).bits == 1 then u a.0 else x) (e b.0 c.no)

-- values stay where more nodes come
stays : (inputs : Inputs) (vs : List Number) (ns : List Node) (k : ℕ) → k < length vs → reading (values_after inputs vs ns) k ≡ reading vs k
stays inputs vs [] k l = refl
stays inputs vs (n ∷ ns) k l =
    let x = node_value inputs (reading vs) n in
    stays inputs (vs ++ x ∷ []) ns k (omega (arith, length_push vs x)) ∙ get_or_append_left vs (x ∷ []) (word 1 0) k l

after_append : (inputs : Inputs) (vs : List Number) (ns ms : List Node) → values_after inputs vs (ns ++ ms) ≡ values_after inputs (values_after inputs vs ns) ms
after_append inputs vs [] ms = refl
after_append inputs vs (n ∷ ns) ms = after_append inputs (vs ++ node_value inputs (reading vs) n ∷ []) ns ms

after_length : (inputs : Inputs) (vs : List Number) (ns : List Node) → length (values_after inputs vs ns) ≡ length vs + length ns
after_length inputs vs [] = omega arith
after_length inputs vs (n ∷ ns) = let x = node_value inputs (reading vs) n in omega (arith, after_length inputs (vs ++ x ∷ []) ns, length_push vs x)

pub keeps_values : (old new : List Node) → Extends old new → KeepsValues old new
keeps_values old new h inputs k l =
    ap (λ ns. value_of inputs ns k) h.is ∙ ap (λ vs. reading vs k) (after_append inputs [] old h.more)
    ∙ stays inputs (values_after inputs [] old) h.more k (omega (arith, after_length inputs [] old))

-- each node has the value that its children give it
value_from : (inputs : Inputs) (before : List Node) (vs : List Number) (ns : List Node) → length vs ≡ length before → InOrder before ns →
    (k : ℕ) (n : Node) → slice_get ns k ≡ Some n →
    reading (values_after inputs vs ns) (length vs + k) ≡ node_value inputs (reading (values_after inputs vs ns)) n
value_from inputs before vs [] c o k n e = absurd (cc)
value_from inputs before vs (m ∷ ns) c o zero n e =
    let x = node_value inputs (reading vs) m in
    let all = values_after inputs (vs ++ x ∷ []) ns in
    let same : m ≡ n = cc in
    let place : length vs + zero ≡ length vs = omega arith in
    ap (reading all) place ∙ stays inputs (vs ++ x ∷ []) ns (length vs) (omega (arith, length_push vs x)) ∙ get_or_push vs x (word 1 0) (length vs) refl
    ∙ sees inputs (reading vs) (reading all) before m o.0
    (λ j l. sym (stays inputs (vs ++ x ∷ []) ns j (omega (arith, length_push vs x)) ∙ get_or_append_left vs (x ∷ []) (word 1 0) j (omega arith)))
    ∙ ap (node_value inputs (reading all)) same
value_from inputs before vs (m ∷ ns) c o (suc k) n e =
    let x = node_value inputs (reading vs) m in
    let place : length vs + suc k ≡ length (vs ++ x ∷ []) + k = omega (arith, length_push vs x) in
    ap (reading (values_after inputs (vs ++ x ∷ []) ns)) place
    ∙ value_from inputs (before ++ m ∷ []) (vs ++ x ∷ []) ns (omega (arith, length_push vs x, length-append before (m ∷ []))) o.1 k n e

pub value_is : (inputs : Inputs) (nodes : List Node) (k : ℕ) (n : Node) → InOrder [] nodes → slice_get nodes k ≡ Some n →
    value_of inputs nodes k ≡ node_value inputs (value_of inputs nodes) n
value_is inputs nodes k n o e =
    let z : 0 + k ≡ k = omega arith in ap (value_of inputs nodes) (sym z) ∙ value_from inputs [] [] nodes refl o k n e

-- the values have the widths of their nodes
abbrev Wide : List ℕ → Values → Type 0
Wide ws v = (k w : ℕ) → slice_get ws k ≡ Some w → (v k).width ≡ w

pick_width : (c : Bool) (a b : Number) (w : ℕ) → a.width ≡ w → b.width ≡ w → (if c then a else b).width ≡ w
pick_width true a b w e f = e
pick_width false a b w e f = f

child_width : (nodes : List Node) (v : Values) (a : Id) → Wide (widths_of nodes) v → Stands nodes a → (v a.0).width ≡ width_at (widths_of nodes) a
child_width nodes v a h s = h a.0 (width_at (widths_of nodes) a) (has_width nodes a s)

node_wide : (inputs : Inputs) (nodes : List Node) (v : Values) (n : Node) → Wide (widths_of nodes) v → CanMake nodes n →
    (node_value inputs v n).width ≡ node_width (widths_of nodes) n
node_wide inputs nodes v (Input m w) h c = refl
node_wide inputs nodes v (Const k) h c = refl
node_wide inputs nodes v (Bin o a b) h c = ap (result_width o) (child_width nodes v a h c.one)
node_wide inputs nodes v (Not a) h c = child_width nodes v a h c
node_wide inputs nodes v (Resize a w) h c = refl
node_wide inputs nodes v (Pick t a b) h c =
    pick_width ((v t.0).bits == 1) (v a.0) (v b.0) (width_at (widths_of nodes) a) (child_width nodes v a h c.yes) (child_width nodes v b h c.no ∙ sym c.widths)

push_wide : (ws : List ℕ) (vs : List Number) (w : ℕ) (x : Number) → length ws ≡ length vs → Wide ws (reading vs) → x.width ≡ w →
    Wide (ws ++ w ∷ []) (reading (vs ++ x ∷ []))
push_wide [] [] w x l h e zero u f = let g : w ≡ u = cc in e ∙ g
push_wide [] [] w x l h e (suc k) u f = absurd (cc)
push_wide [] (y ∷ vs) w x l h e k u f = absurd (omega (arith, l))
push_wide (y ∷ ws) [] w x l h e k u f = absurd (omega (arith, l))
push_wide (y ∷ ws) (z ∷ vs) w x l h e zero u f = h 0 u f
push_wide (y ∷ ws) (z ∷ vs) w x l h e (suc k) u f = push_wide ws vs w x (omega (arith, l)) (λ j t g. h (suc j) t g) e k u f

wide_from : (inputs : Inputs) (before : List Node) (vs : List Number) (ns : List Node) → length vs ≡ length before →
    Wide (widths_of before) (reading vs) → InOrder before ns →
    Wide (widths_after (widths_of before) ns) (reading (values_after inputs vs ns))
wide_from inputs before vs [] c h o = h
wide_from inputs before vs (n ∷ ns) c h o =
    let x = node_value inputs (reading vs) n in
    let w = node_width (widths_of before) n in
    subst (λ ws. Wide (widths_after ws ns) (reading (values_after inputs (vs ++ x ∷ []) ns))) (widths_more before n)
    (wide_from inputs (before ++ n ∷ []) (vs ++ x ∷ []) ns (omega (arith, length_push vs x, length-append before (n ∷ [])))
    (subst (λ ws. Wide ws (reading (vs ++ x ∷ []))) (sym (widths_more before n))
    (push_wide (widths_of before) vs w x (omega (arith, widths_length before)) h (node_wide inputs before (reading vs) n h o.0))) o.1)

pub value_width : (inputs : Inputs) (nodes : List Node) (k w : ℕ) → InOrder [] nodes → HasWidth nodes (id k) w → (value_of inputs nodes k).width ≡ w
value_width inputs nodes k w o e = wide_from inputs [] [] nodes refl (λ j u f. absurd (cc)) o k w e

-- all values are words
digit_word : IsWord (word 1 0)
digit_word = record { least = omega arith; most = omega arith; fits = omega arith }

pick_word : (c : Bool) (a b : Number) → IsWord a → IsWord b → IsWord (if c then a else b)
pick_word true a b p q = p
pick_word false a b p q = q

-- inputs fit their widths
abbrev Given : Inputs → Node → Type 0
Given inputs (Input m w) = inputs m < 2 ^ w
Given inputs n = Unit {0}

node_word : (inputs : Inputs) (nodes : List Node) (v : Values) (n : Node) → Wide (widths_of nodes) v → ((k : ℕ) → IsWord (v k)) → Given inputs n →
    CanMake nodes n → IsWord (node_value inputs v n)
node_word inputs nodes v (Input m w) h p g c = record { least = c.0.least; most = c.0.most; fits = g }
node_word inputs nodes v (Const k) h p g c = c
node_word inputs nodes v (Bin o a b) h p g c =
    apply_to-IsWord o (v a.0) (v b.0) (p a.0) (p b.0)
    (can_apply-widths o (v a.0) (v b.0) (width_at (widths_of nodes) a) (width_at (widths_of nodes) b) (child_width nodes v a h c.one)
    (child_width nodes v b h c.two) c.widths)
node_word inputs nodes v (Not a) h p g c = not_of-IsWord (v a.0) (p a.0)
node_word inputs nodes v (Resize a w) h p g c = resized-IsWord (v a.0) w c.1.least c.1.most
node_word inputs nodes v (Pick t a b) h p g c = pick_word ((v t.0).bits == 1) (v a.0) (v b.0) (p a.0) (p b.0)

push_word : (vs : List Number) (x : Number) → ((k : ℕ) → IsWord (reading vs k)) → IsWord x → (k : ℕ) → IsWord (reading (vs ++ x ∷ []) k)
push_word [] x h s zero = s
push_word [] x h s (suc k) = digit_word
push_word (y ∷ vs) x h s zero = h zero
push_word (y ∷ vs) x h s (suc k) = push_word vs x (λ j. h (suc j)) s k

given_at : (inputs : Inputs) (n : Node) (ns : List Node) → InputsFit inputs (n ∷ ns) → Given inputs n
given_at inputs (Input m w) ns h = h 0 m w refl
given_at inputs (Const k) ns h = tt
given_at inputs (Bin o a b) ns h = tt
given_at inputs (Not a) ns h = tt
given_at inputs (Resize a w) ns h = tt
given_at inputs (Pick t a b) ns h = tt

words_from : (inputs : Inputs) (before : List Node) (vs : List Number) (ns : List Node) → length vs ≡ length before →
    Wide (widths_of before) (reading vs) → ((k : ℕ) → IsWord (reading vs k)) →
    InputsFit inputs ns → InOrder before ns → (k : ℕ) → IsWord (reading (values_after inputs vs ns) k)
words_from inputs before vs [] c h p g o k = p k
words_from inputs before vs (n ∷ ns) c h p g o k =
    let x = node_value inputs (reading vs) n in
    let w = node_width (widths_of before) n in
    words_from inputs (before ++ n ∷ []) (vs ++ x ∷ []) ns (omega (arith, length_push vs x, length-append before (n ∷ [])))
    (subst (λ ws. Wide ws (reading (vs ++ x ∷ []))) (sym (widths_more before n))
    (push_wide (widths_of before) vs w x (omega (arith, widths_length before)) h (node_wide inputs before (reading vs) n h o.0)))
    (push_word vs x p (node_word inputs before (reading vs) n h p (given_at inputs n ns g) o.0))
    (λ place m u e. g (suc place) m u e) o.1 k

-- nodes in order, whose inputs fit, have values that fit
pub values_fit : (inputs : Inputs) (nodes : List Node) → InOrder [] nodes → InputsFit inputs nodes → Fits inputs (value_of inputs nodes) nodes
values_fit inputs nodes o g = record {
  ordered = o;
  words = words_from inputs [] [] nodes refl (λ j u f. absurd (cc)) (λ k. digit_word) g o;
  widths = λ k w e. value_width inputs nodes k w o e;
  values = λ k n e. value_is inputs nodes k n o e;
}

-- a made node has the value of the node that was asked for
pub made_answers : (kinds : List RuleKind) (n : Node) (nodes : List Node) → InOrder [] nodes → CanMake nodes n →
    AnswersFor nodes n (made kinds n nodes).nodes (made kinds n nodes).value
made_answers kinds n nodes o c inputs g =
    let new = (made kinds n nodes).nodes in
    let h = values_fit inputs new (made_ordered kinds n nodes o c) g in
    made_gives inputs (value_of inputs new) kinds n nodes c h
    ∙ sees inputs (value_of inputs new) (value_of inputs nodes) nodes n c (keeps_values nodes new (made_grows kinds n nodes) inputs)
