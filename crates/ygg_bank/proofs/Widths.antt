-- Widths of nodes.
use Rattle.std.proofs.Common.{
  ◌≡◌,
  ◌<◌,
  ◌≤◌,
  ℕ,
  zero,
  suc,
  ◌+◌,
  Some,
  List,
  [],
  ◌∷◌,
  ◌++◌,
  length,
  refl,
  sym,
  ap,
  ◌∙◌,
  subst,
  arith,
  length-append,
  append_assoc,
  take,
  slice_get,
}
use Rattle.std.proofs.lemmas.List.{append-nil}
use Rattle.ygg_value.specs.Number.{Number, IsWord}
use Rattle.ygg_value.specs.Words.{result_width}
use Rattle.ygg_value.specs.declared.operation.Op.{Op}
use Rattle.ygg_value.specs.declared.operation.Op.TheVariants as op
use Rattle.ygg_rules.specs.Views.{IsWidth}
use Rattle.ygg_bank.proofs.Places.{in_front, at_end, there_below, below_there, item_is}
use Rattle.ygg_bank.specs.Making.{id}
use Rattle.ygg_bank.specs.Nodes.{width_at, node_width, widths_after, widths_of, HasWidth, Stands, CanMake, InOrder, Extends}
use Rattle.ygg_bank.specs.declared.node.Id.{Id}
use Rattle.ygg_bank.specs.declared.node.Node.{Node}
use Rattle.ygg_bank.specs.declared.node.Node.TheVariants.{Input, Const, Bin, Not, Resize, Pick}

-- the widths after two lists of nodes are those after the second, begun with those after the first
pub after_append : (ws : List ℕ) (ns ms : List Node) → widths_after ws (ns ++ ms) ≡ widths_after (widths_after ws ns) ms
after_append ws [] ms = refl
after_append ws (n ∷ ns) ms = after_append (ws ++ node_width ws n ∷ []) ns ms

pub widths_more : (ns : List Node) (n : Node) → widths_of (ns ++ n ∷ []) ≡ widths_of ns ++ node_width (widths_of ns) n ∷ []
widths_more ns n = after_append [] ns (n ∷ [])

after_length : (ws : List ℕ) (ns : List Node) → length (widths_after ws ns) ≡ length ws + length ns
after_length ws [] = omega arith
after_length ws (n ∷ ns) = omega (arith, after_length (ws ++ node_width ws n ∷ []) ns, length-append ws (node_width ws n ∷ []))

pub widths_length : (ns : List Node) → length (widths_of ns) ≡ length ns
widths_length ns = omega (arith, after_length [] ns)

-- a width stays where more nodes come
pub after_keeps : (ws : List ℕ) (ns : List Node) (k w : ℕ) → slice_get ws k ≡ Some w → slice_get (widths_after ws ns) k ≡ Some w
after_keeps ws [] k w e = e
after_keeps ws (n ∷ ns) k w e = after_keeps (ws ++ node_width ws n ∷ []) ns k w (in_front ws (node_width ws n ∷ []) k w e)

pub wider : (old new : List Node) (a : Id) (w : ℕ) → Extends old new → HasWidth old a w → HasWidth new a w
wider old new a w h e =
    subst (λ ns. HasWidth ns a w) (sym h.is) (subst (λ ws. slice_get ws a.0 ≡ Some w) (sym (after_append [] old h.more))
    (after_keeps (widths_of old) h.more a.0 w e))

pub has_width : (nodes : List Node) (a : Id) → Stands nodes a → HasWidth nodes a (width_at (widths_of nodes) a)
has_width nodes a h = below_there (widths_of nodes) a.0 (omega (arith, widths_length nodes))

pub width_is : (nodes : List Node) (a : Id) (w : ℕ) → HasWidth nodes a w → width_at (widths_of nodes) a ≡ w
width_is nodes a w e = item_is (widths_of nodes) a.0 w e

pub stands : (nodes : List Node) (a : Id) (w : ℕ) → HasWidth nodes a w → Stands nodes a
stands nodes a w e = let h = there_below (widths_of nodes) a.0 w e in omega (arith, widths_length nodes)

-- nodes that only come after
pub extends_self : (nodes : List Node) → Extends nodes nodes
extends_self nodes = record { more = []; is = sym (append-nil nodes) }

pub extends_one : (nodes : List Node) (n : Node) → Extends nodes (nodes ++ n ∷ [])
extends_one nodes n = record { more = n ∷ []; is = refl }

pub extends_both : (a b c : List Node) → Extends a b → Extends b c → Extends a c
extends_both a b c g h = record { more = g.more ++ h.more; is = h.is ∙ ap (λ z. z ++ h.more) g.is ∙ append_assoc a g.more h.more }

pub extends_length : (a b : List Node) → Extends a b → length a ≤ length b
extends_length a b h = omega (arith, ap length h.is, length-append a h.more)

-- the width of a node that can be made stays the same with more widths
same_width : (ws : List ℕ) (ns : List Node) (a : Id) → a.0 < length ws → width_at ws a ≡ width_at (widths_after ws ns) a
same_width ws ns a h = sym (item_is (widths_after ws ns) a.0 (width_at ws a) (after_keeps ws ns a.0 (width_at ws a) (below_there ws a.0 h)))

node_keeps : (before : List Node) (ns : List Node) (n : Node) → CanMake before n →
    node_width (widths_of before) n ≡ node_width (widths_after (widths_of before) ns) n
node_keeps before ns (Input m w) c = refl
node_keeps before ns (Const k) c = refl
node_keeps before ns (Bin o a b) c = let h = c.one in ap (result_width o) (same_width (widths_of before) ns a (omega (arith, widths_length before)))
node_keeps before ns (Not a) c = same_width (widths_of before) ns a (omega (arith, widths_length before))
node_keeps before ns (Resize a w) c = refl
node_keeps before ns (Pick t a b) c = let h = c.yes in same_width (widths_of before) ns a (omega (arith, widths_length before))

-- each node has the width that the widths of all nodes give it
own_from : (before ns : List Node) → InOrder before ns → (k : ℕ) (n : Node) → slice_get ns k ≡ Some n →
    slice_get (widths_after (widths_of before) ns) (length before + k) ≡ Some (node_width (widths_after (widths_of before) ns) n)
own_from before [] o k n e = absurd (cc)
own_from before (m ∷ ns) o zero n e =
    let w = node_width (widths_of before) m in let ws = widths_of before ++ w ∷ [] in
    let here : m ≡ n = cc in
    let place : length (widths_of before) ≡ length before + zero = omega (arith, widths_length before) in
    subst (λ z. slice_get (widths_after ws ns) z ≡ Some (node_width (widths_after ws ns) n)) place
    (after_keeps ws ns (length (widths_of before)) w (at_end (widths_of before) w)
    ∙ ap (λ z. Some z) (node_keeps before (m ∷ ns) m o.0 ∙ ap (node_width (widths_after ws ns)) here))
own_from before (m ∷ ns) o (suc k) n e =
    let w = node_width (widths_of before) m in
    let place : length (before ++ m ∷ []) + k ≡ length before + suc k = omega (arith, length-append before (m ∷ [])) in
    subst (λ z. slice_get (widths_after (widths_of before ++ w ∷ []) ns) z ≡ Some (node_width (widths_after (widths_of before ++ w ∷ []) ns) n)) place
    (subst (λ ws. slice_get (widths_after ws ns) (length (before ++ m ∷ []) + k) ≡ Some (node_width (widths_after ws ns) n)) (widths_more before m)
    (own_from (before ++ m ∷ []) ns o.1 k n e))

pub own_width : (nodes : List Node) (k : ℕ) (n : Node) → InOrder [] nodes → slice_get nodes k ≡ Some n → HasWidth nodes (id k) (node_width (widths_of nodes) n)
own_width nodes k n o e =
    let place : 0 + k ≡ k = omega arith in
    subst (λ z. slice_get (widths_of nodes) z ≡ Some (node_width (widths_of nodes) n)) place (own_from [] nodes o k n e)

-- all widths are from 1 to 64
abbrev AllWidths : List ℕ → Type 0
AllWidths ws = (k w : ℕ) → slice_get ws k ≡ Some w → IsWidth w

push_width : (ws : List ℕ) (x : ℕ) → AllWidths ws → IsWidth x → AllWidths (ws ++ x ∷ [])
push_width [] x h p zero w e = let f : x ≡ w = cc in subst IsWidth f p
push_width [] x h p (suc k) w e = absurd (cc)
push_width (y ∷ ws) x h p zero w e = h 0 w e
push_width (y ∷ ws) x h p (suc k) w e = push_width ws x (λ j u f. h (suc j) u f) p k w e

pub result_width-fits : (o : Op) (w : ℕ) → IsWidth w → IsWidth (result_width o w)
result_width-fits op.Eq w h = record { least = omega arith; most = omega arith }
result_width-fits op.Ne w h = record { least = omega arith; most = omega arith }
result_width-fits op.Lt w h = record { least = omega arith; most = omega arith }
result_width-fits op.Le w h = record { least = omega arith; most = omega arith }
result_width-fits op.Gt w h = record { least = omega arith; most = omega arith }
result_width-fits op.Ge w h = record { least = omega arith; most = omega arith }
result_width-fits op.Imp w h = record { least = omega arith; most = omega arith }
result_width-fits _ w h = h

at_fits : (nodes : List Node) (a : Id) → AllWidths (widths_of nodes) → Stands nodes a → IsWidth (width_at (widths_of nodes) a)
at_fits nodes a h s = h a.0 (width_at (widths_of nodes) a) (has_width nodes a s)

node_fits : (before : List Node) (n : Node) → AllWidths (widths_of before) → CanMake before n → IsWidth (node_width (widths_of before) n)
node_fits before (Input m w) h c = c.0
node_fits before (Const k) h c = record { least = c.least; most = c.most }
node_fits before (Bin o a b) h c = result_width-fits o _ (at_fits before a h c.one)
node_fits before (Not a) h c = at_fits before a h c
node_fits before (Resize a w) h c = c.1
node_fits before (Pick t a b) h c = at_fits before a h c.yes

all_from : (before ns : List Node) → AllWidths (widths_of before) → InOrder before ns → AllWidths (widths_after (widths_of before) ns)
all_from before [] h o = h
all_from before (n ∷ ns) h o =
    let w = node_width (widths_of before) n in
    subst (λ ws. AllWidths (widths_after ws ns)) (widths_more before n)
    (all_from (before ++ n ∷ []) ns (subst AllWidths (sym (widths_more before n)) (push_width (widths_of before) w h (node_fits before n h o.0))) o.1)

pub width_fits : (nodes : List Node) (a : Id) (w : ℕ) → InOrder [] nodes → HasWidth nodes a w → IsWidth w
width_fits nodes a w o e = all_from [] nodes (λ k u f. absurd (cc)) o a.0 w e

-- a constant is a word
constant_from : (before ns : List Node) → InOrder before ns → (k : ℕ) (x : Number) → slice_get ns k ≡ Some (Const x) → IsWord x
constant_from before [] o k x e = absurd (cc)
constant_from before (n ∷ ns) o zero x e = let f : n ≡ Const x = cc in let c = subst (CanMake before) f o.0 in c
constant_from before (n ∷ ns) o (suc k) x e = constant_from (before ++ n ∷ []) ns o.1 k x e

pub constant_word : (nodes : List Node) (k : ℕ) (x : Number) → InOrder [] nodes → slice_get nodes k ≡ Some (Const x) → IsWord x
constant_word nodes k x o e = constant_from [] nodes o k x e

-- one more node that can be made keeps the order
pub ordered_more : (before ns : List Node) (n : Node) → InOrder before ns → CanMake (before ++ ns) n → InOrder before (ns ++ n ∷ [])
ordered_more before [] n o c = (subst (λ ms. CanMake ms n) (append-nil before) c, tt)
ordered_more before (m ∷ ns) n o c =
    (o.0, ordered_more (before ++ m ∷ []) ns n o.1 (subst (λ ms. CanMake ms n) (sym (append_assoc before (m ∷ []) ns)) c))

-- fewer nodes keep the order
pub ordered_fewer : (before ns ms : List Node) → InOrder before (ns ++ ms) → InOrder before ns
ordered_fewer before [] ms o = tt
ordered_fewer before (n ∷ ns) ms o = (o.0, ordered_fewer (before ++ n ∷ []) ns ms o.1)

-- each node can be made after those before it
before_can : (before ns : List Node) → InOrder before ns → (k : ℕ) (n : Node) → slice_get ns k ≡ Some n → CanMake (before ++ take k ns) n
before_can before [] o k n e = absurd (cc)
before_can before (m ∷ ns) o zero n e =
    let f : m ≡ n = cc in subst (CanMake (before ++ [])) f (subst (λ ms. CanMake ms m) (sym (append-nil before)) o.0)
before_can before (m ∷ ns) o (suc k) n e =
    subst (λ ms. CanMake ms n) (append_assoc before (m ∷ []) (take k ns)) (before_can (before ++ m ∷ []) ns o.1 k n e)

pub stored_can : (nodes : List Node) (k : ℕ) (n : Node) → InOrder [] nodes → slice_get nodes k ≡ Some n → CanMake (take k nodes) n
stored_can nodes k n o e = before_can [] nodes o k n e
