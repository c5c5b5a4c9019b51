-- Which nodes the forms of picks and comparisons name, and that these can be made.
use Rattle.std.proofs.Common.{◌≡◌, ◌==◌, ◌&&◌, ℕ, Bool, true, false, if◌then◌else◌, Option, Some, None, List, [], ◌∷◌, ◌++◌, slice_get, refl, sym, ap, ◌∙◌}
use Rattle.std.proofs.Common.{subst}
use Rattle.std.specs.Prelude.{nat_lt}
use Rattle.std.proofs.lemmas.Bool.Decides.{Decides-eqb}
use Rattle.std.proofs.lemmas.List.Elements.{All-head, All-tail, All-push, All-weaker}
use Rattle.ygg_value.specs.Number.{Number}
use Rattle.ygg_value.specs.declared.operation.Op.TheVariants.{And, Or, Eq}
use Rattle.std.proofs.lemmas.Nat.{pow_pos}
use Rattle.ygg_bank.proofs.Exist.{values_fit}
use Rattle.ygg_bank.proofs.Fitting.{constant_there}
use Rattle.ygg_bank.specs.Values.{Inputs, Fits, Values, value_of}
use Rattle.ygg_bank.proofs.Widths.{wider, stands, width_is, has_width, own_width, constant_word}
use Rattle.ygg_bank.specs.Making.{known_in}
use Rattle.ygg_bank.specs.Nodes.{width_at, widths_of, HasWidth, CanBin, CanPick, InOrder, Extends}
use Rattle.ygg_bank.specs.declared.node.Id.{Id}
use Rattle.ygg_bank.specs.declared.node.Node.{Node}
use Rattle.ygg_bank.specs.declared.node.Node.TheVariants.{Const, Pick}
use Rattle.ygg_shape_words.specs.Picking.{choice_of, choice_at, ChoiceFits}
use Rattle.ygg_shape_words.proofs.Children.{PickHas, pick_children}
use Rattle.ygg_shape_words.proofs.Undone.{IsAgainst, against_is}
use Rattle.ygg_shape_words.specs.Forms.{WordsAlike, FormFits, against, against_known, form_of}
use Rattle.ygg_shape_words.specs.Same.{SoFar, KnownFit, learned, form_at, form_unless, known_for}
use Rattle.ygg_shape_words.specs.declared.comparing.Compared.{Compared}
use Rattle.ygg_shape_words.specs.declared.picking.Choice.TheVariants as choice
use Rattle.ygg_shape_words.specs.declared.forms.Form.{Form}
use Rattle.ygg_shape_words.specs.declared.forms.Form.TheVariants as form

pub can_or : (nodes : List Node) (a b : Id) (w : ℕ) → HasWidth nodes a w → HasWidth nodes b w → CanBin nodes Or a b
can_or nodes a b w p q = record { one = stands nodes a w p; two = stands nodes b w q; widths = width_is nodes a w p ∙ sym (width_is nodes b w q) }

pub can_and : (nodes : List Node) (a b : Id) (w : ℕ) → HasWidth nodes a w → HasWidth nodes b w → CanBin nodes And a b
can_and nodes a b w p q = record { one = stands nodes a w p; two = stands nodes b w q; widths = width_is nodes a w p ∙ sym (width_is nodes b w q) }

pub can_equal : (nodes : List Node) (a b : Id) (w : ℕ) → HasWidth nodes a w → HasWidth nodes b w → CanBin nodes Eq a b
can_equal nodes a b w p q = record { one = stands nodes a w p; two = stands nodes b w q; widths = width_is nodes a w p ∙ sym (width_is nodes b w q) }

pub can_pick : (nodes : List Node) (t a b : Id) (w : ℕ) → HasWidth nodes t 1 → HasWidth nodes a w → HasWidth nodes b w → CanPick nodes t a b
can_pick nodes t a b w h p q = record {
  test = stands nodes t 1 h;
  yes = stands nodes a w p;
  no = stands nodes b w q;
  digit = width_is nodes t 1 h;
  widths = width_is nodes a w p ∙ sym (width_is nodes b w q);
}

-- the way to make a pick fits the words
choice_case : (nodes : List Node) (a b : Id) (c d : Bool) (k l : Option Number) → (a.0 == b.0) ≡ c → (width_at (widths_of nodes) a == 1) ≡ d →
    ChoiceFits nodes a b (choice_of c d k l)
choice_case nodes a b true d k l e f = (Decides-eqb a.0 b.0).0 e
choice_case nodes a b false false k l e f = tt
choice_case nodes a b false true (Some k) l e f = digit_case (k.bits == 1) where
  digit_case : (c : Bool) → ChoiceFits nodes a b (if c then choice.YesIsOne else choice.YesIsZero)
  digit_case true = (Decides-eqb (width_at (widths_of nodes) a) 1).0 f
  digit_case false = (Decides-eqb (width_at (widths_of nodes) a) 1).0 f
choice_case nodes a b false true None (Some k) e f = digit_case (k.bits == 1) where
  digit_case : (c : Bool) → ChoiceFits nodes a b (if c then choice.NoIsOne else choice.NoIsZero)
  digit_case true = (Decides-eqb (width_at (widths_of nodes) a) 1).0 f
  digit_case false = (Decides-eqb (width_at (widths_of nodes) a) 1).0 f
choice_case nodes a b false true None None e f = tt

pub choice_fits : (nodes : List Node) (a b : Id) → ChoiceFits nodes a b (choice_at nodes a b)
choice_fits nodes a b = choice_case nodes a b (a.0 == b.0) (width_at (widths_of nodes) a == 1) (known_in (slice_get nodes a.0))
    (known_in (slice_get nodes b.0)) refl refl

known_here : (nodes : List Node) (k : Compared) (ks : List Compared) (a b c : Id) (t : Bool) → KnownFit nodes (k ∷ ks) →
    (if t then Some k.answer else known_for ks a b) ≡ Some c →
    (known_for ks a b ≡ Some c → HasWidth nodes c 1) → HasWidth nodes c 1
known_here nodes k ks a b c true h e r =
    let g : k.answer ≡ c = cc in subst (λ z. HasWidth nodes z 1) g (All-head (λ (z : Compared). HasWidth nodes z.answer 1) k ks h)
known_here nodes k ks a b c false h e r = r e

-- what is known of pairs
pub known_there : (nodes : List Node) (ks : List Compared) (a b : Id) (c : Id) → KnownFit nodes ks → known_for ks a b ≡ Some c → HasWidth nodes c 1
known_there nodes [] a b c h e = absurd (cc)
known_there nodes (k ∷ ks) a b c h e =
    known_here nodes k ks a b c (k.one.0 == a.0 && k.two.0 == b.0) h e
    (known_there nodes ks a b c (All-tail (λ (z : Compared). HasWidth nodes z.answer 1) k ks h))

pub known_wider : (old new : List Node) (ks : List Compared) → Extends old new → KnownFit old ks → KnownFit new ks
known_wider old new ks g h = All-weaker (λ (k : Compared). HasWidth old k.answer 1) (λ (k : Compared). HasWidth new k.answer 1)
    (λ k. wider old new k.answer 1 g) ks h

pub known_more : (nodes : List Node) (ks : List Compared) (k : Compared) → KnownFit nodes ks → HasWidth nodes k.answer 1 → KnownFit nodes (ks ++ k ∷ [])
known_more nodes ks k h d = All-push (λ (z : Compared). HasWidth nodes z.answer 1) ks k h d

pub alike : (nodes : List Node) (a b : Id) (w : ℕ) → HasWidth nodes a w → HasWidth nodes b w → WordsAlike nodes a b
alike nodes a b w p q = record { width = w; one_has = p; two_has = q }

pub alike_wider : (old new : List Node) (a b : Id) → Extends old new → WordsAlike old a b → WordsAlike new a b
alike_wider old new a b g h = record { width = h.width; one_has = wider old new a h.width g h.one_has; two_has = wider old new b h.width g h.two_has }

-- the form of two words fits them
picks_case : (nodes : List Node) (a b t x y u p q : Id) (w : ℕ) (c d e : Bool) → HasWidth nodes a w → HasWidth nodes b w → PickHas nodes t x y w →
    PickHas nodes u p q w →
    FormFits nodes (if c then form.Split t x p y q else if d then form.Either t u x y else if e then form.Split u a p a q else form.Split t x b y b)
picks_case nodes a b t x y u p q w true d e h k m n = (m.test, alike nodes x p w m.first n.first, alike nodes y q w m.second n.second)
picks_case nodes a b t x y u p q w false true e h k m n = (alike nodes t u 1 m.test n.test, alike nodes x y w m.first m.second)
picks_case nodes a b t x y u p q w false false true h k m n = (n.test, alike nodes a p w h n.first, alike nodes a q w h n.second)
picks_case nodes a b t x y u p q w false false false h k m n = (m.test, alike nodes x b w m.first k, alike nodes y b w m.second k)

-- a constant has the width of a word that it is compared with
pub constant_wide : (nodes : List Node) (a b : Id) (w : ℕ) (k : Number) → InOrder [] nodes → slice_get nodes b.0 ≡ Some (Const k) → HasWidth nodes a w →
    HasWidth nodes b w → HasWidth nodes a k.width
constant_wide nodes a b w k o e h d = h ∙ ap (λ z. Some z) (sym (width_is nodes b w d) ∙ width_is nodes b k.width (own_width nodes b.0 (Const k) o e))

against_case : (inputs : Inputs) (v : Values) (nodes : List Node) (h : Fits inputs v nodes) (a : Id) (k : Number) (f : Form) →
    IsAgainst inputs v nodes h a k f →
    FormFits nodes f
against_case inputs v nodes h a k form.One d = tt
against_case inputs v nodes h a k form.Never d = tt
against_case inputs v nodes h a k (form.Known c) d = absurd d
against_case inputs v nodes h a k form.Plain d = tt
against_case inputs v nodes h a k (form.Split t x y p q) d = absurd d
against_case inputs v nodes h a k (form.Either x y p q) d = absurd d
against_case inputs v nodes h a k (form.Against x m) d = (d.0, d.1)

against_fits : (nodes : List Node) (a b : Id) (w : ℕ) (k : Number) → InOrder [] nodes → known_in (slice_get nodes b.0) ≡ Some k → HasWidth nodes a w →
    HasWidth nodes b w → FormFits nodes (against nodes a k)
against_fits nodes a b w k o e h d =
    let inputs : Inputs = λ number. 0 in
    let fit = values_fit inputs nodes o (λ place number w e. pow_pos w) in
    let f = constant_there nodes b k e in
    against_case inputs (value_of inputs nodes) nodes fit a k (against nodes a k)
    (against_is inputs (value_of inputs nodes) nodes fit a k (constant_wide nodes a b w k o f h d) (constant_word nodes b.0 k o f))

known_case : (nodes : List Node) (a b : Id) (w : ℕ) (m n : Option Number) → InOrder [] nodes → known_in (slice_get nodes a.0) ≡ m →
    known_in (slice_get nodes b.0) ≡ n → HasWidth nodes a w → HasWidth nodes b w → FormFits nodes (against_known nodes a b m n)
known_case nodes a b w m (Some k) o e f h d = against_fits nodes a b w k o f h d
known_case nodes a b w (Some k) None o e f h d = against_fits nodes b a w k o e d h
known_case nodes a b w None None o e f h d = tt

nodes_case : (nodes : List Node) (a b : Id) (w : ℕ) (m n : Option Node) → InOrder [] nodes → slice_get nodes a.0 ≡ m → slice_get nodes b.0 ≡ n →
    HasWidth nodes a w → HasWidth nodes b w → FormFits nodes (form_of nodes a b m n)
nodes_case nodes a b w (Some (Pick t x y)) (Some (Pick u p q)) o e f h k =
    picks_case nodes a b t x y u p q w (t.0 == u.0) (x.0 == p.0 && y.0 == q.0) (nat_lt t.0 u.0) h k (pick_children nodes a t x y w o e h)
    (pick_children nodes b u p q w o f k)
nodes_case nodes a b w (Some (Pick t x y)) n o e f h k =
    let m = pick_children nodes a t x y w o e h in (m.test, alike nodes x b w m.first k, alike nodes y b w m.second k)
nodes_case nodes a b w m (Some (Pick u p q)) o e f h k =
    let n = pick_children nodes b u p q w o f k in (n.test, alike nodes a p w h n.first, alike nodes a q w h n.second)
nodes_case nodes a b w m n o e f h k = known_case nodes a b w (known_in m) (known_in n) o (ap known_in e) (ap known_in f) h k

unless_case : (nodes : List Node) (c : Option Id) (fuel : ℕ) (f : Form) → ((x : Id) → c ≡ Some x → HasWidth nodes x 1) →
    FormFits nodes f → FormFits nodes (form_unless c fuel f)
unless_case nodes (Some x) fuel f h k = h x refl
unless_case nodes None fuel f h k = fuel_case (fuel == 0) where
  fuel_case : (t : Bool) → FormFits nodes (if t then form.Plain else f)
  fuel_case true = tt
  fuel_case false = k

one_case : (nodes : List Node) (t : Bool) (f : Form) → FormFits nodes f → FormFits nodes (if t then form.One else f)
one_case nodes true f h = tt
one_case nodes false f h = h

pub form_fits : (s : SoFar) (nodes : List Node) (a b : Id) → InOrder [] nodes → WordsAlike nodes a b → KnownFit nodes s.known →
    FormFits nodes (form_at s nodes a b)
form_fits s nodes a b o w h =
    one_case nodes (a.0 == b.0) (form_unless (known_for s.known a b) s.fuel (form_of nodes a b (slice_get nodes a.0) (slice_get nodes b.0)))
    (unless_case nodes (known_for s.known a b) s.fuel (form_of nodes a b (slice_get nodes a.0) (slice_get nodes b.0)) (λ c. known_there nodes s.known a b c h)
    (nodes_case nodes a b w.width (slice_get nodes a.0) (slice_get nodes b.0) o refl refl w.one_has w.two_has))

-- the complement of a pick's test
pub other_has : (old new : List Node) (t a b o : Id) → CanPick old t a b → HasWidth new o (width_at (widths_of old) t) → HasWidth new o 1
other_has old new t a b o p h = h ∙ ap (λ z. Some z) p.digit

pub other_and : (old new : List Node) (t a b o : Id) → CanPick old t a b → width_at (widths_of old) a ≡ 1 → Extends old new →
    HasWidth new o (width_at (widths_of old) t) → CanBin new And o b
other_and old new t a b o p e g h =
    can_and new o b 1 (other_has old new t a b o p h) (wider old new b 1 g (has_width old b p.no ∙ ap (λ z. Some z) (sym p.widths ∙ e)))

pub other_or : (old new : List Node) (t a b o : Id) → CanPick old t a b → width_at (widths_of old) a ≡ 1 → Extends old new →
    HasWidth new o (width_at (widths_of old) t) → CanBin new Or o a
other_or old new t a b o p e g h =
    can_or new o a 1 (other_has old new t a b o p h) (wider old new a 1 g (has_width old a p.yes ∙ ap (λ z. Some z) e))

pub known_learned : (old new : List Node) (s more : SoFar) (a b r : Id) → Extends old new → KnownFit old s.known → HasWidth new r 1 →
    more ≡ (learned a b s r).so_far → KnownFit new more.known
known_learned old new s more a b r g h d e =
    subst (λ (z : SoFar). KnownFit new z.known) (sym e) (known_more new s.known (record { one = a; two = b; answer = r }) (known_wider old new s.known g h) d)
