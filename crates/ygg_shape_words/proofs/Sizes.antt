-- What a word at a width is worth.
use Rattle.std.proofs.Common.{◌≡◌, ◌≤◌, ◌==◌, ◌||◌, ℕ, Bool, true, false, if◌then◌else◌, Option, Some, Result, Ok, Err, OnOk, IfOk, List, [], slice_get, refl}
use Rattle.std.proofs.Common.{sym, ap, ◌∙◌, subst, arith}
use Rattle.std.specs.Prelude.{nat_le}
use Rattle.std.proofs.lemmas.Nat.{pow_pos}
use Rattle.std.proofs.lemmas.Bool.Decides.{nat_tests, Decides-eqb}
use Rattle.ygg_value.proofs.Results.{resized-through, resized-wider, resized-own}
use Rattle.ygg_value.specs.Number.{Number, IsWord}
use Rattle.ygg_value.specs.Words.{resized}
use Rattle.ygg_rules.specs.Views.{IsWidth}
use Rattle.ygg_rules.specs.declared.rule.RuleKind.{RuleKind}
use Rattle.ygg_bank.proofs.Exist.{values_fit}
use Rattle.ygg_bank.proofs.Meaning.{fits_fewer}
use Rattle.ygg_bank.proofs.Widths.{extends_self, has_width}
use Rattle.ygg_bank.specs.Nodes.{width_at, widths_of, HasWidth, Stands, InOrder, IsBank, Extends}
use Rattle.ygg_bank.specs.Values.{Inputs, Values, Fits, value_of}
use Rattle.ygg_bank.specs.declared.node.Id.{Id}
use Rattle.ygg_bank.specs.declared.node.Node.{Node}
use Rattle.ygg_bank.specs.declared.node.Node.TheVariants.{Resize}
use Rattle.ygg_shape_words.proofs.Children.{resize_stands}
use Rattle.ygg_shape_words.proofs.Keeps.{Stays, grows_stays}
use Rattle.ygg_shape_words.proofs.Terms.{TermIs, made_is}
use Rattle.ygg_shape_words.specs.Sizing.{sizing_of, sizing_at, resized_as, resized_word, SizingFits, IsResized}
use Rattle.ygg_shape_words.specs.declared.resizing.Sizing.{Sizing}
use Rattle.ygg_shape_words.specs.declared.resizing.Sizing.TheVariants as sizing

module _ (kinds : List RuleKind) (P : List Node → Type 0) (stays : Stays kinds P) where
  resized_as_keeps : (a : Id) (w : ℕ) (s : Sizing) (nodes : List Node) → P nodes → P (resized_as kinds a w s nodes).nodes
  resized_as_keeps a w sizing.Itself nodes p = p
  resized_as_keeps a w (sizing.Through x) nodes p = stays (Resize x w) nodes tt p
  resized_as_keeps a w sizing.Plain nodes p = stays (Resize a w) nodes tt p

  pub resized_word_keeps : (a : Id) (w : ℕ) (nodes : List Node) → P nodes → P (resized_word kinds a w nodes).nodes
  resized_word_keeps a w nodes p = resized_as_keeps a w (sizing_at nodes a w) nodes p

pub resized_word_grows : (kinds : List RuleKind) (a : Id) (w : ℕ) (nodes : List Node) → Extends nodes (resized_word kinds a w nodes).nodes
resized_word_grows kinds a w nodes = resized_word_keeps kinds (Extends nodes) (grows_stays kinds nodes) a w nodes (extends_self nodes)

-- what is taken stands
through_case : (nodes : List Node) (x : Id) (b : Bool) → Stands nodes x → SizingFits nodes (if b then sizing.Through x else sizing.Plain)
through_case nodes x true h = h
through_case nodes x false h = tt

node_fits : (nodes : List Node) (a : Id) (w : ℕ) (n : Option Node) → InOrder [] nodes → slice_get nodes a.0 ≡ n → SizingFits nodes (sizing_of nodes w n)
node_fits nodes a w (Some (Resize x u)) o e =
    through_case nodes x (nat_le w u || nat_le (width_at (widths_of nodes) x) u) (resize_stands nodes a.0 u x o e)
node_fits nodes a w n o e = tt

own_case : (nodes : List Node) (b : Bool) (s : Sizing) → SizingFits nodes s → SizingFits nodes (if b then sizing.Itself else s)
own_case nodes true s h = tt
own_case nodes false s h = h

pub sizing_fits : (nodes : List Node) (a : Id) (w : ℕ) → InOrder [] nodes → SizingFits nodes (sizing_at nodes a w)
sizing_fits nodes a w o =
    own_case nodes (width_at (widths_of nodes) a == w) (sizing_of nodes w (slice_get nodes a.0)) (node_fits nodes a w (slice_get nodes a.0) o refl)

module _ (inputs : Inputs) (v : Values) (nodes : List Node) (f : Fits inputs v nodes) where
  -- what is taken is worth the same at the width
  abbrev SizingIs : Id → ℕ → Sizing → Type 0
  SizingIs a w sizing.Itself = HasWidth nodes a w
  SizingIs a w (sizing.Through x) = resized (v x.0) w ≡ resized (v a.0) w
  SizingIs a w sizing.Plain = Unit {0}

  either_le : (w u d : ℕ) (b c : Bool) → nat_le w u ≡ b → nat_le d u ≡ c → (x : Number) → IsWord x → x.width ≡ d → (b || c) ≡ true →
      resized (resized x u) w ≡ resized x w
  either_le w u d true c e g x h i t = let l : w ≤ u = grind (arith, nat_tests) in resized-through x u w l
  either_le w u d false true e g x h i t =
      let l : d ≤ u = grind (arith, nat_tests) in let k : x.width ≤ u = omega arith in resized-wider x u w h.fits k
  either_le w u d false false e g x h i t = absurd (cc)

  resize_case : (a x : Id) (w u : ℕ) (b : Bool) → (nat_le w u || nat_le (width_at (widths_of nodes) x) u) ≡ b → slice_get nodes a.0 ≡ Some (Resize x u) →
      SizingIs a w (if b then sizing.Through x else sizing.Plain)
  resize_case a x w u true t e =
      let d = width_at (widths_of nodes) x in
      let wide = f.widths x.0 d (has_width nodes x (resize_stands nodes a.0 u x f.ordered e)) in
      sym (either_le w u d (nat_le w u) (nat_le d u) refl refl (v x.0) (f.words x.0) wide t)
      ∙ ap (λ (z : Number). resized z w) (sym (f.values a.0 (Resize x u) e))
  resize_case a x w u false t e = tt

  node_is : (a : Id) (w : ℕ) (n : Option Node) → slice_get nodes a.0 ≡ n → SizingIs a w (sizing_of nodes w n)
  node_is a w (Some (Resize x u)) e = resize_case a x w u (nat_le w u || nat_le (width_at (widths_of nodes) x) u) refl e
  node_is a w n e = tt

  itself_case : (a : Id) (w : ℕ) (b : Bool) (s : Sizing) → (width_at (widths_of nodes) a == w) ≡ b → Stands nodes a → SizingIs a w s →
      SizingIs a w (if b then sizing.Itself else s)
  itself_case a w true s e h k = has_width nodes a h ∙ ap (λ z. Some z) ((Decides-eqb (width_at (widths_of nodes) a) w).0 e)
  itself_case a w false s e h k = k

  sizing_is : (a : Id) (w : ℕ) → Stands nodes a → SizingIs a w (sizing_at nodes a w)
  sizing_is a w h =
      itself_case a w (width_at (widths_of nodes) a == w) (sizing_of nodes w (slice_get nodes a.0)) refl h (node_is a w (slice_get nodes a.0) refl)

  as_is : (kinds : List RuleKind) (a : Id) (w : ℕ) (s : Sizing) → Stands nodes a → IsWidth w → SizingFits nodes s → SizingIs a w s →
      Fits inputs v (resized_as kinds a w s nodes).nodes →
      TermIs inputs v (resized_as kinds a w s nodes).nodes w (resized (v a.0) w) (resized_as kinds a w s nodes).value
  as_is kinds a w sizing.Itself st l p q h =
      let own : resized (v a.0) (v a.0).width ≡ v a.0 = resized-own (v a.0) (f.words a.0) in
      record { wide = q; is = sym own ∙ ap (resized (v a.0)) (f.widths a.0 w q) }
  as_is kinds a w (sizing.Through x) st l p q h =
      let m = made_is inputs v kinds (Resize x w) nodes (p, l) h in record { wide = m.wide; is = m.is ∙ q }
  as_is kinds a w sizing.Plain st l p q h =
      let m = made_is inputs v kinds (Resize a w) nodes (st, l) h in record { wide = m.wide; is = m.is }

-- a word at a width is worth what it is at that width
pub resized_word_is : (inputs : Inputs) (v : Values) (kinds : List RuleKind) (a : Id) (w : ℕ) (nodes : List Node) → Stands nodes a → IsWidth w →
    Fits inputs v (resized_word kinds a w nodes).nodes →
    TermIs inputs v (resized_word kinds a w nodes).nodes w (resized (v a.0) w) (resized_word kinds a w nodes).value
resized_word_is inputs v kinds a w nodes st l h =
    let f = fits_fewer inputs v nodes (resized_word kinds a w nodes).nodes (resized_word_grows kinds a w nodes) h in
    as_is inputs v nodes f kinds a w (sizing_at nodes a w) st l (sizing_fits nodes a w f.ordered) (sizing_is inputs v nodes f a w st) h

-- what the call says of its answer
pub resized_value : {E : Type 0} (kinds : List RuleKind) (a : Id) (w : ℕ) (old new : List Node) (r : Result Id E) → IsBank new → Stands old a → IsWidth w →
    OnOk r (new ≡ (resized_word kinds a w old).nodes) → IfOk r (λ answer. answer ≡ (resized_word kinds a w old).value) → IfOk r (IsResized new a w)
resized_value kinds a w old new (Ok answer) b st l e g =
    let o = resized_word kinds a w old in
    let c = subst IsBank e b in
    subst (λ z. IsResized z a w answer) (sym e) (subst (IsResized o.nodes a w) (sym g) (λ inputs fit.
    let m = resized_word_is inputs (value_of inputs o.nodes) kinds a w old st l (values_fit inputs o.nodes c.ordered fit) in m.is))
resized_value kinds a w old new (Err x) b st l e g = tt

pub resized_width : {E : Type 0} (kinds : List RuleKind) (a : Id) (w : ℕ) (old new : List Node) (r : Result Id E) → IsBank new → Stands old a → IsWidth w →
    OnOk r (new ≡ (resized_word kinds a w old).nodes) → IfOk r (λ answer. answer ≡ (resized_word kinds a w old).value) →
    IfOk r (λ (id : Id). HasWidth new id w)
resized_width kinds a w old new (Ok answer) b st l e g =
    let o = resized_word kinds a w old in
    let c = subst IsBank e b in
    let inputs : Inputs = λ number. 0 in
    let m = resized_word_is inputs (value_of inputs o.nodes) kinds a w old st l (values_fit inputs o.nodes c.ordered (λ place number w e. pow_pos w)) in
    subst (λ z. HasWidth z answer w) (sym e) (subst (λ z. HasWidth o.nodes z w) (sym g) m.wide)
resized_width kinds a w old new (Err x) b st l e g = tt
