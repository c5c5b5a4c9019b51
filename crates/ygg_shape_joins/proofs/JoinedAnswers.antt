-- What the calls that join say of their answers.
use Rattle.std.proofs.Common.{◌≡◌, if◌then◌else◌, Result, Ok, Err, OnOk, IfOk, List, [], ◌∷◌, map, refl, sym, ap, ◌∙◌, subst}
use Rattle.ygg_value.specs.declared.shape.Shape.{Shape}
use Rattle.ygg_shape_words.specs.ygg_rules.declared.rule.RuleKind.{RuleKind}
use Rattle.ygg_shape_words.specs.ygg_bank_proofs_Exist.{values_fit}
use Rattle.ygg_shape_words.specs.ygg_bank_proofs_Meaning.{fits_fewer}
use Rattle.ygg_shape_words.specs.ygg_bank_proofs_Widths.{wider}
use Rattle.ygg_shape_words.specs.ygg_bank.Makes.{pure}
use Rattle.ygg_shape_words.specs.ygg_bank.Nodes.{HasWidth, IsBank, Extends}
use Rattle.ygg_shape_words.specs.ygg_bank.Values.{Inputs, Values, Fits, value_of}
use Rattle.ygg_shape_words.specs.ygg_bank.declared.node.Id.{Id}
use Rattle.ygg_shape_words.specs.ygg_bank.declared.node.Node.{Node}
use Rattle.ygg_shape_words.proofs.Terms.{holds, either}
use Rattle.ygg_shape_cells.proofs.Answered.{no_inputs, some_fit}
use Rattle.ygg_shape_cells.proofs.Whole.{ValuesAre}
use Rattle.ygg_shape_cells.proofs.Wider.{shaped_wider, all_shaped_wider}
use Rattle.ygg_shape_cells.proofs.Words.{row_if}
use Rattle.ygg_shape_cells.specs.Meaning.{IsMerged}
use Rattle.ygg_shape_cells.specs.Terms.{HasShape, AreShaped, AreAlike, worth}
use Rattle.ygg_shape_cells.specs.Wholes.{AllAlike, AreMerged}
use Rattle.ygg_shape_cells.specs.declared.terms.SymValue.{SymValue}
use Rattle.ygg_shape_cells.specs.declared.terms.SymValue.TheVariants.{Word, Row, Table}
use Rattle.ygg_shape_joins.proofs.Joins.{joined_grows, joined_all_grows}
use Rattle.ygg_shape_joins.proofs.JoinedWorth.{joined_is, joined_gives}
use Rattle.ygg_shape_joins.specs.Joining.{joined, joined_all}

module _ (kinds : List RuleKind) where
  -- values that are made of such parts
  pub joined_as : (t : Id) (one two x y : SymValue) (old : List Node) → one ≡ x → two ≡ y → joined kinds t x y old ≡ joined kinds t one two old
  joined_as t one two x y old e f = ap (λ z. joined kinds t z y old) (sym e) ∙ ap (λ z. joined kinds t one z old) (sym f)

  pub joined_nodes : (t : Id) (one two x y : SymValue) (old new : List Node) → one ≡ x → two ≡ y → new ≡ (joined kinds t x y old).nodes →
      new ≡ (joined kinds t one two old).nodes
  joined_nodes t one two x y old new e f h = h ∙ ap (λ o. o.nodes) (joined_as t one two x y old e f)

  pub joined_form : (t : Id) (one two x y answer : SymValue) (old : List Node) → one ≡ x → two ≡ y → answer ≡ (joined kinds t x y old).value →
      answer ≡ (joined kinds t one two old).value
  joined_form t one two x y answer old e f h = h ∙ ap (λ o. o.value) (joined_as t one two x y old e f)

  -- of unlike values nothing is joined
  pub unlike_words : (t : Id) (one two : SymValue) (a : Id) (old : List Node) → one ≡ Word a → ((b : Id) → two ≡ Word b → ⊥) →
      joined kinds t one two old ≡ pure one old
  unlike_words t one (Word b) a old e n = absurd (n b refl)
  unlike_words t one (Row b) a old e n = subst (λ z. joined kinds t z (Row b) old ≡ pure z old) (sym e) refl
  unlike_words t one (Table b) a old e n = subst (λ z. joined kinds t z (Table b) old ≡ pure z old) (sym e) refl

  pub unlike_rows : (t : Id) (one two : SymValue) (a : List Id) (old : List Node) → one ≡ Row a → ((b : List Id) → two ≡ Row b → ⊥) →
      joined kinds t one two old ≡ pure one old
  unlike_rows t one (Word b) a old e n = subst (λ z. joined kinds t z (Word b) old ≡ pure z old) (sym e) refl
  unlike_rows t one (Row b) a old e n = absurd (n b refl)
  unlike_rows t one (Table b) a old e n = subst (λ z. joined kinds t z (Table b) old ≡ pure z old) (sym e) refl

  pub unlike_tables : (t : Id) (one two : SymValue) (a : List (List Id)) (old : List Node) → one ≡ Table a → ((b : List (List Id)) → two ≡ Table b → ⊥) →
      joined kinds t one two old ≡ pure one old
  unlike_tables t one (Word b) a old e n = subst (λ z. joined kinds t z (Word b) old ≡ pure z old) (sym e) refl
  unlike_tables t one (Row b) a old e n = subst (λ z. joined kinds t z (Row b) old ≡ pure z old) (sym e) refl
  unlike_tables t one (Table b) a old e n = absurd (n b refl)

module _ (inputs : Inputs) (v : Values) (kinds : List RuleKind) where
  pub joined_all_gives : (shapes : List Shape) (t : Id) (xs ys : List SymValue) (nodes : List Node) → HasWidth nodes t 1 → AreShaped nodes shapes xs →
      AreShaped nodes shapes ys → Fits inputs v (joined_all kinds t xs ys nodes).nodes →
      ValuesAre inputs v (joined_all kinds t xs ys nodes).nodes shapes (if holds inputs v t then map (worth v) xs else map (worth v) ys)
      (joined_all kinds t xs ys nodes).value
  joined_all_gives [] t [] [] nodes d p q h = record { shaped = tt; is = either (holds inputs v t) [] }
  joined_all_gives [] t [] (y ∷ ys) nodes d p q h = absurd q
  joined_all_gives [] t (x ∷ xs) ys nodes d p q h = absurd p
  joined_all_gives (s ∷ shapes) t [] ys nodes d p q h = absurd p
  joined_all_gives (s ∷ shapes) t (x ∷ xs) [] nodes d p q h = absurd q
  joined_all_gives (s ∷ shapes) t (x ∷ xs) (y ∷ ys) nodes d p q h =
      let o = joined kinds t x y nodes in
      let g = joined_grows kinds t x y nodes in
      let rest = joined_all kinds t xs ys o.nodes in
      let k = joined_all_grows kinds t xs ys o.nodes in
      let c = holds inputs v t in
      let a = joined_gives inputs v kinds s t x y nodes d p.0 q.0 (fits_fewer inputs v o.nodes rest.nodes k h) in
      let r = joined_all_gives shapes t xs ys o.nodes (wider nodes o.nodes t 1 g d) (all_shaped_wider nodes o.nodes shapes xs g p.1)
      (all_shaped_wider nodes o.nodes shapes ys g q.1) h in
      record {
        shaped = (shaped_wider o.nodes rest.nodes s o.value k a.shaped, r.shaped);
        is = ap (λ z. z ∷ map (worth v) rest.value) a.is ∙ ap (λ z. (if c then worth v x else worth v y) ∷ z) r.is
            ∙ row_if c (worth v x) (worth v y) (map (worth v) xs) (map (worth v) ys);
      }

pub joined_shape : {E : Type 0} (kinds : List RuleKind) (s : Shape) (t : Id) (one two : SymValue) (old new : List Node) (r : Result SymValue E) →
    IsBank new → Extends old new → HasWidth old t 1 →
    OnOk r (new ≡ (joined kinds t one two old).nodes) → IfOk r (λ answer. answer ≡ (joined kinds t one two old).value) → HasShape old s one →
    HasShape old s two → IfOk r (HasShape new s)
joined_shape kinds s t one two old new (Ok answer) b x d e g p q =
    let o = joined kinds t one two old in
    let m = joined_is no_inputs (value_of no_inputs o.nodes) kinds s t one two old p q d (subst (Extends old) e x) (some_fit o.nodes (subst IsBank e b)) in
    subst (λ z. HasShape z s answer) (sym e) (subst (HasShape o.nodes s) (sym g) m.has)
joined_shape kinds s t one two old new (Err x) b y d e g p q = tt

pub joined_value : {E : Type 0} (kinds : List RuleKind) (t : Id) (one two : SymValue) (old new : List Node) (r : Result SymValue E) → IsBank new →
    Extends old new → HasWidth old t 1 →
    OnOk r (new ≡ (joined kinds t one two old).nodes) → IfOk r (λ answer. answer ≡ (joined kinds t one two old).value) → AreAlike old one two →
    IfOk r (IsMerged new t one two)
joined_value kinds t one two old new (Ok answer) b x d e g p =
    let o = joined kinds t one two old in
    let c = subst IsBank e b in
    subst (λ z. IsMerged z t one two answer) (sym e) (subst (IsMerged o.nodes t one two) (sym g) (λ inputs fit.
    let m = joined_is inputs (value_of inputs o.nodes) kinds p.shape t one two old p.one_has p.two_has d (subst (Extends old) e x)
    (values_fit inputs o.nodes c.ordered fit) in
    m.is p.limits))
joined_value kinds t one two old new (Err x) b y d e g p = tt

pub joined_all_value : {E : Type 0} (kinds : List RuleKind) (t : Id) (ones twos : List SymValue) (old new : List Node) (r : Result (List SymValue) E) →
    IsBank new → HasWidth old t 1 → OnOk r (new ≡ (joined_all kinds t ones twos old).nodes) →
    IfOk r (λ answers. answers ≡ (joined_all kinds t ones twos old).value) → AllAlike old ones twos → IfOk r (AreMerged new t ones twos)
joined_all_value kinds t ones twos old new (Ok answers) b d e g p =
    let o = joined_all kinds t ones twos old in
    let c = subst IsBank e b in
    subst (λ z. AreMerged z t ones twos answers) (sym e) (subst (AreMerged o.nodes t ones twos) (sym g) (λ inputs fit.
    let m = joined_all_gives inputs (value_of inputs o.nodes) kinds p.shapes t ones twos old d p.ones_are p.twos_are
    (values_fit inputs o.nodes c.ordered fit) in
    m.is))
joined_all_value kinds t ones twos old new (Err x) b d e g p = tt

pub joined_all_shaped : {E : Type 0} (kinds : List RuleKind) (t : Id) (shapes : List Shape) (ones twos : List SymValue) (old new : List Node)
    (r : Result (List SymValue) E) →
    IsBank new → HasWidth old t 1 → OnOk r (new ≡ (joined_all kinds t ones twos old).nodes) →
    IfOk r (λ answers. answers ≡ (joined_all kinds t ones twos old).value) → AreShaped old shapes ones → AreShaped old shapes twos →
    IfOk r (AreShaped new shapes)
joined_all_shaped kinds t shapes ones twos old new (Ok answers) b d e g p q =
    let o = joined_all kinds t ones twos old in
    let m = joined_all_gives no_inputs (value_of no_inputs o.nodes) kinds shapes t ones twos old d p q (some_fit o.nodes (subst IsBank e b)) in
    subst (λ z. AreShaped z shapes answers) (sym e) (subst (AreShaped o.nodes shapes) (sym g) m.shaped)
joined_all_shaped kinds t shapes ones twos old new (Err x) b d e g p q = tt
