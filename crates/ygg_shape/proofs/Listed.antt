-- Lists of values that are compared.
use Rattle.std.proofs.Common.{
  ◌≡◌,
  ◌<◌,
  ◌+◌,
  ℕ,
  Result,
  Ok,
  Err,
  OnOk,
  IfOk,
  Some,
  List,
  [],
  ◌∷◌,
  ◌++◌,
  length,
  drop,
  get_or,
  map,
  All,
  refl,
  ap,
  ◌∙◌,
  subst,
  sym,
  arith,
}
use Rattle.std.proofs.lemmas.List.Elements.{All-append, All-cons, All-nil, All-weaker}
use Rattle.ygg_value.specs.Number.{IsWord}
use Rattle.ygg_value.specs.Values.{same_value}
use Rattle.ygg_value.specs.Words.{word, bit_of, apply_to}
use Rattle.ygg_value.specs.declared.operation.Op.TheVariants.{And}
use Rattle.ygg_value.specs.declared.shape.Shape.{Shape}
use Rattle.ygg_shape_cells.specs.ygg_rules.declared.rule.RuleKind.{RuleKind}
use Rattle.ygg_shape_cells.specs.ygg_bank_proofs_Exist.{values_fit}
use Rattle.ygg_shape_cells.specs.ygg_bank_proofs_Made.{made_grows}
use Rattle.ygg_shape_cells.specs.ygg_bank_proofs_Meaning.{fits_fewer}
use Rattle.ygg_shape_cells.specs.ygg_bank_proofs_Widths.{wider, width_is, extends_self}
use Rattle.ygg_shape_cells.specs.ygg_bank.Makes.{Out, goes_on}
use Rattle.ygg_shape_cells.specs.ygg_bank.Making.{made}
use Rattle.ygg_shape_cells.specs.ygg_bank.Nodes.{HasWidth, IsBank, Extends}
use Rattle.ygg_shape_cells.specs.ygg_bank.Values.{Inputs, Values, Fits, value_of}
use Rattle.ygg_shape_cells.specs.ygg_bank.declared.node.Id.{Id}
use Rattle.ygg_shape_cells.specs.ygg_bank.declared.node.Node.{Node}
use Rattle.ygg_shape_cells.specs.ygg_bank.declared.node.Node.TheVariants.{Const, Bin}
use Rattle.ygg_shape_cells.specs.ygg_shape_words_proofs_Fit.{can_and}
use Rattle.ygg_shape_cells.specs.ygg_shape_words_proofs_Keeps.{Stays, grows_stays}
use Rattle.ygg_shape_cells.specs.ygg_shape_words_proofs_Terms.{TermIs, made_is, and_digits}
use Rattle.ygg_shape_cells.proofs.Wider.{all_shaped_wider}
use Rattle.ygg_shape_cells.specs.Lists.{each_two}
use Rattle.ygg_shape.specs.Comparing.{compared, AreCompared, IsDigit, all_compared, conjunction, same_values}
use Rattle.ygg_shape_cells.specs.Terms.{AreShaped, worth}
use Rattle.ygg_shape_cells.specs.declared.terms.SymValue.{SymValue}
use Rattle.ygg_shape_cells.proofs.Answered.{no_inputs, some_fit}
use Rattle.ygg_shape.proofs.ComparedKeeps.{compared_grows, compared_keeps}
use Rattle.ygg_shape.proofs.Compared.{compared_gives}
use Rattle.ygg_shape_cells.proofs.Steps.{rest_is}
use Rattle.ygg_shape_cells.specs.Wholes.{AllAlike}

module _ (kinds : List RuleKind) (P : List Node → Type 0) (stays : Stays kinds P) where
  pub all_compared_keeps : (xs ys : List SymValue) (nodes : List Node) → P nodes → P (all_compared kinds xs ys nodes).nodes
  all_compared_keeps [] ys nodes p = stays (Const (word 1 1)) nodes tt p
  all_compared_keeps (x ∷ xs) [] nodes p = stays (Const (word 1 1)) nodes tt p
  all_compared_keeps (x ∷ xs) (y ∷ ys) nodes p =
      let a = compared kinds x y nodes in
      let b = all_compared kinds xs ys a.nodes in
      stays (Bin And a.value b.value) b.nodes tt (all_compared_keeps xs ys a.nodes (compared_keeps kinds P stays x y nodes p))

module _ (kinds : List RuleKind) where
  all_compared_grows : (xs ys : List SymValue) (nodes : List Node) → Extends nodes (all_compared kinds xs ys nodes).nodes
  all_compared_grows xs ys nodes = all_compared_keeps kinds (Extends nodes) (grows_stays kinds nodes) xs ys nodes (extends_self nodes)

one_word : IsWord (word 1 1)
one_word = record { least = omega arith; most = omega arith; fits = omega arith }

module _ (inputs : Inputs) (v : Values) (kinds : List RuleKind) where
  -- the term that says whether all are equal
  all_compared_gives : (shapes : List Shape) (xs ys : List SymValue) (nodes : List Node) → AreShaped nodes shapes xs → AreShaped nodes shapes ys →
      Fits inputs v (all_compared kinds xs ys nodes).nodes →
      TermIs inputs v (all_compared kinds xs ys nodes).nodes 1 (word 1 (bit_of (same_values (map (worth v) xs) (map (worth v) ys))))
      (all_compared kinds xs ys nodes).value
  all_compared_gives [] [] [] nodes p q h = made_is inputs v kinds (Const (word 1 1)) nodes one_word h
  all_compared_gives [] [] (y ∷ ys) nodes p q h = absurd q
  all_compared_gives [] (x ∷ xs) ys nodes p q h = absurd p
  all_compared_gives (s ∷ shapes) [] ys nodes p q h = absurd p
  all_compared_gives (s ∷ shapes) (x ∷ xs) [] nodes p q h = absurd q
  all_compared_gives (s ∷ shapes) (x ∷ xs) (y ∷ ys) nodes p q h =
      let a = compared kinds x y nodes in
      let ga = compared_grows kinds x y nodes in
      let b = all_compared kinds xs ys a.nodes in
      let gb = all_compared_grows kinds xs ys a.nodes in
      let hb = fits_fewer inputs v b.nodes (made kinds (Bin And a.value b.value) b.nodes).nodes (made_grows kinds (Bin And a.value b.value) b.nodes) h in
      let c = same_value (worth v x) (worth v y) in
      let rest = same_values (map (worth v) xs) (map (worth v) ys) in
      let first = compared_gives inputs v kinds s x y nodes p.0 q.0 (fits_fewer inputs v a.nodes b.nodes gb hb) in
      let others = all_compared_gives shapes xs ys a.nodes (all_shaped_wider nodes a.nodes shapes xs ga p.1) (all_shaped_wider nodes a.nodes shapes ys ga q.1)
      hb in
      let wide = wider a.nodes b.nodes a.value 1 gb first.wide in
      let m = made_is inputs v kinds (Bin And a.value b.value) b.nodes (can_and b.nodes a.value b.value 1 wide others.wide) h in
      record {
        wide = m.wide ∙ ap (λ z. Some z) (width_is b.nodes a.value 1 wide);
        is = m.is ∙ ap (λ z. apply_to And z (v b.value.0)) first.is ∙ ap (apply_to And (word 1 (bit_of c))) others.is ∙ and_digits c rest;
      }

-- what the calls say of their answers
pub all_compared_value : {E : Type 0} (kinds : List RuleKind) (ones twos : List SymValue) (old new : List Node) (r : Result Id E) → IsBank new →
    OnOk r (new ≡ (all_compared kinds ones twos old).nodes) → IfOk r (λ id. id ≡ (all_compared kinds ones twos old).value) → AllAlike old ones twos →
    IfOk r (AreCompared new ones twos)
all_compared_value kinds ones twos old new (Ok answer) b e g p =
    let o = all_compared kinds ones twos old in
    let c = subst IsBank e b in
    subst (λ z. AreCompared z ones twos answer) (sym e) (subst (AreCompared o.nodes ones twos) (sym g) (λ inputs fit.
    let m = all_compared_gives inputs (value_of inputs o.nodes) kinds p.shapes ones twos old p.ones_are p.twos_are
    (values_fit inputs o.nodes c.ordered fit) in m.is))
all_compared_value kinds ones twos old new (Err x) b e g p = tt

pub all_compared_width : {E : Type 0} (kinds : List RuleKind) (ones twos : List SymValue) (old new : List Node) (r : Result Id E) → IsBank new →
    OnOk r (new ≡ (all_compared kinds ones twos old).nodes) → IfOk r (λ id. id ≡ (all_compared kinds ones twos old).value) → AllAlike old ones twos →
    IfOk r (λ (id : Id). HasWidth new id 1)
all_compared_width kinds ones twos old new (Ok answer) b e g p =
    let o = all_compared kinds ones twos old in
    let m = all_compared_gives no_inputs (value_of no_inputs o.nodes) kinds p.shapes ones twos old p.ones_are p.twos_are
    (some_fit o.nodes (subst IsBank e b)) in
    subst (λ z. HasWidth z answer 1) (sym e) (subst (λ z. HasWidth o.nodes z 1) (sym g) m.wide)
all_compared_width kinds ones twos old new (Err x) b e g p = tt

-- digits, as more nodes and more digits come
pub digits_later : (old new : List Node) (xs : List Id) → Extends old new → All (IsDigit old) xs → All (IsDigit new) xs
digits_later old new xs g = All-weaker (IsDigit old) (IsDigit new) (λ a. wider old new a 1 g) xs

pub digits_more : (old new : List Node) (xs : List Id) (a : Id) → Extends old new → All (IsDigit old) xs → HasWidth new a 1 → All (IsDigit new) (xs ++ a ∷ [])
digits_more old new xs a g h w = All-append (IsDigit new) xs (a ∷ []) (digits_later old new xs g h) (All-cons (IsDigit new) a [] w (All-nil (IsDigit new)))

-- one digit more, before those that were joined
pub record JoinedMore (kinds : List RuleKind) (ids : List Id) (old : List Node) (i : ℕ) (a all : Id) (now : List Node) : Type 0 where
  pub nodes : (made kinds (Bin And a all) now).nodes ≡ (conjunction kinds (drop i ids) old).nodes
  pub value : (made kinds (Bin And a all) now).value ≡ (conjunction kinds (drop i ids) old).value

pub conjunction_more : (kinds : List RuleKind) (ids : List Id) (old : List Node) (i j : ℕ) (all : Id) (now : List Node) → i < length ids → j ≡ i + 1 →
    now ≡ (conjunction kinds (drop j ids) old).nodes → all ≡ (conjunction kinds (drop j ids) old).value → (d : Id) →
    JoinedMore kinds ids old i (get_or ids i d) all now
conjunction_more kinds ids old i j all now l e f g d =
    let a = get_or ids i d in
    let rest = rest_is ids i a d l refl in
    let same : made kinds (Bin And a all) now ≡ conjunction kinds (drop i ids) old =
    ap (λ z. made kinds (Bin And a z) now) g ∙ ap (made kinds (Bin And a (conjunction kinds (drop j ids) old).value)) f
    ∙ ap (λ k. made kinds (Bin And a (conjunction kinds (drop k ids) old).value) (conjunction kinds (drop k ids) old).nodes) e
    ∙ ap (λ z. conjunction kinds z old) (sym rest) in
    record { nodes = ap (λ (o : Out Id). o.nodes) same; value = ap (λ (o : Out Id). o.value) same }

-- the conjunction of the comparisons is what is defined
compared_are : (kinds : List RuleKind) (xs ys : List SymValue) (nodes : List Node) →
    conjunction kinds (each_two (compared kinds) xs ys nodes).value (each_two (compared kinds) xs ys nodes).nodes ≡ all_compared kinds xs ys nodes
compared_are kinds [] [] nodes = refl
compared_are kinds [] (y ∷ ys) nodes = refl
compared_are kinds (x ∷ xs) [] nodes = refl
compared_are kinds (x ∷ xs) (y ∷ ys) nodes =
    let a = compared kinds x y nodes in
    ap (λ (o : Out Id). goes_on o (λ rest. made kinds (Bin And a.value rest))) (compared_are kinds xs ys a.nodes)

-- the same of comparisons that went as they are defined to
pub compared_from : (kinds : List RuleKind) (xs ys : List SymValue) (old : List Node) (ids : List Id) (mid : List Node) →
    ids ≡ (each_two (compared kinds) xs ys old).value → mid ≡ (each_two (compared kinds) xs ys old).nodes →
    conjunction kinds ids mid ≡ all_compared kinds xs ys old
compared_from kinds xs ys old ids mid e f =
    ap (λ z. conjunction kinds z mid) e ∙ ap (conjunction kinds (each_two (compared kinds) xs ys old).value) f ∙ compared_are kinds xs ys old
