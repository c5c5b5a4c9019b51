-- Zeros, comparisons of lists of values, and of answers.
use Rattle.std.proofs.Common.{◌≡◌, ◌&&◌, true, if◌then◌else◌, List, [], ◌∷◌, Option, Some, None, sym, ap, ◌∙◌, subst}
use Rattle.std.specs.Prelude.{is_none, is_some, option_map}
use Rattle.std.specs.Str.{bytes_eq}
use Rattle.std.proofs.lemmas.List.Elements.{All-head, All-tail}
use Rattle.ygg_value.specs.Shapes.{IsShape}
use Rattle.ygg_value.specs.Values.{same_value}
use Rattle.ygg_value.specs.Words.{word}
use Rattle.ygg_value.specs.declared.operation.Op.TheVariants.{And}
use Rattle.ygg_syntax.specs.declared.tree.Declared.{Declared}
use Rattle.ygg_syntax.specs.declared.tree.Operation.{Operation}
use Rattle.ygg_syntax.specs.declared.tree.TypeText.{TypeText}
use Rattle.ygg_sym_laws.specs.ygg_type_rules.Layers.{operation_signature}
use Rattle.ygg_sym_laws.specs.ygg_type_rules.Shapes.{answer_shape}
use Rattle.ygg_sym_laws.specs.ygg_meaning_laws_proofs_Tests.{bytes_equal}
use Rattle.ygg_sym_laws.specs.ygg_meaning.Environments.{same_env}
use Rattle.ygg_sym_laws.specs.ygg_meaning.Shapes.{shape_in, zeros_of}
use Rattle.ygg_sym_laws.specs.ygg_meaning.Violates.{same_answer}
use Rattle.ygg_sym_laws.specs.ygg_meaning_laws.Questions.{answer_has, gives}
use Rattle.ygg_sym_laws.specs.ygg_meaning_laws_proofs_ProgressFits.{one_shape}
use Rattle.ygg_sym_laws.specs.ygg_rules.declared.rule.RuleKind.{RuleKind}
use Rattle.ygg_sym_laws.specs.ygg_bank_proofs_Made.{made_grows}
use Rattle.ygg_sym_laws.specs.ygg_bank_proofs_Meaning.{fits_fewer}
use Rattle.ygg_sym_laws.specs.ygg_bank.Making.{made}
use Rattle.ygg_sym_laws.specs.ygg_bank.Values.{Inputs, Values}
use Rattle.ygg_sym_laws.specs.ygg_bank.declared.node.Node.{Node}
use Rattle.ygg_sym_laws.specs.ygg_bank.declared.node.Node.TheVariants.{Const, Bin}
use Rattle.ygg_sym_laws.specs.ygg_shape_words_proofs_Keeps.{Stays}
use Rattle.ygg_sym_laws.specs.ygg_shape.Comparing.{compared}
use Rattle.ygg_sym_laws.specs.ygg_shape_cells.Terms.{IsShaped, worth}
use Rattle.ygg_sym_laws.specs.ygg_shape_cells.declared.terms.SymValue.{SymValue}
use Rattle.ygg_sym_laws.specs.ygg_shape_proofs_ComparedKeeps.{compared_grows, compared_keeps}
use Rattle.ygg_sym_laws.specs.ygg_shape_proofs_Compared.{compared_gives}
use Rattle.ygg_sym_laws.specs.ygg_sym_runs.ExpressionMeaning.{SomeShape, Grows, Gives}
use Rattle.ygg_sym_laws.specs.ygg_sym_runs_proofs_Keeps.{Keeps}
use Rattle.ygg_sym_laws.proofs.Worths.{shape_fits}
use Rattle.ygg_sym_laws.specs.Meaning.{AnswerShaped, answer_worth}
use Rattle.ygg_sym_laws.proofs.Lows.{low_wider}
use Rattle.ygg_sym_laws.specs.Lows.{LowShaped, low_worth}
use Rattle.ygg_sym_laws.specs.Below.{zeros_made}
use Rattle.ygg_sym_laws.proofs.of_ygg_sym_runs.DeclaredZeros.{AreShapes, zeros_made_keep, zeros_give}
use Rattle.ygg_oblige_laws.specs.LayerTerms.{ShapesKept}
use Rattle.ygg_oblige_laws.specs.Outcomes.{answers_compared}
use Rattle.ygg_oblige_laws.specs.TermStates.{all_compared}
use Rattle.ygg_oblige_laws.proofs.Truth.{adds, truth_wider, truth_of, one_gives, never_gives, and_gives}
use Rattle.ygg_oblige_laws.specs.States.{ComparingMeans}
use Rattle.ygg_oblige_laws.specs.Worth.{LowIs, IsTruth}

-- each declared shape keeps the limits
each_shape : (ds : List Declared) → ShapesKept ds → AreShapes ds
each_shape [] l = tt
each_shape (d ∷ ds) l =
    let P = λ (d : Declared). IsShape (shape_in d.shape) in (All-head P d ds l, each_shape ds (All-tail P d ds l))

module _ (kinds : List RuleKind) (P : List Node → Type 0) (stays : Stays kinds P) where
  pub same_keeps : (xs ys : List SymValue) → Keeps P (all_compared kinds xs ys)
  same_keeps [] ys nodes p = stays (Const (word 1 1)) nodes tt p
  same_keeps (x ∷ xs) [] nodes p = stays (Const (word 1 1)) nodes tt p
  same_keeps (x ∷ xs) (y ∷ ys) nodes p =
      let a = compared kinds x y nodes in
      let b = all_compared kinds xs ys a.nodes in
      stays (Bin And a.value b.value) b.nodes tt (same_keeps xs ys a.nodes (compared_keeps kinds P stays x y nodes p))

  pub answers_keep : (y z : Option SymValue) → Keeps P (answers_compared kinds y z)
  answers_keep None None nodes p = stays (Const (word 1 1)) nodes tt p
  answers_keep (Some a) (Some b) nodes p = compared_keeps kinds P stays a b nodes p
  answers_keep None (Some b) nodes p = stays (Const (word 1 0)) nodes tt p
  answers_keep (Some a) None nodes p = stays (Const (word 1 0)) nodes tt p

module _ (inputs : Inputs) (v : Values) (kinds : List RuleKind) where
  pub low_zeros : (ds : List Declared) (nodes : List Node) → ShapesKept ds → Gives inputs v (zeros_made kinds ds) nodes (LowIs v ds (zeros_of ds))
  low_zeros ds nodes l h = let z = zeros_give kinds inputs v ds nodes (each_shape ds l) h in record { shaped = z.has; is = z.is }

  same_grows : (xs ys : List SymValue) → Grows (all_compared kinds xs ys)
  same_grows xs ys = let a = adds kinds (all_compared kinds xs ys) (λ P s. same_keeps kinds P s xs ys) in a.grows

  pub same_gives : (ds : List Declared) (xs ys : List SymValue) (nodes : List Node) → LowShaped nodes ds xs → LowShaped nodes ds ys →
      Gives inputs v (all_compared kinds xs ys) nodes (IsTruth v (same_env (low_worth v ds xs) (low_worth v ds ys)))
  same_gives [] [] [] nodes p q h = one_gives inputs v kinds nodes h
  same_gives [] [] (y ∷ ys) nodes p q h = absurd q
  same_gives [] (x ∷ xs) ys nodes p q h = absurd p
  same_gives (d ∷ ds) [] ys nodes p q h = absurd p
  same_gives (d ∷ ds) (x ∷ xs) [] nodes p q h = absurd q
  same_gives (d ∷ ds) (x ∷ xs) (y ∷ ys) nodes p q h =
      let a = compared kinds x y nodes in
      let b = all_compared kinds xs ys a.nodes in
      let o = made kinds (Bin And a.value b.value) b.nodes in
      let ga = compared_grows kinds x y nodes in
      let gb = same_grows xs ys a.nodes in
      let hb = fits_fewer inputs v b.nodes o.nodes (made_grows kinds (Bin And a.value b.value) b.nodes) h in
      let c = same_value (worth v x) (worth v y) in
      let rest = same_env (low_worth v ds xs) (low_worth v ds ys) in
      let first = truth_of inputs v a.nodes c a.value
      (compared_gives inputs v kinds (shape_in d.shape) x y nodes p.0 q.0 (fits_fewer inputs v a.nodes b.nodes gb hb)) in
      let others = same_gives ds xs ys a.nodes (low_wider nodes a.nodes ds xs ga p.1) (low_wider nodes a.nodes ds ys ga q.1) hb in
      let named : (c && rest) ≡ (bytes_eq d.name.text d.name.text && c && rest) = ap (λ z. z && c && rest) (sym (bytes_equal d.name.text)) in
      subst (λ w. IsTruth v w o.nodes o.value) named
      (and_gives inputs v kinds a.value b.value c rest b.nodes (truth_wider v a.nodes b.nodes c a.value gb first) others h)

  -- two values of one shape
  one_shape_gives : (x y : SymValue) (nodes : List Node) (s : SomeShape nodes x) (t : SomeShape nodes y) → s.shape ≡ t.shape →
      Gives inputs v (compared kinds x y) nodes (IsTruth v (same_value (worth v x) (worth v y)))
  one_shape_gives x y nodes s t e h =
      let o = compared kinds x y nodes in
      truth_of inputs v o.nodes (same_value (worth v x) (worth v y)) o.value
      (compared_gives inputs v kinds s.shape x y nodes s.stands (subst (λ z. IsShaped nodes z y) (sym e) t.stands) h)

  -- two answers that are given where a type is declared, in its shape
  typed_give : (t : Option TypeText) (y z : Option SymValue) (nodes : List Node) → answer_shape t ≡ option_map shape_in t → AnswerShaped nodes y →
      AnswerShaped nodes z → (if is_some t then answer_has (answer_shape t) (answer_worth v y) else is_none (answer_worth v y)) ≡ true →
      (if is_some t then answer_has (answer_shape t) (answer_worth v z) else is_none (answer_worth v z)) ≡ true →
      Gives inputs v (answers_compared kinds y z) nodes (IsTruth v (same_answer (answer_worth v y) (answer_worth v z)))
  typed_give t None None nodes e p q f g h = one_gives inputs v kinds nodes h
  typed_give t None (Some z) nodes e p q f g h = never_gives inputs v kinds nodes h
  typed_give t (Some y) None nodes e p q f g h = never_gives inputs v kinds nodes h
  typed_give None (Some y) (Some z) nodes e p q f g h = absurd (cc)
  typed_give (Some t) (Some y) (Some z) nodes e p q f g h =
      let hn = fits_fewer inputs v nodes (compared kinds y z nodes).nodes (compared_grows kinds y z nodes) h in
      let s = shape_in t in
      let fy = subst (λ k. answer_has k (Some (worth v y)) ≡ true) e f in
      let fz = subst (λ k. answer_has k (Some (worth v z)) ≡ true) e g in
      let a = one_shape p.shape s (worth v y) (shape_fits inputs v nodes p.shape y hn p.stands) fy in
      let b = one_shape q.shape s (worth v z) (shape_fits inputs v nodes q.shape z hn q.stands) fz in
      one_shape_gives y z nodes p q (a ∙ sym b) h

  pub answers_give : (o : Operation) (y z : Option SymValue) (nodes : List Node) → answer_shape o.answer ≡ option_map shape_in o.answer →
      AnswerShaped nodes y → AnswerShaped nodes z →
      gives (operation_signature o) (answer_worth v y) ≡ true → gives (operation_signature o) (answer_worth v z) ≡ true →
      Gives inputs v (answers_compared kinds y z) nodes (IsTruth v (same_answer (answer_worth v y) (answer_worth v z)))
  answers_give o y z nodes e p q f g h = typed_give o.answer y z nodes e p q f g h

pub comparing_means : (kinds : List RuleKind) → ComparingMeans kinds
comparing_means kinds = record {
  zeros = λ inputs v ds nodes l h. low_zeros inputs v kinds ds nodes l h;
  zeros_add = λ ds. adds kinds (zeros_made kinds ds) (λ P s. zeros_made_keep kinds P s ds);
  same = λ inputs v ds xs ys nodes p q h. same_gives inputs v kinds ds xs ys nodes p q h;
  same_add = λ xs ys. adds kinds (all_compared kinds xs ys) (λ P s. same_keeps kinds P s xs ys);
  answers = λ inputs v o y z nodes e p q f g h. answers_give inputs v kinds o y z nodes e p q f g h;
  answers_add = λ y z. adds kinds (answers_compared kinds y z) (λ P s. answers_keep kinds P s y z);
}
