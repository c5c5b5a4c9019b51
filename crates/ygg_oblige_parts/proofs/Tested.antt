-- Formulas over terms, one after another.
use Rattle.std.proofs.Common.{◌≡◌, ◌<◌, ℕ, ◌+◌, List, ◌∷◌, [], ◌++◌, length, drop, get_or, refl, sym, ap, ◌∙◌, subst, All}
use Rattle.std.proofs.lemmas.List.Elements.{All-head, All-tail, All-append, All-cons, All-nil, All-weaker}
use Rattle.ygg_value.specs.declared.operation.Op.TheVariants.{And}
use Rattle.ygg_value.specs.declared.shape.Shape.TheVariants as shape
use Rattle.ygg_syntax.specs.declared.tree.Expr.{Expr}
use Rattle.ygg_sym_spec.specs.ygg_rules.declared.rule.RuleKind.{RuleKind}
use Rattle.ygg_sym_spec.specs.ygg_bank_proofs_Widths.{wider}
use Rattle.ygg_sym_spec.specs.ygg_bank.Makes.{Out, goes_on}
use Rattle.ygg_sym_spec.specs.ygg_bank.Making.{made}
use Rattle.ygg_sym_spec.specs.ygg_bank.Nodes.{Extends, HasWidth, IsBank}
use Rattle.ygg_sym_spec.specs.ygg_bank.declared.node.Id.{Id}
use Rattle.ygg_sym_spec.specs.ygg_bank.declared.node.Node.{Node}
use Rattle.ygg_sym_spec.specs.ygg_bank.declared.node.Node.TheVariants.{Bin}
use Rattle.ygg_sym_spec.specs.ygg_shape_cells.Terms.{IsShaped}
use Rattle.ygg_sym_spec.specs.ygg_shape_cells.declared.terms.SymValue.{SymValue}
use Rattle.ygg_sym_spec.specs.ygg_shape_cells.declared.terms.SymValue.TheVariants as value
use Rattle.ygg_sym_spec.specs.ygg_sym_runs.Exprs.{id_in}
use Rattle.ygg_sym_spec.specs.ygg_sym_runs.Seen.{SymKnown, terms_in}
use Rattle.ygg_sym_spec.specs.ygg_bank_proofs_Meaning.{fits_fewer}
use Rattle.ygg_sym_spec.specs.ygg_sym_runs_proofs_Shaped.{scope_wider}
use Rattle.ygg_sym_spec.proofs.of_ygg_sym_runs.Terms.{terms_shaped}
use Rattle.ygg_sym_spec.proofs.Left.{Left, left_goes, rest_is}
use Rattle.ygg_oblige_parts.specs.Digits.{IsDigit, conjunction}
use Rattle.ygg_oblige_parts.specs.Formulas.{CanTest, digits_made, truths_in}

pub test_later : (k : SymKnown) (old new : List Node) (e : Expr) → Extends old new → CanTest k old e → CanTest k new e
test_later k old new e g t = record {
  can = record {
    scope = t.can.scope;
    defs = t.can.defs;
    sound = t.can.sound;
    without_errors = t.can.without_errors;
    shaped = scope_wider old new k.scope g t.can.shaped;
    agrees = λ inputs v h. t.can.agrees inputs v (fits_fewer inputs v old new g h);
  };
  digit = t.digit;
}

pub tests_later : (k : SymKnown) (old new : List Node) (es : List Expr) → Extends old new → All (CanTest k old) es → All (CanTest k new) es
tests_later k old new es g = All-weaker (CanTest k old) (CanTest k new) (λ e. test_later k old new e g) es

pub digits_later : (old new : List Node) (xs : List Id) → Extends old new → All (IsDigit old) xs → All (IsDigit new) xs
digits_later old new xs g = All-weaker (IsDigit old) (IsDigit new) (λ a. wider old new a 1 g) xs

word_digit : (nodes : List Node) (x : SymValue) → IsShaped nodes (shape.Word 1) x → HasWidth nodes (id_in x) 1
word_digit nodes (value.Word a) h = h.has
word_digit nodes (value.Row r) h = absurd h.has
word_digit nodes (value.Table t) h = absurd h.has

module _ (kinds : List RuleKind) (k : SymKnown) where
  pub test_wide : (e : Expr) (nodes : List Node) → CanTest k nodes e → IsBank (terms_in kinds k e nodes).nodes →
      HasWidth (terms_in kinds k e nodes).nodes (id_in (terms_in kinds k e nodes).value) 1
  test_wide e nodes t bank =
      let o = terms_in kinds k e nodes in word_digit o.nodes o.value (terms_shaped kinds k e nodes (shape.Word 1) t.can bank t.digit)

  pub digits_go : (es : List Expr) (old now : List Node) (i : ℕ) (so_far : List Id) (e d : Expr) (a : Id) (next : List Node) →
      i < length es → e ≡ get_or es i d → next ≡ (terms_in kinds k e now).nodes → a ≡ id_in (terms_in kinds k e now).value →
      Left (digits_made kinds k es old) (digits_made kinds k (drop i es) now) so_far →
      Left (digits_made kinds k es old) (digits_made kinds k (drop (i + 1) es) next) (so_far ++ a ∷ [])
  digits_go es old now i so_far e d a next l is g f left =
      let rest = rest_is es i e d l is in
      let more = drop (i + 1) es in
      let o = terms_in kinds k e now in
      left_goes (digits_made kinds k es old) (digits_made kinds k (drop i es) now) (digits_made kinds k more next) so_far a
      (ap (λ z. (digits_made kinds k z now).value) rest ∙ ap (λ z. id_in o.value ∷ (digits_made kinds k more z).value) (sym g)
      ∙ ap (λ z. z ∷ (digits_made kinds k more next).value) (sym f))
      (ap (λ z. (digits_made kinds k z now).nodes) rest ∙ ap (λ z. (digits_made kinds k more z).nodes) (sym g)) left

  -- the conjunction of the digits is what is defined
  pub truths_are : (es : List Expr) (nodes : List Node) →
      conjunction kinds (digits_made kinds k es nodes).value (digits_made kinds k es nodes).nodes ≡ truths_in kinds k es nodes
  truths_are [] nodes = refl
  truths_are (e ∷ es) nodes =
      let x = terms_in kinds k e nodes in
      ap (λ (o : Out Id). goes_on o (λ rest. made kinds (Bin And (id_in x.value) rest))) (truths_are es x.nodes)

pub test_next : (k : SymKnown) (nodes : List Node) (es : List Expr) (i : ℕ) (e d : Expr) → i < length es → e ≡ get_or es i d →
    All (CanTest k nodes) (drop i es) → CanTest k nodes e
test_next k nodes es i e d l is h =
    All-head (CanTest k nodes) e (drop (i + 1) es) (subst (All (CanTest k nodes)) (rest_is es i e d l is) h)

pub tests_next : (k : SymKnown) (old new : List Node) (es : List Expr) (i : ℕ) (e d : Expr) → i < length es → e ≡ get_or es i d → Extends old new →
    All (CanTest k old) (drop i es) → All (CanTest k new) (drop (i + 1) es)
tests_next k old new es i e d l is g h =
    tests_later k old new (drop (i + 1) es) g
    (All-tail (CanTest k old) e (drop (i + 1) es) (subst (All (CanTest k old)) (rest_is es i e d l is) h))

pub digits_more : (old new : List Node) (xs : List Id) (a : Id) → Extends old new → All (IsDigit old) xs → HasWidth new a 1 → All (IsDigit new) (xs ++ a ∷ [])
digits_more old new xs a g h w = All-append (IsDigit new) xs (a ∷ []) (digits_later old new xs g h) (All-cons (IsDigit new) a [] w (All-nil (IsDigit new)))

module _ (kinds : List RuleKind) (k : SymKnown) where
  -- the conjunction of digits that were made is what is defined
  pub truths_from : (es : List Expr) (old : List Node) (ids : List Id) (mid : List Node) → ids ≡ (digits_made kinds k es old).value →
      mid ≡ (digits_made kinds k es old).nodes → conjunction kinds ids mid ≡ truths_in kinds k es old
  truths_from es old ids mid e f =
      ap (λ z. conjunction kinds z mid) e ∙ ap (conjunction kinds (digits_made kinds k es old).value) f ∙ truths_are kinds k es old

  -- a first formula, and others
  pub truths_more : (e : Expr) (es : List Expr) (old : List Node) (a b : Id) (mid last : List Node) → a ≡ id_in (terms_in kinds k e old).value →
      mid ≡ (terms_in kinds k e old).nodes → b ≡ (truths_in kinds k es mid).value → last ≡ (truths_in kinds k es mid).nodes →
      made kinds (Bin And a b) last ≡ truths_in kinds k (e ∷ es) old
  truths_more e es old a b mid last p q r s =
      let x = terms_in kinds k e old in
      ap (λ z. made kinds (Bin And z b) last) p ∙ ap (λ z. made kinds (Bin And (id_in x.value) z) last) r
      ∙ ap (made kinds (Bin And (id_in x.value) (truths_in kinds k es mid).value)) s
      ∙ ap (λ m. made kinds (Bin And (id_in x.value) (truths_in kinds k es m).value) (truths_in kinds k es m).nodes) q

-- one digit more, before those that were joined
pub record JoinedMore (kinds : List RuleKind) (ids : List Id) (old : List Node) (i : ℕ) (a all : Id) (now : List Node) : Type 0 where
  pub nodes : (made kinds (Bin And a all) now).nodes ≡ (conjunction kinds (drop i ids) old).nodes
  pub value : (made kinds (Bin And a all) now).value ≡ (conjunction kinds (drop i ids) old).value

pub conjunction_more : (kinds : List RuleKind) (ids : List Id) (old : List Node) (i j : ℕ) (all : Id) (now : List Node) → i < length ids → j ≡ i + 1 →
    now ≡ (conjunction kinds (drop j ids) old).nodes → all ≡ (conjunction kinds (drop j ids) old).value → (d : Id) →
    JoinedMore kinds ids old i (get_or ids i d) all now
conjunction_more kinds ids old i j all now l e f g d =
    let a = get_or ids i d in
    let rest = rest_is ids i a d l refl in
    let same : made kinds (Bin And a all) now ≡ conjunction kinds (drop i ids) old =
    ap (λ z. made kinds (Bin And a z) now) g ∙ ap (made kinds (Bin And a (conjunction kinds (drop j ids) old).value)) f
    ∙ ap (λ k. made kinds (Bin And a (conjunction kinds (drop k ids) old).value) (conjunction kinds (drop k ids) old).nodes) e
    ∙ ap (λ z. conjunction kinds z old) (sym rest) in
    record { nodes = ap (λ (o : Out Id). o.nodes) same; value = ap (λ (o : Out Id). o.value) same }
