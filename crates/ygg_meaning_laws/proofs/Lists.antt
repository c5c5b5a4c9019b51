-- What the rules of constructs with lists of parts make sure of: arguments and rows.
use Rattle.std.proofs.Common.{
  ◌≡◌,
  ℕ,
  ◌<◌,
  ◌≤◌,
  ◌^◌,
  ◌⊎◌,
  inl,
  inr,
  Bool,
  true,
  false,
  cond,
  List,
  [],
  ◌∷◌,
  length,
  map,
  All,
  Option,
  Some,
  None,
  refl,
  sym,
  ap,
  ◌∙◌,
  subst,
  arith,
}
use Rattle.std.specs.Prelude.{◌==◌, slice_get}
use Rattle.std.proofs.lemmas.Bool.{eqb-true, and_from, cases_lt}
use Rattle.std.proofs.lemmas.Option.{slice_get-get_or}
use Rattle.std.proofs.lemmas.List.Elements.{All-cons, All-nil, All-head, All-tail}
use Rattle.ygg_base.specs.declared.reason.Reason.TheVariants as reason
use Rattle.ygg_meaning.specs.Place.{Place}
use Rattle.ygg_meaning.specs.Name.{Name}
use Rattle.ygg_value.specs.Number.{IsRow}
use Rattle.ygg_value.specs.Values.{word_in}
use Rattle.ygg_value.specs.Shapes.{IsValue, shape_of}
use Rattle.ygg_value.specs.declared.row.Value.{Value}
use Rattle.ygg_value.specs.declared.row.Value.TheVariants as value
use Rattle.ygg_value.specs.declared.shape.Shape.{Shape}
use Rattle.ygg_value.specs.declared.shape.Shape.TheVariants as shape
use Rattle.ygg_type_rules.specs.Names.{Named, look_up}
use Rattle.ygg_type_rules.specs.declared.scope.TypedExpr.{TypedExpr}
use Rattle.ygg_type_rules.specs.declared.scope.Signature.{Signature}
use Rattle.ygg_type_rules.specs.TypeErrors.{nothing, one, both, none, type_error}
use Rattle.ygg_type_rules.specs.Shapes.{is_word, width_of}
use Rattle.ygg_type_rules.specs.Comparisons.{wanted_error}
use Rattle.ygg_type_rules.specs.Expressions.{
  own,
  all_shaped,
  wanted,
  arguments_wanted,
  arguments_errors,
  apply_rule,
  row_word_error,
  row_word,
  row_words,
  row_count,
  row_rule,
}
use Rattle.ygg_meaning.specs.Meaning.{Functions, row_of}
use Rattle.ygg_meaning_laws.specs.Fitting.{HasShape, fits_wanted, all_fit, Meets}
use Rattle.ygg_meaning_laws.proofs.Tests.{left, right, no_type_error, wanted_is}
use Rattle.ygg_meaning_laws.proofs.Fits.{has_fits, word_within, word_wide}
use Rattle.ygg_meaning_laws.proofs.Rules.{part, with_shape, owned}

-- each part has a shape, which is that of its value
abbrev pub AllHave : List TypedExpr → List Value → Type 0
AllHave [] [] = Unit {0}
AllHave (p ∷ ps) (v ∷ vs) = HasShape p.shape v × AllHave ps vs
AllHave _ _ = ⊥

pub have_shapes : (ps : List TypedExpr) (vs : List Value) → AllHave ps vs → all_shaped ps ≡ true
have_shapes [] [] h = refl
have_shapes [] (v ∷ vs) h = elim h [ ]
have_shapes (p ∷ ps) [] h = elim h [ ]
have_shapes (p ∷ ps) (v ∷ vs) h = with_shape (λ p. all_shaped (p ∷ ps) ≡ true) p (shape_of v) h.0.is (have_shapes ps vs h.1)

pub as_many : (ps : List TypedExpr) (vs : List Value) → AllHave ps vs → length ps ≡ length vs
as_many [] [] h = refl
as_many [] (v ∷ vs) h = elim h [ ]
as_many (p ∷ ps) [] h = elim h [ ]
as_many (p ∷ ps) (v ∷ vs) h = let again = as_many ps vs h.1 in omega arith

-- a value fits where its shape is wanted, if one is
fit_one : (p : TypedExpr) (v : Value) (w : Option Shape) → HasShape p.shape v → none (wanted p w) ≡ true → fits_wanted w v ≡ true
fit_one p v None x = λ h. refl
fit_one p v (Some s) x =
    with_shape (λ p. none (wanted p (Some s)) ≡ true → fits_wanted (Some s) v ≡ true) p (shape_of v) x.is
    (λ h. has_fits s v (record {
      is = ap (λ t. Some t) (sym (wanted_is (shape_of v) s (no_type_error p.place (wanted_error (shape_of v) s) h)));
      limits =
          x.limits;
    }))

-- as many arguments as are wanted, without a type error, fit
pub arguments_fit : (ps : List TypedExpr) (vs : List Value) (ws : List (Option Shape)) → AllHave ps vs → length ps ≡ length ws →
    none (arguments_wanted ps ws) ≡ true → all_fit ws vs ≡ true
arguments_fit [] [] [] h n f = refl
arguments_fit [] [] (w ∷ ws) h n f = absurd (omega arith)
arguments_fit [] (v ∷ vs) ws h n f = elim h [ ]
arguments_fit (p ∷ ps) [] ws h n f = elim h [ ]
arguments_fit (p ∷ ps) (v ∷ vs) [] h n f = absurd (omega arith)
arguments_fit (p ∷ ps) (v ∷ vs) (w ∷ ws) h n f =
    and_from (fits_wanted w v) (all_fit ws vs)
    (fit_one p v w h.0 (left (none (wanted p w)) (none (arguments_wanted ps ws)) f))
    (arguments_fit ps vs ws h.1 (omega arith) (right (none (wanted p w)) (none (arguments_wanted ps ws)) f))

-- arguments of something that takes these shapes
pub taken_fit : (f : Name) (ps : List TypedExpr) (vs : List Value) (ws : List (Option Shape)) → AllHave ps vs → none (arguments_errors f ws ps) ≡ true →
    all_fit ws vs ≡ true
taken_fit f ps vs ws h = cases (length ps == length ws) refl (all_shaped ps) (have_shapes ps vs h)
  where
    cases : (b : Bool) → (length ps == length ws) ≡ b → (c : Bool) → c ≡ true →
        none (cond b (cond c (arguments_wanted ps ws) nothing) (one (type_error f.place reason.Shape))) ≡ true → all_fit ws vs ≡ true
    cases true e true s g = arguments_fit ps vs ws h (eqb-true (length ps) (length ws) e) g
    cases true e false s g = absurd (cc)
    cases false e c s g = absurd (cc)

-- a name that is applied to arguments: the definition, and arguments that fit
pub record ApplyParts (defs : Named Signature) (f : List ℕ) (vs : List Value) : Type 0 where
  pub definition : Signature
  pub found : look_up f defs ≡ Some definition
  pub fit : all_fit definition.arguments vs ≡ true

pub apply_parts : (defs : Named Signature) (f : Name) (ps : List TypedExpr) (vs : List Value) → AllHave ps vs →
    none (apply_rule f (look_up f.text defs) ps).type_errors ≡ true → ApplyParts defs f.text vs
apply_parts defs f ps vs h g = cases (look_up f.text defs) refl g
  where
    cases : (o : Option Signature) → look_up f.text defs ≡ o → none (apply_rule f o ps).type_errors ≡ true → ApplyParts defs f.text vs
    cases None e g = absurd (cc)
    cases (Some d) e g = record { definition = d; found = e; fit = taken_fit f ps vs d.arguments h g }

pub apply_sound : (functions : Functions) (defs : Named Signature) (f : Name) (ps : List TypedExpr) (vs : List Value) →
    ((d : Signature) → look_up f.text defs ≡ Some d → Meets functions f.text d) → AllHave ps vs
    → none (apply_rule f (look_up f.text defs) ps).type_errors ≡ true → HasShape (apply_rule f (look_up f.text defs) ps).shape (functions f.text vs)
apply_sound functions defs f ps vs meets h g =
    let parts = apply_parts defs f ps vs h g in
    let d = parts.definition in
    subst (λ o. none (apply_rule f o ps).type_errors ≡ true → HasShape (apply_rule f o ps).shape (functions f.text vs)) (sym parts.found)
    (λ k. owned (arguments_errors f d.arguments ps) (cond (all_shaped ps) d.answer None) (functions f.text vs) k
    (subst (λ b. HasShape (cond b d.answer None) (functions f.text vs)) (sym (have_shapes ps vs h)) (meets d parts.found vs parts.fit))) g

-- a word of a row of this width
pub record IsWordOf (width : ℕ) (v : Value) : Type 0 where
  pub word : is_word (shape_of v) ≡ true
  pub wide : (word_in v).width ≡ width
  pub limits : IsValue v

-- 1 to 64 words of one width
pub record RowParts (vs : List Value) : Type 0 where
  pub some : 1 ≤ length vs
  pub few : length vs ≤ 64
  pub words : All (IsWordOf (row_of vs).width) vs

word_first : (s : Shape) → row_word_error s s ≡ None → is_word s ≡ true
word_first s = cases (is_word s) refl
  where
    cases : (b : Bool) → is_word s ≡ b → cond b (cond b (wanted_error s s) None) (Some reason.Shape) ≡ None → is_word s ≡ true
    cases true e h = e
    cases false e h = absurd (cc)

word_same : (first s : Shape) → is_word first ≡ true → row_word_error first s ≡ None → s ≡ first
word_same first s w = cases (is_word s) (is_word first) w
  where
    cases : (b c : Bool) → c ≡ true → cond b (cond c (wanted_error s first) None) (Some reason.Shape) ≡ None → s ≡ first
    cases true true w h = wanted_is s first h
    cases true false w h = absurd (cc)
    cases false c w h = absurd (cc)

word_of : (first : Value) (p : TypedExpr) (v : Value) → is_word (shape_of first) ≡ true → HasShape p.shape v → none (row_word (shape_of first) p) ≡ true →
    IsWordOf (word_in first).width v
word_of first p v w x =
    with_shape (λ p. none (row_word (shape_of first) p) ≡ true → IsWordOf (word_in first).width v) p (shape_of v) x.is
    (λ h.
    let same = word_same (shape_of first) (shape_of v) w (no_type_error p.place (row_word_error (shape_of first) (shape_of v)) h) in
    let word : is_word (shape_of v) ≡ true = ap is_word same ∙ w in
    record { word = word; wide = sym (word_wide v word) ∙ ap width_of same ∙ word_wide first w; limits = x.limits })

words_of : (first : Value) (ps : List TypedExpr) (vs : List Value) → is_word (shape_of first) ≡ true → AllHave ps vs →
    none (row_words (shape_of first) ps) ≡ true → All (IsWordOf (word_in first).width) vs
words_of first [] [] w h f = All-nil (IsWordOf (word_in first).width)
words_of first [] (v ∷ vs) w h f = elim h [ ]
words_of first (p ∷ ps) [] w h f = elim h [ ]
words_of first (p ∷ ps) (v ∷ vs) w h f =
    let here = none (row_word (shape_of first) p) in
    let others = none (row_words (shape_of first) ps) in
    All-cons (IsWordOf (word_in first).width) v vs (word_of first p v w h.0 (left here others f)) (words_of first ps vs w h.1 (right here others f))

-- no 65th part
few_parts : (at p : Place) (o : Option Shape) (ps : List TypedExpr) → none (row_count at (part p o ∷ ps)) ≡ true → length (part p o ∷ ps) ≤ 64
few_parts at p o ps h = go (cases_lt 64 (length (part p o ∷ ps)))
  where
    over : (x : Option TypedExpr) → none (elim x [ None ↦ nothing | Some q ↦ one (type_error q.place reason.Limit) ]) ≡ true → x ≡ None
    over None h = refl
    over (Some q) h = absurd (cc)

    go : (64 < length (part p o ∷ ps)) ⊎ (length (part p o ∷ ps) ≤ 64) → length (part p o ∷ ps) ≤ 64
    go (inl l) = let e = slice_get-get_or (part p o ∷ ps) 64 (part p o) l in let n = over (slice_get (part p o ∷ ps) 64) h in absurd (cc)
    go (inr l) = l

bits_below : (w : ℕ) (vs : List Value) → All (IsWordOf w) vs → All (λ n. n < 2 ^ w) (map (λ v. (word_in v).bits) vs)
bits_below w [] h = All-nil (λ n. n < 2 ^ w)
bits_below w (v ∷ vs) h =
    let here = All-head (IsWordOf w) v vs h in
    let fits = (word_within v here.word here.limits).fits in
    All-cons (λ n. n < 2 ^ w) (word_in v).bits (map (λ v. (word_in v).bits) vs) (subst (λ k. (word_in v).bits < 2 ^ k) here.wide fits)
    (bits_below w vs (All-tail (IsWordOf w) v vs h))

many_bits : (vs : List Value) → length (map (λ v. (word_in v).bits) vs) ≡ length vs
many_bits [] = refl
many_bits (v ∷ vs) = let again = many_bits vs in omega arith

-- a row of such words keeps the limits
pub row_within : (vs : List Value) → RowParts vs → IsRow (row_of vs)
row_within [] parts = let s = parts.some in absurd (omega arith)
row_within (v ∷ vs) parts =
    let first = All-head (IsWordOf (word_in v).width) v vs parts.words in
    let w = word_within v first.word first.limits in
    record {
      least = w.least;
      most = w.most;
      some = rw (many_bits (v ∷ vs)) parts.some;
      few = rw (many_bits (v ∷ vs)) parts.few;
      fits = bits_below (word_in v).width (v ∷ vs) parts.words;
    }

pub row_parts : (at : Place) (ps : List TypedExpr) (vs : List Value) → AllHave ps vs → none (row_rule at ps).type_errors ≡ true → RowParts vs
row_parts at [] [] h f = absurd (cc)
row_parts at [] (v ∷ vs) h f = elim h [ ]
row_parts at (p ∷ ps) [] h f = elim h [ ]
row_parts at (p ∷ ps) (v ∷ vs) h f =
    with_shape (λ p. none (row_rule at (p ∷ ps)).type_errors ≡ true → RowParts (v ∷ vs)) p (shape_of v) h.0.is
    (cases (all_shaped ps) (have_shapes ps vs h.1)) f
  where
    q : TypedExpr
    q = part p.place (Some (shape_of v))

    cases : (b : Bool) → b ≡ true
        → none (cond b (own (both (row_count at (q ∷ ps)) (row_words (shape_of v) (q ∷ ps)))
        (Some (shape.Row (length (q ∷ ps)) (width_of (shape_of v))))) (own (row_count at (q ∷ ps)) None)).type_errors ≡ true → RowParts (v ∷ vs)
    cases false e g = absurd (cc)
    cases true e g =
        let count = none (row_count at (q ∷ ps)) in
        let words = none (row_words (shape_of v) (q ∷ ps)) in
        let here = none (row_word (shape_of v) q) in
        let each = right count words g in
        let word = word_first (shape_of v) (no_type_error p.place (row_word_error (shape_of v) (shape_of v))
        (left here (none (row_words (shape_of v) ps)) each)) in
        let few = few_parts at p.place (Some (shape_of v)) ps (left count words g) in
        let many = as_many ps vs h.1 in
        let has : HasShape (Some (shape_of v)) v = record { is = refl; limits = h.0.limits } in
        record { some = omega arith; few = omega arith; words = words_of v (q ∷ ps) (v ∷ vs) word (has, h.1) each }

pub row_sound : (at : Place) (ps : List TypedExpr) (vs : List Value) → AllHave ps vs → none (row_rule at ps).type_errors ≡ true →
    HasShape (row_rule at ps).shape (value.Row (row_of vs))
row_sound at [] [] h f = absurd (cc)
row_sound at [] (v ∷ vs) h f = elim h [ ]
row_sound at (p ∷ ps) [] h f = elim h [ ]
row_sound at (p ∷ ps) (v ∷ vs) h f =
    with_shape (λ p. none (row_rule at (p ∷ ps)).type_errors ≡ true → HasShape (row_rule at (p ∷ ps)).shape (value.Row (row_of (v ∷ vs)))) p (shape_of v) h.0.is
    (cases (all_shaped ps) (have_shapes ps vs h.1)) f
  where
    q : TypedExpr
    q = part p.place (Some (shape_of v))

    parts : RowParts (v ∷ vs)
    parts = row_parts at (p ∷ ps) (v ∷ vs) h f

    long : length (q ∷ ps) ≡ length (row_of (v ∷ vs)).words
    long = let many = as_many ps vs h.1 in let bits = many_bits (v ∷ vs) in omega arith

    cases : (b : Bool) → b ≡ true
        → none (cond b (own (both (row_count at (q ∷ ps)) (row_words (shape_of v) (q ∷ ps)))
        (Some (shape.Row (length (q ∷ ps)) (width_of (shape_of v))))) (own (row_count at (q ∷ ps)) None)).type_errors ≡ true
        → HasShape (cond b (own (both (row_count at (q ∷ ps)) (row_words (shape_of v) (q ∷ ps)))
        (Some (shape.Row (length (q ∷ ps)) (width_of (shape_of v))))) (own (row_count at (q ∷ ps)) None)).shape (value.Row (row_of (v ∷ vs)))
    cases false e g = absurd (cc)
    cases true e g =
        let first = All-head (IsWordOf (word_in v).width) v vs parts.words in
        owned (both (row_count at (q ∷ ps)) (row_words (shape_of v) (q ∷ ps))) (Some (shape.Row (length (q ∷ ps)) (width_of (shape_of v))))
        (value.Row (row_of (v ∷ vs))) g
        (record {
          is = ap (λ k. Some (shape.Row (length (q ∷ ps)) k)) (word_wide v first.word) ∙ ap (λ k. Some (shape.Row k (word_in v).width)) long;
          limits = row_within (v ∷ vs) parts;
        })
