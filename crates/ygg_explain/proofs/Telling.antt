-- What is told of formulas, put together from what is told of their parts.
use Rattle.std.proofs.Common.{
  ◌≡◌,
  ℕ,
  ◌+◌,
  zero,
  suc,
  Bool,
  true,
  false,
  List,
  [],
  ◌∷◌,
  ◌++◌,
  drop,
  length,
  ◌<◌,
  get_or,
  codes,
  sym,
  ap,
  ◌∙◌,
  subst,
  refl,
  append_assoc,
  append-nil,
  arith,
}
use Rattle.ygg_value.specs.declared.operation.Op.{Op}
use Rattle.ygg_value.specs.declared.operation.Op.TheVariants as op
use Rattle.ygg_value.specs.declared.row.Value.{Value}
use Rattle.ygg_syntax.specs.declared.tree.Place.{Place}
use Rattle.ygg_syntax.specs.declared.tree.Expr.{Expr}
use Rattle.ygg_syntax.specs.declared.tree.Expr.TheVariants as expr
use Rattle.ygg_eval.specs.ygg_meaning.Meaning.{is_one}
use Rattle.ygg_eval_expr.specs.Known.{value_in}
use Rattle.ygg_sched.specs.Printing.{line_of}
use Rattle.ygg_explain.specs.Parts.{Adds, AreSides, compares, compared, part_words, fails, both, none, more}
use Rattle.ygg_explain.specs.Views.{AllPartsIn, PartIn, PartsIn, WhyIn, known_in}
use Rattle.ygg_explain.specs.declared.parts.View.{View}
use Rattle.ygg_explain.proofs.Adding.{adds_after, joined_2}

-- why a comparison is false
pub why_compared : (v : View) (e a b : Expr) (x y : Value) (before after : List ℕ) (first at : Place) (o : Op) → e ≡ expr.Binary first a o at b →
    compares o ≡ true → x ≡ value_in (known_in v) a → y ≡ value_in (known_in v) b → Adds (AreSides x y) before after → Adds (WhyIn v e) before after
why_compared v e a b x y before after first at o is compares left right h = record {
  text = h.text;
  like = compared first at o a b is compares (subst (λ (z : Value). AreSides z (value_in (known_in v) b) h.text) left
      (subst (λ (z : Value). AreSides x z h.text) right h.like));
  added = h.added;
}

-- the line of a false part
pub fails_so : (v : View) (wanted : Bool) (which : List ℕ) (e : Expr) (a b c d : List ℕ) → b ≡ a ++ part_words (codes "false ") which e →
    Adds (WhyIn v e) b c → d ≡ c ++ 10 ∷ [] → is_one (value_in (known_in v) e) ≡ false → Adds (PartIn v wanted which e) a d
fails_so v wanted which e a b c d words why last false_is = record {
  text = line_of (part_words (codes "false ") which e ++ why.text);
  like = fails false_is why.like;
  added = joined_2 a c d d (part_words (codes "false ") which e ++ why.text) (10 ∷ [])
      (joined_2 a b c c (part_words (codes "false ") which e) why.text words why.added) last;
}

-- the parts of `(A & B)`
pub parts_of_both : (v : View) (wanted : Bool) (which : List ℕ) (e a b : Expr) (before middle after : List ℕ) (first at : Place) →
    e ≡ expr.Binary first a op.And at b → Adds (PartsIn v wanted which a) before middle → Adds (PartsIn v wanted which b) middle after →
    Adds (PartsIn v wanted which e) before after
parts_of_both v wanted which e a b before middle after first at is left right =
    adds_after left.text left.added (λ text h. both first at a b is left.like h) right

-- what is left of a list, from a place on
pub drop_here : (es : List Expr) (i : ℕ) (e : Expr) → i < length es → e ≡ get_or es i e → drop i es ≡ e ∷ drop (i + 1) es
drop_here [] i e within h = absurd (omega arith)
drop_here (x ∷ es) zero e within h = ap (λ y. y ∷ es) (sym h)
drop_here (x ∷ es) (suc i) e within h =
    let one : suc i + 1 ≡ suc (i + 1) = omega arith in
    drop_here es i e (omega arith) h ∙ ap (λ y. e ∷ y) (ap (λ n. drop n (x ∷ es)) (sym one))

pub drop_none : (es : List Expr) (i : ℕ) → (i < length es → ⊥) → drop i es ≡ []
drop_none [] zero h = refl
drop_none [] (suc i) h = refl
drop_none (x ∷ es) zero h = absurd (h (omega arith))
drop_none (x ∷ es) (suc i) h = drop_none es i (λ before. h (omega arith))

-- with the lines of what is left all lines are told
abbrev pub TellsAll : View → Bool → List ℕ → List Expr → List Expr → List ℕ → List ℕ → Type 0
TellsAll v wanted which all left before now = (text : List ℕ) → AllPartsIn v wanted which left text → Adds (AllPartsIn v wanted which all) before (now ++ text)

-- one formula more
pub one_told : (v : View) (wanted : Bool) (which : List ℕ) (all left rest : List Expr) (e : Expr) (before now next : List ℕ) →
    TellsAll v wanted which all left before now → left ≡ e ∷ rest → Adds (PartsIn v wanted which e) now next → TellsAll v wanted which all rest before next
one_told v wanted which all left rest e before now next tells is this text h =
    let told = tells (this.text ++ text) (subst (λ es. AllPartsIn v wanted which es (this.text ++ text)) (sym is) (more this.like h)) in
    record {
      text = told.text;
      like = told.like;
      added = ap (λ t. t ++ text) this.added ∙ append_assoc now this.text text ∙ told.added;
    }

-- nothing is left
pub all_told : (v : View) (wanted : Bool) (which : List ℕ) (all left : List Expr) (before now : List ℕ) → TellsAll v wanted which all left before now →
    left ≡ [] → Adds (AllPartsIn v wanted which all) before now
all_told v wanted which all left before now tells is =
    let told = tells [] (subst (λ es. AllPartsIn v wanted which es []) (sym is) none) in
    record { text = told.text; like = told.like; added = sym (append-nil now) ∙ told.added }
