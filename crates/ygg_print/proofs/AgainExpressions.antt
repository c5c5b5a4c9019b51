-- Where an expression derives, one that is the same but for places derives from all tokens with its printed marks.
use Rattle.std.proofs.Common.{◌≡◌, Bool, true, false, List, [], ◌∷◌, map, if◌then◌else◌, refl, sym, ap, ◌∙◌, subst}
use Rattle.ygg_base.specs.declared.token.Keyword.TheVariants as word
use Rattle.ygg_base.specs.declared.token.Symbol.TheVariants as sign
use Rattle.ygg_base.specs.declared.token.Mark.{Mark}
use Rattle.ygg_base.specs.declared.token.Mark.TheVariants as mark
use Rattle.ygg_base.specs.declared.token.Token.{Token}
use Rattle.ygg_syntax.specs.declared.tree.Place.{Place}
use Rattle.ygg_syntax.specs.declared.tree.Name as tree
use Rattle.ygg_syntax.specs.declared.tree.Numeral.{Numeral}
use Rattle.ygg_syntax.specs.declared.tree.Expr.{Expr, roll-Expr, map-Expr}
use Rattle.ygg_syntax.specs.declared.tree.Expr.TheOpen.{Expr-F}
use Rattle.ygg_syntax.specs.declared.tree.Expr.TheFolds.{ind-Expr, fold-roll-Expr}
use Rattle.ygg_syntax.specs.Reading.{Reading, in_turn, impossible}
use Rattle.ygg_syntax.specs.Expressions.{Phrase, node_phrase, phrase, whole, indexed, any, some, more, operator_sign, quantifier_word}
use Rattle.ygg_print.specs.Printed.{printed, node_printed, list_printed, more_printed}
use Rattle.ygg_syntax.specs.Bare.{nowhere, bare, node_bare}
use Rattle.ygg_print.proofs.ExpressionMarks.{may_have}
use Rattle.ygg_print.proofs.Again.{Single, Again, row, done, pass, take, part, turn, turns, never, last}

-- an expression that is this one without places, and whether an index may follow it
abbrev pub Like : Bool → Expr → Type 0
Like i b = (e : Expr) × ((bare e ≡ b) × ((phrase e).indexable ≡ i))

-- expressions that are these without places
abbrev pub LikeAll : List Expr → Type 0
LikeAll bs = (es : List Expr) × (map bare es ≡ bs)

-- one that is the same but for places is read from the marks
abbrev pub Anew : Phrase → Expr → List Mark → Type 0
Anew p b ms = Single (whole p) ms (Like p.indexable b) (λ z. whole (phrase z.0))

abbrev pub AllAnew : List Expr → Type 0
AllAnew [] = Unit {0}
AllAnew (e ∷ es) = Anew (phrase e) (bare e) (printed e) × AllAnew es

-- one rule
rule : {rs : List Reading} {ms : List Mark} {Z : Type 0} {reads : Z → List Reading} (i : Bool) (target : Expr-F Expr) (e : Z → Expr-F Expr)
    → ((z : Z) → node_phrase (map-Expr Expr Phrase phrase (e z)) ≡ record { indexable = i; parts = reads z }) →
    ((z : Z) → node_bare (map-Expr Expr Expr bare (e z)) ≡ target)
    → Again rs ms Z reads → Single (in_turn rs) ms (Like i (roll-Expr target)) (λ z. whole (phrase z.0))
rule {rs} {ms} {Z} {reads} i target e p b r =
    turn (λ z. (
      roll-Expr (e z),
      (
        fold-roll-Expr Expr (λ y. roll-Expr (node_bare y)) (e z)
            ∙ ap roll-Expr (b z),
        ap (λ (q : Phrase). q.indexable) (is z),
      ),
    )) (λ z ts. ap (λ (q : Phrase). whole q ts) (is z)) (row r)
  where
    is : (z : Z) → phrase (roll-Expr (e z)) ≡ record { indexable = i; parts = reads z }
    is z = fold-roll-Expr Phrase node_phrase (e z) ∙ p z

-- further expressions
more_anew : (es : List Expr) → AllAnew es → Again (more (map phrase es)) (more_printed (map printed es)) (LikeAll (map bare es)) (λ z. more (map phrase z.0))
more_anew [] all = turns (λ z. ([], refl)) (λ z. refl) done
more_anew (e ∷ es) all = turns (λ z. (z.0.0 ∷ z.1.0, λ i. z.0.1.0 i ∷ z.1.1 i)) (λ z. refl) (pass (mark.Symbol sign.Comma) (part all.0 (more_anew es all.1)))

-- one expression or more
some_anew : (e : Expr) (es : List Expr) → AllAnew (e ∷ es) →
    Single (some (map phrase (e ∷ es))) (list_printed (map printed (e ∷ es))) (LikeAll (map bare (e ∷ es))) (λ z. some (map phrase z.0))
some_anew e es all = turn (λ z. (z.0.0 ∷ z.1.0, λ i. z.0.1.0 i ∷ z.1.1 i)) (λ z ts. refl) (row (part all.0 (more_anew es all.1)))

-- expressions or none
pub any_anew : (es : List Expr) → AllAnew es → Single (any (map phrase es)) (list_printed (map printed es)) (LikeAll (map bare es)) (λ z. any (map phrase z.0))
any_anew [] all = turn (λ z. ([], refl)) (λ z ts. refl) (row done)
any_anew (e ∷ es) all = turn (λ z. (z.0.0 ∷ z.1.0, λ i. z.0.1.0 i ∷ z.1.1 i)) (λ z ts. refl) (row (part all.0 (more_anew es all.1)))

row_anew : (es : List Expr) → AllAnew es → Single (some (map phrase es)) (list_printed (map printed es)) (LikeAll (map bare es)) (λ z. some (map phrase z.0))
row_anew [] all = never
row_anew (e ∷ es) all = some_anew e es all

-- the base of an index
base_anew : (p : Phrase) (b : Expr) (ms : List Mark) → Anew p b ms → Single (indexed p) ms (Like true b) (λ z. indexed (phrase z.0))
base_anew p b ms one = record {
  single = λ from rest h tokens tail same.
      let base = may_have p from rest h in
      let a = one.single from rest base.1 tokens tail same in
      let i : (phrase a.made.0).indexable ≡ true = a.made.1.1 ∙ base.0 in
      record { made = (a.made.0, (a.made.1.0, i)); rest = a.rest; is = has (phrase a.made.0) i tokens ∙ a.is; left = a.left };
  keeps = λ from rest h tail w. one.keeps from rest (may_have p from rest h).1 tail w;
}
  where
    has : (p : Phrase) → p.indexable ≡ true → (ts : List Token) → indexed p ts ≡ whole p ts
    has p h ts = ap (λ (b : Bool). (if b then whole p else impossible) ts) h

-- expressions with what is shown of them
abbrev Shown : Type 0
Shown = (e : Expr) × Anew (phrase e) (bare e) (printed e)

abbrev tree_in : Shown → Expr
tree_in s = s.0

all_in : (es : List Shown) → AllAnew (map tree_in es)
all_in [] = tt
all_in (e ∷ es) = (e.1, all_in es)

abbrev pub name_at : tree.Name → Place → tree.Name
name_at x at = record { text = x.text; place = at }

abbrev pub number_at : Numeral → Place → Numeral
number_at n at = record { value = n.value; place = at }

abbrev pub name : tree.Name → Mark
name x = mark.Name x.text

abbrev pub number : Numeral → Mark
number n = mark.Num n.value

abbrev pub round : Mark
round = mark.Symbol sign.RoundOpen

abbrev pub close : Mark
close = mark.Symbol sign.RoundClose

abbrev pub comma : Mark
comma = mark.Symbol sign.Comma

-- one rule a line
node : (y : Expr-F Shown) → Anew (node_phrase (map-Expr Expr Phrase phrase (map-Expr Shown Expr tree_in y)))
    (roll-Expr (node_bare (map-Expr Expr Expr bare (map-Expr Shown Expr tree_in y))))
    (node_printed (map-Expr Expr (List Mark) printed (map-Expr Shown Expr tree_in y)))
node (Expr-F.Constant v w) = rule true _ (λ z. Expr-F.Constant (number_at v z.0) (number_at w z.1.0)) (λ z. refl) (λ z. refl)
    (take (number v) v.place (pass (mark.Symbol sign.Colon) (take (number w) w.place done)))
node (Expr-F.Low first x) = rule true _ (λ z. Expr-F.Low z.0 (name_at x z.1.0)) (λ z. refl) (λ z. refl)
    (take (mark.Keyword word.Low) first (pass (mark.Symbol sign.Dot) (take (name x) x.place done)))
node (Expr-F.Variable x) = rule true _ (λ z. Expr-F.Variable (name_at x z.0)) (λ z. refl) (λ z. refl) (take (name x) x.place done)
node (Expr-F.Apply f es) = rule true _ (λ z. Expr-F.Apply (name_at f z.0) z.1.0.0) (λ z. refl) (λ z i. Expr-F.Apply (name_at f nowhere) (z.1.0.1 i))
    (take (name f) f.place (pass round (part (any_anew (map tree_in es) (all_in es)) (pass close done))))
node (Expr-F.Binary first a op at b) = rule true _ (λ z. Expr-F.Binary z.0 z.1.0.0 op z.1.1.0 z.1.1.1.0.0) (λ z. refl)
    (λ z i. Expr-F.Binary nowhere (z.1.0.1.0 i) op nowhere (z.1.1.1.0.1.0 i))
    (take round first (part a.1 (take (mark.Symbol (operator_sign op)) at (part b.1 (pass close done)))))
node (Expr-F.Not first a) = rule false _ (λ z. Expr-F.Not z.0 z.1.0) (λ z. refl) (λ z i. Expr-F.Not nowhere (z.1.1.0 i))
    (take (mark.Symbol sign.Tilde) first (last a.1))
node (Expr-F.At a bracket i) = rule true _ (λ z. Expr-F.At z.0.0 z.1.0 z.1.1.0.0) (λ z. refl) (λ z j. Expr-F.At (z.0.1.0 j) nowhere (z.1.1.0.1.0 j))
    (part (base_anew (phrase a.0) (bare a.0) (printed a.0) a.1)
    (take (mark.Symbol sign.SquareOpen) bracket (part i.1 (pass (mark.Symbol sign.SquareClose) done))))
node (Expr-F.Pick first c a b) = rule true _ (λ z. Expr-F.Pick z.0 z.1.0.0 z.1.1.0.0 z.1.1.1.0.0) (λ z. refl)
    (λ z i. Expr-F.Pick nowhere (z.1.0.1.0 i) (z.1.1.0.1.0 i) (z.1.1.1.0.1.0 i))
    (take (mark.Keyword word.Pick) first (pass round (part c.1 (pass comma (part a.1 (pass comma (part b.1 (pass close done))))))))
node (Expr-F.Resize first a w) = rule true _ (λ z. Expr-F.Resize z.0 z.1.0.0 (number_at w z.1.1.0)) (λ z. refl)
    (λ z i. Expr-F.Resize nowhere (z.1.0.1.0 i) (number_at w nowhere))
    (take (mark.Keyword word.Resize) first (pass round (part a.1 (pass comma (take (number w) w.place (pass close done))))))
node (Expr-F.Fill first m a) = rule true _ (λ z. Expr-F.Fill z.0 (number_at m z.1.0) z.1.1.0.0) (λ z. refl)
    (λ z i. Expr-F.Fill nowhere (number_at m nowhere) (z.1.1.0.1.0 i))
    (take (mark.Keyword word.Fill) first (pass round (take (number m) m.place (pass comma (part a.1 (pass close done))))))
node (Expr-F.Row first es) = rule true _ (λ z. Expr-F.Row z.0 z.1.0.0) (λ z. refl) (λ z i. Expr-F.Row nowhere (z.1.0.1 i))
    (take (mark.Keyword word.Row) first (pass round (part (row_anew (map tree_in es) (all_in es)) (pass close done))))
node (Expr-F.Quantified first q x w n e) = rule true _
    (λ z. Expr-F.Quantified z.0 q (name_at x z.1.0) (number_at w z.1.1.0) (number_at n z.1.1.1.0) z.1.1.1.1.0.0) (λ z. refl)
    (λ z i. Expr-F.Quantified nowhere q (name_at x nowhere) (number_at w nowhere) (number_at n nowhere) (z.1.1.1.1.0.1.0 i))
    (take (mark.Keyword (quantifier_word q)) first (pass round (take (name x) x.place (pass (mark.Symbol sign.Colon) (take (number w) w.place
    (pass (mark.Keyword word.Below) (take (number n) n.place (pass comma (part e.1 (pass close done))))))))))

-- each expression is read again
pub anew : (e : Expr) → Anew (phrase e) (bare e) (printed e)
anew = ind-Expr (λ e. Anew (phrase e) (bare e) (printed e))
    (λ x y is.
    subst (λ (p : Phrase). Anew p (bare (roll-Expr x)) (printed (roll-Expr x))) (sym (fold-roll-Expr Phrase node_phrase x))
    (subst (λ (b : Expr). Anew (node_phrase (map-Expr Expr Phrase phrase x)) b (printed (roll-Expr x)))
    (sym (fold-roll-Expr Expr (λ y. roll-Expr (node_bare y)) x))
    (subst (λ (ms : List Mark). Anew (node_phrase (map-Expr Expr Phrase phrase x)) (roll-Expr (node_bare (map-Expr Expr Expr bare x))) ms)
    (sym (fold-roll-Expr (List Mark) node_printed x))
    (subst (λ z. Anew (node_phrase (map-Expr Expr Phrase phrase z)) (roll-Expr (node_bare (map-Expr Expr Expr bare z)))
    (node_printed (map-Expr Expr (List Mark) printed z))) is (node y)))))

pub all_anew : (es : List Expr) → AllAnew es
all_anew [] = tt
all_anew (e ∷ es) = (anew e, all_anew es)
