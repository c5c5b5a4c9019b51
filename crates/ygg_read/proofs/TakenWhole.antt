-- What derives is read to its end: the symbols that are pending take the tokens of an expression.
use Rattle.std.proofs.Common.{◌≡◌, Bool, true, false, List, [], ◌∷◌, ◌++◌, map, if◌then◌else◌, Option, Some, None, refl, sym, ap, ◌∙◌, subst}
use Rattle.ygg_base.specs.declared.token.Keyword.TheVariants as word
use Rattle.ygg_base.specs.declared.token.Symbol.TheVariants as sign
use Rattle.ygg_base.specs.declared.token.Mark.{Mark}
use Rattle.ygg_base.specs.declared.token.Mark.TheVariants as mark
use Rattle.ygg_base.specs.declared.token.Token.{Token}
use Rattle.ygg_value.specs.declared.operation.Op.{Op}
use Rattle.ygg_value.specs.declared.operation.Op.TheVariants as op
use Rattle.ygg_syntax.specs.declared.tree.Place.{Place}
use Rattle.ygg_syntax.specs.declared.tree.Name.{Name}
use Rattle.ygg_syntax.specs.declared.tree.Numeral.{Numeral}
use Rattle.ygg_syntax.specs.declared.tree.Quantifier.{Quantifier}
use Rattle.ygg_syntax.specs.declared.tree.Quantifier.TheVariants as quantifier
use Rattle.ygg_syntax.specs.declared.tree.Expr.{Expr, map-Expr}
use Rattle.ygg_syntax.specs.declared.tree.Expr.TheOpen.{Expr-F}
use Rattle.ygg_syntax.specs.declared.tree.Expr.TheFolds.{ind-Expr, fold-roll-Expr}
use Rattle.ygg_syntax.specs.Reading.{Reading, token, same_mark, starts, passes, takes, in_turn, impossible}
use Rattle.ygg_syntax.specs.Expressions.{Phrase, node_phrase, phrase, expr, whole, indexed, any, some, more, symbol, named, numbered, operator_sign}
use Rattle.ygg_syntax.specs.Expressions.{quantifier_word}
use Rattle.ygg_syntax.specs.Pending.{Pending, exactly, name, number, operator, expression, indices, arguments, rest_of_arguments, more_expressions, sign_of}
use Rattle.ygg_syntax.specs.Pending.{word_of, refuses, after_expression, outcome}
use Rattle.ygg_read.specs.ExpressionSteps.{GoesAsAtom}
use Rattle.ygg_read.proofs.ExpressionPhrases.{joined}
use Rattle.ygg_read.proofs.Marks.{same_is, Comes, passed, took}
use Rattle.ygg_read.proofs.Stopped.{goes_token, goes_number, goes_name, dropped_indices, dropped_arguments, dropped_more, some_argument}
use Rattle.ygg_read.proofs.ExpressionBegins.{
  begins_constant,
  begins_low,
  begins_name,
  begins_binary,
  begins_not,
  begins_pick,
  begins_resize,
  begins_fill,
  begins_row,
  begins_quantified,
  begins_index,
  begins_arguments,
  begins_no_arguments,
  begins_more,
}

-- one reading, and the others after it
pub record Split (r : Reading) (rs : List Reading) (from rest : List Token) : Type 0 where
  pub mid : List Token
  pub first : r from ≡ Some mid
  pub others : in_turn rs mid ≡ Some rest

pub split : (r : Reading) (rs : List Reading) (from rest : List Token) → in_turn (r ∷ rs) from ≡ Some rest → Split r rs from rest
unfolding in_turn
split r rs from rest h = cases (r from) refl h
  where
    cases : (o : Option (List Token)) → r from ≡ o → elim o as (λ o. Option (List Token)) [ None ↦ None | Some s ↦ in_turn rs s ] ≡ Some rest →
        Split r rs from rest
    cases None e k = absurd (cc)
    cases (Some s) e k = record { mid = s; first = e; others = k }

pub empty : (from rest : List Token) → in_turn [] from ≡ Some rest → from ≡ rest
unfolding in_turn
empty from rest h = cc

-- the pending symbols take what the readings read
pub record Runs (rs : List Reading) (qs : List Pending) : Type 0 where
  pub runs : (from rest : List Token) → in_turn rs from ≡ Some rest → (ps : List Pending) → outcome (qs ++ ps) from ≡ outcome ps rest

-- a pending expression takes what the phrase reads, where no arguments can follow, and indices may come next. No token comes
-- first that can't begin an expression
pub record Claims (p : Phrase) : Type 0 where
  pub claims : (from rest : List Token) → whole p from ≡ Some rest → starts (mark.Symbol sign.RoundOpen) rest ≡ false → GoesAsAtom from rest
  pub opens : (from rest : List Token) → whole p from ≡ Some rest → (m : Mark) → after_expression m ≡ refuses → starts m from ≡ false

-- a token that can't begin an expression isn't one that can
no_beginning : (m n : Mark) → (after_expression m ≡ refuses → ⊥) → after_expression n ≡ refuses → same_mark n m ≡ false
no_beginning m n begins other = cases (same_mark n m) refl
  where
    cases : (b : Bool) → same_mark n m ≡ b → b ≡ false
    cases false e = refl
    cases true e = absurd (begins (ap after_expression (sym (same_is n m e)) ∙ other))

pub done : Runs [] []
done = record { runs = λ from rest h ps. ap (outcome ps) (empty from rest h) }

pub next_mark : (m : Mark) {rs : List Reading} {qs : List Pending} → Runs rs qs → Runs (passes m ∷ rs) (exactly m ∷ qs)
next_mark m {rs} {qs} r = record {
  runs = λ from rest h ps. let s = split (passes m) rs from rest h in let k = passed m from s.mid s.first in
      goes_token m k.at from s.mid k.is (qs ++ ps) ∙ r.runs s.mid rest s.others ps;
}

pub next_number : (n : Numeral) {rs : List Reading} {qs : List Pending} → Runs rs qs → Runs (numbered n ∷ rs) (number ∷ qs)
next_number n {rs} {qs} r = record {
  runs = λ from rest h ps. let s = split (numbered n) rs from rest h in
      goes_number n.value n.place from s.mid (took (mark.Num n.value) n.place from s.mid s.first) (qs ++ ps) ∙ r.runs s.mid rest s.others ps;
}

pub next_name : (x : Name) {rs : List Reading} {qs : List Pending} → Runs rs qs → Runs (named x ∷ rs) (name ∷ qs)
next_name x {rs} {qs} r = record {
  runs = λ from rest h ps. let s = split (named x) rs from rest h in
      goes_name x.text x.place from s.mid (took (mark.Name x.text) x.place from s.mid s.first) (qs ++ ps) ∙ r.runs s.mid rest s.others ps;
}

-- no index comes before this token
no_index : (m : Mark) (from rest : List Token) → starts (mark.Symbol sign.SquareOpen) (token m (record { line = 0; column = 0 }) ∷ []) ≡ false →
    Comes m from rest → (qs : List Pending) → outcome (indices ∷ qs) from ≡ outcome qs from
no_index m from rest other k qs = dropped_indices from (ap (starts (mark.Symbol sign.SquareOpen)) k.is ∙ other) qs

-- an expression and a symbol after it
pub next_part : (p : Phrase) (m : Mark) {rs : List Reading} {qs : List Pending} → Claims p →
    starts (mark.Symbol sign.SquareOpen) (token m (record { line = 0; column = 0 }) ∷ []) ≡ false
    → starts (mark.Symbol sign.RoundOpen) (token m (record { line = 0; column = 0 }) ∷ []) ≡ false → Runs rs qs →
    Runs (whole p ∷ passes m ∷ rs) (expression ∷ exactly m ∷ qs)
next_part p m {rs} {qs} c other round r = record {
  runs = λ from rest h ps.
      let s = split (whole p) (passes m ∷ rs) from rest h in
      let s' = split (passes m) rs s.mid rest s.others in
      let k = passed m s.mid s'.mid s'.first in
      c.claims from s.mid s.first (ap (starts (mark.Symbol sign.RoundOpen)) k.is ∙ round) (exactly m ∷ qs ++ ps)
      ∙ no_index m s.mid s'.mid other k (exactly m ∷ qs ++ ps)
      ∙ goes_token m k.at s.mid s'.mid k.is (qs ++ ps) ∙ r.runs s'.mid rest s'.others ps;
}

operator_comes : (op : Op) (at : Place) (rest : List Token) (qs : List Pending) →
    outcome (indices ∷ operator ∷ qs) (token (mark.Symbol (operator_sign op)) at ∷ rest) ≡ outcome qs rest
unfolding outcome
operator_comes op.Add at rest qs = refl
operator_comes op.Sub at rest qs = refl
operator_comes op.Mul at rest qs = refl
operator_comes op.And at rest qs = refl
operator_comes op.Or at rest qs = refl
operator_comes op.Xor at rest qs = refl
operator_comes op.Shl at rest qs = refl
operator_comes op.Shr at rest qs = refl
operator_comes op.Eq at rest qs = refl
operator_comes op.Ne at rest qs = refl
operator_comes op.Lt at rest qs = refl
operator_comes op.Le at rest qs = refl
operator_comes op.Gt at rest qs = refl
operator_comes op.Ge at rest qs = refl
operator_comes op.Imp at rest qs = refl

operator_no_round : (op : Op) → same_mark (mark.Symbol sign.RoundOpen) (mark.Symbol (operator_sign op)) ≡ false
operator_no_round op.Add = refl
operator_no_round op.Sub = refl
operator_no_round op.Mul = refl
operator_no_round op.And = refl
operator_no_round op.Or = refl
operator_no_round op.Xor = refl
operator_no_round op.Shl = refl
operator_no_round op.Shr = refl
operator_no_round op.Eq = refl
operator_no_round op.Ne = refl
operator_no_round op.Lt = refl
operator_no_round op.Le = refl
operator_no_round op.Gt = refl
operator_no_round op.Ge = refl
operator_no_round op.Imp = refl

-- an expression and an operator after it
next_operand : (p : Phrase) (op : Op) (at : Place) {rs : List Reading} {qs : List Pending} → Claims p → Runs rs qs →
    Runs (whole p ∷ takes (mark.Symbol (operator_sign op)) at ∷ rs) (expression ∷ operator ∷ qs)
next_operand p op at {rs} {qs} c r = record {
  runs = λ from rest h ps.
      let s = split (whole p) (takes (mark.Symbol (operator_sign op)) at ∷ rs) from rest h in
      let s' = split (takes (mark.Symbol (operator_sign op)) at) rs s.mid rest s.others in
      c.claims from s.mid s.first (ap (starts (mark.Symbol sign.RoundOpen)) (took (mark.Symbol (operator_sign op)) at s.mid s'.mid s'.first)
      ∙ operator_no_round op) (operator ∷ qs ++ ps)
      ∙ ap (outcome (indices ∷ operator ∷ qs ++ ps)) (took (mark.Symbol (operator_sign op)) at s.mid s'.mid s'.first)
      ∙ operator_comes op at s'.mid (qs ++ ps) ∙ r.runs s'.mid rest s'.others ps;
}

-- a phrase of a token of its own and of what comes after it
begun : (m : Mark) (at : Place) (rs : List Reading) (qs : List Pending) (indexable : Bool) →
    ((rest : List Token) (ps : List Pending) → outcome (expression ∷ ps) (token m at ∷ rest) ≡ outcome (qs ++ (indices ∷ ps)) rest)
    → (after_expression m ≡ refuses → ⊥) → Runs rs qs → Claims (record { indexable = indexable; parts = takes m at ∷ rs })
begun m at rs qs indexable begins can r = record {
  claims = λ from rest h round ps.
      let s = split (takes m at) rs from rest h in
      ap (outcome (expression ∷ ps)) (took m at from s.mid s.first) ∙ begins s.mid ps ∙ r.runs s.mid rest s.others (indices ∷ ps);
  opens = λ from rest h n other. let s = split (takes m at) rs from rest h in ap (starts n) (took m at from s.mid s.first) ∙ no_beginning m n can other;
}

-- expressions and their claims
abbrev pub Shown : Type 0
Shown = (e : Expr) × Claims (phrase e)

abbrev pub tree_in : Shown → Expr
tree_in s = s.0

abbrev pub phrases : List Shown → List Phrase
phrases es = map phrase (map tree_in es)

-- no index comes between an expression and others
after_part : (es : List Shown) (mid rest : List Token) → in_turn (more (phrases es) ++ symbol sign.RoundClose ∷ []) mid ≡ Some rest →
    (ps : List Pending) → outcome (indices ∷ more_expressions ∷ sign_of sign.RoundClose ∷ ps) mid ≡ outcome
    (more_expressions ∷ sign_of sign.RoundClose ∷ ps) mid
after_part [] mid rest h ps = let s = split (symbol sign.RoundClose) [] mid rest h in
    no_index (mark.Symbol sign.RoundClose) mid s.mid refl (passed (mark.Symbol sign.RoundClose) mid s.mid s.first)
    (more_expressions ∷ sign_of sign.RoundClose ∷ ps)
after_part (e ∷ es) mid rest h ps = let s = split (symbol sign.Comma) (expr e.0 ∷ more (phrases es) ++ symbol sign.RoundClose ∷ []) mid rest h in
    no_index (mark.Symbol sign.Comma) mid s.mid refl (passed (mark.Symbol sign.Comma) mid s.mid s.first) (more_expressions ∷ sign_of sign.RoundClose ∷ ps)

no_round : (es : List Shown) (mid rest : List Token) → in_turn (more (phrases es) ++ symbol sign.RoundClose ∷ []) mid ≡ Some rest →
    starts (mark.Symbol sign.RoundOpen) mid ≡ false
no_round [] mid rest h = let s = split (symbol sign.RoundClose) [] mid rest h in
    ap (starts (mark.Symbol sign.RoundOpen)) (passed (mark.Symbol sign.RoundClose) mid s.mid s.first).is
no_round (e ∷ es) mid rest h = let s = split (symbol sign.Comma) (expr e.0 ∷ more (phrases es) ++ symbol sign.RoundClose ∷ []) mid rest h in
    ap (starts (mark.Symbol sign.RoundOpen)) (passed (mark.Symbol sign.Comma) mid s.mid s.first).is

-- further expressions and the bracket after them
more_run : (es : List Shown) (from rest : List Token) → in_turn (more (phrases es) ++ symbol sign.RoundClose ∷ []) from ≡ Some rest →
    (ps : List Pending) → outcome (more_expressions ∷ sign_of sign.RoundClose ∷ ps) from ≡ outcome ps rest
more_run [] from rest h ps =
    let s = split (symbol sign.RoundClose) [] from rest h in
    let k = passed (mark.Symbol sign.RoundClose) from s.mid s.first in
    dropped_more from (ap (starts (mark.Symbol sign.Comma)) k.is) (sign_of sign.RoundClose ∷ ps)
    ∙ goes_token (mark.Symbol sign.RoundClose) k.at from s.mid k.is ps ∙ ap (outcome ps) (empty s.mid rest s.others)
more_run (e ∷ es) from rest h ps =
    let s = split (symbol sign.Comma) (expr e.0 ∷ more (phrases es) ++ symbol sign.RoundClose ∷ []) from rest h in
    let k = passed (mark.Symbol sign.Comma) from s.mid s.first in
    let s' = split (expr e.0) (more (phrases es) ++ symbol sign.RoundClose ∷ []) s.mid rest s.others in
    ap (outcome (more_expressions ∷ sign_of sign.RoundClose ∷ ps)) k.is ∙ begins_more k.at s.mid (sign_of sign.RoundClose ∷ ps)
    ∙ (e.1).claims s.mid s'.mid s'.first (no_round es s'.mid rest s'.others) (more_expressions ∷ sign_of sign.RoundClose ∷ ps)
    ∙ after_part es s'.mid rest s'.others ps ∙ more_run es s'.mid rest s'.others ps

-- one expression or more, and the bracket after them
next_some : (es : List Shown) → Runs (some (phrases es) ∷ symbol sign.RoundClose ∷ []) (expression ∷ more_expressions ∷ sign_of sign.RoundClose ∷ [])
next_some es = record { runs = λ from rest h ps. cases es from rest h ps }
  where
    cases : (es : List Shown) (from rest : List Token) → in_turn (some (phrases es) ∷ symbol sign.RoundClose ∷ []) from ≡ Some rest →
        (ps : List Pending) → outcome (expression ∷ more_expressions ∷ sign_of sign.RoundClose ∷ ps) from ≡ outcome ps rest
    cases [] from rest h ps = let s = split impossible (symbol sign.RoundClose ∷ []) from rest h in absurd (let k = s.first in cc)
    cases (e ∷ es) from rest h ps =
        let k : in_turn (expr e.0 ∷ (more (phrases es) ++ symbol sign.RoundClose ∷ [])) from ≡ Some rest =
        sym (joined (expr e.0 ∷ more (phrases es)) (symbol sign.RoundClose ∷ []) from) ∙ h in
        let s = split (expr e.0) (more (phrases es) ++ symbol sign.RoundClose ∷ []) from rest k in
        (e.1).claims from s.mid s.first (no_round es s.mid rest s.others) (more_expressions ∷ sign_of sign.RoundClose ∷ ps)
        ∙ after_part es s.mid rest s.others ps ∙ more_run es s.mid rest s.others ps

-- a bracket closes at once, or an expression comes
pub next_any : (es : List Shown) → Runs (any (phrases es) ∷ symbol sign.RoundClose ∷ []) (rest_of_arguments ∷ [])
next_any es = record { runs = λ from rest h ps. cases es from rest h ps }
  where
    cases : (es : List Shown) (from rest : List Token) → in_turn (any (phrases es) ∷ symbol sign.RoundClose ∷ []) from ≡ Some rest →
        (ps : List Pending) → outcome (rest_of_arguments ∷ ps) from ≡ outcome ps rest
    cases [] from rest h ps =
        let s = split (any []) (symbol sign.RoundClose ∷ []) from rest h in
        let s' = split (symbol sign.RoundClose) [] s.mid rest s.others in
        let k = passed (mark.Symbol sign.RoundClose) s.mid s'.mid s'.first in
        ap (outcome (rest_of_arguments ∷ ps)) (empty from s.mid s.first ∙ k.is) ∙ begins_no_arguments k.at s'.mid ps
        ∙ ap (outcome ps) (empty s'.mid rest s'.others)
    cases (e ∷ es) from rest h ps =
        let s = split (some (phrases (e ∷ es))) (symbol sign.RoundClose ∷ []) from rest h in
        let k : in_turn (expr e.0 ∷ more (phrases es)) from ≡ Some s.mid = s.first in
        let s' = split (expr e.0) (more (phrases es)) from s.mid k in
        some_argument from ((e.1).opens from s'.mid s'.first (mark.Symbol sign.RoundClose) refl) ps ∙ (next_some (e ∷ es)).runs from rest h ps

-- an index after an expression
index_claims : (p i : Phrase) (bracket : Place) → Claims p → Claims i →
    Claims (record { indexable = true; parts = indexed p ∷ takes (mark.Symbol sign.SquareOpen) bracket ∷ whole i ∷ symbol sign.SquareClose ∷ [] })
index_claims p i bracket c d = record {
  claims = λ from rest h round ps.
      let s = split (indexed p) (takes (mark.Symbol sign.SquareOpen) bracket ∷ whole i ∷ symbol sign.SquareClose ∷ []) from rest h in
      let s' = split (takes (mark.Symbol sign.SquareOpen) bracket) (whole i ∷ symbol sign.SquareClose ∷ []) s.mid rest s.others in
      c.claims from s.mid (open_up p.indexable from s.mid s.first)
      (ap (starts (mark.Symbol sign.RoundOpen)) (took (mark.Symbol sign.SquareOpen) bracket s.mid s'.mid s'.first)) ps
      ∙ ap (outcome (indices ∷ ps)) (took (mark.Symbol sign.SquareOpen) bracket s.mid s'.mid s'.first) ∙ begins_index bracket s'.mid ps
      ∙ (next_part i (mark.Symbol sign.SquareClose) d refl refl done).runs s'.mid rest s'.others (indices ∷ ps);
  opens = λ from rest h m other. let s = split (indexed p) (takes (mark.Symbol sign.SquareOpen) bracket ∷ whole i ∷ symbol sign.SquareClose ∷ []) from rest h in
      c.opens from s.mid (open_up p.indexable from s.mid s.first) m other;
}
  where
    open_up : (b : Bool) (from mid : List Token) → (if b then whole p else impossible) from ≡ Some mid → whole p from ≡ Some mid
    open_up true from mid h = h
    open_up false from mid h = absurd (cc)

not_claims : (first : Place) (p : Phrase) → Claims p → Claims (record { indexable = false; parts = takes (mark.Symbol sign.Tilde) first ∷ whole p ∷ [] })
not_claims first p c = record {
  claims = λ from rest h round ps.
      let s = split (takes (mark.Symbol sign.Tilde) first) (whole p ∷ []) from rest h in
      let s' = split (whole p) [] s.mid rest s.others in
      ap (outcome (expression ∷ ps)) (took (mark.Symbol sign.Tilde) first from s.mid s.first) ∙ begins_not first s.mid ps
      ∙ c.claims s.mid s'.mid s'.first (ap (starts (mark.Symbol sign.RoundOpen)) (empty s'.mid rest s'.others) ∙ round) ps
      ∙ ap (outcome (indices ∷ ps)) (empty s'.mid rest s'.others);
  opens = λ from rest h m other. let s = split (takes (mark.Symbol sign.Tilde) first) (whole p ∷ []) from rest h in
      ap (starts m) (took (mark.Symbol sign.Tilde) first from s.mid s.first) ∙ no_beginning (mark.Symbol sign.Tilde) m (λ k. cc) other;
}

name_comes : (x : Name) (rest : List Token) (ps : List Pending) →
    outcome (expression ∷ ps) (token (mark.Name x.text) x.place ∷ rest) ≡ outcome (arguments ∷ indices ∷ ps) rest
name_comes x rest ps = begins_name x.text x.place rest ps

apply_claims : (f : Name) (es : List Shown) → Claims
    (record { indexable = true; parts = named f ∷ symbol sign.RoundOpen ∷ any (phrases es) ∷ symbol sign.RoundClose ∷ [] })
apply_claims f es = record {
  claims = λ from rest h round ps.
      let s = split (named f) (symbol sign.RoundOpen ∷ any (phrases es) ∷ symbol sign.RoundClose ∷ []) from rest h in
      let s' = split (symbol sign.RoundOpen) (any (phrases es) ∷ symbol sign.RoundClose ∷ []) s.mid rest s.others in
      let k = passed (mark.Symbol sign.RoundOpen) s.mid s'.mid s'.first in
      ap (outcome (expression ∷ ps)) (took (mark.Name f.text) f.place from s.mid s.first) ∙ name_comes f s.mid ps
      ∙ ap (outcome (arguments ∷ indices ∷ ps)) k.is ∙ begins_arguments k.at s'.mid (indices ∷ ps) ∙ (next_any es).runs s'.mid rest s'.others (indices ∷ ps);
  opens = λ from rest h m other. let s = split (named f) (symbol sign.RoundOpen ∷ any (phrases es) ∷ symbol sign.RoundClose ∷ []) from rest h in
      ap (starts m) (took (mark.Name f.text) f.place from s.mid s.first) ∙ no_beginning (mark.Name f.text) m (λ k. cc) other;
}

-- a name alone
variable_claims : (x : Name) → Claims (record { indexable = true; parts = named x ∷ [] })
variable_claims x = record {
  claims = λ from rest h round ps.
      let s = split (named x) [] from rest h in
      ap (outcome (expression ∷ ps)) (took (mark.Name x.text) x.place from s.mid s.first) ∙ name_comes x s.mid ps
      ∙ ap (outcome (arguments ∷ indices ∷ ps)) (empty s.mid rest s.others) ∙ dropped_arguments rest round (indices ∷ ps);
  opens = λ from rest h m other. let s = split (named x) [] from rest h in
      ap (starts m) (took (mark.Name x.text) x.place from s.mid s.first) ∙ no_beginning (mark.Name x.text) m (λ k. cc) other;
}

quantified_claims : (first : Place) (which : Quantifier) (x : Name) (w n : Numeral) (e : Shown) →
    Claims (node_phrase (Expr-F.Quantified first which x w n (phrase e.0)))
quantified_claims first which x w n e =
    begun (mark.Keyword (quantifier_word which)) first _
    (sign_of sign.RoundOpen ∷ name ∷ sign_of sign.Colon ∷ number ∷ word_of word.Below ∷ number ∷ sign_of sign.Comma ∷ expression
    ∷ sign_of sign.RoundClose ∷ []) true
    (λ rest ps. begins_quantified which first rest ps) (can which)
    (next_mark (mark.Symbol sign.RoundOpen) (next_name x
    (next_mark (mark.Symbol sign.Colon) (next_number w
    (next_mark (mark.Keyword word.Below) (next_number n
    (next_mark (mark.Symbol sign.Comma) (next_part (phrase e.0) (mark.Symbol sign.RoundClose) e.1 refl refl done))))))))
  where
    can : (which : Quantifier) → after_expression (mark.Keyword (quantifier_word which)) ≡ refuses → ⊥
    can quantifier.All h = cc
    can quantifier.Any h = cc

-- one rule a line
node : (y : Expr-F Shown) → Claims (node_phrase (map-Expr Expr Phrase phrase (map-Expr Shown Expr tree_in y)))
node (Expr-F.Constant v w) = begun (mark.Num v.value) v.place _ (sign_of sign.Colon ∷ number ∷ []) true
    (λ rest ps. begins_constant v.value v.place rest ps) (λ k. cc) (next_mark (mark.Symbol sign.Colon) (next_number w done))
node (Expr-F.Low first x) = begun (mark.Keyword word.Low) first _ (sign_of sign.Dot ∷ name ∷ []) true (λ rest ps. begins_low first rest ps) (λ k. cc)
    (next_mark (mark.Symbol sign.Dot) (next_name x done))
node (Expr-F.Variable x) = variable_claims x
node (Expr-F.Apply f es) = apply_claims f es
node (Expr-F.Binary first a op at b) = begun (mark.Symbol sign.RoundOpen) first _
    (expression ∷ operator ∷ expression ∷ sign_of sign.RoundClose ∷ []) true (λ rest ps. begins_binary first rest ps) (λ k. cc)
    (next_operand (phrase a.0) op at a.1 (next_part (phrase b.0) (mark.Symbol sign.RoundClose) b.1 refl refl done))
node (Expr-F.Not first a) = not_claims first (phrase a.0) a.1
node (Expr-F.At a bracket i) = index_claims (phrase a.0) (phrase i.0) bracket a.1 i.1
node (Expr-F.Pick first c a b) = begun (mark.Keyword word.Pick) first _
    (sign_of sign.RoundOpen ∷ expression ∷ sign_of sign.Comma ∷ expression ∷ sign_of sign.Comma ∷ expression ∷ sign_of sign.RoundClose ∷ []) true
    (λ rest ps. begins_pick first rest ps) (λ k. cc)
    (next_mark (mark.Symbol sign.RoundOpen) (next_part (phrase c.0) (mark.Symbol sign.Comma) c.1 refl refl
    (next_part (phrase a.0) (mark.Symbol sign.Comma) a.1 refl refl (next_part (phrase b.0) (mark.Symbol sign.RoundClose) b.1 refl refl done))))
node (Expr-F.Resize first a w) = begun (mark.Keyword word.Resize) first _
    (sign_of sign.RoundOpen ∷ expression ∷ sign_of sign.Comma ∷ number ∷ sign_of sign.RoundClose ∷ []) true (λ rest ps. begins_resize first rest ps) (λ k. cc)
    (next_mark (mark.Symbol sign.RoundOpen) (next_part (phrase a.0) (mark.Symbol sign.Comma) a.1 refl refl
    (next_number w (next_mark (mark.Symbol sign.RoundClose) done))))
node (Expr-F.Fill first m a) = begun (mark.Keyword word.Fill) first _
    (sign_of sign.RoundOpen ∷ number ∷ sign_of sign.Comma ∷ expression ∷ sign_of sign.RoundClose ∷ []) true (λ rest ps. begins_fill first rest ps) (λ k. cc)
    (next_mark (mark.Symbol sign.RoundOpen) (next_number m
    (next_mark (mark.Symbol sign.Comma) (next_part (phrase a.0) (mark.Symbol sign.RoundClose) a.1 refl refl done))))
node (Expr-F.Row first es) = begun (mark.Keyword word.Row) first _
    (sign_of sign.RoundOpen ∷ expression ∷ more_expressions ∷ sign_of sign.RoundClose ∷ []) true (λ rest ps. begins_row first rest ps) (λ k. cc)
    (next_mark (mark.Symbol sign.RoundOpen) (next_some es))
node (Expr-F.Quantified first which x w n e) = quantified_claims first which x w n e

pub all_claims : (e : Expr) → Claims (phrase e)
all_claims = ind-Expr (λ e. Claims (phrase e))
    (λ x y is. subst Claims (sym (fold-roll-Expr Phrase node_phrase x)) (subst (λ z. Claims (node_phrase (map-Expr Expr Phrase phrase z))) is (node y)))
