-- What an expression reads after its first token.
use Rattle.std.proofs.Common.{◌≡◌, ℕ, ◌==◌, true, false, cond, List, [], ◌∷◌, ◌++◌, map, Option, Some, None, refl, sym, ap, ◌∙◌, arith}
use Rattle.std.proofs.lemmas.Bool.Decides.{nat_tests}
use Rattle.std.proofs.lemmas.Slice.Eq.{bytes_eq-Decides}
use Rattle.ygg_base.specs.declared.token.Keyword.TheVariants as word
use Rattle.ygg_base.specs.declared.token.Symbol.TheVariants as sign
use Rattle.ygg_base.specs.declared.token.Mark.{Mark}
use Rattle.ygg_base.specs.declared.token.Mark.TheVariants as mark
use Rattle.ygg_base.specs.declared.token.Token.{Token}
use Rattle.ygg_base.specs.Spelling.{keyword_bytes, symbol_bytes}
use Rattle.ygg_syntax.specs.declared.tree.Place.{Place}
use Rattle.ygg_syntax.specs.declared.tree.Name.{Name}
use Rattle.ygg_syntax.specs.declared.tree.Numeral.{Numeral}
use Rattle.ygg_syntax.specs.declared.tree.Quantifier.{Quantifier}
use Rattle.ygg_value.specs.declared.operation.Op.{Op}
use Rattle.ygg_syntax.specs.declared.tree.Expr.{Expr}
use Rattle.ygg_syntax.specs.declared.tree.Expr.TheVariants as tree
use Rattle.ygg_syntax.specs.declared.tree.Expr.TheOpen.{Expr-F}
use Rattle.ygg_syntax.specs.declared.tree.Expr.TheFolds.{fold-roll-Expr}
use Rattle.ygg_syntax.specs.Reading.{Reading, token, same_mark, takes, passes, in_turn}
use Rattle.ygg_syntax.specs.Expressions.{Phrase, node_phrase, phrase, expr, symbol, keyword, named, numbered, whole, any, some, indexed, operator_sign}
use Rattle.ygg_syntax.specs.Expressions.{quantifier_word}

equal : (n : ℕ) → n == n ≡ true
equal n = grind (arith, nat_tests)

pub same : (m : Mark) → same_mark m m ≡ true
same (mark.Name s) = (bytes_eq-Decides s s).1 refl
same (mark.Num n) = equal n
same (mark.Keyword k) = (bytes_eq-Decides (keyword_bytes k) (keyword_bytes k)).1 refl
same (mark.Symbol s) = (bytes_eq-Decides (symbol_bytes s) (symbol_bytes s)).1 refl

-- a token is read where it stands
pub taken : (m : Mark) (at : Place) (rest : List Token) → takes m at (token m at ∷ rest) ≡ Some rest
taken m at rest = rw (same m, equal at.line, equal at.column) refl

-- readings in a row, and others after them
pub joined : (rs qs : List Reading) (from : List Token) → in_turn (in_turn rs ∷ qs) from ≡ in_turn (rs ++ qs) from
unfolding in_turn
joined [] qs from = refl
joined (r ∷ rs) qs from = cases (r from) (joined rs qs)
  where
    cases : (o : Option (List Token)) → ((rest : List Token) → in_turn (in_turn rs ∷ qs) rest ≡ in_turn (rs ++ qs) rest)
        → elim (elim o as (λ o. Option (List Token)) [ None ↦ None | Some rest ↦ in_turn rs rest ]) as (λ o. Option (List Token))
        [ None ↦ None | Some rest ↦ in_turn qs rest ] ≡ elim o as (λ o. Option (List Token)) [ None ↦ None | Some rest ↦ in_turn (rs ++ qs) rest ]
    cases None again = refl
    cases (Some rest) again = again rest

-- a token at its place, and others after it
pub reads_token : (m : Mark) (at : Place) (from rest : List Token) → from ≡ token m at ∷ rest → (qs : List Reading) →
    in_turn (takes m at ∷ qs) from ≡ in_turn qs rest
unfolding in_turn
reads_token m at from rest e qs =
    ap (in_turn (takes m at ∷ qs)) e ∙ ap (λ (o : Option (List Token)). elim o as (λ o. Option (List Token))
    [ None ↦ None | Some rest ↦ in_turn qs rest ]) (taken m at rest)

-- a token, and others after it
pub reads_mark : (m : Mark) (at : Place) (from rest : List Token) → from ≡ token m at ∷ rest → (qs : List Reading) →
    in_turn (passes m ∷ qs) from ≡ in_turn qs rest
unfolding in_turn
reads_mark m at from rest e qs =
    ap (in_turn (passes m ∷ qs)) e ∙ ap (λ b. elim (cond b (Some rest) None) as (λ o. Option (List Token))
    [ None ↦ None | Some rest ↦ in_turn qs rest ]) (same m)

-- nothing is read
pub reads_nothing : (from : List Token) (qs : List Reading) → in_turn (any [] ∷ qs) from ≡ in_turn qs from
unfolding in_turn
reads_nothing from qs = refl

-- an expression that begins with a token of its own
pub after_first : (e : Expr) (m : Mark) (at : Place) (parts : List Reading) (rest : List Token) → (phrase e).parts ≡ takes m at ∷ parts →
    (qs : List Reading) → in_turn (expr e ∷ qs) (token m at ∷ rest) ≡ in_turn (parts ++ qs) rest
after_first e m at parts rest is qs =
    joined (phrase e).parts qs (token m at ∷ rest) ∙ ap (λ rs. in_turn (rs ++ qs) (token m at ∷ rest)) is
    ∙ reads_token m at (token m at ∷ rest) rest refl (parts ++ qs)

pub parts_constant : (v w : Numeral) → phrase (tree.Constant v w) ≡
    record { indexable = true; parts = takes (mark.Num v.value) v.place ∷ symbol sign.Colon ∷ numbered w ∷ [] }
parts_constant v w = ap phrase (sym (tree.rolls-Constant v w)) ∙ fold-roll-Expr Phrase node_phrase (Expr-F.Constant v w)

pub reads_constant : (v w : Numeral) (rest : List Token) (qs : List Reading) →
    in_turn (expr (tree.Constant v w) ∷ qs) (token (mark.Num v.value) v.place ∷ rest) ≡ in_turn (symbol sign.Colon ∷ numbered w ∷ qs) rest
reads_constant v w rest qs = after_first (tree.Constant v w) (mark.Num v.value) v.place (symbol sign.Colon ∷ numbered w ∷ []) rest
    (ap (λ (p : Phrase). p.parts) (parts_constant v w)) qs

pub parts_low : (first : Place) (x : Name) → phrase (tree.Low first x) ≡
    record { indexable = true; parts = takes (mark.Keyword word.Low) first ∷ symbol sign.Dot ∷ named x ∷ [] }
parts_low first x = ap phrase (sym (tree.rolls-Low first x)) ∙ fold-roll-Expr Phrase node_phrase (Expr-F.Low first x)

pub reads_low : (first : Place) (x : Name) (rest : List Token) (qs : List Reading) →
    in_turn (expr (tree.Low first x) ∷ qs) (token (mark.Keyword word.Low) first ∷ rest) ≡ in_turn (symbol sign.Dot ∷ named x ∷ qs) rest
reads_low first x rest qs = after_first (tree.Low first x) (mark.Keyword word.Low) first (symbol sign.Dot ∷ named x ∷ []) rest
    (ap (λ (p : Phrase). p.parts) (parts_low first x)) qs

pub parts_variable : (x : Name) → phrase (tree.Variable x) ≡ record { indexable = true; parts = takes (mark.Name x.text) x.place ∷ [] }
parts_variable x = ap phrase (sym (tree.rolls-Variable x)) ∙ fold-roll-Expr Phrase node_phrase (Expr-F.Variable x)

pub reads_variable : (x : Name) (rest : List Token) (qs : List Reading) →
    in_turn (expr (tree.Variable x) ∷ qs) (token (mark.Name x.text) x.place ∷ rest) ≡ in_turn (qs) rest
reads_variable x rest qs = after_first (tree.Variable x) (mark.Name x.text) x.place ([]) rest (ap (λ (p : Phrase). p.parts) (parts_variable x)) qs

pub parts_apply : (f : Name) (arguments : List Expr) →
    phrase (tree.Apply f arguments) ≡ record {
      indexable = true;
      parts =
          takes (mark.Name f.text) f.place ∷ symbol sign.RoundOpen ∷ any (map phrase arguments) ∷ symbol sign.RoundClose ∷ [];
    }
parts_apply f arguments = ap phrase (sym (tree.rolls-Apply f arguments)) ∙ fold-roll-Expr Phrase node_phrase (Expr-F.Apply f arguments)

pub reads_apply : (f : Name) (arguments : List Expr) (rest : List Token) (qs : List Reading) →
    in_turn (expr (tree.Apply f arguments) ∷ qs) (token (mark.Name f.text) f.place ∷ rest) ≡ in_turn
    (symbol sign.RoundOpen ∷ any (map phrase arguments) ∷ symbol sign.RoundClose ∷ qs) rest
reads_apply f arguments rest qs = after_first (tree.Apply f arguments) (mark.Name f.text) f.place
    (symbol sign.RoundOpen ∷ any (map phrase arguments) ∷ symbol sign.RoundClose ∷ []) rest (ap (λ (p : Phrase). p.parts) (parts_apply f arguments)) qs

pub parts_binary : (first : Place) (a : Expr) (op : Op) (at : Place) (b : Expr) →
    phrase (tree.Binary first a op at b) ≡ record {
      indexable = true;
      parts =
          takes (mark.Symbol sign.RoundOpen) first ∷ expr a ∷ takes (mark.Symbol (operator_sign op)) at ∷ expr b ∷ symbol sign.RoundClose ∷ [];
    }
parts_binary first a op at b = ap phrase (sym (tree.rolls-Binary first a op at b)) ∙ fold-roll-Expr Phrase node_phrase (Expr-F.Binary first a op at b)

pub reads_binary : (first : Place) (a : Expr) (op : Op) (at : Place) (b : Expr) (rest : List Token) (qs : List Reading) →
    in_turn (expr (tree.Binary first a op at b) ∷ qs) (token (mark.Symbol sign.RoundOpen) first ∷ rest) ≡ in_turn
    (expr a ∷ takes (mark.Symbol (operator_sign op)) at ∷ expr b ∷ symbol sign.RoundClose ∷ qs) rest
reads_binary first a op at b rest qs = after_first (tree.Binary first a op at b) (mark.Symbol sign.RoundOpen) first
    (expr a ∷ takes (mark.Symbol (operator_sign op)) at ∷ expr b ∷ symbol sign.RoundClose ∷ []) rest
    (ap (λ (p : Phrase). p.parts) (parts_binary first a op at b)) qs

pub parts_not : (first : Place) (a : Expr) → phrase (tree.Not first a) ≡
    record { indexable = false; parts = takes (mark.Symbol sign.Tilde) first ∷ expr a ∷ [] }
parts_not first a = ap phrase (sym (tree.rolls-Not first a)) ∙ fold-roll-Expr Phrase node_phrase (Expr-F.Not first a)

pub reads_not : (first : Place) (a : Expr) (rest : List Token) (qs : List Reading) →
    in_turn (expr (tree.Not first a) ∷ qs) (token (mark.Symbol sign.Tilde) first ∷ rest) ≡ in_turn (expr a ∷ qs) rest
reads_not first a rest qs = after_first (tree.Not first a) (mark.Symbol sign.Tilde) first (expr a ∷ []) rest
    (ap (λ (p : Phrase). p.parts) (parts_not first a)) qs

pub parts_pick : (first : Place) (c a b : Expr) → phrase (tree.Pick first c a b) ≡
    record {
      indexable = true;
      parts = takes (mark.Keyword word.Pick) first ∷ symbol sign.RoundOpen ∷ expr c ∷ symbol sign.Comma ∷ expr a
          ∷ symbol sign.Comma ∷ expr b ∷ symbol sign.RoundClose ∷ [];
    }
parts_pick first c a b = ap phrase (sym (tree.rolls-Pick first c a b)) ∙ fold-roll-Expr Phrase node_phrase (Expr-F.Pick first c a b)

pub reads_pick : (first : Place) (c a b : Expr) (rest : List Token) (qs : List Reading) →
    in_turn (expr (tree.Pick first c a b) ∷ qs) (token (mark.Keyword word.Pick) first ∷ rest) ≡ in_turn
    (symbol sign.RoundOpen ∷ expr c ∷ symbol sign.Comma ∷ expr a ∷ symbol sign.Comma ∷ expr b ∷ symbol sign.RoundClose ∷ qs) rest
reads_pick first c a b rest qs = after_first (tree.Pick first c a b) (mark.Keyword word.Pick) first
    (symbol sign.RoundOpen ∷ expr c ∷ symbol sign.Comma ∷ expr a ∷ symbol sign.Comma ∷ expr b ∷ symbol sign.RoundClose ∷ []) rest
    (ap (λ (p : Phrase). p.parts) (parts_pick first c a b)) qs

pub parts_resize : (first : Place) (a : Expr) (w : Numeral) →
    phrase (tree.Resize first a w) ≡ record {
      indexable = true;
      parts =
          takes (mark.Keyword word.Resize) first ∷ symbol sign.RoundOpen ∷ expr a ∷ symbol sign.Comma ∷ numbered w ∷ symbol sign.RoundClose ∷ [];
    }
parts_resize first a w = ap phrase (sym (tree.rolls-Resize first a w)) ∙ fold-roll-Expr Phrase node_phrase (Expr-F.Resize first a w)

pub reads_resize : (first : Place) (a : Expr) (w : Numeral) (rest : List Token) (qs : List Reading) →
    in_turn (expr (tree.Resize first a w) ∷ qs) (token (mark.Keyword word.Resize) first ∷ rest) ≡ in_turn
    (symbol sign.RoundOpen ∷ expr a ∷ symbol sign.Comma ∷ numbered w ∷ symbol sign.RoundClose ∷ qs) rest
reads_resize first a w rest qs = after_first (tree.Resize first a w) (mark.Keyword word.Resize) first
    (symbol sign.RoundOpen ∷ expr a ∷ symbol sign.Comma ∷ numbered w ∷ symbol sign.RoundClose ∷ []) rest
    (ap (λ (p : Phrase). p.parts) (parts_resize first a w)) qs

pub parts_fill : (first : Place) (m : Numeral) (a : Expr) →
    phrase (tree.Fill first m a) ≡ record {
      indexable = true;
      parts =
          takes (mark.Keyword word.Fill) first ∷ symbol sign.RoundOpen ∷ numbered m ∷ symbol sign.Comma ∷ expr a ∷ symbol sign.RoundClose ∷ [];
    }
parts_fill first m a = ap phrase (sym (tree.rolls-Fill first m a)) ∙ fold-roll-Expr Phrase node_phrase (Expr-F.Fill first m a)

pub reads_fill : (first : Place) (m : Numeral) (a : Expr) (rest : List Token) (qs : List Reading) →
    in_turn (expr (tree.Fill first m a) ∷ qs) (token (mark.Keyword word.Fill) first ∷ rest) ≡ in_turn
    (symbol sign.RoundOpen ∷ numbered m ∷ symbol sign.Comma ∷ expr a ∷ symbol sign.RoundClose ∷ qs) rest
reads_fill first m a rest qs = after_first (tree.Fill first m a) (mark.Keyword word.Fill) first
    (symbol sign.RoundOpen ∷ numbered m ∷ symbol sign.Comma ∷ expr a ∷ symbol sign.RoundClose ∷ []) rest
    (ap (λ (p : Phrase). p.parts) (parts_fill first m a)) qs

pub parts_row : (first : Place) (parts : List Expr) →
    phrase (tree.Row first parts) ≡ record {
      indexable = true;
      parts =
          takes (mark.Keyword word.Row) first ∷ symbol sign.RoundOpen ∷ some (map phrase parts) ∷ symbol sign.RoundClose ∷ [];
    }
parts_row first parts = ap phrase (sym (tree.rolls-Row first parts)) ∙ fold-roll-Expr Phrase node_phrase (Expr-F.Row first parts)

pub reads_row : (first : Place) (parts : List Expr) (rest : List Token) (qs : List Reading) →
    in_turn (expr (tree.Row first parts) ∷ qs) (token (mark.Keyword word.Row) first ∷ rest) ≡ in_turn
    (symbol sign.RoundOpen ∷ some (map phrase parts) ∷ symbol sign.RoundClose ∷ qs) rest
reads_row first parts rest qs = after_first (tree.Row first parts) (mark.Keyword word.Row) first
    (symbol sign.RoundOpen ∷ some (map phrase parts) ∷ symbol sign.RoundClose ∷ []) rest (ap (λ (p : Phrase). p.parts) (parts_row first parts)) qs

pub parts_quantified : (first : Place) (which : Quantifier) (x : Name) (w n : Numeral) (e : Expr) →
    phrase (tree.Quantified first which x w n e) ≡ record {
      indexable = true;
      parts = takes (mark.Keyword (quantifier_word which)) first ∷ symbol sign.RoundOpen ∷ named x ∷ symbol sign.Colon ∷ numbered w
          ∷ keyword word.Below ∷ numbered n ∷ symbol sign.Comma ∷ expr e ∷ symbol sign.RoundClose ∷ [];
    }
parts_quantified first which x w n e = ap phrase (sym (tree.rolls-Quantified first which x w n e))
    ∙ fold-roll-Expr Phrase node_phrase (Expr-F.Quantified first which x w n e)

pub reads_quantified : (first : Place) (which : Quantifier) (x : Name) (w n : Numeral) (e : Expr) (rest : List Token) (qs : List Reading) →
    in_turn (expr (tree.Quantified first which x w n e) ∷ qs) (token (mark.Keyword (quantifier_word which)) first ∷ rest) ≡ in_turn
    (symbol sign.RoundOpen ∷ named x ∷ symbol sign.Colon ∷ numbered w ∷ keyword word.Below ∷ numbered n ∷ symbol sign.Comma ∷ expr e
    ∷ symbol sign.RoundClose ∷ qs) rest
reads_quantified first which x w n e rest qs = after_first (tree.Quantified first which x w n e) (mark.Keyword (quantifier_word which)) first
    (symbol sign.RoundOpen ∷ named x ∷ symbol sign.Colon ∷ numbered w ∷ keyword word.Below ∷ numbered n ∷ symbol sign.Comma ∷ expr e
    ∷ symbol sign.RoundClose ∷ []) rest (ap (λ (p : Phrase). p.parts) (parts_quantified first which x w n e)) qs

pub parts_at : (a : Expr) (bracket : Place) (i : Expr) →
    phrase (tree.At a bracket i) ≡ record {
      indexable = true;
      parts =
          indexed (phrase a) ∷ takes (mark.Symbol sign.SquareOpen) bracket ∷ expr i ∷ symbol sign.SquareClose ∷ [];
    }
parts_at a bracket i = ap phrase (sym (tree.rolls-At a bracket i)) ∙ fold-roll-Expr Phrase node_phrase (Expr-F.At a bracket i)

only_indexed : (p : Phrase) → p.indexable ≡ true → indexed p ≡ whole p
only_indexed p h = rw h refl

-- an index after an expression
pub reads_at : (a : Expr) (bracket : Place) (i : Expr) (from : List Token) (qs : List Reading) → (phrase a).indexable ≡ true
    → in_turn (expr (tree.At a bracket i) ∷ qs) from ≡ in_turn
    (expr a ∷ takes (mark.Symbol sign.SquareOpen) bracket ∷ expr i ∷ symbol sign.SquareClose ∷ qs) from
reads_at a bracket i from qs h =
    joined (phrase (tree.At a bracket i)).parts qs from ∙ ap (λ (p : Phrase). in_turn (p.parts ++ qs) from) (parts_at a bracket i)
    ∙ ap (λ r. in_turn (r ∷ takes (mark.Symbol sign.SquareOpen) bracket ∷ expr i ∷ symbol sign.SquareClose ∷ qs) from) (only_indexed (phrase a) h)
