-- Expressions that are read one after another.
use Rattle.std.proofs.Common.{◌≡◌, ◌<◌, true, List, [], ◌∷◌, ◌++◌, length, map, sym, ap, subst, ◌∙◌, arith, append_assoc, append-nil}
use Rattle.ygg_base.specs.declared.token.Symbol.TheVariants as sign
use Rattle.ygg_base.specs.declared.token.Mark.TheVariants as mark
use Rattle.ygg_base.specs.declared.token.Token.{Token}
use Rattle.ygg_syntax.specs.declared.tree.Place.{Place}
use Rattle.ygg_syntax.specs.declared.tree.Expr.{Expr}
use Rattle.ygg_syntax.specs.declared.tree.Expr.TheVariants as tree
use Rattle.ygg_syntax.specs.Reading.{Reading, token, takes, in_turn}
use Rattle.ygg_syntax.specs.Expressions.{Phrase, phrase, expr, symbol, any, some, more}
use Rattle.ygg_syntax.specs.Pending.{Pending, expression, indices, more_expressions, outcome}
use Rattle.ygg_read.specs.ExpressionSteps.{Reads, Goes, GoesAsAtom}
use Rattle.ygg_read.proofs.ExpressionPhrases.{joined, reads_token, reads_at, parts_at}

-- an expression that indices may follow
pub record AtomRead (from : List Token) (e : Expr) (now : List Token) : Type 0 where
  pub reads : Reads (expr e ∷ []) from now
  pub indexable : (phrase e).indexable ≡ true
  pub goes : GoesAsAtom from now
  pub shorter : length now < length from

-- one index more
pub index_more : (from s t now : List Token) (a b i : Expr) (bracket : Place) → b ≡ a → AtomRead from a s →
    s ≡ token (mark.Symbol sign.SquareOpen) bracket ∷ t → Reads (expr i ∷ symbol sign.SquareClose ∷ []) t now
    → ((qs : List Pending) → outcome (indices ∷ qs) s ≡ outcome (indices ∷ qs) now) → length now < length t → AtomRead from (tree.At b bracket i) now
index_more from s t now a b i bracket is h e index goes shorter = subst (λ x. AtomRead from (tree.At x bracket i) now) (sym is) (record {
  reads = λ qs. reads_at a bracket i from qs h.indexable ∙ h.reads (takes (mark.Symbol sign.SquareOpen) bracket ∷ expr i ∷ symbol sign.SquareClose ∷ qs)
      ∙ reads_token (mark.Symbol sign.SquareOpen) bracket s t e (expr i ∷ symbol sign.SquareClose ∷ qs) ∙ index qs;
  indexable = ap (λ (p : Phrase). p.indexable) (parts_at a bracket i);
  goes = λ qs. h.goes qs ∙ goes qs;
  shorter = omega (arith, h.shorter, ap length e);
})

-- expressions with commas between them, where others may follow
pub record SomeRead (from : List Token) (es : List Expr) (now : List Token) : Type 0 where
  pub reads : (fs : List Expr) (qs : List Reading) → in_turn (some (map phrase (es ++ fs)) ∷ qs) from ≡ in_turn (more (map phrase fs) ++ qs) now
  pub goes : (qs : List Pending) → outcome (expression ∷ more_expressions ∷ qs) from ≡ outcome (more_expressions ∷ qs) now
  pub filled : (fs : List Expr) → any (map phrase (es ++ fs)) ≡ some (map phrase (es ++ fs))
  pub shorter : length now < length from

-- the first expression
pub first_read : (from now : List Token) (es : List Expr) (e : Expr) → Reads (expr e ∷ []) from now → Goes (expression ∷ []) from now →
    length now < length from → es ≡ e ∷ [] → SomeRead from es now
first_read from now es e reads goes shorter is = record {
  reads = λ fs qs. ap (λ xs. in_turn (some (map phrase (xs ++ fs)) ∷ qs) from) is ∙ joined (expr e ∷ more (map phrase fs)) qs from
      ∙ reads (more (map phrase fs) ++ qs);
  goes = λ qs. goes (more_expressions ∷ qs);
  filled = λ fs. ap (λ xs. any (map phrase (xs ++ fs))) is ∙ sym (ap (λ xs. some (map phrase (xs ++ fs))) is);
  shorter = shorter;
}

-- one expression more
pub one_more : (from s t now : List Token) (es fs : List Expr) (e : Expr) → SomeRead from es s →
    ((qs : List Reading) → in_turn (symbol sign.Comma ∷ qs) s ≡ in_turn qs t) → Reads (expr e ∷ []) t now
    → ((qs : List Pending) → outcome (more_expressions ∷ qs) s ≡ outcome (more_expressions ∷ qs) now) → length now < length s → fs ≡ es ++ e ∷ [] →
    SomeRead from fs now
one_more from s t now es fs e h comma reads goes shorter is = record {
  reads = λ gs qs. ap (λ xs. in_turn (some (map phrase xs) ∷ qs) from) (ap (λ xs. xs ++ gs) is ∙ append_assoc es (e ∷ []) gs) ∙ h.reads (e ∷ gs) qs
      ∙ comma (expr e ∷ more (map phrase gs) ++ qs) ∙ reads (more (map phrase gs) ++ qs);
  goes = λ qs. h.goes qs ∙ goes qs;
  filled = λ gs. ap (λ xs. any (map phrase xs)) (ap (λ xs. xs ++ gs) is ∙ append_assoc es (e ∷ []) gs) ∙ h.filled (e ∷ gs)
      ∙ sym (ap (λ xs. some (map phrase xs)) (ap (λ xs. xs ++ gs) is ∙ append_assoc es (e ∷ []) gs));
  shorter = omega (arith, h.shorter);
}

-- no other follows
pub all_read : (from now : List Token) (es : List Expr) → SomeRead from es now → (qs : List Reading) → in_turn (some (map phrase es) ∷ qs) from ≡ in_turn qs now
all_read from now es h qs = ap (λ xs. in_turn (some (map phrase xs) ∷ qs) from) (sym (append-nil es)) ∙ h.reads [] qs

-- there is one at least
pub all_filled : (from now : List Token) (es : List Expr) → SomeRead from es now → any (map phrase es) ≡ some (map phrase es)
all_filled from now es h = ap (λ xs. any (map phrase xs)) (sym (append-nil es)) ∙ h.filled [] ∙ ap (λ xs. some (map phrase xs)) (append-nil es)
