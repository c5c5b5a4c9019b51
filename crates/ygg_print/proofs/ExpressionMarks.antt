-- The parser makes an expression of what derives it.
use Rattle.std.proofs.Common.{◌≡◌, Bool, true, false, List, [], ◌∷◌, ◌++◌, map, if◌then◌else◌, Some, refl, sym, ap, ◌∙◌, subst}
use Rattle.ygg_base.specs.declared.token.Keyword.TheVariants as word
use Rattle.ygg_base.specs.declared.token.Symbol.TheVariants as sign
use Rattle.ygg_base.specs.declared.token.Mark.{Mark}
use Rattle.ygg_base.specs.declared.token.Mark.TheVariants as mark
use Rattle.ygg_base.specs.declared.token.Token.{Token}
use Rattle.ygg_value.specs.declared.operation.Op.{Op}
use Rattle.ygg_value.specs.declared.operation.Op.TheVariants as op
use Rattle.ygg_syntax.specs.declared.tree.Place.{Place}
use Rattle.ygg_syntax.specs.declared.tree.Name as tree
use Rattle.ygg_syntax.specs.declared.tree.Numeral.{Numeral}
use Rattle.ygg_syntax.specs.declared.tree.Quantifier.{Quantifier}
use Rattle.ygg_syntax.specs.declared.tree.Quantifier.TheVariants as quantifier
use Rattle.ygg_syntax.specs.declared.tree.Index.{Index}
use Rattle.ygg_syntax.specs.declared.tree.Expr.{Expr, roll-Expr, map-Expr}
use Rattle.ygg_syntax.specs.declared.tree.Expr.TheOpen.{Expr-F}
use Rattle.ygg_syntax.specs.declared.tree.Expr.TheFolds.{ind-Expr, fold-roll-Expr}
use Rattle.ygg_syntax.specs.Reading.{Reading, token, same_mark, starts, takes, in_turn, impossible}
use Rattle.ygg_syntax.specs.Expressions.{Phrase, node_phrase, phrase, expr, atom, whole, any, some, operator_sign, quantifier_word}
use Rattle.ygg_syntax.specs.Expressions as phrases
use Rattle.ygg_read.proofs.ExpressionPhrases.{joined}
use Rattle.ygg_read.proofs.Marks.{passed, took}
use Rattle.ygg_read.proofs.TakenWhole.{split, empty, all_claims}
use Rattle.ygg_print.proofs.Parser.{
  Parser,
  perhaps,
  expression,
  loop,
  indices,
  expressions,
  with_indices,
  indexed,
  arguments,
  arguments_rule,
  some_arguments,
  symbol,
  after_first,
  quantified,
  run,
}
use Rattle.ygg_print.proofs.Runs.{
  alike,
  does,
  flat,
  given,
  taken,
  absent,
  there,
  more,
  ended,
  Reads,
  is_one_of,
  neither,
  Opens,
  opens_pass,
  opens_take,
  done,
  pass,
  next_name,
  next_number,
  next_operator,
}

abbrev round : Mark
round = mark.Symbol sign.RoundOpen

abbrev square : Mark
square = mark.Symbol sign.SquareOpen

-- the parser makes this expression of what the phrase reads, where neither arguments nor an index follow; where no arguments follow and the phrase
-- may have indices, they come next
pub record Made (p : Phrase) (e : Expr) : Type 0 where
  pub atom : p.indexable ≡ true → (from rest : List Token) → whole p from ≡ Some rest → starts round rest ≡ false
      → (k : Expr → Parser) → run (expression k) from ≡ run (loop indices (λ is. k (with_indices e is))) rest
  pub all : (from rest : List Token) → whole p from ≡ Some rest → starts round rest ≡ false → starts square rest ≡ false → (k : Expr → Parser) →
      run (expression k) from ≡ run (k e) rest

-- all of these
abbrev pub AllMade : List Expr → Type 0
AllMade [] = Unit {0}
AllMade (e ∷ es) = Made (phrase e) e × AllMade es

-- an expression and what follows it
pub part_of : {p : Phrase} {e : Expr} {rs : List Reading} {firsts : List Mark} {k : Expr → Parser} {q : Parser} → Made p e → Opens rs firsts →
    is_one_of firsts round ≡ false → is_one_of firsts square ≡ false
    → Reads rs (k e) q → Reads (whole p ∷ rs) (expression k) q
part_of {p} {e} {rs} {firsts} {k} {q} m o no_round no_square r = record {
  reads = λ from rest h. let s = split (whole p) rs from rest h in
      m.all from s.mid s.first (o.opens s.mid rest s.others round no_round) (o.opens s.mid rest s.others square no_square) k ∙ r.reads s.mid rest s.others;
}

-- indices may follow
of_atom : {parts : List Reading} {e : Expr} → ((from rest : List Token) → in_turn parts from ≡ Some rest → starts round rest ≡ false
    → (k : Expr → Parser) → run (expression k) from ≡ run (loop indices (λ is. k (with_indices e is))) rest) → Made (atom parts) e
of_atom {parts} {e} h = record {
  atom = λ can from rest d no_round k. h from rest d no_round k;
  all = λ from rest d no_round no_square k. h from rest d no_round k ∙ ended indices rest (λ is. k (with_indices e is)) no_square;
}

-- an atom with a first token of its own
begun : (m : Mark) (at : Place) {rs : List Reading} (e : Expr-F Expr) (next : (Expr → Parser) → Parser) →
    ((k : Expr → Parser) → after_first m at k ≡ Some (next k))
    → ((k : Expr → Parser) → Reads rs (next k) (indexed k e)) → Made (atom (takes m at ∷ rs)) (roll-Expr e)
begun m at {rs} e next first others = of_atom (λ from rest h no_round k.
    let s = split (takes m at) rs from rest h in
    ap (run (expression k)) (took m at from s.mid s.first) ∙ taken (expression k) (next k) (token m at) s.mid (first k) ∙ (others k).reads s.mid rest s.others)

-- a comma or a bracket follows
opens_more : (es : List Expr) (rs : List Reading) →
    Opens (phrases.more (map phrase es) ++ phrases.symbol sign.RoundClose ∷ rs) (mark.Symbol sign.Comma ∷ mark.Symbol sign.RoundClose ∷ [])
opens_more [] rs = record {
  opens = λ from rest h m other. let s = split (phrases.symbol sign.RoundClose) rs from rest h in
      ap (starts m) (passed (mark.Symbol sign.RoundClose) from s.mid s.first).is
      ∙ (neither _ false (neither (same_mark m (mark.Symbol sign.Comma)) _ other).1).0;
}
opens_more (e ∷ es) rs = record {
  opens = λ from rest h m other. let s = split (phrases.symbol sign.Comma)
      (expr e ∷ phrases.more (map phrase es) ++ phrases.symbol sign.RoundClose ∷ rs) from rest h in
      ap (starts m) (passed (mark.Symbol sign.Comma) from s.mid s.first).is ∙ (neither (same_mark m (mark.Symbol sign.Comma)) _ other).0;
}

-- further expressions and the bracket after them
more_made : (es : List Expr) → AllMade es → (k : List Expr → Parser) (q : Parser) (rs : List Reading) → Reads rs (k es) q → (from rest : List Token)
    → in_turn (phrases.more (map phrase es) ++ phrases.symbol sign.RoundClose ∷ rs) from ≡ Some rest →
    run (loop expressions (λ es. symbol sign.RoundClose (k es))) from ≡ run q rest
more_made [] all k q rs r from rest h =
    let s = split (phrases.symbol sign.RoundClose) rs from rest h in let t = passed (mark.Symbol sign.RoundClose) from s.mid s.first in
    ended expressions from (λ es. symbol sign.RoundClose (k es)) (ap (starts (mark.Symbol sign.Comma)) t.is) ∙ (pass r).reads from rest h
more_made (e ∷ es) all k q rs r from rest h =
    let others : List Reading = phrases.more (map phrase es) ++ phrases.symbol sign.RoundClose ∷ rs in
    let s = split (phrases.symbol sign.Comma) (expr e ∷ others) from rest h in let t = passed (mark.Symbol sign.Comma) from s.mid s.first in
    ap (run (loop expressions (λ es. symbol sign.RoundClose (k es)))) t.is ∙ more expressions t.at s.mid (λ es. symbol sign.RoundClose (k es))
    ∙ (part_of {k = λ e. loop expressions (λ es. symbol sign.RoundClose (k (e ∷ es)))} all.0 (opens_more es rs) refl refl
    (record { reads = λ from rest h. more_made es all.1 (λ es. k (e ∷ es)) q rs r from rest h })).reads s.mid rest s.others

-- one expression or more, and the bracket after them
pub some_made : (e : Expr) (es : List Expr) → AllMade (e ∷ es) → (k : List Expr → Parser) {q : Parser} {rs : List Reading} → Reads rs (k (e ∷ es)) q
    → Reads (some (map phrase (e ∷ es)) ∷ phrases.symbol sign.RoundClose ∷ rs) (some_arguments k) q
some_made e es all k {q} {rs} r = record {
  reads = λ from rest h.
      (part_of {k = λ e. loop expressions (λ es. symbol sign.RoundClose (k (e ∷ es)))} all.0 (opens_more es rs) refl refl
      (record { reads = λ from rest h. more_made es all.1 (λ es. k (e ∷ es)) q rs r from rest h })).reads from rest
      (sym (joined (expr e ∷ phrases.more (map phrase es)) (phrases.symbol sign.RoundClose ∷ rs) from) ∙ h);
}

does_arguments : (k : List Expr → Parser) (from : List Token) → run (arguments k) from ≡ run (arguments_rule k) from
does_arguments k = alike (arguments k) (arguments_rule k) refl (λ t. refl)

-- expressions or none, and the bracket after them
pub arguments_made : (es : List Expr) → AllMade es → {k : List Expr → Parser} {q : Parser} {rs : List Reading} → Reads rs (k es) q →
    Reads (any (map phrase es) ∷ phrases.symbol sign.RoundClose ∷ rs) (arguments k) q
arguments_made [] all {k} {q} {rs} r = does (does_arguments k) (flat [] (given r))
arguments_made (e ∷ es) all {k} {q} {rs} r = does (does_arguments k) (record {
  reads = λ from rest h.
      let others : List Reading = phrases.more (map phrase es) ++ phrases.symbol sign.RoundClose ∷ rs in
      let s = split (expr e) others from rest (sym (joined (expr e ∷ phrases.more (map phrase es)) (phrases.symbol sign.RoundClose ∷ rs) from) ∙ h) in
      absent (mark.Symbol sign.RoundClose) from (λ at. k []) (some_arguments k) ((all_claims e).opens from s.mid s.first (mark.Symbol sign.RoundClose) refl)
      ∙ (some_made e es all k r).reads from rest h;
})

-- expressions with what is shown of them
abbrev Shown : Type 0
Shown = (e : Expr) × Made (phrase e) e

abbrev tree_in : Shown → Expr
tree_in s = s.0

all_in : (es : List Shown) → AllMade (map tree_in es)
all_in [] = tt
all_in (e ∷ es) = (e.1, all_in es)

-- a name alone
variable_made : (x : tree.Name) → Made (node_phrase (Expr-F.Variable x)) (roll-Expr (Expr-F.Variable x))
variable_made x = of_atom (λ from rest h no_round k.
    let s = split (takes (mark.Name x.text) x.place) [] from rest h in
    let alone : Parser = indexed k (Expr-F.Variable x) in
    let first = perhaps round (λ at. arguments (λ es. indexed k (Expr-F.Apply x es))) alone in
    ap (run (expression k)) (took (mark.Name x.text) x.place from s.mid s.first) ∙ taken (expression k) first (token (mark.Name x.text) x.place) s.mid refl
    ∙ ap (run first) (empty s.mid rest s.others) ∙ absent round rest (λ at. arguments (λ es. indexed k (Expr-F.Apply x es))) alone no_round)

-- a name and arguments
apply_made : (x : tree.Name) (es : List Expr) → AllMade es →
    Made (node_phrase (map-Expr Expr Phrase phrase (Expr-F.Apply x es))) (roll-Expr (Expr-F.Apply x es))
apply_made x es all = of_atom (λ from rest h no_round k.
    let inner : List Reading = any (map phrase es) ∷ phrases.symbol sign.RoundClose ∷ [] in
    let s = split (takes (mark.Name x.text) x.place) (phrases.symbol sign.RoundOpen ∷ inner) from rest h in
    let t = split (phrases.symbol sign.RoundOpen) inner s.mid rest s.others in let c = passed round s.mid t.mid t.first in
    let k' : List Expr → Parser = λ es. indexed k (Expr-F.Apply x es) in
    let first = perhaps round (λ at. arguments k') (indexed k (Expr-F.Variable x)) in
    ap (run (expression k)) (took (mark.Name x.text) x.place from s.mid s.first) ∙ taken (expression k) first (token (mark.Name x.text) x.place) s.mid refl
    ∙ ap (run first) c.is ∙ there round c.at t.mid (λ at. arguments k') (indexed k (Expr-F.Variable x))
    ∙ (arguments_made es all {k = k'} done).reads t.mid rest t.others)

not_made : (at : Place) (a : Expr) → Made (phrase a) a → Made (node_phrase (Expr-F.Not at (phrase a))) (roll-Expr (Expr-F.Not at a))
not_made at a m = record {
  atom = λ can. absurd (cc);
  all = λ from rest h no_round no_square k.
      let s = split (takes (mark.Symbol sign.Tilde) at) (expr a ∷ []) from rest h in let t = split (expr a) [] s.mid rest s.others in
      let end = empty t.mid rest t.others in
      let k' : Expr → Parser = λ e. k (roll-Expr (Expr-F.Not at e)) in
      ap (run (expression k)) (took (mark.Symbol sign.Tilde) at from s.mid s.first)
      ∙ taken (expression k) (expression k') (token (mark.Symbol sign.Tilde) at) s.mid refl
      ∙ m.all s.mid t.mid t.first (ap (starts round) end ∙ no_round) (ap (starts square) end ∙ no_square) k' ∙ ap (run (k' a)) end;
}

-- the base of an index may have indices
pub may_have : (p : Phrase) (from rest : List Token) → phrases.indexed p from ≡ Some rest → (p.indexable ≡ true) × (whole p from ≡ Some rest)
may_have p from rest h = cases p.indexable refl h
  where
    cases : (b : Bool) → p.indexable ≡ b → (if b then whole p else impossible) from ≡ Some rest → (p.indexable ≡ true) × (whole p from ≡ Some rest)
    cases true e k = (e, k)
    cases false e k = absurd (cc)

at_made : (a : Expr) (bracket : Place) (i : Expr) → Made (phrase a) a → Made (phrase i) i →
    Made (node_phrase (Expr-F.At (phrase a) bracket (phrase i))) (roll-Expr (Expr-F.At a bracket i))
at_made a bracket i m n = of_atom (λ from rest h no_round k.
    let s = split (phrases.indexed (phrase a)) (takes square bracket ∷ expr i ∷ phrases.symbol sign.SquareClose ∷ []) from rest h in
    let base = may_have (phrase a) from s.mid s.first in
    let t = split (takes square bracket) (expr i ∷ phrases.symbol sign.SquareClose ∷ []) s.mid rest s.others in let bracket_is =
    took square bracket s.mid t.mid t.first in
    let k' : List Index → Parser = λ is. k (with_indices a is) in
    m.atom base.0 from s.mid base.1 (ap (starts round) bracket_is) k ∙ ap (run (loop indices k')) bracket_is ∙ more indices bracket t.mid k'
    ∙ (part_of {k = λ i. symbol sign.SquareClose (loop indices (λ is. k (with_indices (roll-Expr (Expr-F.At a bracket i)) is)))} n
    (opens_pass (mark.Symbol sign.SquareClose)) refl refl (pass done)).reads t.mid rest t.others)

row_made : (first : Place) (es : List Expr) → AllMade es →
    Made (node_phrase (map-Expr Expr Phrase phrase (Expr-F.Row first es))) (roll-Expr (Expr-F.Row first es))
row_made first es all = begun (mark.Keyword word.Row) first (Expr-F.Row first es)
    (λ k. symbol sign.RoundOpen (some_arguments (λ es. indexed k (Expr-F.Row first es)))) (λ k. refl) (λ k. pass (cases es all k))
  where
    cases : (es : List Expr) → AllMade es → (k : Expr → Parser) →
        Reads (some (map phrase es) ∷ phrases.symbol sign.RoundClose ∷ []) (some_arguments (λ es. indexed k (Expr-F.Row first es)))
        (indexed k (Expr-F.Row first es))
    cases [] all k = record {
      reads = λ from rest h. let s = split impossible (phrases.symbol sign.RoundClose ∷ []) from rest h in
          absurd (let k = s.first in cc);
    }
    cases (e ∷ es) all k = some_made e es all (λ es. indexed k (Expr-F.Row first es)) done

quantified_made : (first : Place) (q : Quantifier) (x : tree.Name) (w n : Numeral) (e : Expr) → Made (phrase e) e →
    Made (node_phrase (Expr-F.Quantified first q x w n (phrase e))) (roll-Expr (Expr-F.Quantified first q x w n e))
quantified_made first q x w n e m = begun (mark.Keyword (quantifier_word q)) first (Expr-F.Quantified first q x w n e) (quantified first q) (which q)
    (λ k. pass (next_name x (pass (next_number w (pass (next_number n (pass (part_of m (opens_pass (mark.Symbol sign.RoundClose)) refl refl (pass done)))))))))
  where
    which : (q : Quantifier) (k : Expr → Parser) → after_first (mark.Keyword (quantifier_word q)) first k ≡ Some (quantified first q k)
    which quantifier.All k = refl
    which quantifier.Any k = refl

-- no operator is a bracket
no_bracket : (o : Op) → (is_one_of (mark.Symbol (operator_sign o) ∷ []) round ≡ false) × (is_one_of (mark.Symbol (operator_sign o) ∷ []) square ≡ false)
no_bracket op.Add = (refl, refl)
no_bracket op.Sub = (refl, refl)
no_bracket op.Mul = (refl, refl)
no_bracket op.And = (refl, refl)
no_bracket op.Or = (refl, refl)
no_bracket op.Xor = (refl, refl)
no_bracket op.Shl = (refl, refl)
no_bracket op.Shr = (refl, refl)
no_bracket op.Eq = (refl, refl)
no_bracket op.Ne = (refl, refl)
no_bracket op.Lt = (refl, refl)
no_bracket op.Le = (refl, refl)
no_bracket op.Gt = (refl, refl)
no_bracket op.Ge = (refl, refl)
no_bracket op.Imp = (refl, refl)

binary_made : (first : Place) (a : Expr) (o : Op) (at : Place) (b : Expr) → Made (phrase a) a → Made (phrase b) b →
    Made (node_phrase (Expr-F.Binary first (phrase a) o at (phrase b))) (roll-Expr (Expr-F.Binary first a o at b))
binary_made first a o at b m n = begun (mark.Symbol sign.RoundOpen) first (Expr-F.Binary first a o at b) _ (λ k. refl)
    (λ k. part_of m (opens_take (mark.Symbol (operator_sign o)) at) (no_bracket o).0 (no_bracket o).1
    (next_operator o at (part_of n (opens_pass (mark.Symbol sign.RoundClose)) refl refl (pass done))))

-- one rule a line
node : (y : Expr-F Shown) → Made (node_phrase (map-Expr Expr Phrase phrase (map-Expr Shown Expr tree_in y))) (roll-Expr (map-Expr Shown Expr tree_in y))
node (Expr-F.Constant v w) = begun (mark.Num v.value) v.place (Expr-F.Constant v w) _ (λ k. refl) (λ k. pass (next_number w done))
node (Expr-F.Low first x) = begun (mark.Keyword word.Low) first (Expr-F.Low first x) _ (λ k. refl) (λ k. pass (next_name x done))
node (Expr-F.Variable x) = variable_made x
node (Expr-F.Apply x es) = apply_made x (map tree_in es) (all_in es)
node (Expr-F.Binary first a o at b) = binary_made first a.0 o at b.0 a.1 b.1
node (Expr-F.Not at a) = not_made at a.0 a.1
node (Expr-F.At a bracket i) = at_made a.0 bracket i.0 a.1 i.1
node (Expr-F.Pick first c a b) = begun (mark.Keyword word.Pick) first (Expr-F.Pick first c.0 a.0 b.0) _ (λ k. refl)
    (λ k. pass (part_of c.1 (opens_pass (mark.Symbol sign.Comma)) refl refl
    (pass (part_of a.1 (opens_pass (mark.Symbol sign.Comma)) refl refl
    (pass (part_of b.1 (opens_pass (mark.Symbol sign.RoundClose)) refl refl (pass done)))))))
node (Expr-F.Resize first a w) = begun (mark.Keyword word.Resize) first (Expr-F.Resize first a.0 w) _ (λ k. refl)
    (λ k. pass (part_of a.1 (opens_pass (mark.Symbol sign.Comma)) refl refl (pass (next_number w (pass done)))))
node (Expr-F.Fill first m a) = begun (mark.Keyword word.Fill) first (Expr-F.Fill first m a.0) _ (λ k. refl)
    (λ k. pass (next_number m (pass (part_of a.1 (opens_pass (mark.Symbol sign.RoundClose)) refl refl (pass done)))))
node (Expr-F.Row first es) = row_made first (map tree_in es) (all_in es)
node (Expr-F.Quantified first q x w n e) = quantified_made first q x w n e.0 e.1

-- the parser makes each expression
pub made : (e : Expr) → Made (phrase e) e
made = ind-Expr (λ e. Made (phrase e) e)
    (λ x y is. subst (λ (p : Phrase). Made p (roll-Expr x)) (sym (fold-roll-Expr Phrase node_phrase x))
    (subst (λ z. Made (node_phrase (map-Expr Expr Phrase phrase z)) (roll-Expr z)) is (node y)))

pub all_made : (es : List Expr) → AllMade es
all_made [] = tt
all_made (e ∷ es) = (made e, all_made es)
