-- What the parser does where readings read the tokens.
use Rattle.std.proofs.Common.{◌≡◌, Bool, true, false, ◌||◌, List, [], ◌∷◌, ◌++◌, map, Option, Some, None, refl, sym, ap, ◌∙◌}
use Rattle.ygg_base.specs.declared.token.Mark.{Mark}
use Rattle.ygg_base.specs.declared.token.Mark.TheVariants as mark
use Rattle.ygg_base.specs.declared.token.Token.{Token}
use Rattle.ygg_value.specs.declared.operation.Op.{Op}
use Rattle.ygg_value.specs.declared.operation.Op.TheVariants as op
use Rattle.ygg_syntax.specs.declared.tree.Place.{Place}
use Rattle.ygg_syntax.specs.declared.tree.Name as tree
use Rattle.ygg_syntax.specs.declared.tree.Numeral.{Numeral}
use Rattle.ygg_syntax.specs.declared.tree.File.{File}
use Rattle.ygg_syntax.specs.Reading.{Reading, token, same_mark, starts, passes, takes, in_turn, impossible}
use Rattle.ygg_syntax.specs.Expressions.{named, numbered, operator_sign}
use Rattle.ygg_read.proofs.ExpressionPhrases.{same, joined}
use Rattle.ygg_read.proofs.Marks.{same_is, passed, took}
use Rattle.ygg_read.proofs.TakenWhole.{split, empty}
use Rattle.ygg_print.proofs.Parser.{
  Parser,
  exactly,
  name,
  number,
  operator,
  perhaps,
  loop,
  Loop,
  element,
  beginning,
  rest_of,
  place_of,
  operated,
  step,
  finish,
  run,
}

abbrev goes_on : Option Parser → List Token → Option File
goes_on o ts = elim o as (λ o. Option File) [ None ↦ None | Some q ↦ run q ts ]

-- the token is taken
pub taken : (p q : Parser) (t : Token) (ts : List Token) → step p t ≡ Some q → run p (t ∷ ts) ≡ run q ts
unfolding run
taken p q t ts e = ap (λ o. goes_on o ts) e

-- the token is left to what comes next
pub left : (p q : Parser) (t : Token) (ts : List Token) → step p t ≡ step q t → run p (t ∷ ts) ≡ run q (t ∷ ts)
unfolding run
left p q t ts e = ap (λ o. goes_on o ts) e

-- two parsers do alike
pub alike : (p q : Parser) → finish p ≡ finish q → ((t : Token) → step p t ≡ step q t) → (from : List Token) → run p from ≡ run q from
unfolding run
alike p q e h [] = e
alike p q e h (t ∷ ts) = left p q t ts (h t)

abbrev chosen : Option Parser → Option Parser → Bool → Option Parser
chosen p q b = elim b as (λ b. Option Parser) [ true ↦ p | false ↦ q ]

pub goes_token : (m : Mark) (at : Place) (rest : List Token) (k : Place → Parser) → run (exactly m k) (token m at ∷ rest) ≡ run (k at) rest
goes_token m at rest k = taken (exactly m k) (k at) (token m at) rest (ap (chosen (Some (k at)) None) (same m))

pub goes_operator : (o : Op) (at : Place) (rest : List Token) (k : Op → Place → Parser) →
    run (operator k) (token (mark.Symbol (operator_sign o)) at ∷ rest) ≡ run (k o at) rest
goes_operator o at rest k = taken (operator k) (k o at) (token (mark.Symbol (operator_sign o)) at) rest (each o)
  where
    each : (o : Op) → operated (mark.Symbol (operator_sign o)) (λ op. k op at) ≡ Some (k o at)
    each op.Add = refl
    each op.Sub = refl
    each op.Mul = refl
    each op.And = refl
    each op.Or = refl
    each op.Xor = refl
    each op.Shl = refl
    each op.Shr = refl
    each op.Eq = refl
    each op.Ne = refl
    each op.Lt = refl
    each op.Le = refl
    each op.Gt = refl
    each op.Ge = refl
    each op.Imp = refl

-- what comes
pub there : (m : Mark) (at : Place) (rest : List Token) (k : Place → Parser) (p : Parser) → run (perhaps m k p) (token m at ∷ rest) ≡ run (k at) rest
there m at rest k p = taken (perhaps m k p) (k at) (token m at) rest (ap (chosen (Some (k at)) (step p (token m at))) (same m))

-- what doesn't come
pub absent : (m : Mark) (from : List Token) (k : Place → Parser) (p : Parser) → starts m from ≡ false → run (perhaps m k p) from ≡ run p from
unfolding run
absent m [] k p h = refl
absent m (t ∷ ts) k p h = left (perhaps m k p) p t ts (ap (chosen (Some (k (place_of t))) (step p t)) h)

-- one more comes
pub more : (l : Loop) (at : Place) (rest : List Token) (k : List (element l) → Parser) →
    run (loop l k) (token (beginning l) at ∷ rest) ≡ run (rest_of l at (λ x. loop l (λ xs. k (x ∷ xs)))) rest
more l at rest k =
    let next = rest_of l at (λ x. loop l (λ xs. k (x ∷ xs))) in
    taken (loop l k) next (token (beginning l) at) rest (ap (chosen (Some next) (step (k []) (token (beginning l) at))) (same (beginning l)))

-- no more come
pub ended : (l : Loop) (from : List Token) (k : List (element l) → Parser) → starts (beginning l) from ≡ false → run (loop l k) from ≡ run (k []) from
unfolding run
ended l [] k h = refl
ended l (t ∷ ts) k h = left (loop l k) (k []) t ts (ap (chosen (Some (rest_of l (place_of t) (λ x. loop l (λ xs. k (x ∷ xs))))) (step (k []) t)) h)

-- the parser takes what the readings read
pub record Reads (rs : List Reading) (p q : Parser) : Type 0 where
  pub reads : (from rest : List Token) → in_turn rs from ≡ Some rest → run p from ≡ run q rest

-- whether the mark is one of these
abbrev pub is_one_of : List Mark → Mark → Bool
is_one_of [] m = false
is_one_of (n ∷ ns) m = same_mark m n || is_one_of ns m

-- the first token that is read has one of these marks
pub record Opens (rs : List Reading) (firsts : List Mark) : Type 0 where
  pub opens : (from rest : List Token) → in_turn rs from ≡ Some rest → (m : Mark) → is_one_of firsts m ≡ false → starts m from ≡ false

pub neither : (a b : Bool) → a || b ≡ false → (a ≡ false) × (b ≡ false)
neither true b h = absurd (cc)
neither false b h = (refl, h)

pub opens_pass : (n : Mark) {rs : List Reading} → Opens (passes n ∷ rs) (n ∷ [])
opens_pass n {rs} = record {
  opens = λ from rest h m other. let s = split (passes n) rs from rest h in let k = passed n from s.mid s.first in
      ap (starts m) k.is ∙ (neither (same_mark m n) false other).0;
}

pub opens_take : (n : Mark) (at : Place) {rs : List Reading} → Opens (takes n at ∷ rs) (n ∷ [])
opens_take n at {rs} = record {
  opens = λ from rest h m other. let s = split (takes n at) rs from rest h in
      ap (starts m) (took n at from s.mid s.first) ∙ (neither (same_mark m n) false other).0;
}

pub done : {p : Parser} → Reads [] p p
done {p} = record { reads = λ from rest h. ap (run p) (empty from rest h) }

pub pass : {m : Mark} {rs : List Reading} {p q : Parser} → Reads rs p q → Reads (passes m ∷ rs) (exactly m (λ at. p)) q
pass {m} {rs} {p} {q} r = record {
  reads = λ from rest h. let s = split (passes m) rs from rest h in let t = passed m from s.mid s.first in
      ap (run (exactly m (λ at. p))) t.is ∙ goes_token m t.at s.mid (λ at. p) ∙ r.reads s.mid rest s.others;
}

pub take : {m : Mark} (at : Place) {rs : List Reading} {k : Place → Parser} {q : Parser} → Reads rs (k at) q → Reads (takes m at ∷ rs) (exactly m k) q
take {m} at {rs} {k} {q} r = record {
  reads = λ from rest h. let s = split (takes m at) rs from rest h in
      ap (run (exactly m k)) (took m at from s.mid s.first) ∙ goes_token m at s.mid k ∙ r.reads s.mid rest s.others;
}

pub next_name : (x : tree.Name) {rs : List Reading} {k : tree.Name → Parser} {q : Parser} → Reads rs (k x) q → Reads (named x ∷ rs) (name k) q
next_name x {rs} {k} {q} r = record {
  reads = λ from rest h. let s = split (named x) rs from rest h in
      ap (run (name k)) (took (mark.Name x.text) x.place from s.mid s.first)
      ∙ taken (name k) (k x) (token (mark.Name x.text) x.place) s.mid refl ∙ r.reads s.mid rest s.others;
}

pub next_number : (n : Numeral) {rs : List Reading} {k : Numeral → Parser} {q : Parser} → Reads rs (k n) q → Reads (numbered n ∷ rs) (number k) q
next_number n {rs} {k} {q} r = record {
  reads = λ from rest h. let s = split (numbered n) rs from rest h in
      ap (run (number k)) (took (mark.Num n.value) n.place from s.mid s.first)
      ∙ taken (number k) (k n) (token (mark.Num n.value) n.place) s.mid refl ∙ r.reads s.mid rest s.others;
}

pub next_operator : (o : Op) (at : Place) {rs : List Reading} {k : Op → Place → Parser} {q : Parser} → Reads rs (k o at) q →
    Reads (takes (mark.Symbol (operator_sign o)) at ∷ rs) (operator k) q
next_operator o at {rs} {k} {q} r = record {
  reads = λ from rest h. let s = split (takes (mark.Symbol (operator_sign o)) at) rs from rest h in
      ap (run (operator k)) (took (mark.Symbol (operator_sign o)) at from s.mid s.first) ∙ goes_operator o at s.mid k ∙ r.reads s.mid rest s.others;
}

-- a rule inside another
pub inside : {r : Reading} {rs : List Reading} {p m q : Parser} → Reads (r ∷ []) p m → Reads rs m q → Reads (r ∷ rs) p q
unfolding in_turn
inside {r} {rs} {p} {m} {q} a b = record {
  reads = λ from rest h. let s = split r rs from rest h in
      a.reads from s.mid (ap (λ o. elim o as (λ o. Option (List Token)) [ None ↦ None | Some mid ↦ Some mid ]) s.first) ∙ b.reads s.mid rest s.others;
}

-- a parser that does as another
pub does : {p n : Parser} → ((from : List Token) → run n from ≡ run p from) → {rs : List Reading} {q : Parser} → Reads rs p q → Reads rs n q
does {p} {n} e {rs} {q} r = record { reads = λ from rest h. e from ∙ r.reads from rest h }

-- readings in a row within others
pub flat : (inner : List Reading) {rs : List Reading} {p q : Parser} → Reads (inner ++ rs) p q → Reads (in_turn inner ∷ rs) p q
flat inner {rs} {p} {q} r = record { reads = λ from rest h. r.reads from rest (sym (joined inner rs from) ∙ h) }

-- what nothing derives from
pub never : {rs : List Reading} {p q : Parser} → Reads (impossible ∷ rs) p q
never {rs} {p} {q} = record { reads = λ from rest h. let s = split impossible rs from rest h in absurd (let k = s.first in cc) }

-- a token that may come comes, at its place or wherever it stands
pub given_at : {m : Mark} (at : Place) {rs : List Reading} {k : Place → Parser} {p q : Parser} → Reads rs (k at) q → Reads (takes m at ∷ rs) (perhaps m k p) q
given_at {m} at {rs} {k} {p} {q} r = record {
  reads = λ from rest h. let s = split (takes m at) rs from rest h in
      ap (run (perhaps m k p)) (took m at from s.mid s.first) ∙ there m at s.mid k p ∙ r.reads s.mid rest s.others;
}

pub given : {m : Mark} {rs : List Reading} {n p q : Parser} → Reads rs n q → Reads (passes m ∷ rs) (perhaps m (λ at. n) p) q
given {m} {rs} {n} {p} {q} r = record {
  reads = λ from rest h. let s = split (passes m) rs from rest h in let t = passed m from s.mid s.first in
      ap (run (perhaps m (λ at. n) p)) t.is ∙ there m t.at s.mid (λ at. n) p ∙ r.reads s.mid rest s.others;
}

-- it doesn't come
pub otherwise : {m : Mark} {rs : List Reading} {k : Place → Parser} {p q : Parser} {firsts : List Mark} → Opens rs firsts → is_one_of firsts m ≡ false
    → Reads rs p q → Reads rs (perhaps m k p) q
otherwise {m} {rs} {k} {p} {q} {firsts} o apart r = record { reads = λ from rest h. absent m from k p (o.opens from rest h m apart) ∙ r.reads from rest h }

-- the tokens of one of what is repeated: the one that it begins with, and those that the parser takes after it
pub record Entry (l : Loop) (x : element l) (from rest : List Token) : Type 0 where
  pub at : Place
  pub mid : List Token
  pub is : from ≡ token (beginning l) at ∷ mid
  pub reads : (k : element l → Parser) → run (rest_of l at k) mid ≡ run (k x) rest

-- what is read is one of what is repeated
pub record Enters (l : Loop) (r : Reading) (x : element l) : Type 0 where
  pub enters : (from rest : List Token) → r from ≡ Some rest → Entry l x from rest

pub passing : (l : Loop) (x : element l) {rs : List Reading} → ((at : Place) (k : element l → Parser) → Reads rs (rest_of l at k) (k x)) →
    Enters l (in_turn (passes (beginning l) ∷ rs)) x
passing l x {rs} r = record {
  enters = λ from rest h. let s = split (passes (beginning l)) rs from rest h in let t = passed (beginning l) from s.mid s.first in
      record { at = t.at; mid = s.mid; is = t.is; reads = λ k. (r t.at k).reads s.mid rest s.others };
}

pub taking : (l : Loop) (x : element l) (at : Place) {rs : List Reading} → ((k : element l → Parser) → Reads rs (rest_of l at k) (k x)) →
    Enters l (in_turn (takes (beginning l) at ∷ rs)) x
taking l x at {rs} r = record {
  enters = λ from rest h. let s = split (takes (beginning l) at) rs from rest h in
      record { at = at; mid = s.mid; is = took (beginning l) at from s.mid s.first; reads = λ k. (r k).reads s.mid rest s.others };
}

-- one after another, and something else after them
pub all_entered : (l : Loop) (r : element l → Reading) → ((x : element l) → Enters l (r x) x) →
    (xs : List (element l)) (k : List (element l) → Parser) (from mid : List Token)
    → in_turn (map r xs) from ≡ Some mid → starts (beginning l) mid ≡ false → run (loop l k) from ≡ run (k xs) mid
all_entered l r each [] k from mid h apart = let e = empty from mid h in ended l from k (ap (starts (beginning l)) e ∙ apart) ∙ ap (run (k [])) e
all_entered l r each (x ∷ xs) k from mid h apart =
    let s = split (r x) (map r xs) from mid h in let e = (each x).enters from s.mid s.first in
    ap (run (loop l k)) e.is ∙ more l e.at e.mid k ∙ e.reads (λ x. loop l (λ xs. k (x ∷ xs)))
    ∙ all_entered l r each xs (λ xs. k (x ∷ xs)) s.mid mid s.others apart

pub many : (l : Loop) (r : element l → Reading) → ((x : element l) → Enters l (r x) x) →
    (xs : List (element l)) {rs : List Reading} {k : List (element l) → Parser} {q : Parser} {firsts : List Mark}
    → Opens rs firsts → is_one_of firsts (beginning l) ≡ false → Reads rs (k xs) q → Reads (in_turn (map r xs) ∷ rs) (loop l k) q
many l r each xs {rs} {k} {q} {firsts} o apart others = record {
  reads = λ from rest h. let s = split (in_turn (map r xs)) rs from rest h in
      all_entered l r each xs k from s.mid s.first (o.opens s.mid rest s.others (beginning l) apart) ∙ others.reads s.mid rest s.others;
}

pub opens_many : (l : Loop) (r : element l → Reading) → ((x : element l) → Enters l (r x) x) → (xs : List (element l)) {rs : List Reading} {firsts : List Mark}
    → Opens rs firsts → Opens (in_turn (map r xs) ∷ rs) (beginning l ∷ firsts)
opens_many l r each [] {rs} {firsts} o = record {
  opens = λ from rest h m other. let s = split (in_turn []) rs from rest h in
      ap (starts m) (empty from s.mid s.first) ∙ o.opens s.mid rest s.others m (neither (same_mark m (beginning l)) _ other).1;
}
opens_many l r each (x ∷ xs) {rs} {firsts} o = record {
  opens = λ from rest h m other. let s = split (in_turn (map r (x ∷ xs))) rs from rest h in let t = split (r x) (map r xs) from s.mid s.first in
      ap (starts m) ((each x).enters from t.mid t.first).is ∙ (neither (same_mark m (beginning l)) _ other).0;
}

-- where this token doesn't come nothing is read
pub record Skips (r : Reading) (m : Mark) : Type 0 where
  pub skips : (from rest : List Token) → r from ≡ Some rest → starts m from ≡ false → from ≡ rest

-- another token than the one that comes
another : (m n : Mark) (from : List Token) → starts n from ≡ true → same_mark m n ≡ false → starts m from ≡ false
another m n [] h other = absurd (cc)
another m n (t ∷ ts) h other = ap (same_mark m) (sym (same_is n t.mark h)) ∙ other

pub opens_skips : {r : Reading} {n : Mark} → Skips r n → {rs : List Reading} {firsts : List Mark} → Opens rs firsts → Opens (r ∷ rs) (n ∷ firsts)
opens_skips {r} {n} c {rs} {firsts} o = record {
  opens = λ from rest h m other. let s = split r rs from rest h in
      cases from s.mid m other (c.skips from s.mid s.first) (λ apart. o.opens s.mid rest s.others m apart) (starts n from) refl;
}
  where
    cases : (from mid : List Token) (m : Mark) → is_one_of (n ∷ firsts) m ≡ false → (starts n from ≡ false → from ≡ mid) →
        (is_one_of firsts m ≡ false → starts m mid ≡ false)
        → (b : Bool) → starts n from ≡ b → starts m from ≡ false
    cases from mid m other skip later true e = another m n from e (neither (same_mark m n) _ other).0
    cases from mid m other skip later false e = ap (starts m) (skip e) ∙ later (neither (same_mark m n) _ other).1
