-- From tokens with given marks the same is read again, with their places.
use Rattle.std.proofs.Common.{◌≡◌, Bool, false, List, [], ◌∷◌, ◌++◌, map, Option, Some, None, refl, sym, ap, ◌∙◌, subst, append_assoc}
use Rattle.ygg_base.specs.declared.token.Mark.{Mark}
use Rattle.ygg_base.specs.declared.token.Token.{Token}
use Rattle.ygg_syntax.specs.declared.tree.Place.{Place}
use Rattle.ygg_syntax.specs.Reading.{Reading, token, same_mark, starts, passes, takes, in_turn, impossible}
use Rattle.ygg_read.proofs.ExpressionPhrases.{taken, joined, reads_token, reads_mark}
use Rattle.ygg_read.proofs.Marks.{passed, took}
use Rattle.ygg_read.proofs.TakenWhole.{split, empty}
use Rattle.ygg_print.specs.UniqueLaws.{LeftOut, keeps}
use Rattle.ygg_print.proofs.Parser.{place_of}

-- the marks of tokens
abbrev pub marks_of : List Token → List Mark
marks_of ts = map (λ (t : Token). t.mark) ts

-- what is read from the front of tokens, with the marks of those that are left
pub record Read (Z : Type 0) (reading : Z → Reading) (tokens : List Token) (tail : List Mark) : Type 0 where
  pub made : Z
  pub rest : List Token
  pub is : reading made tokens ≡ Some rest
  pub left : marks_of rest ≡ tail

-- where something derives, something alike derives from all tokens with these marks
pub record Single (r : Reading) (ms : List Mark) (Z : Type 0) (reading : Z → Reading) : Type 0 where
  pub single : (from rest : List Token) → r from ≡ Some rest → (tokens : List Token) (tail : List Mark) → marks_of tokens ≡ ms ++ tail →
      Read Z reading tokens tail
  pub keeps : (from rest : List Token) → r from ≡ Some rest → (tail : List Mark) → LeftOut (marks_of rest) tail → LeftOut (marks_of from) (ms ++ tail)

-- the same of readings in a row
pub record Again (rs : List Reading) (ms : List Mark) (Z : Type 0) (reads : Z → List Reading) : Type 0 where
  pub single : (from rest : List Token) → in_turn rs from ≡ Some rest → (tokens : List Token) (tail : List Mark) → marks_of tokens ≡ ms ++ tail →
      Read Z (λ z. in_turn (reads z)) tokens tail
  pub keeps : (from rest : List Token) → in_turn rs from ≡ Some rest → (tail : List Mark) → LeftOut (marks_of rest) tail → LeftOut (marks_of from) (ms ++ tail)

-- readings in a row as one
pub row : {rs : List Reading} {ms : List Mark} {Z : Type 0} {reads : Z → List Reading} → Again rs ms Z reads → Single (in_turn rs) ms Z (λ z. in_turn (reads z))
row r = record { single = r.single; keeps = r.keeps }

-- the first of some tokens
record Head (m : Mark) (tokens : List Token) (ms : List Mark) : Type 0 where
  at : Place
  others : List Token
  is : tokens ≡ token m at ∷ others
  left : marks_of others ≡ ms

head : (m : Mark) (tokens : List Token) (ms : List Mark) → marks_of tokens ≡ m ∷ ms → Head m tokens ms
head m [] ms h = absurd (cc)
head m (t ∷ ts) ms h =
    let e : t.mark ≡ m = cc in let l : marks_of ts ≡ ms = cc in
    record { at = place_of t; others = ts; is = λ i. record { mark = e i; line = t.line; column = t.column } ∷ ts; left = l }

-- one after the other
pub goes : (r : Reading) (rs : List Reading) (from mid : List Token) → r from ≡ Some mid → in_turn (r ∷ rs) from ≡ in_turn rs mid
unfolding in_turn
goes r rs from mid h = ap (λ o. elim o as (λ o. Option (List Token)) [ None ↦ None | Some rest ↦ in_turn rs rest ]) h

pub nothing : (from : List Token) → in_turn [] from ≡ Some from
unfolding in_turn
nothing from = refl

-- equal tokens
pub kept : {ts us : List Token} → ts ≡ us → (tail : List Mark) → LeftOut (marks_of us) tail → LeftOut (marks_of ts) tail
kept e tail w = subst (λ (ts : List Token). LeftOut (marks_of ts) tail) (sym e) w

pub done : Again [] [] (Unit {0}) (λ z. [])
done = record {
  single = λ from rest h tokens tail same. record { made = tt; rest = tokens; is = nothing tokens; left = same };
  keeps = λ from rest h tail w. kept (empty from rest h) tail w;
}

pub pass : (m : Mark) {rs : List Reading} {ms : List Mark} {Z : Type 0} {reads : Z → List Reading} → Again rs ms Z reads →
    Again (passes m ∷ rs) (m ∷ ms) Z (λ z. passes m ∷ reads z)
pass m {rs} {ms} {Z} {reads} r = record {
  single = λ from rest h tokens tail same.
      let s = split (passes m) rs from rest h in let k = head m tokens (ms ++ tail) same in let f = r.single s.mid rest s.others k.others tail k.left in
      record { made = f.made; rest = f.rest; is = reads_mark m k.at tokens k.others k.is (reads f.made) ∙ f.is; left = f.left };
  keeps = λ from rest h tail w.
      let s = split (passes m) rs from rest h in kept (passed m from s.mid s.first).is (m ∷ (ms ++ tail)) (keeps (r.keeps s.mid rest s.others tail w));
}

pub take : (m : Mark) (at : Place) {rs : List Reading} {ms : List Mark} {Z : Type 0} {reads : Z → List Reading} → Again rs ms Z reads →
    Again (takes m at ∷ rs) (m ∷ ms) (Place × Z) (λ z. takes m z.0 ∷ reads z.1)
take m at {rs} {ms} {Z} {reads} r = record {
  single = λ from rest h tokens tail same.
      let s = split (takes m at) rs from rest h in let k = head m tokens (ms ++ tail) same in let f = r.single s.mid rest s.others k.others tail k.left in
      record { made = (k.at, f.made); rest = f.rest; is = reads_token m k.at tokens k.others k.is (reads f.made) ∙ f.is; left = f.left };
  keeps = λ from rest h tail w.
      let s = split (takes m at) rs from rest h in kept (took m at from s.mid s.first) (m ∷ (ms ++ tail)) (keeps (r.keeps s.mid rest s.others tail w));
}

-- marks put together
pub joint : {ws : List Mark} (ms ns tail : List Mark) → LeftOut ws (ms ++ (ns ++ tail)) → LeftOut ws ((ms ++ ns) ++ tail)
joint {ws} ms ns tail w = subst (LeftOut ws) (sym (append_assoc ms ns tail)) w

pub part : {r : Reading} {ms : List Mark} {X : Type 0} {reading : X → Reading} → Single r ms X reading →
    {rs : List Reading} {ns : List Mark} {Z : Type 0} {reads : Z → List Reading}
    → Again rs ns Z reads → Again (r ∷ rs) (ms ++ ns) (X × Z) (λ z. reading z.0 ∷ reads z.1)
part {r} {ms} {X} {reading} one {rs} {ns} {Z} {reads} others = record {
  single = λ from rest h tokens tail same.
      let s = split r rs from rest h in
      let a = one.single from s.mid s.first tokens (ns ++ tail) (same ∙ append_assoc ms ns tail) in let f =
      others.single s.mid rest s.others a.rest tail a.left in
      record { made = (a.made, f.made); rest = f.rest; is = goes (reading a.made) (reads f.made) tokens a.rest a.is ∙ f.is; left = f.left };
  keeps = λ from rest h tail w.
      let s = split r rs from rest h in joint ms ns tail (one.keeps from s.mid s.first (ns ++ tail) (others.keeps s.mid rest s.others tail w));
}

-- something else is made of it, which reads the same
pub turn : {r : Reading} {ms : List Mark} {X Z : Type 0} {reading : X → Reading} {other : Z → Reading} (f : X → Z) →
    ((x : X) (ts : List Token) → other (f x) ts ≡ reading x ts) → Single r ms X reading → Single r ms Z other
turn {r} {ms} {X} {Z} {reading} {other} f e one = record {
  single = λ from rest h tokens tail same.
      let a = one.single from rest h tokens tail same in record { made = f a.made; rest = a.rest; is = e a.made tokens ∙ a.is; left = a.left };
  keeps = one.keeps;
}

pub turns : {rs : List Reading} {ms : List Mark} {X Z : Type 0} {reads : X → List Reading} {others : Z → List Reading} (f : X → Z) →
    ((x : X) → others (f x) ≡ reads x) → Again rs ms X reads → Again rs ms Z others
turns {rs} {ms} {X} {Z} {reads} {others} f e r = record {
  single = λ from rest h tokens tail same.
      let a = r.single from rest h tokens tail same in record {
        made = f a.made;
        rest = a.rest;
        is =
            ap (λ (rs : List Reading). in_turn rs tokens) (e a.made) ∙ a.is;
        left = a.left;
      };
  keeps = r.keeps;
}

-- the same marks, put together otherwise
pub spelled : {rs : List Reading} {ms ns : List Mark} {Z : Type 0} {reads : Z → List Reading} → ms ≡ ns → Again rs ns Z reads → Again rs ms Z reads
spelled {rs} {ms} {ns} e r = record {
  single = λ from rest h tokens tail same. r.single from rest h tokens tail (same ∙ ap (λ (xs : List Mark). xs ++ tail) e);
  keeps = λ from rest h tail w. subst (λ (xs : List Mark). LeftOut (marks_of from) (xs ++ tail)) (sym e) (r.keeps from rest h tail w);
}

-- what nothing derives from
pub never : {ms : List Mark} {Z : Type 0} {reading : Z → Reading} → Single impossible ms Z reading
never = record { single = λ from rest h tokens tail same. absurd (cc); keeps = λ from rest h tail w. absurd (cc) }

-- one reading alone
pub last : {r : Reading} {ms : List Mark} {X : Type 0} {reading : X → Reading} → Single r ms X reading → Again (r ∷ []) ms X (λ x. reading x ∷ [])
last {r} {ms} {X} {reading} one = record {
  single = λ from rest h tokens tail same.
      let s = split r [] from rest h in let a = one.single from s.mid s.first tokens tail same in
      record { made = a.made; rest = a.rest; is = goes (reading a.made) [] tokens a.rest a.is ∙ nothing a.rest; left = a.left };
  keeps = λ from rest h tail w. let s = split r [] from rest h in one.keeps from s.mid s.first tail (kept (empty s.mid rest s.others) tail w);
}

-- one token at its place
pub token_at : (m : Mark) (at : Place) → Single (takes m at) (m ∷ []) Place (λ at. takes m at)
token_at m at = record {
  single = λ from rest h tokens tail same.
      let k = head m tokens tail same in record { made = k.at; rest = k.others; is = ap (takes m k.at) k.is ∙ taken m k.at k.others; left = k.left };
  keeps = λ from rest h tail w. kept (took m at from rest h) (m ∷ tail) (keeps w);
}

-- whether the marks begin with this one
abbrev pub begins : Mark → List Mark → Bool
begins m [] = false
begins m (n ∷ ns) = same_mark m n

pub starts_is : (m : Mark) (ts : List Token) → starts m ts ≡ begins m (marks_of ts)
starts_is m [] = refl
starts_is m (t ∷ ts) = refl

-- the same as a single reading, where this mark doesn't follow
pub record Ending (m : Mark) (r : Reading) (ms : List Mark) (Z : Type 0) (reading : Z → Reading) : Type 0 where
  pub single : (from rest : List Token) → r from ≡ Some rest → (tokens : List Token) (tail : List Mark) → begins m tail ≡ false → marks_of tokens ≡ ms
      ++ tail → Read Z reading tokens tail
  pub keeps : (from rest : List Token) → r from ≡ Some rest → (tail : List Mark) → LeftOut (marks_of rest) tail → LeftOut (marks_of from) (ms ++ tail)

-- marks before which that mark may end: this one isn't their first, whatever follows
abbrev pub Apart : Mark → List Mark → Type 0
Apart m ns = (tail : List Mark) → begins m (ns ++ tail) ≡ false

pub ending : {m : Mark} {r : Reading} {ms : List Mark} {X : Type 0} {reading : X → Reading} → Ending m r ms X reading →
    {rs : List Reading} {ns : List Mark} {Z : Type 0} {reads : Z → List Reading} → Apart m ns
    → Again rs ns Z reads → Again (r ∷ rs) (ms ++ ns) (X × Z) (λ z. reading z.0 ∷ reads z.1)
ending {m} {r} {ms} {X} {reading} one {rs} {ns} {Z} {reads} apart others = record {
  single = λ from rest h tokens tail same.
      let s = split r rs from rest h in
      let a = one.single from s.mid s.first tokens (ns ++ tail) (apart tail) (same ∙ append_assoc ms ns tail) in let f =
      others.single s.mid rest s.others a.rest tail a.left in
      record { made = (a.made, f.made); rest = f.rest; is = goes (reading a.made) (reads f.made) tokens a.rest a.is ∙ f.is; left = f.left };
  keeps = λ from rest h tail w.
      let s = split r rs from rest h in joint ms ns tail (one.keeps from s.mid s.first (ns ++ tail) (others.keeps s.mid rest s.others tail w));
}

pub unending : {m : Mark} {r : Reading} {ms : List Mark} {Z : Type 0} {reading : Z → Reading} → Single r ms Z reading → Ending m r ms Z reading
unending one = record { single = λ from rest h tokens tail apart same. one.single from rest h tokens tail same; keeps = one.keeps }

pub turn_ending : {m : Mark} {r : Reading} {ms : List Mark} {X Z : Type 0} {reading : X → Reading} {other : Z → Reading} (f : X → Z) →
    ((x : X) (ts : List Token) → other (f x) ts ≡ reading x ts)
    → Ending m r ms X reading → Ending m r ms Z other
turn_ending {m} {r} {ms} {X} {Z} {reading} {other} f e one = record {
  single = λ from rest h tokens tail apart same.
      let a = one.single from rest h tokens tail apart same in record { made = f a.made; rest = a.rest; is = e a.made tokens ∙ a.is; left = a.left };
  keeps = one.keeps;
}

pub spelled_ending : {m : Mark} {r : Reading} {ms ns : List Mark} {Z : Type 0} {reading : Z → Reading} → ms ≡ ns → Ending m r ns Z reading →
    Ending m r ms Z reading
spelled_ending e one = record {
  single = λ from rest h tokens tail apart same. one.single from rest h tokens tail apart (same ∙ ap (λ (xs : List Mark). xs ++ tail) e);
  keeps = λ from rest h tail w. subst (λ (xs : List Mark). LeftOut (marks_of from) (xs ++ tail)) (sym e) (one.keeps from rest h tail w);
}

-- readings, and another one at their end
pub part_ending : {m : Mark} {rs : List Reading} {ms : List Mark} {Z : Type 0} {reads : Z → List Reading} → Again rs ms Z reads →
    {r : Reading} {ns : List Mark} {X : Type 0} {reading : X → Reading}
    → Ending m r ns X reading → Ending m (in_turn (rs ++ r ∷ [])) (ms ++ ns) (Z × X) (λ z. in_turn (reads z.0 ++ reading z.1 ∷ []))
part_ending {m} {rs} {ms} {Z} {reads} front {r} {ns} {X} {reading} one = record {
  single = λ from rest h tokens tail apart same.
      let s = split (in_turn rs) (r ∷ []) from rest (joined rs (r ∷ []) from ∙ h) in let t = split r [] s.mid rest s.others in
      let f = front.single from s.mid s.first tokens (ns ++ tail) (same ∙ append_assoc ms ns tail) in let a =
      one.single s.mid t.mid t.first f.rest tail apart f.left in
      record {
        made = (f.made, a.made);
        rest = a.rest;
        is = sym (joined (reads f.made) (reading a.made ∷ []) tokens) ∙ goes (in_turn (reads f.made)) (reading a.made ∷ []) tokens f.rest f.is
            ∙ goes (reading a.made) [] f.rest a.rest a.is ∙ nothing a.rest;
        left = a.left;
      };
  keeps = λ from rest h tail w.
      let s = split (in_turn rs) (r ∷ []) from rest (joined rs (r ∷ []) from ∙ h) in let t = split r [] s.mid rest s.others in
      joint ms ns tail (front.keeps from s.mid s.first (ns ++ tail) (one.keeps s.mid t.mid t.first tail (kept (empty t.mid rest t.others) tail w)));
}
