-- Parts that may be left out or be repeated.
use Rattle.std.proofs.Common.{◌≡◌, Bool, true, false, ◌||◌, List, [], ◌∷◌, ◌++◌, map, Some, refl, ap, ◌∙◌, append_assoc}
use Rattle.ygg_base.specs.declared.token.Mark.{Mark}
use Rattle.ygg_base.specs.declared.token.Token.{Token}
use Rattle.ygg_syntax.specs.declared.tree.Place.{Place}
use Rattle.ygg_syntax.specs.Reading.{Reading, token, same_mark, starts, passes, takes, in_turn}
use Rattle.ygg_syntax.specs.Pending.{Pending, exactly, Part, perhaps, repeated, beginning, rest_of, after, leaves, outcome}
use Rattle.ygg_read.proofs.ExpressionPhrases.{same}
use Rattle.ygg_read.proofs.Marks.{passed, took}
use Rattle.ygg_read.proofs.Stopped.{next, goes_token, left_out, ended}
use Rattle.ygg_read.proofs.TakenWhole.{split, empty, Runs, next_mark}
use Rattle.ygg_read.proofs.Sources.{next_rule}

-- the first token of a part that may be left out
pub begins_perhaps : (p : Part) (at : Place) (rest : List Token) (qs : List Pending) →
    outcome (perhaps p ∷ qs) (token (beginning p) at ∷ rest) ≡ outcome (rest_of p ++ qs) rest
begins_perhaps p at rest qs = next (perhaps p) qs (token (beginning p) at) rest (leaves (rest_of p)) (rw (after, same (beginning p)) refl)

-- the first token of a part that is repeated
pub begins_repeated : (p : Part) (at : Place) (rest : List Token) (qs : List Pending) →
    outcome (repeated p ∷ qs) (token (beginning p) at ∷ rest) ≡ outcome (rest_of p ++ (repeated p ∷ qs)) rest
begins_repeated p at rest qs =
    next (repeated p) qs (token (beginning p) at) rest (leaves (rest_of p ++ repeated p ∷ [])) (rw (after, same (beginning p)) refl)
    ∙ ap (λ (ps : List Pending). outcome ps rest) (append_assoc (rest_of p) (repeated p ∷ []) qs)

-- the tokens of a part: the one that it begins with, and those that the symbols after it take
pub record Entry (p : Part) (from rest : List Token) : Type 0 where
  pub at : Place
  pub mid : List Token
  pub is : from ≡ token (beginning p) at ∷ mid
  pub runs : (qs : List Pending) → outcome (rest_of p ++ qs) mid ≡ outcome qs rest

-- what is read is a part
pub record Enters (r : Reading) (p : Part) : Type 0 where
  pub enters : (from rest : List Token) → r from ≡ Some rest → Entry p from rest

-- a part that begins wherever it stands
pub passing : (p : Part) {rs : List Reading} → Runs rs (rest_of p) → Enters (in_turn (passes (beginning p) ∷ rs)) p
passing p {rs} r = record {
  enters = λ from rest h. let s = split (passes (beginning p)) rs from rest h in let k = passed (beginning p) from s.mid s.first in
      record { at = k.at; mid = s.mid; is = k.is; runs = λ qs. r.runs s.mid rest s.others qs };
}

-- a part that begins at its place
pub taking : (p : Part) (at : Place) {rs : List Reading} → Runs rs (rest_of p) → Enters (in_turn (takes (beginning p) at ∷ rs)) p
taking p at {rs} r = record {
  enters = λ from rest h. let s = split (takes (beginning p) at) rs from rest h in
      record { at = at; mid = s.mid; is = took (beginning p) at from s.mid s.first; runs = λ qs. r.runs s.mid rest s.others qs };
}

-- one part more
pub entered : (p : Part) (from rest : List Token) → Entry p from rest → (qs : List Pending) → outcome (repeated p ∷ qs) from ≡ outcome (repeated p ∷ qs) rest
entered p from rest e qs = ap (outcome (repeated p ∷ qs)) e.is ∙ begins_repeated p e.at e.mid qs ∙ e.runs (repeated p ∷ qs)

-- parts one after another, and more may come
pub all_entered : {A : Type 0} (r : A → Reading) (p : Part) → ((a : A) → Enters (r a) p) → (es : List A) (from rest : List Token) →
    in_turn (map r es) from ≡ Some rest
    → (qs : List Pending) → outcome (repeated p ∷ qs) from ≡ outcome (repeated p ∷ qs) rest
all_entered r p each [] from rest h qs = ap (outcome (repeated p ∷ qs)) (empty from rest h)
all_entered r p each (a ∷ es) from rest h qs =
    let s = split (r a) (map r es) from rest h in
    entered p from s.mid ((each a).enters from s.mid s.first) qs ∙ all_entered r p each es s.mid rest s.others qs

-- whether the mark is one of these
abbrev pub is_one_of : List Mark → Mark → Bool
is_one_of [] m = false
is_one_of (n ∷ ns) m = same_mark m n || is_one_of ns m

pub neither : (a b : Bool) → a || b ≡ false → (a ≡ false) × (b ≡ false)
neither true b h = absurd (cc)
neither false b h = (refl, h)

-- the pending symbols take what the readings read, and the first token has one of these marks
pub record Parts (rs : List Reading) (qs : List Pending) (firsts : List Mark) : Type 0 where
  pub runs : (from rest : List Token) → in_turn rs from ≡ Some rest → (ps : List Pending) → outcome (qs ++ ps) from ≡ outcome ps rest
  pub opens : (from rest : List Token) → in_turn rs from ≡ Some rest → (m : Mark) → is_one_of firsts m ≡ false → starts m from ≡ false

-- a token comes first
pub first_mark : (n : Mark) {rs : List Reading} {qs : List Pending} → Runs rs qs → Parts (passes n ∷ rs) (exactly n ∷ qs) (n ∷ [])
first_mark n {rs} {qs} r = record {
  runs = λ from rest h ps. let s = split (passes n) rs from rest h in let k = passed n from s.mid s.first in
      goes_token n k.at from s.mid k.is (qs ++ ps) ∙ r.runs s.mid rest s.others ps;
  opens = λ from rest h m other. let s = split (passes n) rs from rest h in let k = passed n from s.mid s.first in
      ap (starts m) k.is ∙ (neither (same_mark m n) false other).0;
}

-- a rule that begins with a token comes first
pub first_rule : (n : Mark) {es : List Reading} {ps : List Pending} → Runs es ps → {rs : List Reading} {qs : List Pending} → Runs rs qs →
    Parts (in_turn (passes n ∷ es) ∷ rs) (exactly n ∷ ps ++ qs) (n ∷ [])
first_rule n {es} {ps} a {rs} {qs} r = record {
  runs = λ from rest h xs. (next_rule (next_mark n a) r).runs from rest h xs;
  opens = λ from rest h m other. let s = split (in_turn (passes n ∷ es)) rs from rest h in let t = split (passes n) es from s.mid s.first in let k =
      passed n from t.mid t.first in
      ap (starts m) k.is ∙ (neither (same_mark m n) false other).0;
}

-- parts come first, or none
pub first_parts : {A : Type 0} (r : A → Reading) (p : Part) → ((a : A) → Enters (r a) p) →
    (es : List A) {rs : List Reading} {qs : List Pending} {firsts : List Mark} → is_one_of firsts (beginning p) ≡ false
    → Parts rs qs firsts → Parts (in_turn (map r es) ∷ rs) (repeated p ∷ qs) (beginning p ∷ firsts)
first_parts r p each es {rs} {qs} {firsts} apart others = record {
  runs = λ from rest h ps.
      let s = split (in_turn (map r es)) rs from rest h in
      all_entered r p each es from s.mid s.first (qs ++ ps) ∙ ended p s.mid (others.opens s.mid rest s.others (beginning p) apart) (qs ++ ps)
      ∙ others.runs s.mid rest s.others ps;
  opens = λ from rest h m other. let s = split (in_turn (map r es)) rs from rest h in
      first es from s.mid s.first m other (λ k. others.opens s.mid rest s.others m k);
}
  where
    first : (es : List _) (from mid : List Token) → in_turn (map r es) from ≡ Some mid → (m : Mark) → is_one_of (beginning p ∷ firsts) m ≡ false →
        (is_one_of firsts m ≡ false → starts m mid ≡ false) → starts m from ≡ false
    first [] from mid h m other k = ap (starts m) (empty from mid h) ∙ k (neither (same_mark m (beginning p)) (is_one_of firsts m) other).1
    first (a ∷ es) from mid h m other k =
        let s = split (r a) (map r es) from mid h in
        ap (starts m) ((each a).enters from s.mid s.first).is ∙ (neither (same_mark m (beginning p)) (is_one_of firsts m) other).0

-- a part that may be left out is read, or nothing where another token comes
pub record Choice (p : Part) (from rest : List Token) : Type 0 where
  pub there : starts (beginning p) from ≡ true → Entry p from rest
  pub absent : starts (beginning p) from ≡ false → from ≡ rest

-- the reading chooses so
pub record Chooses (r : Reading) (p : Part) : Type 0 where
  pub chooses : (from rest : List Token) → r from ≡ Some rest → Choice p from rest

-- what becomes of a choice
pub chosen : (p : Part) (from rest : List Token) → Choice p from rest → (qs : List Pending) → outcome (perhaps p ∷ qs) from ≡ outcome qs rest
chosen p from rest c qs = cases (starts (beginning p) from) refl
  where
    cases : (b : Bool) → starts (beginning p) from ≡ b → outcome (perhaps p ∷ qs) from ≡ outcome qs rest
    cases true e = let k = c.there e in ap (outcome (perhaps p ∷ qs)) k.is ∙ begins_perhaps p k.at k.mid qs ∙ k.runs qs
    cases false e = left_out p from e qs ∙ ap (outcome qs) (c.absent e)

-- a part that may be left out comes first
pub first_choice : (r : Reading) (p : Part) → Chooses r p → {rs : List Reading} {qs : List Pending} {firsts : List Mark} → Parts rs qs firsts →
    Parts (r ∷ rs) (perhaps p ∷ qs) (beginning p ∷ firsts)
first_choice r p choice {rs} {qs} {firsts} others = record {
  runs = λ from rest h ps. let s = split r rs from rest h in
      chosen p from s.mid (choice.chooses from s.mid s.first) (qs ++ ps) ∙ others.runs s.mid rest s.others ps;
  opens = λ from rest h m other. let s = split r rs from rest h in
      cases from s.mid (choice.chooses from s.mid s.first) m other (starts (beginning p) from) refl (λ k. others.opens s.mid rest s.others m k);
}
  where
    cases : (from mid : List Token) → Choice p from mid → (m : Mark) → is_one_of (beginning p ∷ firsts) m ≡ false → (b : Bool) →
        starts (beginning p) from ≡ b → (is_one_of firsts m ≡ false → starts m mid ≡ false) → starts m from ≡ false
    cases from mid c m other true e k = ap (starts m) (c.there e).is ∙ (neither (same_mark m (beginning p)) (is_one_of firsts m) other).0
    cases from mid c m other false e k = ap (starts m) (c.absent e) ∙ k (neither (same_mark m (beginning p)) (is_one_of firsts m) other).1

-- the readings alone
pub whole_parts : {rs : List Reading} {qs : List Pending} {firsts : List Mark} → Parts rs qs firsts → Runs rs qs
whole_parts h = record { runs = λ from rest k ps. h.runs from rest k ps }
