-- Two runs of one thing from one state with the same picks: where both are whole they are one; where power cut both at one point too; and where it cut
-- one of them, that has got no further than the other.
use Rattle.std.proofs.Common.{◌≡◌, ◌⊎◌, if◌then◌else◌, true, List, [], ◌∷◌, ◌++◌, None, inl, inr, refl, sym, ap, ◌∙◌, subst}
use Rattle.ygg_script.specs.ygg_meaning.Environments.{Env}
use Rattle.ygg_script.specs.ygg_meaning.Progress.{Answer}
use Rattle.ygg_script.specs.ygg_meaning.Machine.{Picks, State}
use Rattle.ygg_script.specs.ygg_meaning.Noted.{Note, picks_in}
use Rattle.ygg_script.proofs.of_ygg_meaning.Stores.{picks_joined}
use Rattle.ygg_meaning_laws.specs.Acts.{Taken, later}
use Rattle.ygg_meaning_laws.proofs.Taking.{taken_split}
use Rattle.ygg_run_play.proofs.Endings.{AllWhole, Before, OneEnd, one_end, before_more, before_after, end_after, whole_append}

-- how a run ends
pub data End : Type 0 where
  Whole : (answer : Answer) (to : State Env) → End
  Cut : (fallen : Env) → End

-- runs of one thing from one state: their disk calls and how they end
abbrev pub Process : Type 1
Process = List Note → End → Type 0

abbrev pub Alike : List Note → End → List Note → End → Type 0
Alike n (Whole y s) m (Whole z t) = (n ≡ m) × (y ≡ z) × (s ≡ t)
Alike n (Whole y s) m (Cut g) = Before m n
Alike n (Cut f) m (Whole z t) = Before n m
Alike n (Cut f) m (Cut g) = OneEnd n m

pub flipped : (n m : List Note) (x y : End) → Alike n x m y → Alike m y n x
flipped n m (Whole y s) (Whole z t) h = (sym h.0, sym h.1, sym h.2)
flipped n m (Whole y s) (Cut g) h = h
flipped n m (Cut f) (Whole z t) h = h
flipped n m (Cut f) (Cut g) h = λ within k e d. sym (h within k d e)

pub alike_after : (a n m : List Note) (x y : End) → AllWhole a → Alike n x m y → Alike (a ++ n) x (a ++ m) y
alike_after a n m (Whole y s) (Whole z t) w h = (ap (λ ns. a ++ ns) h.0, h.1, h.2)
alike_after a n m (Whole y s) (Cut g) w h = before_after a m n h
alike_after a n m (Cut f) (Whole z t) w h = before_after a n m h
alike_after a n m (Cut f) (Cut g) w h = end_after a n m w h

-- one is cut in what is whole of the other
pub alike_cut : (n a m : List Note) (f : Env) (y : End) → AllWhole a → Before n a → Alike n (Cut f) (a ++ m) y
alike_cut n a m f (Whole y s) w h = before_more n a m h
alike_cut n a m f (Cut g) w h = λ within k e d. one_end within k n a m w h e d

-- ---- picks

in_turn : (a b : List Note) → picks_in (a ++ b) ≡ picks_in a ++ picks_in b
in_turn a b = sym (picks_joined.append a b (picks_in a) (picks_in b) refl refl)

abbrev pub Takes : List Note → Picks → Picks → Type 0
Takes n picks left = Taken true (picks_in n) picks left

-- where one list is taken after another
pub record Split (a b : List Note) (picks left : Picks) : Type 0 where
  pub mid : Picks
  pub first : Takes a picks mid
  pub second : Takes b mid left

pub split : (a b n : List Note) (picks left : Picks) → n ≡ a ++ b → Takes n picks left → Split a b picks left
split a b n picks left e h =
    let s = taken_split true (picks_in a) (picks_in b) picks left (subst (λ t. Taken true t picks left) (ap picks_in e ∙ in_turn a b) h) in
    record { mid = s.mid; first = s.first; second = s.second }

taken_once : (taken picks left other : Picks) → Taken true taken picks left → Taken true taken picks other → left ≡ other
taken_once [] picks left other h g = h ∙ sym g
taken_once (t ∷ taken) picks left other h g = taken_once taken (later picks) left other h.1 g.1

pub one_left : (n m : List Note) (picks left other : Picks) → n ≡ m → Takes n picks left → Takes m picks other → left ≡ other
one_left n m picks left other e h g = taken_once (picks_in m) picks left other (subst (λ k. Takes k picks left) e h) g

-- ---- processes

module _ (lost : Env → Env) (does cuts : Env → Note → Env) where
  -- what whole disk calls leave of a base
  abbrev pub after : Env → List Note → Env
  after e [] = e
  after e (n ∷ ns) = after (does e n) ns

  -- what power leaves that fails after these disk calls, of which it may have cut the last
  abbrev pub fallen : Env → List Note → Env
  fallen e [] = lost e
  fallen e (n ∷ ns) = if n.cut then cuts e n else fallen (does e n) ns

  -- the base at the end is what the disk calls leave
  abbrev pub Follows : Env → List Note → End → Type 0
  Follows e n (Whole y s) = AllWhole n × (s.base ≡ after e n)
  Follows e n (Cut f) = f ≡ fallen e n

  after_append : (e : Env) (a b : List Note) → after e (a ++ b) ≡ after (after e a) b
  after_append e [] b = refl
  after_append e (x ∷ a) b = after_append (does e x) a b

  fallen_append : (e : Env) (a b : List Note) → AllWhole a → fallen e (a ++ b) ≡ fallen (after e a) b
  fallen_append e [] b w = refl
  fallen_append e (x ∷ a) b w =
      ap (λ c. if c then cuts e x else fallen (does e x) (a ++ b)) w.0 ∙ fallen_append (does e x) a b w.1

  pub follows_after : (e mid : Env) (a n : List Note) (x : End) → AllWhole a → mid ≡ after e a → Follows mid n x → Follows e (a ++ n) x
  follows_after e mid a n (Whole y s) w is h = (whole_append a n w h.0, h.1 ∙ ap (λ b. after b n) is ∙ sym (after_append e a n))
  follows_after e mid a n (Cut f) w is h = h ∙ ap (λ b. fallen b n) is ∙ sym (fallen_append e a n w)

  -- Runs of one thing from one state over this base: any two with the same picks are alike, and the disk calls tell the base at the end.
  pub record Steady (e : Env) (P : Process) : Type 0 where
    pub one : (picks left other : Picks) (n m : List Note) (x y : End) → P n x → P m y → Takes n picks left → Takes m picks other → Alike n x m y
    pub follows : (n : List Note) (x : End) → P n x → Follows e n x

  -- the same runs, whose answers aren't told
  abbrev pub mute : Process → Process
  mute P n (Whole y s) = (y ≡ None) × (answer : Answer) × P n (Whole answer s)
  mute P n (Cut f) = P n (Cut f)

  pub mute_steady : (e : Env) (P : Process) → Steady e P → Steady e (mute P)
  mute_steady e P h = record { one = one; follows = follows }
    where
      one : (picks left other : Picks) (n m : List Note) (x y : End) → mute P n x → mute P m y → Takes n picks left → Takes m picks other → Alike n x m y
      one picks left other n m (Whole y s) (Whole z t) p q a b =
          let k = h.one picks left other n m (Whole p.1 s) (Whole q.1 t) p.2 q.2 a b in (k.0, p.0 ∙ sym q.0, k.2)
      one picks left other n m (Whole y s) (Cut g) p q a b = h.one picks left other n m (Whole p.1 s) (Cut g) p.2 q a b
      one picks left other n m (Cut f) (Whole z t) p q a b = h.one picks left other n m (Cut f) (Whole q.1 t) p q.2 a b
      one picks left other n m (Cut f) (Cut g) p q a b = h.one picks left other n m (Cut f) (Cut g) p q a b

      follows : (n : List Note) (x : End) → mute P n x → Follows e n x
      follows n (Whole y s) p = h.follows n (Whole p.1 s) p.2
      follows n (Cut f) p = h.follows n (Cut f) p

  -- the first is whole, and then comes the second
  pub record Then (P : Process) (Q : State Env → Process) (n : List Note) (x : End) : Type 0 where
    pub answer : Answer
    pub mid : State Env
    pub first : List Note
    pub second : List Note
    pub before : P first (Whole answer mid)
    pub next : Q mid second x
    pub is : n ≡ first ++ second

  -- one thing and then another
  abbrev pub sequel : Process → (State Env → Process) → Process
  sequel P Q n (Whole y s) = Then P Q n (Whole y s)
  sequel P Q n (Cut f) = P n (Cut f) ⊎ Then P Q n (Cut f)

  module _ (e : Env) (P : Process) (Q : State Env → Process) (h : Steady e P) (g : (mid : State Env) → Steady mid.base (Q mid)) where
    both_then : (picks left other : Picks) (n m : List Note) (x y : End) → Then P Q n x → Then P Q m y → Takes n picks left → Takes m picks other →
        Alike n x m y
    both_then picks left other n m x y p q a b =
        let s = split p.first p.second n picks left p.is a in
        let t = split q.first q.second m picks other q.is b in
        let k = h.one picks s.mid t.mid p.first q.first (Whole p.answer p.mid) (Whole q.answer q.mid) p.before q.before s.first t.first in
        let mids = one_left p.first q.first picks s.mid t.mid k.0 s.first t.first in
        let next = (g p.mid).one s.mid left other p.second q.second x y p.next (subst (λ z. Q z q.second y) (sym k.2) q.next) s.second
        (subst (λ z. Takes q.second z other) (sym mids) t.second) in
        let w = (h.follows p.first (Whole p.answer p.mid) p.before).0 in
        subst (λ z. Alike z x m y) (sym p.is)
        (subst (λ z. Alike (p.first ++ p.second) x z y) (ap (λ z. z ++ q.second) k.0 ∙ sym q.is) (alike_after p.first p.second q.second x y w next))

    cut_then : (picks left other : Picks) (n m : List Note) (f : Env) (y : End) → P n (Cut f) → Then P Q m y → Takes n picks left → Takes m picks other →
        Alike n (Cut f) m y
    cut_then picks left other n m f y p q a b =
        let t = split q.first q.second m picks other q.is b in
        let k = h.one picks left t.mid n q.first (Cut f) (Whole q.answer q.mid) p q.before a t.first in
        let w = (h.follows q.first (Whole q.answer q.mid) q.before).0 in
        subst (λ z. Alike n (Cut f) z y) (sym q.is) (alike_cut n q.first q.second f y w k)

    then_follows : (n : List Note) (x : End) → Then P Q n x → Follows e n x
    then_follows n x p =
        let w = h.follows p.first (Whole p.answer p.mid) p.before in
        subst (λ z. Follows e z x) (sym p.is)
        (follows_after e p.mid.base p.first p.second x w.0 w.1 ((g p.mid).follows p.second x p.next))

    pub sequel_steady : Steady e (sequel P Q)
    sequel_steady = record { one = one; follows = follows }
      where
        one : (picks left other : Picks) (n m : List Note) (x y : End) → sequel P Q n x → sequel P Q m y → Takes n picks left → Takes m picks other →
            Alike n x m y
        one picks left other n m (Whole y s) (Whole z t) p q a b = both_then picks left other n m (Whole y s) (Whole z t) p q a b
        one picks left other n m (Whole y s) (Cut k) p (inl q) a b =
            flipped m n (Cut k) (Whole y s) (cut_then picks other left m n k (Whole y s) q p b a)
        one picks left other n m (Whole y s) (Cut k) p (inr q) a b = both_then picks left other n m (Whole y s) (Cut k) p q a b
        one picks left other n m (Cut f) (Whole z t) (inl p) q a b = cut_then picks left other n m f (Whole z t) p q a b
        one picks left other n m (Cut f) (Whole z t) (inr p) q a b = both_then picks left other n m (Cut f) (Whole z t) p q a b
        one picks left other n m (Cut f) (Cut k) (inl p) (inl q) a b = h.one picks left other n m (Cut f) (Cut k) p q a b
        one picks left other n m (Cut f) (Cut k) (inl p) (inr q) a b = cut_then picks left other n m f (Cut k) p q a b
        one picks left other n m (Cut f) (Cut k) (inr p) (inl q) a b =
            flipped m n (Cut k) (Cut f) (cut_then picks other left m n k (Cut f) q p b a)
        one picks left other n m (Cut f) (Cut k) (inr p) (inr q) a b = both_then picks left other n m (Cut f) (Cut k) p q a b

        follows : (n : List Note) (x : End) → sequel P Q n x → Follows e n x
        follows n (Whole y s) p = then_follows n (Whole y s) p
        follows n (Cut f) (inl p) = h.follows n (Cut f) p
        follows n (Cut f) (inr p) = then_follows n (Cut f) p
