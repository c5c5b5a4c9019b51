-- Layers on a machine whose runs are alike: their runs are, too, where no two of them have one name.
use Rattle.std.proofs.Common.{◌≡◌, ◌⊎◌, List, [], ◌∷◌, ◌++◌, Some, None, inl, inr, refl, sym, ap, ◌∙◌, subst}
use Rattle.ygg_value.specs.declared.row.Value.{Value}
use Rattle.ygg_syntax.specs.declared.tree.Block.{Block}
use Rattle.ygg_syntax.specs.declared.tree.Operation.{Operation}
use Rattle.ygg_syntax.specs.declared.tree.Tick.{Tick}
use Rattle.ygg_script.specs.ygg_meaning.Environments.{Name, Env, bind}
use Rattle.ygg_script.specs.ygg_meaning.Machine.{Picks, State, on, memory_in, TickName, Machine}
use Rattle.ygg_script.specs.ygg_meaning.Shapes.{zeros_of}
use Rattle.ygg_script.specs.ygg_meaning.Layer.{ClosedLayer, Layered, BlockRuns, operation_of, tick_of}
use Rattle.ygg_script.specs.ygg_meaning.Noted.{Note}
use Rattle.ygg_script.specs.ygg_meaning.Stack.{Layers, Stacked}
use Rattle.ygg_meaning_laws.specs.Acts.{under}
use Rattle.ygg_run_play.proofs.Alike.{End, Whole, Cut, Process, Alike, Takes, split, one_left, Follows, Steady, mute, mute_steady, sequel, sequel_steady}
use Rattle.ygg_run_play.proofs.Blocks.{calling, ticking, waking, blocking, Tidy, block_steady}

-- no background step belongs to a layer of this name
abbrev pub NoTicks : Machine Env Note → Name → Type 0
NoTicks M layer = (s : State Env) (name : TickName) (n : List Note) (x : End) → name.layer ≡ layer → ticking M s name n x → ⊥

-- no layer has this name
abbrev pub Absent : Name → Layers → Type 0
Absent name [] = Unit {0}
Absent name (L ∷ lower) = ((L.layer.name.text ≡ name) → ⊥) × Absent name lower

-- no two layers have one name
abbrev pub Distinct : Layers → Type 0
Distinct [] = Unit {0}
Distinct (L ∷ lower) = Absent L.layer.name.text lower × Distinct lower

module _ (lost : Env → Env) (does cuts : Env → Note → Env) where
  -- what has the runs of a process has them alike
  as_steady : (e : Env) (P Q : Process) → ((n : List Note) (x : End) → P n x → Q n x) → Steady lost does cuts e Q → Steady lost does cuts e P
  as_steady e P Q f h = record {
    one = λ picks left other n m x y p q a b. h.one picks left other n m x y (f n x p) (f m y q) a b;
    follows = λ n x p. h.follows n x (f n x p);
  }

  -- runs of a machine below, while memory stays
  abbrev below : (State Env → Process) → State Env → Process
  below P s n (Whole y t) = (lower : State Env) × P (under s) n (Whole y lower) × (t ≡ on (memory_in s) lower)
  below P s n (Cut f) = P (under s) n (Cut f)

  below_steady : (P : State Env → Process) (s : State Env) → Steady lost does cuts s.base (P (under s)) → Steady lost does cuts s.base (below P s)
  below_steady P s h = record { one = one; follows = follows }
    where
      one : (picks left other : Picks) (n m : List Note) (x y : End) → below P s n x → below P s m y → Takes n picks left → Takes m picks other → Alike n x m y
      one picks left other n m (Whole y u) (Whole z v) p q a b =
          let k = h.one picks left other n m (Whole y p.0) (Whole z q.0) p.1 q.1 a b in (k.0, k.1, p.2 ∙ ap (on (memory_in s)) k.2 ∙ sym q.2)
      one picks left other n m (Whole y u) (Cut g) p q a b = h.one picks left other n m (Whole y p.0) (Cut g) p.1 q a b
      one picks left other n m (Cut f) (Whole z v) p q a b = h.one picks left other n m (Cut f) (Whole z q.0) p q.1 a b
      one picks left other n m (Cut f) (Cut g) p q a b = h.one picks left other n m (Cut f) (Cut g) p q a b

      follows : (n : List Note) (x : End) → below P s n x → Follows lost does cuts s.base n x
      follows n (Whole y u) p = let k = h.follows n (Whole y p.0) p.1 in (k.0, ap (λ (v : State Env). v.base) p.2 ∙ k.1)
      follows n (Cut f) p = h.follows n (Cut f) p

  module _ (M : Machine Env Note) (tidy : Tidy lost does cuts M) (L : ClosedLayer) (none : NoTicks M L.layer.name.text) where
    block : (b : Block) (args : Env) (s : State Env) → Steady lost does cuts s.base (blocking L M b args s)
    block b args s = block_steady lost does cuts M tidy L b args s

    -- ---- operations

    record Operating (s : State Env) (name : Name) (args : List Value) (n : List Note) (x : End) : Type 0 where
      operation : Operation
      is : operation_of L name ≡ Some operation
      run : blocking L M operation.implementation (bind operation.arguments args) s n x

    operating : (s : State Env) (name : Name) (args : List Value) (n : List Note) (x : End) → calling (Layered L M) s name args n x →
        Operating s name args n x
    operating s name args n (Whole y t) h = record { operation = h.operation; is = h.is; run = h.step }
    operating s name args n (Cut f) h = record { operation = h.operation; is = h.is; run = h.step }

    one_operation : (o p : Operation) → Some o ≡ Some p → o ≡ p
    one_operation o p h = cc

    calls : (s : State Env) (name : Name) (args : List Value) → Steady lost does cuts s.base (calling (Layered L M) s name args)
    calls s name args = record {
      one = λ picks left other n m x y h g a b.
          let o = operating s name args n x h in
          let p = operating s name args m y g in
          let same = one_operation p.operation o.operation (sym p.is ∙ o.is) in
          (block o.operation.implementation (bind o.operation.arguments args) s).one picks left other n m x y o.run
          (subst (λ (v : Operation). blocking L M v.implementation (bind v.arguments args) s m y) same p.run) a b;
      follows = λ n x h.
          let o = operating s name args n x h in (block o.operation.implementation (bind o.operation.arguments args) s).follows n x o.run;
    }

    -- ---- background steps

    record Ticking (s : State Env) (name : TickName) (n : List Note) (x : End) : Type 0 where
      tick : Tick
      here : name.layer ≡ L.layer.name.text
      is : tick_of L name.name ≡ Some tick
      run : mute lost does cuts (blocking L M tick.body [] s) n x

    own_or_below : (s : State Env) (name : TickName) (n : List Note) (x : End) → ticking (Layered L M) s name n x →
        Ticking s name n x ⊎ below (λ t. ticking M t name) s n x
    own_or_below s name n (Whole y t) (silent, inl h) = inl (record { tick = h.tick; here = h.here; is = h.is; run = (silent, h.step.0, h.step.1) })
    own_or_below s name n (Whole y t) (silent, inr h) =
        inr (subst (λ (v : State Env). below (λ t. ticking M t name) v n (Whole y t)) (sym h.from_is) (h.lower', (silent, h.step), h.to_is))
    own_or_below s name n (Cut f) (inl h) = inl (record { tick = h.tick; here = h.here; is = h.is; run = h.step })
    own_or_below s name n (Cut f) (inr h) = inr (subst (λ (v : State Env). below (λ t. ticking M t name) v n (Cut f)) (sym h.from_is) h.falls)

    not_below : (s : State Env) (name : TickName) (n : List Note) (x : End) → name.layer ≡ L.layer.name.text → below (λ t. ticking M t name) s n x → ⊥
    not_below s name n (Whole y t) e h = none (under s) name n (Whole y h.0) e h.1
    not_below s name n (Cut f) e h = none (under s) name n (Cut f) e h

    one_tick : (o p : Tick) → Some o ≡ Some p → o ≡ p
    one_tick o p h = cc

    own_ticks : (s : State Env) (name : TickName) → Steady lost does cuts s.base (Ticking s name)
    own_ticks s name = record {
      one = λ picks left other n m x y h g a b.
          let same = one_tick g.tick h.tick (sym g.is ∙ h.is) in
          (mute_steady lost does cuts s.base (blocking L M h.tick.body [] s) (block h.tick.body [] s)).one picks left other n m x y h.run
          (subst (λ (v : Tick). mute lost does cuts (blocking L M v.body [] s) m y) same g.run) a b;
      follows = λ n x h. (mute_steady lost does cuts s.base (blocking L M h.tick.body [] s) (block h.tick.body [] s)).follows n x h.run;
    }

    -- one of two processes that never both run
    either_steady : (e : Env) (P Q : Process) → ((n m : List Note) (x y : End) → P n x → Q m y → ⊥) → Steady lost does cuts e P → Steady lost does cuts e Q →
        Steady lost does cuts e (λ n x. P n x ⊎ Q n x)
    either_steady e P Q apart h g = record { one = one; follows = follows }
      where
        one : (picks left other : Picks) (n m : List Note) (x y : End) → P n x ⊎ Q n x → P m y ⊎ Q m y → Takes n picks left →
            Takes m picks other → Alike n x m y
        one picks left other n m x y (inl p) (inl q) a b = h.one picks left other n m x y p q a b
        one picks left other n m x y (inl p) (inr q) a b = absurd (apart n m x y p q)
        one picks left other n m x y (inr p) (inl q) a b = absurd (apart m n y x q p)
        one picks left other n m x y (inr p) (inr q) a b = g.one picks left other n m x y p q a b

        follows : (n : List Note) (x : End) → P n x ⊎ Q n x → Follows lost does cuts e n x
        follows n x (inl p) = h.follows n x p
        follows n x (inr p) = g.follows n x p

    ticks : (s : State Env) (name : TickName) → Steady lost does cuts s.base (ticking (Layered L M) s name)
    ticks s name =
        as_steady s.base (ticking (Layered L M) s name) (λ n x. Ticking s name n x ⊎ below (λ t. ticking M t name) s n x) (own_or_below s name)
        (either_steady s.base (Ticking s name) (below (λ t. ticking M t name) s) (λ n m x y p q. not_below s name m y p.here q) (own_ticks s name)
        (below_steady (λ t. ticking M t name) s (tidy.ticks (under s) name)))

    -- ---- wakings

    abbrev recovers : State Env → Process
    recovers mid = mute lost does cuts (blocking L M L.layer.recover [] (on (zeros_of L.layer.memory) mid))

    as_sequel : (e : Env) (n : List Note) (x : End) → waking (Layered L M) e n x → sequel lost does cuts (waking M e) recovers n x
    as_sequel e n (Whole y t) (silent, h) = record {
      answer = None;
      mid = h.lower;
      first = h.first;
      second = h.second;
      before = (refl, h.wakes);
      next = (silent, h.next.0, h.next.1);
      is = h.takes;
    }
    as_sequel e n (Cut f) (inl h) = inl h
    as_sequel e n (Cut f) (inr h) = inr (record {
      answer = None;
      mid = h.lower;
      first = h.first;
      second = h.second;
      before = (refl, h.wakes);
      next = h.next;
      is = h.takes;
    })

    wakes : (e : Env) → Steady lost does cuts e (waking (Layered L M) e)
    wakes e =
        as_steady e (waking (Layered L M) e) (sequel lost does cuts (waking M e) recovers) (as_sequel e)
        (sequel_steady lost does cuts e (waking M e) recovers (tidy.wakes e) (λ mid.
        mute_steady lost does cuts mid.base (blocking L M L.layer.recover [] (on (zeros_of L.layer.memory) mid))
        (block L.layer.recover [] (on (zeros_of L.layer.memory) mid))))

    -- ---- power failing between operations, and formatting

    loses : (s : State Env) (n : List Note) (f : Env) → (Layered L M).Loses s n f → (n ≡ []) × (f ≡ lost s.base)
    loses s n f h = let k = tidy.loses h.lower n f h.falls in (k.0, k.1 ∙ ap (λ (v : State Env). lost v.base) (sym h.from_is))

    starts : (picks left other : Picks) (n m : List Note) (s t : State Env) → (Layered L M).Starts s n → (Layered L M).Starts t m → Takes n picks left →
        Takes m picks other → (n ≡ m) × (s ≡ t)
    starts picks left other n m s t h g a b =
        let p = split h.first h.second n picks left h.takes a in
        let q = split g.first g.second m picks other g.takes b in
        let k = tidy.starts picks p.mid q.mid h.first g.first h.lower g.lower h.starts g.starts p.first q.first in
        let mids = one_left h.first g.first picks p.mid q.mid k.0 p.first q.first in
        let from = on (zeros_of L.layer.memory) h.lower in
        let r = (block L.layer.format [] from).one p.mid left other h.second g.second (Whole h.answer s) (Whole g.answer t) h.formats
        (subst (λ (v : State Env). BlockRuns L M L.layer.format [] (on (zeros_of L.layer.memory) v) g.second g.answer t) (sym k.1) g.formats) p.second
        (subst (λ v. Takes g.second v other) (sym mids) q.second) in
        (h.takes ∙ ap (λ v. v ++ h.second) k.0 ∙ ap (λ v. g.first ++ v) r.0 ∙ sym g.takes, r.2)

    layered_tidy : Tidy lost does cuts (Layered L M)
    layered_tidy = record { calls = calls; ticks = ticks; wakes = wakes; loses = loses; starts = starts }

    layered_none : (layer : Name) → ((L.layer.name.text ≡ layer) → ⊥) → NoTicks M layer → NoTicks (Layered L M) layer
    layered_none layer other below_none s name n x e h = by_kind (own_or_below s name n x h)
      where
        under_none : (y : End) → below (λ t. ticking M t name) s n y → ⊥
        under_none (Whole y t) p = below_none (under s) name n (Whole y p.0) e p.1
        under_none (Cut f) p = below_none (under s) name n (Cut f) e p

        by_kind : Ticking s name n x ⊎ below (λ t. ticking M t name) s n x → ⊥
        by_kind (inl p) = other (sym p.here ∙ e)
        by_kind (inr p) = under_none x p

  module _ (M : Machine Env Note) (tidy : Tidy lost does cuts M) (none : (layer : Name) → NoTicks M layer) where
    pub stacked_tidy : (layers : Layers) → Distinct layers → Tidy lost does cuts (Stacked M layers) × ((layer : Name) → Absent layer layers →
        NoTicks (Stacked M layers) layer)
    stacked_tidy [] h = (tidy, λ layer absent. none layer)
    stacked_tidy (L ∷ lower) h =
        let r = stacked_tidy lower h.1 in
        let here = r.1 L.layer.name.text h.0 in (
          layered_tidy (Stacked M lower) r.0 L here,
          λ layer absent. layered_none (Stacked M lower) r.0 L here layer absent.0 (r.1 layer absent.1),
        )
