-- A layer on a better machine.
use Rattle.std.proofs.Common.{◌≡◌, Bool, true, false, List, [], ◌∷◌, ◌++◌, take, length, inl, inr, refl, sym, ap, ◌∙◌, subst}
use Rattle.ygg_syntax.specs.declared.tree.Block.{Block}
use Rattle.ygg_meaning.specs.Environments.{Env, bind}
use Rattle.ygg_meaning.specs.Progress.{Answer}
use Rattle.ygg_meaning.specs.Machine.{State, on, TickName, Machine}
use Rattle.ygg_meaning.specs.Runs.{Dialogue, WholeCall, answers_of, notes_of, Reaches, WholeRun, FallsAt, FallenRun}
use Rattle.ygg_meaning.specs.Layer.{ClosedLayer, dialogue_of, BlockRuns, BlockFalls, FallsBelow, Layered}
use Rattle.ygg_meaning.specs.Shapes.{zeros_of}
use Rattle.ygg_meaning.specs.Under.{Under, Failure, InCall, InTick, Between, FailsBy, WakesAfter, Woken, Survives}
use Rattle.ygg_meaning.specs.HistoryLaws.{OnTop}

abbrev pub head_of : List Env → Env
head_of [] = []
head_of (m ∷ ms) = m

abbrev pub tail_of : List Env → List Env
tail_of [] = []
tail_of (m ∷ ms) = ms

pub same_memory : {B : Type 0} (m m' : Env) (l l' : State B) → on m l ≡ on m' l' → m ≡ m'
same_memory {B} m m' l l' e = ap (λ (s : State B). head_of s.memories) e

pub same_lower : {B : Type 0} (m m' : Env) (l l' : State B) → on m l ≡ on m' l' → l ≡ l'
same_lower {B} m m' l l' e = ap (λ (s : State B). record { memories = tail_of s.memories; base = s.base }) e

module _ {B X C Y : Type 0} (M : Machine B X) (N : Machine C Y) (R : State C → State B → Type 0) (U : Under M N R) where
  -- the same calls with the same answers
  pub record SamePath (asked : Dialogue) (told : List Answer) (t : State C) (ts : List (WholeCall B X)) (s' : State B) : Type 0 where
    pub calls : List (WholeCall C Y)
    pub to : State C
    pub path : Reaches N asked told t calls to
    pub related : R to s'
    pub same : answers_of calls ≡ answers_of ts

  path_under : (asked : Dialogue) (told : List Answer) (ts : List (WholeCall B X)) (t : State C) (s s' : State B) → R t s →
      Reaches M asked told s ts s' → SamePath asked told t ts s'
  path_under asked told [] t s s' r h = record { calls = []; to = t; path = refl; related = subst (λ x. R t x) h r; same = refl }
  path_under asked told (u ∷ us) t s s' r (asks, call, rest) =
      let (t1, picks, call', r1) = U.calls t s u.after u.name u.args u.notes u.answer r call in
      let p = path_under asked (told ++ u.answer ∷ []) us t1 u.after s' r1 rest in
      record {
        calls = record { name = u.name; args = u.args; notes = picks; answer = u.answer; after = t1 } ∷ p.calls;
        to = p.to;
        path = (asks, call', p.path);
        related = p.related;
        same = ap (λ rest. u.answer ∷ rest) p.same;
      }

  whole_under : (asked : Dialogue) (t : State C) (s : State B) (picks : List X) (env : Env) (y : Answer) (s' : State B) → R t s →
      WholeRun M asked s picks env y s' →
      (t' : State C) × (picks' : List Y) × WholeRun N asked t picks' env y t' × R t' s'
  whole_under asked t s picks env y s' r w =
      let p = path_under asked [] w.calls t s s' r w.path in
      (p.to, notes_of p.calls, record { calls = p.calls; path = p.path; ends = ap asked p.same ∙ w.ends; takes = refl }, p.related)

  -- where a run breaks off, the machine below fails in some way, and if the better one does so too, its run breaks off there
  pub record BreaksOff (asked : Dialogue) (t : State C) (s : State B) (f : B) : Type 0 where
    pub at : State B
    pub at' : State C
    pub related : R at' at
    pub how : Failure
    pub last : List X
    pub fails : FailsBy M how at last f
    pub back : (picks : List Y) (f' : C) → FailsBy N how at' picks f' → (all : List Y) × FallenRun N asked t all f'

  breaks_off : (asked : Dialogue) (t : State C) (s : State B) (picks : List X) (f : B) → R t s → FallenRun M asked s picks f → BreaksOff asked t s f
  breaks_off asked t s picks f r b = by_within b.within b.falls
    where
      p : SamePath asked [] t b.calls b.at
      p = path_under asked [] b.calls t s b.at r b.path

      by_within : (within : Bool) → FallsAt within M asked (answers_of b.calls) b.at b.last f → BreaksOff asked t s f
      by_within true x = record {
        at = b.at;
        at' = p.to;
        related = p.related;
        how = InCall x.name x.args;
        last = b.last;
        fails = x.falls;
        back = λ picks f' y. (
          notes_of p.calls ++ picks,
          record {
            calls = p.calls;
            at = p.to;
            path = p.path;
            within = true;
            last = picks;
            falls = record { name = x.name; args = x.args; asks = ap asked p.same ∙ x.asks; falls = y };
            takes = refl;
          },
        );
      }
      by_within false x = record {
        at = b.at;
        at' = p.to;
        related = p.related;
        how = Between;
        last = b.last;
        fails = x;
        back = λ picks f' y. (
          notes_of p.calls ++ picks,
          record {
            calls = p.calls;
            at = p.to;
            path = p.path;
            within = false;
            last = picks;
            falls = y;
            takes = refl;
          },
        );
      }

  module _ (L : ClosedLayer) where
    abbrev Impl : Machine B X
    Impl = Layered L M

    abbrev Impl' : Machine C Y
    Impl' = Layered L N

    -- the state below, where a step of the layer begins
    pub record Opened (t : State C) (memory : Env) (lower : State B) : Type 0 where
      pub upper : State C
      pub is : t ≡ on memory upper
      pub related : R upper lower

    opened : (t : State C) (s : State B) (memory : Env) (lower : State B) → OnTop R t s → s ≡ on memory lower → Opened t memory lower
    opened t s memory lower r e =
        let both = sym r.lower_is ∙ e in
        record {
          upper = r.upper;
          is = r.upper_is ∙ ap (λ m. on m r.upper) (same_memory r.memory memory r.lower lower both);
          related = subst (λ x. R r.upper x) (same_lower r.memory memory r.lower lower both) r.related;
        }

    block_under : (b : Block) (args : Env) (t : State C) (s : State B) (picks : List X) (y : Answer) (s' : State B) → OnTop R t s →
        BlockRuns L M b args s picks y s' →
        (t' : State C) × (picks' : List Y) × BlockRuns L N b args t picks' y t' × OnTop R t' s'
    block_under b args t s picks y s' r h =
        let o = opened t s h.memory h.lower r h.from_is in
        let (upper', picks', w, r') = whole_under (dialogue_of L b h.memory args) o.upper h.lower picks h.env' y h.lower' o.related h.run in
        let memory' = take (length h.memory) h.env' in (
          on memory' upper',
          picks',
          record { memory = h.memory; lower = o.upper; from_is = o.is; env' = h.env'; lower' = upper'; run = w; to_is = refl },
          record { memory = memory'; upper = upper'; lower = h.lower'; upper_is = refl; lower_is = h.to_is; related = r' },
        )

    -- the same of a block of the layer
    pub record BlockBreaksOff (b : Block) (args : Env) (t : State C) (f : B) : Type 0 where
      pub at : State B
      pub at' : State C
      pub related : R at' at
      pub how : Failure
      pub last : List X
      pub fails : FailsBy M how at last f
      pub back : (picks : List Y) (f' : C) → FailsBy N how at' picks f' → (all : List Y) × BlockFalls L N b args t all f'

    block_breaks_off : (b : Block) (args : Env) (t : State C) (s : State B) (picks : List X) (f : B) → OnTop R t s → BlockFalls L M b args s picks f →
        BlockBreaksOff b args t f
    block_breaks_off b args t s picks f r h =
        let o = opened t s h.memory h.lower r h.from_is in
        let x = breaks_off (dialogue_of L b h.memory args) o.upper h.lower picks f o.related h.run in
        record {
          at = x.at;
          at' = x.at';
          related = x.related;
          how = x.how;
          last = x.last;
          fails = x.fails;
          back = λ picks f' y.
              let (all, broken) = x.back picks f' y in
              (all, record { memory = h.memory; lower = o.upper; from_is = o.is; run = broken });
        }

    abbrev zeros : Env
    zeros = zeros_of L.layer.memory

    on_zeros : (t : State C) (s : State B) → R t s → OnTop R (on zeros t) (on zeros s)
    on_zeros t s r = record { memory = zeros; upper = t; lower = s; upper_is = refl; lower_is = refl; related = r }

    -- after the recoveries of the machine below that failed, the layer's own go on
    lift : (hs : List C) (f : C) (t : State C) (t' : State C) → WakesAfter N f hs t →
        ((g : C) (q : List Y) → N.Wakes g q t → Woken Impl' g t') → Woken Impl' f t'
    lift [] f t t' (q, w) k = k f q w
    lift (h ∷ hs) f t t' (q, wf, rest) k = let (fs, w) = lift hs h t t' rest k in (h ∷ fs, (q, inl wf, w))

    -- a failure of the machine below, and recoveries of the layer after it
    pub record Recovered (how : Failure) (t : State C) (s' : State B) : Type 0 where
      pub picks : List Y
      pub fallen : C
      pub fails : FailsBy N how t picks fallen
      pub to : State C
      pub woken : Woken Impl' fallen to
      pub related : OnTop R to s'

    recover_under : (fs : List B) (how : Failure) (t : State C) (s : State B) (p : List X) (f g : B) (s' : State B) → R t s → FailsBy M how s p f →
        ((x : State B) → Woken M g x → Woken M f x) → WakesAfter Impl g fs s' → Recovered how t s'
    recover_under [] how t s p f g s' r fails chain (q, w) =
        let (lower, h, r1) = U.survives t s w.lower how r (record { notes = p; fallen = f; fails = fails; woken = chain w.lower ([], (w.first, w.wakes)) }) in
        let (to, picks', run, r2) = block_under L.layer.recover [] (on zeros lower) (on zeros w.lower) w.second w.next.0 s'
        (on_zeros lower w.lower r1) w.next.1 in
        record {
          picks = h.notes;
          fallen = h.fallen;
          fails = h.fails;
          to = to;
          woken = lift h.woken.0 h.fallen lower to h.woken.1 (λ g q wakes.
              ([], (q ++ picks', record { lower = lower; first = q; second = picks'; wakes = wakes; next = (w.next.0, run); takes = refl })));
          related = r2;
        }
    recover_under (g' ∷ fs) how t s p f g s' r fails chain (q, inl wf, rest) =
        recover_under fs how t s p f g' s' r fails (λ x woken. chain x (g' ∷ woken.0, (q, wf, woken.1))) rest
    recover_under (g' ∷ fs) how t s p f g s' r fails chain (q, inr w, rest) =
        let (lower, h, r1) = U.survives t s w.lower how r (record { notes = p; fallen = f; fails = fails; woken = chain w.lower ([], (w.first, w.wakes)) }) in
        let x = block_breaks_off L.layer.recover [] (on zeros lower) (on zeros w.lower) w.second g' (on_zeros lower w.lower r1) w.next in
        let y = recover_under fs x.how x.at' x.at x.last g' g' s' x.related x.fails (λ x woken. woken) rest in
        let (all, broken) = x.back y.picks y.fallen y.fails in
        record {
          picks = h.notes;
          fallen = h.fallen;
          fails = h.fails;
          to = y.to;
          woken = lift h.woken.0 h.fallen lower y.to h.woken.1 (λ g q wakes. (
            y.fallen ∷ y.woken.0,
            (
              q ++ all,
              inr (record {
                lower = lower;
                first = q;
                second = all;
                wakes = wakes;
                next = broken;
                takes =
                    refl {a = q ++ all};
              }),
              y.woken.1,
            ),
          ));
          related = y.related;
        }

    -- a failure within a block, and recoveries
    block_survives : (b : Block) (args : Env) (t : State C) (s : State B) (picks : List X) (f : B) (s' : State B) → OnTop R t s →
        BlockFalls L M b args s picks f → Woken Impl f s' →
        (all : List Y) × (f' : C) × BlockFalls L N b args t all f' × (t' : State C) × Woken Impl' f' t' × OnTop R t' s'
    block_survives b args t s picks f s' r h woken =
        let x = block_breaks_off b args t s picks f r h in
        let y = recover_under woken.0 x.how x.at' x.at x.last f f s' x.related x.fails (λ x w. w) woken.1 in
        let (all, broken) = x.back y.picks y.fallen y.fails in
        (all, y.fallen, broken, y.to, y.woken, y.related)

    -- a failure of the machine below while the layer does nothing, and recoveries
    below_survives : (how : Failure) (t : State C) (s : State B) (picks : List X) (f : B) (s' : State B) → OnTop R t s →
        FallsBelow s (λ lower. FailsBy M how lower picks f) → Woken Impl f s' →
        (all : List Y) × (f' : C) × FallsBelow t (λ upper. FailsBy N how upper all f') × (t' : State C) × Woken Impl' f' t' × OnTop R t' s'
    below_survives how t s picks f s' r h woken =
        let o = opened t s h.memory h.lower r h.from_is in
        let y = recover_under woken.0 how o.upper h.lower picks f f s' o.related h.falls (λ x w. w) woken.1 in
        (y.picks, y.fallen, record { memory = h.memory; lower = o.upper; from_is = o.is; falls = y.fails }, y.to, y.woken, y.related)

    survives_under : (how : Failure) (t : State C) (s s' : State B) → OnTop R t s → Survives Impl how s s' → (t' : State C) × Survives Impl' how t t'
        × OnTop R t' s'
    survives_under (InCall name args) t s s' r h =
        let (all, f', broken, t', woken, r') = block_survives h.fails.operation.implementation
        (bind h.fails.operation.arguments args) t s h.notes h.fallen s' r h.fails.step h.woken in (
          t',
          record {
            notes = all;
            fallen = f';
            fails = record { operation = h.fails.operation; is = h.fails.is; fit = h.fails.fit; step = broken };
            woken = woken;
          },
          r',
        )
    survives_under (InTick name) t s s' r h = by_case h.fails
      where
        by_case : Impl.TickFalls s name h.notes h.fallen → (t' : State C) × Survives Impl' (InTick name) t t' × OnTop R t' s'
        by_case (inl x) =
            let (all, f', broken, t', woken, r') = block_survives x.tick.body [] t s h.notes h.fallen s' r x.step h.woken in
            (t', record { notes = all; fallen = f'; fails = inl (record { tick = x.tick; here = x.here; is = x.is; step = broken }); woken = woken }, r')
        by_case (inr x) =
            let (all, f', falls, t', woken, r') = below_survives (InTick name) t s h.notes h.fallen s' r x h.woken in
            (t', record { notes = all; fallen = f'; fails = inr falls; woken = woken }, r')
    survives_under Between t s s' r h =
        let (all, f', falls, t', woken, r') = below_survives Between t s h.notes h.fallen s' r h.fails h.woken in
        (t', record { notes = all; fallen = f'; fails = falls; woken = woken }, r')

    ticks_under : (t : State C) (s s' : State B) (name : TickName) (picks : List X) → OnTop R t s → Impl.Ticks s name picks s' → (t' : State C)
        × (picks' : List Y) × Impl'.Ticks t name picks' t' × OnTop R t' s'
    ticks_under t s s' name picks r (inl x) =
        let (t', picks', run, r') = block_under x.tick.body [] t s picks x.step.0 s' r x.step.1 in
        (t', picks', inl (record { tick = x.tick; here = x.here; is = x.is; step = (x.step.0, run) }), r')
    ticks_under t s s' name picks r (inr x) =
        let o = opened t s x.memory x.lower r x.from_is in
        let (upper', picks', step, r') = U.ticks o.upper x.lower x.lower' name picks o.related x.step in (
          on x.memory upper',
          picks',
          inr (record { memory = x.memory; lower = o.upper; from_is = o.is; lower' = upper'; step = step; to_is = refl }),
          record { memory = x.memory; upper = upper'; lower = x.lower'; upper_is = refl; lower_is = x.to_is; related = r' },
        )

    pub layered_under : Under Impl Impl' (OnTop R)
    layered_under = record {
      starts = λ s picks h.
          let (lower, p, start, r) = U.starts h.lower h.first h.starts in
          let (t', q, run, r') = block_under L.layer.format [] (on zeros lower) (on zeros h.lower) h.second h.answer s (on_zeros lower h.lower r) h.formats in
          (t', p ++ q, record { lower = lower; first = p; second = q; answer = h.answer; starts = start; formats = run; takes = refl }, r');
      calls = λ t s s' name args picks answer r h.
          let (t', picks', run, r') = block_under h.operation.implementation (bind h.operation.arguments args) t s picks answer s' r h.step in
          (t', picks', record { operation = h.operation; is = h.is; fit = h.fit; step = run }, r');
      ticks = ticks_under;
      survives = λ t s s' how r h. survives_under how t s s' r h;
    }
