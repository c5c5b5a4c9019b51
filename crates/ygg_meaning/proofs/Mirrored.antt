-- Layers on a machine that mirrors another mirror the same layers on that other.
use Rattle.std.proofs.Common.{◌≡◌, Bool, true, false, List, [], ◌∷◌, ◌++◌, take, length, inl, inr, refl, sym, ap, ◌∙◌, subst}
use Rattle.ygg_syntax.specs.declared.tree.Block.{Block}
use Rattle.ygg_meaning.specs.Environments.{Env, bind}
use Rattle.ygg_meaning.specs.Progress.{Answer}
use Rattle.ygg_meaning.specs.Machine.{State, on, TickName, Machine}
use Rattle.ygg_meaning.specs.Runs.{Dialogue, WholeCall, answers_of, notes_of, Reaches, FallsAt, FallenRun}
use Rattle.ygg_meaning.specs.Layer.{ClosedLayer, dialogue_of, BlockRuns, BlockFalls, Layered}
use Rattle.ygg_meaning.specs.Shapes.{zeros_of}
use Rattle.ygg_meaning.specs.Stack.{Layers, Stacked}
use Rattle.ygg_meaning.specs.Mirror.{SameOn, IsJoined, FormattedIf, Mirrors}

module _ {B X C Y : Type 0} (R : C → B → Type 0) (Q : List X → List Y → Type 0) (joined : IsJoined Q) where
  same_on : (m : Env) (t : State C) (s : State B) → SameOn R t s → SameOn R (on m t) (on m s)
  same_on m t s r = record { memories = ap (λ ms. m ∷ ms) r.memories; bases = r.bases }

  -- the state below, where a step of the layer begins
  pub record Opened (t : State C) (memory : Env) (lower : State B) : Type 0 where
    pub upper : State C
    pub is : t ≡ on memory upper
    pub related : SameOn R upper lower

  opened : (t : State C) (s : State B) (memory : Env) (lower : State B) → SameOn R t s → s ≡ on memory lower → Opened t memory lower
  opened t s memory lower r e =
      let memories : t.memories ≡ memory ∷ lower.memories = r.memories ∙ ap (λ (x : State B). x.memories) e in
      record {
        upper = record { memories = lower.memories; base = t.base };
        is = ap (λ (ms : List Env). record { memories = ms; base = t.base }) memories;
        related = record { memories = refl; bases = subst (λ (x : State B). R t.base x.base) e r.bases };
      }

  module _ (P : Type 0) (M : Machine B X) (N : Machine C Y) (U : Mirrors R Q (FormattedIf P M) N) where
    -- the same calls with the same answers
    pub record SamePath (asked : Dialogue) (told : List Answer) (t : State C) (ts : List (WholeCall B X)) (s' : State B) : Type 0 where
      pub calls : List (WholeCall C Y)
      pub to : State C
      pub path : Reaches N asked told t calls to
      pub related : SameOn R to s'
      pub same : answers_of calls ≡ answers_of ts
      pub notes : Q (notes_of ts) (notes_of calls)

    path_mirrored : (asked : Dialogue) (told : List Answer) (ts : List (WholeCall B X)) (t : State C) (s s' : State B) → SameOn R t s →
        Reaches M asked told s ts s' → SamePath asked told t ts s'
    path_mirrored asked told [] t s s' r h = record {
      calls = [];
      to = t;
      path = refl;
      related = subst (λ x. SameOn R t x) h r;
      same = refl;
      notes =
          joined.none;
    }
    path_mirrored asked told (u ∷ us) t s s' r (asks, call, rest) =
        let (t1, b, call', r1, q) = U.calls t s u.after u.name u.args u.notes u.answer r call in
        let p = path_mirrored asked (told ++ u.answer ∷ []) us t1 u.after s' r1 rest in
        record {
          calls = record { name = u.name; args = u.args; notes = b; answer = u.answer; after = t1 } ∷ p.calls;
          to = p.to;
          path = (asks, call', p.path);
          related = p.related;
          same = ap (λ rest. u.answer ∷ rest) p.same;
          notes = joined.append u.notes (notes_of us) b (notes_of p.calls) q p.notes;
        }

    fallen_mirrored : (asked : Dialogue) (t : State C) (s : State B) (a : List X) (f : B) → SameOn R t s → FallenRun M asked s a f → (g : C)
        × (b : List Y) × FallenRun N asked t b g × R g f × Q a b
    fallen_mirrored asked t s a f r h = by_within h.within h.falls
      where
        p : SamePath asked [] t h.calls h.at
        p = path_mirrored asked [] h.calls t s h.at r h.path

        noted : (b : List Y) → Q h.last b → Q a (notes_of p.calls ++ b)
        noted b q = subst (λ x. Q x (notes_of p.calls ++ b)) (sym h.takes) (joined.append (notes_of h.calls) h.last (notes_of p.calls) b p.notes q)

        by_within : (within : Bool) → FallsAt within M asked (answers_of h.calls) h.at h.last f → (g : C) × (b : List Y) × FallenRun N asked t b g
            × R g f × Q a b
        by_within true x =
            let (g, b, falls, r', q) = U.falls p.to h.at x.name x.args h.last f p.related x.falls in (
              g,
              notes_of p.calls ++ b,
              record {
                calls = p.calls;
                at = p.to;
                path = p.path;
                within = true;
                last = b;
                falls = record { name = x.name; args = x.args; asks = ap asked p.same ∙ x.asks; falls = falls };
                takes = refl;
              },
              r',
              noted b q,
            )
        by_within false x =
            let (g, b, loses, r', q) = U.loses p.to h.at h.last f p.related x in (
              g,
              notes_of p.calls ++ b,
              record { calls = p.calls; at = p.to; path = p.path; within = false; last = b; falls = loses; takes = refl },
              r',
              noted b q,
            )

    module _ (L : ClosedLayer) where
      abbrev Impl : Machine B X
      Impl = Layered L M

      abbrev Impl' : Machine C Y
      Impl' = Layered L N

      abbrev zeros : Env
      zeros = zeros_of L.layer.memory

      block_mirrored : (b : Block) (args : Env) (t : State C) (s s' : State B) (a : List X) (y : Answer) → SameOn R t s → BlockRuns L M b args s a y s' →
          (t' : State C) × (c : List Y) × BlockRuns L N b args t c y t' × SameOn R t' s' × Q a c
      block_mirrored b args t s s' a y r h =
          let o = opened t s h.memory h.lower r h.from_is in
          let w = h.run in
          let p = path_mirrored (dialogue_of L b h.memory args) [] w.calls o.upper h.lower h.lower' o.related w.path in
          let memory' = take (length h.memory) h.env' in (
            on memory' p.to,
            notes_of p.calls,
            record {
              memory = h.memory;
              lower = o.upper;
              from_is = o.is;
              env' = h.env';
              lower' = p.to;
              run = record { calls = p.calls; path = p.path; ends = ap (dialogue_of L b h.memory args) p.same ∙ w.ends; takes = refl };
              to_is = refl;
            },
            subst (λ x. SameOn R (on memory' p.to) x) (sym h.to_is) (same_on memory' p.to h.lower' p.related),
            subst (λ x. Q x (notes_of p.calls)) (sym w.takes) p.notes,
          )

      block_falls_mirrored : (b : Block) (args : Env) (t : State C) (s : State B) (a : List X) (f : B) → SameOn R t s → BlockFalls L M b args s a f →
          (g : C) × (c : List Y) × BlockFalls L N b args t c g × R g f × Q a c
      block_falls_mirrored b args t s a f r h =
          let o = opened t s h.memory h.lower r h.from_is in
          let (g, c, run, r', q) = fallen_mirrored (dialogue_of L b h.memory args) o.upper h.lower a f o.related h.run in
          (g, c, record { memory = h.memory; lower = o.upper; from_is = o.is; run = run }, r', q)

      ticks_mirrored : (t : State C) (s s' : State B) (name : TickName) (a : List X) → SameOn R t s → Impl.Ticks s name a s' → (t' : State C)
          × (b : List Y) × Impl'.Ticks t name b t' × SameOn R t' s' × Q a b
      ticks_mirrored t s s' name a r (inl x) =
          let (t', b, run, r', q) = block_mirrored x.tick.body [] t s s' a x.step.0 r x.step.1 in
          (t', b, inl (record { tick = x.tick; here = x.here; is = x.is; step = (x.step.0, run) }), r', q)
      ticks_mirrored t s s' name a r (inr x) =
          let o = opened t s x.memory x.lower r x.from_is in
          let (upper', b, step, r', q) = U.ticks o.upper x.lower x.lower' name a o.related x.step in (
            on x.memory upper',
            b,
            inr (record { memory = x.memory; lower = o.upper; from_is = o.is; lower' = upper'; step = step; to_is = refl }),
            subst (λ z. SameOn R (on x.memory upper') z) (sym x.to_is) (same_on x.memory upper' x.lower' r'),
            q,
          )

      tick_falls_mirrored : (t : State C) (s : State B) (name : TickName) (a : List X) (f : B) → SameOn R t s → Impl.TickFalls s name a f → (g : C)
          × (b : List Y) × Impl'.TickFalls t name b g × R g f × Q a b
      tick_falls_mirrored t s name a f r (inl x) =
          let (g, b, run, r', q) = block_falls_mirrored x.tick.body [] t s a f r x.step in
          (g, b, inl (record { tick = x.tick; here = x.here; is = x.is; step = run }), r', q)
      tick_falls_mirrored t s name a f r (inr x) =
          let o = opened t s x.memory x.lower r x.from_is in
          let (g, b, falls, r', q) = U.tick_falls o.upper x.lower name a f o.related x.falls in
          (g, b, inr (record { memory = x.memory; lower = o.upper; from_is = o.is; falls = falls }), r', q)

      wake_falls_mirrored : (g : C) (f f' : B) (a : List X) → R g f → Impl.WakeFalls f a f' → (g' : C) × (b : List Y) × Impl'.WakeFalls g b g' × R g' f' × Q a b
      wake_falls_mirrored g f f' a r (inl x) = let (g', b, falls, r', q) = U.wake_falls g f f' a r x in (g', b, inl falls, r', q)
      wake_falls_mirrored g f f' a r (inr x) =
          let (upper, b, wakes, r1, q) = U.wakes g f x.first x.lower r x.wakes in
          let (g', c, run, r', q') = block_falls_mirrored L.layer.recover [] (on zeros upper) (on zeros x.lower) x.second f'
          (same_on zeros upper x.lower r1) x.next in (
            g',
            b ++ c,
            inr (record { lower = upper; first = b; second = c; wakes = wakes; next = run; takes = refl }),
            r',
            subst (λ z. Q z (b ++ c)) (sym x.takes) (joined.append x.first x.second b c q q'),
          )

      pub layered_mirrors : Mirrors R Q (FormattedIf P Impl) Impl'
      layered_mirrors = record {
        starts = λ s a (p, h).
            let (upper, b, starts, r, q) = U.starts h.lower h.first (p, h.starts) in
            let (t', c, run, r', q') = block_mirrored L.layer.format [] (on zeros upper) (on zeros h.lower) s h.second h.answer
            (same_on zeros upper h.lower r) h.formats in (
              t',
              b ++ c,
              record { lower = upper; first = b; second = c; answer = h.answer; starts = starts; formats = run; takes = refl },
              r',
              subst (λ z. Q z (b ++ c)) (sym h.takes) (joined.append h.first h.second b c q q'),
            );
        calls = λ t s s' name args a answer r h.
            let (t', b, run, r', q) = block_mirrored h.operation.implementation (bind h.operation.arguments args) t s s' a answer r h.step in
            (t', b, record { operation = h.operation; is = h.is; fit = h.fit; step = run }, r', q);
        falls = λ t s name args a f r h.
            let (g, b, run, r', q) = block_falls_mirrored h.operation.implementation (bind h.operation.arguments args) t s a f r h.step in
            (g, b, record { operation = h.operation; is = h.is; fit = h.fit; step = run }, r', q);
        ticks = ticks_mirrored;
        tick_falls = tick_falls_mirrored;
        loses = λ t s a f r h.
            let o = opened t s h.memory h.lower r h.from_is in
            let (g, b, loses, r', q) = U.loses o.upper h.lower a f o.related h.falls in
            (g, b, record { memory = h.memory; lower = o.upper; from_is = o.is; falls = loses }, r', q);
        wakes = λ g f a s r h.
            let (upper, b, wakes, r1, q) = U.wakes g f h.first h.lower r h.wakes in
            let (t', c, run, r', q') = block_mirrored L.layer.recover [] (on zeros upper) (on zeros h.lower) s h.second h.next.0
            (same_on zeros upper h.lower r1) h.next.1 in (
              t',
              b ++ c,
              record { lower = upper; first = b; second = c; wakes = wakes; next = (h.next.0, run); takes = refl },
              r',
              subst (λ z. Q z (b ++ c)) (sym h.takes) (joined.append h.first h.second b c q q'),
            );
        wake_falls = wake_falls_mirrored;
      }

  pub stacked_mirrors : (P : Type 0) (M : Machine B X) (N : Machine C Y) → Mirrors R Q (FormattedIf P M) N → (layers : Layers) →
      Mirrors R Q (FormattedIf P (Stacked M layers)) (Stacked N layers)
  stacked_mirrors P M N U [] = U
  stacked_mirrors P M N U (L ∷ lower) = layered_mirrors P (Stacked M lower) (Stacked N lower) (stacked_mirrors P M N U lower) L

  -- where it may be formatted, it mirrors as a whole
  pub formatted_mirrors : (P : Type 0) (M : Machine B X) (N : Machine C Y) → P → Mirrors R Q (FormattedIf P M) N → Mirrors R Q M N
  formatted_mirrors P M N p U = record {
    starts = λ s a h. U.starts s a (p, h);
    calls = U.calls;
    falls = U.falls;
    ticks = U.ticks;
    tick_falls = U.tick_falls;
    loses = U.loses;
    wakes = U.wakes;
    wake_falls = U.wake_falls;
  }
