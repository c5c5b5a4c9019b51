-- What each step below keeps, layers on it keep.
use Rattle.std.proofs.Common.{Bool, true, false, List, [], ◌∷◌, ◌++◌, inl, inr, sym, subst}
use Rattle.ygg_syntax.specs.declared.tree.Block.{Block}
use Rattle.ygg_machine.specs.ygg_meaning.Environments.{Env}
use Rattle.ygg_machine.specs.ygg_meaning.Progress.{Answer}
use Rattle.ygg_machine.specs.ygg_meaning.Machine.{State, TickName, Machine}
use Rattle.ygg_machine.specs.ygg_meaning.Runs.{Dialogue, WholeCall, Reaches, FallsAt, FallenRun, answers_of}
use Rattle.ygg_machine.specs.ygg_meaning.Layer.{ClosedLayer, dialogue_of, BlockRuns, BlockFalls, Layered}
use Rattle.ygg_machine.specs.ygg_meaning.Stack.{Layers, Stacked}
use Rattle.ygg_run_image.specs.Kept.{Keeps}

module _ {B X : Type 0} (I : B → Type 0) where
  module _ (M : Machine B X) (k : Keeps I M) where
    reached : (asked : Dialogue) (told : List Answer) (cs : List (WholeCall B X)) (s s' : State B) → I s.base → Reaches M asked told s cs s' → I s'.base
    reached asked told [] s s' i h = subst (λ (x : State B). I x.base) h i
    reached asked told (c ∷ cs) s s' i (asks, call, rest) =
        reached asked (told ++ c.answer ∷ []) cs c.after s' (k.calls s c.name c.args c.notes c.answer c.after i call) rest

    fallen : (asked : Dialogue) (s : State B) (notes : List X) (f : B) → I s.base → FallenRun M asked s notes f → I f
    fallen asked s notes f i r = by_within r.within r.falls
      where
        at : I r.at.base
        at = reached asked [] r.calls s r.at i r.path

        by_within : (within : Bool) → FallsAt within M asked (answers_of r.calls) r.at r.last f → I f
        by_within true x = k.falls r.at x.name x.args r.last f at x.falls
        by_within false x = k.loses r.at r.last f at x

    pub run_keeps : (L : ClosedLayer) (b : Block) (args : Env) (s : State B) (notes : List X) (answer : Answer) (s' : State B) → I s.base →
        BlockRuns L M b args s notes answer s' → I s'.base
    run_keeps L b args s notes answer s' i r =
        let below : I r.lower.base = subst (λ (x : State B). I x.base) r.from_is i in
        subst (λ (x : State B). I x.base) (sym r.to_is) (reached (dialogue_of L b r.memory args) [] r.run.calls r.lower r.lower' below r.run.path)

    pub fall_keeps : (L : ClosedLayer) (b : Block) (args : Env) (s : State B) (notes : List X) (f : B) → I s.base → BlockFalls L M b args s notes f → I f
    fall_keeps L b args s notes f i r =
        let below : I r.lower.base = subst (λ (x : State B). I x.base) r.from_is i in
        fallen (dialogue_of L b r.memory args) r.lower notes f below r.run

    pub layered_keeps : (L : ClosedLayer) → Keeps I (Layered L M)
    layered_keeps L = record {
      starts = λ s notes h. run_keeps L L.layer.format [] _ h.second h.answer s (k.starts h.lower h.first h.starts) h.formats;
      calls = λ s name args notes answer s' i h. run_keeps L h.operation.implementation _ s notes answer s' i h.step;
      falls = λ s name args notes f i h. fall_keeps L h.operation.implementation _ s notes f i h.step;
      ticks = ticks;
      tick_falls = tick_falls;
      loses = λ s notes f i h. k.loses h.lower notes f (subst (λ (x : State B). I x.base) h.from_is i) h.falls;
      wakes = λ f notes s i h. run_keeps L L.layer.recover [] _ h.second h.next.0 s (k.wakes f h.first h.lower i h.wakes) h.next.1;
      wake_falls = wake_falls;
    }
      where
        ticks : (s : State B) (name : TickName) (notes : List X) (s' : State B) → I s.base → (Layered L M).Ticks s name notes s' → I s'.base
        ticks s name notes s' i (inl h) = run_keeps L h.tick.body [] s notes h.step.0 s' i h.step.1
        ticks s name notes s' i (inr h) =
            subst (λ (x : State B). I x.base) (sym h.to_is)
            (k.ticks h.lower name notes h.lower' (subst (λ (x : State B). I x.base) h.from_is i) h.step)

        tick_falls : (s : State B) (name : TickName) (notes : List X) (f : B) → I s.base → (Layered L M).TickFalls s name notes f → I f
        tick_falls s name notes f i (inl h) = fall_keeps L h.tick.body [] s notes f i h.step
        tick_falls s name notes f i (inr h) = k.tick_falls h.lower name notes f (subst (λ (x : State B). I x.base) h.from_is i) h.falls

        wake_falls : (f : B) (notes : List X) (f' : B) → I f → (Layered L M).WakeFalls f notes f' → I f'
        wake_falls f notes f' i (inl h) = k.wake_falls f notes f' i h
        wake_falls f notes f' i (inr h) = fall_keeps L L.layer.recover [] _ h.second f' (k.wakes f h.first h.lower i h.wakes) h.next

  pub stacked_keeps : (M : Machine B X) → Keeps I M → (layers : Layers) → Keeps I (Stacked M layers)
  stacked_keeps M k [] = k
  stacked_keeps M k (L ∷ lower) = layered_keeps (Stacked M lower) (stacked_keeps M k lower) L
