-- What is whole and then loses power is what power cuts after its last disk call.
use Rattle.std.proofs.Common.{false, List, [], ◌∷◌, inl, inr, sym, ◌∙◌, subst}
use Rattle.std.proofs.lemmas.List.{append-nil}
use Rattle.ygg_syntax.specs.declared.tree.Block.{Block}
use Rattle.ygg_syntax.specs.declared.tree.DiskText.{DiskText}
use Rattle.ygg_run_play.specs.ygg_meaning.Environments.{Env}
use Rattle.ygg_run_play.specs.ygg_meaning.Progress.{Answer}
use Rattle.ygg_run_play.specs.ygg_meaning.Machine.{State, TickName, Machine}
use Rattle.ygg_run_play.specs.ygg_meaning.Layer.{ClosedLayer, Layered, BlockRuns, BlockFalls}
use Rattle.ygg_run_play.specs.ygg_meaning.Runs.{notes_of}
use Rattle.ygg_run_play.specs.ygg_meaning.Noted.{Note, NotedDisk}
use Rattle.ygg_run_play.specs.ygg_meaning.Stack.{Layers, Stacked}
use Rattle.ygg_run_play.specs.ygg_meaning_proofs_Monotone.{same_lower}
use Rattle.ygg_run_play.specs.Scene.{FallsAfterAll}

module _ (L : ClosedLayer) (M : Machine Env Note) where
  -- a whole block after which power is lost is one that power cuts
  block_falls : (b : Block) (args : Env) (from to : State Env) (notes : List Note) (answer : Answer) (fallen : Env) →
      BlockRuns L M b args from notes answer to → (Layered L M).Loses to [] fallen → BlockFalls L M b args from notes fallen
  block_falls b args from to notes answer fallen r lost = record {
    memory = r.memory;
    lower = r.lower;
    from_is = r.from_is;
    run = record {
      calls = r.run.calls;
      at = r.lower';
      path = r.run.path;
      within = false;
      last = [];
      falls = subst (λ (s : State Env). M.Loses s [] fallen) (sym (same_lower _ _ r.lower' lost.lower (sym r.to_is ∙ lost.from_is))) lost.falls;
      takes = r.run.takes ∙ sym (append-nil (notes_of r.run.calls));
    };
  }

  -- so are a background step of the layer, and one below it where that is so there
  tick_falls : ((s s' : State Env) (name : TickName) (notes : List Note) (fallen : Env) → M.Ticks s name notes s' → M.Loses s' [] fallen →
      M.TickFalls s name notes fallen) → (s s' : State Env) (name : TickName) (notes : List Note) (fallen : Env) →
      (Layered L M).Ticks s name notes s' → (Layered L M).Loses s' [] fallen → (Layered L M).TickFalls s name notes fallen
  tick_falls below s s' name notes fallen (inl t) lost = inl (record {
    tick = t.tick;
    here = t.here;
    is = t.is;
    step = block_falls t.tick.body [] s s' notes t.step.0 fallen t.step.1 lost;
  })
  tick_falls below s s' name notes fallen (inr t) lost = inr (record {
    memory = t.memory;
    lower = t.lower;
    from_is = t.from_is;
    falls = below t.lower t.lower' name notes fallen t.step
        (subst (λ (x : State Env). M.Loses x [] fallen) (sym (same_lower _ _ t.lower' lost.lower (sym t.to_is ∙ lost.from_is))) lost.falls);
  })

  -- a layer falls after all where the background steps below it do
  layer_falls : ((s s' : State Env) (name : TickName) (notes : List Note) (fallen : Env) → M.Ticks s name notes s' → M.Loses s' [] fallen →
      M.TickFalls s name notes fallen) → FallsAfterAll (Layered L M)
  layer_falls below = record {
    calls = λ s s' name args notes answer fallen c lost. record {
      operation = c.operation;
      is = c.is;
      fit = c.fit;
      step = block_falls c.operation.implementation _ s s' notes answer fallen c.step lost;
    };
    ticks = tick_falls below;
    wakes = λ base s' notes fallen w lost. inr (record {
      lower = w.lower;
      first = w.first;
      second = w.second;
      wakes = w.wakes;
      next = block_falls L.layer.recover [] _ s' w.second w.next.0 fallen w.next.1 lost;
      takes = w.takes;
    });
  }

-- layers on a file's disk, of which there is one at least
pub noted_falls_after_all : (d : DiskText) (L : ClosedLayer) (lower : Layers) → FallsAfterAll (Stacked (NotedDisk d) (L ∷ lower))
noted_falls_after_all d L [] = layer_falls L (NotedDisk d) (λ s s' name notes fallen t lost. absurd t)
noted_falls_after_all d L (K ∷ lower) = layer_falls L (Stacked (NotedDisk d) (K ∷ lower)) (noted_falls_after_all d K lower).ticks
