-- A block runs and falls just so as the direct run does.
use Rattle.std.proofs.Common.{◌≡◌, Bool, List, [], ◌∷◌, ◌++◌, take, length, Some, refl, sym, ap, ◌∙◌, subst}
use Rattle.ygg_syntax.specs.declared.tree.Block.{Block}
use Rattle.ygg_meaning_laws.specs.Environments.{Env}
use Rattle.ygg_meaning_laws.specs.Progress.{Question, Answer}
use Rattle.ygg_meaning_laws.specs.Machine.{Picks, State, on, memory_in, Machine}
use Rattle.ygg_meaning_laws.specs.Layer.{ClosedLayer, dialogue_of, BlockFalls}
use Rattle.ygg_meaning_laws.specs.Obligations.{Halt}
use Rattle.ygg_meaning_laws.specs.Acts.{Notes, Took, Did, Fell, Acts, under, run_from, runs, falls_in, stopped_in, AreCalls, IsActed}
use Rattle.ygg_meaning_laws.specs.DirectLaws.{RunsOn, FallsOn, RunsDirectly, FallsDirectly}
use Rattle.ygg_meaning_laws.proofs.Running.{run_asks, run_chains, run_ends, whole_unique, fall_unique}
use Rattle.ygg_meaning_laws.proofs.Made.{Serves, IsServed, AllFit, made, broken}

-- a state of a layer, taken apart
on_is : {B : Type 0} (m n : Env) (s t : State B) → on m s ≡ on n t → (m ≡ n) × (s ≡ t)
on_is m n s t h = (ap memory_in h, ap under h)

module _ {B X : Type 0} (past : Bool) (N : Notes X) (M : Machine B X) (F : Acts B X) (L : ClosedLayer) (b : Block) (args : Env) where
  -- a run of a block on the machine is the direct run on the picks that it took
  pub runs_unique : AreCalls past N M F → (from : State B) (picks left : Picks) (answer : Answer) (to : State B) (notes : List X) →
      RunsOn N M L b args from past picks answer to notes left → runs F L b args from picks ≡ record { answer = answer; to = to; notes = notes; left = left }
  runs_unique acted from picks left answer to notes r =
      ap (λ s. runs F L b args s picks) r.run.from_is
      ∙ whole_unique F L b r.run.memory args r.run.lower picks past N M acted notes left r.run.env' answer r.run.lower' r.run.run r.took
      ∙ ap (λ (s : State B). let d : Did B X = record { answer = answer; to = s; notes = notes; left = left } in d) (sym r.run.to_is)

  pub falls_unique : IsActed past N M F → (from : State B) (stop : Halt) (picks left : Picks) (fallen : B) (notes : List X) →
      FallsOn N M L b args from past stop picks fallen notes left →
      falls_in F L b args from stop picks ≡ Some (record { base = fallen; notes = notes; left = left })
  falls_unique acted from stop picks left fallen notes r =
      let run : BlockFalls L M b args from notes fallen = r.run in
      ap (λ s. falls_in F L b args s stop picks) run.from_is
      ∙ ap (λ w. let z = run_from F L b args (on run.memory run.lower) picks in stopped_in F w z.events stop.event z.to) r.within
      ∙ ap (λ n. let z = run_from F L b args (on run.memory run.lower) picks in stopped_in F run.run.within z.events n z.to) r.event
      ∙ fall_unique F L b run.memory args run.lower picks past N M acted notes left fallen run.run r.took

  module _ (Good : State B → Type 0) (May : Question → Type 0) (Fit : Question → Answer → Type 0) (serves : Serves past N M F Good May Fit)
      (memory : Env) (lower : State B) (good : Good lower) (served : IsServed May Fit (dialogue_of L b memory args)) where
    none_fit : AllFit Fit (dialogue_of L b memory args) []
    none_fit [] more a q h w = absurd (cc)
    none_fit (t ∷ told) more a q h w = absurd (cc)

    -- the direct run is a run of the block on the machine
    pub runs_made : (picks : Picks) → let d = runs F L b args (on memory lower) picks in
        RunsOn N M L b args (on memory lower) past picks d.answer d.to d.notes d.left
    runs_made picks =
        let r = run_from F L b args (on memory lower) picks in
        let m = made past N M F Good May Fit serves (dialogue_of L b memory args) served [] lower [] picks r.events r.to good none_fit
        (run_asks F L b memory args lower picks) (run_chains F L b memory args lower picks) in
        record {
          run = record {
            memory = memory;
            lower = lower;
            from_is = refl;
            env' = take (length (memory ++ args)) r.env;
            lower' = r.to.at;
            run = record {
              calls = m.calls;
              path = m.path;
              ends = ap (dialogue_of L b memory args) m.answers ∙ run_ends F L b memory args lower picks;
              takes = m.noted;
            };
            to_is = refl;
          };
          took = subst (λ z. Took past N z picks r.to.left) (sym m.noted) m.took;
        }

    pub falls_made : (stop : Halt) (picks : Picks) (f : Fell B X) → falls_in F L b args (on memory lower) stop picks ≡ Some f →
        FallsOn N M L b args (on memory lower) past stop picks f.base f.notes f.left
    falls_made stop picks f h =
        let r = run_from F L b args (on memory lower) picks in
        let m = broken past N M F Good May Fit serves (dialogue_of L b memory args) served [] lower [] picks r.events r.to good none_fit
        (run_asks F L b memory args lower picks) (run_chains F L b memory args lower picks) stop.within stop.event f h in
        record {
          run = record {
            memory = memory;
            lower = lower;
            from_is = refl;
            run =
                record { calls = m.calls; at = m.at; path = m.path; within = stop.within; last = m.last; falls = m.falls; takes = m.noted };
          };
          within = refl;
          event = sym m.counted;
          took = subst (λ z. Took past N z picks f.left) (sym m.noted) m.took;
        }

    pub runs_directly : IsActed past N M F → RunsDirectly N M L b args (on memory lower) past F
    runs_directly acted picks left answer to notes = (
      runs_unique acted.calls (on memory lower) picks left answer to notes,
      λ h. subst (λ (d : Did B X). RunsOn N M L b args (on memory lower) past picks d.answer d.to d.notes d.left) h (runs_made picks),
    )

    pub falls_directly : IsActed past N M F → FallsDirectly N M L b args (on memory lower) past F
    falls_directly acted stop picks left fallen notes =
        (falls_unique acted (on memory lower) stop picks left fallen notes, falls_made stop picks (record { base = fallen; notes = notes; left = left }))
