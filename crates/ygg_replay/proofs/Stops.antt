-- A run that came to its end reaches no stop that comes later.
use Rattle.std.proofs.Common.{◌≡◌, ℕ, zero, suc, ◌≤◌, Bool, true, false, if◌then◌else◌, List, [], ◌∷◌, length, Some, None, refl, sym, ◌∙◌, subst, arith}
use Rattle.ygg_syntax.specs.declared.tree.Block.{Block}
use Rattle.ygg_sched.specs.ygg_meaning.Environments.{Env}
use Rattle.ygg_sched.specs.ygg_meaning.Progress.{Answer}
use Rattle.ygg_sched.specs.ygg_meaning.Machine.{Picks, State, on, Machine}
use Rattle.ygg_sched.specs.ygg_meaning.Layer.{ClosedLayer, dialogue_of, BlockFalls}
use Rattle.ygg_sched.specs.ygg_meaning.Obligations.{Halt, IsRead}
use Rattle.ygg_sched.specs.ygg_meaning.Runs.{WholeRun, answers_of}
use Rattle.ygg_eval.specs.ygg_meaning_laws.Direct.{Event}
use Rattle.ygg_eval.specs.ygg_meaning_laws.Acts.{Acts, Fell, Standing, noted_picks, Taken, run_from, stopped_in, IsActed}
use Rattle.ygg_eval.proofs.of_ygg_meaning_laws.Agreed.{falls_unique}
use Rattle.ygg_eval.proofs.of_ygg_meaning_laws.Running.{run_asks, run_chains, run_ends}
use Rattle.ygg_eval.proofs.of_ygg_meaning_laws.Taking.{left_after, read_taken}
use Rattle.ygg_eval.proofs.of_ygg_meaning_laws.Unique.{Asked, never_both, walk}

-- how many calls there are before a stop at the earliest that isn't reached
abbrev pub beyond : Bool → ℕ → ℕ
beyond within calls = if within then calls else suc calls

module _ (F : Acts Env Bool) where
  -- a run whose end comes at the latest with this question has no more
  few : (es : List (Event (Standing Env Bool))) (n : ℕ) (end : Standing Env Bool) → stopped_in F true es n end ≡ None → length es ≤ n
  few [] n end h = omega arith
  few (e ∷ es) zero end h = absurd (cc)
  few (e ∷ es) (suc n) end h = let k = few es n end h in omega (arith, k)

  -- past its end a run has no stop
  past_end : (within : Bool) (es : List (Event (Standing Env Bool))) (n : ℕ) (end : Standing Env Bool) → beyond within (length es) ≤ n →
      stopped_in F within es n end ≡ None
  past_end true [] zero end h = refl
  past_end true [] (suc n) end h = refl
  past_end false [] zero end h = absurd (omega (arith, h))
  past_end false [] (suc n) end h = refl
  past_end true (e ∷ es) zero end h = absurd (omega (arith, h))
  past_end false (e ∷ es) zero end h = absurd (omega (arith, h))
  past_end true (e ∷ es) (suc n) end h = past_end true es n end (omega (arith, h))
  past_end false (e ∷ es) (suc n) end h = past_end false es n end (omega (arith, h))

  module _ (M : Machine Env Bool) (acted : IsActed false noted_picks M F) (L : ClosedLayer) (b : Block) (args memory : Env) (lower : State Env) (picks : Picks)
    where
      abbrev from : State Env
      from = on memory lower

      -- a whole run has all the questions of the direct run
      all_asked : (notes : Picks) (env : Env) (answer : Answer) (to : State Env) (run : WholeRun M (dialogue_of L b memory args) lower notes env answer to) →
          IsRead picks notes → length (run_from F L b args from picks).events ≤ length run.calls
      all_asked notes env answer to run read =
          let r = run_from F L b args from picks in
          let w = walk false noted_picks M F acted.calls (dialogue_of L b memory args) [] run.calls lower to run.path [] picks (left_after (length notes) picks)
          (subst (λ t. Taken false t picks (left_after (length notes) picks)) run.takes (read_taken picks notes read))
          r.events r.to (run_asks F L b memory args lower picks) (run_chains F L b memory args lower picks) _ _ (run_ends F L b memory args lower picks) in
          few r.events (length run.calls) r.to (w.stops true ∙ none_left w.rest w.asks r.to)
        where
          none_left : (rest : List (Event (Standing Env Bool))) → Asked (dialogue_of L b memory args) (answers_of run.calls) rest → (end : Standing Env Bool) →
              stopped_in F true rest 0 end ≡ None
          none_left [] asks end = refl
          none_left (e ∷ rest) asks end = never_both (dialogue_of L b memory args (answers_of run.calls)) e.question env answer asks.0 run.ends

      -- so no run with the same picks is cut at a stop past its end
      pub never_cut : (notes : Picks) (env : Env) (answer : Answer) (to : State Env)
          (run : WholeRun M (dialogue_of L b memory args) lower notes env answer to) →
          IsRead picks notes → (stop : Halt) → beyond stop.within (length run.calls) ≤ stop.event →
          (taken : Picks) (fallen : Env) (falls : BlockFalls L M b args from taken fallen) →
          stop.within ≡ falls.run.within → stop.event ≡ length falls.run.calls → IsRead picks taken → ⊥
      never_cut notes env answer to run read stop later taken fallen falls within event read' =
          let r = run_from F L b args from picks in
          let all = all_asked notes env answer to run read in
          let some = falls_unique false noted_picks M F L b args acted from stop picks (left_after (length taken) picks) fallen taken
          (record { run = falls; within = within; event = event; took = read_taken picks taken read' }) in
          let none = past_end stop.within r.events stop.event r.to (more stop.within (length r.events) (length run.calls) stop.event all later) in
          not_both _ (sym some ∙ none)
        where
          not_both : (f : Fell Env Bool) → Some f ≡ None → ⊥
          not_both f h = cc

          more : (within : Bool) (few many event : ℕ) → few ≤ many → beyond within many ≤ event → beyond within few ≤ event
          more true few many event h g = omega (arith, h, g)
          more false few many event h g = omega (arith, h, g)
