-- A recovery whose every call is answered goes on to its end.
use Rattle.std.proofs.Common.{Bool, List, [], ◌∷◌, ◌++◌, map, take, length, refl, ap}
use Rattle.ygg_meaning.specs.Environments.{Env}
use Rattle.ygg_meaning.specs.Progress.{Answer, Run, Point, Progress, ended, in_turn, run_of, answer_of}
use Rattle.ygg_meaning.specs.Machine.{Picks, State, based, on, Machine}
use Rattle.ygg_meaning.specs.Runs.{WholeCall, Dialogue, Reaches, notes_of}
use Rattle.ygg_meaning.specs.Layer.{ClosedLayer, Layered, BlockRuns, dialogue_of, eval_of}
use Rattle.ygg_meaning.specs.Shapes.{zeros_of}
use Rattle.ygg_meaning.specs.Under.{Failure, FailsBy}
use Rattle.ygg_meaning.specs.HistoryLaws.{Answered}
use Rattle.ygg_meaning.proofs.Plain.{IsPlain}
use Rattle.ygg_meaning.proofs.Finishing.{Walks, Serve, statements_ending}

-- whenever power has failed on the machine below, a recovery can go on to its end
pub record Total (L : ClosedLayer) (M : Machine Env Bool) : Type 0 where
  pub recovers : (s : State Env) (how : Failure) (picks : Picks) (f : Env) → FailsBy M how s picks f →
      (wake : Picks) × (to : State Env) × (Layered L M).Wakes f wake to

module _ (L : ClosedLayer) (M : Machine Env Bool) (plain : IsPlain M) where
  abbrev zeros : Env
  zeros = zeros_of L.layer.memory

  abbrev vars : Env
  vars = zeros ++ []

  abbrev turns_of : Run
  turns_of = in_turn (map (run_of (eval_of L)) L.layer.recover.statements)

  abbrev asked : Dialogue
  asked = dialogue_of L L.layer.recover zeros []

  abbrev at_end : Point → Progress
  at_end = ended (eval_of L) L.layer.recover.answer vars

  reached : (told : List Answer) (s : State Env) (ts : List (WholeCall Env Bool)) (s' : State Env) → Walks M (turns_of vars) told s ts s' →
      Reaches M asked told s ts s'
  reached told s [] s' w = w
  reached told s (t ∷ ts) s' (w, call, rest) = (ap at_end w, call, reached (told ++ t.answer ∷ []) t.after ts s' rest)

  pub total : Answered L M → Total L M
  total ok = record { recovers = recovers }
    where
      recovers : (s : State Env) (how : Failure) (picks : Picks) (f : Env) → FailsBy M how s picks f →
          (wake : Picks) × (to : State Env) × (Layered L M).Wakes f wake to
      recovers s how picks f fails =
          let serve : Serve M (turns_of vars) (based f) = λ ts s' q w waits.
          let x = ok.answers s how picks f fails ts s' q (reached [] (based f) ts s' w) (ap at_end waits) in
          record { name = x.name; args = x.args; notes = x.notes; answer = x.answer; after = x.after; is = x.is; call = x.call } in
          let d = (statements_ending M (eval_of L) L.layer.recover.statements).finishes vars (based f) serve in
          let env' = take (length vars) d.env in
          let answer = answer_of (eval_of L) L.layer.recover.answer d.env in
          let run : BlockRuns L M L.layer.recover [] (on zeros (based f)) (notes_of d.calls) answer (on (take (length zeros) env') d.to) = record {
            memory = zeros;
            lower = based f;
            from_is = refl;
            env' = env';
            lower' = d.to;
            run = record { calls = d.calls; path = reached [] (based f) d.calls d.to d.path; ends = ap at_end d.ends; takes = refl };
            to_is = refl;
          } in (
            notes_of d.calls,
            on (take (length zeros) env') d.to,
            record { lower = based f; first = []; second = notes_of d.calls; wakes = plain.wakes_at_once f; next = (answer, run); takes = refl },
          )
