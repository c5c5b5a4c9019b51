-- A specification with picks from the front is one with a pick for each place.
use Rattle.std.proofs.Common.{◌≡◌, ◌+◌, ◌≤◌, ◌<◌, ℕ, suc, Bool, false, List, [], ◌∷◌, Option, Some, None, refl, ap, ◌∙◌, subst, arith}
use Rattle.ygg_value.specs.declared.row.Value.{Value}
use Rattle.ygg_syntax.specs.declared.tree.Operation.{Operation}
use Rattle.ygg_syntax.specs.declared.tree.Block.{Block}
use Rattle.ygg_sym_runs.specs.ygg_meaning.Environments.{Name, Env, bind}
use Rattle.ygg_sym_runs.specs.ygg_meaning.Progress.{Eval, Question, Choice, Call, Answer}
use Rattle.ygg_sym_runs.specs.ygg_meaning.Machine.{Picks, State, based}
use Rattle.ygg_sym_runs.specs.ygg_meaning.Layer.{ClosedLayer, operation_of}
use Rattle.ygg_sym_runs.specs.ygg_meaning_laws.Direct.{Handled, Event, direct_run, room_of, question_space, Chained, Within, Alike}
use Rattle.ygg_sym_runs.specs.ygg_meaning_laws.Places.{Draw, left_after, by_place, calling}
use Rattle.ygg_sym_runs.specs.ygg_meaning_laws.SpecActs.{spec_does, spec_acts}
use Rattle.ygg_sym_runs.specs.ygg_meaning_laws.RunPlaces.{spec_space}
use Rattle.ygg_sym_runs.specs.ygg_meaning_laws_proofs_Order.{block_follows}
use Rattle.ygg_sym_runs.specs.ygg_meaning_laws_proofs_Mirror.{block_mirrors}
use Rattle.ygg_sym_runs.specs.ygg_meaning_laws_proofs_Rooms.{room_is}
use Rattle.ygg_sym_runs.proofs.SpecMeans.{spec_ended, spec_at}
use Rattle.ygg_sym_runs.proofs.Gluing.{Slot, glue, glue_here, glue_later, reached, same_events}
use Rattle.ygg_sym_runs.proofs.Chosen.{Decided, room, backs}

module _ (past : Bool) (m : ClosedLayer) where
  abbrev D : Draw (State Env)
  D = calling (spec_acts past m)

  abbrev space : Name → ℕ
  space = spec_space m

  abbrev size : Question → ℕ
  size = question_space space

  abbrev places_in : Option Operation → ℕ
  places_in o = suc (elim o [ None ↦ 0 | Some o ↦ room o.spec ])

  -- a call does the same with these picks of its places
  abbrev Answered : Handled (State Env) → Handled (State Env) → Type 0
  Answered a b = (a.answer ≡ b.answer) × (a.to ≡ b.to)

  handled_at : (o : Option Operation) (xs : List Value) (z : State Env) (picks : Picks) →
      Decided (places_in o) (λ g. Answered (spec_ended m g o xs z)
      (record { answer = (spec_does past m z o xs picks).answer; to = (spec_does past m z o xs picks).to }))
  handled_at None xs z picks = record { bits = λ k. false; holds = λ g same. (refl, refl) }
  handled_at (Some o) xs z picks =
      let d = backs m past o.spec z.base (bind o.arguments xs) picks in
      record {
        bits = d.bits;
        holds = λ g same.
            let r = d.holds g (λ k l. same k (omega (arith, l))) in (r.1, ap (λ (e : Env). based e) r.0);
      }

  decided : (i : ℕ) (q : Question) (z : State Env) (picks : Picks) →
      Decided (size q) (λ g. (bits : ℕ → Bool) → ((k : ℕ) → k < size q → bits (i + k) ≡ g k) →
      Answered (spec_at m bits i q z) (record { answer = (D q z picks).answer; to = (D q z picks).to }))
  decided i Choice z picks = record { bits = λ k. false; holds = λ g same bits there. (refl, refl) }
  decided i (Call f xs) z picks =
      let d = handled_at (operation_of m f) xs z picks in
      record { bits = d.bits; holds = λ g same bits there. d.holds (λ k. bits (i + k)) (λ k l. there k l ∙ same k l) }

  abbrev slots : Picks → List (Event (State Env)) → List Slot
  slots picks [] = []
  slots picks (e ∷ es) =
      record { place = e.place; size = size e.question; bits = (decided e.place e.question e.before (left_after e.place picks)).bits } ∷ slots picks es

  abbrev handled : State Env → Answer → Handled (State Env)
  handled to answer = record { answer = answer; to = to }

  low_high : (es : List (Event (State Env))) (low high : ℕ) → Within size low es high → low ≤ high
  low_high [] low high w = w
  low_high (e ∷ es) low high w = let h = low_high es (e.place + size e.question) high w.1 in let l = w.0 in omega (arith, h, l)

  alike_joined : (picks : Picks) (g : ℕ → Bool) (es : List (Event (State Env))) (from to : State Env) (low high : ℕ) →
      Chained (by_place D picks) from es to → Within size low es high → ((k : ℕ) → low ≤ k → k < high → g k ≡ glue (slots picks es) k) →
      Alike (spec_at m g) (λ z. z) es
  alike_joined picks g [] from to low high c w h = tt
  alike_joined picks g (e ∷ es) from to low high c w h =
      let p = e.place in
      let n = size e.question in
      let d = decided p e.question e.before (left_after p picks) in
      let other = glue (slots picks es) in
      let above = w.0 in
      let enough = low_high es (p + n) high w.1 in
      let at = ap (λ z. by_place D picks p e.question z) c.0 ∙ c.1 in
      let here = d.holds d.bits (λ k l. refl) g (λ k l.
      let up : low ≤ p + k = omega (arith, above) in
      let below : p + k < high = omega (arith, l, enough) in
      h (p + k) up below ∙ glue_here p n k d.bits (other (p + k)) l) in
      let answer_is : (spec_at m g p e.question e.before).answer ≡ e.answer = here.0 ∙ ap (λ (x : Handled (State Env)). x.answer) at in
      let to_is : (spec_at m g p e.question e.before).to ≡ e.after = here.1 ∙ ap (λ (x : Handled (State Env)). x.to) at in (
        ap (handled (spec_at m g p e.question e.before).to) answer_is ∙ ap (λ z. handled z e.answer) to_is,
        alike_joined picks g es e.after to (p + n) high c.2 w.1 (λ k more less.
            let up : low ≤ k = omega (arith, above, more) in h k up less ∙ glue_later p n k d.bits (other k) more),
      )

  -- a run with some picks for each call is one with a pick for each place
  pub placed_back : (picks : Picks) (eval : Eval) (b : Block) (env : Env) (z : State Env) →
      Decided (room_of space b) (λ g. direct_run eval space (spec_at m g) b env z ≡ direct_run eval space (by_place D picks) b env z)
  placed_back picks eval b env z =
      let r = direct_run eval space (by_place D picks) b env z in
      let f = block_follows eval space (by_place D picks) b.statements 0 env z in
      let within = subst (λ n. Within size 0 r.events n) (room_is space eval (by_place D picks) b) f.within in
      record {
        bits = glue (slots picks r.events);
        holds = λ g same.
            block_mirrors eval space (by_place D picks) (spec_at m g) (λ s. s) b.statements 0 env z
            (alike_joined picks g r.events z r.to 0 (room_of space b) f.chained within (λ k up less. same k less))
            ∙ ap (reached r.env r.to) (same_events (spec_at m g) r.events);
      }
