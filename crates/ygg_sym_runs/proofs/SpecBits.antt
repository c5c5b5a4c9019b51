-- Runs of blocks on a specification with a pick for each place are its runs, whole and cut by power, and the other way round.
use Rattle.std.proofs.Common.{◌≡◌, ◌≤◌, ◌+◌, ◌*◌, ℕ, Bool, true, false, [], ◌++◌, take, length, Some, refl, sym, ap, ◌∙◌, subst, arith}
use Rattle.std.proofs.lemmas.List.{append-nil, length-append}
use Rattle.ygg_syntax.specs.declared.tree.Block.{Block}
use Rattle.ygg_sym_runs.specs.ygg_type_rules.Names.{Named}
use Rattle.ygg_sym_runs.specs.ygg_type_rules.declared.scope.Signature.{Signature}
use Rattle.ygg_sym_runs.specs.ygg_meaning.Environments.{Env}
use Rattle.ygg_sym_runs.specs.ygg_meaning.Shapes.{env_fits}
use Rattle.ygg_sym_runs.specs.ygg_meaning.Progress.{Question, Choice, Call, Answer, answer_of}
use Rattle.ygg_sym_runs.specs.ygg_meaning.Machine.{Picks, State, on, based}
use Rattle.ygg_sym_runs.specs.ygg_meaning.Layer.{ClosedLayer, eval_of, BlockRuns, BlockFalls}
use Rattle.ygg_sym_runs.specs.ygg_meaning.Obligations.{Halt}
use Rattle.ygg_sym_runs.specs.ygg_meaning.Spec.{Spec}
use Rattle.ygg_sym_runs.specs.ygg_meaning_laws.Machines.{IsStateOf, SpecAnswers}
use Rattle.ygg_sym_runs.specs.ygg_meaning_laws.Direct.{Reached, Within, direct_run, question_space, room_of}
use Rattle.ygg_sym_runs.specs.ygg_meaning_laws.Acts.{Taken, Did, Acts, noted_picks, runs, falls_in}
use Rattle.ygg_sym_runs.specs.ygg_meaning_laws.Places.{by_place, calling}
use Rattle.ygg_sym_runs.specs.ygg_meaning_laws.SpecActs.{spec_acts}
use Rattle.ygg_sym_runs.specs.ygg_meaning_laws.DirectLaws.{IsTypedBlock, Sees}
use Rattle.ygg_sym_runs.specs.ygg_meaning_laws.RunPlaces.{Finish, finish_of, spec_space, placed_run, runs_by_place}
use Rattle.ygg_sym_runs.specs.ygg_meaning_laws.RunPlaces.{falls_by_place, base_at, asked_in, base_of, cut_by}
use Rattle.ygg_sym_runs.proofs.of_ygg_meaning_laws.Agreed.{runs_unique, falls_unique}
use Rattle.ygg_sym_runs.proofs.of_ygg_meaning_laws.FallPlacing.{falls_by_place_on_spec}
use Rattle.ygg_sym_runs.specs.ygg_meaning_laws_proofs_Order.{block_follows}
use Rattle.ygg_sym_runs.specs.ygg_meaning_laws_proofs_Placing.{taken_self}
use Rattle.ygg_sym_runs.specs.ygg_meaning_laws_proofs_Rooms.{room_is}
use Rattle.ygg_sym_runs.specs.ygg_meaning_laws_proofs_RunPlacing.{runs_by_place_on_spec}
use Rattle.ygg_sym_runs.proofs.of_ygg_meaning_laws.SpecActed.{spec_acted}
use Rattle.ygg_sym_runs.proofs.of_ygg_meaning_laws.DirectTyped.{direct_on_spec}
use Rattle.ygg_sym_runs.specs.SpecCuts.{fall_room}
use Rattle.ygg_sym_runs.specs.Stops.{halt, first_stop}
use Rattle.ygg_sym_runs.specs.Wholes.{picks_from}
use Rattle.ygg_sym_runs.proofs.Chosen.{Decided}
use Rattle.ygg_sym_runs.proofs.Gluing.{draws, glued}
use Rattle.ygg_sym_runs.proofs.GluedBack.{placed_back}
use Rattle.ygg_sym_runs.proofs.FallsOnDisk.{left_of_run}
use Rattle.ygg_sym_runs.proofs.Placed.{same_run}
use Rattle.ygg_sym_runs.proofs.SameStops.{first_stop_same}
use Rattle.ygg_sym_runs.proofs.SpecFalls.{cut_end, lose_end, base_front, base_back}
use Rattle.ygg_sym_runs.proofs.SpecMeans.{spec_at}
use Rattle.ygg_sym_runs.proofs.Stopping.{stops_whole}
use Rattle.ygg_sym_runs.proofs.WholeRuns.{take_less}

-- each question has a place
pub spec_asks_one : (m : ClosedLayer) (q : Question) → 1 ≤ question_space (spec_space m) q
spec_asks_one m Choice = omega arith
spec_asks_one m (Call f args) = omega arith

all_taken : (past : Bool) (taken : Picks) → Taken past taken taken []
all_taken past taken = subst (λ ps. Taken past taken ps []) (append-nil taken) (taken_self past taken [])

module _ (m L : ClosedLayer) (b : Block) (memory given low : Env) where
  -- the run with these picks of places
  abbrev pub run_at : (ℕ → Bool) → Reached (State Env)
  run_at bits = direct_run (eval_of L) (spec_space m) (spec_at m bits) b (memory ++ given) (based low)

  -- its answer, and the state after it
  abbrev pub answer_at : Reached (State Env) → Answer
  answer_at r = answer_of (eval_of L) b.answer r.env

  abbrev pub to_at : Reached (State Env) → State Env
  to_at r = on (take (length memory) r.env) r.to

  abbrev start : State Env
  start = on memory (based low)

  abbrev F : Acts Env Bool
  F = spec_acts false m

  abbrev many : ℕ
  many = room_of (spec_space m) b

  kept : (env : Env) → take (length memory) (take (length (memory ++ given)) env) ≡ take (length memory) env
  kept env = let e = length-append memory given in take_less (length memory) (length (memory ++ given)) env (omega (arith, e))

  abbrev placed : Picks → Reached (State Env)
  placed picks = placed_run (spec_space m) F L b given start picks

  abbrev finish : Reached (State Env) → Finish Env
  finish r = record { answer = answer_at r; to = to_at r }

  ends_so : (picks : Picks) → runs_by_place (spec_space m) F L b given start picks ≡ finish (placed picks)
  ends_so picks =
      let r = placed picks in
      ap (λ (e : Env). let f : Finish Env = record { answer = answer_at r; to = on e r.to } in f) (kept r.env)

  -- the run with picks of places is one with some picks for each call
  record Front (bits : ℕ → Bool) : Type 0 where
    places : Picks
    is : placed places ≡ run_at bits

  front : (bits : ℕ → Bool) → Front bits
  front bits =
      let g = glued false m bits (eval_of L) b (memory ++ given) (based low) in
      let s = same_run false (spec_space m) (calling F) (draws false m) g.other (eval_of L) b (memory ++ given) (based low) in
      record { places = picks_from g.other 0 many; is = s.all ∙ g.all }

  -- whatever whole run there is, the run with some picks of places ends as it does
  pub run_back : (taken : Picks) (answer : Answer) (to : State Env) → BlockRuns L (Spec m) b given start taken answer to →
      Decided many (λ g. (answer_at (run_at g) ≡ answer) × (to_at (run_at g) ≡ to))
  run_back taken answer to run =
      let e = runs_unique false noted_picks (Spec m) F L b given (spec_acted false m).calls start taken [] answer to taken
      (record { run = run; took = all_taken false taken }) in
      let p = (runs_by_place_on_spec false m L b given start).place taken in
      let ends : finish (placed p.0) ≡ record { answer = answer; to = to } =
      sym (ends_so p.0) ∙ p.1 ∙ ap (λ (d : Did Env Bool). finish_of d) e in
      let d = placed_back false m p.0 (eval_of L) b (memory ++ given) (based low) in
      record {
        bits = d.bits;
        holds = λ g same.
            let f = ap finish (d.holds g same) ∙ ends in (ap (λ (x : Finish Env). x.answer) f, ap (λ (x : Finish Env). x.to) f);
      }

  -- a run that power cuts, with picks of places: where it stops, and the picks of the run, the stops and the picks of the failure
  pub record FallBack (fallen : Env) : Type 0 where
    pub reached : Reached (State Env)
    pub stop : Halt
    pub run : Decided many (λ g. run_at g ≡ reached)
    pub stops : Decided (2 * many + 1) (λ g. first_stop g reached.events many ≡ Some stop)
    pub last : Decided (fall_room m) (λ g. base_at (cut_end m g) (lose_end m g) stop.within (asked_in reached.events) stop.event reached.to ≡ Some fallen)

  -- whatever power leaves that fails, it leaves it in the run with some picks of places at some stop
  pub fall_back : (taken : Picks) (fallen : Env) → BlockFalls L (Spec m) b given start taken fallen → FallBack fallen
  fall_back taken fallen run =
      let stop : Halt = halt run.run.within (length run.run.calls) in
      let e = falls_unique false noted_picks (Spec m) F L b given (spec_acted false m) start stop taken [] fallen taken
      (record { run = run; within = refl; event = refl; took = all_taken false taken }) in
      let p = (falls_by_place_on_spec false m L b given start).place stop taken in
      let last = p.1 in
      let r = placed p.0 in
      let left : base_at (cut_by F last) (λ s. (F.loses s last).base) stop.within (asked_in r.events) stop.event r.to ≡ Some fallen =
      p.2 ∙ ap base_of e in
      let f = block_follows (eval_of L) (spec_space m) (by_place (calling F) p.0) b.statements 0 (memory ++ given) (based low) in
      let size = question_space (spec_space m) in
      let within = subst (λ n. Within size 0 r.events n) (room_is (spec_space m) (eval_of L) (by_place (calling F) p.0) b) f.within in
      let s = stops_whole (State Env) Env (cut_by F last) (λ s. (F.loses s last).base) size r.events r.to 0 many stop.within stop.event fallen
      (spec_asks_one m) within left in
      let d = base_back m false last stop.within (asked_in r.events) stop.event r.to in
      record {
        reached = r;
        stop = stop;
        run = placed_back false m p.0 (eval_of L) b (memory ++ given) (based low);
        stops = record { bits = s.0; holds = λ g same. first_stop_same size (spec_asks_one m) g s.0 r.events 0 many within same ∙ s.1 };
        last = record { bits = d.bits; holds = λ g same. d.holds g same ∙ left };
      }

  -- for a typed block over variables of the declared shapes
  module _ (operations : Named Signature) (answers : SpecAnswers m) (sees : Sees m operations) (typed : IsTypedBlock L operations b (memory ++ given))
      (shaped : env_fits m.layer.state low ≡ true) where
    good : IsStateOf m (based low)
    good = record { vars = low; is = refl; shaped = shaped }

    -- the run with picks of places is a run
    pub run_sound : (bits : ℕ → Bool) →
        (taken : Picks) × BlockRuns L (Spec m) b given start taken (answer_at (run_at bits)) (to_at (run_at bits))
    run_sound bits =
        let p = front bits in
        let same = (runs_by_place_on_spec false m L b given start).front p.places in
        let did = runs F L b given start same.0 in
        let ended : finish_of did ≡ finish (run_at bits) = same.1 ∙ ends_so p.places ∙ ap finish p.is in
        let direct = direct_on_spec false m L operations b given memory (based low) answers sees typed good in
        let so = direct.0 same.0 did.left did.answer did.to did.notes in
        let concrete = so.1 refl in (
          did.notes,
          subst (λ (f : Finish Env). BlockRuns L (Spec m) b given start did.notes f.answer f.to) ended concrete.run,
        )

    -- and what a stop leaves, power may leave
    pub fall_sound : (bits last : ℕ → Bool) (stop : Halt) (fallen : Env) →
        base_at (cut_end m last) (lose_end m last) stop.within (asked_in (run_at bits).events) stop.event (run_at bits).to ≡ Some fallen →
        (taken : Picks) × BlockFalls L (Spec m) b given start taken fallen
    fall_sound bits last stop fallen left =
        let p = front bits in
        let r = run_at bits in
        let c = base_front m false last stop.within (asked_in r.events) stop.event r.to in
        let placed_left : falls_by_place (spec_space m) F L b given start stop p.places c.0 ≡ Some fallen =
        ap (λ (x : Reached (State Env)). base_at (cut_by F c.0) (λ s. (F.loses s c.0).base) stop.within (asked_in x.events) stop.event x.to) p.is
        ∙ c.1 ∙ left in
        let same = (falls_by_place_on_spec false m L b given start).front stop p.places c.0 in
        let f = left_of_run (falls_in F L b given start stop same.0) fallen (same.1 ∙ placed_left) in
        let fell = f.fell in
        let direct = direct_on_spec false m L operations b given memory (based low) answers sees typed good in
        let so = direct.1 stop same.0 fell.left fell.base fell.notes in
        let concrete = so.1 f.is in
        (fell.notes, subst (λ x. BlockFalls L (Spec m) b given start fell.notes x) f.same concrete.run)
