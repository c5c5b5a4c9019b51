-- A layer that refines its specification is under it.
use Rattle.std.proofs.Common.{◌≡◌, Bool, true, false, ◌&&◌, IsTrue, List, [], ◌∷◌, length, Option, Some, None, ◌⊎◌, inl, inr, refl, sym, ap, ◌∙◌, subst}
use Rattle.std.specs.Str.{bytes_eq}
use Rattle.std.proofs.lemmas.Slice.Eq.{bytes_eq-Decides}
use Rattle.ygg_value.specs.declared.row.Value.{Value}
use Rattle.ygg_value.proofs.Equality.{both, same_is}
use Rattle.ygg_syntax.specs.declared.tree.Block.{Block}
use Rattle.ygg_syntax.specs.declared.tree.Operation.{Operation}
use Rattle.ygg_meaning.specs.Environments.{Name, Env, bind, same_env}
use Rattle.ygg_meaning.specs.Progress.{Answer}
use Rattle.ygg_meaning.specs.Machine.{Picks, State, based, on, TickName, Machine, memory_in}
use Rattle.ygg_meaning.specs.Runs.{answers_of, FallsAt}
use Rattle.ygg_meaning.specs.Layer.{ClosedLayer, Layered, BlockRuns, BlockFalls, dialogue_of}
use Rattle.ygg_meaning.specs.Shapes.{zeros_of, env_fits}
use Rattle.ygg_meaning.specs.Spec.{Outcome, chosen, call_outcome, fall_outcome, crash_outcome, start_outcome, Spec, SpecLoses}
use Rattle.ygg_meaning.specs.Refines.{Refines}
use Rattle.ygg_meaning.specs.Related.{related, settled}
use Rattle.ygg_meaning.specs.Obligations.{Obligation, call_picks, crash_picks, fall_picks, NoPicksPass}
use Rattle.ygg_meaning.specs.Violates.{Holds, related_after, answers_alike, same_answer, same_state}
use Rattle.ygg_meaning.specs.Under.{Under, Failure, InCall, InTick, Between, FailsBy, WakesAfter, Woken, Survives}
use Rattle.ygg_meaning.proofs.Listed.{of_init, of_operation_named, of_tick_named, of_idle, of_again}
use Rattle.ygg_meaning.proofs.Exact.{call_picks_exact, crash_picks_exact, fall_picks_exact, start_exact}
use Rattle.ygg_meaning.proofs.Plain.{IsBase, base_by, IsPlain, path_base}
use Rattle.ygg_meaning.proofs.Totals.{Total}
use Rattle.ygg_meaning.proofs.Monotone.{same_lower}
use Rattle.ygg_meaning.proofs.Search.{Passes, find_picks, reads_itself}

and_true : {a b : Bool} → a ≡ true → b ≡ true → (a && b) ≡ true
and_true {a} {b} x y = ap (λ z. z && b) x ∙ y

decided : (b : Bool) → (b ≡ true) ⊎ (b ≡ false)
decided true = inl refl
decided false = inr refl

-- tests that are passed by equal values alone

answer_is : (a b : Answer) → same_answer a b ≡ true → a ≡ b
answer_is None None h = refl
answer_is (Some a) (Some b) h = ap Some (same_is a b h)
answer_is None (Some b) h = absurd (cc)
answer_is (Some a) None h = absurd (cc)

env_is : (e f : Env) → same_env e f ≡ true → e ≡ f
env_is [] [] h = refl
env_is (a ∷ e) (b ∷ f) h =
    let (h1, tail) = both _ (same_env e f) h in
    let (name, value) = both (bytes_eq a.0 b.0) _ h1 in
    ap (λ n. (n, a.1) ∷ e) ((bytes_eq-Decides a.0 b.0).0 name) ∙ ap (λ v. (b.0, v) ∷ e) (same_is a.1 b.1 value) ∙ ap (λ r. b ∷ r) (env_is e f tail)
env_is [] (b ∷ f) h = absurd (cc)
env_is (a ∷ e) [] h = absurd (cc)

-- whether the base that power loss left is settled, and recovery has ended in a state that is related to the specification's
abbrev recovered : ClosedLayer → Env → State Env → Option Outcome → Bool
recovered L f to o = settled L f && related_after L to o

-- one memory on a base
abbrev IsFlat : State Env → Type 0
IsFlat s = s ≡ on (memory_in s) (based s.base)

flat_is : (s t : State Env) → IsFlat s → IsFlat t → same_state s t ≡ true → s ≡ t
flat_is s t f g h =
    let (m, b) = both (same_env (memory_in s) (memory_in t)) (same_env s.base t.base) h in
    f ∙ ap (λ x. on x (based s.base)) (env_is _ _ m) ∙ ap (λ x. on (memory_in t) (based x)) (env_is _ _ b) ∙ sym g

flat_by : (s : State Env) (m : Env) (l : State Env) → s ≡ on m l → IsBase l → IsFlat s
flat_by s m l e b = e ∙ ap (on m) b ∙ sym (ap (λ (x : State Env). on (memory_in x) (based x.base)) e)

module _ (L : ClosedLayer) (M : Machine Env Bool) (plain : IsPlain M) where
  abbrev Impl : Machine Env Bool
  Impl = Layered L M

  abbrev H : Obligation → Type 0
  H = Holds L M

  abbrev zeros : Env
  zeros = zeros_of L.layer.memory

  runs_flat : (b : Block) (args : Env) (m : Env) (l : State Env) (s : State Env) (picks : Picks) (y : Answer) (s' : State Env) → s ≡ on m l → IsBase l
      → BlockRuns L M b args s picks y s' → IsFlat s'
  runs_flat b args m l s picks y s' e base h =
      let lower_base = subst IsBase (same_lower m h.memory l h.lower (sym e ∙ h.from_is)) base in
      flat_by s' _ h.lower' h.to_is (path_base M plain (dialogue_of L b h.memory args) [] h.lower h.run.calls h.lower' lower_base h.run.path)

  wakes_flat : (f : Env) (picks : Picks) (s' : State Env) → Impl.Wakes f picks s' → IsFlat s'
  wakes_flat f picks s' w =
      runs_flat L.layer.recover [] zeros w.lower _ w.second w.next.0 s' refl (base_by w.lower f (plain.wakes f w.first w.lower w.wakes)) w.next.1

  woken_flat : (f : Env) (fs : List Env) (s' : State Env) → WakesAfter Impl f fs s' → IsFlat s'
  woken_flat f [] s' h = wakes_flat f h.0 s' h.1
  woken_flat f (f' ∷ fs) s' (q, falls, rest) = woken_flat f' fs s' rest

  -- where a block breaks off, power has failed on the machine below
  pub record Failed (f : Env) : Type 0 where
    pub at : State Env
    pub how : Failure
    pub picks : Picks
    pub fails : FailsBy M how at picks f

  failed_in : (b : Block) (args : Env) (s : State Env) (picks : Picks) (f : Env) → BlockFalls L M b args s picks f → Failed f
  failed_in b args s picks f h = by_within h.run.within h.run.falls
    where
      by_within : (within : Bool) → FallsAt within M (dialogue_of L b h.memory args) (answers_of h.run.calls) h.run.at h.run.last f → Failed f
      by_within true x = record { at = h.run.at; how = InCall x.name x.args; picks = h.run.last; fails = x.falls }
      by_within false x = record { at = h.run.at; how = Between; picks = h.run.last; fails = x }

  -- the specification's variables, the memory and the base are related
  pub record RelatedBy (t s : State Env) : Type 0 where
    pub vars : Env
    pub memory : Env
    pub low : Env
    pub upper_is : t ≡ based vars
    pub lower_is : s ≡ on memory (based low)
    pub here : IsTrue (related L vars memory low)

  -- related variables have their shapes
  vars_shaped : {t s : State Env} → (r : RelatedBy t s) → IsTrue (env_fits L.layer.state r.vars)
  vars_shaped r =
      let a = env_fits L.layer.state r.vars in
      let b = env_fits L.layer.memory r.memory in
      let c = env_fits L.low r.low in
      (both a b (both (a && b) c (both (a && b && c) _ r.here).0).0).0

  -- what a related outcome is
  pub record Reached (out : Option Outcome) (s' : State Env) : Type 0 where
    pub outcome : Outcome
    pub is : out ≡ Some outcome
    pub here : IsTrue (related L outcome.vars (memory_in s') s'.base)

  reached : (out : Option Outcome) (s' : State Env) → related_after L s' out ≡ true → Reached out s'
  reached None s' h = absurd (cc)
  reached (Some o) s' h = record { outcome = o; is = refl; here = h }

  related_to : (s' : State Env) (vars : Env) → IsFlat s' → IsTrue (related L vars (memory_in s') s'.base) → RelatedBy (based vars) s'
  related_to s' vars flat h = record { vars = vars; memory = memory_in s'; low = s'.base; upper_is = refl; lower_is = flat; here = h }

  module _ (ok : Refines L M) where
    call_under : (t s s' : State Env) (name : Name) (args : List Value) (picks : Picks) (answer : Answer) → RelatedBy t s →
        Impl.Calls s name args picks answer s' →
        (t' : State Env) × (picks' : Picks) × (Spec L).Calls t name args picks' answer t' × RelatedBy t' s'
    call_under t s s' name args picks answer r h =
        by_search (find_picks (call_picks h.operation) (λ p. answers_alike answer (outcome p) && related_after L s' (outcome p)))
      where
        outcome : Picks → Option Outcome
        outcome p = call_outcome L h.operation r.vars args (chosen p)

        flat : IsFlat s'
        flat = runs_flat _ _ r.memory (based r.low) s picks answer s' r.lower_is refl h.step

        by_outcome : (p : Picks) (out : Option Outcome) → call_outcome L h.operation r.vars args (chosen p) ≡ out → answers_alike answer out ≡ true →
            related_after L s' out ≡ true →
            (t' : State Env) × (picks' : Picks) × (Spec L).Calls t name args picks' answer t' × RelatedBy t' s'
        by_outcome p None e alike after = absurd (cc)
        by_outcome p (Some o) e alike after =
            let (before, gives) = call_picks_exact L h.operation r.vars args p o e in (
              based o.vars,
              before,
              record {
                operation = h.operation;
                is = h.is;
                fit = h.fit;
                vars = r.vars;
                from_is = r.upper_is;
                shaped = vars_shaped r;
                vars' = o.vars;
                gives = gives ∙ ap (λ y. Some (record { vars = o.vars; answer = y; left = [] })) (sym (answer_is answer o.answer alike));
                to_is = refl;
              },
              related_to s' o.vars flat after,
            )

        by_search : Passes (call_picks h.operation) (λ p. answers_alike answer (outcome p) && related_after L s' (outcome p))
            ⊎ NoPicksPass (call_picks h.operation) (λ p. answers_alike answer (outcome p) && related_after L s' (outcome p)) →
            (t' : State Env) × (picks' : Picks) × (Spec L).Calls t name args picks' answer t' × RelatedBy t' s'
        by_search (inl x) = let (alike, after) = both _ _ x.yes in by_outcome x.picks _ refl alike after
        by_search (inr none) =
            let run = subst (λ x. BlockRuns L M h.operation.implementation (bind h.operation.arguments args) x picks answer s') r.lower_is h.step in
            let before = both _ _ r.here in
            absurd ((of_operation_named H L.layer ok name h.operation h.is).0
            (record { state = r.vars; memory = r.memory; low = r.low; args = args; stop = None; picks = picks; wake = []; other = [] })
            (record {
              end = record { answer = answer; to = s'; side = true };
              meets = record {
                shapes = and_true before.0 h.fit;
                hypotheses = before.1;
                reached =
                    record { taken = picks; run = run; read = reads_itself picks };
              };
              fails = none;
            }))

    start_under : (s : State Env) (picks : Picks) → Impl.Starts s picks → (t : State Env) × (picks' : Picks) × (Spec L).Starts t picks' × RelatedBy t s
    start_under s picks h = by_test (decided (related_after L s (start_outcome L)))
      where
        flat : IsFlat s
        flat = runs_flat L.layer.format [] zeros h.lower _ h.second h.answer s refl (plain.starts h.lower h.first h.starts) h.formats

        by_test : (related_after L s (start_outcome L) ≡ true) ⊎ (related_after L s (start_outcome L) ≡ false) →
            (t : State Env) × (picks' : Picks) × (Spec L).Starts t picks' × RelatedBy t s
        by_test (inl passed) =
            let x = reached _ s passed in (
              based x.outcome.vars,
              [],
              (refl, record { vars = x.outcome.vars; answer = x.outcome.answer; gives = start_exact L x.outcome x.is; to_is = refl }),
              related_to s x.outcome.vars flat x.here,
            )
        by_test (inr failed) = absurd (of_init H L.layer ok
            (record { state = []; memory = []; low = []; args = []; stop = None; picks = picks; wake = []; other = [] })
            (record {
              end = record { answer = None; to = s; side = true };
              meets = record { shapes = refl; hypotheses = refl; reached = record { taken = picks; run = h; read = reads_itself picks } };
              fails = λ p l. failed;
            }))

    tick_under : (t s s' : State Env) (name : TickName) (picks : Picks) → RelatedBy t s → Impl.Ticks s name picks s' →
        (t' : State Env) × (picks' : Picks) × (Spec L).Ticks t name picks' t' × RelatedBy t' s'
    tick_under t s s' name picks r (inl x) = by_test (decided (related L r.vars (memory_in s') s'.base))
      where
        flat : IsFlat s'
        flat = runs_flat _ _ r.memory (based r.low) s picks x.step.0 s' r.lower_is refl x.step.1

        by_test : (related L r.vars (memory_in s') s'.base ≡ true) ⊎ (related L r.vars (memory_in s') s'.base ≡ false) →
            (t' : State Env) × (picks' : Picks) × (Spec L).Ticks t name picks' t' × RelatedBy t' s'
        by_test (inl passed) = (
          t,
          [],
          (refl, refl),
          record {
            vars = r.vars;
            memory = memory_in s';
            low = s'.base;
            upper_is = r.upper_is;
            lower_is =
                flat;
            here = passed;
          },
        )
        by_test (inr failed) =
            let run = subst (λ z. BlockRuns L M x.tick.body [] z picks x.step.0 s') r.lower_is x.step.1 in
            let before = both _ _ r.here in
            absurd ((of_tick_named H L.layer ok name.name x.tick x.is).0
            (record { state = r.vars; memory = r.memory; low = r.low; args = []; stop = None; picks = picks; wake = []; other = [] })
            (record {
              end = record { answer = x.step.0; to = s'; side = true };
              meets = record { shapes = before.0; hypotheses = before.1; reached = record { taken = picks; run = run; read = reads_itself picks } };
              fails = λ p l. failed;
            }))
    tick_under t s s' name picks r (inr x) = (
      t,
      [],
      (refl, refl),
      record {
        vars = r.vars;
        memory = r.memory;
        low = r.low;
        upper_is = r.upper_is;
        lower_is = x.to_is ∙ ap (λ l. on x.memory l) (plain.ticks x.lower name picks x.lower' x.step) ∙ sym x.from_is ∙ r.lower_is;
        here = r.here;
      },
    )

    -- two recoveries end alike, from a settled base and after power failed in a recovery from it
    pub record Alike (f : Env) (s t : State Env) : Type 0 where
      pub settles : settled L f ≡ true
      pub same : s ≡ t

    alike : (f f' : Env) (taken : Picks) (wake : Picks) (to : State Env) (other : Picks) (y : Answer) (to' : State Env) → settled L f ≡ true →
        BlockFalls L M L.layer.recover [] (on zeros (based f)) taken f' → Impl.Wakes f' wake to →
        BlockRuns L M L.layer.recover [] (on zeros (based f)) other y to' → Alike f' to to'
    alike f f' taken wake to other y to' settles broken run again = by_test (decided (settled L f' && same_state to to'))
      where
        by_test : ((settled L f' && same_state to to') ≡ true) ⊎ ((settled L f' && same_state to to') ≡ false) → Alike f' to to'
        by_test (inl passed) =
            let (a, b) = both _ _ passed in
            record {
              settles = a;
              same = flat_is to to' (wakes_flat f' wake to run)
                  (runs_flat L.layer.recover [] zeros (based f) _ other y to' refl refl again) b;
            }
        by_test (inr failed) =
            let before = both _ _ settles in
            absurd (of_again H L.layer ok
            (record {
              state = [];
              memory = [];
              low = f;
              args = [];
              stop =
                  Some (record { within = broken.run.within; event = length broken.run.calls });
              picks = taken;
              wake = wake;
              other = other;
            })
            (record {
              end = record { answer = None; to = to; side = settled L f' && same_state to to' };
              meets = record {
                shapes = before.0;
                hypotheses = before.1;
                reached = record {
                  fallen = f';
                  falls = record { taken = taken; run = broken; stop = (refl, refl); read = reads_itself taken };
                  recovers = record { taken = wake; run = run; read = reads_itself wake };
                  taken = other;
                  answer = y;
                  to = to';
                  run = again;
                  read = reads_itself other;
                  side = refl;
                };
              };
              fails = λ p l. failed;
            }))

    module _ (total : Total L M) where
      -- a whole recovery ends as one does after any number of recoveries in which power failed
      one_recovery : (fs : List Env) (f : Env) (x : Failed f) (s' : State Env) → settled L f ≡ true → WakesAfter Impl f fs s' → (wake : Picks)
          × Impl.Wakes f wake s'
      one_recovery [] f x s' settles h = h
      one_recovery (f' ∷ fs) f x s' settles (q, inl falls, rest) = absurd (plain.no_wake_falls f q f' falls)
      one_recovery (f' ∷ fs) f x s' settles (q, inr w, rest) =
          let broken = subst (λ l. BlockFalls L M L.layer.recover [] (on zeros l) w.second f') (plain.wakes f w.first w.lower w.wakes) w.next in
          let x' = failed_in _ _ _ _ f' broken in
          let (wake1, to1, run1) = total.recovers x.at x.how x.picks f x.fails in
          let again = subst (λ l. BlockRuns L M L.layer.recover [] (on zeros l) run1.second run1.next.0 to1)
          (plain.wakes f run1.first run1.lower run1.wakes) run1.next.1 in
          let (wake2, to2, run2) = total.recovers x'.at x'.how x'.picks f' x'.fails in
          let first = alike f f' w.second wake2 to2 run1.second run1.next.0 to1 settles broken run2 again in
          let (wake3, run3) = one_recovery fs f' x' s' first.settles rest in
          let second = alike f f' w.second wake3 s' run1.second run1.next.0 to1 settles broken run3 again in
          (wake1, subst (λ z. Impl.Wakes f wake1 z) (sym second.same) run1)

      -- the specification can follow a failure if it can follow each one recovery after it
      follows : (f : Env) (x : Failed f) (s' : State Env) (out : Picks → Option Outcome) →
          ((wake : Picks) (to : State Env) → Impl.Wakes f wake to → (p : Picks) × (recovered L f to (out p) ≡ true)) → Woken Impl f s' →
          (p : Picks) × Reached (out p) s'
      follows f x s' out each (fs, woken) =
          let (wake0, to0, run0) = total.recovers x.at x.how x.picks f x.fails in
          let (p0, passed0) = each wake0 to0 run0 in
          let (wake, run) = one_recovery fs f x s' (both (settled L f) _ passed0).0 woken in
          let (p, passed) = each wake s' run in
          (p, reached (out p) s' (both (settled L f) _ passed).1)

      -- power failed within a block of the layer, or while the layer did nothing

      cut_under : (t s s' : State Env) (name : Name) (args : List Value) (h : Survives Impl (InCall name args) s s') → RelatedBy t s →
          (t' : State Env) × Survives (Spec L) (InCall name args) t t' × RelatedBy t' s'
      cut_under t s s' name args h r =
          let (p, x) = follows h.fallen (failed_in _ _ _ _ h.fallen h.fails.step) s' outcome each h.woken in
          let (before, gives) = fall_picks_exact L op r.vars args p x.outcome x.is in (
            based x.outcome.vars,
            record {
              notes = before;
              fallen = x.outcome.vars;
              fails = record {
                operation = op;
                is = h.fails.is;
                fit = h.fails.fit;
                vars = r.vars;
                from_is = r.upper_is;
                shaped = vars_shaped r;
                answer = x.outcome.answer;
                gives = gives;
              };
              woken = ([], ([], (refl, refl)));
            },
            related_to s' x.outcome.vars (woken_flat h.fallen h.woken.0 s' h.woken.1) x.here,
          )
        where
          op : Operation
          op = h.fails.operation

          outcome : Picks → Option Outcome
          outcome p = fall_outcome L op r.vars args p

          broken : BlockFalls L M op.implementation (bind op.arguments args) (on r.memory (based r.low)) h.notes h.fallen
          broken = subst (λ z. BlockFalls L M op.implementation (bind op.arguments args) z h.notes h.fallen) r.lower_is h.fails.step

          each : (wake : Picks) (to : State Env) → Impl.Wakes h.fallen wake to → (p : Picks) × (recovered L h.fallen to (outcome p) ≡ true)
          each wake to run = by_search (find_picks (fall_picks L.layer op) (λ p. recovered L h.fallen to (outcome p)))
            where
              by_search : Passes (fall_picks L.layer op) (λ p. recovered L h.fallen to (outcome p))
                  ⊎ NoPicksPass (fall_picks L.layer op) (λ p. recovered L h.fallen to (outcome p)) →
                  (p : Picks) × (recovered L h.fallen to (outcome p) ≡ true)
              by_search (inl found) = (found.picks, found.yes)
              by_search (inr none) =
                  let before = both _ _ r.here in
                  absurd ((of_operation_named H L.layer ok name op h.fails.is).1
                  (record {
                    state = r.vars;
                    memory = r.memory;
                    low = r.low;
                    args = args;
                    stop =
                        Some (record { within = broken.run.within; event = length broken.run.calls });
                    picks = h.notes;
                    wake = wake;
                    other = [];
                  })
                  (record {
                    end = record { answer = None; to = to; side = settled L h.fallen };
                    meets = record {
                      shapes = and_true before.0 h.fails.fit;
                      hypotheses = before.1;
                      reached = record {
                        fallen = h.fallen;
                        falls = record { taken = h.notes; run = broken; stop = (refl, refl); read = reads_itself h.notes };
                        recovers = record { taken = wake; run = run; read = reads_itself wake };
                        side = refl;
                      };
                    };
                    fails = none;
                  }))

      -- the same where the specification's own failure is the loss of power between calls
      lost_under : (t s s' : State Env) (f : Env) (x : Failed f) (r : RelatedBy t s) →
          ((wake : Picks) (to : State Env) → Impl.Wakes f wake to →
          ¬ (NoPicksPass (crash_picks L.layer) (λ p. recovered L f to (crash_outcome L r.vars (chosen p))))) → Woken Impl f s' →
          (fallen : Env) × (picks : Picks) × SpecLoses L t picks fallen × RelatedBy (based fallen) s'
      lost_under t s s' f x r held woken =
          let (p, y) = follows f x s' (λ p. crash_outcome L r.vars (chosen p)) each woken in
          let (before, gives) = crash_picks_exact L r.vars p y.outcome y.is in (
            y.outcome.vars,
            before,
            record { vars = r.vars; from_is = r.upper_is; shaped = vars_shaped r; answer = y.outcome.answer; gives = gives },
            related_to s' y.outcome.vars (woken_flat f woken.0 s' woken.1) y.here,
          )
        where
          each : (wake : Picks) (to : State Env) → Impl.Wakes f wake to → (p : Picks) × (recovered L f to (crash_outcome L r.vars (chosen p)) ≡ true)
          each wake to run = by_search (find_picks (crash_picks L.layer) (λ p. recovered L f to (crash_outcome L r.vars (chosen p))))
            where
              by_search : Passes (crash_picks L.layer) (λ p. recovered L f to (crash_outcome L r.vars (chosen p)))
                  ⊎ NoPicksPass (crash_picks L.layer) (λ p. recovered L f to (crash_outcome L r.vars (chosen p))) →
                  (p : Picks) × (recovered L f to (crash_outcome L r.vars (chosen p)) ≡ true)
              by_search (inl found) = (found.picks, found.yes)
              by_search (inr none) = absurd (held wake to run none)

      idle_held : (t s : State Env) (r : RelatedBy t s) (f : Env) (picks : Picks) → M.Loses (based r.low) picks f → (wake : Picks) (to : State Env) →
          Impl.Wakes f wake to →
          ¬ (NoPicksPass (crash_picks L.layer) (λ p. recovered L f to (crash_outcome L r.vars (chosen p))))
      idle_held t s r f picks h wake to run none =
          let before = both _ _ r.here in
          of_idle H L.layer ok
          (record { state = r.vars; memory = r.memory; low = r.low; args = []; stop = None; picks = picks; wake = wake; other = [] })
          (record {
            end = record { answer = None; to = to; side = settled L f };
            meets = record {
              shapes = before.0;
              hypotheses = before.1;
              reached = record {
                fallen = f;
                falls = record { taken = picks; run = h; read = reads_itself picks };
                recovers = record { taken = wake; run = run; read = reads_itself wake };
                side = refl;
              };
            };
            fails = none;
          })

      survive_under : (how : Failure) (t s s' : State Env) → RelatedBy t s → Survives Impl how s s' → (t' : State Env) × Survives (Spec L) how t t'
          × RelatedBy t' s'
      survive_under (InCall name args) t s s' r h = cut_under t s s' name args h r
      survive_under (InTick name) t s s' r h = by_case h.fails
        where
          by_case : Impl.TickFalls s name h.notes h.fallen → (t' : State Env) × Survives (Spec L) (InTick name) t t' × RelatedBy t' s'
          by_case (inl x) =
              let broken = subst (λ z. BlockFalls L M x.tick.body [] z h.notes h.fallen) r.lower_is x.step in
              let (fallen, picks, loses, r') = lost_under t s s' h.fallen (failed_in _ _ _ _ h.fallen x.step) r
              (λ wake to run none. (of_tick_named H L.layer ok name.name x.tick x.is).1
              (record {
                state = r.vars;
                memory = r.memory;
                low = r.low;
                args = [];
                stop =
                    Some (record { within = broken.run.within; event = length broken.run.calls });
                picks = h.notes;
                wake = wake;
                other = [];
              })
              (record {
                end = record { answer = None; to = to; side = settled L h.fallen };
                meets = record {
                  shapes = (both _ _ r.here).0;
                  hypotheses = (both _ _ r.here).1;
                  reached = record {
                    fallen = h.fallen;
                    falls = record { taken = h.notes; run = broken; stop = (refl, refl); read = reads_itself h.notes };
                    recovers = record { taken = wake; run = run; read = reads_itself wake };
                    side = refl;
                  };
                };
                fails = none;
              })) h.woken in
              (based fallen, record { notes = picks; fallen = fallen; fails = loses; woken = ([], ([], (refl, refl))) }, r')
          by_case (inr x) =
              let lower_is = same_lower x.memory r.memory x.lower (based r.low) (sym x.from_is ∙ r.lower_is) in
              let loses = plain.tick_loses (based r.low) name h.notes h.fallen (subst (λ l. M.TickFalls l name h.notes h.fallen) lower_is x.falls) in
              let (fallen, picks, spec, r') = lost_under t s s' h.fallen (record { at = based r.low; how = Between; picks = h.notes; fails = loses }) r
              (idle_held t s r h.fallen h.notes loses) h.woken in
              (based fallen, record { notes = picks; fallen = fallen; fails = spec; woken = ([], ([], (refl, refl))) }, r')
      survive_under Between t s s' r h =
          let x = h.fails in
          let lower_is = same_lower x.memory r.memory x.lower (based r.low) (sym x.from_is ∙ r.lower_is) in
          let loses = subst (λ l. M.Loses l h.notes h.fallen) lower_is x.falls in
          let (fallen, picks, spec, r') = lost_under t s s' h.fallen (record { at = based r.low; how = Between; picks = h.notes; fails = loses }) r
          (idle_held t s r h.fallen h.notes loses) h.woken in
          (based fallen, record { notes = picks; fallen = fallen; fails = spec; woken = ([], ([], (refl, refl))) }, r')

      pub refines_under : Under Impl (Spec L) RelatedBy
      refines_under = record {
        starts = start_under;
        calls = call_under;
        ticks = tick_under;
        survives = λ t s s' how r h. survive_under how t s s' r h;
      }
