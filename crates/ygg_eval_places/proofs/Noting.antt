-- A run on the machine that notes is the run by place, with the picks that it takes and where power fails.
use Rattle.std.proofs.Common.{
  ◌≡◌,
  ◌+◌,
  ℕ,
  suc,
  Bool,
  true,
  false,
  if◌then◌else◌,
  List,
  [],
  ◌∷◌,
  ◌++◌,
  map,
  Option,
  Some,
  None,
  refl,
  sym,
  ap,
  ◌∙◌,
  subst,
  append_assoc,
  arith,
}
use Rattle.std.proofs.lemmas.List.{append-nil}
use Rattle.ygg_syntax.specs.declared.tree.Block.{Block}
use Rattle.ygg_eval.specs.ygg_meaning.Environments.{Name, Env}
use Rattle.ygg_eval.specs.ygg_meaning.Machine.{State}
use Rattle.ygg_eval.specs.ygg_meaning.Obligations.{Halt}
use Rattle.ygg_eval.specs.ygg_meaning.Progress.{Eval, Question}
use Rattle.ygg_eval.specs.ygg_meaning.Refines.{Below}
use Rattle.ygg_eval.specs.ygg_meaning_laws.Direct.{Handled, Event, Reached, Chained, Alike, seen, seen_run, direct_run}
use Rattle.ygg_eval.specs.ygg_meaning_laws.RunPlaces.{base_at, asked_in}
use Rattle.ygg_eval.specs.ygg_meaning_laws_proofs_Mirror.{block_mirrors}
use Rattle.ygg_eval.specs.ygg_meaning_laws_proofs_Order.{block_follows}
use Rattle.ygg_eval_places.specs.ygg_sym_runs.Stops.{before_at, within_at, halt, further, first_stop}
use Rattle.ygg_eval_places.specs.ygg_sym_laws.Fronts.{handle_on, takes_on, cut_on, cut_takes_on, lose_on, lose_takes_on, stopped_picks}
use Rattle.ygg_eval_places.specs.ygg_sym_laws.Taking.{picks_of}
use Rattle.ygg_eval_places.specs.Belows.{Cut, Noted, falls_there, falls_before, falls_by, first_of, notes_below, fallen_at_end}

module _ (G : Below) (bits stops last : ℕ → Bool) where
  abbrev H : ℕ → Question → State Env → Handled (State Env)
  H = handle_on G bits

  abbrev N : ℕ → Question → Noted → Handled Noted
  N = notes_below G bits stops last

  abbrev bare : Noted → State Env
  bare z = z.at

  abbrev plain : Event Noted → Event (State Env)
  plain = seen H bare

  -- the machine without notes answers alike
  alike : (es : List (Event Noted)) (from to : Noted) → Chained N from es to → Alike H bare es
  alike [] from to c = tt
  alike (e ∷ es) from to c = (
    ap (λ z. H e.place e.question z) (ap bare c.0)
        ∙ ap (λ (h : Handled Noted). let k : Handled (State Env) = record { answer = h.answer; to = h.to.at } in k) c.1,
    alike es e.after to c.2,
  )

  -- the state after a question
  after_is : (e : Event Noted) (from : Noted) → N e.place e.question from ≡ record { answer = e.answer; to = e.after } →
      (N e.place e.question from).to ≡ e.after
  after_is e from c = ap (λ (h : Handled Noted). h.to) c

  -- what is noted is what the events take
  noted : (es : List (Event Noted)) (from to : Noted) → Chained N from es to → to.picks ≡ from.picks ++ picks_of (takes_on G bits) (map plain es)
  noted [] from to c = ap (λ (z : Noted). z.picks) (sym c) ∙ sym (append-nil from.picks)
  noted (e ∷ es) from to c =
      let t = takes_on G bits e.place e.question e.before.at in
      let same = ap (λ (z : Noted). takes_on G bits e.place e.question z.at) c.0 in
      let after : from.picks ++ t ≡ e.after.picks = ap (λ ps. from.picks ++ ps) same ∙ ap (λ (z : Noted). z.picks) (after_is e from c.1) in
      let rest = picks_of (takes_on G bits) (map plain es) in
      noted es e.after to c.2 ∙ ap (λ ps. ps ++ rest) (sym after) ∙ append_assoc from.picks t rest

  -- what the failure at a stop of a run from a state leaves
  pub record IsCut (from : Noted) (es : List (Event (State Env))) (end : State Env) (stop : Halt) (c : Cut) : Type 0 where
    pub stop_is : c.stop ≡ halt stop.within (from.asked + stop.event)
    pub left : base_at (cut_on G last) (lose_on G last) stop.within (asked_in es) stop.event end ≡ Some c.base
    pub shaped : c.shaped ≡ true
    pub picks : c.picks ≡ from.picks
        ++ stopped_picks (takes_on G bits) (cut_takes_on G last) (lose_takes_on G last) stop.within es stop.event end

  -- power fails just where the first stop that is set is one of the run's
  abbrev pub Fails : Noted → List (Event (State Env)) → State Env → Option Halt → Option Cut → Type 0
  Fails from es end None o = o ≡ None
  Fails from es end (Some stop) None = ⊥
  Fails from es end (Some stop) (Some c) = IsCut from es end stop c

  -- where power has failed it has failed so at the end
  stays_fallen : (es : List (Event Noted)) (from to : Noted) → Chained N from es to → (c : Cut) → from.fallen ≡ Some c → to.fallen ≡ Some c
  stays_fallen [] from to ch c h = ap (λ (z : Noted). z.fallen) (sym ch) ∙ h
  stays_fallen (e ∷ es) from to ch c h =
      stays_fallen es e.after to ch.2 c
      (sym (ap (λ (z : Noted). z.fallen) (after_is e from ch.1))
      ∙ ap (λ o. first_of G bits stops last o (falls_by G bits stops last e.place e.question from)) h)

  -- what the state after a question says of power
  fallen_after : (e : Event Noted) (from : Noted) → from.fallen ≡ None → N e.place e.question from ≡ record { answer = e.answer; to = e.after } →
      e.after.fallen ≡ falls_by G bits stops last e.place e.question from
  fallen_after e from h c =
      sym (ap (λ (z : Noted). z.fallen) (after_is e from c))
      ∙ ap (λ o. first_of G bits stops last o (falls_by G bits stops last e.place e.question from)) h

  -- one question further
  goes_on : (from next : Noted) (e : Event (State Env)) (es : List (Event (State Env))) (end : State Env) (o : Option Halt) (f : Option Cut) →
      next.asked ≡ suc from.asked → next.picks ≡ from.picks ++ takes_on G bits e.place e.question e.before → Fails next es end o f →
      Fails from (e ∷ es) end (further o) f
  goes_on from next e es end None f a p h = h
  goes_on from next e es end (Some stop) None a p h = h
  goes_on from next e es end (Some stop) (Some c) a p h = record {
    stop_is = h.stop_is ∙ ap (halt stop.within) (let k = a in omega (arith, k));
    left = h.left;
    shaped = h.shaped;
    picks = h.picks ∙ ap (λ ps. ps ++ stopped_picks (takes_on G bits) (cut_takes_on G last) (lose_takes_on G last) stop.within es stop.event end) p
        ∙ append_assoc from.picks (takes_on G bits e.place e.question e.before)
        (stopped_picks (takes_on G bits) (cut_takes_on G last) (lose_takes_on G last) stop.within es stop.event end);
  }

  -- power fails in a run just so as the first stop says that is set
  pub fails : (es : List (Event Noted)) (from to : Noted) (place : ℕ) → Chained N from es to → from.fallen ≡ None →
      Fails from (map plain es) to.at (first_stop stops (map plain es) place) (fallen_at_end G bits stops last place to)
  fails [] from to place c h =
      subst (λ (z : Noted). Fails from [] z.at (first_stop {S = State Env} stops [] place) (fallen_at_end G bits stops last place z)) c
      (subst (λ (o : Option Cut). Fails from [] from.at (first_stop {S = State Env} stops [] place)
      (first_of G bits stops last o (falls_before G bits stops last place from None))) (sym h) (here (stops (before_at place))))
    where
      here : (b : Bool) → Fails from [] from.at (if b then Some (halt false 0) else None)
          (if b then Some (falls_there false (lose_on G last from.at) (lose_takes_on G last from.at) from) else None)
      here true = record { stop_is = ap (halt false) (omega arith); left = refl; shaped = refl; picks = refl }
      here false = refl
  fails (e ∷ es) from to place c h = cases (stops (before_at e.place)) (stops (within_at e.place)) refl refl (λ f. fails es e.after to place c.2 f)
    where
      others : List (Event (State Env))
      others = map plain es

      same : e.before.at ≡ from.at
      same = ap bare c.0

      fallen_is : (b w : Bool) → stops (before_at e.place) ≡ b → stops (within_at e.place) ≡ w → e.after.fallen
          ≡ (if b then Some (falls_there false (lose_on G last from.at) (lose_takes_on G last from.at) from) else
          (if w then Some (falls_there true (cut_on G last e.question from.at) (cut_takes_on G last e.question from.at) from) else None))
      fallen_is b w eb ew =
          fallen_after e from h c.1
          ∙ ap (λ x. if x then Some (falls_there false (lose_on G last from.at) (lose_takes_on G last from.at) from) else
          (if stops (within_at e.place) then Some (falls_there true (cut_on G last e.question from.at) (cut_takes_on G last e.question from.at) from)
          else None)) eb
          ∙ ap (λ x. if b then Some (falls_there false (lose_on G last from.at) (lose_takes_on G last from.at) from) else
          (if x then Some (falls_there true (cut_on G last e.question from.at) (cut_takes_on G last e.question from.at) from) else None)) ew

      ended : (f : Option Cut) → to.fallen ≡ f →
          fallen_at_end G bits stops last place to ≡ first_of G bits stops last f (falls_before G bits stops last place to None)
      ended f e = ap (λ o. first_of G bits stops last o (falls_before G bits stops last place to None)) e

      cases : (b w : Bool) → stops (before_at e.place) ≡ b → stops (within_at e.place) ≡ w →
          (e.after.fallen ≡ None → Fails e.after others to.at (first_stop stops others place) (fallen_at_end G bits stops last place to)) →
          Fails from (plain e ∷ others) to.at
          (if stops (before_at e.place) then Some (halt false 0)
          else (if stops (within_at e.place) then Some (halt true 0) else further (first_stop stops others place)))
          (fallen_at_end G bits stops last place to)
      cases b w eb ew again =
          subst (λ x. Fails from (plain e ∷ others) to.at
          (if x then Some (halt false 0) else (if stops (within_at e.place) then Some (halt true 0) else further (first_stop stops others place)))
          (fallen_at_end G bits stops last place to)) (sym eb)
          (subst (λ x. Fails from (plain e ∷ others) to.at
          (if b then Some (halt false 0) else (if x then Some (halt true 0) else further (first_stop stops others place)))
          (fallen_at_end G bits stops last place to)) (sym ew) (by_bits b w (fallen_is b w eb ew)))
        where
          by_bits : (b w : Bool) → e.after.fallen
              ≡ (if b then Some (falls_there false (lose_on G last from.at) (lose_takes_on G last from.at) from) else
              (if w then Some (falls_there true (cut_on G last e.question from.at) (cut_takes_on G last e.question from.at) from) else None)) →
              Fails from (plain e ∷ others) to.at
              (if b then Some (halt false 0) else (if w then Some (halt true 0) else further (first_stop stops others place)))
              (fallen_at_end G bits stops last place to)
          by_bits true w f =
              let k = falls_there false (lose_on G last from.at) (lose_takes_on G last from.at) from in
              subst (λ o. Fails from (plain e ∷ others) to.at (Some (halt false 0)) o) (sym (ended (Some k) (stays_fallen es e.after to c.2 k f)))
              (record {
                stop_is = ap (halt false) (omega arith);
                left = ap (λ z. Some (lose_on G last z)) same;
                shaped = refl;
                picks = ap (λ z. from.picks ++ lose_takes_on G last z) (sym same);
              })
          by_bits false true f =
              let k = falls_there true (cut_on G last e.question from.at) (cut_takes_on G last e.question from.at) from in
              subst (λ o. Fails from (plain e ∷ others) to.at (Some (halt true 0)) o) (sym (ended (Some k) (stays_fallen es e.after to c.2 k f)))
              (record {
                stop_is = ap (halt true) (omega arith);
                left = ap (λ z. Some (cut_on G last e.question z)) same;
                shaped = refl;
                picks = ap (λ z. from.picks ++ cut_takes_on G last e.question z) (sym same);
              })
          by_bits false false f =
              goes_on from e.after (plain e) others to.at (first_stop stops others place) (fallen_at_end G bits stops last place to)
              (sym (ap (λ (z : Noted). z.asked) (after_is e from c.1)))
              (sym (ap (λ (z : Noted). z.picks) (after_is e from c.1)) ∙ ap (λ z. from.picks ++ takes_on G bits e.place e.question z) (sym same))
              (again f)

  module _ (eval : Eval) (space : Name → ℕ) (b : Block) (env : Env) (z : Noted) where
    abbrev run : Reached Noted
    run = direct_run eval space N b env z

    chained : Chained N z run.events run.to
    chained = (block_follows eval space N b.statements 0 env z).chained

    -- the run without notes
    pub mirrored : direct_run eval space (handle_on G bits) b env z.at
        ≡ seen_run (handle_on G bits) (λ (x : Noted). x.at) (direct_run eval space (notes_below G bits stops last) b env z)
    mirrored = block_mirrors eval space N H bare b.statements 0 env z (alike run.events z run.to chained)

    -- the picks that it takes
    pub picks_noted : (direct_run eval space (notes_below G bits stops last) b env z).to.picks
        ≡ z.picks ++ picks_of (takes_on G bits) (direct_run eval space (handle_on G bits) b env z.at).events
    picks_noted = noted run.events z run.to chained ∙ ap (λ (r : Reached (State Env)). z.picks ++ picks_of (takes_on G bits) r.events) (sym mirrored)

    -- and where power fails
    pub fails_noted : (place : ℕ) → z.fallen ≡ None →
        let r = direct_run eval space (handle_on G bits) b env z.at in
        Fails z r.events r.to (first_stop stops r.events place)
        (fallen_at_end G bits stops last place (direct_run eval space (notes_below G bits stops last) b env z).to)
    fails_noted place h =
        subst (λ (r : Reached (State Env)).
        Fails z r.events r.to (first_stop stops r.events place) (fallen_at_end G bits stops last place run.to)) (sym mirrored)
        (fails run.events z run.to place chained h)
