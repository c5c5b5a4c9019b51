-- A run on a machine by place is the run, on a machine that takes picks from the front, of the picks that it takes.
use Rattle.std.proofs.Common.{◌≡◌, ℕ, zero, suc, Bool, true, false, List, [], ◌∷◌, ◌++◌, map, Option, Some, option_map, refl, sym, ap, ◌∙◌, subst, append_assoc}
use Rattle.std.proofs.lemmas.List.{append-nil}
use Rattle.ygg_syntax.specs.declared.tree.Block.{Block}
use Rattle.ygg_sym_laws.specs.ygg_meaning.Environments.{Name, Env}
use Rattle.ygg_sym_laws.specs.ygg_meaning.Machine.{Picks}
use Rattle.ygg_sym_laws.specs.ygg_meaning.Progress.{Eval, Question, Answer, Point, Goes, in_turn, run_of}
use Rattle.ygg_sym_laws.specs.ygg_meaning_laws.Direct.{Handled, Event, Reached, told_by, AsksAll, Chained, direct_run}
use Rattle.ygg_sym_laws.specs.ygg_meaning_laws.RunPlaces.{base_at, asked_in}
use Rattle.ygg_sym_laws.specs.ygg_meaning_laws_proofs_Order.{block_follows}
use Rattle.ygg_sym_laws.specs.ygg_meaning_laws_proofs_RunPlacing.{goes_is, never_goes, waits_is}
use Rattle.ygg_sym_laws.specs.Taking.{Takes, picks_of}
use Rattle.ygg_sym_laws.specs.Fronts.{stopped_picks}

-- how a run that takes picks from the front has ended
pub record EndsSo (S : Type 0) (r : Reached S) (env : Env) (to : S) : Type 0 where
  pub env_is : r.env ≡ env
  pub to_is : r.to ≡ to

-- the states of the machine that takes picks from the front: a state of the other, the picks that were taken, and those that are left
module _ {R S : Type 0} (h : ℕ → Question → R → Handled R) (g : ℕ → Question → S → Handled S) (takes : Takes R) (at : R → Picks → Picks → S)
    (same : (i j : ℕ) (q : Question) (r : R) (notes more : Picks) → g j q (at r notes (takes i q r ++ more))
    ≡ record { answer = (h i q r).answer; to = at (h i q r).to (notes ++ takes i q r) more }) where
  -- after an event the one machine stands where the other does, with the event's picks taken
  record Next (x : Event R) (y : Event S) (notes more : Picks) : Type 0 where
    answers : y.answer ≡ x.answer
    stands : y.after ≡ at x.after (notes ++ takes x.place x.question x.before) more

  next : (x : Event R) (y : Event S) (z : R) (notes rest : Picks) → x.before ≡ z → x.question ≡ y.question →
      h x.place x.question z ≡ record { answer = x.answer; to = x.after } →
      g y.place y.question (at z notes (takes x.place x.question x.before ++ rest)) ≡ record { answer = y.answer; to = y.after } → Next x y notes rest
  next x y z notes rest before question there here =
      let t = takes x.place x.question x.before in
      let made : g y.place x.question (at x.before notes (t ++ rest)) ≡ record { answer = y.answer; to = y.after } =
      ap (λ q. g y.place q (at x.before notes (t ++ rest))) question ∙ ap (λ r. g y.place y.question (at r notes (t ++ rest))) before ∙ here in
      let by : h x.place x.question x.before ≡ record { answer = x.answer; to = x.after } = ap (λ r. h x.place x.question r) before ∙ there in
      let both : record { answer = y.answer; to = y.after } ≡ (let k : Handled S = record { answer = x.answer; to = at x.after (notes ++ t) rest } in k) =
      sym made ∙ same x.place y.place x.question x.before notes rest
      ∙ ap (λ (k : Handled R). let w : Handled S = record { answer = k.answer; to = at k.to (notes ++ t) rest } in w) by in
      record { answers = ap (λ (k : Handled S). k.answer) both; stands = ap (λ (k : Handled S). k.to) both }

  -- event by event
  listed : (t : List Answer → Point) (told : List Answer) (notes more : Picks) (es : List (Event R)) (z end : R) (fs : List (Event S)) (last : S) (e f : Env) →
      AsksAll t told es → Chained h z es end → t (told ++ told_by es) ≡ Goes e [] →
      AsksAll t told fs → Chained g (at z notes (picks_of takes es ++ more)) fs last → t (told ++ told_by fs) ≡ Goes f [] →
      (f ≡ e) × (last ≡ at end (notes ++ picks_of takes es) more)
  listed t told notes more [] z end [] last e f a c k b d l = (
    goes_is f e [] [] (sym l ∙ k),
    sym d ∙ ap (λ r. at r notes more) c ∙ ap (λ n. at end n more) (sym (append-nil notes)),
  )
  listed t told notes more [] z end (y ∷ fs) last e f a c k b d l = never_goes (t told) y.question e [] b.0 (ap t (sym (append-nil told)) ∙ k)
  listed t told notes more (x ∷ es) z end [] last e f a c k b d l = never_goes (t told) x.question f [] a.0 (ap t (sym (append-nil told)) ∙ l)
  listed t told notes more (x ∷ es) z end (y ∷ fs) last e f a c k b d l =
      let question : x.question ≡ y.question = waits_is x.question y.question (sym a.0 ∙ b.0) in
      let p = takes x.place x.question x.before in
      let rest = picks_of takes es ++ more in
      let here : g y.place y.question (at z notes (p ++ rest)) ≡ record { answer = y.answer; to = y.after } =
      ap (λ ps. g y.place y.question (at z notes ps)) (sym (append_assoc p (picks_of takes es) more)) ∙ d.1 in
      let n = next x y z notes rest c.0 question c.1 here in
      let r = listed t (told ++ x.answer ∷ []) (notes ++ p) more es x.after end fs last e f a.1 c.2
      (ap t (append_assoc told (x.answer ∷ []) (told_by es)) ∙ k)
      (subst (λ a. AsksAll t (told ++ a ∷ []) fs) n.answers b.1)
      (subst (λ s. Chained g s fs last) n.stands d.2)
      (ap t (append_assoc told (x.answer ∷ []) (told_by fs) ∙ ap (λ a. told ++ a ∷ told_by fs) (sym n.answers)) ∙ l) in
      (r.0, r.1 ∙ ap (λ ps. at end ps more) (append_assoc notes p (picks_of takes es)))

  module _ (eval : Eval) (space room : Name → ℕ) (b : Block) (env : Env) (z : R) where
    abbrev run : Reached R
    run = direct_run eval space h b env z

    -- the run of these picks, whatever places its questions have
    abbrev front : Picks → Reached S
    front picks = direct_run eval room g b env (at z [] picks)

    -- the run of the picks that the run by place takes ends as that does
    pub fronted : (more : Picks) →
        EndsSo S (front (picks_of takes run.events ++ more)) run.env (at run.to (picks_of takes run.events) more)
    fronted more =
        let start = at z [] (picks_of takes run.events ++ more) in
        let f = block_follows eval space h b.statements 0 env z in
        let q = front (picks_of takes run.events ++ more) in
        let k = block_follows eval room g b.statements 0 env start in
        let t = in_turn (map (run_of eval) b.statements) env in
        let r = listed (in_turn (map (run_of eval) b.statements) env) [] [] more run.events z run.to q.events q.to run.env q.env f.asks f.chained
        (ap (in_turn (map (run_of eval) b.statements) env) (sym (append-nil (told_by run.events))) ∙ f.goes []) k.asks k.chained
        (ap (in_turn (map (run_of eval) b.statements) env) (sym (append-nil (told_by q.events))) ∙ k.goes []) in
        record { env_is = r.0; to_is = r.1 }

  -- power that fails on both
  module _ {C T : Type 0} (cut : Question → R → C) (lose : R → C) (cut_takes : Question → R → Picks) (lose_takes : R → Picks)
      (cut_front : Question → S → T) (lose_front : S → T) (made : C → Picks → T)
      (cut_same : (q : Question) (r : R) (notes : Picks) → cut_front q (at r notes (cut_takes q r)) ≡ made (cut q r) (notes ++ cut_takes q r))
      (lose_same : (r : R) (notes : Picks) → lose_front (at r notes (lose_takes r)) ≡ made (lose r) (notes ++ lose_takes r)) where
    abbrev before_stop : Bool → List (Event R) → ℕ → R → Picks
    before_stop within es n end = stopped_picks takes cut_takes lose_takes within es n end

    -- what stops leave of the one, with the picks that were taken on the way
    abbrev noted : Picks → Option C → Option T
    noted picks = option_map (λ c. made c picks)

    up_to : (t : List Answer → Point) (told : List Answer) (notes : Picks) (within : Bool) (n : ℕ) (es : List (Event R)) (z end : R)
        (fs : List (Event S)) (last : S) (e f : Env) →
        AsksAll t told es → Chained h z es end → t (told ++ told_by es) ≡ Goes e [] →
        AsksAll t told fs → Chained g (at z notes (before_stop within es n end)) fs last → t (told ++ told_by fs) ≡ Goes f [] →
        base_at cut_front lose_front within (asked_in fs) n last
        ≡ noted (notes ++ before_stop within es n end) (base_at cut lose within (asked_in es) n end)
    up_to t told notes true zero [] z end [] last e f a c k b d l = refl
    up_to t told notes false zero [] z end [] last e f a c k b d l =
        ap (λ s. Some (lose_front s)) (sym d ∙ ap (λ r. at r notes (lose_takes end)) c) ∙ ap (λ x. Some x) (lose_same end notes)
    up_to t told notes within (suc n) [] z end [] last e f a c k b d l = refl
    up_to t told notes within n [] z end (y ∷ fs) last e f a c k b d l = never_goes (t told) y.question e [] b.0 (ap t (sym (append-nil told)) ∙ k)
    up_to t told notes within n (x ∷ es) z end [] last e f a c k b d l = never_goes (t told) x.question f [] a.0 (ap t (sym (append-nil told)) ∙ l)
    up_to t told notes true zero (x ∷ es) z end (y ∷ fs) last e f a c k b d l =
        let question : x.question ≡ y.question = waits_is x.question y.question (sym a.0 ∙ b.0) in
        ap (λ q. Some (cut_front q y.before)) (sym question)
        ∙ ap (λ s. Some (cut_front x.question s)) (d.0 ∙ ap (λ r. at r notes (cut_takes x.question x.before)) (sym c.0))
        ∙ ap (λ w. Some w) (cut_same x.question x.before notes)
    up_to t told notes false zero (x ∷ es) z end (y ∷ fs) last e f a c k b d l =
        ap (λ s. Some (lose_front s)) (d.0 ∙ ap (λ r. at r notes (lose_takes x.before)) (sym c.0)) ∙ ap (λ w. Some w) (lose_same x.before notes)
    up_to t told notes within (suc n) (x ∷ es) z end (y ∷ fs) last e f a c k b d l =
        let question : x.question ≡ y.question = waits_is x.question y.question (sym a.0 ∙ b.0) in
        let p = takes x.place x.question x.before in
        let rest = before_stop within es n end in
        let m = next x y z notes rest c.0 question c.1 d.1 in
        let r = up_to t (told ++ x.answer ∷ []) (notes ++ p) within n es x.after end fs last e f a.1 c.2
        (ap t (append_assoc told (x.answer ∷ []) (told_by es)) ∙ k)
        (subst (λ a. AsksAll t (told ++ a ∷ []) fs) m.answers b.1)
        (subst (λ s. Chained g s fs last) m.stands d.2)
        (ap t (append_assoc told (x.answer ∷ []) (told_by fs) ∙ ap (λ a. told ++ a ∷ told_by fs) (sym m.answers)) ∙ l) in
        r ∙ ap (λ ps. noted ps (base_at cut lose within (asked_in es) n end)) (append_assoc notes p rest)

    module _ (eval : Eval) (space room : Name → ℕ) (b : Block) (env : Env) (z : R) where
      -- a stop leaves of the run of the picks up to there and of the failure what it leaves of the run by place
      pub stopped : (within : Bool) (n : ℕ) →
          let r = direct_run eval space h b env z in
          let picks = before_stop within r.events n r.to in
          let q = direct_run eval room g b env (at z [] picks) in
          base_at cut_front lose_front within (asked_in q.events) n q.to ≡ noted picks (base_at cut lose within (asked_in r.events) n r.to)
      stopped within n =
          let r = direct_run eval space h b env z in
          let start = at z [] (before_stop within r.events n r.to) in
          let f = block_follows eval space h b.statements 0 env z in
          let q = direct_run eval room g b env start in
          let k = block_follows eval room g b.statements 0 env start in
          up_to (in_turn (map (run_of eval) b.statements) env) [] [] within n r.events z r.to q.events q.to r.env q.env f.asks f.chained
          (ap (in_turn (map (run_of eval) b.statements) env) (sym (append-nil (told_by r.events))) ∙ f.goes []) k.asks k.chained
          (ap (in_turn (map (run_of eval) b.statements) env) (sym (append-nil (told_by q.events))) ∙ k.goes [])
