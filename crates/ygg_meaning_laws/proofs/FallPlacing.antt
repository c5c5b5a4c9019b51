-- Runs of a block in which power fails, with picks by place and from the front.
use Rattle.std.proofs.Common.{
  ◌≡◌,
  ℕ,
  zero,
  suc,
  Bool,
  true,
  false,
  if◌then◌else◌,
  List,
  [],
  ◌∷◌,
  ◌++◌,
  map,
  take,
  Some,
  None,
  refl,
  sym,
  ap,
  ◌∙◌,
  subst,
  append_assoc,
  arith,
}
use Rattle.std.proofs.lemmas.List.{append-nil}
use Rattle.ygg_syntax.specs.declared.tree.Block.{Block}
use Rattle.ygg_meaning_laws.specs.Environments.{Name, Env}
use Rattle.ygg_meaning_laws.specs.Progress.{Eval, Question, Choice, Call, Answer, Point, Goes, in_turn, run_of}
use Rattle.ygg_meaning_laws.specs.Machine.{Picks, State, memory_in}
use Rattle.ygg_meaning_laws.specs.Layer.{ClosedLayer, eval_of}
use Rattle.ygg_meaning_laws.specs.Obligations.{Halt}
use Rattle.ygg_meaning_laws.specs.Direct.{Handled, Event, Reached, direct_run, room_of, question_space, told_by, AsksAll, Chained, seen}
use Rattle.ygg_meaning_laws.specs.Acts.{Acts, Standing, serve, under, falls_in, stopped_in, cut_at}
use Rattle.ygg_meaning_laws.specs.Places.{Drawn, Held, IsDraw, left_after, by_place, from_front, calling}
use Rattle.ygg_meaning_laws.specs.DiskActs.{disk_acts}
use Rattle.ygg_meaning_laws.specs.SpecActs.{spec_acts}
use Rattle.ygg_meaning_laws.specs.RunPlaces.{
  IsTidy,
  placed_run,
  base_at,
  asked_in,
  base_of,
  cut_by,
  falls_by_place,
  SameFalls,
  disk_space,
  spec_space,
  FallsByPlaceOnDisk,
  FallsByPlaceOnSpec,
}
use Rattle.ygg_meaning_laws.proofs.Order.{block_follows}
use Rattle.ygg_meaning_laws.proofs.Mirror.{block_mirrors}
use Rattle.ygg_meaning_laws.proofs.Placing.{all_placed, used, taken_self}
use Rattle.ygg_meaning_laws.proofs.RunPlacing.{never_goes, waits_is, calling_draws, held, alike, disk_tidy, spec_tidy}

-- on a machine that looks at no places the same is asked, whatever places questions have
same_asked : {S : Type 0} (h : Question → S → Handled S) (t : List Answer → Point) (told : List Answer) (es fs : List (Event S)) (z end last : S) (e f : Env) →
    AsksAll t told es → Chained (λ i q s. h q s) z es end → t (told ++ told_by es) ≡ Goes e [] →
    AsksAll t told fs → Chained (λ i q s. h q s) z fs last → t (told ++ told_by fs) ≡ Goes f [] → (asked_in fs ≡ asked_in es) × (last ≡ end)
same_asked h t told [] [] z end last e f a c g b d k = (refl, sym d ∙ c)
same_asked h t told [] (y ∷ fs) z end last e f a c g b d k = never_goes (t told) y.question e [] b.0 (ap t (sym (append-nil told)) ∙ g)
same_asked h t told (x ∷ es) [] z end last e f a c g b d k = never_goes (t told) x.question f [] a.0 (ap t (sym (append-nil told)) ∙ k)
same_asked {S} h t told (x ∷ es) (y ∷ fs) z end last e f a c g b d k =
    let question : x.question ≡ y.question = waits_is x.question y.question (sym a.0 ∙ b.0) in
    let here = sym d.1 ∙ ap (λ q. h q z) (sym question) ∙ c.1 in
    let answers : y.answer ≡ x.answer = ap (λ (w : Handled S). w.answer) here in
    let stands : y.after ≡ x.after = ap (λ (w : Handled S). w.to) here in
    let r = same_asked h t (told ++ x.answer ∷ []) es fs x.after end last e f a.1 c.2
    (ap t (append_assoc told (x.answer ∷ []) (told_by es)) ∙ g)
    (subst (λ a. AsksAll t (told ++ a ∷ []) fs) answers b.1)
    (subst (λ s. Chained (λ i q s. h q s) s fs last) stands d.2)
    (ap t (append_assoc told (x.answer ∷ []) (told_by fs) ∙ ap (λ a. told ++ a ∷ told_by fs) (sym answers)) ∙ k) in (
      ap (λ q. (q, y.before) ∷ asked_in fs) (sym question) ∙ ap (λ s. (x.question, s) ∷ asked_in fs) (d.0 ∙ sym c.0)
          ∙ ap (λ z. (x.question, x.before) ∷ z) r.0,
      r.1,
    )

-- in states of another kind
base_map : {R S B : Type 0} (f : R → S) (cut : Question → S → B) (lose : S → B) (within : Bool) (es : List (Event R)) (n : ℕ) (end : R)
    (handle : ℕ → Question → S → Handled S) →
    base_at cut lose within (asked_in (map (seen handle f) es)) n (f end) ≡ base_at (λ q r. cut q (f r)) (λ r. lose (f r)) within (asked_in es) n end
base_map f cut lose within [] zero end handle = refl
base_map f cut lose within [] (suc n) end handle = refl
base_map f cut lose within (e ∷ es) zero end handle = refl
base_map f cut lose within (e ∷ es) (suc n) end handle = base_map f cut lose within es n end handle

module _ {B : Type 0} (F : Acts B Bool) where
  -- power fails where picks are left
  abbrev cut_held : Question → Held (State B) → B
  cut_held q h = cut_by F h.left q h.at

  abbrev lose_held : Held (State B) → B
  lose_held h = (F.loses h.at h.left).base

  -- what a direct run leaves
  base_stopped : (within : Bool) (es : List (Event (Standing B Bool))) (n : ℕ) (end : Standing B Bool) →
      base_of (stopped_in F within es n end) ≡ base_at (λ q z. cut_held q (held F z)) (λ z. lose_held (held F z)) within (asked_in es) n end
  base_stopped true [] zero end = refl
  base_stopped false [] zero end = refl
  base_stopped within [] (suc n) end = refl
  base_stopped true (e ∷ es) zero end = by_question e.question e.before
    where
      by_question : (q : Question) (z : Standing B Bool) → base_of (Some (cut_at F q z)) ≡ Some (cut_held q (held F z))
      by_question Choice z = refl
      by_question (Call f args) z = refl
  base_stopped false (e ∷ es) zero end = refl
  base_stopped within (e ∷ es) (suc n) end = base_stopped within es n end

  -- the picks that are left where the run stops
  left_at : List (Event (Held (State B))) → ℕ → Held (State B) → Picks
  left_at [] n end = end.left
  left_at (e ∷ es) zero end = e.before.left
  left_at (e ∷ es) (suc n) end = left_at es n end

  left_there : (within : Bool) (es : List (Event (Held (State B)))) (n : ℕ) (end : Held (State B)) →
      base_at (λ q h. cut_by F (left_at es n end) q h.at) (λ h. (F.loses h.at (left_at es n end)).base) within (asked_in es) n end
      ≡ base_at cut_held lose_held within (asked_in es) n end
  unfolding left_at
  left_there within [] zero end = refl
  left_there within [] (suc n) end = refl
  left_there within (e ∷ es) zero end = refl
  left_there within (e ∷ es) (suc n) end = left_there within es n end

  module _ (eval : Eval) (b : Block) (env : Env) (s : State B) (picks : Picks) where
    abbrev front_run : (Name → ℕ) → Reached (Held (State B))
    front_run space = direct_run eval space (from_front (calling F)) b env (record { at = s; left = picks })

    abbrev serve_run : Reached (Standing B Bool)
    serve_run = direct_run eval (λ f. 1) (serve F) b env (record { at = s; notes = []; left = picks })

    -- the direct run and the run from the front, whatever places calls have
    stops_held : (space : Name → ℕ) (within : Bool) (n : ℕ) →
        base_of (stopped_in F within serve_run.events n serve_run.to) ≡ base_at cut_held lose_held within (asked_in (front_run space).events) n
        (front_run space).to
    stops_held space within n =
        let start : Standing B Bool = record { at = s; notes = []; left = picks } in
        let first : Held (State B) = record { at = s; left = picks } in
        let f = block_follows eval (λ f. 1) (serve F) b.statements 0 env start in
        let m = block_mirrors eval (λ f. 1) (serve F) (from_front (calling F)) (held F) b.statements 0 env start
        (alike F serve_run.events start serve_run.to f.chained) in
        let p = block_follows eval (λ f. 1) (from_front (calling F)) b.statements 0 env first in
        let q = block_follows eval space (from_front (calling F)) b.statements 0 env first in
        let both = same_asked (λ q h. from_front (calling F) 0 q h) (in_turn (map (run_of eval) b.statements) env) [] (front_run (λ f. 1)).events
        (front_run space).events first
        (front_run (λ f. 1)).to (front_run space).to (front_run (λ f. 1)).env (front_run space).env
        p.asks p.chained (ap (in_turn (map (run_of eval) b.statements) env) (sym (append-nil (told_by (front_run (λ f. 1)).events))) ∙ p.goes [])
        q.asks q.chained (ap (in_turn (map (run_of eval) b.statements) env) (sym (append-nil (told_by (front_run space).events))) ∙ q.goes []) in
        base_stopped within serve_run.events n serve_run.to
        ∙ sym (base_map (held F) cut_held lose_held within serve_run.events n serve_run.to (from_front (calling F)))
        ∙ ap (λ (r : Reached (Held (State B))). base_at cut_held lose_held within (asked_in r.events) n r.to) (sym m)
        ∙ ap (λ es. base_at cut_held lose_held within es n (front_run (λ f. 1)).to) (sym both.0)
        ∙ ap (λ z. base_at cut_held lose_held within (asked_in (front_run space).events) n z) (sym both.1)

module _ {B : Type 0} (past : Bool) (space : Name → ℕ) (F : Acts B Bool) (tidy : IsTidy past space F) where
  is : IsDraw past (question_space space) (calling F)
  is = calling_draws past space F tidy

  -- a run by place up to a stop, and the run from the front on the picks that it takes before that
  up_to : (eval : Eval) (t : List Answer → Point) (told : List Answer) (picks last : Picks) (within : Bool) (n : ℕ) (es : List (Event (State B)))
      (z end : State B)
      (fs : List (Event (Held (State B)))) (top : Held (State B)) (e f : Env) →
      AsksAll t told es → Chained (by_place (calling F) picks) z es end → t (told ++ told_by es) ≡ Goes e [] →
      AsksAll t told fs → Chained (from_front (calling F))
      (record { at = z; left = used past eval space (calling F) (calling_draws past space F tidy) picks (take n es) ++ last }) fs top →
      t (told ++ told_by fs) ≡ Goes f [] →
      base_at (cut_held F) (lose_held F) within (asked_in fs) n top ≡ base_at (cut_by F last) (λ s. (F.loses s last).base) within (asked_in es) n end
  up_to eval t told picks last within zero [] z end [] top e f a c g b d k =
      ap (λ h. if within then None else Some (lose_held F h)) (sym d) ∙ ap (λ s. if within then None else Some (F.loses s last).base) c
  up_to eval t told picks last within (suc n) [] z end [] top e f a c g b d k = refl
  up_to eval t told picks last within n [] z end (y ∷ fs) top e f a c g b d k = never_goes (t told) y.question e [] b.0 (ap t (sym (append-nil told)) ∙ g)
  up_to eval t told picks last within n (x ∷ es) z end [] top e f a c g b d k = never_goes (t told) x.question f [] a.0 (ap t (sym (append-nil told)) ∙ k)
  up_to eval t told picks last within zero (x ∷ es) z end (y ∷ fs) top e f a c g b d k =
      let question : x.question ≡ y.question = waits_is x.question y.question (sym a.0 ∙ b.0) in
      ap (λ h. Some (if within then cut_held F y.question h else lose_held F h)) d.0
      ∙ ap (λ q. Some (if within then cut_by F last q z else (F.loses z last).base)) (sym question)
      ∙ ap (λ s. Some (if within then cut_by F last x.question s else (F.loses s last).base)) (sym c.0)
  up_to eval t told picks last within (suc n) (x ∷ es) z end (y ∷ fs) top e f a c g b d k =
      let question : x.question ≡ y.question = waits_is x.question y.question (sym a.0 ∙ b.0) in
      let r = calling F x.question x.before (left_after x.place picks) in
      let before = used past eval space (calling F) (calling_draws past space F tidy) picks (take n es) in
      let rest = before ++ last in
      let looked = (calling_draws past space F tidy).looks x.question x.before (left_after x.place picks) (r.taken ++ rest) rest
      (taken_self past r.taken rest) in
      let here : record { answer = r.answer; to = record { at = r.to; left = rest } } ≡ record { answer = y.answer; to = y.after } =
      ap (λ (w : Drawn (State B)). let u : Handled (Held (State B)) = record { answer = w.answer; to = record { at = w.to; left = w.left } } in u) (sym looked)
      ∙ ap (λ l. from_front (calling F) y.place x.question (record { at = x.before; left = l })) (sym (append_assoc r.taken before last))
      ∙ ap (λ q. from_front (calling F) y.place q (record { at = x.before; left = (r.taken ++ before) ++ last })) question
      ∙ ap (λ z. from_front (calling F) y.place y.question (record { at = z; left = (r.taken ++ before) ++ last })) c.0 ∙ d.1 in
      let there : record { answer = r.answer; to = r.to } ≡ record { answer = x.answer; to = x.after } =
      ap (λ z. by_place (calling F) picks x.place x.question z) c.0 ∙ c.1 in
      let answers : y.answer ≡ x.answer = ap (λ (w : Handled (Held (State B))). w.answer) (sym here) ∙ ap (λ (w : Handled (State B)). w.answer) there in
      let stands : y.after ≡ record { at = x.after; left = rest } =
      ap (λ (w : Handled (Held (State B))). w.to) (sym here)
      ∙ ap (λ (w : Handled (State B)). let u : Held (State B) = record { at = w.to; left = rest } in u) there in
      up_to eval t (told ++ x.answer ∷ []) picks last within n es x.after end fs top e f a.1 c.2
      (ap t (append_assoc told (x.answer ∷ []) (told_by es)) ∙ g)
      (subst (λ a. AsksAll t (told ++ a ∷ []) fs) answers b.1)
      (subst (λ s. Chained (from_front (calling F)) s fs top) stands d.2)
      (ap t (append_assoc told (x.answer ∷ []) (told_by fs) ∙ ap (λ a. told ++ a ∷ told_by fs) (sym answers)) ∙ k)

  module _ (L : ClosedLayer) (b : Block) (args : Env) (from : State B) where
    pub same_falls : SameFalls space F L b args from
    same_falls = record { front = front; place = place }
      where
        front : (stop : Halt) (picks last : Picks) → (same : Picks)
            × (base_of (falls_in F L b args from stop same) ≡ falls_by_place space F L b args from stop picks last)
        front stop picks last =
            let env = memory_in from ++ args in
            let point = in_turn (map (run_of (eval_of L)) b.statements) env in
            let r = placed_run space F L b args from picks in
            let f = block_follows (eval_of L) space (by_place (calling F) picks) b.statements 0 env (under from) in
            let same = used past (eval_of L) space (calling F) (calling_draws past space F tidy) picks (take stop.event r.events) ++ last in
            let start : Held (State B) = record { at = under from; left = same } in
            let q = front_run F (eval_of L) b env (under from) same space in
            let g = block_follows (eval_of L) space (from_front (calling F)) b.statements 0 env start in (
              same,
              stops_held F (eval_of L) b env (under from) same space stop.within stop.event
                  ∙ up_to (eval_of L) (in_turn (map (run_of (eval_of L)) b.statements) env) [] picks last stop.within stop.event r.events
                  (under from) r.to q.events q.to r.env q.env f.asks f.chained
                  (ap (in_turn (map (run_of (eval_of L)) b.statements) env) (sym (append-nil (told_by r.events))) ∙ f.goes []) g.asks g.chained
                  (ap (in_turn (map (run_of (eval_of L)) b.statements) env) (sym (append-nil (told_by q.events))) ∙ g.goes []),
            )

        place : (stop : Halt) (picks : Picks) → (same last : Picks)
            × (falls_by_place space F L b args from stop same last ≡ base_of (falls_in F L b args from stop picks))
        place stop picks =
            let env = memory_in from ++ args in
            let q = front_run F (eval_of L) b env (under from) picks space in
            let p = all_placed past (eval_of L) space (calling F) (calling_draws past space F tidy) b env (under from) (room_of space b) (omega arith) picks in
            let same = p.put ++ [] in
            let last = left_at F q.events stop.event q.to in (
              same,
              last,
              ap (λ (r : Reached (State B)). base_at (cut_by F last) (λ s. (F.loses s last).base) stop.within (asked_in r.events) stop.event r.to)
                  (p.mirrors [])
                  ∙ base_map (λ (h : Held (State B)). h.at) (cut_by F last) (λ s. (F.loses s last).base) stop.within q.events stop.event q.to
                  (by_place (calling F) same)
                  ∙ left_there F stop.within q.events stop.event q.to
                  ∙ sym (stops_held F (eval_of L) b env (under from) picks space stop.within stop.event),
            )

pub falls_by_place_on_disk : FallsByPlaceOnDisk
falls_by_place_on_disk past d L b args from = same_falls past disk_space (disk_acts past d) (disk_tidy past d) L b args from

pub falls_by_place_on_spec : FallsByPlaceOnSpec
falls_by_place_on_spec past m L b args from = same_falls past (spec_space m) (spec_acts past m) (spec_tidy past m) L b args from
