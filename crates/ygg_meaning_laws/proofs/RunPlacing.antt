-- Runs of a block on a machine, with picks by place and from the front.
use Rattle.std.proofs.Common.{
  ◌≡◌,
  ◌≤◌,
  ℕ,
  suc,
  ◌+◌,
  Bool,
  List,
  [],
  ◌∷◌,
  ◌++◌,
  map,
  take,
  length,
  Option,
  Some,
  None,
  refl,
  sym,
  ap,
  ◌∙◌,
  subst,
  append_assoc,
  arith,
}
use Rattle.std.proofs.lemmas.List.{append-nil}
use Rattle.ygg_value.specs.declared.row.Value.{Value}
use Rattle.ygg_syntax.specs.declared.tree.Block.{Block}
use Rattle.ygg_syntax.specs.declared.tree.Operation.{Operation}
use Rattle.ygg_syntax.specs.declared.tree.DiskText.{DiskText}
use Rattle.ygg_base.specs.declared.geometry.DiskKind.{DiskKind}
use Rattle.ygg_base.specs.declared.geometry.DiskKind.TheVariants.{Sync, Async}
use Rattle.ygg_meaning_laws.specs.ygg_disk.Disk as disk
use Rattle.ygg_meaning_laws.specs.Environments.{Name, Env, bind}
use Rattle.ygg_meaning_laws.specs.Progress.{Question, Choice, Call, Answer, answer_of, Eval, Point, Waits, Goes, in_turn, run_of}
use Rattle.ygg_meaning_laws.specs.Machine.{Picks, State, on, memory_in, based}
use Rattle.ygg_meaning_laws.specs.Layer.{ClosedLayer, eval_of, operation_of}
use Rattle.ygg_meaning_laws.specs.ygg_disk.Kinds.{model_of}
use Rattle.ygg_meaning_laws.specs.DiskMachine.{disk_call, answer_to, tables_in}
use Rattle.ygg_meaning_laws.specs.Direct.{Handled, Event, Reached, direct_run, room_of, question_space, told_by, AsksAll, Chained, Within, Alike}
use Rattle.ygg_meaning_laws.specs.Acts.{Taken, Did, Acts, Standing, serve, under, next_of, later}
use Rattle.ygg_meaning_laws.specs.Places.{Drawn, Held, IsDraw, from_front, calling, choosing}
use Rattle.ygg_meaning_laws.specs.DiskActs.{Replied, kind_calls, state_in, disk_does, disk_acts}
use Rattle.ygg_meaning_laws.specs.SpecActs.{chooses, block_ran, did_so, spec_does, spec_acts}
use Rattle.ygg_meaning_laws.specs.RunPlaces.{IsTidy, Finish, SameRuns, disk_space, spec_space, RunsByPlaceOnDisk, RunsByPlaceOnSpec}
use Rattle.ygg_meaning_laws.proofs.Order.{block_follows}
use Rattle.ygg_meaning_laws.proofs.Mirror.{block_mirrors}
use Rattle.ygg_meaning_laws.proofs.Rooms.{room_is}
use Rattle.ygg_meaning_laws.proofs.Placing.{fronted, all_placed, long_append}
use Rattle.ygg_meaning_laws.proofs.DiskServes.{kind_steps}
use Rattle.ygg_meaning_laws.proofs.Choosing.{questions_few}
use Rattle.ygg_meaning_laws.proofs.SpecActed.{block_whole}
use Rattle.ygg_meaning_laws.proofs.SpecServes.{ran_gives, ran_alone}

pub goes_is : (e f : Env) (l m : List Answer) → Goes e l ≡ Goes f m → e ≡ f
goes_is e f l m h = cc

pub never_goes : {A : Type 0} (p : Point) (q : Question) (env : Env) (left : List Answer) → p ≡ Waits q → p ≡ Goes env left → A
never_goes p q env left h g = let k : Waits q ≡ Goes env left = sym h ∙ g in absurd (cc)

pub waits_is : (p q : Question) → Waits p ≡ Waits q → p ≡ q
waits_is p q h = cc

-- a machine that looks at no places ends alike, whatever places questions have
same_end : {S : Type 0} (h : Question → S → Handled S) (t : List Answer → Point) (told : List Answer) (es fs : List (Event S)) (z end last : S) (e f : Env) →
    AsksAll t told es → Chained (λ i q s. h q s) z es end → t (told ++ told_by es) ≡ Goes e [] →
    AsksAll t told fs → Chained (λ i q s. h q s) z fs last → t (told ++ told_by fs) ≡ Goes f [] → (f ≡ e) × (last ≡ end)
same_end h t told [] [] z end last e f a c g b d k = (goes_is f e [] [] (sym k ∙ g), sym d ∙ c)
same_end h t told [] (y ∷ fs) z end last e f a c g b d k = never_goes (t told) y.question e [] b.0 (ap t (sym (append-nil told)) ∙ g)
same_end h t told (x ∷ es) [] z end last e f a c g b d k = never_goes (t told) x.question f [] a.0 (ap t (sym (append-nil told)) ∙ k)
same_end {S} h t told (x ∷ es) (y ∷ fs) z end last e f a c g b d k =
    let question : x.question ≡ y.question = waits_is x.question y.question (sym a.0 ∙ b.0) in
    let here = sym d.1 ∙ ap (λ q. h q z) (sym question) ∙ c.1 in
    let answers : y.answer ≡ x.answer = ap (λ (w : Handled S). w.answer) here in
    let stands : y.after ≡ x.after = ap (λ (w : Handled S). w.to) here in
    same_end h t (told ++ x.answer ∷ []) es fs x.after end last e f a.1 c.2
    (ap t (append_assoc told (x.answer ∷ []) (told_by es)) ∙ g)
    (subst (λ a. AsksAll t (told ++ a ∷ []) fs) answers b.1)
    (subst (λ s. Chained (λ i q s. h q s) s fs last) stands d.2)
    (ap t (append_assoc told (x.answer ∷ []) (told_by fs) ∙ ap (λ a. told ++ a ∷ told_by fs) (sym answers)) ∙ k)

module _ {B : Type 0} (F : Acts B Bool) where
  -- a standing without what was noted
  abbrev pub held : Standing B Bool → Held (State B)
  held z = record { at = z.at; left = z.left }

  held_so : (q : Question) (i : ℕ) (z : Standing B Bool) →
      from_front (calling F) i q (held z) ≡ (let h = serve F i q z in record { answer = h.answer; to = held h.to })
  held_so Choice i z = refl
  held_so (Call f args) i z = refl

  pub alike : (es : List (Event (Standing B Bool))) (start end : Standing B Bool) → Chained (serve F) start es end → Alike (from_front (calling F)) held es
  alike [] start end c = tt
  alike (e ∷ es) start end c = (
    held_so e.question e.place e.before ∙ ap (λ (h : Handled (Standing B Bool)). let g : Handled (Held (State B)) =
        record { answer = h.answer; to = held h.to } in g) (ap (λ z. serve F e.place e.question z) c.0 ∙ c.1),
    alike es e.after end c.2,
  )

  module _ (eval : Eval) (b : Block) (env : Env) (s : State B) (picks : Picks) where
    abbrev front_run : (Name → ℕ) → Reached (Held (State B))
    front_run space = direct_run eval space (from_front (calling F)) b env (record { at = s; left = picks })

    abbrev serve_run : Reached (Standing B Bool)
    serve_run = direct_run eval (λ f. 1) (serve F) b env (record { at = s; notes = []; left = picks })

    -- the run from the front is the direct run, whatever places calls have
    is_held : (space : Name → ℕ) → (serve_run.env ≡ (front_run space).env) × (serve_run.to.at ≡ (front_run space).to.at)
    is_held space =
        let start : Standing B Bool = record { at = s; notes = []; left = picks } in
        let first : Held (State B) = record { at = s; left = picks } in
        let f = block_follows eval (λ f. 1) (serve F) b.statements 0 env start in
        let m = block_mirrors eval (λ f. 1) (serve F) (from_front (calling F)) held b.statements 0 env start
        (alike serve_run.events start serve_run.to f.chained) in
        let p = block_follows eval (λ f. 1) (from_front (calling F)) b.statements 0 env first in
        let q = block_follows eval space (from_front (calling F)) b.statements 0 env first in
        let point = in_turn (map (run_of eval) b.statements) env in
        let both = same_end (λ q h. from_front (calling F) 0 q h) (in_turn (map (run_of eval) b.statements) env) [] (front_run (λ f. 1)).events
        (front_run space).events first
        (front_run (λ f. 1)).to (front_run space).to (front_run (λ f. 1)).env (front_run space).env
        p.asks p.chained (ap (in_turn (map (run_of eval) b.statements) env) (sym (append-nil (told_by (front_run (λ f. 1)).events))) ∙ p.goes [])
        q.asks q.chained (ap (in_turn (map (run_of eval) b.statements) env) (sym (append-nil (told_by (front_run space).events))) ∙ q.goes []) in (
          ap (λ (x : Reached (Held (State B))). x.env) (sym m) ∙ sym both.0,
          ap (λ (x : Reached (Held (State B))). x.to.at) (sym m) ∙ ap (λ (h : Held (State B)). h.at) (sym both.1),
        )

module _ {B : Type 0} (past : Bool) (space : Name → ℕ) (F : Acts B Bool) (tidy : IsTidy past space F) where
  pub calling_draws : IsDraw past (question_space space) (calling F)
  calling_draws = record { takes = takes; looks = looks; few = few }
    where
      takes : (q : Question) (z : State B) (picks : Picks) → let r = calling F q z picks in Taken past r.taken picks r.left
      takes Choice z picks = refl
      takes (Call f args) z picks = tidy.takes z f args picks

      looks : (q : Question) (z : State B) (picks other left : Picks) → let r = calling F q z picks in
          Taken past r.taken other left → calling F q z other ≡ record { answer = r.answer; to = r.to; taken = r.taken; left = left }
      looks Choice z picks other left t = ap (λ l. let d : Drawn (State B) = record { answer = None; to = z; taken = []; left = l } in d) (sym t)
      looks (Call f args) z picks other left t =
          ap (λ (d : Did B Bool). let r : Drawn (State B) = record { answer = d.answer; to = d.to; taken = d.notes; left = d.left } in r)
          (tidy.looks z f args picks other left t)

      few : (q : Question) (z : State B) (picks : Picks) → length (calling F q z picks).taken ≤ question_space space q
      few Choice z picks = omega arith
      few (Call f args) z picks = tidy.few z f args picks

  module _ (L : ClosedLayer) (b : Block) (args : Env) (from : State B) where
    abbrev finish : Env → State B → Finish B
    finish env to = record {
      answer = answer_of (eval_of L) b.answer env;
      to =
          on (take (length (memory_in from)) (take (length (memory_in from ++ args)) env)) to;
    }

    finish_so : (e f : Env) (y z : State B) → e ≡ f → y ≡ z → finish e y ≡ finish f z
    finish_so e f y z h g = ap (λ e. finish e y) h ∙ ap (finish f) g

    pub same_runs : SameRuns space F L b args from
    same_runs = record {
      front = λ picks.
          let h = fronted past (eval_of L) space (calling F) calling_draws b (memory_in from ++ args) (under from) picks in
          let same = h.taken ++ [] in
          let k = is_held F (eval_of L) b (memory_in from ++ args) (under from) same space in
          (same, finish_so _ _ _ _ (k.0 ∙ h.names []) (k.1 ∙ ap (λ (z : Held (State B)). z.at) (h.ends [])));
      place = λ picks.
          let p = all_placed past (eval_of L) space (calling F) calling_draws b (memory_in from ++ args) (under from) (room_of space b) (omega arith) picks in
          let k = is_held F (eval_of L) b (memory_in from ++ args) (under from) picks space in
          (p.put ++ [], ap (λ (r : Reached (State B)). finish r.env r.to) (p.mirrors []) ∙ finish_so _ _ _ _ (sym k.0) (sym k.1));
    }

-- a disk
module _ (past : Bool) where
  -- a call looks at the picks alone that it takes
  kind_looks : (kind : DiskKind) (s : (model_of kind).State) (call : disk.Call) (picks other left : Picks) → let r = kind_calls past kind s call picks in
      Taken past r.taken other left → kind_calls past kind s call other ≡ record { reply = r.reply; to = r.to; taken = r.taken; left = left }
  kind_looks Sync s (disk.Read at) picks other left t = let h : left ≡ other = t in cc
  kind_looks Sync s (disk.Write at row) picks other left t = let h : left ≡ other = t in cc
  kind_looks Sync s disk.Flush picks other left t = let h : left ≡ other = t in cc
  kind_looks Async s (disk.Read at) picks other left t = let h : left ≡ other = t in cc
  kind_looks Async s (disk.Write at row) picks other left t = let k : next_of past picks ≡ next_of past other = t.0 in let h : left ≡ later other = t.1 in cc
  kind_looks Async s disk.Flush picks other left t = let h : left ≡ other = t in cc

  kind_few : (kind : DiskKind) (s : (model_of kind).State) (call : disk.Call) (picks : Picks) → length (kind_calls past kind s call picks).taken ≤ 1
  kind_few Sync s (disk.Read at) picks = omega arith
  kind_few Sync s (disk.Write at row) picks = omega arith
  kind_few Sync s disk.Flush picks = omega arith
  kind_few Async s (disk.Read at) picks = omega arith
  kind_few Async s (disk.Write at row) picks = omega arith
  kind_few Async s disk.Flush picks = omega arith

  pub disk_tidy : (d : DiskText) → IsTidy past disk_space (disk_acts past d)
  disk_tidy d = record {
    takes = λ s name args picks. takes s (disk_call name args) picks;
    looks = λ s name args picks other left t. looks s (disk_call name args) picks other left t;
    few = λ s name args picks. few s (disk_call name args) picks;
  }
    where
      takes : (s : State Env) (c : Option disk.Call) (picks : Picks) → let r = disk_does past d s c picks in Taken past r.notes picks r.left
      takes s None picks = refl
      takes s (Some call) picks = (kind_steps past d.kind (state_in past d.kind s.base) call picks).1

      looks : (s : State Env) (c : Option disk.Call) (picks other left : Picks) → let r = disk_does past d s c picks in
          Taken past r.notes other left → disk_does past d s c other ≡ record { answer = r.answer; to = r.to; notes = r.notes; left = left }
      looks s None picks other left t = ap (λ l. let r : Did Env Bool = record { answer = None; to = s; notes = []; left = l } in r) (sym t)
      looks s (Some call) picks other left t =
          ap (λ (r : Replied (model_of d.kind).State). let x : Did Env Bool =
          record { answer = answer_to r.reply; to = based (tables_in d.kind r.to); notes = r.taken; left = r.left } in x)
          (kind_looks d.kind (state_in past d.kind s.base) call picks other left t)

      few : (s : State Env) (c : Option disk.Call) (picks : Picks) → length (disk_does past d s c picks).notes ≤ 1
      few s None picks = omega arith
      few s (Some call) picks = kind_few d.kind (state_in past d.kind s.base) call picks

  -- a specification
  pub spec_tidy : (L : ClosedLayer) → IsTidy past (spec_space L) (spec_acts past L)
  spec_tidy L = record {
    takes = λ s name args picks. takes s (operation_of L name) args picks;
    looks = λ s name args picks other left t. looks s (operation_of L name) args picks other left t;
    few = λ s name args picks. few s (operation_of L name) args picks;
  }
    where
      takes : (s : State Env) (o : Option Operation) (args : List Value) (picks : Picks) → let r = spec_does past L s o args picks in
          Taken past r.notes picks r.left
      takes s None args picks = refl
      takes s (Some o) args picks = (ran_gives past L o.spec s.base (bind o.arguments args) picks).takes

      looks : (s : State Env) (o : Option Operation) (args : List Value) (picks other left : Picks) → let r = spec_does past L s o args picks in
          Taken past r.notes other left → spec_does past L s o args other ≡ record { answer = r.answer; to = r.to; notes = r.notes; left = left }
      looks s None args picks other left t = ap (λ l. let r : Did Env Bool = record { answer = None; to = s; notes = []; left = l } in r) (sym t)
      looks s (Some o) args picks other left t =
          let r = block_ran past L o.spec s.base (bind o.arguments args) picks in
          ap (did_so past L) (block_whole past L o.spec s.base (bind o.arguments args) r.taken other left r.vars r.answer
          (ran_alone past L o.spec s.base (bind o.arguments args) picks) t)

      long_state : (es : List (Event (Held Picks))) (start end : Held Picks) → Chained (from_front (choosing past)) start es end →
          length end.at ≡ length start.at + length es
      long_state [] start end c = let h : length start.at ≡ length end.at = ap (λ (h : Held Picks). length h.at) c in omega (arith, h)
      long_state (e ∷ es) start end c =
          let h = long_state es e.after end c.2 in
          let s : length (start.at ++ next_of past start.left ∷ []) ≡ length e.after.at = ap (λ (h : Handled (Held Picks)). length h.to.at) c.1 in
          let n = long_append start.at (next_of past start.left ∷ []) in
          omega (arith, h, s, n)

      few : (s : State Env) (o : Option Operation) (args : List Value) (picks : Picks) →
          length (spec_does past L s o args picks).notes ≤ suc (elim o [ None ↦ 0 | Some o ↦ room_of (λ f. 1) o.spec ])
      few s None args picks = omega arith
      few s (Some o) args picks =
          let start : Held Picks = record { at = []; left = picks } in
          let r = chooses past L o.spec s.base (bind o.arguments args) picks in
          let f = block_follows (eval_of L) (λ f. 1) (from_front (choosing past)) o.spec.statements 0 (s.base ++ bind o.arguments args) start in
          let q = questions_few r.events 0 (room_of (λ f. 1) o.spec)
          (subst (λ n. Within (question_space (λ f. 1)) 0 r.events n) (room_is (λ f. 1) (eval_of L) (from_front (choosing past)) o.spec) f.within) in
          let l = long_state r.events start r.to f.chained in
          omega (arith, q, l)

pub runs_by_place_on_disk : RunsByPlaceOnDisk
runs_by_place_on_disk past d L b args from = same_runs past disk_space (disk_acts past d) (disk_tidy past d) L b args from

pub runs_by_place_on_spec : RunsByPlaceOnSpec
runs_by_place_on_spec past m L b args from = same_runs past (spec_space m) (spec_acts past m) (spec_tidy past m) L b args from
