-- Power fails in layers on one another at some disk call of the direct run.
use Rattle.std.proofs.Common.{
  if◌then◌else◌,
  ◌≡◌,
  ℕ,
  zero,
  suc,
  Bool,
  true,
  false,
  List,
  [],
  ◌∷◌,
  ◌++◌,
  length,
  option_map,
  Option,
  Some,
  None,
  refl,
  sym,
  ap,
  ◌∙◌,
  subst,
  append_assoc,
}
use Rattle.std.proofs.lemmas.List.{append-nil}
use Rattle.ygg_value.specs.declared.row.Value.{Value}
use Rattle.ygg_syntax.specs.declared.tree.Block.{Block}
use Rattle.ygg_syntax.specs.declared.tree.DiskText.{DiskText}
use Rattle.ygg_syntax.specs.declared.tree.Operation.{Operation}
use Rattle.ygg_meaning_laws.specs.ygg_disk.Disk as disk
use Rattle.ygg_meaning_laws.specs.Environments.{Name, Env, bind}
use Rattle.ygg_meaning_laws.specs.Progress.{Question, Choice, Call, Answer, Ends}
use Rattle.ygg_meaning_laws.specs.Machine.{Picks, State, based, on, memory_in, Machine}
use Rattle.ygg_meaning_laws.specs.Runs.{FallenRun, FallsAt, answers_of, notes_of}
use Rattle.ygg_meaning_laws.specs.Layer.{ClosedLayer, Layered, operation_of, dialogue_of, BlockFalls}
use Rattle.ygg_meaning_laws.specs.ygg_disk.Kinds.{model_of}
use Rattle.ygg_meaning_laws.specs.DiskMachine.{disk_call, answer_to, tables_in}
use Rattle.ygg_meaning_laws.specs.Obligations.{Halt}
use Rattle.ygg_meaning_laws.specs.Stack.{Layers, Stacked}
use Rattle.ygg_meaning_laws.specs.Direct.{Handled, Event, Reached, told_by, Chained}
use Rattle.ygg_meaning_laws.specs.Acts.{Taken, Took, under, Did, Fell, Acts, Notes, AreCalls, Standing, serve, run_from, runs}
use Rattle.ygg_meaning_laws.specs.Places.{left_after}
use Rattle.ygg_meaning_laws.specs.DiskActs.{Replied, Dropped, kind_calls, kind_falls, state_in}
use Rattle.ygg_meaning_laws.specs.StackActs.{layer_does, stack_acts}
use Rattle.ygg_meaning_laws.specs.StackFalls.{
  Step,
  step_picks,
  StepDisk,
  step_does,
  cut_step,
  lost_on,
  step_acts,
  after_step,
  dropped_in,
  whole_in,
  cut_in,
  StacksFallDirectly,
  StacksFallOnce,
}
use Rattle.ygg_meaning_laws.proofs.Taking.{taken_split}
use Rattle.ygg_meaning_laws.proofs.Unique.{Asked, question_is, never_both, standing, walk}
use Rattle.ygg_meaning_laws.proofs.Running.{run_asks, run_chains, run_ends}
use Rattle.ygg_meaning_laws.proofs.DiskActed.{state_is, call_replies, fall_drops}
use Rattle.ygg_meaning_laws.proofs.StackActed.{stack_calls}

step_joined : (a b : List Step) → step_picks (a ++ b) ≡ step_picks a ++ step_picks b
step_joined [] b = refl
step_joined (n ∷ a) b = ap (λ z. n.picks ++ z) (step_joined a b) ∙ sym (append_assoc n.picks (step_picks a) (step_picks b))

abbrev step_notes : Notes Step
step_notes = record { picks_in = step_picks; none = refl; joined = step_joined }

-- whole disk calls that go from one base to another
abbrev Joins : Env → List Step → Env → Type 0
Joins a [] b = a ≡ b
Joins a (n ∷ ns) b = (n.base ≡ a) × ((n.cut ≡ false) × ((c : Env) × Joins c ns b))

joins_append : (a b c : Env) (xs ys : List Step) → Joins a xs b → Joins b ys c → Joins a (xs ++ ys) c
joins_append a b c [] ys h g = subst (λ z. Joins z ys c) (sym h) g
joins_append a b c (n ∷ xs) ys h g = (h.0, (h.1.0, (h.1.1.0, joins_append h.1.1.0 b c xs ys h.1.1.1 g)))

left_is : (past : Bool) (a picks left : Picks) → Taken past a picks left → left ≡ left_after (length a) picks
left_is past [] picks left h = h
left_is past (t ∷ a) picks left h = left_is past a (Rattle.ygg_meaning_laws.specs.Acts.later picks) left h.1

module _ (past : Bool) (d : DiskText) where
  -- more disk calls follow
  more_after : (within : Bool) (xs ys : List Step) (k : ℕ) (mid end : Env) (picks : Picks) (f : Fell Env Step) → Joins mid ys end →
      dropped_in past d within xs k mid picks ≡ Some f →
      dropped_in past d within (xs ++ ys) k end picks ≡ Some f
  more_after true [] [] zero mid end picks f j h = absurd (cc)
  more_after false [] [] zero mid end picks f j h = ap (λ z. Some (lost_on past d z picks)) (sym j) ∙ h
  more_after true [] (y ∷ ys) zero mid end picks f j h = absurd (cc)
  more_after false [] (y ∷ ys) zero mid end picks f j h = ap (λ z. Some (lost_on past d z picks)) j.0 ∙ h
  more_after within [] ys (suc k) mid end picks f j h = absurd (cc)
  more_after within (n ∷ xs) ys zero mid end picks f j h = h
  more_after within (n ∷ xs) ys (suc k) mid end picks f j h =
      by_rest (dropped_in past d within xs k mid (left_after (length n.picks) picks))
      (λ g e. more_after within xs ys k mid end (left_after (length n.picks) picks) g j e) h
    where
      by_rest : (o : Option (Fell Env Step)) → ((g : Fell Env Step) → o ≡ Some g →
          dropped_in past d within (xs ++ ys) k end (left_after (length n.picks) picks) ≡ Some g) →
          option_map (after_step past d n) o ≡ Some f → option_map (after_step past d n)
          (dropped_in past d within (xs ++ ys) k end (left_after (length n.picks) picks)) ≡ Some f
      by_rest None again h = absurd (cc)
      by_rest (Some g) again h = ap (option_map (after_step past d n)) (again g refl) ∙ h

  -- disk calls came before
  more_before : (within : Bool) (xs ys : List Step) (k : ℕ) (end : Env) (picks mid left : Picks) (base : Env) (notes : List Step) →
      Taken past (step_picks xs) picks mid →
      dropped_in past d within ys k end mid ≡ Some (record { base = base; notes = notes; left = left }) →
      (n : ℕ) × (dropped_in past d within (xs ++ ys) n end picks ≡ Some (record { base = base; notes = xs ++ notes; left = left }))
  more_before within [] ys k end picks mid left base notes took h = (k, ap (dropped_in past d within ys k end) (sym took) ∙ h)
  more_before within (x ∷ xs) ys k end picks mid left base notes took h =
      let s = taken_split past x.picks (step_picks xs) picks mid took in
      let r = more_before within xs ys k end s.mid mid left base notes s.second h in (
        suc r.0,
        ap (λ z. option_map (after_step past d x) (dropped_in past d within (xs ++ ys) r.0 end z))
            (sym (left_is past x.picks picks s.mid s.first)) ∙ ap (option_map (after_step past d x)) r.1,
      )

  -- a function whose disk calls go from the base of a state to that after it
  abbrev AllJoin : Acts Env Step → Type 0
  AllJoin F = (s : State Env) (name : Name) (args : List Value) (picks : Picks) → let r = F.calls s name args picks in Joins s.base r.notes r.to.base

  record Tail (from : Standing Env Step) (end : Standing Env Step) : Type 0 where
    tail : List Step
    is : end.notes ≡ from.notes ++ tail
    joins : Joins from.at.base tail end.at.base

  tail_of : (F : Acts Env Step) → AllJoin F → (es : List (Event (Standing Env Step))) (from end : Standing Env Step) → Chained (serve F) from es end →
      Tail from end
  tail_of F all [] from end c = record {
    tail = [];
    is = ap (λ (z : Standing Env Step). z.notes) (sym c) ∙ sym (append-nil from.notes);
    joins = ap (λ (z : Standing Env Step). z.at.base) c;
  }
  tail_of F all (e ∷ es) from end c =
      let one = by_question e.question from in
      let r = tail_of F all es e.after end c.2 in
      let stands : e.after ≡ (serve F e.place e.question from).to = ap (λ (h : Handled (Standing Env Step)). h.to) (sym c.1) in
      let o = subst (λ z. Tail from z) (sym stands) one in
      record {
        tail = o.tail ++ r.tail;
        is = r.is ∙ ap (λ z. z ++ r.tail) o.is ∙ append_assoc from.notes o.tail r.tail;
        joins = joins_append from.at.base e.after.at.base end.at.base o.tail r.tail o.joins r.joins;
      }
    where
      by_question : (q : Question) (z : Standing Env Step) → Tail z (serve F e.place q z).to
      by_question Choice z = record { tail = []; is = sym (append-nil z.notes); joins = refl }
      by_question (Call f args) z = record { tail = (F.calls z.at f args z.left).notes; is = refl; joins = all z.at f args z.left }

  -- all layers on a disk
  disk_joins : AllJoin (step_acts past d)
  disk_joins s name args picks = by_call (disk_call name args)
    where
      by_call : (c : Option disk.Call) → let r = step_does past d s c picks in Joins s.base r.notes r.to.base
      by_call None = refl
      by_call (Some call) = (refl, (refl, (_, refl)))

  layer_joins : (G : Acts Env Step) → AllJoin G → (L : ClosedLayer) (s : State Env) (o : Option Operation) (args : List Value) (picks : Picks) →
      let r = layer_does L G s o args picks in Joins s.base r.notes r.to.base
  layer_joins G all L s None args picks = refl
  layer_joins G all L s (Some o) args picks =
      let r = run_from G L o.implementation (bind o.arguments args) s picks in
      let t = tail_of G all r.events (record { at = under s; notes = []; left = picks }) r.to
      (run_chains G L o.implementation (memory_in s) (bind o.arguments args) (under s) picks) in
      subst (λ ns. Joins s.base ns r.to.at.base) (sym t.is) t.joins

  stack_joins : (layers : Layers) → AllJoin (stack_acts (step_acts past d) layers)
  stack_joins [] = disk_joins
  stack_joins (L ∷ lower) = λ s name args picks. layer_joins (stack_acts (step_acts past d) lower) (stack_joins lower) L s (operation_of L name) args picks

  -- a disk, each call of which is noted with its base
  step_calls : AreCalls past step_notes (StepDisk d) (step_acts past d)
  step_calls s s' name args notes picks left y h took =
      let (b, b', call, reply, named, from_is, (bits, noted, (x, z, at, step, shows)), answer, to) = h in
      let taken : Taken past bits picks left = subst (λ t. Taken past t picks left) (ap step_picks noted ∙ append-nil bits) took in
      ap (λ c. step_does past d s c picks) named
      ∙ ap (λ (e : State Env). step_does past d e (Some call) picks) (from_is ∙ ap based at)
      ∙ ap (λ y. did call (tables_in d.kind x) (kind_calls past d.kind y call picks)) (state_is past d.kind x)
      ∙ ap (did call (tables_in d.kind x)) (call_replies past d.kind x z call bits picks left reply step taken)
      ∙ made_so (answer_to reply) y (based (tables_in d.kind z)) s'
      (record { base = tables_in d.kind x; call = call; cut = false; picks = bits } ∷ []) notes left
      (sym answer) (ap based (sym shows) ∙ sym to) (ap (λ e. let n : Step = record { base = e; call = call; cut = false; picks = bits } in n ∷ [])
      (sym at) ∙ sym noted)
    where
      did : disk.Call → Env → Replied (model_of d.kind).State → Did Env Step
      did call e r = record {
        answer = answer_to r.reply;
        to = based (tables_in d.kind r.to);
        notes =
            record { base = e; call = call; cut = false; picks = r.taken } ∷ [];
        left = r.left;
      }

      made_so : (y z : Answer) (s t : State Env) (n m : List Step) (left : Picks) → y ≡ z → s ≡ t → n ≡ m →
          record { answer = y; to = s; notes = n; left = left } ≡ (let r : Did Env Step = record { answer = z; to = t; notes = m; left = left } in r)
      made_so y z s t n m left h g k = cc

  -- power fails between operations
  abbrev pub AllLose : Machine Env Step → Type 0
  AllLose M = (s : State Env) (notes : List Step) (picks left : Picks) (f : Env) → M.Loses s notes f → Taken past (step_picks notes) picks left →
      lost_on past d s.base picks ≡ record { base = f; notes = notes; left = left }

  abbrev pub AllFall : Machine Env Step → Acts Env Step → Type 0
  AllFall M F = (s : State Env) (name : Name) (args : List Value) (notes : List Step) (picks left : Picks) (f : Env) → M.Falls s name args notes f →
      Taken past (step_picks notes) picks left →
      (stop : Halt) × (dropped_in past d stop.within (F.calls s name args picks).notes stop.event (F.calls s name args picks).to.base picks ≡ Some
      (record { base = f; notes = notes; left = left }))

  disk_loses : AllLose (StepDisk d)
  disk_loses s notes picks left f h took =
      let (b, none, from_is, (x, at, shows)) = h in
      ap (λ (e : State Env). lost (state_in past d.kind e.base) picks) (from_is ∙ ap based at) ∙ ap (λ y. lost y picks) (state_is past d.kind x)
      ∙ lost_so _ f notes picks left (sym shows) none (subst (λ t. Taken past (step_picks t) picks left) none took)
    where
      lost : (model_of d.kind).State → Picks → Fell Env Step
      lost x picks = record { base = tables_in d.kind ((model_of d.kind).lost x); notes = []; left = picks }

      lost_so : (e f : Env) (notes : List Step) (picks left : Picks) → e ≡ f → notes ≡ [] → left ≡ picks →
          record { base = e; notes = []; left = picks } ≡ (let r : Fell Env Step = record { base = f; notes = notes; left = left } in r)
      lost_so e f notes picks left h n l = cc

  disk_falls : AllFall (StepDisk d) (step_acts past d)
  disk_falls s name args notes picks left f h took =
      let (b, call, named, from_is, (bits, noted, (x, z, at, step, shows))) = h in
      let taken : Taken past bits picks left = subst (λ t. Taken past t picks left) (ap step_picks noted ∙ append-nil bits) took in (
        record { within = true; event = 0 },
        ap (λ c. dropped_in past d true (step_does past d s c picks).notes 0 (step_does past d s c picks).to.base picks) named
            ∙ ap (λ (e : State Env). Some (cut_step past d e.base call picks)) (from_is ∙ ap based at)
            ∙ ap (λ y. Some (fell call (tables_in d.kind x) (kind_falls past d.kind y call picks))) (state_is past d.kind x)
            ∙ ap (λ r. Some (fell call (tables_in d.kind x) r)) (fall_drops past d.kind x z call bits picks left step taken)
            ∙ ap Some (fell_so (tables_in d.kind z) f (record { base = tables_in d.kind x; call = call; cut = true; picks = bits } ∷ []) notes left (sym shows)
            (ap (λ e. let n : Step = record { base = e; call = call; cut = true; picks = bits } in n ∷ []) (sym at) ∙ sym noted)),
      )
    where
      fell : disk.Call → Env → Dropped (model_of d.kind).State → Fell Env Step
      fell call e r = record { base = tables_in d.kind r.to; notes = record { base = e; call = call; cut = true; picks = r.taken } ∷ []; left = r.left }

      fell_so : (e f : Env) (n m : List Step) (left : Picks) → e ≡ f → n ≡ m →
          record { base = e; notes = n; left = left } ≡ (let r : Fell Env Step = record { base = f; notes = m; left = left } in r)
      fell_so e f n m left h g = cc

  -- a layer on a machine
  module _ (M : Machine Env Step) (F : Acts Env Step) (L : ClosedLayer) (acted : AreCalls past step_notes M F) (all : AllJoin F) (loses : AllLose M)
      (falls : AllFall M F) where
    layer_loses : AllLose (Layered L M)
    layer_loses s notes picks left f h took =
        ap (λ (s : State Env). lost_on past d s.base picks) h.from_is ∙ loses h.lower notes picks left f h.falls took

    module _ (b : Block) (args memory : Env) (lower : State Env) (picks : Picks) where
      abbrev reached : Reached (Standing Env Step)
      reached = run_from F L b args (on memory lower) picks

      -- the disk calls after so many whole calls, and where power fails in them
      record Rest (before : List Step) (mid left : Picks) (f : Env) (last : List Step) : Type 0 where
        steps : List Step
        is : reached.to.notes ≡ before ++ steps
        within : Bool
        number : ℕ
        drops : dropped_in past d within steps number reached.to.at.base mid ≡ Some (record { base = f; notes = last; left = left })

      rest_of : (within : Bool) (told : List Answer) (at : State Env) (before last : List Step) (mid left : Picks) (f : Env) →
          FallsAt within M (dialogue_of L b memory args) told at last f →
          Taken past (step_picks last) mid left → (rest : List (Event (Standing Env Step))) → Asked (dialogue_of L b memory args) told rest →
          Chained (serve F) (standing at before mid) rest reached.to → (env : Env) (y : Answer) →
          dialogue_of L b memory args (told ++ told_by rest) ≡ Ends env y →
          Rest before mid left f last
      rest_of false told at before last mid left f h took rest asked chained env y ends =
          let t = tail_of F all rest (standing at before mid) reached.to chained in
          record {
            steps = t.tail;
            is = t.is;
            within = false;
            number = 0;
            drops = more_after false [] t.tail 0 at.base reached.to.at.base mid _ t.joins (ap Some (loses at last mid left f h took));
          }
      rest_of true told at before last mid left f h took [] asked chained env y ends =
          never_both (dialogue_of L b memory args told) (Call h.name h.args) env y h.asks (ap (dialogue_of L b memory args) (sym (append-nil told)) ∙ ends)
      rest_of true told at before last mid left f h took (e ∷ rest) asked chained env y ends =
          let c = F.calls at h.name h.args mid in
          let question : e.question ≡ Call h.name h.args = question_is e.question (Call h.name h.args) (sym asked.0 ∙ h.asks) in
          let stands : e.after ≡ standing c.to (before ++ c.notes) c.left =
          ap (λ (x : Handled (Standing Env Step)). x.to) (sym chained.1) ∙ ap (λ q. (serve F e.place q (standing at before mid)).to) question in
          let t = tail_of F all rest e.after reached.to chained.2 in
          let g = falls at h.name h.args last mid left f h.falls took in
          record {
            steps = c.notes ++ t.tail;
            is = t.is ∙ ap (λ (z : Standing Env Step). z.notes ++ t.tail) stands ∙ append_assoc before c.notes t.tail;
            within = g.0.within;
            number = g.0.event;
            drops = more_after g.0.within c.notes t.tail g.0.event c.to.base reached.to.at.base mid _
                (subst (λ (z : Standing Env Step). Joins z.at.base t.tail reached.to.at.base) stands t.joins) g.1;
          }

      block_falls : (notes : List Step) (left : Picks) (f : Env) (run : FallenRun M (dialogue_of L b memory args) lower notes f) →
          Taken past (step_picks notes) picks left →
          (stop : Halt) × (dropped_in past d stop.within reached.to.notes stop.event reached.to.at.base picks ≡ Some
          (record { base = f; notes = notes; left = left }))
      block_falls notes left f run took =
          let split = taken_split past (step_picks (notes_of run.calls)) (step_picks run.last) picks left
          (subst (λ t. Taken past t picks left) (ap step_picks run.takes ∙ step_joined (notes_of run.calls) run.last) took) in
          let w = walk past step_notes M F acted (dialogue_of L b memory args) [] run.calls lower run.at run.path
          [] picks split.mid split.first reached.events reached.to
          (run_asks F L b memory args lower picks) (run_chains F L b memory args lower picks) _ _ (run_ends F L b memory args lower picks) in
          let r = rest_of run.within (answers_of run.calls) run.at
          (notes_of run.calls) run.last split.mid left f run.falls split.second w.rest w.asks w.chained _ _
          (ap (dialogue_of L b memory args) (sym w.told_is) ∙ run_ends F L b memory args lower picks) in
          let k = more_before r.within (notes_of run.calls) r.steps r.number reached.to.at.base picks split.mid left f run.last split.first r.drops in (
            record { within = r.within; event = k.0 },
            ap (λ ns. dropped_in past d r.within ns k.0 reached.to.at.base picks) r.is ∙ k.1
                ∙ ap (λ ns. Some (let x : Fell Env Step = record { base = f; notes = ns; left = left } in x)) (sym run.takes),
          )

    layer_falls : (G : Acts Env Step) → ((s : State Env) (name : Name) (args : List Value) (picks : Picks) →
        G.calls s name args picks ≡ layer_does L F s (operation_of L name) args picks) → AllFall (Layered L M) G
    layer_falls G same s name args notes picks left f h took =
        let run : BlockFalls L M h.operation.implementation (bind h.operation.arguments args) s notes f = h.step in
        let k = block_falls h.operation.implementation (bind h.operation.arguments args) run.memory run.lower picks notes left f run.run took in (
          k.0,
          ap (λ (r : Did Env Step). dropped_in past d k.0.within r.notes k.0.event r.to.base picks)
              (same s name args picks ∙ ap (λ o. layer_does L F s o args picks) h.is
              ∙ ap (λ (s : State Env). layer_does L F s (Some h.operation) args picks) run.from_is)
              ∙ k.1,
        )

  record Stack (layers : Layers) : Type 0 where
    loses : AllLose (Stacked (StepDisk d) layers)
    falls : AllFall (Stacked (StepDisk d) layers) (stack_acts (step_acts past d) layers)

  stack_all : (layers : Layers) → Stack layers
  stack_all [] = record { loses = disk_loses; falls = disk_falls }
  stack_all (L ∷ lower) =
      let s = stack_all lower in
      let M = Stacked (StepDisk d) lower in
      let F = stack_acts (step_acts past d) lower in
      let acted = stack_calls past step_notes (StepDisk d) (step_acts past d) step_calls lower in
      record {
        loses = layer_loses M F L acted (stack_joins lower) s.loses s.falls;
        falls = layer_falls M F L acted (stack_joins lower) s.loses s.falls (stack_acts (step_acts past d) (L ∷ lower)) (λ s name args picks. refl);
      }

pub stacks_fall_directly : StacksFallDirectly
stacks_fall_directly past d layers s name args notes picks left f h took = (stack_all past d layers).falls s name args notes picks left f h took

some_is : (past : Bool) (d : DiskText) (f g : Fell Env Step) → Some f ≡ Some g → f ≡ g
some_is past d f g h = cc

-- the notes tell the stop
module _ (past : Bool) (d : DiskText) where
  pub stop_told : (within : Bool) (ns : List Step) (k : ℕ) (from end : Env) (picks : Picks) (f : Fell Env Step) → Joins from ns end →
      dropped_in past d within ns k end picks ≡ Some f →
      (whole_in f.notes ≡ k) × (cut_in f.notes ≡ within)
  stop_told true [] zero from end picks f j h = absurd (cc)
  stop_told false [] zero from end picks f j h = let e = some_is past d _ f h in
      (ap (λ (f : Fell Env Step). whole_in f.notes) (sym e), ap (λ (f : Fell Env Step). cut_in f.notes) (sym e))
  stop_told within [] (suc k) from end picks f j h = absurd (cc)
  stop_told true (n ∷ ns) zero from end picks f j h = let e = some_is past d _ f h in
      (ap (λ (f : Fell Env Step). whole_in f.notes) (sym e), ap (λ (f : Fell Env Step). cut_in f.notes) (sym e))
  stop_told false (n ∷ ns) zero from end picks f j h = let e = some_is past d _ f h in
      (ap (λ (f : Fell Env Step). whole_in f.notes) (sym e), ap (λ (f : Fell Env Step). cut_in f.notes) (sym e))
  stop_told within (n ∷ ns) (suc k) from end picks f j h =
      by_rest (dropped_in past d within ns k end (left_after (length n.picks) picks))
      (λ g e. stop_told within ns k j.1.1.0 end (left_after (length n.picks) picks) g j.1.1.1 e) h
    where
      by_rest : (o : Option (Fell Env Step)) → ((g : Fell Env Step) → o ≡ Some g → (whole_in g.notes ≡ k) × (cut_in g.notes ≡ within)) →
          option_map (after_step past d n) o ≡ Some f →
          (whole_in f.notes ≡ suc k) × (cut_in f.notes ≡ within)
      by_rest None again h = absurd (cc)
      by_rest (Some g) again h =
          let e = some_is past d (after_step past d n g) f h in
          let r = again g refl in (
            ap (λ (f : Fell Env Step). whole_in f.notes) (sym e) ∙ ap (λ c. if c then whole_in g.notes else suc (whole_in g.notes)) j.1.0 ∙ ap suc r.0,
            ap (λ (f : Fell Env Step). cut_in f.notes) (sym e) ∙ ap (λ c. if c then true else cut_in g.notes) j.1.0 ∙ r.1,
          )

pub stacks_fall_once : StacksFallOnce
stacks_fall_once past d layers s name args notes other picks left right f g h took k also counted cut =
    let a = stacks_fall_directly past d layers s name args notes picks left f h took in
    let b = stacks_fall_directly past d layers s name args other picks right g k also in
    let r = (stack_acts (step_acts past d) layers).calls s name args picks in
    let joins = stack_joins past d layers s name args picks in
    let x = stop_told past d a.0.within r.notes a.0.event s.base r.to.base picks _ joins a.1 in
    let y = stop_told past d b.0.within r.notes b.0.event s.base r.to.base picks _ joins b.1 in
    let events : a.0.event ≡ b.0.event = sym x.0 ∙ counted ∙ y.0 in
    let withins : a.0.within ≡ b.0.within = sym x.1 ∙ cut ∙ y.1 in
    let same = some_is past d _ _ (sym a.1 ∙ ap (λ w. dropped_in past d w r.notes a.0.event r.to.base picks) withins
    ∙ ap (λ n. dropped_in past d b.0.within r.notes n r.to.base picks) events ∙ b.1) in
    (ap (λ (f : Fell Env Step). f.notes) same, ap (λ (f : Fell Env Step). f.base) same)
