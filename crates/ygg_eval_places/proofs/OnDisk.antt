-- A disk with one pick does what it does by place, and the pick is noted just where it is taken.
use Rattle.std.proofs.Common.{
  ◌≡◌,
  ◌≤◌,
  ◌<◌,
  ℕ,
  Bool,
  true,
  false,
  length,
  arith,
  if◌then◌else◌,
  nat_lt,
  List,
  [],
  ◌∷◌,
  ◌++◌,
  Option,
  Some,
  None,
  Ok,
  refl,
  sym,
  ap,
  ◌∙◌,
  subst,
}
use Rattle.std.specs.Prelude.{slice_get}
use Rattle.std.proofs.lemmas.Bool.Decides.{nat_tests}
use Rattle.std.proofs.lemmas.List.{append-nil}
use Rattle.ygg_value.specs.declared.row.Value.{Value}
use Rattle.ygg_base.specs.declared.geometry.DiskKind.{DiskKind}
use Rattle.ygg_base.specs.declared.geometry.DiskKind.TheVariants.{Sync, Async}
use Rattle.ygg_syntax.specs.declared.grammar.BlockKind.TheVariants.{Impl}
use Rattle.ygg_syntax.specs.declared.tree.DiskText.{DiskText}
use Rattle.ygg_syntax.specs.declared.tree.File.{File}
use Rattle.ygg_eval.specs.ygg_type_rules.declared.scope.Signature.{Signature}
use Rattle.ygg_eval.specs.ygg_disk.Disk as disk
use Rattle.ygg_eval.specs.ygg_disk.Kinds.{model_of}
use Rattle.ygg_eval.specs.ygg_disk.Power.{Takes}
use Rattle.ygg_eval.specs.ygg_disk.declared.power.Picks.{Picks as Source}
use Rattle.ygg_eval.specs.ygg_disk.declared.power.Power.{Power}
use Rattle.ygg_eval.specs.ygg_disk.declared.turn.Turn.{Turn}
use Rattle.ygg_eval.specs.ygg_disk.declared.turn.Turn.TheVariants as turn
use Rattle.ygg_eval.specs.ygg_meaning.DiskMachine.{disk_call}
use Rattle.ygg_eval.specs.ygg_meaning.Environments.{Name, Env, bind}
use Rattle.ygg_eval.specs.ygg_meaning.Machine.{Picks, State, based}
use Rattle.ygg_eval.specs.ygg_meaning.Progress.{Answer, Call}
use Rattle.ygg_eval.specs.ygg_meaning.Shapes.{values_fit}
use Rattle.ygg_eval.specs.ygg_meaning_laws.Questions.{question_fits}
use Rattle.ygg_eval.specs.ygg_meaning_laws.Acts.{Taken, Did, Fell as Left}
use Rattle.ygg_eval.specs.ygg_meaning_laws.DiskActs.{kind_calls, kind_falls, state_in, disk_does, disk_drops}
use Rattle.ygg_eval.proofs.of_ygg_meaning_laws.DiskActed.{disk_acted}
use Rattle.ygg_eval_places.specs.ygg_sym_laws.Taking.{whole_picks, cut_picks}
use Rattle.ygg_eval.specs.Layers.{machine_at, signatures_at, variables_at}
use Rattle.ygg_eval.specs.Lower.{Standing, Whole, Happened, Called, Fell, AfterWhole, IsCallable, Serves, ending_of}
use Rattle.ygg_eval.specs.Ready.{IsPlace}
use Rattle.ygg_eval.specs.Kept.{Kept, Loses, named_in, spec_meaning, standing}
use Rattle.ygg_eval_places.specs.Steps.{Answered, FellWithin, FellBetween, one_pick, whole_answer}
use Rattle.ygg_eval_places.proofs.Calls.{callable}

-- the pick where one was taken
abbrev pub seen_pick : Bool → Source → Picks
seen_pick pick after = if nat_lt 0 after.next then pick ∷ [] else []

pub is_seen : (n : ℕ) → 0 < n → nat_lt 0 n ≡ true
is_seen n h = grind (arith, nat_tests)

pub is_unseen : (n : ℕ) → n ≤ 0 → nat_lt 0 n ≡ false
is_unseen n h = grind (arith, nat_tests)

-- past the end of one pick
abbrev spent : Bool → Source
spent pick = record { bits = pick ∷ []; next = 1; past = false }

past_end : (pick : Bool) (taken : Picks) (after : Source) → Takes taken (spent pick) after → Taken false taken [] []
past_end pick [] after h = refl
past_end pick (t ∷ taken) after h = (h.0, past_end pick taken after h.1)

-- what is taken of one pick
taken_one : (pick : Bool) (taken : Picks) (after : Source) → Takes taken (one_pick pick).picks after → (left : Picks) × Taken false taken (pick ∷ []) left
taken_one pick [] after h = (pick ∷ [], refl)
taken_one pick (t ∷ taken) after h = ([], (h.0, past_end pick taken after h.1))

-- at most the one pick
record Single (pick : Bool) (taken : Picks) : Type 0 where
  pub more : Picks
  pub is : taken ++ more ≡ pick ∷ []

-- where at most the one pick is taken it is noted just then
seen_is : (pick : Bool) (taken more : Picks) (after : Source) → taken ++ more ≡ pick ∷ [] → Takes taken (one_pick pick).picks after →
    seen_pick pick after ≡ taken
seen_is pick [] more after is h = ap (seen_pick pick) h
seen_is pick (t ∷ []) more after is h = ap (seen_pick pick) h.1 ∙ ap (λ (b : Bool). b ∷ []) (sym h.0)
seen_is pick (t ∷ u ∷ taken) more after is h = absurd (cc)

one_whole : (kind : DiskKind) (pick : Bool) (call : Option disk.Call) → Single pick (whole_picks kind pick call)
one_whole Sync pick call = record { more = pick ∷ []; is = refl }
one_whole Async pick None = record { more = pick ∷ []; is = refl }
one_whole Async pick (Some (disk.Read at)) = record { more = pick ∷ []; is = refl }
one_whole Async pick (Some (disk.Write at row)) = record { more = []; is = refl }
one_whole Async pick (Some disk.Flush) = record { more = pick ∷ []; is = refl }

one_cut : (pick : Bool) (call : Option disk.Call) → Single pick (cut_picks pick call)
one_cut pick None = record { more = pick ∷ []; is = refl }
one_cut pick (Some (disk.Read at)) = record { more = pick ∷ []; is = refl }
one_cut pick (Some (disk.Write at row)) = record { more = []; is = refl }
one_cut pick (Some disk.Flush) = record { more = pick ∷ []; is = refl }

kind_whole : (kind : DiskKind) (s : (model_of kind).State) (call : disk.Call) (pick : Bool) →
    (kind_calls false kind s call (pick ∷ [])).taken ≡ whole_picks kind pick (Some call)
kind_whole Sync s (disk.Read at) pick = refl
kind_whole Sync s (disk.Write at row) pick = refl
kind_whole Sync s disk.Flush pick = refl
kind_whole Async s (disk.Read at) pick = refl
kind_whole Async s (disk.Write at row) pick = refl
kind_whole Async s disk.Flush pick = refl

kind_cut : (kind : DiskKind) (s : (model_of kind).State) (call : disk.Call) (pick : Bool) →
    (kind_falls false kind s call (pick ∷ [])).taken ≡ cut_picks pick (Some call)
kind_cut Sync s (disk.Read at) pick = refl
kind_cut Sync s (disk.Write at row) pick = refl
kind_cut Sync s disk.Flush pick = refl
kind_cut Async s (disk.Read at) pick = refl
kind_cut Async s (disk.Write at row) pick = refl
kind_cut Async s disk.Flush pick = refl

none_whole : (kind : DiskKind) (pick : Bool) → [] ≡ whole_picks kind pick None
none_whole Sync pick = refl
none_whole Async pick = refl

does_takes : (d : DiskText) (z : State Env) (call : Option disk.Call) (pick : Bool) →
    (disk_does false d z call (pick ∷ [])).notes ≡ whole_picks d.kind pick call
does_takes d z None pick = none_whole d.kind pick
does_takes d z (Some call) pick = kind_whole d.kind (state_in false d.kind z.base) call pick

drops_takes : (d : DiskText) (z : State Env) (call : Option disk.Call) (pick : Bool) → (disk_drops false d z call (pick ∷ [])).notes ≡ cut_picks pick call
drops_takes d z None pick = refl
drops_takes d z (Some call) pick = kind_cut d.kind (state_in false d.kind z.base) call pick

operation_is : (a b : Name × Signature) → Some a ≡ Some b → a ≡ b
operation_is a b h = cc

-- the place of an operation has one name
name_is : (operations : List (Name × Signature)) (place : ℕ) (a b : Name) (s t : Signature) → slice_get operations place ≡ Some (a, s) →
    slice_get operations place ≡ Some (b, t) → a ≡ b
name_is operations place a b s t h g = ap (λ (x : Name × Signature). x.0) (operation_is (a, s) (b, t) (sym h ∙ g))

zero_least : (n : ℕ) → 0 ≤ n
zero_least n = omega arith

-- a disk with the values that it was given
pub disk_is : (m : Kept) (values low : List Value) → m ≡ record { number = 0; values = values } → values ≡ low →
    m ≡ record { number = 0; values = low }
disk_is m values low e f = e ∙ ap (λ (vs : List Value). let k : Kept = record { number = 0; values = vs } in k) f

module _ (file : File) (low : List Value) where
  -- the disk with one pick
  abbrev from : Bool → Standing Kept
  from pick = standing 0 low (one_pick pick)

  abbrev state : State Env
  state = based (bind (variables_at file 0) low)

  named : (k : Kept) → k.number ≡ 0 → named_in file k ≡ bind (variables_at file 0) k.values
  named k e = ap (λ n. bind (variables_at file n) k.values) e

  fit_after : (to : Standing Kept) → Serves spec_meaning file 0 to → values_fit (variables_at file 0) to.machine.values ≡ true
  fit_after to serves = ap (λ n. values_fit (variables_at file n) to.machine.values) (sym serves.numbered) ∙ serves.fits.fit

  module _ (bits : ℕ → Bool) (place : ℕ) (name : Name) (args : List Value) (op : ℕ) (there : IsPlace (signatures_at file 0) name op) (to : Standing Kept)
      (picks : Picks) where
    abbrev ToAnswer : Answer → Type 0
    ToAnswer answer = Answered file 0 bits place (Call name args) low answer to.machine.values picks (picks ++ seen_pick (bits place) to.power.picks)

    whole : (answer : Answer) → Called spec_meaning file (signatures_at file 0) op args (Whole answer) (from (bits place)) to →
        Serves spec_meaning file 0 to → ToAnswer answer
    whole answer called serves =
        let pick = bits place in
        let s = called.step in
        let same : called.name ≡ name = name_is (signatures_at file 0) op called.name name called.operation there.operation called.is there.is in
        let step = subst (λ (n : Name). (machine_at file 0).Calls state n args s.picks answer (based (named_in file to.machine))) same s.step in
        let t = taken_one pick s.picks to.power.picks s.takes.picks in
        let acted = (disk_acted false file.disk).calls state (based (named_in file to.machine)) name args s.picks (pick ∷ []) t.0 answer step t.1 in
        let takes = whole_picks file.disk.kind pick (disk_call name args) in
        let noted : s.picks ≡ takes = sym (ap (λ (x : Did Env Bool). x.notes) acted) ∙ does_takes file.disk state (disk_call name args) pick in
        let one = one_whole file.disk.kind pick (disk_call name args) in
        record {
          answer = sym (ap (λ (x : Did Env Bool). x.answer) acted);
          to = ap (λ (e : Env). based e) (sym (named to.machine s.number)) ∙ sym (ap (λ (x : Did Env Bool). x.to) acted);
          fit = fit_after to serves;
          taken = ap (λ ps. picks ++ ps)
              (seen_is pick takes one.more to.power.picks one.is (subst (λ ps. Takes ps (one_pick pick).picks to.power.picks) noted s.takes.picks));
        }

    -- a whole call
    by_turn : (t : Turn) → Called spec_meaning file (signatures_at file 0) op args (ending_of (Ok t)) (from (bits place)) to →
        AfterWhole (ending_of (Ok t)) (Serves spec_meaning file 0 to) → ToAnswer (whole_answer t)
    by_turn turn.Done called serves = whole None called serves
    by_turn (turn.Answer v) called serves = whole (Some v) called serves
    by_turn turn.Down called serves = absurd (called.step)
    by_turn turn.Failed called serves = absurd (called.step)

  -- the disk may be called
  pub ready : (m : Kept) (p : Power) (pick : Bool) → m ≡ record { number = 0; values = low } → p ≡ one_pick pick →
      values_fit (variables_at file 0) low ≡ true → Serves spec_meaning file m.number (record { machine = m; power = p })
  ready m p pick mi pi fit =
      subst (λ (k : Kept). Serves spec_meaning file k.number (record { machine = k; power = p })) (sym mi)
      (record { numbered = refl; fits = record { there = zero_least (length file.layers); fit = fit }; fuse = λ some. refl })

  pub called_by : (name : Name) (args : List Value) → question_fits Impl (signatures_at file 0) (Call name args) ≡ true → (op : ℕ) →
      IsPlace (signatures_at file 0) name op → (m : Kept) → m ≡ record { number = 0; values = low } → IsCallable (signatures_at file m.number) op args
  called_by name args asks op there m mi =
      subst (λ (k : Kept). IsCallable (signatures_at file k.number) op args) (sym mi) (callable (signatures_at file 0) name args asks op there)

  -- a whole call of a disk
  pub answered : (bits : ℕ → Bool) (place : ℕ) (name : Name) (args : List Value) (op : ℕ) → IsPlace (signatures_at file 0) name op →
      (m m' : Kept) (p p' : Power) (picks picks' : Picks) (low' : List Value) (t : Turn) (answer : Answer) →
      m ≡ record { number = 0; values = low } → p ≡ one_pick (bits place) →
      Called spec_meaning file (signatures_at file m.number) op args (ending_of (Ok t)) (record { machine = m; power = p })
      (record { machine = m'; power = p' }) →
      AfterWhole (ending_of (Ok t)) (Serves spec_meaning file m.number (record { machine = m'; power = p' })) → low' ≡ m'.values →
      picks' ≡ picks ++ seen_pick (bits place) p'.picks → answer ≡ whole_answer t → Answered file 0 bits place (Call name args) low answer low' picks picks'
  answered bits place name args op there m m' p p' picks picks' low' t answer mi pi called serves li ni ai =
      let to : Standing Kept = record { machine = m'; power = p' } in
      let there' = subst (λ (k : Kept). Called spec_meaning file (signatures_at file k.number) op args (ending_of (Ok t))
      (record { machine = k; power = p }) to) mi called in
      let called' = subst (λ (q : Power). Called spec_meaning file (signatures_at file 0) op args (ending_of (Ok t))
      (record { machine = record { number = 0; values = low }; power = q }) to) pi there' in
      let serves' = subst (λ (k : Kept). AfterWhole (ending_of (Ok t)) (Serves spec_meaning file k.number to)) mi serves in
      subst (λ a. Answered file 0 bits place (Call name args) low a low' picks picks') (sym ai)
      (subst (λ v. Answered file 0 bits place (Call name args) low (whole_answer t) v picks picks') (sym li)
      (subst (λ ps. Answered file 0 bits place (Call name args) low (whole_answer t) m'.values picks ps) (sym ni)
      (by_turn bits place name args op there to picks t called' serves')))

  -- power fails within a call of a disk
  pub fell : (last : ℕ → Bool) (name : Name) (args : List Value) (op : ℕ) → IsPlace (signatures_at file 0) name op →
      (m m' : Kept) (p p' : Power) (picks picks' : Picks) (low' : List Value) →
      m ≡ record { number = 0; values = low } → p ≡ one_pick (last 0) →
      Fell spec_meaning file (signatures_at file m.number) op args Happened (record { machine = m; power = p }) (record { machine = m'; power = p' }) →
      Serves spec_meaning file m.number (record { machine = m'; power = p' }) → low' ≡ m'.values →
      picks' ≡ picks ++ seen_pick (last 0) p'.picks → FellWithin file 0 last (Call name args) low low' picks picks'
  fell last name args op there m m' p p' picks picks' low' mi pi fallen serves li ni =
      let pick = last 0 in
      let to : Standing Kept = record { machine = m'; power = p' } in
      let fallen' = subst (λ (k : Kept). Fell spec_meaning file (signatures_at file k.number) op args Happened (record { machine = k; power = p }) to)
      mi fallen in
      let f = subst (λ (q : Power). Fell spec_meaning file (signatures_at file 0) op args Happened
      (record { machine = record { number = 0; values = low }; power = q }) to) pi fallen' in
      let serves' = subst (λ (k : Kept). Serves spec_meaning file k.number to) mi serves in
      let s = f.step in
      let same : f.name ≡ name = name_is (signatures_at file 0) op f.name name f.operation there.operation f.is there.is in
      let step = subst (λ (n : Name). (machine_at file 0).Falls state n args s.picks (named_in file m')) same s.step in
      let t = taken_one pick s.picks p'.picks s.takes.picks in
      let acted = (disk_acted false file.disk).falls state name args s.picks (pick ∷ []) t.0 (named_in file m') step t.1 in
      let takes = cut_picks pick (disk_call name args) in
      let noted : s.picks ≡ takes = sym (ap (λ (x : Left Env Bool). x.notes) acted) ∙ drops_takes file.disk state (disk_call name args) pick in
      let one = one_cut pick (disk_call name args) in
      subst (λ v. FellWithin file 0 last (Call name args) low v picks picks') (sym li)
      (record {
        base = sym (named m' s.number) ∙ sym (ap (λ (x : Left Env Bool). x.base) acted);
        fit = fit_after to serves';
        taken = ni ∙ ap (λ ps. picks ++ ps)
            (seen_is pick takes one.more p'.picks one.is (subst (λ ps. Takes ps (one_pick pick).picks p'.picks) noted s.takes.picks));
      })

  -- power fails between calls of a disk
  pub lost : (m m' : Kept) (p p' : Power) (low' : List Value) → m ≡ record { number = 0; values = low } → p ≡ one_pick false →
      Loses file (record { machine = m; power = p }) Happened (record { machine = m'; power = p' }) →
      Serves spec_meaning file m.number (record { machine = m'; power = p' }) → low' ≡ m'.values →
      (last : ℕ → Bool) (picks : Picks) → FellBetween file 0 last low low' picks picks
  lost m m' p p' low' mi pi gone serves li last picks =
      let to : Standing Kept = record { machine = m'; power = p' } in
      let gone' = subst (λ (k : Kept). Loses file (record { machine = k; power = p }) Happened to) mi gone in
      let s = subst (λ (q : Power). Loses file (record { machine = record { number = 0; values = low }; power = q }) Happened to) pi gone' in
      let serves' = subst (λ (k : Kept). Serves spec_meaning file k.number to) mi serves in
      let t = taken_one false s.picks p'.picks s.takes.picks in
      let acted = (disk_acted false file.disk).loses state s.picks (false ∷ []) t.0 (named_in file m') s.step t.1 in
      subst (λ v. FellBetween file 0 last low v picks picks) (sym li)
      (record {
        base = sym (named m' s.number) ∙ sym (ap (λ (x : Left Env Bool). x.base) acted);
        fit = fit_after to serves';
        taken = sym (append-nil picks);
      })
