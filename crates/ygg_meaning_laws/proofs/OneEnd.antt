-- Whichever runs have the schedule's picks, the conclusion is the same.
use Rattle.std.proofs.Common.{◌≡◌, Bool, false, ◌&&◌, [], ◌++◌, length, Option, Some, None, sym, ap, ◌∙◌, subst}
use Rattle.ygg_syntax.specs.declared.tree.Block.{Block}
use Rattle.ygg_syntax.specs.declared.tree.DiskText.{DiskText}
use Rattle.ygg_meaning_laws.specs.Environments.{Env}
use Rattle.ygg_meaning_laws.specs.Progress.{Answer}
use Rattle.ygg_meaning_laws.specs.MeaningShapes.{zeros_of}
use Rattle.ygg_meaning_laws.specs.Machine.{Picks, State, on, based, Machine}
use Rattle.ygg_meaning_laws.specs.Layer.{ClosedLayer, BlockRuns}
use Rattle.ygg_meaning_laws.specs.Spec.{Outcome, Spec}
use Rattle.ygg_meaning_laws.specs.DiskMachine.{DiskMachine}
use Rattle.ygg_meaning_laws.specs.Related.{settled}
use Rattle.ygg_meaning_laws.specs.Obligations.{Obligation, Init, CallOf, CutOf, TickOf, CutTickOf, Idle, Again, Schedule, Halt, IsRead, StopsAt}
use Rattle.ygg_meaning_laws.specs.Refines.{OnDisk, OnSpec}
use Rattle.ygg_meaning_laws.specs.Violates.{
  End,
  same_state,
  related_after,
  answers_alike,
  Reached,
  passes,
  Formatted,
  RanWhole,
  CutShort,
  LostBetween,
  FallsSo,
  Recovers,
  FellAndRecovered,
  RecoveredTwice,
}
use Rattle.ygg_meaning_laws.specs.Acts.{Did, Fell, Acts, noted_picks, IsActed}
use Rattle.ygg_meaning_laws.specs.DiskActs.{disk_acts}
use Rattle.ygg_meaning_laws.specs.SpecActs.{spec_acts}
use Rattle.ygg_meaning_laws.specs.Replaying.{OneConclusion}
use Rattle.ygg_meaning_laws.proofs.Taking.{left_after, read_taken}
use Rattle.ygg_meaning_laws.proofs.Agreed.{runs_unique, falls_unique}
use Rattle.ygg_meaning_laws.proofs.DiskActed.{disk_acted}
use Rattle.ygg_meaning_laws.proofs.SpecActed.{spec_acted}

-- a machine that does only what a function of picks says, has one start state, and wakes without a pick
pub record IsOne (M : Machine Env Bool) (F : Acts Env Bool) : Type 0 where
  pub acted : IsActed false noted_picks M F
  pub starts : (s t : State Env) (a b : Picks) → M.Starts s a → M.Starts t b → s ≡ t
  pub quiet : (s : State Env) (a : Picks) → M.Starts s a → a ≡ []
  pub wakes : (f : Env) (a : Picks) (s : State Env) → M.Wakes f a s → (a ≡ []) × (s ≡ based f)

pub disk_one : (d : DiskText) → IsOne (DiskMachine d) (disk_acts false d)
disk_one d = record {
  acted = disk_acted false d;
  starts = λ s t a b h g. h.2 ∙ ap based (h.3 ∙ sym g.3) ∙ sym g.2;
  quiet = λ s a h. h.1;
  wakes = λ f a s h. (h.0, h.1);
}

pub spec_one : (L : ClosedLayer) → IsOne (Spec L) (spec_acts false L)
spec_one L = record {
  acted = spec_acted false L;
  starts = λ s t a b h g. h.1.to_is ∙ ap based (vars_are _ _ (sym h.1.gives ∙ g.1.gives)) ∙ sym g.1.to_is;
  quiet = λ s a h. h.0;
  wakes = λ f a s h. (h.0, h.1);
}
  where
    vars_are : (o p : Outcome) → Some o ≡ Some p → o.vars ≡ p.vars
    vars_are o p h = cc

module _ (M : Machine Env Bool) (F : Acts Env Bool) (one : IsOne M F) (L : ClosedLayer) where
  -- two runs that read one list
  runs_one : (b : Block) (args : Env) (from : State Env) (picks a c : Picks) (y z : Answer) (s t : State Env) →
      BlockRuns L M b args from a y s → IsRead picks a → BlockRuns L M b args from c z t → IsRead picks c → (y ≡ z) × (s ≡ t)
  runs_one b args from picks a c y z s t run read run' read' =
      let e = runs_unique false noted_picks M F L b args one.acted.calls from picks (left_after (length a) picks) y s a
      (record { run = run; took = read_taken picks a read }) in
      let f = runs_unique false noted_picks M F L b args one.acted.calls from picks (left_after (length c) picks) z t c
      (record { run = run'; took = read_taken picks c read' }) in
      let g = sym e ∙ f in
      (ap (λ (d : Did Env Bool). d.answer) g, ap (λ (d : Did Env Bool). d.to) g)

  -- two runs that read one list and stop at one place
  falls_one : (b : Block) (args : Env) (from : State Env) (x : Schedule) (f g : Env) → CutShort L M b args from x f → CutShort L M b args from x g → f ≡ g
  falls_one b args from x f g h k = at_stop x.stop h.stop k.stop
    where
      some_are : (p q : Fell Env Bool) → Some p ≡ Some q → p.base ≡ q.base
      some_are p q h = cc

      at_stop : (stop : Option Halt) → StopsAt stop h.run.run.within (length h.run.run.calls) → StopsAt stop k.run.run.within (length k.run.run.calls) → f ≡ g
      at_stop None a c = absurd a
      at_stop (Some stop) a c =
          let d = falls_unique false noted_picks M F L b args one.acted from stop x.picks (left_after (length h.taken) x.picks) f h.taken
          (record { run = h.run; within = a.0; event = a.1; took = read_taken x.picks h.taken h.read }) in
          let e = falls_unique false noted_picks M F L b args one.acted from stop x.picks (left_after (length k.taken) x.picks) g k.taken
          (record { run = k.run; within = c.0; event = c.1; took = read_taken x.picks k.taken k.read }) in
          some_are _ _ (sym d ∙ e)

  -- two losses of power
  lost_one : (x : Schedule) (f g : Env) → LostBetween L M x f → LostBetween L M x g → f ≡ g
  lost_one x f g h k =
      let d = one.acted.loses (based x.low) h.taken x.picks (left_after (length h.taken) x.picks) f h.run (read_taken x.picks h.taken h.read) in
      let e = one.acted.loses (based x.low) k.taken x.picks (left_after (length k.taken) x.picks) g k.run (read_taken x.picks k.taken k.read) in
      ap (λ (f : Fell Env Bool). f.base) (sym d ∙ e)

  -- two recoveries from one base
  wakes_one : (x : Schedule) (f g : Env) (s t : State Env) → f ≡ g → Recovers L M x f s → Recovers L M x g t → s ≡ t
  wakes_one x f g s t same h k =
      let a = one.wakes f h.run.first h.run.lower h.run.wakes in
      let c = one.wakes g k.run.first k.run.lower k.run.wakes in
      let r = h.run.next in let q = k.run.next in
      (runs_one L.layer.recover [] (on (zeros_of L.layer.memory) h.run.lower) x.wake h.run.second k.run.second r.0 q.0 s t r.1
      (subst (IsRead x.wake) (h.run.takes ∙ ap (λ z. z ++ h.run.second) a.0) h.read)
      (subst (λ l. BlockRuns L M L.layer.recover [] (on (zeros_of L.layer.memory) l) k.run.second q.0 t) (c.1 ∙ ap based (sym same) ∙ sym a.1) q.1)
      (subst (IsRead x.wake) (k.run.takes ∙ ap (λ z. z ++ k.run.second) c.0) k.read)).1

  formats_one : (x : Schedule) (e f : End) → Formatted L M x e → Formatted L M x f → e.to ≡ f.to
  formats_one x e f h k =
      let a = one.quiet h.run.lower h.run.first h.run.starts in
      let c = one.quiet k.run.lower k.run.first k.run.starts in
      let same = one.starts k.run.lower h.run.lower k.run.first h.run.first k.run.starts h.run.starts in
      (runs_one L.layer.format [] (on (zeros_of L.layer.memory) h.run.lower) x.picks h.run.second k.run.second h.run.answer k.run.answer e.to f.to h.run.formats
      (subst (IsRead x.picks) (h.run.takes ∙ ap (λ z. z ++ h.run.second) a) h.read)
      (subst (λ l. BlockRuns L M L.layer.format [] (on (zeros_of L.layer.memory) l) k.run.second k.run.answer f.to) same k.run.formats)
      (subst (IsRead x.picks) (k.run.takes ∙ ap (λ z. z ++ k.run.second) c) k.read)).1

  whole_one : (b : Block) (args : Env) (x : Schedule) (e f : End) → RanWhole L M b args x e → RanWhole L M b args x f → (e.answer ≡ f.answer) × (e.to ≡ f.to)
  whole_one b args x e f h k = runs_one b args _ x.picks h.taken k.taken e.answer f.answer e.to f.to h.run h.read k.run k.read

  -- where power fails
  falls_so_one : (o : Obligation) (x : Schedule) (f g : Env) → FallsSo L M o x f → FallsSo L M o x g → f ≡ g
  falls_so_one Init x f g h k = absurd h
  falls_so_one (CallOf o) x f g h k = absurd h
  falls_so_one (CutOf o) x f g h k = falls_one o.implementation _ _ x f g h k
  falls_so_one (TickOf t) x f g h k = absurd h
  falls_so_one (CutTickOf t) x f g h k = falls_one t.body _ _ x f g h k
  falls_so_one Idle x f g h k = lost_one x f g h k
  falls_so_one Again x f g h k = falls_one L.layer.recover _ _ x f g h k

  fell_one : (o : Obligation) (x : Schedule) (e f : End) → FellAndRecovered L M o x e → FellAndRecovered L M o x f → (e.side ≡ f.side) × (e.to ≡ f.to)
  fell_one o x e f h k =
      let same = falls_so_one o x h.fallen k.fallen h.falls k.falls in
      (h.side ∙ ap (settled L) same ∙ sym k.side, wakes_one x h.fallen k.fallen e.to f.to same h.recovers k.recovers)

  twice_one : (x : Schedule) (e f : End) → RecoveredTwice L M x e → RecoveredTwice L M x f → e.side ≡ f.side
  twice_one x e f h k =
      let same = falls_so_one Again x h.fallen k.fallen h.falls k.falls in
      let to = wakes_one x h.fallen k.fallen e.to f.to same h.recovers k.recovers in
      let other = (runs_one L.layer.recover [] _ x.other h.taken k.taken h.answer k.answer h.to k.to h.run h.read k.run k.read).1 in
      h.side ∙ ap (λ z. settled L z && same_state e.to h.to) same ∙ ap (λ z. settled L k.fallen && same_state z h.to) to
      ∙ ap (λ z. settled L k.fallen && same_state f.to z) other ∙ sym k.side

  pub conclusions_one : (o : Obligation) (x : Schedule) (e f : End) → Reached L M o x e → Reached L M o x f → (out : Option Outcome) →
      passes L o e out ≡ passes L o f out
  conclusions_one Init x e f h k out = ap (λ s. related_after L s out) (formats_one x e f h k)
  conclusions_one (CallOf o) x e f h k out =
      let w = whole_one o.implementation _ x e f h k in
      ap (λ y. answers_alike y out && related_after L e.to out) w.0 ∙ ap (λ s. answers_alike f.answer out && related_after L s out) w.1
  conclusions_one (CutOf o) x e f h k out =
      let w = fell_one (CutOf o) x e f h k in ap (λ b. b && related_after L e.to out) w.0 ∙ ap (λ s. f.side && related_after L s out) w.1
  conclusions_one (TickOf t) x e f h k out = ap (λ s. related_after L s out) (whole_one t.body [] x e f h k).1
  conclusions_one (CutTickOf t) x e f h k out =
      let w = fell_one (CutTickOf t) x e f h k in ap (λ b. b && related_after L e.to out) w.0 ∙ ap (λ s. f.side && related_after L s out) w.1
  conclusions_one Idle x e f h k out =
      let w = fell_one Idle x e f h k in ap (λ b. b && related_after L e.to out) w.0 ∙ ap (λ s. f.side && related_after L s out) w.1
  conclusions_one Again x e f h k out = twice_one x e f h k

pub one_conclusion : OneConclusion
one_conclusion (OnDisk d) L o x e f h k out = conclusions_one (DiskMachine d) (disk_acts false d) (disk_one d) L o x e f h k out
one_conclusion (OnSpec m) L o x e f h k out = conclusions_one (Spec m) (spec_acts false m) (spec_one m) L o x e f h k out
