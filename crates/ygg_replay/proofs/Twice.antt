-- Two recoveries, the first of which power cuts.
use Rattle.std.proofs.Common.{◌≡◌, Bool, ◌&&◌, List, [], refl, sym, ap, ◌∙◌, subst}
use Rattle.ygg_value.specs.declared.row.Value.{Value}
use Rattle.ygg_sched.specs.ygg_meaning.Environments.{Env, same_env}
use Rattle.ygg_sched.specs.ygg_meaning.Shapes.{zeros_of}
use Rattle.ygg_sched.specs.ygg_meaning.Machine.{State, based, on}
use Rattle.ygg_sched.specs.ygg_meaning.Layer.{BlockRuns}
use Rattle.ygg_sched.specs.ygg_meaning.Obligations.{Again}
use Rattle.ygg_sched.specs.ygg_meaning.Violates.{CutShort, FallsSo, RecoveredTwice, same_state}
use Rattle.ygg_eval.specs.Layers.{variables_at}
use Rattle.ygg_replay.specs.declared.site.ReplaySite.{ReplaySite}
use Rattle.ygg_sched.specs.declared.schedule.Schedule.{Schedule}
use Rattle.ygg_replay.specs.declared.ends.End.{End}
use Rattle.ygg_replay.specs.Ends.{EndFits, FellIn, RecoveredFrom, end_at, same_list}
use Rattle.ygg_replay.specs.Runs.{RanBy}
use Rattle.ygg_replay.specs.Sites.{closed_in, machine_in, memory_at, low_at, state_at}
use Rattle.ygg_replay.specs.Steps.{meant_at}
use Rattle.ygg_eval.specs.Zeros.{zero_values}
use Rattle.ygg_replay.proofs.Recovering.{same_bound}
use Rattle.ygg_replay.proofs.Serving.{low_fits}
use Rattle.ygg_replay.proofs.Typing.{bind_zeros}

module _ (s : ReplaySite) where
  -- a memory of values that are zeros is one of zeros
  from_zeros : (x : Schedule) (memory low : List Value) → memory ≡ zero_values s.layer.now.memory → low ≡ x.low →
      state_at s memory low ≡ on (zeros_of s.layer.now.memory) (based (low_at s x.low))
  from_zeros x memory low are low_is =
      ap (λ vs. state_at s memory vs) low_is ∙ (ap (λ vs. state_at s vs x.low) are ∙ ap (λ m. on m (based (low_at s x.low))) (bind_zeros s.layer.now.memory))

  -- power that cuts the recovery from it
  pub falls_again : (x : Schedule) (memory : List Value) → memory ≡ zero_values s.layer.now.memory → (fallen : Env) →
      FellIn s x s.layer.now.recover [] memory fallen → FallsSo (closed_in s) (machine_in s) Again (meant_at s x) fallen
  falls_again x memory are fallen f =
      subst (λ (from : State Env). CutShort (closed_in s) (machine_in s) s.layer.now.recover [] from (meant_at s x) fallen)
      (from_zeros x memory x.low are refl) f

  pub fell_again : (x : Schedule) (memory : List Value) → memory ≡ zero_values s.layer.now.memory → (fallen : Env) →
      FallsSo (closed_in s) (machine_in s) Again (meant_at s x) fallen → FellIn s x s.layer.now.recover [] memory fallen
  fell_again x memory are fallen f =
      subst (λ (from : State Env). CutShort (closed_in s) (machine_in s) s.layer.now.recover [] from (meant_at s x) fallen)
      (sym (from_zeros x memory x.low are refl)) f

  -- ends are the same where their values are
  same_end : (e f : End) → EndFits s e → EndFits s f →
      (same_list e.memory f.memory && same_list e.lower.values f.lower.values) ≡ same_state (end_at s e).to (end_at s f).to
  same_end e f he hf =
      ap (λ b. b && same_list e.lower.values f.lower.values) (sym (same_bound s.layer.now.memory e.memory f.memory he.memory hf.memory))
      ∙ ap (λ b. same_env (memory_at s e.memory) (memory_at s f.memory) && b)
      (sym (same_bound (variables_at s.typed.now.file s.place) e.lower.values f.lower.values (low_fits s e.lower he.lower) (low_fits s f.lower hf.lower)))

  -- the end of both, with this on the side
  abbrev pub with_side : End → Bool → End
  with_side e side = record { answer = e.answer; memory = e.memory; lower = e.lower; side = side }

  pub twice : (x : Schedule) (memory low left : List Value) (e f : End) (side : Bool) → memory ≡ zero_values s.layer.now.memory → low ≡ x.low →
      EndFits s e → EndFits s f → FellIn s x s.layer.now.recover [] memory (low_at s left) → RecoveredFrom s x (low_at s left) e →
      RanBy s s.layer.now.recover [] x.other (state_at s (zero_values s.layer.now.memory) low) f.answer (end_at s f).to →
      side ≡ (e.side && (same_list e.memory f.memory && same_list e.lower.values f.lower.values)) →
      RecoveredTwice (closed_in s) (machine_in s) (meant_at s x) (end_at s (with_side e side)) × EndFits s (with_side e side)
  twice x memory low left e f side are low_is he hf fell recovered r is = (
    record {
      fallen = low_at s left;
      falls = falls_again x memory are (low_at s left) fell;
      recovers = recovered.recovers;
      taken = r.taken;
      answer = f.answer;
      to = (end_at s f).to;
      run = subst (λ (from : State Env). BlockRuns (closed_in s) (machine_in s) s.layer.now.recover [] from r.taken f.answer (end_at s f).to)
          (from_zeros x (zero_values s.layer.now.memory) low refl low_is) r.run;
      read = r.read;
      side = is ∙ (ap (λ b. e.side && b) (same_end e f he hf) ∙ ap (λ b. b && same_state (end_at s e).to (end_at s f).to) recovered.side);
    },
    record { memory = he.memory; lower = he.lower },
  )
