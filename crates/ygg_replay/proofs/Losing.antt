-- Power that failed between operations of what a layer is specified over.
use Rattle.std.proofs.Common.{◌≡◌, ℕ, Result, Ok, Err, OnOk, ◌∙◌, subst}
use Rattle.ygg_list.specs.declared.memory.NoMemory.{NoMemory}
use Rattle.ygg_syntax.specs.declared.tree.File.{File}
use Rattle.ygg_sched.specs.ygg_disk.declared.power.Power.{Power}
use Rattle.ygg_sched.specs.ygg_meaning.Environments.{bind}
use Rattle.ygg_sched.specs.ygg_meaning.Machine.{Picks, based}
use Rattle.ygg_eval.specs.Layers.{variables_at, machine_at}
use Rattle.ygg_eval.specs.Lower.{Standing, Happened, outage_of}
use Rattle.ygg_eval.specs.Kept.{Kept, Loses}
use Rattle.ygg_replay.specs.declared.site.ReplaySite.{ReplaySite}
use Rattle.ygg_replay.specs.Sites.{IsBelow, low_at}
use Rattle.ygg_replay.specs.Runs.{fresh, LostBy}
use Rattle.ygg_replay.proofs.Picks.{reads}

pub lost_by : (s : ReplaySite) (k k' : Kept) (power power' : Power) (picks : Picks) → IsBelow s k → power ≡ fresh picks →
    Loses s.typed.now.file (record { machine = k; power = power }) Happened (record { machine = k'; power = power' }) →
    LostBy s (low_at s k.values) picks (low_at s k'.values)
lost_by s k k' power power' picks b fresh_is h =
    let file = s.typed.now.file in
    let to_number : k'.number ≡ s.place = h.number ∙ b.number in
    record {
      taken = h.picks;
      run = subst (λ (n : ℕ). (machine_at file s.place).Loses (based (low_at s k.values)) h.picks (bind (variables_at file n) k'.values)) to_number
          (subst (λ (n : ℕ). (machine_at file n).Loses (based (bind (variables_at file n) k.values)) h.picks
          (bind (variables_at file k'.number) k'.values)) b.number h.step);
      read = reads picks h.picks power power' fresh_is h.takes;
    }

-- where power was made to fail it did
pub where_lost : {A : Type 0} (file : File) (from to : Standing Kept) (r : Result (Unit {0}) NoMemory) → Loses file from (outage_of r) to →
    (Loses file from Happened to → A) → OnOk r A
where_lost file from to (Ok u) h f = f h
where_lost file from to (Err e) h f = tt
