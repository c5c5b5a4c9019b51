-- Runs with picks by place are runs that take these picks from the front, on a disk and on a specification.
use Rattle.std.proofs.Common.{◌≡◌, Bool, false, [], refl, ap, subst}
use Rattle.ygg_sym_laws.specs.ygg_meaning.Environments.{Env}
use Rattle.ygg_sym_laws.specs.ygg_meaning.Machine.{based}
use Rattle.ygg_sym_laws.specs.ygg_meaning.Refines.{OnDisk, OnSpec, machine_below}
use Rattle.ygg_sym_laws.specs.ygg_meaning.Spec.{start_outcome}
use Rattle.ygg_sym_laws.specs.ygg_meaning_laws.Machines.{IsSized, IsStateOf}
use Rattle.ygg_sym_laws.specs.ygg_meaning_laws.Acts.{Fell}
use Rattle.ygg_sym_laws.specs.ygg_meaning_laws.DiskActs.{disk_acts}
use Rattle.ygg_sym_laws.specs.ygg_meaning_laws.RunPlaces.{disk_space, spec_space}
use Rattle.ygg_sym_laws.specs.ygg_meaning_laws.SpecActs.{spec_acts}
use Rattle.ygg_sym_laws.specs.ygg_meaning_laws_proofs_DiskServes.{disk_serves}
use Rattle.ygg_sym_laws.specs.ygg_meaning_laws_proofs_SpecServes.{spec_serves}
use Rattle.ygg_sym_laws.proofs.of_ygg_meaning_laws.DirectTyped.{direct_on_disk, direct_on_spec}
use Rattle.ygg_sym_laws.specs.Typed.{SpecTyped}
use Rattle.ygg_sym_laws.specs.Fronts.{
  handle_on,
  takes_on,
  cut_on,
  lose_on,
  cut_takes_on,
  lose_takes_on,
  vars_in,
  low_at_start,
  answer_by_place,
  state_by_place,
  run_picks,
  fall_picks,
}
use Rattle.ygg_sym_laws.specs.FrontLaws.{RunsNamed, FallsNamed, LossNamed, StartNamed}
use Rattle.ygg_sym_laws.proofs.Acting.{runs_named, falls_named}
use Rattle.ygg_sym_laws.proofs.Disk.{disk_named, disk_falls_named}
use Rattle.ygg_sym_laws.proofs.Spec.{spec_named, spec_falls_named}

pub whole_runs : RunsNamed
whole_runs defs (OnDisk d) L b memory given low s bits =
    let G = OnDisk d in
    let sized : IsSized d (based low) = record { tables = low; is = refl; sized = s.shaped } in
    let direct = direct_on_disk false d L b given memory (based low) s.below s.block sized in
    let picks = run_picks G L b memory given low bits in
    let so = direct.0 picks [] (answer_by_place G L b memory given low bits) (state_by_place G L b memory given low bits) picks in
    (so.1 (runs_named (disk_acts false d) (handle_on G bits) (takes_on G bits) (disk_named d bits) disk_space L b memory given (based low))).run
whole_runs defs (OnSpec m) L b memory given low s bits =
    let G = OnSpec m in
    let t : SpecTyped defs m = s.below in
    let good : IsStateOf m (based low) = record { vars = low; is = refl; shaped = s.shaped } in
    let direct = direct_on_spec false m L _ b given memory (based low) t.answers t.sees s.block good in
    let picks = run_picks G L b memory given low bits in
    let so = direct.0 picks [] (answer_by_place G L b memory given low bits) (state_by_place G L b memory given low bits) picks in
    (so.1 (runs_named (spec_acts false m) (handle_on G bits) (takes_on G bits) (spec_named m bits) (spec_space m) L b memory given (based low))).run

pub cut_runs : FallsNamed
cut_runs defs (OnDisk d) L b memory given low s bits last stop fallen left =
    let G = OnDisk d in
    let sized : IsSized d (based low) = record { tables = low; is = refl; sized = s.shaped } in
    let direct = direct_on_disk false d L b given memory (based low) s.below s.block sized in
    let picks = fall_picks G L b memory given low bits last stop in
    let so = direct.1 stop picks [] fallen picks in
    let f = so.1 (falls_named (disk_acts false d) (handle_on G bits) (takes_on G bits) (disk_named d bits) disk_space L b memory given (based low)
    (cut_on G last) (lose_on G last) (cut_takes_on G last) (lose_takes_on G last) (disk_falls_named d last) stop fallen left) in
    record { run = f.run; stops = (f.within, f.event) }
cut_runs defs (OnSpec m) L b memory given low s bits last stop fallen left =
    let G = OnSpec m in
    let t : SpecTyped defs m = s.below in
    let good : IsStateOf m (based low) = record { vars = low; is = refl; shaped = s.shaped } in
    let direct = direct_on_spec false m L _ b given memory (based low) t.answers t.sees s.block good in
    let picks = fall_picks G L b memory given low bits last stop in
    let so = direct.1 stop picks [] fallen picks in
    let f = so.1 (falls_named (spec_acts false m) (handle_on G bits) (takes_on G bits) (spec_named m bits) (spec_space m) L b memory given (based low)
    (cut_on G last) (lose_on G last) (cut_takes_on G last) (lose_takes_on G last) (spec_falls_named m last) stop fallen left) in
    record { run = f.run; stops = (f.within, f.event) }

pub losses : LossNamed
losses defs (OnDisk d) low typed shaped last =
    let sized : IsSized d (based low) = record { tables = low; is = refl; sized = shaped } in
    ((disk_serves false d typed).loses (based low) [] sized).step
losses defs (OnSpec m) low typed shaped last =
    let G = OnSpec m in
    let t : SpecTyped defs m = typed in
    let good : IsStateOf m (based low) = record { vars = low; is = refl; shaped = shaped } in
    let picks = lose_takes_on G last (based low) in
    let l = (spec_serves false m t.answers _ t.sees.seen t.sees.fit).loses (based low) picks good in
    let e = (spec_falls_named m last).loses (based low) in
    subst (λ (f : Fell Env Bool). (machine_below G).Loses (based low) f.notes f.base) e l.step

pub starts : StartNamed
starts defs (OnDisk d) typed = (low_at_start (OnDisk d), refl, refl, refl)
starts defs (OnSpec m) typed =
    let t : SpecTyped defs m = typed in
    let s = t.answers.starts in
    let k = s.starts.1 in
    let is : vars_in (start_outcome m) ≡ k.vars = ap vars_in k.gives in (
      refl,
      record {
        vars = k.vars;
        answer = k.answer;
        gives = k.gives;
        to_is = ap (λ (e : Env). based e) is;
      },
    )
