-- Typed blocks on a disk.
use Rattle.std.proofs.Common.{◌≡◌, Bool, true, false, ◌++◌, length, ap, subst}
use Rattle.ygg_syntax.specs.declared.grammar.BlockKind.TheVariants.{Impl}
use Rattle.ygg_syntax.specs.declared.tree.Block.{Block}
use Rattle.ygg_meaning_laws.specs.ygg_type_rules.Names.{Named}
use Rattle.ygg_meaning_laws.specs.Signature.{Signature}
use Rattle.ygg_meaning_laws.specs.Files.{disk_operations}
use Rattle.ygg_meaning_laws.specs.Environments.{Env}
use Rattle.ygg_meaning_laws.specs.Layer.{ClosedLayer, dialogue_of}
use Rattle.ygg_meaning_laws.specs.DiskMachine.{DiskMachine}
use Rattle.ygg_meaning_laws.specs.Spec.{Spec}
use Rattle.ygg_meaning_laws.specs.Questions.{answer_fits, question_fits}
use Rattle.ygg_meaning_laws.specs.Machines.{IsSized, IsStateOf}
use Rattle.ygg_meaning_laws.proofs.Files.{have}
use Rattle.ygg_meaning_laws.proofs.ProgressSounds.{block_sound}
use Rattle.ygg_meaning_laws.specs.Acts.{noted_picks, Did}
use Rattle.ygg_meaning_laws.specs.DiskActs.{disk_acts}
use Rattle.ygg_meaning_laws.specs.SpecActs.{spec_acts}
use Rattle.ygg_meaning_laws.specs.DirectLaws.{IsTypedBlock, DirectOnDisk, DirectOnSpec, ReadsDirectly}
use Rattle.ygg_meaning_laws.proofs.Taking.{left_after, read_taken}
use Rattle.ygg_meaning_laws.proofs.Made.{IsServed}
use Rattle.ygg_meaning_laws.proofs.DiskActed.{disk_acted}
use Rattle.ygg_meaning_laws.proofs.DiskServes.{MayAsk, Fits, disk_serves}
use Rattle.ygg_meaning_laws.proofs.SpecActed.{spec_acted}
use Rattle.ygg_meaning_laws.proofs.SpecServes.{spec_serves}
use Rattle.ygg_meaning_laws.proofs.Agreed.{runs_unique, runs_directly, falls_directly}

-- a typed block asks what it may
pub typed_served : (L : ClosedLayer) (lower : Named Signature) (b : Block) (memory args : Env) → IsTypedBlock L lower b (memory ++ args) →
    IsServed (λ q. question_fits Impl lower q ≡ true) (λ q a. answer_fits lower q a ≡ true) (dialogue_of L b memory args)
typed_served L lower b memory args t answers q fit asks =
    subst (λ x. question_fits Impl x q ≡ true) t.lower_is
    ((block_sound L.functions lower (have L.functions) Impl t.scope b t.shape (memory ++ args) answers
    (record { lower_is = t.lower_is; agrees = t.agrees }) t.without_errors t.kept fit).asks q asks)

pub direct_on_disk : DirectOnDisk
direct_on_disk past d L b args memory lower fine typed sized = (
  runs_directly past noted_picks (DiskMachine d) (disk_acts past d) L b args (IsSized d) (MayAsk past d fine) (Fits past d fine) (disk_serves past d fine)
      memory lower sized (typed_served L (disk_operations d) b memory args typed) (disk_acted past d),
  falls_directly past noted_picks (DiskMachine d) (disk_acts past d) L b args (IsSized d) (MayAsk past d fine) (Fits past d fine) (disk_serves past d fine)
      memory lower sized (typed_served L (disk_operations d) b memory args typed) (disk_acted past d),
)

pub reads_directly : ReadsDirectly
reads_directly d L b args from to picks taken answer run read =
    let e = runs_unique false noted_picks (DiskMachine d) (disk_acts false d) L b args (disk_acted false d).calls from picks
    (left_after (length taken) picks) answer to taken
    (record { run = run; took = read_taken picks taken read }) in
    (ap (λ (x : Did Env Bool). x.answer) e, ap (λ (x : Did Env Bool). x.to) e, ap (λ (x : Did Env Bool). x.notes) e)

pub direct_on_spec : DirectOnSpec
direct_on_spec past m L operations b args memory lower answers sees typed good =
    let serves = spec_serves past m answers operations sees.seen sees.fit in (
      runs_directly past noted_picks (Spec m) (spec_acts past m) L b args (IsStateOf m) _ _ serves memory lower good
          (typed_served L operations b memory args typed) (spec_acted past m),
      falls_directly past noted_picks (Spec m) (spec_acts past m) L b args (IsStateOf m) _ _ serves memory lower good
          (typed_served L operations b memory args typed) (spec_acted past m),
    )
