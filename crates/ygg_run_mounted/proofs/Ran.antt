-- What a run on a ground over a device did.
use Rattle.std.proofs.Common.{◌≡◌, ℕ, List, Option, Result, Ok, Err, refl, ap, ◌∙◌, subst}
use Rattle.ygg_base.specs.declared.geometry.Geometry.{Geometry}
use Rattle.ygg_run_image.specs.ygg_base.Devices.{Attachment, Tells, AttachedTurns}
use Rattle.ygg_syntax.specs.declared.tree.File.{File}
use Rattle.ygg_syntax.specs.Files.{IsDerived}
use Rattle.ygg_run_commands.specs.ygg_type_rules.Files.{IsTyped}
use Rattle.ygg_value.specs.Shapes.{IsShape}
use Rattle.ygg_run_commands.specs.ygg_disk.Size.{table_shape}
use Rattle.ygg_run_commands.specs.ygg_type.Typed.{geometry_of}
use Rattle.ygg_run_commands.specs.ygg_script.declared.command.Command.{Command}
use Rattle.ygg_run_image.specs.Laws.{BlocksAreImages, ImagesHoldTheirRows}
use Rattle.ygg_run_commands.specs.OnGround.{layers_on}
use Rattle.ygg_run_commands.specs.Running.{IsRun}
use Rattle.ygg_run_commands.specs.Extending.{RunsExtend}
use Rattle.ygg_run_commands.specs.declared.halting.RunHalted.{RunHalted}
use Rattle.ygg_run_image.specs.DeviceMeaning.{device_meaning}
use Rattle.ygg_run_image.specs.Sight.{Sight, Holds}
use Rattle.ygg_run_image.specs.Standing.{KeepsHeader, StaysOn}
use Rattle.ygg_run_image.proofs.Staying.{stays_there, stays_keeps}
use Rattle.ygg_run_mounted.specs.OnDevice.{on_device, seen}
use Rattle.ygg_run_mounted.specs.Ran.{RanSo, RanPart}
use Rattle.ygg_run_mounted.proofs.Seen.{bare, run_seen}
use Rattle.ygg_run_mounted.proofs.Texts.{text_of}
use Rattle.ygg_run_mounted.proofs.Kept.{run_keeps}
use Rattle.ygg_run_mounted.proofs.Whole.{leaves_run}

module _ {S : Type 0} (look : S → Sight) (f : File) (script : List Command) (from to : S) (taken taken' : Option (List ℕ)) (DeviceRose SinkRose : Type 0)
    (geometry : (look from).geometry ≡ geometry_of f.disk) (holds : Holds (look from).geometry (look from).images (look from).attached)
    (result : Result (Unit {0}) RunHalted)
    (run : IsRun (layers_on (device_meaning look) f) f script from to taken taken' DeviceRose SinkRose result) where
  -- the ground stayed on its device
  pub stayed : StaysOn (look from) (look to)
  stayed =
      run_keeps (device_meaning look) (λ s. StaysOn (look from) (look s)) from (λ cause. stays_keeps look from holds cause) f script from to taken taken'
      DeviceRose SinkRose result (stays_there (look from) holds) run

  from_is : bare (look from) ≡ seen (geometry_of f.disk) (look from).images (look from).attached
  from_is = ap (λ (g : Geometry). seen g (look from).images (look from).attached) geometry

  to_is : bare (look to) ≡ seen (geometry_of f.disk) (look to).images (look from).attached
  to_is =
      ap (λ (g : Geometry). seen g (look to).images (look to).attached) (stayed.geometry ∙ geometry)
      ∙ ap (λ (a : Option Attachment). seen (geometry_of f.disk) (look to).images a) stayed.attached

  kept : Tells (AttachedTurns (KeepsHeader (geometry_of f.disk)) (look from).attached) (look from).images (look to).images
  kept = subst (λ (g : Geometry). Tells (AttachedTurns (KeepsHeader g) (look from).attached) (look from).images (look to).images) geometry stayed.images

  part : (why : RunHalted) → IsRun (layers_on (device_meaning look) f) f script from to taken taken' DeviceRose SinkRose (Err why) →
      RanPart f script (look from).images (look to).images (look from).attached taken taken' DeviceRose SinkRose why
  part why h =
      let on_sights = run_seen look f script from to taken taken' DeviceRose SinkRose DeviceRose SinkRose (λ rose. rose) (λ rose. rose) (Err why) h in
      let there =
      subst (λ (s : Sight). IsRun (layers_on on_device f) f script s (bare (look to)) taken taken' DeviceRose SinkRose (Err why)) from_is on_sights in
      let both =
      subst (λ (s : Sight). IsRun (layers_on on_device f) f script (seen (geometry_of f.disk) (look from).images (look from).attached) s taken taken'
      DeviceRose SinkRose (Err why)) to_is there in
      let (text, adds, puts) =
      text_of (layers_on on_device f) f script (seen (geometry_of f.disk) (look from).images (look from).attached)
      (seen (geometry_of f.disk) (look to).images (look from).attached) taken taken' DeviceRose SinkRose why both in
      record {
        text = text;
        puts = adds;
        run = puts;
        stays = record { reference = refl; geometry = refl; attached = refl; images = kept };
      }

  pub ran_so : RunsExtend (device_meaning look) → ∥ IsDerived f ∥₁ → IsTyped f → ImagesHoldTheirRows → BlocksAreImages →
      RanSo f script (look from).images (look to).images (look from).attached taken taken' DeviceRose SinkRose result
  ran_so law derived typed held images = by_result result run
    where
      limits : IsShape (table_shape (geometry_of f.disk))
      limits = subst (λ (g : Geometry). IsShape (table_shape g)) geometry holds.limits

      by_result : (r : Result (Unit {0}) RunHalted) → IsRun (layers_on (device_meaning look) f) f script from to taken taken' DeviceRose SinkRose r →
          RanSo f script (look from).images (look to).images (look from).attached taken taken' DeviceRose SinkRose r
      by_result (Ok done) (es, at, runs, is, adds) = record {
        entries = es;
        ran = runs.ran;
        text = adds;
        leaves = λ name first attached mounts.
            leaves_run f name held images look law derived typed limits script from to es at runs is first (look from).images (look to).images mounts
            (subst (λ (o : Option Attachment). Tells (AttachedTurns (KeepsHeader (geometry_of f.disk)) o) (look from).images (look to).images) attached kept)
            (from_is ∙ ap (λ (o : Option Attachment). seen (geometry_of f.disk) (look from).images o) attached)
            (to_is ∙ ap (λ (o : Option Attachment). seen (geometry_of f.disk) (look to).images o) attached);
      }
      by_result (Err why) h = part why h
