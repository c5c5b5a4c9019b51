use Rattle.ygg_base.specs.Outside.{Rose}
use Rattle.ygg_run_commands.proofs.of_ygg_meaning_laws.Derived.{derivable_derived}
use Rattle.ygg_run_image.specs.declared.device_ground.DeviceGround.{DeviceGround}
use Rattle.ygg_run_image.specs.Sight.{Sight}
use Rattle.ygg_run_image.proofs.Held.{holds_here}
use Rattle.ygg_run_mounted.proofs.Ran.{stayed, ran_so}
use Rattle.ygg_run_mounted.proofs.running.run_ground.Goals as goal

pub returns-clause-same_reference : goal.returns-clause-same_reference
returns-clause-same_reference g c =
    let look : DeviceGround g.row.D.Denot g.D.Device → Sight = λ s. record {
      reference = s.device.ghost_name;
      geometry = s.geometry;
      images = g.D.Device.images s.device.now;
      attached = g.D.Device.attached s.device.now;
      faults = g.D.Device.faults s.device.now;
    } in
    let from = c.args.ground in
    let to = c.run_over.result.0 in
    (stayed look c.args.typed.now.file c.args.script.now from to (g.K.Sink.taken c.args.sink.now) (g.K.Sink.taken c.run_over.new.sink)
    (Rose (g.D.Device.faults from.device.now) (g.D.Device.faults to.device.now))
    (Rose (g.K.Sink.faults c.args.sink.now) (g.K.Sink.faults c.run_over.new.sink)) c.requires.geometry
    (holds_here from.geometry (g.D.Device.images from.device.now) (g.D.Device.attached from.device.now) from.holds) c.run_over.result.1
    c.run_over.ensures.run.run).reference

pub returns-clause-ran : goal.returns-clause-ran
returns-clause-ran g c =
    let look : DeviceGround g.row.D.Denot g.D.Device → Sight = λ s. record {
      reference = s.device.ghost_name;
      geometry = s.geometry;
      images = g.D.Device.images s.device.now;
      attached = g.D.Device.attached s.device.now;
      faults = g.D.Device.faults s.device.now;
    } in
    let f = c.args.typed.now.file in
    let from = c.args.ground in
    let to = c.run_over.result.0 in
    ran_so look f c.args.script.now from to (g.K.Sink.taken c.args.sink.now) (g.K.Sink.taken c.run_over.new.sink)
    (Rose (g.D.Device.faults from.device.now) (g.D.Device.faults to.device.now))
    (Rose (g.K.Sink.faults c.args.sink.now) (g.K.Sink.faults c.run_over.new.sink)) c.requires.geometry
    (holds_here from.geometry (g.D.Device.images from.device.now) (g.D.Device.attached from.device.now) from.holds) c.run_over.result.1
    c.run_over.ensures.run.run c.run_over.ensures.extends (derivable_derived f c.file.ensures.derivable) c.file.ensures.typed
    c.images_are_of_rows.ensures.held c.images_are_of_rows.ensures.images
