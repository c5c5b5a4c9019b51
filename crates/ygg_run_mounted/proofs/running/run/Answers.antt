use Rattle.std.proofs.Common.{◌≡◌, ◌≤◌, List, Option, Some, Ok, arith, subst, sym}
use Rattle.ygg_base.specs.Outside.{Rose}
use Rattle.ygg_base.specs.declared.geometry.Geometry.{Geometry}
use Rattle.ygg_run_image.specs.ygg_base.Devices.{Attachment, Tells}
use Rattle.ygg_run_commands.specs.ygg_type.Typed.{geometry_of}
use Rattle.ygg_run_commands.specs.ygg_script.declared.command.Command.{Command}
use Rattle.ygg_run_image.specs.Sight.{Holds}
use Rattle.ygg_run_image.specs.Mounting.{Mounts, whole_image}
use Rattle.ygg_run_mounted.specs.Ran.{RanSo}
use Rattle.ygg_run_mounted.specs.Ending.{RunsTo}
use Rattle.ygg_run_mounted.specs.declared.run_end.RunEnd.{RunEnd}
use Rattle.ygg_run_mounted.proofs.Mounted.{mounted_disk}
use Rattle.ygg_run_mounted.proofs.Ends.{ends_so}
use Rattle.ygg_run_mounted.proofs.running.run.Goals as goal

pub run_mounted-requires-clause-holds : goal.run_mounted-requires-clause-holds
run_mounted-requires-clause-holds g c =
    let f = c.args.typed.now.file in
    let same : c.geometry.result ≡ geometry_of f.disk = c.geometry.ensures.same in
    subst (λ (x : Geometry). Holds x (g.D.Device.images c.mount.new.device) (g.D.Device.attached c.mount.new.device)) same
    (subst (λ (o : Option Attachment). Holds c.geometry.result (g.D.Device.images c.mount.new.device) o) (sym c.in-Ok.ensures.attached)
    (mounted_disk c.geometry.result c.geometry.ensures.shape c.args.name.now (g.D.Device.images c.args.device.now) (g.D.Device.images c.mount.new.device)
    c.in-Ok.ensures.told))

pub returns-in-Ok-clause-runs : goal.returns-in-Ok-clause-runs
returns-in-Ok-clause-runs g c =
    let f = c.args.typed.now.file in
    let name = c.args.name.now in
    let same : c.geometry.result ≡ geometry_of f.disk = c.geometry.ensures.same in
    let before = g.D.Device.images c.args.device.now in
    let middle = g.D.Device.images c.mount.new.device in
    let now = g.D.Device.images c.run_mounted.new.device in
    let taken = g.K.Sink.taken c.args.sink.now in
    let taken' = g.K.Sink.taken c.run_mounted.new.sink in
    let DeviceRose = Rose (g.D.Device.faults c.mount.new.device) (g.D.Device.faults c.run_mounted.new.device) in
    let SinkRose = Rose (g.K.Sink.faults c.args.sink.now) (g.K.Sink.faults c.run_mounted.new.sink) in
    let Later = Rose (g.D.Device.faults c.args.device.now) (g.D.Device.faults c.run_mounted.new.device) in
    let earlier : g.D.Device.faults c.args.device.now ≤ g.D.Device.faults c.mount.new.device = c.in-Ok.ensures.later in
    let later : DeviceRose → Later = λ rose. omega (arith, rose, earlier) in
    let mounts = subst (λ (x : Geometry). Tells (Mounts x name (Ok tt)) before middle) same c.in-Ok.ensures.told in
    let attached =
    subst (λ (x : Geometry). g.D.Device.attached c.mount.new.device ≡ Some (whole_image x name)) same c.in-Ok.ensures.attached in
    let ran =
    subst (λ (o : Option Attachment). RanSo f c.args.script.now middle now o taken taken' DeviceRose SinkRose c.run_mounted.result) attached
    (subst (λ (s : List Command). RanSo f s middle now (g.D.Device.attached c.mount.new.device) taken taken' DeviceRose SinkRose c.run_mounted.result)
    c.as_slice.ensures c.run_mounted.ensures.ran) in
    subst (λ (r : RunEnd). RunsTo f c.args.script.now name before now taken taken' Later SinkRose r) (sym c.ended.ensures)
    (ends_so f c.args.script.now name before middle now taken taken' DeviceRose SinkRose Later later mounts c.run_mounted.result ran)
