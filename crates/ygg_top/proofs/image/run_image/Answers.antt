use Rattle.std.proofs.Common.{◌≤◌, arith}
use Rattle.ygg_base.specs.Outside.{Rose}
use Rattle.ygg_top.proofs.RunImaged.{absent_as, refused_as, refused_image, broken_image, failed_image, starved_image}
use Rattle.ygg_top.proofs.image.run_image.Goals as goal

pub returns-in-Refused-clause-told : goal.returns-in-Refused-clause-told
returns-in-Refused-clause-told g c =
    let f = c.args.typed.now.file in
    let before = g.D.Device.images c.args.device.now in
    let now = g.D.Device.images c.run.new.device in
    let taken = g.K.Sink.taken c.args.sink.now in
    let middle = g.K.Sink.taken c.run.new.sink in
    let first = g.K.Sink.faults c.args.sink.now in
    let second = g.K.Sink.faults c.run.new.sink in
    let last = g.K.Sink.faults c.end.new.sink in
    let since : first ≤ second = c.in-Refused.ensures.later_sink in
    let more : Rose second last → Rose first last = λ rose. omega (arith, rose, since) in
    let DeviceRose = Rose (g.D.Device.faults c.args.device.now) (g.D.Device.faults c.run.new.device) in
    let (refuses, same) = refused_as f c.args.name.now before now c.args.script.now taken middle DeviceRose (Rose first second) c.in-Refused.number
    c.refused.result c.refused.ensures
    c.in-Refused.ensures.runs in
    refused_image f c.args.name.now before now c.args.script.now taken middle (g.K.Sink.taken c.end.new.sink) DeviceRose (Rose second last) (Rose first last)
    more c.refused.result c.end.result refuses same c.end.ensures.told

pub returns-in-Absent-clause-told : goal.returns-in-Absent-clause-told
returns-in-Absent-clause-told g c =
    let f = c.args.typed.now.file in
    let before = g.D.Device.images c.args.device.now in
    let now = g.D.Device.images c.run.new.device in
    let taken = g.K.Sink.taken c.args.sink.now in
    let middle = g.K.Sink.taken c.run.new.sink in
    let first = g.K.Sink.faults c.args.sink.now in
    let second = g.K.Sink.faults c.run.new.sink in
    let last = g.K.Sink.faults c.end-in-Absent.new.sink in
    let since : first ≤ second = c.in-Absent.ensures.later_sink in
    let more : Rose second last → Rose first last = λ rose. omega (arith, rose, since) in
    let DeviceRose = Rose (g.D.Device.faults c.args.device.now) (g.D.Device.faults c.run.new.device) in
    let (refuses, same) = absent_as f c.args.name.now before now c.args.script.now taken middle DeviceRose (Rose first second) c.at.result c.at.ensures
    c.in-Absent.ensures.runs in
    refused_image f c.args.name.now before now c.args.script.now taken middle (g.K.Sink.taken c.end-in-Absent.new.sink) DeviceRose (Rose second last)
    (Rose first last)
    more c.at.result c.end-in-Absent.result refuses same c.end-in-Absent.ensures.told

pub returns-in-DeviceFailed-clause-told : goal.returns-in-DeviceFailed-clause-told
returns-in-DeviceFailed-clause-told g c =
    let f = c.args.typed.now.file in
    let first = g.K.Sink.faults c.args.sink.now in
    let second = g.K.Sink.faults c.run.new.sink in
    let last = g.K.Sink.faults c.end_broken.new.sink in
    let since : first ≤ second = c.in-DeviceFailed.ensures.later_sink in
    let more : Rose second last → Rose first last = λ rose. omega (arith, rose, since) in
    let DeviceRose = Rose (g.D.Device.faults c.args.device.now) (g.D.Device.faults c.run.new.device) in
    broken_image f c.args.name.now (g.D.Device.images c.args.device.now) (g.D.Device.images c.run.new.device) c.args.script.now (g.K.Sink.taken c.args.sink.now)
    (g.K.Sink.taken c.run.new.sink) (g.K.Sink.taken c.end_broken.new.sink) DeviceRose (Rose second last) (Rose first last) more DeviceRose (Rose first second)
    c.end_broken.result c.in-DeviceFailed.ensures.runs.0 c.in-DeviceFailed.ensures.runs.1 c.end_broken.ensures.told

pub returns-in-SinkFailed-clause-told : goal.returns-in-SinkFailed-clause-told
returns-in-SinkFailed-clause-told g c =
    let f = c.args.typed.now.file in
    let DeviceRose = Rose (g.D.Device.faults c.args.device.now) (g.D.Device.faults c.run.new.device) in
    let SinkRose = Rose (g.K.Sink.faults c.args.sink.now) (g.K.Sink.faults c.run.new.sink) in
    failed_image f c.args.name.now (g.D.Device.images c.args.device.now) (g.D.Device.images c.run.new.device) c.args.script.now (g.K.Sink.taken c.args.sink.now)
    (g.K.Sink.taken c.run.new.sink) DeviceRose SinkRose DeviceRose SinkRose c.in-SinkFailed.ensures.runs.0 c.in-SinkFailed.ensures.runs.1

pub returns-in-Memory-clause-told : goal.returns-in-Memory-clause-told
returns-in-Memory-clause-told g c =
    let f = c.args.typed.now.file in
    let DeviceRose = Rose (g.D.Device.faults c.args.device.now) (g.D.Device.faults c.run.new.device) in
    let SinkRose = Rose (g.K.Sink.faults c.args.sink.now) (g.K.Sink.faults c.run.new.sink) in
    starved_image f c.args.name.now (g.D.Device.images c.args.device.now) (g.D.Device.images c.run.new.device) c.args.script.now
    (g.K.Sink.taken c.args.sink.now)
    (g.K.Sink.taken c.run.new.sink) DeviceRose SinkRose DeviceRose SinkRose c.in-Memory.ensures.runs
