use Rattle.ygg_run_image.proofs.Filled.{IsMade, is_made, filled}
use Rattle.ygg_run_image.proofs.filling.fill.Given.{Over}
use Rattle.ygg_run_image.proofs.filling.fill.Goals as goal

made : (g : Over) (c : goal.After-format_layers-arg-1 g) →
    IsMade c.args.typed.now.file c.args.name.now (g.D.Device.images c.create.new.self) (g.D.Device.attached c.create.new.self)
made g c =
    is_made c.args.typed.now.file c.geometry-geometry.result c.geometry-geometry.ensures.same c.geometry-geometry.ensures.shape c.block_size.result
    c.block_size.ensures.bytes c.args.name.now _ _ _ c.in-Done.ensures.attaches c.in-Done.ensures.told

pub format_layers-requires-clause-holds : goal.format_layers-requires-clause-holds
format_layers-requires-clause-holds g c = (made g c).blank.holds

pub returns-in-Done-clause-filled : goal.returns-in-Done-clause-filled
returns-in-Done-clause-filled g c =
    let m = is_made c.args.typed.now.file c.geometry-geometry.result c.geometry-geometry.ensures.same c.geometry-geometry.ensures.shape c.block_size.result
    c.block_size.ensures.bytes c.args.name.now (g.D.Device.images c.args.device.now) (g.D.Device.images c.create.new.self)
    (g.D.Device.attached c.create.new.self) c.in-Done.ensures.attaches c.in-Done.ensures.told in
    filled c.args.typed.now.file c.args.name.now c.format_layers.result (g.D.Device.images c.create.new.self) (g.D.Device.images c.format_layers.new.device)
    (g.D.Device.attached c.create.new.self) (g.D.Device.attached c.format_layers.new.device) m.at m.blank c.format_layers.ensures.still
    c.format_layers.ensures.told c.format_layers.ensures.rows
