use Rattle.std.proofs.Common.{◌∙◌, ap}
use Rattle.ygg_type_rules.specs.Names.{look_up}
use Rattle.ygg_type_rules.proofs.Entries.{seen_lookup}
use Rattle.ygg_type_rules.proofs.names.Names.find.Goals as goal

pub returns : goal.returns
returns g c = c.get.ensures.value ∙ seen_lookup c.args.name.now c.self.inside.entries.entries ∙ ap (look_up c.args.name.now) c.self.view_is
