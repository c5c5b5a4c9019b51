use Rattle.std.proofs.Common.{◌∙◌, ap, is_some}
use Rattle.ygg_type_rules.specs.Names.{look_up}
use Rattle.ygg_type_rules.proofs.Entries.{seen_lookup}
use Rattle.ygg_type_rules.proofs.names.Names.has.Goals as goal

pub returns : goal.returns
returns g c = c.contains_key.ensures ∙ ap is_some (seen_lookup c.args.name.now c.self.inside.entries.entries ∙ ap (look_up c.args.name.now) c.self.view_is)
