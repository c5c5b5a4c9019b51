use Rattle.std.proofs.Common.{◌∙◌, ap, sym, take}
use Rattle.std.proofs.lemmas.List.{take-map}
use Rattle.ygg_type_rules.proofs.Entries.{seen}
use Rattle.ygg_type_rules.proofs.names.Names.truncate.Goals as goal

pub returns : goal.returns
returns g c = ap seen c.truncate.ensures.entries ∙ sym (take-map _ c.args.count c.self.inside.entries.entries) ∙ ap (take c.args.count) c.self.view_is
