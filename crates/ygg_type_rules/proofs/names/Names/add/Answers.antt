use Rattle.std.proofs.Common.{◌≡◌, ◌∙◌, ap, false, rules}
use Rattle.ygg_type_rules.specs.Names.{has}
use Rattle.ygg_type_rules.proofs.Entries.{seen, seen_new}
use Rattle.ygg_type_rules.proofs.names.Names.add.Goals as goal
use Rattle.ygg_type_rules.proofs.names.Names.add.Goals.{in-Some-1, in-None-1}

pub returns-in_ok-insert-clause-ok : goal.returns-in_ok-insert-clause-ok
returns-in_ok-insert-clause-ok g c =
    let absent : has c.args.name.now c.args.self.now ≡ false = search rules in
    let new = ap seen c.in_ok-insert.ensures.entries ∙ seen_new c.self.inside.entries c.args.name c.args.value c.args.self.now c.self.view_is absent in
    elim c.match-branch-2.branch [ in-Some-1 w ↦ w.self-is ∙ new | in-None-1 w ↦ w.self-is ∙ new ]
