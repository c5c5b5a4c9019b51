use Rattle.std.proofs.Common.{rules, false, ◌≡◌, ◌++◌, ◌∷◌, [], subst, ap, ◌∙◌, if◌then◌else◌}
use Rattle.std.specs.List.{list_any}
use Rattle.ygg_bank.proofs.Stored.{added_stored}
use Rattle.ygg_bank.specs.Making.{same, added}
use Rattle.ygg_bank.proofs.bank.Bank.add.Goals as goal

pub invariant_of-self-then-is_new : goal.invariant_of-self-then-is_new
invariant_of-self-then-is_new c =
    let absent : list_any (same c.args.node) c.self.inside.nodes.keys ≡ false = search rules in
    let longer : c.insert_full.new.self.keys ≡ c.self.inside.nodes.keys ++ c.args.node ∷ [] =
    c.in-Ok.ensures.keys ∙ ap (λ b. if b then c.self.inside.nodes.keys else c.self.inside.nodes.keys ++ c.args.node ∷ []) absent in
    let pushed : c.push_reserved.new.self.items ≡ c.self.inside.widths.items ++ c.width_for-width.result ∷ [] = search rules in
    added_stored c.args.self.now _ c.insert_full.new.self.keys _ c.push_reserved.new.self.items c.args.node c.width_for-width.result c.self.view_is
    c.self.invariant.0 c.self.invariant.1 c.requires
    c.width_for-width.ensures pushed longer absent

pub returns-then-is_new-clause-nodes : goal.returns-then-is_new-clause-nodes
returns-then-is_new-clause-nodes c =
    subst (λ ks. c.insert_full.new.self.keys ≡ (added c.args.node ks).nodes) c.self.view_is c.in-Ok.ensures.keys

pub returns-else-is_new-clause-nodes : goal.returns-else-is_new-clause-nodes
returns-else-is_new-clause-nodes c =
    subst (λ ks. c.insert_full.new.self.keys ≡ (added c.args.node ks).nodes) c.self.view_is c.in-Ok.ensures.keys
