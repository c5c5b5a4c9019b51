use Rattle.std.proofs.Common.{◌≡◌, true, rules, OnOk}
use Rattle.std.proofs.lemmas.Result.{on_ok_weaker}
use Rattle.ygg_type.specs.ygg_type_rules.Scopes.{with_local}
use Rattle.ygg_type.specs.Checking.{scope_of}
use Rattle.ygg_type.proofs.Restored.{grows_local}
use Rattle.ygg_type.proofs.statements.binding.Goals as goal

pub returns-clause-grows : goal.returns-clause-grows
returns-clause-grows c =
    let before = scope_of c.args.checker.now in
    let after = scope_of c.add_local.new.self in
    let seen : OnOk c.add_local.result (after ≡ with_local c.args.x.now.text c.in_ok-from.from.shape true before) = search rules in
    on_ok_weaker c.add_local.result (grows_local before after c.args.x.now.text c.in_ok-from.from.shape true) seen
