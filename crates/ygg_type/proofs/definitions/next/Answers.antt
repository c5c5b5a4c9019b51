use Rattle.std.proofs.lemmas.Result.{on_ok_weaker}
use Rattle.ygg_type.specs.Checking.{scope_of}
use Rattle.ygg_type.proofs.Parameters.{after_definition}
use Rattle.ygg_type.proofs.definitions.next.Goals as goal

pub returns-clause-scope : goal.returns-clause-scope
returns-clause-scope c =
    on_ok_weaker c.define.result
    (after_definition c.args.def.now (scope_of c.args.checker.now) (scope_of c.type_errors.new.checker)
    (scope_of c.define.new.checker) c.args.checker.now.defs c.requires c.in_ok-type_errors.ensures.scope)
    c.define.ensures.scope
