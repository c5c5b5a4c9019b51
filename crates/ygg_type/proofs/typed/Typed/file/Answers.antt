use Rattle.ygg_type.specs.ygg_type_rules.Files.{type_errors_of}
use Rattle.ygg_type.proofs.Least.{is_empty}
use Rattle.ygg_type.proofs.typed.Typed.file.Goals as goal

pub returns-clause-typed : goal.returns-clause-typed
returns-clause-typed c = is_empty (type_errors_of c.args.self.now.file) c.args.self.now.typed
