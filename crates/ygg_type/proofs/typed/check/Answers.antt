use Rattle.std.proofs.Common.{◌∙◌, sym, refl}
use Rattle.ygg_type.specs.ygg_type_rules.Files.{type_errors_of}
use Rattle.ygg_type.proofs.Least.{is_least, is_none, is_clear}
use Rattle.ygg_type.proofs.Few.{few_places}
use Rattle.ygg_type.proofs.typed.check.Goals as goal

pub invariant_of-result-clause-places : goal.invariant_of-result-clause-places
invariant_of-result-clause-places c = few_places c.args.file c.requires.derivable

pub invariant_of-result-clause-typed : goal.invariant_of-result-clause-typed
invariant_of-result-clause-typed c = is_clear (type_errors_of c.args.file) (sym c.in-Ok-None.ensures ∙ c.in-Ok-None.field-0-is)

pub returns-in-Ok-None-clause-typed : goal.returns-in-Ok-None-clause-typed
returns-in-Ok-None-clause-typed c = (refl, is_none (type_errors_of c.args.file) (sym c.in-Ok-None.ensures ∙ c.in-Ok-None.field-0-is))

pub returns-in-Ok-Some-clause-refused : goal.returns-in-Ok-Some-clause-refused
returns-in-Ok-Some-clause-refused c =
    (c.in-Ok-Some.type_error, is_least (type_errors_of c.args.file) c.in-Ok-Some.type_error (sym c.in-Ok-Some.ensures ∙ c.in-Ok-Some.field-0-is), c.at.ensures)
