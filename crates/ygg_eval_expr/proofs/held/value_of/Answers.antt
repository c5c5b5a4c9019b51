use Rattle.std.proofs.Common.{sym, ap, ◌∙◌}
use Rattle.std.specs.Option.{option_copied}
use Rattle.ygg_eval_expr.specs.Held.{env_of}
use Rattle.ygg_eval_expr.proofs.Naming.{first_found, then_found, not_found}
use Rattle.ygg_eval_expr.proofs.held.value_of.Goals as goal

pub returns-in-Some : goal.returns-in-Some
returns-in-Some c = first_found c.args.name.now (env_of c.args.bindings.now) (env_of c.args.others.now) c.in-Some.value.now
    (sym c.find.ensures ∙ ap option_copied c.in-Some.is)

pub returns-in-Some-find : goal.returns-in-Some-find
returns-in-Some-find c =
    then_found c.args.name.now (env_of c.args.bindings.now) (env_of c.args.others.now) c.in-Some-find.value.now
    (sym c.find.ensures ∙ ap option_copied c.in_default.is)
    (sym c.find-2.ensures ∙ ap option_copied c.in-Some-find.is)

pub returns : goal.returns
returns c =
    not_found c.args.name.now (env_of c.args.bindings.now) (env_of c.args.others.now) (sym c.find.ensures ∙ ap option_copied c.in_default.is)
    (sym c.find-2.ensures ∙ ap option_copied c.in_default-find.is)
