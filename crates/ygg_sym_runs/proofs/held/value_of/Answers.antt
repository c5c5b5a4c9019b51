use Rattle.std.proofs.Common.{◌≡◌, IfOk, sym, ap, ◌∙◌, subst}
use Rattle.std.specs.Option.{option_copied}
use Rattle.ygg_shape.specs.ygg_shape_cells.declared.terms.SymValue.{SymValue}
use Rattle.ygg_sym_runs.specs.Seen.{env_of}
use Rattle.ygg_sym_runs.proofs.Naming.{first_found, then_found, not_found}
use Rattle.ygg_sym_runs.proofs.held.value_of.Goals as goal

pub returns-in-Some : goal.returns-in-Some
returns-in-Some c =
    subst (λ y. IfOk c.duplicate.result (λ (x : SymValue). x ≡ y))
    (first_found c.args.name.now (env_of c.args.bindings.now) (env_of c.args.others.now) c.in-Some.value.now
    (sym c.find.ensures ∙ ap option_copied c.in-Some.is)) c.duplicate.ensures

pub returns-in-Some-find : goal.returns-in-Some-find
returns-in-Some-find c =
    subst (λ y. IfOk c.duplicate-in-Some-find.result (λ (x : SymValue). x ≡ y))
    (then_found c.args.name.now (env_of c.args.bindings.now) (env_of c.args.others.now) c.in-Some-find.value.now
    (sym c.find.ensures ∙ ap option_copied c.in_default.is) (sym c.find-2.ensures ∙ ap option_copied c.in-Some-find.is)) c.duplicate-in-Some-find.ensures

pub returns : goal.returns
returns c =
    not_found c.args.name.now (env_of c.args.bindings.now) (env_of c.args.others.now) (sym c.find.ensures ∙ ap option_copied c.in_default.is)
    (sym c.find-2.ensures ∙ ap option_copied c.in_default-find.is)
