use Rattle.std.proofs.Common.{sym, subst}
use Rattle.ygg_syntax.specs.declared.tree.File.{File}
use Rattle.ygg_syntax.specs.Files.{Derives}
use Rattle.ygg_type.specs.ygg_type_rules.Files.{IsTyped}
use Rattle.ygg_accept.proofs.Counted.{few_tokens}
use Rattle.ygg_accept.proofs.Only.{no_other, mistyped_on}
use Rattle.ygg_accept.proofs.accept.Goals as goal

pub check-requires : goal.check-requires
check-requires c =
    let tokens = c.in_ok-tokens.tokens in
    record { derivable = (tokens.items, few_tokens c.args.text.now tokens c.requires c.in_ok-tokens.ensures.found, c.in_ok-file.ensures.derives) }

pub returns-clause-accepted : goal.returns-clause-accepted
returns-clause-accepted c =
    let P : File → Type 0 = λ (f : File). Derives c.in_ok-tokens.tokens.items f in
    let derives = subst P (sym c.in_ok-typed.ensures.typed.0) c.in_ok-file.ensures.derives in
    record {
      spells = c.in_ok-tokens.ensures.found;
      derives = derives;
      only = no_other c.one_file_derives.ensures c.in_ok-tokens.tokens.items _ derives;
      typed = subst IsTyped (sym c.in_ok-typed.ensures.typed.0) c.in_ok-typed.ensures.typed.1;
    }

pub returns-in_err-typed-clause-refused : goal.returns-in_err-typed-clause-refused
returns-in_err-typed-clause-refused c =
    mistyped_on c.one_file_derives.ensures c.args.text.now c.in_ok-tokens.tokens c.in_ok-file.file c.from_residual-in_err-typed.result c.in_err-typed.field-0.0
    c.from_residual-in_err-typed.ensures.1 c.in_ok-tokens.ensures.found c.in_ok-file.ensures.derives c.in_err-typed.ensures.refused
