use Rattle.std.proofs.Common.{◌≡◌, ◌≢◌, ◌<◌, length, get_or, List, Some, arith, ap, sym, ◌∙◌}
use Rattle.std.proofs.lemmas.Bool.Decides.{nat_tests}
use Rattle.ygg_base.specs.declared.token.Token.{Token}
use Rattle.ygg_base.specs.Lexing.{recognized, after_these}
use Rattle.ygg_lex.proofs.Steps.{closed_token}
use Rattle.ygg_lex.proofs.scanner.Scanner.close.Goals as goal

pub returns-in-Ok-clause-ok : goal.returns-in-Ok-clause-ok
returns-in-Ok-clause-ok c others =
    let some : 0 < length c.args.part.now = grind (arith, nat_tests) in
    let sign : get_or c.args.part.now 0 0 ≢ 35 = grind (arith, nat_tests) in
    let is : recognized c.args.part.now ≡ Some c.in-Ok-Some.mark = sym c.in-Ok-Some.ensures ∙ c.in-Ok-Some.field-0-is in
    let token = closed_token c.args.self.now.items c.args.part.now c.args.self.now.line c.args.self.now.begun c.in-Ok-Some.mark others some sign is in
    token ∙ ap (λ (items : List Token). after_these items others) (sym c.in-Ok.ensures.ok)
