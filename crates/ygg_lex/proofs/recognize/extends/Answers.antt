use Rattle.std.proofs.Common.{◌≡◌, ℕ, ◌<◌, arith, length, true, false, sym, ap, ◌∙◌}
use Rattle.std.proofs.lemmas.Bool.Decides.{nat_tests}
use Rattle.ygg_base.specs.Lexing.{extends, is_lower, is_digit}
use Rattle.ygg_lex.proofs.Longer.{longer_none, longer_comment, longer_name, longer_number, longer_symbol}
use Rattle.ygg_lex.proofs.Symbols.{sign_ends}
use Rattle.ygg_lex.proofs.recognize.extends.Goals as goal

pub returns-in_default : goal.returns-in_default
returns-in_default c = longer_none c.args.part.now c.args.byte c.in_default.ensures.cases

pub returns-then-first-eq35 : goal.returns-then-first-eq35
returns-then-first-eq35 c =
    longer_comment c.in-Some.first.now c.in-Some.others.now c.args.byte c.if-first-eq35.true
    ∙ ap (λ p. extends p c.args.byte) (sym c.in-Some.ensures.cases.0)

pub returns-then-is_ascii_lowercase : goal.returns-then-is_ascii_lowercase
returns-then-is_ascii_lowercase c =
    let first : ℕ = c.in-Some.first.now in
    let letter : is_lower first ≡ true = grind (arith, nat_tests) in
    c.is_name_byte.ensures ∙ longer_name first c.in-Some.others.now c.args.byte c.if-first-eq35.false letter
    ∙ ap (λ p. extends p c.args.byte) (sym c.in-Some.ensures.cases.0)

pub returns-then-is_ascii_digit : goal.returns-then-is_ascii_digit
returns-then-is_ascii_digit c =
    let first : ℕ = c.in-Some.first.now in
    let letter : is_lower first ≡ false = grind (arith, nat_tests) in
    let digit : is_digit first ≡ true = grind (arith, nat_tests) in
    c.is_ascii_digit-then-is_ascii_digit.ensures.value ∙ longer_number first c.in-Some.others.now c.args.byte c.if-first-eq35.false letter digit
    ∙ ap (λ p. extends p c.args.byte) (sym c.in-Some.ensures.cases.0)

pub returns-then-is_empty : goal.returns-then-is_empty
returns-then-is_empty c =
    let first : ℕ = c.in-Some.first.now in
    let letter : is_lower first ≡ false = grind (arith, nat_tests) in
    let digit : is_digit first ≡ false = grind (arith, nat_tests) in
    let none : length c.in-Some.others.now ≡ 0 = grind (arith, nat_tests) in
    c.is_pair.ensures ∙ longer_symbol first c.in-Some.others.now c.args.byte c.if-first-eq35.false letter digit none
    ∙ ap (λ p. extends p c.args.byte) (sym c.in-Some.ensures.cases.0)

pub returns-else-is_empty : goal.returns-else-is_empty
returns-else-is_empty c =
    let first : ℕ = c.in-Some.first.now in
    let letter : is_lower first ≡ false = grind (arith, nat_tests) in
    let digit : is_digit first ≡ false = grind (arith, nat_tests) in
    let some : 0 < length c.in-Some.others.now = grind (arith, nat_tests) in
    rw c.in-Some.ensures.cases.0 (c.if-is_empty.false ∙ sym (sign_ends first c.in-Some.others.now c.args.byte c.if-first-eq35.false letter digit some))
