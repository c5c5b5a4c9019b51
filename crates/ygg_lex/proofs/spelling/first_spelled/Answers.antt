use Rattle.std.proofs.Common.{◌≡◌, ◌∷◌, Option, Some, List, ℕ, Bool, true, false, drop, bytes_eq, if◌then◌else◌, ◌+◌, sym, ap, ◌∙◌}
use Rattle.std.proofs.lemmas.List.{at_drop_more}
use Rattle.ygg_base.specs.Lexing.{spelled}
use Rattle.ygg_lex.proofs.spelling.first_spelled.Goals as goal

pub loop-one-preserved : goal.loop-one-preserved
loop-one-preserved c a =
    let part : List ℕ = a.args.part.now in
    let others = drop (a.loop-one.one-index + 1) a.args.table.now in
    let F : List c.row.T.Denot → Option c.row.T.Denot = λ ones. spelled c.T.Spelled.spelling ones part in
    let tested : bytes_eq (c.T.Spelled.spelling a.one-item.result) part ≡ false = ap (λ text. bytes_eq text part) (sym a.text.ensures) ∙ sym a.if-eq.ensures in
    let here = at_drop_more F a.args.table.now a.loop-one.one-index a.one-item.result a.loop-one-test.true ∙ ap (λ one. F (one ∷ others)) (sym a.one-item.is)
    ∙ ap (λ (b : Bool). if b then Some a.one-item.result else F others) tested in
    sym here ∙ a.loop-one.invariant

pub returns-then-eq : goal.returns-then-eq
returns-then-eq c a =
    let part : List ℕ = a.args.part.now in
    let others = drop (a.loop-one.one-index + 1) a.args.table.now in
    let F : List c.row.T.Denot → Option c.row.T.Denot = λ ones. spelled c.T.Spelled.spelling ones part in
    let tested : bytes_eq (c.T.Spelled.spelling a.one-item.result) part ≡ true = ap (λ text. bytes_eq text part) (sym a.text.ensures) ∙ sym a.if-eq.ensures in
    let here = at_drop_more F a.args.table.now a.loop-one.one-index a.one-item.result a.loop-one-test.true ∙ ap (λ one. F (one ∷ others)) (sym a.one-item.is)
    ∙ ap (λ (b : Bool). if b then Some a.one-item.result else F others) tested in
    sym here ∙ a.loop-one.invariant
