use Rattle.std.proofs.Common.{◌∷◌, ◌∙◌}
use Rattle.ygg_base.specs.declared.token.Symbol.TheVariants as sign
use Rattle.ygg_syntax.specs.Expressions.{symbol}
use Rattle.ygg_syntax.specs.Blocks.{source_in, indices_of}
use Rattle.ygg_syntax.specs.Pending.{right_side, sign_of}
use Rattle.ygg_read.proofs.ExpressionPhrases.{joined}
use Rattle.ygg_read.proofs.parts.indexed_value.Goals as goal

pub returns-in_default-clause-refused : goal.returns-in_default-clause-refused
returns-in_default-clause-refused c =
    let gone = rw c.in-Ok-Some.field-0-is at c.in-Ok-Some.ensures.goes in
    λ qs. gone (sign_of sign.Assign ∷ right_side c.args.kind ∷ sign_of sign.Semicolon ∷ qs)
    ∙ c.in_default.ensures.refused (right_side c.args.kind ∷ sign_of sign.Semicolon ∷ qs)

pub returns-in-Ok-None-value-clause-refused : goal.returns-in-Ok-None-value-clause-refused
returns-in-Ok-None-value-clause-refused c =
    let gone = rw c.in-Ok-Some.field-0-is at c.in-Ok-Some.ensures.goes in
    let stopped = rw c.in-Ok-None-value.field-0-is at c.in-Ok-None-value.ensures.refused in
    λ qs. gone (sign_of sign.Assign ∷ right_side c.args.kind ∷ sign_of sign.Semicolon ∷ qs)
    ∙ c.in-Some.ensures.goes (right_side c.args.kind ∷ sign_of sign.Semicolon ∷ qs) ∙ stopped qs

pub returns-clause-reads : goal.returns-clause-reads
returns-clause-reads c =
    let first = rw c.in-Ok-Some.field-0-is at c.in-Ok-Some.ensures.reads in
    let second = rw c.in-Ok-Some-value.field-0-is at c.in-Ok-Some-value.ensures.reads in
    let source = c.in-Ok-Some-value.part in
    λ qs. joined (indices_of c.in-Ok-Some.part) (symbol sign.Assign ∷ source_in c.args.kind source ∷ symbol sign.Semicolon ∷ qs) c.args.reader.now
    ∙ first (symbol sign.Assign ∷ source_in c.args.kind source ∷ symbol sign.Semicolon ∷ qs)
    ∙ c.in-Some.ensures.reads (source_in c.args.kind source ∷ symbol sign.Semicolon ∷ qs)
    ∙ second qs

pub returns-clause-goes : goal.returns-clause-goes
returns-clause-goes c =
    let gone = rw c.in-Ok-Some.field-0-is at c.in-Ok-Some.ensures.goes in
    let rest = rw c.in-Ok-Some-value.field-0-is at c.in-Ok-Some-value.ensures.goes in
    λ qs. gone (sign_of sign.Assign ∷ right_side c.args.kind ∷ sign_of sign.Semicolon ∷ qs)
    ∙ c.in-Some.ensures.goes (right_side c.args.kind ∷ sign_of sign.Semicolon ∷ qs) ∙ rest qs
