use Rattle.std.proofs.Common.{◌∷◌, ◌∙◌, refl, map, arith}
use Rattle.ygg_base.specs.declared.token.Keyword.TheVariants as word
use Rattle.ygg_base.specs.declared.token.Symbol.TheVariants as sign
use Rattle.ygg_syntax.specs.Reading.{in_turn}
use Rattle.ygg_syntax.specs.Expressions.{symbol}
use Rattle.ygg_syntax.specs.Files.{claim}
use Rattle.ygg_syntax.specs.Pending.{repeated, settled, maybe, sign_of}
use Rattle.ygg_read.proofs.Results.{where_joined, where_joined_gone, where_joined_refused}
use Rattle.ygg_read.proofs.claims.from_settled.Goals as goal

pub returns-clause-refused : goal.returns-clause-refused
returns-clause-refused c =
    let gone = rw c.in-Some.is at c.in_ok-settled.ensures.goes in
    where_joined_refused c.from_maybe.result c.both.result _ _ c.both.ensures.refused c.from_maybe.ensures.refused
    (λ stopped qs. gone settled refl refl (repeated maybe ∷ sign_of sign.BraceClose ∷ qs) ∙ stopped qs)

pub returns-clause-reads : goal.returns-clause-reads
returns-clause-reads c =
    let whole = rw c.in-Some.is at c.in_ok-settled.ensures.reads in
    where_joined c.in-Some.settled c.from_maybe.result c.both.result _ c.both.ensures.read (λ read is next.
    let first = rw is at whole in
    let rest = rw next at c.from_maybe.ensures.reads in
    λ qs. first (in_turn (map (claim word.Maybe) read.1) ∷ symbol sign.BraceClose ∷ qs) ∙ rest qs)

pub returns-clause-goes : goal.returns-clause-goes
returns-clause-goes c =
    let gone = rw c.in-Some.is at c.in_ok-settled.ensures.goes in
    where_joined_gone c.in-Some.settled c.from_maybe.result c.both.result _ _ c.both.ensures.read c.from_maybe.ensures.goes
    (λ rest qs. gone settled refl refl (repeated maybe ∷ sign_of sign.BraceClose ∷ qs) ∙ rest qs)

pub returns-clause-shorter : goal.returns-clause-shorter
returns-clause-shorter c =
    let before = rw c.in-Some.is at c.in_ok-settled.ensures.shorter in
    where_joined_gone c.in-Some.settled c.from_maybe.result c.both.result _ _ c.both.ensures.read c.from_maybe.ensures.shorter
    (λ shorter. omega (arith, before, shorter))
