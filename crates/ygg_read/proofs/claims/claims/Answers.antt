use Rattle.std.proofs.Common.{◌∷◌, ◌∙◌, map}
use Rattle.ygg_base.specs.declared.token.Keyword.TheVariants as word
use Rattle.ygg_base.specs.declared.token.Symbol.TheVariants as sign
use Rattle.ygg_syntax.specs.Reading.{in_turn}
use Rattle.ygg_syntax.specs.Expressions.{symbol}
use Rattle.ygg_syntax.specs.Files.{claim}
use Rattle.ygg_syntax.specs.Pending.{repeated, sign_of}
use Rattle.ygg_syntax.specs.Pending as pending
use Rattle.ygg_read.proofs.claims.claims.Goals as goal

pub returns-in_default-2-clause-refused : goal.returns-in_default-2-clause-refused
returns-in_default-2-clause-refused c =
    let gone = rw c.in-Some.is at c.in_ok-relate.ensures.goes in
    let none = rw c.in_default-2.is at c.in_ok-relate-2.ensures.refused in
    let stopped = rw none at c.from_always.ensures.refused in
    λ qs. gone (repeated pending.always ∷ repeated pending.settled ∷ repeated pending.maybe ∷ sign_of sign.BraceClose ∷ qs) ∙ stopped qs

pub returns-clause-reads : goal.returns-clause-reads
returns-clause-reads c =
    let others = c.in-Some-2.rest in
    let parts = rw c.in-Some-2.is at c.in_ok-relate-2.ensures.read in
    let whole = rw c.in-Some.is at c.in_ok-relate.ensures.reads in
    let first = rw parts.0 at whole in
    let rest = rw parts.1 at c.from_always.ensures.reads in
    λ qs. first (in_turn (map (claim word.Always) others.0) ∷ in_turn (map (claim word.Settled) others.1.0) ∷ in_turn (map (claim word.Maybe) others.1.1)
    ∷ symbol sign.BraceClose ∷ qs) ∙ rest qs

pub returns-clause-goes : goal.returns-clause-goes
returns-clause-goes c =
    let parts = rw c.in-Some-2.is at c.in_ok-relate-2.ensures.read in
    let gone = rw c.in-Some.is at c.in_ok-relate.ensures.goes in
    let rest = rw parts.1 at c.from_always.ensures.goes in
    λ qs. gone (repeated pending.always ∷ repeated pending.settled ∷ repeated pending.maybe ∷ sign_of sign.BraceClose ∷ qs) ∙ rest qs
