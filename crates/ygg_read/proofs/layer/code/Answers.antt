use Rattle.std.proofs.Common.{◌++◌, ◌∙◌, arith}
use Rattle.ygg_read.specs.LayerParts.{claims_pending, claims_read}
use Rattle.ygg_read.proofs.layer.code.Goals as goal

pub returns-in-Ok-None-claims-clause-refused : goal.returns-in-Ok-None-claims-clause-refused
returns-in-Ok-None-claims-clause-refused c =
    let gone = rw c.in-Ok-Some.field-0-is at c.in-Ok-Some.ensures.goes in
    let stopped = rw c.in-Ok-None-claims.field-0-is at c.in-Ok-None-claims.ensures.refused in
    λ qs. gone (claims_pending ++ qs) ∙ stopped qs

pub returns-clause-reads : goal.returns-clause-reads
returns-clause-reads c =
    let first = rw c.in-Ok-Some.field-0-is at c.in-Ok-Some.ensures.reads in
    let second = rw c.in-Ok-Some-claims.field-0-is at c.in-Ok-Some-claims.ensures.reads in
    λ qs. first (claims_read c.in-Ok-Some-claims.part ++ qs) ∙ second qs

pub returns-clause-goes : goal.returns-clause-goes
returns-clause-goes c =
    let gone = rw c.in-Ok-Some.field-0-is at c.in-Ok-Some.ensures.goes in
    let rest = rw c.in-Ok-Some-claims.field-0-is at c.in-Ok-Some-claims.ensures.goes in
    λ qs. gone (claims_pending ++ qs) ∙ rest qs

pub returns-in-Ok-None-clause-refused : goal.returns-in-Ok-None-clause-refused
returns-in-Ok-None-clause-refused c =
    let stopped = rw c.in-Ok-None.field-0-is at c.in-Ok-None.ensures.refused in
    λ qs. stopped (claims_pending ++ qs)

pub returns-clause-shorter : goal.returns-clause-shorter
returns-clause-shorter c =
    let first = rw c.in-Ok-Some.field-0-is at c.in-Ok-Some.ensures.shorter in
    let second = rw c.in-Ok-Some-claims.field-0-is at c.in-Ok-Some-claims.ensures.shorter in
    omega (arith, first, second)
