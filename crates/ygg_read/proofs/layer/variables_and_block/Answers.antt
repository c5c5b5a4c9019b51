use Rattle.std.proofs.Common.{◌∷◌, ◌∙◌, arith}
use Rattle.ygg_syntax.specs.Blocks.{optional}
use Rattle.ygg_syntax.specs.Pending.{perhaps}
use Rattle.ygg_read.proofs.layer.variables_and_block.Goals as goal

pub returns-in-Ok-None-clause-refused : goal.returns-in-Ok-None-clause-refused
returns-in-Ok-None-clause-refused c =
    let stopped = rw c.in-Ok-None.field-0-is at c.in-Ok-None.ensures.refused in
    λ p b o q begin is qs. stopped p b o (perhaps q ∷ qs)

pub returns-in-Ok-None-optional-clause-refused : goal.returns-in-Ok-None-optional-clause-refused
returns-in-Ok-None-optional-clause-refused c =
    let gone = rw c.in-Ok-Some.field-0-is at c.in-Ok-Some.ensures.goes in
    let stopped = rw c.in-Ok-None-optional.field-0-is at c.in-Ok-None-optional.ensures.refused in
    λ p b o q begin is qs. gone p b o (perhaps q ∷ qs) ∙ stopped q begin is qs

pub returns-clause-reads : goal.returns-clause-reads
returns-clause-reads c =
    let first = rw c.in-Ok-Some.field-0-is at c.in-Ok-Some.ensures.reads in
    let second = rw c.in-Ok-Some-optional.field-0-is at c.in-Ok-Some-optional.ensures.reads in
    λ qs. first (optional c.args.setup c.args.kind c.in-Ok-Some-optional.part ∷ qs) ∙ second qs

pub returns-clause-goes : goal.returns-clause-goes
returns-clause-goes c =
    let gone = rw c.in-Ok-Some.field-0-is at c.in-Ok-Some.ensures.goes in
    let rest = rw c.in-Ok-Some-optional.field-0-is at c.in-Ok-Some-optional.ensures.goes in
    λ p b o q begin is qs. gone p b o (perhaps q ∷ qs) ∙ rest q begin is qs

pub returns-clause-shorter : goal.returns-clause-shorter
returns-clause-shorter c =
    let first = rw c.in-Ok-Some.field-0-is at c.in-Ok-Some.ensures.shorter in
    let second = rw c.in-Ok-Some-optional.field-0-is at c.in-Ok-Some-optional.ensures.shorter in
    omega (arith, first, second)
