use Rattle.std.proofs.Common.{◌∙◌, refl, sym, ap, length, rules, arith}
use Rattle.ygg_syntax.specs.Reading.{in_turn}
use Rattle.ygg_base.specs.declared.token.Keyword.TheVariants as word
use Rattle.ygg_syntax.specs.Files.{definition}
use Rattle.ygg_syntax.specs.Pending.{rest_of, outcome}
use Rattle.ygg_syntax.specs.Pending as pending
use Rattle.ygg_read.proofs.ClaimLists.{none_read, one_more, all_read, all_gone, one_stops}
use Rattle.ygg_read.proofs.variables.definitions.Goals as goal

pub loop-all-init : goal.loop-all-init
loop-all-init c = none_read _ _ _ _ _ (search rules)

pub loop-all-preserved : goal.loop-all-preserved
loop-all-preserved c =
    let step = rw c.in-Some-2.is at c.in_ok-more.ensures.read in
    let reads = rw step.1.0 at c.rest_of_definition.ensures.reads in
    let goes = rw step.1.0 at c.rest_of_definition.ensures.goes in
    let shorter = rw step.1.0 at c.rest_of_definition.ensures.shorter in
    one_more definition word.Def (rest_of pending.definition) _ c.loop-all.reader c.keyword.new.self c.rest_of_definition.new.reader c.loop-all.all
    c.in-Some-2.more step.0
    c.in-Some.field-0 c.loop-all.invariant c.in-Some.ensures.taken (reads c.in-Some.field-0) goes shorter step.1.1

pub loop-all-smaller : goal.loop-all-smaller
loop-all-smaller c =
    let step = rw c.in-Some-2.is at c.in_ok-more.ensures.read in
    let shorter = rw step.1.0 at c.rest_of_definition.ensures.shorter in
    omega (arith, shorter, ap length c.in-Some.ensures.taken)

pub returns-in_default-2-clause-refused : goal.returns-in_default-2-clause-refused
returns-in_default-2-clause-refused c =
    let none = rw c.in_default-2.is at c.in_ok-more.ensures.refused in
    let stopped = rw none at c.rest_of_definition.ensures.refused in
    one_stops definition word.Def (rest_of pending.definition) _ c.loop-all.reader c.keyword.new.self c.rest_of_definition.new.reader
    c.loop-all.all c.in-Some.field-0
    c.loop-all.invariant c.in-Some.ensures.taken stopped pending.definition refl refl

pub returns-clause-reads : goal.returns-clause-reads
returns-clause-reads c =
    λ qs. all_read definition word.Def (rest_of pending.definition) _ c.loop-all.reader c.loop-all.all c.loop-all.invariant qs
    ∙ ap (in_turn qs) (sym c.in_default.ensures.left)

pub returns-clause-goes : goal.returns-clause-goes
returns-clause-goes c =
    λ qs. all_gone definition word.Def (rest_of pending.definition) _ c.loop-all.reader c.loop-all.all c.loop-all.invariant
    c.in_default.ensures.other pending.definition refl refl qs ∙ ap (outcome qs) (sym c.in_default.ensures.left)
