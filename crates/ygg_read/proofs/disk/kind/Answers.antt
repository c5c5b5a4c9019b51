use Rattle.std.proofs.Common.{◌∷◌, ◌∙◌, sym, ap, length}
use Rattle.ygg_base.specs.declared.token.Keyword.TheVariants as word
use Rattle.ygg_base.specs.declared.token.Mark.TheVariants as mark
use Rattle.ygg_syntax.specs.Reading.{starts}
use Rattle.ygg_syntax.specs.Pending.{disk_kind, outcome, stops}
use Rattle.ygg_read.proofs.Files.{begins_sync, begins_async, stopped_kind}
use Rattle.ygg_read.proofs.disk.kind.Goals as goal

pub returns-in-Some-clause-goes : goal.returns-in-Some-clause-goes
returns-in-Some-clause-goes c =
    λ qs. ap (outcome (disk_kind ∷ qs)) c.in-Some.ensures.taken ∙ begins_sync c.in-Some.field-0 c.keyword.new.self qs

pub returns-in-Some-keyword-clause-goes : goal.returns-in-Some-keyword-clause-goes
returns-in-Some-keyword-clause-goes c =
    λ qs. ap (outcome (disk_kind ∷ qs)) (sym c.in_default.ensures.left ∙ c.in-Some-keyword.ensures.taken)
    ∙ begins_async c.in-Some-keyword.field-0 c.keyword-2.new.self qs

pub returns-clause-refused : goal.returns-clause-refused
returns-clause-refused c =
    let left = c.in_default.ensures.left in
    let no_async = ap (starts (mark.Keyword word.Async)) (sym left) ∙ c.in_default-keyword.ensures.other in
    λ qs. stopped_kind c.args.reader.now c.in_default.ensures.other no_async qs
    ∙ ap (λ rest. stops (length rest)) (sym (c.in_default-keyword.ensures.left ∙ left))
