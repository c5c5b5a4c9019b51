use Rattle.std.proofs.Common.{sym, ap, ◌∙◌}
use Rattle.ygg_eval.specs.Ready.{place_on_disk}
use Rattle.ygg_eval.proofs.Places.{place_first, place_there, place_missing}
use Rattle.ygg_eval.proofs.below.place_of.Goals as goal

pub unreachable-requires : goal.unreachable-requires
unreachable-requires c = place_missing c.args.typed.now.file c.args.number c.args.name.now c.if-number-eq0.false
    (sym c.operation.ensures ∙ c.in-None.is) c.requires

pub returns : goal.returns
returns c = place_there c.args.typed.now.file c.args.number c.args.name.now c.in-Some.place c.if-number-eq0.false (sym c.operation.ensures ∙ c.in-Some.is)

pub returns-then-number-eq0 : goal.returns-then-number-eq0
returns-then-number-eq0 c =
    place_first c.args.typed.now.file c.args.number c.args.name.now c.place_on_disk.result c.if-number-eq0.true
    (c.place_on_disk.ensures ∙ ap place_on_disk c.as_slice.ensures) c.requires
