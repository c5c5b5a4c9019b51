use Rattle.std.proofs.Common.{◌≡◌, [], ◌∷◌, length, sym, ap, ◌∙◌}
use Rattle.ygg_base.specs.declared.reason.Reason.TheVariants.{Syntax}
use Rattle.ygg_base.specs.Reason.{refusal_at}
use Rattle.ygg_syntax.specs.declared.tree.Place.{Place}
use Rattle.ygg_syntax.specs.Pending.{file, outcome, stops}
use Rattle.ygg_read.proofs.Files.{stops_within}
use Rattle.ygg_read.proofs.Refusals.{refusal_of}
use Rattle.ygg_read.proofs.file.read.Goals as goal

pub place-place-requires : goal.place-place-requires
place-place-requires c =
    let stopped = rw c.in-Ok-None.field-0-is at c.in-Ok-None.ensures.refused in
    let here : outcome (file ∷ []) c.args.tokens.now.items ≡ stops (length c.left.result.now) =
    ap (outcome (file ∷ [])) (sym (c.new-reader.ensures ∙ c.as_slice.ensures)) ∙ stopped ∙ ap (λ ts. stops (length ts)) (sym c.left.ensures) in
    stops_within (file ∷ []) c.args.tokens.now.items (length c.left.result.now) here

pub returns-in-Ok-None-clause-refused : goal.returns-in-Ok-None-clause-refused
returns-in-Ok-None-clause-refused c =
    let stopped = rw c.in-Ok-None.field-0-is at c.in-Ok-None.ensures.refused in
    let here : outcome (file ∷ []) c.args.tokens.now.items ≡ stops (length c.left.result.now) =
    ap (outcome (file ∷ [])) (sym (c.new-reader.ensures ∙ c.as_slice.ensures)) ∙ stopped ∙ ap (λ ts. stops (length ts)) (sym c.left.ensures) in
    refusal_of c.args.tokens.now (length c.left.result.now) _ here
    (c.at.ensures ∙ ap (λ (p : Place). refusal_at Syntax p.line p.column) c.place-place.ensures)
