use Rattle.std.proofs.Common.{◌≡◌, ◌++◌, ◌∷◌, [], List, map, min, sym, ap, subst, ◌∙◌}
use Rattle.std.proofs.lemmas.List.{map-append}
use denote.Ref.{Bor}
use Rattle.ygg_syntax.specs.Budget.{limit}
use Rattle.ygg_syntax.specs.Weights.{weights_of, expr_weight}
use Rattle.ygg_syntax.specs.declared.tree.Def.{Def}
use Rattle.ygg_syntax.specs.Table.{held, or_first, IsTable}
use Rattle.ygg_syntax.proofs.Tables.{one_more}
use Rattle.ygg_syntax.proofs.table.Weights.take.Goals as goal

pub invariant_of-self-in-Ok : goal.invariant_of-self-in-Ok
invariant_of-self-in-Ok c =
    let shown : List (Bor Def) → List Def = λ (ds : List (Bor Def)). map (λ (d : Bor Def). d.now) ds in
    let taken = c.self.inside.taken.items in
    let all : shown c.push.new.self.items ≡ shown taken ++ c.args.def.now ∷ [] = ap shown c.in_ok-push.ensures.items ∙ map-append _ taken _ in
    subst (λ ds. IsTable c.note.new.known ds) (sym all)
    (one_more c.self.inside.known c.note.new.known (shown taken) c.args.def.now c.args.weight
    (c.requires ∙ ap (λ ds. min limit (expr_weight (weights_of ds) c.args.def.now.body)) (sym c.self.view_is))
    c.self.invariant
    (λ other. c.in-Ok.ensures.noted other ∙ ap (λ name. or_first (held c.self.inside.known other) name c.args.weight other) c.as_slice.ensures))
