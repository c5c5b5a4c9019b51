use Rattle.std.proofs.Common.{Some, List, length, slice_get, refl, sym, ap, ◌∙◌}
use Rattle.std.proofs.lemmas.Option.{slice_get_read, slice_get_past}
use Rattle.ygg_cert.specs.declared.item.Goal.{Goal}
use Rattle.ygg_cert.proofs.source.WantedGoals.goal.Goals as goal

pub returns-in_ok-of-in-Some : goal.returns-in_ok-of-in-Some
returns-in_ok-of-in-Some c =
    let all : List Goal = c.as_slice.result.now in
    let there = slice_get_read all (length all) c.args.place c.in-Some.goal.now refl c.in-Some.ensures.lookup.3.0 c.in-Some.ensures.lookup.1 in
    ap Some c.in_ok-of-in-Some.ensures ∙ (sym there ∙ ap (λ (l : List Goal). slice_get l c.args.place) c.as_slice.ensures)

pub returns-in-None : goal.returns-in-None
returns-in-None c =
    let all : List Goal = c.as_slice.result.now in
    sym (slice_get_past all c.args.place c.in-None.ensures.lookup.3) ∙ ap (λ (l : List Goal). slice_get l c.args.place) c.as_slice.ensures
