use Rattle.std.proofs.Common.{Some, None, get_or, ap, sym, ◌∙◌, subst, map, length}
use Rattle.ygg_value.specs.declared.row.Value.{Value}
use Rattle.ygg_value.specs.Number.{Number}
use Rattle.ygg_value.specs.Values.{with_part}
use Rattle.ygg_eval_expr.specs.ygg_meaning.Environments.{look_up}
use Rattle.ygg_eval_expr.specs.Held.{env_of}
use Rattle.ygg_eval_expr.specs.Writing.{CanWrite}
use Rattle.ygg_eval.proofs.Firsts.{place_found, held_first, written, on_ok}
use Rattle.ygg_eval.proofs.names.write_name.Goals as goal

pub rewrite-requires : goal.rewrite-requires
rewrite-requires c =
    let first = place_found (env_of c.args.names.now) c.args.name.now (Some c.in-Some.place) (sym c.place_in.ensures.first ∙ c.in-Some.is) in
    let names = c.args.names.now in
    let held = held_first names c.in-Some.place (get_or names c.in-Some.place c.index-names-place.result) c.args.name.now first
    c.in-Some.ensures.within (ap (get_or names c.in-Some.place) c.index-names-place.is) in
    subst (λ (v : Value). CanWrite v (length c.args.indices.now) c.args.value) (sym held) c.requires

pub returns-in-Some : goal.returns-in-Some
returns-in-Some c =
    let first = place_found (env_of c.args.names.now) c.args.name.now (Some c.in-Some.place) (sym c.place_in.ensures.first ∙ c.in-Some.is) in
    let names = c.args.names.now in
    on_ok c.rewrite.result c.rewrite.ensures.name c.rewrite.ensures.value
    (λ same value. written names c.in-Some.place (get_or names c.in-Some.place c.index-names-place.result) c.rewrite.new.binding c.args.name.now
    (map (λ (w : Number). w.bits) c.args.indices.now) c.args.value first
    (ap (get_or names c.in-Some.place) c.index-names-place.is) c.in-Some.ensures.within same value)

pub returns-in-None : goal.returns-in-None
returns-in-None c =
    sym (place_found (env_of c.args.names.now) c.args.name.now None (sym c.place_in.ensures.first ∙ c.in-None.is)
    (with_part (look_up c.args.name.now (env_of c.args.names.now)) (map (λ (w : Number). w.bits) c.args.indices.now) c.args.value))
