use Rattle.std.proofs.Common.{Some, None, get_or, ap, sym, refl, ◌∙◌, subst}
use Rattle.std.specs.Prelude.{slice_set}
use Rattle.ygg_sym_runs.specs.ygg_bank.Makes.{Out}
use Rattle.ygg_sym_runs.specs.ygg_shape_cells.declared.terms.SymValue.{SymValue}
use Rattle.ygg_sym_runs.specs.Names.{SymEnv}
use Rattle.ygg_sym_runs.specs.Seen.{env_of}
use Rattle.ygg_sym_runs.specs.Putting.{put_made}
use Rattle.ygg_sym_runs.specs.Ready.{CanPut}
use Rattle.ygg_sym_runs.proofs.Changed.{place_found, value_first, names_first}
use Rattle.ygg_sym_runs.proofs.names.change.Goals as goal

pub put-requires : goal.put-requires
put-requires g c =
    let names = c.args.names.now in
    let place = c.in-Some.place in
    let first = place_found (env_of names) c.args.name.now (Some place) (sym c.place_in.ensures.first ∙ c.in-Some.is) in
    let b = get_or names place c.index-names-place.result in
    let held = value_first names place b c.args.name.now first c.in-Some.ensures.within (ap (get_or names place) c.index-names-place.is) in
    record { can = subst (λ (v : SymValue). CanPut c.args.bank.now v c.args.places.now c.args.new) (sym held) c.requires.can }

pub returns-in_ok-value-in-Some-clause-nodes : goal.returns-in_ok-value-in-Some-clause-nodes
returns-in_ok-value-in-Some-clause-nodes g c =
    let kinds = g.B.Book.kinds c.args.book.now in
    let names = c.args.names.now in
    let place = c.in-Some.place in
    let first = place_found (env_of names) c.args.name.now (Some place) (sym c.place_in.ensures.first ∙ c.in-Some.is) in
    let b = get_or names place c.index-names-place.result in
    let held = value_first names place b c.args.name.now first c.in-Some.ensures.within (ap (get_or names place) c.index-names-place.is) in
    c.in_ok-value-in-Some.ensures.nodes
    ∙ ap (λ (v : SymValue). (put_made kinds v c.args.places.now c.args.new c.args.bank.now).nodes) held
    ∙ sym (ap (λ (o : Out SymEnv). o.nodes) (first.changed (λ old. put_made kinds old c.args.places.now c.args.new) c.args.bank.now))

pub returns-in_ok-value-in-Some-clause-names : goal.returns-in_ok-value-in-Some-clause-names
returns-in_ok-value-in-Some-clause-names g c =
    let kinds = g.B.Book.kinds c.args.book.now in
    let names = c.args.names.now in
    let place = c.in-Some.place in
    let name = c.args.name.now in
    let first = place_found (env_of names) name (Some place) (sym c.place_in.ensures.first ∙ c.in-Some.is) in
    let b = get_or names place c.index-names-place.result in
    let held = value_first names place b name first c.in-Some.ensures.within (ap (get_or names place) c.index-names-place.is) in
    let d = get_or names place c.index-names-place-in-Some.result in
    names_first names place d (record { name = d.name; value = c.in_ok-value-in-Some.value }) name c.in_ok-value-in-Some.value first
    c.in-Some.ensures.within (ap (get_or names place) c.index-names-place-in-Some.is) refl refl
    ∙ ap (λ (x : SymValue). slice_set (env_of names) place (name, x))
    (c.in_ok-value-in-Some.ensures.form ∙ ap (λ (v : SymValue). (put_made kinds v c.args.places.now c.args.new c.args.bank.now).value) held)
    ∙ sym (ap (λ (o : Out SymEnv). o.value) (first.changed (λ old. put_made kinds old c.args.places.now c.args.new) c.args.bank.now))

pub returns-in-None-clause-nodes : goal.returns-in-None-clause-nodes
returns-in-None-clause-nodes g c =
    let kinds = g.B.Book.kinds c.args.book.now in
    let none = place_found (env_of c.args.names.now) c.args.name.now None (sym c.place_in.ensures.first ∙ c.in-None.is) in
    sym (ap (λ (o : Out SymEnv). o.nodes) (none (λ old. put_made kinds old c.args.places.now c.args.new) c.args.bank.now))

pub returns-in-None-clause-names : goal.returns-in-None-clause-names
returns-in-None-clause-names g c =
    let kinds = g.B.Book.kinds c.args.book.now in
    let none = place_found (env_of c.args.names.now) c.args.name.now None (sym c.place_in.ensures.first ∙ c.in-None.is) in
    sym (ap (λ (o : Out SymEnv). o.value) (none (λ old. put_made kinds old c.args.places.now c.args.new) c.args.bank.now))
