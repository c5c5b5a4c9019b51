use Rattle.std.proofs.Common.{sym, subst}
use Rattle.ygg_syntax.specs.declared.tree.File.{File}
use Rattle.ygg_oblige_reading.proofs.of_ygg_meaning_laws.Derived.{derivable_derived}
use Rattle.ygg_oblige_list.specs.ygg_meaning.Stack.{layers_of}
use Rattle.ygg_oblige.specs.ygg_bank.Values.{inputs_of}
use Rattle.ygg_oblige_schedule.proofs.ChoiceNoting.{if_ok}
use Rattle.ygg_oblige_reading.proofs.of_ygg_oblige_laws.Files.{typed_layers}
use Rattle.ygg_oblige_reading.specs.ygg_oblige_laws.TypedLayers.{LayersTyped}
use Rattle.ygg_oblige_reading.specs.Sites.{IsPlaced}
use Rattle.ygg_oblige_schedule.specs.declared.reader.EnvironmentReader.{EnvironmentReader}
use Rattle.ygg_oblige_reading.proofs.Exactly.{exactly_so, shaped_so}
use Rattle.ygg_oblige_reading.proofs.Placed.{fitted, here, named, named_shaped, stands}
use Rattle.ygg_oblige_reading.proofs.reading.schedule_at.Goals as goal

pub site_at-requires-clause-typed : goal.site_at-requires-clause-typed
site_at-requires-clause-typed g c =
    let f = c.args.typed.now.file in
    subst (λ (z : File). LayersTyped z.defs z.disk (layers_of z)) (sym c.file-file.ensures.same)
    (typed_layers f (derivable_derived f c.file-file.ensures.derivable) c.file-file.ensures.typed)

pub schedule-requires-clause-here : goal.schedule-requires-clause-here
schedule-requires-clause-here g c =
    let kinds = g.B.Book.kinds c.args.book.now in
    let f = c.args.typed.now.file in
    let shaped = shaped_so kinds f (derivable_derived f c.file-file.ensures.derivable) c.file-file.ensures.typed (inputs_of c.args.env.now) c.requires.fit
    c.args.place in
    let placed = subst (λ (z : File). IsPlaced kinds z c.args.place c.in_ok-site.site) c.file-file.ensures.same c.in_ok-site.ensures in
    here kinds _ c.args.place (inputs_of c.args.env.now) placed c.in_ok-table.ensures shaped

pub schedule-requires-clause-stands : goal.schedule-requires-clause-stands
schedule-requires-clause-stands g c =
    let kinds = g.B.Book.kinds c.args.book.now in
    let f = c.args.typed.now.file in
    let shaped = shaped_so kinds f (derivable_derived f c.file-file.ensures.derivable) c.file-file.ensures.typed (inputs_of c.args.env.now) c.requires.fit
    c.args.place in
    let placed = subst (λ (z : File). IsPlaced kinds z c.args.place c.in_ok-site.site) c.file-file.ensures.same c.in_ok-site.ensures in
    stands kinds _ c.args.place (inputs_of c.args.env.now) placed c.in_ok-table.ensures shaped

pub schedule-requires-clause-fit : goal.schedule-requires-clause-fit
schedule-requires-clause-fit g c =
    let kinds = g.B.Book.kinds c.args.book.now in
    let f = c.args.typed.now.file in
    let shaped = shaped_so kinds f (derivable_derived f c.file-file.ensures.derivable) c.file-file.ensures.typed (inputs_of c.args.env.now) c.requires.fit
    c.args.place in
    let placed = subst (λ (z : File). IsPlaced kinds z c.args.place c.in_ok-site.site) c.file-file.ensures.same c.in_ok-site.ensures in
    let r : EnvironmentReader =
    record {
      alloc = c.args.alloc;
      typed = c.args.typed;
      site = c.in_ok-site.site;
      table = record { ref_ptr = (0, 0); now = c.in_ok-table.table };
    } in
    named_shaped kinds r c.args.place (inputs_of c.args.env.now) placed c.in_ok-table.ensures shaped

pub returns-clause-named : goal.returns-clause-named
returns-clause-named g c =
    let kinds = g.B.Book.kinds c.args.book.now in
    let f = c.args.typed.now.file in
    let shaped = shaped_so kinds f (derivable_derived f c.file-file.ensures.derivable) c.file-file.ensures.typed (inputs_of c.args.env.now) c.requires.fit
    c.args.place in
    let placed = subst (λ (z : File). IsPlaced kinds z c.args.place c.in_ok-site.site) c.file-file.ensures.same c.in_ok-site.ensures in
    if_ok c.schedule.result c.schedule.ensures (λ x h.
    named kinds _ c.args.place (inputs_of c.args.env.now) placed c.in_ok-table.ensures shaped x h)

pub returns-clause-fits : goal.returns-clause-fits
returns-clause-fits g c =
    let kinds = g.B.Book.kinds c.args.book.now in
    let f = c.args.typed.now.file in
    let shaped = shaped_so kinds f (derivable_derived f c.file-file.ensures.derivable) c.file-file.ensures.typed (inputs_of c.args.env.now) c.requires.fit
    c.args.place in
    let placed = subst (λ (z : File). IsPlaced kinds z c.args.place c.in_ok-site.site) c.file-file.ensures.same c.in_ok-site.ensures in
    if_ok c.schedule.result c.schedule.ensures (λ x h.
    fitted kinds _ c.args.place (inputs_of c.args.env.now) placed c.in_ok-table.ensures shaped x h)

pub returns-clause-exact : goal.returns-clause-exact
returns-clause-exact g c =
    let f = c.args.typed.now.file in
    if_ok c.schedule.result (returns-clause-named g c) (λ x h.
    exactly_so (g.B.Book.kinds c.args.book.now) f (derivable_derived f c.file-file.ensures.derivable) c.file-file.ensures.typed (inputs_of c.args.env.now)
    c.requires.fit c.args.place x h)
