use Rattle.std.proofs.Common.{sym, subst}
use Rattle.ygg_syntax.specs.declared.tree.File.{File}
use Rattle.ygg_oblige_reading.proofs.of_ygg_meaning_laws.Derived.{derivable_derived}
use Rattle.ygg_oblige_list.specs.ygg_meaning.Stack.{layers_of}
use Rattle.ygg_oblige_reading.proofs.of_ygg_oblige_laws.Files.{typed_layers}
use Rattle.ygg_oblige_reading.specs.ygg_oblige_laws.TypedLayers.{LayersTyped}
use Rattle.ygg_oblige_reading.specs.Sites.{IsPlaced}
use Rattle.ygg_oblige_reading.proofs.Cases.{case_is}
use Rattle.ygg_oblige_reading.proofs.reading.case_at.Goals as goal

pub site_at-requires-clause-typed : goal.site_at-requires-clause-typed
site_at-requires-clause-typed g c =
    let f = c.args.typed.now.file in
    subst (λ (z : File). LayersTyped z.defs z.disk (layers_of z)) (sym c.file-file.ensures.same)
    (typed_layers f (derivable_derived f c.file-file.ensures.derivable) c.file-file.ensures.typed)

pub returns : goal.returns
returns g c =
    let kinds = g.B.Book.kinds c.args.book.now in
    let placed = subst (λ (z : File). IsPlaced kinds z c.args.place c.in_ok-site.site) c.file-file.ensures.same c.in_ok-site.ensures in
    case_is kinds c.args.typed.now.file c.args.place c.in_ok-site.site c.kind_of.result placed c.kind_of.ensures
