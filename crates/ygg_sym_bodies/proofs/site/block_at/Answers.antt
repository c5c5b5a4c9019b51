use Rattle.std.proofs.Common.{refl, sym, subst}
use Rattle.ygg_syntax.specs.declared.tree.File.{File}
use Rattle.ygg_meaning_laws.proofs.Derived.{derivable_derived}
use Rattle.ygg_meaning.specs.Stack.{layers_of}
use Rattle.ygg_oblige_laws.proofs.Files.{typed_layers}
use Rattle.ygg_oblige_laws.specs.TypedLayers.{LayersTyped}
use Rattle.ygg_sym_bodies.proofs.Typed.{site_fits}
use Rattle.ygg_sym_bodies.proofs.site.block_at.Goals as goal

pub returns-clause-fits : goal.returns-clause-fits
returns-clause-fits c =
    let f = c.args.typed.now.file in
    let all = subst (λ (z : File). LayersTyped z.defs z.disk (layers_of z)) (sym c.file.ensures.same)
    (typed_layers f (derivable_derived f c.file.ensures.derivable) c.file.ensures.typed) in
    let level = c.level_of-level.result in
    let said = c.level_of-level.ensures in
    site_fits c.file.result.now c.args.body
    (record { layer = level.layer; below = level.below; block = c.in-Some.block; names = c.arguments_of.result }) (level.layer).layer.now
    c.in-Some.block.now (record { defs = said.defs; layer = refl; low = said.low; below = said.below; block = refl; names = c.arguments_of.ensures }) all
    (record { layer = said.layer; block = sym c.in-Some.ensures }) said.same
