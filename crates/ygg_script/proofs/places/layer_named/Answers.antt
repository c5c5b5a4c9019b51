use Rattle.std.proofs.Common.{◌≡◌, ◌∙◌, ◌≤◌, ◌<◌, sym, ap, subst, length, List}
use Rattle.std.specs.Prelude.{IfSome}
use Rattle.ygg_syntax.specs.declared.tree.Layer.{Layer}
use Rattle.ygg_syntax.specs.declared.tree.File.{File}
use Rattle.ygg_sched.proofs.of_ygg_type.Sizes.{few_layers}
use Rattle.ygg_script.specs.Places.{layer_place}
use Rattle.ygg_script.proofs.places.layer_named.Goals as goal

pub place_of_layer-requires : goal.place_of_layer-requires
place_of_layer-requires c =
    let layers : c.as_slice.result.now ≡ c.args.typed.now.file.layers = c.as_slice.ensures ∙ ap (λ (f : File). f.layers) c.file.ensures.same in
    subst (λ (ls : List Layer). length ls ≤ 8) (sym layers) (few_layers c.args.typed.now.file c.args.typed.now.typed)

pub returns-clause-place : goal.returns-clause-place
returns-clause-place c =
    let layers : c.as_slice.result.now ≡ c.args.typed.now.file.layers = c.as_slice.ensures ∙ ap (λ (f : File). f.layers) c.file.ensures.same in
    c.place_of_layer.ensures.place ∙ ap (λ (ls : List Layer). layer_place 0 ls c.args.name.now) layers

pub returns-clause-within : goal.returns-clause-within
returns-clause-within c =
    let layers : c.as_slice.result.now ≡ c.args.typed.now.file.layers = c.as_slice.ensures ∙ ap (λ (f : File). f.layers) c.file.ensures.same in
    subst (λ (ls : List Layer). IfSome c.place_of_layer.result (λ place. place < length ls)) layers c.place_of_layer.ensures.within
