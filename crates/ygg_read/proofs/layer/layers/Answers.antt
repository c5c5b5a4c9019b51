use Rattle.std.proofs.Common.{◌∷◌, ◌++◌, ◌∙◌, refl, sym, ap, length, arith}
use Rattle.ygg_base.specs.declared.token.Keyword.TheVariants as word
use Rattle.ygg_syntax.specs.Reading.{Reading, in_turn}
use Rattle.ygg_syntax.specs.Files.{layer}
use Rattle.ygg_syntax.specs.Pending.{repeated, next_layer, rest_of_layer, outcome}
use Rattle.ygg_read.proofs.ClaimLists.{none_read, one_more, all_read, all_gone, one_stops, filled, layer_comes}
use Rattle.ygg_read.proofs.layer.layers.Goals as goal

pub loop-place-init : goal.loop-place-init
loop-place-init c =
    let step = rw c.in-Some-2.is at c.in_ok-first.ensures.read in
    let read = rw step.1.0 at c.layer.ensures.reads in
    let gone = rw step.1.0 at c.layer.ensures.goes in
    let shorter = rw step.1.0 at c.layer.ensures.shorter in
    record {
      each = one_more layer word.Layer rest_of_layer _ c.args.reader.now c.keyword.new.self c.layer.new.reader c.new-none.result c.in-Some-2.first
          step.0 c.in-Some.place
          (none_read _ _ _ _ _ c.new-none.ensures) c.in-Some.ensures.taken read gone shorter step.1.1;
      some = filled c.new-none.result step.0 c.in-Some-2.first step.1.1;
    }

pub loop-place-preserved : goal.loop-place-preserved
loop-place-preserved c =
    let step = rw c.in-Some-3.is at c.in_ok-more.ensures.read in
    let read = rw step.1.0 at c.layer-in-Some-keyword.ensures.reads in
    let gone = rw step.1.0 at c.layer-in-Some-keyword.ensures.goes in
    let shorter = rw step.1.0 at c.layer-in-Some-keyword.ensures.shorter in
    record {
      each = one_more layer word.Layer rest_of_layer _ c.loop-place.reader c.keyword-in-loop-place.new.self c.layer-in-Some-keyword.new.reader
          c.loop-place.all c.in-Some-3.more step.0
          c.in-Some-keyword.place c.loop-place.invariant.each c.in-Some-keyword.ensures.taken read gone shorter step.1.1;
      some = filled c.loop-place.all step.0 c.in-Some-3.more step.1.1;
    }

pub loop-place-smaller : goal.loop-place-smaller
loop-place-smaller c =
    let step = rw c.in-Some-3.is at c.in_ok-more.ensures.read in
    let shorter = rw step.1.0 at c.layer-in-Some-keyword.ensures.shorter in
    omega (arith, shorter, ap length c.in-Some-keyword.ensures.taken)

pub returns-in_default-2-clause-refused : goal.returns-in_default-2-clause-refused
returns-in_default-2-clause-refused c =
    let none = rw c.in_default-2.is at c.in_ok-first.ensures.refused in
    let stopped = rw none at c.layer.ensures.refused in
    λ qs. c.in-Some.ensures.goes (rest_of_layer ++ (repeated next_layer ∷ qs)) ∙ stopped (repeated next_layer ∷ qs)

pub returns-in_default-3-clause-refused : goal.returns-in_default-3-clause-refused
returns-in_default-3-clause-refused c =
    let none = rw c.in_default-3.is at c.in_ok-more.ensures.refused in
    let stopped = rw none at c.layer-in-Some-keyword.ensures.refused in
    λ qs. layer_comes c.args.reader.now c.keyword.new.self c.in-Some.place c.in-Some.ensures.taken qs
    ∙ one_stops layer word.Layer rest_of_layer _ c.loop-place.reader c.keyword-in-loop-place.new.self c.layer-in-Some-keyword.new.reader
    c.loop-place.all c.in-Some-keyword.place
    c.loop-place.invariant.each c.in-Some-keyword.ensures.taken stopped next_layer refl refl qs

pub returns-clause-reads : goal.returns-clause-reads
returns-clause-reads c =
    λ qs. ap (λ (r : Reading). in_turn (r ∷ qs) c.args.reader.now) c.loop-place.invariant.some
    ∙ all_read layer word.Layer rest_of_layer _ c.loop-place.reader c.loop-place.all c.loop-place.invariant.each qs
    ∙ ap (in_turn qs) (sym c.in_default-keyword.ensures.left)

pub returns-clause-goes : goal.returns-clause-goes
returns-clause-goes c =
    λ qs. layer_comes c.args.reader.now c.keyword.new.self c.in-Some.place c.in-Some.ensures.taken qs
    ∙ all_gone layer word.Layer rest_of_layer _ c.loop-place.reader c.loop-place.all c.loop-place.invariant.each c.in_default-keyword.ensures.other
    next_layer refl refl qs
    ∙ ap (outcome qs) (sym c.in_default-keyword.ensures.left)
