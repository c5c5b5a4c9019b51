use Rattle.std.proofs.Common.{◌++◌, ◌∙◌, arith}
use Rattle.ygg_syntax.specs.declared.tree.Layer.{Layer}
use Rattle.ygg_read.specs.LayerParts.{claims_pending, claims_read}
use Rattle.ygg_read.specs.Parts.{setup_pending, setup_read, steps_pending, steps_read}
use Rattle.ygg_read.proofs.Files.{reads_layer}
use Rattle.ygg_read.proofs.layer.layer.Goals as goal

pub returns-in-Ok-None-parts-clause-refused : goal.returns-in-Ok-None-parts-clause-refused
returns-in-Ok-None-parts-clause-refused c =
    let gone = rw c.in-Ok-Some.field-0-is at c.in-Ok-Some.ensures.goes in
    let stopped = rw c.in-Ok-None-parts.field-0-is at c.in-Ok-None-parts.ensures.refused in
    λ qs. gone (setup_pending ++ (steps_pending ++ (claims_pending ++ qs))) ∙ stopped qs

pub returns-clause-reads : goal.returns-clause-reads
returns-clause-reads c =
    let first = rw c.in-Ok-Some.field-0-is at c.in-Ok-Some.ensures.reads in
    let second = rw c.in-Ok-Some-parts.field-0-is at c.in-Ok-Some-parts.ensures.reads in
    let s = c.in-Ok-Some-parts.part.0 in
    let t = c.in-Ok-Some-parts.part.1.0 in
    let u = c.in-Ok-Some-parts.part.1.1 in
    let l : Layer = record {
      place = c.args.place;
      name = c.in-Ok-Some.part;
      state = s.state;
      start = s.start;
      memory = s.memory;
      format = s.format;
      operations = t.operations;
      crash_place = t.crash_place;
      crash = t.crash;
      ticks = t.ticks;
      recover = t.recover;
      relate = u.relate;
      always = u.always;
      settled = u.settled;
      maybe = u.maybe;
    } in
    λ qs. reads_layer l c.args.reader.now qs ∙ first (setup_read s ++ (steps_read t ++ (claims_read u ++ qs)))
    ∙ second qs

pub returns-clause-goes : goal.returns-clause-goes
returns-clause-goes c =
    let gone = rw c.in-Ok-Some.field-0-is at c.in-Ok-Some.ensures.goes in
    let rest = rw c.in-Ok-Some-parts.field-0-is at c.in-Ok-Some-parts.ensures.goes in
    λ qs. gone (setup_pending ++ (steps_pending ++ (claims_pending ++ qs))) ∙ rest qs

pub returns-in-Ok-None-clause-refused : goal.returns-in-Ok-None-clause-refused
returns-in-Ok-None-clause-refused c =
    let stopped = rw c.in-Ok-None.field-0-is at c.in-Ok-None.ensures.refused in
    λ qs. stopped (setup_pending ++ (steps_pending ++ (claims_pending ++ qs)))

pub returns-clause-shorter : goal.returns-clause-shorter
returns-clause-shorter c =
    let first = rw c.in-Ok-Some.field-0-is at c.in-Ok-Some.ensures.shorter in
    let second = rw c.in-Ok-Some-parts.field-0-is at c.in-Ok-Some-parts.ensures.shorter in
    omega (arith, first, second)
