use Rattle.std.proofs.Common.{◌≡◌, suc, ◌-◌, ◌<◌, length, sym, ap, ◌∙◌, arith}
use Rattle.std.proofs.lemmas.Option.{slice_get_within}
use Rattle.ygg_syntax.specs.declared.tree.File.{File}
use Rattle.ygg_sched.specs.ygg_meaning.Shapes.{values_fit}
use Rattle.ygg_eval.specs.Layers.{variables_at}
use Rattle.ygg_eval.proofs.OnSpec.{fits_at}
use Rattle.ygg_replay.proofs.Asked.{if_ok}
use Rattle.ygg_replay.proofs.Bases.{disk_fits, disk_starts, read, spec_starts}
use Rattle.ygg_replay.proofs.site.ReplaySite.low_at_start.Goals as goal

pub returns-then-self-eq0-clause-starts : goal.returns-then-self-eq0-clause-starts
returns-then-self-eq0-clause-starts c =
    let s = c.args.self.now in
    if_ok _ _ c.fresh_tables.result c.fresh_tables.ensures (disk_starts s.typed.now.file s.place c.if-self-eq0.true)

pub returns-then-self-eq0-clause-fits : goal.returns-then-self-eq0-clause-fits
returns-then-self-eq0-clause-fits c =
    let s = c.args.self.now in
    if_ok _ _ c.fresh_tables.result c.fresh_tables.ensures (disk_fits s.typed.now.file s.typed.now.typed s.place c.if-self-eq0.true)

pub bounds-as_slice-place : goal.bounds-as_slice-place
bounds-as_slice-place c =
    let s = c.args.self.now in
    let within = slice_get_within (s.typed.now.file).layers s.place s.layer.now c.requires in
    let e : length c.as_slice.result.now ≡ length (s.typed.now.file).layers =
    ap length (c.as_slice.ensures ∙ ap (λ (f : File). f.layers) c.file.ensures.same) in
    omega (arith, within, e)

pub start-requires : goal.start-requires
start-requires c =
    let s = c.args.self.now in
    let same = c.as_slice.ensures ∙ ap (λ (f : File). f.layers) c.file.ensures.same in
    let within = slice_get_within (s.typed.now.file).layers s.place s.layer.now c.requires in
    let before : s.place - 1 < length (s.typed.now.file).layers = omega (arith, within) in
    read (s.typed.now.file).layers (s.place - 1) c.index-as_slice-place.result before (rw same at c.index-as_slice-place.is)

pub returns-clause-starts : goal.returns-clause-starts
returns-clause-starts c =
    let s = c.args.self.now in
    let same = c.as_slice.ensures ∙ ap (λ (f : File). f.layers) c.file.ensures.same in
    let within = slice_get_within (s.typed.now.file).layers s.place s.layer.now c.requires in
    let before : s.place - 1 < length (s.typed.now.file).layers = omega (arith, within) in
    let here = read (s.typed.now.file).layers (s.place - 1) c.index-as_slice-place.result before (rw same at c.index-as_slice-place.is) in
    let next : suc (s.place - 1) ≡ s.place = omega (arith, c.if-self-eq0.false) in
    if_ok _ _ c.start.result c.start.ensures
    (λ low h. spec_starts s.typed.now.file (s.place - 1) c.index-as_slice-place.result here s.place next low h.0 h.1.left h.1.is)

pub returns-clause-fits : goal.returns-clause-fits
returns-clause-fits c =
    let s = c.args.self.now in
    let same = c.as_slice.ensures ∙ ap (λ (f : File). f.layers) c.file.ensures.same in
    let within = slice_get_within (s.typed.now.file).layers s.place s.layer.now c.requires in
    let before : s.place - 1 < length (s.typed.now.file).layers = omega (arith, within) in
    let here = read (s.typed.now.file).layers (s.place - 1) c.index-as_slice-place.result before (rw same at c.index-as_slice-place.is) in
    let next : suc (s.place - 1) ≡ s.place = omega (arith, c.if-self-eq0.false) in
    if_ok _ _ c.start.result c.start.ensures
    (λ low h. ap (λ n. values_fit (variables_at s.typed.now.file n) low) (sym next)
    ∙ fits_at s.typed.now.file (s.place - 1) c.index-as_slice-place.result low here h.1.fit)
