use Rattle.std.proofs.Common.{◌∙◌}
use Rattle.ygg_sym_bodies.proofs.Numbered.{layer_below, variables_above, variables_zero}
use Rattle.ygg_sym_bodies.proofs.site.variables.Goals as goal

pub returns-then-number-eq0 : goal.returns-then-number-eq0
returns-then-number-eq0 c = c.requires.tables ∙ variables_zero c.args.file.now c.args.number c.if-number-eq0.true

pub returns : goal.returns
returns c =
    let f = c.args.file.now in
    let there = layer_below f c.args.number c.as_slice.result.now c.index-as_slice-number.result c.as_slice.ensures c.if-number-eq0.false c.requires.there
    c.index-as_slice-number.is in
    c.as_slice-2.ensures ∙ variables_above f c.args.number c.index-as_slice-number.result c.if-number-eq0.false there
