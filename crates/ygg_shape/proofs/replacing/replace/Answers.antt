use Rattle.ygg_shape.proofs.Replaced.{replaced_shape, replaced_keeps}
use Rattle.ygg_shape.proofs.replacing.replace.Goals as goal

pub returns-clause-shape : goal.returns-clause-shape
returns-clause-shape c nodes s h d = replaced_shape nodes c.args.replacements.now s c.args.value.now c.replace_by.result c.replace_by.ensures h d

pub returns-clause-value : goal.returns-clause-value
returns-clause-value c nodes hypothesis h = replaced_keeps nodes hypothesis c.args.replacements.now c.args.value.now c.replace_by.result c.replace_by.ensures h
