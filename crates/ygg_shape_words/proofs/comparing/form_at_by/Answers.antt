use Rattle.ygg_bank.proofs.Widths.{stands}
use Rattle.ygg_shape_words.proofs.comparing.form_at_by.Goals as goal

pub node-requires : goal.node-requires
node-requires c = let w = c.requires.words in stands c.args.bank.now c.args.one w.width w.one_has

pub node-requires-else-progress-eq0 : goal.node-requires-else-progress-eq0
node-requires-else-progress-eq0 c = let w = c.requires.words in stands c.args.bank.now c.args.two w.width w.two_has
