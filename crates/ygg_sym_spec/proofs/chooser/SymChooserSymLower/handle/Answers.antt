use Rattle.ygg_sym_spec.proofs.chooser.SymChooserSymLower.handle.Goals as goal

pub make-requires : goal.make-requires
make-requires g c = let may = c.requires.asks in let stands = may.stands in stands.single
