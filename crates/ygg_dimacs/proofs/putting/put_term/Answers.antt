use Rattle.std.proofs.Common.{inr, refl, []}
use Rattle.ygg_blast.specs.ygg_bank_proofs_Widths.{stands}
use Rattle.ygg_blast.specs.ygg_gates.Groups.{translated}
use Rattle.ygg_dimacs.specs.Counted.{clauses_text}
use Rattle.ygg_cnf.proofs.Flowing.{cut_here}
use Rattle.ygg_dimacs.proofs.putting.put_term.Goals as goal

pub circuit_of-requires : goal.circuit_of-requires
circuit_of-requires g c = stands c.args.bank.now c.args.term 1 c.requires

pub returns-in_default-clause-told : goal.returns-in_default-clause-told
returns-in_default-clause-told g c =
    inr (inr (refl, cut_here (g.K.Sink.taken c.args.sink.now) [] (clauses_text (translated c.args.bank.now c.args.term).clauses)))
