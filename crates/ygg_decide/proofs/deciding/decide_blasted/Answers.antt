use Rattle.std.proofs.Common.{refl}
use Rattle.ygg_decide.proofs.Sound.{never_zero, satisfied, refuted}
use Rattle.ygg_decide.proofs.deciding.decide_blasted.Goals as goal

pub returns-in-Sat-clause-decided : goal.returns-in-Sat-clause-decided
returns-in-Sat-clause-decided c =
    c.in_ok-environment_of-in-Sat.ensures.zero c.args.bank.now c.args.term c.into_parts-clauses.result.0 c.len.ensures.bank c.requires.width
    (rw (c.into_parts-clauses.ensures.clauses, c.into_parts-clauses.ensures.sources) c.requires.form)
    (satisfied _ _ _ _ _ refl c.in-Sat.is c.in_ok-assignment.ensures.answer)

pub returns-in-Unsat-clause-sound : goal.returns-in-Unsat-clause-sound
returns-in-Unsat-clause-sound c =
    never_zero c.args.bank.now c.args.term _ _ c.requires.exactly c.derivations_are_sound.ensures.refuted
    (refuted _ _ _ _ _ c.into_parts-clauses.ensures.clauses c.in-Unsat.is c.in_ok-assignment.ensures.answer)
