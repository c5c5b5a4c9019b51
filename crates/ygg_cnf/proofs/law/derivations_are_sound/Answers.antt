use Rattle.std.proofs.Common.{◌≡◌, Some}
use Rattle.ygg_cnf.proofs.Soundness.{derived_true, refuted_false, chain_within, taught_new}
use Rattle.ygg_cnf.proofs.law.derivations_are_sound.Goals as goal

pub returns : goal.returns
returns c = record {
  derived = λ held chain clause value. derived_true (λ id named. held id ≡ Some named) value chain clause;
  refuted = refuted_false;
  numbered = chain_within;
  taught = taught_new;
}
