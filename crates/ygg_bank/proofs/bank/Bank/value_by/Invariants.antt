use Rattle.std.proofs.Common.{take, nat_eq}
use Rattle.indexmap.specs.IndexMap.{get}
use Rattle.ygg_bank.specs.Values.{numbers_given}
use Rattle.ygg_bank.proofs.Evaluating.{Evaluated}
use Rattle.ygg_bank.proofs.bank.Bank.value_by.Given as goal

abbrev pub invariant-loop-place : goal.invariant-loop-place
invariant-loop-place l = Evaluated (numbers_given (get nat_eq l.given)) l.self (take l.place-index l.places) (get nat_eq l.values)
