use Rattle.std.proofs.Common.{◌≡◌, ℕ, IfOk, Option, subst, sym}
use Rattle.ygg_value.specs.Number.{Number}
use Rattle.ygg_bank.specs.Values.{GivenFit, numbers_given, value_of}
use Rattle.ygg_bank.proofs.bank.Bank.value.Goals as goal

pub value_given-requires-clause-given : goal.value_given-requires-clause-given
value_given-requires-clause-given c = subst (λ given. GivenFit given c.args.self.now) (sym c.in_ok-given.ensures) c.requires.env

pub returns : goal.returns
returns c =
    subst (λ (given : ℕ → Option Number). IfOk c.value_given.result (λ word. word ≡ value_of (numbers_given given) c.args.self.now c.args.id.0))
    c.in_ok-given.ensures c.value_given.ensures
