use Rattle.std.proofs.Common.{◌≡◌, drop}
use Rattle.ygg_bank.specs.Values.{given_for}
use Rattle.ygg_bank.proofs.env.given_for.Given as goal

-- the items still to come give what all items give
abbrev pub invariant-loop-given : goal.invariant-loop-given
invariant-loop-given l = given_for (drop l.given-index l.given-items) l.number ≡ given_for l.env l.number
