use Rattle.std.proofs.Common.{◌≡◌, take}
use Rattle.ygg_oblige.specs.Obligations.{names_in, terms_in}
use Rattle.ygg_certify.specs.Certifying.{AreFound}
use Rattle.ygg_certify.proofs.certifying.find_all.Given as goal

-- what was found of the first obligations
abbrev pub invariant-loop-o : goal.invariant-loop-o
invariant-loop-o g l = record {
  same : l.bank ≡ l.initial.bank;
  found : AreFound l.initial.bank l.budget (names_in (take l.o-index l.all)) (terms_in (take l.o-index l.all)) l.findings;
}
