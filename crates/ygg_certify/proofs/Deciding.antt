-- What is decided of an obligation by its term.
use Rattle.std.proofs.Common.{◌≡◌, ◌⊎◌, inl, inr, ℕ, Bool, List}
use Rattle.ygg_oblige_laws.specs.ygg_meaning.Obligations.{Schedule}
use Rattle.ygg_oblige_laws.specs.ygg_meaning.Claims.{Claim, ClaimHolds, ClaimViolated}
use Rattle.ygg_decide.specs.ygg_cnf.Literals.{SatisfiesAll}
use Rattle.ygg_decide.specs.ygg_bank.Nodes.{IsBank}
use Rattle.ygg_decide.specs.ygg_bank.Values.{inputs_of}
use Rattle.ygg_decide.specs.ygg_bank.declared.env.Given.{Given}
use Rattle.ygg_decide.specs.ygg_bank.declared.node.Id.{Id}
use Rattle.ygg_decide.specs.ygg_bank.declared.node.Node.{Node}
use Rattle.ygg_decide.specs.ygg_gates.Groups.{translated}
use Rattle.ygg_decide.specs.ygg_gates.Laws.{IsZeroIn, AreExact}
use Rattle.ygg_decide.proofs.of_ygg_gates.Whole.{satisfiable_exactly}
use Rattle.ygg_oblige_laws.specs.Meaning.{IsTermOf}
use Rattle.ygg_certify.specs.Laws.{NeverZeroHolds, ZeroIsViolated, EachIsDecided}
use Rattle.ygg_certify.proofs.Listed.{listed_zero}
use Rattle.ygg_certify.proofs.Choosing.{satisfiable}

pub never_zero_holds : NeverZeroHolds
never_zero_holds nodes c term bank t never x violated =
    let zero = listed_zero nodes term bank.ordered (t.shown x violated) in never zero.0 zero.1

pub zero_is_violated : ZeroIsViolated
zero_is_violated nodes c term env t z = t.shows (record { inputs = inputs_of env; fit = z.numbers; is_zero = z.zero })

pub each_is_decided : EachIsDecided
each_is_decided nodes c term bank t = at (satisfiable (translated nodes term).clauses) where
  exact : AreExact nodes term (translated nodes term).clauses
  exact = satisfiable_exactly nodes term bank t.wide

  at : ((value : ℕ → Bool) × SatisfiesAll value (translated nodes term).clauses)
      ⊎ ((value : ℕ → Bool) → SatisfiesAll value (translated nodes term).clauses → ⊥) → ClaimHolds c ⊎ ((x : Schedule) × ClaimViolated c x)
  at (inl found) = let zero = exact.0 found in inr (zero_is_violated nodes c term zero.0 t zero.1)
  at (inr none) = inl (never_zero_holds nodes c term bank t (λ env z. let found = exact.1 (env, z) in none found.0 found.1))
