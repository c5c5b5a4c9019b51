use Rattle.std.proofs.Common.{◌≡◌, ℕ, List}
use Rattle.ygg_syntax.specs.declared.tree.File.{File}
use Rattle.ygg_oblige_reading.specs.ygg_rules.declared.rule.RuleKind.{RuleKind}
use Rattle.ygg_certify.specs.ygg_bank.Values.{inputs_of}
use Rattle.ygg_certify.specs.ygg_bank.declared.env.Given.{Given}
use Rattle.ygg_oblige_reading.specs.ygg_sched.declared.schedule.Schedule.{Schedule}
use Rattle.ygg_plain.specs.Fitted.{IsFitted}
use Rattle.ygg_plain.specs.Like.{IsBounded}
use Rattle.ygg_plain.specs.Plain.{ViolatesAsNamed}
use Rattle.ygg_top.specs.Findings.{IsRefutingBy}
use Rattle.ygg_top.specs.Verdict.{refutation}
use Rattle.ygg_top.proofs.Reporting.{answered}
use Rattle.ygg_top.proofs.verdict.refuted_by.Goals as goal

-- what is printed of the obligation at a place
refuting_there : (kinds : List RuleKind) (f : File) (name : List ℕ) (place : ℕ) (env : List Given) (x : Schedule) (text : List ℕ) → IsFitted f place x →
    IsBounded x.stop → ViolatesAsNamed kinds f (inputs_of env) place x → text ≡ refutation f name x → IsRefutingBy kinds f name place env text
refuting_there kinds f name place env x text fitted bounded violates is = record {
  schedule = x;
  fitted = fitted;
  bounded = bounded;
  violates = violates;
  text_is = is;
}

pub plain_at-requires-clause-fit : goal.plain_at-requires-clause-fit
plain_at-requires-clause-fit g c = c.requires.fit

pub returns : goal.returns
returns g c =
    answered c.refuted_with.result c.refuted_with.ensures (λ text is.
    refuting_there (g.B.Book.kinds c.args.rules.now) c.args.typed.now.file c.args.name.now c.args.place c.args.env.now c.in_ok-schedule.schedule text
    c.in_ok-schedule.ensures.fits c.in_ok-schedule.ensures.bounded c.in_ok-schedule.ensures.violates is)
