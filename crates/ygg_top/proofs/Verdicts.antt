-- From verdicts on a file's obligations to how `verify` ends.
use Rattle.std.proofs.Common.{◌≡◌, ℕ, Bool, true, false, if◌then◌else◌, List, [], ◌∷◌, All, refl, sym, ◌∙◌}
use Rattle.std.proofs.lemmas.List.Elements.{All-nil, All-cons}
use Rattle.ygg_base.specs.declared.status.Status.{Status}
use Rattle.ygg_base.specs.declared.status.Status.TheVariants.{Done, Refuted, Undecided}
use Rattle.ygg_syntax.specs.declared.tree.File.{File}
use Rattle.ygg_syntax.specs.Files.{IsDerived}
use Rattle.ygg_yard.specs.ygg_type_rules.Files.{IsTyped}
use Rattle.ygg_oblige_reading.specs.ygg_rules.declared.rule.RuleKind.{RuleKind}
use Rattle.ygg_yard.specs.ygg_meaning.Stack.{FileRefines}
use Rattle.ygg_yard.specs.ygg_meaning.Claims.{Claim, ClaimHolds, claims_of}
use Rattle.ygg_yard.specs.ygg_meaning.HistoryLaws.{RefinesByList}
use Rattle.ygg_yard.specs.ygg_meaning_laws.ProgressLaws.{TypedHistories}
use Rattle.ygg_certify.specs.ygg_bank.declared.node.Id.{Id}
use Rattle.ygg_certify.specs.ygg_bank.declared.node.Node.{Node}
use Rattle.ygg_certify.specs.ygg_oblige_laws.Terms.{file_made}
use Rattle.ygg_sched_names.specs.ObligeSchedulesLaws.{FileSchedules}
use Rattle.ygg_top.specs.Verdict.{
  Verdict,
  Holds,
  Fails,
  Spent,
  AreTrue,
  any_failed,
  any_spent,
  status_by,
  last_lines,
  IsRefutation,
  HistoriesAllowed,
  ByVerdicts,
  Verified,
}

-- a file without a type error that derives, and the laws on files like it
pub record Proper (f : File) : Type 0 where
  pub derived : ∥ IsDerived f ∥₁
  pub typed : IsTyped f
  pub by_list : RefinesByList
  pub histories : TypedHistories
  pub schedules : FileSchedules

nothing_failed : (failed spent : Bool) → (if failed then Refuted else if spent then Undecided else Done) ≡ Done → (failed ≡ false) × (spent ≡ false)
nothing_failed true spent e = absurd (cc e)
nothing_failed false true e = absurd (cc e)
nothing_failed false false e = (refl, refl)

-- where no verdict is that an obligation fails or was spent, all hold
all_hold : (nodes : List Node) (budget : ℕ) (cs : List Claim) (ts : List Id) (vs : List Verdict) → AreTrue nodes budget cs ts vs → any_failed vs ≡ false →
    any_spent vs ≡ false → All ClaimHolds cs
all_hold nodes budget [] [] [] t f s = All-nil ClaimHolds
all_hold nodes budget (c ∷ cs) (t ∷ ts) (Holds ∷ vs) all f s = All-cons ClaimHolds c cs all.0 (all_hold nodes budget cs ts vs all.1 f s)
all_hold nodes budget (c ∷ cs) (t ∷ ts) (Fails x ∷ vs) all f s = absurd (cc f)
all_hold nodes budget (c ∷ cs) (t ∷ ts) (Spent ∷ vs) all f s = absurd (cc s)
all_hold nodes budget [] [] (v ∷ vs) all f s = absurd all
all_hold nodes budget [] (t ∷ ts) vs all f s = absurd all
all_hold nodes budget (c ∷ cs) [] vs all f s = absurd all
all_hold nodes budget (c ∷ cs) (t ∷ ts) [] all f s = absurd all

-- where no verdict fails the status is not that of a refutation
pub none_failed : (failed spent : Bool) → failed ≡ false → (if failed then Refuted else if spent then Undecided else Done) ≡ Refuted → ⊥
none_failed true spent n e = absurd (cc n)
none_failed false true n e = absurd (cc e)
none_failed false false n e = absurd (cc e)

module _ (kinds : List RuleKind) (f : File) (budget : ℕ) (p : Proper f) where
  abbrev nodes : List Node
  nodes = (file_made kinds f []).nodes

  abbrev terms : List Id
  terms = (file_made kinds f []).value

  pub refines : (vs : List Verdict) → AreTrue nodes budget (claims_of f) terms vs → status_by vs ≡ Done → FileRefines f
  refines vs t d =
      let e = nothing_failed (any_failed vs) (any_spent vs) d in (p.by_list f).0 (all_hold nodes budget (claims_of f) terms vs t e.0 e.1)

  pub allowed : (vs : List Verdict) → AreTrue nodes budget (claims_of f) terms vs → status_by vs ≡ Done → HistoriesAllowed f
  allowed vs t d = p.histories f p.derived p.typed (refines vs t d)

  -- how `verify` ends by true verdicts, with what is printed where one fails
  pub verified : (status : Status) (text : List ℕ) (by : ByVerdicts kinds f budget status text) →
      (status ≡ Refuted → IsRefutation f (claims_of f) (last_lines f (claims_of f) by.verdicts)) → Verified kinds f budget status text
  verified status text by refuted = record {
    by = by;
    refuted = refuted;
    refines = λ d. refines by.verdicts by.are_true (sym by.status_is ∙ d);
    allowed = λ d. allowed by.verdicts by.are_true (sym by.status_is ∙ d);
  }
