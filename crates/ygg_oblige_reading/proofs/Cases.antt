-- The operation or background step that stands at its number in a layer's list is the one at that place.
use Rattle.std.proofs.Common.{◌≡◌, ℕ, List, Some, option_map, refl, ap, subst, sym}
use Rattle.ygg_syntax.specs.declared.tree.File.{File}
use Rattle.ygg_syntax.specs.declared.tree.Layer.{Layer}
use Rattle.ygg_oblige_list.specs.ygg_meaning.Obligations.{Obligation, Init, CallOf, CutOf, TickOf, CutTickOf, Idle, Again}
use Rattle.ygg_rules.specs.declared.rule.RuleKind.{RuleKind}
use Rattle.ygg_oblige_schedule.specs.ygg_sched.Cases.{kind_of, obligation_at}
use Rattle.ygg_oblige_schedule.specs.ygg_sched.declared.case.CaseKind.{CaseKind}
use Rattle.ygg_oblige_schedule.specs.declared.site.Site.{Site}
use Rattle.ygg_oblige_reading.specs.Cases.{IsCaseAt}
use Rattle.ygg_oblige_reading.specs.Listing.{StandsIn}
use Rattle.ygg_oblige_reading.specs.Sites.{IsPlaced, obligation_here}

stands_at : (l : Layer) (o : Obligation) (number : ℕ) → StandsIn l.operations l.ticks o number → obligation_at l (kind_of o) number ≡ Some o
stands_at l Init number h = refl
stands_at l (CallOf o) number h = ap (option_map CallOf) h
stands_at l (CutOf o) number h = ap (option_map CutOf) h
stands_at l (TickOf t) number h = ap (option_map TickOf) h
stands_at l (CutTickOf t) number h = ap (option_map CutTickOf) h
stands_at l Idle number h = refl
stands_at l Again number h = refl

-- the places of an obligation of a file
pub case_is : (kinds : List RuleKind) (f : File) (place : ℕ) (s : Site) (kind : CaseKind) → IsPlaced kinds f place s → kind ≡ kind_of (obligation_here s) →
    IsCaseAt f place (record { layer = s.place; kind = kind; number = s.number })
case_is kinds f place s kind p is = record {
  layer = s.layer.now;
  here = p.here;
  obligation = obligation_here s;
  is = subst (λ (k : CaseKind). obligation_at s.layer.now k s.number ≡ Some (obligation_here s)) (sym is)
      (stands_at s.layer.now (obligation_here s) s.number p.stands);
  claim = p.claim;
}
