-- What is told of where runs end, and of a schedule of a file.
use Rattle.std.proofs.Common.{◌≡◌, ℕ, Bool, true, List, ◌++◌, slice_get, Some, ap, ◌∙◌, subst}
use Rattle.ygg_syntax.specs.declared.tree.File.{File}
use Rattle.ygg_replay.specs.ygg_meaning.Environments.{Env}
use Rattle.ygg_replay.specs.ygg_meaning.Machine.{Machine}
use Rattle.ygg_replay.specs.ygg_meaning.Layer.{ClosedLayer}
use Rattle.ygg_replay.specs.ygg_meaning.Obligations.{Obligation, Init, CallOf, CutOf, TickOf, CutTickOf, Idle, Again}
use Rattle.ygg_replay.specs.ygg_meaning.Obligations as obligations
use Rattle.ygg_replay.specs.ygg_meaning.Replayed.{Replays, has_stop}
use Rattle.ygg_replay.specs.ygg_meaning.Violates.{End, FallsSo, Reached, most}
use Rattle.ygg_eval.specs.Layers.{closed_at, machine_at}
use Rattle.ygg_replay.specs.Ends.{end_at}
use Rattle.ygg_replay.specs.Schedules.{IsShown, meant, shown_by}
use Rattle.ygg_replay.specs.Sites.{closed_in, machine_in}
use Rattle.ygg_replay.specs.Steps.{meant_at}
use Rattle.ygg_replay.specs.declared.ends.End.{End as Ended}
use Rattle.ygg_replay.specs.declared.schedule.Replayed.{Replayed}
use Rattle.ygg_replay.specs.declared.site.ReplaySite.{ReplaySite}
use Rattle.ygg_replay.specs.ygg_sched.Cases.{IsFirstNamed}
use Rattle.ygg_replay.proofs.Places.{claim_at, claim_is, stands}
use Rattle.ygg_sched.specs.declared.case.Case.{Case}
use Rattle.ygg_sched.specs.declared.case.CaseKind.{CaseKind}
use Rattle.ygg_sched.specs.declared.schedule.Schedule.{Schedule}
use Rattle.ygg_sched.specs.Sites.{Site}
use Rattle.ygg_base.specs.declared.status.Status.{Status}
use Rattle.ygg_replay.specs.Ending.{line_of, status_of}
use Rattle.ygg_explain.specs.Ending.{IsExplainedOf, first_lines}
use Rattle.ygg_explain.specs.Parts.{Adds}
use Rattle.ygg_explain.specs.Sites.{IsOf, IsToldOf, MeetsIn, TellsIn}
use Rattle.ygg_explain.specs.Told.{AreChoices, ToldOf, lists_by, reached_lines, settled_lines}
use Rattle.ygg_explain.proofs.Adding.{joined_2}
use Rattle.ygg_explain.proofs.Choosing.{kind_is}

-- runs that end so have reached their stop
pub no_fall : (L : ClosedLayer) (M : Machine Env Bool) (o : Obligation) (x : obligations.Schedule) (end : End) → Reached L M o x end → has_stop o ≡ true →
    ((fallen : Env) → FallsSo L M o x fallen → ⊥) → ⊥
no_fall L M (CutOf p) x end r h n = n r.fallen r.falls
no_fall L M (CutTickOf t) x end r h n = n r.fallen r.falls
no_fall L M Again x end r h n = n r.fallen r.falls
no_fall L M Init x end r h n = absurd (cc)
no_fall L M (CallOf p) x end r h n = absurd (cc)
no_fall L M (TickOf t) x end r h n = absurd (cc)
no_fall L M Idle x end r h n = absurd (cc)

-- where the runs have ended, and what the specification may do
pub ends_told : (s : ReplaySite) (which : Case) (x : Schedule) (e : Ended) (end : End) (text : List ℕ) → end ≡ end_at s e →
    ((o : Obligation) → IsOf s which o → Reached (closed_in s) (machine_in s) o (meant_at s x) (end_at s e)) → MeetsIn s which x →
    ((o : Obligation) → IsOf s which o → AreChoices (closed_in s) o (meant_at s x) end (lists_by which.kind (most (closed_in s) o)) text) →
    TellsIn s which x (settled_lines which.kind e.side ++ (reached_lines (end_at s e).to e.answer ++ text))
ends_told s which x e end text same reached meets allowed o is =
    let (first, m) = meets o is in
    let asks = kind_is s.layer.now which.kind which.number o is in
    record {
      end = end_at s e;
      meets = record { shapes = m.shapes; hypotheses = m.hypotheses; reached = reached o is };
      choices = text;
      allowed = subst (λ (k : CaseKind). AreChoices (closed_in s) o (meant_at s x) (end_at s e) (lists_by k (most (closed_in s) o)) text) asks
          (subst (λ (f : End). AreChoices (closed_in s) o (meant_at s x) f (lists_by which.kind (most (closed_in s) o)) text) same (allowed o is));
      text_is = ap (λ k. settled_lines k e.side ++ (reached_lines (end_at s e).to e.answer ++ text)) asks;
    }

-- a schedule of a file is explained
module _ (f : File) (x : Schedule) (c : Case) (first : IsFirstNamed f x.name c) (answer : Replayed) where
  abbrev s : Site
  s = first.site

  here : slice_get f.layers c.layer ≡ Some s.layer
  here = ap (slice_get f.layers) first.is.place ∙ (stands f x.name s first.named).here

  pub explained_so : (status : Status) (a b d : List ℕ) → IsShown f c x answer → a ≡ first_lines s x → Adds (IsToldOf f c x answer) a b →
      d ≡ b ++ line_of x.name (shown_by answer) → status ≡ status_of (shown_by answer) → IsExplainedOf f x status d
  explained_so status a b d shown begins told ends status_is = record {
    site = s;
    stands = first.named;
    claim = claim_at f s;
    named = claim_is f x.name s first.named;
    answer = shown_by answer;
    replays = subst (λ (place : ℕ). Replays (closed_at f place s.layer) (machine_at f place) s.obligation (meant f place s.layer x) (shown_by answer))
        first.is.place (shown s.layer s.obligation here first.is.obligation);
    told = told.text;
    is_told = subst (λ (place : ℕ). ToldOf (closed_at f place s.layer) (machine_at f place) s.obligation (meant f place s.layer x) (shown_by answer) told.text)
        first.is.place (told.like s.layer s.obligation here first.is.obligation);
    status_is = status_is;
    text_is = joined_2 (first_lines s x) b d d told.text (line_of x.name (shown_by answer)) (told.added ∙ ap (λ t. t ++ told.text) begins) ends;
  }
