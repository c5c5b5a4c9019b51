-- Whether a conclusion holds, by the kind of its obligation.
use Rattle.std.proofs.Common.{◌≡◌, ℕ, Bool, true, ◌&&◌, List, slice_get, Option, Some, None, option_map, refl, sym, ap, ◌∙◌, subst, ◌⊎◌, inl, inr}
use Rattle.ygg_value.specs.declared.row.Value.{Value}
use Rattle.ygg_syntax.specs.declared.tree.Layer.{Layer}
use Rattle.ygg_sched.specs.ygg_meaning.Progress.{Answer}
use Rattle.ygg_sched.specs.ygg_meaning.Machine.{Picks}
use Rattle.ygg_sched.specs.ygg_meaning.Spec.{Outcome}
use Rattle.ygg_sched.specs.ygg_meaning.Obligations.{Obligation, Init, CallOf, CutOf, TickOf, CutTickOf, Idle, Again}
use Rattle.ygg_sched.specs.ygg_meaning.Shapes.{values_fit}
use Rattle.ygg_sched.specs.ygg_meaning.Related.{related}
use Rattle.ygg_eval.specs.Layers.{variables_at}
use Rattle.ygg_sched.specs.ygg_meaning.Violates.{answers_alike, related_after, spec_after}
use Rattle.ygg_replay.specs.declared.site.ReplaySite.{ReplaySite}
use Rattle.ygg_replay.specs.declared.conclusion.Trial.{Trial}
use Rattle.ygg_sched.specs.declared.case.CaseKind.{CaseKind}
use Rattle.ygg_sched.specs.declared.case.CaseKind.TheVariants as kind
use Rattle.ygg_replay.specs.declared.ends.End.{End}
use Rattle.ygg_replay.specs.Ends.{EndFits, end_at}
use Rattle.ygg_replay.specs.Passing.{IsOf, passing, agreeing, answers_for}
use Rattle.ygg_sched.specs.Cases.{obligation_at}
use Rattle.ygg_replay.specs.Sites.{StatesFit, VarsFit, closed_in, vars_at, memory_at, low_at}
use Rattle.ygg_replay.specs.Steps.{EndsSomehow, StepEnds, meant_at}

-- what an obligation asks
abbrev pub kind_in : Obligation → CaseKind
kind_in Init = kind.Init
kind_in (CallOf o) = kind.Call
kind_in (CutOf o) = kind.Cut
kind_in (TickOf t) = kind.Tick
kind_in (CutTickOf t) = kind.CutTick
kind_in Idle = kind.Idle
kind_in Again = kind.Again

module _ {X : Type 0} (f : X → Obligation) (k : CaseKind) (same : (x : X) → k ≡ kind_in (f x)) where
  mapped : (x : Option X) (o : Obligation) → option_map f x ≡ Some o → k ≡ kind_in o
  mapped None o h = absurd (cc)
  mapped (Some x) o h = let e : f x ≡ o = cc in same x ∙ ap kind_in e

pub kind_is : (l : Layer) (k : CaseKind) (number : ℕ) (o : Obligation) → obligation_at l k number ≡ Some o → k ≡ kind_in o
kind_is l kind.Init number o h = let e : Init ≡ o = cc in ap kind_in e
kind_is l kind.Call number o h = mapped CallOf kind.Call (λ x. refl) (slice_get l.operations number) o h
kind_is l kind.Cut number o h = mapped CutOf kind.Cut (λ x. refl) (slice_get l.operations number) o h
kind_is l kind.Tick number o h = mapped TickOf kind.Tick (λ x. refl) (slice_get l.ticks number) o h
kind_is l kind.CutTick number o h = mapped CutTickOf kind.CutTick (λ x. refl) (slice_get l.ticks number) o h
kind_is l kind.Idle number o h = let e : Idle ≡ o = cc in ap kind_in e
kind_is l kind.Again number o h = let e : Again ≡ o = cc in ap kind_in e

-- the conclusion, by what the specification's step has to do with the end of the runs and by the side
abbrev pub by_kind : CaseKind → Bool → Bool → Bool
by_kind kind.Init agrees side = agrees
by_kind kind.Call agrees side = agrees
by_kind kind.Cut agrees side = side && agrees
by_kind kind.Tick agrees side = agrees
by_kind kind.CutTick agrees side = side && agrees
by_kind kind.Idle agrees side = side && agrees
by_kind kind.Again agrees side = side

module _ (s : ReplaySite) (t : Trial) (picks : Picks) where
  by_obligation : (o : Obligation) → passing s t o picks ≡ by_kind (kind_in o) (agreeing s t o picks) t.end.now.side
  by_obligation Init = refl
  by_obligation (CallOf o) = refl
  by_obligation (CutOf o) = refl
  by_obligation (TickOf k) = refl
  by_obligation (CutTickOf k) = refl
  by_obligation Idle = refl
  by_obligation Again = refl

  pub passing_is : (o : Obligation) → IsOf s t.case o → passing s t o picks ≡ by_kind t.case.kind (agreeing s t o picks) t.end.now.side
  passing_is o h =
      by_obligation o ∙ ap (λ k. by_kind k (agreeing s t o picks) t.end.now.side) (sym (kind_is s.layer.now t.case.kind t.case.number o h))

  module _ (answer : Answer) (state : List Value) where
    -- whether variables are related to the end of the runs
    abbrev pub relates_to : Bool
    relates_to = related (closed_in s) (vars_at s state) (memory_at s t.end.now.memory) (low_at s t.end.now.lower.values)

    after : (out : Option Outcome) → EndsSomehow s out state → related_after (closed_in s) (end_at s t.end.now).to out ≡ relates_to
    after out (y, ends) = ap (related_after (closed_in s) (end_at s t.end.now).to) ends.is

    agreed : (o : Obligation) → ¬ (kind_in o ≡ kind.Again) → StepEnds s o t.schedule.now picks answer state →
        agreeing s t o picks ≡ (answers_for (kind_in o) t.end.now.answer answer && relates_to)
    agreed Init other h = after (spec_after (closed_in s) Init (meant_at s t.schedule.now) picks) h
    agreed (CallOf o) other h =
        ap (λ out. answers_alike t.end.now.answer out && related_after (closed_in s) (end_at s t.end.now).to out) h.is
    agreed (CutOf o) other h = after (spec_after (closed_in s) (CutOf o) (meant_at s t.schedule.now) picks) h
    agreed (TickOf k) other h = after (spec_after (closed_in s) (TickOf k) (meant_at s t.schedule.now) picks) h
    agreed (CutTickOf k) other h = after (spec_after (closed_in s) (CutTickOf k) (meant_at s t.schedule.now) picks) h
    agreed Idle other h = after (spec_after (closed_in s) Idle (meant_at s t.schedule.now) picks) h
    agreed Again other h = absurd (other refl)

    pub agreeing_is : (o : Obligation) → IsOf s t.case o → ¬ (t.case.kind ≡ kind.Again) → StepEnds s o t.schedule.now picks answer state →
        agreeing s t o picks ≡ (answers_for t.case.kind t.end.now.answer answer && relates_to)
    agreeing_is o h other ends =
        let same = kind_is s.layer.now t.case.kind t.case.number o h in
        agreed o (λ e. other (same ∙ e)) ends ∙ ap (λ k. answers_for k t.end.now.answer answer && relates_to) (sym same)

-- the variables after the specification's step have the shapes that are declared
module _ (s : ReplaySite) (t : Trial) (answer : Answer) (state : List Value) (picks : Picks) where
  ended_fits : (o : Obligation) → ¬ (kind_in o ≡ kind.Again) → StepEnds s o t.schedule.now picks answer state → VarsFit s state
  ended_fits Init other h = h.1.fit
  ended_fits (CallOf o) other h = h.fit
  ended_fits (CutOf o) other h = h.1.fit
  ended_fits (TickOf k) other h = h.1.fit
  ended_fits (CutTickOf k) other h = h.1.fit
  ended_fits Idle other h = h.1.fit
  ended_fits Again other h = absurd (other refl)

  pub step_fits : (o : Obligation) → IsOf s t.case o → ¬ (t.case.kind ≡ kind.Again) → StepEnds s o t.schedule.now picks answer state → VarsFit s state
  step_fits o h other ends =
      let same = kind_is s.layer.now t.case.kind t.case.number o h in
      ended_fits o (λ e. other (same ∙ e)) ends

-- and so have they beside the end of the runs
pub ends_fit : (s : ReplaySite) (e : End) (state : List Value) → VarsFit s state → EndFits s e → StatesFit s state e.memory e.lower.values
ends_fit s e state h f = record {
  vars_fit = h;
  memory_fits = f.memory;
  low_fits = subst (λ (n : ℕ). values_fit (variables_at s.typed.now.file n) e.lower.values ≡ true) f.lower.number f.lower.kept.fit;
}

-- obligations that have no side
pub plain_kind : (k : CaseKind) (a side : Bool) → (k ≡ kind.Init) ⊎ ((k ≡ kind.Call) ⊎ (k ≡ kind.Tick)) → by_kind k a side ≡ a
plain_kind k a side (inl is) = ap (λ k. by_kind k a side) is
plain_kind k a side (inr (inl is)) = ap (λ k. by_kind k a side) is
plain_kind k a side (inr (inr is)) = ap (λ k. by_kind k a side) is

-- and those of which one side is true
pub sided_kind : (k : CaseKind) (a side : Bool) → (k ≡ kind.Cut) ⊎ ((k ≡ kind.CutTick) ⊎ (k ≡ kind.Idle)) → side ≡ true → by_kind k a side ≡ a
sided_kind k a side (inl is) h = ap (λ k. by_kind k a side) is ∙ ap (λ b. b && a) h
sided_kind k a side (inr (inl is)) h = ap (λ k. by_kind k a side) is ∙ ap (λ b. b && a) h
sided_kind k a side (inr (inr is)) h = ap (λ k. by_kind k a side) is ∙ ap (λ b. b && a) h
