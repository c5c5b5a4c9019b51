-- What is told of lists of the specification's picks.
use Rattle.std.proofs.Common.{
  ◌≡◌,
  ℕ,
  suc,
  Bool,
  true,
  false,
  List,
  [],
  ◌∷◌,
  ◌++◌,
  map,
  Option,
  Some,
  None,
  option_map,
  slice_get,
  codes,
  refl,
  sym,
  ap,
  ◌∙◌,
  subst,
  append_assoc,
  append-nil,
}
use Rattle.std.proofs.lemmas.List.{map-append}
use Rattle.ygg_value.specs.declared.row.Value.{Value}
use Rattle.ygg_syntax.specs.declared.tree.Layer.{Layer}
use Rattle.ygg_replay.specs.ygg_meaning.Environments.{Env}
use Rattle.ygg_replay.specs.ygg_meaning.Layer.{ClosedLayer}
use Rattle.ygg_replay.specs.ygg_meaning.Progress.{Answer}
use Rattle.ygg_replay.specs.ygg_meaning.Machine.{Picks}
use Rattle.ygg_replay.specs.ygg_meaning.Spec.{Outcome}
use Rattle.ygg_replay.specs.ygg_meaning.Obligations.{Obligation, Init, CallOf, CutOf, TickOf, CutTickOf, Idle, Again}
use Rattle.ygg_replay.specs.ygg_meaning.Obligations as obligations
use Rattle.ygg_replay.specs.ygg_meaning.Replayed.{pick_lists}
use Rattle.ygg_replay.specs.ygg_meaning.Violates.{End, spec_after}
use Rattle.ygg_replay.specs.Sites.{VarsFit, closed_in, low_at, memory_at, vars_at}
use Rattle.ygg_replay.specs.Steps.{StepEnds, meant_at}
use Rattle.ygg_replay.specs.declared.site.ReplaySite.{ReplaySite}
use Rattle.ygg_sched.specs.declared.case.CaseKind.{CaseKind}
use Rattle.ygg_sched.specs.declared.case.CaseKind.TheVariants as kind
use Rattle.ygg_sched.specs.declared.schedule.Schedule.{Schedule}
use Rattle.ygg_sched.specs.Cases.{kind_of, obligation_at}
use Rattle.ygg_sched.specs.Printing.{bits_line}
use Rattle.ygg_explain.specs.Lines.{env_lines}
use Rattle.ygg_explain.specs.Parts.{Adds}
use Rattle.ygg_explain.specs.Sites.{ChoiceIn, ChoicesIn, IsOf, end_of}
use Rattle.ygg_explain.specs.Told.{AreChoices, IsChoice, IsRelation, answers_lines, is_again, lists_by, more, none}
use Rattle.ygg_explain.specs.declared.allowed.Asking.{Asking}
use Rattle.ygg_explain.proofs.Adding.{joined_2}

module _ {X : Type 0} (f : X → Obligation) (k : CaseKind) (same : (x : X) → k ≡ kind_of (f x)) where
  mapped : (x : Option X) (o : Obligation) → option_map f x ≡ Some o → k ≡ kind_of o
  mapped None o h = absurd (cc)
  mapped (Some x) o h = let e : f x ≡ o = cc in same x ∙ ap kind_of e

-- what an obligation of a layer asks
pub kind_is : (l : Layer) (k : CaseKind) (number : ℕ) (o : Obligation) → obligation_at l k number ≡ Some o → k ≡ kind_of o
kind_is l kind.Init number o h = let e : Init ≡ o = cc in ap kind_of e
kind_is l kind.Call number o h = mapped CallOf kind.Call (λ x. refl) (slice_get l.operations number) o h
kind_is l kind.Cut number o h = mapped CutOf kind.Cut (λ x. refl) (slice_get l.operations number) o h
kind_is l kind.Tick number o h = mapped TickOf kind.Tick (λ x. refl) (slice_get l.ticks number) o h
kind_is l kind.CutTick number o h = mapped CutTickOf kind.CutTick (λ x. refl) (slice_get l.ticks number) o h
kind_is l kind.Idle number o h = let e : Idle ≡ o = cc in ap kind_of e
kind_is l kind.Again number o h = let e : Again ≡ o = cc in ap kind_of e

pub again_is : (k : CaseKind) → is_again k ≡ true → k ≡ kind.Again
again_is kind.Again h = refl
again_is kind.Init h = absurd (cc)
again_is kind.Call h = absurd (cc)
again_is kind.Cut h = absurd (cc)
again_is kind.Tick h = absurd (cc)
again_is kind.CutTick h = absurd (cc)
again_is kind.Idle h = absurd (cc)

pub not_again : (k : CaseKind) → is_again k ≡ false → k ≡ kind.Again → ⊥
not_again k h e = let g : is_again kind.Again ≡ false = ap is_again (sym e) ∙ h in absurd (cc)

pub all_lists : (k : CaseKind) (n : ℕ) → is_again k ≡ false → lists_by k n ≡ pick_lists n
all_lists kind.Again n h = absurd (cc)
all_lists kind.Init n h = refl
all_lists kind.Call n h = refl
all_lists kind.Cut n h = refl
all_lists kind.Tick n h = refl
all_lists kind.CutTick n h = refl
all_lists kind.Idle n h = refl

-- a step of the specification has ended so, as far as it is told
pub record Stepped (s : ReplaySite) (o : Obligation) (x : Schedule) (picks : Picks) (given answer : Answer) (state : List Value) : Type 0 where
  pub out : Outcome
  pub is : spec_after (closed_in s) o (meant_at s x) picks ≡ Some out
  pub vars : out.vars ≡ vars_at s state
  pub answers : answers_lines (kind_of o) given out.answer ≡ answers_lines (kind_of o) given answer
  pub fit : VarsFit s state

pub stepped : (s : ReplaySite) (o : Obligation) (x : Schedule) (picks : Picks) (given answer : Answer) (state : List Value) →
    (kind_of o ≡ kind.Again → ⊥) → StepEnds s o x picks answer state → Stepped s o x picks given answer state
stepped s (CallOf o) x picks given answer state n h =
    record { out = record { vars = vars_at s state; answer = answer; left = h.left }; is = h.is; vars = refl; answers = refl; fit = h.fit }
stepped s Init x picks given answer state n (y, h) =
    record { out = record { vars = vars_at s state; answer = y; left = h.left }; is = h.is; vars = refl; answers = refl; fit = h.fit }
stepped s (CutOf o) x picks given answer state n (y, h) =
    record { out = record { vars = vars_at s state; answer = y; left = h.left }; is = h.is; vars = refl; answers = refl; fit = h.fit }
stepped s (TickOf t) x picks given answer state n (y, h) =
    record { out = record { vars = vars_at s state; answer = y; left = h.left }; is = h.is; vars = refl; answers = refl; fit = h.fit }
stepped s (CutTickOf t) x picks given answer state n (y, h) =
    record { out = record { vars = vars_at s state; answer = y; left = h.left }; is = h.is; vars = refl; answers = refl; fit = h.fit }
stepped s Idle x picks given answer state n (y, h) =
    record { out = record { vars = vars_at s state; answer = y; left = h.left }; is = h.is; vars = refl; answers = refl; fit = h.fit }
stepped s Again x picks given answer state n h = absurd (n refl)

module _ (s : ReplaySite) (a : Asking) (steps : a.case.kind ≡ kind.Again → ⊥) where
  kind_steps : (o : Obligation) → IsOf s a.case o → kind_of o ≡ kind.Again → ⊥
  kind_steps o is h = steps (kind_is s.layer.now a.case.kind a.case.number o is ∙ h)

  pub step_of : (o : Obligation) → IsOf s a.case o → (picks : Picks) (answer : Answer) (state : List Value) →
      StepEnds s o a.schedule.now picks answer state → Stepped s o a.schedule.now picks a.answer.now answer state
  step_of o is picks answer state h = stepped s o a.schedule.now picks a.answer.now answer state (kind_steps o is) h

  -- the text of one list
  abbrev pub choice_text : Picks → Answer → List Value → List ℕ → List ℕ
  choice_text picks answer state parts =
      bits_line (codes "picks ") picks
      ++ (env_lines (codes "allowed ") (vars_at s state) ++ (answers_lines a.case.kind a.answer.now answer ++ parts))

  pub choice_of : (picks : Picks) (answer : Answer) (state : List Value) (parts : List ℕ) →
      ((o : Obligation) → IsOf s a.case o → StepEnds s o a.schedule.now picks answer state) →
      IsRelation (closed_in s) (vars_at s state) (memory_at s a.memory.now) (low_at s a.low.now) parts →
      ChoiceIn s a picks (choice_text picks answer state parts)
  choice_of picks answer state parts ends relation = λ o is.
      let st = step_of o is picks answer state (ends o is) in
      let given = a.answer.now in
      let line = bits_line (codes "picks ") picks in
      record {
        out = st.out;
        is = st.is;
        parts = parts;
        relation = subst (λ (vars : Env). IsRelation (closed_in s) vars (memory_at s a.memory.now) (low_at s a.low.now) parts) (sym st.vars) relation;
        text_is = ap (λ k. line ++ (env_lines (codes "allowed ") (vars_at s state) ++ (answers_lines k given answer ++ parts)))
            (kind_is s.layer.now a.case.kind a.case.number o is)
            ∙ ap (λ t. line ++ (env_lines (codes "allowed ") (vars_at s state) ++ (t ++ parts))) (sym st.answers)
            ∙ ap (λ (vars : Env). line ++ (env_lines (codes "allowed ") vars ++ (answers_lines (kind_of o) given st.out.answer ++ parts))) (sym st.vars);
      }

module _ (L : ClosedLayer) (o : Obligation) (x : obligations.Schedule) (end : End) where
  -- some lists, and then others
  pub choices_both : (ps qs : List Picks) (t u : List ℕ) → AreChoices L o x end ps t → AreChoices L o x end qs u →
      AreChoices L o x end (ps ++ qs) (t ++ u)
  choices_both _ qs _ w none g = g
  choices_both _ qs _ w (more {picks} {others} {t} {u} h hs) g =
      subst (AreChoices L o x end (picks ∷ (others ++ qs))) (sym (append_assoc t u w)) (more h (choices_both others qs u w hs g))

-- the lists that begin so
abbrev pub begun : Picks → List Picks → List Picks
begun before lists = map (λ (picks : Picks). before ++ picks) lists

begun_with : (before : Picks) (pick : Bool) (lists : List Picks) →
    begun before (map (λ picks. pick ∷ picks) lists) ≡ begun (before ++ pick ∷ []) lists
begun_with before pick [] = refl
begun_with before pick (p ∷ ps) =
    ap (λ q. q ∷ begun before (map (λ picks. pick ∷ picks) ps)) (sym (append_assoc before (pick ∷ []) p))
    ∙ ap (λ qs. ((before ++ pick ∷ []) ++ p) ∷ qs) (begun_with before pick ps)

begun_more : (before : Picks) (n : ℕ) →
    begun before (pick_lists (suc n)) ≡ begun (before ++ false ∷ []) (pick_lists n) ++ begun (before ++ true ∷ []) (pick_lists n)
begun_more before n =
    map-append (λ (picks : Picks). before ++ picks) (map (λ picks. false ∷ picks) (pick_lists n)) (map (λ picks. true ∷ picks) (pick_lists n))
    ∙ ap (λ qs. qs ++ begun before (map (λ picks. true ∷ picks) (pick_lists n))) (begun_with before false (pick_lists n))
    ∙ ap (λ qs. begun (before ++ false ∷ []) (pick_lists n) ++ qs) (begun_with before true (pick_lists n))

-- those that begin with nothing
pub begun_none : (lists : List Picks) → begun [] lists ≡ lists
begun_none [] = refl
begun_none (p ∷ ps) = ap (λ qs. p ∷ qs) (begun_none ps)

module _ (s : ReplaySite) (a : Asking) (x y z : List ℕ) where
  -- no pick more
  pub one_list : (before : Picks) (left : ℕ) → left ≡ 0 → Adds (ChoiceIn s a before) x y → Adds (ChoicesIn s a (begun before (pick_lists left))) x y
  one_list before left is h =
      subst (λ (n : ℕ). Adds (ChoicesIn s a (begun before (pick_lists n))) x y) (sym is) (record {
        text = h.text ++ [];
        like = λ o of. more (subst (λ (p : Picks). IsChoice (closed_in s) o (meant_at s a.schedule.now) (end_of s a) p h.text) (sym (append-nil before))
            (h.like o of)) none;
        added = h.added ∙ ap (λ t. x ++ t) (sym (append-nil h.text));
      })

  -- one pick more
  pub two_lists : (before without chosen : Picks) (n left : ℕ) → suc n ≡ left → without ≡ before ++ false ∷ [] → chosen ≡ before ++ true ∷ [] →
      Adds (ChoicesIn s a (begun without (pick_lists n))) x y → Adds (ChoicesIn s a (begun chosen (pick_lists n))) y z →
      Adds (ChoicesIn s a (begun before (pick_lists left))) x z
  two_lists before without chosen n left is first second h g =
      subst (λ (m : ℕ). Adds (ChoicesIn s a (begun before (pick_lists m))) x z) is (record {
        text = h.text ++ g.text;
        like = λ o of. subst (λ (lists : List Picks). AreChoices (closed_in s) o (meant_at s a.schedule.now) (end_of s a) lists (h.text ++ g.text))
            (ap (λ p. begun p (pick_lists n) ++ begun chosen (pick_lists n)) first
            ∙ ap (λ p. begun (before ++ false ∷ []) (pick_lists n) ++ begun p (pick_lists n)) second ∙ sym (begun_more before n))
            (choices_both (closed_in s) o (meant_at s a.schedule.now) (end_of s a) (begun without (pick_lists n)) (begun chosen (pick_lists n)) h.text g.text
            (h.like o of) (g.like o of));
        added = joined_2 x y z z h.text g.text h.added g.added;
      })
