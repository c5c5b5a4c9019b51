-- A direct run is a run of the machine, where that answers what the block asks.
use Rattle.std.proofs.Common.{◌≡◌, ℕ, zero, suc, Bool, true, false, List, [], ◌∷◌, ◌++◌, length, Some, refl, sym, ap, ◌∙◌, subst, append_assoc}
use Rattle.std.proofs.lemmas.List.{append-nil}
use Rattle.ygg_value.specs.declared.row.Value.{Value}
use Rattle.ygg_meaning_laws.specs.Environments.{Name}
use Rattle.ygg_meaning_laws.specs.Progress.{Question, Choice, Call, Answer, Asks}
use Rattle.ygg_meaning_laws.specs.Machine.{Picks, State, Machine}
use Rattle.ygg_meaning_laws.specs.Runs.{Dialogue, WholeCall, Reaches, FallsAt, answers_of, notes_of}
use Rattle.ygg_meaning_laws.specs.Direct.{Handled, Event, told_by, Chained}
use Rattle.ygg_meaning_laws.specs.Acts.{Taken, Took, Notes, Fell, Acts, Standing, serve, stopped_in, lost_at, cut_at, CallIs, FallIs, LossIs}
use Rattle.ygg_meaning_laws.proofs.Taking.{taken_append}
use Rattle.ygg_meaning_laws.proofs.Unique.{Asked, standing}

-- each answer fits the question that the block asks after those before it
abbrev pub AllFit : (Question → Answer → Type 0) → Dialogue → List Answer → Type 0
AllFit Fit block answers = (told more : List Answer) (a : Answer) (q : Question) → answers ≡ told ++ a ∷ more → block told ≡ Asks q → Fit q a

-- What a machine serves: its good states, what it may be asked, and answers that fit. It does what a function says, is then in a good state, and its
-- answers fit.
pub record Serves {B X : Type 0} (past : Bool) (N : Notes X) (M : Machine B X) (F : Acts B X) (Good : State B → Type 0) (May : Question → Type 0)
    (Fit : Question → Answer → Type 0) : Type 0 where
  pub no_choice : May Choice → ⊥
  pub calls : (s : State B) (name : Name) (args : List Value) (picks : Picks) → Good s → May (Call name args) →
      CallIs past N M s name args picks (F.calls s name args picks)
  pub keeps : (s : State B) (name : Name) (args : List Value) (picks : Picks) → Good s → May (Call name args) → Good (F.calls s name args picks).to
  pub fit : (s : State B) (name : Name) (args : List Value) (picks : Picks) → Good s → May (Call name args) →
      Fit (Call name args) (F.calls s name args picks).answer
  pub falls : (s : State B) (name : Name) (args : List Value) (picks : Picks) → Good s → May (Call name args) →
      FallIs past N M s name args picks (F.falls s name args picks)
  pub loses : (s : State B) (picks : Picks) → Good s → LossIs past N M s picks (F.loses s picks)

-- a block that is told answers that fit asks what it may
abbrev pub IsServed : (Question → Type 0) → (Question → Answer → Type 0) → Dialogue → Type 0
IsServed May Fit block = (answers : List Answer) (q : Question) → AllFit Fit block answers → block answers ≡ Asks q → May q

heads : {A : Type 0} {x y : A} {xs ys : List A} → x ∷ xs ≡ y ∷ ys → x ≡ y
heads h = cc

tails : {A : Type 0} {x y : A} {xs ys : List A} → x ∷ xs ≡ y ∷ ys → xs ≡ ys
tails h = cc

same_question : (p q : Question) → Asks p ≡ Asks q → p ≡ q
same_question p q h = cc

some_is : {A : Type 0} {x y : A} → Some x ≡ Some y → x ≡ y
some_is h = cc

-- one more answer fits
all_fit_more : (Fit : Question → Answer → Type 0) (block : Dialogue) (told : List Answer) (a : Answer) (q : Question) →
    AllFit Fit block told → block told ≡ Asks q → Fit q a → AllFit Fit block (told ++ a ∷ [])
all_fit_more Fit block [] a q all asks fit [] more b r e w = subst (λ x. Fit x b) (same_question q r (sym asks ∙ w)) (subst (Fit q) (heads e) fit)
all_fit_more Fit block [] a q all asks fit (t ∷ []) more b r e w = absurd (let k : [] ≡ b ∷ more = tails e in cc)
all_fit_more Fit block [] a q all asks fit (t ∷ u ∷ ts) more b r e w = absurd (let k : [] ≡ u ∷ (ts ++ b ∷ more) = tails e in cc)
all_fit_more Fit block (x ∷ told) a q all asks fit [] more b r e w = subst (Fit r) (heads e) (all [] told x r refl w)
all_fit_more Fit block (x ∷ told) a q all asks fit (t ∷ ts) more b r e w =
    all_fit_more Fit (λ z. block (x ∷ z)) told a q (λ u m c p f v. all (x ∷ u) m c p (ap (λ z. x ∷ z) f) v) asks fit ts more b r (tails e)
    (ap (λ z. block (z ∷ ts)) (heads e) ∙ w)

module _ {B X : Type 0} (past : Bool) (N : Notes X) (M : Machine B X) (F : Acts B X) (Good : State B → Type 0) (May : Question → Type 0)
    (Fit : Question → Answer → Type 0)
    (serves : Serves past N M F Good May Fit) (block : Dialogue) (served : IsServed May Fit block) where
  -- a question that a good machine has answered
  record Stepped (s : State B) (notes : List X) (picks : Picks) (e : Event (Standing B X)) : Type 0 where
    name : Name
    args : List Value
    question : e.question ≡ Call name args
    may : May (Call name args)
    answered : (F.calls s name args picks).answer ≡ e.answer
    stands : e.after ≡ standing (F.calls s name args picks).to (notes ++ (F.calls s name args picks).notes) (F.calls s name args picks).left

  stepped : (s : State B) (notes : List X) (picks : Picks) (e : Event (Standing B X)) → May e.question →
      serve F e.place e.question (standing s notes picks) ≡ record { answer = e.answer; to = e.after } → Stepped s notes picks e
  stepped s notes picks e may h = by_question e.question refl may h
    where
      by_question : (q : Question) → e.question ≡ q → May q → serve F e.place q (standing s notes picks) ≡ record { answer = e.answer; to = e.after }
          → Stepped s notes picks e
      by_question Choice i may h = absurd (serves.no_choice may)
      by_question (Call name args) i may h = record {
        name = name;
        args = args;
        question = i;
        may = may;
        answered = ap (λ (x : Handled (Standing B X)). x.answer) h;
        stands = sym (ap (λ (x : Handled (Standing B X)). x.to) h);
      }

  -- a run of the machine that is a direct run
  pub record Made (told : List Answer) (s : State B) (notes : List X) (picks : Picks) (es : List (Event (Standing B X))) (end : Standing B X) : Type 0 where
    pub calls : List (WholeCall B X)
    pub path : Reaches M block told s calls end.at
    pub answers : answers_of calls ≡ told_by es
    pub noted : end.notes ≡ notes ++ notes_of calls
    pub took : Took past N (notes_of calls) picks end.left

  took_none : (picks left : Picks) → left ≡ picks → Took past N [] picks left
  took_none picks left h = subst (λ t. Taken past t picks left) (sym N.none) h

  took_more : (a b : List X) (picks mid left : Picks) → Took past N a picks mid → Took past N b mid left → Took past N (a ++ b) picks left
  took_more a b picks mid left h g = subst (λ t. Taken past t picks left) (sym (N.joined a b))
      (taken_append past (N.picks_in a) (N.picks_in b) picks mid left h g)

  pub made : (told : List Answer) (s : State B) (notes : List X) (picks : Picks) (es : List (Event (Standing B X))) (end : Standing B X) → Good s →
      AllFit Fit block told →
      Asked block told es → Chained (serve F) (standing s notes picks) es end → Made told s notes picks es end
  made told s notes picks [] end good fit asked chained = record {
    calls = [];
    path = ap (λ (z : Standing B X). z.at) chained;
    answers = refl;
    noted = sym (ap (λ (z : Standing B X). z.notes) chained) ∙ sym (append-nil notes);
    took = took_none picks end.left (sym (ap (λ (z : Standing B X). z.left) chained));
  }
  made told s notes picks (e ∷ es) end good fit asked chained =
      let t = stepped s notes picks e (served told e.question fit asked.0) chained.1 in
      let d = F.calls s t.name t.args picks in
      let c = serves.calls s t.name t.args picks good t.may in
      let r = made (told ++ e.answer ∷ []) d.to (notes ++ d.notes) d.left es end (serves.keeps s t.name t.args picks good t.may)
      (all_fit_more Fit block told e.answer (Call t.name t.args) fit (asked.0 ∙ ap Asks t.question)
      (subst (Fit (Call t.name t.args)) t.answered (serves.fit s t.name t.args picks good t.may)))
      asked.1 (subst (λ z. Chained (serve F) z es end) t.stands chained.2) in
      record {
        calls = record { name = t.name; args = t.args; notes = d.notes; answer = d.answer; after = d.to } ∷ r.calls;
        path = (asked.0 ∙ ap Asks t.question, c.step, subst (λ a. Reaches M block (told ++ a ∷ []) d.to r.calls end.at) (sym t.answered) r.path);
        answers = ap (λ a. a ∷ answers_of r.calls) t.answered ∙ ap (λ z. e.answer ∷ z) r.answers;
        noted = r.noted ∙ append_assoc notes d.notes (notes_of r.calls);
        took = took_more d.notes (notes_of r.calls) picks d.left end.left c.took r.took;
      }

  -- a run of the machine in which power fails that is a direct run up to a stop
  pub record Broken (told : List Answer) (s : State B) (notes : List X) (picks : Picks) (within : Bool) (n : ℕ) (f : Fell B X) : Type 0 where
    pub calls : List (WholeCall B X)
    pub at : State B
    pub path : Reaches M block told s calls at
    pub counted : length calls ≡ n
    pub last : List X
    pub falls : FallsAt within M block (told ++ answers_of calls) at last f.base
    pub noted : f.notes ≡ notes ++ (notes_of calls ++ last)
    pub took : Took past N (notes_of calls ++ last) picks f.left

  loses_here : (told : List Answer) (s : State B) (notes : List X) (picks : Picks) (z : Standing B X) (f : Fell B X) → Good s → standing s notes picks ≡ z →
      lost_at F z (F.loses z.at z.left) ≡ f → Broken told s notes picks false 0 f
  loses_here told s notes picks z f good is h =
      subst (λ f. Broken told s notes picks false 0 f) (ap (λ (z : Standing B X). lost_at F z (F.loses z.at z.left)) is ∙ h)
      (let l = serves.loses s picks good in
      record { calls = []; at = s; path = refl; counted = refl; last = (F.loses s picks).notes; falls = l.step; noted = refl; took = l.took })

  pub broken : (told : List Answer) (s : State B) (notes : List X) (picks : Picks) (es : List (Event (Standing B X))) (end : Standing B X) → Good s →
      AllFit Fit block told →
      Asked block told es → Chained (serve F) (standing s notes picks) es end → (within : Bool) (n : ℕ) (f : Fell B X) → stopped_in F within es n end ≡ Some f →
      Broken told s notes picks within n f
  broken told s notes picks [] end good fit asked chained true zero f h = absurd (cc)
  broken told s notes picks [] end good fit asked chained false zero f h = loses_here told s notes picks end f good chained (some_is h)
  broken told s notes picks [] end good fit asked chained within (suc n) f h = absurd (cc)
  broken told s notes picks (e ∷ es) end good fit asked chained false zero f h = loses_here told s notes picks e.before f good (sym chained.0) (some_is h)
  broken told s notes picks (e ∷ es) end good fit asked chained true zero f h =
      let t = stepped s notes picks e (served told e.question fit asked.0) chained.1 in
      subst (λ f. Broken told s notes picks true 0 f)
      (ap (λ z. cut_at F (Call t.name t.args) z) (sym chained.0) ∙ ap (λ q. cut_at F q e.before) (sym t.question) ∙ some_is h)
      (let l = serves.falls s t.name t.args picks good t.may in
      record {
        calls = [];
        at = s;
        path = refl;
        counted = refl;
        last = (F.falls s t.name t.args picks).notes;
        falls = record { name = t.name; args = t.args; asks = ap block (append-nil told) ∙ asked.0 ∙ ap Asks t.question; falls = l.step };
        noted = refl;
        took = l.took;
      })
  broken told s notes picks (e ∷ es) end good fit asked chained within (suc n) f h =
      let t = stepped s notes picks e (served told e.question fit asked.0) chained.1 in
      let d = F.calls s t.name t.args picks in
      let c = serves.calls s t.name t.args picks good t.may in
      let r = broken (told ++ e.answer ∷ []) d.to (notes ++ d.notes) d.left es end (serves.keeps s t.name t.args picks good t.may)
      (all_fit_more Fit block told e.answer (Call t.name t.args) fit (asked.0 ∙ ap Asks t.question)
      (subst (Fit (Call t.name t.args)) t.answered (serves.fit s t.name t.args picks good t.may)))
      asked.1 (subst (λ z. Chained (serve F) z es end) t.stands chained.2) within n f h in
      record {
        calls = record { name = t.name; args = t.args; notes = d.notes; answer = d.answer; after = d.to } ∷ r.calls;
        at = r.at;
        path = (asked.0 ∙ ap Asks t.question, c.step, subst (λ a. Reaches M block (told ++ a ∷ []) d.to r.calls r.at) (sym t.answered) r.path);
        counted = ap suc r.counted;
        last = r.last;
        falls = subst (λ z. FallsAt within M block z r.at r.last f.base)
            (append_assoc told (e.answer ∷ []) (answers_of r.calls) ∙ ap (λ a. told ++ a ∷ answers_of r.calls) (sym t.answered)) r.falls;
        noted = r.noted ∙ append_assoc notes d.notes (notes_of r.calls ++ r.last) ∙ ap (λ z. notes ++ z) (sym (append_assoc d.notes (notes_of r.calls) r.last));
        took = subst (λ z. Took past N z picks f.left) (sym (append_assoc d.notes (notes_of r.calls) r.last))
            (took_more d.notes (notes_of r.calls ++ r.last) picks d.left f.left c.took r.took);
      }
