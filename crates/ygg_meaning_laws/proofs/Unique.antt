-- Whatever run a machine makes of a block is the direct run on the picks that it took.
use Rattle.std.proofs.Common.{◌≡◌, ℕ, Bool, List, [], ◌∷◌, ◌++◌, length, refl, sym, ap, ◌∙◌, subst, append_assoc}
use Rattle.std.proofs.lemmas.List.{append-nil}
use Rattle.ygg_meaning_laws.specs.Environments.{Env}
use Rattle.ygg_meaning_laws.specs.Progress.{Question, Call, Answer, Progress, Asks, Ends}
use Rattle.ygg_meaning_laws.specs.Machine.{Picks, State, Machine}
use Rattle.ygg_meaning_laws.specs.Runs.{Dialogue, WholeCall, Reaches, answers_of, notes_of}
use Rattle.ygg_meaning_laws.specs.Direct.{Handled, Event, told_by, Chained}
use Rattle.ygg_meaning_laws.specs.Acts.{Taken, Took, Notes, Did, Acts, Standing, serve, stopped_in, AreCalls}
use Rattle.ygg_meaning_laws.proofs.Taking.{taken_split}

-- the block asks these questions in turn
abbrev pub Asked : {S : Type 0} → Dialogue → List Answer → List (Event S) → Type 0
Asked block told [] = Unit {0}
Asked block told (e ∷ es) = (block told ≡ Asks e.question) × Asked block (told ++ e.answer ∷ []) es

pub question_is : (p q : Question) → Asks p ≡ Asks q → p ≡ q
question_is p q h = cc

-- it does not both ask and end
pub never_both : {A : Type 0} (p : Progress) (q : Question) (env : Env) (answer : Answer) → p ≡ Asks q → p ≡ Ends env answer → A
never_both p q env answer h g = let k : Asks q ≡ Ends env answer = sym h ∙ g in absurd (cc)

-- a state of the machine below, the picks that were taken and those that are left
abbrev pub standing : {B X : Type 0} → State B → List X → Picks → Standing B X
standing s notes left = record { at = s; notes = notes; left = left }

module _ {B X : Type 0} (past : Bool) (N : Notes X) (M : Machine B X) (F : Acts B X) (acted : AreCalls past N M F) where
  abbrev hands : ℕ → Question → Standing B X → Handled (Standing B X)
  hands = serve F

  -- the events of a direct run after the calls of a run of the machine
  pub record Walked (block : Dialogue) (told : List Answer) (cs : List (WholeCall B X)) (at : State B) (taken : List X) (left : Picks)
      (es : List (Event (Standing B X))) (end : Standing B X) : Type 0 where
    pub rest : List (Event (Standing B X))
    pub told_is : told ++ told_by es ≡ (told ++ answers_of cs) ++ told_by rest
    pub asks : Asked block (told ++ answers_of cs) rest
    pub chained : Chained hands (standing at (taken ++ notes_of cs) left) rest end
    pub stops : (within : Bool) → stopped_in F within es (length cs) end ≡ stopped_in F within rest 0 end

  pub walk : (block : Dialogue) (told : List Answer) (cs : List (WholeCall B X)) (from at : State B) → Reaches M block told from cs at →
      (taken : List X) (picks left : Picks) → Took past N (notes_of cs) picks left → (es : List (Event (Standing B X))) (end : Standing B X) →
      Asked block told es → Chained hands (standing from taken picks) es end → (env : Env) (answer : Answer) → block (told ++ told_by es) ≡ Ends env answer →
      Walked block told cs at taken left es end
  walk block told [] from at path taken picks left takes es end asks chained env answer ends = record {
    rest = es;
    told_is = ap (λ z. z ++ told_by es) (sym (append-nil told));
    asks = subst (λ z. Asked block z es) (sym (append-nil told)) asks;
    chained = subst (λ z. Chained hands z es end) (ap (λ s. standing s taken picks) path
        ∙ (ap (λ t. standing at t picks) (sym (append-nil taken))
        ∙ ap (standing at (taken ++ [])) (sym (subst (λ t. Taken past t picks left) N.none takes)))) chained;
    stops = λ within. refl;
  }
  walk block told (c ∷ cs) from at path taken picks left takes [] end asks chained env answer ends =
      never_both (block told) (Call c.name c.args) env answer path.0 (ap block (sym (append-nil told)) ∙ ends)
  walk block told (c ∷ cs) from at path taken picks left takes (e ∷ es) end asks chained env answer ends =
      let split = taken_split past (N.picks_in c.notes) (N.picks_in (notes_of cs)) picks left
      (subst (λ t. Taken past t picks left) (N.joined c.notes (notes_of cs)) takes) in
      let question : e.question ≡ Call c.name c.args = question_is e.question (Call c.name c.args) (sym asks.0 ∙ path.0) in
      let did = acted from c.after c.name c.args c.notes picks split.mid c.answer path.1 split.first in
      let handled : record { answer = c.answer; to = standing c.after (taken ++ c.notes) split.mid } ≡ record { answer = e.answer; to = e.after } =
      ap (λ (d : Did B X). let h : Handled (Standing B X) = record { answer = d.answer; to = standing d.to (taken ++ d.notes) d.left } in h) (sym did)
      ∙ ap (λ q. hands e.place q (standing from taken picks)) (sym question) ∙ chained.1 in
      let answered : e.answer ≡ c.answer = ap (λ (h : Handled (Standing B X)). h.answer) (sym handled) in
      let stands : e.after ≡ standing c.after (taken ++ c.notes) split.mid = ap (λ (h : Handled (Standing B X)). h.to) (sym handled) in
      let w = walk block (told ++ c.answer ∷ []) cs c.after at path.2 (taken ++ c.notes) split.mid left split.second es end
      (subst (λ a. Asked block (told ++ a ∷ []) es) answered asks.1)
      (subst (λ z. Chained hands z es end) stands chained.2)
      env answer (ap block (append_assoc told (c.answer ∷ []) (told_by es) ∙ ap (λ a. told ++ a ∷ told_by es) (sym answered)) ∙ ends) in
      record {
        rest = w.rest;
        told_is = ap (λ a. told ++ a ∷ told_by es) answered ∙ sym (append_assoc told (c.answer ∷ []) (told_by es)) ∙ w.told_is
            ∙ ap (λ z. z ++ told_by w.rest) (append_assoc told (c.answer ∷ []) (answers_of cs));
        asks = subst (λ z. Asked block z w.rest) (append_assoc told (c.answer ∷ []) (answers_of cs)) w.asks;
        chained = subst (λ t. Chained hands (standing at t left) w.rest end) (append_assoc taken c.notes (notes_of cs)) w.chained;
        stops = λ within. w.stops within;
      }
