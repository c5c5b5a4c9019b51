-- Picks by place in the unrolled text, and picks from the front of a list.
use Rattle.std.specs.Prelude.{◌≡◌, ℕ, zero, suc, ◌≤◌, Bool, IsTrue, List, [], ◌∷◌, ◌++◌, length, take, Some, None}
use Rattle.ygg_value.specs.Values.{digit}
use Rattle.ygg_syntax.specs.declared.tree.Block.{Block}
use Rattle.ygg_syntax.specs.declared.grammar.BlockKind.TheVariants.{Spec}
use Rattle.ygg_syntax.specs.Choices.{choices_of}
use Rattle.ygg_meaning_laws.specs.Environments.{Name, Env}
use Rattle.ygg_meaning_laws.specs.Progress.{Eval, Question, Choice, Call, Answer, answer_of}
use Rattle.ygg_meaning_laws.specs.Machine.{Picks, State}
use Rattle.ygg_meaning_laws.specs.Layer.{ClosedLayer, eval_of}
use Rattle.ygg_meaning_laws.specs.Spec.{chosen, block_outcome}
use Rattle.ygg_meaning_laws.specs.Kinds.{keeps}
use Rattle.ygg_meaning_laws.specs.Direct.{Handled, direct_run}
use Rattle.ygg_meaning_laws.specs.Acts.{next_of, later, Taken, Acts}

-- what a question gives, the state after it, the picks that it takes and those that are left
pub record Drawn (Z : Type 0) : Type 0 where
  pub answer : Answer
  pub to : Z
  pub taken : Picks
  pub left : Picks

-- whatever answers questions with picks
abbrev pub Draw : Type 0 → Type 0
Draw Z = Question → Z → Picks → Drawn Z

-- a state, and the picks that are left
pub record Held (Z : Type 0) : Type 0 where
  pub at : Z
  pub left : Picks

-- the picks from a place on
abbrev pub left_after : ℕ → Picks → Picks
left_after zero picks = picks
left_after (suc n) picks = left_after n (later picks)

-- each question takes its picks from its place on
abbrev pub by_place : {Z : Type 0} → Draw Z → Picks → ℕ → Question → Z → Handled Z
by_place D picks i q z = let r = D q z (left_after i picks) in record { answer = r.answer; to = r.to }

-- each question takes the picks that those before it have left
abbrev pub from_front : {Z : Type 0} → Draw Z → ℕ → Question → Held Z → Handled (Held Z)
from_front D i q h = let r = D q h.at h.left in record { answer = r.answer; to = record { at = r.to; left = r.left } }

-- It takes the next picks, looks at no others, and takes no more than a question has places.
pub record IsDraw {Z : Type 0} (past : Bool) (size : Question → ℕ) (D : Draw Z) : Type 0 where
  pub takes : (q : Question) (z : Z) (picks : Picks) → let r = D q z picks in Taken past r.taken picks r.left
  pub looks : (q : Question) (z : Z) (picks other left : Picks) → let r = D q z picks in
      Taken past r.taken other left → D q z other ≡ record { answer = r.answer; to = r.to; taken = r.taken; left = left }
  pub few : (q : Question) (z : Z) (picks : Picks) → length (D q z picks).taken ≤ size q

-- where a run ends: its names and its state
pub record Ended (Z : Type 0) : Type 0 where
  pub env : Env
  pub at : Z

module _ {Z : Type 0} (eval : Eval) (space : Name → ℕ) (D : Draw Z) (b : Block) (env : Env) (z : Z) where
  -- the end of the run by place
  abbrev pub ends_by_place : Picks → Ended Z
  ends_by_place picks = let r = direct_run eval space (by_place D picks) b env z in record { env = r.env; at = r.to }

  -- the end of the run from the front
  abbrev pub ends_from_front : Picks → Ended Z
  ends_from_front picks = let r = direct_run eval space (from_front D) b env (record { at = z; left = picks }) in record { env = r.env; at = r.to.at }

  -- whatever picks by place lead to, so many picks from the front do, and the other way round
  pub record SamePlaces (most : ℕ) : Type 0 where
    pub front : (picks : Picks) → (same : Picks) × (length same ≡ most) × (ends_from_front same ≡ ends_by_place picks)
    pub place : (picks : Picks) → (same : Picks) × (length same ≡ most) × (ends_by_place same ≡ ends_from_front picks)

-- the variables and the answer that a block of a specification ends in
pub record Result : Type 0 where
  pub vars : Env
  pub answer : Answer

-- Each question takes one pick: a specification's blocks ask for choices alone. The state is the picks that were taken so far.
abbrev pub choosing : Bool → Draw Picks
choosing past q taken picks =
    record { answer = Some (digit (next_of past picks)); to = taken ++ next_of past picks ∷ []; taken = next_of past picks ∷ []; left = later picks }

-- a call is one of a machine; choices, of which an implementation's blocks have none, do nothing
abbrev pub calling : {B : Type 0} → Acts B Bool → Draw (State B)
calling F Choice z picks = record { answer = None; to = z; taken = []; left = picks }
calling F (Call f args) z picks = let d = F.calls z f args picks in record { answer = d.answer; to = d.to; taken = d.notes; left = d.left }

module _ (past : Bool) (L : ClosedLayer) where
  -- what a block of a specification ends in, with picks by place
  abbrev pub outcome_by_place : Block → Env → Env → Picks → Result
  outcome_by_place b vars args picks =
      let r = direct_run (eval_of L) (λ f. 1) (by_place (choosing past) picks) b (vars ++ args) [] in
      record { vars = take (length vars) r.env; answer = answer_of (eval_of L) b.answer r.env }

  -- the block ends so with picks from the front
  abbrev pub EndsSo : Block → Env → Env → Picks → Result → Type 0
  EndsSo b vars args picks r =
      (left : List Answer) × (block_outcome L b vars args (chosen picks) ≡ Some (record { vars = r.vars; answer = r.answer; left = left }))

-- For a block with at most so many choices, each list of picks by place has a list of so many picks from the front with the same end, and the other way round.
abbrev pub ChoicesByPlace : Type 0
ChoicesByPlace =
    (past : Bool) (L : ClosedLayer) (b : Block) (vars args : Env) (most : ℕ) → IsTrue (keeps Spec b) → choices_of b ≤ most →
    ((picks : Picks) → (same : Picks) × (length same ≡ most) × EndsSo past L b vars args same (outcome_by_place past L b vars args picks))
    × ((picks : Picks) → length picks ≡ most → (same : Picks) × (length same ≡ most)
    × EndsSo past L b vars args picks (outcome_by_place past L b vars args same))
