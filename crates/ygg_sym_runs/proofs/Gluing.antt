-- A specification with picks by place in its blocks is the specification's function of picks with other picks.
use Rattle.std.proofs.Common.{
  ◌≡◌,
  ◌+◌,
  ◌-◌,
  ◌≤◌,
  ◌<◌,
  ℕ,
  zero,
  suc,
  Bool,
  true,
  false,
  if◌then◌else◌,
  List,
  [],
  ◌∷◌,
  ◌++◌,
  map,
  length,
  Option,
  Some,
  None,
  refl,
  sym,
  ap,
  ◌∙◌,
  arith,
}
use Rattle.std.specs.Prelude.{nat_lt}
use Rattle.std.proofs.lemmas.Bool.Decides.{nat_tests}
use Rattle.ygg_value.specs.declared.row.Value.{Value}
use Rattle.ygg_syntax.specs.declared.tree.Operation.{Operation}
use Rattle.ygg_syntax.specs.declared.tree.Block.{Block}
use Rattle.ygg_sym_runs.specs.ygg_meaning.Environments.{Name, Env, bind}
use Rattle.ygg_sym_runs.specs.ygg_meaning.Progress.{Eval, Question, Choice, Call, Answer}
use Rattle.ygg_sym_runs.specs.ygg_meaning.Machine.{Picks, State, based}
use Rattle.ygg_sym_runs.specs.ygg_meaning.Layer.{ClosedLayer, operation_of}
use Rattle.ygg_sym_runs.specs.ygg_meaning_laws.Direct.{
  Handled,
  Event,
  Reached,
  direct_run,
  direct_of,
  room_of,
  question_space,
  total,
  Chained,
  Within,
  Alike,
  seen,
}
use Rattle.ygg_sym_runs.specs.ygg_meaning_laws.Acts.{next_of}
use Rattle.ygg_sym_runs.specs.ygg_meaning_laws.Places.{Draw, left_after, calling, IsDraw}
use Rattle.ygg_sym_runs.specs.ygg_meaning_laws.SpecActs.{Ran, spec_does, spec_acts}
use Rattle.ygg_sym_runs.specs.ygg_meaning_laws.RunPlaces.{spec_space}
use Rattle.ygg_sym_runs.specs.ygg_meaning_laws_proofs_Order.{block_follows}
use Rattle.ygg_sym_runs.specs.ygg_meaning_laws_proofs_Mirror.{block_mirrors}
use Rattle.ygg_sym_runs.specs.ygg_meaning_laws_proofs_Choosing.{one}
use Rattle.ygg_sym_runs.specs.ygg_meaning_laws_proofs_RunPlacing.{calling_draws, spec_tidy}
use Rattle.ygg_sym_runs.specs.Wholes.{picks_from}
use Rattle.ygg_sym_runs.proofs.Placed.{by_bits}
use Rattle.ygg_sym_runs.proofs.SpecMeans.{spec_ended, spec_at}
use Rattle.ygg_sym_runs.proofs.Chosen.{fronts}

-- bits that begin with a list
from_list : (g : ℕ → Bool) (p n : ℕ) (l : Picks) → length l ≤ n → ((j : ℕ) → j < n → g (p + j) ≡ next_of false (left_after j l)) →
    (more : Picks) × (picks_from g p n ≡ l ++ more)
from_list g p n [] few h = (picks_from g p n, refl)
from_list g p zero (x ∷ l) few h = absurd (omega (arith, few))
from_list g p (suc n) (x ∷ l) few h =
    let first : g p ≡ x = let e : p + 0 ≡ p = omega arith in ap g (sym e) ∙ h 0 (omega arith) in
    let r = from_list g (p + 1) n l (omega (arith, few)) (λ j less.
    let e : (p + 1) + j ≡ p + suc j = omega arith in
    let more : suc j < suc n = omega (arith, less) in ap g e ∙ h (suc j) more) in
    (r.0, ap (λ b. b ∷ picks_from g (p + 1) n) first ∙ ap (λ ps. x ∷ ps) r.1)

-- bits at places, one after another
pub record Slot : Type 0 where
  pub place : ℕ
  pub size : ℕ
  pub bits : ℕ → Bool

-- the bits that they make
abbrev pub glue : List Slot → ℕ → Bool
glue [] k = false
glue (s ∷ slots) k = if nat_lt k (s.place + s.size) then s.bits (k - s.place) else glue slots k

pub glue_here : (p n j : ℕ) (bits : ℕ → Bool) (other : Bool) → j < n → (if nat_lt (p + j) (p + n) then bits ((p + j) - p) else other) ≡ bits j
glue_here p n j bits other less =
    let t : nat_lt (p + j) (p + n) ≡ true = grind (arith, nat_tests) in
    let e : (p + j) - p ≡ j = omega arith in
    ap (λ b. if b then bits ((p + j) - p) else other) t ∙ ap bits e

pub glue_later : (p n k : ℕ) (bits : ℕ → Bool) (other : Bool) → p + n ≤ k → (if nat_lt k (p + n) then bits (k - p) else other) ≡ other
glue_later p n k bits other more =
    let t : nat_lt k (p + n) ≡ false = grind (arith, nat_tests) in ap (λ b. if b then bits (k - p) else other) t

abbrev pub reached : Env → State Env → List (Event (State Env)) → Reached (State Env)
reached env to events = record { env = env; to = to; events = events }

pub same_events : (h : ℕ → Question → State Env → Handled (State Env)) (es : List (Event (State Env))) → map (seen h (λ z. z)) es ≡ es
same_events h [] = refl
same_events h (e ∷ es) = ap (λ z. e ∷ z) (same_events h es)

module _ (past : Bool) (m : ClosedLayer) where
  abbrev D : Draw (State Env)
  D = calling (spec_acts past m)

  abbrev space : Name → ℕ
  space = spec_space m

  abbrev size : Question → ℕ
  size = question_space space

  abbrev places_in : Option Operation → ℕ
  places_in o = suc (elim o [ None ↦ 0 | Some o ↦ room_of one o.spec ])

  abbrev pub draws : IsDraw past size D
  draws = calling_draws past space (spec_acts past m) (spec_tidy past m)

  -- picks of an operation that lead where picks by place in its block lead
  record LocalAt (bits : ℕ → Bool) (o : Option Operation) (xs : List Value) (z : State Env) : Type 0 where
    picks : Picks
    few : length picks ≤ places_in o
    answer : (more : Picks) → (spec_does past m z o xs (picks ++ more)).answer ≡ (spec_ended m bits o xs z).answer
    to : (more : Picks) → (spec_does past m z o xs (picks ++ more)).to ≡ (spec_ended m bits o xs z).to

  local_at : (bits : ℕ → Bool) (o : Option Operation) (xs : List Value) (z : State Env) → LocalAt bits o xs z
  local_at bits None xs z = record { picks = []; few = omega arith; answer = λ more. refl; to = λ more. refl }
  local_at bits (Some o) xs z =
      let f = fronts m past bits o.spec z.base (bind o.arguments xs) in
      let fewer = f.few in
      record {
        picks = f.picks;
        few = omega (arith, fewer);
        answer = λ more. ap (λ (r : Ran). r.answer) (f.is more);
        to = λ more. ap (λ (r : Ran). based r.vars) (f.is more);
      }

  -- picks of a question that lead where picks by place in its block lead
  pub record Local (bits : ℕ → Bool) (i : ℕ) (q : Question) (z : State Env) : Type 0 where
    pub picks : Picks
    pub few : length picks ≤ size q
    pub answer : (more : Picks) → (D q z (picks ++ more)).answer ≡ (spec_at m bits i q z).answer
    pub to : (more : Picks) → (D q z (picks ++ more)).to ≡ (spec_at m bits i q z).to

  pub local : (bits : ℕ → Bool) (i : ℕ) (q : Question) (z : State Env) → Local bits i q z
  local bits i Choice z = record { picks = []; few = omega arith; answer = λ more. refl; to = λ more. refl }
  local bits i (Call f xs) z =
      let l = local_at (λ k. bits (i + k)) (operation_of m f) xs z in record { picks = l.picks; few = l.few; answer = l.answer; to = l.to }

  -- the picks of a list, which goes on with 0
  abbrev nth_of : Picks → ℕ → Bool
  nth_of picks k = next_of false (left_after k picks)

  abbrev slots : (ℕ → Bool) → List (Event (State Env)) → List Slot
  slots bits = map (λ (e : Event (State Env)).
      let s : Slot =
      record { place = e.place; size = size e.question; bits = nth_of (local bits e.place e.question e.before).picks } in s)

  abbrev handled : State Env → Answer → Handled (State Env)
  handled to answer = record { answer = answer; to = to }

  alike_glued : (bits g : ℕ → Bool) (es : List (Event (State Env))) (from to : State Env) (low high : ℕ) → Chained (spec_at m bits) from es to →
      Within size low es high → ((k : ℕ) → low ≤ k → g k ≡ glue (slots bits es) k) → Alike (by_bits past space D draws g) (λ z. z) es
  alike_glued bits g [] from to low high c w h = tt
  alike_glued bits g (e ∷ es) from to low high c w h =
      let p = e.place in
      let n = size e.question in
      let l = local bits p e.question e.before in
      let other = glue (slots bits es) in
      let above = w.0 in
      let begins = from_list g p n l.picks l.few (λ j less.
      let enough : low ≤ p + j = omega (arith, above) in h (p + j) enough ∙ glue_here p n j (nth_of l.picks) (other (p + j)) less) in
      let at = ap (λ z. spec_at m bits p e.question z) c.0 ∙ c.1 in
      let answer_is : (D e.question e.before (picks_from g p n)).answer ≡ e.answer =
      ap (λ ps. (D e.question e.before ps).answer) begins.1 ∙ l.answer begins.0 ∙ ap (λ (x : Handled (State Env)). x.answer) at in
      let to_is : (D e.question e.before (picks_from g p n)).to ≡ e.after =
      ap (λ ps. (D e.question e.before ps).to) begins.1 ∙ l.to begins.0 ∙ ap (λ (x : Handled (State Env)). x.to) at in (
        ap (handled (D e.question e.before (picks_from g p n)).to) answer_is ∙ ap (λ z. handled z e.answer) to_is,
        alike_glued bits g es e.after to (p + n) high c.2 w.1 (λ k more.
            let enough : low ≤ k = omega (arith, above, more) in h k enough ∙ glue_later p n k (nth_of l.picks) (other k) more),
      )

  -- a run with picks by place in the blocks of operations is one with some picks for each call
  pub record Glued (bits : ℕ → Bool) (eval : Eval) (b : Block) (env : Env) (z : State Env) : Type 0 where
    pub other : ℕ → Bool
    pub all : direct_run eval space (by_bits past space D draws other) b env z ≡ direct_run eval space (spec_at m bits) b env z
    pub env_is : (direct_run eval space (by_bits past space D draws other) b env z).env ≡ (direct_run eval space (spec_at m bits) b env z).env
    pub to_is : (direct_run eval space (by_bits past space D draws other) b env z).to ≡ (direct_run eval space (spec_at m bits) b env z).to

  pub glued : (bits : ℕ → Bool) (eval : Eval) (b : Block) (env : Env) (z : State Env) → Glued bits eval b env z
  glued bits eval b env z =
      let r = direct_run eval space (spec_at m bits) b env z in
      let f = block_follows eval space (spec_at m bits) b.statements 0 env z in
      let g = glue (slots bits r.events) in
      let a = alike_glued bits g r.events z r.to 0 (0 + total (map (λ d. d.room) (map (direct_of eval space (spec_at m bits)) b.statements))) f.chained f.within
      (λ k l. refl) in
      let mirrored = block_mirrors eval space (spec_at m bits) (by_bits past space D draws g) (λ z. z) b.statements 0 env z a in
      record {
        other = g;
        all = mirrored ∙ ap (reached r.env r.to) (same_events (by_bits past space D draws g) r.events);
        env_is = ap (λ (x : Reached (State Env)). x.env) mirrored;
        to_is = ap (λ (x : Reached (State Env)). x.to) mirrored;
      }
