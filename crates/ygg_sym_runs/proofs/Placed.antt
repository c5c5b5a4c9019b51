-- A machine that takes the picks of each question's place, and one that takes them from a list.
use Rattle.std.proofs.Common.{◌≡◌, ◌+◌, ◌-◌, ◌≤◌, ◌<◌, ℕ, zero, suc, Bool, List, [], ◌∷◌, ◌++◌, map, length, take, refl, sym, ap, ◌∙◌, subst, arith}
use Rattle.ygg_syntax.specs.declared.tree.Block.{Block}
use Rattle.ygg_sym_runs.specs.ygg_meaning.Environments.{Name, Env}
use Rattle.ygg_sym_runs.specs.ygg_meaning.Progress.{Eval, Question, answer_of}
use Rattle.ygg_sym_runs.specs.ygg_meaning.Machine.{Picks, State, on, memory_in}
use Rattle.ygg_sym_runs.specs.ygg_meaning.Layer.{ClosedLayer, eval_of}
use Rattle.ygg_sym_runs.specs.ygg_meaning_laws.Direct.{
  Handled,
  Event,
  Reached,
  direct_run,
  direct_of,
  room_of,
  question_space,
  total,
  Chained,
  Within,
  Alike,
  seen,
}
use Rattle.ygg_sym_runs.specs.ygg_meaning_laws.Acts.{Taken, Acts, next_of, under}
use Rattle.ygg_sym_runs.specs.ygg_meaning_laws.Places.{Drawn, Draw, left_after, by_place, calling, IsDraw}
use Rattle.ygg_sym_runs.specs.ygg_meaning_laws.RunPlaces.{IsTidy, placed_run, runs_by_place}
use Rattle.ygg_sym_runs.specs.ygg_meaning_laws_proofs_Order.{block_follows}
use Rattle.ygg_sym_runs.specs.ygg_meaning_laws_proofs_Mirror.{block_mirrors}
use Rattle.ygg_sym_runs.specs.ygg_meaning_laws_proofs_Rooms.{room_is}
use Rattle.ygg_sym_runs.specs.ygg_meaning_laws_proofs_Placing.{after_more}
use Rattle.ygg_sym_runs.specs.ygg_meaning_laws_proofs_RunPlacing.{calling_draws}
use Rattle.ygg_sym_runs.specs.Wholes.{picks_from}

left_from : (bits : ℕ → Bool) (i n k : ℕ) → left_after k (picks_from bits i (k + n)) ≡ picks_from bits (i + k) n
left_from bits i n zero =
    let e : i ≡ i + 0 = omega arith in
    let f : 0 + n ≡ n = omega arith in ap (picks_from bits i) f ∙ ap (λ j. picks_from bits j n) e
left_from bits i n (suc k) =
    let e : (i + 1) + k ≡ i + suc k = omega arith in
    let f : suc k + n ≡ suc (k + n) = omega arith in
    ap (λ m. left_after (suc k) (picks_from bits i m)) f ∙ left_from bits (i + 1) n k ∙ ap (λ j. picks_from bits j n) e

split_from : (bits : ℕ → Bool) (i m n : ℕ) → picks_from bits i (m + n) ≡ picks_from bits i m ++ picks_from bits (i + m) n
split_from bits i zero n =
    let e : i ≡ i + 0 = omega arith in
    let f : 0 + n ≡ n = omega arith in ap (picks_from bits i) f ∙ ap (λ j. picks_from bits j n) e
split_from bits i (suc m) n =
    let e : (i + 1) + m ≡ i + suc m = omega arith in
    let f : suc m + n ≡ suc (m + n) = omega arith in
    ap (picks_from bits i) f ∙ ap (λ ps. bits i ∷ ps) (split_from bits (i + 1) m n ∙ ap (λ j. picks_from bits (i + 1) m ++ picks_from bits j n) e)

length_from : (bits : ℕ → Bool) (i n : ℕ) → length (picks_from bits i n) ≡ n
length_from bits i zero = refl
length_from bits i (suc n) = ap suc (length_from bits (i + 1) n)

taken_more : (past : Bool) (taken picks left more : Picks) → length taken ≤ length picks → Taken past taken picks left →
    Taken past taken (picks ++ more) (left ++ more)
taken_more past [] picks left more l t = ap (λ ps. ps ++ more) t
taken_more past (p ∷ taken) [] left more l t = absurd (omega (arith, l))
taken_more past (p ∷ taken) (q ∷ picks) left more l t = (t.0, taken_more past taken picks left more (omega (arith, l)) t.1)

module _ {Z : Type 0} (past : Bool) (space : Name → ℕ) (D : Draw Z) (draws : IsDraw past (question_space space) D) (bits : ℕ → Bool) where
  abbrev size : Question → ℕ
  size = question_space space

  -- each question takes the picks of its own places
  abbrev pub by_bits : ℕ → Question → Z → Handled Z
  by_bits i q z = let r = D q z (picks_from bits i (size q)) in record { answer = r.answer; to = r.to }

  same_draw : (total i : ℕ) (q : Question) (z : Z) → i + size q ≤ total → by_place D (picks_from bits 0 total) i q z ≡ by_bits i q z
  same_draw total i q z l =
      let rest = total - (i + size q) in
      let sum : total ≡ i + (size q + rest) = omega (arith, l) in
      let zeroth : 0 + i ≡ i = omega arith in
      let few = picks_from bits i (size q) in
      let more = picks_from bits (i + size q) rest in
      let r = D q z few in
      let there : left_after i (picks_from bits 0 total) ≡ few ++ more =
      ap (λ n. left_after i (picks_from bits 0 n)) sum ∙ left_from bits 0 (size q + rest) i ∙ ap (λ j. picks_from bits j (size q + rest)) zeroth
      ∙ split_from bits i (size q) rest in
      let count : length r.taken ≤ length few = subst (λ n. length r.taken ≤ n) (sym (length_from bits i (size q))) (draws.few q z few) in
      let looked = draws.looks q z few (few ++ more) (r.left ++ more) (taken_more past r.taken few r.left more count (draws.takes q z few)) in
      ap (λ ps. record { answer = (D q z ps).answer; to = (D q z ps).to }) there
      ∙ ap (λ (x : Drawn Z). record { answer = x.answer; to = x.to }) looked

  alike : (sum : ℕ) (es : List (Event Z)) (from to : Z) (low high : ℕ) → high ≤ sum → Chained by_bits from es to → Within size low es high →
      Alike (by_place D (picks_from bits 0 sum)) (λ z. z) es
  alike sum [] from to low high l c w = tt
  alike sum (e ∷ es) from to low high l c w =
      let rest = w.1 in
      let here : e.place + size e.question ≤ sum = let k = within_low (e.place + size e.question) es high rest in omega (arith, k, l) in
      let made = subst (λ z. by_bits e.place e.question z ≡ record { answer = e.answer; to = e.after }) (sym c.0) c.1 in
      (same_draw sum e.place e.question e.before here ∙ made, alike sum es e.after to (e.place + size e.question) high l c.2 rest)
    where
      within_low : (low : ℕ) (es : List (Event Z)) (high : ℕ) → Within size low es high → low ≤ high
      within_low low [] high w = w
      within_low low (x ∷ es) high w = let k = within_low (x.place + size x.question) es high w.1 in let m = w.0 in omega (arith, k, m)

  same_events : (es : List (Event Z)) → map (seen (by_place D []) (λ z. z)) es ≡ es
  same_events [] = refl
  same_events (e ∷ es) = ap (λ z. e ∷ z) (same_events es)

  abbrev reached : Env → Z → List (Event Z) → Reached Z
  reached env to events = record { env = env; to = to; events = events }

  -- a run by the bits of places is the run with the picks of so many places
  pub record SameRun (p q : Reached Z) : Type 0 where
    pub all : p ≡ q
    pub env : p.env ≡ q.env
    pub to : p.to ≡ q.to

  pub same_run : (eval : Eval) (b : Block) (env : Env) (z : Z) →
      SameRun (direct_run eval space (by_place D (picks_from bits 0 (room_of space b))) b env z) (direct_run eval space by_bits b env z)
  same_run eval b env z =
      let sum = room_of space b in
      let g = block_follows eval space by_bits b.statements 0 env z in
      let r = direct_run eval space by_bits b env z in
      let top : 0 + total (map (λ d. d.room) (map (direct_of eval space by_bits) b.statements)) ≤ sum = let e = room_is space eval by_bits b in
      omega (arith, e) in
      let a = alike sum r.events z r.to 0 (0 + total (map (λ d. d.room) (map (direct_of eval space by_bits) b.statements))) top g.chained g.within in
      let m = block_mirrors eval space by_bits (by_place D (picks_from bits 0 sum)) (λ z. z) b.statements 0 env z a in
      record {
        all = m ∙ ap (reached r.env r.to) (same_events r.events);
        env = ap (λ (x : Reached Z). x.env) m;
        to = ap (λ (x : Reached Z). x.to) m;
      }

-- a list of picks by place, which goes on with `past` after its end
abbrev pub bits_of : Bool → Picks → ℕ → Bool
bits_of past picks i = next_of past (left_after i picks)

taken_listed : (past : Bool) (picks taken left : Picks) (i n : ℕ) → length taken ≤ n → Taken past taken (picks_from (bits_of past picks) i n) left →
    (rest : Picks) × Taken past taken (left_after i picks) rest
taken_listed past picks [] left i n l t = (left_after i picks, refl)
taken_listed past picks (p ∷ taken) left i zero l t = absurd (omega (arith, l))
taken_listed past picks (p ∷ taken) left i (suc n) l t =
    let r = taken_listed past picks taken left (i + 1) n (omega (arith, l)) t.1 in
    (r.0, (t.0, subst (λ ps. Taken past taken ps r.0) (after_more i 1 (i + 1) picks refl) r.1))

-- the picks of the first places alone count
pub same_picks : (bits other : ℕ → Bool) (i n : ℕ) → ((k : ℕ) → i ≤ k → k < i + n → bits k ≡ other k) → picks_from bits i n ≡ picks_from other i n
same_picks bits other i zero h = refl
same_picks bits other i (suc n) h =
    let here = h i (omega arith) (omega arith) in
    let rest = same_picks bits other (i + 1) n (λ k l m. h k (omega (arith, l)) (omega (arith, m))) in
    ap (λ b. b ∷ picks_from bits (i + 1) n) here ∙ ap (λ ps. other i ∷ ps) rest

module _ {Z : Type 0} (past : Bool) (space : Name → ℕ) (D : Draw Z) (draws : IsDraw past (question_space space) D) (picks : Picks) where
  abbrev listed : ℕ → Bool
  listed = bits_of past picks

  listed_draw : (i : ℕ) (q : Question) (z : Z) → by_place D picks i q z ≡ by_bits past space D draws listed i q z
  listed_draw i q z =
      let few = picks_from listed i (question_space space q) in
      let r = D q z few in
      let t = taken_listed past picks r.taken r.left i (question_space space q) (draws.few q z few) (draws.takes q z few) in
      ap (λ (x : Drawn Z). record { answer = x.answer; to = x.to }) (draws.looks q z few (left_after i picks) t.0 t.1)

  listed_alike : (es : List (Event Z)) (from to : Z) → Chained (by_bits past space D draws listed) from es to → Alike (by_place D picks) (λ z. z) es
  listed_alike [] from to c = tt
  listed_alike (e ∷ es) from to c =
      let made = subst (λ z. by_bits past space D draws listed e.place e.question z ≡ record { answer = e.answer; to = e.after }) (sym c.0) c.1 in
      (listed_draw e.place e.question e.before ∙ made, listed_alike es e.after to c.2)

  -- a run by place looks at no more of a list of picks than the block has places
  pub places_are : (eval : Eval) (b : Block) (env : Env) (z : Z) →
      direct_run eval space (by_place D picks) b env z ≡ direct_run eval space (by_place D (picks_from listed 0 (room_of space b))) b env z
  places_are eval b env z =
      let r = direct_run eval space (by_bits past space D draws listed) b env z in
      let g = block_follows eval space (by_bits past space D draws listed) b.statements 0 env z in
      let m = block_mirrors eval space (by_bits past space D draws listed) (by_place D picks) (λ z. z) b.statements 0 env z
      (listed_alike r.events z r.to g.chained) in
      let s = same_run past space D draws listed eval b env z in
      m ∙ ap (reached past space D draws listed r.env r.to) (same_events past space D draws listed r.events) ∙ sym s.all

module _ {B : Type 0} (past : Bool) (space : Name → ℕ) (F : Acts B Bool) (tidy : IsTidy past space F) (L : ClosedLayer) (b : Block)
    (args : Env) (from : State B) where
  -- so many picks by place as the block has places lead where a list leads
  pub placed_are : (picks : Picks) → placed_run space F L b args from picks
      ≡ placed_run space F L b args from (picks_from (bits_of past picks) 0 (room_of space b))
  placed_are picks = places_are past space (calling F) (calling_draws past space F tidy) picks (eval_of L) b (memory_in from ++ args) (under from)

  pub finish_are : (picks : Picks) → runs_by_place space F L b args from picks
      ≡ runs_by_place space F L b args from (picks_from (bits_of past picks) 0 (room_of space b))
  finish_are picks =
      ap (λ (r : Reached (State B)). record {
        answer = answer_of (eval_of L) b.answer r.env;
        to = on (take (length (memory_in from)) (take (length (memory_in from ++ args)) r.env)) r.to;
      }) (placed_are picks)
