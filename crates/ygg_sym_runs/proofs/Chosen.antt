-- Blocks of a specification with a pick for each place, given as a function of places: the same ends as with picks by place and from the front.
use Rattle.std.proofs.Common.{◌≡◌, ◌<◌, ◌≤◌, ◌+◌, ℕ, zero, suc, Bool, List, [], ◌∷◌, ◌++◌, take, length, Some, refl, sym, ap, ◌∙◌, subst, arith}
use Rattle.ygg_value.specs.Values.{digit}
use Rattle.ygg_syntax.specs.declared.tree.Block.{Block}
use Rattle.ygg_sym_runs.specs.ygg_meaning.Environments.{Env}
use Rattle.ygg_sym_runs.specs.ygg_meaning.Progress.{Question, Choice, Call, Answer, answer_of}
use Rattle.ygg_sym_runs.specs.ygg_meaning.Machine.{Picks}
use Rattle.ygg_sym_runs.specs.ygg_meaning.Layer.{ClosedLayer, eval_of}
use Rattle.ygg_sym_runs.specs.ygg_meaning_laws.Direct.{Handled, Event, Reached, Chained, Within, Alike, question_space, room_of, direct_run}
use Rattle.ygg_sym_runs.specs.ygg_meaning_laws.Acts.{next_of}
use Rattle.ygg_sym_runs.specs.ygg_meaning_laws.Places.{Held, left_after, by_place, from_front, choosing, Result, outcome_by_place}
use Rattle.ygg_sym_runs.specs.ygg_meaning_laws.SpecActs.{Ran, block_ran}
use Rattle.ygg_sym_runs.specs.ygg_meaning_laws_proofs_Order.{block_follows}
use Rattle.ygg_sym_runs.specs.ygg_meaning_laws_proofs_Mirror.{block_mirrors}
use Rattle.ygg_sym_runs.specs.ygg_meaning_laws_proofs_Rooms.{room_is}
use Rattle.ygg_sym_runs.specs.ygg_meaning_laws_proofs_Placing.{fronted, all_placed}
use Rattle.ygg_sym_runs.specs.ygg_meaning_laws_proofs_Choosing.{one, choosing_draws}
use Rattle.ygg_sym_runs.specs.Specs.{Nothing}
use Rattle.ygg_sym_runs.specs.Wholes.{picks_from}
use Rattle.ygg_sym_runs.proofs.Specs.{choose_at}

-- bits that are decided below a number: whatever bits are the same there have a property
pub record Decided (count : ℕ) (P : (ℕ → Bool) → Type 0) : Type 0 where
  pub bits : ℕ → Bool
  pub holds : (g : ℕ → Bool) → ((k : ℕ) → k < count → g k ≡ bits k) → P g

-- the k-th pick of so many from a place on
pub nth_from : (past : Bool) (bits : ℕ → Bool) (i n k : ℕ) → k < n → next_of past (left_after k (picks_from bits i n)) ≡ bits (i + k)
nth_from past bits i zero k l = absurd (omega (arith, l))
nth_from past bits i (suc n) zero l = let e : i ≡ i + 0 = omega arith in ap bits e
nth_from past bits i (suc n) (suc k) l =
    let e : (i + 1) + k ≡ i + suc k = omega arith in nth_from past bits (i + 1) n k (omega (arith, l)) ∙ ap bits e

-- the statements of a block of a specification, with a pick for each place
abbrev pub block_run_at : ClosedLayer → (ℕ → Bool) → Block → Env → Env → Reached Nothing
block_run_at m bits b vars args = direct_run (eval_of m) one (choose_at bits) b (vars ++ args) tt

-- the end that names at the end of a block are
abbrev pub end_of : ClosedLayer → Block → Env → Env → Result
end_of m b vars env = record { vars = take (length vars) env; answer = answer_of (eval_of m) b.answer env }

-- what the block ends in
abbrev pub block_end : ClosedLayer → (ℕ → Bool) → Block → Env → Env → Result
block_end m bits b vars args = end_of m b vars (block_run_at m bits b vars args).env

-- how many choices a block has at most
abbrev pub room : Block → ℕ
room = room_of one

module _ (m : ClosedLayer) where
  alike_below : (f g : ℕ → Bool) (es : List (Event Nothing)) (z to : Nothing) (low high : ℕ) → ((k : ℕ) → k < high → f k ≡ g k) →
      Chained (choose_at f) z es to → Within (question_space one) low es high → Alike {R = Nothing} {S = Nothing} (choose_at g) (λ s. s) es
  alike_below f g [] z to low high same c w = tt
  alike_below f g (e ∷ es) z to low high same c w =
      let answered : Some (digit (f e.place)) ≡ e.answer = ap (λ (h : Handled Nothing). h.answer) c.1 in
      let here : e.place < high = above e.place e.question es high w.1 in (
        ap (λ (a : Answer). let h : Handled Nothing = record { answer = a; to = tt } in h)
            (ap (λ p. Some (digit p)) (sym (same e.place here)) ∙ answered),
        alike_below f g es e.after to (e.place + question_space one e.question) high same c.2 w.1,
      )
    where
      low_high : (es : List (Event Nothing)) (low high : ℕ) → Within (question_space one) low es high → low ≤ high
      low_high [] low high w = w
      low_high (e ∷ es) low high w =
          let h = low_high es (e.place + question_space one e.question) high w.1 in let l = w.0 in omega (arith, h, l)

      one_each : (q : Question) → question_space one q ≡ 1
      one_each Choice = refl
      one_each (Call f args) = refl

      above : (place : ℕ) (q : Question) (es : List (Event Nothing)) (high : ℕ) → Within (question_space one) (place + question_space one q) es high →
          place < high
      above place q es high w =
          let h = low_high es (place + question_space one q) high w in let o = one_each q in omega (arith, h, o)

  -- a block looks at the picks of its places alone
  pub same_below : (f g : ℕ → Bool) (b : Block) (vars args : Env) → ((k : ℕ) → k < room b → f k ≡ g k) →
      block_end m g b vars args ≡ block_end m f b vars args
  same_below f g b vars args same =
      let r = block_run_at m f b vars args in
      let h = block_follows (eval_of m) one (choose_at f) b.statements 0 (vars ++ args) tt in
      let within = subst (λ n. Within (question_space one) 0 r.events n) (room_is one (eval_of m) (choose_at f) b) h.within in
      let mirrored = block_mirrors {R = Nothing} {S = Nothing} (eval_of m) one (choose_at f) (choose_at g) (λ s. s) b.statements 0 (vars ++ args) tt
      (alike_below f g r.events tt r.to 0 (room b) same h.chained within) in
      ap (λ (x : Reached Nothing). end_of m b vars x.env) mirrored

  module _ (past : Bool) where
    -- the pick that a list has at a place
    abbrev pub nth : Picks → ℕ → Bool
    nth picks i = next_of past (left_after i picks)

    alike_placed : (picks : Picks) (es : List (Event Picks)) (z to : Picks) → Chained (by_place (choosing past) picks) z es to →
        Alike {R = Picks} {S = Nothing} (choose_at (nth picks)) (λ s. tt) es
    alike_placed picks [] z to c = tt
    alike_placed picks (e ∷ es) z to c = (
      ap (λ (h : Handled Picks). let g : Handled Nothing = record { answer = h.answer; to = tt } in g) c.1,
      alike_placed picks es e.after to c.2,
    )

    -- picks by place are a function of places
    pub placed_env : (picks : Picks) (b : Block) (vars args : Env) →
        (direct_run (eval_of m) one (by_place (choosing past) picks) b (vars ++ args) []).env ≡ (block_run_at m (nth picks) b vars args).env
    placed_env picks b vars args =
        let h = block_follows (eval_of m) one (by_place (choosing past) picks) b.statements 0 (vars ++ args) [] in
        let r = direct_run (eval_of m) one (by_place (choosing past) picks) b (vars ++ args) [] in
        let mirrored = block_mirrors {R = Picks} {S = Nothing} (eval_of m) one (by_place (choosing past) picks) (choose_at (nth picks)) (λ s. tt) b.statements 0
        (vars ++ args) [] (alike_placed picks r.events [] r.to h.chained) in
        sym (ap (λ (x : Reached Nothing). x.env) mirrored)

    pub placed_end : (picks : Picks) (b : Block) (vars args : Env) → outcome_by_place past m b vars args picks ≡ block_end m (nth picks) b vars args
    placed_end picks b vars args = ap (end_of m b vars) (placed_env picks b vars args)

    -- so are so many picks of a function
    pub from_end : (bits : ℕ → Bool) (b : Block) (vars args : Env) →
        outcome_by_place past m b vars args (picks_from bits 0 (room b)) ≡ block_end m bits b vars args
    from_end bits b vars args =
        placed_end (picks_from bits 0 (room b)) b vars args
        ∙ same_below bits (nth (picks_from bits 0 (room b))) b vars args (λ k l.
        let e : 0 + k ≡ k = omega arith in ap bits (sym e) ∙ sym (nth_from past bits 0 (room b) k l))

    abbrev ran : Result → Picks → Picks → Ran
    ran r taken left = record { vars = r.vars; answer = r.answer; taken = taken; left = left }

    -- picks from the front that lead where the picks of places lead, whatever follows them
    pub record Fronts (bits : ℕ → Bool) (b : Block) (vars args : Env) : Type 0 where
      pub picks : Picks
      pub few : length picks ≤ room b
      pub taken : Picks
      pub is : (more : Picks) → block_ran past m b vars args (picks ++ more) ≡ ran (block_end m bits b vars args) taken more

    pub fronts : (bits : ℕ → Bool) (b : Block) (vars args : Env) → Fronts bits b vars args
    fronts bits b vars args =
        let places = picks_from bits 0 (room b) in
        let f = fronted past (eval_of m) one (choosing past) (choosing_draws past) b (vars ++ args) [] places in
        let r = direct_run (eval_of m) one (by_place (choosing past) places) b (vars ++ args) [] in
        record {
          picks = f.taken;
          few = f.few;
          taken = r.to;
          is = λ more.
              ap (λ (env : Env). let x : Ran = record {
                vars = take (length vars) env;
                answer = answer_of (eval_of m) b.answer env;
                taken = (direct_run (eval_of m) one (from_front (choosing past)) b (vars ++ args) (record { at = []; left = f.taken ++ more })).to.at;
                left = (direct_run (eval_of m) one (from_front (choosing past)) b (vars ++ args) (record { at = []; left = f.taken ++ more })).to.left;
              } in x) (f.names more)
              ∙ ap (λ (h : Held Picks). ran (end_of m b vars r.env) h.at h.left) (f.ends more)
              ∙ ap (λ (x : Result). ran x r.to more) (from_end bits b vars args);
        }

    -- and the other way round
    pub backs : (b : Block) (vars args : Env) (picks : Picks) →
        Decided (room b) (λ g. (block_end m g b vars args).vars ≡ (block_ran past m b vars args picks).vars
        × (block_end m g b vars args).answer ≡ (block_ran past m b vars args picks).answer)
    backs b vars args picks =
        let p = all_placed past (eval_of m) one (choosing past) (choosing_draws past) b (vars ++ args) [] (room b) (omega arith) picks in
        let put = p.put ++ [] in
        let r = direct_run (eval_of m) one (from_front (choosing past)) b (vars ++ args) (record { at = []; left = picks }) in
        record {
          bits = nth put;
          holds = λ g same.
              let e : block_end m g b vars args ≡ end_of m b vars r.env =
              same_below (nth put) g b vars args (λ k l. sym (same k l)) ∙ sym (placed_end put b vars args)
              ∙ ap (λ (x : Reached Picks). end_of m b vars x.env) (p.mirrors []) in
              (ap (λ (x : Result). x.vars) e, ap (λ (x : Result). x.answer) e);
        }
