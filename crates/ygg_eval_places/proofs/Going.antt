-- Parts of a run by place one after another: what is left to be run, and the places that it has.
use Rattle.std.proofs.Common.{◌≡◌, ◌<◌, ◌≤◌, ℕ, suc, ◌+◌, ◌-◌, ◌*◌, List, ◌∷◌, map, length, take, drop, get_or, sym, ap, ◌∙◌, subst, arith}
use Rattle.std.proofs.lemmas.List.{drop_more, drop_all}
use Rattle.ygg_syntax.specs.declared.tree.Block.{Block}
use Rattle.ygg_syntax.specs.declared.tree.File.{File}
use Rattle.ygg_syntax.specs.declared.tree.Name.{Name}
use Rattle.ygg_syntax.specs.declared.tree.Numeral.{Numeral}
use Rattle.ygg_syntax.specs.declared.tree.Stmt.{Stmt}
use Rattle.ygg_meaning_laws.specs.ygg_meaning.Environments.{Env}
use Rattle.ygg_meaning_laws.specs.Direct.{Direct, Reached, times, in_order}
use Rattle.ygg_eval.specs.ygg_eval_expr.Held.{env_of}
use Rattle.ygg_eval.specs.ygg_eval_expr.declared.held.Binding.{Binding}
use Rattle.ygg_eval.specs.Ready.{numbered}
use Rattle.ygg_eval.proofs.Running.{dropped_is}
use Rattle.ygg_eval_places.specs.Machines.{PlaceMeaning}
use Rattle.ygg_eval_places.specs.Walks.{Ended, stmt_part, parts_room, order_part, inside_part, turn_part, turns_part}

-- the item at a place, and those after it
rest_is : (xs : List Stmt) (i : ℕ) (x d : Stmt) → i < length xs → x ≡ get_or xs i d → drop i xs ≡ x ∷ drop (i + 1) xs
rest_is xs i x d l e = drop_more xs i d l ∙ ap (λ z. z ∷ drop (i + 1) xs) (sym e)

times_suc : (c r : ℕ) → suc c * r ≡ r + c * r
times_suc c r = omega arith

times_zero : (r : ℕ) → 0 * r ≡ 0
times_zero r = omega arith

place_goes : (at end room a b p : ℕ) → end ≡ at + room → at + a ≡ p → a ≡ room + b → end + b ≡ p
place_goes at end room a b p u v t = omega (arith, u, v, t)

place_ends : (at a p : ℕ) → at + a ≡ p → a ≡ 0 → at ≡ p
place_ends at a p u v = omega (arith, u, v)

-- where an end is put for the end of what a step left
from_end : {Z X : Type 0} (F : ℕ → Env → Z → X) (k k' : ℕ) (e e' : Env) (s s' : Z) → k ≡ k' → e ≡ e' → s ≡ s' → F k e s ≡ F k' e' s'
from_end F k k' e e' s s' p q r = ap (λ x. F x e s) p ∙ ap (λ x. F k' x s) q ∙ ap (λ x. F k' e' x) r

module _ {S : Type 0} (M : PlaceMeaning S) (file : File) where
  abbrev R : Stmt → Direct M.Is
  R = stmt_part M file

  -- so far some statements have come: the others make the rest
  pub record Order (all : List Stmt) (place : ℕ) (env0 : Env) (s0 : M.Is) (i at : ℕ) (env : Env) (s : M.Is) : Type 0 where
    pub places : at + parts_room M file (drop i all) ≡ place + parts_room M file all
    pub names : (in_order (map (stmt_part M file) (drop i all)) at env s).env ≡ (in_order (map (stmt_part M file) all) place env0 s0).env
    pub state : (in_order (map (stmt_part M file) (drop i all)) at env s).to ≡ (in_order (map (stmt_part M file) all) place env0 s0).to

  pub order_goes : (all : List Stmt) (place : ℕ) (env0 : Env) (s0 : M.Is) (i at end : ℕ) (env env' : Env) (s s' : M.Is) (t d : Stmt) → i < length all →
      t ≡ get_or all i d → Order all place env0 s0 i at env s → Ended (R t) at env s end env' s' → Order all place env0 s0 (i + 1) end env' s'
  order_goes all place env0 s0 i at end env env' s s' t d l e o h =
      let r = rest_is all i t d l e in
      let others = map R (drop (i + 1) all) in
      let z = (R t).run at env s in
      let count : parts_room M file (drop i all) ≡ (R t).room + parts_room M file (drop (i + 1) all) = ap (parts_room M file) r in
      record {
        places = let p = h.place in let q = o.places in omega (arith, p, q, count);
        names = from_end (λ i env s. (in_order others i env s).env) end (at + (R t).room) env' z.env s' z.to h.place h.names h.state
            ∙ sym (ap (λ ss. (in_order (map R ss) at env s).env) r) ∙ o.names;
        state = from_end (λ i env s. (in_order others i env s).to) end (at + (R t).room) env' z.env s' z.to h.place h.names h.state
            ∙ sym (ap (λ ss. (in_order (map R ss) at env s).to) r) ∙ o.state;
      }

  pub order_ends : (all : List Stmt) (place : ℕ) (env0 : Env) (s0 : M.Is) (i at : ℕ) (env : Env) (s : M.Is) → length all ≤ i →
      Order all place env0 s0 i at env s → Ended (order_part M file all) place env0 s0 at env s
  order_ends all place env0 s0 i at env s l o =
      let none = drop_all i all l in
      let count : parts_room M file (drop i all) ≡ 0 = ap (parts_room M file) none in
      record {
        place = let q = o.places in omega (arith, q, count);
        names = sym (ap (λ ss. (in_order (map R ss) at env s).env) none) ∙ o.names;
        state = sym (ap (λ ss. (in_order (map R ss) at env s).to) none) ∙ o.state;
      }

  -- a block inside another, whose own names are dropped
  pub block_ends : (b : Block) (ts : List Stmt) (before during after : List Binding) (k place end : ℕ) (s s' : M.Is) → ts ≡ b.statements →
      k ≡ length before → after ≡ take k during → Ended (order_part M file ts) place (env_of before) s end (env_of during) s' →
      Ended (inside_part M file b) place (env_of before) s end (env_of after) s'
  block_ends b ts before during after k place end s s' is counted dropped h =
      let e = subst (λ ts. Ended (order_part M file ts) place (env_of before) s end (env_of during) s') is h in
      record {
        place = e.place;
        names = sym (dropped_is before during after k counted dropped) ∙ ap (take (length (env_of before))) e.names;
        state = e.state;
      }

  module _ (x : Name) (w n : Numeral) (each : Block) where
    abbrev inner : Direct M.Is
    inner = inside_part M file each

    abbrev body : ℕ → ℕ → Env → M.Is → Reached M.Is
    body = turn_part M file x w each

    -- so far the block was run for some numbers: the others make the rest
    pub record Turns (place : ℕ) (env0 : Env) (s0 : M.Is) (i at : ℕ) (env : Env) (s : M.Is) : Type 0 where
      pub places : at + (n.value - i) * (inside_part M file each).room ≡ place + n.value * (inside_part M file each).room
      pub names : (times (n.value - i) i (inside_part M file each).room (turn_part M file x w each) at env s).env
          ≡ (times n.value 0 (inside_part M file each).room (turn_part M file x w each) place env0 s0).env
      pub state : (times (n.value - i) i (inside_part M file each).room (turn_part M file x w each) at env s).to
          ≡ (times n.value 0 (inside_part M file each).room (turn_part M file x w each) place env0 s0).to

    pub turns_begin : (place : ℕ) (env : Env) (s : M.Is) → Turns place env s 0 place env s
    turns_begin place env s =
        let all : n.value - 0 ≡ n.value = omega arith in
        record {
          places = ap (λ c. place + c * inner.room) all;
          names = ap (λ c. (times c 0 inner.room body place env s).env) all;
          state = ap (λ c. (times c 0 inner.room body place env s).to) all;
        }

    left_over : (i : ℕ) → i < n.value → n.value - i ≡ suc (n.value - (i + 1))
    left_over i h = omega arith

    pub turns_go : (place : ℕ) (env0 : Env) (s0 : M.Is) (i at end : ℕ) (before pushed during after : List Binding) (k : ℕ) (s s' : M.Is) → i < n.value →
        Turns place env0 s0 i at (env_of before) s → env_of pushed ≡ numbered x w i (env_of before) →
        Ended inner at (env_of pushed) s end (env_of during) s' → k ≡ length before → after ≡ take k during →
        Turns place env0 s0 (i + 1) end (env_of after) s'
    turns_go place env0 s0 i at end before pushed during after k s s' l o p h counted dropped =
        let c = n.value - (i + 1) in
        let left = left_over i l in
        let env = env_of before in
        let r = subst (λ es. Ended inner at es s end (env_of during) s') p h in
        let z = body i at env s in
        let names = sym (dropped_is before during after k counted dropped) ∙ ap (take (length env)) r.names in
        record {
          places = place_goes at end inner.room ((n.value - i) * inner.room) (c * inner.room) (place + n.value * inner.room) r.place o.places
              (ap (λ d. d * inner.room) left ∙ times_suc c inner.room);
          names = from_end (λ at env s. (times c (i + 1) inner.room body at env s).env) end (at + inner.room) (env_of after) z.env s' z.to r.place
              names r.state
              ∙ sym (ap (λ d. (times d i inner.room body at env s).env) left) ∙ o.names;
          state = from_end (λ at env s. (times c (i + 1) inner.room body at env s).to) end (at + inner.room) (env_of after) z.env s' z.to r.place names r.state
              ∙ sym (ap (λ d. (times d i inner.room body at env s).to) left) ∙ o.state;
        }

    pub turns_end : (place : ℕ) (env0 : Env) (s0 : M.Is) (i at : ℕ) (env : Env) (s : M.Is) → n.value ≤ i → Turns place env0 s0 i at env s →
        Ended (turns_part M file x w n each) place env0 s0 at env s
    turns_end place env0 s0 i at env s l o =
        let none : n.value - i ≡ 0 = omega arith in
        let count : (n.value - i) * inner.room ≡ 0 = ap (λ d. d * inner.room) none ∙ times_zero inner.room in
        record {
          place = place_ends at ((n.value - i) * inner.room) (place + n.value * inner.room) o.places count;
          names = sym (ap (λ d. (times d i inner.room body at env s).env) none) ∙ o.names;
          state = sym (ap (λ d. (times d i inner.room body at env s).to) none) ∙ o.state;
        }
