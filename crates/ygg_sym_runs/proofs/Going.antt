-- Parts of a run one after another: what is left to be run, and the places that it has.
use Rattle.std.proofs.Common.{◌≡◌, ◌<◌, ◌≤◌, ℕ, suc, ◌+◌, ◌-◌, ◌*◌, List, [], ◌∷◌, ◌++◌, map, length, take, drop, get_or, sym, ap, ◌∙◌, subst, arith}
use Rattle.std.proofs.lemmas.List.{drop_more, drop_all, length-map, take-map}
use Rattle.ygg_syntax.specs.declared.tree.Block.{Block}
use Rattle.ygg_syntax.specs.declared.tree.Def.{Def}
use Rattle.ygg_syntax.specs.declared.tree.Name as tree
use Rattle.ygg_syntax.specs.declared.tree.Numeral.{Numeral}
use Rattle.ygg_syntax.specs.declared.tree.Stmt.{Stmt}
use Rattle.ygg_meaning_laws.specs.ygg_meaning.Environments.{Name}
use Rattle.ygg_sym_runs.specs.ygg_rules.declared.rule.RuleKind.{RuleKind}
use Rattle.ygg_sym_runs.specs.ygg_bank.Makes.{Out}
use Rattle.ygg_sym_runs.specs.ygg_bank.declared.node.Node.{Node}
use Rattle.ygg_sym_runs.specs.ygg_shape_cells.declared.terms.SymValue.{SymValue}
use Rattle.ygg_meaning_laws.specs.Direct.{total}
use Rattle.ygg_sym_runs.specs.Names.{SymEnv}
use Rattle.ygg_sym_runs.specs.Exprs.{number_made}
use Rattle.ygg_sym_runs.specs.Seen.{env_of}
use Rattle.ygg_sym_runs.specs.declared.held.SymBinding.{SymBinding}
use Rattle.ygg_sym_runs.specs.Lower.{SymMeaning, KeepsSingle}
use Rattle.ygg_sym_runs.specs.Ready.{Ended, terms_of, stmt_run, order_run, inside_run, turns_run}
use Rattle.ygg_sym_runs.specs.Runs.{SymRun, SymState, state, sym_in_order, sym_times, sym_each}

-- the item at a place, and those after it
pub rest_is : {X : Type 0} (xs : List X) (i : ℕ) (x d : X) → i < length xs → x ≡ get_or xs i d → drop i xs ≡ x ∷ drop (i + 1) xs
rest_is xs i x d l e = drop_more xs i d l ∙ ap (λ z. z ∷ drop (i + 1) xs) (sym e)

-- the names of a block are dropped
pub dropped_is : (before during after : List SymBinding) (k : ℕ) → k ≡ length before → after ≡ take k during →
    env_of after ≡ take (length (env_of before)) (env_of during)
dropped_is before during after k counted dropped =
    let entry : SymBinding → Name × SymValue = λ (x : SymBinding). (x.name.now, x.value) in
    ap env_of dropped ∙ sym (take-map entry k during) ∙ ap (λ (m : ℕ). take m (env_of during)) (counted ∙ sym (length-map before entry))

times_suc : (c r : ℕ) → suc c * r ≡ r + c * r
times_suc c r = omega arith

times_zero : (r : ℕ) → 0 * r ≡ 0
times_zero r = omega arith

place_goes : (at end room a b p : ℕ) → end ≡ at + room → at + a ≡ p → a ≡ room + b → end + b ≡ p
place_goes at end room a b p u v t = omega (arith, u, v, t)

place_ends : (at a p : ℕ) → at + a ≡ p → a ≡ 0 → at ≡ p
place_ends at a p u v = omega (arith, u, v)

-- where an end is put for the end of what a step left
from_end : {S X : Type 0} (F : ℕ → SymEnv → S → List Node → X) (k k' : ℕ) (e e' : SymEnv) (s s' : S) (ns ns' : List Node) → k ≡ k' → e ≡ e' → s ≡ s' →
    ns ≡ ns' → F k e s ns ≡ F k' e' s' ns'
from_end F k k' e e' s s' ns ns' p q r t =
    ap (λ x. F x e s ns) p ∙ ap (λ x. F k' x s ns) q ∙ ap (λ x. F k' e' x ns) r ∙ ap (λ x. F k' e' s' x) t

module _ {S : Type 0} (M : SymMeaning S) (defs : List Def) (kinds : List RuleKind) where
  abbrev R : Stmt → SymRun S
  R = stmt_run M defs kinds

  abbrev rooms : List Stmt → ℕ
  rooms ss = total (map (λ r. r.room) (map R ss))

  -- so far some statements have come: the others make the rest
  pub record Order (all : List Stmt) (place : ℕ) (env0 : SymEnv) (s0 : S) (old : List Node) (i at : ℕ) (env : SymEnv) (s : S) (now : List Node) : Type 0 where
    pub places : at + total (map (λ r. r.room) (map (stmt_run M defs kinds) (drop i all)))
        ≡ place + total (map (λ r. r.room) (map (stmt_run M defs kinds) all))
    pub rest : sym_in_order (map (stmt_run M defs kinds) (drop i all)) at env s now ≡ sym_in_order (map (stmt_run M defs kinds) all) place env0 s0 old

  pub order_goes : (all : List Stmt) (place : ℕ) (env0 : SymEnv) (s0 : S) (old : List Node) (i at end : ℕ) (env env' : SymEnv) (s s' : S) (now new : List Node)
      (t d : Stmt) → i < length all → t ≡ get_or all i d → Order all place env0 s0 old i at env s now → Ended (R t) at env s now end env' s' new →
      Order all place env0 s0 old (i + 1) end env' s' new
  order_goes all place env0 s0 old i at end env env' s s' now new t d l e o h =
      let r = rest_is all i t d l e in
      let others = map R (drop (i + 1) all) in
      let z = (R t).run at env s now in
      let count : rooms (drop i all) ≡ (R t).room + rooms (drop (i + 1) all) = ap rooms r in
      record {
        places = let p = h.place in let q = o.places in omega (arith, p, q, count);
        rest = from_end (sym_in_order others) end (at + (R t).room) env' z.value.env s' z.value.to new z.nodes h.place h.names h.state h.nodes
            ∙ sym (ap (λ ss. sym_in_order (map R ss) at env s now) r) ∙ o.rest;
      }

  pub order_ends : (all : List Stmt) (place : ℕ) (env0 : SymEnv) (s0 : S) (old : List Node) (i at : ℕ) (env : SymEnv) (s : S) (now : List Node) →
      length all ≤ i → KeepsSingle old now → Order all place env0 s0 old i at env s now → Ended (order_run M defs kinds all) place env0 s0 old at env s now
  order_ends all place env0 s0 old i at env s now l k o =
      let none = drop_all i all l in
      let count : rooms (drop i all) ≡ 0 = ap rooms none in
      let rest : record { value = state env s; nodes = now } ≡ sym_in_order (map R all) place env0 s0 old =
      sym (ap (λ ss. sym_in_order (map R ss) at env s now) none) ∙ o.rest in
      record {
        place = let q = o.places in omega (arith, q, count);
        nodes = ap (λ (x : Out (SymState S)). x.nodes) rest;
        names = ap (λ (x : Out (SymState S)). x.value.env) rest;
        state = ap (λ (x : Out (SymState S)). x.value.to) rest;
        single = k;
      }

  -- a block inside another, whose own names are dropped
  pub block_ends : (b : Block) (ss : List Stmt) (before during after : List SymBinding) (k place end : ℕ) (s s' : S) (old new : List Node) →
      ss ≡ b.statements → k ≡ length before → after ≡ take k during →
      Ended (order_run M defs kinds ss) place (env_of before) s old end (env_of during) s' new →
      Ended (inside_run M defs kinds b) place (env_of before) s old end (env_of after) s' new
  block_ends b ss before during after k place end s s' old new is counted dropped h =
      let e = subst (λ ss. Ended (order_run M defs kinds ss) place (env_of before) s old end (env_of during) s' new) is h in
      record {
        place = e.place;
        nodes = e.nodes;
        names = dropped_is before during after k counted dropped ∙ ap (take (length (env_of before))) e.names;
        state = e.state;
        single = e.single;
      }

  module _ (x : tree.Name) (w n : Numeral) (each : Block) where
    abbrev inner : SymRun S
    inner = inside_run M defs kinds each

    abbrev body : ℕ → ℕ → SymEnv → S → List Node → Out (SymState S)
    body = sym_each kinds (terms_of kinds defs) (M.machine kinds) x.text w.value inner

    -- so far the block was run for some numbers: the others make the rest
    pub record Turns (place : ℕ) (env0 : SymEnv) (s0 : S) (old : List Node) (i at : ℕ) (env : SymEnv) (s : S) (now : List Node) : Type 0 where
      pub places : at + (n.value - i) * (inside_run M defs kinds each).room ≡ place + n.value * (inside_run M defs kinds each).room
      pub rest : sym_times (n.value - i) i (inside_run M defs kinds each).room
          (sym_each kinds (terms_of kinds defs) (M.machine kinds) x.text w.value (inside_run M defs kinds each)) at env s now
          ≡ sym_times n.value 0 (inside_run M defs kinds each).room
          (sym_each kinds (terms_of kinds defs) (M.machine kinds) x.text w.value (inside_run M defs kinds each)) place env0 s0 old

    pub turns_begin : (place : ℕ) (env : SymEnv) (s : S) (old : List Node) → Turns place env s old 0 place env s old
    turns_begin place env s old =
        let all : n.value - 0 ≡ n.value = omega arith in
        record {
          places = ap (λ c. place + c * inner.room) all;
          rest = ap (λ c. sym_times c 0 inner.room body place env s old) all;
        }

    left_over : (i : ℕ) → i < n.value → n.value - i ≡ suc (n.value - (i + 1))
    left_over i h = omega arith

    pub turns_go : (place : ℕ) (env0 : SymEnv) (s0 : S) (old : List Node) (i at end : ℕ) (before pushed during after : List SymBinding) (k : ℕ) (s s' : S)
        (now mid new : List Node) (y : SymValue) → i < n.value → Turns place env0 s0 old i at (env_of before) s now →
        mid ≡ (number_made kinds w.value i now).nodes → y ≡ (number_made kinds w.value i now).value → env_of pushed ≡ env_of before ++ (x.text, y) ∷ [] →
        Ended inner at (env_of pushed) s mid end (env_of during) s' new → k ≡ length before → after ≡ take k during →
        Turns place env0 s0 old (i + 1) end (env_of after) s' new
    turns_go place env0 s0 old i at end before pushed during after k s s' now mid new y l o e f p h counted dropped =
        let c = n.value - (i + 1) in
        let left = left_over i l in
        let m = number_made kinds w.value i now in
        let env = env_of before in
        let q = subst (λ ns. Ended inner at (env_of pushed) s ns end (env_of during) s' new) e h in
        let grown = p ∙ ap (λ v. env ++ (x.text, v) ∷ []) f in
        let r = subst (λ es. Ended inner at es s m.nodes end (env_of during) s' new) grown q in
        let z = body i at env s now in
        let names = dropped_is before during after k counted dropped ∙ ap (take (length env)) r.names in
        record {
          places = place_goes at end inner.room ((n.value - i) * inner.room) (c * inner.room) (place + n.value * inner.room) r.place o.places
              (ap (λ d. d * inner.room) left ∙ times_suc c inner.room);
          rest = from_end (sym_times c (i + 1) inner.room body) end (at + inner.room) (env_of after) z.value.env s' z.value.to new z.nodes r.place names r.state
              r.nodes ∙ sym (ap (λ d. sym_times d i inner.room body at env s now) left) ∙ o.rest;
        }

    pub turns_end : (place : ℕ) (env0 : SymEnv) (s0 : S) (old : List Node) (i at : ℕ) (env : SymEnv) (s : S) (now : List Node) → n.value ≤ i →
        KeepsSingle old now → Turns place env0 s0 old i at env s now → Ended (turns_run M defs kinds x w n each) place env0 s0 old at env s now
    turns_end place env0 s0 old i at env s now l k o =
        let none : n.value - i ≡ 0 = omega arith in
        let count : (n.value - i) * inner.room ≡ 0 = ap (λ d. d * inner.room) none ∙ times_zero inner.room in
        let rest : record { value = state env s; nodes = now } ≡ sym_times n.value 0 inner.room body place env0 s0 old =
        sym (ap (λ d. sym_times d i inner.room body at env s now) none) ∙ o.rest in
        record {
          place = place_ends at ((n.value - i) * inner.room) (place + n.value * inner.room) o.places count;
          nodes = ap (λ (x : Out (SymState S)). x.nodes) rest;
          names = ap (λ (x : Out (SymState S)). x.value.env) rest;
          state = ap (λ (x : Out (SymState S)). x.value.to) rest;
          single = k;
        }
