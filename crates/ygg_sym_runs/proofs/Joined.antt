-- Names of two lists that go together are merged one by one.
use Rattle.std.proofs.Common.{◌≡◌, ◌<◌, ◌≤◌, ℕ, zero, suc, List, [], ◌∷◌, length, get_or, refl, sym, ap, ◌∙◌, subst, arith}
use Rattle.std.proofs.lemmas.List.{length-map}
use Rattle.ygg_sym_runs.specs.ygg_rules.declared.rule.RuleKind.{RuleKind}
use Rattle.ygg_sym_runs.specs.ygg_bank.Makes.{Out}
use Rattle.ygg_sym_runs.specs.ygg_bank_proofs_Widths.{wider}
use Rattle.ygg_sym_runs.specs.ygg_bank.Nodes.{Extends}
use Rattle.ygg_sym_runs.specs.ygg_bank.declared.node.Id.{Id}
use Rattle.ygg_sym_runs.specs.ygg_bank.declared.node.Node.{Node}
use Rattle.ygg_sym_runs.specs.ygg_shape_cells_proofs_Keeps.{merged_keeps}
use Rattle.ygg_sym_runs.specs.ygg_shape_cells_proofs_Wider.{has_wider}
use Rattle.ygg_sym_runs.specs.ygg_shape_cells.Making.{merged}
use Rattle.ygg_sym_runs.specs.ygg_shape_cells.Terms.{AreAlike}
use Rattle.ygg_sym_runs.specs.ygg_shape_cells.declared.terms.SymValue.{SymValue}
use Rattle.ygg_sym_runs.specs.Names.{SymEnv}
use Rattle.ygg_sym_runs.specs.Exprs.{SymFunctions}
use Rattle.ygg_sym_runs.specs.Seen.{env_of}
use Rattle.ygg_sym_runs.specs.declared.held.SymBinding.{SymBinding}
use Rattle.ygg_sym_runs.specs.Lower.{SymMeaning, SingleFrom, CanMerge}
use Rattle.ygg_sym_runs.specs.Ready.{EnvAlike, joined_names}
use Rattle.ygg_sym_runs.specs.Runs.{SymMachine, SymState, state, merge_env, merge_state}
use Rattle.ygg_sym_runs.proofs.Singles.{single_stays}

pub alike_wider : (old new : List Node) (x y : SymValue) → Extends old new → AreAlike old x y → AreAlike new x y
alike_wider old new x y g a = record {
  shape = a.shape;
  limits = a.limits;
  one_has = has_wider old new a.shape x g a.one_has;
  two_has = has_wider old new a.shape y g a.two_has;
}

pub env_alike_wider : (old new : List Node) (xs ys : SymEnv) → Extends old new → EnvAlike old xs ys → EnvAlike new xs ys
env_alike_wider old new [] ys g a = tt
env_alike_wider old new (x ∷ xs) [] g a = tt
env_alike_wider old new (x ∷ xs) (y ∷ ys) g a = (alike_wider old new x.1 y.1 g a.0, env_alike_wider old new xs ys g a.1)

-- values at one place of lists of names that go together
pub alike_at : (old new : List Node) (xs ys : List SymBinding) (i : ℕ) (x dx y dy : SymBinding) → Extends old new → EnvAlike old (env_of xs) (env_of ys) →
    i < length xs → length (env_of xs) ≡ length (env_of ys) → x ≡ get_or xs i dx → y ≡ get_or ys i dy → AreAlike new x.value y.value
alike_at old new [] ys i x dx y dy g a l c e f = absurd (omega (arith, l))
alike_at old new (z ∷ xs) [] i x dx y dy g a l c e f = absurd (omega (arith, c))
alike_at old new (z ∷ xs) (w ∷ ys) zero x dx y dy g a l c e f =
    subst (λ k. AreAlike new k y.value) (sym (ap (λ (b : SymBinding). b.value) e))
    (subst (λ k. AreAlike new z.value k) (sym (ap (λ (b : SymBinding). b.value) f)) (alike_wider old new z.value w.value g a.0))
alike_at old new (z ∷ xs) (w ∷ ys) (suc i) x dx y dy g a l c e f =
    alike_at old new xs ys i x dx y dy g a.1 (omega (arith, l)) (omega (arith, c)) e f

-- at the end of a list, all of its names are seen
pub all_named : (names : List SymBinding) (i : ℕ) → length names ≤ i → length (env_of names) ≤ i
all_named names i l = let size : length (env_of names) ≡ length names = length-map names (λ b. (b.name.now, b.value)) in omega (arith, size, l)

-- both ways to say it
pub joined_same : {S : Type 0} (kinds : List RuleKind) (terms : SymFunctions) (M : SymMachine S) (t : Id) (xs ys : SymEnv) (nodes : List Node) →
    merge_env kinds terms M t xs ys nodes ≡ joined_names kinds t xs ys nodes
joined_same kinds terms M t [] ys nodes = refl
joined_same kinds terms M t (x ∷ xs) [] nodes = refl
joined_same kinds terms M t (x ∷ xs) (y ∷ ys) nodes =
    let o = merged kinds t x.1 y.1 nodes in
    ap (λ (r : Out SymEnv). record { value = (x.0, o.value) ∷ r.value; nodes = r.nodes }) (joined_same kinds terms M t xs ys o.nodes)

-- two states may be merged later
pub join_merges : {S : Type 0} (M : SymMeaning S) (old new : List Node) (t : Id) (a b : S) → CanMerge M old t a b → Extends old new → CanMerge M new t a b
join_merges M old new t a b c g = record {
  serves = c.serves;
  test = wider old new t 1 g c.test;
  first_has = M.low.wider old new a g c.first_has;
  second_has = M.low.wider old new b g c.second_has;
}

-- merging brings no input
pub joined_single : (kinds : List RuleKind) (t : Id) (xs ys : SymEnv) (nodes : List Node) (first : ℕ) → SingleFrom first nodes →
    SingleFrom first (joined_names kinds t xs ys nodes).nodes
joined_single kinds t [] ys nodes first h = h
joined_single kinds t (x ∷ xs) [] nodes first h = h
joined_single kinds t (x ∷ xs) (y ∷ ys) nodes first h =
    let o = merged kinds t x.1 y.1 nodes in
    joined_single kinds t xs ys o.nodes first (merged_keeps kinds (SingleFrom first) (single_stays kinds first) t x.1 y.1 nodes h)

-- what merging both names and states leaves
pub ends_same : {S : Type 0} (kinds : List RuleKind) (terms : SymFunctions) (M : SymMachine S) (t : Id) (xs ys : SymEnv) (a b : S) (nodes mid : List Node)
    (names : SymEnv) → mid ≡ (joined_names kinds t xs ys nodes).nodes → names ≡ (joined_names kinds t xs ys nodes).value →
    record { value = state names (M.merge t a b mid).value; nodes = (M.merge t a b mid).nodes } ≡ merge_state kinds terms M t (state xs a) (state ys b) nodes
ends_same {S} kinds terms M t xs ys a b nodes mid names e f =
    let F : SymEnv → List Node → Out (SymState S) = λ ns k. record { value = state ns (M.merge t a b k).value; nodes = (M.merge t a b k).nodes } in
    let j = joined_names kinds t xs ys nodes in
    ap (λ (ns : SymEnv). F ns mid) f ∙ ap (λ (k : List Node). F j.value k) e
    ∙ ap (λ (o : Out SymEnv). F o.value o.nodes) (sym (joined_same kinds terms M t xs ys nodes))
