-- What parts of a run leave: one of two ends, and names that go on.
use Rattle.std.proofs.Common.{◌≡◌, ℕ, zero, suc, ◌≤◌, Bool, true, false, if◌then◌else◌, List, [], ◌∷◌, ◌++◌, take, length, refl, ap, ◌∙◌, arith}
use Rattle.std.proofs.lemmas.List.{map-append}
use Rattle.std.proofs.lemmas.List.Elements.{All-head, All-tail, All-cons, All-nil, All-append}
use Rattle.ygg_value.specs.declared.row.Value.{Value}
use Rattle.ygg_meaning_laws.specs.ygg_meaning.Environments.{Name, Env}
use Rattle.ygg_meaning_laws.specs.Questions.{Follows}
use Rattle.ygg_sym_runs.specs.ygg_bank.Values.{Inputs, Values}
use Rattle.ygg_sym_runs.specs.ygg_bank.declared.node.Node.{Node}
use Rattle.ygg_sym_runs.specs.ygg_shape_cells.Terms.{worth}
use Rattle.ygg_sym_runs.specs.ygg_shape_cells.declared.terms.SymValue.{SymValue}
use Rattle.ygg_meaning_laws.specs.Direct.{Reached}
use Rattle.ygg_sym_runs.specs.Names.{SymEnv}
use Rattle.ygg_sym_runs.specs.ExpressionMeaning.{SomeShape, EnvShaped, worths}
use Rattle.ygg_sym_runs.proofs.Worths.{NameShaped}

pub if_env : {L : Type 0} (c : Bool) (p q : Reached L) → (if c then p.env else q.env) ≡ (if c then p else q).env
if_env true p q = refl
if_env false p q = refl

pub if_to : {L : Type 0} (c : Bool) (p q : Reached L) → (if c then p.to else q.to) ≡ (if c then p else q).to
if_to true p q = refl
if_to false p q = refl

pub if_both : {X : Type 0} (P : X → Type 0) (c : Bool) (a b : X) → P a → P b → P (if c then a else b)
if_both P true a b p q = p
if_both P false a b p q = q

pub follows_length : (a b : Env) → Follows a b → length a ≤ length b
follows_length [] b f = omega arith
follows_length (x ∷ a) [] f = elim f [ ]
follows_length (x ∷ a) (y ∷ b) (n, k, f) = let r = follows_length a b f in omega (arith, r)

pub take_length : {X : Type 0} (n : ℕ) (xs : List X) → n ≤ length xs → length (take n xs) ≡ n
take_length zero xs l = refl
take_length (suc n) [] l = absurd (omega (arith, l))
take_length (suc n) (x ∷ xs) l = ap suc (take_length n xs (omega (arith, l)))

module _ (inputs : Inputs) (v : Values) where
  pub env_take : (nodes : List Node) (n : ℕ) (env : SymEnv) → EnvShaped nodes env → EnvShaped nodes (take n env)
  env_take nodes zero env s = All-nil (NameShaped nodes)
  env_take nodes (suc n) [] s = All-nil (NameShaped nodes)
  env_take nodes (suc n) (b ∷ env) s =
      All-cons (NameShaped nodes) b (take n env) (All-head (NameShaped nodes) b env s) (env_take nodes n env (All-tail (NameShaped nodes) b env s))

  pub one_more : (nodes : List Node) (env : SymEnv) (x : Name) (y : SymValue) → EnvShaped nodes env → SomeShape nodes y → EnvShaped nodes (env ++ (x, y) ∷ [])
  one_more nodes env x y s i = All-append (NameShaped nodes) env ((x, y) ∷ []) s (All-cons (NameShaped nodes) (x, y) [] i (All-nil (NameShaped nodes)))

  pub one_worth : (x : Name) (env : SymEnv) (y : SymValue) (w : Value) → worth v y ≡ w → worths v (env ++ (x, y) ∷ []) ≡ worths v env ++ (x, w) ∷ []
  one_worth x env y w e = map-append (λ (b : Name × SymValue). (b.0, worth v b.1)) env ((x, y) ∷ []) ∙ ap (λ z. worths v env ++ (x, z) ∷ []) e
