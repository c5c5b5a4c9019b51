-- Values of terms that stand for declared names.
use Rattle.std.proofs.Common.{◌≡◌, true, ◌&&◌, List, [], ◌∷◌, refl, sym, ap, ◌∙◌}
use Rattle.std.specs.Str.{bytes_eq}
use Rattle.ygg_syntax.specs.declared.tree.Declared.{Declared}
use Rattle.ygg_sym_runs.specs.ygg_meaning.Environments.{Name}
use Rattle.ygg_sym_runs.specs.ygg_meaning.Shapes.{shape_in, fits, env_fits}
use Rattle.ygg_sym_runs.specs.ygg_meaning_laws_proofs_Tests.{left as first_of, right as second_of, bytes_same}
use Rattle.ygg_sym_runs.specs.ygg_bank.Values.{Inputs, Values, Fits}
use Rattle.ygg_sym_runs.specs.ygg_bank.declared.node.Node.{Node}
use Rattle.ygg_sym_runs.specs.ygg_rules.declared.rule.RuleKind.{RuleKind}
use Rattle.ygg_sym_runs.specs.ygg_shape_cells.Terms.{worth}
use Rattle.ygg_sym_runs.specs.Names.{SymEnv, sym_bind}
use Rattle.ygg_sym_runs.specs.ExpressionMeaning.{EnvShaped, worths}
use Rattle.ygg_sym_runs.specs.Lows.{LowShaped, low_worth}
use Rattle.ygg_sym_runs.proofs.Specs.{lows_back}
use Rattle.ygg_sym_laws.specs.Means.{values_in}

module _ (inputs : Inputs) (v : Values) where
  named_so : (ds : List Declared) (env : SymEnv) → env_fits ds (worths v env) ≡ true → env ≡ sym_bind ds (values_in env)
  named_so [] [] e = refl
  named_so [] (b ∷ env) e = absurd (cc)
  named_so (d ∷ ds) [] e = absurd (cc)
  named_so (d ∷ ds) (b ∷ env) e =
      let name = bytes_eq d.name.text b.0 in
      let fit = fits (shape_in d.shape) (worth v b.1) in
      let rest = env_fits ds (worths v env) in
      let same : d.name.text ≡ b.0 = bytes_same d.name.text b.0 (first_of name fit (first_of (name && fit) rest e)) in
      ap (λ more. b ∷ more) (named_so ds env (second_of (name && fit) rest e))
      ∙ ap (λ (n : Name). (n, b.1) ∷ sym_bind ds (values_in env)) (sym same)

  -- names with values of the declared shapes are the declared ones, and their values stand for these again
  pub record NamedAgain (ds : List Declared) (env : SymEnv) (nodes : List Node) : Type 0 where
    pub named : env ≡ sym_bind ds (values_in env)
    pub has : LowShaped nodes ds (values_in env)
    pub is : low_worth v ds (values_in env) ≡ worths v env

  pub named_again : (kinds : List RuleKind) (ds : List Declared) (env : SymEnv) (nodes : List Node) → Fits inputs v nodes → EnvShaped nodes env →
      env_fits ds (worths v env) ≡ true → NamedAgain ds env nodes
  named_again kinds ds env nodes h s e =
      let b = lows_back inputs v kinds ds env nodes h s e in record { named = named_so ds env e; has = b.has; is = b.is }
