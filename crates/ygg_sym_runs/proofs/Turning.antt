-- What lets the block of a loop be run over terms, for one number after another.
use Rattle.std.proofs.Common.{◌≡◌, ℕ, ◌<◌, ◌^◌, false, List, [], ◌∷◌, ◌++◌, take, length, None, refl, sym, ap, ◌∙◌, subst, arith}
use Rattle.std.proofs.lemmas.List.{length-map, take-map}
use Rattle.ygg_value.specs.Number.{IsWord}
use Rattle.ygg_value.specs.Words.{word}
use Rattle.ygg_value.specs.declared.row.Value.{Value}
use Rattle.ygg_value.specs.declared.row.Value.TheVariants as value
use Rattle.ygg_syntax.specs.declared.tree.Block.{Block}
use Rattle.ygg_syntax.specs.declared.tree.Def.{Def}
use Rattle.ygg_syntax.specs.declared.tree.Name as tree_name
use Rattle.ygg_syntax.specs.declared.tree.Numeral.{Numeral}
use Rattle.ygg_meaning_laws.specs.ygg_type_rules.Shapes.{word_shape}
use Rattle.ygg_meaning_laws.specs.ygg_type_rules.TypeErrors.{none}
use Rattle.ygg_meaning_laws.specs.ygg_type_rules.Scopes.{is_taken}
use Rattle.ygg_meaning_laws.specs.ygg_type_rules.Expressions.{with_number, number_errors}
use Rattle.ygg_meaning_laws.specs.ygg_type_rules.Statements.{block_errors}
use Rattle.ygg_meaning_laws.specs.Agrees.{Agrees}
use Rattle.ygg_meaning_laws.proofs.Tests.{left as first_of, right as second_of}
use Rattle.ygg_meaning_laws.proofs.Rules.{NumberParts, number_parts}
use Rattle.ygg_meaning_laws.proofs.Steps.{agrees_with_number}
use Rattle.ygg_meaning_laws.specs.Questions.{plain, Follows}
use Rattle.ygg_meaning_laws.proofs.Asking.{local_lower}
use Rattle.ygg_meaning_laws.proofs.Following.{follows_front, agrees_after}
use Rattle.ygg_meaning_laws.specs.ygg_meaning.Environments.{Name, Env}
use Rattle.ygg_meaning_laws.specs.ygg_meaning.Meaning.{functions_of}
use Rattle.ygg_sym_runs.specs.ygg_rules.declared.rule.RuleKind.{RuleKind}
use Rattle.ygg_sym_runs.specs.ygg_bank_proofs_Meaning.{fits_fewer}
use Rattle.ygg_sym_runs.specs.ygg_bank.Nodes.{IsBank, Extends}
use Rattle.ygg_sym_runs.specs.ygg_bank.declared.node.Node.{Node}
use Rattle.ygg_sym_runs.specs.ygg_bank.declared.node.Node.TheVariants as node
use Rattle.ygg_sym_runs.specs.ygg_shape_cells.Terms.{worth}
use Rattle.ygg_sym_runs.specs.ygg_shape_cells.declared.terms.SymValue.{SymValue}
use Rattle.ygg_sym_runs.specs.Names.{SymEnv}
use Rattle.ygg_sym_runs.specs.Exprs.{number_made}
use Rattle.ygg_sym_runs.specs.ExpressionMeaning.{EnvShaped, worths}
use Rattle.ygg_sym_runs.proofs.Grows.{word_grows}
use Rattle.ygg_sym_runs.proofs.ExpressionParts.{number_gives}
use Rattle.ygg_sym_runs.proofs.Shaped.{env_wider}
use Rattle.ygg_sym_runs.proofs.Values.{same_defs}
use Rattle.ygg_sym_runs.specs.Lower.{SymMeaning, IsLower, KeepsSingle}
use Rattle.ygg_sym_runs.specs.Ready.{CanEnter, CanRepeat, inside_run}
use Rattle.ygg_sym_runs.proofs.Ends.{env_take, one_more, one_worth}
use Rattle.ygg_sym_runs.proofs.Walking.{block_left, stands_later}
use Rattle.ygg_sym_runs.proofs.Zeros.{zeros, zero_values, zeros_fit}

module _ {S : Type 0} (M : SymMeaning S) (law : IsLower M) (kinds : List RuleKind) (defs : List Def) (x : tree_name.Name) (w n : Numeral) (b : Block) where
  -- what the number of a loop keeps to
  pub repeat_parts : (nodes : List Node) (env : SymEnv) (s : S) (can : CanRepeat M defs x w n b nodes env s) → NumberParts (is_taken x.text can.scope) w n
  repeat_parts nodes env s can =
      number_parts x (is_taken x.text can.scope) w n (first_of (none (number_errors x (is_taken x.text can.scope) w n))
      (none (block_errors b None (with_number x w can.scope))) can.without_errors)

  enter_made : (nodes : List Node) (env : SymEnv) (s : S) (i : ℕ) → i < n.value → CanRepeat M defs x w n b nodes env s →
      let y = number_made kinds w.value i nodes in
      IsBank y.nodes → KeepsSingle nodes y.nodes → CanEnter M defs b y.nodes (env ++ (x.text, y.value) ∷ []) s
  enter_made nodes env s i less can bank keep =
      let m = can.names in
      let parts = repeat_parts nodes env s can in
      let y = number_made kinds w.value i nodes in
      let grown = env ++ (x.text, y.value) ∷ [] in
      let g = word_grows kinds (node.Const (word w.value i)) nodes in
      let wd = parts.width in
      let bound = parts.bound in
      let below : i < 2 ^ w.value = omega (arith, less, bound) in
      let fits : IsWord (word w.value i) = record { least = wd.0; most = wd.1; fits = below } in
      let v0 = zero_values y.nodes in
      let m0 = number_gives zeros v0 kinds w.value i nodes fits (zeros_fit y.nodes bank) in
      record {
        scope = with_number x w can.scope;
        names = record {
          sound = m.sound;
          defs_is = same_defs x.text (word_shape w.value) false can.scope ∙ m.defs_is;
          lower_is = local_lower x.text (word_shape w.value) false can.scope ∙ m.lower_is;
          shaped = one_more zeros v0 y.nodes env x.text y.value (env_wider nodes y.nodes env g m.shaped) m0.shaped;
          agrees = λ inputs v h.
              let hn = fits_fewer inputs v nodes y.nodes g h in
              let z = number_gives inputs v kinds w.value i nodes fits h in
              let worth_is = one_worth inputs v x.text env y.value (value.Word (word w.value i)) z.is in
              subst (λ (e : Env). Agrees (functions_of defs) (with_number x w can.scope) (plain e)) (sym worth_is)
              (agrees_with_number (functions_of defs) can.scope (plain (worths v env)) x w i (m.agrees inputs v hn) parts.free parts.fits below);
        };
        stands = stands_later M law kinds defs nodes y.nodes s g keep can.stands;
        without_errors = second_of (none (number_errors x (is_taken x.text can.scope) w n))
            (none (block_errors b None (with_number x w can.scope))) can.without_errors;
        keeps = can.keeps;
      }

  -- the block may be entered with a number
  pub repeat_enters : (nodes mid : List Node) (env pushed : SymEnv) (s : S) (i : ℕ) (y : SymValue) → i < n.value → CanRepeat M defs x w n b nodes env s →
      mid ≡ (number_made kinds w.value i nodes).nodes → y ≡ (number_made kinds w.value i nodes).value → pushed ≡ env ++ (x.text, y) ∷ [] → IsBank mid →
      KeepsSingle nodes mid → CanEnter M defs b mid pushed s
  repeat_enters nodes mid env pushed s i y less can e f p bank keep =
      let o = number_made kinds w.value i nodes in
      subst (λ z. CanEnter M defs b mid z s) (sym (p ∙ ap (λ (k : SymValue). env ++ (x.text, k) ∷ []) f))
      (subst (λ ns. CanEnter M defs b ns (env ++ (x.text, o.value) ∷ []) s) (sym e)
      (enter_made nodes env s i less can (subst IsBank e bank) (subst (KeepsSingle nodes) e keep)))

  -- and again after it
  pub repeat_again : (nodes mid new : List Node) (env pushed inner after : SymEnv) (s s' : S) (i at : ℕ) (y : SymValue) → CanRepeat M defs x w n b nodes env s →
      pushed ≡ env ++ (x.text, y) ∷ [] → CanEnter M defs b mid pushed s → Extends nodes new →
      new ≡ ((inside_run M defs kinds b).run at pushed s mid).nodes → inner ≡ ((inside_run M defs kinds b).run at pushed s mid).value.env →
      s' ≡ ((inside_run M defs kinds b).run at pushed s mid).value.to → IsBank new → KeepsSingle mid new → after ≡ take (length env) inner →
      CanRepeat M defs x w n b new after s'
  repeat_again nodes mid new env pushed inner after s s' i at y can p enter grown e f g bank keep cut =
      let m = can.names in
      let l = block_left M law kinds defs b at mid new pushed inner s s' enter e f g bank keep in
      let ln = l.names in
      record {
        scope = can.scope;
        names = record {
          sound = m.sound;
          defs_is = m.defs_is;
          lower_is = m.lower_is;
          shaped = subst (λ z. EnvShaped new z) (sym cut)
              (env_take zeros (zero_values new) new (length env) inner ln.shaped);
          agrees = λ inputs v h.
              let hn = fits_fewer inputs v nodes new grown h in
              let entry : Name × SymValue → Name × Value = λ c. (c.0, worth v c.1) in
              let joined : worths v pushed ≡ worths v env ++ (x.text, worth v y) ∷ [] =
              ap (worths v) p ∙ one_worth inputs v x.text env y (worth v y) refl in
              let follows = follows_front (worths v env) ((x.text, worth v y) ∷ []) (worths v inner)
              (subst (λ (z : Env). Follows z (worths v inner)) joined (l.follows inputs v h)) in
              let agreed = agrees_after (functions_of defs) can.scope (worths v env) (worths v inner) follows (m.agrees inputs v hn) in
              let same : take (length (worths v env)) (worths v inner) ≡ worths v after =
              ap (λ (k : ℕ). take k (worths v inner)) (length-map env entry) ∙ take-map entry (length env) inner ∙ ap (worths v) (sym cut) in
              subst (λ (z : Env). Agrees (functions_of defs) can.scope (plain z)) same agreed;
        };
        stands = l.stands;
        without_errors = can.without_errors;
        keeps = can.keeps;
      }
