-- Whole runs over terms end as they are defined to.
use Rattle.std.proofs.Common.{◌≡◌, ℕ, List, ◌++◌, map, take, length, Option, Some, None, true, sym, ap, ◌∙◌, subst}
use Rattle.std.specs.Option.{ForSome}
use Rattle.std.proofs.lemmas.List.{take-map}
use Rattle.ygg_syntax.specs.declared.tree.Block.{Block}
use Rattle.ygg_syntax.specs.declared.tree.Def.{Def}
use Rattle.ygg_syntax.specs.declared.tree.Expr.{Expr}
use Rattle.ygg_syntax.specs.declared.tree.Stmt.{Stmt}
use Rattle.ygg_sym_runs.specs.ygg_type_rules.TypeErrors.{none}
use Rattle.ygg_sym_runs.specs.ygg_type_rules.Scopes.{Scope}
use Rattle.ygg_sym_runs.specs.ygg_type_rules.Expressions.{typing, wanted}
use Rattle.ygg_sym_runs.specs.ygg_type_rules.Statements.{walked, return_errors}
use Rattle.ygg_sym_runs.specs.ygg_type_rules.Statements as rules
use Rattle.ygg_sym_runs.specs.ygg_meaning_laws_proofs_Tests.{left as first_of, right as second_of}
use Rattle.ygg_sym_runs.specs.ygg_rules.declared.rule.RuleKind.{RuleKind}
use Rattle.ygg_sym_runs.specs.ygg_bank.Makes.{Out}
use Rattle.ygg_sym_runs.specs.ygg_bank.Nodes.{IsBank}
use Rattle.ygg_sym_runs.specs.ygg_bank.declared.node.Node.{Node}
use Rattle.ygg_sym_runs.specs.ygg_meaning.Environments.{Name}
use Rattle.ygg_sym_runs.specs.ygg_shape_cells.declared.terms.SymValue.{SymValue}
use Rattle.ygg_sym_runs.specs.Names.{SymEnv}
use Rattle.ygg_sym_runs.specs.Seen.{CanTerm, env_of}
use Rattle.ygg_sym_runs.specs.declared.held.SymBinding.{SymBinding}
use Rattle.ygg_sym_runs.specs.Lower.{SymMeaning, IsLower, KeepsSingle}
use Rattle.ygg_sym_runs.specs.Ready.{InNames, CanRun, Ended, order_run, known_with, terms_of}
use Rattle.ygg_sym_runs.proofs.Walking.{can_term, run_left}
use Rattle.ygg_sym_runs.specs.Wholes.{sym_returned}
use Rattle.ygg_sym_runs.specs.WholeReady.{CanWhole, IsWhole}

-- the names that come first
pub first_names : (during after : List SymBinding) (k : ℕ) → after ≡ take k during → env_of after ≡ take k (env_of during)
first_names during after k cut =
    let entry : SymBinding → Name × SymValue = λ (x : SymBinding). (x.name.now, x.value) in
    ap env_of cut ∙ sym (take-map entry k during)

module _ {S : Type 0} (M : SymMeaning S) (defs : List Def) where
  -- the statements may be run
  abbrev pub whole_runs : (b : Block) (nodes : List Node) (env : SymEnv) (s : S) → CanWhole M defs b nodes env s → CanRun M defs b.statements nodes env s
  whole_runs b nodes env s can = record {
    scope = can.scope;
    names = can.names;
    stands = can.stands;
    without_errors = first_of (none (rules.in_order (map walked b.statements) can.scope).type_errors)
        (none (return_errors b.answer can.shape (rules.in_order (map walked b.statements) can.scope).scope)) can.without_errors;
    keeps = can.keeps;
  }

  module _ (law : IsLower M) (kinds : List RuleKind) where
    -- what is returned has terms
    pub whole_returns : (b : Block) (ss : List Stmt) (nodes new : List Node) (env env' : SymEnv) (s s' : S) (end : ℕ) (can : CanWhole M defs b nodes env s) →
        ss ≡ b.statements → Ended (order_run M defs kinds ss) 0 env s nodes end env' s' new → IsBank new →
        ForSome b.answer (CanTerm (known_with defs env') new)
    whole_returns b ss nodes new env env' s s' end can same h bank =
        let e = subst (λ z. Ended (order_run M defs kinds z) 0 env s nodes end env' s' new) same h in
        let w = rules.in_order (map walked b.statements) can.scope in
        let a = run_left M law kinds defs b.statements 0 nodes new env env' s s' (whole_runs b nodes env s can) e.nodes e.names e.state bank e.single in
        go b.answer w.scope a.names (second_of (none w.type_errors) (none (return_errors b.answer can.shape w.scope)) can.without_errors)
      where
        go : (answer : Option Expr) (scope : Scope) → InNames M defs scope new env' → none (return_errors answer can.shape scope) ≡ true →
            (x : Expr) → answer ≡ Some x → CanTerm (known_with defs env') new x
        go None scope n f x e = absurd (cc)
        go (Some y) scope n f x e =
            let t = typing y scope in
            let same : y ≡ x = cc in
            subst (CanTerm (known_with defs env') new) same
            (can_term M law kinds defs scope new env' y n (first_of (none t.type_errors) (none (wanted t.part can.shape)) f))

    -- a whole run
    pub whole_ends : (b : Block) (ss : List Stmt) (vars args env env' left : SymEnv) (s s' : S) (old mid new : List Node) (end k : ℕ) (y : Option SymValue) →
        ss ≡ b.statements → env ≡ vars ++ args → length vars ≡ k → Ended (order_run M defs kinds ss) 0 env s old end env' s' mid →
        new ≡ (sym_returned kinds (terms_of kinds defs) (M.machine kinds) b.answer env' mid).nodes →
        y ≡ (sym_returned kinds (terms_of kinds defs) (M.machine kinds) b.answer env' mid).value → left ≡ take k env' → KeepsSingle mid new →
        IsWhole M defs kinds b vars args s old y left s' new
    whole_ends b ss vars args env env' left s s' old mid new end k y same joined count h e f cut keep =
        let p = subst (λ z. Ended (order_run M defs kinds z) 0 env s old end env' s' mid) same h in
        let q = subst (λ z. Ended (order_run M defs kinds b.statements) 0 z s old end env' s' mid) joined p in
        let z = (order_run M defs kinds b.statements).run 0 (vars ++ args) s old in
        let R : SymEnv → List Node → Out (Option SymValue) = λ v ns. sym_returned kinds (terms_of kinds defs) (M.machine kinds) b.answer v ns in
        let r : R env' mid ≡ R z.value.env z.nodes = ap (λ v. R v mid) q.names ∙ ap (λ ns. R z.value.env ns) q.nodes in
        record {
          nodes = e ∙ ap (λ (o : Out (Option SymValue)). o.nodes) r;
          answered = f ∙ ap (λ (o : Out (Option SymValue)). o.value) r;
          leaves = cut ∙ ap (λ n. take n env') (sym count) ∙ ap (take (length vars)) q.names;
          state = q.state;
          single = λ first x. keep first (q.single first x);
        }
