-- The two sides of an `if` over terms, and what lets their ends be merged.
use Rattle.std.proofs.Common.{◌≡◌, ℕ, Bool, true, false, ◌&&◌, Result, IfOk, List, [], ◌∷◌, length, All, Some, None, sym, ap, ◌∙◌, subst, arith}
use Rattle.std.proofs.lemmas.List.{length-map}
use Rattle.std.proofs.lemmas.List.Elements.{All-head, All-tail}
use Rattle.ygg_value.specs.Values.{word_in}
use Rattle.ygg_value.specs.declared.shape.Shape.TheVariants as shape
use Rattle.ygg_syntax.specs.declared.tree.Block.{Block}
use Rattle.ygg_syntax.specs.declared.tree.Def.{Def}
use Rattle.ygg_syntax.specs.declared.grammar.BlockKind.{BlockKind}
use Rattle.ygg_syntax.specs.declared.tree.Expr.{Expr}
use Rattle.ygg_syntax.specs.declared.tree.Name as tree_name
use Rattle.ygg_syntax.specs.declared.tree.Numeral.{Numeral}
use Rattle.ygg_syntax.specs.declared.tree.Stmt.{Stmt}
use Rattle.ygg_syntax.specs.declared.tree.Stmt.TheOpen.{Stmt-F}
use Rattle.ygg_syntax.specs.declared.tree.Stmt.TheVariants as tree
use Rattle.ygg_meaning_laws.specs.ygg_type_rules.Shapes.{is_word, width_of}
use Rattle.ygg_meaning_laws.specs.ygg_type_rules.TypeErrors.{none}
use Rattle.ygg_meaning_laws.specs.ygg_type_rules.Scopes.{Scope}
use Rattle.ygg_meaning_laws.specs.ygg_type_rules.Expressions.{typing, wanted, expected_errors}
use Rattle.ygg_meaning_laws.specs.ygg_type_rules.Statements.{node_walked, walked, block_errors}
use Rattle.ygg_meaning_laws.proofs.Tests.{left as first_of, right as second_of}
use Rattle.ygg_meaning_laws.proofs.Fits.{word_wide}
use Rattle.ygg_meaning_laws.proofs.Rules.{wanted_has}
use Rattle.ygg_meaning_laws.specs.Blocks.{eval_with}
use Rattle.ygg_meaning_laws.specs.Kinds.{keeps, node_keeps, stmt_keeps}
use Rattle.ygg_meaning_laws.specs.Questions.{plain, Follows}
use Rattle.ygg_meaning_laws.proofs.ProgressFits.{one_shape}
use Rattle.ygg_meaning_laws.specs.ygg_meaning.Environments.{Name, Env}
use Rattle.ygg_sym_runs.specs.ygg_rules.declared.rule.RuleKind.{RuleKind}
use Rattle.ygg_sym_runs.specs.ygg_bank_proofs_Meaning.{fits_fewer}
use Rattle.ygg_sym_runs.specs.ygg_bank_proofs_Widths.{wider}
use Rattle.ygg_sym_runs.specs.ygg_bank.Nodes.{HasWidth, IsBank, Extends}
use Rattle.ygg_sym_runs.specs.ygg_bank.Values.{Inputs, Values, Fits}
use Rattle.ygg_sym_runs.specs.ygg_bank.declared.node.Id.{Id}
use Rattle.ygg_sym_runs.specs.ygg_bank.declared.node.Node.{Node}
use Rattle.ygg_sym_runs.specs.ygg_shape_cells.Terms.{IsShaped, worth}
use Rattle.ygg_sym_runs.specs.ygg_shape_cells.declared.terms.SymValue.{SymValue}
use Rattle.ygg_sym_runs.specs.Names.{SymEnv}
use Rattle.ygg_sym_runs.specs.Exprs.{id_in, sym_value}
use Rattle.ygg_sym_runs.specs.ExpressionMeaning.{EnvShaped, worths}
use Rattle.ygg_sym_runs.specs.Seen.{CanTerm}
use Rattle.ygg_sym_runs.proofs.Grows.{value_grows}
use Rattle.ygg_sym_runs.proofs.Shaped.{is_term, env_wider}
use Rattle.ygg_sym_runs.specs.Joining.{CanJoinEnds}
use Rattle.ygg_sym_runs.specs.Lower.{SymMeaning, IsLower}
use Rattle.ygg_sym_runs.specs.Ready.{EnvAlike, Ended, known_with, terms_of, stmt_run, inside_run}
use Rattle.ygg_sym_runs.specs.Ready.{turns_run, CanCall, CanDo, CanStep, CanChoose, CanEnter, CanRepeat}
use Rattle.ygg_sym_runs.specs.Runs.{SymRun, plain_scope, sym_stmt}
use Rattle.ygg_sym_runs.proofs.Opened.{Walk, walked_if, keeps_if, walked_call, keeps_call, walked_for, keeps_for, run_for, run_if}
use Rattle.ygg_sym_runs.proofs.Parts.{eval_gives}
use Rattle.ygg_sym_runs.proofs.Typed.{all_have}
use Rattle.ygg_sym_runs.proofs.Walking.{ds, functions, terms, grow, mean, in_scope, can_term, Left}
use Rattle.ygg_sym_runs.proofs.Worths.{NameShaped, FitsSome, env_fits_some, shape_fits}
use Rattle.ygg_sym_runs.proofs.Zeros.{zeros, zero_values, zeros_fit}

module _ (inputs : Inputs) (v : Values) where
  -- names that followed the same ones have values of the same shapes
  pub envs_alike : (start : Env) (a b : SymEnv) (nodes : List Node) → Fits inputs v nodes → All (FitsSome inputs v) start → Follows start (worths v a) →
      Follows start (worths v b) → length a ≡ length start → length b ≡ length start → EnvShaped nodes a → EnvShaped nodes b → EnvAlike nodes a b
  envs_alike start [] b nodes h some f g i j p q = tt
  envs_alike start (x ∷ a) [] nodes h some f g i j p q = tt
  envs_alike [] (x ∷ a) (y ∷ b) nodes h some f g i j p q = absurd (omega (arith, i))
  envs_alike (c ∷ start) (x ∷ a) (y ∷ b) nodes h some (n, k, f) (m, l, g) i j p q =
      let px = All-head (NameShaped nodes) x a p in
      let qy = All-head (NameShaped nodes) y b q in
      let s = All-head (FitsSome inputs v) c start some in
      let sx = one_shape s.shape px.shape (worth v x.1) (k s.shape s.fit) (shape_fits inputs v nodes px.shape x.1 h px.stands) in
      let sy = one_shape s.shape qy.shape (worth v y.1) (l s.shape s.fit) (shape_fits inputs v nodes qy.shape y.1 h qy.stands) in
      let fx = subst (λ z. IsShaped nodes z x.1) (sym sx) px.stands in
      let fy = subst (λ z. IsShaped nodes z y.1) (sym sy) qy.stands in (
        record { shape = s.shape; limits = fx.limits; one_has = fx.has; two_has = fy.has },
        envs_alike start a b nodes h (All-tail (FitsSome inputs v) c start some) f g (omega (arith, i)) (omega (arith, j))
            (All-tail (NameShaped nodes) x a p) (All-tail (NameShaped nodes) y b q),
      )

module _ {S : Type 0} (M : SymMeaning S) (law : IsLower M) (kinds : List RuleKind) (defs : List Def) where
  module _ (test : Expr) (first second : Block) (nodes : List Node) (env : SymEnv) (s : S) (can : CanChoose M defs test first second nodes env s) where
    abbrev sc : Scope
    sc = can.scope

    abbrev a : Bool
    a = none (block_errors first None sc)

    abbrev b : Bool
    b = none (block_errors second None sc)

    abbrev e : Bool
    e = none (expected_errors test (Some (shape.Word 1)) sc)

    tested : e ≡ true
    tested = first_of e (a && b) can.without_errors

    typed : none (typing test sc).type_errors ≡ true
    typed = first_of (none (typing test sc).type_errors) (none (wanted (typing test sc).part (Some (shape.Word 1)))) tested

    pub choose_test : CanTerm (known_with defs env) nodes test
    choose_test = can_term M law kinds defs sc nodes env test can.names typed

    abbrev pub choose_first : CanEnter M defs first nodes env s
    choose_first = record {
      scope = sc;
      names = can.names;
      stands = can.stands;
      without_errors = first_of a b (second_of e (a && b) can.without_errors);
      keeps = first_of (keeps M.kind first) (keeps M.kind second) can.keeps;
    }

    abbrev pub choose_second : CanEnter M defs second nodes env s
    choose_second = record {
      scope = sc;
      names = can.names;
      stands = can.stands;
      without_errors = second_of a b (second_of e (a && b) can.without_errors);
      keeps = second_of (keeps M.kind first) (keeps M.kind second) can.keeps;
    }

    width_made : let o = sym_value kinds (terms M law kinds defs) test (plain_scope env) nodes in IsBank o.nodes → HasWidth o.nodes (id_in o.value) 1
    width_made bank =
        let n = can.names in
        let o = sym_value kinds (terms M law kinds defs) test (plain_scope env) nodes in
        let v = zero_values o.nodes in
        let h = zeros_fit o.nodes bank in
        let g = value_grows kinds (terms M law kinds defs) (grow M law kinds defs) test (plain_scope env) nodes in
        let inside = in_scope M law kinds defs sc nodes env n zeros v (fits_fewer zeros v nodes o.nodes g h) in
        let typ = typing test sc in
        let envw = worths v env in
        let val = eval_with (functions M law kinds defs) test envw in
        let shape_is = wanted_has typ.part val (shape.Word 1) (all_have (functions M law kinds defs) M.lower test sc (plain envw) inside.agrees typed)
        (second_of (none typ.type_errors) (none (wanted typ.part (Some (shape.Word 1)))) tested) in
        let px = eval_gives zeros v kinds (ds M law kinds defs) (functions M law kinds defs) (terms M law kinds defs) (grow M law kinds defs)
        (mean M law kinds defs n.sound zeros v) M.lower test sc env nodes inside typed n.shaped h in
        let single = ap is_word shape_is in
        let pt = is_term zeros v val o.nodes o.value h px single in
        let one : (word_in val).width ≡ 1 = sym (word_wide val single) ∙ ap width_of shape_is in
        subst (HasWidth o.nodes (id_in o.value)) one pt.wide

    pub choose_width : (mid : List Node) (x : SymValue) (t : Id) → mid ≡ (sym_value kinds (terms M law kinds defs) test (plain_scope env) nodes).nodes →
        x ≡ (sym_value kinds (terms M law kinds defs) test (plain_scope env) nodes).value → t ≡ id_in x → IsBank mid → HasWidth mid t 1
    choose_width mid x t e f g bank =
        let o = sym_value kinds (terms M law kinds defs) test (plain_scope env) nodes in
        subst (λ z. HasWidth mid z 1) (sym (g ∙ ap id_in f))
        (subst (λ ns. HasWidth ns (id_in o.value) 1) (sym e) (width_made (subst IsBank e bank)))

  -- both ends may be merged
  pub join_can : (scope : Scope) (env one two : SymEnv) (s z : S) (nodes mid first last : List Node) (t : Id) → EnvShaped nodes env → Extends nodes last →
      HasWidth mid t 1 → Extends mid last → Extends first last → Left M law kinds defs scope env first one s → Left M law kinds defs scope env last two z →
      IsBank last → CanJoinEnds M last t one two s z
  join_can scope env one two s z nodes mid first last t shaped gn wide gm gf l r bank =
      let v = zero_values last in
      let h = zeros_fit last bank in
      let ln = l.names in
      let rn = r.names in
      let ls = l.stands in
      let rs = r.stands in
      let some = env_fits_some zeros v last env h (env_wider nodes last env gn shaped) in
      let size = length-map env (λ (b : Name × SymValue). (b.0, worth v b.1)) in
      record {
        names = record {
          test = wider mid last t 1 gm wide;
          count = l.count ∙ sym r.count;
          alike = envs_alike zeros v (worths v env) one two last h some (l.follows zeros v (fits_fewer zeros v first last gf h)) (r.follows zeros v h)
              (l.count ∙ sym size) (r.count ∙ sym size) (env_wider first last one gf ln.shaped) rn.shaped;
        };
        states = record {
          serves = ls.serves;
          test = wider mid last t 1 gm wide;
          first_has = M.low.wider first last s gf ls.has;
          second_has = rs.has;
        };
      }

  -- a statement that is laid open may be run so
  step_as : (t : Stmt) (w : Walk) (k : BlockKind → Bool) (nodes : List Node) (env : SymEnv) (s : S) → walked t ≡ w → stmt_keeps t ≡ k →
      CanStep M defs t nodes env s → CanDo M defs (λ scope. (w scope).type_errors) k nodes env s
  step_as t w k nodes env s e f can = record {
    scope = can.scope;
    names = can.names;
    stands = can.stands;
    without_errors = subst (λ (q : Walk). none (q can.scope).type_errors ≡ true) e can.without_errors;
    keeps = subst (λ (q : BlockKind → Bool). q M.kind ≡ true) f can.keeps;
  }

  pub step_if : (t : Stmt) (test : Expr) (first second : Block) (nodes : List Node) (env : SymEnv) (s : S) → t ≡ tree.If test first second →
      CanStep M defs t nodes env s → CanChoose M defs test first second nodes env s
  step_if t test first second nodes env s is can =
      step_as t (node_walked (Stmt-F.If test (block_errors first None) (block_errors second None)))
      (node_keeps (Stmt-F.If test (λ kind. keeps kind first) (λ kind. keeps kind second))) nodes env s
      (ap walked is ∙ walked_if test first second) (ap stmt_keeps is ∙ keeps_if test first second) can

  pub step_call : (t : Stmt) (f : tree_name.Name) (es xs : List Expr) (nodes : List Node) (env : SymEnv) (s : S) → t ≡ tree.Call f es → xs ≡ es →
      CanStep M defs t nodes env s → CanCall M defs f xs nodes env s
  step_call t f es xs nodes env s is same can =
      let d = step_as t (node_walked (Stmt-F.Call f es)) (node_keeps (Stmt-F.Call f es)) nodes env s
      (ap walked is ∙ walked_call f es) (ap stmt_keeps is ∙ keeps_call f es) can in
      subst (λ (z : List Expr). CanCall M defs f z nodes env s) (sym same)
      (record {
        place = f.place;
        used = false;
        can = record { scope = d.scope; names = d.names; stands = d.stands; without_errors = d.without_errors; keeps = d.keeps };
      })

  -- a loop ends as a statement
  pub ended_for : {E : Type 0} (t : Stmt) (x : tree_name.Name) (w n : Numeral) (each : Block) (i : ℕ) (env env' : SymEnv) (s s' : S) (old new : List Node)
      (r : Result ℕ E) → t ≡ tree.For x w n each → IfOk r (λ end. Ended (turns_run M defs kinds x w n each) i env s old end env' s' new) →
      IfOk r (λ end. Ended (stmt_run M defs kinds t) i env s old end env' s' new)
  ended_for t x w n each i env env' s s' old new r is h =
      subst (λ (q : SymRun S). IfOk r (λ end. Ended q i env s old end env' s' new)) (sym (ap (stmt_run M defs kinds) is ∙ run_for M defs kinds x w n each)) h

  -- an `if` ends as a statement
  pub ended_if : (t : Stmt) (test : Expr) (first second : Block) (i end : ℕ) (env env' : SymEnv) (s s' : S) (old new : List Node) →
      t ≡ tree.If test first second →
      Ended (sym_stmt kinds (terms_of kinds defs) (M.machine kinds) (Stmt-F.If test (inside_run M defs kinds first) (inside_run M defs kinds second))) i env s
      old end env' s' new → Ended (stmt_run M defs kinds t) i env s old end env' s' new
  ended_if t test first second i end env env' s s' old new is h =
      subst (λ (q : SymRun S). Ended q i env s old end env' s' new) (sym (ap (stmt_run M defs kinds) is ∙ run_if M defs kinds test first second)) h

  -- a loop may be run
  pub step_for : (t : Stmt) (x : tree_name.Name) (w n : Numeral) (each : Block) (nodes : List Node) (env : SymEnv) (s : S) → t ≡ tree.For x w n each →
      CanStep M defs t nodes env s → CanRepeat M defs x w n each nodes env s
  step_for t x w n each nodes env s is can =
      let d = step_as t (node_walked (Stmt-F.For x w n (block_errors each None))) (node_keeps (Stmt-F.For x w n (λ kind. keeps kind each))) nodes env s
      (ap walked is ∙ walked_for x w n each) (ap stmt_keeps is ∙ keeps_for x w n each) can in
      record { scope = d.scope; names = d.names; stands = d.stands; without_errors = d.without_errors; keeps = d.keeps }
