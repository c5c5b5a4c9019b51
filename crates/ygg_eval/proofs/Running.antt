-- Runs of statements and of blocks inside others.
use Rattle.std.proofs.Common.{
  ◌≡◌,
  ℕ,
  ◌+◌,
  ◌<◌,
  Bool,
  true,
  false,
  if◌then◌else◌,
  List,
  ◌∷◌,
  map,
  drop,
  take,
  length,
  get_or,
  Option,
  Result,
  refl,
  sym,
  ap,
  ◌∙◌,
  subst,
}
use Rattle.std.proofs.lemmas.List.{drop_more, length-map, take-map}
use Rattle.ygg_value.specs.declared.row.Value.{Value}
use Rattle.ygg_list.specs.declared.memory.NoMemory.{NoMemory}
use Rattle.ygg_syntax.specs.declared.tree.Name.{Name}
use Rattle.ygg_syntax.specs.declared.tree.Numeral.{Numeral}
use Rattle.ygg_syntax.specs.declared.tree.Index.{Index}
use Rattle.ygg_syntax.specs.declared.tree.Expr.{Expr}
use Rattle.ygg_syntax.specs.declared.tree.Source.{Source}
use Rattle.ygg_syntax.specs.declared.tree.Block.{Block}
use Rattle.ygg_syntax.specs.declared.tree.Stmt.{Stmt}
use Rattle.ygg_syntax.specs.declared.tree.Stmt.TheVariants as tree
use Rattle.ygg_syntax.specs.declared.tree.Stmt.TheOpen.{Stmt-F}
use Rattle.ygg_syntax.specs.declared.tree.File.{File}
use Rattle.ygg_eval_expr.specs.ygg_meaning.Environments.{Env}
use Rattle.ygg_eval_expr.specs.ygg_meaning.Meaning.{is_one}
use Rattle.ygg_eval_expr.specs.ygg_meaning.Progress.{Run, and_then, forget_since, in_turn, for_each, run_of, stmt_run}
use Rattle.ygg_eval_expr.specs.declared.held.Binding.{Binding}
use Rattle.ygg_eval_expr.specs.Held.{env_of, held_value}
use Rattle.ygg_eval.specs.declared.body.Stop.{Stop}
use Rattle.ygg_eval.specs.Lower.{Standing, Meaning}
use Rattle.ygg_eval.specs.declared.flow.Flow.{Flow}
use Rattle.ygg_eval.specs.BlockSteps.{Front, goes_on, Becomes, Ran}
use Rattle.ygg_eval.specs.Ready.{eval_in, inside_run, turn_run, CanStep, CanRun}
use Rattle.ygg_eval.proofs.Opened.{run_let, run_assign, run_if, run_for, run_call}
use Rattle.ygg_eval.proofs.Leading.{ran_after, ran_within, ran_from}
use Rattle.ygg_eval.proofs.Fitting.{first_steps, rest_runs}

-- the names of a block are dropped
pub dropped_is : (before during after : List Binding) (k : ℕ) → k ≡ length before → after ≡ take k during →
    take (length (env_of before)) (env_of during) ≡ env_of after
dropped_is before during after k counted dropped =
    let entry : Binding → List ℕ × Value = λ (x : Binding). (x.name.now, held_value x.held) in
    ap (λ (m : ℕ). take m (env_of during)) (length-map before entry ∙ sym counted) ∙ take-map entry k during ∙ ap env_of (sym dropped)

module _ {S : Type 0} (M : Meaning S) (file : File) (number : ℕ) (stop : Option Stop) {T : Type 0} where
  -- a statement does what its form says
  ran_as : (s : Stmt) (r : Run) (env : Env) (g : T → Front) (from to : Standing S) (l n : ℕ) (result : Result (Flow T) NoMemory) →
      run_of (eval_in file) s ≡ r → Ran M file number stop (r env) g from l result to n
      → Ran M file number stop (run_of (eval_in file) s env) g from l result to n
  ran_as s r env g from to l n result is h = ran_from M file number stop (run_of (eval_in file) s env) (r env) g from to l n result
      (ap (λ (k : Run). k env) is) h

  pub ran_let : (s : Stmt) (x : Name) (source : Source) (env : Env) (g : T → Front) (from to : Standing S) (l n : ℕ)
      (result : Result (Flow T) NoMemory) → s ≡ tree.Let x source
      → Ran M file number stop (stmt_run (eval_in file) (Stmt-F.Let x source) env) g from l result to n →
      Ran M file number stop (run_of (eval_in file) s env) g from l result to n
  ran_let s x source env g from to l n result is h =
      ran_as s (stmt_run (eval_in file) (Stmt-F.Let x source)) env g from to l n result (ap (run_of (eval_in file)) is ∙ run_let (eval_in file) x source) h

  pub ran_assign : (s : Stmt) (x : Name) (is js : List Index) (source : Source) (env : Env) (g : T → Front) (from to : Standing S) (l n : ℕ)
      (result : Result (Flow T) NoMemory) → s ≡ tree.Assign x is source → js ≡ is
      → Ran M file number stop (stmt_run (eval_in file) (Stmt-F.Assign x js source) env) g from l result to n →
      Ran M file number stop (run_of (eval_in file) s env) g from l result to n
  ran_assign s x is js source env g from to l n result same at h =
      ran_as s (stmt_run (eval_in file) (Stmt-F.Assign x is source)) env g from to l n result
      (ap (run_of (eval_in file)) same ∙ run_assign (eval_in file) x is source)
      (subst (λ (k : List Index). Ran M file number stop (stmt_run (eval_in file) (Stmt-F.Assign x k source) env) g from l result to n) at h)

  pub ran_call_statement : (s : Stmt) (f : Name) (es xs : List Expr) (env : Env) (g : T → Front) (from to : Standing S) (l n : ℕ)
      (result : Result (Flow T) NoMemory) → s ≡ tree.Call f es → xs ≡ es
      → Ran M file number stop (stmt_run (eval_in file) (Stmt-F.Call f xs) env) g from l result to n →
      Ran M file number stop (run_of (eval_in file) s env) g from l result to n
  ran_call_statement s f es xs env g from to l n result is at h =
      ran_as s (stmt_run (eval_in file) (Stmt-F.Call f es)) env g from to l n result (ap (run_of (eval_in file)) is ∙ run_call (eval_in file) f es)
      (subst (λ (k : List Expr). Ran M file number stop (stmt_run (eval_in file) (Stmt-F.Call f k) env) g from l result to n) at h)

  pub ran_for : (s : Stmt) (x : Name) (w k : Numeral) (each : Block) (env : Env) (g : T → Front) (from to : Standing S) (l n : ℕ)
      (result : Result (Flow T) NoMemory) → s ≡ tree.For x w k each
      → Ran M file number stop (for_each k.value 0 (turn_run (eval_in file) x w each) env) g from l result to n →
      Ran M file number stop (run_of (eval_in file) s env) g from l result to n
  ran_for s x w k each env g from to l n result is h =
      ran_as s (stmt_run (eval_in file) (Stmt-F.For x w k (inside_run (eval_in file) each))) env g from to l n result
      (ap (run_of (eval_in file)) is ∙ run_for (eval_in file) x w k each) h

  pub ran_then : (s : Stmt) (test : Expr) (first second : Block) (env : Env) (g : T → Front) (from to : Standing S) (l n : ℕ)
      (result : Result (Flow T) NoMemory) (b : Bool) → s ≡ tree.If test first second
      → b ≡ is_one (eval_in file test env) → b ≡ true → Ran M file number stop (inside_run (eval_in file) first env) g from l result to n →
      Ran M file number stop (run_of (eval_in file) s env) g from l result to n
  ran_then s test first second env g from to l n result b is tested one h =
      let chosen : Bool → Front = λ b answers. if b then inside_run (eval_in file) first env answers else inside_run (eval_in file) second env answers in
      ran_as s (stmt_run (eval_in file) (Stmt-F.If test (inside_run (eval_in file) first) (inside_run (eval_in file) second))) env g from to l n
      result (ap (run_of (eval_in file)) is ∙ run_if (eval_in file) test first second)
      (ran_from M file number stop (chosen (is_one (eval_in file test env))) (inside_run (eval_in file) first env) g from to l n result
      (ap chosen (sym tested ∙ one)) h)

  pub ran_else : (s : Stmt) (test : Expr) (first second : Block) (env : Env) (g : T → Front) (from to : Standing S) (l n : ℕ)
      (result : Result (Flow T) NoMemory) (b : Bool) → s ≡ tree.If test first second
      → b ≡ is_one (eval_in file test env) → b ≡ false → Ran M file number stop (inside_run (eval_in file) second env) g from l result to n →
      Ran M file number stop (run_of (eval_in file) s env) g from l result to n
  ran_else s test first second env g from to l n result b is tested none h =
      let chosen : Bool → Front = λ b answers. if b then inside_run (eval_in file) first env answers else inside_run (eval_in file) second env answers in
      ran_as s (stmt_run (eval_in file) (Stmt-F.If test (inside_run (eval_in file) first) (inside_run (eval_in file) second))) env g from to l n
      result (ap (run_of (eval_in file)) is ∙ run_if (eval_in file) test first second)
      (ran_from M file number stop (chosen (is_one (eval_in file test env))) (inside_run (eval_in file) second env) g from to l n result
      (ap chosen (sym tested ∙ none)) h)

  -- one statement, and those after it
  pub statement_ran : (f : Front) (all : List Stmt) (i : ℕ) (s : Stmt) (env env' : Env) (from at to : Standing S) (l m k : ℕ)
      (result : Result (Flow T) NoMemory) → i < length all → s ≡ get_or all i s
      → Becomes M file number stop f (in_turn (map (run_of (eval_in file)) (drop i all)) env) from l at m →
      Ran M file number stop (run_of (eval_in file) s env) (λ (t : T). goes_on env') at m result to k
      → Ran M file number stop f (λ (t : T). in_turn (map (run_of (eval_in file)) (drop (i + 1) all)) env') from l result to k
  statement_ran f all i s env env' from at to l m k result within here before r =
      let rest = in_turn (map (run_of (eval_in file)) (drop (i + 1) all)) in
      let split : drop i all ≡ s ∷ drop (i + 1) all = drop_more all i s within ∙ ap (λ (x : Stmt). x ∷ drop (i + 1) all) (sym here) in
      let before' = subst (λ (ss : List Stmt). Becomes M file number stop f (in_turn (map (run_of (eval_in file)) ss) env) from l at m) split before in
      ran_after M file number stop f (λ answers. and_then (run_of (eval_in file) s env answers) rest) (λ (t : T). rest env') from at to l m k result before'
      (ran_within M file number stop (λ p. and_then p rest) (λ q. refl) (run_of (eval_in file) s env) (λ (t : T). goes_on env') at to m k result r)

  -- a block inside another, whose own names are dropped
  pub block_ran : (b : Block) (ss : List Stmt) (before during after : List Binding) (k : ℕ) (from to : Standing S) (l n : ℕ)
      (result : Result (Flow T) NoMemory) → ss ≡ b.statements → k ≡ length before → after ≡ take k during
      → Ran M file number stop (in_turn (map (run_of (eval_in file)) ss) (env_of before)) (λ (t : T). goes_on (env_of during)) from l result to n
      → Ran M file number stop (inside_run (eval_in file) b (env_of before)) (λ (t : T). goes_on (env_of after)) from l result to n
  block_ran b ss before during after k from to l n result is counted dropped r =
      let inside = subst (λ (x : List Stmt). Ran M file number stop (in_turn (map (run_of (eval_in file)) x) (env_of before))
      (λ (t : T). goes_on (env_of during)) from l result to n) is r in
      subst (λ (e : Env). Ran M file number stop (inside_run (eval_in file) b (env_of before)) (λ (t : T). goes_on e) from l result to n)
      (dropped_is before during after k counted dropped)
      (ran_within M file number stop (forget_since (env_of before)) (λ q. refl) (in_turn (map (run_of (eval_in file)) b.statements) (env_of before))
      (λ (t : T). goes_on (env_of during)) from to l n result inside)

module _ {S : Type 0} (M : Meaning S) (file : File) (number : ℕ) (stop : Option Stop) where
  split_off : (all : List Stmt) (i : ℕ) (s : Stmt) → i < length all → s ≡ get_or all i s → drop i all ≡ s ∷ drop (i + 1) all
  split_off all i s within here = drop_more all i s within ∙ ap (λ (x : Stmt). x ∷ drop (i + 1) all) (sym here)

  -- the next statement may be run
  pub statement_can : (all : List Stmt) (i : ℕ) (s : Stmt) (env : Env) (at : Standing S) → i < length all → s ≡ get_or all i s →
      CanRun M file number stop (drop i all) env at → CanStep M file number stop s env at
  statement_can all i s env at within here can =
      first_steps M file number stop s (drop (i + 1) all) env at
      (subst (λ (ss : List Stmt). CanRun M file number stop ss env at) (split_off all i s within here) can)

  -- and those after it
  pub statements_can : (all : List Stmt) (i : ℕ) (s : Stmt) (env env' : Env) (at at' : Standing S) (l l' : ℕ) → i < length all → s ≡ get_or all i s →
      CanRun M file number stop (drop i all) env at
      → Becomes M file number stop (run_of (eval_in file) s env) (goes_on env') at l at' l' → CanRun M file number stop (drop (i + 1) all) env' at'
  statements_can all i s env env' at at' l l' within here can b =
      rest_runs M file number stop s (drop (i + 1) all) env env' at at' l l'
      (subst (λ (ss : List Stmt). CanRun M file number stop ss env at) (split_off all i s within here) can) b
