-- What lets a part of a block be run, carried on to the next part.
use Rattle.std.proofs.Common.{
  ◌≡◌,
  ℕ,
  Bool,
  true,
  false,
  ◌&&◌,
  if◌then◌else◌,
  List,
  [],
  ◌∷◌,
  ◌++◌,
  map,
  take,
  length,
  All,
  Option,
  Some,
  None,
  is_none,
  refl,
  sym,
  ap,
  ◌∙◌,
  subst,
}
use Rattle.std.proofs.lemmas.List.{append-nil}
use Rattle.std.proofs.lemmas.List.Elements.{All-nil, All-cons}
use Rattle.ygg_value.specs.declared.shape.Shape.{Shape}
use Rattle.ygg_value.specs.declared.shape.Shape.TheVariants as shape
use Rattle.ygg_value.specs.Values.{digit}
use Rattle.ygg_value.specs.declared.row.Value.{Value}
use Rattle.ygg_syntax.specs.declared.grammar.BlockKind.{BlockKind}
use Rattle.ygg_syntax.specs.declared.tree.Place.{Place}
use Rattle.ygg_syntax.specs.declared.tree.Name.{Name}
use Rattle.ygg_syntax.specs.declared.tree.Numeral.{Numeral}
use Rattle.ygg_syntax.specs.declared.tree.Index.{Index}
use Rattle.ygg_syntax.specs.declared.tree.Expr.{Expr}
use Rattle.ygg_syntax.specs.declared.tree.Source.{Source}
use Rattle.ygg_syntax.specs.declared.tree.Source.TheVariants as source
use Rattle.ygg_syntax.specs.declared.tree.Block.{Block}
use Rattle.ygg_syntax.specs.declared.tree.Stmt.{Stmt, map-Stmt, out-Stmt, fold_out-Stmt}
use Rattle.ygg_syntax.specs.declared.tree.Stmt.TheVariants as tree
use Rattle.ygg_syntax.specs.declared.tree.Stmt.TheOpen.{Stmt-F}
use Rattle.ygg_syntax.specs.declared.tree.File.{File}
use Rattle.ygg_eval_expr.specs.ygg_type_rules.Names.{Named, look_up, has, added}
use Rattle.ygg_eval_expr.specs.ygg_type_rules.declared.scope.Signature.{Signature}
use Rattle.ygg_eval_expr.specs.ygg_type_rules.TypeErrors.{none}
use Rattle.ygg_eval_expr.specs.ygg_type_rules.Scopes.{Scope, with_local}
use Rattle.ygg_eval_expr.specs.ygg_type_rules.Expressions.{typing, typings, type_errors_in, parts_of, expected_errors}
use Rattle.ygg_eval_expr.specs.ygg_type_rules.Statements.{
  Walked,
  source_typing,
  call_rule,
  call_typing,
  in_order,
  return_errors,
  node_walked,
  node_inside,
  walked,
  block_errors,
}
use Rattle.ygg_eval_expr.specs.ygg_meaning.Environments.{Env}
use Rattle.ygg_eval_expr.specs.ygg_meaning.Meaning.{Functions, functions_of, value_with}
use Rattle.ygg_eval_expr.specs.ygg_meaning.Progress.{Answer, Point, Waits, Goes, Question, Call, forget_since, in_turn, run_of, values_of, value_in}
use Rattle.ygg_eval_expr.specs.ygg_meaning.Shapes.{fits}
use Rattle.ygg_eval_expr.specs.ygg_meaning_laws.Agrees.{Agrees}
use Rattle.ygg_eval_expr.specs.ygg_meaning_laws.Fitting.{HasShape, fits_wanted}
use Rattle.ygg_eval_expr.specs.ygg_meaning_laws_proofs_Tests.{left as first_of, right as second_of}
use Rattle.ygg_eval_expr.specs.ygg_meaning_laws_proofs_Lists.{AllHave, have_shapes, arguments_fit}
use Rattle.ygg_eval_expr.specs.ygg_meaning_laws_proofs_Fits.{fits_has, digit_has}
use Rattle.ygg_eval_expr.specs.Known.{CanEvaluate}
use Rattle.ygg_eval.specs.ygg_meaning_laws.Kinds.{all_keep, node_keeps, stmt_keeps, keeps}
use Rattle.ygg_eval.specs.ygg_meaning_laws.Questions.{plain, answer_has, gives, answer_fits, Follows}
use Rattle.ygg_eval.specs.ygg_meaning_laws_proofs_TypeErrors.{Called, called}
use Rattle.ygg_eval.specs.ygg_meaning_laws_proofs_Following.{follows_cut, agrees_after}
use Rattle.ygg_eval.specs.ygg_meaning_laws_proofs_Asking.{all_known}
use Rattle.ygg_eval.specs.ygg_meaning_laws_proofs_ProgressSounds.{Told, all_sound, statements_sound}
use Rattle.ygg_eval.specs.ygg_meaning_laws_proofs_Files.{have}
use Rattle.ygg_eval.specs.declared.body.Stop.{Stop}
use Rattle.ygg_eval.specs.Layers.{signatures_at}
use Rattle.ygg_eval.specs.Lower.{Standing, Meaning}
use Rattle.ygg_eval.specs.Conversations.{Exchange, answers_of}
use Rattle.ygg_eval.specs.BlockSteps.{Front, goes_on, Leads, Becomes}
use Rattle.ygg_eval.specs.Ready.{
  eval_in,
  known_in,
  inside_run,
  Fits,
  CanDo,
  CanCall,
  CanSend,
  CanAsk,
  CanAssign,
  CanStep,
  CanRun,
  CanEnter,
  CanRepeat,
  IsGiven,
}
use Rattle.ygg_eval.proofs.Opened.{
  Walk,
  Inside,
  W',
  walked_let,
  walked_assign,
  walked_if,
  walked_for,
  walked_call,
  keeps_let,
  keeps_assign,
  keeps_if,
  keeps_for,
  keeps_call,
}

-- one more name leaves the definitions as they are
pub local_defs : (name : List ℕ) (shape : Option Shape) (assignable : Bool) (scope : Scope) → (with_local name shape assignable scope).defs ≡ scope.defs
local_defs name shape assignable scope = cases (has name scope.variables)
  where
    cases : (b : Bool) → (if b then scope else record scope
        { locals = added name (record { shape = shape; assignable = assignable }) scope.locals }).defs ≡ scope.defs
    cases true = refl
    cases false = refl

pub local_lower : (name : List ℕ) (shape : Option Shape) (assignable : Bool) (scope : Scope) → (with_local name shape assignable scope).lower ≡ scope.lower
local_lower name shape assignable scope = cases (has name scope.variables)
  where
    cases : (b : Bool) → (if b then scope else record scope
        { locals = added name (record { shape = shape; assignable = assignable }) scope.locals }).lower ≡ scope.lower
    cases true = refl
    cases false = refl

-- so does a statement
pub walked_defs : (s : Stmt) (scope : Scope) → (walked s scope).scope.defs ≡ scope.defs
walked_defs s scope = ap (λ (w : Walk). (w scope).scope.defs) (fold_out-Stmt Walk Inside node_walked node_inside s) ∙ cases (out-Stmt s)
  where
    cases : (y : Stmt-F Stmt Block) → (node_walked (map-Stmt Stmt Block Walk Inside walked W' y) scope).scope.defs ≡ scope.defs
    cases (Stmt-F.Let x from) = local_defs x.text (source_typing from scope).part.shape true scope
    cases (Stmt-F.Assign x is from) = refl
    cases (Stmt-F.If test first second) = refl
    cases (Stmt-F.For x w n each) = refl
    cases (Stmt-F.Call f es) = refl

-- arguments have the shapes that typing gives them
arguments_have : (functions : Functions) (es : List Expr) (scope : Scope) (env : Env) → Agrees functions scope (plain env) →
    none (type_errors_in (typings es scope)) ≡ true
    → AllHave (parts_of (typings es scope)) (map (λ (e : Expr). value_with functions e (plain env)) es)
arguments_have functions [] scope env g h = tt
arguments_have functions (x ∷ es) scope env g h = (
  have functions x scope (plain env) g (first_of (none (typing x scope).type_errors) (none (type_errors_in (typings es scope))) h),
  arguments_have functions es scope env g (second_of (none (typing x scope).type_errors) (none (type_errors_in (typings es scope))) h),
)

-- a right side gives a value of its shape
pub given_value : (file : File) (number : ℕ) (s : Source) (e : Expr) (env : Env) (v : Value) → s ≡ source.Value e → v ≡ eval_in file e env →
    IsGiven file number s env v
given_value file number s e env v is value scope lower agrees n =
    subst (λ (t : Source). none (source_typing t scope).type_errors ≡ true → HasShape (source_typing t scope).part.shape v) (sym is)
    (λ n. subst (λ (u : Value). HasShape (typing e scope).part.shape u) (sym value) (have (functions_of file.defs) e scope (plain env) agrees n)) n

pub given_choice : (file : File) (number : ℕ) (s : Source) (at : Place) (env : Env) (b : Bool) (v : Value) → s ≡ source.Choose at → v ≡ digit b →
    IsGiven file number s env v
given_choice file number s at env b v is value scope lower agrees n =
    subst (λ (t : Source). none (source_typing t scope).type_errors ≡ true → HasShape (source_typing t scope).part.shape v) (sym is)
    (λ n. subst (λ (u : Value). HasShape (Some (shape.Word 1)) u) (sym value) (digit_has b)) n

pub given_call : (file : File) (number : ℕ) (s : Source) (at : Place) (f : Name) (es : List Expr) (env : Env) (a : Answer) (v : Value) → s ≡ source.Call at f es
    → answer_fits (signatures_at file number) (Call f.text (values_of (eval_in file) es env)) a ≡ true → v ≡ value_in a → IsGiven file number s env v
given_call file number s at f es env a v is fit value scope lower agrees n0 =
    subst (λ (t : Source). none (source_typing t scope).type_errors ≡ true → HasShape (source_typing t scope).part.shape v) (sym is)
    (λ n. subst (λ (u : Value). HasShape (call_typing at true f es scope).part.shape u) (sym value) (given n)) n0
  where
    fitting : (o : Option Shape) (answers : Bool) → answers ≡ true → (a : Answer) → (if answers then answer_has o a else is_none a) ≡ true →
        answer_has o a ≡ true
    fitting o true i a e = e
    fitting o false i a e = absurd (cc)

    given : none (call_typing at true f es scope).type_errors ≡ true → HasShape (call_typing at true f es scope).part.shape (value_in a)
    given n = has a (fitting c.operation.answer c.operation.answers (c.answers refl) a e')
      where
        c : Called true f es scope
        c = called at true f es scope n

        shown : (call_typing at true f es scope).part.shape ≡ c.operation.answer
        shown = ap (λ (o : Option Signature). (call_rule true f o (parts_of (typings es scope))).shape) c.found
            ∙ c.shape (have_shapes (parts_of (typings es scope)) (values_of (eval_in file) es env)
            (arguments_have (functions_of file.defs) es scope env agrees c.parts))

        found : look_up f.text (signatures_at file number) ≡ Some c.operation
        found = subst (λ (l : Named Signature). look_up f.text l ≡ Some c.operation) lower c.found

        e' : gives c.operation a ≡ true
        e' = sym (ap (λ (o : Option Signature). elim o as (λ o. Bool) [ None ↦ false | Some o ↦ gives o a ]) found) ∙ fit

        has : (a : Answer) → answer_has c.operation.answer a ≡ true → HasShape (call_typing at true f es scope).part.shape (value_in a)
        has None e = absurd (cc)
        has (Some v) e =
            let s = agrees.lower f.text c.operation c.found (c.answers refl) in
            let fit : fits s.shape v ≡ true = subst (λ o. fits_wanted o v ≡ true) s.is e in
            subst (λ (o : Option Shape). HasShape o v) (sym (shown ∙ s.is)) (fits_has s.shape v s.limits fit)

-- what follows from a conversation
module _ {S : Type 0} (M : Meaning S) (file : File) (number : ℕ) (stop : Option Stop) where
  heads_are : (a b : Answer) (x y : List Answer) → a ∷ x ≡ b ∷ y → a ≡ b
  heads_are a b x y h = cc

  tails_are : (a b : Answer) (x y : List Answer) → a ∷ x ≡ b ∷ y → x ≡ y
  tails_are a b x y h = cc

  question_is : (p q : Question) → Waits p ≡ Waits q → p ≡ q
  question_is p q h = cc

  -- the answers fit
  pub told_by : (f g : Front) (from to : Standing S) (xs : List (Exchange S)) → Leads M file number stop f from xs g to →
      Told (signatures_at file number) f (answers_of xs)
  told_by f g from to [] p told more a q i w = absurd (nowhere told i)
    where
      nowhere : (told : List Answer) → [] ≡ told ++ a ∷ more → ⊥
      nowhere [] i = cc
      nowhere (t ∷ told) i = cc
  told_by f g from to (x ∷ xs) (w0, ans, p) [] more a q i w =
      subst (λ (b : Answer). answer_fits (signatures_at file number) q b ≡ true) (heads_are x.answer a (answers_of xs) more i)
      (subst (λ (r : Question). answer_fits (signatures_at file number) r x.answer ≡ true) (question_is x.question q (sym w0 ∙ w)) ans.fit)
  told_by f g from to (x ∷ xs) (w0, ans, p) (t ∷ told) more a q i w =
      told_by (λ more. f (x.answer ∷ more)) g x.after to xs p told more a q (tails_are x.answer t (answers_of xs) (told ++ a ∷ more) i)
      (ap (λ (b : Answer). f (b ∷ told)) (heads_are x.answer t (answers_of xs) (told ++ a ∷ more) i) ∙ w)

  -- what comes after them
  pub leads_to : (f g : Front) (from to : Standing S) (xs : List (Exchange S)) → Leads M file number stop f from xs g to → (more : List Answer) →
      f (answers_of xs ++ more) ≡ g more
  leads_to f g from to [] (e, s) more = ap (λ (k : Front). k more) e
  leads_to f g from to (x ∷ xs) (w, a, p) more = leads_to (λ more. f (x.answer ∷ more)) g x.after to xs p more

  -- a part that has come to its end
  ends : (f : Front) (env : Env) (from to : Standing S) (l n : ℕ) (b : Becomes M file number stop f (goes_on env) from l to n) →
      f (answers_of b.exchanges) ≡ Goes env []
  ends f env from to l n b = ap f (sym (append-nil (answers_of b.exchanges))) ∙ leads_to f (goes_on env) from to b.exchanges b.path []

  -- an expression may be evaluated
  pub evaluates : (kind : BlockKind) (scope : Scope) (env : Env) (at : Standing S) (e : Expr) → Fits M file number stop kind scope env at →
      none (typing e scope).type_errors ≡ true → CanEvaluate (known_in file env) e
  evaluates kind scope env at e f h = record { scope = scope; defs = f.defs; sound = f.sound; agrees = f.agrees; without_errors = h }

  all_evaluate : (kind : BlockKind) (scope : Scope) (env : Env) (at : Standing S) (es : List Expr) → Fits M file number stop kind scope env at →
      none (type_errors_in (typings es scope)) ≡ true → All (CanEvaluate (known_in file env)) es
  all_evaluate kind scope env at [] f h = All-nil (CanEvaluate (known_in file env))
  all_evaluate kind scope env at (e ∷ es) f h =
      All-cons (CanEvaluate (known_in file env)) e es
      (evaluates kind scope env at e f (first_of (none (typing e scope).type_errors) (none (type_errors_in (typings es scope))) h))
      (all_evaluate kind scope env at es f (second_of (none (typing e scope).type_errors) (none (type_errors_in (typings es scope))) h))

  -- a call
  pub call_evaluates : (f : Name) (es : List Expr) (env : Env) (at : Standing S) → CanCall M file number stop f es env at →
      All (CanEvaluate (known_in file env)) es
  call_evaluates f es env at c =
      let k = c.can in
      all_evaluate k.kind k.scope env at es k.fits (called c.place c.used f es k.scope k.without_errors).parts

  call_sends : (f : Name) (es : List Expr) (env : Env) (at : Standing S) → CanCall M file number stop f es env at →
      CanSend M file number stop f.text (values_of (eval_in file) es env) at
  call_sends f es env at can =
      let k = can.can in
      let c = called can.place can.used f es k.scope k.without_errors in
      let all = arguments_have (functions_of file.defs) es k.scope env k.fits.agrees c.parts in
      record {
        operation = c.operation;
        found = subst (λ (l : Named Signature). look_up f.text l ≡ Some c.operation) k.fits.lower c.found;
        fit = arguments_fit (parts_of (typings es k.scope)) (values_of (eval_in file) es env) c.operation.arguments all c.counted
            (c.wanted (have_shapes (parts_of (typings es k.scope)) (values_of (eval_in file) es env) all));
        serves = k.fits.serves k.keeps;
      }

  pub call_sends_as : (f : Name) (es : List Expr) (args : List Value) (env : Env) (at : Standing S) → args ≡ values_of (eval_in file) es env →
      CanCall M file number stop f es env at → CanSend M file number stop f.text args at
  call_sends_as f es args env at is can = subst (λ (vs : List Value). CanSend M file number stop f.text vs at) (sym is) (call_sends f es env at can)

  -- right sides
  pub ask_evaluates : (s : Source) (e : Expr) (env : Env) (at : Standing S) → s ≡ source.Value e → CanAsk M file number stop s env at →
      CanEvaluate (known_in file env) e
  ask_evaluates s e env at is can =
      let c = subst (λ (t : Source). CanAsk M file number stop t env at) is can in
      evaluates c.kind c.scope env at e c.fits c.without_errors

  pub ask_calls : (s : Source) (place : Place) (f : Name) (es : List Expr) (env : Env) (at : Standing S) → s ≡ source.Call place f es →
      CanAsk M file number stop s env at → CanCall M file number stop f es env at
  ask_calls s place f es env at is can = record { place = place; used = true; can = subst (λ (t : Source). CanAsk M file number stop t env at) is can }

  -- statements
  opened : (s : Stmt) (w : Scope → Walked) (k : BlockKind → Bool) (env : Env) (at : Standing S) → walked s ≡ w → stmt_keeps s ≡ k →
      CanStep M file number stop s env at → CanDo M file number stop (λ scope. (w scope).type_errors) k env at
  opened s w k env at is kept can = record {
    kind = can.kind;
    scope = can.scope;
    fits = can.fits;
    without_errors = subst (λ (x : Scope → Walked). none (x can.scope).type_errors ≡ true) is can.without_errors;
    keeps = subst (λ (x : BlockKind → Bool). x can.kind ≡ true) kept can.keeps;
  }

  pub let_asks : (s : Stmt) (x : Name) (from : Source) (env : Env) (at : Standing S) → s ≡ tree.Let x from → CanStep M file number stop s env at →
      CanAsk M file number stop from env at
  let_asks s x from env at is can =
      let c = opened s (node_walked (Stmt-F.Let x from)) (node_keeps (Stmt-F.Let x from)) env at (ap walked is ∙ walked_let x from)
      (ap stmt_keeps is ∙ keeps_let x from) can in
      record {
        kind = c.kind;
        scope = c.scope;
        fits = c.fits;
        without_errors =
            second_of _ (none (source_typing from c.scope).type_errors) c.without_errors;
        keeps = c.keeps;
      }

  pub assign_can : (s : Stmt) (x : Name) (is : List Index) (from : Source) (env : Env) (at : Standing S) → s ≡ tree.Assign x is from →
      CanStep M file number stop s env at → CanAssign M file number stop x is from env at
  assign_can s x is from env at same can = opened s (node_walked (Stmt-F.Assign x is from)) (node_keeps (Stmt-F.Assign x is from)) env at
      (ap walked same ∙ walked_assign x is from) (ap stmt_keeps same ∙ keeps_assign x is from) can

  pub call_can : (s : Stmt) (f : Name) (es : List Expr) (env : Env) (at : Standing S) → s ≡ tree.Call f es → CanStep M file number stop s env at →
      CanCall M file number stop f es env at
  call_can s f es env at is can =
      let c = opened s (node_walked (Stmt-F.Call f es)) (node_keeps (Stmt-F.Call f es)) env at (ap walked is ∙ walked_call f es)
      (ap stmt_keeps is ∙ keeps_call f es) can in
      record { place = f.place; used = false; can = c }

  -- a test and what depends on it
  pub record IfCan (test : Expr) (first second : Block) (env : Env) (at : Standing S) : Type 0 where
    pub tested : CanEvaluate (known_in file env) test
    pub then_enters : CanEnter M file number stop first env at
    pub else_enters : CanEnter M file number stop second env at

  pub if_can : (s : Stmt) (test : Expr) (first second : Block) (env : Env) (at : Standing S) → s ≡ tree.If test first second →
      CanStep M file number stop s env at → IfCan test first second env at
  if_can s test first second env at is can =
      let c = opened s (node_walked (Stmt-F.If test (block_errors first None) (block_errors second None)))
      (node_keeps (Stmt-F.If test (λ kind. keeps kind first) (λ kind. keeps kind second))) env at
      (ap walked is ∙ walked_if test first second) (ap stmt_keeps is ∙ keeps_if test first second) can in
      let a = none (expected_errors test (Some (shape.Word 1)) c.scope) in
      let b = none (block_errors first None c.scope) in
      let d = none (block_errors second None c.scope) in
      let rest = second_of a (b && d) c.without_errors in
      record {
        tested = evaluates c.kind c.scope env at test c.fits (first_of (none (typing test c.scope).type_errors) _ (first_of a (b && d) c.without_errors));
        then_enters = record {
          kind = c.kind;
          scope = c.scope;
          fits = c.fits;
          without_errors = first_of b d rest;
          keeps =
              first_of (keeps c.kind first) (keeps c.kind second) c.keeps;
        };
        else_enters = record {
          kind = c.kind;
          scope = c.scope;
          fits = c.fits;
          without_errors = second_of b d rest;
          keeps =
              second_of (keeps c.kind first) (keeps c.kind second) c.keeps;
        };
      }

  pub for_can : (s : Stmt) (x : Name) (w n : Numeral) (each : Block) (env : Env) (at : Standing S) → s ≡ tree.For x w n each →
      CanStep M file number stop s env at → CanRepeat M file number stop x w n each env at
  for_can s x w n each env at is can =
      opened s (node_walked (Stmt-F.For x w n (block_errors each None))) (node_keeps (Stmt-F.For x w n (λ kind. keeps kind each))) env at
      (ap walked is ∙ walked_for x w n each) (ap stmt_keeps is ∙ keeps_for x w n each) can

  -- one statement after another
  pub first_steps : (s : Stmt) (ss : List Stmt) (env : Env) (at : Standing S) → CanRun M file number stop (s ∷ ss) env at → CanStep M file number stop s env at
  first_steps s ss env at can = record {
    kind = can.kind;
    scope = can.scope;
    fits = can.fits;
    without_errors = first_of (none (walked s can.scope).type_errors)
        (none (in_order (map walked ss) (walked s can.scope).scope).type_errors) can.without_errors;
    keeps = first_of (stmt_keeps s can.kind) (all_keep (map stmt_keeps ss) can.kind) can.keeps;
  }

  pub rest_runs : (s : Stmt) (ss : List Stmt) (env env' : Env) (at at' : Standing S) (l l' : ℕ) → CanRun M file number stop (s ∷ ss) env at →
      Becomes M file number stop (run_of (eval_in file) s env) (goes_on env') at l at' l'
      → CanRun M file number stop ss env' at'
  rest_runs s ss env env' at at' l l' can b =
      let f = can.fits in
      let none_first = none (walked s can.scope).type_errors in
      let none_rest = none (in_order (map walked ss) (walked s can.scope).scope).type_errors in
      let kept = stmt_keeps s can.kind in
      let kept_rest = all_keep (map stmt_keeps ss) can.kind in
      let functions = functions_of file.defs in
      let sound = all_sound functions (signatures_at file number) (have functions) s in
      let met = sound.sounds can.kind can.scope env (answers_of b.exchanges) (record { lower_is = f.lower; agrees = f.agrees })
      (first_of none_first none_rest can.without_errors) (first_of kept kept_rest can.keeps)
      (told_by (run_of (eval_in file) s env) (goes_on env') at at' b.exchanges b.path) in
      let left = met.goes env' [] (ends (run_of (eval_in file) s env) env' at at' l l' b) in
      record {
        kind = can.kind;
        scope = (walked s can.scope).scope;
        fits = record {
          sound = f.sound;
          defs = walked_defs s can.scope ∙ f.defs;
          lower = (all_known (eval_in file) s).lower can.scope ∙ f.lower;
          agrees = left.1;
          serves = λ k. b.serves (f.serves k);
          stops = f.stops;
        };
        without_errors = second_of none_first none_rest can.without_errors;
        keeps = second_of kept kept_rest can.keeps;
      }

  -- blocks inside others
  pub enter_runs : (b : Block) (env : Env) (at : Standing S) → CanEnter M file number stop b env at → CanRun M file number stop b.statements env at
  enter_runs b env at can = record {
    kind = can.kind;
    scope = can.scope;
    fits = can.fits;
    without_errors = first_of (none (in_order (map walked b.statements) can.scope).type_errors)
        (none (return_errors b.answer None (in_order (map walked b.statements) can.scope).scope)) can.without_errors;
    keeps = can.keeps;
  }

  -- what the names are after a block
  pub record LeftBy (scope : Scope) (env env' : Env) : Type 0 where
    pub follows : Follows env env'
    pub agrees : Agrees (functions_of file.defs) scope (plain env')

  pub enter_left : (b : Block) (env env' : Env) (at at' : Standing S) (l l' : ℕ) (can : CanEnter M file number stop b env at) →
      Becomes M file number stop (inside_run (eval_in file) b env) (goes_on env') at l at' l' → LeftBy can.scope env env'
  enter_left b env env' at at' l l' can c =
      by_point (in_turn (map (run_of (eval_in file)) b.statements) env (answers_of c.exchanges)) refl
      (ends (inside_run (eval_in file) b env) env' at at' l l' c)
    where
      env_is : (a b : Env) (left : List Answer) → Goes a left ≡ Goes b [] → a ≡ b
      env_is a b left h = cc

      by_point : (p : Point) → in_turn (map (run_of (eval_in file)) b.statements) env (answers_of c.exchanges) ≡ p → forget_since env p ≡ Goes env' []
          → LeftBy can.scope env env'
      by_point (Waits q) e h = absurd (cc)
      by_point (Goes env1 left) e h =
          let functions = functions_of file.defs in
          let f = can.fits in
          let met = (statements_sound functions (signatures_at file number) (have functions) b.statements).sounds can.kind can.scope env
          (answers_of c.exchanges) (record { lower_is = f.lower; agrees = f.agrees })
          (first_of (none (in_order (map walked b.statements) can.scope).type_errors)
          (none (return_errors b.answer None (in_order (map walked b.statements) can.scope).scope)) can.without_errors) can.keeps
          (λ told more a q i w. told_by (inside_run (eval_in file) b env) (goes_on env') at at' c.exchanges c.path told more a q i (ap (forget_since env) w)) in
          let m = met.goes env1 left e in
          let same = env_is (take (length env) env1) env' left h in
          record {
            follows = subst (λ (x : Env). Follows env x) same (follows_cut env env1 m.0);
            agrees = subst (λ (x : Env). Agrees functions can.scope (plain x)) same (agrees_after functions can.scope env env1 m.0 f.agrees);
          }
