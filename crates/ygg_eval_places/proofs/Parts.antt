-- What lets a part of a block be run by place, carried on to the next part.
use Rattle.std.proofs.Common.{
  ◌≡◌,
  ℕ,
  ◌<◌,
  ◌+◌,
  Bool,
  true,
  false,
  ◌&&◌,
  List,
  [],
  ◌∷◌,
  ◌++◌,
  map,
  take,
  drop,
  length,
  get_or,
  Option,
  Some,
  None,
  refl,
  sym,
  ap,
  ◌∙◌,
  subst,
  arith,
}
use Rattle.std.proofs.lemmas.List.{append-nil, drop_more}
use Rattle.ygg_value.specs.Words.{word}
use Rattle.ygg_value.specs.Values.{digit}
use Rattle.ygg_value.specs.declared.row.Value.{Value}
use Rattle.ygg_value.specs.declared.row.Value.TheVariants.{Word}
use Rattle.ygg_value.specs.declared.shape.Shape.TheVariants as shape
use Rattle.ygg_syntax.specs.declared.grammar.BlockKind.{BlockKind}
use Rattle.ygg_syntax.specs.declared.tree.Block.{Block}
use Rattle.ygg_syntax.specs.declared.tree.Expr.{Expr}
use Rattle.ygg_syntax.specs.declared.tree.File.{File}
use Rattle.ygg_syntax.specs.declared.tree.Index.{Index}
use Rattle.ygg_syntax.specs.declared.tree.Name.{Name}
use Rattle.ygg_syntax.specs.declared.tree.Numeral.{Numeral}
use Rattle.ygg_syntax.specs.declared.tree.Place.{Place}
use Rattle.ygg_syntax.specs.declared.tree.Source.{Source}
use Rattle.ygg_syntax.specs.declared.tree.Source.TheVariants as source
use Rattle.ygg_syntax.specs.declared.tree.Stmt.{Stmt}
use Rattle.ygg_syntax.specs.declared.tree.Stmt.TheOpen.{Stmt-F}
use Rattle.ygg_syntax.specs.declared.tree.Stmt.TheVariants as tree
use Rattle.ygg_meaning_laws.specs.ygg_type_rules.Names.{Named}
use Rattle.ygg_meaning_laws.specs.ygg_type_rules.declared.scope.Signature.{Signature}
use Rattle.ygg_meaning_laws.specs.ygg_type_rules.TypeErrors.{none}
use Rattle.ygg_meaning_laws.specs.ygg_type_rules.Scopes.{Scope, is_taken}
use Rattle.ygg_meaning_laws.specs.ygg_type_rules.Shapes.{word_shape}
use Rattle.ygg_meaning_laws.specs.ygg_type_rules.Expressions.{typing, expected_errors, with_number, number_errors, wanted}
use Rattle.ygg_meaning_laws.specs.ygg_type_rules.Statements.{Walked, source_typing, call_typing, place_rule, in_order, return_errors}
use Rattle.ygg_meaning_laws.specs.ygg_type_rules.Statements.{node_walked, walked, block_errors}
use Rattle.ygg_meaning_laws.specs.ygg_meaning.Environments.{Env}
use Rattle.ygg_meaning_laws.specs.ygg_meaning.Meaning.{Functions, functions_of}
use Rattle.ygg_meaning_laws.specs.ygg_meaning.Progress.{Answer, Point, Waits, Goes, Question, Choice, Call, in_turn, run_of, values_of, value_in}
use Rattle.ygg_meaning_laws.specs.Agrees.{Agrees}
use Rattle.ygg_meaning_laws.proofs.Tests.{left as first_of, right as second_of}
use Rattle.ygg_meaning_laws.proofs.Rules.{NumberParts, number_parts}
use Rattle.ygg_meaning_laws.proofs.Steps.{agrees_with_number}
use Rattle.ygg_eval.specs.ygg_eval_expr.Known.{CanEvaluate}
use Rattle.ygg_meaning_laws.specs.Kinds.{all_keep, node_keeps, stmt_keeps, keeps}
use Rattle.ygg_meaning_laws.specs.Questions.{plain, answer_fits, question_fits, Follows}
use Rattle.ygg_meaning_laws.proofs.Asking.{all_known}
use Rattle.ygg_meaning_laws.proofs.Files.{have}
use Rattle.ygg_meaning_laws.proofs.Following.{follows_cut, follows_front, agrees_after}
use Rattle.ygg_meaning_laws.proofs.ProgressSounds.{Told, Fine, all_sound, statements_sound, call_fits}
use Rattle.ygg_meaning_laws.specs.Direct.{told_by, in_order as run_in_order}
use Rattle.ygg_meaning_laws.proofs.Order.{all_follow, block_follows}
use Rattle.ygg_eval.specs.Layers.{signatures_at}
use Rattle.ygg_eval.specs.Ready.{eval_in, known_in, numbered, IsGiven}
use Rattle.ygg_eval.proofs.Fitting.{local_defs, local_lower, walked_defs, given_value, given_choice, given_call}
use Rattle.ygg_eval.proofs.Opened.{
  walked_let,
  walked_assign,
  walked_if,
  walked_for,
  walked_call,
  keeps_let,
  keeps_assign,
  keeps_if,
  keeps_for,
  keeps_call,
}
use Rattle.ygg_eval_places.specs.Machines.{PlaceMeaning, IsPlaces, CanAnswer}
use Rattle.ygg_eval_places.specs.Ready.{Fits, CanDo, CanAsk, CanAssign, CanCall, CanStep, CanRun, CanEnter, CanRepeat}
use Rattle.ygg_eval_places.specs.Walks.{stmt_part, order_part, inside_part}
use Rattle.ygg_eval_places.proofs.Fitting.{told_none, all_kept}

module _ {S : Type 0} (M : PlaceMeaning S) (law : IsPlaces M) (file : File) (number : ℕ) where
  abbrev functions : Functions
  functions = functions_of file.defs

  abbrev lower : Named Signature
  lower = signatures_at file number

  -- the scope is one in which soundness is said
  fine : (scope : Scope) (env : Env) (s : M.Is) → Fits M file number scope env s → Fine functions lower (have functions) scope env
  fine scope env s f = record { lower_is = f.lower; agrees = f.agrees }

  -- a test of the machine's operations is one of those of the file
  seen_kind : (scope : Scope) (env : Env) (s : M.Is) → Fits M file number scope env s → (q : Question) → question_fits M.kind lower q ≡ true →
      question_fits M.kind M.lower q ≡ true
  seen_kind scope env s f q h = subst (λ l. question_fits M.kind l q ≡ true) (sym f.sees) h

  -- statements laid open
  opened : (t : Stmt) (w : Scope → Walked) (k : BlockKind → Bool) (env : Env) (s : M.Is) → walked t ≡ w → stmt_keeps t ≡ k →
      CanStep M file number t env s → CanDo M file number (λ scope. (w scope).type_errors) k env s
  opened t w k env s is kept can = record {
    scope = can.scope;
    fits = can.fits;
    without_errors = subst (λ (x : Scope → Walked). none (x can.scope).type_errors ≡ true) is can.without_errors;
    keeps = subst (λ (x : BlockKind → Bool). x M.kind ≡ true) kept can.keeps;
  }

  pub let_asks : (t : Stmt) (x : Name) (from : Source) (env : Env) (s : M.Is) → t ≡ tree.Let x from → CanStep M file number t env s →
      CanAsk M file number from env s
  let_asks t x from env s is can =
      let c = opened t (node_walked (Stmt-F.Let x from)) (node_keeps (Stmt-F.Let x from)) env s (ap walked is ∙ walked_let x from)
      (ap stmt_keeps is ∙ keeps_let x from) can in
      record {
        scope = c.scope;
        fits = c.fits;
        without_errors = second_of _ (none (source_typing from c.scope).type_errors) c.without_errors;
        keeps = c.keeps;
      }

  pub assign_can : (t : Stmt) (x : Name) (is : List Index) (from : Source) (env : Env) (s : M.Is) → t ≡ tree.Assign x is from →
      CanStep M file number t env s → CanAssign M file number x is from env s
  assign_can t x is from env s same can = opened t (node_walked (Stmt-F.Assign x is from)) (node_keeps (Stmt-F.Assign x is from)) env s
      (ap walked same ∙ walked_assign x is from) (ap stmt_keeps same ∙ keeps_assign x is from) can

  pub assign_asks : (x : Name) (is : List Index) (from : Source) (env : Env) (s : M.Is) → CanAssign M file number x is from env s →
      CanAsk M file number from env s
  assign_asks x is from env s can =
      let place = place_rule x is can.scope in
      let typed = source_typing from can.scope in
      record {
        scope = can.scope;
        fits = can.fits;
        without_errors = first_of (none typed.type_errors) (none (wanted typed.part place.shape))
            (second_of (none place.type_errors) (none typed.type_errors && none (wanted typed.part place.shape)) can.without_errors);
        keeps = can.keeps;
      }

  pub call_can : (t : Stmt) (f : Name) (es : List Expr) (env : Env) (s : M.Is) → t ≡ tree.Call f es → CanStep M file number t env s →
      CanCall M file number f es env s
  call_can t f es env s is can = record {
    place = f.place;
    used = false;
    can = opened t (node_walked (Stmt-F.Call f es)) (node_keeps (Stmt-F.Call f es)) env s (ap walked is ∙ walked_call f es)
        (ap stmt_keeps is ∙ keeps_call f es) can;
  }

  pub ask_calls : (from : Source) (place : Place) (f : Name) (es : List Expr) (env : Env) (s : M.Is) → from ≡ source.Call place f es →
      CanAsk M file number from env s → CanCall M file number f es env s
  ask_calls from place f es env s is can = record { place = place; used = true; can = subst (λ t. CanAsk M file number t env s) is can }

  -- a test and what depends on it
  pub record IfCan (test : Expr) (first second : Block) (env : Env) (s : M.Is) : Type 0 where
    pub tested : CanEvaluate (known_in file env) test
    pub then_enters : CanEnter M file number first env s
    pub else_enters : CanEnter M file number second env s

  pub if_can : (t : Stmt) (test : Expr) (first second : Block) (env : Env) (s : M.Is) → t ≡ tree.If test first second → CanStep M file number t env s →
      IfCan test first second env s
  if_can t test first second env s is can =
      let c = opened t (node_walked (Stmt-F.If test (block_errors first None) (block_errors second None)))
      (node_keeps (Stmt-F.If test (λ kind. keeps kind first) (λ kind. keeps kind second))) env s
      (ap walked is ∙ walked_if test first second) (ap stmt_keeps is ∙ keeps_if test first second) can in
      let a = none (expected_errors test (Some (shape.Word 1)) c.scope) in
      let b = none (block_errors first None c.scope) in
      let d = none (block_errors second None c.scope) in
      let rest = second_of a (b && d) c.without_errors in
      record {
        tested = record {
          scope = c.scope;
          defs = c.fits.defs;
          sound = c.fits.sound;
          agrees = c.fits.agrees;
          without_errors = first_of (none (typing test c.scope).type_errors) _ (first_of a (b && d) c.without_errors);
        };
        then_enters = record {
          scope = c.scope;
          fits = c.fits;
          without_errors = first_of b d rest;
          keeps = first_of (keeps M.kind first) (keeps M.kind second) c.keeps;
        };
        else_enters = record {
          scope = c.scope;
          fits = c.fits;
          without_errors = second_of b d rest;
          keeps = second_of (keeps M.kind first) (keeps M.kind second) c.keeps;
        };
      }

  pub for_can : (t : Stmt) (x : Name) (w n : Numeral) (each : Block) (env : Env) (s : M.Is) → t ≡ tree.For x w n each → CanStep M file number t env s →
      CanRepeat M file number x w n each env s
  for_can t x w n each env s is can =
      opened t (node_walked (Stmt-F.For x w n (block_errors each None))) (node_keeps (Stmt-F.For x w n (λ kind. keeps kind each))) env s
      (ap walked is ∙ walked_for x w n each) (ap stmt_keeps is ∙ keeps_for x w n each) can

  -- questions
  pub choice_can : (from : Source) (place : Place) (env : Env) (s : M.Is) → from ≡ source.Choose place → CanAsk M file number from env s →
      CanAnswer M Choice s
  choice_can from place env s is can0 =
      let can = subst (λ t. CanAsk M file number t env s) is can0 in
      record { serves = can.fits.serves; good = can.fits.good; fits = can.keeps }

  pub call_asks : (f : Name) (es : List Expr) (env : Env) (s : M.Is) → CanCall M file number f es env s →
      CanAnswer M (Call f.text (values_of (eval_in file) es env)) s
  call_asks f es env s c =
      let can = c.can in
      let f0 = can.fits in
      record {
        serves = f0.serves;
        good = f0.good;
        fits = seen_kind can.scope env s f0 (Call f.text (values_of (eval_in file) es env))
            (call_fits functions lower (have functions) M.kind c.place c.used f es can.scope env (fine can.scope env s f0) can.without_errors can.keeps);
      }

  -- the value of a right side has the shape that typing gives it
  pub given_by_value : (from : Source) (e : Expr) (env : Env) (v : Value) → from ≡ source.Value e → v ≡ eval_in file e env → IsGiven file number from env v
  given_by_value from e env v is h = given_value file number from e env v is h

  -- what a part leaves is again in order
  pub record After (scope : Scope) (before env : Env) (s : M.Is) : Type 0 where
    pub follows : Follows before env
    pub agrees : Agrees functions scope (plain env)
    pub good : M.Good s

  step_left : (t : Stmt) (i : ℕ) (env : Env) (s : M.Is) (can : CanStep M file number t env s) →
      let o = (stmt_part M file t).run i env s in After (walked t can.scope).scope env o.env o.to
  step_left t i env s can =
      let f = can.fits in
      let o = (stmt_part M file t).run i env s in
      let r = run_of (eval_in file) t in
      let so = all_follow (eval_in file) M.space M.handle t i env s in
      let sound = all_sound functions lower (have functions) t in
      let sees : lower ≡ M.lower = sym f.sees in
      let met = λ (answers : List Answer) (h : Told M.lower (r env) answers).
      sound.sounds M.kind can.scope env answers (fine can.scope env s f) can.without_errors can.keeps
      (subst (λ l. Told l (r env) answers) f.sees h) in
      let kept = all_kept M law f.serves (r env) (λ answers q h w. seen_kind can.scope env s f q ((met answers h).asks q w)) [] o.events s o.to f.good
      (told_none M.lower (r env)) so.asks so.chained in
      let left = (met (told_by o.events) kept.told).goes o.env [] (ap (r env) (sym (append-nil (told_by o.events))) ∙ so.goes []) in
      record { follows = left.0; agrees = left.1; good = kept.good }

  pub order_left : (ts : List Stmt) (i : ℕ) (env : Env) (s : M.Is) (can : CanRun M file number ts env s) →
      let o = (order_part M file ts).run i env s in After (in_order (map walked ts) can.scope).scope env o.env o.to
  order_left ts i env s can =
      let f = can.fits in
      let o = (order_part M file ts).run i env s in
      let r = in_turn (map (run_of (eval_in file)) ts) in
      let so = block_follows (eval_in file) M.space M.handle ts i env s in
      let sound = statements_sound functions lower (have functions) ts in
      let met = λ (answers : List Answer) (h : Told M.lower (r env) answers).
      sound.sounds M.kind can.scope env answers (fine can.scope env s f) can.without_errors can.keeps
      (subst (λ l. Told l (r env) answers) f.sees h) in
      let kept = all_kept M law f.serves (r env) (λ answers q h w. seen_kind can.scope env s f q ((met answers h).asks q w)) [] o.events s o.to f.good
      (told_none M.lower (r env)) so.asks so.chained in
      let left = (met (told_by o.events) kept.told).goes o.env [] (ap (r env) (sym (append-nil (told_by o.events))) ∙ so.goes []) in
      record { follows = left.0; agrees = left.1; good = kept.good }

  -- one statement after another
  pub first_steps : (t : Stmt) (ts : List Stmt) (env : Env) (s : M.Is) → CanRun M file number (t ∷ ts) env s → CanStep M file number t env s
  first_steps t ts env s can = record {
    scope = can.scope;
    fits = can.fits;
    without_errors = first_of (none (walked t can.scope).type_errors) (none (in_order (map walked ts) (walked t can.scope).scope).type_errors)
        can.without_errors;
    keeps = first_of (stmt_keeps t M.kind) (all_keep (map stmt_keeps ts) M.kind) can.keeps;
  }

  rest_made : (t : Stmt) (ts : List Stmt) (i : ℕ) (env : Env) (s : M.Is) → CanRun M file number (t ∷ ts) env s →
      let o = (stmt_part M file t).run i env s in CanRun M file number ts o.env o.to
  unfolding first_steps
  rest_made t ts i env s can =
      let f = can.fits in
      let step = first_steps t ts env s can in
      let a = step_left t i env s step in
      record {
        scope = (walked t can.scope).scope;
        fits = record {
          sound = f.sound;
          defs = walked_defs t can.scope ∙ f.defs;
          lower = (all_known (eval_in file) t).lower can.scope ∙ f.lower;
          sees = f.sees;
          agrees = a.agrees;
          serves = f.serves;
          good = a.good;
        };
        without_errors = second_of (none (walked t can.scope).type_errors) (none (in_order (map walked ts) (walked t can.scope).scope).type_errors)
            can.without_errors;
        keeps = second_of (stmt_keeps t M.kind) (all_keep (map stmt_keeps ts) M.kind) can.keeps;
      }

  split_off : (all : List Stmt) (i : ℕ) (t d : Stmt) → i < length all → t ≡ get_or all i d → drop i all ≡ t ∷ drop (i + 1) all
  split_off all i t d within here = drop_more all i d within ∙ ap (λ (x : Stmt). x ∷ drop (i + 1) all) (sym here)

  -- the next statement may be run
  pub next_steps : (all : List Stmt) (i : ℕ) (t d : Stmt) (env : Env) (s : M.Is) → i < length all → t ≡ get_or all i d →
      CanRun M file number (drop i all) env s → CanStep M file number t env s
  next_steps all i t d env s within here can =
      first_steps t (drop (i + 1) all) env s (subst (λ ts. CanRun M file number ts env s) (split_off all i t d within here) can)

  -- and those after it
  pub rest_runs : (all : List Stmt) (i : ℕ) (t d : Stmt) (at : ℕ) (env env' : Env) (s s' : M.Is) → i < length all → t ≡ get_or all i d →
      CanRun M file number (drop i all) env s → env' ≡ ((stmt_part M file t).run at env s).env → s' ≡ ((stmt_part M file t).run at env s).to →
      CanRun M file number (drop (i + 1) all) env' s'
  rest_runs all i t d at env env' s s' within here can e z =
      let o = (stmt_part M file t).run at env s in
      subst (λ x. CanRun M file number (drop (i + 1) all) x s') (sym e)
      (subst (λ x. CanRun M file number (drop (i + 1) all) o.env x) (sym z)
      (rest_made t (drop (i + 1) all) at env s (subst (λ ts. CanRun M file number ts env s) (split_off all i t d within here) can)))

  -- blocks inside others
  pub enter_runs : (b : Block) (env : Env) (s : M.Is) → CanEnter M file number b env s → CanRun M file number b.statements env s
  enter_runs b env s can = record {
    scope = can.scope;
    fits = can.fits;
    without_errors = first_of (none (in_order (map walked b.statements) can.scope).type_errors)
        (none (return_errors b.answer None (in_order (map walked b.statements) can.scope).scope)) can.without_errors;
    keeps = can.keeps;
  }

  enter_left : (b : Block) (i : ℕ) (env : Env) (s : M.Is) (can : CanEnter M file number b env s) →
      let o = (inside_part M file b).run i env s in After can.scope env o.env o.to
  unfolding enter_runs
  enter_left b i env s can =
      let a = order_left b.statements i env s (enter_runs b env s can) in
      let o = (order_part M file b.statements).run i env s in
      record {
        follows = follows_cut env o.env a.follows;
        agrees = agrees_after functions can.scope env o.env a.follows can.fits.agrees;
        good = a.good;
      }

  -- loops
  pub repeat_parts : (x : Name) (w n : Numeral) (b : Block) (env : Env) (s : M.Is) (can : CanRepeat M file number x w n b env s) →
      NumberParts (is_taken x.text can.scope) w n
  repeat_parts x w n b env s can =
      number_parts x (is_taken x.text can.scope) w n (first_of (none (number_errors x (is_taken x.text can.scope) w n))
      (none (block_errors b None (with_number x w can.scope))) can.without_errors)

  repeat_made : (x : Name) (w n : Numeral) (b : Block) (env : Env) (s : M.Is) (i : ℕ) → i < n.value → CanRepeat M file number x w n b env s →
      CanEnter M file number b (numbered x w i env) s
  repeat_made x w n b env s i below can =
      let parts = repeat_parts x w n b env s can in
      let f = can.fits in
      record {
        scope = with_number x w can.scope;
        fits = record {
          sound = f.sound;
          defs = local_defs x.text (word_shape w.value) false can.scope ∙ f.defs;
          lower = local_lower x.text (word_shape w.value) false can.scope ∙ f.lower;
          sees = f.sees;
          agrees = agrees_with_number functions can.scope (plain env) x w i f.agrees parts.free parts.fits (let most = parts.bound in omega arith);
          serves = f.serves;
          good = f.good;
        };
        without_errors = second_of (none (number_errors x (is_taken x.text can.scope) w n))
            (none (block_errors b None (with_number x w can.scope))) can.without_errors;
        keeps = can.keeps;
      }

  -- the block may be entered with a number
  pub repeat_enters : (x : Name) (w n : Numeral) (b : Block) (env pushed : Env) (s : M.Is) (i : ℕ) → i < n.value → pushed ≡ numbered x w i env →
      CanRepeat M file number x w n b env s → CanEnter M file number b pushed s
  repeat_enters x w n b env pushed s i below is can =
      subst (λ z. CanEnter M file number b z s) (sym is) (repeat_made x w n b env s i below can)

  -- and again after it
  pub repeat_again : (x : Name) (w n : Numeral) (b : Block) (env pushed inner after : Env) (s s' : M.Is) (i at : ℕ) → i < n.value →
      pushed ≡ numbered x w i env → CanRepeat M file number x w n b env s → inner ≡ ((inside_part M file b).run at pushed s).env →
      s' ≡ ((inside_part M file b).run at pushed s).to → after ≡ take (length env) inner → CanRepeat M file number x w n b after s'
  repeat_again x w n b env pushed inner after s s' i at below is can e z cut =
      let f = can.fits in
      let enter = repeat_made x w n b env s i below can in
      let o = (inside_part M file b).run at (numbered x w i env) s in
      let a = enter_left b at (numbered x w i env) s enter in
      let inner_is : inner ≡ o.env = e ∙ ap (λ p. ((inside_part M file b).run at p s).env) is in
      let state_is : s' ≡ o.to = z ∙ ap (λ p. ((inside_part M file b).run at p s).to) is in
      let agreed = agrees_after functions can.scope env o.env (follows_front env ((x.text, Word (word w.value i)) ∷ []) o.env a.follows) f.agrees in
      record {
        scope = can.scope;
        fits = record {
          sound = f.sound;
          defs = f.defs;
          lower = f.lower;
          sees = f.sees;
          agrees = subst (λ p. Agrees functions can.scope (plain p)) (sym (cut ∙ ap (take (length env)) inner_is)) agreed;
          serves = f.serves;
          good = subst M.Good (sym state_is) a.good;
        };
        without_errors = can.without_errors;
        keeps = can.keeps;
      }
