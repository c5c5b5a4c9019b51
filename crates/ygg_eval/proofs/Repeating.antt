-- The block of a loop, run for one number after another.
use Rattle.std.proofs.Common.{◌≡◌, ℕ, suc, ◌+◌, ◌-◌, ◌<◌, ◌≤◌, false, [], ◌∷◌, take, length, None, Option, Result, refl, sym, ◌∙◌, subst, arith}
use Rattle.ygg_list.specs.declared.memory.NoMemory.{NoMemory}
use Rattle.ygg_value.specs.Words.{word}
use Rattle.ygg_value.specs.declared.row.Value.TheVariants.{Word}
use Rattle.ygg_syntax.specs.declared.tree.Name.{Name}
use Rattle.ygg_syntax.specs.declared.tree.Numeral.{Numeral}
use Rattle.ygg_syntax.specs.declared.tree.Block.{Block}
use Rattle.ygg_syntax.specs.declared.tree.File.{File}
use Rattle.ygg_eval_expr.specs.ygg_type_rules.TypeErrors.{none}
use Rattle.ygg_eval_expr.specs.ygg_type_rules.Shapes.{word_shape}
use Rattle.ygg_eval_expr.specs.ygg_type_rules.Scopes.{is_taken}
use Rattle.ygg_eval_expr.specs.ygg_type_rules.Expressions.{with_number, number_errors}
use Rattle.ygg_eval_expr.specs.ygg_type_rules.Statements.{block_errors}
use Rattle.ygg_eval_expr.specs.ygg_meaning.Environments.{Env}
use Rattle.ygg_eval_expr.specs.ygg_meaning.Meaning.{functions_of}
use Rattle.ygg_eval_expr.specs.ygg_meaning.Progress.{and_then, forget_since, for_each}
use Rattle.ygg_eval_expr.specs.ygg_meaning_laws_proofs_Tests.{left as first_of, right as second_of}
use Rattle.ygg_eval_expr.specs.ygg_meaning_laws_proofs_Rules.{NumberParts, number_parts}
use Rattle.ygg_eval_expr.specs.ygg_meaning_laws_proofs_Steps.{agrees_with_number}
use Rattle.ygg_eval.specs.ygg_meaning_laws.Questions.{plain}
use Rattle.ygg_eval.specs.ygg_meaning_laws_proofs_Following.{follows_front, agrees_after}
use Rattle.ygg_eval.specs.declared.body.Stop.{Stop}
use Rattle.ygg_eval.specs.Lower.{Standing, Meaning}
use Rattle.ygg_eval.specs.declared.flow.Flow.{Flow}
use Rattle.ygg_eval.specs.BlockSteps.{Front, goes_on, Becomes, Ran}
use Rattle.ygg_eval.specs.Ready.{eval_in, numbered, inside_run, turn_run, CanEnter, CanRepeat}
use Rattle.ygg_eval.proofs.Leading.{becomes_same, ran_after, ran_within}
use Rattle.ygg_eval.proofs.Fitting.{local_defs, local_lower, enter_left}

module _ {S : Type 0} (M : Meaning S) (file : File) (number : ℕ) (stop : Option Stop) where
  -- what the number of a loop keeps to
  pub repeat_parts : (x : Name) (w n : Numeral) (b : Block) (env : Env) (at : Standing S) (can : CanRepeat M file number stop x w n b env at) →
      NumberParts (is_taken x.text can.scope) w n
  repeat_parts x w n b env at can =
      number_parts x (is_taken x.text can.scope) w n (first_of (none (number_errors x (is_taken x.text can.scope) w n))
      (none (block_errors b None (with_number x w can.scope))) can.without_errors)

  -- the block may be entered with a number
  pub repeat_enters : (x : Name) (w n : Numeral) (b : Block) (env : Env) (at : Standing S) (i : ℕ) → i < n.value →
      CanRepeat M file number stop x w n b env at → CanEnter M file number stop b (numbered x w i env) at
  repeat_enters x w n b env at i below can =
      let parts = repeat_parts x w n b env at can in
      let f = can.fits in
      record {
        kind = can.kind;
        scope = with_number x w can.scope;
        fits = record {
          sound = f.sound;
          defs = local_defs x.text (word_shape w.value) false can.scope ∙ f.defs;
          lower = local_lower x.text (word_shape w.value) false can.scope ∙ f.lower;
          agrees = agrees_with_number (functions_of file.defs) can.scope (plain env) x w i f.agrees parts.free parts.fits
              (let most = parts.bound in omega arith);
          serves = f.serves;
          stops = f.stops;
        };
        without_errors = second_of (none (number_errors x (is_taken x.text can.scope) w n))
            (none (block_errors b None (with_number x w can.scope))) can.without_errors;
        keeps = can.keeps;
      }

  -- and again after it
  pub repeat_again : (x : Name) (w n : Numeral) (b : Block) (env env' : Env) (at at' : Standing S) (l l' i : ℕ) → i < n.value →
      CanRepeat M file number stop x w n b env at
      → Becomes M file number stop (inside_run (eval_in file) b (numbered x w i env)) (goes_on env') at l at' l' →
      CanRepeat M file number stop x w n b (take (length env) env') at'
  repeat_again x w n b env env' at at' l l' i below can c =
      let f = can.fits in
      let left = enter_left M file number stop b (numbered x w i env) env' at at' l l' (repeat_enters x w n b env at i below can) c in
      record {
        kind = can.kind;
        scope = can.scope;
        fits = record {
          sound = f.sound;
          defs = f.defs;
          lower = f.lower;
          agrees = agrees_after (functions_of file.defs) can.scope env env'
              (follows_front env ((x.text, Word (word w.value i)) ∷ []) env' left.follows) f.agrees;
          serves = λ k. c.serves (f.serves k);
          stops = f.stops;
        };
        without_errors = can.without_errors;
        keeps = can.keeps;
      }

  -- a loop for so many numbers more, where the block was run for the first of them
  pub turn_ran : (x : Name) (w : Numeral) (b : Block) (count i : ℕ) (env env' : Env) (at to : Standing S) (l n : ℕ) {T : Type 0}
      (result : Result (Flow T) NoMemory)
      → Ran M file number stop (inside_run (eval_in file) b (numbered x w i env)) (λ (t : T). goes_on env') at l result to n
      → Ran M file number stop (for_each (suc count) i (turn_run (eval_in file) x w b) env)
      (λ (t : T). for_each count (i + 1) (turn_run (eval_in file) x w b) (take (length env) env')) at l result to n
  turn_ran x w b count i env env' at to l n {T} result r =
      let body = turn_run (eval_in file) x w b in
      let inner = ran_within M file number stop (forget_since env) (λ q. refl) (inside_run (eval_in file) b (numbered x w i env))
      (λ (t : T). goes_on env') at to l n result r in
      ran_within M file number stop (λ p. and_then p (for_each count (i + 1) body)) (λ q. refl)
      (λ answers. forget_since env (inside_run (eval_in file) b (numbered x w i env) answers))
      (λ (t : T) answers. forget_since env (goes_on env' answers)) at to l n result inner

  -- so many numbers are left
  pub left_over : (n i : ℕ) → i < n → n - i ≡ suc (n - (i + 1))
  left_over n i h = omega arith

  pub turn_next : (f : Front) (x : Name) (w n : Numeral) (b : Block) (i : ℕ) (env inner env' : Env) (from at to : Standing S) (l m k : ℕ) {T : Type 0}
      (result : Result (Flow T) NoMemory) → i < n.value → inner ≡ numbered x w i env
      → Becomes M file number stop f (for_each (n.value - i) i (turn_run (eval_in file) x w b) env) from l at m
      → Ran M file number stop (inside_run (eval_in file) b inner) (λ (t : T). goes_on env') at m result to k
      → Ran M file number stop f (λ (t : T). for_each (n.value - (i + 1)) (i + 1) (turn_run (eval_in file) x w b) (take (length env) env')) from l result to k
  turn_next f x w n b i env inner env' from at to l m k {T} result below pushed before r =
      let body = turn_run (eval_in file) x w b in
      let here = subst (λ (c : ℕ). Becomes M file number stop f (for_each c i body env) from l at m) (left_over n.value i below) before in
      ran_after M file number stop f (for_each (suc (n.value - (i + 1))) i body env)
      (λ (t : T). for_each (n.value - (i + 1)) (i + 1) body (take (length env) env')) from at to l m k result here
      (turn_ran x w b (n.value - (i + 1)) i env env' at to m k result
      (subst (λ (e : Env). Ran M file number stop (inside_run (eval_in file) b e) (λ (t : T). goes_on env') at m result to k) pushed r))

  -- before the first number, and after the last
  pub turns_begin : (x : Name) (w n : Numeral) (b : Block) (env : Env) (at : Standing S) (l : ℕ)
      → Becomes M file number stop (for_each n.value 0 (turn_run (eval_in file) x w b) env)
      (for_each (n.value - 0) 0 (turn_run (eval_in file) x w b) env) at l at l
  turns_begin x w n b env at l =
      let body = turn_run (eval_in file) x w b in
      let all : n.value ≡ n.value - 0 = omega arith in
      subst (λ (c : ℕ). Becomes M file number stop (for_each n.value 0 body env) (for_each c 0 body env) at l at l) all
      (becomes_same M file number stop (for_each n.value 0 body env) at l)

  pub turns_end : (f : Front) (x : Name) (w n : Numeral) (b : Block) (i : ℕ) (env : Env) (from to : Standing S) (l m : ℕ) → n.value ≤ i
      → Becomes M file number stop f (for_each (n.value - i) i (turn_run (eval_in file) x w b) env) from l to m →
      Becomes M file number stop f (goes_on env) from l to m
  turns_end f x w n b i env from to l m over before =
      let none : n.value - i ≡ 0 = omega arith in
      subst (λ (c : ℕ). Becomes M file number stop f (for_each c i (turn_run (eval_in file) x w b) env) from l to m) none before

  -- the same with the names as they are
  pub repeat_enters_at : (x : Name) (w n : Numeral) (b : Block) (env inner : Env) (at : Standing S) (i : ℕ) → i < n.value → inner ≡ numbered x w i env
      → CanRepeat M file number stop x w n b env at → CanEnter M file number stop b inner at
  repeat_enters_at x w n b env inner at i below pushed can =
      subst (λ (e : Env). CanEnter M file number stop b e at) (sym pushed) (repeat_enters x w n b env at i below can)

  pub repeat_again_at : (x : Name) (w n : Numeral) (b : Block) (env inner env' after : Env) (at at' : Standing S) (l l' i : ℕ) → i < n.value →
      inner ≡ numbered x w i env → take (length env) env' ≡ after → CanRepeat M file number stop x w n b env at
      → Becomes M file number stop (inside_run (eval_in file) b inner) (goes_on env') at l at' l' → CanRepeat M file number stop x w n b after at'
  repeat_again_at x w n b env inner env' after at at' l l' i below pushed cut can c =
      subst (λ (e : Env). CanRepeat M file number stop x w n b e at') cut
      (repeat_again x w n b env env' at at' l l' i below can
      (subst (λ (e : Env). Becomes M file number stop (inside_run (eval_in file) b e) (goes_on env') at l at' l') pushed c))
