-- More answers take a run of a block no other way.
use Rattle.std.proofs.Common.{◌≡◌, ℕ, zero, suc, ◌+◌, Bool, true, false, if◌then◌else◌, List, [], ◌∷◌, ◌++◌, map, refl, sym, ap, ◌∙◌, subst}
use Rattle.ygg_syntax.specs.declared.tree.Stmt.{Stmt, map-Stmt}
use Rattle.ygg_syntax.specs.declared.tree.Block.{Block, map-Block, fold-Block}
use Rattle.ygg_syntax.specs.declared.tree.Stmt.TheOpen.{Stmt-F, Block-F}
use Rattle.ygg_syntax.specs.declared.tree.Stmt.TheFolds.{ind-Stmt, fold-roll-Stmt, fold-roll-Block}
use Rattle.ygg_syntax.specs.declared.tree.Source.{Source}
use Rattle.ygg_syntax.specs.declared.tree.Source.TheVariants as source
use Rattle.ygg_value.specs.declared.row.Value.{Value}
use Rattle.ygg_meaning.specs.Environments.{Env}
use Rattle.ygg_meaning.specs.Meaning.{is_one}
use Rattle.ygg_meaning.specs.Progress.{
  Eval,
  Run,
  Answer,
  Point,
  Waits,
  Goes,
  Question,
  and_then,
  forget_since,
  in_turn,
  for_each,
  from_source,
  ask,
  Choice,
  Asks,
  ended,
  after,
  stmt_run,
  block_run,
  run_of,
}

-- where the first point goes on, the second goes on so with more answers left
abbrev pub Grows : List Answer → Point → Point → Type 0
Grows more p p' = (env : Env) (left : List Answer) → p ≡ Goes env left → p' ≡ Goes env (left ++ more)

-- where a run goes on, it goes on so with more answers, and leaves them
abbrev pub Extends : Run → Type 0
Extends r = (env : Env) (answers more : List Answer) → Grows more (r env answers) (r env (answers ++ more))

abbrev with_more : List Answer → Point → Point
with_more more (Waits q) = Waits q
with_more more (Goes env left) = Goes env (left ++ more)

pub goes_grows : (more : List Answer) (env : Env) (left : List Answer) → Grows more (Goes env left) (Goes env (left ++ more))
goes_grows more env left env' left' h = ap (with_more more) h

pub waits_grow : (more : List Answer) (q : Question) (p : Point) → Grows more (Waits q) p
waits_grow more q p env left h = absurd (cc)

pub then_grows : (more : List Answer) (p p' : Point) (next : Run) → Grows more p p' → Extends next → Grows more (and_then p next) (and_then p' next)
then_grows more (Waits q) p' next g n = waits_grow more q _
then_grows more (Goes env left) p' next g n = λ env' left' h. ap (λ x. and_then x next) (g env left refl) ∙ n env left more env' left' h

pub forget_grows : (more : List Answer) (before : Env) (p p' : Point) → Grows more p p' → Grows more (forget_since before p) (forget_since before p')
forget_grows more before (Waits q) p' g = waits_grow more q _
forget_grows more before (Goes env left) p' g = λ env' left' h. ap (forget_since before) (g env left refl) ∙ ap (with_more more) h

pub if_grows : (more : List Answer) (b : Bool) (p q p' q' : Point) → Grows more p p' → Grows more q q' → Grows more (if b then p else q) (if b then p' else q')
if_grows more true p q p' q' f g = f
if_grows more false p q p' q' f g = g

pub ask_grows : (more : List Answer) (q : Question) (answers : List Answer) (next : Answer → List Answer → Point) →
    ((a : Answer) (left : List Answer) → Grows more (next a left) (next a (left ++ more))) → Grows more (ask q answers next) (ask q (answers ++ more) next)
ask_grows more q [] next g = waits_grow more q _
ask_grows more q (a ∷ left) next g = g a left

pub turns_extend : (count i : ℕ) (body : ℕ → Run) → ((i : ℕ) → Extends (body i)) → Extends (for_each count i body)
turns_extend zero i body e env answers more = goes_grows more env answers
turns_extend (suc count) i body e env answers more = then_grows more _ _ _ (e i env answers more) (turns_extend count (i + 1) body e)

pub source_grows : (eval : Eval) (s : Source) (env : Env) (f : Value → Env) (answers more : List Answer) →
    Grows more (from_source eval s env answers (λ v left. Goes (f v) left)) (from_source eval s env (answers ++ more) (λ v left. Goes (f v) left))
source_grows eval (source.Value e) env f answers more = goes_grows more (f (eval e env)) answers
source_grows eval (source.Choose at) env f answers more = ask_grows more Choice answers _ (λ a left. goes_grows more _ left)
source_grows eval (source.Call at g args) env f answers more = ask_grows more _ answers _ (λ a left. goes_grows more _ left)

module _ (eval : Eval) where
  abbrev R : Stmt → Run
  R = run_of eval

  abbrev R' : Block → Run
  R' = fold-Block Run Run (stmt_run eval) block_run

  abbrev S : Type 0
  S = (s : Stmt) × Extends (R s)

  abbrev B : Type 0
  B = (b : Block) × Extends (R' b)

  stmt_case : (y : Stmt-F S B) → Extends (stmt_run eval (map-Stmt Stmt Block Run Run R R' (map-Stmt S B Stmt Block (λ e. e.0) (λ e. e.0) y)))
  stmt_case (Stmt-F.Let x s) env answers more = source_grows eval s env _ answers more
  stmt_case (Stmt-F.Assign x at s) env answers more = source_grows eval s env _ answers more
  stmt_case (Stmt-F.If test first second) env answers more =
      if_grows more (is_one (eval test env)) _ _ _ _ (first.1 env answers more) (second.1 env answers more)
  stmt_case (Stmt-F.For x w n each) env answers more =
      turns_extend n.value 0 _ (λ i env answers more. forget_grows more env _ _ (each.1 _ answers more)) env answers more
  stmt_case (Stmt-F.Call f args) env answers more = ask_grows more _ answers _ (λ a left. goes_grows more env left)

  in_turn_extends : (ss : List S) → Extends (in_turn (map R (map (λ e. e.0) ss)))
  in_turn_extends [] env answers more = goes_grows more env answers
  in_turn_extends (s ∷ ss) env answers more = then_grows more _ _ _ (s.1 env answers more) (in_turn_extends ss)

  block_case : (y : Block-F S B) → Extends (block_run (map-Block Stmt Block Run Run R R' (map-Block S B Stmt Block (λ e. e.0) (λ e. e.0) y)))
  block_case y env answers more = forget_grows more env _ _ (in_turn_extends y.statements env answers more)

  pub all_extend : (s : Stmt) → Extends (R s)
  all_extend =
      ind-Stmt (λ s. Extends (R s)) (λ b. Extends (R' b))
      (λ x y is. subst Extends (sym (fold-roll-Stmt Run Run (stmt_run eval) block_run x))
      (subst (λ z. Extends (stmt_run eval (map-Stmt Stmt Block Run Run R R' z))) is (stmt_case y)))
      (λ x y is. subst Extends (sym (fold-roll-Block Run Run (stmt_run eval) block_run x))
      (subst (λ z. Extends (block_run (map-Block Stmt Block Run Run R R' z))) is (block_case y)))

  pub statements_extend : (ss : List Stmt) → Extends (in_turn (map R ss))
  statements_extend [] env answers more = goes_grows more env answers
  statements_extend (s ∷ ss) env answers more = then_grows more _ _ _ (all_extend s env answers more) (statements_extend ss)

-- what a block asks after one more answer, it asks after it has asked
asks_before : (eval : Eval) (b : Block) (env : Env) (p p' : Point) (a : Answer) (q : Question) → Grows (a ∷ []) p p' →
    ended eval b.answer env p' ≡ Asks q → (q' : Question) × (ended eval b.answer env p ≡ Asks q')
asks_before eval b env (Waits q') p' a q g h = (q', refl)
asks_before eval b env (Goes env' left) p' a q g h = absurd (goes_on left (sym (ap (ended eval b.answer env) (g env' left refl)) ∙ h))
  where
    goes_on : (left : List Answer) → ended eval b.answer env (Goes env' (left ++ a ∷ [])) ≡ Asks q → ⊥
    goes_on [] e = cc
    goes_on (x ∷ left) e = cc

pub answers_in_order : (eval : Eval) (b : Block) (env : Env) (answers : List Answer) (a : Answer) (q : Question) →
    after eval b env (answers ++ a ∷ []) ≡ Asks q → (p : Question) × (after eval b env answers ≡ Asks p)
answers_in_order eval b env answers a q h =
    asks_before eval b env _ _ a q (statements_extend eval b.statements env answers (a ∷ [])) h
