-- A run of a block uses the front of its answers.
use Rattle.std.proofs.Common.{◌≡◌, ℕ, zero, suc, ◌+◌, Bool, true, false, if◌then◌else◌, List, [], ◌∷◌, ◌++◌, map, refl, sym, ap, ◌∙◌, subst, append_assoc}
use Rattle.ygg_syntax.specs.declared.tree.Stmt.{Stmt, map-Stmt}
use Rattle.ygg_syntax.specs.declared.tree.Block.{Block, map-Block, fold-Block}
use Rattle.ygg_syntax.specs.declared.tree.Stmt.TheOpen.{Stmt-F, Block-F}
use Rattle.ygg_syntax.specs.declared.tree.Stmt.TheFolds.{ind-Stmt, fold-roll-Stmt, fold-roll-Block}
use Rattle.ygg_syntax.specs.declared.tree.Source.{Source}
use Rattle.ygg_syntax.specs.declared.tree.Source.TheVariants as source
use Rattle.ygg_value.specs.declared.row.Value.{Value}
use Rattle.ygg_meaning.specs.Environments.{Env}
use Rattle.ygg_meaning.specs.Meaning.{is_one}
use Rattle.ygg_meaning.specs.Progress.{
  Eval,
  Run,
  Answer,
  Point,
  Waits,
  Goes,
  Question,
  and_then,
  forget_since,
  in_turn,
  for_each,
  from_source,
  ask,
  stmt_run,
  block_run,
  run_of,
}
use Rattle.ygg_meaning.proofs.Extends.{Grows, Extends, then_grows, forget_grows, if_grows, ask_grows, turns_extend, source_grows, goes_grows}

-- some answers in front, with which alone it goes on in the same way
pub record Used (f : List Answer → Point) (answers : List Answer) (env : Env) (left : List Answer) : Type 0 where
  pub front : List Answer
  pub is : answers ≡ front ++ left
  pub goes : f front ≡ Goes env []

abbrev pub UsesFront : (List Answer → Point) → Type 0
UsesFront f = (answers : List Answer) (env : Env) (left : List Answer) → f answers ≡ Goes env left → Used f answers env left

abbrev pub Uses : Run → Type 0
Uses r = (env : Env) → UsesFront (r env)

abbrev env_at : Env → Point → Env
env_at d (Waits q) = d
env_at d (Goes env left) = env

abbrev left_at : Point → List Answer
left_at (Waits q) = []
left_at (Goes env left) = left

abbrev all_used : Point → Point
all_used (Waits q) = Waits q
all_used (Goes env left) = Goes env []

goes_uses : (env : Env) → UsesFront (λ answers. Goes env answers)
goes_uses env answers env' left h = record { front = []; is = ap left_at h; goes = ap all_used h }

ask_uses : (q : Question) (f : Answer → Env) → UsesFront (λ answers. ask q answers (λ a left. Goes (f a) left))
ask_uses q f [] env' left h = absurd (cc)
ask_uses q f (a ∷ rest) env' left h = record { front = a ∷ []; is = ap (λ x. a ∷ left_at x) h; goes = ap all_used h }

if_uses : (b : Bool) (f g : List Answer → Point) → UsesFront f → UsesFront g → UsesFront (λ answers. if b then f answers else g answers)
if_uses true f g u v = u
if_uses false f g u v = v

forget_uses : (before : Env) (f : List Answer → Point) → UsesFront f → UsesFront (λ answers. forget_since before (f answers))
forget_uses before f u answers env' left h = at (f answers) refl h
  where
    at : (p : Point) → f answers ≡ p → forget_since before p ≡ Goes env' left → Used (λ answers. forget_since before (f answers)) answers env' left
    at (Waits q) e h = absurd (cc)
    at (Goes env1 left1) e h =
        let x = u answers env1 left1 e in
        record { front = x.front; is = x.is ∙ ap (λ l. x.front ++ left_at l) h; goes = ap (forget_since before) x.goes ∙ ap all_used h }

then_uses : (f : List Answer → Point) (next : Run) → ((answers more : List Answer) → Grows more (f answers) (f (answers ++ more))) → UsesFront f → Uses next →
    UsesFront (λ answers. and_then (f answers) next)
then_uses f next grows u v answers env' left h = at (f answers) refl h
  where
    at : (p : Point) → f answers ≡ p → and_then p next ≡ Goes env' left → Used (λ answers. and_then (f answers) next) answers env' left
    at (Waits q) e h = absurd (cc)
    at (Goes env1 left1) e h =
        let x = u answers env1 left1 e in
        let y = v env1 left1 env' left h in
        record {
          front = x.front ++ y.front;
          is = x.is ∙ ap (λ l. x.front ++ l) y.is ∙ sym (append_assoc x.front y.front left);
          goes = ap (λ p. and_then p next) (grows x.front y.front env1 [] x.goes) ∙ y.goes;
        }

pub record Good (r : Run) : Type 0 where
  pub extends : Extends r
  pub uses : Uses r

turns_use : (count i : ℕ) (body : ℕ → Run) → ((i : ℕ) → Good (body i)) → Uses (for_each count i body)
turns_use zero i body g env = goes_uses env
turns_use (suc count) i body g env = then_uses (body i env) (for_each count (i + 1) body) ((g i).extends env) ((g i).uses env) (turns_use count (i + 1) body g)

source_uses : (eval : Eval) (s : Source) (env : Env) (f : Value → Env) → UsesFront (λ answers. from_source eval s env answers (λ v left. Goes (f v) left))
source_uses eval (source.Value e) env f = goes_uses (f (eval e env))
source_uses eval (source.Choose at) env f = ask_uses _ _
source_uses eval (source.Call at g args) env f = ask_uses _ _

module _ (eval : Eval) where
  abbrev R : Stmt → Run
  R = run_of eval

  abbrev R' : Block → Run
  R' = fold-Block Run Run (stmt_run eval) block_run

  abbrev S : Type 0
  S = (s : Stmt) × Good (R s)

  abbrev B : Type 0
  B = (b : Block) × Good (R' b)

  stmt_good : (y : Stmt-F S B) → Good (stmt_run eval (map-Stmt Stmt Block Run Run R R' (map-Stmt S B Stmt Block (λ e. e.0) (λ e. e.0) y)))
  stmt_good (Stmt-F.Let x s) = record { extends = λ env answers more. source_grows eval s env _ answers more; uses = λ env. source_uses eval s env _ }
  stmt_good (Stmt-F.Assign x at s) = record { extends = λ env answers more. source_grows eval s env _ answers more; uses = λ env. source_uses eval s env _ }
  stmt_good (Stmt-F.If test first second) = record {
    extends = λ env answers more. if_grows more (is_one (eval test env)) _ _ _ _ (first.1.extends env answers more) (second.1.extends env answers more);
    uses = λ env. if_uses (is_one (eval test env)) _ _ (first.1.uses env) (second.1.uses env);
  }
  stmt_good (Stmt-F.For x w n each) =
      let body_good : (i : ℕ) → Good _ = λ i. record {
        extends = λ env answers more. forget_grows more env _ _ (each.1.extends _ answers more);
        uses = λ env. forget_uses env _ (each.1.uses _);
      } in record {
        extends = λ env answers more. turns_extend n.value 0 _ (λ i. (body_good i).extends) env answers more;
        uses = λ env. turns_use n.value 0 _ body_good env;
      }
  stmt_good (Stmt-F.Call f args) = record {
    extends = λ env answers more. ask_grows more _ answers _ (λ a left. goes_grows more env left);
    uses =
        λ env. ask_uses _ _;
  }

  in_turn_good : (ss : List S) → Good (in_turn (map R (map (λ e. e.0) ss)))
  in_turn_good [] = record { extends = λ env answers more. goes_grows more env answers; uses = goes_uses }
  in_turn_good (s ∷ ss) =
      let rest = in_turn_good ss in record {
        extends = λ env answers more. then_grows more _ _ _ (s.1.extends env answers more) rest.extends;
        uses = λ env. then_uses _ _ (s.1.extends env) (s.1.uses env) rest.uses;
      }

  block_good : (y : Block-F S B) → Good (block_run (map-Block Stmt Block Run Run R R' (map-Block S B Stmt Block (λ e. e.0) (λ e. e.0) y)))
  block_good y =
      let inside = in_turn_good y.statements in record {
        extends = λ env answers more. forget_grows more env _ _ (inside.extends env answers more);
        uses = λ env. forget_uses env _ (inside.uses env);
      }

  pub all_good : (s : Stmt) → Good (R s)
  all_good =
      ind-Stmt (λ s. Good (R s)) (λ b. Good (R' b))
      (λ x y is. subst Good (sym (fold-roll-Stmt Run Run (stmt_run eval) block_run x))
      (subst (λ z. Good (stmt_run eval (map-Stmt Stmt Block Run Run R R' z))) is (stmt_good y)))
      (λ x y is. subst Good (sym (fold-roll-Block Run Run (stmt_run eval) block_run x))
      (subst (λ z. Good (block_run (map-Block Stmt Block Run Run R R' z))) is (block_good y)))

  pub statements_good : (ss : List Stmt) → Good (in_turn (map R ss))
  statements_good [] = record { extends = λ env answers more. goes_grows more env answers; uses = goes_uses }
  statements_good (s ∷ ss) =
      let rest = statements_good ss in let here = all_good s in record {
        extends = λ env answers more. then_grows more _ _ _ (here.extends env answers more) rest.extends;
        uses = λ env. then_uses _ _ (here.extends env) (here.uses env) rest.uses;
      }
