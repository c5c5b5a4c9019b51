-- A block that makes no call ends, where it is given answers enough.
use Rattle.std.proofs.Common.{◌≡◌, ℕ, zero, suc, ◌+◌, ◌≤◌, Bool, true, false, if◌then◌else◌, List, [], ◌∷◌, map, take, length, refl, sym, ap, ◌∙◌, subst, arith}
use Rattle.ygg_syntax.specs.declared.grammar.BlockKind.{BlockKind}
use Rattle.ygg_syntax.specs.declared.tree.Source.{Source}
use Rattle.ygg_syntax.specs.declared.tree.Source.TheVariants as source
use Rattle.ygg_syntax.specs.declared.tree.Stmt.{Stmt, roll-Stmt, map-Stmt}
use Rattle.ygg_syntax.specs.declared.tree.Block.{Block, roll-Block, map-Block, fold-Block}
use Rattle.ygg_syntax.specs.declared.tree.Stmt.TheOpen.{Stmt-F, Block-F}
use Rattle.ygg_syntax.specs.declared.tree.Stmt.TheFolds.{ind-Stmt, fold-roll-Stmt, fold-roll-Block}
use Rattle.ygg_value.specs.declared.row.Value.{Value}
use Rattle.ygg_meaning.specs.Environments.{Env}
use Rattle.ygg_meaning.specs.Meaning.{is_one}
use Rattle.ygg_meaning.specs.Progress.{
  Eval,
  Run,
  Answer,
  Point,
  Goes,
  Question,
  Choice,
  and_then,
  forget_since,
  in_turn,
  for_each,
  from_source,
  ask,
  stmt_run,
  block_run,
  run_of,
}
use Rattle.ygg_meaning_laws.proofs.Tests.{left as first_of, right as second_of}
use Rattle.ygg_meaning_laws.specs.Kinds.{may_call, source_keeps, all_keep, node_keeps, node_all_keep, stmt_keeps}

-- no test both passes and fails
pub never : {A : Type 0} (b : Bool) → b ≡ true → b ≡ false → A
never true e f = absurd (cc)
never false e f = absurd (cc)

-- it goes on, and leaves so many answers at least
pub record Gone (p : Point) (spare : ℕ) : Type 0 where
  pub env : Env
  pub left : List Answer
  pub is : p ≡ Goes env left
  pub enough : spare ≤ length left

-- with so many answers, and any number more, a run goes on
abbrev pub Enough : ℕ → Run → Type 0
Enough n r = (env : Env) (answers : List Answer) (spare : ℕ) → n + spare ≤ length answers → Gone (r env answers) spare

-- some number of answers is enough
pub record Ends (r : Run) : Type 0 where
  pub needs : ℕ
  pub ends : Enough needs r

goes_gone : (env : Env) (answers : List Answer) (spare : ℕ) → 0 + spare ≤ length answers → Gone (Goes env answers) spare
goes_gone env answers spare h = record { env = env; left = answers; is = refl; enough = omega arith }

ask_gone : (q : Question) (f : Answer → Env) (answers : List Answer) (spare : ℕ) → 1 + spare ≤ length answers →
    Gone (ask q answers (λ a left. Goes (f a) left)) spare
ask_gone q f [] spare h = absurd (omega arith)
ask_gone q f (a ∷ left) spare h = record { env = f a; left = left; is = refl; enough = omega arith }

forget_gone : (before : Env) (p : Point) (spare : ℕ) → Gone p spare → Gone (forget_since before p) spare
forget_gone before p spare g = record { env = take (length before) g.env; left = g.left; is = ap (forget_since before) g.is; enough = g.enough }

then_gone : (p : Point) (next : Run) (m spare : ℕ) → Gone p (m + spare) → Enough m next → Gone (and_then p next) spare
then_gone p next m spare g e =
    let h = e g.env g.left spare g.enough in
    record { env = h.env; left = h.left; is = ap (λ x. and_then x next) g.is ∙ h.is; enough = h.enough }

then_ends : (r next : Run) → Ends r → Ends next → Ends (λ env answers. and_then (r env answers) next)
then_ends r next e f = record {
  needs = e.needs + f.needs;
  ends = λ env answers spare h. then_gone (r env answers) next f.needs spare (e.ends env answers (f.needs + spare) (omega arith)) f.ends;
}

turns_end : (count i : ℕ) (body : ℕ → Run) (n : ℕ) → ((i : ℕ) → Enough n (body i)) → Ends (for_each count i body)
turns_end zero i body n e = record { needs = 0; ends = goes_gone }
turns_end (suc count) i body n e =
    let rest = turns_end count (i + 1) body n e in record {
      needs = n + rest.needs;
      ends = λ env answers spare h. then_gone (body i env answers) (for_each count (i + 1) body) rest.needs spare
          (e i env answers (rest.needs + spare) (omega arith)) rest.ends;
    }

if_gone : (b : Bool) (p q : Point) (spare : ℕ) → Gone p spare → Gone q spare → Gone (if b then p else q) spare
if_gone true p q spare g h = g
if_gone false p q spare g h = h

-- a right side that may not call
pub record SourceEnds (eval : Eval) (s : Source) : Type 0 where
  pub needs : ℕ
  pub ends : (env : Env) (f : Value → Env) (answers : List Answer) (spare : ℕ) → needs + spare ≤ length answers →
      Gone (from_source eval s env answers (λ v left. Goes (f v) left)) spare

source_ends : (eval : Eval) (kind : BlockKind) (s : Source) → may_call kind ≡ false → source_keeps kind s ≡ true → SourceEnds eval s
source_ends eval kind (source.Value e) quiet k = record { needs = 0; ends = λ env f answers spare h. goes_gone (f (eval e env)) answers spare h }
source_ends eval kind (source.Choose at) quiet k = record { needs = 1; ends = λ env f answers spare h. ask_gone Choice _ answers spare h }
source_ends eval kind (source.Call at g es) quiet k = never (may_call kind) k quiet

-- what keeps to a kind that may not call ends
pub record EndsIn (k : BlockKind → Bool) (r : Run) : Type 0 where
  pub within : (kind : BlockKind) → may_call kind ≡ false → k kind ≡ true → Ends r

module _ (eval : Eval) where
  abbrev R : Stmt → Run
  R = run_of eval

  abbrev R' : Block → Run
  R' = fold-Block Run Run (stmt_run eval) block_run

  abbrev K' : Block → BlockKind → Bool
  K' = fold-Block (BlockKind → Bool) (BlockKind → Bool) node_keeps node_all_keep

  abbrev S : Type 0
  S = (s : Stmt) × EndsIn (stmt_keeps s) (R s)

  abbrev B : Type 0
  B = (b : Block) × EndsIn (K' b) (R' b)

  stmt_case : (y : Stmt-F S B) →
      EndsIn (node_keeps (map-Stmt Stmt Block (BlockKind → Bool) (BlockKind → Bool) stmt_keeps K' (map-Stmt S B Stmt Block (λ e. e.0) (λ e. e.0) y)))
      (stmt_run eval (map-Stmt Stmt Block Run Run R R' (map-Stmt S B Stmt Block (λ e. e.0) (λ e. e.0) y)))
  stmt_case (Stmt-F.Let x s) = record {
    within = λ kind quiet k. let e = source_ends eval kind s quiet k in
        record { needs = e.needs; ends = λ env answers spare h. e.ends env _ answers spare h };
  }
  stmt_case (Stmt-F.Assign x at s) = record {
    within = λ kind quiet k. let e = source_ends eval kind s quiet k in
        record { needs = e.needs; ends = λ env answers spare h. e.ends env _ answers spare h };
  }
  stmt_case (Stmt-F.If test first second) = record {
    within = λ kind quiet k.
        let e = first.1.within kind quiet (first_of (K' first.0 kind) (K' second.0 kind) k) in
        let f = second.1.within kind quiet (second_of (K' first.0 kind) (K' second.0 kind) k) in
        record {
          needs = e.needs + f.needs;
          ends = λ env answers spare h. if_gone (is_one (eval test env)) _ _ spare
              (less e.needs (f.needs + spare) _ spare (e.ends env answers (f.needs + spare) (omega arith)) (omega arith))
              (less f.needs (e.needs + spare) _ spare (f.ends env answers (e.needs + spare) (omega arith)) (omega arith));
        };
  }
    where
      less : (n more : ℕ) (p : Point) (spare : ℕ) → Gone p more → spare ≤ more → Gone p spare
      less n more p spare g h = let e = g.enough in record { env = g.env; left = g.left; is = g.is; enough = omega arith }
  stmt_case (Stmt-F.For x w n each) = record {
    within = λ kind quiet k.
        let e = each.1.within kind quiet k in
        let t = turns_end n.value 0 _ e.needs (λ i env answers spare h. forget_gone env _ spare (e.ends _ answers spare h)) in
        record { needs = t.needs; ends = λ env answers spare h. t.ends env answers spare h };
  }
  stmt_case (Stmt-F.Call f es) = record { within = λ kind quiet k. never (may_call kind) k quiet }

  turns_case : (ss : List S) → EndsIn (all_keep (map stmt_keeps (map (λ e. e.0) ss))) (in_turn (map R (map (λ e. e.0) ss)))
  turns_case [] = record { within = λ kind quiet k. record { needs = 0; ends = goes_gone } }
  turns_case (s ∷ ss) = record {
    within = λ kind quiet k.
        then_ends (R s.0) _ (s.1.within kind quiet (first_of (stmt_keeps s.0 kind) _ k))
        ((turns_case ss).within kind quiet (second_of (stmt_keeps s.0 kind) _ k));
  }

  block_case : (y : Block-F S B) →
      EndsIn (node_all_keep (map-Block Stmt Block (BlockKind → Bool) (BlockKind → Bool) stmt_keeps K' (map-Block S B Stmt Block (λ e. e.0) (λ e. e.0) y)))
      (block_run (map-Block Stmt Block Run Run R R' (map-Block S B Stmt Block (λ e. e.0) (λ e. e.0) y)))
  block_case y = record {
    within = λ kind quiet k.
        let e = (turns_case y.statements).within kind quiet k in
        record { needs = e.needs; ends = λ env answers spare h. forget_gone env _ spare (e.ends env answers spare h) };
  }

  pub all_end : (s : Stmt) → EndsIn (stmt_keeps s) (R s)
  all_end =
      ind-Stmt (λ s. EndsIn (stmt_keeps s) (R s)) (λ b. EndsIn (K' b) (R' b))
      (λ x y is.
      subst (λ k. EndsIn k (R (roll-Stmt x))) (sym (fold-roll-Stmt (BlockKind → Bool) (BlockKind → Bool) node_keeps node_all_keep x))
      (subst (λ r. EndsIn (node_keeps (map-Stmt Stmt Block (BlockKind → Bool) (BlockKind → Bool) stmt_keeps K' x)) r)
      (sym (fold-roll-Stmt Run Run (stmt_run eval) block_run x))
      (subst (λ z. EndsIn (node_keeps (map-Stmt Stmt Block (BlockKind → Bool) (BlockKind → Bool) stmt_keeps K' z))
      (stmt_run eval (map-Stmt Stmt Block Run Run R R' z))) is (stmt_case y))))
      (λ x y is.
      subst (λ k. EndsIn k (R' (roll-Block x))) (sym (fold-roll-Block (BlockKind → Bool) (BlockKind → Bool) node_keeps node_all_keep x))
      (subst (λ r. EndsIn (node_all_keep (map-Block Stmt Block (BlockKind → Bool) (BlockKind → Bool) stmt_keeps K' x)) r)
      (sym (fold-roll-Block Run Run (stmt_run eval) block_run x))
      (subst (λ z. EndsIn (node_all_keep (map-Block Stmt Block (BlockKind → Bool) (BlockKind → Bool) stmt_keeps K' z))
      (block_run (map-Block Stmt Block Run Run R R' z))) is (block_case y))))

  -- statements that keep to a kind that may not call end
  pub statements_end : (ss : List Stmt) (kind : BlockKind) → may_call kind ≡ false → all_keep (map stmt_keeps ss) kind ≡ true → Ends (in_turn (map R ss))
  statements_end [] kind quiet k = record { needs = 0; ends = goes_gone }
  statements_end (s ∷ ss) kind quiet k =
      then_ends (R s) _ ((all_end s).within kind quiet (first_of (stmt_keeps s kind) _ k)) (statements_end ss kind quiet (second_of (stmt_keeps s kind) _ k))
