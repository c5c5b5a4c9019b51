-- A block that runs over terms: both sides of each `if` are run, and what they leave is merged.
use Rattle.std.specs.Prelude.{ℕ, zero, suc, ◌+◌, ◌*◌, if◌then◌else◌, List, [], ◌∷◌, ◌++◌, map, length, take, Option, Some, None}
use Rattle.std.specs.Str.{bytes_eq}
use Rattle.ygg_syntax.specs.declared.tree.Expr.{Expr}
use Rattle.ygg_syntax.specs.declared.tree.Index.{Index}
use Rattle.ygg_syntax.specs.declared.tree.Source.{Source}
use Rattle.ygg_syntax.specs.declared.tree.Source.TheVariants as source
use Rattle.ygg_syntax.specs.declared.tree.Stmt.{Stmt}
use Rattle.ygg_syntax.specs.declared.tree.Block.{Block}
use Rattle.ygg_syntax.specs.declared.tree.Stmt.TheOpen.{Stmt-F, Block-F}
use Rattle.ygg_syntax.specs.declared.tree.Stmt.TheFolds.{fold-Stmt}
use Rattle.ygg_meaning_laws.specs.ygg_meaning.Environments.{Name}
use Rattle.ygg_sym_runs.specs.ygg_rules.declared.rule.RuleKind.{RuleKind}
use Rattle.ygg_sym_runs.specs.ygg_bank.Makes.{Make, pure, and_make}
use Rattle.ygg_sym_runs.specs.ygg_bank.declared.node.Id.{Id}
use Rattle.ygg_sym_runs.specs.ygg_shape_cells.Making.{merged}
use Rattle.ygg_sym_runs.specs.ygg_shape_cells.declared.terms.SymValue.{SymValue}
use Rattle.ygg_meaning_laws.specs.Direct.{total, source_space}
use Rattle.ygg_sym_runs.specs.Names.{SymEnv, SymScope, no_term}
use Rattle.ygg_sym_runs.specs.Exprs.{SymFunctions, id_in, all_made, number_made, sym_value}
use Rattle.ygg_sym_runs.specs.Putting.{put_made}

-- what a block waits for: a choice, or the answer of a call
pub data SymQuestion : Type 0 where
  Choice : SymQuestion
  Call : (name : Name) (args : List SymValue) → SymQuestion

-- what a machine answers, and its state after that
pub record SymHandled (S : Type 0) : Type 0 where
  pub answer : Option SymValue
  pub to : S

-- names with values, and the state of the machine below
pub record SymState (S : Type 0) : Type 0 where
  pub env : SymEnv
  pub to : S

-- the value of a right side, and the state of the machine below after it
pub record SymGot (S : Type 0) : Type 0 where
  pub value : SymValue
  pub to : S

-- how many places a part has, and its run from a place on
pub record SymRun (S : Type 0) : Type 0 where
  pub room : ℕ
  pub run : ℕ → SymEnv → S → Make (SymState S)

-- a machine over terms: one of two states by a test, how many places a call has, and what is done at a place with a question
pub record SymMachine (S : Type 0) : Type 0 where
  pub merge : Id → S → S → Make S
  pub space : Name → ℕ
  pub handle : ℕ → SymQuestion → S → Make (SymHandled S)

-- the first variable of this name is changed
abbrev pub sym_change : Name → (SymValue → Make SymValue) → SymEnv → Make SymEnv
sym_change name f [] = pure []
sym_change name f (b ∷ env) =
    if bytes_eq b.0 name then and_make (f b.1) (λ x. pure ((b.0, x) ∷ env)) else and_make (sym_change name f env) (λ rest. pure (b ∷ rest))

-- the value of an answer; none, which no typed file uses, counts as the first term
abbrev pub sym_answer : Option SymValue → SymValue
sym_answer None = no_term
sym_answer (Some x) = x

-- what the expressions of a block see
abbrev pub plain_scope : SymEnv → SymScope
plain_scope env = record { own = env; low = [] }

-- the expressions of indices
abbrev pub places_of : List Index → List Expr
places_of = map (λ (i : Index). i.at)

module _ {S : Type 0} where
  -- names and a state together
  abbrev pub state : SymEnv → S → SymState S
  state env s = record { env = env; to = s }

  -- the names that are new since so many are forgotten
  abbrev pub sym_forget : ℕ → SymState S → Make (SymState S)
  sym_forget n z = pure (state (take n z.env) z.to)

  -- a block that is run for count numbers, from k on, each time at places of its own
  abbrev pub sym_times : ℕ → ℕ → ℕ → (ℕ → ℕ → SymEnv → S → Make (SymState S)) → ℕ → SymEnv → S → Make (SymState S)
  sym_times zero k room body i env s = pure (state env s)
  sym_times (suc count) k room body i env s = and_make (body k i env s) (λ z. sym_times count (k + 1) room body (i + room) z.env z.to)

  -- the parts in turn
  abbrev pub sym_in_order : List (SymRun S) → ℕ → SymEnv → S → Make (SymState S)
  sym_in_order [] i env s = pure (state env s)
  sym_in_order (r ∷ rs) i env s = and_make (r.run i env s) (λ z. sym_in_order rs (i + r.room) z.env z.to)

  module _ (kinds : List RuleKind) (terms : SymFunctions) (M : SymMachine S) where
    -- the values of expressions
    abbrev pub sym_values : List Expr → SymEnv → Make (List SymValue)
    sym_values es env = all_made (map (sym_value kinds terms) es) (plain_scope env)

    -- a question at a place
    abbrev pub sym_asks : ℕ → SymQuestion → S → Make (SymGot S)
    sym_asks i q s = and_make (M.handle i q s) (λ h. pure (record { value = sym_answer h.answer; to = h.to }))

    -- a right side
    abbrev pub sym_source : Source → ℕ → SymEnv → S → Make (SymGot S)
    sym_source (source.Value e) i env s = and_make (sym_value kinds terms e (plain_scope env)) (λ x. pure (record { value = x; to = s }))
    sym_source (source.Choose at) i env s = sym_asks i Choice s
    sym_source (source.Call at f es) i env s = and_make (sym_values es env) (λ xs. sym_asks i (Call f.text xs) s)

    -- names with values of one of two sides by a test
    abbrev pub merge_env : Id → SymEnv → SymEnv → Make SymEnv
    merge_env t (a ∷ xs) (b ∷ ys) = and_make (merged kinds t a.1 b.1) (λ x. and_make (merge_env t xs ys) (λ rest. pure ((a.0, x) ∷ rest)))
    merge_env t _ _ = pure []

    -- of two ends, the first where the test is 1 and else the second: name by name, and the state of the machine below
    abbrev pub merge_state : Id → SymState S → SymState S → Make (SymState S)
    merge_state t a b = and_make (merge_env t a.env b.env) (λ env. and_make (M.merge t a.to b.to) (λ s. pure (state env s)))

    -- both sides, each with places of its own, and then what they leave merged
    abbrev pub sym_if : SymRun S → SymRun S → ℕ → SymEnv → S → Id → Make (SymState S)
    sym_if first second i env s t =
        and_make (first.run i env s) (λ a. and_make (second.run (i + first.room) env s) (λ b. merge_state t a b))

    -- the block of a loop for a number
    abbrev pub sym_each : Name → ℕ → SymRun S → ℕ → ℕ → SymEnv → S → Make (SymState S)
    sym_each x w each k i env s =
        and_make (number_made kinds w k) (λ n. and_make (each.run i (env ++ (x, n) ∷ []) s) (sym_forget (length env)))

    -- a statement, where what the blocks inside do stands in their places: the two sides of an `if` have places one after the other
    abbrev pub sym_stmt : Stmt-F (SymRun S) (SymRun S) → SymRun S
    sym_stmt (Stmt-F.Let x from) = record {
      room = source_space M.space from;
      run = λ i env s. and_make (sym_source from i env s) (λ g. pure (state (env ++ (x.text, g.value) ∷ []) g.to));
    }
    sym_stmt (Stmt-F.Assign x is from) = record {
      room = source_space M.space from;
      run = λ i env s. and_make (sym_values (places_of is) env) (λ places. and_make (sym_source from i env s) (λ g.
          and_make (sym_change x.text (λ old. put_made kinds old (map id_in places) g.value) env) (λ changed. pure (state changed g.to))));
    }
    sym_stmt (Stmt-F.If test first second) = record {
      room = first.room + second.room;
      run = λ i env s. and_make (sym_value kinds terms test (plain_scope env)) (λ x. sym_if first second i env s (id_in x));
    }
    sym_stmt (Stmt-F.For x w n each) = record { room = n.value * each.room; run = sym_times n.value 0 each.room (sym_each x.text w.value each) }
    sym_stmt (Stmt-F.Call f es) = record {
      room = M.space f.text;
      run = λ i env s. and_make (sym_values es env) (λ xs. and_make (M.handle i (Call f.text xs) s) (λ h. pure (state env h.to)));
    }

    -- a block inside another
    abbrev pub sym_block : Block-F (SymRun S) (SymRun S) → SymRun S
    sym_block b = record {
      room = total (map (λ r. r.room) b.statements);
      run = λ i env s. and_make (sym_in_order b.statements i env s) (sym_forget (length env));
    }

    -- a statement
    abbrev pub sym_of : Stmt → SymRun S
    sym_of = fold-Stmt (SymRun S) (SymRun S) sym_stmt sym_block

    -- the statements of a block, with all names that they leave
    abbrev pub sym_run : Block → SymEnv → S → Make (SymState S)
    sym_run b = sym_in_order (map sym_of b.statements) 0
