-- What lets a part of a block be run over terms, and what it leaves.
use Rattle.std.specs.Prelude.{◌≡◌, ◌+◌, ◌*◌, ℕ, Bool, IsTrue, List, [], ◌∷◌, length, map, All, Option, Some, None, if◌then◌else◌, reverse}
use Rattle.std.specs.Str.{bytes_eq}
use Rattle.ygg_value.specs.declared.shape.Shape.{Shape}
use Rattle.ygg_syntax.specs.declared.grammar.BlockKind.{BlockKind}
use Rattle.ygg_syntax.specs.declared.tree.Block.{Block}
use Rattle.ygg_syntax.specs.declared.tree.Def.{Def}
use Rattle.ygg_syntax.specs.declared.tree.Expr.{Expr}
use Rattle.ygg_syntax.specs.declared.tree.Index.{Index}
use Rattle.ygg_syntax.specs.declared.tree.Name as tree
use Rattle.ygg_syntax.specs.declared.tree.Numeral.{Numeral}
use Rattle.ygg_syntax.specs.declared.tree.Place.{Place}
use Rattle.ygg_syntax.specs.declared.tree.Source.{Source}
use Rattle.ygg_syntax.specs.declared.tree.Stmt.{Stmt}
use Rattle.ygg_syntax.specs.declared.tree.Stmt.TheOpen.{Stmt-F}
use Rattle.ygg_meaning_laws.specs.ygg_type_rules.TypeErrors.{TypeErrors, none, both}
use Rattle.ygg_meaning_laws.specs.ygg_type_rules.Scopes.{Scope, is_taken}
use Rattle.ygg_meaning_laws.specs.ygg_type_rules.Expressions.{with_number, number_errors}
use Rattle.ygg_meaning_laws.specs.ygg_type_rules.Statements.{
  source_typing,
  call_typing,
  place_rule,
  assignment_errors,
  in_order,
  node_walked,
  walked,
  block_errors,
}
use Rattle.ygg_meaning_laws.specs.ygg_type_rules.Definitions.{definitions_errors, with_definitions}
use Rattle.ygg_meaning_laws.specs.ygg_meaning.Environments.{Name}
use Rattle.ygg_meaning_laws.specs.ygg_meaning.Meaning.{functions_of}
use Rattle.ygg_meaning_laws.specs.Agrees.{Agrees}
use Rattle.ygg_meaning_laws.specs.Kinds.{may_call, source_keeps, all_keep, node_keeps, stmt_keeps, keeps}
use Rattle.ygg_meaning_laws.specs.Questions.{plain}
use Rattle.ygg_sym_runs.specs.ygg_rules.declared.rule.RuleKind.{RuleKind}
use Rattle.ygg_sym_runs.specs.ygg_bank.Makes.{Make, pure, and_make}
use Rattle.ygg_sym_runs.specs.ygg_bank.Nodes as bank
use Rattle.ygg_sym_runs.specs.ygg_bank.Nodes.{HasWidth}
use Rattle.ygg_sym_runs.specs.ygg_bank.Values.{Inputs, Values, Fits}
use Rattle.ygg_sym_runs.specs.ygg_bank.declared.node.Id.{Id}
use Rattle.ygg_sym_runs.specs.ygg_bank.declared.node.Node.{Node}
use Rattle.ygg_sym_runs.specs.ygg_shape_cells.Lists.{each_two}
use Rattle.ygg_sym_runs.specs.ygg_shape_cells.Making.{merged}
use Rattle.ygg_sym_runs.specs.ygg_shape_cells.Terms.{AreAlike, IsShaped}
use Rattle.ygg_sym_runs.specs.ygg_shape_cells.declared.terms.SymValue.{SymValue}
use Rattle.ygg_meaning_laws.specs.Direct.{total}
use Rattle.ygg_sym_runs.specs.Names.{SymEnv}
use Rattle.ygg_sym_runs.specs.Exprs.{SymFunctions, sym_functions}
use Rattle.ygg_sym_runs.specs.ExpressionMeaning.{EnvShaped, worths}
use Rattle.ygg_sym_runs.specs.Seen.{SymKnown}
use Rattle.ygg_sym_runs.specs.Putting.{led_to}
use Rattle.ygg_sym_runs.specs.Runs.{SymRun, plain_scope, sym_of, sym_in_order, sym_forget, sym_times, sym_each}
use Rattle.ygg_sym_runs.specs.Lower.{SymMeaning, KeepsSingle, Stands}

-- what definitions make, the last of them first
abbrev pub terms_of : List RuleKind → List Def → SymFunctions
terms_of kinds defs = sym_functions kinds (reverse defs)

-- what the expressions of a block see
abbrev pub known_with : List Def → SymEnv → SymKnown
known_with defs env = record { defs = defs; scope = plain_scope env }

-- the place of the first of a name, where the first of these has this place
abbrev pub first_place : ℕ → SymEnv → Name → Option ℕ
first_place place [] name = None
first_place place (b ∷ env) name = if bytes_eq b.0 name then Some place else first_place (place + 1) env name

-- the value has some shape, and the new one that of the part that so many places lead to
pub record CanPut (nodes : List Node) (old : SymValue) (places : List Id) (new : SymValue) : Type 0 where
  pub shape : Shape
  pub old_is : IsShaped nodes shape old
  pub new_is : IsShaped nodes (led_to shape (length places)) new
  pub at : All (bank.Stands nodes) places

-- values of names at one place of two lists have one shape
abbrev pub EnvAlike : List Node → SymEnv → SymEnv → Type 0
EnvAlike nodes (a ∷ xs) (b ∷ ys) = AreAlike nodes a.1 b.1 × EnvAlike nodes xs ys
EnvAlike nodes _ _ = Unit {0}

-- a name of one of two lists, with the value of one of them by a test
abbrev pub joined_name : List RuleKind → Id → Name × SymValue → Name × SymValue → Make (Name × SymValue)
joined_name kinds t a b = and_make (merged kinds t a.1 b.1) (λ x. pure (a.0, x))

-- names with values of one of two lists by a test
abbrev pub joined_names : List RuleKind → Id → SymEnv → SymEnv → Make SymEnv
joined_names kinds t = each_two (joined_name kinds t)

-- as many names, with values of the same shapes, and a test
pub record CanJoin (nodes : List Node) (t : Id) (one two : SymEnv) : Type 0 where
  pub test : HasWidth nodes t 1
  pub count : length one ≡ length two
  pub alike : EnvAlike nodes one two

-- what a part of a run that began at a place with these names, this state and these nodes ends with: what it is defined to
pub record Ended {S : Type 0} (r : SymRun S) (from : ℕ) (env : SymEnv) (s : S) (old : List Node) (end : ℕ) (env' : SymEnv) (s' : S)
    (new : List Node) : Type 0 where
  pub place : end ≡ from + r.room
  pub nodes : new ≡ (r.run from env s old).nodes
  pub names : env' ≡ (r.run from env s old).value.env
  pub state : s' ≡ (r.run from env s old).value.to
  pub single : KeepsSingle old new

module _ {S : Type 0} (M : SymMeaning S) (defs : List Def) where
  module _ (kinds : List RuleKind) where
    -- a statement
    abbrev pub stmt_run : Stmt → SymRun S
    stmt_run = sym_of kinds (terms_of kinds defs) (M.machine kinds)

    -- statements one after another
    abbrev pub order_run : List Stmt → SymRun S
    order_run ss = record { room = total (map (λ r. r.room) (map stmt_run ss)); run = sym_in_order (map stmt_run ss) }

    -- a block inside another, whose own names are forgotten
    abbrev pub inside_run : Block → SymRun S
    inside_run b = record {
      room = total (map (λ r. r.room) (map stmt_run b.statements));
      run = λ i env s. and_make (sym_in_order (map stmt_run b.statements) i env s) (sym_forget (length env));
    }

    -- the block of a loop for each number
    abbrev pub turns_run : tree.Name → Numeral → Numeral → Block → SymRun S
    turns_run x w n each = record {
      room = n.value * (inside_run each).room;
      run =
          sym_times n.value 0 (inside_run each).room (sym_each kinds (terms_of kinds defs) (M.machine kinds) x.text w.value (inside_run each));
    }

  -- The scope of typing goes together with the names and with the machine below, in each environment.
  pub record InNames (scope : Scope) (nodes : List Node) (env : SymEnv) : Type 0 where
    pub sound : IsTrue (none (definitions_errors defs [] []))
    pub defs_is : scope.defs ≡ with_definitions defs []
    pub lower_is : scope.lower ≡ M.lower
    pub shaped : EnvShaped nodes env
    pub agrees : (inputs : Inputs) (v : Values) → Fits inputs v nodes → Agrees (functions_of defs) scope (plain (worths v env))

  -- a scope in which a part of a block has no type error; it does what blocks on this machine may
  pub record CanDo (type_errors : Scope → TypeErrors) (kept : BlockKind → Bool) (nodes : List Node) (env : SymEnv) (s : S) : Type 0 where
    pub scope : Scope
    pub names : InNames scope nodes env
    pub stands : Stands M nodes s
    pub without_errors : IsTrue (none (type_errors scope))
    pub keeps : IsTrue (kept M.kind)

  -- a call, whose answer is used or dropped, may be made
  pub record CanCall (f : tree.Name) (es : List Expr) (nodes : List Node) (env : SymEnv) (s : S) : Type 0 where
    pub place : Place
    pub used : Bool
    pub can : CanDo (λ scope. (call_typing place used f es scope).type_errors) may_call nodes env s

  -- a right side may be run
  abbrev pub CanGet : Source → List Node → SymEnv → S → Type 0
  CanGet from = CanDo (λ scope. (source_typing from scope).type_errors) (λ kind. source_keeps kind from)

  -- an assignment may be run
  abbrev pub CanAssign : tree.Name → List Index → Source → List Node → SymEnv → S → Type 0
  CanAssign x is from = CanDo (λ scope. assignment_errors (place_rule x is scope) (source_typing from scope)) (λ kind. source_keeps kind from)

  -- a statement may be run
  abbrev pub CanStep : Stmt → List Node → SymEnv → S → Type 0
  CanStep s = CanDo (λ scope. (walked s scope).type_errors) (stmt_keeps s)

  -- statements may be run
  abbrev pub CanRun : List Stmt → List Node → SymEnv → S → Type 0
  CanRun ss = CanDo (λ scope. (in_order (map walked ss) scope).type_errors) (all_keep (map stmt_keeps ss))

  -- a block inside another may be run
  abbrev pub CanEnter : Block → List Node → SymEnv → S → Type 0
  CanEnter b = CanDo (block_errors b None) (λ kind. keeps kind b)

  -- both sides of an `if` may be run, and its test
  abbrev pub CanChoose : Expr → Block → Block → List Node → SymEnv → S → Type 0
  CanChoose test first second =
      CanDo (λ scope. (node_walked (Stmt-F.If test (block_errors first None) (block_errors second None)) scope).type_errors)
      (node_keeps (Stmt-F.If test (λ kind. keeps kind first) (λ kind. keeps kind second)))

  -- the block of a loop may be run for each number
  abbrev pub CanRepeat : tree.Name → Numeral → Numeral → Block → List Node → SymEnv → S → Type 0
  CanRepeat x w n b =
      CanDo (λ scope. both (number_errors x (is_taken x.text scope) w n) (block_errors b None (with_number x w scope))) (λ kind. keeps kind b)
