-- What lets a part of a block be run.
use Rattle.std.specs.Prelude.{◌≡◌, ℕ, Bool, IsTrue, IsSome, List, [], ◌∷◌, ◌++◌, map, slice_get, if◌then◌else◌, codes, None, Option, Some, Result, Ok, Err}
use Rattle.std.specs.Str.{bytes_eq}
use Rattle.ygg_list.specs.declared.memory.NoMemory.{NoMemory}
use Rattle.ygg_value.specs.Words.{word}
use Rattle.ygg_value.specs.declared.row.Value.{Value}
use Rattle.ygg_value.specs.declared.row.Value.TheVariants.{Word}
use Rattle.ygg_syntax.specs.declared.grammar.BlockKind.{BlockKind}
use Rattle.ygg_syntax.specs.declared.tree.Block.{Block}
use Rattle.ygg_syntax.specs.declared.tree.Expr.{Expr}
use Rattle.ygg_syntax.specs.declared.tree.File.{File}
use Rattle.ygg_syntax.specs.declared.tree.Index.{Index}
use Rattle.ygg_syntax.specs.declared.tree.Name.{Name}
use Rattle.ygg_syntax.specs.declared.tree.Numeral.{Numeral}
use Rattle.ygg_syntax.specs.declared.tree.Place.{Place}
use Rattle.ygg_syntax.specs.declared.tree.Source.{Source}
use Rattle.ygg_syntax.specs.declared.tree.Stmt.{Stmt}
use Rattle.ygg_eval_expr.specs.ygg_type_rules.Names.{Named, look_up}
use Rattle.ygg_eval_expr.specs.ygg_type_rules.declared.scope.Signature.{Signature}
use Rattle.ygg_eval_expr.specs.ygg_type_rules.TypeErrors.{TypeErrors, none, both}
use Rattle.ygg_eval_expr.specs.ygg_type_rules.Scopes.{Scope, is_taken}
use Rattle.ygg_eval_expr.specs.ygg_type_rules.Expressions.{with_number, number_errors}
use Rattle.ygg_eval_expr.specs.ygg_type_rules.Statements.{source_typing, call_typing, place_rule, assignment_errors, in_order, walked, block_errors}
use Rattle.ygg_eval_expr.specs.ygg_type_rules.Definitions.{definitions_errors, with_definitions}
use Rattle.ygg_eval_expr.specs.ygg_meaning.Environments.{Env}
use Rattle.ygg_eval_expr.specs.ygg_meaning.Meaning.{functions_of}
use Rattle.ygg_eval_expr.specs.ygg_meaning.Progress.{Eval, Run, forget_since, in_turn, run_of}
use Rattle.ygg_eval_expr.specs.ygg_meaning_laws.Agrees.{Agrees}
use Rattle.ygg_eval_expr.specs.ygg_meaning_laws.Fitting.{HasShape, all_fit}
use Rattle.ygg_eval_expr.specs.Known.{Known}
use Rattle.ygg_eval.specs.ygg_meaning_laws.Kinds.{may_call, source_keeps, all_keep, stmt_keeps, keeps}
use Rattle.ygg_eval.specs.ygg_meaning_laws.Questions.{plain}
use Rattle.ygg_eval.specs.ygg_meaning_laws.Blocks.{eval_with}
use Rattle.ygg_eval.specs.declared.body.Stop.{Stop}
use Rattle.ygg_eval.specs.Layers.{signatures_at}
use Rattle.ygg_eval.specs.Lower.{Standing, Meaning, Serves}
use Rattle.ygg_eval.specs.declared.flow.Flow.{Flow}
use Rattle.ygg_eval.specs.declared.flow.Flow.TheVariants.{Goes, Breaks}

-- how the expressions of a file's blocks are evaluated
abbrev pub eval_in : File → Eval
eval_in file = eval_with (functions_of file.defs)

-- what a block inside another does
abbrev pub inside_run : Eval → Block → Run
inside_run eval b env answers = forget_since env (in_turn (map (run_of eval) b.statements) env answers)

-- names with the number of a loop
abbrev pub numbered : Name → Numeral → ℕ → Env → Env
numbered x w i env = env ++ (x.text, Word (word w.value i)) ∷ []

-- what the block of a loop does for a number
abbrev pub turn_run : Eval → Name → Numeral → Block → ℕ → Run
turn_run eval x w b i env answers = forget_since env (inside_run eval b (numbered x w i env) answers)

-- what the expressions of a file's blocks see
abbrev pub known_in : File → Env → Known
known_in file env = record { defs = file.defs; own = env; low = [] }

module _ {S : Type 0} (M : Meaning S) (file : File) (number : ℕ) (stop : Option Stop) where
  -- The scope of typing goes together with the names and with the machine below; where the kind may call that, it serves.
  pub record Fits (kind : BlockKind) (scope : Scope) (env : Env) (at : Standing S) : Type 0 where
    pub sound : IsTrue (none (definitions_errors file.defs [] []))
    pub defs : scope.defs ≡ with_definitions file.defs []
    pub lower : scope.lower ≡ signatures_at file number
    pub agrees : Agrees (functions_of file.defs) scope (plain env)
    pub serves : IsTrue (may_call kind) → Serves M file number at
    pub stops : IsSome stop → IsTrue M.can_stop

  -- a scope and a kind in which a part of a block has no type error and does what it may
  pub record CanDo (type_errors : Scope → TypeErrors) (kept : BlockKind → Bool) (env : Env) (at : Standing S) : Type 0 where
    pub kind : BlockKind
    pub scope : Scope
    pub fits : Fits kind scope env at
    pub without_errors : IsTrue (none (type_errors scope))
    pub keeps : IsTrue (kept kind)

  -- a call, whose answer is used or dropped, may be made
  pub record CanCall (f : Name) (es : List Expr) (env : Env) (at : Standing S) : Type 0 where
    pub place : Place
    pub used : Bool
    pub can : CanDo (λ scope. (call_typing place used f es scope).type_errors) may_call env at

  -- the machine below may be sent a call
  pub record CanSend (name : List ℕ) (args : List Value) (at : Standing S) : Type 0 where
    pub operation : Signature
    pub found : look_up name (signatures_at file number) ≡ Some operation
    pub fit : IsTrue (all_fit operation.arguments args)
    pub serves : Serves M file number at

  -- a right side may be run
  abbrev pub CanAsk : Source → Env → Standing S → Type 0
  CanAsk s = CanDo (λ scope. (source_typing s scope).type_errors) (λ kind. source_keeps kind s)

  -- an assignment may be run
  abbrev pub CanAssign : Name → List Index → Source → Env → Standing S → Type 0
  CanAssign x is s = CanDo (λ scope. assignment_errors (place_rule x is scope) (source_typing s scope)) (λ kind. source_keeps kind s)

  -- a statement may be run
  abbrev pub CanStep : Stmt → Env → Standing S → Type 0
  CanStep s = CanDo (λ scope. (walked s scope).type_errors) (stmt_keeps s)

  -- statements may be run
  abbrev pub CanRun : List Stmt → Env → Standing S → Type 0
  CanRun ss = CanDo (λ scope. (in_order (map walked ss) scope).type_errors) (all_keep (map stmt_keeps ss))

  -- a block inside another may be run
  abbrev pub CanEnter : Block → Env → Standing S → Type 0
  CanEnter b = CanDo (block_errors b None) (λ kind. keeps kind b)

  -- the block of a loop may be run for each number
  abbrev pub CanRepeat : Name → Numeral → Numeral → Block → Env → Standing S → Type 0
  CanRepeat x w n b =
      CanDo (λ scope. both (number_errors x (is_taken x.text scope) w n) (block_errors b None (with_number x w scope))) (λ kind. keeps kind b)

-- the value has the shape that typing gives the right side, in each scope in which that has no type error
abbrev pub IsGiven : File → ℕ → Source → Env → Value → Type 0
IsGiven file number s env v =
    (scope : Scope) → scope.lower ≡ signatures_at file number → Agrees (functions_of file.defs) scope (plain env) →
    IsTrue (none (source_typing s scope).type_errors) → HasShape (source_typing s scope).part.shape v

-- where the right side gives a value, it has that shape
abbrev pub GivesIn : File → ℕ → Source → Env → Result (Flow Value) NoMemory → Type 0
GivesIn file number s env (Ok (Goes v)) = IsGiven file number s env v
GivesIn file number s env (Ok (Breaks how)) = Unit {0}
GivesIn file number s env (Err e) = Unit {0}

-- the place of the first operation of a name
pub record IsPlace (operations : Named Signature) (name : List ℕ) (place : ℕ) : Type 0 where
  pub operation : Signature
  pub found : look_up name operations ≡ Some operation
  pub is : slice_get operations place ≡ Some (name, operation)

-- the place of an operation of a disk
abbrev pub place_on_disk : List ℕ → ℕ
place_on_disk name = if bytes_eq (codes "read") name then 0 else if bytes_eq (codes "write") name then 1 else 2
