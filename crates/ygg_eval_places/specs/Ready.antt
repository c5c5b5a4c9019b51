-- What lets a part of a block be run by place.
use Rattle.std.specs.Prelude.{◌≡◌, ℕ, Bool, IsTrue, List, [], map, None}
use Rattle.ygg_syntax.specs.declared.grammar.BlockKind.{BlockKind}
use Rattle.ygg_syntax.specs.declared.tree.Block.{Block}
use Rattle.ygg_syntax.specs.declared.tree.Expr.{Expr}
use Rattle.ygg_syntax.specs.declared.tree.File.{File}
use Rattle.ygg_syntax.specs.declared.tree.Index.{Index}
use Rattle.ygg_syntax.specs.declared.tree.Name.{Name}
use Rattle.ygg_syntax.specs.declared.tree.Numeral.{Numeral}
use Rattle.ygg_syntax.specs.declared.tree.Place.{Place}
use Rattle.ygg_syntax.specs.declared.tree.Source.{Source}
use Rattle.ygg_syntax.specs.declared.tree.Stmt.{Stmt}
use Rattle.ygg_meaning_laws.specs.ygg_type_rules.TypeErrors.{TypeErrors, none, both}
use Rattle.ygg_meaning_laws.specs.ygg_type_rules.Scopes.{Scope, is_taken}
use Rattle.ygg_meaning_laws.specs.ygg_type_rules.Expressions.{with_number, number_errors}
use Rattle.ygg_meaning_laws.specs.ygg_type_rules.Statements.{source_typing, call_typing, place_rule, assignment_errors, in_order, walked, block_errors}
use Rattle.ygg_meaning_laws.specs.ygg_type_rules.Definitions.{definitions_errors, with_definitions}
use Rattle.ygg_meaning_laws.specs.ygg_meaning.Environments.{Env}
use Rattle.ygg_meaning_laws.specs.ygg_meaning.Meaning.{functions_of}
use Rattle.ygg_meaning_laws.specs.Agrees.{Agrees}
use Rattle.ygg_meaning_laws.specs.Kinds.{may_call, source_keeps, all_keep, stmt_keeps, keeps}
use Rattle.ygg_meaning_laws.specs.Questions.{plain}
use Rattle.ygg_eval.specs.Layers.{signatures_at}
use Rattle.ygg_eval_places.specs.Machines.{PlaceMeaning}

module _ {S : Type 0} (M : PlaceMeaning S) (file : File) (number : ℕ) where
  -- The scope of typing goes together with the names and with the machine, which is in order as its state is.
  pub record Fits (scope : Scope) (env : Env) (s : M.Is) : Type 0 where
    pub sound : IsTrue (none (definitions_errors file.defs [] []))
    pub defs : scope.defs ≡ with_definitions file.defs []
    pub lower : scope.lower ≡ signatures_at file number
    pub sees : M.lower ≡ signatures_at file number
    pub agrees : Agrees (functions_of file.defs) scope (plain env)
    pub serves : M.Serves
    pub good : M.Good s

  -- a scope in which a part of a block has no type error; it does what blocks on this machine may
  pub record CanDo (type_errors : Scope → TypeErrors) (kept : BlockKind → Bool) (env : Env) (s : M.Is) : Type 0 where
    pub scope : Scope
    pub fits : Fits scope env s
    pub without_errors : IsTrue (none (type_errors scope))
    pub keeps : IsTrue (kept M.kind)

  -- a call, whose answer is used or dropped, may be made
  pub record CanCall (f : Name) (es : List Expr) (env : Env) (s : M.Is) : Type 0 where
    pub place : Place
    pub used : Bool
    pub can : CanDo (λ scope. (call_typing place used f es scope).type_errors) may_call env s

  -- a right side may be run
  abbrev pub CanAsk : Source → Env → M.Is → Type 0
  CanAsk from = CanDo (λ scope. (source_typing from scope).type_errors) (λ kind. source_keeps kind from)

  -- an assignment may be run
  abbrev pub CanAssign : Name → List Index → Source → Env → M.Is → Type 0
  CanAssign x is from = CanDo (λ scope. assignment_errors (place_rule x is scope) (source_typing from scope)) (λ kind. source_keeps kind from)

  -- a statement may be run
  abbrev pub CanStep : Stmt → Env → M.Is → Type 0
  CanStep t = CanDo (λ scope. (walked t scope).type_errors) (stmt_keeps t)

  -- statements may be run
  abbrev pub CanRun : List Stmt → Env → M.Is → Type 0
  CanRun ts = CanDo (λ scope. (in_order (map walked ts) scope).type_errors) (all_keep (map stmt_keeps ts))

  -- a block inside another may be run
  abbrev pub CanEnter : Block → Env → M.Is → Type 0
  CanEnter b = CanDo (block_errors b None) (λ kind. keeps kind b)

  -- the block of a loop may be run for each number
  abbrev pub CanRepeat : Name → Numeral → Numeral → Block → Env → M.Is → Type 0
  CanRepeat x w n b =
      CanDo (λ scope. both (number_errors x (is_taken x.text scope) w n) (block_errors b None (with_number x w scope))) (λ kind. keeps kind b)
