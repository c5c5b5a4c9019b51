-- What lets a whole run over terms be made, and how it ends.
use Rattle.std.specs.Prelude.{◌≡◌, IsTrue, List, Option}
use Rattle.ygg_value.specs.declared.shape.Shape.{Shape}
use Rattle.ygg_syntax.specs.declared.tree.Block.{Block}
use Rattle.ygg_syntax.specs.declared.tree.Def.{Def}
use Rattle.ygg_sym_runs.specs.ygg_type_rules.TypeErrors.{none}
use Rattle.ygg_sym_runs.specs.ygg_type_rules.Scopes.{Scope}
use Rattle.ygg_sym_runs.specs.ygg_type_rules.Statements.{block_errors}
use Rattle.ygg_sym_runs.specs.ygg_meaning_laws.Kinds.{keeps}
use Rattle.ygg_sym_runs.specs.ygg_rules.declared.rule.RuleKind.{RuleKind}
use Rattle.ygg_sym_runs.specs.ygg_bank.declared.node.Node.{Node}
use Rattle.ygg_sym_runs.specs.ygg_shape_cells.declared.terms.SymValue.{SymValue}
use Rattle.ygg_sym_runs.specs.Names.{SymEnv}
use Rattle.ygg_sym_runs.specs.Lower.{SymMeaning, KeepsSingle, Stands}
use Rattle.ygg_sym_runs.specs.Ready.{InNames, terms_of}
use Rattle.ygg_sym_runs.specs.Wholes.{sym_whole}

module _ {S : Type 0} (M : SymMeaning S) (defs : List Def) where
  -- A block without a type error in a scope that goes together with its names, which does what blocks on this machine may.
  pub record CanWhole (b : Block) (nodes : List Node) (env : SymEnv) (s : S) : Type 0 where
    pub scope : Scope
    pub shape : Option Shape
    pub names : InNames M defs scope nodes env
    pub stands : Stands M nodes s
    pub without_errors : IsTrue (none (block_errors b shape scope))
    pub keeps : IsTrue (keeps M.kind b)

  -- a whole run over variables and arguments: its answer, the variables and the state of the machine below are those that it is defined to leave
  pub record IsWhole (kinds : List RuleKind) (b : Block) (vars args : SymEnv) (s : S) (old : List Node) (answer : Option SymValue) (left : SymEnv) (to : S)
      (new : List Node) : Type 0 where
    pub nodes : new ≡ (sym_whole kinds (terms_of kinds defs) (M.machine kinds) b vars args s old).nodes
    pub answered : answer ≡ (sym_whole kinds (terms_of kinds defs) (M.machine kinds) b vars args s old).value.answer
    pub leaves : left ≡ (sym_whole kinds (terms_of kinds defs) (M.machine kinds) b vars args s old).value.vars
    pub state : to ≡ (sym_whole kinds (terms_of kinds defs) (M.machine kinds) b vars args s old).value.to
    pub single : KeepsSingle old new
