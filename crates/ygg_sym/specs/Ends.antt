-- How a whole run of a block on a machine ends, in code.
use Rattle.std.specs.Prelude.{◌≡◌, List}
use Rattle.ygg_syntax.specs.declared.tree.Block.{Block}
use Rattle.ygg_syntax.specs.declared.tree.Def.{Def}
use Rattle.ygg_sym_spec.specs.ygg_rules.declared.rule.RuleKind.{RuleKind}
use Rattle.ygg_sym_spec.specs.ygg_bank.declared.node.Node.{Node}
use Rattle.ygg_sym_spec.specs.ygg_sym_runs.Names.{SymEnv}
use Rattle.ygg_sym_spec.specs.ygg_sym_runs.Lower.{SymMeaning, KeepsSingle}
use Rattle.ygg_sym_spec.specs.ygg_sym_runs.Ready.{terms_of}
use Rattle.ygg_sym_machine.specs.ygg_sym_runs.Wholes.{sym_whole}
use Rattle.ygg_sym_machine.specs.ygg_sym_runs.Means.{values_in}
use Rattle.ygg_sym.specs.declared.running.Ran.{Ran}

module _ {S : Type 0} (M : SymMeaning S) (defs : List Def) (kinds : List RuleKind) where
  -- a whole run over variables and arguments leaves what it is defined to leave
  pub record IsRun (b : Block) (vars args : SymEnv) (s : S) (old : List Node) (r : Ran S) (new : List Node) : Type 0 where
    pub nodes : new ≡ (sym_whole kinds (terms_of kinds defs) (M.machine kinds) b vars args s old).nodes
    pub answer : r.answer ≡ (sym_whole kinds (terms_of kinds defs) (M.machine kinds) b vars args s old).value.answer
    pub left : r.vars ≡ values_in (sym_whole kinds (terms_of kinds defs) (M.machine kinds) b vars args s old).value.vars
    pub state : r.state ≡ (sym_whole kinds (terms_of kinds defs) (M.machine kinds) b vars args s old).value.to
    pub single : KeepsSingle old new
