-- How a run over terms ends that power cuts.
use Rattle.std.specs.Prelude.{◌≡◌, List}
use Rattle.ygg_syntax.specs.declared.tree.Block.{Block}
use Rattle.ygg_syntax.specs.declared.tree.Def.{Def}
use Rattle.ygg_sym_machine.specs.ygg_rules.declared.rule.RuleKind.{RuleKind}
use Rattle.ygg_sym_machine.specs.ygg_bank.Makes.{Make}
use Rattle.ygg_sym_machine.specs.ygg_bank.Nodes.{HasWidth}
use Rattle.ygg_sym_machine.specs.ygg_bank.declared.node.Id.{Id}
use Rattle.ygg_sym_machine.specs.ygg_bank.declared.node.Node.{Node}
use Rattle.ygg_sym_machine.specs.ygg_meaning_laws.Direct.{room_of}
use Rattle.ygg_sym_machine.specs.ygg_sym_runs.Names.{SymEnv}
use Rattle.ygg_sym_machine.specs.ygg_sym_runs.Lower.{SymMeaning, KeepsSingle}
use Rattle.ygg_sym_machine.specs.ygg_sym_runs.Ready.{terms_of}
use Rattle.ygg_sym_machine.specs.StopTerms.{SymFallen, stop_whole}
use Rattle.ygg_sym_machine.specs.Stopping.{Power, stops_on}

module _ {S : Type 0} (M : SymMeaning S) (K : Power S) (defs : List Def) (kinds : List RuleKind) where
  -- a run of the block that power cuts, where the stop after it comes after all its places
  abbrev pub fall_of : Block → SymEnv → SymEnv → S → Make (SymFallen S)
  fall_of b vars args from =
      stop_whole kinds (terms_of kinds defs) (M.machine kinds) (stops_on M K kinds) (room_of (M.machine kinds).space b) b vars args from from

  -- what is left, and the term that says whether a stop is reached, are those that it is defined to leave
  pub record IsFall (b : Block) (vars args : SymEnv) (from : S) (old : List Node) (fallen : S) (reached : Id) (new : List Node) : Type 0 where
    pub nodes : new ≡ (fall_of b vars args from old).nodes
    pub left : fallen ≡ (fall_of b vars args from old).value.fallen
    pub stop : reached ≡ (fall_of b vars args from old).value.reached
    pub has : M.low.Has new fallen
    pub width : HasWidth new reached 1
    pub single : KeepsSingle old new
