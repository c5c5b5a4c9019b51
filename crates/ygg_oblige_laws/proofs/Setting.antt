-- The states that obligations begin with, among later nodes, and what a schedule says of them.
use Rattle.std.proofs.Common.{◌≡◌, ℕ, Bool, List, Option, Some, None}
use Rattle.ygg_syntax.specs.declared.tree.Block.{Block}
use Rattle.ygg_syntax.specs.declared.tree.Declared.{Declared}
use Rattle.ygg_syntax.specs.declared.tree.Def.{Def}
use Rattle.ygg_sym_laws.specs.ygg_meaning.Environments.{Env}
use Rattle.ygg_sym_laws.specs.ygg_meaning.Machine.{State}
use Rattle.ygg_sym_laws.specs.ygg_meaning.Progress.{Answer}
use Rattle.ygg_sym_laws.specs.ygg_meaning.Layer.{ClosedLayer}
use Rattle.ygg_sym_laws.specs.ygg_meaning.Obligations.{Schedule}
use Rattle.ygg_sym_laws.specs.ygg_meaning.Refines.{Below}
use Rattle.ygg_sym_laws.specs.ygg_rules.declared.rule.RuleKind.{RuleKind}
use Rattle.ygg_sym_laws.specs.ygg_bank_proofs_Widths.{wider}
use Rattle.ygg_sym_laws.specs.ygg_bank.Nodes.{HasWidth, Extends}
use Rattle.ygg_sym_laws.specs.ygg_bank.Values.{Inputs, Values, Fits}
use Rattle.ygg_sym_laws.specs.ygg_bank.declared.node.Node.{Node}
use Rattle.ygg_sym_laws.specs.ygg_shape_cells.declared.terms.SymValue.{SymValue}
use Rattle.ygg_sym_laws.specs.ygg_sym_runs_proofs_Shaped.{some_wider}
use Rattle.ygg_sym_laws.specs.ygg_sym_runs.Meaning.{AnswerShaped}
use Rattle.ygg_sym_laws.specs.ygg_sym_runs.Lows.{LowShaped, low_worth}
use Rattle.ygg_sym_laws.specs.ygg_sym_runs_proofs_Lows.{low_wider}
use Rattle.ygg_sym_laws.specs.Below.{places_on}
use Rattle.ygg_sym_laws.specs.Means.{AreBits, Values3, Begins, AreWorth, whole_run, cut_run, EndsSo, FallBits, AreFallBits, FallsTo}
use Rattle.ygg_oblige_laws.specs.TermStates.{Starting}
use Rattle.ygg_oblige_laws.specs.Worth.{TrioShaped}

-- the states that obligations begin with stand among the nodes
pub record Ready (L : ClosedLayer) (nodes : List Node) (S : Starting) : Type 0 where
  pub related : HasWidth nodes S.related 1
  pub from : TrioShaped L nodes S.from
  pub settled : HasWidth nodes S.settled 1
  pub low : LowShaped nodes L.low S.settled_low

pub ready_wider : (L : ClosedLayer) (S : Starting) (old new : List Node) → Extends old new → Ready L old S → Ready L new S
ready_wider L S old new g r = record {
  related = wider old new S.related 1 g r.related;
  from = record {
    vars = low_wider old new L.layer.state S.from.vars g r.from.vars;
    memory = low_wider old new L.layer.memory S.from.memory g r.from.memory;
    low = low_wider old new L.low S.from.low g r.from.low;
  };
  settled = wider old new S.settled 1 g r.settled;
  low = low_wider old new L.low S.settled_low g r.low;
}

pub answer_wider : (old new : List Node) (y : Option SymValue) → Extends old new → AnswerShaped old y → AnswerShaped new y
answer_wider old new None g h = tt
answer_wider old new (Some x) g h = some_wider old new x g h

-- a schedule begins with what these states are worth
pub record FromIs (v : Values) (L : ClosedLayer) (S : Starting) (x : Schedule) : Type 0 where
  pub vars_is : x.state ≡ low_worth v L.layer.state S.from.vars
  pub memory_is : x.memory ≡ low_worth v L.layer.memory S.from.memory
  pub low_is : x.low ≡ low_worth v L.low S.from.low

module _ (kinds : List RuleKind) (defs : List Def) (G : Below) (L : ClosedLayer) (b : Block) (vars args : List Declared) where
  -- with these picks whole runs over terms that begin so end so
  abbrev pub EndsWith : (ℕ → Bool) → Env → Env → Env → Answer → State Env → Type 0
  EndsWith bits memory given low answer to =
      (inputs : Inputs) (v : Values) (first : ℕ) (x : Values3) (nodes : List Node) → Begins kinds defs G L b vars args nodes x →
      let out = whole_run kinds defs G L b vars args first x nodes in
      Fits inputs v out.nodes → AreWorth kinds defs G L b vars args v x memory given low → AreBits inputs first (places_on G b) bits →
      EndsSo kinds defs G L b vars args v answer to out.value

  -- with these picks and stops runs over terms that power cuts leave this
  abbrev pub FallsWith : FallBits kinds defs G L b vars args → Env → Env → Env → Env → Type 0
  FallsWith bits memory given low fallen =
      (inputs : Inputs) (v : Values) (first stop last : ℕ) (x : Values3) (nodes : List Node) → Begins kinds defs G L b vars args nodes x →
      let out = cut_run kinds defs G L b vars args first stop last x nodes in
      Fits inputs v out.nodes → AreWorth kinds defs G L b vars args v x memory given low →
      AreFallBits kinds defs G L b vars args inputs first stop last bits → FallsTo kinds defs G L b vars args v fallen out.value
