-- Runs of a layer's blocks on what the layer is specified over, in code.
use Rattle.std.specs.Prelude.{◌≡◌, ℕ, IsTrue, List}
use Rattle.ygg_syntax.specs.declared.grammar.BlockKind.TheVariants.{Impl}
use Rattle.ygg_sym_spec.specs.ygg_meaning_laws.Blocks.{is_returned}
use Rattle.ygg_sym_spec.specs.ygg_rules.declared.rule.RuleKind.{RuleKind}
use Rattle.ygg_sym_spec.specs.ygg_bank.Makes.{Make}
use Rattle.ygg_sym_spec.specs.ygg_bank.Values.{Inputs, Values, Fits}
use Rattle.ygg_sym_spec.specs.ygg_bank.declared.node.Node.{Node}
use Rattle.ygg_sym_spec.specs.ygg_shape_cells.declared.terms.SymValue.{SymValue}
use Rattle.ygg_sym_spec.specs.ygg_sym_runs.Names.{sym_bind}
use Rattle.ygg_sym_spec.specs.ygg_sym_runs.Meaning.{AnswerShaped, answer_worth}
use Rattle.ygg_sym_machine.specs.ygg_sym_runs.Lows.{LowShaped}
use Rattle.ygg_sym_machine.specs.ygg_sym_runs.StopTerms.{SymFallen}
use Rattle.ygg_sym_machine.specs.ygg_sym_runs.Wholes.{SymFinish}
use Rattle.ygg_sym_machine.specs.ygg_sym_runs.Below.{cut_made, run_made, signatures_on}
use Rattle.ygg_sym_machine.specs.ygg_sym_runs.Means.{values_in}
use Rattle.ygg_sym_machine.specs.ygg_sym_runs.Typed.{BlockTyped}
use Rattle.ygg_sym.specs.Layers.{closed, terms_in}
use Rattle.ygg_sym.specs.Sites.{BelowFits, below_in}
use Rattle.ygg_sym.specs.declared.runs.SymBlock.{SymBlock}
use Rattle.ygg_sym.specs.declared.runs.SymCut.{SymCut}
use Rattle.ygg_sym.specs.declared.runs.SymEnd.{SymEnd}

-- the block has no type error, and values of the declared shapes stand for memory, arguments and the state below
pub record CanRunBlock (at : SymBlock) (nodes : List Node) (memory args low : List SymValue) : Type 0 where
  pub below : BelowFits at.layer at.below
  pub typed : BlockTyped at.layer.defs.now (closed at.layer) Impl (signatures_on (below_in at.below)) at.block.now (at.layer.layer.now).memory at.names.now
  pub memory_are : LowShaped nodes (at.layer.layer.now).memory memory
  pub args_are : LowShaped nodes at.names.now args
  pub low_are : LowShaped nodes at.layer.low.now low

module _ (kinds : List RuleKind) (at : SymBlock) where
  -- a whole run of the block
  abbrev pub run_of : ℕ → List SymValue → List SymValue → List SymValue → Make (SymFinish (List SymValue))
  run_of first memory args low =
      run_made kinds (terms_in kinds at.layer) (below_in at.below) first at.block.now (sym_bind (at.layer.layer.now).memory memory)
      (sym_bind at.names.now args) low

  -- a run of the block that power cuts
  abbrev pub cut_of : ℕ → ℕ → ℕ → List SymValue → List SymValue → List SymValue → Make (SymFallen (List SymValue))
  cut_of first stop last memory args low =
      cut_made kinds (terms_in kinds at.layer) (below_in at.below) first stop last at.block.now (sym_bind (at.layer.layer.now).memory memory)
      (sym_bind at.names.now args) low

-- a run ends so
pub record EndIs (f : SymFinish (List SymValue)) (e : SymEnd) : Type 0 where
  pub answer : e.answer ≡ f.answer
  pub memory : e.memory ≡ values_in f.vars
  pub low : e.low ≡ f.to

-- a run that power cuts leaves this
pub record CutIs (f : SymFallen (List SymValue)) (c : SymCut) : Type 0 where
  pub fallen : c.fallen ≡ f.fallen
  pub reached : c.reached ≡ f.reached

-- what a whole run leaves has the declared shapes, and its answer that of the block
pub record EndStands (at : SymBlock) (nodes : List Node) (e : SymEnd) : Type 0 where
  pub memory : LowShaped nodes (at.layer.layer.now).memory e.memory
  pub low : LowShaped nodes at.layer.low.now e.low
  pub answer : AnswerShaped nodes e.answer
  pub returned : (inputs : Inputs) (v : Values) (typed : BlockTyped at.layer.defs.now (closed at.layer) Impl (signatures_on (below_in at.below))
      at.block.now (at.layer.layer.now).memory at.names.now) → Fits inputs v nodes →
      IsTrue (is_returned (at.block.now).answer typed.shape (answer_worth v e.answer))
