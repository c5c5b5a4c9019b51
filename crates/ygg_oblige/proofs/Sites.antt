-- What typing says of a layer, as code that makes its obligations' terms asks it.
use Rattle.std.proofs.Common.{◌≡◌, ℕ, List, sym, subst, arith}
use Rattle.ygg_syntax.specs.declared.tree.Block.{Block}
use Rattle.ygg_syntax.specs.declared.tree.Declared.{Declared}
use Rattle.ygg_oblige_parts.specs.ygg_meaning.Obligations.{Obligation, Init, CallOf, CutOf, TickOf, CutTickOf, Idle, Again}
use Rattle.ygg_oblige_parts.specs.ygg_meaning.Layer.{ClosedLayer}
use Rattle.ygg_oblige_parts.specs.ygg_meaning.Refines.{Below}
use Rattle.ygg_oblige_parts.specs.ygg_bank.Values.{Inputs, Values, Fits}
use Rattle.ygg_oblige_parts.specs.ygg_bank.declared.node.Node.{Node}
use Rattle.ygg_oblige_parts.specs.ygg_sym_runs.Meaning.{answer_worth}
use Rattle.ygg_oblige_parts.specs.Layers.{closed}
use Rattle.ygg_oblige_parts.specs.SymLayer.{SymLayer}
use Rattle.ygg_sym.specs.Running.{EndStands}
use Rattle.ygg_oblige_parts.specs.Sites.{BelowFits, below_in}
use Rattle.ygg_sym.specs.ygg_sym_spec.declared.below.SymBelow.{SymBelow}
use Rattle.ygg_sym.specs.declared.runs.SymBlock.{SymBlock}
use Rattle.ygg_sym.specs.declared.runs.SymEnd.{SymEnd}
use Rattle.ygg_oblige_parts.specs.ygg_oblige_laws.Numbers.{Numbers, arguments_of, block_of, numbers_of}
use Rattle.ygg_oblige_parts.specs.ObligePiecesSteps.{AnswerKept, ObligationTyped}
use Rattle.ygg_oblige_parts.specs.Passing.{answered}
use Rattle.ygg_oblige.specs.Making.{AfterRun, BlockFits, SiteFits, TickFits}

pub below_fits : (l : SymLayer) (g : SymBelow) → SiteFits l g → BelowFits l g
below_fits l g s = record {
  sound = s.layer.definitions;
  same = s.same;
  typed = s.layer.below;
  low_is = s.layer.low_is;
  kept = s.layer.low_shapes;
}

pub block_fits : (l : SymLayer) (g : SymBelow) (o : Obligation) → SiteFits l g → ObligationTyped l.defs.now (below_in g) (closed l) o → TickFits l g o →
    BlockFits l g o (block_of (closed l) o) (arguments_of o)
block_fits l g Init s t k = record { typed = s.layer.format_typed; kept = λ v a r. tt }
block_fits l g (CallOf o) s t k = record { typed = t.implementation; kept = λ v a r. t.answers (answer_worth v a) r }
block_fits l g (CutOf o) s t k = record { typed = t.implementation; kept = λ v a r. tt }
block_fits l g (TickOf o) s t k = record { typed = k; kept = λ v a r. tt }
block_fits l g (CutTickOf o) s t k = record { typed = k; kept = λ v a r. tt }
block_fits l g Idle s t k = record { typed = s.layer.recover_typed; kept = λ v a r. tt }
block_fits l g Again s t k = record { typed = s.layer.recover_typed; kept = λ v a r. tt }

-- the same of a block and arguments that are those
pub block_fits_is : (l : SymLayer) (g : SymBelow) (o : Obligation) (a b : Block) (ds es : List Declared) → a ≡ b → ds ≡ es → BlockFits l g o b es →
    BlockFits l g o a ds
block_fits_is l g o a b ds es p q f =
    subst (λ x. BlockFits l g o x ds) (sym p) (subst (λ xs. BlockFits l g o b xs) (sym q) f)

-- what a run of such a block answers is what the obligation asks
pub answers_kept : (at : SymBlock) (o : Obligation) (nodes : List Node) (e : SymEnd) → BlockFits at.layer at.below o at.block.now at.names.now →
    EndStands at nodes e → (inputs : Inputs) (v : Values) → Fits inputs v nodes → AnswerKept v o (answered e.answer)
answers_kept at o nodes e f s inputs v h = f.kept v e.answer (s.returned inputs v f.typed h)

-- the inputs of an obligation are numbered one kind after another
pub after_run : (G : Below) (L : ClosedLayer) (o : Obligation) (start : ℕ) (n : Numbers) → n ≡ numbers_of G L o start → AfterRun n
after_run G L o start n e =
    subst AfterRun (sym e) (record { stop = omega arith; last = omega arith; wake = omega arith; other = omega arith })
