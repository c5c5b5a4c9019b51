-- What an obligation's term begins with.
use Rattle.std.proofs.Common.{◌≡◌, ◌+◌, ◌<◌, ◌≤◌, ◌^◌, ℕ, List, sym, ap, ◌∙◌, subst}
use Rattle.ygg_syntax.specs.declared.tree.Declared.{Declared}
use Rattle.ygg_oblige_parts.specs.ygg_meaning.Layer.{ClosedLayer}
use Rattle.ygg_oblige_parts.specs.ygg_meaning.Obligations.{Obligation}
use Rattle.ygg_oblige_parts.specs.ygg_meaning.Refines.{Below}
use Rattle.ygg_oblige_parts.specs.ygg_bank_proofs_Widths.{wider}
use Rattle.ygg_oblige_parts.specs.ygg_bank.Inputs.{InputsBelow}
use Rattle.ygg_oblige_parts.specs.ygg_bank.Nodes.{Extends}
use Rattle.ygg_oblige_parts.specs.ygg_bank.declared.node.Node.{Node}
use Rattle.ygg_oblige_parts.specs.ygg_shape_cells.declared.terms.SymValue.{SymValue}
use Rattle.ygg_oblige_parts.specs.ygg_sym_runs_proofs_Lows.{low_wider}
use Rattle.ygg_oblige_parts.specs.ygg_sym_runs.Lows.{LowShaped}
use Rattle.ygg_oblige_parts.proofs.of_ygg_sym_runs.Singles.{below_single, single_less}
use Rattle.ygg_oblige_parts.specs.ygg_sym_runs.Lower.{SingleFrom}
use Rattle.ygg_oblige_parts.specs.Layers.{closed}
use Rattle.ygg_oblige_parts.specs.SymLayer.{SymLayer}
use Rattle.ygg_oblige_parts.specs.Sites.{below_in}
use Rattle.ygg_sym.specs.ygg_sym_spec.declared.below.SymBelow.{SymBelow}
use Rattle.ygg_oblige_parts.specs.ygg_oblige_laws.Numbers.{Numbers, arguments_of, numbers_of}
use Rattle.ygg_oblige_parts.specs.ygg_oblige_laws.LayerTerms.{ShapesKept}
use Rattle.ygg_oblige_parts.specs.ygg_oblige_laws.TermStates.{Starting, words_in}
use Rattle.ygg_oblige_parts.specs.ObligePiecesSteps.{HasStep, ObligationTyped, variables_of}
use Rattle.ygg_oblige_parts.specs.Makers.{StartingShaped}
use Rattle.ygg_oblige.specs.Making.{CanBegin, CanOblige, SiteFits, TickFits}
use Rattle.ygg_oblige.proofs.Sites.{after_run, block_fits}

pub room : (n : Numbers) (ds es : List Declared) → ds ≡ es → n.run ≡ n.args + words_in es → n.run < 2 ^ 64 → n.args + words_in ds < 2 ^ 64
room n ds es e r b = subst (λ k. k < 2 ^ 64) (r ∙ ap (λ xs. n.args + words_in xs) (sym e)) b

-- states that obligations begin with keep their shapes as nodes are added
starting_wider : (L : ClosedLayer) (old new : List Node) (S : Starting) → Extends old new → StartingShaped L old S → StartingShaped L new S
starting_wider L old new S g s = record {
  related = wider old new S.related 1 g s.related;
  from = record {
    vars = low_wider old new L.layer.state S.from.vars g s.from.vars;
    memory = low_wider old new L.layer.memory S.from.memory g s.from.memory;
    low = low_wider old new L.low S.from.low g s.from.low;
  };
  settled = wider old new S.settled 1 g s.settled;
  low = low_wider old new L.low S.settled_low g s.low;
}

-- fresh arguments make it possible to run the obligation's block
pub can_oblige : (l : SymLayer) (g : SymBelow) (old new : List Node) (o : Obligation) (n : Numbers) (S : Starting) (args : List SymValue)
    (ds : List Declared) → ds ≡ arguments_of o → CanBegin l g old o n S → Extends old new → LowShaped new ds args →
    InputsBelow (n.args + words_in ds) new → CanOblige l g new o n S args
can_oblige l g old new o n S args ds e f grows shape below = record {
  site = f.site;
  typed = f.typed;
  has = f.has;
  block = f.block;
  starting = starting_wider (closed l) old new S grows f.starting;
  vars_are = subst (λ (vs : List Declared). LowShaped new vs S.from.vars) (sym f.variables)
      (low_wider old new (l.layer.now).state S.from.vars grows f.starting.from.vars);
  args_are = subst (λ (es : List Declared). LowShaped new es args) e shape;
  single = below_single n.run new
      (subst (λ k. InputsBelow k new) (ap (λ (es : List Declared). n.args + words_in es) e ∙ sym f.run) below);
  after = f.after;
}

-- an obligation that speaks of a block over arguments can begin
pub can_begin : (l : SymLayer) (g : SymBelow) (nodes : List Node) (o : Obligation) (n : Numbers) (S : Starting) (start : ℕ) → SiteFits l g →
    ObligationTyped l.defs.now (below_in g) (closed l) o → TickFits l g o → StartingShaped (closed l) nodes S →
    n ≡ numbers_of (below_in g) (closed l) o start → InputsBelow start nodes → HasStep o → variables_of (closed l) o ≡ (l.layer.now).state →
    ShapesKept (arguments_of o) → CanBegin l g nodes o n S
can_begin l g nodes o n S start site typed tick starting numbers free has variables kept = record {
  site = site;
  typed = typed;
  has = has;
  block = block_fits l g o site typed tick;
  starting = starting;
  variables = variables;
  kept = kept;
  free = subst (λ k. InputsBelow k nodes) (sym (ap (λ (n : Numbers). n.args) numbers)) free;
  run = ap (λ (n : Numbers). n.run) numbers ∙ sym (ap (λ (n : Numbers). n.args + words_in (arguments_of o)) numbers);
  after = after_run (below_in g) (closed l) o start n numbers;
}

-- inputs from the run's first pick on are single digits, where none has a number from the arguments' first on
pub run_single : (G : Below) (L : ClosedLayer) (o : Obligation) (start : ℕ) (n : Numbers) (nodes : List Node) → n ≡ numbers_of G L o start →
    start ≤ n.run → InputsBelow start nodes → SingleFrom n.run nodes
run_single G L o start n nodes e l b = single_less start n.run nodes l (below_single start nodes b)
