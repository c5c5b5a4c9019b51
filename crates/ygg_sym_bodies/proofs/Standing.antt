-- What runs over terms leave stands among the nodes.
use Rattle.std.proofs.Common.{◌≡◌, ℕ, List, Option, refl, sym, ap, subst}
use Rattle.ygg_meaning.specs.Machine.{Picks}
use Rattle.ygg_rules.specs.declared.rule.RuleKind.{RuleKind}
use Rattle.ygg_bank.proofs.Widths.{wider}
use Rattle.ygg_bank.specs.Makes.{Make, Out}
use Rattle.ygg_bank.specs.Nodes.{Extends, HasWidth, IsBank}
use Rattle.ygg_bank.specs.Values.{Fits}
use Rattle.ygg_bank.specs.declared.node.Id.{Id}
use Rattle.ygg_bank.specs.declared.node.Node.{Node}
use Rattle.ygg_shape_cells.specs.declared.terms.SymValue.{SymValue}
use Rattle.ygg_sym_runs.specs.Names.{sym_bind}
use Rattle.ygg_sym_runs.specs.Meaning.{AnswerShaped}
use Rattle.ygg_sym_runs.proofs.Zeros.{zero_values, zeros, zeros_fit}
use Rattle.ygg_sym_runs.specs.Disks.{Done, done}
use Rattle.ygg_sym_runs.specs.Lows.{LowShaped}
use Rattle.ygg_sym_runs.proofs.Lows.{low_wider}
use Rattle.ygg_sym_runs.specs.SpecCuts.{block_made}
use Rattle.ygg_sym_spec.specs.Layers.{block_of, closed, terms_in}
use Rattle.ygg_sym_spec.specs.Picking.{picking}
use Rattle.ygg_sym_spec.specs.declared.picks.SymPicks.{SymPicks}
use Rattle.ygg_sym.specs.Sites.{below_in}
use Rattle.ygg_sym.specs.declared.runs.SymBlock.{SymBlock}
use Rattle.ygg_sym_bodies.specs.Blocks.{CanChoose, chosen_site}
use Rattle.ygg_sym_bodies.specs.Runs.{Ending, IsMade, Stands, chosen, pick_made}
use Rattle.ygg_sym_bodies.specs.Sites.{IsShaped, Site}
use Rattle.ygg_sym_bodies.specs.Worths.{bits_named}
use Rattle.ygg_sym_bodies.specs.declared.state.SymRun.{SymRun}
use Rattle.ygg_sym_bodies.specs.declared.state.SymState.{SymState}
use Rattle.ygg_sym_bodies.proofs.Chosen.{chosen_is}
use Rattle.ygg_sym_bodies.proofs.Laws.{picks_mean}

-- terms that stay stand among more nodes
pub stays : (s : Site) (old new : List Node) (from : SymState) (args low : List SymValue) → Extends old new → IsShaped s old from → args ≡ from.args →
    low ≡ from.low → (LowShaped new s.args args) × LowShaped new (s.layer).low low
stays s old new from args low g h a l = (
  subst (LowShaped new s.args) (sym a) (low_wider old new s.args from.args g h.args),
  subst (LowShaped new (s.layer).low) (sym l) (low_wider old new (s.layer).low from.low g h.low),
)

module _ (kinds : List RuleKind) (at : SymBlock) (from : SymState) (given : Option Picks) (first : ℕ) (one : Id) (old new : List Node) (r : SymRun) where
  abbrev pick : ℕ → Make Id
  pick = pick_made kinds given first

  abbrev left : Out Ending
  left = chosen kinds (chosen_site at) from pick one old

  -- what the block leaves with these picks over these arguments
  abbrev by : (ℕ → Make Id) → List SymValue → Out Done
  by q xs = block_made kinds (terms_in kinds at.layer) (closed at.layer) q at.block.now from.vars (sym_bind at.names.now xs) old

  record LeftBy (q : ℕ → Make Id) (xs : List SymValue) : Type 0 where
    nodes_are : new ≡ (by q xs).nodes
    form : done r.answer (r.after).vars ≡ (by q xs).value

  -- a run of a block on no machine is the one that is defined
  pub chosen_made : (p : SymPicks) (values : List SymValue) → picking kinds p ≡ pick → values ≡ from.args →
      new ≡ (block_of kinds at.layer p at.block.now from.vars at.names.now values old).nodes →
      done r.answer (r.after).vars ≡ (block_of kinds at.layer p at.block.now from.vars at.names.now values old).value →
      (r.after).args ≡ from.args → (r.after).low ≡ from.low → r.reached ≡ one → IsMade left from r new
  chosen_made p values same_picks same_values nodes form args low reached =
      let first_is : LeftBy (picking kinds p) values = record { nodes_are = nodes; form = form } in
      let is = subst (λ (q : ℕ → Make Id). LeftBy q from.args) same_picks (subst (LeftBy (picking kinds p)) same_values first_is) in
      record {
        nodes_are = is.nodes_are;
        vars = ap (λ (d : Done). d.to) is.form;
        args = args;
        low = low;
        answer = ap (λ (d : Done). d.answer) is.form;
        reached = reached;
      }

  -- and what it leaves stands
  pub chosen_stands : CanChoose at old from → IsMade left from r new → IsBank new → HasWidth old one 1 → Extends old new →
      LowShaped new (at.layer.layer.now).state (r.after).vars → Stands (chosen_site at) new r
  chosen_stands can m bank wide grows vars =
      let v = zero_values new in
      let fits = subst (Fits zeros v) m.nodes_are (zeros_fit new bank) in
      let is = chosen_is kinds at.layer.defs.now (below_in at.below) (closed at.layer) at.block.now at.names.now can.sound refl can.typed from pick one zeros v
      (bits_named zeros given first) (picks_mean zeros v kinds given first) old can.shaped fits in
      let both = stays (chosen_site at) old new from (r.after).args (r.after).low grows can.shaped m.args m.low in
      record {
        after = record { vars = vars; args = both.0; low = both.1 };
        answer = subst (AnswerShaped new) (sym m.answer) (subst (λ z. AnswerShaped z left.value.answer) (sym m.nodes_are) is.shaped);
        reached = subst (λ i. HasWidth new i 1) (sym m.reached) (wider old new one 1 grows wide);
      }
