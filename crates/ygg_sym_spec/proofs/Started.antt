-- A specification's variables at its start: zeros, and then the `start` block.
use Rattle.std.proofs.Common.{◌≡◌, List, [], Option, ap, ◌∙◌}
use Rattle.ygg_syntax.specs.declared.tree.Declared.{Declared}
use Rattle.ygg_sym_runs.specs.ygg_bank.Makes.{Make, Out, pure, and_make}
use Rattle.ygg_sym_runs.specs.ygg_bank.declared.node.Node.{Node}
use Rattle.ygg_sym_runs.specs.ygg_rules.declared.rule.RuleKind.{RuleKind}
use Rattle.ygg_sym_runs.specs.ygg_shape_cells.declared.terms.SymValue.{SymValue}
use Rattle.ygg_sym_runs.specs.Below.{start_made, zeros_made}
use Rattle.ygg_sym_runs.specs.Disks.{Done, done}
use Rattle.ygg_sym_runs.specs.SpecCuts.{block_made}
use Rattle.ygg_sym_runs.specs.Specs.{given_pick}
use Rattle.ygg_sym_spec.specs.Layers.{closed, terms_in}
use Rattle.ygg_sym_spec.specs.declared.layer.SymLayer.{SymLayer}

module _ (kinds : List RuleKind) (l : SymLayer) where
  -- the `start` block over these variables
  abbrev begun : List SymValue → Make Done
  begun zeros = block_made kinds (terms_in kinds l) (closed l) (given_pick kinds []) (l.layer.now).start zeros []

  abbrev after_zeros : List SymValue → Make (List SymValue)
  after_zeros zeros = and_make (begun zeros) (λ d. pure d.to)

  module _ (ds : List Declared) (zeros : List SymValue) (old mid : List Node) (e : ds ≡ (l.layer.now).state) (nodes : mid ≡ (zeros_made kinds ds old).nodes)
      (form : zeros ≡ (zeros_made kinds ds old).value) where
    goes : after_zeros zeros mid ≡ start_made kinds (terms_in kinds l) (closed l) old
    goes =
        ap (λ x. after_zeros x mid) form
        ∙ ap (λ z. after_zeros (zeros_made kinds ds old).value z) nodes
        ∙ ap (λ z. after_zeros (zeros_made kinds z old).value (zeros_made kinds z old).nodes) e

    pub start_nodes : (new : List Node) → new ≡ (begun zeros mid).nodes → new ≡ (start_made kinds (terms_in kinds l) (closed l) old).nodes
    start_nodes new h = h ∙ ap (λ (o : Out (List SymValue)). o.nodes) goes

    pub start_form : (a : Option SymValue) (vars : List SymValue) → done a vars ≡ (begun zeros mid).value →
        vars ≡ (start_made kinds (terms_in kinds l) (closed l) old).value
    start_form a vars h = ap (λ (d : Done). d.to) h ∙ ap (λ (o : Out (List SymValue)). o.value) goes
