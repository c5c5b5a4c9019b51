-- Parts of obligations' terms, as code makes them.
use Rattle.std.specs.Prelude.{List, [], Option}
use Rattle.ygg_value.specs.declared.operation.Op.TheVariants.{And}
use Rattle.ygg_oblige_parts.specs.ygg_meaning.Obligations.{Obligation, Idle}
use Rattle.ygg_oblige_parts.specs.ygg_rules.declared.rule.RuleKind.{RuleKind}
use Rattle.ygg_oblige_parts.specs.ygg_bank.Makes.{Make, and_make}
use Rattle.ygg_oblige_parts.specs.ygg_bank.Making.{made}
use Rattle.ygg_oblige_parts.specs.ygg_bank.declared.node.Id.{Id}
use Rattle.ygg_oblige_parts.specs.ygg_bank.declared.node.Node.TheVariants.{Bin}
use Rattle.ygg_oblige_parts.specs.ygg_shape_cells.declared.terms.SymValue.{SymValue}
use Rattle.ygg_oblige_parts.specs.ygg_sym_runs.StopTerms.{SymFallen}
use Rattle.ygg_oblige_laws.specs.ygg_sym_runs.Below.{zeros_made, lost_made}
use Rattle.ygg_oblige_laws.specs.ygg_sym_runs.Means.{values_in}
use Rattle.ygg_oblige_parts.specs.Layers.{closed, terms_in}
use Rattle.ygg_oblige_parts.specs.SymLayer.{SymLayer}
use Rattle.ygg_oblige_parts.specs.Sites.{below_in}
use Rattle.ygg_sym.specs.ygg_sym_spec.declared.below.SymBelow.{SymBelow}
use Rattle.ygg_sym.specs.declared.runs.SymEnd.{SymEnd}
use Rattle.ygg_oblige_parts.specs.ygg_oblige_laws.Numbers.{Numbers, arguments_of, block_of}
use Rattle.ygg_oblige_parts.specs.ygg_oblige_laws.TermStates.{Starting, fresh_all, all_compared, settled_made}
use Rattle.ygg_oblige_parts.specs.ygg_oblige_laws.Implied.{implied_made}
use Rattle.ygg_oblige_parts.specs.ygg_oblige_laws.Terms.{cut_short, falls_through, recovered, recovers, runs_through}
use Rattle.ygg_oblige_parts.specs.Passing.{some_in}

module _ (kinds : List RuleKind) where
  -- whether two runs leave the same memory and the same state below
  abbrev pub same_ends : SymEnd → SymEnd → Make Id
  same_ends one two =
      and_make (all_compared kinds one.memory two.memory) (λ memories.
      and_make (all_compared kinds one.low two.low) (λ bases. made kinds (Bin And memories bases)))

module _ (kinds : List RuleKind) (l : SymLayer) (g : SymBelow) where
  -- a whole run of the obligation's block ends in a state that passes
  abbrev pub runs_through_in : Obligation → Numbers → Starting → List SymValue → Make Id
  runs_through_in o n S args = runs_through kinds (terms_in kinds l) (closed l) (below_in g) o n S (block_of (closed l) o) args

  -- a run of the obligation's block that power cuts, and a recovery
  abbrev pub falls_through_in : Obligation → Numbers → Starting → List SymValue → Make Id
  falls_through_in o n S args = falls_through kinds (terms_in kinds l) (closed l) (below_in g) o n S (block_of (closed l) o) args

  -- a recovery that power cuts, from a settled state
  abbrev pub recovery_cut : Numbers → List SymValue → Make (SymFallen (List SymValue))
  recovery_cut n low =
      and_make (zeros_made kinds (l.layer.now).memory) (λ zeros.
      cut_short kinds (terms_in kinds l) (closed l) (below_in g) n (l.layer.now).recover zeros [] [] low)

  -- a recovery from what power left, which is to be settled, ends like one from the first base
  abbrev pub recovers_alike : Numbers → List SymValue → List SymValue → Make Id
  recovers_alike n low fallen =
      and_make (recovered kinds (terms_in kinds l) (closed l) (below_in g) n.wake fallen) (λ end.
      and_make (recovered kinds (terms_in kinds l) (closed l) (below_in g) n.other low) (λ other.
      and_make (settled_made kinds (terms_in kinds l) (closed l) fallen) (λ side.
      and_make (all_compared kinds (values_in end.vars) (values_in other.vars)) (λ memories.
      and_make (all_compared kinds end.to other.to) (λ bases.
      and_make (made kinds (Bin And memories bases)) (λ same. made kinds (Bin And side same)))))))

  -- the base is settled, and two recoveries' ends are alike
  abbrev pub settled_alike : List SymValue → List SymValue → List SymValue → List SymValue → List SymValue → Make Id
  settled_alike fallen memory low other base =
      and_make (settled_made kinds (terms_in kinds l) (closed l) fallen) (λ side.
      and_make (all_compared kinds memory other) (λ memories.
      and_make (all_compared kinds low base) (λ bases.
      and_make (made kinds (Bin And memories bases)) (λ same. made kinds (Bin And side same)))))

  -- a recovery ends like one from the first base
  abbrev pub ends_alike : Numbers → List SymValue → List SymValue → List SymValue → List SymValue → Make Id
  ends_alike n low fallen memory base =
      and_make (recovered kinds (terms_in kinds l) (closed l) (below_in g) n.other low) (λ other.
      settled_alike fallen memory base (values_in other.vars) other.to)

  -- what is asked of the recoveries after one that power cut
  abbrev pub again_after : Numbers → Id → List SymValue → List SymValue → Id → Make Id
  again_after n settled low fallen reached =
      and_make (recovers_alike n low fallen) (λ conclusion.
      and_make (made kinds (Bin And settled reached)) (λ hypothesis. implied_made kinds hypothesis conclusion))

  -- the base that a recovery began with is settled, and the recovery's end passes
  abbrev pub woken : Obligation → Id → List SymValue → List SymValue → List SymValue → Option SymValue → List SymValue → List SymValue → Make Id
  woken o hypothesis vars args fallen answer memory low =
      and_make (settled_made kinds (terms_in kinds l) (closed l) fallen) (λ side.
      and_make (some_in kinds (terms_in kinds l) (closed l) o vars args answer memory low) (λ some.
      and_make (made kinds (Bin And side some)) (λ conclusion. implied_made kinds hypothesis conclusion)))

  -- power loss between operations, and a recovery
  abbrev pub idles : Numbers → Starting → Make Id
  idles n S =
      and_make (lost_made kinds (terms_in kinds l) (below_in g) n.last S.from.low) (λ fallen.
      recovers kinds (terms_in kinds l) (closed l) (below_in g) Idle n S.related S.from.vars [] fallen)

  -- a whole run of the obligation's block over fresh arguments
  abbrev pub whole_term : Obligation → Numbers → Starting → Make Id
  whole_term o n S = and_make (fresh_all kinds n.args (arguments_of o)) (λ args. runs_through_in o n S args)

  -- a run of the obligation's block over fresh arguments that power cuts, and a recovery
  abbrev pub cut_term : Obligation → Numbers → Starting → Make Id
  cut_term o n S = and_make (fresh_all kinds n.args (arguments_of o)) (λ args. falls_through_in o n S args)
