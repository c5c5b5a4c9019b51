-- Zeros for declared names, name by name.
use Rattle.std.proofs.Common.{◌≡◌, ◌<◌, ◌≤◌, ℕ, ◌+◌, List, [], ◌∷◌, ◌++◌, length, drop, get_or, sym, ap, ◌∙◌, subst}
use Rattle.std.proofs.lemmas.List.{drop_all}
use Rattle.std.proofs.lemmas.List.Elements.{All-head, All-tail}
use Rattle.ygg_value.specs.Shapes.{IsShape}
use Rattle.ygg_syntax.specs.declared.tree.Declared.{Declared}
use Rattle.ygg_sym_spec.specs.ygg_rules.declared.rule.RuleKind.{RuleKind}
use Rattle.ygg_sym_spec.specs.ygg_meaning.Shapes.{shape_in}
use Rattle.ygg_sym_spec.specs.ygg_bank.Nodes.{IsBank}
use Rattle.ygg_sym_spec.specs.ygg_bank.Values.{value_of}
use Rattle.ygg_sym_spec.specs.ygg_bank.declared.node.Node.{Node}
use Rattle.ygg_sym_spec.specs.ygg_shape.Wholes.{zero_made}
use Rattle.ygg_sym_spec.proofs.of_ygg_shape.Answered.{no_inputs, some_fit}
use Rattle.ygg_sym_spec.specs.ygg_shape_cells.declared.terms.SymValue.{SymValue}
use Rattle.ygg_sym_runs.specs.Lows.{LowShaped}
use Rattle.ygg_sym_spec.specs.ygg_sym_runs.Lower.{KeepsSingle, SingleFrom}
use Rattle.ygg_sym_spec.proofs.of_ygg_sym_runs.Singles.{single_stays}
use Rattle.ygg_sym_runs.specs.Below.{zeros_made}
use Rattle.ygg_sym_runs.proofs.DeclaredZeros.{AreShapes, zeros_give, zeros_made_keep}
use Rattle.ygg_sym_spec.specs.Kept.{AreKept}
use Rattle.ygg_sym_spec.proofs.Left.{Left, left_goes, rest_is}

shapes_are : (ds : List Declared) → AreKept ds → AreShapes ds
shapes_are [] k = tt
shapes_are (d ∷ ds) k = (
  All-head (λ (d : Declared). IsShape (shape_in d.shape)) d ds k,
  shapes_are ds
      (All-tail (λ (d : Declared). IsShape (shape_in d.shape)) d ds k),
)

pub kept_more : (ds : List Declared) (i : ℕ) (d e : Declared) → i < length ds → d ≡ get_or ds i e → AreKept (drop i ds) → AreKept (drop (i + 1) ds)
kept_more ds i d e l is k =
    All-tail (λ (d : Declared). IsShape (shape_in d.shape)) d (drop (i + 1) ds) (subst AreKept (rest_is ds i d e l is) k)

module _ (kinds : List RuleKind) where
  pub zeros_go : (ds : List Declared) (old now : List Node) (i : ℕ) (so_far : List SymValue) (d e : Declared) (x : SymValue) (next : List Node) →
      i < length ds → d ≡ get_or ds i e → next ≡ (zero_made kinds (shape_in d.shape) now).nodes → x ≡ (zero_made kinds (shape_in d.shape) now).value →
      Left (zeros_made kinds ds old) (zeros_made kinds (drop i ds) now) so_far →
      Left (zeros_made kinds ds old) (zeros_made kinds (drop (i + 1) ds) next) (so_far ++ x ∷ [])
  zeros_go ds old now i so_far d e x next l is g f left =
      let rest = rest_is ds i d e l is in
      let more = drop (i + 1) ds in
      let o = zero_made kinds (shape_in d.shape) now in
      left_goes (zeros_made kinds ds old) (zeros_made kinds (drop i ds) now) (zeros_made kinds more next) so_far x
      (ap (λ z. (zeros_made kinds z now).value) rest ∙ ap (λ z. o.value ∷ (zeros_made kinds more z).value) (sym g)
      ∙ ap (λ z. z ∷ (zeros_made kinds more next).value) (sym f))
      (ap (λ z. (zeros_made kinds z now).nodes) rest ∙ ap (λ z. (zeros_made kinds more z).nodes) (sym g)) left

  -- where no name is left
  pub zeros_end : (ds : List Declared) (old now : List Node) (i : ℕ) (so_far : List SymValue) → length ds ≤ i →
      Left (zeros_made kinds ds old) (zeros_made kinds (drop i ds) now) so_far → Left (zeros_made kinds ds old) (record { value = []; nodes = now }) so_far
  zeros_end ds old now i so_far l left = subst (λ z. Left (zeros_made kinds ds old) (zeros_made kinds z now) so_far) (drop_all i ds l) left

  -- zeros stand, and no input comes with them
  pub zeros_stand : (ds : List Declared) (nodes : List Node) → AreKept ds → IsBank (zeros_made kinds ds nodes).nodes →
      LowShaped (zeros_made kinds ds nodes).nodes ds (zeros_made kinds ds nodes).value
  zeros_stand ds nodes k bank =
      let o = zeros_made kinds ds nodes in
      (zeros_give kinds no_inputs (value_of no_inputs o.nodes) ds nodes (shapes_are ds k) (some_fit o.nodes bank)).has

  pub zeros_single : (ds : List Declared) (nodes : List Node) → KeepsSingle nodes (zeros_made kinds ds nodes).nodes
  zeros_single ds nodes first h = zeros_made_keep kinds (SingleFrom first) (single_stays kinds first) ds nodes h
