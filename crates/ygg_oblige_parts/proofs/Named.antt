-- Inputs for declared names, name by name.
use Rattle.std.proofs.Common.{◌≡◌, ◌<◌, ℕ, ◌+◌, List, ◌∷◌, [], ◌++◌, length, drop, get_or, sym, ap, ◌∙◌}
use Rattle.ygg_syntax.specs.declared.tree.Declared.{Declared}
use Rattle.ygg_sym_spec.specs.ygg_rules.declared.rule.RuleKind.{RuleKind}
use Rattle.ygg_sym_spec.specs.ygg_meaning.Shapes.{shape_in}
use Rattle.ygg_sym_spec.specs.ygg_bank.Inputs.{InputsBelow}
use Rattle.ygg_sym_spec.specs.ygg_bank.Nodes.{IsBank}
use Rattle.ygg_sym_spec.specs.ygg_bank.Values.{value_of}
use Rattle.ygg_sym_spec.specs.ygg_bank.declared.node.Node.{Node}
use Rattle.ygg_sym_spec.specs.ygg_shape_cells.Fresh.{fresh_made, words_of}
use Rattle.ygg_sym_spec.proofs.of_ygg_shape.Answered.{no_inputs, some_fit}
use Rattle.ygg_sym_spec.specs.ygg_shape_cells.declared.terms.SymValue.{SymValue}
use Rattle.ygg_sym_spec.specs.ygg_sym_runs.Lows.{LowShaped}
use Rattle.ygg_sym_spec.proofs.Left.{Left, left_goes, rest_is}
use Rattle.ygg_oblige_laws.specs.LayerTerms.{ShapesKept}
use Rattle.ygg_oblige_laws.specs.TermStates.{fresh_all, words_in}
use Rattle.ygg_oblige_laws.proofs.Fresh.{all_gives}

module _ (kinds : List RuleKind) where
  pub fresh_go : (ds : List Declared) (number : ℕ) (old : List Node) (n : ℕ) (now : List Node) (i : ℕ) (so_far : List SymValue) (d e : Declared)
      (x : SymValue) (next : List Node) → i < length ds → d ≡ get_or ds i e → next ≡ (fresh_made kinds n (shape_in d.shape) now).nodes →
      x ≡ (fresh_made kinds n (shape_in d.shape) now).value →
      Left (fresh_all kinds number ds old) (fresh_all kinds n (drop i ds) now) so_far →
      Left (fresh_all kinds number ds old) (fresh_all kinds (n + words_of (shape_in d.shape)) (drop (i + 1) ds) next) (so_far ++ x ∷ [])
  fresh_go ds number old n now i so_far d e x next l is g f left =
      let rest = rest_is ds i d e l is in
      let more = drop (i + 1) ds in
      let m = n + words_of (shape_in d.shape) in
      let o = fresh_made kinds n (shape_in d.shape) now in
      left_goes (fresh_all kinds number ds old) (fresh_all kinds n (drop i ds) now) (fresh_all kinds m more next) so_far x
      (ap (λ z. (fresh_all kinds n z now).value) rest ∙ ap (λ z. o.value ∷ (fresh_all kinds m more z).value) (sym g)
      ∙ ap (λ z. z ∷ (fresh_all kinds m more next).value) (sym f))
      (ap (λ z. (fresh_all kinds n z now).nodes) rest ∙ ap (λ z. (fresh_all kinds m more z).nodes) (sym g)) left

  pub fresh_stand : (number : ℕ) (ds : List Declared) (nodes : List Node) → ShapesKept ds → InputsBelow number nodes →
      IsBank (fresh_all kinds number ds nodes).nodes → LowShaped (fresh_all kinds number ds nodes).nodes ds (fresh_all kinds number ds nodes).value
  fresh_stand number ds nodes k b bank =
      let o = fresh_all kinds number ds nodes in
      (all_gives no_inputs (value_of no_inputs o.nodes) kinds number ds nodes k b (some_fit o.nodes bank)).shaped

pub words_go : (ds : List Declared) (i : ℕ) (d e : Declared) → i < length ds → d ≡ get_or ds i e →
    words_in (drop i ds) ≡ words_of (shape_in d.shape) + words_in (drop (i + 1) ds)
words_go ds i d e l is = ap words_in (rest_is ds i d e l is)
