-- Zeros for declared names are worth zeros, and hold what is kept.
use Rattle.std.proofs.Common.{◌≡◌, List, [], ◌∷◌, refl, ap, ◌∙◌}
use Rattle.ygg_value.specs.Shapes.{IsShape, zero_of}
use Rattle.ygg_syntax.specs.declared.tree.Declared.{Declared}
use Rattle.ygg_meaning_laws.specs.ygg_meaning.Shapes.{shape_in, zeros_of}
use Rattle.ygg_sym_runs.specs.ygg_rules.declared.rule.RuleKind.{RuleKind}
use Rattle.ygg_sym_runs.specs.ygg_bank_proofs_Meaning.{fits_fewer}
use Rattle.ygg_sym_runs.specs.ygg_bank_proofs_Widths.{extends_self}
use Rattle.ygg_sym_runs.specs.ygg_bank.Nodes.{Extends}
use Rattle.ygg_sym_runs.specs.ygg_bank.Values.{Inputs, Values, Fits}
use Rattle.ygg_sym_runs.specs.ygg_bank.declared.node.Node.{Node}
use Rattle.ygg_sym_runs.specs.ygg_shape_words_proofs_Keeps.{Stays, grows_stays}
use Rattle.ygg_sym_runs.specs.ygg_shape_cells_proofs_Wider.{shaped_wider}
use Rattle.ygg_sym_runs.proofs.of_ygg_shape.Whole.{zero_made_keeps, zero_gives}
use Rattle.ygg_sym_runs.specs.ygg_shape.Wholes.{zero_made}
use Rattle.ygg_sym_runs.specs.ExpressionMeaning.{Grows}
use Rattle.ygg_sym_runs.proofs.Keeps.{Keeps}
use Rattle.ygg_sym_runs.specs.Lows.{LowShaped, low_worth}
use Rattle.ygg_sym_runs.specs.ygg_shape_cells.declared.terms.SymValue.{SymValue}
use Rattle.ygg_sym_runs.specs.Below.{zeros_made}

-- the declared shapes keep the limits
abbrev pub AreShapes : List Declared → Type 0
AreShapes [] = Unit {0}
AreShapes (d ∷ ds) = IsShape (shape_in d.shape) × AreShapes ds

module _ (kinds : List RuleKind) where
  pub zeros_made_keep : (P : List Node → Type 0) → Stays kinds P → (ds : List Declared) → Keeps P (zeros_made kinds ds)
  zeros_made_keep P stays [] nodes p = p
  zeros_made_keep P stays (d ∷ ds) nodes p =
      let o = zero_made kinds (shape_in d.shape) nodes in
      zeros_made_keep P stays ds o.nodes (zero_made_keeps kinds P stays (shape_in d.shape) nodes p)

  pub zeros_made_grow : (ds : List Declared) → Grows (zeros_made kinds ds)
  zeros_made_grow ds nodes = zeros_made_keep (Extends nodes) (grows_stays kinds nodes) ds nodes (extends_self nodes)

  module _ (inputs : Inputs) (v : Values) where
    -- values of the declared shapes whose numbers are all 0
    pub record AreZeros (ds : List Declared) (nodes : List Node) (xs : List SymValue) : Type 0 where
      pub has : LowShaped nodes ds xs
      pub is : low_worth v ds xs ≡ zeros_of ds

    pub zeros_give : (ds : List Declared) (nodes : List Node) → AreShapes ds → Fits inputs v (zeros_made kinds ds nodes).nodes →
        AreZeros ds (zeros_made kinds ds nodes).nodes (zeros_made kinds ds nodes).value
    zeros_give [] nodes s h = record { has = tt; is = refl }
    zeros_give (d ∷ ds) nodes s h =
        let o = zero_made kinds (shape_in d.shape) nodes in
        let r = zeros_made kinds ds o.nodes in
        let g = zeros_made_grow ds o.nodes in
        let a = zero_gives inputs v kinds (shape_in d.shape) nodes s.0 (fits_fewer inputs v o.nodes r.nodes g h) in
        let b = zeros_give ds o.nodes s.1 h in
        record {
          has = (shaped_wider o.nodes r.nodes (shape_in d.shape) o.value g a.shaped, b.has);
          is = ap (λ x. (d.name.text, x) ∷ low_worth v ds r.value) a.is ∙ ap (λ rest. (d.name.text, zero_of (shape_in d.shape)) ∷ rest) b.is;
        }
