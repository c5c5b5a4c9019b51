-- States that are joined: as merged ones, where picks of one word under two tests are one pick.
use Rattle.std.proofs.Common.{if◌then◌else◌, List, [], ◌∷◌, ap, ◌∙◌}
use Rattle.ygg_syntax.specs.declared.tree.Declared.{Declared}
use Rattle.ygg_sym_runs.specs.ygg_meaning.Shapes.{shape_in}
use Rattle.ygg_sym_runs.specs.ygg_rules.declared.rule.RuleKind.{RuleKind}
use Rattle.ygg_sym_runs.specs.ygg_bank_proofs_Meaning.{fits_fewer}
use Rattle.ygg_sym_runs.specs.ygg_bank_proofs_Widths.{wider, extends_both, extends_self}
use Rattle.ygg_sym_runs.specs.ygg_bank.Nodes.{HasWidth}
use Rattle.ygg_sym_runs.specs.ygg_bank.Values.{Inputs, Values}
use Rattle.ygg_sym_runs.specs.ygg_bank.declared.node.Id.{Id}
use Rattle.ygg_sym_runs.specs.ygg_bank.declared.node.Node.{Node}
use Rattle.ygg_sym_runs.specs.ygg_shape_words_proofs_Keeps.{Stays}
use Rattle.ygg_sym_runs.specs.ygg_shape_cells.Terms.{worth}
use Rattle.ygg_sym_runs.specs.ygg_shape_cells.declared.terms.SymValue.{SymValue}
use Rattle.ygg_sym_runs.specs.ygg_shape_cells_proofs_Wider.{shaped_wider}
use Rattle.ygg_sym_runs.specs.ygg_shape_joins.Joining.{joined}
use Rattle.ygg_sym_runs.specs.ygg_shape_joins_proofs_Joins.{joined_grows, joined_all_keeps}
use Rattle.ygg_sym_runs.specs.ygg_shape_joins_proofs_JoinedWorth.{joined_gives}
use Rattle.ygg_sym_runs.specs.ExpressionMeaning.{Grows, Gives}
use Rattle.ygg_sym_runs.specs.Meaning.{is_set}
use Rattle.ygg_sym_runs.specs.Lows.{LowShaped, low_worth, join_lows}
use Rattle.ygg_sym_runs.proofs.Keeps.{Keeps}
use Rattle.ygg_sym_runs.proofs.Lows.{LowIs, low_wider, bind_if, same_if}

module _ (inputs : Inputs) (v : Values) (kinds : List RuleKind) where
  pub join_lows_grows : (t : Id) (a b : List SymValue) → Grows (join_lows kinds t a b)
  join_lows_grows t [] b nodes = extends_self nodes
  join_lows_grows t (x ∷ a) [] nodes = extends_self nodes
  join_lows_grows t (x ∷ a) (y ∷ b) nodes =
      let o = joined kinds t x y nodes in
      extends_both nodes o.nodes (join_lows kinds t a b o.nodes).nodes (joined_grows kinds t x y nodes) (join_lows_grows t a b o.nodes)

  pub join_worth : (ds : List Declared) (t : Id) (a b : List SymValue) (nodes : List Node) → HasWidth nodes t 1 → LowShaped nodes ds a →
      LowShaped nodes ds b →
      Gives inputs v (join_lows kinds t a b) nodes (LowIs inputs v kinds ds (if is_set v t then low_worth v ds a else low_worth v ds b))
  join_worth [] t [] [] nodes d p q h = record { has = tt; is = same_if (is_set v t) [] }
  join_worth [] t (x ∷ a) b nodes d p q h = absurd p
  join_worth [] t [] (y ∷ b) nodes d p q h = absurd q
  join_worth (c ∷ ds) t [] b nodes d p q h = absurd p
  join_worth (c ∷ ds) t (x ∷ a) [] nodes d p q h = absurd q
  join_worth (c ∷ ds) t (x ∷ a) (y ∷ b) nodes d p q h =
      let o = joined kinds t x y nodes in
      let r = join_lows kinds t a b o.nodes in
      let e = joined_grows kinds t x y nodes in
      let u = join_lows_grows t a b o.nodes in
      let m = joined_gives inputs v kinds (shape_in c.shape) t x y nodes d p.0 q.0 (fits_fewer inputs v o.nodes r.nodes u h) in
      let z = join_worth ds t a b o.nodes (wider nodes o.nodes t 1 e d) (low_wider nodes o.nodes ds a e p.1) (low_wider nodes o.nodes ds b e q.1) h in
      record {
        has = (shaped_wider o.nodes r.nodes (shape_in c.shape) o.value u m.shaped, z.has);
        is = ap (λ w. (c.name.text, w) ∷ low_worth v ds r.value) m.is
            ∙ ap (λ ws. (c.name.text, (if is_set v t then worth v x else worth v y)) ∷ ws) z.is
            ∙ bind_if (is_set v t) c (worth v x) (worth v y) (low_worth v ds a) (low_worth v ds b);
      }

-- what holds of nodes, and stays as nodes other than inputs are made, holds after states are joined
pub joins_keep : (kinds : List RuleKind) (P : List Node → Type 0) → Stays kinds P → (t : Id) (a b : List SymValue) → Keeps P (join_lows kinds t a b)
joins_keep kinds P stays t a b nodes p = joined_all_keeps kinds P stays t a b nodes p
