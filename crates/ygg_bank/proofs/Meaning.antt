-- Values of nodes, and what a made node is worth.
use Rattle.std.proofs.Common.{◌≡◌, ℕ, Option, Some, None, List, [], refl, sym, ap, ◌∙◌, subst, slice_get}
use Rattle.ygg_value.specs.Words.{apply_to}
use Rattle.ygg_rules.proofs.Right.{IsRight}
use Rattle.ygg_rules.specs.Laws.{MayBe, MayHold}
use Rattle.ygg_rules.specs.Rows.{book_row}
use Rattle.ygg_rules.specs.Views.{Seen, operand, number_of, value_of as view_value}
use Rattle.ygg_rules.specs.declared.rule.RuleKind.{RuleKind}
use Rattle.ygg_rules.specs.declared.view.Operand.{Operand}
use Rattle.ygg_rules.specs.declared.view.Rewrite.{Rewrite}
use Rattle.ygg_rules.specs.declared.view.Rewrite.TheVariants as rewrite
use Rattle.ygg_bank.proofs.Fitting.{Each, IsDrawn, AllDrawn, Viewed, all_drawn, viewed, book_right, constant_there}
use Rattle.ygg_bank.proofs.Made.{added_there, made_grows}
use Rattle.ygg_bank.proofs.Places.{in_front}
use Rattle.ygg_bank.proofs.Widths.{wider, has_width, ordered_fewer}
use Rattle.ygg_bank.specs.Making.{id, id_of, view_of, added, rewritten, asked, made}
use Rattle.ygg_bank.specs.Nodes.{width_at, widths_of, CanMake, InOrder, Extends}
use Rattle.ygg_bank.specs.Values.{Inputs, Values, node_value, Fits}
use Rattle.ygg_bank.specs.declared.node.Node.{Node}
use Rattle.ygg_bank.specs.declared.node.Node.TheVariants.{Input, Const, Bin, Not, Resize, Pick}

-- words that fit the nodes fit the first of them
pub fits_fewer : (inputs : Inputs) (v : Values) (old new : List Node) → Extends old new → Fits inputs v new → Fits inputs v old
fits_fewer inputs v old new g h = record {
  ordered = ordered_fewer [] old g.more (subst (InOrder []) g.is h.ordered);
  words = h.words;
  widths = λ k w e. h.widths k w (wider old new (id k) w g e);
  values = λ k n e. h.values k n (subst (λ ns. slice_get ns k ≡ Some n) (sym g.is) (in_front old g.more k n e));
}

module _ (inputs : Inputs) (v : Values) where
  -- the words at places may be those of a view's operands
  holds : (nodes : List Node) (o : Operand) → Fits inputs v nodes → IsDrawn nodes o → MayBe o (v o.id)
  holds nodes o h d =
      subst (λ (x : Operand). MayBe x (v x.id)) (sym d.is) (record {
        word = h.words d.it.0;
        width = h.widths d.it.0 (width_at (widths_of nodes) d.it) (has_width nodes d.it d.stands);
        known = λ k e. h.values d.it.0 (Const k) (constant_there nodes d.it k e);
      })

  may_hold : (nodes : List Node) (w : Seen) → Fits inputs v nodes → ((number : ℕ) → Each (IsDrawn nodes) (operand w number)) → MayHold w v
  may_hold nodes w h d number o e = holds nodes o h (d number o e)

  -- the view of a node has the node's value
  abbrev Worth : Node → Option Seen → Type 0
  Worth n None = Unit {0}
  Worth n (Some w) = view_value v w ≡ node_value inputs v n

  view_worth : (nodes : List Node) (n : Node) → Worth n (view_of nodes n)
  view_worth nodes (Input m w) = tt
  view_worth nodes (Const k) = tt
  view_worth nodes (Bin o a b) = refl
  view_worth nodes (Not a) = refl
  view_worth nodes (Resize a w) = refl
  view_worth nodes (Pick t a b) = refl

  added_gives : (n : Node) (nodes : List Node) → Fits inputs v (added n nodes).nodes → v (added n nodes).value.0 ≡ node_value inputs v n
  added_gives n nodes h = h.values (added n nodes).value.0 n (added_there n nodes)

  operand_number : (nodes : List Node) (o : Option Operand) (a : Operand) → o ≡ Some a → v (id_of o).0 ≡ number_of v o
  operand_number nodes (Some b) a e = refl
  operand_number nodes None a e = absurd (cc)

  rewritten_gives : (n : Node) (w : Seen) (r : Rewrite) (nodes : List Node) → MayHold w v → IsRight w r → view_value v w ≡ node_value inputs v n →
      Fits inputs v (rewritten n w r nodes).nodes → v (rewritten n w r nodes).value.0 ≡ node_value inputs v n
  rewritten_gives n w rewrite.Keep nodes m r e h = added_gives n nodes h
  rewritten_gives n w (rewrite.Operand i) nodes m r e h =
      let g = r.names in operand_number nodes (operand w i) g.it g.there ∙ r.keeps v m ∙ e
  rewritten_gives n w (rewrite.Constant k) nodes m r e h = added_gives (Const k) nodes h ∙ r.keeps v m ∙ e
  rewritten_gives n w (rewrite.Node op i j) nodes m r e h =
      let g = r.names in
      added_gives (Bin op (id_of (operand w i)) (id_of (operand w j))) nodes h
      ∙ ap (λ x. apply_to op x (v (id_of (operand w j)).0)) (operand_number nodes (operand w i) g.one g.one_there)
      ∙ ap (λ x. apply_to op (number_of v (operand w i)) x) (operand_number nodes (operand w j) g.two g.two_there)
      ∙ r.keeps v m ∙ e

  asked_gives : (kinds : List RuleKind) (n : Node) (w : Option Seen) (nodes : List Node) → Fits inputs v nodes → AllDrawn nodes w → Viewed w → Worth n w →
      Fits inputs v (asked kinds n w nodes).nodes → v (asked kinds n w nodes).value.0 ≡ node_value inputs v n
  asked_gives kinds n None nodes f d s e h = added_gives n nodes h
  asked_gives kinds n (Some w) nodes f d s e h = rewritten_gives n w (book_row kinds w) nodes (may_hold nodes w f d) (book_right kinds w s) e h

  -- under words that fit the nodes then, the node that is answered has the value of the node that was asked for
  pub made_gives : (kinds : List RuleKind) (n : Node) (nodes : List Node) → CanMake nodes n → Fits inputs v (made kinds n nodes).nodes →
      v (made kinds n nodes).value.0 ≡ node_value inputs v n
  made_gives kinds n nodes c h =
      let f = fits_fewer inputs v nodes (made kinds n nodes).nodes (made_grows kinds n nodes) h in
      asked_gives kinds n (view_of nodes n) nodes f (all_drawn nodes n c) (viewed nodes n f.ordered c) (view_worth nodes n) h
