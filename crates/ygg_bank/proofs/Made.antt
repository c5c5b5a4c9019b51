-- What making a node does to a list of nodes.
use Rattle.std.proofs.Common.{◌≡◌, ℕ, Bool, true, false, if◌then◌else◌, Option, Some, None, List, [], ◌∷◌, ◌++◌, refl, sym, ap, ◌∙◌, subst, slice_get}
use Rattle.std.specs.List.{list_any, position_or_len}
use Rattle.ygg_value.specs.Words.{word, result_width, CanApply}
use Rattle.ygg_value.specs.declared.operation.Op.{Op}
use Rattle.ygg_rules.proofs.Right.{IsRight}
use Rattle.ygg_rules.specs.Laws.{AreThere}
use Rattle.ygg_rules.specs.Rows.{book_row}
use Rattle.ygg_rules.specs.Views.{Seen, operand}
use Rattle.ygg_rules.specs.declared.rule.RuleKind.{RuleKind}
use Rattle.ygg_rules.specs.declared.view.Operand.{Operand}
use Rattle.ygg_rules.specs.declared.view.Rewrite.{Rewrite}
use Rattle.ygg_rules.specs.declared.view.Rewrite.TheVariants as rewrite
use Rattle.ygg_bank.proofs.Fitting.{Each, IsDrawn, AllDrawn, Viewed, WideAs, all_drawn, viewed, view_width, book_right}
use Rattle.ygg_bank.proofs.Places.{found, last, at_end}
use Rattle.ygg_bank.proofs.Same.{same_is}
use Rattle.ygg_bank.proofs.Widths.{widths_more, widths_length, has_width, own_width, extends_self, extends_one, ordered_more}
use Rattle.ygg_bank.specs.Making.{id, id_of, operand_of, view_of, same, added, rewritten, asked, made}
use Rattle.ygg_bank.specs.Nodes.{width_at, widths_of, node_width, HasWidth, Stands, CanBin, CanMake, InOrder, Extends}
use Rattle.ygg_bank.specs.declared.node.Node.{Node}
use Rattle.ygg_bank.specs.declared.node.Node.TheVariants.{Const, Bin}

-- nodes after one more is added, where the test says that it is there
grows_case : (nodes : List Node) (n : Node) (b : Bool) → Extends nodes (if b then nodes else nodes ++ n ∷ [])
grows_case nodes n true = extends_self nodes
grows_case nodes n false = extends_one nodes n

added_grows : (n : Node) (nodes : List Node) → Extends nodes (added n nodes).nodes
added_grows n nodes = grows_case nodes n (list_any (same n) nodes)

rewritten_grows : (n : Node) (v : Seen) (r : Rewrite) (nodes : List Node) → Extends nodes (rewritten n v r nodes).nodes
rewritten_grows n v rewrite.Keep nodes = added_grows n nodes
rewritten_grows n v (rewrite.Operand i) nodes = extends_self nodes
rewritten_grows n v (rewrite.Constant k) nodes = added_grows (Const k) nodes
rewritten_grows n v (rewrite.Node op i j) nodes = added_grows (Bin op (id_of (operand v i)) (id_of (operand v j))) nodes

asked_grows : (kinds : List RuleKind) (n : Node) (v : Option Seen) (nodes : List Node) → Extends nodes (asked kinds n v nodes).nodes
asked_grows kinds n None nodes = added_grows n nodes
asked_grows kinds n (Some v) nodes = rewritten_grows n v (book_row kinds v) nodes

-- making a node only adds nodes after those that are there
pub made_grows : (kinds : List RuleKind) (n : Node) (nodes : List Node) → Extends nodes (made kinds n nodes).nodes
made_grows kinds n nodes = asked_grows kinds n (view_of nodes n) nodes

ordered_case : (nodes : List Node) (n : Node) (b : Bool) → InOrder [] nodes → CanMake nodes n → InOrder [] (if b then nodes else nodes ++ n ∷ [])
ordered_case nodes n true o c = o
ordered_case nodes n false o c = ordered_more [] nodes n o c

pub added_ordered : (n : Node) (nodes : List Node) → InOrder [] nodes → CanMake nodes n → InOrder [] (added n nodes).nodes
added_ordered n nodes o c = ordered_case nodes n (list_any (same n) nodes) o c

-- the place of an added node holds it
place_case : (nodes : List Node) (n : Node) (b : Bool) → list_any (same n) nodes ≡ b →
    slice_get (if b then nodes else nodes ++ n ∷ []) (position_or_len (same n) nodes) ≡ Some n
place_case nodes n true e = let f = found (same n) nodes e in f.there ∙ ap (λ m. Some m) (sym (same_is n f.it f.passes))
place_case nodes n false e = subst (λ k. slice_get (nodes ++ n ∷ []) k ≡ Some n) (sym (last (same n) nodes e)) (at_end nodes n)

pub added_there : (n : Node) (nodes : List Node) → slice_get (added n nodes).nodes (added n nodes).value.0 ≡ Some n
added_there n nodes = place_case nodes n (list_any (same n) nodes) refl

-- the width of an added node
width_case : (nodes : List Node) (n : Node) (b : Bool) → list_any (same n) nodes ≡ b → InOrder [] nodes →
    slice_get (widths_of (if b then nodes else nodes ++ n ∷ [])) (position_or_len (same n) nodes) ≡ Some (node_width (widths_of nodes) n)
width_case nodes n true e o =
    let f = found (same n) nodes e in
    own_width nodes (position_or_len (same n) nodes) n o (f.there ∙ ap (λ m. Some m) (sym (same_is n f.it f.passes)))
width_case nodes n false e o =
    subst (λ ws. slice_get ws (position_or_len (same n) nodes) ≡ Some (node_width (widths_of nodes) n)) (sym (widths_more nodes n))
    (subst (λ k. slice_get (widths_of nodes ++ node_width (widths_of nodes) n ∷ []) k ≡ Some (node_width (widths_of nodes) n))
    (widths_length nodes ∙ sym (last (same n) nodes e)) (at_end (widths_of nodes) (node_width (widths_of nodes) n)))

added_width : (n : Node) (nodes : List Node) → InOrder [] nodes → HasWidth (added n nodes).nodes (added n nodes).value (node_width (widths_of nodes) n)
added_width n nodes o = width_case nodes n (list_any (same n) nodes) refl o

-- where an operand that an answer names stands
pub record Drawn (nodes : List Node) (o : Option Operand) (a : Operand) : Type 0 where
  pub stands : Stands nodes (id_of o)
  pub width : width_at (widths_of nodes) (id_of o) ≡ a.width
  pub is : a ≡ operand_of nodes (id_of o)

pub named : (nodes : List Node) (o : Option Operand) (a : Operand) → o ≡ Some a → Each (IsDrawn nodes) o → Drawn nodes o a
named nodes (Some b) a e d =
    let f : b ≡ a = cc in let p = d b refl in
    let i : p.it.0 ≡ b.id = sym (ap (λ (x : Operand). x.id) p.is) in
    let place : p.it ≡ id b.id = ap id i in
    record {
      stands = subst (λ x. Stands nodes x) place p.stands;
      width = ap (width_at (widths_of nodes)) (sym place) ∙ sym (ap (λ (x : Operand). x.width) p.is) ∙ ap (λ (x : Operand). x.width) f;
      is = sym f ∙ p.is ∙ ap (operand_of nodes) place;
    }
named nodes None a e d = absurd (cc)

-- the operation that an answer names can be made
pub can_node : (nodes : List Node) (v : Seen) (op : Op) (i j : ℕ) → ((number : ℕ) → Each (IsDrawn nodes) (operand v number)) → AreThere v op i j →
    CanBin nodes op (id_of (operand v i)) (id_of (operand v j))
can_node nodes v op i j d h =
    let a = named nodes (operand v i) h.one h.one_there (d i) in
    let b = named nodes (operand v j) h.two h.two_there (d j) in
    record {
      one = a.stands;
      two = b.stands;
      widths = subst (λ w. CanApply op (word (width_at (widths_of nodes) (id_of (operand v i))) 0) (word w 0)) (sym b.width)
          (subst (λ w. CanApply op (word w 0) (word h.two.width 0)) (sym a.width) h.fits.can);
    }

rewritten_ordered : (n : Node) (v : Seen) (r : Rewrite) (nodes : List Node) → InOrder [] nodes → CanMake nodes n →
    ((number : ℕ) → Each (IsDrawn nodes) (operand v number)) →
    IsRight v r → InOrder [] (rewritten n v r nodes).nodes
rewritten_ordered n v rewrite.Keep nodes o c d h = added_ordered n nodes o c
rewritten_ordered n v (rewrite.Operand i) nodes o c d h = o
rewritten_ordered n v (rewrite.Constant k) nodes o c d h = let g = h.names in added_ordered (Const k) nodes o g.word
rewritten_ordered n v (rewrite.Node op i j) nodes o c d h =
    added_ordered (Bin op (id_of (operand v i)) (id_of (operand v j))) nodes o (can_node nodes v op i j d h.names)

asked_ordered : (kinds : List RuleKind) (n : Node) (v : Option Seen) (nodes : List Node) → InOrder [] nodes → CanMake nodes n → AllDrawn nodes v → Viewed v →
    InOrder [] (asked kinds n v nodes).nodes
asked_ordered kinds n None nodes o c d h = added_ordered n nodes o c
asked_ordered kinds n (Some v) nodes o c d h = rewritten_ordered n v (book_row kinds v) nodes o c d (book_right kinds v h)

-- making a node keeps the order
pub made_ordered : (kinds : List RuleKind) (n : Node) (nodes : List Node) → InOrder [] nodes → CanMake nodes n → InOrder [] (made kinds n nodes).nodes
made_ordered kinds n nodes o c = asked_ordered kinds n (view_of nodes n) nodes o c (all_drawn nodes n c) (viewed nodes n o c)

rewritten_width : (n : Node) (v : Seen) (r : Rewrite) (nodes : List Node) → InOrder [] nodes → ((number : ℕ) → Each (IsDrawn nodes) (operand v number)) →
    v.width ≡ node_width (widths_of nodes) n → IsRight v r →
    HasWidth (rewritten n v r nodes).nodes (rewritten n v r nodes).value (node_width (widths_of nodes) n)
rewritten_width n v rewrite.Keep nodes o d w h = added_width n nodes o
rewritten_width n v (rewrite.Operand i) nodes o d w h =
    let g = h.names in let a = named nodes (operand v i) g.it g.there (d i) in
    has_width nodes (id_of (operand v i)) a.stands ∙ ap (λ x. Some x) (a.width ∙ g.width ∙ w)
rewritten_width n v (rewrite.Constant k) nodes o d w h =
    let g = h.names in added_width (Const k) nodes o ∙ ap (λ x. Some x) (g.width ∙ w)
rewritten_width n v (rewrite.Node op i j) nodes o d w h =
    let g = h.names in let a = named nodes (operand v i) g.one g.one_there (d i) in
    added_width (Bin op (id_of (operand v i)) (id_of (operand v j))) nodes o ∙ ap (λ x. Some x) (ap (result_width op) a.width ∙ sym g.fits.is ∙ w)

asked_width : (kinds : List RuleKind) (n : Node) (v : Option Seen) (nodes : List Node) → InOrder [] nodes → AllDrawn nodes v → Viewed v →
    WideAs (node_width (widths_of nodes) n) v →
    HasWidth (asked kinds n v nodes).nodes (asked kinds n v nodes).value (node_width (widths_of nodes) n)
asked_width kinds n None nodes o d h w = added_width n nodes o
asked_width kinds n (Some v) nodes o d h w = rewritten_width n v (book_row kinds v) nodes o d w (book_right kinds v h)

-- the node that is answered has the width of the node that was asked for
pub made_width : (kinds : List RuleKind) (n : Node) (nodes : List Node) → InOrder [] nodes → CanMake nodes n →
    HasWidth (made kinds n nodes).nodes (made kinds n nodes).value (node_width (widths_of nodes) n)
made_width kinds n nodes o c = asked_width kinds n (view_of nodes n) nodes o (all_drawn nodes n c) (viewed nodes n o c) (view_width nodes n)
