-- What the bank's columns hold.
use Rattle.std.proofs.Common.{◌≡◌, ◌<◌, ℕ, zero, suc, List, [], ◌∷◌, ◌++◌, length, false, Some, get_or, refl, sym, ap, ◌∙◌, subst, arith, slice_get}
use Rattle.std.specs.List.{list_any}
use Rattle.ygg_value.specs.Number.{Number}
use Rattle.ygg_value.specs.declared.operation.Op.{Op}
use Rattle.ygg_rules.proofs.Right.{IsRight}
use Rattle.ygg_rules.specs.Rows.{book_row}
use Rattle.ygg_rules.specs.Views.{Seen, operand}
use Rattle.ygg_rules.specs.declared.rule.RuleKind.{RuleKind}
use Rattle.ygg_rules.specs.declared.view.Rewrite.TheVariants as rewrite
use Rattle.ygg_bank.proofs.Fitting.{AllDrawn, Viewed, all_drawn, viewed, book_right}
use Rattle.ygg_bank.proofs.Made.{can_node}
use Rattle.ygg_bank.proofs.Makes.{distinct_more}
use Rattle.ygg_rules.specs.declared.view.Operand.{Operand}
use Rattle.ygg_bank.proofs.Widths.{widths_length, widths_more, width_is, ordered_more}
use Rattle.ygg_bank.specs.Making.{same, known_in, id_of, operand_of, view_of}
use Rattle.ygg_bank.specs.Nodes.{width_at, widths_of, node_width, HasWidth, Stands, CanBin, CanMake, InOrder, Distinct, IsBank}
use Rattle.ygg_bank.specs.declared.node.Id.{Id}
use Rattle.ygg_bank.specs.declared.node.Node.{Node}
use Rattle.ygg_bank.specs.declared.node.Node.TheVariants.{Const}

get_there : (xs : List ℕ) (k d : ℕ) → k < length xs → slice_get xs k ≡ Some (get_or xs k d)
get_there [] k d h = absurd (omega arith)
get_there (x ∷ xs) zero d h = refl
get_there (x ∷ xs) (suc k) d h = get_there xs k d (omega arith)

-- a node that stands in the bank has a stored width
pub within : (self keys : List Node) (ws : List ℕ) (a : Id) → keys ≡ self → ws ≡ widths_of keys → Stands self a → a.0 < length ws
within self keys ws a e f s = omega (arith, ap length e, ap length f, widths_length keys)

-- the stored width is the node's
pub stored_width : (self keys : List Node) (ws : List ℕ) (a : Id) → keys ≡ self → ws ≡ widths_of keys → Stands self a → HasWidth self a (get_or ws a.0 0)
stored_width self keys ws a e f s =
    subst (λ ns. HasWidth ns a (get_or ws a.0 0)) e (subst (λ us. slice_get us a.0 ≡ Some (get_or ws a.0 0)) f
    (get_there ws a.0 0 (within self keys ws a e f s)))

pub in_order : (self keys : List Node) → keys ≡ self → IsBank keys → InOrder [] self
in_order self keys e h = subst (InOrder []) e h.ordered

-- a constant as an operand
pub constant_operand : (nodes : List Node) (a : Id) (k : Number) (n : Node) → n ≡ Const k → slice_get nodes a.0 ≡ Some n →
    HasWidth nodes a (node_width (widths_of nodes) n) →
    (o : Operand) → o ≡ record { id = a.0; width = k.width; known = Some k } → o ≡ operand_of nodes a
constant_operand nodes a k n e there wide o f =
    let w : width_at (widths_of nodes) a ≡ k.width = width_is nodes a (node_width (widths_of nodes) n) wide ∙ ap (node_width (widths_of nodes)) e in
    let known : known_in (slice_get nodes a.0) ≡ Some k = ap known_in (there ∙ ap (λ m. Some m) e) in
    f ∙ ap (λ x. let r : Operand = record { id = a.0; width = x; known = Some k } in r) (sym w)
    ∙ ap (λ x. let r : Operand = record { id = a.0; width = width_at (widths_of nodes) a; known = x } in r) (sym known)

-- the columns after a node is added
pub added_stored : (self keys new : List Node) (ws more : List ℕ) (n : Node) (w : ℕ) → keys ≡ self → IsBank keys → ws ≡ widths_of keys → CanMake self n →
    w ≡ node_width (widths_of self) n → more ≡ ws ++ w ∷ [] → new ≡ keys ++ n ∷ [] → list_any (same n) keys ≡ false → IsBank new × (more ≡ widths_of new)
added_stored self keys new ws more n w e h f c g i j d =
    let can : CanMake keys n = subst (λ ns. CanMake ns n) (sym e) c in
    let o : InOrder [] (keys ++ n ∷ []) = ordered_more [] keys n h.ordered can in (
      record { ordered = subst (InOrder []) (sym j) o; distinct = subst Distinct (sym j) (distinct_more keys n h.distinct d) },
      i ∙ ap (λ us. us ++ w ∷ []) f ∙ ap (λ x. widths_of keys ++ x ∷ []) (g ∙ ap (λ ns. node_width (widths_of ns) n) (sym e))
          ∙ sym (ap widths_of j ∙ widths_more keys n),
    )

-- the operation that a book answers can be made
pub can_answer : (kinds : List RuleKind) (nodes : List Node) (n : Node) (v : Seen) (op : Op) (i j : ℕ) (a b : Id) → InOrder [] nodes → CanMake nodes n →
    view_of nodes n ≡ Some v → book_row kinds v ≡ rewrite.Node op i j → a ≡ id_of (operand v i) → b ≡ id_of (operand v j) → CanBin nodes op a b
can_answer kinds nodes n v op i j a b o c e f g h =
    let d : AllDrawn nodes (Some v) = subst (AllDrawn nodes) e (all_drawn nodes n c) in
    let s : Viewed (Some v) = subst Viewed e (viewed nodes n o c) in
    let right : IsRight v (rewrite.Node op i j) = subst (IsRight v) f (book_right kinds v s) in
    subst (λ x. CanBin nodes op x b) (sym g) (subst (λ y. CanBin nodes op (id_of (operand v i)) y) (sym h) (can_node nodes v op i j d right.names))
