-- The operands of nodes that stand among the nodes.
use Rattle.std.proofs.Common.{◌≡◌, ℕ, Some, List, [], sym, ap, ◌∙◌, take, drop, slice_get}
use Rattle.std.proofs.lemmas.List.{take-append-drop}
use Rattle.ygg_value.specs.Number.{Number}
use Rattle.ygg_value.specs.Words.{word, CanApply}
use Rattle.ygg_value.specs.declared.operation.Op.{Op}
use Rattle.ygg_value.specs.declared.operation.Op.TheVariants.{Shl}
use Rattle.ygg_bank.proofs.Widths.{wider, stands, width_is, has_width, own_width, stored_can}
use Rattle.ygg_bank.specs.Making.{id}
use Rattle.ygg_bank.specs.Nodes.{width_at, widths_of, HasWidth, Stands, InOrder, Extends}
use Rattle.ygg_bank.specs.declared.node.Id.{Id}
use Rattle.ygg_bank.specs.declared.node.Node.{Node}
use Rattle.ygg_bank.specs.declared.node.Node.TheVariants.{Bin, Not, Resize, Pick}
use Rattle.ygg_shape_words.specs.Forms.{WordsAlike}

before_grows : (nodes : List Node) (k : ℕ) → Extends (take k nodes) nodes
before_grows nodes k = record { more = drop k nodes; is = sym (take-append-drop k nodes) }

-- what stands before a node stands among the nodes
there : (nodes : List Node) (k : ℕ) (a : Id) → Stands (take k nodes) a → HasWidth nodes a (width_at (widths_of (take k nodes)) a)
there nodes k a h = wider (take k nodes) nodes a (width_at (widths_of (take k nodes)) a) (before_grows nodes k) (has_width (take k nodes) a h)

-- the operands of an operation on words of one width
pub bin_alike : (nodes : List Node) (k : ℕ) (op : Op) (a b : Id) → InOrder [] nodes → slice_get nodes k ≡ Some (Bin op a b) →
    ((x y : Number) → CanApply op x y → x.width ≡ y.width) → WordsAlike nodes a b
bin_alike nodes k op a b o e f =
    let before = take k nodes in
    let c = stored_can nodes k (Bin op a b) o e in
    record {
      width = width_at (widths_of before) a;
      one_has = there nodes k a c.one;
      two_has = there nodes k b c.two
          ∙ ap (λ z. Some z) (sym (f (word (width_at (widths_of before) a) 0) (word (width_at (widths_of before) b) 0) c.widths));
    }

-- the operand of a complement has its width
pub not_wide : (nodes : List Node) (k w : ℕ) (a : Id) → InOrder [] nodes → slice_get nodes k ≡ Some (Not a) → HasWidth nodes (id k) w → HasWidth nodes a w
not_wide nodes k w a o e h =
    let wide = there nodes k a (stored_can nodes k (Not a) o e) in
    let u = width_at (widths_of (take k nodes)) a in
    let own : u ≡ w =
    sym (width_is nodes a u wide) ∙ sym (width_is nodes (id k) (width_at (widths_of nodes) a) (own_width nodes k (Not a) o e)) ∙ width_is nodes (id k) w h in
    wide ∙ ap (λ z. Some z) own

-- what is moved up has the width that it is moved up at
pub shift_wide : (nodes : List Node) (k w : ℕ) (a b : Id) → InOrder [] nodes → slice_get nodes k ≡ Some (Bin Shl a b) → HasWidth nodes (id k) w →
    HasWidth nodes a w
shift_wide nodes k w a b o e h =
    let c = stored_can nodes k (Bin Shl a b) o e in
    let wide = there nodes k a c.one in
    let u = width_at (widths_of (take k nodes)) a in
    let own : u ≡ w =
    sym (width_is nodes a u wide) ∙ sym (width_is nodes (id k) (width_at (widths_of nodes) a) (own_width nodes k (Bin Shl a b) o e))
    ∙ width_is nodes (id k) w h in
    wide ∙ ap (λ z. Some z) own

pub bin_stands : (nodes : List Node) (k : ℕ) (op : Op) (a b : Id) → InOrder [] nodes → slice_get nodes k ≡ Some (Bin op a b) → Stands nodes a × Stands nodes b
bin_stands nodes k op a b o e =
    let c = stored_can nodes k (Bin op a b) o e in (
      stands nodes a (width_at (widths_of (take k nodes)) a) (there nodes k a c.one),
      stands nodes b (width_at (widths_of (take k nodes)) b) (there nodes k b c.two),
    )

pub not_stands : (nodes : List Node) (k : ℕ) (a : Id) → InOrder [] nodes → slice_get nodes k ≡ Some (Not a) → Stands nodes a
not_stands nodes k a o e = stands nodes a (width_at (widths_of (take k nodes)) a) (there nodes k a (stored_can nodes k (Not a) o e))

pub resize_stands : (nodes : List Node) (k w : ℕ) (a : Id) → InOrder [] nodes → slice_get nodes k ≡ Some (Resize a w) → Stands nodes a
resize_stands nodes k w a o e =
    let c = stored_can nodes k (Resize a w) o e in stands nodes a (width_at (widths_of (take k nodes)) a) (there nodes k a c.0)

-- the children of a pick that stands among the nodes
pub record PickHas (nodes : List Node) (t x y : Id) (w : ℕ) : Type 0 where
  pub test : HasWidth nodes t 1
  pub first : HasWidth nodes x w
  pub second : HasWidth nodes y w

pub pick_children : (nodes : List Node) (a t x y : Id) (w : ℕ) → InOrder [] nodes → slice_get nodes a.0 ≡ Some (Pick t x y) → HasWidth nodes a w →
    PickHas nodes t x y w
pick_children nodes a t x y w o e h =
    let before = take a.0 nodes in
    let c = stored_can nodes a.0 (Pick t x y) o e in
    let u = width_at (widths_of before) x in
    let wide = there nodes a.0 x c.yes in
    let own : w ≡ u =
    sym (width_is nodes a w h) ∙ width_is nodes a (width_at (widths_of nodes) x) (own_width nodes a.0 (Pick t x y) o e) ∙ width_is nodes x u wide in
    record {
      test = there nodes a.0 t c.test ∙ ap (λ z. Some z) c.digit;
      first = wide ∙ ap (λ z. Some z) (sym own);
      second = there nodes a.0 y c.no ∙ ap (λ z. Some z) (sym c.widths ∙ sym own);
    }
