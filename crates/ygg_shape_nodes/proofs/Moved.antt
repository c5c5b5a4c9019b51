-- What may be made among nodes may be made among more of them.
use Rattle.std.proofs.Common.{◌≡◌, Some, List, [], slice_get, refl, sym, ap, ◌∙◌, subst}
use Rattle.ygg_value.specs.Words.{word, result_width, CanApply}
use Rattle.ygg_shape_words.specs.ygg_bank_proofs_Widths.{wider, has_width, width_is, own_width, stands}
use Rattle.ygg_shape_words.specs.ygg_bank.Inputs.{NoInput}
use Rattle.ygg_shape_words.specs.ygg_bank.Nodes.{width_at, widths_of, node_width, Stands, CanMake, InOrder, Extends}
use Rattle.ygg_shape_words.specs.ygg_bank.declared.node.Id.{Id}
use Rattle.ygg_shape_words.specs.ygg_bank.declared.node.Node.{Node}
use Rattle.ygg_shape_words.specs.ygg_bank.declared.node.Node.TheVariants.{Input, Const, Bin, Not, Resize, Pick}
use Rattle.ygg_shape_words.proofs.Children.{pick_children}

module _ (old new : List Node) (g : Extends old new) where
  same_width : (a : Id) → Stands old a → width_at (widths_of new) a ≡ width_at (widths_of old) a
  same_width a s = width_is new a (width_at (widths_of old) a) (wider old new a (width_at (widths_of old) a) g (has_width old a s))

  still : (a : Id) → Stands old a → Stands new a
  still a s = stands new a (width_at (widths_of old) a) (wider old new a (width_at (widths_of old) a) g (has_width old a s))

  pub can_later : (n : Node) → NoInput n → CanMake old n → CanMake new n
  can_later (Input number w) p c = absurd p
  can_later (Const k) p c = c
  can_later (Bin op a b) p c = record {
    one = still a c.one;
    two = still b c.two;
    widths =
        subst (λ w. CanApply op (word w 0) (word (width_at (widths_of new) b) 0)) (sym (same_width a c.one))
        (subst (λ w. CanApply op (word (width_at (widths_of old) a) 0) (word w 0)) (sym (same_width b c.two)) c.widths);
  }
  can_later (Not a) p c = still a c
  can_later (Resize a w) p c = (still a c.0, c.1)
  can_later (Pick t a b) p c = record {
    test = still t c.test;
    yes = still a c.yes;
    no = still b c.no;
    digit = same_width t c.test ∙ c.digit;
    widths = same_width a c.yes ∙ c.widths ∙ sym (same_width b c.no);
  }

  pub width_later : (n : Node) → NoInput n → CanMake old n → node_width (widths_of new) n ≡ node_width (widths_of old) n
  width_later (Input number w) p c = absurd p
  width_later (Const k) p c = refl
  width_later (Bin op a b) p c = ap (result_width op) (same_width a c.one)
  width_later (Not a) p c = same_width a c
  width_later (Resize a w) p c = refl
  width_later (Pick t a b) p c = same_width a c.yes

-- the words of a pick that stands among the nodes
pub words_stand : (nodes : List Node) (a t x y : Id) → InOrder [] nodes → slice_get nodes a.0 ≡ Some (Pick t x y) → Stands nodes x × Stands nodes y
words_stand nodes a t x y o e =
    let w = node_width (widths_of nodes) (Pick t x y) in
    let p = pick_children nodes a t x y w o e (own_width nodes a.0 (Pick t x y) o e) in (stands nodes x w p.first, stands nodes y w p.second)
