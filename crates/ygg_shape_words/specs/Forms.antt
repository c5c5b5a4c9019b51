-- How the equality of two words goes on.
use Rattle.std.specs.Prelude.{ℕ, Bool, ◌≡◌, ◌==◌, ◌&&◌, ◌^◌, nat_lt, if◌then◌else◌, bit_and, Option, Some, None, List, slice_get}
use Rattle.ygg_value.specs.Number.{Number, IsWord}
use Rattle.ygg_value.specs.Words.{word, apply_to, not_of}
use Rattle.ygg_value.specs.declared.operation.Op.{Op}
use Rattle.ygg_value.specs.declared.operation.Op.TheVariants.{Add, Sub, Mul, Or, Xor, Shl, Shr}
use Rattle.ygg_bank.specs.Making.{known_in}
use Rattle.ygg_bank.specs.Nodes.{width_at, widths_of, HasWidth}
use Rattle.ygg_bank.specs.declared.node.Id.{Id}
use Rattle.ygg_bank.specs.declared.node.Node.{Node}
use Rattle.ygg_bank.specs.declared.node.Node.TheVariants.{Const, Bin, Not, Resize, Pick}
use Rattle.ygg_shape_words.specs.Digits.{may_have, may_be}
use Rattle.ygg_shape_words.specs.declared.forms.Form.{Form}
use Rattle.ygg_shape_words.specs.declared.forms.Form.TheVariants as form

-- how the equality of the picks a, by t of x and y, and b, by u of p and q, goes on
abbrev pub form_of_picks : Id → Id → Id → Id → Id → Id → Id → Id → Form
form_of_picks a b t x y u p q =
    if t.0 == u.0 then form.Split t x p y q
    else if x.0 == p.0 && y.0 == q.0 then form.Either t u x y
    else if nat_lt t.0 u.0 then form.Split u a p a q else form.Split t x b y b

-- what of the inverse of a number, modulo 2 to its width, is right in so many lowest digits becomes right in twice as many
abbrev pub nearer : Number → Number → Number
nearer c i = apply_to Sub (apply_to Add i i) (apply_to Mul c (apply_to Mul i i))

-- the inverse of an odd number modulo 2 to its width: in the three lowest digits it is the number itself
unfoldable pub inverse_of : Number → Number
inverse_of c = nearer c (nearer c (nearer c (nearer c (nearer c c))))

-- how the equality of the product of x and the constant c, which may have the inverse i, with the constant k goes on
abbrev pub undo_product : Id → Number → Number → Number → Form
undo_product x k c i = if (apply_to Mul c i).bits == 1 then form.Against x (apply_to Mul k i) else form.Plain

-- how the equality of the digits of x and the constant c together, where x may have these, with the constant k goes on: x is to have none of those of c
abbrev pub undo_or : Id → Number → Number → Number → Form
undo_or x k c may = if bit_and may.bits c.bits == 0 then form.Against x (apply_to Xor k c) else form.Plain

-- whether the digits of k are what they were once they are moved as far as c says, this way and back
abbrev pub comes_back : Op → Op → Number → Number → Bool
comes_back there back k c = (apply_to back (apply_to there k c) c).bits == k.bits

-- how the equality of x, which may have these digits, moved up as far as the constant c says, with the constant k goes on: none is to be moved out
abbrev pub undo_shift : Id → Number → Number → Number → Form
undo_shift x k c may = if comes_back Shl Shr may c && comes_back Shr Shl k c then form.Against x (apply_to Shr k c) else form.Plain

-- how the equality of an operation on x and the constant c with the constant k goes on
abbrev pub undo_first : List Node → Op → Id → Number → Number → Form
undo_first nodes Add x k c = form.Against x (apply_to Sub k c)
undo_first nodes Sub x k c = form.Against x (apply_to Add k c)
undo_first nodes Mul x k c = undo_product x k c (inverse_of c)
undo_first nodes Or x k c = undo_or x k c (may_have nodes x)
undo_first nodes Xor x k c = form.Against x (apply_to Xor k c)
undo_first nodes Shl x k c = undo_shift x k c (may_have nodes x)
undo_first nodes op x k c = form.Plain

-- how the equality of an operation on the constant c and y with the constant k goes on
abbrev pub undo_second : List Node → Op → Id → Number → Number → Form
undo_second nodes Add y k c = form.Against y (apply_to Sub k c)
undo_second nodes Sub y k c = form.Against y (apply_to Sub c k)
undo_second nodes Mul y k c = undo_product y k c (inverse_of c)
undo_second nodes Or y k c = undo_or y k c (may_have nodes y)
undo_second nodes Xor y k c = form.Against y (apply_to Xor k c)
undo_second nodes op y k c = form.Plain

-- how the equality of an operation on x and y with the constant k goes on, where these constants are known of x and of y
abbrev pub undo_bin : List Node → Op → Id → Id → Number → Option Number → Option Number → Form
undo_bin nodes op x y k one (Some c) = undo_first nodes op x k c
undo_bin nodes op x y k (Some c) None = undo_second nodes op y k c
undo_bin nodes op x y k None None = form.Plain

-- how the equality of x, which has u digits, at the width w with the constant k goes on: high digits that are put before it are 0
abbrev pub undo_resize : ℕ → ℕ → Id → Number → Form
undo_resize u w x k = if nat_lt w u then form.Plain else if nat_lt k.bits (2 ^ u) then form.Against x (word u k.bits) else form.Never

-- how the equality of a node, which may be the constant k, with it goes on
abbrev pub undo_node : List Node → Number → Option Node → Form
undo_node nodes k (Some (Const c)) = if c.bits == k.bits then form.One else form.Never
undo_node nodes k (Some (Bin op x y)) = undo_bin nodes op x y k (known_in (slice_get nodes x.0)) (known_in (slice_get nodes y.0))
undo_node nodes k (Some (Not x)) = form.Against x (not_of k)
undo_node nodes k (Some (Resize x w)) = undo_resize (width_at (widths_of nodes) x) w x k
undo_node nodes k n = form.Plain

-- how the equality of a term with the constant k goes on: it is never equal where it has no room for one of its digits
abbrev pub against : List Node → Id → Number → Form
against nodes a k = if may_be nodes a k then undo_node nodes k (slice_get nodes a.0) else form.Never

-- how the equality of a and b goes on, where these constants are known of them
abbrev pub against_known : List Node → Id → Id → Option Number → Option Number → Form
against_known nodes a b one (Some k) = against nodes a k
against_known nodes a b (Some k) None = against nodes b k
against_known nodes a b None None = form.Plain

-- how the equality of a and b goes on, where these nodes stand there
abbrev pub form_of : List Node → Id → Id → Option Node → Option Node → Form
form_of nodes a b (Some (Pick t x y)) (Some (Pick u p q)) = form_of_picks a b t x y u p q
form_of nodes a b (Some (Pick t x y)) m = form.Split t x b y b
form_of nodes a b n (Some (Pick u p q)) = form.Split u a p a q
form_of nodes a b n m = against_known nodes a b (known_in n) (known_in m)

-- two words of one width
pub record WordsAlike (nodes : List Node) (one two : Id) : Type 0 where
  pub width : ℕ
  pub one_has : HasWidth nodes one width
  pub two_has : HasWidth nodes two width

-- the nodes of a form stand among the nodes, and their widths fit
abbrev pub FormFits : List Node → Form → Type 0
FormFits nodes form.One = Unit {0}
FormFits nodes form.Never = Unit {0}
FormFits nodes (form.Known answer) = HasWidth nodes answer 1
FormFits nodes form.Plain = Unit {0}
FormFits nodes (form.Split t x y p q) = HasWidth nodes t 1 × WordsAlike nodes x y × WordsAlike nodes p q
FormFits nodes (form.Either x y p q) = WordsAlike nodes x y × WordsAlike nodes p q
FormFits nodes (form.Against x k) = HasWidth nodes x k.width × IsWord k

-- a constant that is known of an operand of such an operation, where one is, has the width of the word that the operation is compared with
abbrev pub ConstantFits : Op → Number → Option Number → Type 0
ConstantFits Add k (Some c) = c.width ≡ k.width
ConstantFits Sub k (Some c) = c.width ≡ k.width
ConstantFits Mul k (Some c) = c.width ≡ k.width
ConstantFits Or k (Some c) = c.width ≡ k.width
ConstantFits Xor k (Some c) = c.width ≡ k.width
ConstantFits op k c = Unit {0}
