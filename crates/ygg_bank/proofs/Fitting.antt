-- What the book is asked of a node that can be made is a view.
use Rattle.std.proofs.Common.{◌≡◌, ℕ, zero, suc, Option, Some, None, List, [], ◌∷◌, refl, sym, ap, ◌∙◌, subst, slice_get}
use Rattle.ygg_value.specs.Number.{Number}
use Rattle.ygg_rules.proofs.Right.{IsRight, row_right}
use Rattle.ygg_rules.specs.Rows.{row, or_else, book_row}
use Rattle.ygg_rules.specs.Views.{Seen, operand, IsOperand, IsView, bin_of, not_of, resize_of, pick_of}
use Rattle.ygg_rules.specs.declared.rule.RuleKind.{RuleKind}
use Rattle.ygg_rules.specs.declared.view.Operand.{Operand}
use Rattle.ygg_rules.specs.declared.view.Rewrite.{Rewrite}
use Rattle.ygg_rules.specs.declared.view.Rewrite.TheVariants as rewrite
use Rattle.ygg_bank.proofs.Widths.{has_width, width_is, own_width, result_width-fits, width_fits, constant_word}
use Rattle.ygg_bank.specs.Making.{id, known_in, operand_of, view_of}
use Rattle.ygg_bank.specs.Nodes.{width_at, widths_of, node_width, Stands, CanMake, InOrder}
use Rattle.ygg_bank.specs.declared.node.Id.{Id}
use Rattle.ygg_bank.specs.declared.node.Node.{Node}
use Rattle.ygg_bank.specs.declared.node.Node.TheVariants.{Input, Const, Bin, Not, Resize, Pick}

-- what holds of each operand that is there
abbrev pub Each : (Operand → Type 0) → Option Operand → Type 0
Each P x = (o : Operand) → x ≡ Some o → P o

some : (P : Operand → Type 0) (a : Operand) → P a → Each P (Some a)
some P a p o e = let f : a ≡ o = cc in subst P f p

none : (P : Operand → Type 0) → Each P None
none P o e = absurd (cc)

each : (P : Operand → Type 0) (v : Seen) → P v.one → Each P v.two → Each P v.three → (i : ℕ) → Each P (operand v i)
each P v p q r zero = some P v.one p
each P v p q r (suc zero) = q
each P v p q r (suc (suc zero)) = r
each P v p q r (suc (suc (suc i))) = none P

-- the operand is what a rule sees of a node that stands there
pub record IsDrawn (nodes : List Node) (o : Operand) : Type 0 where
  pub it : Id
  pub stands : Stands nodes it
  pub is : o ≡ operand_of nodes it

known_constant : (n : Option Node) (x : Number) → known_in n ≡ Some x → n ≡ Some (Const x)
known_constant (Some (Const k)) x e = let f : k ≡ x = cc in ap (λ z. Some (Const z)) f
known_constant (Some n) x e = absurd (cc)
known_constant None x e = absurd (cc)

pub constant_there : (nodes : List Node) (a : Id) (x : Number) → known_in (slice_get nodes a.0) ≡ Some x → slice_get nodes a.0 ≡ Some (Const x)
constant_there nodes a x e = known_constant (slice_get nodes a.0) x e

-- a node as an operand fits
pub operand_fits : (nodes : List Node) (a : Id) → InOrder [] nodes → Stands nodes a → IsOperand (operand_of nodes a)
operand_fits nodes a o s = record {
  width = width_fits nodes a (width_at (widths_of nodes) a) o (has_width nodes a s);
  known = λ x e.
      let there = constant_there nodes a x e in
      record { word = constant_word nodes a.0 x o there; width = sym (width_is nodes a x.width (own_width nodes a.0 (Const x) o there)) };
}

-- operands of one id are equal
drawn_alike : (nodes : List Node) (a b : Operand) → IsDrawn nodes a → IsDrawn nodes b → a.id ≡ b.id → a ≡ b
drawn_alike nodes a b p q e =
    let i : p.it.0 ≡ q.it.0 = sym (ap (λ (o : Operand). o.id) p.is) ∙ e ∙ ap (λ (o : Operand). o.id) q.is in
    p.is ∙ ap (λ n. operand_of nodes (id n)) i ∙ sym q.is

drawn_fits : (nodes : List Node) (a : Operand) → InOrder [] nodes → IsDrawn nodes a → IsOperand a
drawn_fits nodes a o p = subst IsOperand (sym p.is) (operand_fits nodes p.it o p.stands)

drawn : (nodes : List Node) (a : Id) → Stands nodes a → IsDrawn nodes (operand_of nodes a)
drawn nodes a s = record { it = a; stands = s; is = refl }

-- all operands of the view are nodes that stand there, where there is a view
abbrev pub AllDrawn : List Node → Option Seen → Type 0
AllDrawn nodes None = Unit {0}
AllDrawn nodes (Some v) = (number : ℕ) → Each (IsDrawn nodes) (operand v number)

-- it is a view, where there is one
abbrev pub Viewed : Option Seen → Type 0
Viewed None = Unit {0}
Viewed (Some v) = IsView v

pub all_drawn : (nodes : List Node) (n : Node) → CanMake nodes n → AllDrawn nodes (view_of nodes n)
all_drawn nodes (Input m w) c = tt
all_drawn nodes (Const k) c = tt
all_drawn nodes (Bin o a b) c =
    each (IsDrawn nodes) (bin_of o (operand_of nodes a) (operand_of nodes b)) (drawn nodes a c.one)
    (some (IsDrawn nodes) (operand_of nodes b) (drawn nodes b c.two)) (none (IsDrawn nodes))
all_drawn nodes (Not a) c = each (IsDrawn nodes) (not_of (operand_of nodes a)) (drawn nodes a c) (none (IsDrawn nodes)) (none (IsDrawn nodes))
all_drawn nodes (Resize a w) c = each (IsDrawn nodes) (resize_of (operand_of nodes a) w) (drawn nodes a c.0) (none (IsDrawn nodes)) (none (IsDrawn nodes))
all_drawn nodes (Pick t a b) c =
    each (IsDrawn nodes) (pick_of (operand_of nodes t) (operand_of nodes a) (operand_of nodes b)) (drawn nodes t c.test)
    (some (IsDrawn nodes) (operand_of nodes a) (drawn nodes a c.yes)) (some (IsDrawn nodes) (operand_of nodes b) (drawn nodes b c.no))

drawn_operands : (nodes : List Node) (v : Seen) → InOrder [] nodes → ((number : ℕ) → Each (IsDrawn nodes) (operand v number)) →
    (number : ℕ) (o : Operand) → operand v number ≡ Some o → IsOperand o
drawn_operands nodes v o d number a e = drawn_fits nodes a o (d number a e)

drawn_agree : (nodes : List Node) (v : Seen) → ((number : ℕ) → Each (IsDrawn nodes) (operand v number)) →
    (i j : ℕ) (a b : Operand) → operand v i ≡ Some a → operand v j ≡ Some b → a.id ≡ b.id → a ≡ b
drawn_agree nodes v d i j a b e f g = drawn_alike nodes a b (d i a e) (d j b f) g

-- a node that can be made is seen as a view
pub viewed : (nodes : List Node) (n : Node) → InOrder [] nodes → CanMake nodes n → Viewed (view_of nodes n)
viewed nodes (Input m w) o c = tt
viewed nodes (Const k) o c = tt
viewed nodes (Bin p a b) o c =
    let v = bin_of p (operand_of nodes a) (operand_of nodes b) in let d = all_drawn nodes (Bin p a b) c in
    record {
      fits = record { can = c.widths; is = refl };
      width = result_width-fits p (width_at (widths_of nodes) a) (operand_fits nodes a o c.one).width;
      operands = drawn_operands nodes v o d;
      alike = drawn_agree nodes v d;
    }
viewed nodes (Not a) o c =
    let v = not_of (operand_of nodes a) in let d = all_drawn nodes (Not a) c in
    record { fits = refl; width = (operand_fits nodes a o c).width; operands = drawn_operands nodes v o d; alike = drawn_agree nodes v d }
viewed nodes (Resize a w) o c =
    let v = resize_of (operand_of nodes a) w in let d = all_drawn nodes (Resize a w) c in
    record { fits = tt; width = c.1; operands = drawn_operands nodes v o d; alike = drawn_agree nodes v d }
viewed nodes (Pick t a b) o c =
    let v = pick_of (operand_of nodes t) (operand_of nodes a) (operand_of nodes b) in let d = all_drawn nodes (Pick t a b) c in
    record {
      fits = record { test = c.digit; yes = refl; no = sym c.widths };
      width = (operand_fits nodes a o c.yes).width;
      operands = drawn_operands nodes v o d;
      alike = drawn_agree nodes v d;
    }

first_right : (v : Seen) (r s : Rewrite) → IsRight v r → IsRight v s → IsRight v (or_else r s)
first_right v rewrite.Keep s f g = g
first_right v r s f g = f

-- what a book answers is right
pub book_right : (kinds : List RuleKind) (v : Seen) → IsView v → IsRight v (book_row kinds v)
book_right [] v h = record { names = tt; keeps = λ values m. refl }
book_right (k ∷ ks) v h = first_right v (row k v) (book_row ks v) (row_right k v h) (book_right ks v h)

-- the view of a node has the node's width
abbrev pub WideAs : ℕ → Option Seen → Type 0
WideAs w None = Unit {0}
WideAs w (Some v) = v.width ≡ w

pub view_width : (nodes : List Node) (n : Node) → WideAs (node_width (widths_of nodes) n) (view_of nodes n)
view_width nodes (Input m w) = tt
view_width nodes (Const k) = tt
view_width nodes (Bin p a b) = refl
view_width nodes (Not a) = refl
view_width nodes (Resize a w) = refl
view_width nodes (Pick t a b) = refl
