-- What holds of nodes, and stays as nodes other than inputs are made, holds after picks and comparisons.
use Rattle.std.proofs.Common.{◌≡◌, ℕ, zero, suc, List, [], Result, Ok, Err, OnOk, sym, subst}
use Rattle.ygg_value.specs.Words.{word}
use Rattle.ygg_value.specs.declared.operation.Op.TheVariants.{And, Or, Eq}
use Rattle.ygg_rules.specs.declared.rule.RuleKind.{RuleKind}
use Rattle.ygg_bank.proofs.Inputs.{made_keeps}
use Rattle.ygg_bank.proofs.Made.{made_grows}
use Rattle.ygg_bank.proofs.Widths.{extends_both}
use Rattle.ygg_bank.specs.Inputs.{InputsBelow, KeepsInputs, NoInput}
use Rattle.ygg_bank.specs.Makes.{Make}
use Rattle.ygg_bank.specs.Making.{made}
use Rattle.ygg_bank.specs.Nodes.{Extends}
use Rattle.ygg_bank.specs.declared.node.Id.{Id}
use Rattle.ygg_bank.specs.declared.node.Node.{Node}
use Rattle.ygg_bank.specs.declared.node.Node.TheVariants.{Const, Bin, Not, Pick}
use Rattle.ygg_shape_words.specs.Picking.{choice_at, picked, picked_as}
use Rattle.ygg_shape_words.specs.Same.{SoFar, Answer, spent, form_at, compared_as, same_within, same_words}
use Rattle.ygg_shape_words.specs.declared.comparing.TheConstants.{SPLIT_LIMIT}
use Rattle.ygg_shape_words.specs.declared.forms.Form.{Form}
use Rattle.ygg_shape_words.specs.declared.forms.Form.TheVariants as form
use Rattle.ygg_shape_words.specs.declared.picking.Choice.{Choice}
use Rattle.ygg_shape_words.specs.declared.picking.Choice.TheVariants as choice

-- a step that compares two words
abbrev pub Step : Type 0
Step = SoFar → Id → Id → Make Answer

-- what holds of nodes stays as nodes other than inputs are made
abbrev pub Stays : List RuleKind → (List Node → Type 0) → Type 0
Stays kinds P = (n : Node) (nodes : List Node) → NoInput n → P nodes → P (made kinds n nodes).nodes

-- nodes that extend the first ones, and inputs that are below a number
pub grows_stays : (kinds : List RuleKind) (first : List Node) → Stays kinds (Extends first)
grows_stays kinds first n nodes other g = extends_both first nodes (made kinds n nodes).nodes g (made_grows kinds n nodes)

pub inputs_stay : (kinds : List RuleKind) (next : ℕ) → Stays kinds (InputsBelow next)
inputs_stay kinds next n nodes other h = made_keeps kinds n nodes next other h

module _ (kinds : List RuleKind) (P : List Node → Type 0) (stays : Stays kinds P) where
  picked_as_keeps : (t a b : Id) (c : Choice) (nodes : List Node) → P nodes → P (picked_as kinds t a b c nodes).nodes
  picked_as_keeps t a b choice.One nodes p = p
  picked_as_keeps t a b choice.YesIsOne nodes p = stays (Bin Or t b) nodes tt p
  picked_as_keeps t a b choice.YesIsZero nodes p =
      let o = made kinds (Not t) nodes in stays (Bin And o.value b) o.nodes tt (stays (Not t) nodes tt p)
  picked_as_keeps t a b choice.NoIsOne nodes p =
      let o = made kinds (Not t) nodes in stays (Bin Or o.value a) o.nodes tt (stays (Not t) nodes tt p)
  picked_as_keeps t a b choice.NoIsZero nodes p = stays (Bin And t a) nodes tt p
  picked_as_keeps t a b choice.Plain nodes p = stays (Pick t a b) nodes tt p

  pub picked_keeps : (t a b : Id) (nodes : List Node) → P nodes → P (picked kinds t a b nodes).nodes
  picked_keeps t a b nodes p = picked_as_keeps t a b (choice_at nodes a b) nodes p

  abbrev StepKeeps : Step → Type 0
  StepKeeps next = (s : SoFar) (a b : Id) (nodes : List Node) → P nodes → P (next s a b nodes).nodes

  compared_as_keeps : (next : Step) (s : SoFar) (a b : Id) (f : Form) (nodes : List Node) → StepKeeps next → P nodes →
      P (compared_as kinds next s a b f nodes).nodes
  compared_as_keeps next s a b form.One nodes g p = stays (Const (word 1 1)) nodes tt p
  compared_as_keeps next s a b form.Never nodes g p = stays (Const (word 1 0)) nodes tt p
  compared_as_keeps next s a b (form.Known answer) nodes g p = p
  compared_as_keeps next s a b form.Plain nodes g p = stays (Bin Eq a b) nodes tt p
  compared_as_keeps next s a b (form.Split t x y p q) nodes g h =
      let o = next (spent s) x y nodes in
      let k = o.value in
      let m = next k.so_far p q o.nodes in
      let l = m.value in
      picked_keeps t k.term l.term m.nodes (g k.so_far p q o.nodes (g (spent s) x y nodes h))
  compared_as_keeps next s a b (form.Either x y p q) nodes g h =
      let o = next (spent s) x y nodes in
      let k = o.value in
      let m = next k.so_far p q o.nodes in
      let l = m.value in
      stays (Bin Or k.term l.term) m.nodes tt (g k.so_far p q o.nodes (g (spent s) x y nodes h))
  compared_as_keeps next s a b (form.Against x k) nodes g h =
      let o = made kinds (Const k) nodes in g (spent s) x o.value o.nodes (stays (Const k) nodes tt h)

  pub same_within_keeps : (depth : ℕ) → StepKeeps (same_within kinds depth)
  unfolding same_within
  same_within_keeps zero s a b nodes p = stays (Bin Eq a b) nodes tt p
  same_within_keeps (suc depth) s a b nodes p =
      compared_as_keeps (same_within kinds depth) s a b (form_at s nodes a b) nodes (same_within_keeps depth) p

  pub same_words_keeps : (a b : Id) (nodes : List Node) → P nodes → P (same_words kinds a b nodes).nodes
  same_words_keeps a b nodes p = same_within_keeps SPLIT_LIMIT (record { fuel = SPLIT_LIMIT; known = [] }) a b nodes p

-- what a call that leaves such nodes says of inputs
pub kept : {A E : Type 0} (old new more : List Node) (r : Result A E) → OnOk r (new ≡ more) →
    ((next : ℕ) → InputsBelow next old → InputsBelow next more) → OnOk r (KeepsInputs old new)
kept old new more (Ok x) e h = λ next k. subst (InputsBelow next) (sym e) (h next k)
kept old new more (Err x) e h = tt
