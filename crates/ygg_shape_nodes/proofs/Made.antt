-- What the rules make: it only adds nodes, adds no input, and has the node's value.
use Rattle.std.proofs.Common.{◌≡◌, ℕ, zero, suc, Some, if◌then◌else◌, List, Result, Ok, Err, IfOk, sym, ap, ◌∙◌, subst}
use Rattle.ygg_shape_words.specs.ygg_rules.declared.rule.RuleKind.{RuleKind}
use Rattle.ygg_shape_words.specs.ygg_bank_proofs_Exist.{sees, values_fit, keeps_values}
use Rattle.ygg_shape_words.specs.ygg_bank_proofs_Made.{made_grows}
use Rattle.ygg_shape_words.specs.ygg_bank_proofs_Meaning.{fits_fewer}
use Rattle.ygg_shape_words.specs.ygg_bank_proofs_Widths.{wider, width_is, extends_self}
use Rattle.ygg_shape_words.specs.ygg_bank.Inputs.{NoInput}
use Rattle.ygg_shape_words.specs.ygg_bank.Makes.{Make}
use Rattle.ygg_shape_words.specs.ygg_bank.Making.{made}
use Rattle.ygg_shape_words.specs.ygg_bank.Nodes.{width_at, widths_of, node_width, HasWidth, CanMake, CanPick, Extends, IsBank}
use Rattle.ygg_shape_words.specs.ygg_bank.Values.{AnswersFor, Inputs, Values, Fits, node_value, value_of}
use Rattle.ygg_shape_words.specs.ygg_bank.declared.node.Id.{Id}
use Rattle.ygg_shape_words.specs.ygg_bank.declared.node.Node.{Node}
use Rattle.ygg_shape_words.specs.ygg_bank.declared.node.Node.TheVariants.{Input, Const, Bin, Not, Resize, Pick}
use Rattle.ygg_shape_words.specs.Picking.{picked}
use Rattle.ygg_shape_words.proofs.Fit.{can_pick}
use Rattle.ygg_shape_words.proofs.Grows.{picked_grows}
use Rattle.ygg_shape_words.proofs.Keeps.{Stays, grows_stays, picked_keeps}
use Rattle.ygg_shape_words.proofs.Picks.{picked_is}
use Rattle.ygg_shape_words.proofs.Terms.{TermIs, holds, made_is}
use Rattle.ygg_shape_nodes.specs.Making.{IsMade, made_as, made_small, made_within}
use Rattle.ygg_shape_nodes.specs.Rules.{instead_of, InsteadFits}
use Rattle.ygg_shape_nodes.specs.declared.making.TheConstants.{RULE_DEPTH}
use Rattle.ygg_shape_nodes.specs.declared.rules.Instead.{Instead}
use Rattle.ygg_shape_nodes.specs.declared.rules.Instead.TheVariants as instead
use Rattle.ygg_shape_nodes.proofs.Instead.{InsteadOwn, instead_own, instead_fits}
use Rattle.ygg_shape_nodes.proofs.Worth.{InsteadIs, instead_is}
use Rattle.ygg_shape_nodes.proofs.Moved.{can_later, width_later}

module _ (kinds : List RuleKind) (P : List Node → Type 0) (stays : Stays kinds P) where
  abbrev StepKeeps : (Node → Make Id) → Type 0
  StepKeeps next = (n : Node) (nodes : List Node) → NoInput n → P nodes → P (next n nodes).nodes

  made_as_keeps : (next : Node → Make Id) (n : Node) (i : Instead) (nodes : List Node) → StepKeeps next → NoInput n → InsteadOwn i → P nodes →
      P (made_as kinds next n i nodes).nodes
  made_as_keeps next n instead.Itself nodes g own q p = stays n nodes own p
  made_as_keeps next n (instead.Term a) nodes g own q p = p
  made_as_keeps next n (instead.Constant k) nodes g own q p = stays (Const k) nodes tt p
  made_as_keeps next n (instead.Other m) nodes g own q p = g m nodes q p
  made_as_keeps next n (instead.Split t m k) nodes g own q p =
      let o = next m nodes in
      let r = next k o.nodes in
      picked_keeps kinds P stays t o.value r.value r.nodes (g k o.nodes q.1 (g m nodes q.0 p))

  pub made_within_keeps : (depth : ℕ) → StepKeeps (made_within kinds depth)
  unfolding made_within
  made_within_keeps zero n nodes own p = stays n nodes own p
  made_within_keeps (suc depth) n nodes own p =
      made_as_keeps (made_within kinds depth) n (instead_of nodes n) nodes (made_within_keeps depth) own (instead_own nodes n) p

pub made_within_grows : (kinds : List RuleKind) (depth : ℕ) (n : Node) (nodes : List Node) → NoInput n → Extends nodes (made_within kinds depth n nodes).nodes
made_within_grows kinds depth n nodes own = made_within_keeps kinds (Extends nodes) (grows_stays kinds nodes) depth n nodes own (extends_self nodes)

module _ (inputs : Inputs) (v : Values) (kinds : List RuleKind) where
  abbrev IsGood : (Node → Make Id) → Type 0
  IsGood next = (n : Node) (nodes : List Node) → CanMake nodes n → NoInput n → Fits inputs v (next n nodes).nodes →
      TermIs inputs v (next n nodes).nodes (node_width (widths_of nodes) n) (node_value inputs v n) (next n nodes).value

  abbrev OnlyGrows : (Node → Make Id) → Type 0
  OnlyGrows next = (n : Node) (nodes : List Node) → NoInput n → Extends nodes (next n nodes).nodes

  made_as_is : (next : Node → Make Id) (n : Node) (i : Instead) (nodes : List Node) → IsGood next → OnlyGrows next → CanMake nodes n →
      InsteadFits nodes n i → (Fits inputs v nodes → InsteadIs inputs v n i) → Fits inputs v (made_as kinds next n i nodes).nodes →
      TermIs inputs v (made_as kinds next n i nodes).nodes (node_width (widths_of nodes) n) (node_value inputs v n) (made_as kinds next n i nodes).value
  made_as_is next n instead.Itself nodes good grow c d e h = made_is inputs v kinds n nodes c h
  made_as_is next n (instead.Term a) nodes good grow c d e h = record { wide = d; is = e h }
  made_as_is next n (instead.Constant k) nodes good grow c d e h =
      let o = made kinds (Const k) nodes in
      let m = made_is inputs v kinds (Const k) nodes d.0 h in
      let f = fits_fewer inputs v nodes o.nodes (made_grows kinds (Const k) nodes) h in
      record { wide = m.wide ∙ ap (λ z. Some z) d.1; is = m.is ∙ sym (e f) }
  made_as_is next n (instead.Other m) nodes good grow c d e h =
      let o = next m nodes in
      let g = good m nodes d.can d.own h in
      let f = fits_fewer inputs v nodes o.nodes (grow m nodes d.own) h in
      record { wide = g.wide ∙ ap (λ z. Some z) d.width; is = g.is ∙ e f }
  made_as_is next n (instead.Split t m k) nodes good grow c d e h =
      let w = node_width (widths_of nodes) n in
      let o = next m nodes in
      let q = next k o.nodes in
      let r = picked kinds t o.value q.value q.nodes in
      let og = grow m nodes d.1.own in
      let qg = grow k o.nodes d.2.own in
      let rg = picked_grows kinds t o.value q.value q.nodes in
      let hq = fits_fewer inputs v q.nodes r.nodes rg h in
      let ho = fits_fewer inputs v o.nodes q.nodes qg hq in
      let hn = fits_fewer inputs v nodes o.nodes og ho in
      let can = can_later nodes o.nodes og k d.2.own d.2.can in
      let one = good m nodes d.1.can d.1.own ho in
      let two = good k o.nodes can d.2.own hq in
      let one_wide : HasWidth o.nodes o.value w = one.wide ∙ ap (λ z. Some z) d.1.width in
      let two_wide : HasWidth q.nodes q.value w = two.wide ∙ ap (λ z. Some z) (width_later nodes o.nodes og k d.2.own d.2.can ∙ d.2.width) in
      let z = picked_is inputs v kinds w t o.value q.value q.nodes (wider o.nodes q.nodes t 1 qg (wider nodes o.nodes t 1 og d.0))
      (wider o.nodes q.nodes o.value w qg one_wide) two_wide h in
      let test = holds inputs v t in
      record {
        wide = z.wide;
        is = z.is ∙ ap (λ x. if test then x else v q.value.0) one.is ∙ ap (λ x. if test then node_value inputs v m else x) two.is ∙ e hn;
      }

  pub made_within_is : (depth : ℕ) → IsGood (made_within kinds depth)
  unfolding made_within
  made_within_is zero n nodes c own h = made_is inputs v kinds n nodes c h
  made_within_is (suc depth) n nodes c own h =
      let f = fits_fewer inputs v nodes (made_within kinds (suc depth) n nodes).nodes (made_within_grows kinds (suc depth) n nodes own) h in
      made_as_is (made_within kinds depth) n (instead_of nodes n) nodes (made_within_is depth) (made_within_grows kinds depth) c
      (instead_fits nodes f.ordered n c) (λ g. instead_is inputs v nodes g n c) h

  -- the same of any node, where an input is made as it is
  any_is : (depth : ℕ) (n : Node) (nodes : List Node) → CanMake nodes n → Fits inputs v (made_within kinds depth n nodes).nodes →
      TermIs inputs v (made_within kinds depth n nodes).nodes (node_width (widths_of nodes) n) (node_value inputs v n) (made_within kinds depth n nodes).value
  unfolding made_within
  any_is zero n nodes c h = made_is inputs v kinds n nodes c h
  any_is (suc depth) (Input number w) nodes c h = made_is inputs v kinds (Input number w) nodes c h
  any_is (suc depth) (Const k) nodes c h = made_within_is (suc depth) (Const k) nodes c tt h
  any_is (suc depth) (Bin op a b) nodes c h = made_within_is (suc depth) (Bin op a b) nodes c tt h
  any_is (suc depth) (Not a) nodes c h = made_within_is (suc depth) (Not a) nodes c tt h
  any_is (suc depth) (Resize a w) nodes c h = made_within_is (suc depth) (Resize a w) nodes c tt h
  any_is (suc depth) (Pick t a b) nodes c h = made_within_is (suc depth) (Pick t a b) nodes c tt h

  -- what is made of a node by the rules has its width and its value
  pub small_is : (n : Node) (nodes : List Node) → CanMake nodes n → Fits inputs v (made_small kinds n nodes).nodes →
      TermIs inputs v (made_small kinds n nodes).nodes (node_width (widths_of nodes) n) (node_value inputs v n) (made_small kinds n nodes).value
  small_is = any_is RULE_DEPTH

any_grows : (kinds : List RuleKind) (depth : ℕ) (n : Node) (nodes : List Node) → Extends nodes (made_within kinds depth n nodes).nodes
unfolding made_within
any_grows kinds zero n nodes = made_grows kinds n nodes
any_grows kinds (suc depth) (Input number w) nodes = made_grows kinds (Input number w) nodes
any_grows kinds (suc depth) (Const k) nodes = made_within_grows kinds (suc depth) (Const k) nodes tt
any_grows kinds (suc depth) (Bin op a b) nodes = made_within_grows kinds (suc depth) (Bin op a b) nodes tt
any_grows kinds (suc depth) (Not a) nodes = made_within_grows kinds (suc depth) (Not a) nodes tt
any_grows kinds (suc depth) (Resize a w) nodes = made_within_grows kinds (suc depth) (Resize a w) nodes tt
any_grows kinds (suc depth) (Pick t a b) nodes = made_within_grows kinds (suc depth) (Pick t a b) nodes tt

-- what is made of a node by the rules only adds nodes, and keeps what stays as nodes other than inputs are made
pub small_grows : (kinds : List RuleKind) (n : Node) (nodes : List Node) → Extends nodes (made_small kinds n nodes).nodes
small_grows kinds = any_grows kinds RULE_DEPTH

pub small_keeps : (kinds : List RuleKind) (P : List Node → Type 0) (stays : Stays kinds P) (n : Node) (nodes : List Node) → NoInput n → P nodes →
    P (made_small kinds n nodes).nodes
small_keeps kinds P stays n nodes own p = made_within_keeps kinds P stays RULE_DEPTH n nodes own p

-- the words of a pick between what two nodes made
pub other_wide : (old mid new : List Node) (n m k : Node) (t a : Id) → Extends mid new → InsteadFits old n (instead.Split t m k) →
    HasWidth mid a (node_width (widths_of old) m) → width_at (widths_of new) a ≡ node_width (widths_of old) n
other_wide old mid new n m k t a g d h = width_is new a (node_width (widths_of old) m) (wider mid new a (node_width (widths_of old) m) g h) ∙ d.1.width

pub split_widths : (old mid new : List Node) (n m k : Node) (t a b : Id) → Extends old mid → Extends mid new → InsteadFits old n (instead.Split t m k) →
    HasWidth mid a (node_width (widths_of old) m) → HasWidth new b (node_width (widths_of mid) k) → CanPick new t a b
split_widths old mid new n m k t a b f g d h i =
    let w = node_width (widths_of old) n in
    can_pick new t a b w (wider mid new t 1 g (wider old mid t 1 f d.0))
    (wider mid new a w g (h ∙ ap (λ z. Some z) d.1.width))
    (i ∙ ap (λ z. Some z) (width_later old mid f k d.2.own d.2.can ∙ d.2.width))

-- what the call says of its answer
pub small_value : {E : Type 0} (kinds : List RuleKind) (n : Node) (old new : List Node) (r : Result Id E) → IsBank old → IsBank new → CanMake old n →
    IfOk r (IsMade (made_small kinds n) old new) → IfOk r (AnswersFor old n new)
small_value kinds n old new (Ok answer) k b c e =
    let o = made_small kinds n old in
    let ob = subst IsBank e.nodes b in
    let grows = small_grows kinds n old in
    subst (λ z. AnswersFor old n z answer) (sym e.nodes) (subst (AnswersFor old n o.nodes) (sym e.value) (λ inputs fit.
    let h = values_fit inputs o.nodes ob.ordered fit in
    let m = small_is inputs (value_of inputs o.nodes) kinds n old c h in
    m.is ∙ sees inputs (value_of inputs o.nodes) (value_of inputs old) old n c (λ place l. keeps_values old o.nodes grows inputs place l)))
small_value kinds n old new (Err x) k b c e = tt
