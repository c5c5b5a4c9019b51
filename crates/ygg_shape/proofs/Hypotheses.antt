-- What a hypothesis says of inputs holds where it is 1.
use Rattle.std.proofs.Common.{◌≡◌, Result, Ok, Err, OnOk, IfOk, List, All, sym, subst, arith}
use Rattle.std.proofs.lemmas.Nat.{pow_pos}
use Rattle.std.proofs.lemmas.List.Elements.{All-append, All-weaker}
use Rattle.ygg_value.specs.Number.{IsWord}
use Rattle.ygg_value.specs.Words.{word}
use Rattle.ygg_shape_cells.specs.ygg_rules.declared.rule.RuleKind.{RuleKind}
use Rattle.ygg_shape_cells.proofs.of_ygg_bank.Exist.{values_fit}
use Rattle.ygg_shape_cells.proofs.of_ygg_bank.Made.{made_grows}
use Rattle.ygg_shape_cells.proofs.of_ygg_bank.Meaning.{fits_fewer}
use Rattle.ygg_shape_cells.proofs.of_ygg_bank.Widths.{wider, extends_both}
use Rattle.ygg_shape_cells.specs.ygg_bank.Making.{made}
use Rattle.ygg_shape_cells.specs.ygg_bank.Nodes.{HasWidth, IsBank}
use Rattle.ygg_shape_cells.specs.ygg_bank.Values.{Inputs, Values, Fits, value_of}
use Rattle.ygg_shape_cells.specs.ygg_bank.declared.node.Id.{Id}
use Rattle.ygg_shape_cells.specs.ygg_bank.declared.node.Node.{Node}
use Rattle.ygg_shape_cells.specs.ygg_bank.declared.node.Node.TheVariants.{Const}
use Rattle.ygg_shape_cells.proofs.of_ygg_shape_words.Fit.{alike_wider}
use Rattle.ygg_shape_cells.proofs.of_ygg_shape_words.Keeps.{Stays}
use Rattle.ygg_shape_cells.proofs.of_ygg_shape_words.Terms.{made_is}
use Rattle.ygg_shape_cells.specs.ygg_shape_words.Forms.{WordsAlike}
use Rattle.ygg_shape.specs.Conjuncts.{conjuncts_of}
use Rattle.ygg_shape.specs.Equations.{equations}
use Rattle.ygg_shape.specs.Finding.{found, facts_in}
use Rattle.ygg_shape.specs.Joins.{joins, joins_made}
use Rattle.ygg_shape.specs.Replacing.{AreFit, AreTrueUnder}
use Rattle.ygg_shape.specs.declared.replacing.Replacement.{Replacement}
use Rattle.ygg_shape.proofs.Holding.{alike_back, conjuncts_digits, conjuncts_true, equations_fit, equations_true, Equals, found_all}
use Rattle.ygg_shape.proofs.Joining.{AreSo, joins_fit, joins_true, joins_made_are, joins_made_grows, joins_made_keeps}

-- the constants
one_word : IsWord (word 1 1)
one_word = record { least = omega arith; most = omega arith; fits = omega arith }

none_word : IsWord (word 1 0)
none_word = record { least = omega arith; most = omega arith; fits = omega arith }

-- what holds of nodes, and stays as nodes other than inputs are made, holds after facts are taken
pub facts_keep : (kinds : List RuleKind) (P : List Node → Type 0) (stays : Stays kinds P) (h : Id) (nodes : List Node) → P nodes →
    P (facts_in kinds h nodes).nodes
facts_keep kinds P stays h nodes p =
    let k = made kinds (Const (word 1 1)) nodes in
    let z = made kinds (Const (word 1 0)) k.nodes in
    joins_made_keeps kinds P stays (joins z.nodes k.value z.value (conjuncts_of z.nodes h)) z.nodes
    (stays (Const (word 1 0)) k.nodes tt (stays (Const (word 1 1)) nodes tt p))

-- each term has its input's width, and where the hypothesis is 1 its value
pub facts_are : (inputs : Inputs) (v : Values) (kinds : List RuleKind) (h : Id) (nodes : List Node) → HasWidth nodes h 1 →
    Fits inputs v (facts_in kinds h nodes).nodes → AreSo v ((v h.0).bits ≡ 1) (facts_in kinds h nodes).nodes (facts_in kinds h nodes).value
facts_are inputs v kinds h nodes d f =
    let C = (v h.0).bits ≡ 1 in
    let k = made kinds (Const (word 1 1)) nodes in
    let z = made kinds (Const (word 1 0)) k.nodes in
    let kg = made_grows kinds (Const (word 1 1)) nodes in
    let zg = made_grows kinds (Const (word 1 0)) k.nodes in
    let cs = conjuncts_of z.nodes h in
    let ps = equations z.nodes k.value z.value cs in
    let js = joins z.nodes k.value z.value cs in
    let o = joins_made kinds js z.nodes in
    let og = joins_made_grows kinds js z.nodes in
    let fz = fits_fewer inputs v z.nodes o.nodes og f in
    let p = made_is inputs v kinds (Const (word 1 1)) nodes one_word (fits_fewer inputs v k.nodes z.nodes zg fz) in
    let q = made_is inputs v kinds (Const (word 1 0)) k.nodes none_word fz in
    let pw = wider k.nodes z.nodes k.value 1 zg p.wide in
    let there = wider nodes z.nodes h 1 (extends_both nodes k.nodes z.nodes kg zg) d in
    let digits = conjuncts_digits z.nodes h fz.ordered there in
    let ones = conjuncts_true inputs v z.nodes fz C h (there, λ x. x) in
    let made_so = joins_made_are inputs v C kinds js z.nodes (joins_fit z.nodes k.value z.value fz.ordered pw q.wide cs digits)
    (joins_true inputs v C z.nodes fz k.value z.value p.is q.is cs ones) f in
    let W : Replacement → Type 0 = λ r. WordsAlike o.nodes r.input r.term in
    let Q : Replacement → Type 0 = λ r. C → v r.input.0 ≡ v r.term.0 in
    let fit = found_all (WordsAlike z.nodes) (alike_back z.nodes) z.nodes ps (equations_fit z.nodes k.value z.value fz.ordered pw q.wide cs digits) in
    let are = found_all (Equals inputs v z.nodes fz C) (λ a b g x. sym (g x)) z.nodes ps
    (equations_true inputs v z.nodes fz C k.value z.value p.is q.is cs ones) in
    record {
      fit = All-append W (found z.nodes ps) o.value
          (All-weaker (λ (r : Replacement). WordsAlike z.nodes r.input r.term) W (λ r g. alike_wider z.nodes o.nodes r.input r.term og g) (found z.nodes ps) fit)
          made_so.fit;
      are = All-append Q (found z.nodes ps) o.value are made_so.are;
    }

pub all_true : (v : Values) (C : Type 0) (rs : List Replacement) → C → All (λ (r : Replacement). C → v r.input.0 ≡ v r.term.0) rs →
    All (λ (r : Replacement). v r.input.0 ≡ v r.term.0) rs
all_true v C rs x =
    All-weaker (λ (r : Replacement). C → v r.input.0 ≡ v r.term.0) (λ (r : Replacement). v r.input.0 ≡ v r.term.0) (λ r g. g x) rs

pub facts_fit : {E : Type 0} (kinds : List RuleKind) (h : Id) (old new : List Node) (r : Result (List Replacement) E) → IsBank new → HasWidth old h 1 →
    OnOk r (new ≡ (facts_in kinds h old).nodes) → IfOk r (λ list. list ≡ (facts_in kinds h old).value) → IfOk r (AreFit new)
facts_fit kinds h old new (Ok list) b d e g =
    let o = facts_in kinds h old in
    let c = subst IsBank e b in
    let inputs : Inputs = λ number. 0 in
    let so = facts_are inputs (value_of inputs o.nodes) kinds h old d (values_fit inputs o.nodes c.ordered (λ place number w e. pow_pos w)) in
    subst (λ n. AreFit n list) (sym e) (subst (AreFit o.nodes) (sym g) so.fit)
facts_fit kinds h old new (Err x) b d e g = tt

pub facts_true : {E : Type 0} (kinds : List RuleKind) (h : Id) (old new : List Node) (r : Result (List Replacement) E) → IsBank new → HasWidth old h 1 →
    OnOk r (new ≡ (facts_in kinds h old).nodes) → IfOk r (λ list. list ≡ (facts_in kinds h old).value) → IfOk r (AreTrueUnder new h)
facts_true kinds h old new (Ok list) b d e g =
    let o = facts_in kinds h old in
    let c = subst IsBank e b in
    subst (λ n. AreTrueUnder n h list) (sym e) (subst (AreTrueUnder o.nodes h) (sym g) (λ inputs fit bit.
    let v = value_of inputs o.nodes in
    let so = facts_are inputs v kinds h old d (values_fit inputs o.nodes c.ordered fit) in
    all_true v ((v h.0).bits ≡ 1) o.value bit so.are))
facts_true kinds h old new (Err x) b d e g = tt
