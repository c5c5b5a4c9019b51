-- Obligations' terms, step by step.
use Rattle.std.proofs.Common.{◌≡◌, List, [], Option}
use Rattle.ygg_value.specs.declared.operation.Op.TheVariants.{And}
use Rattle.ygg_syntax.specs.declared.tree.Block.{Block}
use Rattle.ygg_syntax.specs.declared.tree.Declared.{Declared}
use Rattle.ygg_oblige_parts.specs.ygg_rules.declared.rule.RuleKind.{RuleKind}
use Rattle.ygg_oblige_parts.specs.ygg_bank.Makes.{Make, Out, and_make, goes_on}
use Rattle.ygg_oblige_parts.specs.ygg_bank.Making.{made}
use Rattle.ygg_oblige_parts.specs.ygg_bank.declared.node.Id.{Id}
use Rattle.ygg_oblige_parts.specs.ygg_bank.declared.node.Node.{Node}
use Rattle.ygg_oblige_parts.specs.ygg_bank.declared.node.Node.TheVariants.{Bin}
use Rattle.ygg_oblige_parts.specs.ygg_shape_cells.declared.terms.SymValue.{SymValue}
use Rattle.ygg_oblige_parts.specs.ygg_sym_runs.StopTerms.{SymFallen}
use Rattle.ygg_oblige_laws.specs.ygg_sym_runs.Means.{values_in}
use Rattle.ygg_oblige_parts.specs.ygg_oblige_laws.Implied.{implied_made}
use Rattle.ygg_oblige_parts.specs.ygg_oblige_laws.Terms.{Finish}

-- a run over values that another step made, without arguments
pub without_from : {A B : Type 0} (Z : Out A) (R : A → List SymValue → Make B) (z : A) (none : List SymValue) (one : List Node) → z ≡ Z.value →
    none ≡ [] → one ≡ Z.nodes → R z none one ≡ goes_on Z (λ z. R z [])
without_from Z R z none one a b e = cc

-- a run over values made for names that are these, without arguments
pub zeros_from : {A B : Type 0} (Z : List Declared → Make A) (R : A → List SymValue → Make B) (ds es : List Declared) (z : A) (none : List SymValue)
    (old one : List Node) → ds ≡ es → z ≡ (Z ds old).value → none ≡ [] → one ≡ (Z ds old).nodes → R z none one ≡ goes_on (Z es old) (λ z. R z [])
zeros_from Z R ds es z none old one d a b e = cc

-- a whole run, and the step after it
pub runs_from : (kinds : List RuleKind) (R : Block → List Declared → Out Finish) (p : Option SymValue → List SymValue → List SymValue → Make Id)
    (related : Id) (b c : Block) (ds es : List Declared) (answer : Option SymValue) (memory low : List SymValue) (some : Id) (one two : List Node) →
    b ≡ c → ds ≡ es → answer ≡ (R b ds).value.answer → memory ≡ values_in (R b ds).value.vars → low ≡ (R b ds).value.to → one ≡ (R b ds).nodes →
    some ≡ (p answer memory low one).value → two ≡ (p answer memory low one).nodes →
    implied_made kinds related some two
    ≡ goes_on (R c es) (λ end. and_make (p end.answer (values_in end.vars) end.to) (λ some. implied_made kinds related some))
runs_from kinds R p related b c ds es answer memory low some one two e f h i j k m n = cc

-- a run that power cuts, and what comes after it
pub falls_from : (kinds : List RuleKind) (R : Block → List Declared → Out (SymFallen (List SymValue))) (r : Id → List SymValue → Make Id)
    (related : Id) (b c : Block) (ds es : List Declared) (fallen : List SymValue) (reached hypothesis : Id) (one two : List Node) →
    b ≡ c → ds ≡ es → fallen ≡ (R b ds).value.fallen → reached ≡ (R b ds).value.reached → one ≡ (R b ds).nodes →
    hypothesis ≡ (made kinds (Bin And related reached) one).value → two ≡ (made kinds (Bin And related reached) one).nodes →
    r hypothesis fallen two
    ≡ goes_on (R c es) (λ left. and_make (made kinds (Bin And related left.reached)) (λ hypothesis. r hypothesis left.fallen))
falls_from kinds R r related b c ds es fallen reached hypothesis one two e f h i j k m = cc

-- what is asked of an end that another step made
pub end_from : {B : Type 0} (E : Out Finish) (k : Option SymValue → List SymValue → List SymValue → Make B) (answer : Option SymValue)
    (memory low : List SymValue) (one : List Node) → answer ≡ E.value.answer → memory ≡ values_in E.value.vars → low ≡ E.value.to → one ≡ E.nodes →
    k answer memory low one ≡ goes_on E (λ end. k end.answer (values_in end.vars) end.to)
end_from E k answer memory low one a b c d = cc

-- the tests of a base and of an end, and what they are the conclusion of
pub woken_from : (kinds : List RuleKind) (s p : Make Id) (hypothesis side some conclusion : Id) (old two three four : List Node) →
    side ≡ (s old).value → two ≡ (s old).nodes → some ≡ (p two).value → three ≡ (p two).nodes →
    conclusion ≡ (made kinds (Bin And side some) three).value → four ≡ (made kinds (Bin And side some) three).nodes →
    implied_made kinds hypothesis conclusion four
    ≡ goes_on (s old) (λ side. and_make p (λ some. and_make (made kinds (Bin And side some)) (λ conclusion. implied_made kinds hypothesis conclusion)))
woken_from kinds s p hypothesis side some conclusion old two three four a b c d e f = cc

-- two comparisons, joined
pub both_from : (kinds : List RuleKind) (m : List SymValue → List SymValue → Make Id) (a b xs ys d e zs ws : List SymValue) (old : List Node) →
    a ≡ xs → b ≡ ys → d ≡ zs → e ≡ ws → (memories bases : Id) (one two : List Node) → memories ≡ (m a b old).value → one ≡ (m a b old).nodes →
    bases ≡ (m d e one).value → two ≡ (m d e one).nodes →
    made kinds (Bin And memories bases) two ≡ goes_on (m xs ys old) (λ memories. and_make (m zs ws) (λ bases. made kinds (Bin And memories bases)))
both_from kinds m a b xs ys d e zs ws old p q r s memories bases one two f h i j = cc

-- the test of a base, and the comparison of two ends
pub alike_from : (kinds : List RuleKind) (s : Make Id) (m : List SymValue → List SymValue → Make Id) (memory low other base : List SymValue)
    (side same : Id) (old three four : List Node) → side ≡ (s old).value → three ≡ (s old).nodes →
    (let both = and_make (m memory other) (λ memories. and_make (m low base) (λ bases. made kinds (Bin And memories bases))) in
    same ≡ (both three).value → four ≡ (both three).nodes →
    made kinds (Bin And side same) four
    ≡ goes_on (s old) (λ side. and_make (m memory other) (λ memories. and_make (m low base) (λ bases.
    and_make (made kinds (Bin And memories bases)) (λ same. made kinds (Bin And side same))))))
alike_from kinds s m memory low other base side same old three four a b c d = cc

-- what is asked of what a run left that power cut
pub left_from : {B : Type 0} (C : Out (SymFallen (List SymValue))) (k : List SymValue → Id → Make B) (fallen : List SymValue) (reached : Id)
    (one : List Node) → fallen ≡ C.value.fallen → reached ≡ C.value.reached → one ≡ C.nodes →
    k fallen reached one ≡ goes_on C (λ left. k left.fallen left.reached)
left_from C k fallen reached one a b c = cc

-- the recoveries after one that power cut, and what they are the conclusion of
pub again_from : (kinds : List RuleKind) (a : Make Id) (settled reached conclusion hypothesis : Id) (old two three : List Node) →
    conclusion ≡ (a old).value → two ≡ (a old).nodes →
    hypothesis ≡ (made kinds (Bin And settled reached) two).value → three ≡ (made kinds (Bin And settled reached) two).nodes →
    implied_made kinds hypothesis conclusion three
    ≡ goes_on (a old) (λ conclusion. and_make (made kinds (Bin And settled reached)) (λ hypothesis. implied_made kinds hypothesis conclusion))
again_from kinds a settled reached conclusion hypothesis old two three b c d e = cc

-- a whole run from a state below that another step made, without arguments, and the step after it
pub formats_from : (L : Out (List SymValue)) (Z : List Declared → Make (List SymValue)) (R : List SymValue → List SymValue → List SymValue → Make Finish)
    (p : List SymValue → Option SymValue → List SymValue → List SymValue → Make Id) (ds es : List Declared) (base zeros none : List SymValue)
    (answer : Option SymValue) (memory low : List SymValue) (one two three : List Node) → ds ≡ es → base ≡ L.value → one ≡ L.nodes →
    zeros ≡ (Z ds one).value → two ≡ (Z ds one).nodes → none ≡ [] → answer ≡ (R zeros none base two).value.answer →
    memory ≡ values_in (R zeros none base two).value.vars → low ≡ (R zeros none base two).value.to → three ≡ (R zeros none base two).nodes →
    p none answer memory low three
    ≡ goes_on L (λ base. and_make (Z es) (λ zeros. and_make (R zeros [] base) (λ end. p [] end.answer (values_in end.vars) end.to)))
formats_from L Z R p ds es base zeros none answer memory low one two three k a b c d e f h i j = cc

-- a step over values for names that are these
pub args_from : {B : Type 0} (f : List Declared → Make (List SymValue)) (ds es : List Declared) (r : List SymValue → Make B) (args : List SymValue)
    (old one : List Node) → ds ≡ es → args ≡ (f ds old).value → one ≡ (f ds old).nodes → r args one ≡ goes_on (f es old) r
args_from f ds es r args old one a b c = cc
