-- An environment that lists the numbers of all inputs among nodes.
use Rattle.std.proofs.Common.{◌≡◌, ◌<◌, ◌^◌, ℕ, zero, suc, ◌==◌, Bool, true, false, if◌then◌else◌, List}
use Rattle.std.proofs.Common.{[], ◌∷◌, ◌++◌, Option, Some, None, refl, sym, ap, ◌∙◌, subst, arith}
use Rattle.std.specs.Prelude.{slice_get, length}
use Rattle.std.proofs.lemmas.Bool.Decides.{nat_tests}
use Rattle.ygg_value.specs.Number.{Number}
use Rattle.ygg_value.specs.Words.{word}
use Rattle.ygg_decide.specs.ygg_bank.Nodes.{InOrder}
use Rattle.ygg_decide.specs.ygg_bank.Values.{Inputs, InputsFit, EnvFits, value_of, values_after, reading, node_value, given_for, bits_or_zero, inputs_of}
use Rattle.ygg_decide.specs.ygg_bank.declared.env.Given.{Given}
use Rattle.ygg_decide.specs.ygg_bank.declared.env.Given.TheVariants as given
use Rattle.ygg_decide.specs.ygg_bank.declared.node.Id.{Id}
use Rattle.ygg_decide.specs.ygg_bank.declared.node.Node.{Node}
use Rattle.ygg_decide.specs.ygg_bank.declared.node.Node.TheVariants.{Input, Const, Bin, Not, Resize, Pick}
use Rattle.ygg_decide.specs.ygg_gates.Laws.{IsZeroIn}
use Rattle.ygg_oblige_laws.specs.Meaning.{Refuting}
use Rattle.ygg_oblige_laws.proofs.Glued.{one_width}

-- the words of the inputs among nodes, in order
abbrev pub listed : Inputs → List Node → List Given
listed inputs [] = []
listed inputs (Input n w ∷ ns) = given.Word n (word w (inputs n)) ∷ listed inputs ns
listed inputs (Const k ∷ ns) = listed inputs ns
listed inputs (Bin op a b ∷ ns) = listed inputs ns
listed inputs (Not a ∷ ns) = listed inputs ns
listed inputs (Resize a w ∷ ns) = listed inputs ns
listed inputs (Pick t a b ∷ ns) = listed inputs ns

-- two lists of inputs give the inputs among nodes the same numbers
abbrev pub SameOn : Inputs → Inputs → List Node → Type 0
SameOn a b nodes = (place number w : ℕ) → slice_get nodes place ≡ Some (Input number w) → a number ≡ b number

same_tail : (a b : Inputs) (n : Node) (ns : List Node) → SameOn a b (n ∷ ns) → SameOn a b ns
same_tail a b n ns h = λ place number w e. h (suc place) number w e

same_node : (a b : Inputs) (values : List Number) (n : Node) (ns : List Node) → SameOn a b (n ∷ ns) →
    node_value a (reading values) n ≡ node_value b (reading values) n
same_node a b values (Input n w) ns h = ap (word w) (h 0 n w refl)
same_node a b values (Const k) ns h = refl
same_node a b values (Bin op x y) ns h = refl
same_node a b values (Not x) ns h = refl
same_node a b values (Resize x w) ns h = refl
same_node a b values (Pick t x y) ns h = refl

same_values : (a b : Inputs) (values : List Number) (nodes : List Node) → SameOn a b nodes → values_after a values nodes ≡ values_after b values nodes
same_values a b values [] h = refl
same_values a b values (n ∷ ns) h =
    ap (λ (x : Number). values_after a (values ++ x ∷ []) ns) (same_node a b values n ns h)
    ∙ same_values a b (values ++ node_value b (reading values) n ∷ []) ns (same_tail a b n ns h)

-- where inputs give the same numbers, each node has one value
pub same_value_of : (a b : Inputs) (nodes : List Node) (place : ℕ) → SameOn a b nodes → value_of a nodes place ≡ value_of b nodes place
same_value_of a b nodes place h = ap (λ (vs : List Number). reading vs place) (same_values a b [] nodes h)

-- what is listed for a number is the word that an input of the number has
pub record Found (inputs : Inputs) (nodes : List Node) (number : ℕ) (k : Number) : Type 0 where
  pub place : ℕ
  pub width : ℕ
  pub at : slice_get nodes place ≡ Some (Input number width)
  pub is : k ≡ word width (inputs number)

later : (inputs : Inputs) (n : Node) (ns : List Node) (number : ℕ) (k : Number) → Found inputs ns number k → Found inputs (n ∷ ns) number k
later inputs n ns number k f = record { place = suc f.place; width = f.width; at = f.at; is = f.is }

found_input : (inputs : Inputs) (n w : ℕ) (ns : List Node) (number : ℕ) (k : Number) (b : Bool) → (n == number) ≡ b →
    (given_for (listed inputs ns) number ≡ Some k → Found inputs ns number k) →
    (if b then Some (word w (inputs n)) else given_for (listed inputs ns) number) ≡ Some k → Found inputs (Input n w ∷ ns) number k
found_input inputs n w ns number k true t rest e =
    let same : n ≡ number = grind (arith, nat_tests) in
    let is : word w (inputs n) ≡ k = cc in
    record {
      place = 0;
      width = w;
      at = ap (λ m. Some (Input m w)) same;
      is = sym is ∙ ap (λ m. word w (inputs m)) same;
    }
found_input inputs n w ns number k false t rest e = later inputs (Input n w) ns number k (rest e)

pub found : (inputs : Inputs) (nodes : List Node) (number : ℕ) (k : Number) → given_for (listed inputs nodes) number ≡ Some k → Found inputs nodes number k
found inputs [] number k e = absurd (cc)
found inputs (Input n w ∷ ns) number k e = found_input inputs n w ns number k (n == number) refl (found inputs ns number k) e
found inputs (Const c ∷ ns) number k e = later inputs (Const c) ns number k (found inputs ns number k e)
found inputs (Bin op a b ∷ ns) number k e = later inputs (Bin op a b) ns number k (found inputs ns number k e)
found inputs (Not a ∷ ns) number k e = later inputs (Not a) ns number k (found inputs ns number k e)
found inputs (Resize a w ∷ ns) number k e = later inputs (Resize a w) ns number k (found inputs ns number k e)
found inputs (Pick t a b ∷ ns) number k e = later inputs (Pick t a b) ns number k (found inputs ns number k e)

-- an input among the nodes is listed
here : (inputs : Inputs) (n w : ℕ) (number : ℕ) (rest : Option Number) (b : Bool) → (n == number) ≡ b → (bits_or_zero rest ≡ inputs number) →
    bits_or_zero (if b then Some (word w (inputs n)) else rest) ≡ inputs number
here inputs n w number rest true t e = let same : n ≡ number = grind (arith, nat_tests) in ap inputs same
here inputs n w number rest false t e = e

first_here : (inputs : Inputs) (w : ℕ) (number : ℕ) (rest : Option Number) (b : Bool) → (number == number) ≡ b →
    bits_or_zero (if b then Some (word w (inputs number)) else rest) ≡ inputs number
first_here inputs w number rest true t = refl
first_here inputs w number rest false t = absurd (grind (arith, nat_tests))

pub has_listed : (inputs : Inputs) (nodes : List Node) (place number w : ℕ) → slice_get nodes place ≡ Some (Input number w) →
    inputs_of (listed inputs nodes) number ≡ inputs number
has_listed inputs [] place number w e = absurd (cc)
has_listed inputs (n ∷ ns) zero number w e =
    let same : n ≡ Input number w = cc in
    subst (λ (m : Node). inputs_of (listed inputs (m ∷ ns)) number ≡ inputs number) (sym same)
    (first_here inputs w number (given_for (listed inputs ns) number) (number == number) refl)
has_listed inputs (Input n u ∷ ns) (suc place) number w e =
    here inputs n u number (given_for (listed inputs ns) number) (n == number) refl (has_listed inputs ns place number w e)
has_listed inputs (Const c ∷ ns) (suc place) number w e = has_listed inputs ns place number w e
has_listed inputs (Bin op a b ∷ ns) (suc place) number w e = has_listed inputs ns place number w e
has_listed inputs (Not a ∷ ns) (suc place) number w e = has_listed inputs ns place number w e
has_listed inputs (Resize a u ∷ ns) (suc place) number w e = has_listed inputs ns place number w e
has_listed inputs (Pick t a b ∷ ns) (suc place) number w e = has_listed inputs ns place number w e

env_fits : (inputs : Inputs) (nodes : List Node) → InOrder [] nodes → EnvFits (listed inputs nodes) nodes
env_fits inputs nodes o place number w k e g =
    let f = found inputs nodes number k g in
    let same : f.width ≡ w = one_width nodes f.place place number f.width w o f.at e in
    ap (λ (x : Number). x.width) f.is ∙ same

-- an environment in which a term is 0 can be listed
pub listed_zero : (nodes : List Node) (term : Id) → InOrder [] nodes → Refuting nodes term → (env : List Given) × IsZeroIn nodes term env
listed_zero nodes term o r =
    let env = listed r.inputs nodes in
    let same : SameOn (inputs_of env) r.inputs nodes = λ place number w e. has_listed r.inputs nodes place number w e in (
      env,
      record {
        widths = env_fits r.inputs nodes o;
        numbers = λ place number w e. let s = same place number w e in subst (λ n. n < 2 ^ w) (sym s) (r.fit place number w e);
        zero = ap (λ (x : Number). x.bits) (same_value_of (inputs_of env) r.inputs nodes term.0 same) ∙ r.is_zero;
      },
    )
