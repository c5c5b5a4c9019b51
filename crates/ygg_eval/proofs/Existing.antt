-- A block that exists, with values that fit, may be run.
use Rattle.std.proofs.Common.{
  ◌≡◌,
  ℕ,
  zero,
  suc,
  ◌-◌,
  ◌<◌,
  ◌≤◌,
  Bool,
  true,
  false,
  ◌&&◌,
  List,
  [],
  ◌∷◌,
  length,
  Option,
  Some,
  None,
  is_some,
  refl,
  sym,
  ap,
  ◌∙◌,
  subst,
  slice_get,
  arith,
}
use Rattle.std.specs.Prelude.{IsTrue, ◌↔◌}
use Rattle.std.proofs.lemmas.Bool.{and_from}
use Rattle.ygg_value.specs.declared.row.Value.{Value}
use Rattle.ygg_syntax.specs.declared.tree.Declared.{Declared}
use Rattle.ygg_syntax.specs.declared.tree.Block.{Block}
use Rattle.ygg_syntax.specs.declared.tree.Layer.{Layer}
use Rattle.ygg_syntax.specs.declared.tree.File.{File}
use Rattle.ygg_eval.specs.ygg_meaning.Shapes.{values_fit}
use Rattle.ygg_eval.specs.ygg_meaning_laws_proofs_Tests.{left, right}
use Rattle.ygg_eval.specs.declared.body.Body.{Body}
use Rattle.ygg_eval.specs.ygg_meaning.Stack.{tables_of}
use Rattle.ygg_eval.specs.Layers.{variables_from, variables_at}
use Rattle.ygg_eval.specs.Bodies.{block_in, variables_in, arguments_in, IsRunnable}
use Rattle.ygg_eval.specs.Running.{runs_in}
use Rattle.ygg_eval.proofs.Asked.{low_first}

module _ (file : File) (body : Body) (args variables : List Value) where
  layer_is : (a b : Layer) → Some a ≡ Some b → a ≡ b
  layer_is a b h = cc

  passes : (l : Layer) → slice_get file.layers body.layer ≡ Some l → runs_in body args variables l ≡ true → IsRunnable file body args variables
  passes l e h = at (block_in l body.part body.number) refl (left (is_some (block_in l body.part body.number)) _ h)
    where
      rest : (values_fit (arguments_in l body.part body.number) args && values_fit (variables_in l body.part) variables) ≡ true
      rest = right (is_some (block_in l body.part body.number)) _ h

      at : (o : Option Block) → block_in l body.part body.number ≡ o → is_some o ≡ true → IsRunnable file body args variables
      at None i b = absurd (cc)
      at (Some block) i b = record {
        layer = l;
        block = block;
        is = record { layer = e; block = i };
        arguments_fit = left (values_fit (arguments_in l body.part body.number) args) (values_fit (variables_in l body.part) variables) rest;
        variables_fit = right (values_fit (arguments_in l body.part body.number) args) (values_fit (variables_in l body.part) variables) rest;
      }

  fails : (l : Layer) → slice_get file.layers body.layer ≡ Some l → IsRunnable file body args variables → runs_in body args variables l ≡ true
  fails l e r =
      subst (λ (x : Layer). runs_in body args variables x ≡ true) (layer_is r.layer l (sym r.is.layer ∙ e))
      (and_from (is_some (block_in r.layer body.part body.number)) _ (ap is_some r.is.block)
      (and_from (values_fit (arguments_in r.layer body.part body.number) args)
      (values_fit (variables_in r.layer body.part) variables) r.arguments_fit r.variables_fit))

  -- the test of the layer tells whether the block may be run
  pub in_layer : (b : Bool) (l : Layer) → slice_get file.layers body.layer ≡ Some l → b ≡ runs_in body args variables l → IsTrue b
      ↔ IsRunnable file body args variables
  in_layer b l e h = (λ t. passes l e (sym h ∙ t), λ r. h ∙ fails l e r)

  -- without the layer it may not
  pub in_none : slice_get file.layers body.layer ≡ None → IsTrue false ↔ IsRunnable file body args variables
  in_none e = (λ t. absurd (cc), λ r. let i = r.is.layer in absurd (nowhere (sym e ∙ i)))
    where
      nowhere : {l : Layer} → None ≡ Some l → ⊥
      nowhere h = cc

-- the variables of a layer counted from 1
pub variables_above : (below : List Declared) (ls : List Layer) (place : ℕ) (l : Layer) → slice_get ls place ≡ Some l →
    variables_from below ls (suc place) ≡ l.state
variables_above below [] place l h = absurd (cc)
variables_above below (x ∷ ls) zero l h = at ls (ap (λ (o : Option Layer). of o) h)
  where
    of : Option Layer → List Declared
    of None = []
    of (Some y) = y.state

    at : (ls : List Layer) → x.state ≡ l.state → variables_from x.state ls zero ≡ l.state
    at [] e = e
    at (y ∷ ls) e = e
variables_above below (x ∷ ls) (suc place) l h = variables_above x.state ls place l h

-- a place that has a layer comes before their end
pub within : (ls : List Layer) (place : ℕ) (l : Layer) → slice_get ls place ≡ Some l → place < length ls
within [] place l h = absurd (cc)
within (x ∷ ls) zero l h = omega arith
within (x ∷ ls) (suc place) l h = let below = within ls place l h in omega arith

place_before : (place : ℕ) → suc place - 1 ≡ place
place_before place = omega arith

module _ (file : File) (values : List Value) where
  -- the test of a layer's variables tells whether they are those of the machine counted from 1
  pub in_state : (b : Bool) (number : ℕ) (l : Layer) → (number ≡ 0 → ⊥) → slice_get file.layers (number - 1) ≡ Some l → b ≡ values_fit l.state values
      → IsTrue b ↔ ((number ≤ length file.layers) × IsTrue (values_fit (variables_at file number) values))
  in_state b zero l some e h = absurd (some refl)
  in_state b (suc place) l some e h =
      let e' : slice_get file.layers place ≡ Some l = ap (slice_get file.layers) (sym (place_before place)) ∙ e in
      let same = variables_above (tables_of file.disk) file.layers place l e' in
      let below = within file.layers place l e' in (
        λ t. (omega arith, ap (λ vs. values_fit vs values) same ∙ sym h ∙ t),
        λ r. h ∙ ap (λ vs. values_fit vs values) (sym same) ∙ r.1,
      )

  -- that of the tables tells whether they are those of the machine with number 0
  pub in_tables : (b : Bool) (number : ℕ) → number ≡ 0 → b ≡ values_fit (tables_of file.disk) values
      → IsTrue b ↔ ((number ≤ length file.layers) × IsTrue (values_fit (variables_at file number) values))
  in_tables b number first h =
      let same = ap (λ ds. values_fit ds values) (low_first (tables_of file.disk) file.layers number first) in
      (λ t. (omega (arith, first), same ∙ sym h ∙ t), λ r. h ∙ sym same ∙ r.1)

  -- past the layers there is none
  pub in_no_state : (number : ℕ) → (number ≡ 0 → ⊥) → slice_get file.layers (number - 1) ≡ None → IsTrue false
      ↔ ((number ≤ length file.layers) × IsTrue (values_fit (variables_at file number) values))
  in_no_state zero some e = absurd (some refl)
  in_no_state (suc place) some e = (λ t. absurd (cc), λ r. absurd (past file.layers place (ap (slice_get file.layers) (sym (place_before place)) ∙ e) r.0))
    where
      past : (ls : List Layer) (place : ℕ) → slice_get ls place ≡ None → suc place ≤ length ls → ⊥
      past [] place e h = omega arith
      past (x ∷ ls) zero e h = cc
      past (x ∷ ls) (suc place) e h = past ls place e (omega arith)
