-- The states that a layer's obligations speak of, over terms: fresh inputs, and whether a layer's author relates or settles them.
use Rattle.std.specs.Prelude.{ℕ, ◌+◌, List, [], ◌∷◌, ◌++◌, map}
use Rattle.ygg_value.specs.Words.{word}
use Rattle.ygg_value.specs.declared.operation.Op.TheVariants.{And, Eq}
use Rattle.ygg_syntax.specs.declared.tree.Declared.{Declared}
use Rattle.ygg_syntax.specs.declared.tree.Expr.{Expr}
use Rattle.ygg_sym_laws.specs.ygg_meaning.Layer.{ClosedLayer}
use Rattle.ygg_sym_laws.specs.ygg_meaning.Related.{relations}
use Rattle.ygg_sym_laws.specs.ygg_meaning.Shapes.{shape_in}
use Rattle.ygg_sym_laws.specs.ygg_rules.declared.rule.RuleKind.{RuleKind}
use Rattle.ygg_sym_laws.specs.ygg_bank.Makes.{Make, pure, and_make}
use Rattle.ygg_sym_laws.specs.ygg_bank.Making.{made}
use Rattle.ygg_sym_laws.specs.ygg_bank.declared.node.Id.{Id}
use Rattle.ygg_sym_laws.specs.ygg_bank.declared.node.Node.TheVariants.{Const, Bin}
use Rattle.ygg_sym_laws.specs.ygg_shape.Comparing.{compared}
use Rattle.ygg_sym_laws.specs.ygg_shape_cells.declared.terms.SymValue.{SymValue}
use Rattle.ygg_sym_laws.specs.ygg_shape.Fresh.{fresh_made, words_of}
use Rattle.ygg_sym_laws.specs.ygg_shape.Finding.{facts_in}
use Rattle.ygg_sym_laws.specs.ygg_shape.Replacing.{replaced_value}
use Rattle.ygg_sym_laws.specs.ygg_shape.declared.replacing.Replacement.{Replacement}
use Rattle.ygg_sym_laws.specs.Names.{SymScope, sym_bind}
use Rattle.ygg_sym_laws.specs.Exprs.{SymFunctions, id_in, sym_value}

-- how many words the values of declared names have
abbrev pub words_in : List Declared → ℕ
words_in [] = 0
words_in (d ∷ ds) = words_of (shape_in d.shape) + words_in ds

-- specification variables, a memory and a state below
pub record Trio : Type 0 where
  pub vars : List SymValue
  pub memory : List SymValue
  pub low : List SymValue

-- a test, and what it says of inputs
pub record Under : Type 0 where
  pub test : Id
  pub facts : List Replacement

-- terms in the stead of inputs, and in these in turn, so often that what is said of one input by another is followed a few times
abbrev pub replaced_all : List Replacement → List SymValue → List SymValue
replaced_all rs = map (λ x. replaced_value rs (replaced_value rs (replaced_value rs x)))

module _ (kinds : List RuleKind) where
  -- inputs for declared names, numbered on from a number
  abbrev pub fresh_all : ℕ → List Declared → Make (List SymValue)
  fresh_all number [] = pure []
  fresh_all number (d ∷ ds) =
      and_make (fresh_made kinds number (shape_in d.shape)) (λ x. and_make (fresh_all (number + words_of (shape_in d.shape)) ds) (λ xs. pure (x ∷ xs)))

  -- whether two lists of values are equal, value by value
  abbrev pub all_compared : List SymValue → List SymValue → Make Id
  all_compared (x ∷ xs) (y ∷ ys) = and_make (compared kinds x y) (λ a. and_make (all_compared xs ys) (λ rest. made kinds (Bin And a rest)))
  all_compared _ _ = made kinds (Const (word 1 1))

  -- whether each input has the value of the term that stands for it
  abbrev pub known_made : List Replacement → Make Id
  known_made [] = made kinds (Const (word 1 1))
  known_made (r ∷ rs) =
      and_make (known_made rs) (λ rest. and_make (made kinds (Bin Eq r.input r.term)) (λ same. made kinds (Bin And same rest)))

  -- A test, made anew where what it says of inputs stands in their stead: it is 1 where inputs are as it says, and it is 1 there. Much of what it
  -- says is plain to see then, and so is much that is to follow from it.
  abbrev pub under_made : Make Id → (List Replacement → Make Id) → Make Under
  under_made first again =
      and_make first (λ said. and_make (facts_in kinds said) (λ facts. and_make (known_made facts) (λ known. and_make (again facts) (λ rest.
      and_make (made kinds (Bin And known rest)) (λ test. pure (record { test = test; facts = facts }))))))

  module _ (terms : SymFunctions) where
    -- whether all of these expressions are 1
    abbrev pub truths_made : List Expr → SymScope → Make Id
    truths_made [] scope = made kinds (Const (word 1 1))
    truths_made (e ∷ es) scope =
        and_make (sym_value kinds terms e scope) (λ x. and_make (truths_made es scope) (λ rest. made kinds (Bin And (id_in x) rest)))

    module _ (L : ClosedLayer) where
      -- the names that `relate` and `always` see
      abbrev pub trio_scope : Trio → SymScope
      trio_scope x = record { own = sym_bind L.layer.state x.vars ++ sym_bind L.layer.memory x.memory; low = sym_bind L.low x.low }

      -- whether the layer's relation holds
      abbrev pub related_made : Trio → Make Id
      related_made x = truths_made (relations L) (trio_scope x)

      -- whether the state below is one that recovery may begin with
      abbrev pub settled_made : List SymValue → Make Id
      settled_made low = truths_made L.layer.settled (record { own = []; low = sym_bind L.low low })

      -- fresh variables, memory and state below, numbered on from a number
      abbrev pub fresh_trio : ℕ → Make Trio
      fresh_trio number =
          and_make (fresh_all number L.layer.state) (λ vars.
          and_make (fresh_all (number + words_in L.layer.state) L.layer.memory) (λ memory.
          and_make (fresh_all (number + words_in L.layer.state + words_in L.layer.memory) L.low) (λ low.
          pure (record { vars = vars; memory = memory; low = low }))))

-- the states that a layer's obligations begin with
pub record Starting : Type 0 where
  -- whether the relation holds of the inputs, and the states with what it says of them put in their stead
  pub related : Id
  pub from : Trio
  -- whether the state below is settled, and that state with what is said of it put in its stead
  pub settled : Id
  pub settled_low : List SymValue

-- a trio with terms in the stead of inputs
abbrev pub replaced_trio : List Replacement → Trio → Trio
replaced_trio rs x = record { vars = replaced_all rs x.vars; memory = replaced_all rs x.memory; low = replaced_all rs x.low }

-- how many words the states of a layer have
abbrev pub state_words : ClosedLayer → ℕ
state_words L = words_in L.layer.state + words_in L.layer.memory + words_in L.low

module _ (kinds : List RuleKind) (terms : SymFunctions) (L : ClosedLayer) where
  -- whether the relation holds of a trio
  abbrev pub related_under : Trio → Make Under
  related_under x = under_made kinds (related_made kinds terms L x) (λ rs. related_made kinds terms L (replaced_trio rs x))

  -- whether a state below is settled
  abbrev pub settled_under : List SymValue → Make Under
  settled_under low = under_made kinds (settled_made kinds terms L low) (λ rs. settled_made kinds terms L (replaced_all rs low))

  -- the states that the obligations begin with, from their inputs
  abbrev pub started_made : Trio → Make Starting
  started_made x =
      and_make (related_under x) (λ r.
      and_make (settled_under x.low) (λ s.
      pure (record { related = r.test; from = replaced_trio r.facts x; settled = s.test; settled_low = replaced_all s.facts x.low })))

  -- the states that the obligations begin with, their inputs numbered on from a number
  abbrev pub starting : ℕ → Make Starting
  starting number = and_make (fresh_trio kinds terms L number) started_made
