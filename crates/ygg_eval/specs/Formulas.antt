-- The formulas of a file, and what they say of values.
use Rattle.std.specs.Prelude.{◌≡◌, ℕ, Bool, true, false, IsTrue, if◌then◌else◌, List, [], ◌++◌, slice_get, Option, Some}
use Rattle.ygg_value.specs.declared.row.Value.{Value}
use Rattle.ygg_syntax.specs.declared.tree.Expr.{Expr}
use Rattle.ygg_syntax.specs.declared.tree.Layer.{Layer}
use Rattle.ygg_syntax.specs.declared.tree.File.{File}
use Rattle.ygg_eval_expr.specs.ygg_meaning.Environments.{Env, bind}
use Rattle.ygg_eval_expr.specs.ygg_meaning.Shapes.{values_fit}
use Rattle.ygg_eval_expr.specs.ygg_meaning.Related.{holds}
use Rattle.ygg_eval.specs.Layers.{variables_at, closed_at}
use Rattle.ygg_eval.specs.declared.formula.Formula.{Formula}
use Rattle.ygg_eval.specs.declared.formula.Which.{Which}
use Rattle.ygg_eval.specs.declared.formula.Which.TheVariants.{Relate, Always, Settled, Maybe}

-- the expression of a layer that is meant
abbrev pub chosen_in : Layer → Which → ℕ → Option Expr
chosen_in l Relate number = Some l.relate
chosen_in l Always number = slice_get l.always number
chosen_in l Settled number = slice_get l.settled number
chosen_in l Maybe number = slice_get l.maybe number

-- the expression of a formula in its layer
abbrev pub formula_in : Layer → Formula → Option Expr
formula_in l f = chosen_in l f.which f.number

-- whether such expressions see the specification's variables and the memory: those of `settled` see the base below alone
abbrev pub sees_all : Which → Bool
sees_all Relate = true
sees_all Always = true
sees_all Settled = false
sees_all Maybe = true

-- what such an expression sees of variables
abbrev pub seen_by : Which → Env → Env
seen_by which env = if sees_all which then env else []

-- the plain names that such an expression of a layer sees, with these values
abbrev pub own_in : Layer → Which → List Value → List Value → Env
own_in l which state memory = seen_by which (bind l.state state) ++ seen_by which (bind l.memory memory)

-- the formula is one of the file, and the values that it sees have the declared shapes
pub record IsAsked (file : File) (f : Formula) (state memory low : List Value) : Type 0 where
  pub layer : Layer
  pub is : slice_get file.layers f.layer ≡ Some layer
  pub expression : Expr
  pub of_layer : formula_in layer f ≡ Some expression
  pub state_fits : IsTrue (sees_all f.which) → IsTrue (values_fit layer.state state)
  pub memory_fits : IsTrue (sees_all f.which) → IsTrue (values_fit layer.memory memory)
  pub low_fits : IsTrue (values_fit (variables_at file f.layer) low)

-- the answer says whether the formula's expression holds of these values; that of a `settled` one says it of the base below alone
abbrev pub Answers : File → Formula → List Value → List Value → List Value → Bool → Type 0
Answers file f state memory low answer =
    (l : Layer) (e : Expr) → slice_get file.layers f.layer ≡ Some l → formula_in l f ≡ Some e →
    answer ≡ holds (closed_at file f.layer l) (seen_by f.which (bind l.state state)) (seen_by f.which (bind l.memory memory))
    (bind (variables_at file f.layer) low) e
