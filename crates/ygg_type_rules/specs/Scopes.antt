-- What is in scope.
use Rattle.std.specs.Prelude.{ℕ, Bool, true, false, ◌||◌, List, Option, Some, None, if◌then◌else◌}
use Rattle.ygg_value.specs.declared.shape.Shape.{Shape}
use Rattle.ygg_type_rules.specs.Names.{Named, look_up, has, added}
use Rattle.ygg_type_rules.specs.declared.scope.Owner.{Owner}
use Rattle.ygg_type_rules.specs.declared.scope.Owner.TheVariants.{State, Memory}
use Rattle.ygg_type_rules.specs.declared.scope.Variable.{Variable}
use Rattle.ygg_type_rules.specs.declared.scope.Local.{Local}
use Rattle.ygg_type_rules.specs.declared.scope.Signature.{Signature}
use Rattle.ygg_type_rules.specs.declared.scope.Visibility.{Visibility}
use Rattle.ygg_type_rules.specs.declared.scope.Visibility.TheVariants.{Definition, Specification, Implementation, Relation, Settled}

-- What a place of a file may name. Whatever is declared a second time keeps its first meaning.
pub record Scope : Type 0 where
  -- the definitions that stand before
  pub defs : Named Signature
  -- the operations of the machine below
  pub lower : Named Signature
  -- the variables of the machine below
  pub low : Named Variable
  -- the state and memory variables of the layer, seen or not
  pub variables : Named Variable
  -- what is seen of these variables
  pub view : Visibility
  -- parameters, arguments, `let` names, and numbers of loops and quantifiers
  pub locals : Named Local

-- whether a layer's own variables of that kind are seen
abbrev pub sees : Visibility → Owner → Bool
sees Definition kind = false
sees Specification State = true
sees Specification Memory = false
sees Implementation State = false
sees Implementation Memory = true
sees Relation kind = true
sees Settled kind = false

-- whether `low` is seen
abbrev pub sees_low : Visibility → Bool
sees_low Definition = false
sees_low Specification = false
sees_low Implementation = false
sees_low Relation = true
sees_low Settled = true

-- a variable of the layer, where it is seen; it may be assigned to
abbrev pub seen_variable : Visibility → Option Variable → Option Local
seen_variable view None = None
seen_variable view (Some v) = if sees view v.kind then Some (record { shape = v.shape; assignable = true }) else None

-- what a plain name means
abbrev pub name_in : List ℕ → Scope → Option Local
name_in name scope = elim (look_up name scope.locals) [ Some l ↦ Some l | None ↦ seen_variable scope.view (look_up name scope.variables) ]

-- the shape of a state variable below
abbrev pub state_shape : Option Variable → Option (Option Shape)
state_shape None = None
state_shape (Some v) = elim v.kind [ State ↦ Some v.shape | Memory ↦ None ]

-- what `low.NAME` means
abbrev pub low_in : List ℕ → Scope → Option (Option Shape)
low_in name scope = if sees_low scope.view then state_shape (look_up name scope.low) else None

-- the name is a variable of the layer, seen or not, or is in scope already
abbrev pub is_taken : List ℕ → Scope → Bool
is_taken name scope = has name scope.variables || has name scope.locals

-- with one more name, unless it is taken
abbrev pub with_local : List ℕ → Option Shape → Bool → Scope → Scope
with_local name shape assignable scope =
    if has name scope.variables then scope
    else record scope { locals = added name (record { shape = shape; assignable = assignable }) scope.locals }

-- with another view
abbrev pub seen_as : Visibility → Scope → Scope
seen_as view scope = record scope { view = view }
