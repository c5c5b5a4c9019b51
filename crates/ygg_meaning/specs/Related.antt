-- What a layer's author states of its states.
use Rattle.std.specs.Prelude.{Bool, true, ◌&&◌, List, [], ◌∷◌, ◌++◌, map}
use Rattle.ygg_syntax.specs.declared.tree.Expr.{Expr}
use Rattle.ygg_meaning.specs.Environments.{Env}
use Rattle.ygg_meaning.specs.Meaning.{value_with, is_one}
use Rattle.ygg_meaning.specs.Shapes.{env_fits}
use Rattle.ygg_meaning.specs.Layer.{ClosedLayer}

-- whether an expression is 1 of a specification's variables, a memory, and the base below
abbrev pub holds : ClosedLayer → Env → Env → Env → Expr → Bool
holds L vars memory low e = is_one (value_with L.functions e (record { own = vars ++ memory; low = low }))

-- whether variables, memory and the base below have the declared names and shapes
abbrev pub shaped : ClosedLayer → Env → Env → Env → Bool
shaped L vars memory low = env_fits L.layer.state vars && env_fits L.layer.memory memory && env_fits L.low low

-- the layer's `relate` expression and its `always` expressions, in order
abbrev pub relations : ClosedLayer → List Expr
relations L = L.layer.relate ∷ L.layer.always

-- whether all of these are true
abbrev pub all_true : List Bool → Bool
all_true [] = true
all_true (b ∷ bs) = b && all_true bs

-- whether each of them holds, in order
abbrev pub relates : ClosedLayer → Env → Env → Env → List Bool
relates L vars memory low = map (holds L vars memory low) (relations L)

-- whether each of the layer's `settled` expressions holds of a base below, in order
abbrev pub settles : ClosedLayer → Env → List Bool
settles L low = map (holds L [] [] low) L.layer.settled

-- whether the layer's relation holds of a specification's variables, a memory, and the base below
abbrev pub related : ClosedLayer → Env → Env → Env → Bool
related L vars memory low = shaped L vars memory low && all_true (relates L vars memory low)

-- whether the base below is one that recovery may begin with
abbrev pub settled : ClosedLayer → Env → Bool
settled L low = env_fits L.low low && all_true (settles L low)
