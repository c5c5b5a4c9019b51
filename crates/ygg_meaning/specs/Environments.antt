-- Names with values.
use Rattle.std.specs.Prelude.{ℕ, Bool, true, false, ◌&&◌, if◌then◌else◌, List, [], ◌∷◌}
use Rattle.std.specs.Str.{bytes_eq}
use Rattle.ygg_value.specs.Words.{word}
use Rattle.ygg_value.specs.Values.{same_value}
use Rattle.ygg_value.specs.declared.row.Value.{Value}
use Rattle.ygg_value.specs.declared.row.Value.TheVariants.{Word}
use Rattle.ygg_syntax.specs.declared.tree.Declared.{Declared}

-- the bytes of a name
abbrev pub Name : Type 0
Name = List ℕ

-- values of names; the first of a name counts, and new names are put at the end
abbrev pub Env : Type 0
Env = List (Name × Value)

-- what stands where no typed file has a value
abbrev pub nothing : Value
nothing = Word (word 1 0)

-- the value of a name
abbrev pub look_up : Name → Env → Value
look_up name [] = nothing
look_up name (b ∷ env) = if bytes_eq b.0 name then b.1 else look_up name env

-- the first of a name gets a new value
abbrev pub assign : Env → Name → Value → Env
assign [] name v = []
assign (b ∷ env) name v = if bytes_eq b.0 name then (b.0, v) ∷ env else b ∷ assign env name v

-- the declared names with these values, in order
abbrev pub bind : List Declared → List Value → Env
bind [] vs = []
bind (p ∷ ps) [] = []
bind (p ∷ ps) (v ∷ vs) = (p.name.text, v) ∷ bind ps vs

-- whether names and values are the same, in the same order
abbrev pub same_env : Env → Env → Bool
same_env [] [] = true
same_env (a ∷ e) (b ∷ f) = bytes_eq a.0 b.0 && same_value a.1 b.1 && same_env e f
same_env _ _ = false
