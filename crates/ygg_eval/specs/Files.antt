-- The blocks of a typed file.
use Rattle.std.specs.Prelude.{◌≡◌, Bool, IsTrue, List}
use Rattle.ygg_value.specs.declared.row.Value.{Value}
use Rattle.ygg_syntax.specs.declared.grammar.BlockKind.TheVariants.{Impl}
use Rattle.ygg_syntax.specs.declared.tree.Block.{Block}
use Rattle.ygg_syntax.specs.declared.tree.Layer.{Layer}
use Rattle.ygg_syntax.specs.declared.tree.File.{File}
use Rattle.ygg_meaning_laws.specs.ygg_type_rules.Files.{IsTyped}
use Rattle.ygg_syntax.specs.Files.{IsDerived}
use Rattle.ygg_meaning_laws.specs.ygg_meaning.Environments.{Env, bind}
use Rattle.ygg_meaning_laws.specs.ygg_meaning.Shapes.{values_fit}
use Rattle.ygg_meaning_laws.specs.ygg_meaning.Machine.{State, on}
use Rattle.ygg_meaning_laws.specs.ygg_meaning.Refines.{Below, OnDisk, OnSpec}
use Rattle.ygg_meaning_laws.specs.Machines.{IsSized, IsStateOf}
use Rattle.ygg_eval.specs.declared.body.Body.{Body}
use Rattle.ygg_eval.specs.Bodies.{kind_of, variables_in, arguments_in, IsBlock}
use Rattle.ygg_eval.specs.Layers.{closed_at, below_at, machine_at}
use Rattle.ygg_meaning_laws.specs.Acts.{Acts, noted_picks}
use Rattle.ygg_meaning_laws.specs.DiskActs.{disk_acts}
use Rattle.ygg_meaning_laws.specs.SpecActs.{spec_acts}
use Rattle.ygg_meaning_laws.specs.DirectLaws.{RunsDirectly, FallsDirectly}

-- what a layer is specified over, as a function of picks
abbrev pub below_acts : Bool → Below → Acts Env Bool
below_acts past (OnDisk d) = disk_acts past d
below_acts past (OnSpec L) = spec_acts past L

-- its states: tables of the disk's size, or variables of the declared shapes
abbrev pub IsStateBelow : Below → State Env → Type 0
IsStateBelow (OnDisk d) s = IsSized d s
IsStateBelow (OnSpec L) s = IsStateOf L s

-- Each block of an implementation of a typed file runs and falls just so as its direct run, on what its layer is specified over.
abbrev pub DirectInFile : Type 0
DirectInFile =
    (past : Bool) (file : File) → ∥ IsDerived file ∥₁ → IsTyped file →
    (body : Body) (l : Layer) (b : Block) → IsBlock file body l b → kind_of body.part ≡ Impl →
    (variables args : List Value) → IsTrue (values_fit (variables_in l body.part) variables) → IsTrue (values_fit (arguments_in l body.part body.number) args) →
    (lower : State Env) → IsStateBelow (below_at file body.layer) lower →
    let from = on (bind (variables_in l body.part) variables) lower in
    let xs = bind (arguments_in l body.part body.number) args in
    let L = closed_at file body.layer l in
    RunsDirectly noted_picks (machine_at file body.layer) L b xs from past (below_acts past (below_at file body.layer))
    × FallsDirectly noted_picks (machine_at file body.layer) L b xs from past (below_acts past (below_at file body.layer))
