-- Whole runs of blocks by place.
use Rattle.std.specs.Prelude.{◌≡◌, ℕ, IsTrue, List, ◌++◌, length, take, Option}
use Rattle.ygg_value.specs.declared.row.Value.{Value}
use Rattle.ygg_value.specs.declared.shape.Shape.{Shape}
use Rattle.ygg_syntax.specs.declared.tree.Block.{Block}
use Rattle.ygg_syntax.specs.declared.tree.File.{File}
use Rattle.ygg_syntax.specs.declared.tree.Layer.{Layer}
use Rattle.ygg_meaning_laws.specs.ygg_type_rules.TypeErrors.{none}
use Rattle.ygg_meaning_laws.specs.ygg_type_rules.Scopes.{Scope}
use Rattle.ygg_meaning_laws.specs.ygg_type_rules.Statements.{block_errors}
use Rattle.ygg_meaning_laws.specs.ygg_meaning.Environments.{Env, bind}
use Rattle.ygg_meaning_laws.specs.ygg_meaning.Progress.{Answer, answer_of}
use Rattle.ygg_meaning_laws.specs.ygg_meaning.Shapes.{values_fit}
use Rattle.ygg_meaning_laws.specs.Kinds.{keeps}
use Rattle.ygg_meaning_laws.specs.Direct.{Reached, direct_run}
use Rattle.ygg_eval.specs.Bodies.{IsBlock, arguments_in, kind_of, variables_in}
use Rattle.ygg_eval.specs.Layers.{signatures_at}
use Rattle.ygg_eval.specs.declared.body.Body.{Body}
use Rattle.ygg_eval.specs.Ready.{eval_in}
use Rattle.ygg_eval_places.specs.Machines.{PlaceMeaning}
use Rattle.ygg_eval_places.specs.Ready.{Fits}

module _ {S : Type 0} (M : PlaceMeaning S) (file : File) where
  -- a block without a type error in a scope that goes together with its names, which does what blocks on this machine may do
  pub record IsReady (number : ℕ) (b : Block) (env : Env) (s : M.Is) : Type 0 where
    pub scope : Scope
    pub shape : Option Shape
    pub fits : Fits M file number scope env s
    pub without_errors : IsTrue (none (block_errors b shape scope))
    pub keeps : IsTrue (keeps M.kind b)

  -- the machine is in order as its state is, and it is one on which blocks of the part are run
  pub record CanServe (body : Body) (s : M.Is) : Type 0 where
    pub kind : M.kind ≡ kind_of body.part
    pub lower : M.lower ≡ signatures_at file body.layer
    pub serves : M.Serves
    pub good : M.Good s

  -- the run of a block from variables, arguments and a state
  abbrev pub block_walk : Block → Env → Env → M.Is → Reached M.Is
  block_walk b vars given s = direct_run (eval_in file) M.space M.handle b (vars ++ given) s

  -- what a whole run of a block of a layer leaves: its answer, the values of its variables, which fit again, and the state, which is in order
  pub record Walked (body : Body) (l : Layer) (b : Block) (args values : List Value) (s : M.Is) (answer : Answer) (values' : List Value) (s' : M.Is) :
      Type 0 where
    pub answered : answer ≡ answer_of (eval_in file) b.answer
        (block_walk b (bind (variables_in l body.part) values) (bind (arguments_in l body.part body.number) args) s).env
    pub leaves : bind (variables_in l body.part) values' ≡ take (length (bind (variables_in l body.part) values))
        (block_walk b (bind (variables_in l body.part) values) (bind (arguments_in l body.part body.number) args) s).env
    pub fit : IsTrue (values_fit (variables_in l body.part) values')
    pub state : s' ≡ (block_walk b (bind (variables_in l body.part) values) (bind (arguments_in l body.part body.number) args) s).to
    pub good : M.Good s'

  -- so it is of the block that is meant
  abbrev pub BodyWalked : Body → List Value → List Value → M.Is → Answer → List Value → M.Is → Type 0
  BodyWalked body args values s answer values' s' = (l : Layer) (b : Block) → IsBlock file body l b → Walked body l b args values s answer values' s'
