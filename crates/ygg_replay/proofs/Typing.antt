-- What typing says of a layer of a file.
use Rattle.std.proofs.Common.{◌≡◌, ℕ, suc, true, List, [], ◌∷◌, slice_get, Some, length, refl, ap, ◌∙◌}
use Rattle.std.specs.List.{list_all}
use Rattle.std.proofs.lemmas.List.Elements.{All-nil, All-cons}
use Rattle.ygg_value.specs.Shapes.{IsShape, zero_of}
use Rattle.ygg_syntax.specs.declared.tree.Block.{Block}
use Rattle.ygg_syntax.specs.declared.tree.Declared.{Declared}
use Rattle.ygg_syntax.specs.declared.tree.Layer.{Layer}
use Rattle.ygg_syntax.specs.declared.tree.File.{File}
use Rattle.ygg_syntax.specs.Files.{IsDerivable}
use Rattle.ygg_sched.specs.ygg_syntax.Weights.{weights_of}
use Rattle.ygg_sched.specs.ygg_type_rules.TypeErrors.{none}
use Rattle.ygg_sched.specs.ygg_type_rules.Definitions.{with_definitions}
use Rattle.ygg_sched.specs.ygg_type_rules.Files.{type_errors_of}
use Rattle.ygg_sched.specs.ygg_type_proofs_Least.{is_empty}
use Rattle.ygg_sched.specs.ygg_meaning.Environments.{bind}
use Rattle.ygg_sched.specs.ygg_meaning.Meaning.{functions_of}
use Rattle.ygg_sched.specs.ygg_meaning.Shapes.{env_fits, shape_in, values_fit, zeros_of}
use Rattle.ygg_eval.specs.ygg_meaning_laws_proofs_Parameters.{type_is}
use Rattle.ygg_eval.specs.ygg_meaning_laws.Kinds.{keeps, layer_keeps}
use Rattle.ygg_eval.proofs.of_ygg_meaning_laws.Derived.{derivable_derived}
use Rattle.ygg_eval.specs.ygg_meaning_laws_proofs_Typed.{parts}
use Rattle.ygg_eval.proofs.of_ygg_meaning_laws.Views.{AllTyped, LayerVariables, zeros_fit}
use Rattle.ygg_eval.specs.declared.body.Body.{Body}
use Rattle.ygg_eval.specs.Bodies.{kind_of, IsBlock}
use Rattle.ygg_eval.proofs.Blocks.{blocks_kept, block_typing, layer_typing}
use Rattle.ygg_eval.proofs.Values.{bound_fits}
use Rattle.ygg_eval.specs.Zeros.{AreShapes, zero_values}

shapes_kept : (ds : List Declared) → AllTyped ds → AreShapes ds
shapes_kept [] t = All-nil (λ (d : Declared). IsShape (shape_in d.shape))
shapes_kept (d ∷ ds) (type, t) = All-cons (λ (d : Declared). IsShape (shape_in d.shape)) d ds (type_is d.shape type).limits (shapes_kept ds t)

-- zeros in order are the zeros of the names
pub bind_zeros : (ds : List Declared) → bind ds (zero_values ds) ≡ zeros_of ds
bind_zeros [] = refl
bind_zeros (d ∷ ds) = ap (λ rest. (d.name.text, zero_of (shape_in d.shape)) ∷ rest) (bind_zeros ds)

zeros_many : (ds : List Declared) → length (zero_values ds) ≡ length ds
zeros_many [] = refl
zeros_many (d ∷ ds) = ap suc (zeros_many ds)

pub zeros_shaped : (ds : List Declared) → AllTyped ds → values_fit ds (zero_values ds) ≡ true
zeros_shaped ds t = bound_fits ds (zero_values ds) (zeros_many ds) (ap (λ env. env_fits ds env) (bind_zeros ds) ∙ zeros_fit ds t)

module _ (file : File) (fine : none (type_errors_of file) ≡ true) (derivable : ∥ IsDerivable file ∥₁) where
  -- the blocks keep their kinds
  pub kept : list_all layer_keeps file.layers ≡ true
  kept = blocks_kept file (derivable_derived file derivable)

  variables : (place : ℕ) (l : Layer) → slice_get file.layers place ≡ Some l → LayerVariables l
  variables place l here =
      let at = layer_typing file kept (is_empty (type_errors_of file) fine) place l here in
      (parts (functions_of file.defs) (with_definitions file.defs []) at.below (weights_of file.defs) l at.typed).variables

  -- the shapes of a layer's variables keep the limits, and zeros of them fit
  pub state_shapes : (place : ℕ) (l : Layer) → slice_get file.layers place ≡ Some l → AreShapes l.state
  state_shapes place l here = shapes_kept l.state (variables place l here).state

  pub memory_shapes : (place : ℕ) (l : Layer) → slice_get file.layers place ≡ Some l → AreShapes l.memory
  memory_shapes place l here = shapes_kept l.memory (variables place l here).memory

  pub state_zeros : (place : ℕ) (l : Layer) → slice_get file.layers place ≡ Some l → values_fit l.state (zero_values l.state) ≡ true
  state_zeros place l here = zeros_shaped l.state (variables place l here).state

  pub memory_zeros : (place : ℕ) (l : Layer) → slice_get file.layers place ≡ Some l → values_fit l.memory (zero_values l.memory) ≡ true
  memory_zeros place l here = zeros_shaped l.memory (variables place l here).memory

  -- a block keeps its kind
  pub block_kept : (body : Body) (l : Layer) (b : Block) → IsBlock file body l b → keeps (kind_of body.part) b ≡ true
  block_kept body l b is = (block_typing file kept (is_empty (type_errors_of file) fine) body l b is).keeps
