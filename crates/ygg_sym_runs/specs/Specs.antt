-- The specification of a layer over terms: its `spec` blocks run over terms, and a choice takes the pick of its place.
use Rattle.std.specs.Prelude.{◌≡◌, ℕ, ◌+◌, true, false, ◌++◌, List, map, Option, Some, None}
use Rattle.ygg_value.specs.Words.{word, bit_of}
use Rattle.ygg_syntax.specs.declared.tree.Operation.{Operation}
use Rattle.ygg_value.specs.declared.row.Value.{Value}
use Rattle.ygg_value.specs.declared.shape.Shape.{Shape}
use Rattle.ygg_syntax.specs.declared.grammar.BlockKind.TheVariants.{Spec}
use Rattle.ygg_sym_runs.specs.ygg_type_rules.Names.{Named}
use Rattle.ygg_sym_runs.specs.ygg_type_rules.declared.scope.Signature.{Signature}
use Rattle.ygg_sym_runs.specs.ygg_type_rules.TypeErrors.{none}
use Rattle.ygg_sym_runs.specs.ygg_type_rules.Scopes.{Scope}
use Rattle.ygg_sym_runs.specs.ygg_type_rules.Statements.{block_errors}
use Rattle.ygg_sym_runs.specs.ygg_type_rules.Layers.{operation_signature}
use Rattle.ygg_sym_runs.specs.ygg_meaning.Environments.{Env, bind}
use Rattle.ygg_sym_runs.specs.ygg_meaning.Shapes.{values_fit, env_fits}
use Rattle.ygg_sym_runs.specs.ygg_meaning.Progress.{Answer}
use Rattle.ygg_sym_runs.specs.ygg_meaning_laws.Agrees.{Agrees}
use Rattle.ygg_sym_runs.specs.ygg_meaning_laws.Blocks.{is_returned}
use Rattle.ygg_sym_runs.specs.ygg_meaning_laws.Kinds.{keeps}
use Rattle.ygg_sym_runs.specs.ygg_meaning_laws.Questions.{plain, gives}
use Rattle.ygg_sym_runs.specs.ygg_meaning.Machine.{Picks}
use Rattle.ygg_sym_runs.specs.ygg_meaning.Layer.{ClosedLayer, operation_of}
use Rattle.ygg_sym_runs.specs.ygg_rules.declared.rule.RuleKind.{RuleKind}
use Rattle.ygg_sym_runs.specs.ygg_bank.Makes.{Make, pure, and_make}
use Rattle.ygg_sym_runs.specs.ygg_bank.Making.{made}
use Rattle.ygg_sym_runs.specs.ygg_bank.declared.node.Id.{Id}
use Rattle.ygg_sym_runs.specs.ygg_bank.declared.node.Node.TheVariants.{Input, Const}
use Rattle.ygg_sym_runs.specs.ygg_shape_cells.declared.terms.SymValue.{SymValue}
use Rattle.ygg_sym_runs.specs.ygg_shape_cells.declared.terms.SymValue.TheVariants.{Word}
use Rattle.ygg_sym_runs.specs.ygg_meaning_laws.Acts.{next_of}
use Rattle.ygg_sym_runs.specs.ygg_meaning_laws.Places.{left_after}
use Rattle.ygg_sym_runs.specs.ygg_meaning_laws.RunPlaces.{spec_space}
use Rattle.ygg_sym_runs.specs.Names.{sym_bind}
use Rattle.ygg_sym_runs.specs.Exprs.{SymFunctions}
use Rattle.ygg_sym_runs.specs.Runs.{SymQuestion, Choice, Call, SymHandled, SymMachine}
use Rattle.ygg_sym_runs.specs.Lows.{merge_lows}
use Rattle.ygg_sym_runs.specs.Disks.{Done, done}
use Rattle.ygg_sym_runs.specs.Wholes.{sym_whole}

-- a machine without states
abbrev pub Nothing : Type 0
Nothing = Unit {0}

-- what a block of a specification asks: a choice takes the pick of its place; calls, of which it has none, do nothing
abbrev pub chooses : (ℕ → Make Id) → ℕ → SymQuestion → Nothing → Make (SymHandled Nothing)
chooses pick i Choice s = and_make (pick i) (λ a. pure (record { answer = Some (Word a); to = s }))
chooses pick i (Call f xs) s = pure (record { answer = None; to = s })

-- what blocks of a specification run on
abbrev pub sym_chooser : (ℕ → Make Id) → SymMachine Nothing
sym_chooser pick = record { merge = λ t a b. pure a; space = λ f. 1; handle = chooses pick }

module _ (kinds : List RuleKind) where
  -- the picks as inputs, from a number on
  abbrev pub input_pick : ℕ → ℕ → Make Id
  input_pick first i = made kinds (Input (first + i) 1)

  -- the picks of a list, which goes on with 0
  abbrev pub given_pick : Picks → ℕ → Make Id
  given_pick picks i = made kinds (Const (word 1 (bit_of (next_of false (left_after i picks)))))

  module _ (terms : SymFunctions) (m : ClosedLayer) where
    -- an operation of the layer; what is none does nothing
    abbrev pub spec_asked : (ℕ → Make Id) → Option Operation → List SymValue → List SymValue → Make Done
    spec_asked pick None args vars = pure (done None vars)
    spec_asked pick (Some o) args vars =
        and_make (sym_whole kinds terms (sym_chooser pick) o.spec (sym_bind m.layer.state vars) (sym_bind o.arguments args) tt)
        (λ out. pure (done out.answer (map (λ b. b.1) out.vars)))

    -- what a specification does with a question; a choice, which no block of an implementation asks, does nothing
    abbrev pub spec_handles : (ℕ → Make Id) → SymQuestion → List SymValue → Make Done
    spec_handles pick Choice vars = pure (done None vars)
    spec_handles pick (Call name args) vars = spec_asked pick (operation_of m name) args vars

    -- the specification of a layer, with a pick for each place
    abbrev pub sym_spec : (ℕ → Make Id) → SymMachine (List SymValue)
    sym_spec pick = record { merge = merge_lows kinds; space = spec_space m; handle = λ i q vars. spec_handles (λ k. pick (i + k)) q vars }

-- a `spec` block without a type error, whose answer is that of the operation
pub record SpecBlock (defs : Named Signature) (m : ClosedLayer) (o : Operation) : Type 0 where
  pub scope : Scope
  pub shape : Option Shape
  pub defs_is : scope.defs ≡ defs
  pub without_errors : none (block_errors o.spec shape scope) ≡ true
  pub kept : keeps Spec o.spec ≡ true
  pub agrees : (vars : Env) (args : List Value) → env_fits m.layer.state vars ≡ true → values_fit o.arguments args ≡ true →
      Agrees m.functions scope (plain (vars ++ bind o.arguments args))
  pub answered : (a : Answer) → is_returned o.spec.answer shape a ≡ true → gives (operation_signature o) a ≡ true
