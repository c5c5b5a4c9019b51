-- The schedule that an environment names violates the obligation exactly where its term is 0 in the environment.
use Rattle.std.specs.Prelude.{◌≡◌, ◌↔◌, ℕ, IsTrue, List, [], ◌∷◌}
use Rattle.ygg_syntax.specs.Files.{IsDerived}
use Rattle.ygg_syntax.specs.declared.tree.Def.{Def}
use Rattle.ygg_syntax.specs.declared.tree.File.{File}
use Rattle.ygg_oblige_laws.specs.ygg_type_rules.Files.{IsTyped}
use Rattle.ygg_oblige_laws.specs.ygg_meaning.Layer.{ClosedLayer}
use Rattle.ygg_oblige_laws.specs.ygg_meaning.Obligations.{Schedule}
use Rattle.ygg_oblige_laws.specs.ygg_meaning.Refines.{Below}
use Rattle.ygg_oblige_laws.specs.ygg_meaning.Violates.{shapes_fit}
use Rattle.ygg_oblige_laws.specs.ygg_meaning.Claims.{Claim, ClaimViolated, claims_at, claims_of}
use Rattle.ygg_oblige_laws.specs.ygg_meaning.Stack.{layers_of}
use Rattle.ygg_oblige_laws.specs.ygg_rules.declared.rule.RuleKind.{RuleKind}
use Rattle.ygg_oblige_laws.specs.ygg_bank.Inputs.{InputsBelow}
use Rattle.ygg_oblige_laws.specs.ygg_bank.Nodes.{IsBank, Extends}
use Rattle.ygg_oblige_laws.specs.ygg_bank.Values.{Inputs, InputsFit, value_of}
use Rattle.ygg_oblige_laws.specs.ygg_bank.declared.node.Id.{Id}
use Rattle.ygg_oblige_laws.specs.ygg_bank.declared.node.Node.{Node}
use Rattle.ygg_oblige_laws.specs.ygg_sym_laws.Means.{terms_of}
use Rattle.ygg_oblige_laws.specs.LayerTerms.{LayerTyped}
use Rattle.ygg_oblige_laws.specs.Terms.{layer_made, file_made}
use Rattle.ygg_oblige_laws.specs.Schedules.{layer_schedules, all_schedules}

-- the schedule violates the obligation exactly where its term is 0 in the environment; its values have the declared shapes in either case
pub record IsExact (inputs : Inputs) (nodes : List Node) (c : Claim) (term : Id) (x : Schedule) : Type 0 where
  pub shaped : IsTrue (shapes_fit c.layer c.obligation x)
  pub exact : (value_of inputs nodes term.0).bits ≡ 0 ↔ ClaimViolated c x

-- each schedule does of its obligation
abbrev pub AllExact : Inputs → List Node → List Claim → List Id → List Schedule → Type 0
AllExact inputs nodes [] [] [] = Unit {0}
AllExact inputs nodes (c ∷ cs) (t ∷ ts) (x ∷ xs) = IsExact inputs nodes c t x × AllExact inputs nodes cs ts xs
AllExact inputs nodes _ _ _ = ⊥

-- so it is for the obligations of a layer, in every bank that begins with their terms
abbrev pub LayerSchedules : Type 0
LayerSchedules =
    (kinds : List RuleKind) (defs : List Def) (G : Below) (L : ClosedLayer) (number : ℕ) (before final : List Node) → LayerTyped defs G L →
    InputsBelow number before → let out = layer_made kinds (terms_of kinds defs) L G number before in
    Extends out.nodes final → IsBank final → (inputs : Inputs) → InputsFit inputs final →
    AllExact inputs final (claims_at L G) out.value (layer_schedules G L inputs number)

-- and for the obligations of a file in the grammar without a type error, in the bank that their terms make
abbrev pub FileSchedules : Type 0
FileSchedules =
    (kinds : List RuleKind) (file : File) → ∥ IsDerived file ∥₁ → IsTyped file → let out = file_made kinds file [] in
    IsBank out.nodes → (inputs : Inputs) → InputsFit inputs out.nodes →
    AllExact inputs out.nodes (claims_of file) out.value (all_schedules kinds (terms_of kinds file.defs) file.disk inputs (layers_of file))
