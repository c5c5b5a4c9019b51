-- The terms of obligations mean them.
use Rattle.std.specs.Prelude.{ℕ, List, []}
use Rattle.ygg_syntax.specs.Files.{IsDerived}
use Rattle.ygg_syntax.specs.declared.tree.Def.{Def}
use Rattle.ygg_syntax.specs.declared.tree.File.{File}
use Rattle.ygg_sym_laws.specs.ygg_type_rules.Files.{IsTyped}
use Rattle.ygg_sym_laws.specs.ygg_meaning.Layer.{ClosedLayer}
use Rattle.ygg_sym_laws.specs.ygg_meaning.Refines.{Below}
use Rattle.ygg_sym_laws.specs.ygg_meaning.Claims.{claims_at}
use Rattle.ygg_sym_laws.specs.ygg_rules.declared.rule.RuleKind.{RuleKind}
use Rattle.ygg_sym_laws.specs.ygg_bank.Inputs.{InputsBelow}
use Rattle.ygg_sym_laws.specs.ygg_bank.Nodes.{IsBank, Extends}
use Rattle.ygg_sym_laws.specs.ygg_bank.declared.node.Node.{Node}
use Rattle.ygg_sym_laws.specs.Means.{terms_of}
use Rattle.ygg_oblige_laws.specs.LayerTerms.{LayerTyped}
use Rattle.ygg_oblige_laws.specs.Meaning.{AreTermsOf, AreTermsIn}
use Rattle.ygg_oblige_laws.specs.Terms.{layer_made, after_layer, file_made}

-- the terms of a layer's obligations, in every bank that begins with them
abbrev pub LayerTermsMean : Type 0
LayerTermsMean =
    (kinds : List RuleKind) (defs : List Def) (G : Below) (L : ClosedLayer) (number : ℕ) (before final : List Node) → LayerTyped defs G L →
    InputsBelow number before → let out = layer_made kinds (terms_of kinds defs) L G number before in
    Extends out.nodes final → IsBank final → AreTermsOf final (claims_at L G) out.value

-- they have the inputs of their numbers alone
abbrev pub LayerInputs : Type 0
LayerInputs =
    (kinds : List RuleKind) (defs : List Def) (G : Below) (L : ClosedLayer) (number : ℕ) (before : List Node) → LayerTyped defs G L →
    InputsBelow number before →
    InputsBelow (after_layer kinds (terms_of kinds defs) L G number) (layer_made kinds (terms_of kinds defs) L G number before).nodes

-- the terms of the obligations of a file in the grammar without a type error
abbrev pub FileTermsMean : Type 0
FileTermsMean =
    (kinds : List RuleKind) (file : File) → ∥ IsDerived file ∥₁ → IsTyped file → let out = file_made kinds file [] in
    IsBank out.nodes → AreTermsIn file out.nodes out.value
