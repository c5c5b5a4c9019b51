-- Where an obligation's term is made: after the states that it begins with, in a list of nodes that a bank begins with.
use Rattle.std.proofs.Common.{◌≡◌, ◌≤◌, ◌+◌, ℕ, false, List, []}
use Rattle.std.specs.Prelude.{All}
use Rattle.std.proofs.lemmas.List.Elements.{All-nil}
use Rattle.ygg_syntax.specs.declared.tree.Def.{Def}
use Rattle.ygg_sym_laws.specs.ygg_meaning.Layer.{ClosedLayer}
use Rattle.ygg_sym_laws.specs.ygg_meaning.Obligations.{Schedule, Obligation}
use Rattle.ygg_sym_laws.specs.ygg_meaning.Refines.{Below, machine_below}
use Rattle.ygg_sym_laws.specs.ygg_meaning.Violates.{Violates}
use Rattle.ygg_sym_laws.specs.ygg_rules.declared.rule.RuleKind.{RuleKind}
use Rattle.ygg_sym_laws.specs.ygg_bank_proofs_Exist.{values_fit}
use Rattle.ygg_sym_laws.specs.ygg_bank_proofs_Meaning.{fits_fewer}
use Rattle.ygg_sym_laws.specs.ygg_bank_proofs_Widths.{wider, extends_both}
use Rattle.ygg_sym_laws.specs.ygg_bank.Inputs.{InputsBelow}
use Rattle.ygg_sym_laws.specs.ygg_bank.Makes.{Out}
use Rattle.ygg_sym_laws.specs.ygg_bank.Nodes.{HasWidth, IsBank, Extends}
use Rattle.ygg_sym_laws.specs.ygg_bank.Values.{Inputs, InputsFit, Values, Fits, value_of}
use Rattle.ygg_sym_laws.specs.ygg_bank.declared.node.Id.{Id}
use Rattle.ygg_sym_laws.specs.ygg_bank.declared.node.Node.{Node}
use Rattle.ygg_sym_laws.specs.ygg_sym_runs.Meaning.{is_set}
use Rattle.ygg_sym_laws.specs.Means.{terms_of}
use Rattle.ygg_oblige_laws.specs.Meaning.{IsTermOf}
use Rattle.ygg_oblige_laws.specs.TermStates.{Starting, words_in, state_words, starting}
use Rattle.ygg_oblige_laws.specs.Inputs.{Part, PartFits, glued, GluedMeans}
use Rattle.ygg_oblige_laws.specs.States.{given_stand, StartsSo, StatesStand}
use Rattle.ygg_oblige_laws.proofs.Digits.{unset_zero, zero_unset}
use Rattle.ygg_oblige_laws.proofs.Setting.{Ready, ready_wider}
use Rattle.ygg_oblige_laws.specs.Parts.{PartsMean}

-- the states are made after these nodes, with inputs from a number on; the term among others, with inputs from another on; all of them in one bank
pub record Frame (kinds : List RuleKind) (defs : List Def) (L : ClosedLayer) (number : ℕ) (before : List Node) (start : ℕ) (nodes final : List Node) :
    Type 0 where
  pub free : InputsBelow number before
  pub grows : Extends (starting kinds (terms_of kinds defs) L number before).nodes nodes
  pub below : InputsBelow start nodes
  pub room : number + state_words L ≤ start
  pub bank : IsBank final

-- an environment that fits a bank gives words for all places
pub fits_bank : (inputs : Inputs) (final : List Node) → IsBank final → InputsFit inputs final → Fits inputs (value_of inputs final) final
fits_bank inputs final b f = values_fit inputs final b.ordered f

-- there is an environment that fits a bank
pub nothing_fits : (glue : GluedMeans) (final : List Node) → IsBank final → InputsFit (glued []) final
nothing_fits glue final b = glue.fit final [] b.ordered (All-nil (PartFits final))

module _ (kinds : List RuleKind) (defs : List Def) (G : Below) (L : ClosedLayer) (parts : PartsMean kinds defs G L) (number : ℕ) (before : List Node)
    (start : ℕ) (nodes final : List Node) (frame : Frame kinds defs L number before start nodes final) where
  abbrev pub states : Out Starting
  states = starting kinds (terms_of kinds defs) L number before

  pub starts_so : (inputs : Inputs) (v : Values) → Extends nodes final → Fits inputs v final →
      StartsSo v L (given_stand inputs number L) states.nodes states.value
  starts_so inputs v g h = parts.states.starts inputs v number before frame.free
      (fits_fewer inputs v states.nodes final (extends_both states.nodes nodes final frame.grows g) h)

  pub ready_so : (inputs : Inputs) (v : Values) → Extends nodes final → Fits inputs v final → Ready L nodes states.value
  ready_so inputs v g h =
      let s = starts_so inputs v g h in
      ready_wider L states.value states.nodes nodes frame.grows
      (record { related = s.related.wide; from = s.from_shaped; settled = s.settled.wide; low = s.low_shaped })

  pub stand_so : Extends nodes final → StatesStand number L final
  stand_so g =
      let s = parts.states.stand number before in
      let e = extends_both states.nodes nodes final frame.grows g in
      record {
        vars = parts.fresh.stay number L.layer.state states.nodes final e s.vars;
        memory = parts.fresh.stay (number + words_in L.layer.state) L.layer.memory states.nodes final e s.memory;
        low = parts.fresh.stay (number + words_in L.layer.state + words_in L.layer.memory) L.low states.nodes final e s.low;
      }

-- parts of an environment that fit a bank and in which the term is not 1
abbrev pub Unsets : List Node → Id → Type 0
Unsets final term = (ps : List Part) × All (PartFits final) ps × ((v : Values) → Fits (glued ps) v final → is_set v term ≡ false)

-- The term of an obligation, where in each environment it is a digit, where it is not 1 only if some schedule violates the obligation, and where each
-- schedule that does gives an environment in which it is not 1.
pub term_is : (L : ClosedLayer) (G : Below) (o : Obligation) (glue : GluedMeans) (new final : List Node) (term : Id) → IsBank final → Extends new final →
    ((inputs : Inputs) (v : Values) → Fits inputs v final → HasWidth new term 1) →
    ((inputs : Inputs) (v : Values) → Fits inputs v final → is_set v term ≡ false → (x : Schedule) × Violates L (machine_below G) o x) →
    ((x : Schedule) → Violates L (machine_below G) o x → Unsets final term) →
    IsTermOf final (record { layer = L; below = G; obligation = o }) term
term_is L G o glue new final term bank g wide shows shown = record {
  wide = there;
  shows = λ r. shows r.inputs (value_of r.inputs final) (fits_bank r.inputs final bank r.fit) (zero_unset (value_of r.inputs final) term r.is_zero);
  shown = λ x violates.
      let s = shown x violates in
      let inputs = glued s.0 in
      let fit = glue.fit final s.0 bank.ordered s.1 in
      let v = value_of inputs final in
      let h = fits_bank inputs final bank fit in
      record { inputs = inputs; fit = fit; is_zero = unset_zero inputs v final term h there (s.2 v h) };
}
  where
    there : HasWidth final term 1
    there =
        let fit = nothing_fits glue final bank in
        wider new final term 1 g (wide (glued []) (value_of (glued []) final) (fits_bank (glued []) final bank fit))
