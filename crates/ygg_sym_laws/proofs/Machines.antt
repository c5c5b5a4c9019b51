-- What a layer is specified over, over terms, means the machine by place with the picks that the environment names.
use Rattle.std.proofs.Common.{◌≡◌, ◌==◌, ◌+◌, ℕ, true, false, List, [], ◌∷◌, reverse, refl, sym, subst, arith}
use Rattle.ygg_syntax.specs.declared.grammar.BlockKind.TheVariants.{Impl}
use Rattle.ygg_syntax.specs.declared.tree.Def.{Def}
use Rattle.ygg_sym_laws.specs.ygg_type_rules.Names.{Named}
use Rattle.ygg_sym_laws.specs.ygg_type_rules.declared.scope.Signature.{Signature}
use Rattle.ygg_sym_laws.specs.ygg_type_rules.TypeErrors.{none}
use Rattle.ygg_sym_laws.specs.ygg_type_rules.Definitions.{definitions_errors, with_definitions}
use Rattle.ygg_sym_laws.specs.ygg_meaning.Environments.{Env}
use Rattle.ygg_sym_laws.specs.ygg_meaning.Machine.{State}
use Rattle.ygg_sym_laws.specs.ygg_meaning.Meaning.{Functions, functions_of}
use Rattle.ygg_sym_laws.specs.ygg_meaning.Refines.{Below, OnDisk, OnSpec}
use Rattle.ygg_sym_laws.specs.ygg_meaning_laws.DiskActs.{disk_acts}
use Rattle.ygg_sym_laws.specs.ygg_meaning_laws.RunPlaces.{cut_by}
use Rattle.ygg_sym_laws.specs.ygg_rules.declared.rule.RuleKind.{RuleKind}
use Rattle.ygg_sym_laws.specs.ygg_bank.Values.{Inputs, Values}
use Rattle.ygg_sym_laws.specs.ygg_shape_cells.declared.terms.SymValue.{SymValue}
use Rattle.ygg_sym_laws.specs.ygg_sym_runs_proofs_Definitions.{functions_mean}
use Rattle.ygg_sym_laws.specs.ygg_sym_runs_proofs_Grows.{FunctionsGrow, functions_grow}
use Rattle.ygg_sym_laws.specs.ygg_sym_runs_proofs_Values.{FunctionsMean}
use Rattle.ygg_sym_laws.specs.ygg_sym_runs.Exprs.{SymFunctions}
use Rattle.ygg_sym_laws.specs.ygg_sym_runs.Meaning.{Low, MachineMeans}
use Rattle.ygg_sym_laws.specs.ygg_sym_runs.Laws.{picked_by}
use Rattle.ygg_sym_laws.specs.ygg_sym_runs_proofs_Cuts.{disk_stops_mean}
use Rattle.ygg_sym_laws.specs.ygg_sym_runs_proofs_Disks.{disk_means}
use Rattle.ygg_sym_laws.specs.ygg_sym_runs_proofs_Lows.{low_of}
use Rattle.ygg_sym_laws.specs.ygg_sym_runs_proofs_SpecStops.{vars_of, spec_stops_mean}
use Rattle.ygg_sym_laws.proofs.of_ygg_sym_runs.StopMeaning.{StopsMean}
use Rattle.ygg_sym_laws.specs.Below.{lows_on, signatures_on, space_on, machine_on, stops_on}
use Rattle.ygg_sym_laws.specs.Means.{terms_of}
use Rattle.ygg_sym_laws.specs.Typed.{SpecTyped, BelowTyped}
use Rattle.ygg_sym_laws.proofs.SpecBegun.{falls_typed, laws}
use Rattle.ygg_sym_laws.specs.Fronts.{handle_on, cut_on, lose_on}

module _ (kinds : List RuleKind) (defs : List Def) where
  -- the file's definitions, as terms and by name
  abbrev pub terms : SymFunctions
  terms = terms_of kinds defs

  abbrev pub names : Named Signature
  names = with_definitions defs []

  -- the terms of definitions only add nodes
  abbrev pub growing : FunctionsGrow terms
  growing = functions_grow kinds (reverse defs)

  -- the values of the state below as states
  abbrev pub low_on : Below → Low (List SymValue) (State Env)
  low_on G = low_of (lows_on G)

  -- and as what power leaves
  abbrev pub left_on : Below → Low (List SymValue) Env
  left_on G = vars_of (lows_on G)

  -- over terms calls have the same places
  pub space_is : (G : Below) (first : ℕ) → (machine_on kinds terms G first).space ≡ space_on G
  space_is (OnDisk d) first = refl
  space_is (OnSpec m) first = refl

  module _ (sound : none (definitions_errors defs [] []) ≡ true) (inputs : Inputs) (v : Values) where
    -- the definitions mean what they are to mean
    pub meant : (functions : Functions) → functions ≡ functions_of defs → FunctionsMean inputs v kinds names functions terms growing
    meant functions same =
        subst (λ f. FunctionsMean inputs v kinds names f terms growing) (sym same) (functions_mean inputs v kinds defs sound)

    -- the machine
    pub machine_means : (G : Below) → BelowTyped defs G → (first : ℕ) →
        MachineMeans inputs v (low_on G) Impl (signatures_on G) (machine_on kinds terms G first) (handle_on G (picked_by inputs first))
    machine_means (OnDisk d) typed first = disk_means inputs v kinds d typed false first
    machine_means (OnSpec m) typed first = laws kinds defs sound m typed inputs v first

    -- and its stops
    pub stops_mean : (G : Below) → BelowTyped defs G → (stop last : ℕ) →
        StopsMean (low_on G) (left_on G) inputs v Impl (signatures_on G) (stops_on kinds terms G stop last) (cut_on G (picked_by inputs last))
        (lose_on G (picked_by inputs last)) (picked_by inputs stop)
    stops_mean (OnDisk d) typed stop last =
        let G = OnDisk d in
        let F = disk_acts false d in
        let e : last ≡ last + 0 = omega arith in
        subst (λ (n : ℕ). StopsMean (low_on G) (left_on G) inputs v Impl (signatures_on G) (stops_on kinds terms G stop last)
        (cut_by F ((inputs n == 1) ∷ [])) (λ s. (F.loses s ((inputs n == 1) ∷ [])).base) (picked_by inputs stop)) e
        (disk_stops_mean inputs v kinds d false typed stop last)
    stops_mean (OnSpec m) typed stop last =
        let t : SpecTyped defs m = typed in
        spec_stops_mean inputs v kinds names m terms growing (meant m.functions t.functions) (falls_typed kinds defs sound m typed)
        (signatures_on (OnSpec m)) t.sees stop last
