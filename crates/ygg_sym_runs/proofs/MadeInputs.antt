-- The inputs that runs over terms make: those of their places alone.
use Rattle.std.proofs.Common.{ℕ, suc, ◌+◌, ◌<◌, ◌≤◌, List, ◌++◌, reverse, Option, Some, None, arith}
use Rattle.ygg_syntax.specs.declared.tree.Block.{Block}
use Rattle.ygg_syntax.specs.declared.tree.Def.{Def}
use Rattle.ygg_syntax.specs.declared.tree.Expr.{Expr}
use Rattle.ygg_syntax.specs.declared.tree.Operation.{Operation}
use Rattle.ygg_base.specs.declared.geometry.DiskKind.{DiskKind}
use Rattle.ygg_sym_runs.specs.ygg_meaning.Layer.{ClosedLayer, operation_of}
use Rattle.ygg_sym_runs.specs.ygg_rules.declared.rule.RuleKind.{RuleKind}
use Rattle.ygg_sym_runs.specs.ygg_bank_proofs_Inputs.{made_inputs}
use Rattle.ygg_sym_runs.specs.ygg_bank.Inputs.{InputsBelow}
use Rattle.ygg_sym_runs.specs.ygg_bank.Makes.{Make}
use Rattle.ygg_sym_runs.specs.ygg_bank.Making.{made}
use Rattle.ygg_sym_runs.specs.ygg_bank.Nodes.{Extends}
use Rattle.ygg_sym_runs.specs.ygg_bank.declared.node.Id.{Id}
use Rattle.ygg_sym_runs.specs.ygg_bank.declared.node.Node.{Node}
use Rattle.ygg_sym_runs.specs.ygg_bank.declared.node.Node.TheVariants.{Input}
use Rattle.ygg_sym_runs.specs.ygg_shape_words_proofs_Keeps.{Stays, grows_stays, inputs_stay}
use Rattle.ygg_sym_runs.specs.ygg_shape_cells.Making.{merged}
use Rattle.ygg_sym_runs.specs.ygg_shape_cells.declared.terms.SymValue.{SymValue}
use Rattle.ygg_sym_runs.specs.ygg_shape_cells_proofs_Keeps.{each_two_keeps, merged_keeps}
use Rattle.ygg_sym_runs.specs.ygg_meaning_laws.Direct.{room_of}
use Rattle.ygg_sym_runs.specs.ygg_meaning_laws.RunPlaces.{disk_space, spec_space}
use Rattle.ygg_sym_runs.specs.Names.{SymEnv, sym_bind}
use Rattle.ygg_sym_runs.specs.Exprs.{SymFunctions, sym_functions}
use Rattle.ygg_sym_runs.proofs.Keeps.{Keeps, FunctionsKeep, functions_keep}
use Rattle.ygg_sym_runs.specs.Runs.{SymQuestion, Choice, Call, SymMachine, sym_run}
use Rattle.ygg_sym_runs.proofs.Below.{below_more, asked_space, MachineKeeps, plain_keeps, run_keeps}
use Rattle.ygg_sym_runs.specs.Lows.{merge_lows}
use Rattle.ygg_sym_runs.specs.Disks.{disk_handles, sym_disk}
use Rattle.ygg_sym_runs.specs.Specs.{Nothing, sym_chooser, input_pick, spec_asked, spec_handles, sym_spec}
use Rattle.ygg_sym_runs.specs.Wholes.{sym_returned, sym_whole}
use Rattle.ygg_sym_runs.specs.Laws.{InputsOnDisk, InputsOnSpec}
use Rattle.ygg_sym_runs.proofs.DiskKeeps.{disk_keeps, input_grows}

-- an input keeps the inputs below a number greater than its own
pub fresh_below : (kinds : List RuleKind) (number next : ℕ) → number < next → Keeps (InputsBelow next) (made kinds (Input number 1))
fresh_below kinds number next l nodes p = λ place i w e. let k = made_inputs kinds (Input number 1) nodes next p place i w e in omega (arith, l, k)

-- the terms of a file's definitions keep inputs below a number
pub terms_below : (kinds : List RuleKind) (defs : List Def) (next : ℕ) → FunctionsKeep (InputsBelow next) (sym_functions kinds (reverse defs))
terms_below kinds defs next = functions_keep kinds (InputsBelow next) (inputs_stay kinds next) (reverse defs)

module _ (kinds : List RuleKind) (P : List Node → Type 0) (stays : Stays kinds P) where
  pub lows_keep : (t : Id) (a b : List SymValue) → Keeps P (merge_lows kinds t a b)
  lows_keep t a b nodes p = each_two_keeps P (merged kinds t) (merged_keeps kinds P stays t) a b nodes p

  module _ {S : Type 0} (terms : SymFunctions) (keep : FunctionsKeep P terms) (top : ℕ) (M : SymMachine S) (laws : MachineKeeps P top M) where
    returned_keeps : (answer : Option Expr) (env : SymEnv) → Keeps P (sym_returned kinds terms M answer env)
    returned_keeps None env nodes p = p
    returned_keeps (Some e) env nodes p = plain_keeps P top kinds stays terms keep M laws e env nodes p

    pub whole_keeps : (b : Block) (vars args : SymEnv) (from : S) → room_of M.space b ≤ top → Keeps P (sym_whole kinds terms M b vars args from)
    whole_keeps b vars args from l nodes p =
        let z = sym_run kinds terms M b (vars ++ args) from nodes in
        returned_keeps b.answer z.value.env z.nodes (run_keeps P top kinds stays terms keep M laws b (vars ++ args) from l nodes p)

  -- what blocks of a specification run on, where what holds stays at the picks of the first places
  pub chooser_keeps : (pick : ℕ → Make Id) (top : ℕ) → ((i : ℕ) → i < top → Keeps P (pick i)) → MachineKeeps P top (sym_chooser pick)
  chooser_keeps pick top fresh = record {
    merge = λ t a b nodes p. p;
    handle = handled;
  }
    where
      handled : (i : ℕ) (q : SymQuestion) (s : Nothing) → i + asked_space (λ f. 1) q ≤ top → Keeps P ((sym_chooser pick).handle i q s)
      handled i Choice s l nodes p = fresh i (omega (arith, l)) nodes p
      handled i (Call f xs) s l nodes p = p

  -- and a specification
  pub spec_keeps : (terms : SymFunctions) (keep : FunctionsKeep P terms) (m : ClosedLayer) (pick : ℕ → Make Id) (top : ℕ) →
      ((i : ℕ) → i < top → Keeps P (pick i)) → MachineKeeps P top (sym_spec kinds terms m pick)
  spec_keeps terms keep m pick top fresh = record {
    merge = λ t a b nodes p. lows_keep t a b nodes p;
    handle = handled;
  }
    where
      asked : (i : ℕ) (o : Option Operation) (xs s : List SymValue) → i + suc (elim o [ None ↦ 0 | Some o ↦ room_of (λ f. 1) o.spec ]) ≤ top →
          Keeps P (spec_asked kinds terms m (λ k. pick (i + k)) o xs s)
      asked i None xs s l nodes p = p
      asked i (Some o) xs s l nodes p =
          let room = room_of (λ f. 1) o.spec in
          let here = λ (k : ℕ). pick (i + k) in
          whole_keeps terms keep room (sym_chooser here) (chooser_keeps here room (λ k m. fresh (i + k) (omega (arith, l, m)))) o.spec
          (sym_bind m.layer.state s) (sym_bind o.arguments xs) tt (omega arith) nodes p

      handled : (i : ℕ) (q : SymQuestion) (s : List SymValue) → i + asked_space (spec_space m) q ≤ top →
          Keeps P (spec_handles kinds terms m (λ k. pick (i + k)) q s)
      handled i Choice s l nodes p = p
      handled i (Call f xs) s l nodes p = asked i (operation_of m f) xs s l nodes p

  -- and a disk, where it stays at the inputs of the first places
  pub disk_machine_keeps : (kind : DiskKind) (first top : ℕ) → ((i : ℕ) → i < top → Keeps P (made kinds (Input (first + i) 1))) →
      MachineKeeps P top (sym_disk kinds kind first)
  disk_machine_keeps kind first top fresh = record {
    merge = λ t a b nodes p. lows_keep t a b nodes p;
    handle = handled;
  }
    where
      handled : (i : ℕ) (q : SymQuestion) (s : List SymValue) → i + asked_space disk_space q ≤ top → Keeps P (disk_handles kinds kind (first + i) q s)
      handled i Choice s m nodes p = p
      handled i (Call f xs) s m nodes p = disk_keeps kinds P stays (first + i) (fresh i (omega (arith, m))) kind (Call f xs) s nodes p

-- a disk makes the inputs of its places alone
pub disk_below : (kinds : List RuleKind) (kind : DiskKind) (first top next : ℕ) → first + top ≤ next →
    MachineKeeps (InputsBelow next) top (sym_disk kinds kind first)
disk_below kinds kind first top next l =
    disk_machine_keeps kinds (InputsBelow next) (inputs_stay kinds next) kind first top
    (λ i k. fresh_below kinds (first + i) next (omega (arith, l, k)))

-- and only adds nodes
pub disk_grow : (kinds : List RuleKind) (kind : DiskKind) (first top : ℕ) (nodes : List Node) →
    MachineKeeps (Extends nodes) top (sym_disk kinds kind first)
disk_grow kinds kind first top nodes =
    disk_machine_keeps kinds (Extends nodes) (grows_stays kinds nodes) kind first top (λ i k. input_grows kinds (first + i) nodes)

-- and so does a specification
pub spec_below : (kinds : List RuleKind) (terms : SymFunctions) (m : ClosedLayer) (first top next : ℕ) → FunctionsKeep (InputsBelow next) terms →
    first + top ≤ next → MachineKeeps (InputsBelow next) top (sym_spec kinds terms m (input_pick kinds first))
spec_below kinds terms m first top next keep l =
    spec_keeps kinds (InputsBelow next) (inputs_stay kinds next) terms keep m (input_pick kinds first) top
    (λ i k. fresh_below kinds (first + i) next (omega (arith, l, k)))

pub inputs_on_disk : InputsOnDisk
inputs_on_disk kinds defs kind b vars args from first nodes p =
    let room = room_of disk_space b in
    let next = first + room in
    whole_keeps kinds (InputsBelow next) (inputs_stay kinds next) (sym_functions kinds (reverse defs)) (terms_below kinds defs next) room
    (sym_disk kinds kind first) (disk_below kinds kind first room next (omega arith)) b vars args from (omega arith) nodes
    (below_more first next nodes (omega arith) p)

pub inputs_on_spec : InputsOnSpec
inputs_on_spec kinds defs m b vars args from first nodes p =
    let terms = sym_functions kinds (reverse defs) in
    let room = room_of (spec_space m) b in
    let next = first + room in
    let keep = terms_below kinds defs next in
    whole_keeps kinds (InputsBelow next) (inputs_stay kinds next) terms keep room (sym_spec kinds terms m (input_pick kinds first))
    (spec_below kinds terms m first room next keep (omega arith)) b vars args from (omega arith) nodes (below_more first next nodes (omega arith) p)
