-- Whole runs over terms on a disk, both ways.
use Rattle.std.proofs.Common.{◌≡◌, ℕ, true, false, Bool, List, [], ◌++◌, reverse, refl, sym, ap, ◌∙◌, subst, arith}
use Rattle.ygg_syntax.specs.declared.grammar.BlockKind.TheVariants.{Impl}
use Rattle.ygg_syntax.specs.declared.tree.Declared.{Declared}
use Rattle.ygg_syntax.specs.declared.tree.Def.{Def}
use Rattle.ygg_syntax.specs.declared.tree.Layer.{Layer}
use Rattle.ygg_syntax.specs.declared.tree.Block.{Block}
use Rattle.ygg_syntax.specs.declared.tree.DiskText.{DiskText}
use Rattle.ygg_sym_laws.specs.ygg_type_rules.TypeErrors.{none}
use Rattle.ygg_sym_laws.specs.ygg_type_rules.Definitions.{definitions_errors}
use Rattle.ygg_sym_laws.specs.ygg_type_rules.Files.{disk_errors, disk_operations}
use Rattle.ygg_sym_laws.specs.ygg_meaning.Environments.{Env}
use Rattle.ygg_sym_laws.specs.ygg_meaning.Meaning.{Functions, functions_of}
use Rattle.ygg_sym_laws.specs.ygg_meaning.Shapes.{env_fits}
use Rattle.ygg_sym_laws.specs.ygg_meaning.Progress.{Answer}
use Rattle.ygg_sym_laws.specs.ygg_meaning.Machine.{Picks, State, on, based}
use Rattle.ygg_sym_laws.specs.ygg_meaning.Layer.{ClosedLayer, BlockRuns}
use Rattle.ygg_sym_laws.specs.ygg_meaning.DiskMachine.{DiskMachine}
use Rattle.ygg_sym_laws.specs.ygg_meaning.Refines.{OnDisk}
use Rattle.ygg_sym_laws.specs.ygg_meaning.Stack.{tables_of}
use Rattle.ygg_sym_laws.specs.ygg_meaning_laws.Machines.{IsSized}
use Rattle.ygg_sym_laws.specs.ygg_rules.declared.rule.RuleKind.{RuleKind}
use Rattle.ygg_sym_laws.specs.ygg_bank_proofs_Meaning.{fits_fewer}
use Rattle.ygg_sym_laws.specs.ygg_bank_proofs_Widths.{extends_self}
use Rattle.ygg_sym_laws.specs.ygg_bank.Inputs.{InputsBelow}
use Rattle.ygg_sym_laws.specs.ygg_bank.Makes.{Out}
use Rattle.ygg_sym_laws.specs.ygg_bank.Nodes.{Extends}
use Rattle.ygg_sym_laws.specs.ygg_bank.Values.{Inputs, Values, Fits}
use Rattle.ygg_sym_laws.specs.ygg_bank.declared.node.Node.{Node}
use Rattle.ygg_sym_laws.specs.ygg_shape_words_proofs_Keeps.{grows_stays, inputs_stay}
use Rattle.ygg_sym_laws.specs.ygg_shape_cells.Terms.{worth}
use Rattle.ygg_sym_laws.specs.ygg_shape_cells.declared.terms.SymValue.{SymValue}
use Rattle.ygg_sym_laws.specs.ygg_meaning_laws.Acts.{Did, runs}
use Rattle.ygg_sym_laws.specs.ygg_meaning_laws.DiskActs.{disk_acts}
use Rattle.ygg_sym_laws.specs.ygg_meaning_laws.RunPlaces.{Finish, finish_of, disk_space, runs_by_place}
use Rattle.ygg_sym_laws.specs.ygg_meaning_laws_proofs_Placing.{taken_self}
use Rattle.ygg_sym_laws.specs.ygg_meaning_laws_proofs_RunPlacing.{disk_tidy, runs_by_place_on_disk}
use Rattle.ygg_sym_laws.proofs.of_ygg_meaning_laws.DirectTyped.{direct_on_disk}
use Rattle.ygg_sym_laws.specs.ygg_sym_runs.Names.{sym_bind}
use Rattle.ygg_sym_laws.specs.ygg_sym_runs.Exprs.{sym_functions}
use Rattle.ygg_sym_laws.specs.ygg_sym_runs.ExpressionMeaning.{Grows, worths}
use Rattle.ygg_sym_laws.specs.ygg_sym_runs_proofs_Keeps.{functions_keep}
use Rattle.ygg_sym_laws.specs.Meaning.{answer_worth}
use Rattle.ygg_sym_laws.specs.Lows.{low_worth}
use Rattle.ygg_sym_laws.specs.Disks.{sym_disk}
use Rattle.ygg_sym_laws.specs.Wholes.{SymFinish, picks_from}
use Rattle.ygg_sym_laws.specs.Laws.{picked_by, state_worth}
use Rattle.ygg_sym_laws.proofs.Placed.{bits_of, same_picks, finish_are}
use Rattle.ygg_sym_laws.proofs.OnDisk.{WholeOnDisk, whole_on_disk}
use Rattle.ygg_sym_laws.proofs.Specs.{bound_worth, low_shaped}
use Rattle.ygg_sym_laws.proofs.MadeInputs.{whole_keeps, disk_below, disk_grow, terms_below}
use Rattle.ygg_sym_laws.specs.Typed.{BlockTyped}
use Rattle.ygg_sym_laws.specs.Means.{AreBits, values_in, Values3, Begins, AreWorth, WholeAfter, WorthRun, EndsSo, WholeMeans, whole_run}
use Rattle.ygg_sym_laws.specs.DiskLaws.{DiskWhole}
use Rattle.ygg_sym_laws.proofs.DiskBegun.{on_disk, room, typed, Begun, begun, typed_block, stands, typed_on}
use Rattle.ygg_sym_laws.proofs.Begun.{NamedAgain, named_again}

module _ (kinds : List RuleKind) (defs : List Def) (d : DiskText) (functions : Functions) (layer : Layer) (b : Block) (vars args : List Declared)
    (t : BlockTyped defs (on_disk d functions layer) Impl (disk_operations d) b vars args) (sound : none (definitions_errors defs [] []) ≡ true)
    (right : none (disk_errors d) ≡ true) (same : functions ≡ functions_of defs) where
  abbrev L : ClosedLayer
  L = on_disk d functions layer

  whole_grows : (first : ℕ) (x : Values3) → Grows (whole_run kinds defs (OnDisk d) L b vars args first x)
  whole_grows first x nodes =
      let terms = sym_functions kinds (reverse defs) in
      whole_keeps kinds (Extends nodes) (grows_stays kinds nodes) terms (functions_keep kinds (Extends nodes) (grows_stays kinds nodes) (reverse defs)) (room b)
      (sym_disk kinds d.kind first) (disk_grow kinds d.kind first (room b) nodes) b (sym_bind vars x.vars) (sym_bind args x.args) x.low (omega arith) nodes
      (extends_self nodes)

  -- the picks of a run by place
  record PlacedRun (memory given low : Env) (taken : Picks) (answer : Answer) (to : State Env) : Type 0 where
    bits : ℕ → Bool
    leads : runs (disk_acts false d) L b given (on memory (based low)) (taken ++ []) ≡ record { answer = answer; to = to; notes = taken; left = [] } →
        runs_by_place disk_space (disk_acts false d) L b given (on memory (based low)) (picks_from bits 0 (room b)) ≡ record { answer = answer; to = to }

  placed_run_of : (memory given low : Env) (taken : Picks) (answer : Answer) (to : State Env) → PlacedRun memory given low taken answer to
  placed_run_of memory given low taken answer to =
      let F = disk_acts false d in
      let start = on memory (based low) in
      let p = (runs_by_place_on_disk false d L b given start).place (taken ++ []) in
      record {
        bits = bits_of false p.0;
        leads = λ e. sym (finish_are false disk_space F (disk_tidy false d) L b given start p.0) ∙ p.1 ∙ ap (λ (r : Did Env Bool). finish_of r) e;
      }

  module _ (inputs : Inputs) (v : Values) (first : ℕ) (x : Values3) (nodes : List Node) (begins : Begins kinds defs (OnDisk d) L b vars args nodes x)
      (h : Fits inputs v (whole_run kinds defs (OnDisk d) L b vars args first x nodes).nodes) where
    abbrev out : Out (SymFinish (List SymValue))
    out = whole_run kinds defs (OnDisk d) L b vars args first x nodes

    begun_here : Begun kinds defs d functions layer b vars args t sound right same inputs v x
    begun_here = begun kinds defs d functions layer b vars args t sound right same inputs v x nodes begins
        (fits_fewer inputs v nodes out.nodes (whole_grows first x nodes) h)

    whole_here : WholeOnDisk kinds defs d L b (typed kinds defs d functions layer b vars args t sound right same) sound right same
        inputs v false first (sym_bind vars x.vars) (sym_bind args x.args) x.low out.nodes out.value
    whole_here =
        whole_on_disk kinds defs d L b (typed kinds defs d functions layer b vars args t sound right same) sound right same inputs
        v false (sym_bind vars x.vars) (sym_bind args x.args) x.low first nodes
        (low_shaped inputs v kinds vars x.vars nodes begins.vars_are) (low_shaped inputs v kinds args x.args nodes begins.args_are) begins.low_are h
        begun_here.agreed

    again : NamedAgain inputs v vars out.value.vars out.nodes
    again =
        named_again inputs v kinds vars out.value.vars out.nodes h whole_here.vars_shaped
        (whole_here.vars_keep vars (subst (λ e. env_fits vars e ≡ true) (sym (bound_worth inputs v kinds vars x.vars)) begun_here.vars_fit))

    whole_after : WholeAfter kinds defs (OnDisk d) L b vars args t.shape v out.nodes out.value
    whole_after = record {
      named = again.named;
      vars_are = again.has;
      low_are = whole_here.low_shaped;
      answer_shaped = whole_here.answer_shaped;
      answer_returned = whole_here.returned;
    }

    -- where it ends
    abbrev ends : State Env
    ends = on (low_worth v vars (values_in out.value.vars)) (based (low_worth v (tables_of d) out.value.to))

    ends_is : state_worth v out.value.vars (low_worth v (tables_of d) out.value.to) ≡ ends
    ends_is = ap (λ e. on e (based (low_worth v (tables_of d) out.value.to))) (sym again.is)

    whole_sound : WorthRun kinds defs (OnDisk d) L b vars args v x out.value
    whole_sound =
        let r = whole_here.run_is in
        let low = low_worth v (tables_of d) x.low in
        let answer = answer_worth v out.value.answer in
        record {
          taken = r.taken;
          run =
              subst (λ (to : State Env). BlockRuns L (DiskMachine d) b (low_worth v args x.args) (on (low_worth v vars x.vars) (based low)) r.taken answer to)
              ends_is
              (subst (λ e. BlockRuns L (DiskMachine d) b (low_worth v args x.args) (on e (based low)) r.taken answer
              (state_worth v out.value.vars (low_worth v (tables_of d) out.value.to))) (bound_worth inputs v kinds vars x.vars)
              (subst (λ e. BlockRuns L (DiskMachine d) b e (state_worth v (sym_bind vars x.vars) low) r.taken answer
              (state_worth v out.value.vars (low_worth v (tables_of d) out.value.to))) (bound_worth inputs v kinds args x.args) r.run.run));
        }

    whole_back : (memory given low : Env) (taken : Picks) (answer : Answer) (to : State Env) →
        BlockRuns L (DiskMachine d) b given (on memory (based low)) taken answer to → (p : PlacedRun memory given low taken answer to) →
        AreWorth kinds defs (OnDisk d) L b vars args v x memory given low → AreBits inputs first (room b) p.bits →
        EndsSo kinds defs (OnDisk d) L b vars args v answer to out.value
    whole_back memory given low taken answer to run p worth are =
        let F = disk_acts false d in
        let at = stands kinds defs d functions layer b vars args t sound right same inputs v x memory given low begun_here worth in
        let sized : IsSized d (based low) = record { tables = low; is = refl; sized = at.sized } in
        let direct = direct_on_disk false d L b given memory (based low) right
        (typed_block kinds defs d functions layer b vars args t sound right same memory given at.good) sized in
        let did = (direct.0 (taken ++ []) [] answer to taken).0 (record { run = run; took = taken_self false taken [] }) in
        let bits = picked_by inputs first in
        let places = picks_from bits 0 (room b) in
        let picks : places ≡ picks_from p.bits 0 (room b) = same_picks bits p.bits 0 (room b) (λ k l m. are k (omega (arith, m))) in
        let names = worths v (sym_bind vars x.vars) in
        let memory_is : names ≡ memory = bound_worth inputs v kinds vars x.vars ∙ worth.vars_is in
        let given_is : worths v (sym_bind args x.args) ≡ given = bound_worth inputs v kinds args x.args ∙ worth.args_is in
        let base = low_worth v (tables_of d) x.low in
        let same_end : record { answer = answer_worth v out.value.answer; to = state_worth v out.value.vars (low_worth v (tables_of d) out.value.to) }
        ≡ (let f : Finish Env = record { answer = answer; to = to } in f) =
        sym whole_here.run_is.by_place
        ∙ ap (λ e. runs_by_place disk_space F L b e (on names (based base)) places) given_is
        ∙ ap (λ e. runs_by_place disk_space F L b given (on e (based base)) places) memory_is
        ∙ ap (λ e. runs_by_place disk_space F L b given (on memory (based e)) places) worth.low_is
        ∙ ap (runs_by_place disk_space F L b given (on memory (based low))) picks ∙ p.leads did in
        record {
          answer_is = ap (λ (f : Finish Env). f.answer) same_end;
          to_is = sym ends_is ∙ ap (λ (f : Finish Env). f.to) same_end;
        }

  -- whole runs of the block on the disk, both ways
  pub whole_means : WholeMeans kinds defs (OnDisk d) L b vars args t.shape
  whole_means = record {
    after = λ inputs v first x nodes begins h. whole_after inputs v first x nodes begins h;
    sound = λ inputs v first x nodes begins h. whole_sound inputs v first x nodes begins h;
    back = λ memory given low taken answer to run.
        let p = placed_run_of memory given low taken answer to in
        (p.bits, λ inputs v first x nodes begins h worth are. whole_back inputs v first x nodes begins h memory given low taken answer to run p worth are);
    grows = λ first x nodes. whole_grows first x nodes;
    inputs_below = λ first next x nodes p l.
        whole_keeps kinds (InputsBelow next) (inputs_stay kinds next) (sym_functions kinds (reverse defs)) (terms_below kinds defs next) (room b)
        (sym_disk kinds d.kind first) (disk_below kinds d.kind first (room b) next l) b (sym_bind vars x.vars) (sym_bind args x.args)
        x.low (omega arith) nodes p;
  }

pub disk_whole : DiskWhole
disk_whole kinds defs d L b vars args sound right same low typed =
    subst (λ ds. WholeMeans kinds defs (OnDisk d) (record { functions = L.functions; layer = L.layer; low = ds }) b vars args typed.shape) (sym low)
    (whole_means kinds defs d L.functions L.layer b vars args (typed_on defs d L b vars args typed) sound right same)
