-- Runs over terms on a disk that power cuts, both ways.
use Rattle.std.proofs.Common.{◌≡◌, ◌==◌, ◌≤◌, ◌+◌, ◌*◌, ℕ, Bool, true, false, List, [], ◌∷◌}
use Rattle.std.proofs.Common.{◌++◌, length, Option, Some, None, reverse, refl, sym, ap, ◌∙◌, subst, arith}
use Rattle.std.specs.Prelude.{is_some}
use Rattle.ygg_base.specs.declared.geometry.DiskKind.{DiskKind}
use Rattle.ygg_base.specs.declared.geometry.DiskKind.TheVariants.{Sync, Async}
use Rattle.ygg_syntax.specs.declared.grammar.BlockKind.TheVariants.{Impl}
use Rattle.ygg_syntax.specs.declared.tree.Declared.{Declared}
use Rattle.ygg_syntax.specs.declared.tree.Def.{Def}
use Rattle.ygg_syntax.specs.declared.tree.Layer.{Layer}
use Rattle.ygg_syntax.specs.declared.tree.Block.{Block}
use Rattle.ygg_syntax.specs.declared.tree.DiskText.{DiskText}
use Rattle.ygg_sym_laws.specs.ygg_type_rules.TypeErrors.{none}
use Rattle.ygg_sym_laws.specs.ygg_type_rules.Definitions.{definitions_errors}
use Rattle.ygg_sym_laws.specs.ygg_type_rules.Files.{disk_errors, disk_operations}
use Rattle.ygg_sym_laws.specs.ygg_disk.Disk as disk
use Rattle.ygg_sym_laws.specs.ygg_disk.Kinds.{model_of}
use Rattle.ygg_sym_laws.specs.ygg_meaning.Environments.{Env}
use Rattle.ygg_sym_laws.specs.ygg_meaning.Meaning.{Functions, functions_of}
use Rattle.ygg_sym_laws.specs.ygg_meaning.Progress.{Question, Choice, Call}
use Rattle.ygg_sym_laws.specs.ygg_meaning.Machine.{Picks, State, on, based}
use Rattle.ygg_sym_laws.specs.ygg_meaning.Layer.{ClosedLayer, BlockFalls, eval_of}
use Rattle.ygg_sym_laws.specs.ygg_meaning.Obligations.{Halt}
use Rattle.ygg_sym_laws.specs.ygg_meaning.DiskMachine.{DiskMachine, disk_call, tables_in}
use Rattle.ygg_sym_laws.specs.ygg_meaning.Refines.{OnDisk}
use Rattle.ygg_sym_laws.specs.ygg_meaning.Stack.{tables_of}
use Rattle.ygg_sym_laws.specs.ygg_meaning_laws.Machines.{IsSized}
use Rattle.ygg_sym_laws.specs.ygg_rules.declared.rule.RuleKind.{RuleKind}
use Rattle.ygg_sym_laws.specs.ygg_bank_proofs_Meaning.{fits_fewer}
use Rattle.ygg_sym_laws.specs.ygg_bank_proofs_Widths.{extends_self}
use Rattle.ygg_sym_laws.specs.ygg_bank.Inputs.{InputsBelow}
use Rattle.ygg_sym_laws.specs.ygg_bank.Makes.{Out}
use Rattle.ygg_sym_laws.specs.ygg_bank.Nodes.{Extends}
use Rattle.ygg_sym_laws.specs.ygg_bank.Values.{Inputs, Values, Fits}
use Rattle.ygg_sym_laws.specs.ygg_bank.declared.node.Node.{Node}
use Rattle.ygg_sym_laws.specs.ygg_shape_words_proofs_Keeps.{grows_stays, inputs_stay}
use Rattle.ygg_sym_laws.specs.ygg_shape_cells.declared.terms.SymValue.{SymValue}
use Rattle.ygg_sym_laws.specs.ygg_meaning_laws.Direct.{Reached, Within, question_space}
use Rattle.ygg_sym_laws.specs.ygg_meaning_laws.Acts.{Fell, next_of, falls_in}
use Rattle.ygg_sym_laws.specs.ygg_meaning_laws.Places.{by_place, calling}
use Rattle.ygg_sym_laws.specs.ygg_meaning_laws.DiskActs.{kind_falls, state_in, disk_drops, disk_acts}
use Rattle.ygg_sym_laws.specs.ygg_meaning_laws.RunPlaces.{disk_space, placed_run, base_at, asked_in, base_of, cut_by, falls_by_place}
use Rattle.ygg_sym_laws.proofs.of_ygg_meaning_laws.FallPlacing.{falls_by_place_on_disk}
use Rattle.ygg_sym_laws.specs.ygg_meaning_laws_proofs_Order.{within_later, block_follows}
use Rattle.ygg_sym_laws.specs.ygg_meaning_laws_proofs_Placing.{taken_self}
use Rattle.ygg_sym_laws.specs.ygg_meaning_laws_proofs_Rooms.{room_is}
use Rattle.ygg_sym_laws.specs.ygg_meaning_laws_proofs_RunPlacing.{disk_tidy}
use Rattle.ygg_sym_laws.proofs.of_ygg_meaning_laws.DirectTyped.{direct_on_disk}
use Rattle.ygg_sym_laws.specs.ygg_sym_runs.Names.{sym_bind}
use Rattle.ygg_sym_laws.specs.ygg_sym_runs.Exprs.{sym_functions}
use Rattle.ygg_sym_laws.specs.ygg_sym_runs.ExpressionMeaning.{Grows, worths}
use Rattle.ygg_sym_laws.specs.ygg_sym_runs_proofs_Keeps.{functions_keep}
use Rattle.ygg_sym_laws.specs.Meaning.{is_set}
use Rattle.ygg_sym_laws.specs.Lows.{low_worth}
use Rattle.ygg_sym_laws.specs.Disks.{sym_disk}
use Rattle.ygg_sym_laws.specs.Stops.{first_stop, stop_at}
use Rattle.ygg_sym_laws.specs.StopTerms.{SymFallen}
use Rattle.ygg_sym_laws.specs.Wholes.{picks_from}
use Rattle.ygg_sym_laws.specs.Cuts.{disk_stops}
use Rattle.ygg_sym_laws.specs.Laws.{picked_by, state_worth}
use Rattle.ygg_sym_laws.proofs.Placed.{bits_of, same_picks, placed_are}
use Rattle.ygg_sym_laws.proofs.FallsOnDisk.{FallOnDisk, fall_on_disk}
use Rattle.ygg_sym_laws.proofs.SameStops.{first_stop_same}
use Rattle.ygg_sym_laws.proofs.Stopping.{found, base_same}
use Rattle.ygg_sym_laws.proofs.Specs.{bound_worth, low_shaped}
use Rattle.ygg_sym_laws.proofs.DiskKeeps.{input_grows}
use Rattle.ygg_sym_laws.proofs.MadeInputs.{disk_below, disk_grow, terms_below}
use Rattle.ygg_sym_laws.proofs.StopKeeps.{fallen_keeps, disk_stops_keep, disk_asked_one, disk_stops_below}
use Rattle.ygg_sym_laws.specs.Typed.{BlockTyped}
use Rattle.ygg_sym_laws.specs.Means.{Values3, Begins, AreWorth, WorthFall, FallBits, AreFallBits, FallsTo, FallMeans, cut_run}
use Rattle.ygg_sym_laws.specs.DiskLaws.{DiskFalls}
use Rattle.ygg_sym_laws.proofs.DiskBegun.{on_disk, room, typed, Begun, begun, typed_block, stands, typed_on}

one_place : (q : Question) → 1 ≤ question_space disk_space q
one_place Choice = omega arith
one_place (Call f xs) = omega arith

-- a failure of power looks at one pick
kind_one : (past : Bool) (kind : DiskKind) (s : (model_of kind).State) (call : disk.Call) (picks : Picks) →
    (kind_falls past kind s call picks).to ≡ (kind_falls past kind s call (next_of past picks ∷ [])).to
kind_one past Sync s (disk.Read at) picks = refl
kind_one past Sync s (disk.Write at row) picks = refl
kind_one past Sync s disk.Flush picks = refl
kind_one past Async s (disk.Read at) picks = refl
kind_one past Async s (disk.Write at row) picks = refl
kind_one past Async s disk.Flush picks = refl

cut_one : (past : Bool) (d : DiskText) (picks : Picks) (q : Question) (s : State Env) →
    cut_by (disk_acts past d) picks q s ≡ cut_by (disk_acts past d) (next_of past picks ∷ []) q s
cut_one past d picks Choice s = refl
cut_one past d picks (Call f xs) s = dropped (disk_call f xs)
  where
    dropped : (call : Option disk.Call) → (disk_drops past d s call picks).base ≡ (disk_drops past d s call (next_of past picks ∷ [])).base
    dropped None = refl
    dropped (Some call) = ap (tables_in d.kind) (kind_one past d.kind (state_in past d.kind s.base) call picks)

-- the first stop, if there is one
record Stopped (m : Option Halt) : Type 0 where
  stop : Halt
  is : m ≡ Some stop

stopped_of : (m : Option Halt) → is_some m ≡ true → Stopped m
stopped_of None e = absurd (cc)
stopped_of (Some h) e = record { stop = h; is = refl }

left_is : (a b : Env) → Some a ≡ Some b → a ≡ b
left_is a b e = cc

module _ (kinds : List RuleKind) (defs : List Def) (d : DiskText) (functions : Functions) (layer : Layer) (b : Block) (vars args : List Declared)
    (t : BlockTyped defs (on_disk d functions layer) Impl (disk_operations d) b vars args) (sound : none (definitions_errors defs [] []) ≡ true)
    (right : none (disk_errors d) ≡ true) (same : functions ≡ functions_of defs) where
  abbrev L : ClosedLayer
  L = on_disk d functions layer

  fall_grows : (first stop last : ℕ) (x : Values3) → Grows (cut_run kinds defs (OnDisk d) L b vars args first stop last x)
  fall_grows first stop last x nodes =
      let terms = sym_functions kinds (reverse defs) in
      let stays = grows_stays kinds nodes in
      fallen_keeps kinds (Extends nodes) stays terms (functions_keep kinds (Extends nodes) stays (reverse defs)) (sym_disk kinds d.kind first) (room b)
      (disk_grow kinds d.kind first (room b) nodes) (disk_stops kinds d.kind stop last)
      (disk_stops_keep kinds (Extends nodes) stays d.kind stop last (2 * room b + 1) (λ n l. input_grows kinds (stop + n) nodes) (input_grows kinds last nodes))
      disk_asked_one (room b) b (sym_bind vars x.vars) (sym_bind args x.args) x.low x.low (omega arith) (omega arith) nodes (extends_self nodes)

  fall_below : (first stop last next : ℕ) (x : Values3) (nodes : List Node) → InputsBelow next nodes → first + room b ≤ next →
      stop + (2 * room b + 1) ≤ next → last + 1 ≤ next → InputsBelow next (cut_run kinds defs (OnDisk d) L b vars args first stop last x nodes).nodes
  fall_below first stop last next x nodes p l m n =
      fallen_keeps kinds (InputsBelow next) (inputs_stay kinds next) (sym_functions kinds (reverse defs)) (terms_below kinds defs next)
      (sym_disk kinds d.kind first) (room b) (disk_below kinds d.kind first (room b) next l) (disk_stops kinds d.kind stop last)
      (disk_stops_below kinds d.kind stop last (2 * room b + 1) next m n) disk_asked_one (room b) b (sym_bind vars x.vars) (sym_bind args x.args) x.low x.low
      (omega arith) (omega arith) nodes p

  -- a run on the disk by place
  abbrev placed : Env → Env → Env → Picks → Reached (State Env)
  placed memory given low picks = placed_run disk_space (disk_acts false d) L b given (on memory (based low)) picks

  -- what is left of such a run that stops
  abbrev left_by_place : Env → Env → Env → Halt → Picks → Picks → Option Env
  left_by_place memory given low stop picks last = falls_by_place disk_space (disk_acts false d) L b given (on memory (based low)) stop picks last

  -- each question of the block has a place of its own
  placed_within : (memory given low : Env) (picks : Picks) → Within (question_space disk_space) 0 (placed memory given low picks).events (room b)
  placed_within memory given low picks =
      let machine = by_place (calling (disk_acts false d)) picks in
      let g = block_follows (eval_of L) disk_space machine b.statements 0 (memory ++ given) (based low) in
      let top = room_is disk_space (eval_of L) machine b in
      within_later (question_space disk_space) 0 0 (placed memory given low picks).events _ (room b) (omega arith) (omega (arith, top)) g.within

  -- the picks and the stops of a run by place that power cuts
  record PlacedFall (memory given low : Env) (taken : Picks) (fallen : Env) (halt : Halt) : Type 0 where
    bits : FallBits kinds defs (OnDisk d) L b vars args
    stops : falls_in (disk_acts false d) L b given (on memory (based low)) halt (taken ++ []) ≡ Some (record { base = fallen; notes = taken; left = [] }) →
        first_stop bits.stop_bits (placed memory given low (picks_from bits.run_bits 0 (room b))).events (room b) ≡ Some halt
    leaves : falls_in (disk_acts false d) L b given (on memory (based low)) halt (taken ++ []) ≡ Some (record { base = fallen; notes = taken; left = [] }) →
        left_by_place memory given low halt (picks_from bits.run_bits 0 (room b)) (bits.last_bits 0 ∷ []) ≡ Some fallen

  placed_fall_of : (memory given low : Env) (taken : Picks) (fallen : Env) (halt : Halt) → PlacedFall memory given low taken fallen halt
  placed_fall_of memory given low taken fallen halt =
      let F = disk_acts false d in
      let start = on memory (based low) in
      let p = (falls_by_place_on_disk false d L b given start).place halt (taken ++ []) in
      let run = placed memory given low p.0 in
      let stop = λ (k : ℕ). k == stop_at run.events (room b) halt.within halt.event in
      let to_bits = placed_are false disk_space F (disk_tidy false d) L b given start p.0 in
      let cut = cut_by F p.1 in
      let lose = λ (s : State Env). (F.loses s p.1).base in
      let one = next_of false p.1 ∷ [] in
      record {
        bits = record { run_bits = bits_of false p.0; stop_bits = stop; last_bits = λ i. next_of false p.1 };
        stops = λ e.
            let left : left_by_place memory given low halt p.0 p.1 ≡ Some fallen = p.2 ∙ ap (λ (f : Option (Fell Env Bool)). base_of f) e in
            ap (λ (r : Reached (State Env)). first_stop stop r.events (room b)) (sym to_bits)
            ∙ found cut lose (question_space disk_space) one_place run.events run.to 0 (room b) halt.within halt.event fallen
            (placed_within memory given low p.0) left;
        leaves = λ e.
            let left : left_by_place memory given low halt p.0 p.1 ≡ Some fallen = p.2 ∙ ap (λ (f : Option (Fell Env Bool)). base_of f) e in
            ap (λ (r : Reached (State Env)). base_at (cut_by F one) (λ s. (F.loses s one).base) halt.within (asked_in r.events) halt.event r.to) (sym to_bits)
            ∙ sym (base_same cut (cut_by F one) lose (λ s. (F.loses s one).base) (cut_one false d p.1) (λ s. refl) halt.within (asked_in run.events)
            halt.event run.to)
            ∙ left;
      }

  module _ (inputs : Inputs) (v : Values) (first stop last : ℕ) (x : Values3) (nodes : List Node)
      (begins : Begins kinds defs (OnDisk d) L b vars args nodes x)
      (h : Fits inputs v (cut_run kinds defs (OnDisk d) L b vars args first stop last x nodes).nodes)
    where
      abbrev out : Out (SymFallen (List SymValue))
      out = cut_run kinds defs (OnDisk d) L b vars args first stop last x nodes

      begun_here : Begun kinds defs d functions layer b vars args t sound right same inputs v x
      begun_here =
          begun kinds defs d functions layer b vars args t sound right same inputs v x nodes begins
          (fits_fewer inputs v nodes out.nodes (fall_grows first stop last x nodes) h)

      fall_here : FallOnDisk kinds defs d L b (typed kinds defs d functions layer b vars args t sound right same) sound right same
          inputs v false first stop last
          (sym_bind vars x.vars) (sym_bind args x.args) x.low out.nodes out.value
      fall_here =
          fall_on_disk kinds defs d L b (typed kinds defs d functions layer b vars args t sound right same) sound right same inputs
          v false (sym_bind vars x.vars)
          (sym_bind args x.args) x.low first stop last nodes (low_shaped inputs v kinds vars x.vars nodes begins.vars_are)
          (low_shaped inputs v kinds args x.args nodes begins.args_are) begins.low_are h begun_here.agreed

      fall_sound : is_set v out.value.reached ≡ true → WorthFall kinds defs (OnDisk d) L b vars args v x out.value
      fall_sound set =
          let f = fall_here.fall_is in
          let s = stopped_of _ (sym f.reached ∙ set) in
          let r = f.run s.stop s.is in
          let low = low_worth v (tables_of d) x.low in
          let fallen = low_worth v (tables_of d) out.value.fallen in
          record {
            taken = r.1;
            run =
                subst (λ e. BlockFalls L (DiskMachine d) b (low_worth v args x.args) (on e (based low)) r.1 fallen) (bound_worth inputs v kinds vars x.vars)
                (subst (λ e. BlockFalls L (DiskMachine d) b e (state_worth v (sym_bind vars x.vars) low) r.1 fallen) (bound_worth inputs v kinds args x.args)
                r.3.run);
          }

      fall_back : (memory given low : Env) (taken : Picks) (fallen : Env) (run : BlockFalls L (DiskMachine d) b given (on memory (based low)) taken fallen) →
          let halt : Halt = record { within = run.run.within; event = length run.run.calls } in (p : PlacedFall memory given low taken fallen halt) →
          AreWorth kinds defs (OnDisk d) L b vars args v x memory given low → AreFallBits kinds defs (OnDisk d) L b vars args inputs first stop last p.bits →
          FallsTo kinds defs (OnDisk d) L b vars args v fallen out.value
      fall_back memory given low taken fallen run p worth are =
          let F = disk_acts false d in
          let halt : Halt = record { within = run.run.within; event = length run.run.calls } in
          let at = stands kinds defs d functions layer b vars args t sound right same inputs v x memory given low begun_here worth in
          let sized : IsSized d (based low) = record { tables = low; is = refl; sized = at.sized } in
          let block = typed_block kinds defs d functions layer b vars args t sound right same memory given at.good in
          let direct = direct_on_disk false d L b given memory (based low) right block sized in
          let did = (direct.1 halt (taken ++ []) [] fallen taken).0
          (record { run = run; within = refl; event = refl; took = taken_self false taken [] }) in
          let f = fall_here.fall_is in
          let bits = picked_by inputs first in
          let set = picked_by inputs stop in
          let places = picks_from bits 0 (room b) in
          let listed = picks_from p.bits.run_bits 0 (room b) in
          let picks : places ≡ listed = same_picks bits p.bits.run_bits 0 (room b) (λ k l m. are.run_is k (omega (arith, m))) in
          let names = worths v (sym_bind vars x.vars) in
          let given_names = worths v (sym_bind args x.args) in
          let memory_is : names ≡ memory = bound_worth inputs v kinds vars x.vars ∙ worth.vars_is in
          let given_is : given_names ≡ given = bound_worth inputs v kinds args x.args ∙ worth.args_is in
          let base = low_worth v (tables_of d) x.low in
          let same_run : placed names given_names base places ≡ placed memory given low listed =
          ap (λ e. placed names e base places) given_is ∙ ap (λ e. placed e given base places) memory_is ∙ ap (λ e. placed memory given e places) worth.low_is
          ∙ ap (placed memory given low) picks in
          let there : first_stop set (placed names given_names base places).events (room b) ≡ Some halt =
          ap (λ (r : Reached (State Env)). first_stop set r.events (room b)) same_run
          ∙ first_stop_same (question_space disk_space) one_place set p.bits.stop_bits (placed memory given low listed).events 0 (room b)
          (placed_within memory given low listed) are.stop_is
          ∙ p.stops did in
          let zeroth : last ≡ last + 0 = omega arith in
          let pick : (inputs last == 1) ≡ p.bits.last_bits 0 = ap (λ n. inputs n == 1) zeroth ∙ are.last_is 0 (omega arith) in
          let fell : left_by_place names given_names base halt places ((inputs last == 1) ∷ []) ≡ Some fallen =
          ap (λ k. left_by_place names given_names base halt places (k ∷ [])) pick
          ∙ ap (λ e. left_by_place names e base halt places (p.bits.last_bits 0 ∷ [])) given_is
          ∙ ap (λ e. left_by_place e given base halt places (p.bits.last_bits 0 ∷ [])) memory_is
          ∙ ap (λ e. left_by_place memory given e halt places (p.bits.last_bits 0 ∷ [])) worth.low_is
          ∙ ap (λ ps. left_by_place memory given low halt ps (p.bits.last_bits 0 ∷ [])) picks ∙ p.leaves did in
          record {
            reached = f.reached ∙ ap (λ (m : Option Halt). is_some m) there;
            fallen_is = left_is (low_worth v (tables_of d) out.value.fallen) fallen (sym (f.by_place halt there) ∙ fell);
          }

  -- runs of the block on the disk that power cuts, both ways
  pub fall_means : FallMeans kinds defs (OnDisk d) L b vars args
  fall_means = record {
    after = λ inputs v first stop last x nodes begins h.
        let f = fall_here inputs v first stop last x nodes begins h in (f.wide, f.low_shaped);
    sound = λ inputs v first stop last x nodes begins h set. fall_sound inputs v first stop last x nodes begins h set;
    back = λ memory given low taken fallen run.
        let p = placed_fall_of memory given low taken fallen (record { within = run.run.within; event = length run.run.calls }) in (
          p.bits,
          λ inputs v first stop last x nodes begins h worth are.
              fall_back inputs v first stop last x nodes begins h memory given low taken fallen run p worth are,
        );
    grows = λ first stop last x nodes. fall_grows first stop last x nodes;
    inputs_below = λ first stop last next x nodes p l m n. fall_below first stop last next x nodes p l m n;
  }

pub disk_falls : DiskFalls
disk_falls kinds defs d L b vars args sound right same low typed =
    subst (λ ds. FallMeans kinds defs (OnDisk d) (record { functions = L.functions; layer = L.layer; low = ds }) b vars args) (sym low)
    (fall_means kinds defs d L.functions L.layer b vars args (typed_on defs d L b vars args typed) sound right same)
