-- Runs over terms on a disk that power cuts.
use Rattle.std.proofs.Common.{◌≡◌, ◌==◌, ℕ, Bool, true, List, [], ◌∷◌, ◌++◌, map, Option, Some, None, reverse, refl, sym, ap, ◌∙◌, subst}
use Rattle.std.specs.Prelude.{is_some}
use Rattle.std.proofs.lemmas.List.{map-append}
use Rattle.std.proofs.lemmas.List.Elements.{All-append}
use Rattle.ygg_syntax.specs.declared.grammar.BlockKind.TheVariants.{Impl}
use Rattle.ygg_syntax.specs.declared.tree.Def.{Def}
use Rattle.ygg_syntax.specs.declared.tree.Block.{Block}
use Rattle.ygg_syntax.specs.declared.tree.DiskText.{DiskText}
use Rattle.ygg_sym_runs.specs.ygg_type_rules.TypeErrors.{none}
use Rattle.ygg_sym_runs.specs.ygg_type_rules.Statements.{walked, return_errors}
use Rattle.ygg_sym_runs.specs.ygg_type_rules.Statements as rules
use Rattle.ygg_sym_runs.specs.ygg_type_rules.Definitions.{definitions_errors, with_definitions}
use Rattle.ygg_sym_runs.specs.ygg_meaning_laws_proofs_Tests.{left as first_of}
use Rattle.ygg_sym_runs.specs.ygg_type_rules.Files.{disk_errors, disk_operations}
use Rattle.ygg_sym_runs.specs.ygg_meaning.Environments.{Name, Env}
use Rattle.ygg_sym_runs.specs.ygg_meaning.Meaning.{functions_of}
use Rattle.ygg_sym_runs.specs.ygg_meaning.Layer.{ClosedLayer}
use Rattle.ygg_sym_runs.specs.ygg_meaning.Machine.{State, on, based}
use Rattle.ygg_sym_runs.specs.ygg_meaning.Obligations.{Halt}
use Rattle.ygg_sym_runs.specs.ygg_meaning.DiskMachine.{DiskMachine}
use Rattle.ygg_sym_runs.specs.ygg_meaning.Stack.{tables_of}
use Rattle.ygg_sym_runs.specs.ygg_meaning_laws.Agrees.{Agrees}
use Rattle.ygg_sym_runs.specs.ygg_meaning_laws.Questions.{plain}
use Rattle.ygg_sym_runs.specs.ygg_meaning_laws.Blocks.{eval_with}
use Rattle.ygg_sym_runs.specs.ygg_meaning_laws.Machines.{IsSized}
use Rattle.ygg_sym_runs.specs.ygg_rules.declared.rule.RuleKind.{RuleKind}
use Rattle.ygg_sym_runs.specs.ygg_bank_proofs_Exist.{values_fit}
use Rattle.ygg_sym_runs.specs.ygg_bank_proofs_Meaning.{fits_fewer}
use Rattle.ygg_sym_runs.specs.ygg_bank.Nodes.{HasWidth}
use Rattle.ygg_sym_runs.specs.ygg_bank.Values.{Inputs, Values, Fits, value_of}
use Rattle.ygg_sym_runs.specs.ygg_bank.declared.node.Node.{Node}
use Rattle.ygg_sym_runs.specs.ygg_shape_cells.Terms.{worth}
use Rattle.ygg_sym_runs.specs.ygg_shape_cells.declared.terms.SymValue.{SymValue}
use Rattle.ygg_sym_runs.specs.ygg_meaning_laws.Direct.{Reached, direct_run, room_of}
use Rattle.ygg_sym_runs.specs.ygg_meaning_laws.Acts.{Fell, noted_picks, falls_in}
use Rattle.ygg_sym_runs.specs.ygg_meaning_laws.Places.{by_place, calling}
use Rattle.ygg_sym_runs.specs.ygg_meaning_laws.DiskActs.{disk_acts}
use Rattle.ygg_sym_runs.specs.ygg_meaning_laws.DirectLaws.{FallsOn, IsTypedBlock}
use Rattle.ygg_sym_runs.specs.ygg_meaning_laws.RunPlaces.{disk_space, falls_by_place, base_at, asked_in, base_of}
use Rattle.ygg_sym_runs.proofs.of_ygg_meaning_laws.FallPlacing.{falls_by_place_on_disk}
use Rattle.ygg_sym_runs.specs.ygg_meaning_laws_proofs_RunPlacing.{calling_draws, disk_tidy}
use Rattle.ygg_sym_runs.proofs.of_ygg_meaning_laws.DirectTyped.{direct_on_disk}
use Rattle.ygg_sym_runs.specs.Exprs.{sym_functions}
use Rattle.ygg_sym_runs.specs.ExpressionMeaning.{EnvShaped, worths}
use Rattle.ygg_sym_runs.specs.Names.{SymEnv}
use Rattle.ygg_sym_runs.proofs.Grows.{functions_grow}
use Rattle.ygg_sym_runs.proofs.Values.{FunctionsMean}
use Rattle.ygg_sym_runs.proofs.Definitions.{functions_mean}
use Rattle.ygg_sym_runs.proofs.Worths.{NameShaped}
use Rattle.ygg_sym_runs.proofs.Parts.{InScope}
use Rattle.ygg_sym_runs.specs.Lows.{LowShaped, low_worth}
use Rattle.ygg_sym_runs.specs.Disks.{sym_disk}
use Rattle.ygg_sym_runs.specs.Wholes.{picks_from}
use Rattle.ygg_sym_runs.specs.Stops.{first_stop}
use Rattle.ygg_sym_runs.specs.StopTerms.{SymFallen, stop_whole}
use Rattle.ygg_sym_runs.specs.Cuts.{disk_stops}
use Rattle.ygg_sym_runs.specs.Laws.{IsTypedOver, FallIsOnDisk, picked_by, FallsOnDisk}
use Rattle.ygg_sym_runs.proofs.Lows.{low_of, low_fits}
use Rattle.ygg_sym_runs.proofs.Disks.{disk_at, disk_means}
use Rattle.ygg_sym_runs.proofs.Placed.{same_run}
use Rattle.ygg_sym_runs.proofs.Cuts.{left_of, cut, lose, disk_stops_mean}
use Rattle.ygg_sym_runs.proofs.Fallen.{fallen_grows, fallen_gives}

-- what a stop leaves that leaves something
pub record Left (f : Option (Fell Env Bool)) (base : Env) : Type 0 where
  pub fell : Fell Env Bool
  pub is : f ≡ Some fell
  pub same : fell.base ≡ base

pub left_of_run : (f : Option (Fell Env Bool)) (base : Env) → base_of f ≡ Some base → Left f base
left_of_run None base e = absurd (cc)
left_of_run (Some f) base e = let g : f.base ≡ base = cc in record { fell = f; is = refl; same = g }

module _ (kinds : List RuleKind) (defs : List Def) (d : DiskText) (L : ClosedLayer) (b : Block) (typed : IsTypedOver defs (disk_operations d) b)
    (sound : none (definitions_errors defs [] []) ≡ true) (right : none (disk_errors d) ≡ true) (same : L.functions ≡ functions_of defs) (inputs : Inputs)
    (v : Values) (past : Bool) where
  -- what a run over terms on a disk is worth that power cuts, and what it leaves
  pub record FallOnDisk (first stop last : ℕ) (vars args : SymEnv) (from : List SymValue) (nodes : List Node) (out : SymFallen (List SymValue)) : Type 0 where
    pub fall_is : FallIsOnDisk d L b v (picked_by inputs first) (picked_by inputs stop) (inputs last == 1) vars args from out past
    pub low_shaped : LowShaped nodes (tables_of d) out.fallen
    pub wide : HasWidth nodes out.reached 1

  -- so it is under all values that fit the nodes after it
  pub fall_on_disk : (vars args : SymEnv) (from : List SymValue) (first stop last : ℕ) (nodes : List Node) → EnvShaped nodes vars → EnvShaped nodes args →
      LowShaped nodes (tables_of d) from →
      let out = stop_whole kinds (sym_functions kinds (reverse defs)) (sym_disk kinds d.kind first) (disk_stops kinds d.kind stop last) (room_of disk_space b) b
      vars args from from nodes in
      Fits inputs v out.nodes → Agrees (functions_of defs) typed.scope (plain (worths v vars ++ worths v args)) →
      FallOnDisk first stop last vars args from out.nodes out.value
  fall_on_disk vars args from first stop last nodes sv sa sl h agrees =
      let terms = sym_functions kinds (reverse defs) in
      let grow = functions_grow kinds (reverse defs) in
      let M = sym_disk kinds d.kind first in
      let K = disk_stops kinds d.kind stop last in
      let room = room_of disk_space b in
      let out = stop_whole kinds terms M K room b vars args from from nodes in
      let ds = with_definitions defs [] in
      let mean : FunctionsMean inputs v kinds ds L.functions terms grow =
      subst (λ f. FunctionsMean inputs v kinds ds f terms grow) (sym same) (functions_mean inputs v kinds defs sound) in
      let low = low_of (tables_of d) in
      let bits = picked_by inputs first in
      let machine = disk_at past d bits in
      let laws = disk_means inputs v kinds d right past first in
      let fails = cut inputs v kinds d past right stop last in
      let loses = lose inputs v kinds d past right stop last in
      let set = picked_by inputs stop in
      let stops = disk_stops_mean inputs v kinds d past right stop last in
      let wv = worths v vars in
      let wa = worths v args in
      let joined = map-append (λ (b : Name × SymValue). (b.0, worth v b.1)) vars args in
      let good : Agrees L.functions typed.scope (plain (wv ++ wa)) = subst (λ f. Agrees f typed.scope (plain (wv ++ wa))) (sym same) agrees in
      let inside : InScope inputs v kinds ds L.functions terms grow mean (disk_operations d) typed.scope (worths v (vars ++ args)) = record {
        lower_is = typed.lower_is;
        defs_is = typed.defs_is;
        agrees = subst (λ e. Agrees L.functions typed.scope (plain e)) (sym joined) good;
      } in
      let walked_there = rules.in_order (map walked b.statements) typed.scope in
      let errors = first_of (none walked_there.type_errors) (none (return_errors b.answer typed.shape walked_there.scope)) typed.without_errors in
      let w = fallen_gives inputs v kinds ds L.functions terms grow mean low (left_of d) Impl (disk_operations d) M machine laws K fails loses set stops room b
      typed.scope vars args from from nodes inside errors typed.kept (All-append (NameShaped nodes) vars args sv sa) sl sl h in
      let base = based (low_worth v (tables_of d) from) in
      let F = disk_acts past d in
      let start = on wv base in
      let eval = eval_with L.functions in
      let places = picks_from bits 0 room in
      let run = direct_run eval disk_space machine b (worths v (vars ++ args)) base in
      let placed = direct_run eval disk_space (by_place (calling F) places) b (wv ++ wa) base in
      let to_bits = ap (λ e. direct_run eval disk_space machine b e base) joined in
      let s = same_run past disk_space (calling F) (calling_draws past disk_space F (disk_tidy past d)) bits eval b (wv ++ wa) base in
      let all : run ≡ placed = to_bits ∙ sym s.all in
      let failing = (inputs last == 1) ∷ [] in
      let left : (halt : Halt) → first_stop set placed.events room ≡ Some halt →
      falls_by_place disk_space F L b wa start halt places failing ≡ Some (low_worth v (tables_of d) out.value.fallen) =
      λ halt e.
      ap (λ (x : Reached (State Env)). base_at fails loses halt.within (asked_in x.events) halt.event x.to) (sym all)
      ∙ w.is halt (ap (λ (x : Reached (State Env)). first_stop set x.events room) all ∙ e) in
      let block : IsTypedBlock L (disk_operations d) b (wv ++ wa) = record {
        scope = typed.scope;
        shape = typed.shape;
        lower_is = typed.lower_is;
        agrees = good;
        without_errors = typed.without_errors;
        kept = typed.kept;
      } in
      let fewer = fits_fewer inputs v nodes out.nodes
      (fallen_grows inputs v kinds ds L.functions terms grow mean low (left_of d) Impl (disk_operations d) M machine laws K fails loses set stops room b
      vars args from from nodes) h in
      let sized : IsSized d base =
      record { tables = low_worth v (tables_of d) from; is = refl; sized = low_fits inputs v nodes (tables_of d) from fewer sl } in
      let direct = direct_on_disk past d L b wa wv base right block sized in
      record {
        fall_is = record {
          reached = w.reached ∙ ap (λ (x : Reached (State Env)). is_some (first_stop set x.events room)) all;
          by_place = left;
          run = λ halt e.
              let front = (falls_by_place_on_disk past d L b wa start).front halt places failing in
              let f = left_of_run (falls_in F L b wa start halt front.0) (low_worth v (tables_of d) out.value.fallen) (front.1 ∙ left halt e) in
              let fell = f.fell in
              let so = direct.1 halt front.0 fell.left fell.base fell.notes in (
                front.0,
                fell.notes,
                fell.left,
                subst (λ x. FallsOn noted_picks (DiskMachine d) L b wa start past halt front.0 x fell.notes fell.left) f.same (so.1 f.is),
              );
        };
        low_shaped = w.has;
        wide = w.wide;
      }

pub falls_on_disk : FallsOnDisk
falls_on_disk kinds defs d L b typed vars args from first stop last nodes sound right same sv sa sl bank inputs fit agrees past =
    let out = stop_whole kinds (sym_functions kinds (reverse defs)) (sym_disk kinds d.kind first) (disk_stops kinds d.kind stop last) (room_of disk_space b) b
    vars args from from nodes in
    let w = fall_on_disk kinds defs d L b typed sound right same inputs (value_of inputs out.nodes) past vars args from first stop last nodes sv sa sl
    (values_fit inputs out.nodes bank.ordered fit) agrees in
    w.fall_is
