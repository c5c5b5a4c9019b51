-- Whole runs over terms on a disk.
use Rattle.std.proofs.Common.{◌≡◌, ◌≤◌, ℕ, Bool, true, List, [], ◌++◌, take, length, reverse, refl, sym, ap, ◌∙◌, subst, arith}
use Rattle.std.proofs.lemmas.List.{map-append, length-map, length-append}
use Rattle.std.proofs.lemmas.List.Elements.{All-append}
use Rattle.ygg_syntax.specs.declared.grammar.BlockKind.TheVariants.{Impl}
use Rattle.ygg_syntax.specs.declared.tree.Declared.{Declared}
use Rattle.ygg_syntax.specs.declared.tree.Def.{Def}
use Rattle.ygg_syntax.specs.declared.tree.Block.{Block}
use Rattle.ygg_syntax.specs.declared.tree.DiskText.{DiskText}
use Rattle.ygg_sym_runs.specs.ygg_type_rules.TypeErrors.{none}
use Rattle.ygg_sym_runs.specs.ygg_type_rules.Definitions.{definitions_errors, with_definitions}
use Rattle.ygg_sym_runs.specs.ygg_type_rules.Files.{disk_errors, disk_operations}
use Rattle.ygg_sym_runs.specs.ygg_meaning.Environments.{Name, Env}
use Rattle.ygg_sym_runs.specs.ygg_meaning.Meaning.{functions_of}
use Rattle.ygg_sym_runs.specs.ygg_meaning.Shapes.{env_fits}
use Rattle.ygg_sym_runs.specs.ygg_meaning.Layer.{ClosedLayer}
use Rattle.ygg_sym_runs.specs.ygg_meaning.Progress.{Answer, answer_of}
use Rattle.ygg_sym_runs.specs.ygg_meaning.Machine.{State, on, based}
use Rattle.ygg_sym_runs.specs.ygg_meaning.DiskMachine.{DiskMachine}
use Rattle.ygg_sym_runs.specs.ygg_meaning.Stack.{tables_of}
use Rattle.ygg_sym_runs.specs.ygg_meaning_laws.Agrees.{Agrees}
use Rattle.ygg_sym_runs.specs.ygg_meaning_laws.Questions.{plain, Follows}
use Rattle.ygg_sym_runs.specs.ygg_meaning_laws.Blocks.{eval_with, is_returned}
use Rattle.ygg_sym_runs.specs.ygg_meaning_laws.Machines.{IsSized}
use Rattle.ygg_sym_runs.specs.ygg_meaning_laws_proofs_Following.{follows_front, fits_after}
use Rattle.ygg_sym_runs.specs.ygg_rules.declared.rule.RuleKind.{RuleKind}
use Rattle.ygg_sym_runs.specs.ygg_bank_proofs_Exist.{values_fit}
use Rattle.ygg_sym_runs.specs.ygg_bank_proofs_Meaning.{fits_fewer}
use Rattle.ygg_sym_runs.specs.ygg_bank.Values.{Inputs, Values, Fits, value_of}
use Rattle.ygg_sym_runs.specs.ygg_bank.declared.node.Node.{Node}
use Rattle.ygg_sym_runs.specs.ygg_shape_cells.Terms.{worth}
use Rattle.ygg_sym_runs.specs.ygg_shape_cells.declared.terms.SymValue.{SymValue}
use Rattle.ygg_sym_runs.specs.ygg_meaning_laws.Direct.{direct_run, room_of}
use Rattle.ygg_sym_runs.specs.ygg_meaning_laws.Acts.{noted_picks, runs}
use Rattle.ygg_sym_runs.specs.ygg_meaning_laws.Places.{by_place, calling}
use Rattle.ygg_sym_runs.specs.ygg_meaning_laws.DiskActs.{disk_acts}
use Rattle.ygg_sym_runs.specs.ygg_meaning_laws.DirectLaws.{RunsOn, IsTypedBlock}
use Rattle.ygg_sym_runs.specs.ygg_meaning_laws.RunPlaces.{Finish, finish_of, disk_space, runs_by_place}
use Rattle.ygg_sym_runs.specs.ygg_meaning_laws_proofs_RunPlacing.{calling_draws, disk_tidy, runs_by_place_on_disk}
use Rattle.ygg_sym_runs.proofs.of_ygg_meaning_laws.DirectTyped.{direct_on_disk}
use Rattle.ygg_sym_runs.specs.Exprs.{sym_functions}
use Rattle.ygg_sym_runs.specs.ExpressionMeaning.{EnvShaped, worths}
use Rattle.ygg_sym_runs.specs.Names.{SymEnv}
use Rattle.ygg_sym_runs.proofs.Grows.{functions_grow}
use Rattle.ygg_sym_runs.proofs.Values.{FunctionsMean}
use Rattle.ygg_sym_runs.proofs.Definitions.{functions_mean}
use Rattle.ygg_sym_runs.specs.Meaning.{AnswerShaped, answer_worth}
use Rattle.ygg_sym_runs.proofs.Worths.{NameShaped}
use Rattle.ygg_sym_runs.proofs.Parts.{InScope}
use Rattle.ygg_sym_runs.specs.Lows.{LowShaped, low_worth}
use Rattle.ygg_sym_runs.specs.Disks.{sym_disk}
use Rattle.ygg_sym_runs.specs.Wholes.{SymFinish, sym_whole, picks_from}
use Rattle.ygg_sym_runs.specs.Laws.{IsTypedOver, RunIsOnDisk, picked_by, state_worth, RunsOnDisk}
use Rattle.ygg_sym_runs.proofs.Lows.{low_of, low_fits}
use Rattle.ygg_sym_runs.proofs.Disks.{disk_at, disk_means}
use Rattle.ygg_sym_runs.proofs.Placed.{same_run}
use Rattle.ygg_sym_runs.proofs.WholeRuns.{whole_grows, whole_gives, take_less}

abbrev finish : Answer → Env → State Env → Finish Env
finish a m s = record { answer = a; to = on m s }

less_front : (a b : Env) → length a ≤ length (a ++ b)
less_front a b = let e = length-append a b in omega (arith, e)

finish_is : (a a' : Answer) (m m' : Env) (s s' : State Env) → a ≡ a' → m ≡ m' → s ≡ s' → finish a m s ≡ finish a' m' s'
finish_is a a' m m' s s' e f g = ap (λ x. finish x m s) e ∙ ap (λ x. finish a' x s) f ∙ ap (finish a' m') g

module _ (kinds : List RuleKind) (defs : List Def) (d : DiskText) (L : ClosedLayer) (b : Block) (typed : IsTypedOver defs (disk_operations d) b)
    (sound : none (definitions_errors defs [] []) ≡ true) (right : none (disk_errors d) ≡ true) (same : L.functions ≡ functions_of defs) (inputs : Inputs)
    (v : Values) (past : Bool) where
  -- what a whole run over terms on a disk is worth, and what it leaves
  pub record WholeOnDisk (first : ℕ) (vars args : SymEnv) (from : List SymValue) (nodes : List Node) (out : SymFinish (List SymValue)) : Type 0 where
    pub run_is : RunIsOnDisk d L b v (picked_by inputs first) vars args from out past
    pub answer_shaped : AnswerShaped nodes out.answer
    pub returned : is_returned b.answer typed.shape (answer_worth v out.answer) ≡ true
    pub vars_shaped : EnvShaped nodes out.vars
    pub vars_keep : (ds : List Declared) → env_fits ds (worths v vars) ≡ true → env_fits ds (worths v out.vars) ≡ true
    pub low_shaped : LowShaped nodes (tables_of d) out.to

  -- so it is under all values that fit the nodes after it
  pub whole_on_disk : (vars args : SymEnv) (from : List SymValue) (first : ℕ) (nodes : List Node) → EnvShaped nodes vars → EnvShaped nodes args →
      LowShaped nodes (tables_of d) from →
      let out = sym_whole kinds (sym_functions kinds (reverse defs)) (sym_disk kinds d.kind first) b vars args from nodes in
      Fits inputs v out.nodes → Agrees (functions_of defs) typed.scope (plain (worths v vars ++ worths v args)) →
      WholeOnDisk first vars args from out.nodes out.value
  whole_on_disk vars args from first nodes sv sa sl h agrees =
      let terms = sym_functions kinds (reverse defs) in
      let grow = functions_grow kinds (reverse defs) in
      let M = sym_disk kinds d.kind first in
      let out = sym_whole kinds terms M b vars args from nodes in
      let ds = with_definitions defs [] in
      let mean : FunctionsMean inputs v kinds ds L.functions terms grow =
      subst (λ f. FunctionsMean inputs v kinds ds f terms grow) (sym same) (functions_mean inputs v kinds defs sound) in
      let low = low_of (tables_of d) in
      let bits = picked_by inputs first in
      let machine = disk_at past d bits in
      let laws = disk_means inputs v kinds d right past first in
      let wv = worths v vars in
      let wa = worths v args in
      let joined : worths v (vars ++ args) ≡ wv ++ wa = map-append (λ (b : Name × SymValue). (b.0, worth v b.1)) vars args in
      let good : Agrees L.functions typed.scope (plain (wv ++ wa)) = subst (λ f. Agrees f typed.scope (plain (wv ++ wa))) (sym same) agrees in
      let inside : InScope inputs v kinds ds L.functions terms grow mean (disk_operations d) typed.scope (worths v (vars ++ args)) = record {
        lower_is = typed.lower_is;
        defs_is = typed.defs_is;
        agrees = subst (λ e. Agrees L.functions typed.scope (plain e)) (sym joined) good;
      } in
      let w = whole_gives inputs v kinds ds L.functions terms grow mean low Impl (disk_operations d) M machine laws b typed.shape
      typed.scope vars args from nodes
      inside typed.without_errors typed.kept (All-append (NameShaped nodes) vars args sv sa) sl h in
      let base = based (low_worth v (tables_of d) from) in
      let F = disk_acts past d in
      let start = on wv base in
      let eval = eval_with L.functions in
      let places = picks_from bits 0 (room_of disk_space b) in
      let run = direct_run eval disk_space machine b (worths v (vars ++ args)) base in
      let bitwise = direct_run eval disk_space machine b (wv ++ wa) base in
      let placed = direct_run eval disk_space (by_place (calling F) places) b (wv ++ wa) base in
      let to_bits : run ≡ bitwise = ap (λ e. direct_run eval disk_space machine b e base) joined in
      let s = same_run past disk_space (calling F) (calling_draws past disk_space F (disk_tidy past d)) bits eval b (wv ++ wa) base in
      let env_is : placed.env ≡ run.env = s.env ∙ ap (λ r. r.env) (sym to_bits) in
      let to_is : placed.to ≡ run.to = s.to ∙ ap (λ r. r.to) (sym to_bits) in
      let a = w.answer in
      let count : length wv ≡ length vars = length-map vars (λ (b : Name × SymValue). (b.0, worth v b.1)) in
      let less : length wv ≤ length (wv ++ wa) = less_front wv wa in
      let kept : take (length wv) (take (length (wv ++ wa)) placed.env) ≡ worths v out.value.vars =
      take_less (length wv) (length (wv ++ wa)) placed.env less ∙ ap (take (length wv)) env_is ∙ ap (λ n. take n run.env) count ∙ sym w.vars in
      let end_is : runs_by_place disk_space F L b wa start places
      ≡ record { answer = answer_worth v out.value.answer; to = state_worth v out.value.vars (low_worth v (tables_of d) out.value.to) } =
      finish_is (answer_of eval b.answer placed.env) (answer_worth v out.value.answer) (take (length wv) (take (length (wv ++ wa)) placed.env))
      (worths v out.value.vars) placed.to (based (low_worth v (tables_of d) out.value.to))
      (ap (answer_of eval b.answer) env_is ∙ sym a.is) kept (to_is ∙ sym w.to) in
      let front = (runs_by_place_on_disk past d L b wa start).front places in
      let did = runs F L b wa start front.0 in
      let ended : finish_of did ≡ record {
        answer = answer_worth v out.value.answer;
        to =
            state_worth v out.value.vars (low_worth v (tables_of d) out.value.to);
      } =
      front.1 ∙ end_is in
      let block : IsTypedBlock L (disk_operations d) b (wv ++ wa) = record {
        scope = typed.scope;
        shape = typed.shape;
        lower_is = typed.lower_is;
        agrees = good;
        without_errors = typed.without_errors;
        kept = typed.kept;
      } in
      let fewer = fits_fewer inputs v nodes out.nodes
      (whole_grows inputs v kinds ds L.functions terms grow mean low Impl (disk_operations d) M machine laws b vars args from nodes) h in
      let sized : IsSized d base =
      record { tables = low_worth v (tables_of d) from; is = refl; sized = low_fits inputs v nodes (tables_of d) from fewer sl } in
      let direct = direct_on_disk past d L b wa wv base right block sized in
      let so = direct.0 front.0 did.left did.answer did.to did.notes in
      let concrete = so.1 refl in
      let follows = follows_front wv wa run.env (subst (λ e. Follows e run.env) joined w.follows) in
      let vars_are : take (length wv) run.env ≡ worths v out.value.vars = ap (λ n. take n run.env) count ∙ sym w.vars in
      record {
        run_is = record {
          by_place = end_is;
          picks = front.0;
          taken = did.notes;
          left = did.left;
          run = subst (λ (f : Finish Env). RunsOn noted_picks (DiskMachine d) L b wa start past front.0 f.answer f.to did.notes did.left) ended concrete;
        };
        answer_shaped = a.shaped;
        returned = subst (λ y. is_returned b.answer typed.shape y ≡ true) (sym a.is) w.returned;
        vars_shaped = w.vars_shaped;
        vars_keep = λ ds fit. subst (λ e. env_fits ds e ≡ true) vars_are (fits_after ds wv run.env follows fit);
        low_shaped = w.has;
      }

pub runs_on_disk : RunsOnDisk
runs_on_disk kinds defs d L b typed vars args from first nodes sound right same sv sa sl bank inputs fit agrees past =
    let out = sym_whole kinds (sym_functions kinds (reverse defs)) (sym_disk kinds d.kind first) b vars args from nodes in
    let w = whole_on_disk kinds defs d L b typed sound right same inputs (value_of inputs out.nodes) past vars args from first nodes sv sa sl
    (values_fit inputs out.nodes bank.ordered fit) agrees in
    w.run_is
