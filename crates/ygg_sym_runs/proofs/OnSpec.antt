-- Whole runs over terms on the specification of a layer.
use Rattle.std.proofs.Common.{◌≡◌, ◌≤◌, [], ◌++◌, take, length, reverse, refl, sym, ap, ◌∙◌, subst, arith}
use Rattle.std.proofs.lemmas.List.{map-append, length-map, length-append}
use Rattle.std.proofs.lemmas.List.Elements.{All-append}
use Rattle.ygg_syntax.specs.declared.grammar.BlockKind.TheVariants.{Impl}
use Rattle.ygg_sym_runs.specs.ygg_type_rules.Definitions.{with_definitions}
use Rattle.ygg_sym_runs.specs.ygg_meaning.Environments.{Name, Env}
use Rattle.ygg_sym_runs.specs.ygg_meaning.Progress.{Answer, answer_of}
use Rattle.ygg_sym_runs.specs.ygg_meaning.Machine.{State, on, based}
use Rattle.ygg_sym_runs.specs.ygg_meaning.Spec.{Spec}
use Rattle.ygg_sym_runs.specs.ygg_meaning_laws.Agrees.{Agrees}
use Rattle.ygg_sym_runs.specs.ygg_meaning_laws.Questions.{plain}
use Rattle.ygg_sym_runs.specs.ygg_meaning_laws.Blocks.{eval_with}
use Rattle.ygg_sym_runs.specs.ygg_meaning_laws.Machines.{IsStateOf}
use Rattle.ygg_sym_runs.specs.ygg_bank_proofs_Exist.{values_fit}
use Rattle.ygg_sym_runs.specs.ygg_bank_proofs_Meaning.{fits_fewer}
use Rattle.ygg_sym_runs.specs.ygg_bank.Values.{value_of}
use Rattle.ygg_sym_runs.specs.ygg_shape_cells.Terms.{worth}
use Rattle.ygg_sym_runs.specs.ygg_shape_cells.declared.terms.SymValue.{SymValue}
use Rattle.ygg_sym_runs.specs.ygg_meaning_laws.Direct.{direct_run, room_of}
use Rattle.ygg_sym_runs.specs.ygg_meaning_laws.Acts.{noted_picks, runs}
use Rattle.ygg_sym_runs.specs.ygg_meaning_laws.Places.{by_place, calling}
use Rattle.ygg_sym_runs.specs.ygg_meaning_laws.SpecActs.{spec_acts}
use Rattle.ygg_sym_runs.specs.ygg_meaning_laws.DirectLaws.{RunsOn, IsTypedBlock}
use Rattle.ygg_sym_runs.specs.ygg_meaning_laws.RunPlaces.{Finish, finish_of, spec_space, runs_by_place}
use Rattle.ygg_sym_runs.specs.ygg_meaning_laws_proofs_RunPlacing.{runs_by_place_on_spec}
use Rattle.ygg_sym_runs.proofs.of_ygg_meaning_laws.DirectTyped.{direct_on_spec}
use Rattle.ygg_sym_runs.specs.Exprs.{sym_functions}
use Rattle.ygg_sym_runs.specs.ExpressionMeaning.{worths}
use Rattle.ygg_sym_runs.proofs.Grows.{functions_grow}
use Rattle.ygg_sym_runs.proofs.Values.{FunctionsMean}
use Rattle.ygg_sym_runs.proofs.Definitions.{functions_mean}
use Rattle.ygg_sym_runs.specs.Meaning.{answer_worth}
use Rattle.ygg_sym_runs.proofs.Worths.{NameShaped}
use Rattle.ygg_sym_runs.proofs.Parts.{InScope}
use Rattle.ygg_sym_runs.specs.Lows.{low_worth}
use Rattle.ygg_sym_runs.specs.Specs.{input_pick, sym_spec}
use Rattle.ygg_sym_runs.specs.Wholes.{sym_whole, picks_from}
use Rattle.ygg_sym_runs.specs.Laws.{picked_by, state_worth, RunsOnSpec}
use Rattle.ygg_sym_runs.proofs.Lows.{low_of, low_fits}
use Rattle.ygg_sym_runs.proofs.Specs.{input_pick_means}
use Rattle.ygg_sym_runs.proofs.SpecMeans.{spec_at, spec_means}
use Rattle.ygg_sym_runs.proofs.Gluing.{draws, glued}
use Rattle.ygg_sym_runs.proofs.Placed.{same_run}
use Rattle.ygg_sym_runs.proofs.WholeRuns.{whole_grows, whole_gives, take_less}

abbrev finish : Answer → Env → State Env → Finish Env
finish a m s = record { answer = a; to = on m s }

finish_is : (a a' : Answer) (m m' : Env) (s s' : State Env) → a ≡ a' → m ≡ m' → s ≡ s' → finish a m s ≡ finish a' m' s'
finish_is a a' m m' s s' e f g = ap (λ x. finish x m s) e ∙ ap (λ x. finish a' x s) f ∙ ap (finish a' m') g

pub runs_on_spec : RunsOnSpec
runs_on_spec kinds defs m L operations b typed vars args from first nodes sound same_m same known sees blocks sv sa sl bank inputs fit agrees past =
    let terms = sym_functions kinds (reverse defs) in
    let grow = functions_grow kinds (reverse defs) in
    let pick = input_pick kinds first in
    let M = sym_spec kinds terms m pick in
    let out = sym_whole kinds terms M b vars args from nodes in
    let v = value_of inputs out.nodes in
    let h = values_fit inputs out.nodes bank.ordered fit in
    let ds = with_definitions defs [] in
    let mean : FunctionsMean inputs v kinds ds L.functions terms grow =
    subst (λ f. FunctionsMean inputs v kinds ds f terms grow) (sym same) (functions_mean inputs v kinds defs sound) in
    let low = low_of m.layer.state in
    let mean_m : FunctionsMean inputs v kinds ds m.functions terms grow =
    subst (λ f. FunctionsMean inputs v kinds ds f terms grow) (sym same_m) (functions_mean inputs v kinds defs sound) in
    let bits = picked_by inputs first in
    let machine = spec_at m bits in
    let laws = spec_means inputs v kinds ds m terms grow mean_m operations sees blocks pick bits (input_pick_means inputs v kinds first) in
    let wv = worths v vars in
    let wa = worths v args in
    let joined = map-append (λ (b : Name × SymValue). (b.0, worth v b.1)) vars args in
    let good : Agrees L.functions typed.scope (plain (wv ++ wa)) = subst (λ f. Agrees f typed.scope (plain (wv ++ wa))) (sym same) agrees in
    let inside : InScope inputs v kinds ds L.functions terms grow mean operations typed.scope (worths v (vars ++ args)) = record {
      lower_is = typed.lower_is;
      defs_is = typed.defs_is;
      agrees = subst (λ e. Agrees L.functions typed.scope (plain e)) (sym joined) good;
    } in
    let w = whole_gives inputs v kinds ds L.functions terms grow mean low Impl operations M machine laws b typed.shape typed.scope vars args from nodes
    inside typed.without_errors typed.kept (All-append (NameShaped nodes) vars args sv sa) sl h in
    let base = based (low_worth v m.layer.state from) in
    let F = spec_acts past m in
    let start = on wv base in
    let eval = eval_with L.functions in
    let space = spec_space m in
    let other = glued past m bits eval b (wv ++ wa) base in
    let g = other.other in
    let places = picks_from g 0 (room_of space b) in
    let run = direct_run eval space machine b (worths v (vars ++ args)) base in
    let bitwise = direct_run eval space machine b (wv ++ wa) base in
    let placed = direct_run eval space (by_place (calling F) places) b (wv ++ wa) base in
    let to_bits = ap (λ e. direct_run eval space machine b e base) joined in
    let s = same_run past space (calling F) (draws past m) g eval b (wv ++ wa) base in
    let env_is : placed.env ≡ run.env = s.env ∙ other.env_is ∙ ap (λ r. r.env) (sym to_bits) in
    let to_is : placed.to ≡ run.to = s.to ∙ other.to_is ∙ ap (λ r. r.to) (sym to_bits) in
    let a = w.answer in
    let count : length wv ≡ length vars = length-map vars (λ (b : Name × SymValue). (b.0, worth v b.1)) in
    let less : length wv ≤ length (wv ++ wa) = let e = length-append wv wa in omega (arith, e) in
    let kept : take (length wv) (take (length (wv ++ wa)) placed.env) ≡ worths v out.value.vars =
    take_less (length wv) (length (wv ++ wa)) placed.env less ∙ ap (take (length wv)) env_is ∙ ap (λ n. take n run.env) count ∙ sym w.vars in
    let end_is : runs_by_place space F L b wa start places
    ≡ record { answer = answer_worth v out.value.answer; to = state_worth v out.value.vars (low_worth v m.layer.state out.value.to) } =
    finish_is (answer_of eval b.answer placed.env) (answer_worth v out.value.answer) (take (length wv) (take (length (wv ++ wa)) placed.env))
    (worths v out.value.vars) placed.to (based (low_worth v m.layer.state out.value.to))
    (ap (answer_of eval b.answer) env_is ∙ sym a.is) kept (to_is ∙ sym w.to) in
    let front = (runs_by_place_on_spec past m L b wa start).front places in
    let did = runs F L b wa start front.0 in
    let ended : finish_of did ≡ record {
      answer = answer_worth v out.value.answer;
      to =
          state_worth v out.value.vars (low_worth v m.layer.state out.value.to);
    } =
    front.1 ∙ end_is in
    let block : IsTypedBlock L operations b (wv ++ wa) = record {
      scope = typed.scope;
      shape = typed.shape;
      lower_is = typed.lower_is;
      agrees = good;
      without_errors = typed.without_errors;
      kept = typed.kept;
    } in
    let fewer = fits_fewer inputs v nodes out.nodes
    (whole_grows inputs v kinds ds L.functions terms grow mean low Impl operations M machine laws b vars args from nodes) h in
    let sized : IsStateOf m base =
    record { vars = low_worth v m.layer.state from; is = refl; shaped = low_fits inputs v nodes m.layer.state from fewer sl } in
    let direct = direct_on_spec past m L operations b wa wv base known sees block sized in
    let so = direct.0 front.0 did.left did.answer did.to did.notes in
    let concrete = so.1 refl in
    record {
      places = places;
      by_place = end_is;
      picks = front.0;
      taken = did.notes;
      left = did.left;
      run = subst (λ (f : Finish Env). RunsOn noted_picks (Spec m) L b wa start past front.0 f.answer f.to did.notes did.left) ended concrete;
    }
