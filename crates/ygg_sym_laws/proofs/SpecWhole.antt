-- Whole runs over terms on a specification, both ways.
use Rattle.std.proofs.Common.{◌≡◌, ℕ, Bool, true, List, [], ◌++◌, take, length, sym, ap, ◌∙◌, subst, arith}
use Rattle.std.proofs.lemmas.List.{length-map}
use Rattle.ygg_value.specs.Words.{word}
use Rattle.ygg_syntax.specs.declared.grammar.BlockKind.TheVariants.{Impl}
use Rattle.ygg_syntax.specs.declared.tree.Declared.{Declared}
use Rattle.ygg_syntax.specs.declared.tree.Def.{Def}
use Rattle.ygg_syntax.specs.declared.tree.Layer.{Layer}
use Rattle.ygg_syntax.specs.declared.tree.Block.{Block}
use Rattle.ygg_sym_laws.specs.ygg_type_rules.TypeErrors.{none}
use Rattle.ygg_sym_laws.specs.ygg_type_rules.Definitions.{definitions_errors}
use Rattle.ygg_sym_laws.specs.ygg_meaning.Environments.{Name, Env}
use Rattle.ygg_sym_laws.specs.ygg_meaning.Meaning.{Functions, functions_of}
use Rattle.ygg_sym_laws.specs.ygg_meaning.Shapes.{env_fits}
use Rattle.ygg_sym_laws.specs.ygg_meaning.Progress.{Answer, answer_of}
use Rattle.ygg_sym_laws.specs.ygg_meaning.Machine.{State, on, based}
use Rattle.ygg_sym_laws.specs.ygg_meaning.Layer.{ClosedLayer, BlockRuns}
use Rattle.ygg_sym_laws.specs.ygg_meaning.Refines.{OnSpec}
use Rattle.ygg_sym_laws.specs.ygg_meaning.Spec.{Spec}
use Rattle.ygg_sym_laws.specs.ygg_meaning_laws.Blocks.{eval_with, is_returned}
use Rattle.ygg_sym_laws.specs.ygg_meaning_laws.Questions.{Follows}
use Rattle.ygg_sym_laws.specs.ygg_meaning_laws_proofs_Following.{follows_front, fits_after}
use Rattle.ygg_sym_laws.specs.ygg_rules.declared.rule.RuleKind.{RuleKind}
use Rattle.ygg_sym_laws.specs.ygg_bank_proofs_Meaning.{fits_fewer}
use Rattle.ygg_sym_laws.specs.ygg_bank.Inputs.{InputsBelow}
use Rattle.ygg_sym_laws.specs.ygg_bank.Makes.{Out}
use Rattle.ygg_sym_laws.specs.ygg_bank.Values.{Inputs, Values, Fits}
use Rattle.ygg_sym_laws.specs.ygg_bank.declared.node.Node.{Node}
use Rattle.ygg_sym_laws.specs.ygg_shape_words_proofs_Keeps.{inputs_stay}
use Rattle.ygg_sym_laws.specs.ygg_shape_cells.Terms.{worth}
use Rattle.ygg_sym_laws.specs.ygg_shape_cells.declared.terms.SymValue.{SymValue}
use Rattle.ygg_sym_laws.specs.ygg_meaning_laws.Direct.{Reached, direct_run, room_of}
use Rattle.ygg_sym_laws.specs.ygg_meaning_laws.RunPlaces.{Finish, spec_space}
use Rattle.ygg_sym_laws.specs.ygg_sym_runs.Names.{sym_bind}
use Rattle.ygg_sym_laws.specs.ygg_sym_runs.ExpressionMeaning.{Grows, worths}
use Rattle.ygg_sym_laws.specs.Meaning.{answer_worth}
use Rattle.ygg_sym_laws.specs.Laws.{picked_by}
use Rattle.ygg_sym_laws.specs.Lows.{low_worth}
use Rattle.ygg_sym_laws.specs.Wholes.{SymFinish}
use Rattle.ygg_sym_laws.proofs.MadeInputs.{whole_keeps, spec_below, terms_below}
use Rattle.ygg_sym_laws.proofs.SpecBits.{run_at, answer_at, to_at, run_back, run_sound}
use Rattle.ygg_sym_laws.proofs.Specs.{bound_worth}
use Rattle.ygg_sym_laws.proofs.SpecMeans.{spec_at}
use Rattle.ygg_sym_runs.proofs.WholeRuns.{whole_grows, whole_gives}
use Rattle.ygg_sym_laws.specs.Below.{signatures_of}
use Rattle.ygg_sym_laws.specs.Typed.{BlockTyped, SpecTyped}
use Rattle.ygg_sym_laws.specs.Means.{values_in, Values3, Begins, AreWorth, WholeAfter, WorthRun, EndsSo, WholeMeans, whole_run}
use Rattle.ygg_sym_laws.proofs.Begun.{named_again}
use Rattle.ygg_sym_laws.proofs.SpecBegun.{terms, names, grow, mean_in, operations, low, machine_from, laws, L, Begun, begun}

module _ (kinds : List RuleKind) (defs : List Def) (sound : none (definitions_errors defs [] []) ≡ true) (m : ClosedLayer) (spec : SpecTyped defs m)
    (functions : Functions) (layer : Layer) (same : functions ≡ functions_of defs) (b : Block) (vars args : List Declared)
    (typed : BlockTyped defs (L kinds defs sound m spec functions layer same) Impl (signatures_of m.layer.operations) b vars args) where
  abbrev layer_on : ClosedLayer
  layer_on = L kinds defs sound m spec functions layer same

  abbrev run_of_terms : ℕ → Values3 → List Node → Out (SymFinish (List SymValue))
  run_of_terms first x nodes = whole_run kinds defs (OnSpec m) layer_on b vars args first x nodes

  grows : (first : ℕ) (x : Values3) → Grows (whole_run kinds defs (OnSpec m) layer_on b vars args first x)
  grows first x nodes =
      let inputs : Inputs = λ n. 0 in
      let v : Values = λ n. word 1 0 in
      whole_grows inputs v kinds (names kinds defs) functions (terms kinds defs) (grow kinds defs) (mean_in kinds defs sound m spec inputs v functions same)
      (low kinds defs sound m spec) Impl (operations kinds defs sound m spec) (machine_from kinds defs sound m spec first)
      (spec_at m (picked_by inputs first)) (laws kinds defs sound m spec inputs v first) b (sym_bind vars x.vars) (sym_bind args x.args) x.low nodes

  -- the run with picks of places, and how it ends
  abbrev run : Env → Env → Env → (ℕ → Bool) → Reached (State Env)
  run memory given base bits = run_at m layer_on b memory given base bits

  abbrev end : Env → Env → Env → (ℕ → Bool) → Finish Env
  end memory given base bits =
      let r = run memory given base bits in
      record { answer = answer_at m layer_on b memory given base r; to = to_at m layer_on b memory given base r }

  abbrev finish : Answer → State Env → Finish Env
  finish answer to = record { answer = answer; to = to }

  module _ (inputs : Inputs) (v : Values) (first : ℕ) (x : Values3) (nodes : List Node) (begins : Begins kinds defs (OnSpec m) layer_on b vars args nodes x)
      (h : Fits inputs v (run_of_terms first x nodes).nodes) where
    abbrev out : Out (SymFinish (List SymValue))
    out = run_of_terms first x nodes

    abbrev memory : Env
    memory = low_worth v vars x.vars

    abbrev given : Env
    given = low_worth v args x.args

    abbrev base : Env
    base = low_worth v m.layer.state x.low

    abbrev bits : ℕ → Bool
    bits = picked_by inputs first

    here : Begun kinds defs sound m spec functions layer same b vars args typed inputs v nodes x
    here =
        begun kinds defs sound m spec functions layer same b vars args typed inputs v x nodes begins
        (fits_fewer inputs v nodes out.nodes (grows first x nodes) h)

    -- what the run over terms leaves
    record Leaves : Type 0 where
      after : WholeAfter kinds defs (OnSpec m) layer_on b vars args typed.shape v out.nodes out.value
      ends : finish (answer_worth v out.value.answer) (on (low_worth v vars (values_in out.value.vars)) (based (low_worth v m.layer.state out.value.to)))
          ≡ end memory given base bits

    leaves : Leaves
    leaves =
        let sv = sym_bind vars x.vars in
        let sa = sym_bind args x.args in
        let s = here in
        let machine = spec_at m bits in
        let mean = mean_in kinds defs sound m spec inputs v functions same in
        let w = whole_gives inputs v kinds (names kinds defs) functions (terms kinds defs) (grow kinds defs) mean
        (low kinds defs sound m spec) Impl (operations kinds defs sound m spec) (machine_from kinds defs sound m spec first) machine
        (laws kinds defs sound m spec inputs v first) b typed.shape typed.scope sv sa x.low nodes s.inside typed.without_errors typed.kept s.shaped
        begins.low_are h in
        let joined = s.joined in
        let direct = direct_run (eval_with functions) (spec_space m) machine b (worths v (sv ++ sa)) (based base) in
        let r = run memory given base bits in
        let same_run : direct ≡ r = ap (λ (e : Env). direct_run (eval_with functions) (spec_space m) machine b e (based base)) joined in
        let count : length sv ≡ length memory =
        sym (length-map sv (λ (b : Name × SymValue). (b.0, worth v b.1))) ∙ ap length (bound_worth inputs v kinds vars x.vars) in
        let follows = follows_front memory given direct.env (subst (λ (e : Env). Follows e direct.env) joined w.follows) in
        let vars_are : worths v out.value.vars ≡ take (length memory) direct.env = w.vars ∙ ap (λ n. take n direct.env) count in
        let fit : env_fits vars (worths v out.value.vars) ≡ true =
        subst (λ (e : Env). env_fits vars e ≡ true) (sym vars_are) (fits_after vars memory direct.env follows s.memory_fits) in
        let again = named_again inputs v kinds vars out.value.vars out.nodes h w.vars_shaped fit in
        let a = w.answer in
        let answer_is : answer_worth v out.value.answer ≡ answer_at m layer_on b memory given base r =
        a.is ∙ ap (λ (z : Reached (State Env)). answer_of (eval_with functions) b.answer z.env) same_run in
        let memory_is : low_worth v vars (values_in out.value.vars) ≡ take (length memory) r.env =
        again.is ∙ vars_are ∙ ap (λ (z : Reached (State Env)). take (length memory) z.env) same_run in
        let to_is : based (low_worth v m.layer.state out.value.to) ≡ r.to = w.to ∙ ap (λ (z : Reached (State Env)). z.to) same_run in
        record {
          after = record {
            named = again.named;
            vars_are = again.has;
            low_are = w.has;
            answer_shaped = a.shaped;
            answer_returned = subst (λ y. is_returned b.answer typed.shape y ≡ true) (sym a.is) w.returned;
          };
          ends = ap (λ (y : Answer). finish y (on (low_worth v vars (values_in out.value.vars)) (based (low_worth v m.layer.state out.value.to)))) answer_is
              ∙ ap (λ (e : Env). finish (answer_at m layer_on b memory given base r) (on e (based (low_worth v m.layer.state out.value.to)))) memory_is
              ∙ ap (λ (z : State Env). finish (answer_at m layer_on b memory given base r) (on (take (length memory) r.env) z)) to_is;
        }

    worth_run : WorthRun kinds defs (OnSpec m) layer_on b vars args v x out.value
    worth_run =
        let s = here in
        let l = leaves in
        let r = run_sound m layer_on b memory given base (operations kinds defs sound m spec) spec.answers spec.sees s.block s.base_fits bits in
        record {
          taken = r.0;
          run =
              subst (λ (f : Finish Env). BlockRuns layer_on (Spec m) b given (on memory (based base)) r.0 f.answer f.to) (sym l.ends) r.1;
        }

    -- the run over terms ends as the run with the same picks from these values does
    ends_so : (memory' given' base' : Env) (answer : Answer) (to : State Env) →
        AreWorth kinds defs (OnSpec m) layer_on b vars args v x memory' given' base' →
        (answer_at m layer_on b memory' given' base' (run memory' given' base' bits) ≡ answer)
        × (to_at m layer_on b memory' given' base' (run memory' given' base' bits) ≡ to) →
        EndsSo kinds defs (OnSpec m) layer_on b vars args v answer to out.value
    ends_so memory' given' base' answer to are e =
        let l = leaves in
        let all : finish (answer_worth v out.value.answer)
        (on (low_worth v vars (values_in out.value.vars)) (based (low_worth v m.layer.state out.value.to))) ≡ end memory' given' base' bits =
        l.ends ∙ ap (λ (z : Env). end z given base bits) are.vars_is ∙ ap (λ (z : Env). end memory' z base bits) are.args_is
        ∙ ap (λ (z : Env). end memory' given' z bits) are.low_is in
        record { answer_is = ap (λ (f : Finish Env). f.answer) all ∙ e.0; to_is = ap (λ (f : Finish Env). f.to) all ∙ e.1 }

  -- whole runs of the block on the specification, both ways
  pub whole_means : WholeMeans kinds defs (OnSpec m) layer_on b vars args typed.shape
  whole_means = record {
    after = λ inputs v first x nodes begins h. (leaves inputs v first x nodes begins h).after;
    sound = λ inputs v first x nodes begins h. worth_run inputs v first x nodes begins h;
    back = λ memory given base taken answer to run.
        let d = run_back m layer_on b memory given base taken answer to run in (
          d.bits,
          λ inputs v first x nodes begins h worth are.
              ends_so inputs v first x nodes begins h memory given base answer to worth (d.holds (picked_by inputs first) are),
        );
    grows = λ first x nodes. grows first x nodes;
    inputs_below = λ first next x nodes p l.
        let keep = terms_below kinds defs next in
        let room = room_of (spec_space m) b in
        whole_keeps kinds (InputsBelow next) (inputs_stay kinds next) (terms kinds defs) keep room (machine_from kinds defs sound m spec first)
        (spec_below kinds (terms kinds defs) m first room next keep l) b (sym_bind vars x.vars) (sym_bind args x.args) x.low (omega arith) nodes p;
  }
