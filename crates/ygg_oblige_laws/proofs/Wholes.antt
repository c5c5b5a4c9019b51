-- Whole runs over terms of a layer's blocks, and whether the specification's step passes after them.
use Rattle.std.proofs.Common.{◌≡◌, ◌||◌, not, ℕ, Bool, true, List, [], refl, subst}
use Rattle.std.specs.Prelude.{IsTrue, Option}
use Rattle.ygg_value.specs.declared.shape.Shape.{Shape}
use Rattle.ygg_syntax.specs.declared.tree.Block.{Block}
use Rattle.ygg_syntax.specs.declared.tree.Declared.{Declared}
use Rattle.ygg_syntax.specs.declared.tree.Def.{Def}
use Rattle.ygg_sym_laws.specs.ygg_meaning.Environments.{Env}
use Rattle.ygg_sym_laws.specs.ygg_meaning.Shapes.{zeros_of}
use Rattle.ygg_sym_laws.specs.ygg_meaning.Progress.{Answer}
use Rattle.ygg_sym_laws.specs.ygg_meaning.Machine.{Picks, State, based, on}
use Rattle.ygg_sym_laws.specs.ygg_meaning.Layer.{ClosedLayer, BlockRuns}
use Rattle.ygg_sym_laws.specs.ygg_meaning.Obligations.{Schedule, Obligation}
use Rattle.ygg_sym_laws.specs.ygg_meaning.Refines.{Below, machine_below}
use Rattle.ygg_sym_laws.specs.ygg_meaning_laws.Blocks.{is_returned}
use Rattle.ygg_sym_laws.specs.ygg_rules.declared.rule.RuleKind.{RuleKind}
use Rattle.ygg_sym_laws.specs.ygg_bank_proofs_Meaning.{fits_fewer}
use Rattle.ygg_sym_laws.specs.ygg_bank_proofs_Widths.{wider, extends_both}
use Rattle.ygg_sym_laws.specs.ygg_bank.Nodes.{HasWidth}
use Rattle.ygg_sym_laws.specs.ygg_bank.Values.{Inputs, Values, Fits}
use Rattle.ygg_sym_laws.specs.ygg_bank.declared.node.Id.{Id}
use Rattle.ygg_sym_laws.specs.ygg_bank.declared.node.Node.{Node}
use Rattle.ygg_sym_laws.specs.ygg_shape_cells.declared.terms.SymValue.{SymValue}
use Rattle.ygg_sym_laws.specs.ygg_sym_runs.ExpressionMeaning.{Grows, Gives}
use Rattle.ygg_sym_laws.specs.ygg_sym_runs.Meaning.{answer_worth, is_set}
use Rattle.ygg_sym_laws.specs.ygg_sym_runs.Lows.{LowShaped, low_worth}
use Rattle.ygg_sym_laws.specs.ygg_sym_runs_proofs_Lows.{low_wider}
use Rattle.ygg_sym_laws.specs.Below.{places_on, zeros_made}
use Rattle.ygg_sym_laws.specs.Means.{AreBits, values_in, terms_of, Values3, Begins, WholeAfter, WorthRun, EndsSo, WholeMeans}
use Rattle.ygg_oblige_laws.specs.Implied.{implied_made}
use Rattle.ygg_oblige_laws.specs.LayerTerms.{ShapesKept}
use Rattle.ygg_oblige_laws.specs.Numbers.{Numbers, arguments_of}
use Rattle.ygg_oblige_laws.specs.TermStates.{Starting}
use Rattle.ygg_oblige_laws.specs.Terms.{Finish, some_passes, ran, recovered, runs_through}
use Rattle.ygg_oblige_laws.specs.Steps.{HasStep, variables_of, ObligationTyped, AnswerKept, StepShaped, StepIs, end_worth, PassesSo}
use Rattle.ygg_oblige_laws.proofs.Digits.{implied_grows, implied_is}
use Rattle.ygg_oblige_laws.proofs.Setting.{Ready, EndsWith}
use Rattle.ygg_oblige_laws.specs.Parts.{PartsMean}

-- values of terms that a run of an obligation begins with
abbrev pub begun : Starting → List SymValue → Values3
begun S args = record { vars = S.from.memory; args = args; low = S.from.low }

-- values of terms that a recovery begins with
abbrev pub woken : List SymValue → List SymValue → Values3
woken zeros low = record { vars = zeros; args = []; low = low }

module _ (kinds : List RuleKind) (defs : List Def) (G : Below) (L : ClosedLayer) (parts : PartsMean kinds defs G L) (inputs : Inputs) (v : Values) where
  -- a whole run of a block, and a term that is 0 where the relation holds and no step of the specification passes
  pub record RunsSo (o : Obligation) (b : Block) (S : Starting) (args : List SymValue) (end : Finish) (nodes : List Node) (out : Id) : Type 0 where
    pub wide : HasWidth nodes out 1
    pub some : Id
    pub is : is_set v out ≡ (not (is_set v S.related) || is_set v some)
    pub run : WorthRun kinds defs G L b L.layer.memory (arguments_of o) v (begun S args) end
    pub passing : List Node
    pub passes : (x : Schedule) → StepIs v L o S.from.vars args x → PassesSo v L o x (end_worth v L end true) passing some

  -- what stands after a whole run, for the specification's step
  pub step_shaped : (o : Obligation) (b : Block) (shape : Option Shape) (end : Finish) (vars args : List SymValue) (declared : List Declared)
      (nodes : List Node) →
      WholeAfter kinds defs G L b L.layer.memory declared shape v nodes end → AnswerKept v o end →
      LowShaped nodes (variables_of L o) vars → LowShaped nodes (arguments_of o) args → StepShaped v L o nodes vars args end
  step_shaped o b shape end vars args declared nodes a k p q = record {
    vars_are = p;
    args_are = q;
    answer_shaped = a.answer_shaped;
    answer_kept = k;
    memory_are = a.vars_are;
    low_are = a.low_are;
  }

  module _ (o : Obligation) (b : Block) (shape : Option Shape) (whole : WholeMeans kinds defs G L b L.layer.memory (arguments_of o) shape)
      (has : HasStep o) (typed : ObligationTyped defs G L o)
      (kept : (end : Finish) → IsTrue (is_returned b.answer shape (answer_worth v end.answer)) → AnswerKept v o end)
      (state : L.layer.state ≡ variables_of L o) where
    pub runs_give : (n : Numbers) (S : Starting) (args : List SymValue) (nodes : List Node) → Ready L nodes S → LowShaped nodes (arguments_of o) args →
        (x : Schedule) → StepIs v L o S.from.vars args x →
        Gives inputs v (runs_through kinds (terms_of kinds defs) L G o n S b args) nodes
        (RunsSo o b S args (ran kinds (terms_of kinds defs) L G n.run b S.from.memory (arguments_of o) args S.from.low nodes).value)
    runs_give n S args nodes ready shaped x st h =
        let terms = terms_of kinds defs in
        let r = ran kinds terms L G n.run b S.from.memory (arguments_of o) args S.from.low nodes in
        let s = some_passes kinds terms L o S.from.vars args r.value r.nodes in
        let t = implied_made kinds S.related s.value s.nodes in
        let gr = whole.grows n.run (begun S args) nodes in
        let gs = (parts.steps.adds o S.from.vars args r.value).grows r.nodes in
        let gt = implied_grows kinds S.related s.value s.nodes in
        let hs = fits_fewer inputs v s.nodes t.nodes gt h in
        let hr = fits_fewer inputs v r.nodes s.nodes gs hs in
        let begins : Begins kinds defs G L b L.layer.memory (arguments_of o) nodes (begun S args) =
        record { vars_are = ready.from.memory; args_are = shaped; low_are = ready.from.low } in
        let a = whole.after inputs v n.run (begun S args) nodes begins hr in
        let vars_are = subst (λ ds. LowShaped r.nodes ds S.from.vars) state (low_wider nodes r.nodes L.layer.state S.from.vars gr ready.from.vars) in
        let args_are = low_wider nodes r.nodes (arguments_of o) args gr shaped in
        let step = step_shaped o b shape r.value S.from.vars args (arguments_of o) r.nodes a (kept r.value a.answer_returned) vars_are args_are in
        let passes = λ (y : Schedule) (e : StepIs v L o S.from.vars args y). parts.steps.passes inputs v o S.from.vars args r.value y r.nodes has typed
        step e hs in
        let related = wider nodes s.nodes S.related 1 (extends_both nodes r.nodes s.nodes gr gs) ready.related in
        let i = implied_is inputs v kinds S.related s.value s.nodes related (passes x st).wide h in
        record {
          wide = i.wide;
          some = s.value;
          is = i.is;
          run = whole.sound inputs v n.run (begun S args) nodes begins hr;
          passing = s.nodes;
          passes = passes;
        }

    pub runs_grow : (n : Numbers) (S : Starting) (args : List SymValue) → Grows (runs_through kinds (terms_of kinds defs) L G o n S b args)
    runs_grow n S args nodes =
        let terms = terms_of kinds defs in
        let r = ran kinds terms L G n.run b S.from.memory (arguments_of o) args S.from.low nodes in
        let s = some_passes kinds terms L o S.from.vars args r.value r.nodes in
        let t = implied_made kinds S.related s.value s.nodes in
        extends_both nodes r.nodes t.nodes (whole.grows n.run (begun S args) nodes)
        (extends_both r.nodes s.nodes t.nodes ((parts.steps.adds o S.from.vars args r.value).grows r.nodes)
        (implied_grows kinds S.related s.value s.nodes))

    -- the nodes after the run fit
    pub run_fit : (n : Numbers) (S : Starting) (args : List SymValue) (nodes : List Node) →
        Gives inputs v (runs_through kinds (terms_of kinds defs) L G o n S b args) nodes
        (λ new out. Fits inputs v (ran kinds (terms_of kinds defs) L G n.run b S.from.memory (arguments_of o) args S.from.low nodes).nodes)
    run_fit n S args nodes h =
        let terms = terms_of kinds defs in
        let r = ran kinds terms L G n.run b S.from.memory (arguments_of o) args S.from.low nodes in
        let s = some_passes kinds terms L o S.from.vars args r.value r.nodes in
        let t = implied_made kinds S.related s.value s.nodes in
        let gs = (parts.steps.adds o S.from.vars args r.value).grows r.nodes in
        fits_fewer inputs v r.nodes s.nodes gs (fits_fewer inputs v s.nodes t.nodes (implied_grows kinds S.related s.value s.nodes) h)

  -- a whole recovery over zeros of memory
  pub record RecoveredSo (shape : Option Shape) (low : List SymValue) (nodes : List Node) (end : Finish) : Type 0 where
    pub after : WholeAfter kinds defs G L L.layer.recover L.layer.memory [] shape v nodes end
    pub taken : Picks
    pub run : BlockRuns L (machine_below G) L.layer.recover [] (on (zeros_of L.layer.memory) (based (low_worth v L.low low))) taken
        (answer_worth v end.answer) (on (low_worth v L.layer.memory (values_in end.vars)) (based (low_worth v L.low end.to)))

  module _ (shape : Option Shape) (whole : WholeMeans kinds defs G L L.layer.recover L.layer.memory [] shape) (shapes : ShapesKept L.layer.memory) where
    pub recovered_grows : (first : ℕ) (low : List SymValue) → Grows (recovered kinds (terms_of kinds defs) L G first low)
    recovered_grows first low nodes =
        let z = zeros_made kinds L.layer.memory nodes in
        let r = ran kinds (terms_of kinds defs) L G first L.layer.recover z.value [] [] low z.nodes in
        extends_both nodes z.nodes r.nodes ((parts.comparing.zeros_add L.layer.memory).grows nodes) (whole.grows first (woken z.value low) z.nodes)

    -- zeros of memory, and what a recovery over them begins with
    pub record Woken (low : List SymValue) (nodes : List Node) (zeros : List SymValue) : Type 0 where
      pub begins : Begins kinds defs G L L.layer.recover L.layer.memory [] nodes (woken zeros low)
      pub zeros_are : low_worth v L.layer.memory zeros ≡ zeros_of L.layer.memory

    pub woken_gives : (low : List SymValue) (nodes : List Node) → LowShaped nodes L.low low → Gives inputs v (zeros_made kinds L.layer.memory) nodes (Woken low)
    woken_gives low nodes shaped h =
        let z = zeros_made kinds L.layer.memory nodes in
        let zs = parts.comparing.zeros inputs v L.layer.memory nodes shapes h in
        let g = (parts.comparing.zeros_add L.layer.memory).grows nodes in
        record {
          begins = record { vars_are = zs.shaped; args_are = tt; low_are = low_wider nodes z.nodes L.low low g shaped };
          zeros_are = zs.is;
        }

    pub recovered_gives : (first : ℕ) (low : List SymValue) (nodes : List Node) → LowShaped nodes L.low low →
        Gives inputs v (recovered kinds (terms_of kinds defs) L G first low) nodes (RecoveredSo shape low)
    recovered_gives first low nodes shaped h =
        let z = zeros_made kinds L.layer.memory nodes in
        let r = ran kinds (terms_of kinds defs) L G first L.layer.recover z.value [] [] low z.nodes in
        let hz = fits_fewer inputs v z.nodes r.nodes (whole.grows first (woken z.value low) z.nodes) h in
        let zs = woken_gives low nodes shaped hz in
        let w = whole.sound inputs v first (woken z.value low) z.nodes zs.begins h in
        record {
          after = whole.after inputs v first (woken z.value low) z.nodes zs.begins h;
          taken = w.taken;
          run = subst
              (λ m. BlockRuns L (machine_below G) L.layer.recover [] (on m (based (low_worth v L.low low))) w.taken
              (answer_worth v r.value.answer) (on (low_worth v L.layer.memory (values_in r.value.vars)) (based (low_worth v L.low r.value.to))))
              zs.zeros_are w.run;
        }

    -- it ends as a recovery does that has these picks
    pub recovered_ends : (bits : ℕ → Bool) (fallen : Env) (answer : Answer) (to : State Env) →
        EndsWith kinds defs G L L.layer.recover L.layer.memory [] bits (zeros_of L.layer.memory) [] fallen answer to →
        (first : ℕ) (low : List SymValue) (nodes : List Node) → LowShaped nodes L.low low → low_worth v L.low low ≡ fallen →
        AreBits inputs first (places_on G L.layer.recover) bits →
        Gives inputs v (recovered kinds (terms_of kinds defs) L G first low) nodes
        (λ new end. EndsSo kinds defs G L L.layer.recover L.layer.memory [] v answer to end)
    recovered_ends bits fallen answer to ends first low nodes shaped e are h =
        let z = zeros_made kinds L.layer.memory nodes in
        let r = ran kinds (terms_of kinds defs) L G first L.layer.recover z.value [] [] low z.nodes in
        let hz = fits_fewer inputs v z.nodes r.nodes (whole.grows first (woken z.value low) z.nodes) h in
        let zs = woken_gives low nodes shaped hz in
        ends inputs v first (woken z.value low) z.nodes zs.begins h (record { vars_is = zs.zeros_are; args_is = refl; low_is = e }) are
