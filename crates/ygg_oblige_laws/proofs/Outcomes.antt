-- What the specification's step over terms is worth, with a list of picks.
use Rattle.std.proofs.Common.{◌≡◌, ◌<◌, ◌+◌, ◌&&◌, ℕ, Bool, true, false, List, [], ◌∷◌, reverse, length, Option, Some, None, refl, sym, ap, ◌∙◌, subst, arith}
use Rattle.ygg_value.specs.Words.{word, bit_of}
use Rattle.ygg_value.specs.declared.operation.Op.TheVariants.{And}
use Rattle.ygg_value.specs.declared.row.Value.{Value}
use Rattle.ygg_syntax.specs.Choices.{choices_of}
use Rattle.ygg_syntax.specs.declared.grammar.BlockKind.TheVariants.{Spec}
use Rattle.ygg_syntax.specs.declared.tree.Block.{Block}
use Rattle.ygg_syntax.specs.declared.tree.Declared.{Declared}
use Rattle.ygg_syntax.specs.declared.tree.Def.{Def}
use Rattle.ygg_syntax.specs.declared.tree.Operation.{Operation}
use Rattle.ygg_sym_laws.specs.ygg_type_rules.Names.{Named}
use Rattle.ygg_sym_laws.specs.ygg_type_rules.Definitions.{with_definitions}
use Rattle.ygg_sym_laws.specs.ygg_type_rules.Layers.{operation_signature}
use Rattle.ygg_sym_laws.specs.ygg_type_rules.declared.scope.Signature.{Signature}
use Rattle.ygg_sym_laws.specs.ygg_meaning.Environments.{Env, bind}
use Rattle.ygg_sym_laws.specs.ygg_meaning.Layer.{ClosedLayer}
use Rattle.ygg_sym_laws.specs.ygg_meaning.Machine.{Picks, State, based}
use Rattle.ygg_sym_laws.specs.ygg_meaning.Obligations.{Obligation, Init, CallOf, CutOf, TickOf, CutTickOf, Idle, Again, crash_picks}
use Rattle.ygg_sym_laws.specs.ygg_meaning.Refines.{Below}
use Rattle.ygg_sym_laws.specs.ygg_meaning.Related.{related}
use Rattle.ygg_sym_laws.specs.ygg_meaning.Spec.{SpecStarts}
use Rattle.ygg_sym_laws.specs.ygg_meaning.Violates.{same_answer}
use Rattle.ygg_sym_laws.specs.ygg_meaning_laws.Kinds.{keeps, on_crash_keeps}
use Rattle.ygg_sym_laws.specs.ygg_meaning_laws.Questions.{gives}
use Rattle.ygg_sym_laws.specs.ygg_rules.declared.rule.RuleKind.{RuleKind}
use Rattle.ygg_sym_laws.specs.ygg_bank_proofs_Made.{made_grows}
use Rattle.ygg_sym_laws.specs.ygg_bank_proofs_Meaning.{fits_fewer}
use Rattle.ygg_sym_laws.specs.ygg_bank_proofs_Widths.{extends_both}
use Rattle.ygg_sym_laws.specs.ygg_bank.Makes.{Make}
use Rattle.ygg_sym_laws.specs.ygg_bank.Making.{made}
use Rattle.ygg_sym_laws.specs.ygg_bank.Nodes.{Extends}
use Rattle.ygg_sym_laws.specs.ygg_bank.Values.{Inputs, Values}
use Rattle.ygg_sym_laws.specs.ygg_bank.declared.node.Node.{Node}
use Rattle.ygg_sym_laws.specs.ygg_bank.declared.node.Node.TheVariants.{Const, Bin}
use Rattle.ygg_sym_laws.specs.ygg_shape_words_proofs_Keeps.{Stays}
use Rattle.ygg_sym_laws.specs.ygg_shape_cells.declared.terms.SymValue.{SymValue}
use Rattle.ygg_sym_laws.specs.ygg_meaning_laws.Acts.{next_of}
use Rattle.ygg_sym_laws.specs.ygg_meaning_laws.Places.{left_after, Result, outcome_by_place}
use Rattle.ygg_sym_laws.specs.ygg_meaning_laws.SpecPlaces.{crash_by_place, then_by_place}
use Rattle.ygg_sym_laws.specs.ygg_sym_runs.Exprs.{SymFunctions}
use Rattle.ygg_sym_laws.specs.ygg_sym_runs.ExpressionMeaning.{Grows, Gives}
use Rattle.ygg_sym_laws.specs.ygg_sym_runs.Names.{sym_bind}
use Rattle.ygg_sym_laws.specs.ygg_sym_runs_proofs_Grows.{FunctionsGrow, functions_grow}
use Rattle.ygg_sym_laws.specs.ygg_sym_runs_proofs_Keeps.{Keeps, FunctionsKeep}
use Rattle.ygg_sym_laws.specs.ygg_sym_runs_proofs_Shaped.{some_wider}
use Rattle.ygg_sym_laws.specs.ygg_sym_runs_proofs_Values.{FunctionsMean}
use Rattle.ygg_sym_laws.specs.Meaning.{AnswerShaped, answer_worth}
use Rattle.ygg_sym_laws.proofs.Blocks.{BlockOfSpec, values_worth, low_stands, block_made_gives}
use Rattle.ygg_sym_laws.proofs.Chosen.{block_end, nth, placed_end}
use Rattle.ygg_sym_laws.proofs.Lows.{low_wider}
use Rattle.ygg_sym_laws.proofs.SpecKeeps.{block_keeps, crash_keeps, then_keeps}
use Rattle.ygg_sym_laws.proofs.SpecStops.{SomeBlock, FallsTyped, crash_gives, then_grows, then_gives}
use Rattle.ygg_sym_laws.proofs.Specs.{given_pick_means}
use Rattle.ygg_sym_laws.specs.Disks.{Done, done}
use Rattle.ygg_sym_laws.specs.Lows.{LowShaped, low_worth}
use Rattle.ygg_sym_laws.specs.SpecCuts.{block_made, crash_made, then_crash_made}
use Rattle.ygg_sym_laws.specs.Specs.{given_pick}
use Rattle.ygg_sym_laws.proofs.of_ygg_sym_runs.DeclaredZeros.{zeros_made_keep}
use Rattle.ygg_sym_laws.specs.Below.{zeros_made, start_made}
use Rattle.ygg_sym_laws.specs.Means.{terms_of, values_in}
use Rattle.ygg_sym_laws.specs.Typed.{SpecBlockTyped}
use Rattle.ygg_sym_laws.proofs.AnyLayer.{spec_start}
use Rattle.ygg_sym_laws.proofs.SpecBegun.{falls_typed}
use Rattle.ygg_oblige_laws.specs.LayerTerms.{OperationFits, LayerTyped}
use Rattle.ygg_oblige_laws.specs.Outcomes.{fall_with_picks, leaving, outcome_made}
use Rattle.ygg_oblige_laws.specs.TermStates.{Trio, related_made}
use Rattle.ygg_oblige_laws.specs.Terms.{Finish, same_answers_made, passes_made}
use Rattle.ygg_oblige_laws.proofs.Compares.{answers_keep, answers_give}
use Rattle.ygg_oblige_laws.proofs.Placed.{fall_placed, crash_placed, then_placed}
use Rattle.ygg_oblige_laws.proofs.Starting.{related_keeps}
use Rattle.ygg_oblige_laws.proofs.Truth.{adds, truth_wider, and_gives}
use Rattle.ygg_oblige_laws.proofs.Truths.{defs_keep, layer_mean, related_gives}
use Rattle.ygg_oblige_laws.specs.Worth.{IsTruth, TrioShaped}

module _ (kinds : List RuleKind) (P : List Node → Type 0) (stays : Stays kinds P) where
  same_answers_keep : (o : Obligation) (y z : Option SymValue) → Keeps P (same_answers_made kinds o y z)
  same_answers_keep Init y z nodes p = stays (Const (word 1 1)) nodes tt p
  same_answers_keep (CallOf o) y z nodes p = answers_keep kinds P stays y z nodes p
  same_answers_keep (CutOf o) y z nodes p = stays (Const (word 1 1)) nodes tt p
  same_answers_keep (TickOf t) y z nodes p = stays (Const (word 1 1)) nodes tt p
  same_answers_keep (CutTickOf t) y z nodes p = stays (Const (word 1 1)) nodes tt p
  same_answers_keep Idle y z nodes p = stays (Const (word 1 1)) nodes tt p
  same_answers_keep Again y z nodes p = stays (Const (word 1 1)) nodes tt p

  pick_keeps : (picks : Picks) (count k : ℕ) → k < count → Keeps P (given_pick kinds picks k)
  pick_keeps picks count k l nodes p = stays (Const (word 1 (bit_of (next_of false (left_after k picks))))) nodes tt p

  module _ (terms : SymFunctions) (keep : FunctionsKeep P terms) (L : ClosedLayer) where
    start_keeps : Keeps P (start_made kinds terms L)
    start_keeps nodes p =
        let z = zeros_made kinds L.layer.state nodes in
        block_keeps kinds P stays terms keep L (given_pick kinds []) L.layer.start (pick_keeps [] _) z.value [] z.nodes
        (zeros_made_keep kinds P stays L.layer.state nodes p)

    fall_keeps : (o : Operation) (b : Option Block) (vars args : List SymValue) (picks : Picks) → Keeps P (fall_with_picks kinds terms L o b vars args picks)
    fall_keeps o (Some b) vars args picks nodes p =
        then_keeps kinds P stays terms keep L (given_pick kinds picks) b (pick_keeps picks _) vars (sym_bind o.arguments args) nodes p
    fall_keeps o None vars args [] nodes p = p
    fall_keeps o None vars args (true ∷ picks) nodes p =
        then_keeps kinds P stays terms keep L (given_pick kinds picks) o.spec (pick_keeps picks _) vars (sym_bind o.arguments args) nodes p
    fall_keeps o None vars args (false ∷ picks) nodes p =
        crash_keeps kinds P stays terms keep L (given_pick kinds picks) (pick_keeps picks _) vars nodes p

    outcome_keeps : (o : Obligation) (vars args : List SymValue) (picks : Picks) → Keeps P (outcome_made kinds terms L o vars args picks)
    outcome_keeps Init vars args picks nodes p = start_keeps nodes p
    outcome_keeps (CallOf o) vars args picks nodes p =
        block_keeps kinds P stays terms keep L (given_pick kinds picks) o.spec (pick_keeps picks _) vars (sym_bind o.arguments args) nodes p
    outcome_keeps (CutOf o) vars args picks nodes p = fall_keeps o o.on_crash vars args picks nodes p
    outcome_keeps (TickOf t) vars args picks nodes p = p
    outcome_keeps (CutTickOf t) vars args picks nodes p =
        crash_keeps kinds P stays terms keep L (given_pick kinds picks) (pick_keeps picks _) vars nodes p
    outcome_keeps Idle vars args picks nodes p = crash_keeps kinds P stays terms keep L (given_pick kinds picks) (pick_keeps picks _) vars nodes p
    outcome_keeps Again vars args picks nodes p = p

    pub passes_keep : (o : Obligation) (vars args : List SymValue) (end : Finish) (picks : Picks) → Keeps P (passes_made kinds terms L o vars args end picks)
    passes_keep o vars args end picks nodes p =
        let out = outcome_made kinds terms L o vars args picks nodes in
        let same = same_answers_made kinds o end.answer out.value.answer out.nodes in
        let x : Trio = record { vars = out.value.to; memory = values_in end.vars; low = end.to } in
        let rel = related_made kinds terms L x same.nodes in
        stays (Bin And same.value rel.value) rel.nodes tt
        (related_keeps kinds P stays terms keep L x same.nodes
        (same_answers_keep o end.answer out.value.answer out.nodes (outcome_keeps o vars args picks nodes p)))

pub answer_wider : (old new : List Node) (y : Option SymValue) → Extends old new → AnswerShaped old y → AnswerShaped new y
answer_wider old new None g s = tt
answer_wider old new (Some x) g s = some_wider old new x g s

-- what an `on crash` block keeps, if there is one
pub crash_kept : (q : Option Block) → ((b : Block) → q ≡ Some b → keeps Spec b ≡ true) → on_crash_keeps q ≡ true
crash_kept None h = refl
crash_kept (Some b) h = h b refl

module _ (kinds : List RuleKind) (defs : List Def) (G : Below) (L : ClosedLayer) (typed : LayerTyped defs G L) where
  abbrev T : SymFunctions
  T = terms_of kinds defs

  abbrev names : Named Signature
  names = with_definitions defs []

  abbrev grow : FunctionsGrow (terms_of kinds defs)
  grow = functions_grow kinds (reverse defs)

  abbrev state : List Declared
  state = L.layer.state

  block_typed : (b : Block) (args : List Declared) (t : SpecBlockTyped defs L b args) → BlockOfSpec names L b t.block.shape args
  block_typed b args t = record {
    scope = t.block.scope;
    defs_is = t.block.defs_is;
    without_errors = t.block.without_errors;
    kept = t.block.kept;
    agrees = t.block.agrees;
  }

  falls : FallsTyped names L
  falls = falls_typed kinds defs typed.definitions L typed.own

  pub outcome_grows : (o : Obligation) (vars args : List SymValue) (picks : Picks) → Grows (outcome_made kinds T L o vars args picks)
  outcome_grows o vars args picks =
      let a = adds kinds (outcome_made kinds T L o vars args picks) (λ P s. outcome_keeps kinds P s T (defs_keep kinds defs P s) L o vars args picks) in
      a.grows

  same_answers_grow : (o : Obligation) (y z : Option SymValue) → Grows (same_answers_made kinds o y z)
  same_answers_grow o y z = let a = adds kinds (same_answers_made kinds o y z) (λ P s. same_answers_keep kinds P s o y z) in a.grows

  related_grows : (x : Trio) → Grows (related_made kinds T L x)
  related_grows x = let a = adds kinds (related_made kinds T L x) (λ P s. related_keeps kinds P s T (defs_keep kinds defs P s) L x) in a.grows

  module _ (inputs : Inputs) (v : Values) where
    mean : FunctionsMean inputs v kinds names L.functions T grow
    mean = layer_mean inputs v kinds defs G L typed

    -- variables that are worth these, and an answer of which the test of answers is this
    pub record StepOut (o : Obligation) (end : Finish) (want : Env) (c : Bool) (nodes : List Node) (d : Done) : Type 0 where
      pub has : LowShaped nodes state d.to
      pub is : low_worth v state d.to ≡ want
      pub same : Gives inputs v (same_answers_made kinds o end.answer d.answer) nodes (IsTruth v c)

    -- variables of the declared shapes that are worth these
    pub record VarsAre (want : Env) (nodes : List Node) (vars : List SymValue) : Type 0 where
      pub has : LowShaped nodes state vars
      pub is : low_worth v state vars ≡ want

    -- the test of the end, from what the step is worth
    pub passes_from : (o : Obligation) (vars args : List SymValue) (end : Finish) (picks : Picks) (want : Env) (c : Bool) (nodes : List Node) →
        LowShaped nodes L.layer.memory (values_in end.vars) → LowShaped nodes L.low end.to →
        Gives inputs v (outcome_made kinds T L o vars args picks) nodes (StepOut o end want c) →
        Gives inputs v (passes_made kinds T L o vars args end picks) nodes
        (IsTruth v (c && related L want (low_worth v L.layer.memory (values_in end.vars)) (low_worth v L.low end.to)))
    passes_from o vars args end picks want c nodes pm pl step h =
        let memory = values_in end.vars in
        let out = outcome_made kinds T L o vars args picks nodes in
        let same = same_answers_made kinds o end.answer out.value.answer out.nodes in
        let x : Trio = record { vars = out.value.to; memory = memory; low = end.to } in
        let rel = related_made kinds T L x same.nodes in
        let all = made kinds (Bin And same.value rel.value) rel.nodes in
        let go = outcome_grows o vars args picks nodes in
        let gs = same_answers_grow o end.answer out.value.answer out.nodes in
        let gr = related_grows x same.nodes in
        let hr = fits_fewer inputs v rel.nodes all.nodes (made_grows kinds (Bin And same.value rel.value) rel.nodes) h in
        let hs = fits_fewer inputs v same.nodes rel.nodes gr hr in
        let s = step (fits_fewer inputs v out.nodes same.nodes gs hs) in
        let g = extends_both nodes out.nodes same.nodes go gs in
        let shaped : TrioShaped L same.nodes x = record {
          vars = low_wider out.nodes same.nodes state out.value.to gs s.has;
          memory = low_wider nodes same.nodes L.layer.memory memory g pm;
          low = low_wider nodes same.nodes L.low end.to g pl;
        } in
        let t = s.same hs in
        let r = related_gives inputs v kinds defs G L typed x same.nodes shaped hr in
        let wm = low_worth v L.layer.memory memory in
        let wl = low_worth v L.low end.to in
        let b : IsTruth v (related L want wm wl) rel.nodes rel.value =
        record { wide = r.wide; is = r.related ∙ ap (λ e. related L e wm wl) s.is } in
        and_gives inputs v kinds same.value rel.value c (related L want wm wl) rel.nodes (truth_wider v same.nodes rel.nodes c same.value gr t) b h

    -- variables alone
    pub left_out : (o : Obligation) (end : Finish) (want : Env) (m : Make (List SymValue)) (nodes : List Node) →
        ((ns : List Node) → Gives inputs v (same_answers_made kinds o end.answer None) ns (IsTruth v true)) → Gives inputs v m nodes (VarsAre want) →
        Gives inputs v (leaving kinds T L m) nodes (StepOut o end want true)
    left_out o end want m nodes one given h = let s = given h in record { has = s.has; is = s.is; same = one (m nodes).nodes }

    -- the variables as they are
    pub same_out : (o : Obligation) (end : Finish) (start : Env) (vars : List SymValue) (nodes : List Node) →
        ((ns : List Node) → Gives inputs v (same_answers_made kinds o end.answer None) ns (IsTruth v true)) → start ≡ low_worth v state vars →
        LowShaped nodes state vars → StepOut o end start true nodes (done None vars)
    same_out o end start vars nodes one e p = record { has = p; is = sym e; same = one nodes }

    -- the `crash` block
    pub crash_out : (picks : Picks) (vars : List SymValue) (start : Env) (nodes : List Node) → start ≡ low_worth v state vars → LowShaped nodes state vars →
        Gives inputs v (crash_made kinds T L (given_pick kinds picks) vars) nodes (VarsAre (crash_by_place false L start picks).vars)
    crash_out picks vars start nodes e p h =
        let c = crash_gives inputs v kinds names L T grow mean falls (given_pick kinds picks) (nth L false picks) (given_pick_means inputs v kinds picks)
        vars nodes p h in
        record {
          has = c.has;
          is = c.is ∙ crash_placed L picks (low_worth v state vars) ∙ ap (λ (z : Env). (crash_by_place false L z picks).vars) (sym e);
        }

    -- a block and then the `crash` block
    then_out : (picks : Picks) (b : Block) (args : List Declared) (t : SpecBlockTyped defs L b args) (vars xs : List SymValue) (start given : Env)
        (nodes : List Node) → start ≡ low_worth v state vars → given ≡ low_worth v args xs → LowShaped nodes state vars → LowShaped nodes args xs →
        Gives inputs v (then_crash_made kinds T L (given_pick kinds picks) b vars (sym_bind args xs)) nodes
        (VarsAre (then_by_place false L b start given picks).vars)
    then_out picks b args t vars xs start given nodes e f p q h =
        let bits = nth L false picks in
        let means = given_pick_means inputs v kinds picks in
        let o = then_crash_made kinds T L (given_pick kinds picks) b vars (sym_bind args xs) nodes in
        let hn = fits_fewer inputs v nodes o.nodes
        (then_grows inputs v kinds names L T grow mean (given_pick kinds picks) bits means b vars (sym_bind args xs) nodes) h in
        let block : SomeBlock names L b args = record { shape = t.block.shape; typed = block_typed b args t } in
        let c = then_gives inputs v kinds names L T grow mean falls (given_pick kinds picks) bits means b args block vars xs nodes
        (values_worth inputs v nodes args xs hn q) (low_stands inputs v nodes args xs q) p h in
        record {
          has = c.has;
          is = c.is ∙ then_placed L picks b (low_worth v state vars) (low_worth v args xs) t.block.kept
              ∙ ap (λ (z : Env). (then_by_place false L b z (low_worth v args xs) picks).vars) (sym e)
              ∙ ap (λ (z : Env). (then_by_place false L b start z picks).vars) (sym f);
        }

    -- an operation that power has cut, with as many picks as it takes at most
    pub fall_out : (o : Operation) (fits : OperationFits defs G L o) (q : Option Block) → o.on_crash ≡ q → (picks : Picks) →
        length picks ≡ elim q [ None ↦ 1 + choices_of o.spec + crash_picks L.layer | Some b ↦ choices_of b + crash_picks L.layer ] →
        (vars args : List SymValue) (start : Env) (given : List Value) (nodes : List Node) → start ≡ low_worth v state vars →
        bind o.arguments given ≡ low_worth v o.arguments args → LowShaped nodes state vars → LowShaped nodes o.arguments args →
        Gives inputs v (fall_with_picks kinds T L o q vars args picks) nodes (VarsAre (fall_placed L o q start given picks).vars)
    fall_out o fits (Some b) own picks l vars args start given nodes e f p q h =
        let spec = fits.spec in then_out picks b o.arguments (spec.on_crash b own) vars args start (bind o.arguments given) nodes e f p q h
    fall_out o fits None own [] l vars args start given nodes e f p q h = absurd (omega (arith, l))
    fall_out o fits None own (true ∷ picks) l vars args start given nodes e f p q h =
        let spec = fits.spec in then_out picks o.spec o.arguments spec.spec vars args start (bind o.arguments given) nodes e f p q h
    fall_out o fits None own (false ∷ picks) l vars args start given nodes e f p q h = crash_out picks vars start nodes e p h

    -- a whole operation
    pub call_out : (o : Operation) (fits : OperationFits defs G L o) (end : Finish) (picks : Picks) (vars args : List SymValue) (start : Env)
        (given : Env) (nodes : List Node) → start ≡ low_worth v state vars → given ≡ low_worth v o.arguments args → LowShaped nodes state vars →
        LowShaped nodes o.arguments args → AnswerShaped nodes end.answer → gives (operation_signature o) (answer_worth v end.answer) ≡ true →
        Gives inputs v (block_made kinds T L (given_pick kinds picks) o.spec vars (sym_bind o.arguments args)) nodes
        (StepOut (CallOf o) end (outcome_by_place false L o.spec start given picks).vars
        (same_answer (answer_worth v end.answer) (outcome_by_place false L o.spec start given picks).answer))
    call_out o fits end picks vars args start given nodes e f p q a k h =
        let spec = fits.spec in
        let t = spec.spec in
        let bits = nth L false picks in
        let means = given_pick_means inputs v kinds picks in
        let out = block_made kinds T L (given_pick kinds picks) o.spec vars (sym_bind o.arguments args) nodes in
        let g = outcome_grows (CallOf o) vars args picks nodes in
        let hn = fits_fewer inputs v nodes out.nodes g h in
        let b = block_made_gives inputs v kinds names L T grow mean (given_pick kinds picks) bits means o.spec t.block.shape o.arguments
        (block_typed o.spec o.arguments t) vars args nodes (values_worth inputs v nodes o.arguments args hn q) (low_stands inputs v nodes o.arguments args q)
        p h in
        let low = low_worth v state vars in
        let arguments = low_worth v o.arguments args in
        let same : block_end L bits o.spec low arguments ≡ outcome_by_place false L o.spec start given picks =
        sym (placed_end L false picks o.spec low arguments) ∙ ap (λ (z : Env). outcome_by_place false L o.spec z arguments picks) (sym e)
        ∙ ap (λ (z : Env). outcome_by_place false L o.spec start z picks) (sym f) in
        let answer = b.answer ∙ ap (λ (r : Result). r.answer) same in
        let kept = subst (λ y. gives (operation_signature o) y ≡ true) (sym b.answer)
        (spec.answers (block_end L bits o.spec low arguments).answer b.returned) in
        record {
          has = b.has;
          is = b.is ∙ ap (λ (r : Result). r.vars) same;
          same = λ later.
              let y = out.value.answer in
              let test = same_answers_made kinds (CallOf o) end.answer y out.nodes in
              subst (λ z. IsTruth v (same_answer (answer_worth v end.answer) z) test.nodes test.value) answer
              (answers_give inputs v kinds o end.answer y out.nodes fits.answer_shaped (answer_wider nodes out.nodes end.answer g a) b.shaped k kept later);
        }

    -- the one start state
    pub start_out : (s : State Env) (k : SpecStarts L s) (nodes : List Node) → Gives inputs v (start_made kinds T L) nodes (VarsAre k.vars)
    start_out s k nodes h =
        let own : ClosedLayer = record { functions = L.functions; layer = L.layer; low = state } in
        let m = spec_start kinds defs L own typed.definitions typed.own refl in
        let out = start_made kinds T L nodes in
        let e : s ≡ based (low_worth v state out.value) = m.back s [] (refl, k) inputs v nodes h in
        record {
          has = m.after inputs v nodes h;
          is = ap (λ (z : State Env). z.base) (sym e ∙ k.to_is);
        }
