-- The specification's step, and the test of the end after it, in code.
use Rattle.std.proofs.Common.{◌≡◌, ◌++◌, suc, ℕ, true, false, if◌then◌else◌, List, [], ◌∷◌, reverse, Option, Some, None, sym, ap, ◌∙◌, subst}
use Rattle.std.specs.Prelude.{is_none, is_some, option_map}
use Rattle.ygg_value.specs.declared.operation.Op.TheVariants.{And, Or}
use Rattle.ygg_syntax.specs.declared.tree.Def.{Def}
use Rattle.ygg_syntax.specs.declared.tree.Operation.{Operation}
use Rattle.ygg_syntax.specs.declared.tree.TypeText.{TypeText}
use Rattle.ygg_sym_spec.specs.ygg_type_rules.Definitions.{with_definitions}
use Rattle.ygg_sym_spec.specs.ygg_type_rules.Layers.{operation_signature}
use Rattle.ygg_sym_spec.specs.ygg_type_rules.Shapes.{answer_shape}
use Rattle.ygg_sym_spec.specs.ygg_meaning.Layer.{ClosedLayer}
use Rattle.ygg_sym_spec.specs.ygg_meaning.Machine.{Picks}
use Rattle.ygg_sym_spec.specs.ygg_meaning.Obligations.{Obligation, Init, CallOf, CutOf, TickOf, CutTickOf, Idle, Again}
use Rattle.ygg_sym_spec.specs.ygg_meaning.Refines.{Below}
use Rattle.ygg_sym_spec.specs.ygg_meaning.Shapes.{shape_in}
use Rattle.ygg_sym_spec.specs.ygg_meaning_laws_proofs_ProgressFits.{one_shape}
use Rattle.ygg_sym_spec.specs.ygg_meaning_laws.Questions.{answer_has, gives}
use Rattle.ygg_sym_spec.specs.ygg_rules.declared.rule.RuleKind.{RuleKind}
use Rattle.ygg_sym_spec.specs.ygg_bank_proofs_Meaning.{fits_fewer}
use Rattle.ygg_sym_spec.specs.ygg_bank.Makes.{Make, Out, and_make, goes_on}
use Rattle.ygg_sym_spec.specs.ygg_bank.Making.{made}
use Rattle.ygg_sym_spec.specs.ygg_bank.Nodes.{Extends, IsBank}
use Rattle.ygg_sym_spec.specs.ygg_bank.Values.{Inputs, Values, Fits, value_of}
use Rattle.ygg_sym_spec.specs.ygg_bank.declared.node.Id.{Id}
use Rattle.ygg_sym_spec.specs.ygg_bank.declared.node.Node.{Node}
use Rattle.ygg_sym_spec.specs.ygg_bank.declared.node.Node.TheVariants.{Bin}
use Rattle.ygg_sym_spec.proofs.of_ygg_shape.Answered.{no_inputs, some_fit}
use Rattle.ygg_sym_spec.specs.ygg_shape_cells.Terms.{HasShape, worth}
use Rattle.ygg_sym_spec.specs.ygg_shape_cells.declared.terms.SymValue.{SymValue}
use Rattle.ygg_sym_spec.specs.ygg_sym_runs_proofs_Grows.{functions_grow}
use Rattle.ygg_sym_spec.specs.ygg_sym_runs_proofs_Shaped.{some_wider}
use Rattle.ygg_sym_spec.specs.ygg_sym_runs.Names.{sym_bind}
use Rattle.ygg_sym_spec.proofs.of_ygg_sym_runs.Worths.{shape_fits}
use Rattle.ygg_sym_spec.specs.ygg_sym_runs.Lower.{KeepsSingle}
use Rattle.ygg_sym_spec.specs.ygg_sym_runs.Meaning.{AnswerShaped, answer_worth}
use Rattle.ygg_sym_spec.proofs.of_ygg_sym_runs.Blocks.{BlockOfSpec, values_worth, low_stands, block_made_grows, block_made_gives}
use Rattle.ygg_sym_spec.specs.ygg_sym_runs_proofs_Chosen.{block_end, nth}
use Rattle.ygg_sym_spec.specs.ygg_sym_runs_proofs_Lows.{low_wider}
use Rattle.ygg_sym_spec.specs.ygg_sym_runs_proofs_Specs.{given_pick_means}
use Rattle.ygg_sym_spec.specs.ygg_sym_runs.Disks.{Done}
use Rattle.ygg_sym_spec.specs.ygg_sym_runs.Lows.{LowShaped, low_worth}
use Rattle.ygg_sym_spec.specs.ygg_sym_runs.SpecCuts.{block_made}
use Rattle.ygg_sym_spec.specs.ygg_sym_runs.Specs.{given_pick}
use Rattle.ygg_oblige_laws.specs.Means.{terms_of}
use Rattle.ygg_sym_spec.specs.Layers.{closed}
use Rattle.ygg_sym_spec.specs.declared.layer.SymLayer.{SymLayer}
use Rattle.ygg_sym_spec.specs.declared.below.SymBelow.{SymBelow}
use Rattle.ygg_oblige_laws.specs.LayerTerms.{OperationFits, LayerTyped}
use Rattle.ygg_oblige_laws.specs.Numbers.{arguments_of}
use Rattle.ygg_oblige_laws.specs.Outcomes.{any_picks, outcome_made}
use Rattle.ygg_oblige_laws.proofs.Truths.{layer_mean}
use Rattle.ygg_oblige_laws.specs.Steps.{ObligationTyped, AnswerKept, variables_of}
use Rattle.ygg_oblige_parts.specs.Digits.{AnswersAlike}
use Rattle.ygg_oblige_parts.specs.Passing.{AskedAlike, StepFits, answered}

answer_wider : (old new : List Node) (y : Option SymValue) → Extends old new → AnswerShaped old y → AnswerShaped new y
answer_wider old new None g s = tt
answer_wider old new (Some x) g s = some_wider old new x g s

-- two answers that are given where a type is declared, in its shape
alike_from : (inputs : Inputs) (v : Values) (nodes : List Node) → Fits inputs v nodes → (t : Option TypeText) (y z : Option SymValue) →
    answer_shape t ≡ option_map shape_in t → AnswerShaped nodes y → AnswerShaped nodes z →
    (if is_some t then answer_has (answer_shape t) (answer_worth v y) else is_none (answer_worth v y)) ≡ true →
    (if is_some t then answer_has (answer_shape t) (answer_worth v z) else is_none (answer_worth v z)) ≡ true → AnswersAlike nodes y z
alike_from inputs v nodes h t None None e p q f g = tt
alike_from inputs v nodes h t None (Some z) e p q f g = tt
alike_from inputs v nodes h t (Some y) None e p q f g = tt
alike_from inputs v nodes h None (Some y) (Some z) e p q f g = absurd (cc)
alike_from inputs v nodes h (Some t) (Some y) (Some z) e p q f g =
    let s = shape_in t in
    let fy = subst (λ k. answer_has k (Some (worth v y)) ≡ true) e f in
    let fz = subst (λ k. answer_has k (Some (worth v z)) ≡ true) e g in
    let a = one_shape p.shape s (worth v y) (shape_fits inputs v nodes p.shape y h p.stands) fy in
    let b = one_shape q.shape s (worth v z) (shape_fits inputs v nodes q.shape z h q.stands) fz in
    record {
      shape = p.shape;
      limits = p.stands.limits;
      one_has = p.stands.has;
      two_has = subst (λ s. HasShape nodes s z) (b ∙ sym a) q.stands.has;
    }

module _ (kinds : List RuleKind) (defs : List Def) (G : Below) (L : ClosedLayer) (typed : LayerTyped defs G L) where
  -- a whole operation's answer is comparable with one of the operation's shape
  call_alike : (o : Operation) → OperationFits defs G L o → (picks : Picks) (vars args : List SymValue) (y : Option SymValue) (nodes : List Node) →
      LowShaped nodes L.layer.state vars → LowShaped nodes o.arguments args → AnswerShaped nodes y →
      ((inputs : Inputs) (v : Values) → Fits inputs v nodes → gives (operation_signature o) (answer_worth v y) ≡ true) →
      (let out = block_made kinds (terms_of kinds defs) L (given_pick kinds picks) o.spec vars (sym_bind o.arguments args) nodes in
      IsBank out.nodes → AnswersAlike out.nodes y out.value.answer)
  call_alike o fits picks vars args y nodes p q a kept bank =
      let spec = fits.spec in
      let t = spec.spec in
      let bits = nth L false picks in
      let out = block_made kinds (terms_of kinds defs) L (given_pick kinds picks) o.spec vars (sym_bind o.arguments args) nodes in
      let v = value_of no_inputs out.nodes in
      let h = some_fit out.nodes bank in
      let means = given_pick_means no_inputs v kinds picks in
      let mean = layer_mean no_inputs v kinds defs G L typed in
      let g = block_made_grows no_inputs v kinds (with_definitions defs []) L (terms_of kinds defs) (functions_grow kinds (reverse defs)) mean
      (given_pick kinds picks) bits means o.spec vars (sym_bind o.arguments args) nodes in
      let hn = fits_fewer no_inputs v nodes out.nodes g h in
      let own : BlockOfSpec (with_definitions defs []) L o.spec t.block.shape o.arguments = record {
        scope = t.block.scope;
        defs_is = t.block.defs_is;
        without_errors = t.block.without_errors;
        kept = t.block.kept;
        agrees = t.block.agrees;
      } in
      let b = block_made_gives no_inputs v kinds (with_definitions defs []) L (terms_of kinds defs) (functions_grow kinds (reverse defs)) mean
      (given_pick kinds picks) bits means o.spec t.block.shape o.arguments own vars args nodes (values_worth no_inputs v nodes o.arguments args hn q)
      (low_stands no_inputs v nodes o.arguments args q) p h in
      let given = subst (λ y. gives (operation_signature o) y ≡ true) (sym b.answer)
      (spec.answers (block_end L bits o.spec (low_worth v L.layer.state vars) (low_worth v o.arguments args)).answer b.returned) in
      alike_from no_inputs v out.nodes h o.answer y out.value.answer fits.answer_shaped (answer_wider nodes out.nodes y g a) b.shaped
      (kept no_inputs v hn) given

  -- so is the answer of the obligation's step
  pub step_alike : (o : Obligation) → ObligationTyped defs G L o → (picks : Picks) (vars args : List SymValue) (y : Option SymValue) (nodes : List Node) →
      LowShaped nodes (variables_of L o) vars → LowShaped nodes (arguments_of o) args → AnswerShaped nodes y →
      ((inputs : Inputs) (v : Values) → Fits inputs v nodes → AnswerKept v o (answered y)) →
      (let out = outcome_made kinds (terms_of kinds defs) L o vars args picks nodes in IsBank out.nodes → AskedAlike o out.nodes y out.value.answer)
  step_alike Init t picks vars args y nodes p q a k bank = tt
  step_alike (CallOf o) t picks vars args y nodes p q a k bank = call_alike o t picks vars args y nodes p q a k bank
  step_alike (CutOf o) t picks vars args y nodes p q a k bank = tt
  step_alike (TickOf t) u picks vars args y nodes p q a k bank = tt
  step_alike (CutTickOf t) u picks vars args y nodes p q a k bank = tt
  step_alike Idle t picks vars args y nodes p q a k bank = tt
  step_alike Again t picks vars args y nodes p q a k bank = tt

-- what a step wants stays as nodes are added
pub fits_later : (l : SymLayer) (g : SymBelow) (old new : List Node) (o : Obligation) (vars args : List SymValue) (answer : Option SymValue)
    (memory low : List SymValue) (first : ℕ) → Extends old new → KeepsSingle old new → StepFits l g old o vars args answer memory low first →
    StepFits l g new o vars args answer memory low first
fits_later l g old new o vars args answer memory low first e k f = record {
  layer = f.layer;
  typed = f.typed;
  has = f.has;
  vars_are = low_wider old new (variables_of (closed l) o) vars e f.vars_are;
  args_are = low_wider old new (arguments_of o) args e f.args_are;
  memory_are = low_wider old new (l.layer.now).memory memory e f.memory_are;
  low_are = low_wider old new l.low.now low e f.low_are;
  answer_shaped = answer_wider old new answer e f.answer_shaped;
  answer_kept = λ inputs v h. f.answer_kept inputs v (fits_fewer inputs v old new e h);
  single = k first f.single;
}

-- lists of one pick more
pub any_more : (kinds : List RuleKind) (n m : ℕ) (before : Picks) (test : Picks → Make Id) → n ≡ suc m →
    and_make (any_picks kinds m (before ++ false ∷ []) test) (λ a. and_make (any_picks kinds m (before ++ true ∷ []) test) (λ b. made kinds (Bin Or a b)))
    ≡ any_picks kinds n before test
any_more kinds n m before test e = ap (λ k. any_picks kinds k before test) (sym e)

-- the test of the step's end, where each step went as it is defined to
pub passes_from : (kinds : List RuleKind) (out : Out Done) (s : Option SymValue → Make Id) (r : List SymValue → Make Id) (d : Done) (same related : Id)
    (one two three : List Node) → d ≡ out.value → one ≡ out.nodes → same ≡ (s d.answer one).value → two ≡ (s d.answer one).nodes →
    related ≡ (r d.to two).value → three ≡ (r d.to two).nodes →
    made kinds (Bin And same related) three
    ≡ goes_on out (λ out. and_make (s out.answer) (λ same. and_make (r out.to) (λ related. made kinds (Bin And same related))))
passes_from kinds out s r d same related one two three a b e f h i = cc

-- both lists of one pick more, where each step went as it is defined to
both_from : (kinds : List RuleKind) (F : Picks → Make Id) (p q xs ys : Picks) (old one two : List Node) (a b : Id) → xs ≡ p → ys ≡ q →
    a ≡ (F xs old).value → one ≡ (F xs old).nodes → b ≡ (F ys one).value → two ≡ (F ys one).nodes →
    made kinds (Bin Or a b) two ≡ and_make (F p) (λ a. and_make (F q) (λ b. made kinds (Bin Or a b))) old
both_from kinds F p q xs ys old one two a b e f g h i j = cc

pub any_from : (kinds : List RuleKind) (test : Picks → Make Id) (n m : ℕ) (before xs ys : Picks) (old one two : List Node) (a b : Id) → n ≡ suc m →
    xs ≡ before ++ false ∷ [] → ys ≡ before ++ true ∷ [] → a ≡ (any_picks kinds m xs test old).value → one ≡ (any_picks kinds m xs test old).nodes →
    b ≡ (any_picks kinds m ys test one).value → two ≡ (any_picks kinds m ys test one).nodes →
    made kinds (Bin Or a b) two ≡ any_picks kinds n before test old
any_from kinds test n m before xs ys old one two a b e f g h i j k =
    both_from kinds (λ p. any_picks kinds m p test) (before ++ false ∷ []) (before ++ true ∷ []) xs ys old one two a b f g h i j k
    ∙ ap (λ (m : Make Id). m old) (any_more kinds n m before test e)

pub none_left : (kinds : List RuleKind) (test : Picks → Make Id) (n : ℕ) (before : Picks) → n ≡ 0 → test before ≡ any_picks kinds n before test
none_left kinds test n before e = ap (λ k. any_picks kinds k before test) (sym e)
