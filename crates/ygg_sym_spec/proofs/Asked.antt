-- What an implementation may ask of a specification.
use Rattle.std.proofs.Common.{◌≡◌, ◌≤◌, ◌+◌, ℕ, true, List, [], ◌∷◌, All, map, Option, Some, option_map, Result, Ok, Err, IfOk, OnOk, Bor, sym, ap, ◌∙◌, subst}
use Rattle.std.proofs.lemmas.List.Elements.{All-head, All-tail}
use Rattle.ygg_syntax.specs.declared.tree.Declared.{Declared}
use Rattle.ygg_sym_runs.specs.ygg_type_rules.declared.scope.Signature.{Signature}
use Rattle.ygg_sym_runs.specs.ygg_type_rules.Layers.{operation_signature}
use Rattle.ygg_sym_runs.specs.ygg_meaning.Shapes.{shape_in, fits, values_fit}
use Rattle.ygg_sym_runs.specs.ygg_meaning_laws.Fitting.{all_fit}
use Rattle.ygg_sym_runs.specs.ygg_meaning_laws_proofs_Tests.{left as first_of, right as second_of}
use Rattle.ygg_sym_runs.specs.ygg_meaning_laws_proofs_ProgressFits.{one_shape}
use Rattle.ygg_sym_runs.specs.ygg_meaning_laws_proofs_DiskServes.{fitting_call}
use Rattle.ygg_sym_runs.specs.ygg_rules.declared.rule.RuleKind.{RuleKind}
use Rattle.ygg_sym_runs.specs.ygg_bank.Makes.{Out}
use Rattle.ygg_sym_runs.specs.ygg_bank.Nodes.{IsBank}
use Rattle.ygg_sym_runs.specs.ygg_bank.Values.{Inputs, Values, Fits, value_of}
use Rattle.ygg_sym_runs.specs.ygg_bank.declared.node.Node.{Node}
use Rattle.ygg_sym_runs.proofs.of_ygg_shape.Answered.{no_inputs, some_fit}
use Rattle.ygg_sym_runs.specs.ygg_shape_cells.Terms.{IsShaped, worth}
use Rattle.ygg_sym_runs.specs.ygg_shape_cells.declared.terms.SymValue.{SymValue}
use Rattle.ygg_sym_runs.specs.ExpressionMeaning.{SomeShape}
use Rattle.ygg_sym_runs.proofs.Singles.{single_less}
use Rattle.ygg_sym_runs.proofs.Worths.{shape_fits}
use Rattle.ygg_sym_runs.specs.Lower.{CanAsk, question_of}
use Rattle.ygg_sym_runs.specs.declared.question.Awaited as asked
use Rattle.ygg_sym_runs.specs.declared.question.Awaited.TheVariants as question
use Rattle.ygg_sym_runs.specs.Runs.{Call}
use Rattle.ygg_sym_runs.specs.Disks.{Done, done}
use Rattle.ygg_sym_runs.specs.Lows.{LowShaped}
use Rattle.ygg_sym_runs.specs.Specs.{input_pick, spec_handles}
use Rattle.ygg_sym_runs.specs.Below.{signatures_of}
use Rattle.ygg_sym_spec.proofs.Bits.{inputs_later}
use Rattle.ygg_sym_spec.specs.Layers.{CanCut, closed, terms_in}
use Rattle.ygg_sym_spec.specs.Machine.{call_of, spec_meaning}
use Rattle.ygg_sym_spec.specs.declared.machine.SymSpec.{SymSpec}
use Rattle.ygg_sym_spec.specs.declared.picks.SymPicks.TheVariants as picks

-- values that fit declared names have their shapes
pub args_stand : (inputs : Inputs) (v : Values) (nodes : List Node) (ds : List Declared) (xs : List SymValue) → Fits inputs v nodes → All (SomeShape nodes) xs →
    values_fit ds (map (worth v) xs) ≡ true → LowShaped nodes ds xs
args_stand inputs v nodes [] [] h s e = tt
args_stand inputs v nodes [] (x ∷ xs) h s e = absurd (cc)
args_stand inputs v nodes (d ∷ ds) [] h s e = absurd (cc)
args_stand inputs v nodes (d ∷ ds) (x ∷ xs) h s e =
    let i = All-head (SomeShape nodes) x xs s in
    let fit = fits (shape_in d.shape) (worth v x) in
    let rest = values_fit ds (map (worth v) xs) in
    let same = one_shape i.shape (shape_in d.shape) (worth v x) (shape_fits inputs v nodes i.shape x h i.stands) (first_of fit rest e) in
    (subst (λ z. IsShaped nodes z x) same i.stands, args_stand inputs v nodes ds xs h (All-tail (SomeShape nodes) x xs s) (second_of fit rest e))

signature_is : (a b : Signature) → Some a ≡ Some b → a ≡ b
signature_is a b e = cc

-- the call of a question that may be asked
pub can_cut : (m : SymSpec) (q : asked.Awaited) (name : Bor (List ℕ)) (xs : Bor (List SymValue)) (vars : List SymValue) (nodes : List Node) (number : ℕ) →
    IsBank nodes → q ≡ question.Call name xs → m.first ≤ number → CanAsk (spec_meaning m) nodes (question_of q) vars →
    CanCut m.layer (picks.Inputs number) nodes name.now vars xs.now
can_cut m q name xs vars nodes number b e less may =
    let can = subst (λ z. CanAsk (spec_meaning m) nodes (question_of z) vars) e may in
    let v = value_of no_inputs nodes in
    let h = some_fit nodes b in
    let serves = (can.stands).serves in
    let typed = serves.typed in
    let sees = typed.sees in
    let operations = signatures_of (m.layer.layer.now).operations in
    let f = fitting_call operations name.now (map (worth v) xs.now) (can.fits no_inputs v h) in
    record {
      serves = serves;
      vars_are = (can.stands).has;
      args_are = λ o there.
          let e = sym f.found ∙ sees.seen name.now ∙ ap (option_map operation_signature) there in
          let fit = sees.fit name.now o (map (worth v) xs.now) there
          (subst (λ (k : Signature). all_fit k.arguments (map (worth v) xs.now) ≡ true) (signature_is f.operation (operation_signature o) e) f.fit) in
          args_stand no_inputs v nodes o.arguments xs.now h can.shaped fit;
      single = single_less m.first number nodes less (can.stands).single;
    }

-- a call at a place
pub call_goes : (kinds : List RuleKind) (m : SymSpec) (place number : ℕ) (q : asked.Awaited) (name : Bor (List ℕ)) (xs : Bor (List SymValue))
    (vars : List SymValue) (old : List Node) → number ≡ m.first + place → q ≡ question.Call name xs →
    call_of kinds m.layer number name.now xs.now vars old
    ≡ spec_handles kinds (terms_in kinds m.layer) (closed m.layer) (λ k. input_pick kinds m.first (place + k)) (question_of q) vars old
call_goes kinds m place number q name xs vars old e f =
    ap (λ z. spec_handles kinds (terms_in kinds m.layer) (closed m.layer) z (Call name.now xs.now) vars old) (inputs_later kinds m.first place number e)
    ∙ ap (λ z. spec_handles kinds (terms_in kinds m.layer) (closed m.layer) (λ k. input_pick kinds m.first (place + k)) (question_of z) vars old) (sym f)

pub answer_along : {E : Type 0} (o more : Out Done) (to : List SymValue) (r : Result (Option SymValue) E) → o ≡ more →
    IfOk r (λ a. done a to ≡ o.value) → IfOk r (λ a. a ≡ more.value.answer)
answer_along o more to (Ok a) e h = ap (λ (d : Done). d.answer) h ∙ ap (λ (z : Out Done). z.value.answer) e
answer_along o more to (Err x) e h = tt

pub state_along : {E : Type 0} (o more : Out Done) (to : List SymValue) (r : Result (Option SymValue) E) → o ≡ more →
    IfOk r (λ a. done a to ≡ o.value) → OnOk r (to ≡ more.value.to)
state_along o more to (Ok a) e h = ap (λ (d : Done). d.to) h ∙ ap (λ (z : Out Done). z.value.to) e
state_along o more to (Err x) e h = tt
