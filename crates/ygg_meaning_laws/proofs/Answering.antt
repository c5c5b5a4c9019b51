-- Each call that the recovery of a typed layer makes is answered.
use Rattle.std.proofs.Common.{
  ◌≡◌,
  Bool,
  true,
  false,
  ◌==◌,
  List,
  [],
  ◌∷◌,
  ◌++◌,
  map,
  length,
  Option,
  Some,
  None,
  option_map,
  refl,
  sym,
  ap,
  ◌∙◌,
  subst,
  append_assoc,
  eqb-true,
}
use Rattle.std.proofs.lemmas.List.{append-nil}
use Rattle.ygg_value.specs.declared.row.Value.{Value}
use Rattle.ygg_syntax.specs.declared.grammar.BlockKind.TheVariants.{Impl}
use Rattle.ygg_syntax.specs.declared.tree.Expr.{Expr}
use Rattle.ygg_syntax.specs.declared.tree.DiskText.{DiskText}
use Rattle.ygg_syntax.specs.declared.tree.Declared.{Declared}
use Rattle.ygg_syntax.specs.declared.tree.Operation.{Operation}
use Rattle.ygg_syntax.specs.declared.tree.Layer.{Layer}
use Rattle.ygg_meaning_laws.specs.Weights.{Weights}
use Rattle.ygg_meaning_laws.specs.ygg_type_rules.Names.{Named, look_up}
use Rattle.ygg_meaning_laws.specs.Visibility.TheVariants.{Implementation}
use Rattle.ygg_meaning_laws.specs.Signature.{Signature}
use Rattle.ygg_meaning_laws.specs.TypeErrors.{none}
use Rattle.ygg_meaning_laws.specs.Scopes.{Scope, seen_as}
use Rattle.ygg_meaning_laws.specs.Statements.{in_order, walked}
use Rattle.ygg_meaning_laws.specs.Definitions.{parameter_shapes}
use Rattle.ygg_meaning_laws.specs.Layers.{Below, layer_scope, operation_signature}
use Rattle.ygg_meaning_laws.specs.Files.{disk_operations}
use Rattle.ygg_meaning.specs.Environments.{Name, Env}
use Rattle.ygg_meaning.specs.Meaning.{Functions}
use Rattle.ygg_meaning.specs.Shapes.{values_fit, zeros_of}
use Rattle.ygg_meaning.specs.Progress.{Eval, Answer, Point, Waits, Goes, Question, Choice, Call, Progress, Asks, ended}
use Rattle.ygg_meaning.specs.Machine.{Picks, State, based}
use Rattle.ygg_meaning.specs.Runs.{Dialogue, WholeCall, Reaches, answers_of}
use Rattle.ygg_meaning.specs.Layer.{ClosedLayer, operation_of, dialogue_of, eval_of}
use Rattle.ygg_meaning.specs.Spec.{Spec}
use Rattle.ygg_meaning.specs.DiskMachine.{DiskMachine}
use Rattle.ygg_meaning.specs.Under.{Failure, FailsBy}
use Rattle.ygg_meaning.specs.HistoryLaws.{IsAnswered, Answered}
use Rattle.ygg_meaning_laws.specs.Fitting.{all_fit}
use Rattle.ygg_meaning_laws.specs.Agrees.{Agrees}
use Rattle.ygg_meaning_laws.proofs.Tests.{left as first_of}
use Rattle.ygg_meaning_laws.specs.Questions.{plain, gives, answer_fits, question_fits}
use Rattle.ygg_meaning_laws.specs.Machines.{IsStateOf, SpecAnswers}
use Rattle.ygg_meaning_laws.proofs.Asking.{known, statements_known}
use Rattle.ygg_meaning_laws.proofs.ProgressSounds.{ExpressionsHave, block_sound}
use Rattle.ygg_meaning_laws.proofs.Views.{memory_agrees, zeros_fit}
use Rattle.ygg_meaning_laws.proofs.Operations.{IsSeen, seen_operation}
use Rattle.ygg_meaning_laws.proofs.Typed.{IsTypedLayer, Parts, parts}
use Rattle.ygg_meaning_laws.proofs.Disks.{Shows, shows_fallen, shows_after, is_call, disk_answers}

-- a block that asks waits
asks_waits : (eval : Eval) (answer : Option Expr) (before : Env) (p : Point) (q : Question) → ended eval answer before p ≡ Asks q → p ≡ Waits q
asks_waits eval answer before (Waits r) q h = ap (λ (x : Progress). waiting x) h
  where
    waiting : Progress → Point
    waiting p = elim p [ Asks q ↦ Waits q | _ ↦ Waits r ]
asks_waits eval answer before (Goes env []) q h = absurd (cc)
asks_waits eval answer before (Goes env (a ∷ left)) q h = absurd (cc)

-- a known call
pub record IsKnown (lower : Named Signature) (name : Name) (args : List Value) : Type 0 where
  pub operation : Signature
  pub found : look_up name lower ≡ Some operation
  pub counted : length args ≡ length operation.arguments

known_call : (lower : Named Signature) (name : Name) (args : List Value) → known Impl lower (Call name args) ≡ true → IsKnown lower name args
known_call lower name args h = cases (look_up name lower) refl h
  where
    cases : (o : Option Signature) → look_up name lower ≡ o →
        elim o as (λ o. Bool) [ None ↦ false | Some o ↦ length args == length o.arguments ] ≡ true → IsKnown lower name args
    cases None e h = absurd (cc)
    cases (Some o) e h = record { operation = o; found = e; counted = eqb-true _ _ h }

-- a fitting call
pub record IsFitting (lower : Named Signature) (name : Name) (args : List Value) : Type 0 where
  pub operation : Signature
  pub found : look_up name lower ≡ Some operation
  pub fit : all_fit operation.arguments args ≡ true

fitting_call : (lower : Named Signature) (name : Name) (args : List Value) → question_fits Impl lower (Call name args) ≡ true → IsFitting lower name args
fitting_call lower name args h = cases (look_up name lower) refl h
  where
    cases : (o : Option Signature) → look_up name lower ≡ o → elim o as (λ o. Bool) [ None ↦ false | Some o ↦ all_fit o.arguments args ] ≡ true →
        IsFitting lower name args
    cases None e h = absurd (cc)
    cases (Some o) e h = record { operation = o; found = e; fit = h }

abbrev first_in : Answer → List Answer → Answer
first_in d [] = d
first_in d (a ∷ rest) = a

abbrev rest_in : List Answer → List Answer
rest_in [] = []
rest_in (a ∷ rest) = rest

-- the specification below keeps its shapes, and its answers fit
module _ (m : ClosedLayer) (answers : SpecAnswers m) (lower : Named Signature)
    (seen : (name : Name) → look_up name lower ≡ option_map operation_signature (operation_of m name)) where
  pub record Kept (block : Dialogue) (told : List Answer) (calls : List (WholeCall Env Bool)) (to : State Env) : Type 0 where
    pub shaped : IsStateOf m to
    pub fit : (t more : List Answer) (a : Answer) (q : Question) → answers_of calls ≡ t ++ a ∷ more → block (told ++ t) ≡ Asks q → answer_fits lower q a ≡ true

  pub kept : (block : Dialogue) (told : List Answer) (from : State Env) (calls : List (WholeCall Env Bool)) (to : State Env) →
      Reaches (Spec m) block told from calls to → IsStateOf m from → Kept block told calls to
  kept block told from [] to h s = record { shaped = subst (IsStateOf m) h s; fit = λ t more a q i w. nowhere t more a q i }
    where
      nowhere : (t more : List Answer) (a : Answer) (q : Question) → [] ≡ t ++ a ∷ more → answer_fits lower q a ≡ true
      nowhere [] more a q i = absurd (cc)
      nowhere (x ∷ t) more a q i = absurd (cc)
  kept block told from (c ∷ calls) to (asks, step, rest) s =
      let again = kept block (told ++ c.answer ∷ []) c.after calls to rest (answers.keeps from c.after c.name c.args c.notes c.answer step) in
      record { shaped = again.shaped; fit = λ t more a q i w. by_place again.fit t more a q i w }
    where
      here : answer_fits lower (Call c.name c.args) c.answer ≡ true
      here =
          ap (λ (o : Option Signature). elim o as (λ o. Bool) [ None ↦ false | Some o ↦ gives o c.answer ])
          (seen c.name ∙ ap (option_map operation_signature) step.is)
          ∙ answers.gives from c.after c.name c.args c.notes c.answer step.operation step step.is

      by_place : ((t more : List Answer) (a : Answer) (q : Question) → answers_of calls ≡ t ++ a ∷ more →
          block ((told ++ c.answer ∷ []) ++ t) ≡ Asks q → answer_fits lower q a ≡ true)
          → (t more : List Answer) (a : Answer) (q : Question) → c.answer ∷ answers_of calls ≡ t ++ a ∷ more → block (told ++ t) ≡ Asks q →
          answer_fits lower q a ≡ true
      by_place again [] more a q i w =
          let same : c.answer ≡ a = ap (first_in c.answer) i in
          let question : Asks (Call c.name c.args) ≡ Asks q = sym asks ∙ ap block (sym (append-nil told)) ∙ w in
          subst (λ x. answer_fits lower q x ≡ true) same (subst (λ x. answer_fits lower x c.answer ≡ true) (question_is (Call c.name c.args) q question) here)
        where
          question_is : (p q : Question) → Asks p ≡ Asks q → p ≡ q
          question_is p q h = cc
      by_place again (x ∷ t) more a q i w =
          let same : c.answer ≡ x = ap (first_in c.answer) i in
          let told_is : (told ++ c.answer ∷ []) ++ t ≡ told ++ x ∷ t = append_assoc told (c.answer ∷ []) t ∙ ap (λ y. told ++ y ∷ t) same in
          again t more a q (ap rest_in i) (ap block told_is ∙ w)

module _ (functions : Functions) (defs : Named Signature) (below : Below) (weights : Weights) (l : Layer) (low : List Declared)
    (have : ExpressionsHave functions) (is : IsTypedLayer functions defs below weights l) where
  abbrev L : ClosedLayer
  L = record { functions = functions; layer = l; low = low }

  abbrev scope : Scope
  scope = seen_as Implementation (layer_scope defs below l)

  p : Parts defs below weights l
  p = parts functions defs below weights l is

  abbrev zeros : Env
  zeros = zeros_of l.memory

  abbrev asked : Dialogue
  asked = dialogue_of L l.recover zeros []

  agrees : Agrees functions (seen_as Implementation (layer_scope defs below l)) (plain (zeros_of l.memory ++ []))
  agrees = subst (λ v. Agrees functions (seen_as Implementation (layer_scope defs below l)) (plain v)) (sym (append-nil (zeros_of l.memory)))
      (memory_agrees functions defs below l is.meets is.shaped p.variables (zeros_of l.memory) (zeros_fit l.memory p.variables.memory))

  -- a recovery asks for what there is, whatever it is answered
  recover_known : (answers : List Answer) (q : Question) → dialogue_of L l.recover (zeros_of l.memory) [] answers ≡ Asks q →
      known Impl below.operations q ≡ true
  recover_known answers q h =
      (statements_known (eval_of L) l.recover.statements).asks Impl (seen_as Implementation (layer_scope defs below l))
      (first_of (none (in_order (map walked l.recover.statements) (seen_as Implementation (layer_scope defs below l))).type_errors) _ p.recover)
      p.recover_kept (zeros_of l.memory ++ []) answers q
      (asks_waits (eval_of L) l.recover.answer (zeros_of l.memory ++ []) _ q h)

  -- over a specification that answers
  pub answered_on_spec : (m : ClosedLayer) → SpecAnswers m →
      ((name : Name) → look_up name below.operations ≡ option_map operation_signature (operation_of m name))
      → ((name : Name) (o : Operation) (args : List Value) → operation_of m name ≡ Some o → all_fit (parameter_shapes o.arguments) args ≡ true →
      values_fit o.arguments args ≡ true) → Answered L (Spec m)
  answered_on_spec m answers seen fit = record { answers = answered }
    where
      by_question : (q : Question) → question_fits Impl below.operations q ≡ true → (at : State Env) → IsStateOf m at → IsAnswered (Spec m) at q
      by_question Choice e at shaped = absurd (cc)
      by_question (Call name args) e at shaped =
          let f = fitting_call below.operations name args e in
          let s = seen_operation_of m name f.operation (sym (seen name) ∙ f.found) in
          let arguments : all_fit (parameter_shapes s.operation.arguments) args ≡ true =
          subst (λ (x : Signature). all_fit x.arguments args ≡ true) (sym s.is) f.fit in
          let c = answers.calls at name args s.operation shaped s.found (fit name s.operation args s.found arguments) in
          record { name = name; args = args; notes = c.picks; answer = c.answer; after = c.to; is = refl; call = c.call }
        where
          seen_operation_of : (m : ClosedLayer) (name : Name) (s : Signature) → option_map operation_signature (operation_of m name) ≡ Some s →
              IsSeen m.layer.operations name s
          seen_operation_of m name s h = seen_operation m.layer.operations name s h

      answered : (s : State Env) (how : Failure) (picks : Picks) (f : Env) → FailsBy (Spec m) how s picks f →
          (calls : List (WholeCall Env Bool)) (at : State Env) (q : Question)
          → Reaches (Spec m) (dialogue_of L l.recover (zeros_of l.memory) []) [] (based f) calls at →
          dialogue_of L l.recover (zeros_of l.memory) [] (answers_of calls) ≡ Asks q → IsAnswered (Spec m) at q
      answered s how picks f fails calls at q path asks =
          let k = kept m answers below.operations seen (dialogue_of L l.recover (zeros_of l.memory) []) [] (based f) calls at path
          (answers.falls s how picks f fails) in
          let sound = block_sound functions below.operations have Impl (seen_as Implementation (layer_scope defs below l)) l.recover None
          (zeros_of l.memory ++ []) (answers_of calls) (record { lower_is = refl; agrees = agrees }) p.recover p.recover_kept k.fit in
          by_question q (sound.asks q asks) at k.shaped

  -- over the disk
  pub answered_on_disk : (d : DiskText) → below.operations ≡ disk_operations d → Answered L (DiskMachine d)
  answered_on_disk d seen = record { answers = answered }
    where
      by_question : (q : Question) → known Impl below.operations q ≡ true → (at : State Env) → Shows d.kind at → IsAnswered (DiskMachine d) at q
      by_question Choice e at shows = absurd (cc)
      by_question (Call name args) e at shows =
          let k = known_call below.operations name args e in
          let c = disk_answers d at name args shows (is_call d name args k.operation
          (subst (λ (x : Named Signature). look_up name x ≡ Some k.operation) seen k.found) k.counted) in
          record { name = name; args = args; notes = c.picks; answer = c.answer; after = c.to; is = refl; call = c.call }

      answered : (s : State Env) (how : Failure) (picks : Picks) (f : Env) → FailsBy (DiskMachine d) how s picks f →
          (calls : List (WholeCall Env Bool)) (at : State Env) (q : Question)
          → Reaches (DiskMachine d) (dialogue_of L l.recover (zeros_of l.memory) []) [] (based f) calls at →
          dialogue_of L l.recover (zeros_of l.memory) [] (answers_of calls) ≡ Asks q → IsAnswered (DiskMachine d) at q
      answered s how picks f fails calls at q path asks =
          by_question q (recover_known (answers_of calls) q asks) at
          (shows_after d (dialogue_of L l.recover (zeros_of l.memory) []) [] (based f) calls at path (shows_fallen d s how picks f fails))
