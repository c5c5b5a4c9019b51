-- The specification of a typed layer answers what it is asked.
use Rattle.std.proofs.Common.{
  ◌≡◌,
  ℕ,
  zero,
  suc,
  Bool,
  true,
  false,
  ◌&&◌,
  if◌then◌else◌,
  List,
  [],
  ◌∷◌,
  ◌++◌,
  map,
  length,
  take,
  replicate,
  Option,
  Some,
  None,
  is_some,
  is_none,
  refl,
  sym,
  ap,
  ◌∙◌,
  subst,
  arith,
}
use Rattle.std.proofs.lemmas.List.{append-nil, map-append}
use Rattle.ygg_value.specs.declared.shape.Shape.{Shape}
use Rattle.ygg_value.specs.declared.shape.Shape.TheVariants.{Word}
use Rattle.ygg_value.specs.Values.{digit}
use Rattle.ygg_value.specs.declared.row.Value.{Value}
use Rattle.ygg_syntax.specs.declared.grammar.BlockKind.{BlockKind}
use Rattle.ygg_syntax.specs.declared.grammar.BlockKind.TheVariants.{Plain, Spec, Impl}
use Rattle.ygg_syntax.specs.declared.tree.TypeText.{TypeText}
use Rattle.ygg_syntax.specs.declared.tree.Declared.{Declared}
use Rattle.ygg_syntax.specs.declared.tree.Expr.{Expr}
use Rattle.ygg_syntax.specs.declared.tree.Block.{Block}
use Rattle.ygg_syntax.specs.declared.tree.Operation.{Operation}
use Rattle.ygg_syntax.specs.declared.tree.Layer.{Layer}
use Rattle.ygg_meaning_laws.specs.Weights.{Weights}
use Rattle.ygg_meaning_laws.specs.ygg_type_rules.Names.{Named}
use Rattle.ygg_meaning_laws.specs.Visibility.TheVariants.{Specification}
use Rattle.ygg_meaning_laws.specs.Signature.{Signature}
use Rattle.ygg_meaning_laws.specs.TypeErrors.{none}
use Rattle.ygg_meaning_laws.specs.Shapes.{answer_shape}
use Rattle.ygg_meaning_laws.specs.Scopes.{Scope, seen_as}
use Rattle.ygg_meaning_laws.specs.Statements.{block_errors, in_order, return_errors, walked}
use Rattle.ygg_meaning_laws.specs.Definitions.{with_parameters}
use Rattle.ygg_meaning_laws.specs.Layers.{Below, layer_scope, operation_signature}
use Rattle.ygg_meaning.specs.Environments.{Name, Env, bind}
use Rattle.ygg_meaning.specs.Meaning.{Functions}
use Rattle.ygg_meaning.specs.Shapes.{values_fit, env_fits, zeros_of}
use Rattle.ygg_meaning.specs.Progress.{Answer, Point, Waits, Goes, Question, Choice, Call, in_turn, run_of, answer_of}
use Rattle.ygg_meaning.specs.Machine.{Picks, State, based}
use Rattle.ygg_meaning.specs.Layer.{ClosedLayer, eval_of, operation_of}
use Rattle.ygg_meaning.specs.Spec.{
  start_outcome,
  Outcome,
  chosen,
  outcome_at,
  block_outcome,
  then_block,
  call_outcome,
  crash_outcome,
  maybe_call,
  fall_with,
  fall_outcome,
  SpecCalls,
  SpecFalls,
  SpecLoses,
}
use Rattle.ygg_meaning.specs.Spec as machine
use Rattle.ygg_meaning.proofs.Uses.{statements_good}
use Rattle.ygg_meaning.proofs.Exact.{block_exact, exact_picks, call_picks_exact, crash_picks_exact, start_exact}
use Rattle.ygg_meaning.specs.Under.{Failure, InCall, InTick, Between, FailsBy}
use Rattle.ygg_meaning_laws.specs.Agrees.{Agrees}
use Rattle.ygg_meaning_laws.proofs.Tests.{left as first_of, right as second_of}
use Rattle.ygg_meaning_laws.specs.Kinds.{may_call, keeps, returns_declared, on_crash_keeps, operation_keeps}
use Rattle.ygg_meaning_laws.specs.Questions.{plain, answer_has, gives, answer_fits}
use Rattle.ygg_meaning_laws.specs.Blocks.{is_returned}
use Rattle.ygg_meaning_laws.specs.Machines.{IsStateOf, CanCall, CanFall, CanLose, CanStart, SpecAnswers}
use Rattle.ygg_meaning_laws.proofs.Enough.{never, Gone, statements_end}
use Rattle.ygg_meaning_laws.proofs.Asking.{known, statements_known}
use Rattle.ygg_meaning_laws.proofs.ProgressSounds.{ExpressionsHave, Told, good_splits, Met, Left, statements_sound, returns_fit}
use Rattle.ygg_meaning_laws.proofs.Following.{follows_front, fits_after}
use Rattle.ygg_meaning_laws.proofs.Views.{state_agrees, agrees_with_arguments, zeros_fit}
use Rattle.ygg_meaning_laws.proofs.Operations.{IsOperation, OnCrashTyped, find_operation}
use Rattle.ygg_meaning_laws.proofs.Typed.{IsTypedLayer, Parts, parts}

-- each answer is chosen
pub record IsChosen (a : Answer) : Type 0 where
  pub pick : Bool
  pub is : a ≡ Some (digit pick)

abbrev first_in : Answer → List Answer → Answer
first_in d [] = d
first_in d (a ∷ rest) = a

abbrev rest_in : List Answer → List Answer
rest_in [] = []
rest_in (a ∷ rest) = rest

one_chosen : (picks : Picks) (told more : List Answer) (a : Answer) → chosen picks ≡ told ++ a ∷ more → IsChosen a
one_chosen [] [] more a h = absurd (cc)
one_chosen [] (t ∷ told) more a h = absurd (cc)
one_chosen (p ∷ picks) [] more a h = record { pick = p; is = ap (first_in a) (sym h) }
one_chosen (p ∷ picks) (t ∷ told) more a h = one_chosen picks told more a (ap rest_in h)

chosen_left : (picks : Picks) (front left : List Answer) → chosen picks ≡ front ++ left → (rest : Picks) × (left ≡ chosen rest)
chosen_left picks [] left h = (picks, sym h)
chosen_left [] (a ∷ front) left h = absurd (cc)
chosen_left (p ∷ picks) (a ∷ front) left h = chosen_left picks front left (ap rest_in h)

digit_fits : (pick : Bool) → answer_has (Some (Word 1)) (Some (digit pick)) ≡ true
digit_fits true = refl
digit_fits false = refl

chosen_count : (picks : Picks) → length (chosen picks) ≡ length picks
chosen_count [] = refl
chosen_count (p ∷ picks) = ap suc (chosen_count picks)

zeros_count : (n : ℕ) → length (replicate n false) ≡ n
zeros_count zero = refl
zeros_count (suc n) = ap suc (zeros_count n)

-- how a block of a specification ends
pub record EndsWell (ds : List Declared) (b : Block) (shape : Option Shape) (o : Outcome) : Type 0 where
  pub shaped : env_fits ds o.vars ≡ true
  pub returns : is_returned b.answer shape o.answer ≡ true
  pub picks : Picks
  pub left : o.left ≡ chosen picks

module _ (L : ClosedLayer) (have : ExpressionsHave L.functions) where
  -- with picks enough it ends
  pub spec_ends : (b : Block) (vars args : Env) → keeps Spec b ≡ true → (picks : Picks) × (o : Outcome) × (block_outcome L b vars args (chosen picks) ≡ Some o)
  spec_ends b vars args k =
      let e = statements_end (eval_of L) b.statements Spec refl k in
      let picks = replicate e.needs false in
      let count : length (chosen picks) ≡ e.needs = chosen_count picks ∙ zeros_count e.needs in
      let g = e.ends (vars ++ args) (chosen picks) 0 (omega arith) in
      ended picks g
    where
      ended : (picks : Picks) → Gone (in_turn (map (run_of (eval_of L)) b.statements) (vars ++ args) (chosen picks)) 0 → (picks : Picks)
          × (o : Outcome) × (block_outcome L b vars args (chosen picks) ≡ Some o)
      ended picks g = (
        picks,
        record { vars = take (length vars) g.env; answer = answer_of (eval_of L) b.answer g.env; left = g.left },
        ap (outcome_at (eval_of L) b vars) g.is,
      )

  -- where it ends, it has kept the shapes
  pub spec_sound : (kind : BlockKind) → may_call kind ≡ false → (scope : Scope) (b : Block) (shape : Option Shape) (ds : List Declared) (vars args : Env) →
      Agrees L.functions scope (plain (vars ++ args)) → none (block_errors b shape scope) ≡ true → keeps kind b ≡ true
      → env_fits ds vars ≡ true → (picks : Picks) (o : Outcome) → block_outcome L b vars args (chosen picks) ≡ Some o → EndsWell ds b shape o
  spec_sound kind quiet scope b shape ds vars args agrees e k f picks o h =
      at (in_turn (map (run_of (eval_of L)) b.statements) (vars ++ args) (chosen picks)) refl h
    where
      asks : (told : List Answer) (q : Question) → in_turn (map (run_of (eval_of L)) b.statements) (vars ++ args) told ≡ Waits q →
          known kind scope.lower q ≡ true
      asks told q w = (statements_known (eval_of L) b.statements).asks kind scope
          (first_of (none (in_order (map walked b.statements) scope).type_errors)
          (none (return_errors b.answer shape (in_order (map walked b.statements) scope).scope)) e) k (vars ++ args) told q w

      fit : (q : Question) (a : Answer) → known kind scope.lower q ≡ true → IsChosen a → answer_fits scope.lower q a ≡ true
      fit Choice a h c = subst (λ x. answer_has (Some (Word 1)) x ≡ true) (sym c.is) (digit_fits c.pick)
      fit (Call name args) a h c = never (may_call kind) (first_of (may_call kind) _ h) quiet

      heard : Told scope.lower (in_turn (map (run_of (eval_of L)) b.statements) (vars ++ args)) (chosen picks)
      heard told more a q i w = fit q a (asks told q w) (one_chosen picks told more a i)

      m : Met kind scope.lower (Left L.functions scope.lower have (vars ++ args) (in_order (map walked b.statements) scope).scope)
          (in_turn (map (run_of (eval_of L)) b.statements) (vars ++ args) (chosen picks))
      m = (statements_sound L.functions scope.lower have b.statements).sounds kind scope (vars ++ args) (chosen picks)
          (record { lower_is = refl; agrees = agrees })
          (first_of (none (in_order (map walked b.statements) scope).type_errors)
          (none (return_errors b.answer shape (in_order (map walked b.statements) scope).scope)) e) k heard

      outcome_is : (a b : Outcome) → Some a ≡ Some b → a ≡ b
      outcome_is a b h = cc

      at : (p : Point) → in_turn (map (run_of (eval_of L)) b.statements) (vars ++ args) (chosen picks) ≡ p → outcome_at (eval_of L) b vars p ≡ Some o
          → EndsWell ds b shape o
      at (Waits q) i h = absurd (cc)
      at (Goes env left) i h =
          let (f', g) = m.goes env left i in
          let s = good_splits (in_turn (map (run_of (eval_of L)) b.statements)) (statements_good (eval_of L) b.statements) (vars ++ args)
          (chosen picks) env left i in
          let (rest, r) = chosen_left picks s.front left s.is in
          subst (EndsWell ds b shape) (outcome_is _ o h) (record {
            shaped = fits_after ds vars env (follows_front vars args env f') f;
            returns = returns_fit L.functions scope.lower have b.answer shape (in_order (map walked b.statements) scope).scope env g
                (second_of (none (in_order (map walked b.statements) scope).type_errors)
                (none (return_errors b.answer shape (in_order (map walked b.statements) scope).scope)) e);
            picks = rest;
            left = r;
          })

  -- with some picks a block ends, and another after it
  pub then_ends : (first second : Block) (vars args : Env) → keeps Spec first ≡ true → keeps Spec second ≡ true
      → (picks : Picks) × (vars' : Env) × (answer : Answer)
      × (then_block L second (block_outcome L first vars args (chosen picks)) ≡ Some (record { vars = vars'; answer = answer; left = [] }))
  then_ends first second vars args k m =
      let (p, o, e) = spec_ends first vars args k in
      let (before, f) = exact_picks (block_outcome L first vars args) (block_exact L first vars args) p o e in
      let (q, x, g) = spec_ends second o.vars [] m in
      let (after, h) = exact_picks (block_outcome L second o.vars []) (block_exact L second o.vars []) q x g in
      let whole = ap (block_outcome L first vars args) (map-append (λ (pick : Bool). Some (digit pick)) before after)
      ∙ (block_exact L first vars args).extends (chosen before) (chosen after) (record o { left = [] }) f in
      (before ++ after, x.vars, x.answer, ap (then_block L second) whole ∙ h)

  -- a block that goes on where another has ended
  pub then_sound : (scope : Scope) (b : Block) (ds : List Declared) → ((vars : Env) → env_fits ds vars ≡ true → Agrees L.functions scope (plain vars))
      → none (block_errors b None scope) ≡ true → keeps Spec b ≡ true
      → (first : Block) (shape : Option Shape) (x : Option Outcome) → ((o : Outcome) → x ≡ Some o → EndsWell ds first shape o) → (o : Outcome) →
      then_block L b x ≡ Some o → env_fits ds o.vars ≡ true
  then_sound scope b ds agrees e k first shape None well o h = absurd (cc)
  then_sound scope b ds agrees e k first shape (Some x) well o h =
      let w = well x refl in
      (spec_sound Spec refl scope b None ds x.vars [] (subst (λ v. Agrees L.functions scope (plain v)) (sym (append-nil x.vars))
      (agrees x.vars w.shaped)) e k w.shaped w.picks o
      (ap (block_outcome L b x.vars []) (sym w.left) ∙ h)).shaped

module _ (functions : Functions) (defs : Named Signature) (below : Below) (weights : Weights) (l : Layer) (low : List Declared)
    (have : ExpressionsHave functions) (is : IsTypedLayer functions defs below weights l) where
  abbrev L : ClosedLayer
  L = record { functions = functions; layer = l; low = low }

  abbrev whole : Scope
  whole = layer_scope defs below l

  p : Parts defs below weights l
  p = parts functions defs below weights l is

  agrees : (vars : Env) → env_fits l.state vars ≡ true → Agrees functions (seen_as Specification whole) (plain vars)
  agrees vars e = state_agrees functions defs below l is.meets is.shaped p.variables vars e

  fine : (name : Name) (o : Operation) → operation_of L name ≡ Some o → IsOperation o whole
  fine name o h = find_operation l.operations l.crash [] weights whole p.operations p.operations_kept name o h

  spec_kept : (o : Operation) → operation_keeps o ≡ true → (keeps Spec o.spec && returns_declared o.answer o.spec.answer && on_crash_keeps o.on_crash) ≡ true
  spec_kept o k =
      first_of (keeps Spec o.spec && returns_declared o.answer o.spec.answer && on_crash_keeps o.on_crash) (keeps Impl o.implementation)
      (first_of (keeps Spec o.spec && returns_declared o.answer o.spec.answer && on_crash_keeps o.on_crash && keeps Impl o.implementation)
      (returns_declared o.answer o.implementation.answer) k)

  -- what an operation sees
  sees : (o : Operation) → IsOperation o whole → (vars : Env) (args : List Value) → env_fits l.state vars ≡ true → values_fit o.arguments args ≡ true
      → Agrees functions (seen_as Specification (with_parameters o.arguments whole)) (plain (vars ++ bind o.arguments args))
  sees o f vars args e a = agrees_with_arguments functions Specification whole o.arguments vars args (agrees vars e) f.arguments a

  called_well : (o : Operation) → IsOperation o whole → (vars : Env) (args : List Value) → env_fits l.state vars ≡ true →
      values_fit o.arguments args ≡ true → (picks : Picks) (x : Outcome) → call_outcome L o vars args (chosen picks) ≡ Some x
      → EndsWell l.state o.spec (answer_shape o.answer) x
  called_well o f vars args e a picks x h =
      spec_sound L have Spec refl (seen_as Specification (with_parameters o.arguments whole)) o.spec (answer_shape o.answer) l.state vars
      (bind o.arguments args) (sees o f vars args e a) f.spec
      (first_of (keeps Spec o.spec) (returns_declared o.answer o.spec.answer)
      (first_of (keeps Spec o.spec && returns_declared o.answer o.spec.answer) (on_crash_keeps o.on_crash) (spec_kept o f.kept))) e picks x h

  lost_well : (vars : Env) → env_fits l.state vars ≡ true → (picks : Picks) (x : Outcome) → crash_outcome L vars (chosen picks) ≡ Some x →
      env_fits l.state x.vars ≡ true
  lost_well vars e picks x h =
      (spec_sound L have Spec refl (seen_as Specification whole) l.crash None l.state vars []
      (subst (λ v. Agrees functions (seen_as Specification whole) (plain v)) (sym (append-nil vars)) (agrees vars e)) p.crash p.crash_kept e picks
      x h).shaped

  fallen_well : (o : Operation) → IsOperation o whole → (vars : Env) (args : List Value) → env_fits l.state vars ≡ true →
      values_fit o.arguments args ≡ true → (picks : Picks) (x : Outcome) → fall_outcome L o vars args picks ≡ Some x
      → env_fits l.state x.vars ≡ true
  fallen_well o f vars args e a picks x h = by_block o.on_crash f.on_crash
      (second_of (keeps Spec o.spec && returns_declared o.answer o.spec.answer) (on_crash_keeps o.on_crash) (spec_kept o f.kept)) picks h
    where
      by_block : (b : Option Block) → OnCrashTyped b (with_parameters o.arguments whole) → on_crash_keeps b ≡ true → (picks : Picks) →
          fall_with L o b vars args picks ≡ Some x → env_fits l.state x.vars ≡ true
      by_block (Some b) t k picks h =
          then_sound L have (seen_as Specification whole) l.crash l.state agrees p.crash p.crash_kept b None
          (block_outcome L b vars (bind o.arguments args) (chosen picks))
          (λ y i. spec_sound L have Spec refl (seen_as Specification (with_parameters o.arguments whole)) b None l.state vars (bind o.arguments args)
          (sees o f vars args e a) t k e picks y i) x h
      by_block None t k [] h = absurd (cc)
      by_block None t k (true ∷ picks) h =
          then_sound L have (seen_as Specification whole) l.crash l.state agrees p.crash p.crash_kept o.spec (answer_shape o.answer)
          (call_outcome L o vars args (chosen picks))
          (λ y i. called_well o f vars args e a picks y i) x h
      by_block None t k (false ∷ picks) h = lost_well vars e picks x h

  -- the start state
  started : CanStart L
  started = at (in_turn (map (run_of (eval_of L)) l.start.statements) (zeros_of l.state ++ []) []) refl
    where
      silent : (q : Question) → known Plain below.operations q ≡ true → ⊥
      silent Choice h = cc
      silent (Call name args) h = cc

      ends : (o : Outcome) → start_outcome L ≡ Some o → CanStart L
      ends o h =
          let w = spec_sound L have Plain refl (seen_as Specification (layer_scope defs below l)) l.start None l.state (zeros_of l.state) []
          (subst (λ v. Agrees functions (seen_as Specification (layer_scope defs below l)) (plain v)) (sym (append-nil (zeros_of l.state)))
          (agrees (zeros_of l.state) (zeros_fit l.state p.variables.state)))
          p.start p.start_kept (zeros_fit l.state p.variables.state) [] o h in
          record {
            state = based o.vars;
            picks = [];
            starts = (refl, record { vars = o.vars; answer = o.answer; gives = start_exact L o h; to_is = refl });
            shaped = record { vars = o.vars; is = refl; shaped = w.shaped };
          }

      at : (x : Point) → in_turn (map (run_of (eval_of L)) l.start.statements) (zeros_of l.state ++ []) [] ≡ x → CanStart L
      at (Waits q) h =
          absurd (silent q ((statements_known (eval_of L) l.start.statements).asks Plain (seen_as Specification (layer_scope defs below l))
          (first_of (none (in_order (map walked l.start.statements) (seen_as Specification (layer_scope defs below l))).type_errors) _ p.start)
          p.start_kept (zeros_of l.state ++ []) [] q h))
      at (Goes env left) h = ends (record {
        vars = take (length (zeros_of l.state)) env;
        answer = answer_of (eval_of L) l.start.answer env;
        left =
            left;
      }) (ap (outcome_at (eval_of L) l.start (zeros_of l.state)) h)

  -- power loss between operations
  can_lose : (s : State Env) → IsStateOf L s → CanLose (machine.Spec L) s
  can_lose s shaped =
      let (picks, x, e) = spec_ends L have l.crash shaped.vars [] p.crash_kept in
      let (before, exact) = crash_picks_exact L shaped.vars picks x e in
      record {
        picks = before;
        fallen = x.vars;
        loses = record {
          vars = shaped.vars;
          from_is = shaped.is;
          shaped = shaped.shaped;
          answer = x.answer;
          gives = exact;
        };
      }

  -- an operation that power cuts
  cut_ends : (o : Operation) (b : Option Block) → on_crash_keeps b ≡ true → (vars : Env) (args : List Value)
      → (picks : Picks) × (vars' : Env) × (answer : Answer) × (fall_with L o b vars args picks ≡ Some (record { vars = vars'; answer = answer; left = [] }))
  cut_ends o (Some b) k vars args = then_ends L have b l.crash vars (bind o.arguments args) k p.crash_kept
  cut_ends o None k vars args =
      let (picks, x, e) = spec_ends L have l.crash vars [] p.crash_kept in
      let (before, exact) = crash_picks_exact L vars picks x e in
      (false ∷ before, x.vars, x.answer, exact)

  operation_same : (a b : Operation) → Some a ≡ Some b → a ≡ b
  operation_same a b h = cc

  given : (t : Option TypeText) (r : Option Expr) (a : Answer) → returns_declared t r ≡ true → is_returned r (answer_shape t) a ≡ true →
      (if is_some t then answer_has (answer_shape t) a else is_none a) ≡ true
  given None None a d h = h
  given (Some t) (Some e) a d h = h
  given None (Some e) a d h = absurd (cc)
  given (Some t) None a d h = absurd (cc)

  base_is : (a b : Env) → based a ≡ based b → a ≡ b
  base_is a b h = ap (λ (s : State Env). s.base) h

  -- the specification of a typed layer
  pub spec_answers : SpecAnswers L
  spec_answers = record { starts = started; calls = calls; cuts = cuts; can_lose = can_lose; gives = fit; keeps = kept; falls = falls }
    where
      calls : (s : State Env) (name : Name) (args : List Value) (o : Operation) → IsStateOf L s → operation_of L name ≡ Some o →
          values_fit o.arguments args ≡ true → CanCall (machine.Spec L) s name args
      calls s name args o shaped found fit =
          let f = fine name o found in
          let kept = first_of (keeps Spec o.spec) (returns_declared o.answer o.spec.answer)
          (first_of (keeps Spec o.spec && returns_declared o.answer o.spec.answer) (on_crash_keeps o.on_crash) (spec_kept o f.kept)) in
          let (picks, x, gives) = spec_ends L have o.spec shaped.vars (bind o.arguments args) kept in
          let (before, exact) = call_picks_exact L o shaped.vars args picks x gives in
          record {
            picks = before;
            answer = x.answer;
            to = based x.vars;
            call = record {
              operation = o;
              is = found;
              fit = fit;
              vars = shaped.vars;
              from_is = shaped.is;
              shaped = shaped.shaped;
              vars' = x.vars;
              gives = exact;
              to_is = refl;
            };
          }

      cuts : (s : State Env) (name : Name) (args : List Value) (o : Operation) → IsStateOf L s → operation_of L name ≡ Some o →
          values_fit o.arguments args ≡ true → CanFall (machine.Spec L) s name args
      cuts s name args o shaped found fit =
          let f = fine name o found in
          let (picks, vars, answer, gives) = cut_ends o o.on_crash
          (second_of (keeps Spec o.spec && returns_declared o.answer o.spec.answer) (on_crash_keeps o.on_crash) (spec_kept o f.kept)) shaped.vars args in
          record {
            picks = picks;
            fallen = vars;
            falls = record {
              operation = o;
              is = found;
              fit = fit;
              vars = shaped.vars;
              from_is = shaped.is;
              shaped = shaped.shaped;
              answer = answer;
              gives = gives;
            };
          }

      fit : (s to : State Env) (name : Name) (args : List Value) (picks : Picks) (answer : Answer) (o : Operation) →
          SpecCalls L s name args picks answer to → operation_of L name ≡ Some o → gives (operation_signature o) answer ≡ true
      fit s to name args picks answer o c found =
          let f = fine name c.operation c.is in
          let w = called_well c.operation f c.vars args c.shaped c.fit picks _ c.gives in
          let declared = second_of (keeps Spec c.operation.spec) (returns_declared c.operation.answer c.operation.spec.answer)
          (first_of (keeps Spec c.operation.spec && returns_declared c.operation.answer c.operation.spec.answer) (on_crash_keeps c.operation.on_crash)
          (spec_kept c.operation f.kept)) in
          subst (λ (x : Operation). gives (operation_signature x) answer ≡ true) (operation_same c.operation o (sym c.is ∙ found))
          (given c.operation.answer c.operation.spec.answer answer declared w.returns)

      kept : (s to : State Env) (name : Name) (args : List Value) (picks : Picks) (answer : Answer) → SpecCalls L s name args picks answer to → IsStateOf L to
      kept s to name args picks answer c =
          record {
            vars = c.vars';
            is = c.to_is;
            shaped = (called_well c.operation
                (fine name c.operation c.is) c.vars args c.shaped c.fit picks _ c.gives).shaped;
          }

      lost : (s : State Env) (picks : Picks) (f : Env) → SpecLoses L s picks f → IsStateOf L (based f)
      lost s picks f c = record { vars = f; is = refl; shaped = lost_well c.vars c.shaped picks _ c.gives }

      falls : (s : State Env) (how : Failure) (picks : Picks) (f : Env) → FailsBy (machine.Spec L) how s picks f → IsStateOf L (based f)
      falls s (InCall name args) picks f c = record {
        vars = f;
        is = refl;
        shaped =
            fallen_well c.operation (fine name c.operation c.is) c.vars args c.shaped c.fit picks _ c.gives;
      }
      falls s (InTick name) picks f c = lost s picks f c
      falls s Between picks f c = lost s picks f c
