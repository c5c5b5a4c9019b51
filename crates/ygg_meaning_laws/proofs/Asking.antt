-- A typed block asks only for what there is, whatever it is answered.
use Rattle.std.proofs.Common.{
  ◌≡◌,
  ℕ,
  zero,
  suc,
  ◌+◌,
  Bool,
  true,
  false,
  ◌&&◌,
  ◌==◌,
  if◌then◌else◌,
  List,
  [],
  ◌∷◌,
  ◌++◌,
  map,
  take,
  length,
  Option,
  Some,
  None,
  refl,
  sym,
  ap,
  ◌∙◌,
  subst,
}
use Rattle.std.proofs.lemmas.Bool.{eq-eqb, and_from as both_of}
use Rattle.ygg_value.specs.declared.shape.Shape.{Shape}
use Rattle.ygg_value.specs.declared.shape.Shape.TheVariants as shape
use Rattle.ygg_value.specs.Words.{word}
use Rattle.ygg_value.specs.declared.row.Value.{Value}
use Rattle.ygg_value.specs.declared.row.Value.TheVariants.{Word}
use Rattle.ygg_syntax.specs.declared.grammar.BlockKind.{BlockKind}
use Rattle.ygg_syntax.specs.declared.tree.Place.{Place}
use Rattle.ygg_syntax.specs.declared.tree.Name.{Name}
use Rattle.ygg_syntax.specs.declared.tree.Expr.{Expr}
use Rattle.ygg_syntax.specs.declared.tree.Source.{Source}
use Rattle.ygg_syntax.specs.declared.tree.Source.TheVariants as source
use Rattle.ygg_syntax.specs.declared.tree.Stmt.{Stmt, roll-Stmt, map-Stmt}
use Rattle.ygg_syntax.specs.declared.tree.Block.{Block, roll-Block, map-Block, fold-Block}
use Rattle.ygg_syntax.specs.declared.tree.Stmt.TheOpen.{Stmt-F, Block-F}
use Rattle.ygg_syntax.specs.declared.tree.Stmt.TheFolds.{ind-Stmt, fold-roll-Stmt, fold-roll-Block}
use Rattle.ygg_meaning_laws.specs.ygg_type_rules.Names.{Named, look_up, has, added}
use Rattle.ygg_meaning_laws.specs.Signature.{Signature}
use Rattle.ygg_meaning_laws.specs.TypeErrors.{TypeErrors, none}
use Rattle.ygg_meaning_laws.specs.Shapes.{word_shape}
use Rattle.ygg_meaning_laws.specs.Scopes.{Scope, is_taken, with_local}
use Rattle.ygg_meaning_laws.specs.Expressions.{wanted, typings, parts_of, expected_errors, with_number, number_errors}
use Rattle.ygg_meaning_laws.specs.Statements.{Walked, source_typing, call_typing, place_rule, in_order, node_walked, node_inside, walked}
use Rattle.ygg_meaning.specs.Environments.{Env}
use Rattle.ygg_meaning.specs.Meaning.{is_one}
use Rattle.ygg_meaning.specs.Progress.{
  Eval,
  Run,
  Answer,
  Point,
  Waits,
  Goes,
  Question,
  Choice,
  Call,
  and_then,
  forget_since,
  in_turn,
  for_each,
  from_source,
  ask,
  values_of,
  stmt_run,
  block_run,
  run_of,
}
use Rattle.ygg_meaning_laws.proofs.Tests.{left as first_of, right as second_of}
use Rattle.ygg_meaning_laws.specs.Kinds.{may_choose, may_call, source_keeps, all_keep, node_keeps, node_all_keep, stmt_keeps}
use Rattle.ygg_meaning_laws.proofs.TypeErrors.{called}

-- whether there is what is asked for: a choice that the kind may make, or an operation below with as many arguments
abbrev pub known : BlockKind → Named Signature → Question → Bool
known kind lower Choice = may_choose kind
known kind lower (Call name args) = may_call kind && elim (look_up name lower) [ None ↦ false | Some o ↦ length args == length o.arguments ]

-- what is waited for is known
abbrev pub Known : BlockKind → Named Signature → Point → Type 0
Known kind lower p = (q : Question) → p ≡ Waits q → known kind lower q ≡ true

goes_known : (kind : BlockKind) (lower : Named Signature) (env : Env) (left : List Answer) → Known kind lower (Goes env left)
goes_known kind lower env left q e = absurd (cc)

abbrev question_in : Question → Point → Question
question_in d (Waits q) = q
question_in d (Goes env left) = d

ask_known : (kind : BlockKind) (lower : Named Signature) (q : Question) (answers : List Answer) (f : Answer → Env) → known kind lower q ≡ true
    → Known kind lower (ask q answers (λ a left. Goes (f a) left))
ask_known kind lower q [] f k q' e = subst (λ x. known kind lower x ≡ true) (ap (question_in q) e) k
ask_known kind lower q (a ∷ left) f k q' e = absurd (cc)

then_known : (kind : BlockKind) (lower : Named Signature) (p : Point) (next : Run) → Known kind lower p →
    ((env : Env) (left : List Answer) → Known kind lower (next env left))
    → Known kind lower (and_then p next)
then_known kind lower (Waits q) next k n = k
then_known kind lower (Goes env left) next k n = n env left

forget_known : (kind : BlockKind) (lower : Named Signature) (before : Env) (p : Point) → Known kind lower p → Known kind lower (forget_since before p)
forget_known kind lower before (Waits q) k = k
forget_known kind lower before (Goes env left) k = goes_known kind lower (take (length before) env) left

if_known : (kind : BlockKind) (lower : Named Signature) (b : Bool) (p q : Point) → Known kind lower p → Known kind lower q →
    Known kind lower (if b then p else q)
if_known kind lower true p q k n = k
if_known kind lower false p q k n = n

turns_known : (kind : BlockKind) (lower : Named Signature) (count i : ℕ) (body : ℕ → Run) →
    ((i : ℕ) (env : Env) (answers : List Answer) → Known kind lower (body i env answers))
    → (env : Env) (answers : List Answer) → Known kind lower (for_each count i body env answers)
turns_known kind lower zero i body k env answers = goes_known kind lower env answers
turns_known kind lower (suc count) i body k env answers =
    then_known kind lower (body i env answers) (for_each count (i + 1) body) (k i env answers) (turns_known kind lower count (i + 1) body k)

-- as many values as parts
pub same_count : (eval : Eval) (es : List Expr) (env : Env) (scope : Scope) → length (values_of eval es env) ≡ length (parts_of (typings es scope))
same_count eval [] env scope = refl
same_count eval (e ∷ es) env scope = ap suc (same_count eval es env scope)

call_known : (eval : Eval) (kind : BlockKind) (at : Place) (used : Bool) (f : Name) (es : List Expr) (scope : Scope) (env : Env) →
    none (call_typing at used f es scope).type_errors ≡ true → may_call kind ≡ true
    → known kind scope.lower (Call f.text (values_of eval es env)) ≡ true
call_known eval kind at used f es scope env e k =
    let c = called at used f es scope e in
    let n = same_count eval es env scope ∙ c.counted in
    both_of (may_call kind) _ k
    (ap (λ (o : Option Signature). elim o as (λ o. Bool) [ None ↦ false | Some o ↦ length (values_of eval es env) == length o.arguments ]) c.found
    ∙ eq-eqb _ _ n)

source_known : (eval : Eval) (kind : BlockKind) (s : Source) (scope : Scope) → none (source_typing s scope).type_errors ≡ true → source_keeps kind s ≡ true
    → (env : Env) (f : Value → Env) (answers : List Answer) → Known kind scope.lower (from_source eval s env answers (λ v left. Goes (f v) left))
source_known eval kind (source.Value x) scope e k env f answers = goes_known kind scope.lower (f (eval x env)) answers
source_known eval kind (source.Choose at) scope e k env f answers = ask_known kind scope.lower Choice answers _ k
source_known eval kind (source.Call at g es) scope e k env f answers =
    ask_known kind scope.lower (Call g.text (values_of eval es env)) answers _ (call_known eval kind at true g es scope env e k)

-- one more name leaves the operations below as they are
pub local_lower : (name : List ℕ) (shape : Option Shape) (assignable : Bool) (scope : Scope) → (with_local name shape assignable scope).lower ≡ scope.lower
local_lower name shape assignable scope = cases (has name scope.variables)
  where
    cases : (b : Bool) → (if b then scope else record scope
        { locals = added name (record { shape = shape; assignable = assignable }) scope.locals }).lower ≡ scope.lower
    cases true = refl
    cases false = refl

-- a statement that asks only for what there is, and leaves the operations below in scope
pub record AsksKnown (t : Scope → Walked) (k : BlockKind → Bool) (r : Run) : Type 0 where
  pub lower : (scope : Scope) → (t scope).scope.lower ≡ scope.lower
  pub asks : (kind : BlockKind) (scope : Scope) → none (t scope).type_errors ≡ true → k kind ≡ true → (env : Env) (answers : List Answer) →
      Known kind scope.lower (r env answers)

-- a block inside a statement
pub record InsideKnown (t : Scope → TypeErrors) (k : BlockKind → Bool) (r : Run) : Type 0 where
  pub asks : (kind : BlockKind) (scope : Scope) → none (t scope) ≡ true → k kind ≡ true → (env : Env) (answers : List Answer) →
      Known kind scope.lower (r env answers)

abbrev Walk : Type 0
Walk = Scope → Walked

abbrev Inside : Type 0
Inside = Scope → TypeErrors

abbrev Keep : Type 0
Keep = BlockKind → Bool

module _ (eval : Eval) where
  abbrev R : Stmt → Run
  R = run_of eval

  abbrev R' : Block → Run
  R' = fold-Block Run Run (stmt_run eval) block_run

  abbrev K' : Block → BlockKind → Bool
  K' = fold-Block Keep Keep node_keeps node_all_keep

  abbrev W' : Block → Scope → TypeErrors
  W' = fold-Block Walk Inside node_walked node_inside

  abbrev S : Type 0
  S = (s : Stmt) × AsksKnown (walked s) (stmt_keeps s) (R s)

  abbrev B : Type 0
  B = (b : Block) × InsideKnown (W' b) (K' b) (R' b)

  stmt_case : (y : Stmt-F S B) →
      AsksKnown (node_walked (map-Stmt Stmt Block Walk Inside walked W' (map-Stmt S B Stmt Block (λ e. e.0) (λ e. e.0) y)))
      (node_keeps (map-Stmt Stmt Block Keep Keep stmt_keeps K' (map-Stmt S B Stmt Block (λ e. e.0) (λ e. e.0) y)))
      (stmt_run eval (map-Stmt Stmt Block Run Run R R' (map-Stmt S B Stmt Block (λ e. e.0) (λ e. e.0) y)))
  stmt_case (Stmt-F.Let x s) = record {
    lower = λ scope. local_lower x.text (source_typing s scope).part.shape true scope;
    asks = λ kind scope e k env answers. source_known eval kind s scope (second_of _ (none (source_typing s scope).type_errors) e) k env _ answers;
  }
  stmt_case (Stmt-F.Assign x at s) = record {
    lower = λ scope. refl;
    asks = λ kind scope e k env answers.
        let place = place_rule x at scope in
        let from = source_typing s scope in
        source_known eval kind s scope (first_of (none from.type_errors) (none (wanted from.part place.shape))
        (second_of (none place.type_errors) (none from.type_errors && none (wanted from.part place.shape)) e)) k env _ answers;
  }
  stmt_case (Stmt-F.If test first second) = record {
    lower = λ scope. refl;
    asks = λ kind scope e k env answers.
        let rest = second_of (none (expected_errors test (Some (shape.Word 1)) scope)) (none (W' first.0 scope) && none (W' second.0 scope)) e in
        if_known kind scope.lower (is_one (eval test env)) _ _
        (first.1.asks kind scope (first_of (none (W' first.0 scope)) (none (W' second.0 scope)) rest)
        (first_of (K' first.0 kind) (K' second.0 kind) k) env answers)
        (second.1.asks kind scope (second_of (none (W' first.0 scope)) (none (W' second.0 scope)) rest)
        (second_of (K' first.0 kind) (K' second.0 kind) k) env answers);
  }
  stmt_case (Stmt-F.For x w n each) = record {
    lower = λ scope. refl;
    asks = λ kind scope e k env answers.
        let rest = second_of (none (number_errors x (is_taken x.text scope) w n)) (none (W' each.0 (with_number x w scope))) e in
        turns_known kind scope.lower n.value 0 _
        (λ i env answers. forget_known kind scope.lower env _
        (subst (λ l. Known kind l (R' each.0 (env ++ (x.text, Word (word w.value i)) ∷ []) answers)) (local_lower x.text (word_shape w.value) false scope)
        (each.1.asks kind (with_number x w scope) rest k (env ++ (x.text, Word (word w.value i)) ∷ []) answers)))
        env answers;
  }
  stmt_case (Stmt-F.Call f es) = record {
    lower = λ scope. refl;
    asks = λ kind scope e k env answers. ask_known kind scope.lower (Call f.text (values_of eval es env)) answers _
        (call_known eval kind f.place false f es scope env e k);
  }

  -- one statement, and those after it
  in_turn_known : (s : Stmt) (ss : List Stmt) → AsksKnown (walked s) (stmt_keeps s) (R s) →
      AsksKnown (in_order (map walked ss)) (all_keep (map stmt_keeps ss)) (in_turn (map R ss))
      → AsksKnown (in_order (map walked (s ∷ ss))) (all_keep (map stmt_keeps (s ∷ ss))) (in_turn (map R (s ∷ ss)))
  in_turn_known s ss first rest = record {
    lower = λ scope. rest.lower (walked s scope).scope ∙ first.lower scope;
    asks = λ kind scope e k env answers.
        let none_first = none (walked s scope).type_errors in
        let none_rest = none (in_order (map walked ss) (walked s scope).scope).type_errors in
        then_known kind scope.lower (R s env answers) (in_turn (map R ss))
        (first.asks kind scope (first_of none_first none_rest e) (first_of (stmt_keeps s kind) (all_keep (map stmt_keeps ss) kind) k) env answers)
        (λ env left. subst (λ l. Known kind l (in_turn (map R ss) env left)) (first.lower scope)
        (rest.asks kind (walked s scope).scope (second_of none_first none_rest e)
        (second_of (stmt_keeps s kind) (all_keep (map stmt_keeps ss) kind) k) env left));
  }

  no_statements : AsksKnown (in_order []) (all_keep []) (in_turn [])
  no_statements = record { lower = λ scope. refl; asks = λ kind scope e k env answers. goes_known kind scope.lower env answers }

  turns_case : (ss : List S) → AsksKnown (in_order (map walked (map (λ e. e.0) ss))) (all_keep (map stmt_keeps (map (λ e. e.0) ss)))
      (in_turn (map R (map (λ e. e.0) ss)))
  turns_case [] = no_statements
  turns_case (s ∷ ss) = in_turn_known s.0 (map (λ e. e.0) ss) s.1 (turns_case ss)

  block_case : (y : Block-F S B) →
      InsideKnown (node_inside (map-Block Stmt Block Walk Inside walked W' (map-Block S B Stmt Block (λ e. e.0) (λ e. e.0) y)))
      (node_all_keep (map-Block Stmt Block Keep Keep stmt_keeps K' (map-Block S B Stmt Block (λ e. e.0) (λ e. e.0) y)))
      (block_run (map-Block Stmt Block Run Run R R' (map-Block S B Stmt Block (λ e. e.0) (λ e. e.0) y)))
  block_case y = record {
    asks = λ kind scope e k env answers.
        forget_known kind scope.lower env _ ((turns_case y.statements).asks kind scope (first_of _ _ e) k env answers);
  }

  pub all_known : (s : Stmt) → AsksKnown (walked s) (stmt_keeps s) (R s)
  all_known =
      ind-Stmt (λ s. AsksKnown (walked s) (stmt_keeps s) (R s)) (λ b. InsideKnown (W' b) (K' b) (R' b))
      (λ x y is.
      subst (λ t. AsksKnown t (stmt_keeps (roll-Stmt x)) (R (roll-Stmt x))) (sym (fold-roll-Stmt Walk Inside node_walked node_inside x))
      (subst (λ k. AsksKnown (node_walked (map-Stmt Stmt Block Walk Inside walked W' x)) k (R (roll-Stmt x)))
      (sym (fold-roll-Stmt Keep Keep node_keeps node_all_keep x))
      (subst (λ r. AsksKnown (node_walked (map-Stmt Stmt Block Walk Inside walked W' x))
      (node_keeps (map-Stmt Stmt Block Keep Keep stmt_keeps K' x)) r) (sym (fold-roll-Stmt Run Run (stmt_run eval) block_run x))
      (subst (λ z. AsksKnown (node_walked (map-Stmt Stmt Block Walk Inside walked W' z)) (node_keeps (map-Stmt Stmt Block Keep Keep stmt_keeps K' z))
      (stmt_run eval (map-Stmt Stmt Block Run Run R R' z))) is (stmt_case y)))))
      (λ x y is.
      subst (λ t. InsideKnown t (K' (roll-Block x)) (R' (roll-Block x))) (sym (fold-roll-Block Walk Inside node_walked node_inside x))
      (subst (λ k. InsideKnown (node_inside (map-Block Stmt Block Walk Inside walked W' x)) k (R' (roll-Block x)))
      (sym (fold-roll-Block Keep Keep node_keeps node_all_keep x))
      (subst (λ r. InsideKnown (node_inside (map-Block Stmt Block Walk Inside walked W' x))
      (node_all_keep (map-Block Stmt Block Keep Keep stmt_keeps K' x)) r) (sym (fold-roll-Block Run Run (stmt_run eval) block_run x))
      (subst (λ z. InsideKnown (node_inside (map-Block Stmt Block Walk Inside walked W' z))
      (node_all_keep (map-Block Stmt Block Keep Keep stmt_keeps K' z)) (block_run (map-Block Stmt Block Run Run R R' z))) is (block_case y)))))

  -- typed statements that keep their kind ask only for what there is
  pub statements_known : (ss : List Stmt) → AsksKnown (in_order (map walked ss)) (all_keep (map stmt_keeps ss)) (in_turn (map R ss))
  statements_known [] = no_statements
  statements_known (s ∷ ss) = in_turn_known s ss (all_known s) (statements_known ss)
