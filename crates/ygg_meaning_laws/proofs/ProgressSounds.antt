-- A typed block that is given answers that fit asks what fits, and its names keep their shapes.
use Rattle.std.proofs.Common.{
  ◌≡◌,
  ℕ,
  zero,
  suc,
  ◌+◌,
  ◌<◌,
  ◌≤◌,
  ◌^◌,
  Bool,
  true,
  false,
  ◌&&◌,
  if◌then◌else◌,
  not,
  List,
  [],
  ◌∷◌,
  ◌++◌,
  map,
  take,
  length,
  Option,
  Some,
  None,
  is_none,
  refl,
  sym,
  ap,
  ◌∙◌,
  subst,
  append_assoc,
  arith,
}
use Rattle.std.proofs.lemmas.Bool.{and_from as both_of}
use Rattle.ygg_base.specs.declared.reason.Reason.TheVariants as reason
use Rattle.ygg_value.specs.declared.shape.Shape.{Shape}
use Rattle.ygg_value.specs.declared.shape.Shape.TheVariants as shape
use Rattle.ygg_value.specs.Words.{word}
use Rattle.ygg_value.specs.Shapes.{shape_of}
use Rattle.ygg_value.specs.Values.{with_part}
use Rattle.ygg_value.specs.declared.row.Value.{Value}
use Rattle.ygg_value.specs.declared.row.Value.TheVariants.{Word}
use Rattle.ygg_syntax.specs.declared.grammar.BlockKind.{BlockKind}
use Rattle.ygg_syntax.specs.declared.tree.Place.{Place}
use Rattle.ygg_syntax.specs.declared.tree.Name.{Name}
use Rattle.ygg_syntax.specs.declared.tree.Numeral.{Numeral}
use Rattle.ygg_syntax.specs.declared.tree.Index.{Index}
use Rattle.ygg_syntax.specs.declared.tree.Expr.{Expr}
use Rattle.ygg_syntax.specs.declared.tree.Source.{Source}
use Rattle.ygg_syntax.specs.declared.tree.Source.TheVariants as source
use Rattle.ygg_syntax.specs.declared.tree.Stmt.{Stmt, roll-Stmt, map-Stmt}
use Rattle.ygg_syntax.specs.declared.tree.Block.{Block, roll-Block, map-Block, fold-Block}
use Rattle.ygg_syntax.specs.declared.tree.Stmt.TheOpen.{Stmt-F, Block-F}
use Rattle.ygg_syntax.specs.declared.tree.Stmt.TheFolds.{ind-Stmt, fold-roll-Stmt, fold-roll-Block}
use Rattle.ygg_meaning_laws.specs.ygg_type_rules.Names.{Named, look_up}
use Rattle.ygg_meaning_laws.specs.TypedExpr.{TypedExpr}
use Rattle.ygg_meaning_laws.specs.Local.{Local}
use Rattle.ygg_meaning_laws.specs.Signature.{Signature}
use Rattle.ygg_meaning_laws.specs.TypeErrors.{TypeErrors, none, nothing, one, both, unless, type_error}
use Rattle.ygg_meaning_laws.specs.Limits.{width_fits}
use Rattle.ygg_meaning_laws.specs.Shapes.{word_shape, part_shape, is_word}
use Rattle.ygg_meaning_laws.specs.Scopes.{Scope, name_in, is_taken, with_local}
use Rattle.ygg_meaning_laws.specs.Expressions.{
  own,
  wanted,
  wanted_word,
  typing,
  typings,
  type_errors_in,
  parts_of,
  index_rule,
  expected_errors,
  with_number,
  number_errors,
}
use Rattle.ygg_meaning_laws.specs.Statements.{
  Walked,
  source_typing,
  call_rule,
  call_typing,
  target_rule,
  indexed,
  place_rule,
  in_order,
  return_errors,
  node_walked,
  node_inside,
  walked,
  block_errors,
}
use Rattle.ygg_meaning.specs.Environments.{Env, assign}
use Rattle.ygg_meaning.specs.Meaning.{Functions, is_one, value_with}
use Rattle.ygg_meaning.specs.Meaning as meaning
use Rattle.ygg_meaning.specs.Shapes.{fits}
use Rattle.ygg_meaning.specs.Progress.{
  Eval,
  Run,
  Answer,
  Point,
  Waits,
  Goes,
  Question,
  Choice,
  Call,
  Progress,
  Asks,
  Ends,
  Stray,
  and_then,
  forget_since,
  in_turn,
  for_each,
  from_source,
  ask,
  value_in,
  values_of,
  indices_of,
  assigned,
  stmt_run,
  block_run,
  run_of,
  answer_of,
  ended,
  after,
}
use Rattle.ygg_meaning.proofs.Uses.{Good, all_good, statements_good}
use Rattle.ygg_meaning_laws.specs.Fitting.{HasShape, fits_wanted, all_fit}
use Rattle.ygg_meaning_laws.specs.Agrees.{Agrees}
use Rattle.ygg_meaning_laws.proofs.Tests.{left as first_of, right as second_of, passed, turned}
use Rattle.ygg_meaning_laws.proofs.Rules.{wanted_has, number_parts}
use Rattle.ygg_meaning_laws.proofs.Lists.{AllHave, have_shapes, arguments_fit}
use Rattle.ygg_meaning_laws.proofs.Fits.{fits_has, value_fits}
use Rattle.ygg_meaning_laws.proofs.Names.{value_found}
use Rattle.ygg_meaning_laws.proofs.Steps.{agrees_with_local, agrees_with_number}
use Rattle.ygg_meaning_laws.specs.Kinds.{may_call, source_keeps, all_keep, node_keeps, node_all_keep, stmt_keeps, keeps}
use Rattle.ygg_meaning_laws.specs.Questions.{plain, answer_has, gives, answer_fits, question_fits, AnswersFit, Follows}
use Rattle.ygg_meaning_laws.specs.Blocks.{eval_with, is_returned, IsSound}
use Rattle.ygg_meaning_laws.proofs.TypeErrors.{Called, called}
use Rattle.ygg_meaning_laws.proofs.ProgressFits.{one_shape, part_fits}
use Rattle.ygg_meaning_laws.proofs.Following.{
  Keeps,
  follows_same,
  follows_more,
  follows_on,
  follows_front,
  follows_cut,
  agrees_after,
  follows_assigned,
  take_assigned,
}
use Rattle.ygg_meaning_laws.proofs.Asking.{all_known, local_lower}

-- a run from some names, as it depends on its answers
abbrev pub Front : Type 0
Front = List Answer → Point

-- it goes on by a front of its answers, and leaves whatever comes after
pub record Split (f : Front) (answers : List Answer) (env : Env) (left : List Answer) : Type 0 where
  pub front : List Answer
  pub is : answers ≡ front ++ left
  pub goes : (more : List Answer) → f (front ++ more) ≡ Goes env more

abbrev pub Splits : Front → Type 0
Splits f = (answers : List Answer) (env : Env) (left : List Answer) → f answers ≡ Goes env left → Split f answers env left

pub good_splits : (r : Run) → Good r → (env : Env) → Splits (r env)
good_splits r good env answers env' left e =
    let u = good.uses env answers env' left e in
    record { front = u.front; is = u.is; goes = λ more. good.extends env u.front more env' [] u.goes }

abbrev left_in : Point → List Answer
left_in (Waits q) = []
left_in (Goes env left) = left

abbrev env_in : Env → Point → Env
env_in d (Waits q) = d
env_in d (Goes env left) = env

forget_splits : (before : Env) (f : Front) → Splits f → Splits (λ answers. forget_since before (f answers))
forget_splits before f s answers env left e = at (f answers) refl e
  where
    at : (p : Point) → f answers ≡ p → forget_since before p ≡ Goes env left → Split (λ answers. forget_since before (f answers)) answers env left
    at (Waits q) i e = absurd (cc)
    at (Goes env1 left1) i e =
        let x = s answers env1 left1 i in
        record {
          front = x.front;
          is = x.is ∙ ap (λ p. x.front ++ left_in p) e;
          goes = λ more. ap (forget_since before) (x.goes more) ∙ ap (λ p. Goes (env_in env p) more) e;
        }

-- each answer fits what is waited for after those before it
abbrev pub Told : Named Signature → Front → List Answer → Type 0
Told lower f answers = (told more : List Answer) (a : Answer) (q : Question) → answers ≡ told ++ a ∷ more → f told ≡ Waits q → answer_fits lower q a ≡ true

-- what is waited for fits, and the names with which it goes on are good
pub record Met (kind : BlockKind) (lower : Named Signature) (good : Env → Type 0) (p : Point) : Type 0 where
  pub asks : (q : Question) → p ≡ Waits q → question_fits kind lower q ≡ true
  pub goes : (env : Env) (left : List Answer) → p ≡ Goes env left → good env

abbrev question_in : Question → Point → Question
question_in d (Waits q) = q
question_in d (Goes env left) = d

module _ (kind : BlockKind) (lower : Named Signature) where
  waits_met : (good : Env → Type 0) (q : Question) → question_fits kind lower q ≡ true → Met kind lower good (Waits q)
  waits_met good q e = record { asks = λ q' i. subst (λ x. question_fits kind lower x ≡ true) (ap (question_in q) i) e; goes = λ env left i. absurd (cc) }

  goes_met : (good : Env → Type 0) (env : Env) (left : List Answer) → good env → Met kind lower good (Goes env left)
  goes_met good env left g = record { asks = λ q i. absurd (cc); goes = λ env' left' i. subst good (ap (env_in env) i) g }

  then_met : (f : Front) (next : Run) (answers : List Answer) (good good' : Env → Type 0) → Splits f → (Told lower f answers → Met kind lower good (f answers))
      → ((env : Env) (left : List Answer) → good env → Told lower (next env) left → Met kind lower good' (next env left))
      → Told lower (λ answers. and_then (f answers) next) answers → Met kind lower good' (and_then (f answers) next)
  then_met f next answers good good' splits first second t = at (f answers) refl
    where
      m : Met kind lower good (f answers)
      m = first (λ told more a q i w. t told more a q i (ap (λ p. and_then p next) w))

      at : (p : Point) → f answers ≡ p → Met kind lower good' (and_then p next)
      at (Waits q) e = waits_met good' q (m.asks q e)
      at (Goes env left) e =
          let s = splits answers env left e in
          second env left (m.goes env left e) (λ told more a q i w.
          t (s.front ++ told) more a q (s.is ∙ ap (λ l. s.front ++ l) i ∙ sym (append_assoc s.front told (a ∷ more)))
          (ap (λ p. and_then p next) (s.goes told) ∙ w))

  forget_met : (before : Env) (f : Front) (answers : List Answer) (good good' : Env → Type 0) → (Told lower f answers → Met kind lower good (f answers))
      → ((env : Env) → good env → good' (take (length before) env)) → Told lower (λ answers. forget_since before (f answers)) answers →
      Met kind lower good' (forget_since before (f answers))
  forget_met before f answers good good' first cut t = at (f answers) refl
    where
      m : Met kind lower good (f answers)
      m = first (λ told more a q i w. t told more a q i (ap (forget_since before) w))

      at : (p : Point) → f answers ≡ p → Met kind lower good' (forget_since before p)
      at (Waits q) e = waits_met good' q (m.asks q e)
      at (Goes env left) e = goes_met good' (take (length before) env) left (cut env (m.goes env left e))

  if_met : (b : Bool) (f h : Front) (answers : List Answer) (good : Env → Type 0) → (Told lower f answers → Met kind lower good (f answers)) →
      (Told lower h answers → Met kind lower good (h answers))
      → Told lower (λ answers. if b then f answers else h answers) answers → Met kind lower good (if b then f answers else h answers)
  if_met true f h answers good first second t = first t
  if_met false f h answers good first second t = second t

  ask_met : (q : Question) (g : Answer → Env) (answers : List Answer) (good : Env → Type 0) → question_fits kind lower q ≡ true →
      ((a : Answer) → answer_fits lower q a ≡ true → good (g a))
      → Told lower (λ answers. ask q answers (λ a left. Goes (g a) left)) answers → Met kind lower good (ask q answers (λ a left. Goes (g a) left))
  ask_met q g [] good e h t = waits_met good q e
  ask_met q g (a ∷ left) good e h t = goes_met good (g a) left (h a (t [] left a q refl refl))

  turns_met : (body : ℕ → Run) (bound : ℕ) (good : Env → Type 0) → ((i : ℕ) (env : Env) → Splits (body i env))
      → ((i : ℕ) → i < bound → (env : Env) (answers : List Answer) → good env → Told lower (body i env) answers → Met kind lower good (body i env answers))
      → (count i : ℕ) → i + count ≤ bound → (env : Env) (answers : List Answer) → good env → Told lower (for_each count i body env) answers →
      Met kind lower good (for_each count i body env answers)
  turns_met body bound good splits each zero i h env answers g t = goes_met good env answers g
  turns_met body bound good splits each (suc count) i h env answers g t =
      then_met (body i env) (for_each count (i + 1) body) answers good good (splits i env) (each i (omega arith) env answers g)
      (λ env' left g' t'. turns_met body bound good splits each count (i + 1) (omega arith) env' left g' t') t

-- a value that has a shape is as it is wanted
wanted_fits : (p : TypedExpr) (w : Option Shape) (v : Value) → HasShape p.shape v → none (wanted p w) ≡ true → fits_wanted w v ≡ true
wanted_fits p None v h e = refl
wanted_fits p (Some s) v h e = subst (λ k. fits k v ≡ true) (wanted_has p v s h e) (value_fits v h.limits)

open_own : (b : Bool) (o : Option Shape) → b ≡ true → (if b then o else None) ≡ o
open_own true o e = refl
open_own false o e = absurd (cc)

-- a value of a known shape that fits
shaped_has : (known : Option Shape) (v : Value) (s : Shape) → known ≡ Some s → HasShape (Some s) v → HasShape known v
shaped_has known v s e h = subst (λ o. HasShape o v) (sym e) h

abbrev pub Walk : Type 0
Walk = Scope → Walked

abbrev pub Inside : Type 0
Inside = Scope → TypeErrors

abbrev pub Keep : Type 0
Keep = BlockKind → Bool

-- typed expressions have values of their shapes
abbrev pub ExpressionsHave : Functions → Type 0
ExpressionsHave functions =
    (e : Expr) (scope : Scope) (env : meaning.Scope) → Agrees functions scope env → none (typing e scope).type_errors ≡ true →
    HasShape (typing e scope).part.shape (value_with functions e env)

module _ (functions : Functions) (lower : Named Signature) (have : ExpressionsHave functions) where
  abbrev eval : Eval
  eval = eval_with functions

  -- a scope of these operations that agrees with the names
  pub record Fine (scope : Scope) (env : Env) : Type 0 where
    pub lower_is : scope.lower ≡ lower
    pub agrees : Agrees functions scope (plain env)

  -- arguments have the shapes that typing gives them
  pub arguments_have : (es : List Expr) (scope : Scope) (env : Env) → Agrees functions scope (plain env) → none (type_errors_in (typings es scope)) ≡ true →
      AllHave (parts_of (typings es scope)) (values_of eval es env)
  arguments_have [] scope env g e = tt
  arguments_have (x ∷ es) scope env g e = (
    have x scope (plain env) g (first_of (none (typing x scope).type_errors) (none (type_errors_in (typings es scope))) e),
    arguments_have es scope env g (second_of (none (typing x scope).type_errors) (none (type_errors_in (typings es scope))) e),
  )

  -- a call asks what fits
  pub call_fits : (kind : BlockKind) (at : Place) (used : Bool) (f : Name) (es : List Expr) (scope : Scope) (env : Env) → Fine scope env →
      none (call_typing at used f es scope).type_errors ≡ true → may_call kind ≡ true
      → question_fits kind lower (Call f.text (values_of eval es env)) ≡ true
  call_fits kind at used f es scope env g e k =
      let c = called at used f es scope e in
      let all = arguments_have es scope env g.agrees c.parts in
      subst (λ l. question_fits kind l (Call f.text (values_of eval es env)) ≡ true) g.lower_is
      (both_of (may_call kind) _ k
      (ap (λ (o : Option Signature). elim o as (λ o. Bool) [ None ↦ false | Some o ↦ all_fit o.arguments (values_of eval es env) ]) c.found
      ∙ arguments_fit (parts_of (typings es scope)) (values_of eval es env) c.operation.arguments all c.counted
      (c.wanted (have_shapes (parts_of (typings es scope)) (values_of eval es env) all))))

  -- a right side asks what fits, and gives a value of its shape
  source_met : (kind : BlockKind) (s : Source) (scope : Scope) (env : Env) (f : Value → Env) (answers : List Answer) (good : Env → Type 0) → Fine scope env
      → none (source_typing s scope).type_errors ≡ true → source_keeps kind s ≡ true
      → ((v : Value) → HasShape (source_typing s scope).part.shape v → good (f v))
      → Told lower (λ answers. from_source eval s env answers (λ v left. Goes (f v) left)) answers →
      Met kind lower good (from_source eval s env answers (λ v left. Goes (f v) left))
  source_met kind (source.Value e) scope env f answers good g n k h t =
      goes_met kind lower good (f (eval e env)) answers (h (eval e env) (have e scope (plain env) g.agrees n))
  source_met kind (source.Choose at) scope env f answers good g n k h t = ask_met kind lower Choice (λ a. f (value_in a)) answers good k chosen t
    where
      chosen : (a : Answer) → answer_has (Some (shape.Word 1)) a ≡ true → good (f (value_in a))
      chosen None e = absurd (cc)
      chosen (Some v) e = h v (fits_has (shape.Word 1) v (omega arith, omega arith) e)
  source_met kind (source.Call at x es) scope env f answers good g n k h t =
      ask_met kind lower (Call x.text (values_of eval es env)) (λ a. f (value_in a)) answers good (call_fits kind at true x es scope env g n k) given t
    where
      c : Called true x es scope
      c = called at true x es scope n

      shown : (call_typing at true x es scope).part.shape ≡ c.operation.answer
      shown = ap (λ (o : Option Signature). (call_rule true x o (parts_of (typings es scope))).shape) c.found
          ∙ c.shape (have_shapes (parts_of (typings es scope)) (values_of eval es env) (arguments_have es scope env g.agrees c.parts))

      fitting : (answers : Bool) → answers ≡ true → (a : Answer) → (if answers then answer_has c.operation.answer a else is_none a) ≡ true →
          answer_has c.operation.answer a ≡ true
      fitting true i a e = e
      fitting false i a e = absurd (cc)

      given : (a : Answer) → answer_fits lower (Call x.text (values_of eval es env)) a ≡ true → good (f (value_in a))
      given a e =
          let found : look_up x.text lower ≡ Some c.operation = subst (λ l. look_up x.text l ≡ Some c.operation) g.lower_is c.found in
          let e' = sym (ap (λ (o : Option Signature). elim o as (λ o. Bool) [ None ↦ false | Some o ↦ gives o a ]) found) ∙ e in
          has a (fitting c.operation.answers (c.answers refl) a e')
        where
          has : (a : Answer) → answer_has c.operation.answer a ≡ true → good (f (value_in a))
          has None e = absurd (cc)
          has (Some v) e =
              let s = g.agrees.lower x.text c.operation c.found (c.answers refl) in
              let fit : fits s.shape v ≡ true = subst (λ o. fits_wanted o v ≡ true) s.is e in
              h v (shaped_has (call_typing at true x es scope).part.shape v s.shape (shown ∙ s.is) (fits_has s.shape v s.limits fit))

  -- indices without a type error lead to a shape
  indexed_shaped : (is : List Index) (scope : Scope) (env : Env) → Fine scope env → (s : Shape) → none (indexed is scope (Some s)).type_errors ≡ true →
      (found : Shape) × ((indexed is scope (Some s)).shape ≡ Some found)
  indexed_shaped [] scope env g s e = (s, refl)
  indexed_shaped (i ∷ is) scope env g s e =
      let o = index_rule (Some s) i.bracket (typing i.at scope).part in
      let front = first_of (none (typing i.at scope).type_errors && none o.type_errors) (none (indexed is scope o.shape).type_errors) e in
      let h = have i.at scope (plain env) g.agrees (first_of (none (typing i.at scope).type_errors) (none o.type_errors) front) in
      let shown = part_shown (typing i.at scope).part.shape (typing i.at scope).part.place (shape_of (value_with functions i.at (plain env))) h.is
      (second_of (none (typing i.at scope).type_errors) (none o.type_errors) front) in
      let rest = subst (λ k. none (indexed is scope k).type_errors ≡ true) shown
      (second_of (none (typing i.at scope).type_errors && none o.type_errors) (none (indexed is scope o.shape).type_errors) e) in
      let again = indexed_shaped is scope env g (part_shape s) rest in
      (again.0, ap (λ k. (indexed is scope k).shape) shown ∙ again.1)
    where
      part_shown : (o : Option Shape) (at : Place) (t : Shape) → o ≡ Some t →
          none (index_rule (Some s) i.bracket (record { place = at; shape = o })).type_errors ≡ true
          → (index_rule (Some s) i.bracket (record { place = at; shape = o })).shape ≡ Some (part_shape s)
      part_shown None at t i e = absurd (cc)
      part_shown (Some u) at t j e = open_own (none (both (unless (not (is_word s)) reason.Shape i.bracket)
          (wanted_word (record { place = at; shape = Some u })))) (Some (part_shape s)) e

  -- a name that may be assigned to
  pub record Target (x : Name) (scope : Scope) (env : Env) : Type 0 where
    pub value : Value
    pub found : look_up x.text env ≡ Some value
    pub has : HasShape (target_rule x (name_in x.text scope)).shape value

  pub target_of : (x : Name) (scope : Scope) (env : Env) → Fine scope env → none (target_rule x (name_in x.text scope)).type_errors ≡ true → Target x scope env
  target_of x scope env g e = cases (name_in x.text scope) refl e
    where
      cases : (o : Option Local) → name_in x.text scope ≡ o → none (target_rule x o).type_errors ≡ true → Target x scope env
      cases None i e = absurd (cc)
      cases (Some l) i e =
          let h = g.agrees.names x.text l i in
          record {
            value = h.value;
            found = h.found;
            has = subst (λ o. HasShape o h.value)
                (sym (ap (λ o. (target_rule x o).shape) i ∙ assignable l.assignable l.shape e)) h.has;
          }
        where
          assignable : (b : Bool) (known : Option Shape) → none
              (if b then own nothing known else own (one (type_error x.place reason.Unknown)) None).type_errors ≡ true
              → (if b then own nothing known else own (one (type_error x.place reason.Unknown)) None).shape ≡ known
          assignable true known e = refl
          assignable false known e = absurd (cc)

  -- the names after an assignment
  assigned_fine : (x : Name) (is : List Index) (scope : Scope) (env : Env) (from : TypedExpr) (v : Value) → Fine scope env →
      none (place_rule x is scope).type_errors ≡ true → HasShape from.shape v
      → none (wanted from (place_rule x is scope).shape) ≡ true → Follows env (assigned eval env x.text is v)
      × Agrees functions scope (plain (assigned eval env x.text is v))
  assigned_fine x is scope env from v g e h w =
      let rule = target_rule x (name_in x.text scope) in
      let t = target_of x scope env g (first_of (none rule.type_errors) (none (indexed is scope rule.shape).type_errors) e) in
      let s = shape_of t.value in
      let type_errors : none (indexed is scope (Some s)).type_errors ≡ true =
      subst (λ o. none (indexed is scope o).type_errors ≡ true) t.has.is
      (second_of (none rule.type_errors) (none (indexed is scope rule.shape).type_errors) e) in
      let (found, shown) = indexed_shaped is scope env g s type_errors in
      let fit : fits_wanted (place_rule x is scope).shape v ≡ true = wanted_fits from (place_rule x is scope).shape v h w in
      let fit' : fits found v ≡ true = subst (λ o. fits_wanted o v ≡ true) (ap (λ o. (indexed is scope o).shape) t.has.is ∙ shown) fit in
      let new = with_part t.value (indices_of eval is env) v in
      let whole : fits s new ≡ true = part_fits is scope eval env s found t.value v type_errors shown (value_fits t.value t.has.limits) fit' in
      let keeps : Keeps t.value new = λ k e. subst (λ z. fits z new ≡ true) (one_shape s k t.value (value_fits t.value t.has.limits) e) whole in
      let follows = follows_assigned x.text t.value new env t.found keeps in
      let agrees = subst (λ z. Agrees functions scope (plain z)) (take_assigned x.text new env)
      (agrees_after functions scope env (assign env x.text new) follows g.agrees) in
      subst (λ z. Follows env (assign env x.text (with_part z (indices_of eval is env) v))
      × Agrees functions scope (plain (assign env x.text (with_part z (indices_of eval is env) v))))
      (sym (value_found x.text env t.value t.found)) (follows, agrees)

  -- what names are after a statement that leaves this scope
  abbrev pub Left : Env → Scope → Env → Type 0
  Left before scope env = Follows before env × Agrees functions scope (plain env)

  -- a statement that asks what fits, and leaves names that fit
  pub record Sounds (t : Scope → Walked) (k : BlockKind → Bool) (r : Run) : Type 0 where
    pub sounds : (kind : BlockKind) (scope : Scope) (env : Env) (answers : List Answer) → Fine scope env → none (t scope).type_errors ≡ true → k kind ≡ true →
        Told lower (r env) answers
        → Met kind lower (Left env (t scope).scope) (r env answers)

  -- a block inside a statement
  pub record InsideSounds (t : Scope → TypeErrors) (k : BlockKind → Bool) (r : Run) : Type 0 where
    pub splits : (env : Env) → Splits (r env)
    pub sounds : (kind : BlockKind) (scope : Scope) (env : Env) (answers : List Answer) → Fine scope env → none (t scope) ≡ true → k kind ≡ true →
        Told lower (r env) answers
        → Met kind lower (Left env scope) (r env answers)

  abbrev R : Stmt → Run
  R = run_of eval

  abbrev R' : Block → Run
  R' = fold-Block Run Run (stmt_run eval) block_run

  abbrev K' : Block → BlockKind → Bool
  K' = fold-Block Keep Keep node_keeps node_all_keep

  abbrev W' : Block → Scope → TypeErrors
  W' = fold-Block Walk Inside node_walked node_inside

  abbrev S : Type 0
  S = (s : Stmt) × Sounds (walked s) (stmt_keeps s) (R s)

  abbrev B : Type 0
  B = (b : Block) × InsideSounds (W' b) (K' b) (R' b)

  -- the block of a loop for one number
  turn_met : (each : B) (kind : BlockKind) (x : Name) (w : Numeral) (n i : ℕ) (start : Env) (scope : Scope) → is_taken x.text scope ≡ false →
      width_fits w.value ≡ true → n ≤ 2 ^ w.value → scope.lower ≡ lower
      → none (W' each.0 (with_number x w scope)) ≡ true → K' each.0 kind ≡ true → i < n → (env : Env) (answers : List Answer) → Left start scope env
      → Told lower (λ answers. forget_since env (R' each.0 (env ++ (x.text, Word (word w.value i)) ∷ []) answers)) answers
      → Met kind lower (Left start scope) (forget_since env (R' each.0 (env ++ (x.text, Word (word w.value i)) ∷ []) answers))
  turn_met each kind x w n i start scope free width bound low e k h env answers (f, g) t =
      let inner = env ++ (x.text, Word (word w.value i)) ∷ [] in
      let fine : Fine (with_number x w scope) inner = record {
        lower_is = local_lower x.text (word_shape w.value) false scope ∙ low;
        agrees = agrees_with_number functions scope (plain env) x w i g free width (omega arith);
      } in
      forget_met kind lower env (R' each.0 inner) answers (Left inner (with_number x w scope)) (Left start scope)
      (each.1.sounds kind (with_number x w scope) inner answers fine e k)
      (λ after (f', g'). let f'' = follows_front env ((x.text, Word (word w.value i)) ∷ []) after f' in
      (follows_on start env (take (length env) after) f (follows_cut env after f''), agrees_after functions scope env after f'' g))
      t

  stmt_case : (y : Stmt-F S B) →
      Sounds (node_walked (map-Stmt Stmt Block Walk Inside walked W' (map-Stmt S B Stmt Block (λ e. e.0) (λ e. e.0) y)))
      (node_keeps (map-Stmt Stmt Block Keep Keep stmt_keeps K' (map-Stmt S B Stmt Block (λ e. e.0) (λ e. e.0) y)))
      (stmt_run eval (map-Stmt Stmt Block Run Run R R' (map-Stmt S B Stmt Block (λ e. e.0) (λ e. e.0) y)))
  stmt_case (Stmt-F.Let x s) = record {
    sounds = λ kind scope env answers g e k t.
        let from = source_typing s scope in
        let free = turned (is_taken x.text scope) (passed (not (is_taken x.text scope)) reason.Twice x.place (first_of _ (none from.type_errors) e)) in
        source_met kind s scope env (λ v. env ++ (x.text, v) ∷ []) answers (Left env (with_local x.text from.part.shape true scope)) g
        (second_of _ (none from.type_errors) e) k
        (λ v h. (follows_more env ((x.text, v) ∷ []), agrees_with_local functions scope (plain env) x.text from.part.shape true v g.agrees free h)) t;
  }
  stmt_case (Stmt-F.Assign x at s) = record {
    sounds = λ kind scope env answers g e k t.
        let place = place_rule x at scope in
        let from = source_typing s scope in
        let rest = second_of (none place.type_errors) (none from.type_errors && none (wanted from.part place.shape)) e in
        source_met kind s scope env (λ v. assigned eval env x.text at v) answers (Left env scope) g
        (first_of (none from.type_errors) (none (wanted from.part place.shape)) rest) k
        (λ v h. assigned_fine x at scope env from.part v g (first_of (none place.type_errors) _ e) h
        (second_of (none from.type_errors) (none (wanted from.part place.shape)) rest)) t;
  }
  stmt_case (Stmt-F.If test first second) = record {
    sounds = λ kind scope env answers g e k t.
        let rest = second_of (none (expected_errors test (Some (shape.Word 1)) scope)) (none (W' first.0 scope) && none (W' second.0 scope)) e in
        if_met kind lower (is_one (eval test env)) (R' first.0 env) (R' second.0 env) answers (Left env scope)
        (first.1.sounds kind scope env answers g (first_of (none (W' first.0 scope)) (none (W' second.0 scope)) rest)
        (first_of (K' first.0 kind) (K' second.0 kind) k))
        (second.1.sounds kind scope env answers g (second_of (none (W' first.0 scope)) (none (W' second.0 scope)) rest)
        (second_of (K' first.0 kind) (K' second.0 kind) k)) t;
  }
  stmt_case (Stmt-F.For x w n each) = record {
    sounds = λ kind scope env answers g e k t.
        let number = number_errors x (is_taken x.text scope) w n in
        let parts = number_parts x (is_taken x.text scope) w n (first_of (none number) (none (W' each.0 (with_number x w scope))) e) in
        turns_met kind lower (λ i env answers. forget_since env (R' each.0 (env ++ (x.text, Word (word w.value i)) ∷ []) answers)) n.value (Left env scope)
        (λ i env. forget_splits env _ (each.1.splits (env ++ (x.text, Word (word w.value i)) ∷ [])))
        (λ i h env' answers' left t'. turn_met each kind x w n.value i env scope parts.free parts.fits parts.bound g.lower_is
        (second_of (none number) (none (W' each.0 (with_number x w scope))) e) k h env' answers' left t')
        n.value 0 (omega arith) env answers (follows_same env, g.agrees) t;
  }
  stmt_case (Stmt-F.Call f es) = record {
    sounds = λ kind scope env answers g e k t.
        ask_met kind lower (Call f.text (values_of eval es env)) (λ a. env) answers (Left env scope)
        (call_fits kind f.place false f es scope env g e k) (λ a h. (follows_same env, g.agrees)) t;
  }

  -- one statement, and those after it
  in_turn_sounds : (s : Stmt) (ss : List Stmt) → Sounds (walked s) (stmt_keeps s) (R s) →
      Sounds (in_order (map walked ss)) (all_keep (map stmt_keeps ss)) (in_turn (map R ss))
      → Sounds (in_order (map walked (s ∷ ss))) (all_keep (map stmt_keeps (s ∷ ss))) (in_turn (map R (s ∷ ss)))
  in_turn_sounds s ss first rest = record {
    sounds = λ kind scope env answers g e k t.
        let none_first = none (walked s scope).type_errors in
        let none_rest = none (in_order (map walked ss) (walked s scope).scope).type_errors in
        then_met kind lower (R s env) (in_turn (map R ss)) answers (Left env (walked s scope).scope)
        (Left env (in_order (map walked ss) (walked s scope).scope).scope)
        (good_splits (R s) (all_good eval s) env)
        (first.sounds kind scope env answers g (first_of none_first none_rest e) (first_of (stmt_keeps s kind) (all_keep (map stmt_keeps ss) kind) k))
        (λ env' left (f, g') t'.
        let fine : Fine (walked s scope).scope env' = record { lower_is = (all_known eval s).lower scope ∙ g.lower_is; agrees = g' } in
        let m = rest.sounds kind (walked s scope).scope env' left fine (second_of none_first none_rest e)
        (second_of (stmt_keeps s kind) (all_keep (map stmt_keeps ss) kind) k) t' in
        record { asks = m.asks; goes = λ env'' left' i. let (f', g'') = m.goes env'' left' i in (follows_on env env' env'' f f', g'') })
        t;
  }

  no_statements : Sounds (in_order []) (all_keep []) (in_turn [])
  no_statements = record { sounds = λ kind scope env answers g e k t. goes_met kind lower (Left env scope) env answers (follows_same env, g.agrees) }

  turns_case : (ss : List S) → Sounds (in_order (map walked (map (λ e. e.0) ss))) (all_keep (map stmt_keeps (map (λ e. e.0) ss)))
      (in_turn (map R (map (λ e. e.0) ss)))
  turns_case [] = no_statements
  turns_case (s ∷ ss) = in_turn_sounds s.0 (map (λ e. e.0) ss) s.1 (turns_case ss)

  block_case : (y : Block-F S B) →
      InsideSounds (node_inside (map-Block Stmt Block Walk Inside walked W' (map-Block S B Stmt Block (λ e. e.0) (λ e. e.0) y)))
      (node_all_keep (map-Block Stmt Block Keep Keep stmt_keeps K' (map-Block S B Stmt Block (λ e. e.0) (λ e. e.0) y)))
      (block_run (map-Block Stmt Block Run Run R R' (map-Block S B Stmt Block (λ e. e.0) (λ e. e.0) y)))
  block_case y =
      let ss = map (λ e. e.0) y.statements in record {
        splits = λ env. forget_splits env (in_turn (map R ss) env) (good_splits (in_turn (map R ss)) (statements_good eval ss) env);
        sounds = λ kind scope env answers g e k t.
            forget_met kind lower env (in_turn (map R ss) env) answers (Left env (in_order (map walked ss) scope).scope) (Left env scope)
            ((turns_case y.statements).sounds kind scope env answers g (first_of _ _ e) k)
            (λ after (f, g'). (follows_cut env after f, agrees_after functions scope env after f g.agrees)) t;
      }

  pub all_sound : (s : Stmt) → Sounds (walked s) (stmt_keeps s) (R s)
  all_sound =
      ind-Stmt (λ s. Sounds (walked s) (stmt_keeps s) (R s)) (λ b. InsideSounds (W' b) (K' b) (R' b))
      (λ x y is.
      subst (λ t. Sounds t (stmt_keeps (roll-Stmt x)) (R (roll-Stmt x))) (sym (fold-roll-Stmt Walk Inside node_walked node_inside x))
      (subst (λ k. Sounds (node_walked (map-Stmt Stmt Block Walk Inside walked W' x)) k (R (roll-Stmt x)))
      (sym (fold-roll-Stmt Keep Keep node_keeps node_all_keep x))
      (subst (λ r. Sounds (node_walked (map-Stmt Stmt Block Walk Inside walked W' x)) (node_keeps (map-Stmt Stmt Block Keep Keep stmt_keeps K' x)) r)
      (sym (fold-roll-Stmt Run Run (stmt_run eval) block_run x))
      (subst (λ z. Sounds (node_walked (map-Stmt Stmt Block Walk Inside walked W' z)) (node_keeps (map-Stmt Stmt Block Keep Keep stmt_keeps K' z))
      (stmt_run eval (map-Stmt Stmt Block Run Run R R' z))) is (stmt_case y)))))
      (λ x y is.
      subst (λ t. InsideSounds t (K' (roll-Block x)) (R' (roll-Block x))) (sym (fold-roll-Block Walk Inside node_walked node_inside x))
      (subst (λ k. InsideSounds (node_inside (map-Block Stmt Block Walk Inside walked W' x)) k (R' (roll-Block x)))
      (sym (fold-roll-Block Keep Keep node_keeps node_all_keep x))
      (subst (λ r. InsideSounds (node_inside (map-Block Stmt Block Walk Inside walked W' x))
      (node_all_keep (map-Block Stmt Block Keep Keep stmt_keeps K' x)) r) (sym (fold-roll-Block Run Run (stmt_run eval) block_run x))
      (subst (λ z. InsideSounds (node_inside (map-Block Stmt Block Walk Inside walked W' z))
      (node_all_keep (map-Block Stmt Block Keep Keep stmt_keeps K' z)) (block_run (map-Block Stmt Block Run Run R R' z))) is (block_case y)))))

  -- typed statements that keep their kind
  pub statements_sound : (ss : List Stmt) → Sounds (in_order (map walked ss)) (all_keep (map stmt_keeps ss)) (in_turn (map R ss))
  statements_sound [] = no_statements
  statements_sound (s ∷ ss) = in_turn_sounds s ss (all_sound s) (statements_sound ss)

  -- what a typed block returns has the wanted shape
  pub returns_fit : (answer : Option Expr) (shape : Option Shape) (scope : Scope) (env : Env) → Agrees functions scope (plain env) →
      none (return_errors answer shape scope) ≡ true
      → is_returned answer shape (answer_of eval answer env) ≡ true
  returns_fit None shape scope env g e = refl
  returns_fit (Some x) shape scope env g e =
      wanted_fits (typing x scope).part shape (eval x env)
      (have x scope (plain env) g (first_of (none (typing x scope).type_errors) (none (wanted (typing x scope).part shape)) e))
      (second_of (none (typing x scope).type_errors) (none (wanted (typing x scope).part shape)) e)

  -- a typed block
  pub block_sound : (kind : BlockKind) (scope : Scope) (b : Block) (shape : Option Shape) (env : Env) (answers : List Answer) → Fine scope env →
      none (block_errors b shape scope) ≡ true → keeps kind b ≡ true
      → AnswersFit lower (after eval b env) answers → IsSound functions kind scope b shape env (after eval b env answers)
  block_sound kind scope b shape env answers g e k t = at (in_turn (map R b.statements) env answers) m
    where
      m : Met kind lower (Left env (in_order (map walked b.statements) scope).scope) (in_turn (map R b.statements) env answers)
      m = (statements_sound b.statements).sounds kind scope env answers g
          (first_of (none (in_order (map walked b.statements) scope).type_errors)
          (none (return_errors b.answer shape (in_order (map walked b.statements) scope).scope)) e) k
          (λ told more a q i w. t told more a q i (ap (ended eval b.answer env) w))

      at : (p : Point) → Met kind lower (Left env (in_order (map walked b.statements) scope).scope) p →
          IsSound functions kind scope b shape env (ended eval b.answer env p)
      at (Waits q) m = record {
        asks = λ q' i. subst (λ x. question_fits kind scope.lower x ≡ true) (ap (asked q) i)
            (subst (λ l. question_fits kind l q ≡ true) (sym g.lower_is) (m.asks q refl));
        follows = λ left a i. absurd (cc);
        agrees = λ left a i. absurd (cc);
        returns = λ left a i. absurd (cc);
      }
        where
          asked : Question → Progress → Question
          asked d (Asks q) = q
          asked d (Ends env a) = d
          asked d Stray = d
      at (Goes env' []) m =
          let (f, g') = m.goes env' [] refl in record {
            asks = λ q i. absurd (cc);
            follows = λ left a i. subst (λ z. Follows env z) (ap (env_at env) i) (follows_cut env env' f);
            agrees = λ left a i. subst (λ z. Agrees functions scope (plain z)) (ap (env_at env) i) (agrees_after functions scope env env' f g.agrees);
            returns = λ left a i. subst (λ z. is_returned b.answer shape z ≡ true) (ap (answer_at None) i)
                (returns_fit b.answer shape (in_order (map walked b.statements) scope).scope env' g'
                (second_of (none (in_order (map walked b.statements) scope).type_errors)
                (none (return_errors b.answer shape (in_order (map walked b.statements) scope).scope)) e));
          }
        where
          env_at : Env → Progress → Env
          env_at d (Asks q) = d
          env_at d (Ends env a) = env
          env_at d Stray = d

          answer_at : Answer → Progress → Answer
          answer_at d (Asks q) = d
          answer_at d (Ends env a) = a
          answer_at d Stray = d
      at (Goes env' (a ∷ left)) m = record {
        asks = λ q i. absurd (cc);
        follows = λ left a i. absurd (cc);
        agrees = λ left a i. absurd (cc);
        returns =
            λ left a i. absurd (cc);
      }
