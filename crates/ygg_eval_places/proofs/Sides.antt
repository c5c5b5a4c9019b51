-- Right sides by place, and the statements that have no block inside.
use Rattle.std.proofs.Common.{◌≡◌, ◌+◌, ℕ, true, List, [], ◌∷◌, ◌++◌, length, map, Option, Some}
use Rattle.std.proofs.Common.{None, Result, Ok, Err, IfOk, OnOk, refl, sym, ap, ◌∙◌, subst, arith}
use Rattle.ygg_value.specs.declared.row.Value.{Value}
use Rattle.ygg_value.specs.declared.shape.Shape.TheVariants as shape
use Rattle.ygg_syntax.specs.declared.tree.Expr.{Expr}
use Rattle.ygg_syntax.specs.declared.tree.File.{File}
use Rattle.ygg_syntax.specs.declared.tree.Index.{Index}
use Rattle.ygg_syntax.specs.declared.tree.Name.{Name}
use Rattle.ygg_syntax.specs.declared.tree.Place.{Place}
use Rattle.ygg_syntax.specs.declared.tree.Source.{Source}
use Rattle.ygg_syntax.specs.declared.tree.Source.TheVariants as source
use Rattle.ygg_syntax.specs.declared.tree.Stmt.TheOpen.{Stmt-F}
use Rattle.ygg_meaning_laws.specs.ygg_type_rules.Names.{Named}
use Rattle.ygg_meaning_laws.specs.ygg_type_rules.declared.scope.Signature.{Signature}
use Rattle.ygg_meaning_laws.specs.ygg_meaning.Environments.{Env, look_up}
use Rattle.ygg_meaning_laws.specs.ygg_meaning.Progress.{Answer, Question, Choice, Call, values_of, value_in, assigned}
use Rattle.ygg_meaning_laws.proofs.Fits.{fits_has}
use Rattle.ygg_meaning_laws.specs.Fitting.{HasShape}
use Rattle.ygg_meaning_laws.specs.Questions.{answer_fits, answer_has}
use Rattle.ygg_meaning_laws.specs.Direct.{Got, source_got, source_space, stmt_direct}
use Rattle.ygg_eval.specs.ygg_eval_expr.Writing.{CanWrite}
use Rattle.ygg_eval.specs.Layers.{signatures_at}
use Rattle.ygg_eval.specs.Ready.{eval_in, IsGiven}
use Rattle.ygg_eval.proofs.Fitting.{given_value, given_call}
use Rattle.ygg_eval_places.specs.Machines.{PlaceMeaning, IsPlaces}
use Rattle.ygg_eval_places.specs.Ready.{CanAsk, CanAssign}
use Rattle.ygg_eval_places.specs.Walks.{Ended}
use Rattle.ygg_eval_places.proofs.PlacesBelow.{value_writes}
use Rattle.ygg_eval_places.proofs.Parts.{assign_asks, ask_calls, choice_can, call_asks}

-- what follows where there is a result
pub if_ok : {T E : Type 0} {P Q : T → Type 0} (r : Result T E) → IfOk r P → ((t : T) → P t → Q t) → IfOk r Q
if_ok (Ok t) p f = f t p
if_ok (Err e) p f = tt

-- and from several facts of it
pub if_all_ok : {T E A B : Type 0} {P Q : T → Type 0} (r : Result T E) → IfOk r P → OnOk r A → OnOk r B → ((t : T) → P t → A → B → Q t) → IfOk r Q
if_all_ok (Ok t) p a b f = f t p a b
if_all_ok (Err e) p a b f = tt

module _ {S : Type 0} (M : PlaceMeaning S) (file : File) where
  abbrev got : Source → ℕ → Env → M.Is → Got M.Is
  got = source_got (eval_in file) M.space M.handle

  -- what a right side gives, by its form
  module _ (from : Source) (place : ℕ) (env : Env) (s : M.Is) where
    pub value_got : (e : Expr) (v : Value) → from ≡ source.Value e → v ≡ eval_in file e env →
        v ≡ (source_got (eval_in file) M.space M.handle from place env s).value
    value_got e v is h = h ∙ ap (λ t. (got t place env s).value) (sym is)

    pub value_stays : (e : Expr) → from ≡ source.Value e → s ≡ (source_got (eval_in file) M.space M.handle from place env s).to
    value_stays e is = ap (λ t. (got t place env s).to) (sym is)

    pub choice_got : (at : Place) (v : Value) → from ≡ source.Choose at → v ≡ value_in (M.handle place Choice s).answer →
        v ≡ (source_got (eval_in file) M.space M.handle from place env s).value
    choice_got at v is h = h ∙ ap (λ t. (got t place env s).value) (sym is)

    pub choice_to : (at : Place) (s' : M.Is) → from ≡ source.Choose at → s' ≡ (M.handle place Choice s).to →
        s' ≡ (source_got (eval_in file) M.space M.handle from place env s).to
    choice_to at s' is h = h ∙ ap (λ t. (got t place env s).to) (sym is)

    module _ (at : Place) (f : Name) (es xs : List Expr) (args : List Value) (is : from ≡ source.Call at f es) (same : xs ≡ es)
        (made : args ≡ values_of (eval_in file) xs env) where
      asked : Call f.text args ≡ Call f.text (values_of (eval_in file) es env)
      asked = ap (Call f.text) (made ∙ ap (λ z. values_of (eval_in file) z env) same)

      pub call_got : (v : Value) → v ≡ value_in (M.handle place (Call f.text args) s).answer →
          v ≡ (source_got (eval_in file) M.space M.handle from place env s).value
      call_got v h = h ∙ ap (λ q. value_in (M.handle place q s).answer) asked ∙ ap (λ t. (got t place env s).value) (sym is)

      pub call_to : (s' : M.Is) → s' ≡ (M.handle place (Call f.text args) s).to → s' ≡ (source_got (eval_in file) M.space M.handle from place env s).to
      call_to s' h = h ∙ ap (λ q. (M.handle place q s).to) asked ∙ ap (λ t. (got t place env s).to) (sym is)

  -- a word of width 1
  bit_has : (a : Answer) → answer_has (Some (shape.Word 1)) a ≡ true → HasShape (Some (shape.Word 1)) (value_in a)
  bit_has None e = absurd (cc)
  bit_has (Some v) e = fits_has (shape.Word 1) v (omega arith, omega arith) e

  -- the value of a right side has the shape that typing gives it
  given_is : (law : IsPlaces M) (number : ℕ) (from : Source) (place : ℕ) (env : Env) (s : M.Is) → CanAsk M file number from env s →
      IsGiven file number from env (got from place env s).value
  given_is law number (source.Value e) place env s can = given_value file number (source.Value e) e env (eval_in file e env) refl refl
  given_is law number (source.Choose at) place env s can =
      let a = (M.handle place Choice s).answer in
      let fit = law.fits place Choice s (choice_can M law file number (source.Choose at) at env s refl can) in
      λ scope lower agrees n. bit_has a fit
  given_is law number (source.Call at f es) place env s can =
      let q = Call f.text (values_of (eval_in file) es env) in
      let a = (M.handle place q s).answer in
      let asks = call_asks M law file number f es env s (ask_calls M law file number (source.Call at f es) at f es env s refl can) in
      let fit = subst (λ (l : Named Signature). answer_fits l q a ≡ true) can.fits.sees (law.fits place q s asks) in
      given_call file number (source.Call at f es) at f es env a (value_in a) refl fit refl

  -- the value may be written
  pub can_write : (law : IsPlaces M) (number : ℕ) (x : Name) (is : List Index) (from : Source) (place : ℕ) (env : Env) (s : M.Is) (v : Value) →
      CanAssign M file number x is from env s → v ≡ (source_got (eval_in file) M.space M.handle from place env s).value →
      CanWrite (look_up x.text env) (length is) v
  can_write law number x is from place env s v can h =
      value_writes M file number x is from env s v can
      (subst (λ u. IsGiven file number from env u) (sym h) (given_is law number from place env s (assign_asks M law file number x is from env s can)))

  -- a `let`, an assignment and a call that have ended
  module _ (place end : ℕ) (env env' : Env) (s s' : M.Is) where
    pub let_ends : (x : Name) (from : Source) (v : Value) → end ≡ place + source_space M.space from →
        v ≡ (source_got (eval_in file) M.space M.handle from place env s).value → s' ≡ (source_got (eval_in file) M.space M.handle from place env s).to →
        env' ≡ env ++ (x.text, v) ∷ [] → Ended (stmt_direct (eval_in file) M.space M.handle (Stmt-F.Let x from)) place env s end env' s'
    let_ends x from v e h z n = record { place = e; names = n ∙ ap (λ u. env ++ (x.text, u) ∷ []) h; state = z }

    pub assign_ends : (x : Name) (is : List Index) (from : Source) (v : Value) → end ≡ place + source_space M.space from →
        v ≡ (source_got (eval_in file) M.space M.handle from place env s).value → s' ≡ (source_got (eval_in file) M.space M.handle from place env s).to →
        env' ≡ assigned (eval_in file) env x.text is v → Ended (stmt_direct (eval_in file) M.space M.handle (Stmt-F.Assign x is from)) place env s end env' s'
    assign_ends x is from v e h z n = record { place = e; names = n ∙ ap (λ u. assigned (eval_in file) env x.text is u) h; state = z }

  pub call_ends : (place room end : ℕ) (env : Env) (s s' : M.Is) (f : Name) (es : List Expr) (args : List Value) → room ≡ M.space f.text →
      end ≡ place + room → args ≡ values_of (eval_in file) es env → s' ≡ (M.handle place (Call f.text args) s).to →
      Ended (stmt_direct (eval_in file) M.space M.handle (Stmt-F.Call f es)) place env s end env s'
  call_ends place room end env s s' f es args r e made z = record {
    place = e ∙ ap (λ n. place + n) r;
    names = refl;
    state = z ∙ ap (λ xs. (M.handle place (Call f.text xs) s).to) made;
  }
