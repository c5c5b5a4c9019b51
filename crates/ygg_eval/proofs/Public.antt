-- What the statements of a block did, as the end of a run of the block.
use Rattle.std.proofs.Common.{
  ◌≡◌,
  ℕ,
  zero,
  suc,
  ◌+◌,
  ◌<◌,
  ◌≤◌,
  Bool,
  true,
  false,
  IsSome,
  List,
  [],
  ◌∷◌,
  ◌++◌,
  map,
  length,
  take,
  ◌⊎◌,
  Option,
  Some,
  None,
  refl,
  sym,
  ap,
  ◌∙◌,
  subst,
  append_assoc,
  inl,
  inr,
  arith,
}
use Rattle.std.proofs.lemmas.List.{append-nil, length-append}
use Rattle.std.proofs.lemmas.Bool.{and_from as both_of}
use Rattle.std.specs.Prelude.{MatchBool}
use Rattle.ygg_value.specs.declared.row.Value.{Value}
use Rattle.ygg_syntax.specs.declared.grammar.BlockKind.{BlockKind}
use Rattle.ygg_syntax.specs.declared.tree.Block.{Block}
use Rattle.ygg_syntax.specs.declared.tree.Declared.{Declared}
use Rattle.ygg_syntax.specs.declared.tree.File.{File}
use Rattle.ygg_eval_expr.specs.ygg_type_rules.Names.{Named}
use Rattle.ygg_value.specs.declared.shape.Shape.{Shape}
use Rattle.ygg_eval_expr.specs.ygg_type_rules.declared.scope.Signature.{Signature}
use Rattle.ygg_eval_expr.specs.ygg_type_rules.Scopes.{Scope}
use Rattle.ygg_eval_expr.specs.ygg_meaning.Environments.{Env, bind}
use Rattle.ygg_eval_expr.specs.ygg_meaning.Shapes.{shape_in, fits, values_fit}
use Rattle.ygg_eval_expr.specs.ygg_meaning_laws_proofs_Tests.{left as first_of, right as second_of}
use Rattle.ygg_eval_expr.specs.ygg_meaning.Meaning.{functions_of}
use Rattle.ygg_eval_expr.specs.ygg_meaning.Progress.{Answer, Question, Point, Waits, Goes, Asks, Ends, in_turn, run_of, answer_of, ended, after}
use Rattle.ygg_eval_expr.specs.ygg_meaning.Runs.{Dialogue}
use Rattle.ygg_eval.specs.ygg_meaning_laws.Questions.{answer_fits, question_fits, AnswersFit, Follows}
use Rattle.ygg_eval.specs.declared.body.Stop.{Stop}
use Rattle.ygg_eval.specs.Layers.{signatures_at}
use Rattle.ygg_eval.specs.ygg_meaning_laws.Blocks.{IsSound}
use Rattle.ygg_eval.specs.Lower.{Standing, Meaning, Ending, Outage, Happened, Lacking, Serves}
use Rattle.ygg_eval.specs.Lower as ending
use Rattle.ygg_eval.specs.Conversations.{Exchange, Exchanged, Talks, asked, answers_of, calls_in}
use Rattle.ygg_eval.specs.BlockSteps.{Front, Leads, Becomes, EndsIn, FallsWhere, Stops, StarvesThere, Starves, Reaches}
use Rattle.ygg_eval.specs.Ready.{eval_in}
use Rattle.ygg_eval_expr.specs.declared.held.Binding.{Binding}
use Rattle.ygg_eval_expr.specs.Held.{env_of, held_value}
use Rattle.ygg_eval.specs.Ending.{values_in}
use Rattle.ygg_eval.specs.Runs.{Came, EndedIn, FallsAt, StoppedAt, StarvedAt, Finished, FinishedEarly, IsBeforeStop, IsShortOf, IsStop}

-- one more answer that fits what was asked for
fits_more : (lower : Named Signature) (block : Dialogue) (told : List Answer) (a : Answer) → AnswersFit lower block told →
    ((q : Question) → block told ≡ Asks q → answer_fits lower q a ≡ true) → AnswersFit lower block (told ++ a ∷ [])
fits_more lower block [] a fit new [] more b q i w = subst (λ x. answer_fits lower q x ≡ true) (first_same a b [] more i) (new q w)
  where
    first_same : (x y : Answer) (xs ys : List Answer) → x ∷ xs ≡ y ∷ ys → x ≡ y
    first_same x y xs ys h = cc
fits_more lower block [] a fit new (x ∷ []) more b q i w = absurd (cc)
fits_more lower block [] a fit new (x ∷ y ∷ t) more b q i w = absurd (cc)
fits_more lower block (y ∷ told) a fit new [] more b q i w = fit [] told b q (ap (λ x. x ∷ told) same) w
  where
    same : y ≡ b
    same = cc
fits_more lower block (y ∷ told) a fit new (x ∷ t) more b q i w =
    fits_more lower (λ u. block (y ∷ u)) told a (λ t more a q i w. fit (y ∷ t) more a q (ap (λ l. y ∷ l) i) w) new t more b q rest
    (ap (λ z. block (z ∷ t)) same ∙ w)
  where
    same : y ≡ x
    same = cc

    rest : told ++ a ∷ [] ≡ t ++ b ∷ more
    rest = cc

question_is : (p q : Question) → Asks p ≡ Asks q → p ≡ q
question_is p q h = cc

-- what the values are of names that follow declared ones: as many, under the same names, and of their shapes
pub record Bound (ds : List Declared) (vs : List Value) (left : Env) : Type 0 where
  pub leaves : bind ds (values_in (take (length vs) left)) ≡ take (length vs) left
  pub fit : values_fit ds (values_in (take (length vs) left)) ≡ true

pub bound : (ds : List Declared) (vs : List Value) (rest left : Env) → values_fit ds vs ≡ true → Follows (bind ds vs ++ rest) left → Bound ds vs left
bound [] [] rest left fit f = record { leaves = refl; fit = refl }
bound [] (v ∷ vs) rest left fit f = absurd (cc)
bound (d ∷ ds) [] rest left fit f = absurd (cc)
bound (d ∷ ds) (v ∷ vs) rest [] fit f = absurd f
bound (d ∷ ds) (v ∷ vs) rest (c ∷ left) fit (name, keeps, f) =
    let again = bound ds vs rest left (second_of (fits (shape_in d.shape) v) (values_fit ds vs) fit) f in
    record {
      leaves = ap (λ n. (n, c.1) ∷ bind ds (values_in (take (length vs) left))) (sym name) ∙ ap (λ es. c ∷ es) again.leaves;
      fit = both_of (fits (shape_in d.shape) c.1) (values_fit ds (values_in (take (length vs) left)))
          (keeps (shape_in d.shape) (first_of (fits (shape_in d.shape) v) (values_fit ds vs) fit)) again.fit;
    }

-- as many names as values that fit
pub bind_counted : (ds : List Declared) (vs : List Value) → values_fit ds vs ≡ true → length (bind ds vs) ≡ length vs
bind_counted [] [] h = refl
bind_counted [] (v ∷ vs) h = absurd (cc)
bind_counted (d ∷ ds) [] h = absurd (cc)
bind_counted (d ∷ ds) (v ∷ vs) h = ap suc (bind_counted ds vs (second_of (fits (shape_in d.shape) v) (values_fit ds vs) h))

-- the first names are those of the first bindings
pub env_of-take : (n : ℕ) (bs : List Binding) → env_of (take n bs) ≡ take n (env_of bs)
env_of-take zero bs = refl
env_of-take (suc n) [] = refl
env_of-take (suc n) (b ∷ bs) = ap (λ e. (b.name.now, held_value b.held) ∷ e) (env_of-take n bs)

-- the front of a front
pub take_shorter : (n m : ℕ) (xs : Env) → n ≤ m → take n (take m xs) ≡ take n xs
take_shorter zero m xs h = refl
take_shorter (suc n) zero xs h = absurd (omega arith)
take_shorter (suc n) (suc m) [] h = refl
take_shorter (suc n) (suc m) (x ∷ xs) h = ap (λ ys. x ∷ ys) (take_shorter n m xs (omega arith))

module _ {S : Type 0} (M : Meaning S) (file : File) (kind : BlockKind) (number : ℕ) (stop : Option Stop) (b : Block) (env : Env) (scope : Scope)
    (shape : Option Shape) (lower : scope.lower ≡ signatures_at file number)
    (sound : (told : List Answer) → AnswersFit (signatures_at file number) (after (eval_in file) b env) told →
    IsSound (functions_of file.defs) kind scope b shape env (after (eval_in file) b env told)) where
  -- what the statements of the block do
  abbrev F : Front
  F = in_turn (map (run_of (eval_in file)) b.statements) env

  -- the block, which begins with these names
  abbrev block : Dialogue
  block = after (eval_in file) b env

  -- a conversation from some answers on, which leaves this of the statements
  record Talked (told : List Answer) (from : Standing S) (xs : List (Exchange S)) (g : Front) (to : Standing S) : Type 0 where
    pub path : Talks (Exchanged M file kind number) (λ t. asked (block t)) told from xs to
    pub is : (more : List Answer) → F ((told ++ answers_of xs) ++ more) ≡ g more
    pub fit : AnswersFit (signatures_at file number) block (told ++ answers_of xs)

  talked : (told : List Answer) (f : Front) (from : Standing S) (xs : List (Exchange S)) (g : Front) (to : Standing S) →
      ((more : List Answer) → F (told ++ more) ≡ f more)
      → AnswersFit (signatures_at file number) block told → Leads M file number stop f from xs g to → Talked told from xs g to
  talked told f from [] g to is fit (same, there) = record {
    path = there;
    is = λ more. ap (λ t. F (t ++ more)) (append-nil told) ∙ is more ∙ ap (λ (h : Front). h more) same;
    fit = subst (AnswersFit (signatures_at file number) block) (sym (append-nil told)) fit;
  }
  talked told f from (x ∷ xs) g to is fit (waits, answered, rest) =
      let asks : F told ≡ Waits x.question = ap F (sym (append-nil told)) ∙ is [] ∙ waits in
      let block_asks : block told ≡ Asks x.question = ap (ended (eval_in file) b.answer env) asks in
      let again = talked (told ++ x.answer ∷ []) (λ more. f (x.answer ∷ more)) x.after xs g to
      (λ more. ap F (append_assoc told (x.answer ∷ []) more) ∙ is (x.answer ∷ more))
      (fits_more (signatures_at file number) block told x.answer fit
      (λ q w. subst (λ p. answer_fits (signatures_at file number) p x.answer ≡ true) (question_is x.question q (sym block_asks ∙ w)) answered.fit))
      rest in
      let joined = append_assoc told (x.answer ∷ []) (answers_of xs) in
      record {
        path = (
          ap asked block_asks,
          record { asks = subst (λ l. question_fits kind l x.question ≡ true) lower ((sound told fit).asks x.question block_asks); answered = answered },
          again.path,
        );
        is = λ more. ap (λ t. F (t ++ more)) (sym joined) ∙ again.is more;
        fit = subst (AnswersFit (signatures_at file number) block) joined again.fit;
      }

  none_told : AnswersFit (signatures_at file number) block []
  none_told [] more a q i w = absurd (cc)
  none_told (x ∷ told) more a q i w = absurd (cc)

  -- the block has come so far, and its statements do this with further answers
  pub record Coming (from at : Standing S) (left left' : ℕ) (g : Front) : Type 0 where
    pub came : Came M file kind number block from at
    pub is : F (answers_of came.exchanges) ≡ g []
    pub fit : AnswersFit (signatures_at file number) block (answers_of came.exchanges)
    pub counts : IsSome stop → left ≡ calls_in came.exchanges + left'

  pub coming : (from at : Standing S) (left left' : ℕ) (g : Front) → Becomes M file number stop F g from left at left' → Coming from at left left' g
  coming from at left left' g becomes =
      let t = talked [] F from becomes.exchanges g at (λ more. refl) none_told becomes.path in
      record {
        came = record { exchanges = becomes.exchanges; path = t.path };
        is = ap F (sym (append-nil (answers_of becomes.exchanges))) ∙ t.is [];
        fit = t.fit;
        counts = becomes.counts;
      }

  -- so many calls are left as the stop says, if there is one
  abbrev pub Begins : ℕ → Type 0
  Begins left = (s : Stop) → stop ≡ Some s → left ≡ s.event

  before_stop : (left left' calls : ℕ) (o : Option Stop) → stop ≡ o → Begins left → (IsSome stop → left ≡ calls + left') → (IsSome stop → 1 ≤ left') →
      IsBeforeStop o calls
  before_stop left left' calls None i begins counts later = tt
  before_stop left left' calls (Some s) i begins counts later =
      let some : IsSome stop = subst (λ (x : Option Stop). IsSome x) (sym i) refl in
      let a = begins s i in
      let c = counts some in
      let d = later some in
      omega arith

  -- a call ended the run
  pub ends_in : (how : Ending) (from to : Standing S) (left : ℕ) → Begins left →
      Reaches M file number stop F from left (λ p at l. EndsIn M file number stop how p at l to) → EndedIn M file kind number block from stop how to
  ends_in how from to left begins r =
      let c = coming from r.at left r.left' r.rest r.becomes in
      record {
        at = r.at;
        came = c.came;
        before = before_stop left r.left' (calls_in c.came.exchanges) stop refl begins c.counts r.final.later;
        name = r.final.name;
        args = r.final.args;
        asks = ap (ended (eval_in file) b.answer env) (c.is ∙ r.final.asks);
        step = r.final.step;
      }

  falls_at : (from : Standing S) (within : Bool) (how : Outage) (told : List Answer) (p : Point) (at to : Standing S) → F told ≡ p →
      FallsWhere M file number stop within how p at to → FallsAt M file kind number block from within how told at to
  falls_at from true how told p at to is f =
      record { name = f.name; args = f.args; asks = ap (ended (eval_in file) b.answer env) (is ∙ f.asks); step = f.step }
  falls_at from false how told p at to is f = f

  is_stop : (o : Option Stop) (s : Stop) (calls : ℕ) → o ≡ Some s → s.event ≡ calls → IsStop o s.within calls
  is_stop None s calls i e = absurd (cc)
  is_stop (Some t) s calls i e = let same : t ≡ s = cc in (ap (λ (x : Stop). x.within) same, ap (λ (x : Stop). x.event) same ∙ e)

  some_stop : (s : Stop) → stop ≡ Some s → IsSome stop
  some_stop s i = subst (λ (x : Option Stop). IsSome x) (sym i) refl

  -- the stop ended the run
  pub stops_at : (from to : Standing S) (left : ℕ) → Begins left →
      Reaches M file number stop F from left (λ p at l. Stops M file number stop p at l to) → StoppedAt M file kind number block from stop to
  stops_at from to left begins r =
      let c = coming from r.at left r.left' r.rest r.becomes in
      let s = r.final.where_is in
      let counted : s.event ≡ calls_in c.came.exchanges =
      let x = begins s r.final.is in
      let y = c.counts (some_stop s r.final.is) in
      let z = r.final.reached in
      omega arith in
      record {
        at = r.at;
        came = c.came;
        within = s.within;
        is = is_stop stop s (calls_in c.came.exchanges) r.final.is counted;
        falls = falls_at from s.within Happened (answers_of c.came.exchanges) (r.rest []) r.at to c.is r.final.falls;
      }

  -- no memory was left
  pub starves_in : (from to : Standing S) (left : ℕ) → Begins left → Reaches M file number stop F from left (λ p at l. Starves M file number stop p at l to)
      → EndedIn M file kind number block from stop ending.Starved to
      ⊎ (Came M file kind number block from to ⊎ StarvedAt M file kind number block from stop to)
  starves_in from to left begins r = cases r.final
    where
      c : Coming from r.at left r.left' r.rest
      c = coming from r.at left r.left' r.rest r.becomes

      at_stop : StarvesThere M file number stop (r.rest []) r.at r.left' to → StarvedAt M file kind number block from stop to
      at_stop e =
          let c' = coming from r.at left r.left' r.rest r.becomes in
          let s = e.where_is in
          let counted : s.event ≡ calls_in c'.came.exchanges =
          let x = begins s e.is in
          let y = c'.counts (some_stop s e.is) in
          let z = e.reached in
          omega arith in
          record {
            at = r.at;
            came = c'.came;
            within = s.within;
            is = is_stop stop s (calls_in c'.came.exchanges) e.is counted;
            falls = falls_at from s.within Lacking (answers_of c'.came.exchanges) (r.rest []) r.at to c'.is e.falls;
          }

      cases : Starves M file number stop (r.rest []) r.at r.left' to → EndedIn M file kind number block from stop ending.Starved to
          ⊎ (Came M file kind number block from to ⊎ StarvedAt M file kind number block from stop to)
      cases (inl e) = inl (ends_in ending.Starved from to left begins (record { rest = r.rest; at = r.at; left' = r.left'; becomes = r.becomes; final = e }))
      cases (inr (inl same)) = inr (inl (subst (λ (x : Standing S). Came M file kind number block from x) same c.came))
      cases (inr (inr e)) = inr (inr (at_stop e))

  -- the statements came to their end, with these names
  module _ (from to : Standing S) (left left' : ℕ) (env' : Env) (begins : Begins left)
      (becomes : Becomes M file number stop F (λ more. Goes env' more) from left to left') where
    whole : Coming from to left left' (λ more. Goes env' more)
    whole = coming from to left left' (λ more. Goes env' more) becomes

    ended_so : block (answers_of whole.came.exchanges) ≡ Ends (take (length env) env') (answer_of (eval_in file) b.answer env')
    ended_so = ap (ended (eval_in file) b.answer env) whole.is

    -- so the block came to its end
    pub finishes : (variables : List Declared) (values values' : List Value) (others : Env) → env ≡ bind variables values ++ others →
        values_fit variables values ≡ true → values' ≡ values_in (take (length values) env')
        → Finished M file kind number block from variables values values' (answer_of (eval_in file) b.answer env') to
    finishes variables values values' others is fit given =
        let shorter : length values ≤ length env =
        let x = ap (λ (e : Env). length e) is in
        let y = length-append (bind variables values) others in
        let z = bind_counted variables values fit in
        omega arith in
        let front = take_shorter (length values) (length env) env' shorter in
        let follows = (sound (answers_of whole.came.exchanges) whole.fit).follows (take (length env) env') (answer_of (eval_in file) b.answer env') ended_so in
        let all = bound variables values others (take (length env) env') fit (subst (λ e. Follows e (take (length env) env')) is follows) in
        let same : values' ≡ values_in (take (length values) (take (length env) env')) = given ∙ ap values_in (sym front) in
        record {
          came = whole.came;
          env = take (length env) env';
          ends = ended_so;
          leaves = ap (bind variables) same ∙ all.leaves;
          fit = ap (values_fit variables) same ∙ all.fit;
        }

    -- before its stop, where that is within a call or more calls are left
    is_short : (s : Stop) → stop ≡ Some s → (s.within ≡ false → 1 ≤ left') → IsShortOf stop (calls_in whole.came.exchanges)
    is_short s i more = at stop i
      where
        counted : s.event ≡ calls_in whole.came.exchanges + left'
        counted = sym (begins s i) ∙ whole.counts (some_stop s i)

        by_kind : (t : Stop) → t ≡ s → (w : Bool) → t.within ≡ w →
            MatchBool w (calls_in whole.came.exchanges ≤ t.event) (calls_in whole.came.exchanges < t.event)
        by_kind t e true k = let x = ap (λ (y : Stop). y.event) e in let z = counted in omega arith
        by_kind t e false k =
            let x = ap (λ (y : Stop). y.event) e in
            let z = counted in
            let m = more (ap (λ (y : Stop). y.within) (sym e) ∙ k) in
            omega arith

        at : (o : Option Stop) → o ≡ Some s → IsShortOf o (calls_in whole.came.exchanges)
        at None i = absurd (cc)
        at (Some t) i = by_kind t (cc) t.within refl

    pub finishes_early : (variables : List Declared) (values values' : List Value) (others : Env) → env ≡ bind variables values ++ others →
        values_fit variables values ≡ true
        → values' ≡ values_in (take (length values) env') → (s : Stop) → stop ≡ Some s → (s.within ≡ false → 1 ≤ left') →
        FinishedEarly M file kind number block from variables values values' stop to
    unfolding finishes
    finishes_early variables values values' others is fit given s i more = record {
      answer = answer_of (eval_in file) b.answer env';
      done = finishes variables values values' others is fit given;
      early = is_short s i more;
    }

    -- at its stop, where that comes after all its calls
    pub stops_after : (s : Stop) (lost : Standing S) → stop ≡ Some s → s.within ≡ false → left' ≡ 0 → M.Loses file to Happened lost →
        StoppedAt M file kind number block from stop lost
    stops_after s lost i before none_left loses =
        let counted : s.event ≡ calls_in whole.came.exchanges =
        let x = begins s i in
        let y = whole.counts (some_stop s i) in
        omega arith in
        let e = is_stop stop s (calls_in whole.came.exchanges) i counted in
        record { at = to; came = whole.came; within = false; is = subst (λ w. IsStop stop w (calls_in whole.came.exchanges)) before e; falls = loses }

    -- where no memory is left for that
    pub starves_after : (s : Stop) (lost : Standing S) → stop ≡ Some s → s.within ≡ false → left' ≡ 0 → M.Loses file to Lacking lost →
        StarvedAt M file kind number block from stop lost
    starves_after s lost i before none_left loses =
        let counted : s.event ≡ calls_in whole.came.exchanges =
        let x = begins s i in
        let y = whole.counts (some_stop s i) in
        omega arith in
        let e = is_stop stop s (calls_in whole.came.exchanges) i counted in
        record { at = to; came = whole.came; within = false; is = subst (λ w. IsStop stop w (calls_in whole.came.exchanges)) before e; falls = loses }

    -- no memory was left for what comes after
    pub starves_at_end : Came M file kind number block from to
    starves_at_end = whole.came
