-- The end of a run of a block that is ready, from what its statements did.
use Rattle.std.proofs.Common.{
  ◌≡◌,
  ℕ,
  true,
  List,
  [],
  ◌∷◌,
  ◌++◌,
  map,
  length,
  take,
  Option,
  Some,
  Result,
  Ok,
  Err,
  IsErr,
  refl,
  sym,
  ap,
  ◌∙◌,
  subst,
  slice_get,
  inl,
  inr,
}
use Rattle.ygg_list.specs.declared.memory.NoMemory.{NoMemory}
use Rattle.ygg_value.specs.declared.row.Value.{Value}
use Rattle.ygg_syntax.specs.declared.grammar.BlockKind.{BlockKind}
use Rattle.ygg_syntax.specs.declared.tree.Block.{Block}
use Rattle.ygg_syntax.specs.declared.tree.Declared.{Declared}
use Rattle.ygg_syntax.specs.declared.tree.Expr.{Expr}
use Rattle.ygg_syntax.specs.declared.tree.Layer.{Layer}
use Rattle.ygg_syntax.specs.declared.tree.Stmt.{Stmt}
use Rattle.ygg_syntax.specs.declared.tree.File.{File}
use Rattle.ygg_eval_expr.specs.ygg_type_rules.TypeErrors.{none}
use Rattle.ygg_eval_expr.specs.ygg_type_rules.Scopes.{Scope}
use Rattle.ygg_eval_expr.specs.ygg_type_rules.Expressions.{typing}
use Rattle.ygg_eval_expr.specs.ygg_type_rules.Statements.{in_order, walked, return_errors}
use Rattle.ygg_eval_expr.specs.ygg_meaning.Environments.{Env, bind}
use Rattle.ygg_eval_expr.specs.ygg_meaning.Meaning.{functions_of}
use Rattle.ygg_eval_expr.specs.ygg_meaning.Shapes.{values_fit}
use Rattle.ygg_eval_expr.specs.ygg_meaning.Progress.{Answer, Goes, in_turn, run_of, ended, after}
use Rattle.ygg_eval_expr.specs.Known.{CanEvaluate}
use Rattle.ygg_eval_expr.specs.ygg_meaning_laws.Agrees.{Agrees}
use Rattle.ygg_eval_expr.specs.ygg_meaning_laws_proofs_Tests.{left as first_of, right as second_of}
use Rattle.ygg_eval.specs.ygg_meaning_laws.Questions.{plain, AnswersFit}
use Rattle.ygg_eval.specs.ygg_meaning_laws.Blocks.{IsSound}
use Rattle.ygg_eval.specs.ygg_meaning_laws_proofs_ProgressSounds.{Fine, Met, Left, block_sound, statements_sound}
use Rattle.ygg_eval.specs.ygg_meaning_laws_proofs_Files.{have}
use Rattle.ygg_eval.proofs.of_ygg_meaning_laws.Derived.{derivable_derived}
use Rattle.ygg_eval_expr.specs.ygg_type_rules.Files.{IsTyped}
use Rattle.ygg_syntax.specs.Files.{IsDerivable}
use Rattle.ygg_eval.specs.declared.body.Body.{Body}
use Rattle.ygg_eval.specs.declared.body.Stop.{Stop}
use Rattle.ygg_eval.specs.Bodies.{kind_of, block_in, variables_in, arguments_in, dialogue_in, IsRunnable}
use Rattle.ygg_eval.proofs.Blocks.{block_typing, blocks_kept}
use Rattle.ygg_eval.specs.Layers.{signatures_at}
use Rattle.ygg_eval.specs.Lower.{Standing, Meaning, Serves}
use Rattle.ygg_eval.specs.Lower as ending
use Rattle.ygg_eval.specs.Conversations.{answers_of}
use Rattle.ygg_eval.specs.BlockSteps.{Front, Becomes, Last, Starves, Reaches, Ran}
use Rattle.ygg_eval.specs.declared.flow.Break.{Break}
use Rattle.ygg_eval.specs.declared.flow.Break.TheVariants as breaks
use Rattle.ygg_eval.specs.declared.flow.Flow.{Flow}
use Rattle.ygg_eval.specs.declared.flow.Flow.TheVariants.{Goes as Going, Breaks as Breaking}
use Rattle.ygg_eval.specs.Ready.{eval_in, known_in, CanRun}
use Rattle.ygg_eval.specs.Runs.{Came, Finished, FinishedEarly, RunEnds, BodyEnds, CanServe, StillServes}
use Rattle.ygg_eval.specs.Ending.{IsReady, EndsSo, ended_by, values_in}
use Rattle.ygg_eval.specs.declared.run.Ended.{Ended}
use Rattle.ygg_eval.specs.declared.run.Ended.TheVariants.{Whole, Stopped, Short, Down, Failed}
use Rattle.ygg_eval.proofs.Fitting.{walked_defs}
use Rattle.ygg_eval.proofs.Public.{Coming, coming, ends_in, stops_at, starves_in, finishes, finishes_early, stops_after, starves_after, starves_at_end}

-- statements leave the definitions as they are
pub in_order_defs : (ss : List Stmt) (scope : Scope) → (in_order (map walked ss) scope).scope.defs ≡ scope.defs
in_order_defs [] scope = refl
in_order_defs (s ∷ ss) scope = in_order_defs ss (walked s scope).scope ∙ walked_defs s scope

module _ {S : Type 0} (M : Meaning S) (file : File) (kind : BlockKind) (number : ℕ) (stop : Option Stop) (b : Block) (env : Env) (from : Standing S)
    (ready : IsReady M file kind number stop b env from) where
  fine : Fine (functions_of file.defs) (signatures_at file number) (have (functions_of file.defs)) ready.scope env
  fine = record { lower_is = ready.fits.lower; agrees = ready.fits.agrees }

  sound : (told : List Answer) → AnswersFit (signatures_at file number) (after (eval_in file) b env) told →
      IsSound (functions_of file.defs) kind ready.scope b ready.shape env (after (eval_in file) b env told)
  sound told fit =
      block_sound (functions_of file.defs) (signatures_at file number) (have (functions_of file.defs)) kind ready.scope b ready.shape env told
      (record { lower_is = ready.fits.lower; agrees = ready.fits.agrees }) ready.without_errors ready.keeps fit

  statements_without_errors : none (in_order (map walked b.statements) ready.scope).type_errors ≡ true
  statements_without_errors = first_of (none (in_order (map walked b.statements) ready.scope).type_errors)
      (none (return_errors b.answer ready.shape (in_order (map walked b.statements) ready.scope).scope)) ready.without_errors

  -- its statements may be run
  pub can_run : CanRun M file number stop b.statements env from
  can_run = record { kind = kind; scope = ready.scope; fits = ready.fits; without_errors = statements_without_errors; keeps = ready.keeps }

  abbrev F : Front
  F = in_turn (map (run_of (eval_in file)) b.statements) env

  -- the statements came to their end
  pub went : (ss : List Stmt) (env' : Env) (at : Standing S) (left left' : ℕ) (flow : Flow (Unit {0})) (t : Unit {0}) → ss ≡ b.statements → flow ≡ Going t
      → Ran M file number stop (in_turn (map (run_of (eval_in file)) ss) env) (λ u more. Goes env' more) from left (Ok flow) at left' →
      Becomes M file number stop F (λ more. Goes env' more) from left at left'
  went ss env' at left left' flow t same is ran =
      subst (λ (x : List Stmt). Becomes M file number stop (in_turn (map (run_of (eval_in file)) x) env) (λ more. Goes env' more) from left at left') same
      (subst (λ (f : Flow (Unit {0})). Ran M file number stop (in_turn (map (run_of (eval_in file)) ss) env) (λ u more. Goes env' more) from left
      (Ok f) at left') is ran)

  -- the run ended in them
  pub broke : (ss : List Stmt) (env' : Env) (to : Standing S) (left left' : ℕ) (flow : Flow (Unit {0})) (how : Break) → ss ≡ b.statements → flow ≡ Breaking how
      → Ran M file number stop (in_turn (map (run_of (eval_in file)) ss) env) (λ u more. Goes env' more) from left (Ok flow) to left' →
      Reaches M file number stop F from left (λ p at l. Last M file number stop how p at l to)
  broke ss env' to left left' flow how same is ran =
      subst (λ (x : List Stmt). Reaches M file number stop (in_turn (map (run_of (eval_in file)) x) env) from left
      (λ p at l. Last M file number stop how p at l to)) same
      (subst (λ (f : Flow (Unit {0})). Ran M file number stop (in_turn (map (run_of (eval_in file)) ss) env) (λ u more. Goes env' more) from left
      (Ok f) to left') is ran)

  -- so many calls come before the stop
  abbrev pub Begun : ℕ → Type 0
  Begun left = (s : Stop) → stop ≡ Some s → left ≡ s.event

  -- the run was broken off
  pub breaks_off : (result : Result Ended NoMemory) (ended : Ended) (how : Break) (left : ℕ) (to : Standing S) (variables : List Declared)
      (values values' : List Value) → result ≡ Ok ended → ended ≡ ended_by how → Begun left
      → Reaches M file number stop F from left (λ p at l. Last M file number stop how p at l to) →
      RunEnds M file kind number (after (eval_in file) b env) from variables values stop result values' to
  breaks_off result ended how left to variables values values' is same begins r =
      subst (λ (x : Result Ended NoMemory). RunEnds M file kind number (after (eval_in file) b env) from variables values stop x values' to)
      (sym (is ∙ ap (λ (e : Ended). Ok e) same)) (cases how r)
    where
      cases : (how : Break) → Reaches M file number stop F from left (λ p at l. Last M file number stop how p at l to)
          → RunEnds M file kind number (after (eval_in file) b env) from variables values stop (Ok (ended_by how)) values' to
      cases breaks.Stopped r = stops_at M file kind number stop b env ready.scope ready.shape ready.fits.lower sound from to left begins r
      cases breaks.Down r = ends_in M file kind number stop b env ready.scope ready.shape ready.fits.lower sound ending.Down from to left begins r
      cases breaks.Failed r = ends_in M file kind number stop b env ready.scope ready.shape ready.fits.lower sound ending.Failed from to left begins r

  -- and where that was at the stop the machine below serves
  pub broken_serves : (ended : Ended) (how : Break) (left : ℕ) (to : Standing S) → ended ≡ ended_by how →
      Reaches M file number stop F from left (λ p at l. Last M file number stop how p at l to) → StillServes M file number (Ok ended) from to
  broken_serves ended how left to same r = subst (λ (e : Ended). StillServes M file number (Ok e) from to) (sym same) (cases how r)
    where
      cases : (how : Break) → Reaches M file number stop F from left (λ p at l. Last M file number stop how p at l to) →
          StillServes M file number (Ok (ended_by how)) from to
      cases breaks.Stopped r = r.final.serves
      cases breaks.Down r = tt
      cases breaks.Failed r = tt

  pub breaks_starved : (ss : List Stmt) (result : Result Ended NoMemory) (left : ℕ) (to : Standing S) (variables : List Declared)
      (values values' : List Value) → ss ≡ b.statements → IsErr result → Begun left
      → Reaches M file number stop (in_turn (map (run_of (eval_in file)) ss) env) from left (λ p at l. Starves M file number stop p at l to)
      → RunEnds M file kind number (after (eval_in file) b env) from variables values stop result values' to
  breaks_starved ss (Ok x) left to variables values values' same err begins r = absurd (cc)
  breaks_starved ss (Err e) left to variables values values' same err begins r =
      starves_in M file kind number stop b env ready.scope ready.shape ready.fits.lower sound from to left begins
      (subst (λ (x : List Stmt). Reaches M file number stop (in_turn (map (run_of (eval_in file)) x) env) from left
      (λ p at l. Starves M file number stop p at l to)) same r)

  -- after the statements, with these names
  module _ (left left' : ℕ) (env' : Env) (at : Standing S) (begins : Begun left)
      (becomes : Becomes M file number stop F (λ more. Goes env' more) from left at left') where
    end : Coming M file kind number stop b env ready.scope ready.shape ready.fits.lower sound from at left left' (λ more. Goes env' more)
    end = coming M file kind number stop b env ready.scope ready.shape ready.fits.lower sound from at left left' (λ more. Goes env' more) becomes

    abbrev last : Scope
    last = (in_order (map walked b.statements) ready.scope).scope

    agrees : Agrees (functions_of file.defs) (in_order (map walked b.statements) ready.scope).scope (plain env')
    agrees =
        let m : Met kind (signatures_at file number) (Left (functions_of file.defs) (signatures_at file number) (have (functions_of file.defs)) env
        (in_order (map walked b.statements) ready.scope).scope) (F (answers_of end.came.exchanges)) =
        (statements_sound (functions_of file.defs) (signatures_at file number) (have (functions_of file.defs)) b.statements).sounds kind ready.scope
        env (answers_of end.came.exchanges)
        (record { lower_is = ready.fits.lower; agrees = ready.fits.agrees }) statements_without_errors ready.keeps
        (λ told more a q i w. end.fit told more a q i (ap (ended (eval_in file) b.answer env) w)) in
        (m.goes env' [] end.is).1

    -- what the block returns can be evaluated
    pub answer_can : (e : Expr) → b.answer ≡ Some e → CanEvaluate (known_in file env') e
    answer_can e i =
        let all = second_of (none (in_order (map walked b.statements) ready.scope).type_errors)
        (none (return_errors b.answer ready.shape (in_order (map walked b.statements) ready.scope).scope)) ready.without_errors in
        let returned : none (return_errors (Some e) ready.shape (in_order (map walked b.statements) ready.scope).scope) ≡ true =
        subst (λ (o : Option Expr). none (return_errors o ready.shape (in_order (map walked b.statements) ready.scope).scope) ≡ true) i all in
        record {
          scope = (in_order (map walked b.statements) ready.scope).scope;
          defs = in_order_defs b.statements ready.scope ∙ ready.fits.defs;
          sound = ready.fits.sound;
          agrees = agrees;
          without_errors = first_of (none (typing e (in_order (map walked b.statements) ready.scope).scope).type_errors) _ returned;
        }

    -- how the run ends then
    pub ends_so : (result : Result Ended NoMemory) (variables : List Declared) (values values' : List Value) (others : Env) (count : ℕ)
        (to : Standing S) → env ≡ bind variables values ++ others → values_fit variables values ≡ true
        → length values ≡ count → EndsSo M file number stop b.answer env' count left' at result values' to →
        RunEnds M file kind number (after (eval_in file) b env) from variables values stop result values' to
    ends_so (Ok (Whole y)) variables values values' others count to is fit counted (none_asked, y_is, given, same) =
        let front : values' ≡ values_in (take (length values) env') = given ∙ ap (λ n. values_in (take n env')) (sym counted) in
        let done = finishes M file kind number stop b env ready.scope ready.shape ready.fits.lower sound from at left left' env' begins becomes
        variables values values' others is fit front in (
          none_asked,
          subst (λ (s : Standing S). Finished M file kind number (after (eval_in file) b env) from variables values values' y s) (sym same)
              (subst (λ (a : Answer). Finished M file kind number (after (eval_in file) b env) from variables values values' a at) (sym y_is) done),
        )
    ends_so (Ok Short) variables values values' others count to is fit counted e =
        let front : values' ≡ values_in (take (length values) env') = e.gives ∙ ap (λ n. values_in (take n env')) (sym counted) in
        subst (λ (s : Standing S). FinishedEarly M file kind number (after (eval_in file) b env) from variables values values' stop s) (sym e.same)
        (finishes_early M file kind number stop b env ready.scope ready.shape ready.fits.lower sound from at left left' env' begins becomes variables
        values values' others is fit front e.s e.is e.more)
    ends_so (Ok Stopped) variables values values' others count to is fit counted e =
        stops_after M file kind number stop b env ready.scope ready.shape ready.fits.lower sound from at left left' env' begins becomes e.s to e.is
        e.before e.reached e.loses
    ends_so (Ok Down) variables values values' others count to is fit counted e = absurd e
    ends_so (Ok Failed) variables values values' others count to is fit counted e = absurd e
    ends_so (Err e) variables values values' others count to is fit counted (inl same) =
        inr (inl (subst (λ (s : Standing S). Came M file kind number (after (eval_in file) b env) from s) (sym same)
        (starves_at_end M file kind number stop b env ready.scope ready.shape ready.fits.lower sound from at left left' env' begins becomes)))
    ends_so (Err e) variables values values' others count to is fit counted (inr x) =
        inr (inr (starves_after M file kind number stop b env ready.scope ready.shape ready.fits.lower sound from at left left' env' begins becomes
        x.s to x.is x.before x.reached x.loses))

layer_same : (a b : Layer) → Some a ≡ Some b → a ≡ b
layer_same a b h = cc

block_same : (a b : Block) → Some a ≡ Some b → a ≡ b
block_same a b h = cc

module _ {S : Type 0} (M : Meaning S) (file : File) (body : Body) (stop : Option Stop) (args values : List Value) (from : Standing S) (l : Layer)
    (b : Block) (here : slice_get file.layers body.layer ≡ Some l) (block : block_in l body.part body.number ≡ Some b)
    (env : Env) (named : env ≡ bind (variables_in l body.part) values ++ bind (arguments_in l body.part body.number) args) where
  -- the values fit what the layer declares
  pub values_do : IsRunnable file body args values → values_fit (variables_in l body.part) values ≡ true
  values_do r = subst (λ (x : Layer). values_fit (variables_in x body.part) values ≡ true) (layer_same r.layer l (sym r.is.layer ∙ here)) r.variables_fit

  args_do : IsRunnable file body args values → values_fit (arguments_in l body.part body.number) args ≡ true
  args_do r = subst (λ (x : Layer). values_fit (arguments_in x body.part body.number) args ≡ true)
      (layer_same r.layer l (sym r.is.layer ∙ here)) r.arguments_fit

  -- a block of a typed file that may be run is ready
  pub is_ready : IsRunnable file body args values → ∥ IsDerivable file ∥₁ → IsTyped file → CanServe M file body stop from →
      IsReady M file (kind_of body.part) body.layer stop b env from
  is_ready r derivable typed can =
      let t = block_typing file (blocks_kept file (derivable_derived file derivable)) typed body l b (record { layer = here; block = block }) in
      record {
        scope = t.scope;
        shape = t.shape;
        fits = record {
          sound = t.sound;
          defs = t.defs;
          lower = t.lower;
          agrees = subst (λ (e : Env). Agrees (functions_of file.defs) t.scope (plain e)) (sym named) (t.agrees values args (values_do r) (args_do r));
          serves = can.calls;
          stops = λ some. (can.stops some).0;
        };
        without_errors = t.without_errors;
        keeps = t.keeps;
        serves = λ some. (can.stops some).1;
      }

  -- and its run ends as a run of the block of the file does
  pub body_ends : (result : Result Ended NoMemory) (values' : List Value) (to : Standing S)
      → RunEnds M file (kind_of body.part) body.layer (after (eval_in file) b env) from (variables_in l body.part) values stop result values' to →
      BodyEnds M file body args stop values from result values' to
  body_ends result values' to ends l' b' is =
      let same = layer_same l l' (sym here ∙ is.layer) in
      let block' : block_in l body.part body.number ≡ Some b' = ap (λ (x : Layer). block_in x body.part body.number) same ∙ is.block in
      let same_block = block_same b b' (sym block ∙ block') in
      subst (λ (x : Layer). RunEnds M file (kind_of body.part) body.layer (dialogue_in file body x b' args values) from
      (variables_in x body.part) values stop result values' to) same
      (subst (λ (x : Block). RunEnds M file (kind_of body.part) body.layer (dialogue_in file body l x args values) from
      (variables_in l body.part) values stop result values' to) same_block
      (subst (λ (e : Env). RunEnds M file (kind_of body.part) body.layer (after (eval_in file) b e) from
      (variables_in l body.part) values stop result values' to) named ends))
