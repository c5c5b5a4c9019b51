-- Whole runs of blocks of a typed file by place.
use Rattle.std.proofs.Common.{◌≡◌, ℕ, true, List, ◌++◌, map, take, length, slice_get, Option, Some, refl, sym, ap, ◌∙◌, subst}
use Rattle.ygg_value.specs.declared.row.Value.{Value}
use Rattle.ygg_syntax.specs.Files.{IsDerivable}
use Rattle.ygg_syntax.specs.declared.grammar.BlockKind.{BlockKind}
use Rattle.ygg_syntax.specs.declared.tree.Block.{Block}
use Rattle.ygg_syntax.specs.declared.tree.Declared.{Declared}
use Rattle.ygg_syntax.specs.declared.tree.Expr.{Expr}
use Rattle.ygg_syntax.specs.declared.tree.File.{File}
use Rattle.ygg_syntax.specs.declared.tree.Layer.{Layer}
use Rattle.ygg_meaning_laws.specs.ygg_type_rules.Files.{IsTyped}
use Rattle.ygg_meaning_laws.specs.ygg_type_rules.TypeErrors.{none}
use Rattle.ygg_meaning_laws.specs.ygg_type_rules.Scopes.{Scope}
use Rattle.ygg_meaning_laws.specs.ygg_type_rules.Expressions.{typing}
use Rattle.ygg_meaning_laws.specs.ygg_type_rules.Statements.{in_order, return_errors, walked}
use Rattle.ygg_meaning_laws.specs.ygg_meaning.Environments.{Env, bind}
use Rattle.ygg_meaning_laws.specs.ygg_meaning.Meaning.{functions_of}
use Rattle.ygg_meaning_laws.specs.ygg_meaning.Progress.{Answer, answer_of}
use Rattle.ygg_meaning_laws.specs.ygg_meaning.Shapes.{values_fit}
use Rattle.ygg_meaning_laws.specs.Agrees.{Agrees}
use Rattle.ygg_meaning_laws.proofs.Tests.{left as first_of, right as second_of}
use Rattle.ygg_meaning_laws.specs.Kinds.{keeps}
use Rattle.ygg_meaning_laws.specs.Questions.{plain, Follows}
use Rattle.ygg_meaning_laws.proofs.Derived.{derivable_derived}
use Rattle.ygg_meaning_laws.specs.Direct.{Reached, direct_run}
use Rattle.ygg_eval.specs.ygg_eval_expr.Known.{CanEvaluate}
use Rattle.ygg_eval.specs.Bodies.{IsBlock, IsRunnable, arguments_in, block_in, variables_in}
use Rattle.ygg_eval.specs.declared.body.Body.{Body}
use Rattle.ygg_eval.proofs.Blocks.{block_typing, blocks_kept}
use Rattle.ygg_eval.specs.Ending.{values_in}
use Rattle.ygg_eval.specs.Ready.{eval_in, known_in}
use Rattle.ygg_eval.proofs.Public.{bound, bind_counted}
use Rattle.ygg_eval.proofs.Tops.{in_order_defs}
use Rattle.ygg_eval_places.specs.Machines.{PlaceMeaning, IsPlaces}
use Rattle.ygg_eval_places.specs.Ready.{CanRun}
use Rattle.ygg_eval_places.specs.Wholes.{IsReady, CanServe, Walked, BodyWalked, block_walk}
use Rattle.ygg_eval_places.proofs.Parts.{order_left}

layer_same : (a b : Layer) → Some a ≡ Some b → a ≡ b
layer_same a b h = cc

block_same : (a b : Block) → Some a ≡ Some b → a ≡ b
block_same a b h = cc

module _ {S : Type 0} (M : PlaceMeaning S) (law : IsPlaces M) (file : File) where
  module _ (number : ℕ) (b : Block) (env : Env) (s : M.Is) (ready : IsReady M file number b env s) where
    abbrev last : Scope
    last = (in_order (map walked b.statements) ready.scope).scope

    statements_fine : none (in_order (map walked b.statements) ready.scope).type_errors ≡ true
    statements_fine = first_of (none (in_order (map walked b.statements) ready.scope).type_errors)
        (none (return_errors b.answer ready.shape (in_order (map walked b.statements) ready.scope).scope)) ready.without_errors

    -- its statements may be run
    pub can_run : CanRun M file number b.statements env s
    can_run = record { scope = ready.scope; fits = ready.fits; without_errors = statements_fine; keeps = ready.keeps }

    -- what it returns can be evaluated
    pub answer_can : (env' : Env) → env' ≡ (direct_run (eval_in file) M.space M.handle b env s).env → (e : Expr) → b.answer ≡ Some e →
        CanEvaluate (known_in file env') e
    unfolding can_run
    answer_can env' same e i =
        let left = order_left M law file number b.statements 0 env s can_run in
        let all = second_of (none (in_order (map walked b.statements) ready.scope).type_errors)
        (none (return_errors b.answer ready.shape (in_order (map walked b.statements) ready.scope).scope)) ready.without_errors in
        let returned : none (return_errors (Some e) ready.shape (in_order (map walked b.statements) ready.scope).scope) ≡ true =
        subst (λ (o : Option Expr). none (return_errors o ready.shape (in_order (map walked b.statements) ready.scope).scope) ≡ true) i all in
        record {
          scope = (in_order (map walked b.statements) ready.scope).scope;
          defs = in_order_defs b.statements ready.scope ∙ ready.fits.defs;
          sound = ready.fits.sound;
          agrees = subst (λ x. Agrees (functions_of file.defs) (in_order (map walked b.statements) ready.scope).scope (plain x)) (sym same) left.agrees;
          without_errors = first_of (none (typing e (in_order (map walked b.statements) ready.scope).scope).type_errors) _ returned;
        }

  module _ (body : Body) (args values : List Value) (s : M.Is) (runs : IsRunnable file body args values) (derivable : ∥ IsDerivable file ∥₁)
      (typed : IsTyped file) (can : CanServe M file body s) (l : Layer) (b : Block) (here : slice_get file.layers body.layer ≡ Some l)
      (block : block_in l body.part body.number ≡ Some b) where
    abbrev vars : Env
    vars = bind (variables_in l body.part) values

    abbrev given : Env
    given = bind (arguments_in l body.part body.number) args

    values_do : values_fit (variables_in l body.part) values ≡ true
    values_do = subst (λ (x : Layer). values_fit (variables_in x body.part) values ≡ true) (layer_same runs.layer l (sym runs.is.layer ∙ here))
        runs.variables_fit

    args_do : values_fit (arguments_in l body.part body.number) args ≡ true
    args_do = subst (λ (x : Layer). values_fit (arguments_in x body.part body.number) args ≡ true) (layer_same runs.layer l (sym runs.is.layer ∙ here))
        runs.arguments_fit

    -- a block of a typed file that may be run is ready
    pub is_ready : (env : Env) → env ≡ bind (variables_in l body.part) values ++ bind (arguments_in l body.part body.number) args →
        IsReady M file body.layer b env s
    is_ready env named =
        let t = block_typing file (blocks_kept file (derivable_derived file derivable)) typed body l b (record { layer = here; block = block }) in
        record {
          scope = t.scope;
          shape = t.shape;
          fits = record {
            sound = t.sound;
            defs = t.defs;
            lower = t.lower;
            sees = can.lower;
            agrees = subst (λ (e : Env). Agrees (functions_of file.defs) t.scope (plain e)) (sym named) (t.agrees values args values_do args_do);
            serves = can.serves;
            good = can.good;
          };
          without_errors = t.without_errors;
          keeps = subst (λ (k : BlockKind). keeps k b ≡ true) (sym can.kind) t.keeps;
        }

    walked_here : (answer : Answer) (values' : List Value) (s' : M.Is) →
        answer ≡ answer_of (eval_in file) b.answer (block_walk M file b vars given s).env →
        values' ≡ values_in (take (length values) (block_walk M file b vars given s).env) → s' ≡ (block_walk M file b vars given s).to →
        Walked M file body l b args values s answer values' s'
    walked_here answer values' s' answered given_back same =
        let r = block_walk M file b vars given s in
        let left = order_left M law file body.layer b.statements 0 (vars ++ given) s
        (can_run body.layer b (vars ++ given) s (is_ready (vars ++ given) refl)) in
        let all = bound (variables_in l body.part) values given r.env values_do left.follows in
        let counted = bind_counted (variables_in l body.part) values values_do in
        record {
          answered = answered;
          leaves = ap (bind (variables_in l body.part)) given_back ∙ all.leaves ∙ ap (λ n. take n r.env) (sym counted);
          fit = ap (values_fit (variables_in l body.part)) given_back ∙ all.fit;
          state = same;
          good = subst M.Good (sym same) left.good;
        }

    -- what a whole run leaves
    pub body_walked : (env : Env) (count : ℕ) (answer : Answer) (values' : List Value) (s' : M.Is) →
        env ≡ bind (variables_in l body.part) values ++ bind (arguments_in l body.part body.number) args → count ≡ length values →
        answer ≡ answer_of (eval_in file) b.answer (direct_run (eval_in file) M.space M.handle b env s).env →
        values' ≡ values_in (take count (direct_run (eval_in file) M.space M.handle b env s).env) →
        s' ≡ (direct_run (eval_in file) M.space M.handle b env s).to → BodyWalked M file body args values s answer values' s'
    body_walked env count answer values' s' named counted answered given_back same l' b' is =
        let run : Env → Reached M.Is = λ e. direct_run (eval_in file) M.space M.handle b e s in
        let layers = layer_same l l' (sym here ∙ is.layer) in
        let block' : block_in l body.part body.number ≡ Some b' = ap (λ (x : Layer). block_in x body.part body.number) layers ∙ is.block in
        let blocks = block_same b b' (sym block ∙ block') in
        subst (λ (x : Layer). Walked M file body x b' args values s answer values' s') layers
        (subst (λ (x : Block). Walked M file body l x args values s answer values' s') blocks
        (walked_here answer values' s' (answered ∙ ap (λ e. answer_of (eval_in file) b.answer (run e).env) named)
        (given_back ∙ ap (λ n. values_in (take n (run env).env)) counted ∙ ap (λ e. values_in (take (length values) (run e).env)) named)
        (same ∙ ap (λ e. (run e).to) named)))
