-- A block that runs on no machine makes no call: power that cuts it is power that what is below loses.
use Rattle.std.proofs.Common.{◌≡◌, ◌++◌, Bool, true, false, if◌then◌else◌, List, [], ◌∷◌, drop, map, Option, Some, None, refl, sym, ap, subst}
use Rattle.ygg_value.specs.declared.row.Value.{Value}
use Rattle.ygg_syntax.specs.declared.grammar.BlockKind.TheVariants.{Spec}
use Rattle.ygg_syntax.specs.declared.tree.Block.{Block}
use Rattle.ygg_syntax.specs.declared.tree.Declared.{Declared}
use Rattle.ygg_syntax.specs.declared.tree.Def.{Def}
use Rattle.ygg_syntax.specs.declared.tree.Expr.{Expr}
use Rattle.ygg_type_rules.specs.Statements.{return_errors, walked}
use Rattle.ygg_type_rules.specs.Statements as rules
use Rattle.ygg_type_rules.specs.TypeErrors.{none}
use Rattle.ygg_meaning.specs.Environments.{Name, Env}
use Rattle.ygg_meaning.specs.Layer.{BlockFalls, ClosedLayer, dialogue_of, eval_of}
use Rattle.ygg_meaning.specs.Machine.{Machine, Picks, State, on, based}
use Rattle.ygg_meaning.specs.Obligations.{Halt}
use Rattle.ygg_meaning.specs.Progress.{Asks, Call, Eval, Goes, Point, Question, Waits, ended, in_turn, run_of}
use Rattle.ygg_meaning.specs.Refines.{Below, machine_below}
use Rattle.ygg_meaning.specs.Runs.{Dialogue, FallsAt, Reaches, WholeCall, answers_of, notes_of}
use Rattle.ygg_meaning_laws.proofs.Tests.{left as first_of}
use Rattle.ygg_meaning_laws.proofs.Asking.{statements_known}
use Rattle.ygg_sym_runs.specs.Stops.{halt}
use Rattle.ygg_sym_laws.specs.Typed.{SpecBlockTyped}
use Rattle.ygg_sym_laws.specs.FrontLaws.{FallsThere}

-- power fails at the end of a block that has made no call
pub at_end : (G : Below) (L : ClosedLayer) (b : Block) (vars args low : Env) (picks : Picks) (fallen : Env) →
    (machine_below G).Loses (based low) picks fallen → FallsThere G L b vars args low (halt false 0) picks fallen
at_end G L b vars args low picks fallen l = record {
  run = record {
    memory = vars;
    lower = based low;
    from_is = refl;
    run = record { calls = []; at = based low; path = refl; within = false; last = picks; falls = l; takes = refl };
  };
  stops = (refl, refl);
}

waits_of : (eval : Eval) (answer : Option Expr) (before : Env) (p : Point) (q : Question) → ended eval answer before p ≡ Asks q → p ≡ Waits q
waits_of eval answer before (Waits r) q e = let same : r ≡ q = cc in ap (λ x. Waits x) same
waits_of eval answer before (Goes env []) q e = absurd (cc)
waits_of eval answer before (Goes env (a ∷ left)) q e = absurd (cc)

-- a block of a specification asks for no call
silent : (defs : List Def) (L : ClosedLayer) (b : Block) (args : List Declared) → SpecBlockTyped defs L b args → (vars given : Env) (name : Name)
    (xs : List Value) → dialogue_of L b vars given [] ≡ Asks (Call name xs) → ⊥
silent defs L b args t vars given name xs asks =
    let scope = (t.block).scope in
    let there = rules.in_order (map walked b.statements) scope in
    let errors = first_of (none there.type_errors) (none (return_errors b.answer (t.block).shape there.scope)) (t.block).without_errors in
    let waits = waits_of (eval_of L) b.answer (vars ++ given) (in_turn (map (run_of (eval_of L)) b.statements) (vars ++ given) []) (Call name xs) asks in
    let known = (statements_known (eval_of L) b.statements).asks Spec scope errors (t.block).kept (vars ++ given) [] (Call name xs) waits in
    absurd (cc)

module _ (M : Machine Env Bool) (block : Dialogue) (none_asked : (name : Name) (xs : List Value) → block [] ≡ Asks (Call name xs) → ⊥) (picks : Picks)
    (fallen : Env) where
  loses : (lower : State Env) (calls : List (WholeCall Env Bool)) (at : State Env) (within : Bool) (last : Picks) → Reaches M block [] lower calls at →
      FallsAt within M block (answers_of calls) at last fallen → picks ≡ notes_of calls ++ last → M.Loses lower picks fallen
  loses lower [] at false last path falls takes =
      subst (λ z. M.Loses z picks fallen) (sym path) (subst (λ z. M.Loses at z fallen) (sym takes) falls)
  loses lower [] at true last path falls takes = absurd (none_asked falls.name falls.args falls.asks)
  loses lower (c ∷ cs) at within last path falls takes = absurd (none_asked c.name c.args path.0)

-- whatever power leaves that cuts it, what is below loses it so
pub falls_below : (defs : List Def) (G : Below) (L : ClosedLayer) (b : Block) (args : List Declared) → SpecBlockTyped defs L b args →
    (vars given low : Env) (picks : Picks) (fallen : Env) → BlockFalls L (machine_below G) b given (on vars (based low)) picks fallen →
    (machine_below G).Loses (based low) picks fallen
falls_below defs G L b args t vars given low picks fallen f =
    let same : based low ≡ f.lower = ap (λ (s : State Env). let z : State Env = record { memories = drop 1 s.memories; base = s.base } in z) f.from_is in
    let r = f.run in
    subst (λ (z : State Env). (machine_below G).Loses z picks fallen) (sym same)
    (loses (machine_below G) (dialogue_of L b f.memory given) (silent defs L b args t f.memory given) picks fallen f.lower r.calls r.at r.within r.last r.path
    r.falls r.takes)

-- the one stop of such a block
pub the_stop : (set : Bool) (stop : Halt) → (if set then Some (halt false 0) else None) ≡ Some stop → halt false 0 ≡ stop
the_stop true stop e = cc
the_stop false stop e = absurd (cc)
