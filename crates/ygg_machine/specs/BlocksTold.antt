-- What a block does on a machine it does on one that mirrors it, where bases and notes are told.
use Rattle.std.specs.Prelude.{◌≡◌, IsTrue, List, [], ◌∷◌, Some, None}
use Rattle.std.proofs.Common.{refl, sym, subst}
use Rattle.ygg_value.specs.declared.row.Value.{Value}
use Rattle.ygg_syntax.specs.declared.tree.Block.{Block}
use Rattle.ygg_syntax.specs.declared.tree.Declared.{Declared}
use Rattle.ygg_syntax.specs.declared.tree.Layer.{Layer}
use Rattle.ygg_syntax.specs.declared.tree.Operation.{Operation}
use Rattle.ygg_eval.specs.ygg_meaning.Environments.{bind}
use Rattle.ygg_eval.specs.ygg_meaning.Shapes.{values_fit}
use Rattle.ygg_eval.specs.ygg_meaning.Progress.{Answer}
use Rattle.ygg_eval.specs.ygg_meaning.Machine.{State, Machine}
use Rattle.ygg_eval.specs.ygg_meaning.Layer.{ClosedLayer, Layered, BlockRuns, BlockFalls}
use Rattle.ygg_eval.specs.ygg_meaning.Mirror.{IsJoined, FormattedIf, Mirrors}
use Rattle.ygg_eval.specs.ygg_meaning_proofs_Mirrored.{layered_mirrors, formatted_mirrors}
use Rattle.ygg_machine.specs.FloorStacks.{Told, Retold, is_told}

-- where a machine mirrors another, it does so wherever it may be formatted
pub may_format : {B X C Y : Type 0} (R : C → B → Type 0) (Q : List X → List Y → Type 0) (M : Machine B X) (N : Machine C Y) → Mirrors R Q M N →
    Mirrors R Q (FormattedIf (Unit {0}) M) N
may_format R Q M N U = record {
  starts = λ s a (_, x). U.starts s a x;
  calls = U.calls;
  falls = U.falls;
  ticks = U.ticks;
  tick_falls = U.tick_falls;
  loses = U.loses;
  wakes = U.wakes;
  wake_falls = U.wake_falls;
}

-- a block as the implementation of a layer's one operation
abbrev only : Layer → List Declared → Block → Operation
only l ds b = record {
  name = record { text = []; place = l.place };
  arguments = ds;
  answer = None;
  spec = b;
  on_crash = None;
  implementation = b;
}

abbrev alone : ClosedLayer → List Declared → Block → ClosedLayer
alone L ds b = record L { layer = record L.layer { operations = only L.layer ds b ∷ [] } }

same_operation : (a b : Operation) → Some a ≡ Some b → a ≡ b
same_operation a b h = cc

module _ {B C X Y : Type 0} (base : B → C) (tell_notes : List X → List Y) (joined : IsJoined (Retold tell_notes)) (M : Machine B X) (N : Machine C Y)
    (U : Mirrors (Told base) (Retold tell_notes) M N) (L : ClosedLayer) (b : Block) (ds : List Declared) (vs : List Value)
    (fit : IsTrue (values_fit ds vs)) where
  abbrev tell : State B → State C
  tell s = record { memories = s.memories; base = base s.base }

  V : Mirrors (Told base) (Retold tell_notes) (Layered (alone L ds b) M) (Layered (alone L ds b) N)
  V =
      formatted_mirrors (Told base) (Retold tell_notes) joined (Unit {0}) (Layered (alone L ds b) M) (Layered (alone L ds b) N) tt
      (layered_mirrors (Told base) (Retold tell_notes) joined (Unit {0}) M N (may_format (Told base) (Retold tell_notes) M N U) (alone L ds b))

  pub block_told : (from to : State B) (notes : List X) (answer : Answer) → BlockRuns L M b (bind ds vs) from notes answer to →
      BlockRuns L N b (bind ds vs) (tell from) (tell_notes notes) answer (tell to)
  block_told from to notes answer r =
      let (t, ns, step, same, are) = V.calls (tell from) from to [] vs notes answer (record { memories = refl; bases = refl }) (record {
        operation = only L.layer ds b;
        is = refl;
        fit = fit;
        step = record { memory = r.memory; lower = r.lower; from_is = r.from_is; env' = r.env'; lower' = r.lower'; run = r.run; to_is = r.to_is };
      }) in
      let one = same_operation step.operation (only L.layer ds b) (sym step.is) in
      let run : BlockRuns (alone L ds b) N b (bind ds vs) (tell from) ns answer t =
      subst (λ (o : Operation). BlockRuns (alone L ds b) N o.implementation (bind o.arguments vs) (tell from) ns answer t) one step.step in
      let here : BlockRuns L N b (bind ds vs) (tell from) ns answer t = record {
        memory = run.memory;
        lower = run.lower;
        from_is = run.from_is;
        env' = run.env';
        lower' = run.lower';
        run = run.run;
        to_is = run.to_is;
      } in
      subst (λ (x : State C). BlockRuns L N b (bind ds vs) (tell from) (tell_notes notes) answer x) (is_told base t to same)
      (subst (λ (x : List Y). BlockRuns L N b (bind ds vs) (tell from) x answer t) are here)

  pub fall_told : (from : State B) (fallen : B) (notes : List X) → BlockFalls L M b (bind ds vs) from notes fallen →
      BlockFalls L N b (bind ds vs) (tell from) (tell_notes notes) (base fallen)
  fall_told from fallen notes r =
      let (g, ns, step, same, are) = V.falls (tell from) from [] vs notes fallen (record { memories = refl; bases = refl }) (record {
        operation = only L.layer ds b;
        is = refl;
        fit = fit;
        step = record { memory = r.memory; lower = r.lower; from_is = r.from_is; run = r.run };
      }) in
      let one = same_operation step.operation (only L.layer ds b) (sym step.is) in
      let run : BlockFalls (alone L ds b) N b (bind ds vs) (tell from) ns g =
      subst (λ (o : Operation). BlockFalls (alone L ds b) N o.implementation (bind o.arguments vs) (tell from) ns g) one step.step in
      let here : BlockFalls L N b (bind ds vs) (tell from) ns g = record { memory = run.memory; lower = run.lower; from_is = run.from_is; run = run.run } in
      subst (λ (x : C). BlockFalls L N b (bind ds vs) (tell from) (tell_notes notes) x) same
      (subst (λ (x : List Y). BlockFalls L N b (bind ds vs) (tell from) x g) are here)
