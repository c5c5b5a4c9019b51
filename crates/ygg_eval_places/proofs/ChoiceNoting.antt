-- A block of a specification notes the picks that it takes.
use Rattle.std.proofs.Common.{◌≡◌, ℕ, Bool, List, [], ◌∷◌, ◌++◌, map, take, length, Some, refl, sym, ap, ◌∙◌, subst, append_assoc}
use Rattle.std.proofs.lemmas.List.{append-nil}
use Rattle.std.specs.Prelude.{Result, Ok, Err, IfOk}
use Rattle.ygg_value.specs.Values.{digit}
use Rattle.ygg_value.specs.declared.row.Value.{Value}
use Rattle.ygg_syntax.specs.declared.tree.Block.{Block}
use Rattle.ygg_syntax.specs.declared.tree.File.{File}
use Rattle.ygg_syntax.specs.declared.tree.Layer.{Layer}
use Rattle.ygg_eval_places.specs.ygg_meaning.Environments.{Env, bind}
use Rattle.ygg_eval_places.specs.ygg_meaning.Layer.{ClosedLayer, eval_of}
use Rattle.ygg_eval_places.specs.ygg_meaning.Machine.{Picks}
use Rattle.ygg_eval_places.specs.ygg_meaning.Progress.{Question, Answer, answer_of}
use Rattle.ygg_eval_places.specs.ygg_meaning_laws.Places as places
use Rattle.ygg_eval_places.specs.ygg_meaning_laws.Direct.{Handled, Event, Reached, Chained, Alike, seen, seen_run, direct_run}
use Rattle.ygg_eval_places.specs.ygg_meaning_laws_proofs_Choosing.{one}
use Rattle.ygg_eval_places.specs.ygg_meaning_laws_proofs_Mirror.{block_mirrors}
use Rattle.ygg_eval_places.specs.ygg_meaning_laws_proofs_Order.{block_follows}
use Rattle.ygg_sym_laws.specs.ygg_sym_runs.Specs.{Nothing}
use Rattle.ygg_sym_laws.specs.ygg_sym_runs_proofs_Chosen.{block_run_at}
use Rattle.ygg_sym_laws.specs.ygg_sym_runs_proofs_Specs.{choose_at}
use Rattle.ygg_sym_laws.specs.Taking.{picks_of, one_each, block_takes}
use Rattle.ygg_eval_places.specs.ygg_eval.Bodies.{arguments_in, variables_in}
use Rattle.ygg_eval_places.specs.ygg_eval.Layers.{closed_at}
use Rattle.ygg_eval_places.specs.ygg_eval.declared.body.Body.{Body}
use Rattle.ygg_eval_places.specs.Wholes.{Walked, BodyWalked}
use Rattle.ygg_eval_places.specs.Bits.{bits_in}
use Rattle.ygg_eval_places.specs.Chosen.{notes_choice, choice_meaning, Chose, BlockChose}
use Rattle.ygg_eval_places.specs.declared.choices.ChoicePlaces.{ChoicePlaces}

module _ (bits : ℕ → Bool) where
  abbrev none : Picks → Nothing
  none picks = tt

  -- the machine without notes answers alike
  alike : (es : List (Event Picks)) (from to : Picks) → Chained (notes_choice bits) from es to → Alike {R = Picks} {S = Nothing} (choose_at bits) none es
  alike [] from to c = tt
  alike (e ∷ es) from to c = (
    ap (λ (h : Handled Picks). let k : Handled Nothing = record { answer = h.answer; to = tt } in k) c.1,
    alike es e.after to c.2,
  )

  -- what is noted is what the events take
  noted : (es : List (Event Picks)) (from to : Picks) → Chained (notes_choice bits) from es to →
      to ≡ from ++ picks_of {S = Nothing} (one_each bits) (map (seen {R = Picks} {S = Nothing} (choose_at bits) none) es)
  noted [] from to c = sym c ∙ sym (append-nil from)
  noted (e ∷ es) from to c =
      let after : from ++ bits e.place ∷ [] ≡ e.after = ap (λ (h : Handled Picks). h.to) c.1 in
      let rest = picks_of {S = Nothing} (one_each bits) (map (seen {R = Picks} {S = Nothing} (choose_at bits) none) es) in
      noted es e.after to c.2 ∙ ap (λ ps. ps ++ rest) (sym after) ∙ append_assoc from (bits e.place ∷ []) rest

  module _ (m : ClosedLayer) (b : Block) (vars args : Env) (picks : Picks) where
    abbrev run : Reached Picks
    run = direct_run (eval_of m) one (notes_choice bits) b (vars ++ args) picks

    chained : Chained (notes_choice bits) picks run.events run.to
    chained = (block_follows (eval_of m) one (notes_choice bits) b.statements 0 (vars ++ args) picks).chained

    mirrored : block_run_at m bits b vars args ≡ seen_run {R = Picks} {S = Nothing} (choose_at bits) none run
    mirrored = block_mirrors (eval_of m) one (notes_choice bits) (choose_at bits) none b.statements 0 (vars ++ args) picks
        (alike run.events picks run.to chained)

    -- the names at its end are those of the run without notes
    pub names_same : (direct_run (eval_of m) one (notes_choice bits) b (vars ++ args) picks).env ≡ (block_run_at m bits b vars args).env
    names_same = sym (ap (λ (r : Reached Nothing). r.env) mirrored)

    -- and the picks that it takes come after others
    pub picks_noted : (direct_run (eval_of m) one (notes_choice bits) b (vars ++ args) picks).to ≡ picks ++ block_takes m bits b vars args
    picks_noted = noted run.events picks run.to chained
        ∙ ap (λ (r : Reached Nothing). picks ++ picks_of {S = Nothing} (one_each bits) r.events) (sym mirrored)

-- what a whole run by place of a block of a layer leaves is what the block ends in, with the picks that it takes
pub chose : (file : File) (machine : ChoicePlaces) (body : Body) (l : Layer) (b : Block) (args values : List Value) (answer : Answer)
    (values' : List Value) (picks picks' : Picks) → Walked (choice_meaning machine) file body l b args values picks answer values' picks' →
    Chose (closed_at file body.layer l) body b (bits_in machine.choices) args values answer values' picks picks'
chose file machine body l b args values answer values' picks picks' w =
    let m = closed_at file body.layer l in
    let bits = bits_in machine.choices in
    let vars = bind (variables_in l body.part) values in
    let given = bind (arguments_in l body.part body.number) args in
    let same = names_same bits m b vars given picks in
    let env = (block_run_at m bits b vars given).env in
    record {
      ended = ap (λ (v : Env). let r : places.Result = record { vars = v; answer = answer } in r) (w.leaves ∙ ap (take (length vars)) same)
          ∙ ap (λ (a : Answer). let r : places.Result = record { vars = take (length vars) env; answer = a } in r)
          (w.answered ∙ ap (answer_of (eval_of m) b.answer) same);
      fit = w.fit;
      taken = w.state ∙ picks_noted bits m b vars given picks;
    }

-- so it is of the block that is meant
pub block_chose : (file : File) (machine : ChoicePlaces) (body : Body) (args values : List Value) (answer : Answer)
    (values' : List Value) (picks picks' : Picks) → BodyWalked (choice_meaning machine) file body args values picks answer values' picks' →
    BlockChose file body args values machine.choices answer values' picks picks'
block_chose file machine body args values answer values' picks picks' w l b is =
    chose file machine body l b args values answer values' picks picks' (w l b is)

-- where there is a result, what follows from what holds of it
pub if_ok : {T E : Type 0} {P Q : T → Type 0} (r : Result T E) → IfOk r P → ((t : T) → P t → Q t) → IfOk r Q
if_ok (Ok t) p f = f t p
if_ok (Err e) p f = tt
