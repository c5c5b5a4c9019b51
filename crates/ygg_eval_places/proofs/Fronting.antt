-- What a run on the machine that notes comes to.
use Rattle.std.proofs.Common.{◌≡◌, ℕ, ◌+◌, Bool, true, List, [], ◌++◌, take, length, Option, Some, None, option_map, refl, sym, ap, ◌∙◌, subst, arith}
use Rattle.ygg_value.specs.declared.row.Value.{Value}
use Rattle.ygg_syntax.specs.declared.tree.Block.{Block}
use Rattle.ygg_syntax.specs.declared.tree.File.{File}
use Rattle.ygg_syntax.specs.declared.tree.Layer.{Layer}
use Rattle.ygg_eval.specs.ygg_meaning.Environments.{Env, bind}
use Rattle.ygg_eval.specs.ygg_meaning.Machine.{Picks, State, on}
use Rattle.ygg_eval.specs.ygg_meaning.Obligations.{Halt}
use Rattle.ygg_eval.specs.ygg_meaning.Progress.{Answer, answer_of}
use Rattle.ygg_eval.specs.ygg_meaning.Refines.{Below}
use Rattle.ygg_eval.specs.ygg_meaning.Shapes.{values_fit}
use Rattle.ygg_eval.specs.ygg_meaning_laws.Direct.{Reached, direct_run}
use Rattle.ygg_eval_places.specs.ygg_sym_runs.Stops.{halt, first_stop}
use Rattle.ygg_eval_places.specs.ygg_sym_laws.Below.{places_on, space_on}
use Rattle.ygg_eval_places.specs.ygg_sym_laws.Fronts.{takes_on, cut_takes_on, lose_takes_on, run_by_place, run_stop, stopped_picks}
use Rattle.ygg_eval_places.specs.ygg_sym_laws.Taking.{picks_of}
use Rattle.ygg_eval.specs.Ready.{eval_in}
use Rattle.ygg_eval.specs.Bodies.{arguments_in, variables_in}
use Rattle.ygg_eval.specs.Layers.{below_at, closed_at, variables_at}
use Rattle.ygg_eval.specs.declared.body.Body.{Body}
use Rattle.ygg_eval_places.specs.Bits.{bits_in}
use Rattle.ygg_eval_places.specs.Belows.{Noted, cut_of, failing, fallen_at_end, noted_of, notes_below}
use Rattle.ygg_eval_places.specs.Fronts.{Falls, Fronted}
use Rattle.ygg_eval_places.specs.declared.below.BelowState.{BelowState}
use Rattle.ygg_eval_places.specs.declared.below.Fallen.{Fallen}
use Rattle.ygg_eval_places.specs.declared.below.PlacedBits.{PlacedBits}
use Rattle.ygg_eval_places.proofs.Noting.{Fails, mirrored, picks_noted, fails_noted}

module _ (file : File) (body : Body) (l : Layer) (b : Block) (args values : List Value) (bits : PlacedBits) where
  abbrev G : Below
  G = below_at file body.layer

  abbrev memory : Env
  memory = bind (variables_in l body.part) values

  abbrev given : Env
  given = bind (arguments_in l body.part body.number) args

  abbrev run : ℕ → Bool
  run = bits_in bits.run

  abbrev stops : ℕ → Bool
  stops = bits_in bits.stops

  abbrev last : ℕ → Bool
  last = bits_in bits.last

  -- the run on the machine that notes
  abbrev noting : Noted → Reached Noted
  noting z = direct_run (eval_in file) (space_on G) (notes_below G run stops last) b (memory ++ given) z

  -- the run by place
  abbrev placed : List Value → Reached (State Env)
  placed low = run_by_place G (closed_at file body.layer l) b memory given (bind (variables_at file body.layer) low) run

  falls_as : (low : List Value) (z : Noted) → z.asked ≡ 0 → z.picks ≡ [] → (o : Option Halt) (f : Option Fallen) →
      Fails G run stops last z (placed low).events (placed low).to o (option_map (cut_of file body.layer) f) → Falls file body l b args values low bits o f
  falls_as low z asked none None None h = refl
  falls_as low z asked none None (Some f) h = absurd (cc)
  falls_as low z asked none (Some stop) None h = h
  falls_as low z asked none (Some stop) (Some f) h = record {
    stop_is = h.stop_is ∙ ap (halt stop.within) (let e : z.asked + stop.event ≡ stop.event = let k = asked in omega (arith, k) in e);
    left = h.left;
    fit = h.shaped;
    picks = h.picks ∙ ap (λ ps. ps ++ stopped_picks (takes_on G run) (cut_takes_on G last) (lose_takes_on G last) stop.within (placed low).events
        stop.event (placed low).to) none;
  }

  -- what a whole run comes to, and where power fails in it
  pub fronted : (low : List Value) (none : Picks) (s1 s2 : BelowState) (answer : Answer) (values' : List Value) (place : ℕ) → none ≡ [] →
      (let z = noted_of file body.layer (record { low = low; picks = none; asked = 0; fallen = None }) in
      let r = direct_run (eval_in file) (space_on (below_at file body.layer)) (notes_below (below_at file body.layer) (bits_in bits.run)
      (bits_in bits.stops) (bits_in bits.last)) b
      (bind (variables_in l body.part) values ++ bind (arguments_in l body.part body.number) args) z in
      answer ≡ answer_of (eval_in file) b.answer r.env
      → bind (variables_in l body.part) values' ≡ take (length (bind (variables_in l body.part) values)) r.env
      → values_fit (variables_in l body.part) values' ≡ true → noted_of file body.layer s1 ≡ r.to → (noted_of file body.layer s1).shaped ≡ true →
      noted_of file body.layer s2
      ≡ failing (fallen_at_end (below_at file body.layer) (bits_in bits.run) (bits_in bits.stops) (bits_in bits.last) place (noted_of file body.layer s1))
      (noted_of file body.layer s1) → place ≡ places_on (below_at file body.layer) b →
      Fronted file body l b args values low bits (record { answer = answer; low = s2.low; picks = s2.picks; fallen = s2.fallen }) values')
  fronted low none s1 s2 answer values' place empty answered leaves fit state shaped ended places =
      let z = noted_of file body.layer (record { low = low; picks = none; asked = 0; fallen = None }) in
      let r = noting z in
      let p = placed low in
      let same = mirrored G run stops last (eval_in file) (space_on G) b (memory ++ given) z in
      let env : p.env ≡ r.env = ap (λ (x : Reached (State Env)). x.env) same in
      let to : p.to ≡ (r.to).at = ap (λ (x : Reached (State Env)). x.to) same in
      let at : (noted_of file body.layer s2).at ≡ p.to =
      ap (λ (x : Noted). x.at) ended ∙ ap (λ (x : Noted). x.at) state ∙ sym to in
      let fallen : option_map (cut_of file body.layer) s2.fallen ≡ fallen_at_end G run stops last (places_on G b) r.to =
      ap (λ (x : Noted). x.fallen) ended ∙ ap (λ n. fallen_at_end G run stops last n (noted_of file body.layer s1)) places
      ∙ ap (fallen_at_end G run stops last (places_on G b)) state in
      record {
        answer = answered ∙ ap (answer_of (eval_in file) b.answer) (sym env);
        state = ap (λ m. on m (noted_of file body.layer s2).at) (leaves ∙ ap (take (length memory)) (sym env))
            ∙ ap (on (take (length memory) p.env)) at;
        fit = fit;
        low_fit = ap (λ (x : Noted). x.shaped) ended ∙ shaped;
        picks = ap (λ (x : Noted). x.picks) ended ∙ ap (λ (x : Noted). x.picks) state
            ∙ picks_noted G run stops last (eval_in file) (space_on G) b (memory ++ given) z ∙ ap (λ ps. ps ++ picks_of (takes_on G run) p.events) empty;
        falls = falls_as low z refl empty (run_stop G (closed_at file body.layer l) b memory given (bind (variables_at file body.layer) low) run stops)
            s2.fallen
            (subst (λ o. Fails G run stops last z p.events p.to (first_stop stops p.events (places_on G b)) o) (sym fallen)
            (fails_noted G run stops last (eval_in file) (space_on G) b (memory ++ given) z (places_on G b) refl));
      }
