-- Machines as functions of picks, of which each question takes the picks that are named.
use Rattle.std.proofs.Common.{◌≡◌, ℕ, zero, suc, Bool, true, false, List, [], ◌∷◌, ◌++◌, take, length, Some, None, option_map, refl, sym, ap, ◌∙◌, arith}
use Rattle.std.proofs.lemmas.List.{append-nil, length-append}
use Rattle.ygg_value.specs.declared.row.Value.{Value}
use Rattle.ygg_syntax.specs.declared.tree.Block.{Block}
use Rattle.ygg_sym_laws.specs.ygg_meaning.Environments.{Name, Env}
use Rattle.ygg_sym_laws.specs.ygg_meaning.Layer.{ClosedLayer, eval_of}
use Rattle.ygg_sym_laws.specs.ygg_meaning.Machine.{Picks, State, on}
use Rattle.ygg_sym_laws.specs.ygg_meaning.Obligations.{Halt}
use Rattle.ygg_sym_laws.specs.ygg_meaning.Progress.{Question, Choice, Call, answer_of}
use Rattle.ygg_sym_laws.specs.ygg_meaning_laws.Acts.{Acts, Did, Fell, Standing, serve, after_did, lost_at, cut_at, stopped_in, runs, falls_in}
use Rattle.ygg_sym_laws.specs.ygg_meaning_laws.Direct.{Handled, Event, Reached, direct_run}
use Rattle.ygg_sym_laws.specs.ygg_meaning_laws.RunPlaces.{base_at, asked_in}
use Rattle.ygg_sym_laws.specs.ygg_sym_runs_proofs_WholeRuns.{take_less}
use Rattle.ygg_sym_laws.specs.Taking.{Takes, picks_of}
use Rattle.ygg_sym_laws.specs.Fronts.{stopped_picks}
use Rattle.ygg_sym_laws.proofs.Fronting.{fronted, stopped}

module _ {B : Type 0} (F : Acts B Bool) where
  -- power fails within a question that is asked in a state
  abbrev pub falls_at : Question → State B → Picks → Fell B Bool
  falls_at Choice z picks = F.loses z picks
  falls_at (Call f xs) z picks = F.falls z f xs picks

  -- a machine by place does what the function of picks does with the picks that are named
  pub record Named (h : ℕ → Question → State B → Handled (State B)) (takes : Takes (State B)) : Type 0 where
    pub chooses : (i : ℕ) (z : State B) → h i Choice z ≡ record { answer = None; to = z }
    pub none : (i : ℕ) (z : State B) → takes i Choice z ≡ []
    pub calls : (i : ℕ) (f : Name) (xs : List Value) (z : State B) (more : Picks) →
        F.calls z f xs (takes i (Call f xs) z ++ more)
        ≡ record { answer = (h i (Call f xs) z).answer; to = (h i (Call f xs) z).to; notes = takes i (Call f xs) z; left = more }

  -- and power that fails leaves what it leaves with the picks that are named
  pub record NamedFalls (cut : Question → State B → B) (lose : State B → B) (cut_takes : Question → State B → Picks) (lose_takes : State B → Picks)
      : Type 0 where
    pub cuts : (q : Question) (z : State B) → falls_at q z (cut_takes q z) ≡ record { base = cut q z; notes = cut_takes q z; left = [] }
    pub loses : (z : State B) → F.loses z (lose_takes z) ≡ record { base = lose z; notes = lose_takes z; left = [] }

  abbrev standing : State B → Picks → Picks → Standing B Bool
  standing z notes left = record { at = z; notes = notes; left = left }

  cut_there : (q : Question) (z : Standing B Bool) → cut_at F q z ≡ lost_at F z (falls_at q z.at z.left)
  cut_there Choice z = refl
  cut_there (Call f xs) z = refl

  abbrev lose_there : Standing B Bool → Fell B Bool
  lose_there z = lost_at F z (F.loses z.at z.left)

  -- what a direct run leaves that stops
  stops_there : (within : Bool) (es : List (Event (Standing B Bool))) (n : ℕ) (end : Standing B Bool) →
      stopped_in F within es n end ≡ base_at (cut_at F) lose_there within (asked_in es) n end
  stops_there true [] zero end = refl
  stops_there false [] zero end = refl
  stops_there within [] (suc n) end = refl
  stops_there within (e ∷ es) zero end = refl
  stops_there within (e ∷ es) (suc n) end = stops_there within es n end

  module _ (h : ℕ → Question → State B → Handled (State B)) (takes : Takes (State B)) (named : Named h takes) where
    -- a question
    serves : (i j : ℕ) (q : Question) (z : State B) (notes more : Picks) → serve F j q (standing z notes (takes i q z ++ more))
        ≡ record { answer = (h i q z).answer; to = standing (h i q z).to (notes ++ takes i q z) more }
    serves i j Choice z notes more =
        ap (λ ps. let k : Handled (Standing B Bool) = record { answer = None; to = standing z notes (ps ++ more) } in k) (named.none i z)
        ∙ ap (λ ps. let k : Handled (Standing B Bool) = record { answer = None; to = standing z ps more } in k) (sym (append-nil notes))
        ∙ ap (λ ps. let k : Handled (Standing B Bool) = record { answer = None; to = standing z (notes ++ ps) more } in k) (sym (named.none i z))
        ∙ ap (λ (w : Handled (State B)). let k : Handled (Standing B Bool) =
        record { answer = w.answer; to = standing w.to (notes ++ takes i Choice z) more } in k) (sym (named.chooses i z))
    serves i j (Call f xs) z notes more = ap (after_did F (standing z notes (takes i (Call f xs) z ++ more))) (named.calls i f xs z more)

    module _ (space : Name → ℕ) (L : ClosedLayer) (b : Block) (memory given : Env) (lower : State B) where
      abbrev run : Reached (State B)
      run = direct_run (eval_of L) space h b (memory ++ given) lower

      kept : (env : Env) → take (length memory) (take (length (memory ++ given)) env) ≡ take (length memory) env
      kept env = let e = length-append memory given in take_less (length memory) (length (memory ++ given)) env (omega (arith, e))

      abbrev did : Env → Standing B Bool → Did B Bool
      did env z = record {
        answer = answer_of (eval_of L) b.answer env;
        to = on (take (length memory) (take (length (memory ++ given)) env)) z.at;
        notes = z.notes;
        left = z.left;
      }

      -- the run of the picks that it takes
      pub runs_named : runs F L b given (on memory lower) (picks_of takes run.events)
          ≡ record {
            answer = answer_of (eval_of L) b.answer run.env;
            to = on (take (length memory) run.env) run.to;
            notes = picks_of takes run.events;
            left = [];
          }
      runs_named =
          let all = picks_of takes run.events in
          let e = fronted h (serve F) takes standing serves (eval_of L) space (λ f. 1) b (memory ++ given) lower [] in
          let q = direct_run (eval_of L) (λ f. 1) (serve F) b (memory ++ given) (standing lower [] (all ++ [])) in
          ap (λ ps. runs F L b given (on memory lower) ps) (sym (append-nil all))
          ∙ ap (λ env. did env q.to) e.env_is ∙ ap (did run.env) e.to_is
          ∙ ap (λ env. let d : Did B Bool =
          record { answer = answer_of (eval_of L) b.answer run.env; to = on env run.to; notes = all; left = [] } in d) (kept run.env)

      module _ (cut : Question → State B → B) (lose : State B → B) (cut_takes : Question → State B → Picks) (lose_takes : State B → Picks)
          (fails : NamedFalls cut lose cut_takes lose_takes) where
        abbrev fell : B → Picks → Fell B Bool
        fell base picks = record { base = base; notes = picks; left = [] }

        cut_same : (q : Question) (z : State B) (notes : Picks) → cut_at F q (standing z notes (cut_takes q z)) ≡ fell (cut q z) (notes ++ cut_takes q z)
        cut_same q z notes =
            cut_there q (standing z notes (cut_takes q z)) ∙ ap (lost_at F (standing z notes (cut_takes q z))) (fails.cuts q z)

        lose_same : (z : State B) (notes : Picks) → lose_there (standing z notes (lose_takes z)) ≡ fell (lose z) (notes ++ lose_takes z)
        lose_same z notes = ap (lost_at F (standing z notes (lose_takes z))) (fails.loses z)

        -- and a stop leaves of the run of the picks up to there and of the failure what it leaves of the run by place
        pub falls_named : (stop : Halt) (fallen : B) →
            base_at cut lose stop.within (asked_in run.events) stop.event run.to ≡ Some fallen →
            let picks = stopped_picks takes cut_takes lose_takes stop.within run.events stop.event run.to in
            falls_in F L b given (on memory lower) stop picks ≡ Some (record { base = fallen; notes = picks; left = [] })
        falls_named stop fallen left =
            let picks = stopped_picks takes cut_takes lose_takes stop.within run.events stop.event run.to in
            let q = direct_run (eval_of L) (λ f. 1) (serve F) b (memory ++ given) (standing lower [] picks) in
            stops_there stop.within q.events stop.event q.to
            ∙ stopped h (serve F) takes standing serves cut lose cut_takes lose_takes (cut_at F) lose_there fell cut_same lose_same (eval_of L) space (λ f. 1)
            b (memory ++ given) lower stop.within stop.event
            ∙ ap (option_map (λ (c : B). fell c picks)) left
