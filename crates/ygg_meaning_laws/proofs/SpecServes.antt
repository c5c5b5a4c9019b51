-- A specification that answers serves typed blocks as its function of picks says.
use Rattle.std.proofs.Common.{
  ◌≡◌,
  Bool,
  true,
  false,
  if◌then◌else◌,
  List,
  [],
  ◌∷◌,
  ◌++◌,
  Option,
  Some,
  None,
  option_map,
  refl,
  sym,
  ap,
  ◌∙◌,
  subst,
  append_assoc,
}
use Rattle.std.proofs.lemmas.List.{append-nil, map-append}
use Rattle.ygg_value.specs.Values.{digit}
use Rattle.ygg_value.specs.declared.row.Value.{Value}
use Rattle.ygg_syntax.specs.declared.grammar.BlockKind.TheVariants.{Impl}
use Rattle.ygg_syntax.specs.declared.tree.Block.{Block}
use Rattle.ygg_syntax.specs.declared.tree.Operation.{Operation}
use Rattle.ygg_meaning_laws.specs.ygg_type_rules.Names.{Named, look_up}
use Rattle.ygg_meaning_laws.specs.Signature.{Signature}
use Rattle.ygg_meaning_laws.specs.Definitions.{parameter_shapes}
use Rattle.ygg_meaning_laws.specs.Layers.{operation_signature}
use Rattle.ygg_meaning_laws.specs.Environments.{Name, Env, bind}
use Rattle.ygg_meaning_laws.specs.MeaningShapes.{values_fit}
use Rattle.ygg_meaning_laws.specs.Progress.{Question, Call, Answer}
use Rattle.ygg_meaning_laws.specs.Machine.{Picks, State, based}
use Rattle.ygg_meaning_laws.specs.Layer.{ClosedLayer, eval_of, operation_of}
use Rattle.ygg_meaning_laws.specs.Spec.{chosen, outcome_at, block_outcome, then_block, call_outcome, fall_with, Spec}
use Rattle.ygg_meaning_laws.specs.Fitting.{all_fit}
use Rattle.ygg_meaning_laws.specs.Questions.{answer_fits, question_fits}
use Rattle.ygg_meaning_laws.specs.Machines.{IsStateOf, SpecAnswers}
use Rattle.ygg_meaning_laws.proofs.Operations.{seen_operation}
use Rattle.ygg_meaning_laws.specs.Direct.{Handled, Event, told_by, Chained}
use Rattle.ygg_meaning_laws.specs.Acts.{next_of, later, Taken, noted_picks, CallIs, FallIs, LossIs}
use Rattle.ygg_meaning_laws.specs.Places.{Held, from_front, choosing}
use Rattle.ygg_meaning_laws.specs.SpecActs.{Ran, chooses, block_ran, then_crash, fall_ran, fell_so, spec_does, spec_drops, spec_acts}
use Rattle.ygg_meaning_laws.proofs.Taking.{taken_append}
use Rattle.ygg_meaning_laws.proofs.Order.{block_follows}
use Rattle.ygg_meaning_laws.proofs.Made.{Serves}
use Rattle.ygg_meaning_laws.proofs.DiskServes.{fitting_call, answer_does}

module _ (past : Bool) where
  -- what a direct run from the front has taken
  record Took (so_far picks : Picks) (es : List (Event (Held Picks))) (end : Held Picks) : Type 0 where
    taken : Picks
    at : end.at ≡ so_far ++ taken
    told : told_by es ≡ chosen taken
    takes : Taken past taken picks end.left

  takes_all : (so_far picks : Picks) (es : List (Event (Held Picks))) (end : Held Picks) →
      Chained (from_front (choosing past)) (record { at = so_far; left = picks }) es end →
      Took so_far picks es end
  takes_all so_far picks [] end c = record {
    taken = [];
    at = ap (λ (h : Held Picks). h.at) (sym c) ∙ sym (append-nil so_far);
    told = refl;
    takes = ap (λ (h : Held Picks). h.left) (sym c);
  }
  takes_all so_far picks (e ∷ es) end c =
      let answer : e.answer ≡ Some (digit (next_of past picks)) = ap (λ (h : Handled (Held Picks)). h.answer) (sym c.1) in
      let stands : e.after ≡ record { at = so_far ++ next_of past picks ∷ []; left = later picks } = ap (λ (h : Handled (Held Picks)). h.to) (sym c.1) in
      let r = takes_all (so_far ++ next_of past picks ∷ []) (later picks) es end (subst (λ h. Chained (from_front (choosing past)) h es end) stands c.2) in
      record {
        taken = next_of past picks ∷ r.taken;
        at = r.at ∙ append_assoc so_far (next_of past picks ∷ []) r.taken;
        told = ap (λ y. y ∷ told_by es) answer ∙ ap (λ z. Some (digit (next_of past picks)) ∷ z) r.told;
        takes = (refl, r.takes);
      }

  module _ (L : ClosedLayer) where
    -- a direct run is what the block ends in with the picks that it takes, whatever follows them
    pub record Gives (b : Block) (vars args : Env) (picks : Picks) (r : Ran) : Type 0 where
      pub gives : (more : Picks) → block_outcome L b vars args (chosen (r.taken ++ more)) ≡ Some
          (record { vars = r.vars; answer = r.answer; left = chosen more })
      pub takes : Taken past r.taken picks r.left

    pub ran_gives : (b : Block) (vars args : Env) (picks : Picks) → Gives b vars args picks (block_ran past L b vars args picks)
    ran_gives b vars args picks =
        let r = chooses past L b vars args picks in
        let f = block_follows (eval_of L) (λ f. 1) (from_front (choosing past)) b.statements 0 (vars ++ args) (record { at = []; left = picks }) in
        let t = takes_all [] picks r.events r.to f.chained in
        record {
          gives = λ more.
              ap (λ z. block_outcome L b vars args (chosen (z ++ more))) t.at
              ∙ ap (block_outcome L b vars args) (map-append (λ p. Some (digit p)) t.taken more ∙ ap (λ z. z ++ chosen more) (sym t.told))
              ∙ ap (outcome_at (eval_of L) b vars) (f.goes (chosen more));
          takes = subst (λ z. Taken past z picks r.to.left) (sym t.at) t.takes;
        }

    -- alone
    pub ran_alone : (b : Block) (vars args : Env) (picks : Picks) → let r = block_ran past L b vars args picks in
        block_outcome L b vars args (chosen r.taken) ≡ Some (record { vars = r.vars; answer = r.answer; left = [] })
    ran_alone b vars args picks =
        let r = block_ran past L b vars args picks in ap (λ z. block_outcome L b vars args (chosen z)) (sym (append-nil r.taken))
        ∙ (ran_gives b vars args picks).gives []

    -- with the `crash` block
    crash_gives : (b : Block) (vars args : Env) (picks : Picks) → let r = then_crash past L (block_ran past L b vars args picks) in
        (then_block L L.layer.crash (block_outcome L b vars args (chosen r.taken)) ≡ Some (record { vars = r.vars; answer = r.answer; left = [] }))
        × Taken past r.taken picks r.left
    crash_gives b vars args picks =
        let r = block_ran past L b vars args picks in
        let c = block_ran past L L.layer.crash r.vars [] r.left in (
          ap (then_block L L.layer.crash) ((ran_gives b vars args picks).gives c.taken) ∙ ran_alone L.layer.crash r.vars [] r.left,
          taken_append past r.taken c.taken picks r.left c.left (ran_gives b vars args picks).takes (ran_gives L.layer.crash r.vars [] r.left).takes,
        )

    fall_gives : (o : Operation) (crash : Option Block) (vars : Env) (args : List Value) (picks : Picks) → let r = fall_ran past L o crash vars args picks in
        (fall_with L o crash vars args r.taken ≡ Some (record { vars = r.vars; answer = r.answer; left = [] })) × Taken past r.taken picks r.left
    fall_gives o (Some b) vars args picks = crash_gives b vars (bind o.arguments args) picks
    fall_gives o None vars args picks = by_pick (next_of past picks) refl
      where
        so : Bool → Ran
        so n = if n then then_crash past L (block_ran past L o.spec vars (bind o.arguments args) (later picks))
            else block_ran past L L.layer.crash vars [] (later picks)

        by_pick : (n : Bool) → next_of past picks ≡ n →
            ((if n then then_block L L.layer.crash (call_outcome L o vars args (chosen (so n).taken)) else block_outcome L L.layer.crash vars []
            (chosen (so n).taken))
            ≡ Some (record { vars = (so n).vars; answer = (so n).answer; left = [] }))
            × ((n ≡ next_of past picks) × Taken past (so n).taken (later picks) (so n).left)
        by_pick true e = let g = crash_gives o.spec vars (bind o.arguments args) (later picks) in (g.0, (sym e, g.1))
        by_pick false e = (ran_alone L.layer.crash vars [] (later picks), (sym e, (ran_gives L.layer.crash vars [] (later picks)).takes))

    module _ (answers : SpecAnswers L) (lower : Named Signature)
        (seen : (name : Name) → look_up name lower ≡ option_map operation_signature (operation_of L name))
        (fit : (name : Name) (o : Operation) (args : List Value) → operation_of L name ≡ Some o → all_fit (parameter_shapes o.arguments) args ≡ true →
        values_fit o.arguments args ≡ true) where
      -- what a block may ask of the specification, and answers that fit
      abbrev pub MayAsk : Question → Type 0
      MayAsk q = question_fits Impl lower q ≡ true

      abbrev pub Fits : Question → Answer → Type 0
      Fits q a = answer_fits lower q a ≡ true

      -- the operation of a fitting call
      record Meant (name : Name) (args : List Value) : Type 0 where
        operation : Operation
        is : operation_of L name ≡ Some operation
        fits : values_fit operation.arguments args ≡ true
        found : look_up name lower ≡ Some (operation_signature operation)

      meant : (name : Name) (args : List Value) → MayAsk (Call name args) → Meant name args
      meant name args may =
          let f = fitting_call lower name args may in
          let s = seen_operation L.layer.operations name f.operation (sym (seen name) ∙ f.found) in
          record {
            operation = s.operation;
            is = s.found;
            fits = fit name s.operation args s.found (subst (λ (x : Signature). all_fit x.arguments args ≡ true) (sym s.is) f.fit);
            found = f.found ∙ ap Some (sym s.is);
          }

      call_is : (s : State Env) (name : Name) (args : List Value) (picks : Picks) → IsStateOf L s → MayAsk (Call name args) →
          CallIs past noted_picks (Spec L) s name args picks ((spec_acts past L).calls s name args picks)
      call_is s name args picks good may =
          let m = meant name args may in
          let r = block_ran past L m.operation.spec good.vars (bind m.operation.arguments args) picks in
          subst (λ s. CallIs past noted_picks (Spec L) s name args picks (spec_does past L s (operation_of L name) args picks)) (sym good.is)
          (subst (λ o. CallIs past noted_picks (Spec L) (based good.vars) name args picks (spec_does past L (based good.vars) o args picks)) (sym m.is)
          (record {
            step = record {
              operation = m.operation;
              is = m.is;
              fit = m.fits;
              vars = good.vars;
              from_is = refl;
              shaped = good.shaped;
              vars' = r.vars;
              gives = ran_alone m.operation.spec good.vars (bind m.operation.arguments args) picks;
              to_is = refl;
            };
            took = (ran_gives m.operation.spec good.vars (bind m.operation.arguments args) picks).takes;
          }))

      fall_is : (s : State Env) (name : Name) (args : List Value) (picks : Picks) → IsStateOf L s → MayAsk (Call name args) →
          FallIs past noted_picks (Spec L) s name args picks ((spec_acts past L).falls s name args picks)
      fall_is s name args picks good may =
          let m = meant name args may in
          let r = fall_ran past L m.operation m.operation.on_crash good.vars args picks in
          let g = fall_gives m.operation m.operation.on_crash good.vars args picks in
          subst (λ s. FallIs past noted_picks (Spec L) s name args picks (spec_drops past L s (operation_of L name) args picks)) (sym good.is)
          (subst (λ o. FallIs past noted_picks (Spec L) (based good.vars) name args picks (spec_drops past L (based good.vars) o args picks)) (sym m.is)
          (record {
            step = record {
              operation = m.operation;
              is = m.is;
              fit = m.fits;
              vars = good.vars;
              from_is = refl;
              shaped = good.shaped;
              answer =
                  r.answer;
              gives = g.0;
            };
            took = g.1;
          }))

      loss_is : (s : State Env) (picks : Picks) → IsStateOf L s → LossIs past noted_picks (Spec L) s picks ((spec_acts past L).loses s picks)
      loss_is s picks good =
          let r = block_ran past L L.layer.crash good.vars [] picks in
          subst (λ (s : State Env). LossIs past noted_picks (Spec L) s picks (fell_so past L (block_ran past L L.layer.crash s.base [] picks))) (sym good.is)
          (record {
            step = record { vars = good.vars; from_is = refl; shaped = good.shaped; answer = r.answer; gives = ran_alone L.layer.crash good.vars [] picks };
            took = (ran_gives L.layer.crash good.vars [] picks).takes;
          })

      -- a specification that answers serves
      pub spec_serves : Serves past noted_picks (Spec L) (spec_acts past L) (IsStateOf L) MayAsk Fits
      spec_serves = record {
        no_choice = λ h. absurd (cc);
        calls = call_is;
        keeps = λ s name args picks good may. answers.keeps s _ name args _ _ (call_is s name args picks good may).step;
        fit = λ s name args picks good may.
            let m = meant name args may in
            answer_does lower name args (operation_signature m.operation) _ m.found
            (answers.gives s _ name args _ _ m.operation (call_is s name args picks good may).step m.is);
        falls = fall_is;
        loses = loss_is;
      }
