-- Where the runs over terms end as those of a schedule do that violates an obligation, the obligation's term is 0.
use Rattle.std.proofs.Common.{◌≡◌, ◌&&◌, ℕ, Bool, true, false, List, [], refl, sym, ap, ◌∙◌, subst}
use Rattle.std.specs.Prelude.{Option}
use Rattle.ygg_value.specs.declared.shape.Shape.{Shape}
use Rattle.ygg_syntax.specs.declared.tree.Block.{Block}
use Rattle.ygg_syntax.specs.declared.tree.Declared.{Declared}
use Rattle.ygg_syntax.specs.declared.tree.Def.{Def}
use Rattle.ygg_sym_laws.specs.ygg_meaning.Environments.{Env}
use Rattle.ygg_sym_laws.specs.ygg_meaning.Layer.{ClosedLayer}
use Rattle.ygg_sym_laws.specs.ygg_meaning.Machine.{State}
use Rattle.ygg_sym_laws.specs.ygg_meaning.Progress.{Answer}
use Rattle.ygg_sym_laws.specs.ygg_meaning.Obligations.{Schedule, Obligation}
use Rattle.ygg_sym_laws.specs.ygg_meaning.Refines.{Below}
use Rattle.ygg_sym_laws.specs.ygg_meaning.Related.{settled}
use Rattle.ygg_sym_laws.specs.ygg_meaning.Shapes.{zeros_of}
use Rattle.ygg_sym_laws.specs.ygg_meaning.Violates.{End, same_state}
use Rattle.ygg_sym_laws.specs.ygg_rules.declared.rule.RuleKind.{RuleKind}
use Rattle.ygg_sym_laws.specs.ygg_bank.Values.{Inputs, Values, Fits}
use Rattle.ygg_sym_laws.specs.ygg_bank.declared.node.Id.{Id}
use Rattle.ygg_sym_laws.specs.ygg_bank.declared.node.Node.{Node}
use Rattle.ygg_sym_laws.specs.ygg_shape_cells.declared.terms.SymValue.{SymValue}
use Rattle.ygg_sym_laws.specs.ygg_sym_runs.Meaning.{is_set}
use Rattle.ygg_sym_laws.specs.ygg_sym_runs.Lows.{LowShaped, low_worth}
use Rattle.ygg_sym_laws.specs.Below.{places_on}
use Rattle.ygg_sym_laws.specs.Means.{AreBits, terms_of, Begins, AreWorth, EndsSo, WholeMeans, FallBits, AreFallBits, FallsTo}
use Rattle.ygg_oblige_laws.specs.LayerTerms.{ShapesKept}
use Rattle.ygg_oblige_laws.specs.Numbers.{Numbers, arguments_of}
use Rattle.ygg_oblige_laws.specs.TermStates.{Starting}
use Rattle.ygg_oblige_laws.specs.Terms.{Finish, ran, recovered}
use Rattle.ygg_oblige_laws.specs.Steps.{StepIs, end_worth, PassesSo}
use Rattle.ygg_oblige_laws.proofs.Again.{cut_again, ends_alike, AgainSo}
use Rattle.ygg_oblige_laws.proofs.Digits.{refutes, both_hold}
use Rattle.ygg_oblige_laws.proofs.Falls.{cut_of, RecoversSo}
use Rattle.ygg_oblige_laws.proofs.Schedules.{with_side, Sided, Unsided, Fails, unsided_unset, sided_unset}
use Rattle.ygg_oblige_laws.proofs.Setting.{Ready, FromIs, EndsWith, FallsWith}
use Rattle.ygg_oblige_laws.proofs.Wholes.{begun, woken, RunsSo, recovered_ends}
use Rattle.ygg_oblige_laws.specs.Parts.{PartsMean}

module _ (kinds : List RuleKind) (defs : List Def) (G : Below) (L : ClosedLayer) (parts : PartsMean kinds defs G L) (inputs : Inputs) (v : Values) where
  -- a run over terms that ends so is worth this end
  pub end_is : (b : Block) (args : List Declared) (e : End) (end : Finish) → EndsSo kinds defs G L b L.layer.memory args v e.answer e.to end →
      end_worth v L end true ≡ with_side e true
  end_is b args e end s =
      ap (λ (y : Answer). record { answer = y; to = (end_worth v L end true).to; side = true }) s.answer_is
      ∙ ap (λ (z : State Env). record { answer = e.answer; to = z; side = true }) s.to_is

  module _ (o : Obligation) (b : Block) (S : Starting) (args : List SymValue) (before : List Node) (ready : Ready L before S)
      (args_are : LowShaped before (arguments_of o) args) (x : Schedule) (given : Env) (step : StepIs v L o S.from.vars args x) (from : FromIs v L S x)
      (given_is : given ≡ low_worth v (arguments_of o) args) where
    begins : Begins kinds defs G L b L.layer.memory (arguments_of o) before (begun S args)
    begins = record { vars_are = ready.from.memory; args_are = args_are; low_are = ready.from.low }

    worth_so : AreWorth kinds defs G L b L.layer.memory (arguments_of o) v (begun S args) x.memory given x.low
    worth_so = record { vars_is = sym from.memory_is; args_is = sym given_is; low_is = sym from.low_is }

    pub run_refutes : (n : Numbers) (nodes : List Node) (out : Id) →
        let r = ran kinds (terms_of kinds defs) L G n.run b S.from.memory (arguments_of o) args S.from.low before in
        Fits inputs v r.nodes → RunsSo kinds defs G L parts inputs v o b S args r.value nodes out →
        Unsided L o → (e : End) (bits : ℕ → Bool) → EndsWith kinds defs G L b L.layer.memory (arguments_of o) bits x.memory given x.low e.answer e.to →
        AreBits inputs n.run (places_on G b) bits → is_set v S.related ≡ true → Fails L o x e → is_set v out ≡ false
    run_refutes n nodes out fit runs unsided e bits ends are related fails =
        let r = ran kinds (terms_of kinds defs) L G n.run b S.from.memory (arguments_of o) args S.from.low before in
        let s = ends inputs v n.run (begun S args) before begins fit worth_so are in
        let p = subst (λ z. PassesSo v L o x z runs.passing runs.some) (end_is b (arguments_of o) e r.value s) (runs.passes x step) in
        runs.is ∙ refutes (is_set v S.related) (is_set v runs.some)
        (record { first = related; second = unsided_unset v L o x runs.passing runs.some unsided e p fails })

    pub left_so : (n : Numbers) (fallen : Env) (bits : FallBits kinds defs G L b L.layer.memory (arguments_of o)) →
        FallsWith kinds defs G L b L.layer.memory (arguments_of o) bits x.memory given x.low fallen →
        AreFallBits kinds defs G L b L.layer.memory (arguments_of o) inputs n.run n.stop n.last bits → (shape : Option Shape) →
        let c = cut_of kinds defs G L parts inputs v shape n b S (arguments_of o) args before in
        Fits inputs v c.nodes → FallsTo kinds defs G L b L.layer.memory (arguments_of o) v fallen c.value
    left_so n fallen bits falls are shape fit = falls inputs v n.run n.stop n.last (begun S args) before begins fit worth_so are

  module _ (shape : Option Shape) (whole : WholeMeans kinds defs G L L.layer.recover L.layer.memory [] shape) (shapes : ShapesKept L.layer.memory) where
    pub recovery_refutes : (o : Obligation) (n : Numbers) (hypothesis : Id) (vars args left : List SymValue) (nodes : List Node) (out : Id) →
        RecoversSo kinds defs G L parts inputs v shape o n hypothesis vars args left nodes out → Sided L o → (x : Schedule) → StepIs v L o vars args x →
        (e : End) (fallen : Env) (bits : ℕ → Bool) →
        EndsWith kinds defs G L L.layer.recover L.layer.memory [] bits (zeros_of L.layer.memory) [] fallen e.answer e.to →
        AreBits inputs n.wake (places_on G L.layer.recover) bits → low_worth v L.low left ≡ fallen → e.side ≡ settled L fallen →
        is_set v hypothesis ≡ true → Fails L o x e → is_set v out ≡ false
    recovery_refutes o n hypothesis vars args left nodes out r sided x step e fallen bits ends are left_is side hyp fails =
        let end = recovered kinds (terms_of kinds defs) L G n.wake left r.at in
        let s = recovered_ends kinds defs G L parts inputs v shape whole shapes bits fallen e.answer e.to ends n.wake left r.at r.low_shaped left_is are
        r.fit in
        let p = subst (λ z. PassesSo v L o x z r.passing r.some) (end_is L.layer.recover [] e end.value s) (r.passes x step) in
        let unset = sided_unset v L o x r.passing r.some sided e p fails in
        let settled_so : settled L (low_worth v L.low left) ≡ e.side = ap (settled L) left_is ∙ sym side in
        r.is ∙ refutes (is_set v hypothesis) (settled L (low_worth v L.low left) && is_set v r.some)
        (record { first = hyp; second = ap (λ z. z && is_set v r.some) settled_so ∙ unset })

    pub again_refutes : (n : Numbers) (S : Starting) (nodes : List Node) (out : Id) →
        AgainSo kinds defs G L parts inputs v shape whole shapes n S nodes out → (low fallen : Env) →
        (bits : FallBits kinds defs G L L.layer.recover L.layer.memory []) →
        FallsWith kinds defs G L L.layer.recover L.layer.memory [] bits (zeros_of L.layer.memory) [] low fallen →
        AreFallBits kinds defs G L L.layer.recover L.layer.memory [] inputs n.run n.stop n.last bits →
        (wake : ℕ → Bool) (answer : Answer) (to : State Env) →
        EndsWith kinds defs G L L.layer.recover L.layer.memory [] wake (zeros_of L.layer.memory) [] fallen answer to →
        AreBits inputs n.wake (places_on G L.layer.recover) wake →
        (other : ℕ → Bool) (answer' : Answer) (to' : State Env) →
        EndsWith kinds defs G L L.layer.recover L.layer.memory [] other (zeros_of L.layer.memory) [] low answer' to' →
        AreBits inputs n.other (places_on G L.layer.recover) other →
        low_worth v L.low S.settled_low ≡ low → is_set v S.settled ≡ true → (settled L fallen && same_state to to') ≡ false → is_set v out ≡ false
    again_refutes n S nodes out a low fallen bits falls fall_are wake answer to wakes wake_are other answer' to' others other_are low_is set fails =
        let left = (cut_again kinds defs G L parts inputs v shape whole shapes n a.zeros S.settled_low a.at).value in
        let c = falls inputs v n.run n.stop n.last (woken a.zeros S.settled_low) a.at a.begins.begins a.cut_fit
        (record { vars_is = a.begins.zeros_are; args_is = refl; low_is = low_is }) fall_are in
        let run = (recovered kinds (terms_of kinds defs) L G n.wake left.fallen a.end_at).value in
        let again = (recovered kinds (terms_of kinds defs) L G n.other S.settled_low a.other_at).value in
        let s = recovered_ends kinds defs G L parts inputs v shape whole shapes wake fallen answer to wakes n.wake left.fallen a.end_at a.end_low c.fallen_is
        wake_are a.end_fit in
        let t = recovered_ends kinds defs G L parts inputs v shape whole shapes other low answer' to' others n.other S.settled_low a.other_at a.other_low low_is
        other_are a.other_fit in
        let alike = ends_alike kinds defs G L parts inputs v shape whole shapes run again in
        let same : alike ≡ same_state to to' =
        ap (λ z. same_state z (end_worth v L again true).to) s.to_is ∙ ap (same_state to) t.to_is in
        a.is ∙ refutes (is_set v S.settled && is_set v left.reached) (settled L (low_worth v L.low left.fallen) && alike)
        (record {
          first = both_hold (is_set v S.settled) (is_set v left.reached) set c.reached;
          second = ap (λ z. settled L z && alike) c.fallen_is ∙ ap (λ z. settled L fallen && z) same ∙ fails;
        })
