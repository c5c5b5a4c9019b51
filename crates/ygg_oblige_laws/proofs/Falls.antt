-- Runs over terms that power cuts, a recovery after them, and whether the specification's step passes then.
use Rattle.std.proofs.Common.{◌≡◌, ◌&&◌, ◌||◌, not, true, List, [], ap, ◌∙◌, subst}
use Rattle.std.specs.Prelude.{Option}
use Rattle.ygg_value.specs.declared.operation.Op.TheVariants.{And}
use Rattle.ygg_value.specs.declared.shape.Shape.{Shape}
use Rattle.ygg_syntax.specs.declared.tree.Block.{Block}
use Rattle.ygg_syntax.specs.declared.tree.Declared.{Declared}
use Rattle.ygg_syntax.specs.declared.tree.Def.{Def}
use Rattle.ygg_sym_laws.specs.ygg_meaning.Layer.{ClosedLayer}
use Rattle.ygg_sym_laws.specs.ygg_meaning.Related.{settled}
use Rattle.ygg_sym_laws.specs.ygg_meaning.Obligations.{Schedule, Obligation}
use Rattle.ygg_sym_laws.specs.ygg_meaning.Refines.{Below}
use Rattle.ygg_sym_laws.specs.ygg_rules.declared.rule.RuleKind.{RuleKind}
use Rattle.ygg_sym_laws.specs.ygg_bank_proofs_Made.{made_grows}
use Rattle.ygg_sym_laws.specs.ygg_bank_proofs_Meaning.{fits_fewer}
use Rattle.ygg_sym_laws.specs.ygg_bank_proofs_Widths.{wider, extends_both}
use Rattle.ygg_sym_laws.specs.ygg_bank.Makes.{Make}
use Rattle.ygg_sym_laws.specs.ygg_bank.Making.{made}
use Rattle.ygg_sym_laws.specs.ygg_bank.Nodes.{HasWidth}
use Rattle.ygg_sym_laws.specs.ygg_bank.Values.{Inputs, Values, Fits}
use Rattle.ygg_sym_laws.specs.ygg_bank.declared.node.Id.{Id}
use Rattle.ygg_sym_laws.specs.ygg_bank.declared.node.Node.{Node}
use Rattle.ygg_sym_laws.specs.ygg_bank.declared.node.Node.TheVariants.{Bin}
use Rattle.ygg_sym_laws.specs.ygg_shape_cells.declared.terms.SymValue.{SymValue}
use Rattle.ygg_sym_laws.specs.ygg_sym_runs.ExpressionMeaning.{Grows, Gives}
use Rattle.ygg_sym_laws.specs.ygg_sym_runs.Meaning.{is_set}
use Rattle.ygg_sym_laws.specs.ygg_sym_runs.Lows.{LowShaped, low_worth}
use Rattle.ygg_sym_laws.specs.ygg_sym_runs.StopTerms.{SymFallen}
use Rattle.ygg_sym_laws.specs.ygg_sym_runs_proofs_Lows.{low_wider}
use Rattle.ygg_sym_laws.specs.Means.{terms_of, values_in, Begins, WorthFall, WholeMeans, FallMeans}
use Rattle.ygg_oblige_laws.specs.Implied.{implied_made}
use Rattle.ygg_oblige_laws.specs.LayerTerms.{ShapesKept}
use Rattle.ygg_oblige_laws.specs.Numbers.{Numbers, arguments_of}
use Rattle.ygg_oblige_laws.specs.TermStates.{Starting, settled_made}
use Rattle.ygg_oblige_laws.specs.Terms.{Finish, some_passes, recovered, cut_short, recovers, falls_through}
use Rattle.ygg_oblige_laws.specs.Steps.{HasStep, variables_of, ObligationTyped, AnswerKept, StepIs, end_worth, PassesSo}
use Rattle.ygg_oblige_laws.proofs.Digits.{both_is, implied_grows, implied_is}
use Rattle.ygg_oblige_laws.proofs.Setting.{Ready, ready_wider, answer_wider}
use Rattle.ygg_oblige_laws.proofs.Wholes.{begun, recovered_grows, recovered_gives}
use Rattle.ygg_oblige_laws.specs.Parts.{PartsMean}

module _ (kinds : List RuleKind) (defs : List Def) (G : Below) (L : ClosedLayer) (parts : PartsMean kinds defs G L) (inputs : Inputs) (v : Values)
    (shape : Option Shape) where
  -- A recovery, and a term that is 0 where the hypothesis is 1, and the base is not settled or no step of the specification passes.
  pub record RecoversSo (o : Obligation) (n : Numbers) (hypothesis : Id) (vars args fallen : List SymValue) (nodes : List Node) (out : Id) : Type 0 where
    pub wide : HasWidth nodes out 1
    -- the nodes that the recovery begins with
    pub at : List Node
    pub low_shaped : LowShaped at L.low fallen
    pub fit : Fits inputs v (recovered kinds (terms_of kinds defs) L G n.wake fallen at).nodes
    pub some : Id
    pub is : is_set v out ≡ (not (is_set v hypothesis) || (settled L (low_worth v L.low fallen) && is_set v some))
    pub passing : List Node
    pub passes : (x : Schedule) → StepIs v L o vars args x →
        PassesSo v L o x (end_worth v L (recovered kinds (terms_of kinds defs) L G n.wake fallen at).value true) passing some

  -- a run of a block from the states that obligations begin with, which power cuts
  abbrev pub cut_of : Numbers → Block → Starting → List Declared → List SymValue → Make (SymFallen (List SymValue))
  cut_of n b S declared args = cut_short kinds (terms_of kinds defs) L G n b S.from.memory declared args S.from.low

  -- A run that power cuts, a recovery, and such a term for the hypothesis that the relation holds and the run comes to a stop that is set.
  pub record FallsSo (o : Obligation) (n : Numbers) (b : Block) (S : Starting) (args : List SymValue) (before : List Node) (nodes : List Node) (out : Id)
      : Type 0 where
    pub cut_fit : Fits inputs v (cut_of n b S (arguments_of o) args before).nodes
    pub fall : is_set v (cut_of n b S (arguments_of o) args before).value.reached ≡ true →
        WorthFall kinds defs G L b L.layer.memory (arguments_of o) v (begun S args) (cut_of n b S (arguments_of o) args before).value
    pub hypothesis : Id
    pub hypothesis_is : is_set v hypothesis ≡ (is_set v S.related && is_set v (cut_of n b S (arguments_of o) args before).value.reached)
    pub recovers : RecoversSo o n hypothesis S.from.vars args (cut_of n b S (arguments_of o) args before).value.fallen nodes out

  module _ (whole : WholeMeans kinds defs G L L.layer.recover L.layer.memory [] shape) (shapes : ShapesKept L.layer.memory)
      (o : Obligation) (has : HasStep o) (typed : ObligationTyped defs G L o) (kept : (end : Finish) → AnswerKept v o end) where
    pub recovers_grows : (n : Numbers) (hypothesis : Id) (vars args fallen : List SymValue) →
        Grows (recovers kinds (terms_of kinds defs) L G o n hypothesis vars args fallen)
    recovers_grows n hypothesis vars args fallen nodes =
        let terms = terms_of kinds defs in
        let r = recovered kinds terms L G n.wake fallen nodes in
        let s = settled_made kinds terms L fallen r.nodes in
        let p = some_passes kinds terms L o vars args r.value s.nodes in
        let c = made kinds (Bin And s.value p.value) p.nodes in
        let t = implied_made kinds hypothesis c.value c.nodes in
        extends_both nodes r.nodes t.nodes (recovered_grows kinds defs G L parts inputs v shape whole shapes n.wake fallen nodes)
        (extends_both r.nodes s.nodes t.nodes ((parts.states.settled_add fallen).grows r.nodes)
        (extends_both s.nodes p.nodes t.nodes ((parts.steps.adds o vars args r.value).grows s.nodes)
        (extends_both p.nodes c.nodes t.nodes (made_grows kinds (Bin And s.value p.value) p.nodes) (implied_grows kinds hypothesis c.value c.nodes))))

    pub recovers_give : (n : Numbers) (hypothesis : Id) (vars args fallen : List SymValue) (nodes : List Node) → HasWidth nodes hypothesis 1 →
        LowShaped nodes (variables_of L o) vars → LowShaped nodes (arguments_of o) args → LowShaped nodes L.low fallen →
        (x : Schedule) → StepIs v L o vars args x →
        Gives inputs v (recovers kinds (terms_of kinds defs) L G o n hypothesis vars args fallen) nodes (RecoversSo o n hypothesis vars args fallen)
    recovers_give n hypothesis vars args fallen nodes wide vars_are args_are low_are x st h =
        let terms = terms_of kinds defs in
        let r = recovered kinds terms L G n.wake fallen nodes in
        let s = settled_made kinds terms L fallen r.nodes in
        let p = some_passes kinds terms L o vars args r.value s.nodes in
        let c = made kinds (Bin And s.value p.value) p.nodes in
        let t = implied_made kinds hypothesis c.value c.nodes in
        let gr = recovered_grows kinds defs G L parts inputs v shape whole shapes n.wake fallen nodes in
        let gs = (parts.states.settled_add fallen).grows r.nodes in
        let gp = (parts.steps.adds o vars args r.value).grows s.nodes in
        let gc = made_grows kinds (Bin And s.value p.value) p.nodes in
        let gt = implied_grows kinds hypothesis c.value c.nodes in
        let hc = fits_fewer inputs v c.nodes t.nodes gt h in
        let hp = fits_fewer inputs v p.nodes c.nodes gc hc in
        let hs = fits_fewer inputs v s.nodes p.nodes gp hp in
        let hr = fits_fewer inputs v r.nodes s.nodes gs hs in
        let run = recovered_gives kinds defs G L parts inputs v shape whole shapes n.wake fallen nodes low_are hr in
        let grs = extends_both nodes r.nodes s.nodes gr gs in
        let low_after = low_wider nodes r.nodes L.low fallen gr low_are in
        let side = parts.states.settled inputs v fallen r.nodes low_after hs in
        let after = λ (y : Schedule) (e : StepIs v L o vars args y). parts.steps.passes inputs v o vars args r.value y s.nodes has typed
        (record {
          vars_are = low_wider nodes s.nodes (variables_of L o) vars grs vars_are;
          args_are = low_wider nodes s.nodes (arguments_of o) args grs args_are;
          answer_shaped = answer_wider r.nodes s.nodes r.value.answer gs run.after.answer_shaped;
          answer_kept = kept r.value;
          memory_are = low_wider r.nodes s.nodes L.layer.memory (values_in r.value.vars) gs run.after.vars_are;
          low_are = low_wider r.nodes s.nodes L.low r.value.to gs run.after.low_are;
        }) e hp in
        let q = after x st in
        let both = both_is inputs v kinds s.value p.value p.nodes (wider s.nodes p.nodes s.value 1 gp side.wide) q.wide hc in
        let gc_all = extends_both nodes s.nodes c.nodes grs (extends_both s.nodes p.nodes c.nodes gp gc) in
        let i = implied_is inputs v kinds hypothesis c.value c.nodes (wider nodes c.nodes hypothesis 1 gc_all wide) both.wide h in
        record {
          wide = i.wide;
          at = nodes;
          low_shaped = low_are;
          fit = hr;
          some = p.value;
          is = i.is ∙ ap (λ z. not (is_set v hypothesis) || z) (both.is ∙ ap (λ z. z && is_set v p.value) side.settled);
          passing = p.nodes;
          passes = after;
        }

    module _ (b : Block) (falls : FallMeans kinds defs G L b L.layer.memory (arguments_of o)) (state : L.layer.state ≡ variables_of L o) where
      pub falls_grow : (n : Numbers) (S : Starting) (args : List SymValue) → Grows (falls_through kinds (terms_of kinds defs) L G o n S b args)
      falls_grow n S args nodes =
          let terms = terms_of kinds defs in
          let c = cut_short kinds terms L G n b S.from.memory (arguments_of o) args S.from.low nodes in
          let a = made kinds (Bin And S.related c.value.reached) c.nodes in
          let t = recovers kinds terms L G o n a.value S.from.vars args c.value.fallen a.nodes in
          extends_both nodes c.nodes t.nodes (falls.grows n.run n.stop n.last (begun S args) nodes)
          (extends_both c.nodes a.nodes t.nodes (made_grows kinds (Bin And S.related c.value.reached) c.nodes)
          (recovers_grows n a.value S.from.vars args c.value.fallen a.nodes))

      pub falls_give : (n : Numbers) (S : Starting) (args : List SymValue) (nodes : List Node) → Ready L nodes S → LowShaped nodes (arguments_of o) args →
          (x : Schedule) → StepIs v L o S.from.vars args x →
          Gives inputs v (falls_through kinds (terms_of kinds defs) L G o n S b args) nodes (FallsSo o n b S args nodes)
      falls_give n S args nodes ready shaped x st h =
          let terms = terms_of kinds defs in
          let c = cut_short kinds terms L G n b S.from.memory (arguments_of o) args S.from.low nodes in
          let a = made kinds (Bin And S.related c.value.reached) c.nodes in
          let t = recovers kinds terms L G o n a.value S.from.vars args c.value.fallen a.nodes in
          let gc = falls.grows n.run n.stop n.last (begun S args) nodes in
          let ga = made_grows kinds (Bin And S.related c.value.reached) c.nodes in
          let gt = recovers_grows n a.value S.from.vars args c.value.fallen a.nodes in
          let ha = fits_fewer inputs v a.nodes t.nodes gt h in
          let hc = fits_fewer inputs v c.nodes a.nodes ga ha in
          let begins : Begins kinds defs G L b L.layer.memory (arguments_of o) nodes (begun S args) =
          record { vars_are = ready.from.memory; args_are = shaped; low_are = ready.from.low } in
          let left = falls.after inputs v n.run n.stop n.last (begun S args) nodes begins hc in
          let gca = extends_both nodes c.nodes a.nodes gc ga in
          let later = ready_wider L S nodes a.nodes gca ready in
          let both = both_is inputs v kinds S.related c.value.reached c.nodes (wider nodes c.nodes S.related 1 gc ready.related) left.0 ha in
          let vars_are = subst (λ ds. LowShaped a.nodes ds S.from.vars) state later.from.vars in
          record {
            cut_fit = hc;
            fall = falls.sound inputs v n.run n.stop n.last (begun S args) nodes begins hc;
            hypothesis = a.value;
            hypothesis_is = both.is;
            recovers = recovers_give n a.value S.from.vars args c.value.fallen a.nodes both.wide vars_are
                (low_wider nodes a.nodes (arguments_of o) args gca shaped) (low_wider c.nodes a.nodes L.low c.value.fallen ga left.1) x st h;
          }
