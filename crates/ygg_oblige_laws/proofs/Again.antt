-- A recovery over terms that power cuts, another after it, and one whole recovery from the first base.
use Rattle.std.proofs.Common.{◌≡◌, ◌&&◌, ◌||◌, not, Bool, true, List, [], ap, ◌∙◌}
use Rattle.std.specs.Prelude.{Option}
use Rattle.ygg_value.specs.declared.operation.Op.TheVariants.{And}
use Rattle.ygg_value.specs.declared.shape.Shape.{Shape}
use Rattle.ygg_syntax.specs.declared.tree.Def.{Def}
use Rattle.ygg_sym_laws.specs.ygg_meaning.Environments.{same_env}
use Rattle.ygg_sym_laws.specs.ygg_meaning.Layer.{ClosedLayer}
use Rattle.ygg_sym_laws.specs.ygg_meaning.Related.{settled}
use Rattle.ygg_sym_laws.specs.ygg_meaning.Refines.{Below}
use Rattle.ygg_sym_laws.specs.ygg_meaning.Violates.{same_state}
use Rattle.ygg_sym_laws.specs.ygg_rules.declared.rule.RuleKind.{RuleKind}
use Rattle.ygg_sym_laws.specs.ygg_bank_proofs_Made.{made_grows}
use Rattle.ygg_sym_laws.specs.ygg_bank_proofs_Meaning.{fits_fewer}
use Rattle.ygg_sym_laws.specs.ygg_bank_proofs_Widths.{wider, extends_both}
use Rattle.ygg_sym_laws.specs.ygg_bank.Makes.{Make}
use Rattle.ygg_sym_laws.specs.ygg_bank.Making.{made}
use Rattle.ygg_sym_laws.specs.ygg_bank.Nodes.{HasWidth}
use Rattle.ygg_sym_laws.specs.ygg_bank.Values.{Inputs, Values, Fits}
use Rattle.ygg_sym_laws.specs.ygg_bank.declared.node.Id.{Id}
use Rattle.ygg_sym_laws.specs.ygg_bank.declared.node.Node.{Node}
use Rattle.ygg_sym_laws.specs.ygg_bank.declared.node.Node.TheVariants.{Bin}
use Rattle.ygg_sym_laws.specs.ygg_shape_cells.declared.terms.SymValue.{SymValue}
use Rattle.ygg_sym_laws.specs.ygg_sym_runs.ExpressionMeaning.{Grows, Gives}
use Rattle.ygg_sym_laws.specs.ygg_sym_runs.Meaning.{is_set}
use Rattle.ygg_sym_laws.specs.ygg_sym_runs.Lows.{LowShaped, low_worth}
use Rattle.ygg_sym_laws.specs.ygg_sym_runs.StopTerms.{SymFallen}
use Rattle.ygg_sym_laws.specs.ygg_sym_runs_proofs_Lows.{low_wider}
use Rattle.ygg_sym_laws.specs.Below.{zeros_made}
use Rattle.ygg_sym_laws.specs.Means.{terms_of, values_in, WorthFall, WholeMeans, FallMeans}
use Rattle.ygg_oblige_laws.specs.Implied.{implied_made}
use Rattle.ygg_oblige_laws.specs.LayerTerms.{ShapesKept}
use Rattle.ygg_oblige_laws.specs.Numbers.{Numbers}
use Rattle.ygg_oblige_laws.specs.TermStates.{Starting, settled_made, all_compared}
use Rattle.ygg_oblige_laws.specs.Terms.{Finish, recovered, cut_short, recovers_again}
use Rattle.ygg_oblige_laws.specs.Steps.{end_worth}
use Rattle.ygg_oblige_laws.proofs.Digits.{both_is, implied_grows, implied_is}
use Rattle.ygg_oblige_laws.proofs.Setting.{Ready}
use Rattle.ygg_oblige_laws.proofs.Wholes.{woken, Woken, woken_gives, recovered_grows, recovered_gives}
use Rattle.ygg_oblige_laws.specs.Parts.{PartsMean}

module _ (kinds : List RuleKind) (defs : List Def) (G : Below) (L : ClosedLayer) (parts : PartsMean kinds defs G L) (inputs : Inputs) (v : Values)
    (shape : Option Shape) (whole : WholeMeans kinds defs G L L.layer.recover L.layer.memory [] shape) (shapes : ShapesKept L.layer.memory) where
  -- whether two whole runs end in one state
  abbrev pub ends_alike : Finish → Finish → Bool
  ends_alike end other = same_state (end_worth v L end true).to (end_worth v L other true).to

  -- a recovery that power cuts
  abbrev pub cut_again : Numbers → List SymValue → List SymValue → Make (SymFallen (List SymValue))
  cut_again n zeros low = cut_short kinds (terms_of kinds defs) L G n L.layer.recover zeros [] [] low

  -- A term that is 0 where the base is settled and the recovery that power cuts comes to a stop that is set, and the base between is not settled or the
  -- recoveries end in two states.
  pub record AgainSo (n : Numbers) (S : Starting) (nodes : List Node) (out : Id) : Type 0 where
    pub wide : HasWidth nodes out 1
    pub at : List Node
    pub zeros : List SymValue
    pub begins : Woken kinds defs G L parts inputs v shape whole shapes S.settled_low at zeros
    pub cut_fit : Fits inputs v (cut_again n zeros S.settled_low at).nodes
    pub fall : is_set v (cut_again n zeros S.settled_low at).value.reached ≡ true →
        WorthFall kinds defs G L L.layer.recover L.layer.memory [] v (woken zeros S.settled_low) (cut_again n zeros S.settled_low at).value
    pub end_at : List Node
    pub end_low : LowShaped end_at L.low (cut_again n zeros S.settled_low at).value.fallen
    pub end_fit : Fits inputs v (recovered kinds (terms_of kinds defs) L G n.wake (cut_again n zeros S.settled_low at).value.fallen end_at).nodes
    pub other_at : List Node
    pub other_low : LowShaped other_at L.low S.settled_low
    pub other_fit : Fits inputs v (recovered kinds (terms_of kinds defs) L G n.other S.settled_low other_at).nodes
    pub is : is_set v out
        ≡ (not (is_set v S.settled && is_set v (cut_again n zeros S.settled_low at).value.reached)
        || (settled L (low_worth v L.low (cut_again n zeros S.settled_low at).value.fallen)
        && ends_alike (recovered kinds (terms_of kinds defs) L G n.wake (cut_again n zeros S.settled_low at).value.fallen end_at).value
        (recovered kinds (terms_of kinds defs) L G n.other S.settled_low other_at).value))

  pub again_grows : (falls : FallMeans kinds defs G L L.layer.recover L.layer.memory []) (n : Numbers) (S : Starting) →
      Grows (recovers_again kinds (terms_of kinds defs) L G n S)
  again_grows falls n S nodes =
      let terms = terms_of kinds defs in
      let low = S.settled_low in
      let z = zeros_made kinds L.layer.memory nodes in
      let c = cut_short kinds terms L G n L.layer.recover z.value [] [] low z.nodes in
      let e = recovered kinds terms L G n.wake c.value.fallen c.nodes in
      let o = recovered kinds terms L G n.other low e.nodes in
      let s = settled_made kinds terms L c.value.fallen o.nodes in
      let m = all_compared kinds (values_in e.value.vars) (values_in o.value.vars) s.nodes in
      let b = all_compared kinds e.value.to o.value.to m.nodes in
      let a = made kinds (Bin And m.value b.value) b.nodes in
      let k = made kinds (Bin And s.value a.value) a.nodes in
      let y = made kinds (Bin And S.settled c.value.reached) k.nodes in
      let t = implied_made kinds y.value k.value y.nodes in
      extends_both nodes z.nodes t.nodes ((parts.comparing.zeros_add L.layer.memory).grows nodes)
      (extends_both z.nodes c.nodes t.nodes (falls.grows n.run n.stop n.last (woken z.value low) z.nodes)
      (extends_both c.nodes e.nodes t.nodes (recovered_grows kinds defs G L parts inputs v shape whole shapes n.wake c.value.fallen c.nodes)
      (extends_both e.nodes o.nodes t.nodes (recovered_grows kinds defs G L parts inputs v shape whole shapes n.other low e.nodes)
      (extends_both o.nodes s.nodes t.nodes ((parts.states.settled_add c.value.fallen).grows o.nodes)
      (extends_both s.nodes m.nodes t.nodes ((parts.comparing.same_add (values_in e.value.vars) (values_in o.value.vars)).grows s.nodes)
      (extends_both m.nodes b.nodes t.nodes ((parts.comparing.same_add e.value.to o.value.to).grows m.nodes)
      (extends_both b.nodes a.nodes t.nodes (made_grows kinds (Bin And m.value b.value) b.nodes)
      (extends_both a.nodes k.nodes t.nodes (made_grows kinds (Bin And s.value a.value) a.nodes)
      (extends_both k.nodes y.nodes t.nodes (made_grows kinds (Bin And S.settled c.value.reached) k.nodes)
      (implied_grows kinds y.value k.value y.nodes))))))))))

  pub again_gives : (falls : FallMeans kinds defs G L L.layer.recover L.layer.memory []) (n : Numbers) (S : Starting) (nodes : List Node) → Ready L nodes S →
      Gives inputs v (recovers_again kinds (terms_of kinds defs) L G n S) nodes (AgainSo n S)
  again_gives falls n S nodes ready h =
      let terms = terms_of kinds defs in
      let low = S.settled_low in
      let z = zeros_made kinds L.layer.memory nodes in
      let c = cut_short kinds terms L G n L.layer.recover z.value [] [] low z.nodes in
      let e = recovered kinds terms L G n.wake c.value.fallen c.nodes in
      let o = recovered kinds terms L G n.other low e.nodes in
      let s = settled_made kinds terms L c.value.fallen o.nodes in
      let m = all_compared kinds (values_in e.value.vars) (values_in o.value.vars) s.nodes in
      let b = all_compared kinds e.value.to o.value.to m.nodes in
      let a = made kinds (Bin And m.value b.value) b.nodes in
      let k = made kinds (Bin And s.value a.value) a.nodes in
      let y = made kinds (Bin And S.settled c.value.reached) k.nodes in
      let t = implied_made kinds y.value k.value y.nodes in
      let gz = (parts.comparing.zeros_add L.layer.memory).grows nodes in
      let gc = falls.grows n.run n.stop n.last (woken z.value low) z.nodes in
      let ge = recovered_grows kinds defs G L parts inputs v shape whole shapes n.wake c.value.fallen c.nodes in
      let go = recovered_grows kinds defs G L parts inputs v shape whole shapes n.other low e.nodes in
      let gs = (parts.states.settled_add c.value.fallen).grows o.nodes in
      let gm = (parts.comparing.same_add (values_in e.value.vars) (values_in o.value.vars)).grows s.nodes in
      let gb = (parts.comparing.same_add e.value.to o.value.to).grows m.nodes in
      let ga = made_grows kinds (Bin And m.value b.value) b.nodes in
      let gk = made_grows kinds (Bin And s.value a.value) a.nodes in
      let gy = made_grows kinds (Bin And S.settled c.value.reached) k.nodes in
      let gt = implied_grows kinds y.value k.value y.nodes in
      let hy = fits_fewer inputs v y.nodes t.nodes gt h in
      let hk = fits_fewer inputs v k.nodes y.nodes gy hy in
      let ha = fits_fewer inputs v a.nodes k.nodes gk hk in
      let hb = fits_fewer inputs v b.nodes a.nodes ga ha in
      let hm = fits_fewer inputs v m.nodes b.nodes gb hb in
      let hs = fits_fewer inputs v s.nodes m.nodes gm hm in
      let ho = fits_fewer inputs v o.nodes s.nodes gs hs in
      let he = fits_fewer inputs v e.nodes o.nodes go ho in
      let hc = fits_fewer inputs v c.nodes e.nodes ge he in
      let hz = fits_fewer inputs v z.nodes c.nodes gc hc in
      let begins = woken_gives kinds defs G L parts inputs v shape whole shapes low nodes ready.low hz in
      let left = falls.after inputs v n.run n.stop n.last (woken z.value low) z.nodes begins.begins hc in
      let gze = extends_both z.nodes c.nodes e.nodes gc ge in
      let low_e = low_wider nodes e.nodes L.low low (extends_both nodes z.nodes e.nodes gz gze) ready.low in
      let fallen_o = low_wider c.nodes o.nodes L.low c.value.fallen (extends_both c.nodes e.nodes o.nodes ge go) left.1 in
      let run = recovered_gives kinds defs G L parts inputs v shape whole shapes n.wake c.value.fallen c.nodes left.1 he in
      let again = recovered_gives kinds defs G L parts inputs v shape whole shapes n.other low e.nodes low_e ho in
      let side = parts.states.settled inputs v c.value.fallen o.nodes fallen_o hs in
      let ges = extends_both e.nodes o.nodes s.nodes go gs in
      let memories = parts.comparing.same inputs v L.layer.memory (values_in e.value.vars) (values_in o.value.vars) s.nodes
      (low_wider e.nodes s.nodes L.layer.memory (values_in e.value.vars) ges run.after.vars_are)
      (low_wider o.nodes s.nodes L.layer.memory (values_in o.value.vars) gs again.after.vars_are) hm in
      let gem = extends_both e.nodes s.nodes m.nodes ges gm in
      let bases = parts.comparing.same inputs v L.low e.value.to o.value.to m.nodes (low_wider e.nodes m.nodes L.low e.value.to gem run.after.low_are)
      (low_wider o.nodes m.nodes L.low o.value.to (extends_both o.nodes s.nodes m.nodes gs gm) again.after.low_are) hb in
      let same = both_is inputs v kinds m.value b.value b.nodes (wider m.nodes b.nodes m.value 1 gb memories.wide) bases.wide ha in
      let gsa = extends_both s.nodes m.nodes a.nodes gm (extends_both m.nodes b.nodes a.nodes gb ga) in
      let conclusion = both_is inputs v kinds s.value a.value a.nodes (wider s.nodes a.nodes s.value 1 gsa side.wide) same.wide hk in
      let gek = extends_both e.nodes s.nodes k.nodes ges (extends_both s.nodes a.nodes k.nodes gsa gk) in
      let gck = extends_both c.nodes e.nodes k.nodes ge gek in
      let gk_all = extends_both nodes z.nodes k.nodes gz (extends_both z.nodes c.nodes k.nodes gc gck) in
      let hypothesis = both_is inputs v kinds S.settled c.value.reached k.nodes (wider nodes k.nodes S.settled 1 gk_all ready.settled)
      (wider c.nodes k.nodes c.value.reached 1 gck left.0) hy in
      let i = implied_is inputs v kinds y.value k.value y.nodes hypothesis.wide (wider k.nodes y.nodes k.value 1 gy conclusion.wide) h in
      let alike : is_set v a.value ≡ ends_alike e.value o.value =
      same.is ∙ ap (λ z. z && is_set v b.value) memories.is
      ∙ ap (λ z. same_env (low_worth v L.layer.memory (values_in e.value.vars)) (low_worth v L.layer.memory (values_in o.value.vars)) && z) bases.is in
      record {
        wide = i.wide;
        at = z.nodes;
        zeros = z.value;
        begins = begins;
        cut_fit = hc;
        fall = falls.sound inputs v n.run n.stop n.last (woken z.value low) z.nodes begins.begins hc;
        end_at = c.nodes;
        end_low = left.1;
        end_fit = he;
        other_at = e.nodes;
        other_low = low_e;
        other_fit = ho;
        is = i.is ∙ ap (λ z. not z || is_set v k.value) hypothesis.is
            ∙ ap (λ z. not (is_set v S.settled && is_set v c.value.reached) || z)
            (conclusion.is ∙ ap (λ z. z && is_set v a.value) side.settled ∙ ap (λ z. settled L (low_worth v L.low c.value.fallen) && z) alike);
      }
