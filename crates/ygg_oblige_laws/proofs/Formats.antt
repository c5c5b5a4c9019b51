-- Formatting over terms, and whether what it leaves is related to the specification's start.
use Rattle.std.proofs.Common.{◌≡◌, ℕ, Bool, true, List, [], ◌++◌, refl, sym, ap, ◌∙◌, subst}
use Rattle.std.specs.Prelude.{Option}
use Rattle.ygg_value.specs.declared.shape.Shape.{Shape}
use Rattle.ygg_syntax.specs.declared.tree.Def.{Def}
use Rattle.ygg_sym_laws.specs.ygg_meaning.Environments.{Env}
use Rattle.ygg_sym_laws.specs.ygg_meaning.Shapes.{zeros_of}
use Rattle.ygg_sym_laws.specs.ygg_meaning.Progress.{Answer}
use Rattle.ygg_sym_laws.specs.ygg_meaning.Layer.{ClosedLayer, BlockRuns, StartsAndFormats}
use Rattle.ygg_sym_laws.specs.ygg_meaning.Machine.{Picks, State, on, based}
use Rattle.ygg_sym_laws.specs.ygg_meaning.Obligations.{Schedule, Init}
use Rattle.ygg_sym_laws.specs.ygg_meaning.Refines.{Below, OnDisk, OnSpec, machine_below}
use Rattle.ygg_sym_laws.specs.ygg_rules.declared.rule.RuleKind.{RuleKind}
use Rattle.ygg_sym_laws.specs.ygg_bank_proofs_Meaning.{fits_fewer}
use Rattle.ygg_sym_laws.specs.ygg_bank_proofs_Widths.{extends_both}
use Rattle.ygg_sym_laws.specs.ygg_bank.Values.{Inputs, Values}
use Rattle.ygg_sym_laws.specs.ygg_bank.declared.node.Id.{Id}
use Rattle.ygg_sym_laws.specs.ygg_bank.declared.node.Node.{Node}
use Rattle.ygg_sym_laws.specs.ygg_sym_runs.ExpressionMeaning.{Grows, Gives}
use Rattle.ygg_sym_laws.specs.ygg_sym_runs.Meaning.{answer_worth}
use Rattle.ygg_sym_laws.specs.ygg_sym_runs.Lows.{low_worth}
use Rattle.ygg_sym_laws.specs.ygg_sym_runs_proofs_Lows.{low_wider}
use Rattle.ygg_sym_laws.specs.Below.{places_on, zeros_made, lows_at_start}
use Rattle.ygg_sym_laws.specs.Means.{AreBits, terms_of, values_in, Begins, EndsSo, StartMeans, WholeMeans}
use Rattle.ygg_oblige_laws.specs.LayerTerms.{ShapesKept}
use Rattle.ygg_oblige_laws.specs.Numbers.{Numbers}
use Rattle.ygg_oblige_laws.specs.Terms.{Finish, some_passes, ran, formats}
use Rattle.ygg_oblige_laws.specs.Steps.{end_worth, PassesSo}
use Rattle.ygg_oblige_laws.proofs.Setting.{EndsWith}
use Rattle.ygg_oblige_laws.proofs.Wholes.{woken}
use Rattle.ygg_oblige_laws.specs.Parts.{PartsMean}

-- a start state has no memories
pub starts_based : (G : Below) (s : State Env) (taken : Picks) → (machine_below G).Starts s taken → s ≡ based s.base
starts_based (OnDisk d) s taken h = h.2 ∙ ap (λ (z : State Env). based z.base) (sym h.2)
starts_based (OnSpec m) s taken h = h.1.to_is ∙ ap (λ (z : State Env). based z.base) (sym h.1.to_is)

module _ (kinds : List RuleKind) (defs : List Def) (G : Below) (L : ClosedLayer) (parts : PartsMean kinds defs G L) (inputs : Inputs) (v : Values)
    (shape : Option Shape) (start : StartMeans kinds defs G L) (whole : WholeMeans kinds defs G L L.layer.format L.layer.memory [] shape)
    (shapes : ShapesKept L.layer.memory) where
  -- the end of formatting, and a term that is 1 where it is related to the specification's start
  pub record FormatsSo (n : Numbers) (nodes : List Node) (out : Id) : Type 0 where
    pub end : Finish
    pub taken : Picks
    pub run : StartsAndFormats L (machine_below G) (end_worth v L end true).to taken
    pub passes : (x : Schedule) → PassesSo v L Init x (end_worth v L end true) nodes out
    -- it ends as formatting does that has these picks
    pub ends : (bits : ℕ → Bool) (lower : State Env) (first : Picks) (answer : Answer) (to : State Env) → (machine_below G).Starts lower first →
        EndsWith kinds defs G L L.layer.format L.layer.memory [] bits (zeros_of L.layer.memory) [] lower.base answer to →
        AreBits inputs n.run (places_on G L.layer.format) bits → EndsSo kinds defs G L L.layer.format L.layer.memory [] v answer to end

  pub formats_grow : (n : Numbers) → Grows (formats kinds (terms_of kinds defs) L G n)
  formats_grow n nodes =
      let terms = terms_of kinds defs in
      let l = lows_at_start kinds terms G nodes in
      let z = zeros_made kinds L.layer.memory l.nodes in
      let r = ran kinds terms L G n.run L.layer.format z.value [] [] l.value z.nodes in
      let s = some_passes kinds terms L Init [] [] r.value r.nodes in
      extends_both nodes l.nodes s.nodes (start.grows nodes)
      (extends_both l.nodes z.nodes s.nodes ((parts.comparing.zeros_add L.layer.memory).grows l.nodes)
      (extends_both z.nodes r.nodes s.nodes (whole.grows n.run (woken z.value l.value) z.nodes) ((parts.steps.adds Init [] [] r.value).grows r.nodes)))

  pub formats_give : (n : Numbers) (nodes : List Node) → Gives inputs v (formats kinds (terms_of kinds defs) L G n) nodes (FormatsSo n)
  formats_give n nodes h =
      let terms = terms_of kinds defs in
      let l = lows_at_start kinds terms G nodes in
      let z = zeros_made kinds L.layer.memory l.nodes in
      let r = ran kinds terms L G n.run L.layer.format z.value [] [] l.value z.nodes in
      let s = some_passes kinds terms L Init [] [] r.value r.nodes in
      let gz = (parts.comparing.zeros_add L.layer.memory).grows l.nodes in
      let gr = whole.grows n.run (woken z.value l.value) z.nodes in
      let gs = (parts.steps.adds Init [] [] r.value).grows r.nodes in
      let hr = fits_fewer inputs v r.nodes s.nodes gs h in
      let hz = fits_fewer inputs v z.nodes r.nodes gr hr in
      let hl = fits_fewer inputs v l.nodes z.nodes gz hz in
      let zs = parts.comparing.zeros inputs v L.layer.memory l.nodes shapes hz in
      let low_are = start.after inputs v nodes hl in
      let starts = start.sound inputs v nodes hl in
      let begins : Begins kinds defs G L L.layer.format L.layer.memory [] z.nodes (woken z.value l.value) =
      record { vars_are = zs.shaped; args_are = tt; low_are = low_wider l.nodes z.nodes L.low l.value gz low_are } in
      let after = whole.after inputs v n.run (woken z.value l.value) z.nodes begins hr in
      let w = whole.sound inputs v n.run (woken z.value l.value) z.nodes begins hr in
      record {
        end = r.value;
        taken = starts.0 ++ w.taken;
        run = record {
          lower = based (low_worth v L.low l.value);
          first = starts.0;
          second = w.taken;
          answer = answer_worth v r.value.answer;
          starts = starts.1;
          formats = subst
              (λ m. BlockRuns L (machine_below G) L.layer.format [] (on m (based (low_worth v L.low l.value))) w.taken
              (answer_worth v r.value.answer) (on (low_worth v L.layer.memory (values_in r.value.vars)) (based (low_worth v L.low r.value.to))))
              zs.is w.run;
          takes = refl;
        };
        passes = λ x. parts.steps.passes inputs v Init [] [] r.value x r.nodes tt tt
            (record {
              vars_are = tt;
              args_are = tt;
              answer_shaped = after.answer_shaped;
              answer_kept = tt;
              memory_are = after.vars_are;
              low_are = after.low_are;
            }) tt h;
        ends = λ bits lower first answer to begun with are.
            with inputs v n.run (woken z.value l.value) z.nodes begins hr
            (record {
              vars_is = zs.is;
              args_is = refl;
              low_is = sym (ap (λ (s : State Env). s.base) (start.back lower first begun inputs v nodes hl));
            }) are;
      }
