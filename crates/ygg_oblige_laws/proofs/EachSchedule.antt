-- Each obligation's term is 0 exactly where the schedule that the environment names violates it.
use Rattle.std.proofs.Common.{ℕ, List, []}
use Rattle.ygg_syntax.specs.declared.tree.Def.{Def}
use Rattle.ygg_oblige_laws.specs.ygg_meaning.Layer.{ClosedLayer}
use Rattle.ygg_oblige_laws.specs.ygg_meaning.Obligations.{Obligation, Init, CallOf, CutOf, TickOf, CutTickOf, Idle, Again}
use Rattle.ygg_oblige_laws.specs.ygg_meaning.Refines.{Below}
use Rattle.ygg_oblige_laws.specs.ygg_rules.declared.rule.RuleKind.{RuleKind}
use Rattle.ygg_oblige_laws.specs.ygg_bank.Nodes.{Extends}
use Rattle.ygg_oblige_laws.specs.ygg_bank.Values.{Inputs, Values, Fits}
use Rattle.ygg_oblige_laws.specs.ygg_bank.declared.node.Node.{Node}
use Rattle.ygg_oblige_laws.specs.ygg_sym_runs.Meaning.{is_set}
use Rattle.ygg_sym_laws.proofs.FrontAnyLayer.{runs_are_named, loss_is_named}
use Rattle.ygg_sym_laws.proofs.Others.{start_named}
use Rattle.ygg_sym_laws.specs.SymLaws.{OverTyped}
use Rattle.ygg_oblige_laws.specs.ygg_sym_laws.Means.{terms_of}
use Rattle.ygg_oblige_laws.specs.LayerTerms.{LayerTyped}
use Rattle.ygg_oblige_laws.specs.Numbers.{numbers_of}
use Rattle.ygg_oblige_laws.specs.TermStates.{starting}
use Rattle.ygg_oblige_laws.specs.Terms.{term_made}
use Rattle.ygg_oblige_laws.proofs.Frame.{Frame}
use Rattle.ygg_oblige_laws.specs.LayerMeans.{LayerMeans}
use Rattle.ygg_oblige_laws.specs.Parts.{PartsMean}
use Rattle.ygg_oblige_laws.specs.Schedules.{schedule_of}
use Rattle.ygg_oblige_laws.proofs.ScheduleFalls as falls
use Rattle.ygg_oblige_laws.proofs.Judged.{NamedSo}
use Rattle.ygg_oblige_laws.proofs.Known.{Known}
use Rattle.ygg_oblige_laws.proofs.Others as others
use Rattle.ygg_oblige_laws.proofs.Runs as runs

-- what is known of a typed layer
pub over_typed : (defs : List Def) (G : Below) (L : ClosedLayer) → LayerTyped defs G L → OverTyped defs G L
over_typed defs G L typed = record { definitions = typed.definitions; functions = typed.functions; below = typed.below; low_is = typed.low_is }

module _ (kinds : List RuleKind) (defs : List Def) (G : Below) (L : ClosedLayer) (parts : PartsMean kinds defs G L) (typed : LayerTyped defs G L)
    (means : LayerMeans kinds defs G L) (number : ℕ) (before : List Node) (start : ℕ) (nodes final : List Node)
    (frame : Frame kinds defs L number before start nodes final) (inputs : Inputs) (v : Values) (h : Fits inputs v final) where
  over : OverTyped defs G L
  over = over_typed defs G L typed

  pub judged : (o : Obligation) → Known kinds defs G L o →
      let out = term_made kinds (terms_of kinds defs) L G (starting kinds (terms_of kinds defs) L number before).value o (numbers_of G L o start) nodes in
      Extends out.nodes final → NamedSo L G o (schedule_of G L inputs number o start) (is_set v out.value)
  judged Init k g =
      others.init_judged kinds defs G L parts typed means (runs_are_named kinds defs G L L.layer.recover L.layer.memory [] over typed.recover_typed) number
      before start nodes final frame inputs v h (start_named kinds defs G L over) k.runs g
  judged (CallOf o) k g =
      runs.call_judged kinds defs G L parts number before start nodes final frame inputs v h o
      (runs.ran_so kinds defs G L parts number before start nodes final frame inputs v h (CallOf o) (runs.call_case kinds defs G L o k.means k.runs) g)
  judged (CutOf o) k g =
      let waking = runs_are_named kinds defs G L L.layer.recover L.layer.memory [] over typed.recover_typed in
      falls.cut_judged kinds defs G L parts typed means waking number before start nodes final frame inputs v h o
      (falls.cut_so kinds defs G L parts typed means waking number before start nodes final frame inputs v h (CutOf o)
      (falls.cut_case kinds defs G L o k.means k.falls) g)
  judged (TickOf t) k g =
      runs.tick_judged kinds defs G L parts number before start nodes final frame inputs v h t
      (runs.ran_so kinds defs G L parts number before start nodes final frame inputs v h (TickOf t) (runs.tick_case kinds defs G L t k.means k.runs) g)
  judged (CutTickOf t) k g =
      let waking = runs_are_named kinds defs G L L.layer.recover L.layer.memory [] over typed.recover_typed in
      falls.tick_cut_judged kinds defs G L parts typed means waking number before start nodes final frame inputs v h t
      (falls.cut_so kinds defs G L parts typed means waking number before start nodes final frame inputs v h (CutTickOf t)
      (falls.tick_cut_case kinds defs G L t k.means k.falls) g)
  judged Idle k g =
      others.idle_judged kinds defs G L parts typed means k.runs number before start nodes final frame inputs v h (loss_is_named kinds defs G L over) g
  judged Again k g =
      others.again_judged kinds defs G L parts typed means k.runs number before start nodes final frame inputs v h k.falls g
