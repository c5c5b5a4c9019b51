-- What power that fails on a specification wants follows from what may be asked.
use Rattle.std.proofs.Common.{◌≡◌, ℕ, List, [], Bor, sym, ap, ◌∙◌, arith}
use Rattle.std.specs.Prelude.{min}
use Rattle.ygg_sym_machine.specs.ygg_rules.declared.rule.RuleKind.{RuleKind}
use Rattle.ygg_sym_machine.specs.ygg_bank.Makes.{Out}
use Rattle.ygg_sym_machine.specs.ygg_bank.Nodes.{IsBank}
use Rattle.ygg_sym_machine.specs.ygg_bank.declared.node.Node.{Node}
use Rattle.ygg_sym_machine.specs.ygg_shape_cells.declared.terms.SymValue.{SymValue}
use Rattle.ygg_sym_machine.proofs.of_ygg_sym_runs.Singles.{single_less}
use Rattle.ygg_sym_machine.specs.ygg_sym_runs.Lower.{question_of}
use Rattle.ygg_sym_machine.specs.ygg_sym_runs.declared.question.Awaited as asked
use Rattle.ygg_sym_machine.specs.ygg_sym_runs.declared.question.Awaited.TheVariants as question
use Rattle.ygg_sym_spec.proofs.Asked.{can_cut}
use Rattle.ygg_sym_spec.specs.Layers as layers
use Rattle.ygg_sym_spec.specs.Machine.{spec_meaning}
use Rattle.ygg_sym_spec.specs.declared.machine.SymSpec.{SymSpec}
use Rattle.ygg_sym_spec.specs.declared.picks.SymPicks.TheVariants as picks
use Rattle.ygg_sym_machine.specs.Stopping.{CanCut, CanLose}
use Rattle.ygg_sym.specs.SpecFailing.{spec_power}
use Rattle.ygg_sym.specs.declared.spec_stops.SpecStops.{SpecStops}

-- the `crash` block
pub can_crash : (m : SpecStops) (vars : List SymValue) (nodes : List Node) → CanLose (spec_meaning m.machine) (spec_power m) nodes vars →
    layers.CanBlock (m.machine).layer (picks.Inputs m.last) nodes (((m.machine).layer.layer.now).crash) vars [] []
can_crash m vars nodes can = record {
  sound = (can.serves).sound;
  typed = ((can.serves).typed).crash;
  vars_are = can.has;
  args_are = tt;
  single = single_less (min m.stop m.last) m.last nodes (omega arith) can.single;
}

-- the call of a question within which power may fail
pub can_fall : (m : SpecStops) (q : asked.Awaited) (name : Bor (List ℕ)) (xs : Bor (List SymValue)) (vars : List SymValue) (nodes : List Node) →
    IsBank nodes → q ≡ question.Call name xs → CanCut (spec_meaning m.machine) (spec_power m) nodes (question_of q) vars →
    layers.CanCut (m.machine).layer (picks.Inputs m.last) nodes name.now vars xs.now
can_fall m q name xs vars nodes b e may =
    let l = may.loses in
    let other : SymSpec = record { layer = (m.machine).layer; first = min m.stop m.last } in
    can_cut other q name xs vars nodes m.last b e (omega arith) (record {
      stands = record { serves = l.serves; has = l.has; single = l.single };
      shaped = may.shaped;
      fits = may.fits;
    })

-- what power leaves of a choice, which no block of an implementation asks: what it leaves between questions
choice_so : (kinds : List RuleKind) (m : SpecStops) (q : asked.Awaited) (vars these : List SymValue) (old : List Node) → q ≡ question.Choice → these ≡ vars →
    layers.crash_of kinds (m.machine).layer (picks.Inputs m.last) these old ≡ (spec_power m).cut kinds (question_of q) vars old
choice_so kinds m q vars these old e f =
    ap (λ z. layers.crash_of kinds (m.machine).layer (picks.Inputs m.last) z old) f ∙ ap (λ z. (spec_power m).cut kinds (question_of z) vars old) (sym e)

pub choice_nodes : (kinds : List RuleKind) (m : SpecStops) (q : asked.Awaited) (vars these : List SymValue) (old new : List Node) → q ≡ question.Choice →
    these ≡ vars → new ≡ (layers.crash_of kinds (m.machine).layer (picks.Inputs m.last) these old).nodes →
    new ≡ ((spec_power m).cut kinds (question_of q) vars old).nodes
choice_nodes kinds m q vars these old new e f g = g ∙ ap (λ (o : Out (List SymValue)). o.nodes) (choice_so kinds m q vars these old e f)

pub choice_form : (kinds : List RuleKind) (m : SpecStops) (q : asked.Awaited) (vars these : List SymValue) (old : List Node) (left : List SymValue) →
    q ≡ question.Choice → these ≡ vars → left ≡ (layers.crash_of kinds (m.machine).layer (picks.Inputs m.last) these old).value →
    left ≡ ((spec_power m).cut kinds (question_of q) vars old).value
choice_form kinds m q vars these old left e f g = g ∙ ap (λ (o : Out (List SymValue)). o.value) (choice_so kinds m q vars these old e f)

-- what power leaves of a call
call_so : (kinds : List RuleKind) (m : SpecStops) (q : asked.Awaited) (name : Bor (List ℕ)) (xs : Bor (List SymValue)) (vars these : List SymValue)
    (old : List Node) → q ≡ question.Call name xs → these ≡ vars →
    layers.fall_of kinds (m.machine).layer (picks.Inputs m.last) name.now xs.now these old ≡ (spec_power m).cut kinds (question_of q) vars old
call_so kinds m q name xs vars these old e f =
    ap (λ z. layers.fall_of kinds (m.machine).layer (picks.Inputs m.last) name.now xs.now z old) f
    ∙ ap (λ z. (spec_power m).cut kinds (question_of z) vars old) (sym e)

pub call_nodes : (kinds : List RuleKind) (m : SpecStops) (q : asked.Awaited) (name : Bor (List ℕ)) (xs : Bor (List SymValue)) (vars these : List SymValue)
    (old new : List Node) → q ≡ question.Call name xs → these ≡ vars →
    new ≡ (layers.fall_of kinds (m.machine).layer (picks.Inputs m.last) name.now xs.now these old).nodes →
    new ≡ ((spec_power m).cut kinds (question_of q) vars old).nodes
call_nodes kinds m q name xs vars these old new e f g = g ∙ ap (λ (o : Out (List SymValue)). o.nodes) (call_so kinds m q name xs vars these old e f)

pub call_form : (kinds : List RuleKind) (m : SpecStops) (q : asked.Awaited) (name : Bor (List ℕ)) (xs : Bor (List SymValue)) (vars these : List SymValue)
    (old : List Node) (left : List SymValue) → q ≡ question.Call name xs → these ≡ vars →
    left ≡ (layers.fall_of kinds (m.machine).layer (picks.Inputs m.last) name.now xs.now these old).value →
    left ≡ ((spec_power m).cut kinds (question_of q) vars old).value
call_form kinds m q name xs vars these old left e f g = g ∙ ap (λ (o : Out (List SymValue)). o.value) (call_so kinds m q name xs vars these old e f)

-- and between questions
pub lose_nodes : (kinds : List RuleKind) (m : SpecStops) (vars these : List SymValue) (old new : List Node) → these ≡ vars →
    new ≡ (layers.crash_of kinds (m.machine).layer (picks.Inputs m.last) these old).nodes → new ≡ ((spec_power m).lose kinds vars old).nodes
lose_nodes kinds m vars these old new f g =
    g ∙ ap (λ (z : List SymValue). (layers.crash_of kinds (m.machine).layer (picks.Inputs m.last) z old).nodes) f

pub lose_form : (kinds : List RuleKind) (m : SpecStops) (vars these : List SymValue) (old : List Node) (left : List SymValue) → these ≡ vars →
    left ≡ (layers.crash_of kinds (m.machine).layer (picks.Inputs m.last) these old).value → left ≡ ((spec_power m).lose kinds vars old).value
lose_form kinds m vars these old left f g =
    g ∙ ap (λ (z : List SymValue). (layers.crash_of kinds (m.machine).layer (picks.Inputs m.last) z old).value) f
