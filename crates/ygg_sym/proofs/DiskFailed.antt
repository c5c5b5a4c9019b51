-- What power that fails on a disk wants follows from what may be asked, and what it keeps.
use Rattle.std.proofs.Common.{◌≡◌, ◌≤◌, ℕ, List, Bor, subst, sym, arith}
use Rattle.std.specs.Prelude.{min}
use Rattle.ygg_sym_spec.specs.ygg_rules.declared.rule.RuleKind.{RuleKind}
use Rattle.ygg_sym_spec.specs.ygg_bank.Nodes.{IsBank, OneWidth}
use Rattle.ygg_sym_spec.specs.ygg_bank.declared.node.Node.{Node}
use Rattle.ygg_sym_spec.specs.ygg_shape_cells.declared.terms.SymValue.{SymValue}
use Rattle.ygg_sym_spec.proofs.of_ygg_sym_runs.Singles.{input_single, single_stays}
use Rattle.ygg_sym_spec.specs.ygg_sym_runs.Lower.{KeepsSingle, SingleFrom, question_of}
use Rattle.ygg_sym_spec.specs.ygg_sym_runs.Runs.{SymQuestion}
use Rattle.ygg_sym_spec.specs.ygg_sym_runs.declared.question.Awaited as asked
use Rattle.ygg_sym_spec.specs.ygg_sym_runs.declared.question.Awaited.TheVariants as question
use Rattle.ygg_sym_spec.specs.ygg_sym_runs.Cuts.{disk_cuts}
use Rattle.ygg_sym_spec.specs.ygg_sym_runs.Disks.{sym_call}
use Rattle.ygg_sym_machine.specs.ygg_sym_runs_proofs_DiskKeeps.{cuts_keep}
use Rattle.ygg_sym_machine.proofs.Asked.{can_call}
use Rattle.ygg_sym_machine.specs.Asking.{CallStands}
use Rattle.ygg_sym_machine.specs.Means.{disk_meaning}
use Rattle.ygg_sym_machine.specs.declared.lower.SymDisk.{SymDisk}
use Rattle.ygg_sym_machine.specs.Stopping.{CanCut}
use Rattle.ygg_sym.specs.DiskFailing.{disk_power}
use Rattle.ygg_sym.specs.declared.disk_stops.DiskStops.{DiskStops}

-- the call of a question within which power may fail
pub can_call_cut : (m : DiskStops) (q : asked.Awaited) (name : Bor (List ℕ)) (xs : Bor (List SymValue)) (tables : List SymValue) (nodes : List Node) →
    IsBank nodes → q ≡ question.Call name xs → CanCut (disk_meaning m.machine) (disk_power m) nodes (question_of q) tables →
    CallStands m.machine.disk nodes (sym_call name.now xs.now)
can_call_cut m q name xs tables nodes b e may =
    let l = may.loses in
    let other : SymDisk = record { disk = m.machine.disk; first = min m.stop m.last } in
    can_call other q name xs tables nodes b e (record {
      stands = record { serves = l.serves; has = l.has; single = l.single };
      shaped = may.shaped;
      fits = may.fits;
    })

-- the pick of the failure is a single digit
pub pick_single : (m : DiskStops) (nodes : List Node) → SingleFrom (min m.stop m.last) nodes → OneWidth nodes m.last 1
pick_single m nodes h place w e = let l : min m.stop m.last ≤ m.last = omega arith in h place m.last w e l

-- and no other input comes
pub cut_single : (kinds : List RuleKind) (m : DiskStops) (q : SymQuestion) (tables : List SymValue) (old new : List Node) →
    new ≡ (disk_cuts kinds (m.machine.disk).kind m.last q tables old).nodes → KeepsSingle old new
cut_single kinds m q tables old new e = λ first h. subst (SingleFrom first) (sym e)
    (cuts_keep kinds (SingleFrom first) (single_stays kinds first) m.last (λ nodes p. input_single kinds first m.last nodes p) (m.machine.disk).kind q tables
    old h)
