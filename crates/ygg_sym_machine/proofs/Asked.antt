-- What a call on a disk wants follows from what a typed block may ask; and what calls keep.
use Rattle.std.proofs.Common.{◌≡◌, ℕ, Some, List, [], map, sym, subst, Result, Ok, Err, OnOk, Bor}
use Rattle.ygg_syntax.specs.declared.tree.DiskText.{DiskText}
use Rattle.ygg_sym_runs.specs.ygg_type_rules.Files.{disk_operations}
use Rattle.ygg_sym_runs.specs.ygg_meaning_laws_proofs_DiskServes.{fitting_call}
use Rattle.ygg_sym_runs.specs.ygg_rules.declared.rule.RuleKind.{RuleKind}
use Rattle.ygg_sym_runs.specs.ygg_bank_proofs_Widths.{stands}
use Rattle.ygg_sym_runs.specs.ygg_bank.Nodes.{IsBank}
use Rattle.ygg_sym_runs.specs.ygg_bank.Values.{Inputs, Values, value_of}
use Rattle.ygg_sym_runs.specs.ygg_bank.declared.node.Node.{Node}
use Rattle.ygg_sym_runs.proofs.of_ygg_shape.Answered.{no_inputs, some_fit}
use Rattle.ygg_sym_runs.specs.ygg_shape_cells.Terms.{worth}
use Rattle.ygg_sym_runs.specs.ygg_shape_cells.declared.terms.SymValue.{SymValue}
use Rattle.ygg_sym_runs.specs.Lower.{CanAsk, KeepsSingle, SingleFrom, question_of}
use Rattle.ygg_sym_runs.specs.declared.question.Awaited as asked
use Rattle.ygg_sym_runs.specs.declared.question.Awaited.TheVariants as question
use Rattle.ygg_sym_runs.specs.Runs.{SymQuestion}
use Rattle.ygg_sym_runs.proofs.Singles.{single_stays, input_single}
use Rattle.ygg_sym_runs.specs.Disks.{SymCall, Read, Write, Flush, sym_call, disk_handles}
use Rattle.ygg_sym_runs.proofs.Disks.{CallShaped, ask_is}
use Rattle.ygg_sym_runs.proofs.DiskKeeps.{disk_keeps}
use Rattle.ygg_sym_machine.specs.Asking.{CallStands}
use Rattle.ygg_sym_machine.specs.Means.{disk_meaning}
use Rattle.ygg_sym_machine.specs.declared.lower.SymDisk.{SymDisk}

shaped_stands : (inputs : Inputs) (v : Values) (kinds : List RuleKind) (d : DiskText) (nodes : List Node) (call : SymCall) →
    CallShaped inputs v kinds d nodes call → CallStands d nodes (Some call)
shaped_stands inputs v kinds d nodes (Read at) c = stands nodes at c.0 c.1
shaped_stands inputs v kinds d nodes (Write at row) c = (stands nodes at c.0 c.1, c.2)
shaped_stands inputs v kinds d nodes Flush c = tt

-- the call of a question that may be asked
pub can_call : (m : SymDisk) (q : asked.Awaited) (name : Bor (List ℕ)) (xs : Bor (List SymValue)) (tables : List SymValue) (nodes : List Node) →
    IsBank nodes → q ≡ question.Call name xs → CanAsk (disk_meaning m) nodes (question_of q) tables → CallStands m.disk nodes (sym_call name.now xs.now)
can_call m q name xs tables nodes b e may =
    let can = subst (λ z. CanAsk (disk_meaning m) nodes (question_of z) tables) e may in
    let v = value_of no_inputs nodes in
    let h = some_fit nodes b in
    let right = (can.stands).serves in
    let f = fitting_call (disk_operations m.disk) name.now (map (worth v) xs.now) (can.fits no_inputs v h) in
    let a = ask_is no_inputs v [] m.disk right name.now xs.now nodes f.operation h can.shaped f.found f.fit in
    subst (CallStands m.disk nodes) (sym a.terms) (shaped_stands no_inputs v [] m.disk nodes a.call a.shaped)

-- the input of a question's place, and no others, come
pub handled_single : {E A : Type 0} (kinds : List RuleKind) (m : SymDisk) (number : ℕ) (q : SymQuestion) (tables : List SymValue) (old new : List Node)
    (r : Result A E) → OnOk r (new ≡ (disk_handles kinds m.disk.kind number q tables old).nodes) → OnOk r (KeepsSingle old new)
handled_single kinds m number q tables old new (Ok a) e = λ first h. subst (SingleFrom first) (sym e)
    (disk_keeps kinds (SingleFrom first) (single_stays kinds first) number (λ nodes p. input_single kinds first number nodes p) m.disk.kind q tables old h)
handled_single kinds m number q tables old new (Err x) e = tt
