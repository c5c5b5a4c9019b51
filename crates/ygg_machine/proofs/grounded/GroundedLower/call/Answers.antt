use Rattle.std.proofs.Common.{refl, ◌<◌, ◌^◌, ℕ, subst, ◌∙◌}
use Rattle.ygg_eval.specs.ygg_type_rules.TypeErrors.{none}
use Rattle.ygg_eval.specs.ygg_type_rules.Files.{disk_errors}
use Rattle.ygg_eval.specs.ygg_meaning_laws_proofs_Tests.{left}
use Rattle.ygg_machine.proofs.Grounding.{one_word, word_and_row, no_argument, read_so, write_so, flush_so}
use Rattle.ygg_machine.proofs.grounded.GroundedLower.call.Goals as goal

pub returns-in-0-Word-clause-called : goal.returns-in-0-Word-clause-called
returns-in-0-Word-clause-called g c =
    let counts = subst (λ (n : ℕ). n < 2 ^ 64) c.calls_so_far.ensures.same c.calls_so_far.ensures.counts in
    let (w, are) = one_word c.args.typed.now.file.disk c.args.op c.in-0-Word.is-0 c.args.args.now c.requires.operation in
    let turn = rw (c.as_slice.ensures ∙ are) at c.read.ensures.turn in
    rw c.known.ensures.same (read_so g.G.Ground.means c.args.typed.now.file c.args.typed.now.typed c.args.op c.args.args.now
    c.self.inside.ground c.args.self.now c.self.view_is c.read.new.self c.args.power.now c.read.new.power c.read.result c.read.ensures.down
    c.read.ensures.row c.read.ensures.later counts c.in-0-Word.is-0 w w are refl
    c.requires.serves.fits turn c.read.ensures.answer (rw c.known.ensures.same at c.known.ensures.value))

pub returns-in-1-Word-clause-called : goal.returns-in-1-Word-clause-called
returns-in-1-Word-clause-called g c =
    let counts = subst (λ (n : ℕ). n < 2 ^ 64) c.calls_so_far.ensures.same c.calls_so_far.ensures.counts in
    let (w, r, are) = word_and_row c.args.typed.now.file.disk (left (none (disk_errors c.args.typed.now.file.disk)) _ c.args.typed.now.typed) c.args.op
    c.in-1-Word.is-0 c.args.args.now c.requires.operation in
    let turn = rw (c.as_slice.ensures ∙ are) at c.write.ensures.turn in
    write_so g.G.Ground.means c.args.typed.now.file c.args.typed.now.typed c.args.op c.args.args.now
    c.self.inside.ground c.args.self.now c.self.view_is c.write.new.self c.args.power.now c.write.new.power c.write.result c.write.ensures.down
    c.write.ensures.row c.write.ensures.later counts c.in-1-Word.is-0 w w r r are refl refl turn
    c.write.ensures.answer

pub returns-in-2-empty-clause-called : goal.returns-in-2-empty-clause-called
returns-in-2-empty-clause-called g c =
    let counts = subst (λ (n : ℕ). n < 2 ^ 64) c.calls_so_far.ensures.same c.calls_so_far.ensures.counts in
    flush_so g.G.Ground.means c.args.typed.now.file c.args.typed.now.typed c.args.op c.args.args.now
    c.self.inside.ground c.args.self.now c.self.view_is c.flush.new.self c.args.power.now c.flush.new.power c.flush.result c.flush.ensures.down
    c.flush.ensures.row c.flush.ensures.later counts c.in-2-empty.is-0
    (no_argument c.args.typed.now.file.disk c.args.op c.in-2-empty.is-0 c.args.args.now c.requires.operation) c.flush.ensures.turn c.flush.ensures.answer
