use Rattle.std.proofs.Common.{◌≤◌, List, ℕ, ◌∙◌, length, sym, subst}
use Rattle.ygg_top.specs.ygg_top_command.Refusing.{most_bytes}
use Rattle.ygg_top.proofs.Made.{made_small, made_for, unmade}
use Rattle.ygg_top.proofs.making.made_file.Goals as goal

pub file_of-requires : goal.file_of-requires
file_of-requires c =
    subst (λ (bytes : List ℕ). length bytes ≤ most_bytes) (sym (c.as_slice.ensures ∙ c.in-Ok.ensures)) (made_small c.args.number c.requires.few)

pub returns-in-Ok-file_of-clause-found : goal.returns-in-Ok-file_of-clause-found
returns-in-Ok-file_of-clause-found c =
    made_for c.args.number c.as_slice.result.now c.in-Ok-file_of.typed.file (c.as_slice.ensures ∙ c.in-Ok.ensures)
    (c.made_is_sound.ensures c.args.number c.requires.some c.requires.few) c.in-Ok-file_of.ensures.found

pub returns-clause-none : goal.returns-clause-none
returns-clause-none c =
    let sound = c.made_is_sound.ensures c.args.number c.requires.some c.requires.few in
    unmade c.args.number c.as_slice.result.now c.in-Err.refuse c.of.result (c.as_slice.ensures ∙ c.in-Ok.ensures) sound.never c.in-Err.ensures.refused
    c.of.ensures
