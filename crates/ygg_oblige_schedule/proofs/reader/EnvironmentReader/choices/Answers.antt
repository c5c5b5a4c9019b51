use Rattle.std.proofs.Common.{◌∙◌, ◌+◌, Bool, false, List, ap}
use Rattle.std.specs.Prelude.{slice_get, unwrap_or}
use mathlib.Core.Path.{fun_ext}
use Rattle.ygg_oblige_given.proofs.Filling.{bit_is}
use Rattle.ygg_oblige_schedule.proofs.reader.EnvironmentReader.choices.Goals as goal

pub returns : goal.returns
returns c =
    let table = c.args.self.now.table.now in
    fun_ext (λ k. ap (λ (bits : List Bool). unwrap_or (slice_get bits (c.args.first + k)) false) (c.as_slice.ensures.value ∙ table.bits_are)
    ∙ bit_is table.numbers.items (c.args.first + k))
