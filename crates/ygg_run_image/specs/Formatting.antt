-- How the layers of a file are formatted on a ground.
use Rattle.std.specs.Prelude.{◌≡◌, ◌≤◌, List, length}
use Rattle.ygg_base.specs.Outside.{Rose}
use Rattle.ygg_syntax.specs.declared.tree.File.{File}
use Rattle.ygg_run_image.specs.ygg_disk.Ground.{Meaning}
use Rattle.ygg_run_image.specs.ygg_meaning.Machine.{State}
use Rattle.ygg_run_image.specs.ygg_meaning.Noted.{Note}
use Rattle.ygg_run_image.specs.ygg_eval.Lower.{PowerLoss, GivenUp, Ending, Whole, Down, Failed, Starved}
use Rattle.ygg_run_image.specs.ygg_machine.Bottoms.{bottom_on, FormatFalls}
use Rattle.ygg_run_image.specs.declared.end.FormatEnd.{FormatEnd}
use Rattle.ygg_run_image.specs.declared.end.FormatEnd.TheVariants as end

-- how formatting ended that ended so; power can't fail in it
abbrev pub end_of : Ending → FormatEnd
end_of (Whole answer) = end.Done
end_of Down = end.Memory
end_of Failed = end.Failed
end_of Starved = end.Memory

module _ {S : Type 0} (G : Meaning S) (f : File) (from to : S) where
  -- all layers were formatted from the one state of the ground, all of it whole, and left it in the other
  pub record FormatsWhole : Type 0 where
    pub state : State S
    pub notes : List Note
    pub starts : (bottom_on G PowerLoss f from (length f.layers)).Starts state notes
    pub leaves : state.base ≡ to

  -- it was given up: its first disk calls were made, all of them whole but at most the last
  pub record FormatsPart : Type 0 where
    pub notes : List Note
    pub falls : FormatFalls G GivenUp f from (length f.layers) notes to

  -- how it ended
  abbrev pub FormatsSo : FormatEnd → Type 0
  FormatsSo end.Done = FormatsWhole
  FormatsSo end.Failed = Rose (G.faults from) (G.faults to) × FormatsPart
  FormatsSo end.Memory = FormatsPart

  -- and the count of faults hasn't fallen
  pub record Formats (end : FormatEnd) : Type 0 where
    pub so : FormatsSo end
    pub later : G.faults from ≤ G.faults to
