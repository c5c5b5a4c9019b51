-- How the command that the words name ends where it may be one on an image, what it prints, and what it may leave where it is cut short.
use Rattle.std.specs.Prelude.{◌≡◌, ℕ, List, ◌∷◌, [], Option}
use Rattle.ygg_base.specs.declared.lists.Held.{Held}
use Rattle.ygg_base.specs.declared.status.Status.{Status}
use Rattle.ygg_base.specs.Devices.{Image, Attachment}
use Rattle.ygg_report.specs.Putting.{NoFront}
use Rattle.ygg_rules.specs.declared.rule.RuleKind.{RuleKind}
use Rattle.ygg_top.specs.Formatting.{FormatsNamed, FormatsBroken, FormatsLeave}
use Rattle.ygg_top.specs.Running.{RunsNamed, RunsLeft, RunsBroken, RunLeaves}
use Rattle.ygg_top.specs.declared.words.OnImage.{OnImage}
use Rattle.ygg_top.specs.declared.words.OnImage.TheVariants.{Format, Run}
use Rattle.ygg_top.specs.Words.{on_image}
use Rattle.ygg_top.specs.Ending.{Ends, IsLeft}

-- the words name a command on an image
abbrev pub UsesImage : List (List ℕ) → Type 0
UsesImage (command ∷ file ∷ image ∷ []) = on_image command ≡ Format
UsesImage (command ∷ file ∷ certificate ∷ image ∷ script ∷ []) = on_image command ≡ Run
UsesImage words = ⊥

-- A command of these words over a library, under a book of these kinds, ends with the status and prints the text, on a device that has these images before and
-- now.
module _ (kinds : List RuleKind) (files : Option (List Held)) (before now : Option (List Image)) where
  -- with two words after it
  abbrev pub EndsTwoOn : OnImage → (command file image : List ℕ) → Status → List ℕ → Type 0
  EndsTwoOn Format command file image = FormatsNamed files before now file image
  EndsTwoOn asked command file image = Ends kinds (command ∷ file ∷ image ∷ []) files

  -- with four
  abbrev pub EndsFourOn : OnImage → (command file certificate image script : List ℕ) → Status → List ℕ → Type 0
  EndsFourOn Run command file certificate image script = RunsNamed kinds files before now file certificate image script
  EndsFourOn asked command file certificate image script = Ends kinds (command ∷ file ∷ certificate ∷ image ∷ script ∷ []) files

  unfoldable pub EndsOn : List (List ℕ) → Status → List ℕ → Type 0
  EndsOn (command ∷ file ∷ image ∷ []) = EndsTwoOn (on_image command) command file image
  EndsOn (command ∷ file ∷ certificate ∷ image ∷ script ∷ []) = EndsFourOn (on_image command) command file certificate image script
  EndsOn words = Ends kinds words files

  -- what is left of the text of a command that puts it piece by piece and is cut short: with two words after it
  abbrev pub LeavesTwoOn : OnImage → (command file image : List ℕ) → List ℕ → Type 0
  LeavesTwoOn Format command file image = NoFront
  LeavesTwoOn asked command file image = IsLeft kinds (command ∷ file ∷ image ∷ []) files

  -- with four
  abbrev pub LeavesFourOn : OnImage → (command file certificate image script : List ℕ) → List ℕ → Type 0
  LeavesFourOn Run command file certificate image script = RunsLeft kinds files before now file certificate image script
  LeavesFourOn asked command file certificate image script = IsLeft kinds (command ∷ file ∷ certificate ∷ image ∷ script ∷ []) files

  unfoldable pub IsLeftOn : List (List ℕ) → List ℕ → Type 0
  IsLeftOn (command ∷ file ∷ image ∷ []) = LeavesTwoOn (on_image command) command file image
  IsLeftOn (command ∷ file ∷ certificate ∷ image ∷ script ∷ []) = LeavesFourOn (on_image command) command file certificate image script
  IsLeftOn words = IsLeft kinds words files

  -- the lines that a command has put by the time when the device fails: with two words after it
  abbrev pub BreaksTwoOn : OnImage → (file : List ℕ) → List ℕ → Type 0
  BreaksTwoOn Format file = FormatsBroken files file
  BreaksTwoOn asked file = NoFront

  -- with four
  abbrev pub BreaksFourOn : OnImage → (file certificate image script : List ℕ) → List ℕ → Type 0
  BreaksFourOn Run file certificate image script = RunsBroken kinds files before now file certificate image script
  BreaksFourOn asked file certificate image script = NoFront

  unfoldable pub IsBrokenOn : List (List ℕ) → List ℕ → Type 0
  IsBrokenOn (command ∷ file ∷ image ∷ []) = BreaksTwoOn (on_image command) file
  IsBrokenOn (command ∷ file ∷ certificate ∷ image ∷ script ∷ []) = BreaksFourOn (on_image command) file certificate image script
  IsBrokenOn words = NoFront

  -- what any end of the command leaves of the images, where this is attached: with two words after it
  abbrev pub KeepsTwoOn : OnImage → Option Attachment → (file image : List ℕ) → Type 0
  KeepsTwoOn Format attached file image = FormatsLeave files before now attached file image
  KeepsTwoOn asked attached file image = now ≡ before

  -- with four
  abbrev pub KeepsFourOn : OnImage → (file image : List ℕ) → Type 0
  KeepsFourOn Run file image = RunLeaves files before now file image
  KeepsFourOn asked file image = now ≡ before

  unfoldable pub KeepsOn : Option Attachment → List (List ℕ) → Type 0
  KeepsOn attached (command ∷ file ∷ image ∷ []) = KeepsTwoOn (on_image command) attached file image
  KeepsOn attached (command ∷ file ∷ certificate ∷ image ∷ script ∷ []) = KeepsFourOn (on_image command) file image
  KeepsOn attached words = now ≡ before
