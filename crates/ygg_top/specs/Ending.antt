-- How the command that the words name ends, what it prints, and what it may leave where it is cut short.
use Rattle.std.specs.Prelude.{◌≡◌, ℕ, List, [], ◌∷◌, Option}
use Rattle.ygg_base.specs.declared.lists.Held.{Held}
use Rattle.ygg_base.specs.declared.reason.Reason.TheVariants as reason
use Rattle.ygg_base.specs.declared.status.Status.{Status}
use Rattle.ygg_base.specs.declared.status.Status.TheVariants.{Done}
use Rattle.ygg_base.specs.Reason.{refusal_at}
use Rattle.ygg_report.specs.Putting.{NoFront}
use Rattle.ygg_rules.specs.declared.rule.RuleKind.{RuleKind}
use Rattle.ygg_top_command.specs.Standing.{DoesWith, DoesWithin, IsRefused}
use Rattle.ygg_top_command.specs.Words.{usual_budget}
use Rattle.ygg_top.specs.Certifying.{Certified, IsCutCertifying}
use Rattle.ygg_top.specs.Checking.{ChecksNamed}
use Rattle.ygg_top.specs.Asking.{AsksNamed, IsCutAsking}
use Rattle.ygg_top.specs.Deciding.{DecidesNamed, DecidesWithin}
use Rattle.ygg_top.specs.Explaining.{ExplainsNamed}
use Rattle.ygg_top.specs.Playing.{PlaysNamed, IsCutPlaying}
use Rattle.ygg_top.specs.Printing.{Prints}
use Rattle.ygg_top.specs.Replaying.{ReplaysNamed}
use Rattle.ygg_top.specs.Solving.{Solves, IsCutSolving}
use Rattle.ygg_top.specs.Verifying.{Demos, Verifies, IsCutRun}
use Rattle.ygg_top.specs.declared.help.TheConstants.{HELP, VERSION}
use Rattle.ygg_top.specs.declared.words.Alone.{Alone}
use Rattle.ygg_top.specs.declared.words.Alone.TheVariants as alone
use Rattle.ygg_top.specs.declared.words.One.{One}
use Rattle.ygg_top.specs.declared.words.One.TheVariants as one
use Rattle.ygg_top.specs.declared.words.Three.{Three}
use Rattle.ygg_top.specs.declared.words.Three.TheVariants as three
use Rattle.ygg_top.specs.declared.words.Two.{Two}
use Rattle.ygg_top.specs.declared.words.Two.TheVariants as two
use Rattle.ygg_top.specs.Words.{alone_of, one_of, three_of, two_of}

-- all was done, and this text is printed
abbrev pub IsDone : List ℕ → Status → List ℕ → Type 0
IsDone whole status text = (status ≡ Done) × (text ≡ whole)

-- words that name no command are refused 71 at `0:0`
abbrev pub NamesNone : Status → List ℕ → Type 0
NamesNone = IsRefused (refusal_at reason.Words 0 0)

-- a command of a word alone
unfoldable pub EndsAlone : Alone → Status → List ℕ → Type 0
EndsAlone alone.Help = IsDone HELP.now
EndsAlone alone.Version = IsDone VERSION.now
EndsAlone alone.Other = NamesNone

-- a command with one word after it, over a library and under a book of these kinds
unfoldable pub EndsOne : List RuleKind → Option (List Held) → One → List ℕ → Status → List ℕ → Type 0
EndsOne kinds files one.Verify name = DoesWith (Verifies kinds usual_budget) files name
EndsOne kinds files one.Print name = DoesWith Prints files name
EndsOne kinds files one.Demo number = Demos kinds number
EndsOne kinds files one.Solve name = DoesWith (Solves usual_budget) files name
EndsOne kinds files one.Certify name = DoesWith (Certified kinds usual_budget) files name
EndsOne kinds files one.Other word = NamesNone

-- a command with two words after it
unfoldable pub EndsTwo : List RuleKind → Option (List Held) → Two → List ℕ → List ℕ → Status → List ℕ → Type 0
EndsTwo kinds files two.Verify name budget = DoesWithin (Verifies kinds) files name budget
EndsTwo kinds files two.Replay name schedule = ReplaysNamed files name schedule
EndsTwo kinds files two.Explain name schedule = ExplainsNamed files name schedule
EndsTwo kinds files two.Play name script = PlaysNamed files name script
EndsTwo kinds files two.Solve name budget = DoesWithin Solves files name budget
EndsTwo kinds files two.Cnf name obligation = AsksNamed kinds files name obligation
EndsTwo kinds files two.Decide name obligation = DecidesNamed kinds usual_budget files name obligation
EndsTwo kinds files two.Certify name budget = DoesWithin (Certified kinds) files name budget
EndsTwo kinds files two.Check name certificate = ChecksNamed kinds files name certificate
EndsTwo kinds files two.Other first second = NamesNone

-- a command with three words after it
unfoldable pub EndsThree : List RuleKind → Option (List Held) → Three → List ℕ → List ℕ → List ℕ → Status → List ℕ → Type 0
EndsThree kinds files three.Decide name obligation budget = DecidesWithin kinds files name obligation budget
EndsThree kinds files three.Other first second third = NamesNone

-- a command of these words over a library, under a book of these kinds, ends with the status and prints the text
unfoldable pub Ends : List RuleKind → List (List ℕ) → Option (List Held) → Status → List ℕ → Type 0
Ends kinds (command ∷ []) files = EndsAlone (alone_of command)
Ends kinds (command ∷ first ∷ []) files = EndsOne kinds files (one_of command) first
Ends kinds (command ∷ first ∷ second ∷ []) files = EndsTwo kinds files (two_of command) first second
Ends kinds (command ∷ first ∷ second ∷ third ∷ []) files = EndsThree kinds files (three_of command) first second third
Ends kinds words files = NamesNone

-- what a command with one word after it may leave that puts its text piece by piece and is cut short
unfoldable pub LeavesOne : List RuleKind → Option (List Held) → One → List ℕ → List ℕ → Type 0
LeavesOne kinds files one.Verify name = IsCutRun kinds (EndsOne kinds files one.Verify name)
LeavesOne kinds files one.Solve name = IsCutSolving (EndsOne kinds files one.Solve name)
LeavesOne kinds files one.Certify name = IsCutCertifying kinds (EndsOne kinds files one.Certify name)
LeavesOne kinds files command word = NoFront

-- the same with two words after it
unfoldable pub LeavesTwo : List RuleKind → Option (List Held) → Two → List ℕ → List ℕ → List ℕ → Type 0
LeavesTwo kinds files two.Verify name budget = IsCutRun kinds (EndsTwo kinds files two.Verify name budget)
LeavesTwo kinds files two.Play name script = IsCutPlaying (EndsTwo kinds files two.Play name script)
LeavesTwo kinds files two.Solve name budget = IsCutSolving (EndsTwo kinds files two.Solve name budget)
LeavesTwo kinds files two.Cnf name obligation = IsCutAsking kinds (EndsTwo kinds files two.Cnf name obligation)
LeavesTwo kinds files two.Certify name budget = IsCutCertifying kinds (EndsTwo kinds files two.Certify name budget)
LeavesTwo kinds files command first second = NoFront

-- the command of these words puts its text piece by piece, and this is a front of it
unfoldable pub IsLeft : List RuleKind → List (List ℕ) → Option (List Held) → List ℕ → Type 0
IsLeft kinds (command ∷ first ∷ []) files = LeavesOne kinds files (one_of command) first
IsLeft kinds (command ∷ first ∷ second ∷ []) files = LeavesTwo kinds files (two_of command) first second
IsLeft kinds words files = NoFront
