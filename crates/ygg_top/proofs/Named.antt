-- From a layer file that is fetched, or isn't, to what is told of the command.
use Rattle.std.proofs.Common.{◌≡◌, ◌⊎◌, ℕ, List, Option, inl, inr, refl, subst}
use Rattle.ygg_base.specs.declared.lists.Held.{Held}
use Rattle.ygg_base.specs.declared.status.Status.{Status}
use Rattle.ygg_run_mounted.specs.ygg_base.Devices.{Image}
use Rattle.ygg_syntax.specs.declared.tree.File.{File}
use Rattle.ygg_top.specs.ygg_rules.declared.rule.RuleKind.{RuleKind}
use Rattle.ygg_top_command.specs.declared.stopping.CommandStop.{CommandStop}
use Rattle.ygg_top_command.specs.declared.stopping.CommandStop.TheVariants.{Refused, LibraryFailed, NoMemory}
use Rattle.ygg_top_command.specs.Fetched.{IsNoFile, StandsFile}
use Rattle.ygg_top_command.specs.Reports.{MayStop}
use Rattle.ygg_top_command.specs.Breaking.{ToldOn}
use Rattle.ygg_top_command.proofs.Breaks.{told_on_to}
use Rattle.ygg_top.specs.Images.{LeavesImage}
use Rattle.ygg_top.specs.Running.{CertifiedBroken, CertifiedLeft, RunLeaves, RunsBroken, RunsCertified, RunsLeft, RunsNamed}
use Rattle.ygg_top.proofs.Ending.{more_on}

module _ (kinds : List RuleKind) (files : Option (List Held)) (file certificate image script : List ℕ) where
  -- a command that stops where there is no layer file
  pub file_stops : (before : Option (List Image)) (LibraryRose : Type 0) (stop : CommandStop) → IsNoFile files file LibraryRose stop →
      MayStop (RunsNamed kinds files before before file certificate image script) LibraryRose stop
  file_stops before LibraryRose (Refused r) (stored, stands, refuses) = inl (stored, stands, r, refuses, (refl, refl), refl)
  file_stops before LibraryRose LibraryFailed rose = rose
  file_stops before LibraryRose NoMemory u = tt

  -- one that goes on
  pub file_runs : (then : Option (List Held)) (before now : Option (List Image)) (f : File) → then ≡ files → StandsFile files file f →
      (taken last : Option (List ℕ)) (Less More DeviceRose SinkRose : Type 0) (result : Status) → (Less → More) →
      ToldOn (RunsCertified kinds then before now f certificate image script) (CertifiedLeft kinds then before now f certificate image script)
      (CertifiedBroken kinds then before now f certificate image script) taken last Less DeviceRose SinkRose result →
      ToldOn (RunsNamed kinds files before now file certificate image script) (RunsLeft kinds files before now file certificate image script)
      (RunsBroken kinds files before now file certificate image script) taken last More DeviceRose SinkRose result
  file_runs then before now f same stands taken last Less More DeviceRose SinkRose result more told =
      let here = subst (λ (o : Option (List Held)). ToldOn (RunsCertified kinds o before now f certificate image script)
      (CertifiedLeft kinds o before now f certificate image script) (CertifiedBroken kinds o before now f certificate image script) taken last Less DeviceRose
      SinkRose result) same told in
      more_on (RunsNamed kinds files before now file certificate image script) (RunsLeft kinds files before now file certificate image script)
      (RunsBroken kinds files before now file certificate image script) taken last Less More DeviceRose SinkRose result more
      (told_on_to taken last Less DeviceRose SinkRose result (RunsCertified kinds files before now f certificate image script)
      (RunsNamed kinds files before now file certificate image script) (CertifiedLeft kinds files before now f certificate image script)
      (RunsLeft kinds files before now file certificate image script) (CertifiedBroken kinds files before now f certificate image script)
      (RunsBroken kinds files before now file certificate image script) (λ ended text does. inr (f, stands, does)) (λ front left. (f, stands, left))
      (λ lines whole. (f, stands, whole)) here)

-- what a run for a layer file leaves
pub file_leaves : (files : Option (List Held)) (file image : List ℕ) (f : File) (before now : Option (List Image)) → StandsFile files file f →
    LeavesImage f image before now → RunLeaves files before now file image
file_leaves files file image f before now stands leaves = inr (f, stands, leaves)
