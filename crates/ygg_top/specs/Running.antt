-- How `run` ends.
use Rattle.std.specs.Prelude.{◌≡◌, ◌⊎◌, ℕ, List, ◌++◌, Option, Some, codes}
use Rattle.ygg_base.specs.declared.failure.Refusal.{Refusal}
use Rattle.ygg_base.specs.declared.lists.Held.{Held}
use Rattle.ygg_base.specs.declared.status.Status.{Status}
use Rattle.ygg_base.specs.declared.status.Status.TheVariants.{Done}
use Rattle.ygg_run_mounted.specs.ygg_base.Devices.{Image}
use Rattle.ygg_value.specs.Number.{Grid}
use Rattle.ygg_value.specs.declared.row.Value.TheVariants.{Table}
use Rattle.ygg_syntax.specs.declared.tree.File.{File}
use Rattle.ygg_type.specs.Typed.{geometry_of}
use Rattle.ygg_top.specs.ygg_rules.declared.rule.RuleKind.{RuleKind}
use Rattle.ygg_top.specs.ygg_meaning.Environments.{Env, look_up}
use Rattle.ygg_top.specs.ygg_meaning.Machine.{State}
use Rattle.ygg_top.specs.ygg_meaning.Stack.{BottomOf}
use Rattle.ygg_top.specs.ygg_meaning.History.{Entry, History, Allows}
use Rattle.ygg_top.specs.ygg_meaning.Left.{Left}
use Rattle.ygg_run_mounted.specs.ygg_run_image.Image.{rows_in}
use Rattle.ygg_run_mounted.specs.Extending.{HasRun}
use Rattle.ygg_top_command.specs.Fetched.{StandsFile}
use Rattle.ygg_top_command.specs.Refusing.{RefusesFile}
use Rattle.ygg_top_command.specs.Standing.{Stands, IsRefused}
use Rattle.ygg_top.specs.Checking.{ChecksStored}
use Rattle.ygg_top.specs.Images.{LeavesImage}
use Rattle.ygg_top.specs.Scripts.{RunsScript, ScriptBroken, ScriptLeft}

-- the entries are a history of the bottom implementation that the topmost specification allows, to a state whose disk shows these rows
pub record LeadsRightly (f : File) (es : List Entry) (rows : Grid) : Type 0 where
  pub state : State Env
  pub history : History (BottomOf f) es state
  pub allows : Allows f es state
  pub shows : look_up (codes "view") state.base ≡ Table rows

-- What a whole run with these entries makes of an accepted image: whatever entries could have left its rows, the run extends them to a history that the topmost
-- specification allows, and the image holds the rows of the disk then.
pub record HasRunRightly (f : File) (es : List Entry) (before now : Image) : Type 0 where
  pub run : HasRun f es before now
  pub rightly : (left : List Entry) → Left f left (rows_in (geometry_of f.disk) before.view) →
      LeadsRightly f (left ++ es) (rows_in (geometry_of f.disk) now.view)

module _ (kinds : List RuleKind) (files : Option (List Held)) (before now : Option (List Image)) where
  -- a certificate of the file stands under the name, and this holds
  abbrev pub WithCertificate : File → List ℕ → Type 0 → Type 0
  WithCertificate f certificate Holds =
      (stored : Option (List ℕ)) × (line : List ℕ) × Stands files certificate stored × ChecksStored kinds f stored Done line × Holds

  -- the certificate ends `check` otherwise, before the script is looked at, or it is one and the script is run
  abbrev pub RunsCertified : File → (certificate image script : List ℕ) → Status → List ℕ → Type 0
  RunsCertified f certificate image script status text =
      ((stored : Option (List ℕ)) × Stands files certificate stored × ChecksStored kinds f stored status text × (status ≡ Done → ⊥) × (now ≡ before))
      ⊎ WithCertificate f certificate (RunsScript f files image script before now (HasRunRightly f) status text)

  -- a run that was given up once the image was accepted
  abbrev pub CertifiedLeft : File → (certificate image script : List ℕ) → List ℕ → Type 0
  CertifiedLeft f certificate image script front = WithCertificate f certificate (ScriptLeft f files image script before now front)

  -- a run during which the device failed
  abbrev pub CertifiedBroken : File → (certificate image script : List ℕ) → List ℕ → Type 0
  CertifiedBroken f certificate image script lines = WithCertificate f certificate (ScriptBroken f files image script before now lines)

  module _ (file certificate image script : List ℕ) where
    -- this holds of the layer file that stands under the name
    abbrev pub WithFile : (File → Type 0) → Type 0
    WithFile Holds = (f : File) × StandsFile files file f × Holds f

    -- `run` of these names: the file is refused, before the certificate is looked at, or it is a layer file without a fault
    abbrev pub RunsNamed : Status → List ℕ → Type 0
    RunsNamed status text =
        ((stored : Option (List ℕ)) × Stands files file stored × (r : Refusal) × RefusesFile stored r × IsRefused r status text × (now ≡ before))
        ⊎ WithFile (λ f. RunsCertified f certificate image script status text)

    -- what it has put where the sink failed or no memory was left once the image was accepted, and what that leaves
    abbrev pub RunsLeft : List ℕ → Type 0
    RunsLeft front = WithFile (λ f. CertifiedLeft f certificate image script front)

    -- the lines that were whole where the device failed, and what that leaves
    abbrev pub RunsBroken : List ℕ → Type 0
    RunsBroken lines = WithFile (λ f. CertifiedBroken f certificate image script lines)

-- whatever the status: no image is changed, or what is under the name is a layer file, of whose disk's image this is said
abbrev pub RunLeaves : Option (List Held) → (before now : Option (List Image)) → (file image : List ℕ) → Type 0
RunLeaves files before now file image = (now ≡ before) ⊎ ((f : File) × StandsFile files file f × LeavesImage f image before now)
