-- From what `check` says of a certificate to what is told of the command.
use Rattle.std.proofs.Common.{◌≡◌, ◌⊎◌, ℕ, List, ◌++◌, Option, Some, None, inl, inr, refl, sym, subst}
use Rattle.ygg_base.specs.declared.lists.Held.{Held}
use Rattle.ygg_base.specs.declared.status.Status.{Status}
use Rattle.ygg_base.specs.declared.status.Status.TheVariants as status
use Rattle.ygg_run_mounted.specs.ygg_base.Devices.{Image, ImageTurns, Tells}
use Rattle.ygg_syntax.specs.declared.tree.File.{File}
use Rattle.ygg_type.specs.Typed.{geometry_of}
use Rattle.ygg_top.specs.ygg_rules.declared.rule.RuleKind.{RuleKind}
use Rattle.ygg_top.specs.ygg_meaning.Stack.{FileRefines}
use Rattle.ygg_top.specs.ygg_meaning.History.{Entry}
use Rattle.ygg_top_command.specs.ygg_report.Lines.{refused_line}
use Rattle.ygg_run_mounted.specs.ygg_script.declared.command.Command.{Command}
use Rattle.ygg_run_mounted.specs.Extending.{HasRun}
use Rattle.ygg_top_command.specs.declared.stopping.CommandStop.{CommandStop}
use Rattle.ygg_top_command.specs.declared.stopping.CommandStop.TheVariants.{Refused, LibraryFailed, NoMemory}
use Rattle.ygg_top_command.specs.Reports.{IsDoneWith, MayStop}
use Rattle.ygg_top_command.specs.Standing.{DoesWith, Stands}
use Rattle.ygg_top.specs.Checking.{ChecksStored}
use Rattle.ygg_top_command.specs.Breaking.{ToldOn}
use Rattle.ygg_top_command.proofs.Breaks.{told_on_to}
use Rattle.ygg_top.specs.Images.{RunsImage, RunsWhole}
use Rattle.ygg_top.specs.Scripts.{RunsScript, ScriptBroken, ScriptLeft}
use Rattle.ygg_top.specs.Running.{CertifiedBroken, CertifiedLeft, HasRunRightly, RunsCertified}
use Rattle.ygg_top.proofs.Ending.{more_on}

-- a certificate is one only for a file whose layers are right
stored_right : (kinds : List RuleKind) (f : File) (stored : Option (List ℕ)) (line : List ℕ) → ChecksStored kinds f stored status.Done line → FileRefines f
stored_right kinds f stored line (inl (r, refuses, refused)) = absurd (cc refused.0)
stored_right kinds f stored line (inr (bytes, is, small, checks)) = checks.right.0

-- `check` never ends with a fault, or since no memory was left
pub proper : (kinds : List RuleKind) (f : File) (stored : Option (List ℕ)) (ended : Status) (text : List ℕ) → ChecksStored kinds f stored ended text →
    IsDoneWith ended
proper kinds f stored status.Done text does = tt
proper kinds f stored status.Refuted text does = tt
proper kinds f stored status.Refused text does = tt
proper kinds f stored status.Undecided text does = tt
proper kinds f stored status.Fault text (inl (r, refuses, refused)) = absurd (cc refused.0)
proper kinds f stored status.Fault text (inr (bytes, is, small, checks)) = absurd checks
proper kinds f stored status.NoMemory text (inl (r, refuses, refused)) = absurd (cc refused.0)
proper kinds f stored status.NoMemory text (inr (bytes, is, small, checks)) = absurd checks

-- a run of layers that are right
rightly : (f : File) → FileRefines f → (es : List Entry) (before now : Image) → HasRun f es before now → HasRunRightly f es before now
rightly f right es before now x = record {
  run = x;
  rightly = λ left could.
      let leads = x.extends left could in
      record { state = leads.state; history = leads.history; allows = leads.allows right; shows = leads.shows };
}

-- images that turn so, turn so too
turns_more : (Less More : (before now : Image) → Type 0) (name : List ℕ) → ((before now : Image) → Less before now → More before now) →
    (before now : Option (List Image)) → Tells (ImageTurns Less name) before now → Tells (ImageTurns More name) before now
turns_more Less More name more None now same = same
turns_more Less More name more (Some before) now (images, is, x) =
    (images, is, record { old = x.old; new = x.new; was = x.was; is = x.is; turns = more x.old x.new x.turns; others = x.others })

module _ (f : File) (right : FileRefines f) (image : List ℕ) (before now : Option (List Image)) where
  image_rightly : (commands : List Command) (ended : Status) (text : List ℕ) → RunsImage f image before now commands (HasRun f) ended text →
      RunsImage f image before now commands (HasRunRightly f) ended text
  image_rightly commands ended text (inl refused) = inl refused
  image_rightly commands ended text (inr (is, x)) =
      inr (
        is,
        record {
          entries = x.entries;
          ran = x.ran;
          text_is = x.text_is;
          leaves = turns_more (HasRun f x.entries) (HasRunRightly f x.entries) image (rightly f right x.entries) before now x.leaves;
        },
      )

  script_rightly : (files : Option (List Held)) (script : List ℕ) (ended : Status) (text : List ℕ) →
      RunsScript f files image script before now (HasRun f) ended text → RunsScript f files image script before now (HasRunRightly f) ended text
  script_rightly files script ended text (inl refused) = inl refused
  script_rightly files script ended text (inr (commands, stands, x)) = inr (commands, stands, image_rightly commands ended text x)

module _ (kinds : List RuleKind) (f : File) (files : Option (List Held)) (certificate image script : List ℕ) where
  -- a command that stops since the certificate is refused, or isn't read
  pub certificate_stops : (before : Option (List Image)) (LibraryRose : Type 0) (stop : CommandStop) →
      MayStop (DoesWith (ChecksStored kinds f) files certificate) LibraryRose stop →
      MayStop (RunsCertified kinds files before before f certificate image script) LibraryRose stop
  certificate_stops before LibraryRose (Refused r) (stored, stands, checks) = inl (stored, stands, checks, λ same. absurd (cc same), refl)
  certificate_stops before LibraryRose LibraryFailed rose = rose
  certificate_stops before LibraryRose NoMemory u = tt

  -- one that ends as `check` does
  pub certificate_ends : (before : Option (List Image)) (ended : Status) (line : List ℕ) → DoesWith (ChecksStored kinds f) files certificate ended line →
      (ended ≡ status.Done → ⊥) → RunsCertified kinds files before before f certificate image script ended line
  certificate_ends before ended line (stored, stands, checks) other = inl (stored, stands, checks, other, refl)

  pub certificate_proper : (ended : Status) (line : List ℕ) → DoesWith (ChecksStored kinds f) files certificate ended line → IsDoneWith ended
  certificate_proper ended line (stored, stands, checks) = proper kinds f stored ended line checks

  -- one that goes on
  pub certificate_runs : (then : Option (List Held)) (before now : Option (List Image)) (ended : Status) (line : List ℕ) → then ≡ files → ended ≡ status.Done →
      DoesWith (ChecksStored kinds f) files certificate ended line → (taken last : Option (List ℕ)) (Less More DeviceRose SinkRose : Type 0) (result : Status) →
      (Less → More) → ToldOn (RunsScript f then image script before now (HasRun f)) (ScriptLeft f then image script before now)
      (ScriptBroken f then image script before now) taken last Less DeviceRose SinkRose result →
      ToldOn (RunsCertified kinds files before now f certificate image script) (CertifiedLeft kinds files before now f certificate image script)
      (CertifiedBroken kinds files before now f certificate image script) taken last More DeviceRose SinkRose result
  certificate_runs then before now ended line same done (stored, stands, checks) taken last Less More DeviceRose SinkRose result more told =
      let checked : ChecksStored kinds f stored status.Done line = subst (λ (s : Status). ChecksStored kinds f stored s line) done checks in
      let right = stored_right kinds f stored line checked in
      let here = subst (λ (o : Option (List Held)). ToldOn (RunsScript f o image script before now (HasRun f)) (ScriptLeft f o image script before now)
      (ScriptBroken f o image script before now) taken last Less DeviceRose SinkRose result) same told in
      more_on (RunsCertified kinds files before now f certificate image script) (CertifiedLeft kinds files before now f certificate image script)
      (CertifiedBroken kinds files before now f certificate image script) taken last Less More DeviceRose SinkRose result more
      (told_on_to taken last Less DeviceRose SinkRose result (RunsScript f files image script before now (HasRun f))
      (RunsCertified kinds files before now f certificate image script) (ScriptLeft f files image script before now)
      (CertifiedLeft kinds files before now f certificate image script) (ScriptBroken f files image script before now)
      (CertifiedBroken kinds files before now f certificate image script)
      (λ ended text does. inr (stored, line, stands, checked, script_rightly f right image before now files script ended text does))
      (λ front left. (stored, line, stands, checked, left)) (λ lines whole. (stored, line, stands, checked, whole)) here)
