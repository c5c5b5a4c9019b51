-- From an open certificate to how `check` ends.
use Rattle.std.proofs.Common.{◌≡◌, ◌≤◌, ℕ, List, Option, Some, None, length, inl, inr, refl, sym, subst, arith}
use Rattle.std.specs.Prelude.{Result, Ok, Err, IfSome, IfOk, IfErr}
use Rattle.ygg_base.specs.declared.failure.Refusal.{Refusal}
use Rattle.ygg_base.specs.declared.lists.Held.{Held}
use Rattle.ygg_base.specs.declared.outside.Opened.TheVariants as opened
use Rattle.ygg_base.specs.declared.reason.Reason.TheVariants as reason
use Rattle.ygg_base.specs.declared.status.Status.{Status}
use Rattle.ygg_base.specs.declared.status.Status.TheVariants.{Done, Refuted, Refused, Undecided, Fault, NoMemory}
use Rattle.ygg_base.specs.Outside.{Reading, IsOpen, FitsOpened, Opens, Rose, bytes_of}
use Rattle.ygg_base.specs.Reason.{refusal_at}
use Rattle.ygg_syntax.specs.declared.tree.File.{File}
use Rattle.ygg_top.specs.ygg_rules.declared.rule.RuleKind.{RuleKind}
use Rattle.ygg_certify.specs.ygg_report.Lines.{refused_line}
use Rattle.ygg_certify.specs.Checking.{Checks, ChecksOpen}
use Rattle.ygg_top.specs.ygg_top_command.declared.stopping.CommandStop.{CommandStop}
use Rattle.ygg_top.specs.ygg_top_command.declared.stopping.CommandStop.TheVariants as stop
use Rattle.ygg_top.specs.ygg_top_command.Fetched.{IsUnread, StandsFile}
use Rattle.ygg_top.specs.ygg_top_command.Reports.{IsDoneWith, MayStop}
use Rattle.ygg_top.specs.ygg_top_command.Standing.{DoesWith}
use Rattle.ygg_top.specs.Checking.{ChecksStored, ChecksNamed, OpensNamed, most_certificate_bytes}

-- a file that was opened under a name
pub opens_named : (most : ℕ) (files : Option (List Held)) (name : List ℕ) (now : Option Reading) → Opens most opened.Open now →
    IfSome files (λ held. FitsOpened (bytes_of held name) most opened.Open now)
    → OpensNamed most files name now
opens_named most files name None opens fits = absurd opens
opens_named most None name (Some r) opens fits = (opens, tt)
opens_named most (Some held) name (Some r) opens fits = (opens, (fits.0, fits.1, fits.2, fits.3))

-- something is open then
pub named_open : (most : ℕ) (files : Option (List Held)) (name : List ℕ) (now : Option Reading) → OpensNamed most files name now → IsOpen now
named_open most files name None opens = absurd opens
named_open most files name (Some r) opens = tt

-- a name under which nothing stands
pub absent_unread : (most place : ℕ) (files : Option (List Held)) (name : List ℕ) (now : Option Reading) (Rises : Type 0) (at : Refusal) →
    at ≡ refusal_at reason.Absent 0 place → IfSome files (λ held. FitsOpened (bytes_of held name) most opened.Absent now)
    → IsUnread most place files name Rises (stop.Refused at)
absent_unread most place None name now Rises at same fits = (None, tt, same)
absent_unread most place (Some held) name now Rises at same fits = (None, sym fits, same)

module _ (kinds : List RuleKind) (files : Option (List Held)) where
  module _ (f : File) (name : List ℕ) where
    -- a certificate that was opened
    pub opened_certificate : (now : Option Reading) (status : Status) (text : List ℕ) → OpensNamed most_certificate_bytes files name now →
        ChecksOpen kinds f now status text
        → DoesWith (ChecksStored kinds f) files name status text
    opened_certificate None status text opens checks = absurd opens
    opened_certificate (Some r) status text opens checks = by_files files opens.1
      where
        by_files : (held : Option (List Held)) →
            IfSome held (λ all. (bytes : List ℕ) × (bytes_of all name ≡ Some bytes) × (length bytes ≤ most_certificate_bytes) × (r.rest ≡ Some bytes))
            → DoesWith (ChecksStored kinds f) held name status text
        by_files None told =
            let room = opens.0 in
            let few = checks.few in
            (Some checks.read, tt, inr (checks.read, refl, omega arith, checks.said))
        by_files (Some all) (bytes, is, small, rest) = (
          Some bytes,
          sym is,
          inr (bytes, refl, small, subst (λ (o : Option (List ℕ)). IfSome o (λ (b : List ℕ). Checks kinds f b status text)) rest checks.whole),
        )

  module _ (file certificate : List ℕ) where
    -- a layer file for which a certificate is checked
    pub file_does : (f : File) (status : Status) (text : List ℕ) → StandsFile files file f → DoesWith (ChecksStored kinds f) files certificate status text →
        ChecksNamed kinds files file certificate status text
    file_does f status text (bytes, stands, is) does = (Some bytes, stands, inr (bytes, f, refl, is, does))

    -- or isn't
    pub file_stops : (f : File) (Less More : Type 0) (s : CommandStop) → StandsFile files file f → (Less → More) →
        MayStop (DoesWith (ChecksStored kinds f) files certificate) Less s → MayStop (ChecksNamed kinds files file certificate) More s
    file_stops f Less More (stop.Refused r) stands rises stops = file_does f Refused (refused_line r) stands stops
    file_stops f Less More stop.LibraryFailed stands rises rose = rises rose
    file_stops f Less More stop.NoMemory stands rises u = tt

    -- the same of what was done for it, where the library tells the same files
    pub does_named : (then : Option (List Held)) (f : File) (r : Result (Status × List ℕ) CommandStop) → then ≡ files → StandsFile files file f →
        IfOk r (λ end. DoesWith (ChecksStored kinds f) then certificate end.0 end.1)
        → IfOk r (λ end. ChecksNamed kinds files file certificate end.0 end.1)
    does_named then f (Err s) same stands done = tt
    does_named then f (Ok end) same stands done =
        file_does f end.0 end.1 stands (subst (λ (o : Option (List Held)). DoesWith (ChecksStored kinds f) o certificate end.0 end.1) same done)

    pub stops_named : (then : Option (List Held)) (f : File) (a b c : ℕ) (r : Result (Status × List ℕ) CommandStop) → then ≡ files → a ≤ b →
        StandsFile files file f → IfErr r (MayStop (DoesWith (ChecksStored kinds f) then certificate) (Rose b c))
        → IfErr r (MayStop (ChecksNamed kinds files file certificate) (Rose a c))
    stops_named then f a b c (Ok end) same later stands stops = tt
    stops_named then f a b c (Err s) same later stands stops =
        file_stops f (Rose b c) (Rose a c) s stands (λ rose. omega (arith, later, rose))
        (subst (λ (o : Option (List Held)). MayStop (DoesWith (ChecksStored kinds f) o certificate) (Rose b c) s) same stops)

    -- it never ends with a fault, or since no memory was left
    pub proper : (status : Status) (text : List ℕ) → ChecksNamed kinds files file certificate status text → IsDoneWith status
    proper Done text does = tt
    proper Refuted text does = tt
    proper Refused text does = tt
    proper Undecided text does = tt
    proper Fault text (stored, stands, inl (r, refuses, refused)) = absurd (cc refused.0)
    proper Fault text (stored, stands, inr (bytes, f, is, file_is, (kept, there, inl (r, refuses, refused)))) = absurd (cc refused.0)
    proper Fault text (stored, stands, inr (bytes, f, is, file_is, (kept, there, inr (cert, same, small, checks)))) = absurd checks
    proper NoMemory text (stored, stands, inl (r, refuses, refused)) = absurd (cc refused.0)
    proper NoMemory text (stored, stands, inr (bytes, f, is, file_is, (kept, there, inl (r, refuses, refused)))) = absurd (cc refused.0)
    proper NoMemory text (stored, stands, inr (bytes, f, is, file_is, (kept, there, inr (cert, same, small, checks)))) = absurd checks
