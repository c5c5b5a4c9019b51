-- What holds of the names of a file's obligations, and of the texts of schedules that violate them.
use Rattle.std.specs.Prelude.{◌≡◌, ℕ, List, slice_get, Some}
use Rattle.ygg_base.specs.declared.status.Status.TheVariants.{Refuted}
use Rattle.ygg_base.specs.declared.tokens.Tokens.{Tokens}
use Rattle.ygg_syntax.specs.declared.tree.File.{File}
use Rattle.ygg_accept.specs.Accepting.{IsAccepted}
use Rattle.ygg_accept.specs.ygg_type_rules.Files.{IsTyped}
use Rattle.ygg_replay.specs.ygg_meaning.Obligations.{name_of}
use Rattle.ygg_replay.specs.ygg_meaning.Claims.{Claim, claims_of}
use Rattle.ygg_oblige_laws.specs.Meaning.{claim_name}
use Rattle.ygg_replay.specs.ygg_report.Lines.{shows_line}
use Rattle.ygg_replay.specs.ygg_sched.declared.schedule.Schedule.{Schedule}
use Rattle.ygg_replay.specs.ygg_sched.Fitting.{IsPlain}
use Rattle.ygg_replay.specs.ygg_sched.Printing.{text_of}
use Rattle.ygg_replay.specs.ygg_sched.Sites.{Site, sites_of, site_named}
use Rattle.ygg_replay.specs.Ending.{Replaying}
use Rattle.ygg_replay.specs.Shown.{claim_named}
use Rattle.ygg_sched_names.specs.Names.{HasNames}
use Rattle.ygg_sched_names.specs.Violating.{IsViolating}

-- the names of a file that a text is have the form of a name
abbrev pub AcceptedHasNames : Type 0
AcceptedHasNames = (text : List ℕ) (tokens : Tokens) (f : File) → IsAccepted text tokens f → HasNames f

-- no two obligations of a file without a type error whose names have the form of a name have one name
abbrev pub NamesDiffer : Type 0
NamesDiffer =
    (f : File) → IsTyped f → HasNames f → (i j : ℕ) (c d : Claim) → slice_get (claims_of f) i ≡ Some c → slice_get (claims_of f) j ≡ Some d →
    claim_name c ≡ claim_name d → i ≡ j

-- so the first obligation of its name is that obligation
abbrev pub NamedIs : Type 0
NamedIs =
    (f : File) → IsTyped f → HasNames f → (place : ℕ) (c : Claim) → slice_get (claims_of f) place ≡ Some c → claim_named f (claim_name c) ≡ Some c

-- so is it of the obligations by their sites
abbrev pub SiteNamedIs : Type 0
SiteNamedIs =
    (f : File) → IsTyped f → HasNames f → (place : ℕ) (s : Site) → slice_get (sites_of f) place ≡ Some s →
    site_named f (name_of s.layer.name.text s.obligation) ≡ Some s

-- all names in the lines of a schedule of an obligation of a file that a text is may stand there
abbrev pub NamesArePlain : Type 0
NamesArePlain =
    (text : List ℕ) (tokens : Tokens) (f : File) → IsAccepted text tokens f → (place : ℕ) (s : Site) → slice_get (sites_of f) place ≡ Some s →
    IsPlain s (name_of s.layer.name.text s.obligation)

-- The text of a schedule that violates its obligation, replayed for a file that a text is, ends as refuted, and shows the obligation's name.
abbrev pub PrintedShows : Type 0
PrintedShows =
    (text : List ℕ) (tokens : Tokens) (f : File) → IsAccepted text tokens f → (place : ℕ) (x : Schedule) → IsViolating f place x →
    Replaying f (text_of f x) Refuted (shows_line x.name)
