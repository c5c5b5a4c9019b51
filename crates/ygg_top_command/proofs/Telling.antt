-- From what is put to what is told of how a command ends.
use Rattle.std.proofs.Common.{◌≡◌, ◌⊎◌, ℕ, List, Option, inl, inr, refl, sym, subst}
use Rattle.ygg_base.specs.declared.status.Status.{Status}
use Rattle.ygg_base.specs.declared.status.Status.TheVariants as status
use Rattle.ygg_report.specs.Lines.{refused_line}
use Rattle.ygg_report.specs.Putting.{Adds, IsPutSo, Puts}
use Rattle.ygg_top_command.specs.declared.stopping.CommandStop.{CommandStop}
use Rattle.ygg_top_command.specs.declared.stopping.CommandStop.TheVariants.{Refused, LibraryFailed, NoMemory}
use Rattle.ygg_top_command.specs.Reports.{Reports, IsCutShort, Told, EndsBy, MayStop, IsDoneWith, library_fault}

module _ (Does : Status → List ℕ → Type 0) (Left : List ℕ → Type 0) (before now : Option (List ℕ)) (LibraryRose SinkRose : Type 0) where
  -- all that is said of a status is said of a result that is this status
  so : (ended result : Status) → result ≡ ended → Reports Does Left before now LibraryRose SinkRose ended →
      Told Does Left before now LibraryRose SinkRose result
  so ended result is reports = record { reports = subst (λ (s : Status). Reports Does Left before now LibraryRose SinkRose s) (sym is) reports }

  whole : (ended : Status) (text : List ℕ) → IsDoneWith ended → Does ended text → Adds before text now →
      Reports Does Left before now LibraryRose SinkRose ended
  whole status.Done text done does adds = (text, does, adds)
  whole status.Refuted text done does adds = (text, does, adds)
  whole status.Refused text done does adds = (text, does, adds)
  whole status.Undecided text done does adds = (text, does, adds)
  whole status.Fault text done does adds = absurd done
  whole status.NoMemory text done does adds = absurd done

  puts : (Ended : Status → List ℕ → Type 0) (Fronts : List ℕ → Type 0) (result : Status) →
      ((ended : Status) (text : List ℕ) → Ended ended text → Does ended text) → ((front : List ℕ) → Fronts front → Left front) →
      Puts Ended Fronts before now SinkRose result → Reports Does Left before now LibraryRose SinkRose result
  puts Ended Fronts status.Done does left is = (is.0, does status.Done is.0 is.1, is.2)
  puts Ended Fronts status.Refuted does left is = (is.0, does status.Refuted is.0 is.1, is.2)
  puts Ended Fronts status.Undecided does left is = (is.0, does status.Undecided is.0 is.1, is.2)
  puts Ended Fronts status.Refused does left is = absurd is
  puts Ended Fronts status.Fault does left is =
      let cut = is.2 in inr (is.0, is.1, inl (record { whole = cut.1; is = cut.3; of = inr (cut.0, does cut.0 cut.1 cut.2) }), is.3)
  puts Ended Fronts status.NoMemory does left (inl same) = inl same
  puts Ended Fronts status.NoMemory does left (inr is) = inr (is.0, left is.0 is.1, is.2)

module _ (Does : Status → List ℕ → Type 0) (Left : List ℕ → Type 0) (before now : Option (List ℕ)) (LibraryRose SinkRose : Type 0) (result : Status) where
  -- a text that is put with its status
  pub put_told : (ended : Status) (text : List ℕ) → IsDoneWith ended → Does ended text → IsPutSo before now text ended SinkRose result →
      Told Does Left before now LibraryRose SinkRose result
  put_told ended text done does (inl put) =
      so Does Left before now LibraryRose SinkRose ended result put.0 (whole Does Left before now LibraryRose SinkRose ended text done does put.1)
  put_told ended text done does (inr cut) =
      so Does Left before now LibraryRose SinkRose status.Fault result cut.0
      (inr (cut.1, cut.2, inl (record { whole = text; is = cut.3; of = inr (ended, does) }), cut.4))

  -- no memory was left before anything was put
  pub lost_told : result ≡ status.NoMemory → now ≡ before → Told Does Left before now LibraryRose SinkRose result
  lost_told lost same = so Does Left before now LibraryRose SinkRose status.NoMemory result lost (inl same)

  -- a command that stops
  pub stop_told : (stop : CommandStop) → MayStop Does LibraryRose stop → EndsBy stop before now SinkRose result →
      Told Does Left before now LibraryRose SinkRose result
  stop_told (Refused r) may (inl put) = put_told status.Refused (refused_line r) tt may put
  stop_told (Refused r) may (inr lost) = lost_told lost.0 lost.1
  stop_told LibraryFailed may (inl put) = so Does Left before now LibraryRose SinkRose status.Fault result put.0 (inl (may, put.1))
  stop_told LibraryFailed may (inr cut) =
      so Does Left before now LibraryRose SinkRose status.Fault result cut.0
      (inr (cut.1, cut.2, inl (record { whole = library_fault; is = cut.3; of = inl (may, refl) }), cut.4))
  stop_told NoMemory may ends = lost_told ends.0 ends.1

  -- what ends with a status and a text that the command may end with
  pub puts_told : (Ended : Status → List ℕ → Type 0) (Fronts : List ℕ → Type 0) →
      ((ended : Status) (text : List ℕ) → Ended ended text → Does ended text) → ((front : List ℕ) → Fronts front → Left front) →
      Puts Ended Fronts before now SinkRose result → Told Does Left before now LibraryRose SinkRose result
  puts_told Ended Fronts does left is = record { reports = puts Does Left before now LibraryRose SinkRose Ended Fronts result does left is }

-- From what a command does and may leave to what another one does and may leave, where the library's count may have risen for more causes.
module _ (Does Other : Status → List ℕ → Type 0) (Left Fronts : List ℕ → Type 0) (before now : Option (List ℕ)) (Less More SinkRose : Type 0) where
  cut_to : (front : List ℕ) → ((ended : Status) (text : List ℕ) → Does ended text → Other ended text) → (Less → More) → IsCutShort Does Less front →
      IsCutShort Other More front
  cut_to front does more cut = record { whole = cut.whole; is = cut.is; of = of cut.of }
    where
      of : (Less × (cut.whole ≡ library_fault)) ⊎ ((ended : Status) × Does ended cut.whole) →
          (More × (cut.whole ≡ library_fault)) ⊎ ((ended : Status) × Other ended cut.whole)
      of (inl fault) = inl (more fault.0, fault.1)
      of (inr done) = inr (done.0, does done.0 cut.whole done.1)

  reports_to : (result : Status) → ((ended : Status) (text : List ℕ) → Does ended text → Other ended text) → ((front : List ℕ) → Left front → Fronts front) →
      (Less → More) → Reports Does Left before now Less SinkRose result → Reports Other Fronts before now More SinkRose result
  reports_to status.Done does left more is = (is.0, does status.Done is.0 is.1, is.2)
  reports_to status.Refuted does left more is = (is.0, does status.Refuted is.0 is.1, is.2)
  reports_to status.Refused does left more is = (is.0, does status.Refused is.0 is.1, is.2)
  reports_to status.Undecided does left more is = (is.0, does status.Undecided is.0 is.1, is.2)
  reports_to status.Fault does left more (inl fault) = inl (more fault.0, fault.1)
  reports_to status.Fault does left more (inr fault) = inr (fault.0, fault.1, front fault.2, fault.3)
    where
      front : IsCutShort Does Less fault.1 ⊎ Left fault.1 → IsCutShort Other More fault.1 ⊎ Fronts fault.1
      front (inl cut) = inl (cut_to fault.1 does more cut)
      front (inr leaves) = inr (left fault.1 leaves)
  reports_to status.NoMemory does left more (inl same) = inl same
  reports_to status.NoMemory does left more (inr is) = inr (is.0, left is.0 is.1, is.2)

  pub told_to : (result : Status) → ((ended : Status) (text : List ℕ) → Does ended text → Other ended text) → ((front : List ℕ) → Left front → Fronts front) →
      (Less → More) → Told Does Left before now Less SinkRose result → Told Other Fronts before now More SinkRose result
  told_to result does left more told = record { reports = reports_to result does left more told.reports }

-- the same where the library's count may have risen for more causes
pub more_told : (Does : Status → List ℕ → Type 0) (Left : List ℕ → Type 0) (before now : Option (List ℕ)) (Less More SinkRose : Type 0) (result : Status) →
    (Less → More) → Told Does Left before now Less SinkRose result → Told Does Left before now More SinkRose result
more_told Does Left before now Less More SinkRose result more told =
    told_to Does Does Left Left before now Less More SinkRose result (λ ended text does. does) (λ front leaves. leaves) more told
