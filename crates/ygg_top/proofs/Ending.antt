-- What is told of the end of a command on a device.
use Rattle.std.proofs.Common.{◌≡◌, ◌⊎◌, ℕ, List, ◌++◌, Option, Some, None, inl, inr, refl, sym, ap, ◌∙◌, subst, append_assoc}
use Rattle.ygg_base.specs.declared.status.Status.{Status}
use Rattle.ygg_base.specs.declared.status.Status.TheVariants.{Fault}
use Rattle.ygg_top_command.specs.ygg_report.Putting.{Adds, IsFront, IsPutSo}
use Rattle.ygg_top_command.specs.declared.stopping.CommandStop.{CommandStop}
use Rattle.ygg_top_command.specs.declared.stopping.CommandStop.TheVariants.{Refused, LibraryFailed, NoMemory}
use Rattle.ygg_top_command.specs.Reports.{EndsBy, Told}
use Rattle.ygg_top_command.proofs.Telling.{more_told}
use Rattle.ygg_top_command.specs.Breaking.{IsBroken, ToldOn}

-- one text and then another
adds_both : (before middle now : Option (List ℕ)) (a b : List ℕ) → Adds before a middle → Adds middle b now → Adds before (a ++ b) now
adds_both None middle now a b x y = tt
adds_both (Some taken) middle now a b x y =
    subst (λ (o : Option (List ℕ)). Adds o b now) x y ∙ ap (λ (l : List ℕ). Some l) (append_assoc taken a b)

-- a front of what comes behind a text
front_behind : (a front b : List ℕ) → IsFront front b → IsFront (a ++ front) (a ++ b)
front_behind a front b x = record { rest = x.rest; is = ap (λ (l : List ℕ). a ++ l) x.is ∙ sym (append_assoc a front x.rest) }

-- a text that is put behind another
pub put_behind : (before middle now : Option (List ℕ)) (a b : List ℕ) (status : Status) (Less More : Type 0) (result : Status) → (Less → More) →
    Adds before a middle → IsPutSo middle now b status Less result → IsPutSo before now (a ++ b) status More result
put_behind before middle now a b status Less More result more first (inl (is, adds)) = inl (is, adds_both before middle now a b first adds)
put_behind before middle now a b status Less More result more first (inr (is, rose, front, cut, adds)) =
    inr (is, more rose, a ++ front, front_behind a front b cut, adds_both before middle now a front first adds)

-- a text that is put where the sink's count may have risen for more causes
put_more : (before now : Option (List ℕ)) (text : List ℕ) (status : Status) (Less More : Type 0) (result : Status) → (Less → More) →
    IsPutSo before now text status Less result → IsPutSo before now text status More result
put_more before now text status Less More result more (inl put) = inl put
put_more before now text status Less More result more (inr (is, rose, front, cut, adds)) = inr (is, more rose, front, cut, adds)

-- a command that stops where nothing was put before
pub ends_since : (stop : CommandStop) (before middle now : Option (List ℕ)) (Less More : Type 0) (result : Status) → (Less → More) → middle ≡ before →
    EndsBy stop middle now Less result → EndsBy stop before now More result
ends_since stop before middle now Less More result more same ends =
    rises stop (subst (λ (o : Option (List ℕ)). EndsBy stop o now Less result) same ends)
  where
    rises : (s : CommandStop) → EndsBy s before now Less result → EndsBy s before now More result
    rises (Refused r) (inl put) = inl (put_more before now _ _ Less More result more put)
    rises (Refused r) (inr lost) = inr lost
    rises LibraryFailed put = put_more before now _ _ Less More result more put
    rises NoMemory lost = lost

-- the same of a command on a device where the library's count may have risen for more causes
pub more_on : (Does : Status → List ℕ → Type 0) (Left Whole : List ℕ → Type 0) (before now : Option (List ℕ)) (Less More DeviceRose SinkRose : Type 0)
    (result : Status) → (Less → More) → ToldOn Does Left Whole before now Less DeviceRose SinkRose result →
    ToldOn Does Left Whole before now More DeviceRose SinkRose result
more_on Does Left Whole before now Less More DeviceRose SinkRose result more is = record { told = to is.told }
  where
    to : Told Does Left before now Less SinkRose result ⊎ IsBroken Whole before now DeviceRose SinkRose result →
        Told Does Left before now More SinkRose result ⊎ IsBroken Whole before now DeviceRose SinkRose result
    to (inl told) = inl (more_told Does Left before now Less More SinkRose result more told)
    to (inr broken) = inr broken
