-- From what is told of a command to what is told of one that uses a device.
use Rattle.std.proofs.Common.{◌⊎◌, ℕ, List, Option, inl, inr}
use Rattle.ygg_base.specs.declared.status.Status.{Status}
use Rattle.ygg_top_command.specs.Reports.{Told}
use Rattle.ygg_top_command.proofs.Telling.{told_to}
use Rattle.ygg_top_command.specs.Breaking.{IsBroken, ToldOn}

module _ (before now : Option (List ℕ)) (LibraryRose DeviceRose SinkRose : Type 0) (result : Status) where
  -- a command that uses no device
  pub told_on : (Does : Status → List ℕ → Type 0) (Left Whole : List ℕ → Type 0) → Told Does Left before now LibraryRose SinkRose result →
      ToldOn Does Left Whole before now LibraryRose DeviceRose SinkRose result
  told_on Does Left Whole told = record { told = inl told }

  -- from what a command does, may leave and has put by the time when a device fails, to what another one does
  pub told_on_to : (Does Other : Status → List ℕ → Type 0) (Left Fronts Whole Lines : List ℕ → Type 0) →
      ((ended : Status) (text : List ℕ) → Does ended text → Other ended text) → ((front : List ℕ) → Left front → Fronts front) →
      ((lines : List ℕ) → Whole lines → Lines lines) → ToldOn Does Left Whole before now LibraryRose DeviceRose SinkRose result →
      ToldOn Other Fronts Lines before now LibraryRose DeviceRose SinkRose result
  told_on_to Does Other Left Fronts Whole Lines does left whole is = record { told = to is.told }
    where
      to : Told Does Left before now LibraryRose SinkRose result ⊎ IsBroken Whole before now DeviceRose SinkRose result →
          Told Other Fronts before now LibraryRose SinkRose result ⊎ IsBroken Lines before now DeviceRose SinkRose result
      to (inl told) =
          inl (told_to Does Other Left Fronts before now LibraryRose LibraryRose SinkRose result does left (λ rose. rose) told)
      to (inr b) = inr (record { rose = b.rose; lines = b.lines; whole = whole b.lines b.whole; puts = b.puts })
