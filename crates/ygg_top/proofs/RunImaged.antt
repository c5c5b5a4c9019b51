-- From how a run on an image ends to what is told of the command.
use Rattle.std.proofs.Common.{◌≡◌, ◌⊎◌, ℕ, List, [], Option, Some, None, Err, inl, inr, refl, ap, ◌∙◌}
use Rattle.ygg_base.specs.declared.failure.Refusal.{Refusal}
use Rattle.ygg_base.specs.declared.reason.Reason.TheVariants as reason
use Rattle.ygg_base.specs.Reason.{refusal_at}
use Rattle.ygg_base.specs.declared.status.Status.{Status}
use Rattle.ygg_base.specs.declared.status.Status.TheVariants.{Fault, NoMemory}
use Rattle.ygg_run_mounted.specs.ygg_base.Devices.{Image}
use Rattle.ygg_syntax.specs.declared.tree.File.{File}
use Rattle.ygg_top_command.specs.ygg_report.Putting.{Adds, IsPutSo}
use Rattle.ygg_run_mounted.specs.ygg_script.declared.command.Command.{Command}
use Rattle.ygg_run_mounted.specs.ygg_run_commands.declared.halting.RunHalted.{RunHalted}
use Rattle.ygg_run_mounted.specs.ygg_run_commands.declared.halting.RunHalted.TheVariants as halted
use Rattle.ygg_run_mounted.specs.ygg_run_image.declared.unmounted.Unmounted.TheVariants as unmounted
use Rattle.ygg_run_mounted.specs.Ending.{HaltsBy, IsGivenUp, IsNotMounted, RunsTo}
use Rattle.ygg_run_mounted.specs.declared.run_end.RunEnd.TheVariants as run_end
use Rattle.ygg_run_mounted.specs.Extending.{HasRun}
use Rattle.ygg_run_mounted.proofs.Ends.{risen}
use Rattle.ygg_run_mounted.proofs.Texts.{adds_none}
use Rattle.ygg_top_command.specs.declared.stopping.CommandStop.TheVariants.{Refused}
use Rattle.ygg_top_command.specs.Reports.{EndsBy}
use Rattle.ygg_top_command.proofs.Telling.{stop_told}
use Rattle.ygg_top_command.specs.Breaking.{ToldOn, device_fault}
use Rattle.ygg_top.specs.Images.{BrokenBy, LeftBy, RefusesImage, RunsImage}
use Rattle.ygg_top.proofs.Ending.{ends_since, put_behind}

module _ (f : File) (image : List ℕ) (before now : Option (List Image)) (script : List Command) (taken middle : Option (List ℕ))
    (AnyDevice AnySink : Type 0) where
  -- an image that is refused for a reason
  pub refused_as : (number : ℕ) (r : Refusal) → r ≡ record { number = number; line = 0; column = 3 } →
      RunsTo f script image before now taken middle AnyDevice AnySink (run_end.Refused number) → RefusesImage f image before now r × (middle ≡ taken)
  refused_as number r is (why, same, (mounts, none)) =
      (inr (why, is ∙ ap (λ (n : ℕ). record { number = n; line = 0; column = 3 }) same, mounts), none)

  -- one that isn't there
  pub absent_as : (r : Refusal) → r ≡ refusal_at reason.Absent 0 3 → RunsTo f script image before now taken middle AnyDevice AnySink run_end.Absent →
      RefusesImage f image before now r × (middle ≡ taken)
  absent_as r is (mounts, none) = (inl (is, mounts), none)

module _ (f : File) (image : List ℕ) (before now : Option (List Image)) (script : List Command) (taken middle last : Option (List ℕ))
    (DeviceRose Less More : Type 0) (more : Less → More) where
  -- what is told of it
  abbrev pub Tells_of : Status → Type 0
  Tells_of result =
      ToldOn (RunsImage f image before now script (HasRun f)) (LeftBy f image before now script) (BrokenBy f image before now script) taken last ⊥ DeviceRose
      More result

  -- the image is refused
  pub refused_image : (r : Refusal) (result : Status) → RefusesImage f image before now r → middle ≡ taken → EndsBy (Refused r) middle last Less result →
      Tells_of result
  refused_image r result refuses same ends = record {
    told = inl (stop_told (RunsImage f image before now script (HasRun f)) (LeftBy f image before now script) taken last ⊥ More result (Refused r)
        (inl (r, refuses, (refl, refl))) (ends_since (Refused r) taken middle last Less More result more same ends));
  }

  -- why it was given up isn't said once more
  given_up : (AnyDevice AnySink : Type 0) (why : RunHalted) (text : List ℕ) → IsGivenUp f script image before now AnyDevice AnySink why text →
      IsGivenUp f script image before now (Unit {0}) (Unit {0}) why text
  given_up AnyDevice AnySink why text x = record {
    images = x.images;
    mounts = x.mounts;
    run = risen _ f script _ _ (Some []) (Some text) AnyDevice AnySink (Unit {0}) (Unit {0}) (λ rose. tt) (λ rose. tt) why x.run;
    stays = x.stays;
  }

  -- the device failed
  pub broken_image : (AnyDevice AnySink : Type 0) (result : Status) → DeviceRose →
      IsNotMounted f script image before now taken middle AnyDevice AnySink unmounted.DeviceFailed
      ⊎ HaltsBy f script image before now taken middle AnyDevice AnySink halted.DeviceFailed → IsPutSo middle last device_fault Fault Less result →
      Tells_of result
  broken_image AnyDevice AnySink result rose (inl (mounts, same)) put = record {
    told = inr (record {
      rose = rose;
      lines = [];
      whole = inl (refl, mounts);
      puts = put_behind taken middle last [] device_fault Fault Less More result more (adds_none taken middle same) put;
    });
  }
  broken_image AnyDevice AnySink result rose (inr (text, adds, x)) put = record {
    told = inr (record {
      rose = rose;
      lines = text;
      whole = inr (given_up AnyDevice AnySink halted.DeviceFailed text x);
      puts = put_behind taken middle last text device_fault Fault Less More result more adds put;
    });
  }

module _ (f : File) (image : List ℕ) (before now : Option (List Image)) (script : List Command) (taken last : Option (List ℕ))
    (DeviceRose SinkRose AnyDevice AnySink : Type 0) where
  -- the sink failed
  pub failed_image : SinkRose → HaltsBy f script image before now taken last AnyDevice AnySink halted.SinkFailed →
      ToldOn (RunsImage f image before now script (HasRun f)) (LeftBy f image before now script) (BrokenBy f image before now script) taken last ⊥ DeviceRose
      SinkRose Fault
  failed_image rose (text, adds, x) = record {
    told = inl (record {
      reports = inr (
        rose,
        text,
        inr (inl (given_up f image before now script taken taken last DeviceRose SinkRose SinkRose (λ y. y) AnyDevice AnySink
            halted.SinkFailed text x)),
        adds,
      );
    });
  }

  -- no memory was left
  pub starved_image : IsNotMounted f script image before now taken last AnyDevice AnySink unmounted.Memory
      ⊎ HaltsBy f script image before now taken last AnyDevice AnySink halted.Memory →
      ToldOn (RunsImage f image before now script (HasRun f)) (LeftBy f image before now script) (BrokenBy f image before now script) taken last ⊥ DeviceRose
      SinkRose NoMemory
  starved_image (inl (mounts, same)) = record { told = inl (record { reports = inl same }) }
  starved_image (inr (text, adds, x)) = record {
    told = inl (record {
      reports = inr (
        text,
        inr (given_up f image before now script taken taken last DeviceRose SinkRose SinkRose (λ y. y) AnyDevice AnySink halted.Memory
            text x),
        adds,
      );
    });
  }
