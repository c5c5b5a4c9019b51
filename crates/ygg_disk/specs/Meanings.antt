-- What the disks in memory mean. None has faults, all can lose power, and a call that finds no memory leaves them as before.
use Rattle.std.specs.Prelude.{◌≡◌, true, Some, None}
use Rattle.ygg_base.specs.declared.geometry.DiskKind.{DiskKind}
use Rattle.ygg_disk.specs.Kinds.{model_of}
use Rattle.ygg_disk.specs.Ground.{Meaning}
use Rattle.ygg_disk.specs.Size.{row_shape}
use Rattle.ygg_disk.specs.Marked.{MarkedCache, marked_calls, marked_falls, marked_loses}

-- a disk of a kind, which tells its state
abbrev pub disk_meaning : (kind : DiskKind) → Meaning (model_of kind).State
disk_meaning kind = record {
  told = λ d. Some (record { kind = kind; state = d });
  row = λ d. row_shape ((model_of kind).view d);
  faults = λ d. 0;
  can_lose = true;
  follows = true;
  Calls = (model_of kind).Calls;
  Falls = (model_of kind).Falls;
  Loses = λ d d'. d' ≡ (model_of kind).lost d;
  Breaks = λ d call d'. d' ≡ d;
}

-- the disk with a write-back cache, which tells no state: its steps are those of the cache, with their marks
abbrev pub pending_meaning : Meaning MarkedCache
pending_meaning = record {
  told = λ m. None;
  row = λ m. row_shape m.stable;
  faults = λ m. 0;
  can_lose = true;
  follows = true;
  Calls = marked_calls;
  Falls = marked_falls;
  Loses = marked_loses;
  Breaks = λ m call m'. m' ≡ m;
}
