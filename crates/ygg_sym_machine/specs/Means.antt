-- What a disk over terms is as the machine on which a block runs.
use Rattle.std.specs.Prelude.{false, IsTrue, List}
use Rattle.ygg_syntax.specs.declared.grammar.BlockKind.TheVariants.{Impl}
use Rattle.ygg_sym_runs.specs.ygg_type_rules.TypeErrors.{none}
use Rattle.ygg_sym_runs.specs.ygg_type_rules.Files.{disk_errors, disk_operations}
use Rattle.ygg_sym_runs.specs.ygg_meaning.Environments.{Env}
use Rattle.ygg_sym_runs.specs.ygg_meaning.Machine.{State}
use Rattle.ygg_sym_runs.specs.ygg_meaning.Stack.{tables_of}
use Rattle.ygg_sym_runs.specs.ygg_meaning_laws.RunPlaces.{disk_space}
use Rattle.ygg_sym_runs.specs.ygg_shape_cells.declared.terms.SymValue.{SymValue}
use Rattle.ygg_sym_runs.specs.Lower.{SymMeaning}
use Rattle.ygg_sym_runs.specs.Disks.{sym_disk}
use Rattle.ygg_sym_runs.specs.Laws.{picked_by}
use Rattle.ygg_sym_runs.proofs.Disks.{disk_at}
use Rattle.ygg_sym_runs.proofs.Lows.{low_of}
use Rattle.ygg_sym_machine.specs.declared.lower.SymDisk.{SymDisk}

-- a disk without type errors in the file's text, with inputs as picks from a number on, by place
abbrev pub disk_meaning : SymDisk → SymMeaning (List SymValue)
disk_meaning m = record {
  Worth = State Env;
  low = low_of (tables_of m.disk);
  kind = Impl;
  lower = disk_operations m.disk;
  machine = λ kinds. sym_disk kinds m.disk.kind m.first;
  space = disk_space;
  direct = λ inputs v i q z. disk_at false m.disk (picked_by inputs m.first) i q z;
  Serves = IsTrue (none (disk_errors m.disk));
  first = m.first;
}
