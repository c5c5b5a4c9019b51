-- The exit statuses.
use Rattle.std.specs.Prelude.{ℕ}
use Rattle.ygg_base.specs.declared.status.Status.{Status}
use Rattle.ygg_base.specs.declared.status.Status.TheVariants.{Done, Refuted, Refused, Undecided, Fault, NoMemory}

-- the exit status of a process that ends so
abbrev pub number_of : Status → ℕ
number_of Done = 0
number_of Refuted = 1
number_of Refused = 2
number_of Undecided = 3
number_of Fault = 4
number_of NoMemory = 5
