-- Which inputs an obligation has, in code.
use Rattle.ygg_oblige_laws.specs.Numbers.{Numbers}
use Rattle.ygg_oblige_list.specs.declared.numbers.SymNumbers.{SymNumbers}

-- the numbers that these are
abbrev pub numbers_in : SymNumbers → Numbers
numbers_in n = record { args = n.args; run = n.run; stop = n.stop; last = n.last; wake = n.wake; other = n.other; next = n.next }
