-- The text of a certificate: for each of its logs the name of what the log shows, the number of clauses that it begins with, and its steps.
use Rattle.std.specs.Prelude.{ℕ, List, ◌++◌, length, codes}
use Rattle.std.specs.List.{flat_map}
use Rattle.std.specs.Fmt.{decimal}
use Rattle.ygg_cnf.specs.Lines.{step_line}
use Rattle.ygg_cert.specs.declared.item.Goal.{Goal}
use Rattle.ygg_cert.specs.declared.item.Item.{Item}

-- the first line
abbrev pub first_line : List ℕ
first_line = codes "ygg-cert 1\n"

-- the line before a log, with its name and the number of clauses that it begins with
abbrev pub opening_line : List ℕ → ℕ → List ℕ
opening_line name clauses = codes "o " ++ name ++ codes " " ++ decimal clauses ++ codes "\n"

-- the line before the log of a goal
abbrev pub goal_line : Goal → List ℕ
goal_line g = opening_line g.name (length g.clauses)

-- the line after a log
abbrev pub closing_line : List ℕ
closing_line = codes "e\n"

-- the last line
abbrev pub last_line : List ℕ
last_line = codes "end\n"

-- the lines of a log
abbrev pub item_text : Item → List ℕ
item_text i = opening_line i.name i.clauses ++ flat_map step_line i.log ++ closing_line

-- the certificate of logs
abbrev pub certificate_of : List Item → List ℕ
certificate_of items = first_line ++ flat_map item_text items ++ last_line
