-- The texts of the example files and of the files that are made.
use Rattle.std.specs.Prelude.{ℕ, zero, suc, List, [], ◌∷◌, ◌++◌, codes, slice_get, Option, None}
use Rattle.std.specs.Fmt.{decimal}
use Rattle.ygg_yard.specs.declared.texts.TheConstants.{FLAG, PAIR, LAZY, TWIN, ENDS, BOOTS, MOVER, MIXER}

-- the examples in order
abbrev pub examples : List (List ℕ)
examples = FLAG.now ∷ PAIR.now ∷ LAZY.now ∷ TWIN.now ∷ ENDS.now ∷ BOOTS.now ∷ MOVER.now ∷ MIXER.now ∷ []

-- the example of a number, counted from 1, if there is one
abbrev pub example_of : ℕ → Option (List ℕ)
example_of zero = None
example_of (suc before) = slice_get examples before

-- a file up to its operations, where the decimal number of them has these digits
abbrev pub begun_with : List ℕ → List ℕ
begun_with digits =
    codes "yggdrasil 1;\ndisk sync " ++ digits ++ codes " of 1 of 8;\nlayer cells {\n  state t : table " ++ digits ++ codes " of 1 of 8;\n"

-- an operation whose decimal number has these digits: it writes the row with its number
abbrev pub operation_with : List ℕ → List ℕ
operation_with digits =
    codes "  op put_" ++ digits ++ codes "(v : word 8) spec {\n    t[" ++ digits ++ codes ":8] = row(v);\n  } impl {\n    call write("
    ++ digits ++ codes ":8, row(v));\n  }\n"

-- the operations of the numbers below this one, in order
abbrev pub operations_text : ℕ → List ℕ
operations_text zero = []
operations_text (suc number) = operations_text number ++ operation_with (decimal number)

-- the rest of a file after its operations
abbrev pub file_ended : List ℕ
file_ended = codes "  relate (low.view == t);\n}\n"

-- the file with so many operations
abbrev pub made : ℕ → List ℕ
made count = begun_with (decimal count) ++ operations_text count ++ file_ended
