-- What reading a file gives.
use Rattle.std.specs.Prelude.{ℕ, ◌≤◌, List, length, None}
use Rattle.ygg_base.specs.declared.outside.Piece.{Piece}
use Rattle.ygg_base.specs.declared.outside.Piece.TheVariants as piece
use Rattle.ygg_base.specs.Outside.{Reading, IsNext}
use Rattle.ygg_outside.specs.declared.library.Contents.{Contents}
use Rattle.ygg_outside.specs.declared.library.Contents.TheVariants.{Text, Absent, TooLarge, Failed, Memory}
use Rattle.ygg_outside.specs.declared.library.OpenFile.{OpenFile}

-- a text that was read has at most so many bytes
abbrev pub IsContentsWithin : ℕ → Contents → Type 0
IsContentsWithin limit (Text text) = length text ≤ limit
IsContentsWithin limit Absent = Unit {0}
IsContentsWithin limit TooLarge = Unit {0}
IsContentsWithin limit (Failed failure) = Unit {0}
IsContentsWithin limit Memory = Unit {0}

-- a file that may give so many bytes still, which aren't told
abbrev pub untold : ℕ → Reading
untold room = record { rest = None; room = room }

-- a piece of a file that may give so many bytes still, in front of a slice
abbrev pub IsPieceWithin : ℕ → Piece → List ℕ → Type 0
IsPieceWithin room (piece.Got count) bytes = IsNext (untold room) count bytes
IsPieceWithin room piece.End bytes = Unit {0}
IsPieceWithin room piece.Failed bytes = Unit {0}

-- what is open, where a file is being read
abbrev pub reading_at : OpenFile → Reading
reading_at o = untold o.room
